-- The frames of headers that a writer has are those that are accepted, and none else are.
use Rattle.std.proofs.Common.{◌≡◌, inl, inr, ℕ, ◌≤◌, Ok, sym, subst, arith}
use Rattle.std.proofs.Math.Logic.{⊎_elim}
use Rattle.std.proofs.lemmas.Bool.{cases_lt}
use Rattle.jpeg_segments.specs.WrittenSegments.{FrameHeader, Header, Segment, frame_written}
use Rattle.jpeg_meaning.specs.AcceptedFrames.{HasSamples}
use Rattle.jpeg_meaning.specs.Found.{Said}
use Rattle.jpeg_meaning.specs.SaidSegments.{IsDecoded, Stands}
use Rattle.jpeg_meaning.specs.Segments.{accepted}
use Rattle.jpeg_meaning.proofs.Pictures.AcceptedSamples.{accepted-picture, accepted-samples}
use Rattle.jpeg_meaning.proofs.Pictures.LosslessSizes.{lossless-accepted}
use Rattle.jpeg_meaning.proofs.Pictures.PicturedFrames.{header-accepted}
use Rattle.jpeg_meaning.proofs.Written.ReadTurns.{IsTaken}

pub decoded-accepted : (number : ℕ) (h : FrameHeader) → IsDecoded (Header number h)
    → accepted (frame_written number h) ≡ Ok (frame_written number h)
decoded-accepted number h (inl p) = header-accepted number h p.0 p.1
decoded-accepted number h (inr p) =
    subst (λ (n : ℕ). accepted (frame_written n h) ≡ Ok (frame_written n h)) (sym p.lossless)
    (lossless-accepted h (subst (λ (n : ℕ). HasSamples n h) p.lossless p))

pub accepted-decoded : (number : ℕ) (h : FrameHeader) → number ≤ 3
    → accepted (frame_written number h) ≡ Ok (frame_written number h) → IsDecoded (Header number h)
accepted-decoded number h le ok = ⊎_elim
    (λ less. let low : number ≤ 2 = omega arith in inl (low, accepted-picture number h low ok))
    (λ more.
    let three : number ≡ 3 = omega arith in
    inr (subst (λ (n : ℕ). HasSamples n h) (sym three)
    (accepted-samples h (subst (λ (n : ℕ). accepted (frame_written n h) ≡ Ok (frame_written n h)) three ok))))
    (cases_lt number 3)

pub stands-taken : (said : Said) (s : Segment) → Stands said s → IsTaken said s
stands-taken said (Header number h) stands = (stands.0, decoded-accepted number h stands.1)
stands-taken said s stands = (stands.0, tt)
