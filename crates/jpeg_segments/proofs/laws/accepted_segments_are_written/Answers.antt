use Rattle.std.proofs.Common.{ℕ, ◌++◌, sym, ap, ◌∙◌}
use Rattle.jpeg_segments.specs.WrittenSegments.{u16_bytes, with_length}
use Rattle.jpeg_segments.proofs.TableSegments.{dqt, dht}
use Rattle.jpeg_segments.proofs.OtherSegments.{dri}
use Rattle.jpeg_segments.proofs.ApplicationParts.{app-only}
use Rattle.jpeg_segments.proofs.HeaderSegments.{sof, sos}
use Rattle.jpeg_segments.proofs.laws.accepted_segments_are_written.Goals as goal

pub returns : goal.returns
returns c = record {
  quantization = λ bytes rest tables all e.
      let s = dqt.only bytes rest tables all e in (s.value, s.valid, s.made, s.is);
  huffman = λ is_baseline bytes rest tables all e.
      let s = (dht is_baseline).only bytes rest tables all e in (s.value, s.valid, s.made, s.is);
  interval = λ bytes rest n all e.
      let s = dri.only bytes rest n all e in s.is ∙ ap (λ (m : ℕ). with_length (u16_bytes m) ++
      rest) (sym s.made);
  application = app-only;
  frame = λ number bytes rest frame few all e.
      let s = (sof number few).only bytes rest frame all e in (s.value, s.valid, s.made, s.is);
  scan = λ frame bytes rest scan all e.
      let s = (sos frame).only bytes rest scan all e in (s.value, s.valid, s.made, s.is);
}
