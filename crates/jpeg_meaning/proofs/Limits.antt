-- A limit of blocks: within it a stream means what it means without; above it, it is refused; and
-- never more blocks are decoded.
use Rattle.std.proofs.Common.{rules, ◌≡◌, ◌≤◌, ◌<◌, ℕ, zero, suc, Bool, false, nat_lt, List}
use Rattle.std.proofs.Common.{Option, Some, None, Err, Result, refl, arith}
use Rattle.jpeg_bits.specs.Reading.{Fault, Malformed}
use Rattle.jpeg_bits.specs.declared.marker.Marker.{Marker}
use Rattle.jpeg_meaning.specs.declared.before.Before.{Before}
use Rattle.jpeg_bits.specs.declared.beyond.Beyond.{Beyond}
use Rattle.jpeg_meaning.specs.Found.{Found}
use Rattle.jpeg_meaning.specs.Limits.{IsWithinLimit, work_of, work_of_rest, work_of_walk, work_within}
use Rattle.jpeg_bits.specs.declared.beyond.Beyond.TheVariants.{Zeros}
use Rattle.jpeg_meaning.specs.declared.settings.Settings.{Settings}
use Rattle.jpeg_meaning.specs.Stream.{meaning, meaning_within, rest_at, rest_within, segments_at}
use Rattle.jpeg_meaning.specs.Stream.{walk, rest_showing, meaning_showing}
use Rattle.jpeg_meaning.specs.FoundPictures.{picture_of}

-- Never more blocks are decoded than are left.
pub decoded-most : (left : ℕ) (beyond : Beyond) (turns : ℕ) (header : Bool) (before : Before) (found : Found)
    (met : Option Marker) (bytes : List ℕ)
    → work_within (Some left) beyond turns header before found met bytes ≤ left
unfolding work_within
decoded-most left beyond zero header before found met bytes = omega arith
decoded-most left beyond (suc turns) header before found met bytes =
    search (rules, arith, λ (k : ℕ). decoded-most k beyond turns)

-- Within the limit all is as without one.
pub within-same : (left : ℕ) (beyond : Beyond) (turns : ℕ) (header : Bool) (before : Before) (found : Found)
    (met : Option Marker) (bytes : List ℕ) → work_of_walk beyond turns header before found met bytes ≤ left
    → walk (Some left) beyond turns header before found met bytes
    ≡ walk None beyond turns header before found met bytes
unfolding walk work_of_walk
within-same left beyond zero header before found met bytes h = refl
within-same left beyond (suc turns) header before found met bytes h =
    search (rules, arith, λ (k : ℕ). within-same k beyond turns)

-- Above the limit it is refused, whatever else is wrong with the stream.
pub above-refused : (left : ℕ) (beyond : Beyond) (turns : ℕ) (header : Bool) (before : Before) (found : Found)
    (met : Option Marker) (bytes : List ℕ) → left < work_of_walk beyond turns header before found met bytes
    → (walk (Some left) beyond turns header before found met bytes).rest ≡ Err Malformed
unfolding walk work_of_walk
above-refused left beyond zero header before found met bytes h = absurd (omega arith)
above-refused left beyond (suc turns) header before found met bytes h =
    search (rules, arith, λ (k : ℕ). above-refused k beyond turns)

pub limit-same : (limit : Option ℕ) (beyond : Beyond) (turns : ℕ) (header : Bool) (before : Before) (found : Found)
    (met : Option Marker) (bytes : List ℕ)
    → IsWithinLimit limit (work_of_walk beyond turns header before found met bytes)
    → walk limit beyond turns header before found met bytes ≡ walk None beyond turns header before found met bytes
limit-same None beyond turns header before found met bytes h = refl
limit-same (Some left) beyond turns header before found met bytes h =
    within-same left beyond turns header before found met bytes h

-- ---- streams

pub rest-limited : {A : Type 0} (limit : Option ℕ) (show : Found → Result A Fault) (found : Found) (bytes : List ℕ)
    → IsWithinLimit limit (work_of_rest Zeros found bytes)
    → rest_showing limit show found bytes ≡ rest_showing None show found bytes
unfolding rest_showing segments_at
rest-limited limit show found bytes h = search (rules, limit-same)

pub rest-same : (limit : Option ℕ) (settings : Settings) (found : Found) (bytes : List ℕ)
    → IsWithinLimit limit (work_of_rest Zeros found bytes)
    → rest_within limit settings found bytes ≡ rest_at settings found bytes
rest-same limit settings = rest-limited limit (picture_of settings)

pub meaning-limited : {A : Type 0} (limit : Option ℕ) (show : Found → Result A Fault) (bytes : List ℕ)
    → IsWithinLimit limit (work_of Zeros bytes)
    → meaning_showing limit show bytes ≡ meaning_showing None show bytes
unfolding meaning_showing work_of
meaning-limited limit show bytes h = search (rules, rest-limited)

pub meaning-same : (limit : Option ℕ) (settings : Settings) (bytes : List ℕ)
    → IsWithinLimit limit (work_of Zeros bytes) → meaning_within limit settings bytes ≡ meaning settings bytes
meaning-same limit settings = meaning-limited limit (picture_of settings)

-- ---- whether a scan is refused for its blocks

-- without a limit none is
pub none-exceeded : (beyond : Beyond) (turns : ℕ) (header : Bool) (before : Before) (found : Found) (met : Option Marker)
    (bytes : List ℕ) → (walk None beyond turns header before found met bytes).exceeded ≡ false
unfolding walk
none-exceeded beyond zero header before found met bytes = refl
none-exceeded beyond (suc turns) header before found met bytes = search (rules, none-exceeded beyond turns)

-- With a limit one is where all scans code more.
pub exceeded-above : (left : ℕ) (beyond : Beyond) (turns : ℕ) (header : Bool) (before : Before) (found : Found)
    (met : Option Marker) (bytes : List ℕ)
    → (walk (Some left) beyond turns header before found met bytes).exceeded
    ≡ nat_lt left (work_of_walk beyond turns header before found met bytes)
unfolding walk work_of_walk
exceeded-above left beyond zero header before found met bytes = search (rules, arith)
exceeded-above left beyond (suc turns) header before found met bytes =
    search (rules, arith, λ (k : ℕ). exceeded-above k beyond turns)
