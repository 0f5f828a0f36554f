-- A row of MCUs that is read of some bytes is read of the same bytes with more after them; and a source whose bytes
-- stand in memory.
use Rattle.std.proofs.Common.{◌≡◌, ℕ, List, [], ◌++◌, Bool, true, Ok, Err, Option, Result, None, Some, refl, sym, ap, subst, ◌∙◌}
use Rattle.std.specs.Prelude.{IfSome, false, is_ok}
use Rattle.std.proofs.lemmas.Bool.{false≢true}
use Rattle.std.specs.declared.alloc.Global.{Global}
use Rattle.std.specs.declared.vec.Vec.{Vec}
use Rattle.jpeg_bits.specs.Entropy.{Ahead, At, Met, Takes, Unmet, marker_from, upcoming, upcoming_by}
use Rattle.jpeg_bits.specs.GoesOn.{IsOpen}
use Rattle.jpeg_bits.specs.Reading.{Answers}
use Rattle.jpeg_bits.specs.Stream.{Stream}
use Rattle.jpeg_bits.specs.declared.error.Error.{Error}
use Rattle.jpeg_bits.specs.declared.marker.Marker.{Marker}
use Rattle.jpeg_bits.specs.Passes.{Pass, Via}
use Rattle.jpeg_bits.specs.declared.beyond.Beyond.TheVariants.{Zeros}
use Rattle.jpeg_segments.specs.Frame.{Frame}
use Rattle.jpeg_meaning.specs.Found.{Found}
use Rattle.jpeg_meaning.specs.InTurn.{Counted, blocks_from}
use Rattle.jpeg_meaning.specs.McuRows.{on_arrays}
use Rattle.jpeg_meaning.specs.Order.{Spot}
use Rattle.jpeg_meaning.specs.Scans.{Arrays}
use Rattle.jpeg_meaning.proofs.Longer.LaterBlocks.{StaysText, bind-text, blocks-text, gives-text}
use Rattle.jpeg_meaning.proofs.Longer.LaterStates.{AreZeros, reads_go_on}
use Rattle.jpeg_decoder.specs.FedRows.{HasScan, IsSettled, TakesNone, in_memory}
use Rattle.jpeg_decoder.specs.RowScans.{InScan, IsInScan, ReadsRows, rows_on}
use Rattle.jpeg_decoder.specs.Scanning.{BlockScan, counted, kept_counted, scan_vias, sizes_of}
use Rattle.jpeg_decoder.specs.Walk.{walk_of_row}
use Rattle.jpeg_meaning.specs.declared.settings.Settings.{Settings}
use Rattle.jpeg_decoder.specs.declared.by_rows.first_scan.RowScan.{RowScan}
use Rattle.jpeg_decoder.specs.declared.scan.block_array.BlockArray.{BlockArray}
use Rattle.jpeg_decoder.proofs.ByRows.GivenRows.{RowRead}

row-text : (more : List ℕ) (s : BlockScan) (n : ℕ) (spots : List Spot) (zeros : Arrays) (now : Counted)
    → now.beyond ≡ Zeros → StaysText more (RowRead s n spots zeros now)
row-text more s n spots zeros now z =
    bind-text more _ _ (blocks-text more s.pass (scan_vias s) n spots (on_arrays zeros now) z)
    (λ c. gives-text more _)

pub open-zeros : (met : Met) → IsOpen met → AreZeros met
open-zeros (Unmet beyond) h = h
open-zeros (At e) h = tt

-- The blocks of a row of MCUs, where the data go on after them.
pub row-goes-on : (more : List ℕ) (s : BlockScan) (n : ℕ) (spots : List Spot) (zeros : Arrays) (now next : Counted)
    (a b : Ahead) (before rest : List ℕ) (old new : Stream) → now.beyond ≡ Zeros → IsOpen a.met → IsOpen b.met
    → old ≡ in_memory before → (new.known ≡ true → (rest ≡ new.bytes) × IsSettled b.met new.bytes)
    → Takes (λ (u : Unit {0}). kept_counted s.keeps_ac next) (RowRead s n spots zeros now) a old (Ok tt) b new
    → Takes (λ (u : Unit {0}). kept_counted s.keeps_ac next) (RowRead s n spots zeros now) a
    (in_memory (before ++ more)) (Ok tt) b (in_memory (rest ++ more))
row-goes-on more s n spots zeros now next a b before rest old new z first still is left t =
    let known : old.known ≡ true = ap (λ (x : Stream). x.known) is in
    let q = t.1 known in
    let l = left q.0 in
    let bytes : old.bytes ≡ before = ap (λ (x : Stream). x.bytes) is in (
      refl,
      λ k. (
        refl,
        subst (λ (x : List ℕ). RowRead s n spots zeros now (upcoming a (x ++ more))
            ≡ Ok (kept_counted s.keeps_ac next, upcoming b (rest ++ more))) bytes
            (subst (λ (x : List ℕ). RowRead s n spots zeros now (upcoming a (old.bytes ++ more))
            ≡ Ok (kept_counted s.keeps_ac next, upcoming b (x ++ more))) (sym l.0)
            (reads_go_on more (RowRead s n spots zeros now) (row-text more s n spots zeros now z)
            (kept_counted s.keeps_ac next) a b old.bytes new.bytes first (open-zeros b.met still) l.1 q.1)),
      ),
    )

-- ---- where no row is read

abbrev untaken : RowScan → Vec BlockArray Global → RowScan
untaken scan blocks = record scan {
  interval = record scan.interval { refusal = None };
  giver = record scan.giver { blocks = blocks };
}

reads-untaken : (found : Found) (frame : Frame) (scan : RowScan) (blocks : Vec BlockArray Global) (mid now : Stream)
    (bytes : List ℕ) → sizes_of blocks.items ≡ sizes_of scan.giver.blocks.items
    → ReadsRows found frame scan mid now bytes → ReadsRows found frame (untaken scan blocks) mid now bytes
reads-untaken found frame scan blocks mid now bytes sizes r =
    let g = r.given in
    let is = g.ready in
    record {
      s = r.s;
      by = r.by;
      order = r.order;
      zeros = r.zeros;
      within = r.within;
      given = record {
        ready = record {
          sizes = sizes ∙ is.sizes;
          tables = is.tables;
          planes = is.planes;
          line = is.line;
          converts = is.converts;
          taken = is.taken;
          count = is.count;
          lines = is.lines;
        };
        planes = g.planes;
        ends = record { rows = g.ends.rows; are = g.ends.are };
        left = g.left;
        lines = g.lines;
      };
    }

some-untaken : (found : Found) (scan : RowScan) (blocks : Vec BlockArray Global) (mid now : Stream) (bytes : List ℕ)
    → sizes_of blocks.items ≡ sizes_of scan.giver.blocks.items → (o : Option Frame)
    → IfSome o (λ f. ReadsRows found f scan mid now bytes)
    → IfSome o (λ f. ReadsRows found f (untaken scan blocks) mid now bytes)
some-untaken found scan blocks mid now bytes sizes None h = tt
some-untaken found scan blocks mid now bytes sizes (Some f) h =
    reads-untaken found f scan blocks mid now bytes sizes h

-- The interval as it was, and other blocks, which are cleared before the next row.
pub none-taken : (found : Found) (scan : RowScan) (blocks : Vec BlockArray Global)
    → sizes_of blocks.items ≡ sizes_of scan.giver.blocks.items → TakesNone found scan (untaken scan blocks)
none-taken found scan blocks sizes = λ settings k at now bytes h. record {
  mid = h.mid;
  header = h.header;
  known = h.known;
  going = h.going;
  unread = h.unread;
  spare = h.spare;
  comes = h.comes;
  reads = some-untaken found scan blocks h.mid now bytes sizes found.said.frame h.reads;
}

-- ---- the test

-- A copy that forgets its bits takes the marker, or finds none within 57 bits.
pub settled-by : (a b : Ahead) (r : Result (Option Marker) Error) (old new : Stream) → b ≡ record a { bits = [] }
    → Answers (λ (m : Option Marker). m) (λ bytes. marker_from (upcoming b bytes)) old r new → is_ok r ≡ true
    → old.known ≡ true → IsSettled a.met old.bytes
unfolding upcoming
settled-by a b (Ok m) old new e q ok known = (
  (m, new.bytes),
  ap (λ (x : Ahead). marker_from (upcoming_by x.bits x.met old.bytes)) (sym e) ∙ (q.1 known).1,
)
settled-by a b (Err error) old new e q ok known = absurd (let n : ⊥ = cc in n)

-- ---- a source

-- A scan is one of the same bytes in memory.
pub scan-left : (settings : Settings) (k : Bool) (found : Found) (at : Stream) (scan : RowScan) (now : Stream)
    (left given : List ℕ) → (now.known ≡ true → left ≡ now.bytes) → now.failed ≡ false
    → InScan settings k found at scan now given → InScan settings k found at scan (in_memory left) given
scan-left settings k found at scan now left given same ok h = record {
  mid = h.mid;
  header = h.header;
  known = h.known;
  going = h.going;
  unread = h.unread;
  spare = h.spare;
  comes = h.comes;
  reads = some-left found.said.frame h.reads;
}
  where
    one : (frame : Frame) → ReadsRows found frame scan h.mid now given
        → ReadsRows found frame scan h.mid (in_memory left) given
    one frame r =
        let g = r.given in
        record {
          s = r.s;
          by = r.by;
          order = r.order;
          zeros = r.zeros;
          within = r.within;
          given = record {
            ready = g.ready;
            planes = g.planes;
            ends = g.ends;
            left = λ high le.
                let was = g.left high le in (
                  sym ok ∙ was.0,
                  λ known.
                      let at = was.1 known in (
                        refl,
                        at.1 ∙ ap (λ (x : List ℕ). rows_on r.s scan.order.interval (walk_of_row scan.order)
                            scan.giver.rows high g.planes (counted scan.interval []) (upcoming scan.interval.decoder x))
                            (sym (same at.0)),
                      ),
                );
            lines = g.lines;
          };
        }

    some-left : (o : Option Frame) → IfSome o (λ f. ReadsRows found f scan h.mid now given)
        → IfSome o (λ f. ReadsRows found f scan h.mid (in_memory left) given)
    some-left None r = tt
    some-left (Some f) r = one f r

-- Some stream has any bytes after the header: one of which they aren't known.
pub scan-anywhere : (settings : Settings) (found : Found) (scan : RowScan) (left other : List ℕ)
    → HasScan settings found scan left → HasScan settings found scan other
scan-anywhere settings found scan left other i =
    let h = i.is in
    record {
      k = false;
      at = i.at;
      given = i.given;
      is = record {
        mid = record h.mid { known = false };
        header = record {
          sound = h.header.sound;
          stays = h.header.stays;
          legal = h.header.legal;
          within = h.header.within;
          header = (h.header.header.0, λ e. absurd (false≢true e));
          taken = λ e. absurd (false≢true e);
        };
        known = λ e. absurd (false≢true e);
        going = h.going;
        unread = h.unread;
        spare = h.spare;
        comes = h.comes;
        reads = go found.said.frame h.reads;
      };
    }
  where
    one : (frame : Frame) → ReadsRows found frame scan i.is.mid (in_memory left) i.given
        → ReadsRows found frame scan (record i.is.mid { known = false }) (in_memory other) i.given
    one frame r =
        let g = r.given in
        record {
          s = r.s;
          by = r.by;
          order = r.order;
          zeros = r.zeros;
          within = r.within;
          given = record {
            ready = g.ready;
            planes = g.planes;
            ends = g.ends;
            left = λ high le. ((g.left high le).0, λ e. absurd (false≢true e));
            lines = g.lines;
          };
        }

    go : (o : Option Frame) → IfSome o (λ f. ReadsRows found f scan i.is.mid (in_memory left) i.given)
        → IfSome o (λ f. ReadsRows found f scan (record i.is.mid { known = false }) (in_memory other) i.given)
    go None r = tt
    go (Some f) r = one f r

pub has-scan : (settings : Settings) (found : Found) (scan : RowScan) (left : List ℕ)
    → HasScan settings found scan left → IsInScan found scan (in_memory left)
has-scan settings found scan left i = record {
  settings = settings;
  k = i.k;
  at = i.at;
  bytes = i.given;
  is = i.is;
}
