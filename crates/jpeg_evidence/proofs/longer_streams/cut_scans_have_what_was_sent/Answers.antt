use Rattle.jpeg_evidence.proofs.Cut.SentCuts.{cut_scans_have_what_was_sent, sequential_levels}
use Rattle.jpeg_evidence.proofs.longer_streams.cut_scans_have_what_was_sent.Goals as goal

pub returns-clause-sent : goal.returns-clause-sent
returns-clause-sent c =
    λ frame restart p codings array bytes w levels before front more fits sized tables kept parts.
    let r = cut_scans_have_what_was_sent frame restart p codings array bytes w levels before front more fits sized
    tables kept parts in
    (r.holds, r.most)

pub returns-clause-sequential : goal.returns-clause-sequential
returns-clause-sequential c = sequential_levels
