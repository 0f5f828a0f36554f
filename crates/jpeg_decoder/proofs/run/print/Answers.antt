use Rattle.std.proofs.Common.{◌≡◌, ◌∙◌, ◌++◌, ap, sym, subst, rules, append-nil, inr, List, [], ℕ}
use Rattle.std.proofs.Common.{Option, Some, Result, Ok, Err, string_bytes, option_map, OnErr, OnOk}
use Rattle.std.specs.Io.KnownBytes.{Appends}
use Rattle.std.specs.List.{concat}
use Rattle.std.proofs.lemmas.Result.{err_from_is_err_and}
use Rattle.jpeg_bits.specs.declared.error.Error.{Error}
use Rattle.jpeg_meaning.specs.Output.{header_line_of, output_of, TakesBeginning, Tells, default_settings}
use Rattle.jpeg_meaning.specs.Pixels.{info_by, info_of}
use Rattle.jpeg_meaning.specs.declared.settings.Settings.{Settings}
use Rattle.jpeg_meaning.specs.Stream.{told_of}
use Rattle.jpeg_meaning.proofs.Refusals.{outside-decode, named-decode, output-some}
use Rattle.jpeg_meaning.proofs.Pictures.PrintedImages.{prints-images}
use Rattle.jpeg_decoder.specs.Begun.{begun}
use Rattle.jpeg_decoder.proofs.Callers.{bytes_are_known, known_bytes_are_told}
use Rattle.jpeg_decoder.proofs.Pictures.WrittenLines.{none-taken, outside-named, outside-own}
use Rattle.jpeg_decoder.proofs.run.print.Given.{Over}
use Rattle.jpeg_decoder.proofs.run.print.Goals as goal

-- ---- the stream was refused

pub returns-in_err-lines-clause-refused : goal.returns-in_err-lines-clause-refused
returns-in_err-lines-clause-refused g c remaining is bytes tells some =
    let p = err_from_is_err_and c.from_residual.result c.from_residual.ensures.1 in
    let reads = rw is at c.in_err-lines.ensures.decodes.reads in
    let known = bytes_are_known remaining bytes tells in
    let same = known_bytes_are_told remaining bytes tells in
    let here = reads tt in
    rw (p.1, p.2) (outside-decode c.decode_lines.new.self.source.known _ _ bytes (λ k. rw same at here.1 known k)
    (λ k. here.2 known k) some)

pub returns-in_err-lines-clause-named : goal.returns-in_err-lines-clause-named
returns-in_err-lines-clause-named g c remaining is bytes tells =
    let p = err_from_is_err_and c.from_residual.result c.from_residual.ensures.1 in
    let reads = rw is at c.in_err-lines.ensures.decodes.reads in
    let known = bytes_are_known remaining bytes tells in
    let same = known_bytes_are_told remaining bytes tells in
    let here = reads tt in
    rw (p.1, p.2) (named-decode c.decode_lines.new.self.source.known c.decode_lines.new.self.source.failed _ bytes
    (λ k. rw same at here.1 known k) (λ k. here.2 known k))

pub returns-in_err-lines-clause-images : goal.returns-in_err-lines-clause-images
returns-in_err-lines-clause-images g c remaining is =
    let p = err_from_is_err_and c.from_residual.result c.from_residual.ensures.1 in
    prints-images remaining _ _ _ (λ bytes tells. rw p.1 tt)
    (λ bytes tells text e. none-taken (g.W.Write.contents c.args.writer.now) text)
    (λ bytes tells some. returns-in_err-lines-clause-refused g c remaining is bytes tells some)

-- ---- there was no memory for the header line

pub returns-in_err-line-clause-refused : goal.returns-in_err-line-clause-refused
returns-in_err-line-clause-refused g c remaining is bytes tells some =
    let p = err_from_is_err_and c.from_residual-in_err-line.result c.from_residual-in_err-line.ensures.1 in
    rw (p.1, p.2) tt

pub returns-in_err-line-clause-named : goal.returns-in_err-line-clause-named
returns-in_err-line-clause-named g c remaining is bytes tells =
    let p = err_from_is_err_and c.from_residual-in_err-line.result c.from_residual-in_err-line.ensures.1 in
    rw (p.1, p.2) (inr tt)

pub returns-in_err-line-clause-images : goal.returns-in_err-line-clause-images
returns-in_err-line-clause-images g c remaining is =
    let p = err_from_is_err_and c.from_residual-in_err-line.result c.from_residual-in_err-line.ensures.1 in
    prints-images remaining _ _ _ (λ bytes tells. rw p.1 tt)
    (λ bytes tells text e. none-taken (g.W.Write.contents c.args.writer.now) text)
    (λ bytes tells some. returns-in_err-line-clause-refused g c remaining is bytes tells some)

-- ---- the picture is written

-- what is to be written
printed : (g : Over) (c : goal.Joined-lines-6 g) (remaining : Option (List ℕ))
    → c.args.decoder.now ≡ begun remaining → (bytes : List ℕ) → Tells remaining bytes
    → output_of bytes ≡ Some (string_bytes c.in_ok-line.line ++ concat c.in_ok-lines.lines)
printed g c remaining is bytes tells =
    let reads = rw is at c.in_ok-lines.ensures.decodes.reads in
    let known = bytes_are_known remaining bytes tells in
    let same = known_bytes_are_told remaining bytes tells in
    let here = reads tt in
    let all = rw same at (here.1 known).1 in
    let plain : c.decode_lines.new.self.settings ≡ default_settings =
    c.in_ok-lines.ensures.settings ∙ ap (λ d. d.settings) is in
    let text : string_bytes c.in_ok-line.line ≡ header_line_of (option_map info_of c.decode_lines.new.self.found.said.frame) =
    c.in_ok-line.ensures ∙ ap header_line_of (c.info.ensures
    ∙ ap (λ (s : Settings). option_map (info_by s) c.decode_lines.new.self.found.said.frame) plain) in
    output-some bytes c.decode_lines.new.self.source.bytes (told_of c.decode_lines.new.self.found.said) (concat c.in_ok-lines.lines) all
    ∙ ap (λ xs. Some (xs ++ concat c.in_ok-lines.lines)) (sym text)

pub returns-clause-ok : goal.returns-clause-ok
returns-clause-ok g c remaining is bytes tells = let printed = printed g c remaining is bytes tells in search rules

pub returns-clause-none : goal.returns-clause-none
returns-clause-none g c remaining is bytes tells = let printed = printed g c remaining is bytes tells in search rules

begins : {X : Type 0} (r : Result X Error) (old new : Option (List ℕ)) (text : List ℕ) → OnOk r (Appends old new text)
    → OnErr r (TakesBeginning old new text) → TakesBeginning old new text
begins (Ok x) old new text ok err = (text, [], sym (append-nil text), ok)
begins (Err e) old new text ok err = err

pub returns-clause-beginning : goal.returns-clause-beginning
returns-clause-beginning g c remaining is bytes tells text e =
    let printed = printed g c remaining is bytes tells in
    let same : string_bytes c.in_ok-line.line ++ concat c.in_ok-lines.lines ≡ text = cc in
    let given : c.as_bytes.result.now ++ concat c.in_ok-lines.lines ≡ string_bytes c.in_ok-line.line
    ++ concat c.in_ok-lines.lines = search rules in
    subst (λ (t : List ℕ). TakesBeginning (g.W.Write.contents c.args.writer.now)
    (g.W.Write.contents c.write_lines.new.writer) t) (given ∙ same)
    (begins c.write_lines.result _ _ _ c.write_lines.ensures.ok c.write_lines.ensures.err)

pub returns-clause-refused : goal.returns-clause-refused
returns-clause-refused g c remaining is bytes tells some = c.write_lines.ensures.outside

pub returns-clause-images : goal.returns-clause-images
returns-clause-images g c remaining is =
    prints-images remaining _ _ _ (λ bytes tells. returns-clause-ok g c remaining is bytes tells)
    (λ bytes tells. returns-clause-beginning g c remaining is bytes tells)
    (λ bytes tells some. returns-clause-refused g c remaining is bytes tells some)

pub returns-clause-named : goal.returns-clause-named
returns-clause-named g c remaining is bytes tells = outside-named bytes c.write_lines.result c.write_lines.ensures.outside

pub returns-clause-own : goal.returns-clause-own
returns-clause-own g c remaining is = outside-own c.write_lines.result c.write_lines.ensures.outside
