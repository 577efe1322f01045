use Rattle.std.proofs.Common.{◌≡◌, List, ap, arith, length, subst}
use Rattle.std.specs.Prelude.{IfErr, OnErr, OnOk}
use Rattle.std.specs.Io.KnownBytes.{Appends}
use Rattle.std.proofs.lemmas.List.{length-map}
use Rattle.flow_codec.specs.Templates.{AllTemplates}
use Rattle.flow_measure.specs.History.{Accepted, AreAcceptedFrom}
use Rattle.flow_report.specs.Writing.{AppendsFront}
use Rattle.flow_segment.specs.Carry.{octets_of}
use Rattle.flow_segment.specs.Prefix.{IsRestated}
use Rattle.flow_snapshot.specs.Found.{kept_by_file, KeptFile}
use Rattle.flow_export.specs.Export.{IsBlameless}
use Rattle.flow_export.specs.Span.{text_between}
use Rattle.flow_export.proofs.Choosing.{found_there}
use Rattle.flow_export.proofs.ChosenText.{none_after_skip, none_before_end, nothing_written}
use Rattle.flow_export.proofs.SpanWritten.{none_of_some}
use Rattle.flow_export.proofs.selecting.write_chosen_file.Goals as goal

pub returns-then-count-asked-clause-whole : goal.returns-then-count-asked-clause-whole
returns-then-count-asked-clause-whole g c =
    let span = c.args.asked.span in none_of_some span.from span.to (g.W.Write.contents c.args.output.now)

pub returns-then-count-asked-clause-all : goal.returns-then-count-asked-clause-all
returns-then-count-asked-clause-all g c = λ honest file there before list restated accepted octets.
    let asked = c.args.asked in
    let same = ap (λ (f : KeptFile). length f.messages)
    (found_there (kept_by_file c.args.snapshot.now.shelf) c.args.at file _ c.kept_part.ensures.file there) in
    let many = length-map list (λ (a : Accepted). a.octets) in
    let own = ap length octets in
    nothing_written (g.W.Write.contents c.args.output.now) _
    (none_after_skip asked.span.from asked.span.to asked.skip asked.end list
    (omega (arith, c.if-count-asked.true, c.message_count-count.ensures, same, many, own)))

pub returns-then-asked-eq0-clause-whole : goal.returns-then-asked-eq0-clause-whole
returns-then-asked-eq0-clause-whole g c =
    let span = c.args.asked.span in none_of_some span.from span.to (g.W.Write.contents c.args.output.now)

pub returns-then-asked-eq0-clause-all : goal.returns-then-asked-eq0-clause-all
returns-then-asked-eq0-clause-all g c = λ honest file there before list restated accepted octets.
    let asked = c.args.asked in
    nothing_written (g.W.Write.contents c.args.output.now) _
    (none_before_end asked.span.from asked.span.to asked.skip asked.end list (omega (arith, c.if-asked-eq0.true)))

pub returns-clause-all : goal.returns-clause-all
returns-clause-all g c = λ honest file there.
    let asked = c.args.asked in
    subst (λ (f : KeptFile). (before : AllTemplates) (list : List Accepted) → IsRestated f.prefix before
    → AreAcceptedFrom before list → octets_of list ≡ f.messages → OnOk c.write_chosen_part.result (Appends
    (g.W.Write.contents c.args.output.now) (g.W.Write.contents c.write_chosen_part.new.output)
    (text_between asked.span.from asked.span.to asked.skip asked.end list)))
    (found_there (kept_by_file c.args.snapshot.now.shelf) c.args.at file _ c.kept_part-part.ensures.file there)
    (c.write_chosen_part.ensures.all (c.kept_part-part.ensures.honest honest))

pub returns-clause-some : goal.returns-clause-some
returns-clause-some g c = λ honest file there.
    let asked = c.args.asked in
    subst (λ (f : KeptFile). (before : AllTemplates) (list : List Accepted) → IsRestated f.prefix before
    → AreAcceptedFrom before list → octets_of list ≡ f.messages → OnErr c.write_chosen_part.result (AppendsFront
    (g.W.Write.contents c.args.output.now) (g.W.Write.contents c.write_chosen_part.new.output)
    (text_between asked.span.from asked.span.to asked.skip asked.end list)))
    (found_there (kept_by_file c.args.snapshot.now.shelf) c.args.at file _ c.kept_part-part.ensures.file there)
    (c.write_chosen_part.ensures.some (c.kept_part-part.ensures.honest honest))

pub returns-clause-given : goal.returns-clause-given
returns-clause-given g c = λ honest file there.
    subst (λ (f : KeptFile). (before : AllTemplates) (list : List Accepted) → IsRestated f.prefix before
    → AreAcceptedFrom before list → octets_of list ≡ f.messages → IfErr c.write_chosen_part.result IsBlameless)
    (found_there (kept_by_file c.args.snapshot.now.shelf) c.args.at file _ c.kept_part-part.ensures.file there)
    (c.write_chosen_part.ensures.given (c.kept_part-part.ensures.honest honest))
