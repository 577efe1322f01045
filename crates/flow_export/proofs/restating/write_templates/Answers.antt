use Rattle.std.proofs.Common.{◌≡◌, refl}
use Rattle.std.proofs.KnownBytes.{Keeps-refl}
use Rattle.std.specs.Io.KnownBytes.{Appends}
use Rattle.flow_disk.proofs.Results.{if_err_by, on_ok_by, passed_on}
use Rattle.flow_segment.specs.Carry.{prefix_of}
use Rattle.flow_refusals.specs.declared.read_refusal.ReadRefusal.TheVariants as query
use Rattle.flow_export.specs.declared.refusal.ExportRefusal.TheVariants as refusal
use Rattle.flow_export.specs.Export.{AreTemplates, AreTemplatesAfter, IsBlameless, Writes, WritesOrNot}
use Rattle.flow_export.proofs.Viewed.{last_passes, own_file}
use Rattle.flow_export.proofs.Written.{or_weaker, quiet_cause}
use Rattle.flow_export.proofs.restating.write_templates.Goals as goal

pub returns-in_err-carry-clause-cut : goal.returns-in_err-carry-clause-cut
returns-in_err-carry-clause-cut g c = λ honest.
    let output = g.W.Write.contents c.args.output.now in
    passed_on c.from_residual.result (refusal.Query (c.in_err-carry.field-0).0)
    (WritesOrNot (AreTemplatesAfter c.args.snapshot.now.shelf) output output) c.from_residual.ensures.1
    (Keeps-refl output)

pub returns-in_err-carry-clause-some : goal.returns-in_err-carry-clause-some
returns-in_err-carry-clause-some g c =
    let output = g.W.Write.contents c.args.output.now in
    passed_on c.from_residual.result (refusal.Query (c.in_err-carry.field-0).0) (WritesOrNot AreTemplates output output)
    c.from_residual.ensures.1 (Keeps-refl output)

pub returns-in_err-carry-clause-blameless : goal.returns-in_err-carry-clause-blameless
returns-in_err-carry-clause-blameless g c = λ honest v view.
    let own = own_file c.args.snapshot.now.shelf v c.sealed_files-last.result _ view
    c.kept_part-2.ensures.file in
    passed_on c.from_residual.result (refusal.Query (c.in_err-carry.field-0).0) IsBlameless c.from_residual.ensures.1
    (c.in_err-carry.ensures.given (c.kept_part-2.ensures.honest honest) own.before own.messages own.restated own.accepted
    own.octets)

pub returns-clause-exact : goal.returns-clause-exact
returns-clause-exact g c = λ honest.
    let s = c.args.snapshot.now.shelf in
    let old = g.W.Write.contents c.args.output.now in
    let new = g.W.Write.contents c.write_restated.new.output in
    let carry = c.in_ok-carry.carry in
    let passes = last_passes s c.sealed_files-last.result c.message_count-count.result _ _ carry c.sealed_files-last.ensures c.kept_part.ensures.file c.kept_part-2.ensures.file
    c.message_count-count.ensures (c.in_ok-carry.ensures.found (c.kept_part-2.ensures.honest honest)) in
    on_ok_by c.write_restated.result (Appends old new (prefix_of carry)) (Writes (AreTemplatesAfter s) old new)
    (λ all. (prefix_of carry, (carry, passes, refl), all)) c.write_restated.ensures.all

pub returns-clause-cut : goal.returns-clause-cut
returns-clause-cut g c = λ honest.
    let s = c.args.snapshot.now.shelf in
    let old = g.W.Write.contents c.args.output.now in
    let new = g.W.Write.contents c.write_restated.new.output in
    let carry = c.in_ok-carry.carry in
    let passes = last_passes s c.sealed_files-last.result c.message_count-count.result _ _ carry c.sealed_files-last.ensures c.kept_part.ensures.file c.kept_part-2.ensures.file
    c.message_count-count.ensures (c.in_ok-carry.ensures.found (c.kept_part-2.ensures.honest honest)) in
    if_err_by c.write_restated.result (WritesOrNot (λ text. text ≡ prefix_of carry) old new)
    (WritesOrNot (AreTemplatesAfter s) old new)
    (or_weaker (λ text. text ≡ prefix_of carry) (AreTemplatesAfter s) old new (λ text is. (carry, passes, is)))
    c.write_restated.ensures.some

pub returns-clause-written : goal.returns-clause-written
returns-clause-written g c =
    let old = g.W.Write.contents c.args.output.now in
    let new = g.W.Write.contents c.write_restated.new.output in
    let carry = c.in_ok-carry.carry in
    on_ok_by c.write_restated.result (Appends old new (prefix_of carry)) (Writes AreTemplates old new)
    (λ all. (prefix_of carry, (carry, c.write_restated.ensures.carry, refl), all)) c.write_restated.ensures.all

pub returns-clause-some : goal.returns-clause-some
returns-clause-some g c =
    let old = g.W.Write.contents c.args.output.now in
    let new = g.W.Write.contents c.write_restated.new.output in
    let carry = c.in_ok-carry.carry in
    if_err_by c.write_restated.result (WritesOrNot (λ text. text ≡ prefix_of carry) old new)
    (WritesOrNot AreTemplates old new)
    (or_weaker (λ text. text ≡ prefix_of carry) AreTemplates old new
    (λ text is. (carry, c.write_restated.ensures.carry, is))) c.write_restated.ensures.some

pub returns-clause-cause : goal.returns-clause-cause
returns-clause-cause g c =
    quiet_cause (refusal.Query query.Fault) c.args.faults.now c.carry_after.new.faults c.write_restated.result c.in_ok-carry.ensures.cause.done
    c.write_restated.ensures.quiet
