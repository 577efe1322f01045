use Rattle.std.proofs.Common.{◌≢◌, refl, ℕ, List, length, subst}
use Rattle.flow_disk.proofs.Results.{on_ok_by, passed_on}
use Rattle.flow_model.specs.Shelf.{kept_of}
use Rattle.flow_refusals.specs.declared.read_refusal.ReadRefusal.TheVariants as query
use Rattle.flow_export.specs.declared.refusal.ExportRefusal.TheVariants as refusal
use Rattle.flow_export.specs.Export.{asked_count, AreMessages, IsBlameless, IsExport, IsExportOf, Writes, WritesSome}
use Rattle.flow_export.specs.Export.{WritesUpTo}
use Rattle.flow_export.proofs.Choosing.{all_kept}
use Rattle.flow_export.proofs.Written.{all_exported, exported, exported_part, messages_cut, some_exported}
use Rattle.flow_export.proofs.Written.{quiet_cause, some_of, templates_cut}
use Rattle.flow_export.proofs.exporting.write_after.Goals as goal

pub returns-in_err-write_restated-clause-some : goal.returns-in_err-write_restated-clause-some
returns-in_err-write_restated-clause-some g c =
    let old = g.W.Write.contents c.args.output.now in
    let new = g.W.Write.contents c.write_restated.new.output in
    let e = (c.in_err-write_restated.field-0).0 in
    passed_on c.from_residual.result e (WritesUpTo (IsExport _) old new)
    c.from_residual.ensures.1
    (templates_cut _ c.args.carry.now old new c.write_restated.ensures.carry e c.in_err-write_restated.ensures.some)

pub returns-in_err-write_restated-clause-cut : goal.returns-in_err-write_restated-clause-cut
returns-in_err-write_restated-clause-cut g c = λ honest.
    let s = c.args.snapshot.now.shelf in
    let old = g.W.Write.contents c.args.output.now in
    let new = g.W.Write.contents c.write_restated.new.output in
    let e = (c.in_err-write_restated.field-0).0 in
    passed_on c.from_residual.result e
    (WritesUpTo (IsExportOf s c.args.skip c.args.most) old new) c.from_residual.ensures.1
    (messages_cut c.args.carry.now s c.args.skip c.args.most old new (c.requires honest) e
    c.in_err-write_restated.ensures.some)

pub returns-in_err-write_restated-clause-blameless : goal.returns-in_err-write_restated-clause-blameless
returns-in_err-write_restated-clause-blameless g c = λ honest v view.
    passed_on c.from_residual.result (c.in_err-write_restated.field-0).0 IsBlameless
    c.from_residual.ensures.1 c.in_err-write_restated.ensures.blameless

pub returns-clause-written : goal.returns-clause-written
returns-clause-written g c =
    let s = c.args.snapshot.now.shelf in
    let old = g.W.Write.contents c.args.output.now in
    let mid = g.W.Write.contents c.write_restated.new.output in
    let new = g.W.Write.contents c.write_kept.new.output in
    on_ok_by c.write_kept.result _
    (Writes (IsExport (asked_count c.args.skip c.args.most (length (kept_of s)))) old new)
    (λ whole. exported c.args.carry.now old mid new c.in_ok-write_restated.ensures.all
    (asked_count c.args.skip c.args.most (length (kept_of s))) c.write_restated.ensures.carry
    (subst (λ (ms : List (List ℕ)). Writes (AreMessages (asked_count c.args.skip c.args.most (length ms))) mid new)
    (all_kept s) whole)) c.write_kept.ensures.whole

pub returns-clause-some : goal.returns-clause-some
returns-clause-some g c =
    let s = c.args.snapshot.now.shelf in
    let old = g.W.Write.contents c.args.output.now in
    let mid = g.W.Write.contents c.write_restated.new.output in
    let new = g.W.Write.contents c.write_kept.new.output in
    some_of c.write_kept.result _
    (WritesUpTo (IsExport (asked_count c.args.skip c.args.most (length (kept_of s)))) old new)
    (λ part. exported_part c.args.carry.now old mid new c.in_ok-write_restated.ensures.all
    (asked_count c.args.skip c.args.most (length (kept_of s))) c.write_restated.ensures.carry
    (subst (λ (ms : List (List ℕ)). WritesSome (AreMessages (asked_count c.args.skip c.args.most (length ms))) mid new)
    (all_kept s) part)) c.write_kept.ensures.part

pub returns-clause-exact : goal.returns-clause-exact
returns-clause-exact g c = λ honest.
    let s = c.args.snapshot.now.shelf in
    let old = g.W.Write.contents c.args.output.now in
    let mid = g.W.Write.contents c.write_restated.new.output in
    let new = g.W.Write.contents c.write_kept.new.output in
    on_ok_by c.write_kept.result _ (Writes (IsExportOf s c.args.skip c.args.most) old new)
    (all_exported c.args.carry.now old mid new c.in_ok-write_restated.ensures.all s c.args.skip c.args.most
    (c.requires honest)) (c.write_kept.ensures.all honest)

pub returns-clause-cut : goal.returns-clause-cut
returns-clause-cut g c = λ honest.
    let s = c.args.snapshot.now.shelf in
    let old = g.W.Write.contents c.args.output.now in
    let mid = g.W.Write.contents c.write_restated.new.output in
    let new = g.W.Write.contents c.write_kept.new.output in
    some_of c.write_kept.result _ (WritesUpTo (IsExportOf s c.args.skip c.args.most) old new)
    (some_exported c.args.carry.now old mid new c.in_ok-write_restated.ensures.all s c.args.skip c.args.most
    (c.requires honest)) (c.write_kept.ensures.some honest)

pub returns-in_err-write_restated-clause-cause : goal.returns-in_err-write_restated-clause-cause
returns-in_err-write_restated-clause-cause g c =
    let r = c.from_residual.result in
    quiet_cause (refusal.Query query.Fault) c.args.faults.now c.args.faults.now r refl
    (passed_on r (c.in_err-write_restated.field-0).0 (λ e. e ≢ refusal.Query query.Fault)
    c.from_residual.ensures.1 c.in_err-write_restated.ensures.quiet)
