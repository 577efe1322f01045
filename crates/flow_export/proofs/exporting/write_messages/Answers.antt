use Rattle.std.proofs.Common.{inl}
use Rattle.std.proofs.KnownBytes.{Keeps-refl}
use Rattle.flow_disk.proofs.Results.{passed_on}
use Rattle.flow_export.specs.declared.refusal.ExportRefusal.TheVariants as refusal
use Rattle.flow_export.specs.Export.{IsBlameless, IsExport, IsExportOf, WritesUpTo}
use Rattle.flow_export.proofs.exporting.write_messages.Goals as goal

pub returns-in_err-carry-clause-some : goal.returns-in_err-carry-clause-some
returns-in_err-carry-clause-some g c =
    let output = g.W.Write.contents c.args.output.now in
    passed_on c.from_residual.result (refusal.Query (c.in_err-carry.field-0).0) (WritesUpTo (IsExport _) output output)
    c.from_residual.ensures.1 (inl (Keeps-refl output))

pub returns-in_err-carry-clause-cut : goal.returns-in_err-carry-clause-cut
returns-in_err-carry-clause-cut g c = λ honest.
    let output = g.W.Write.contents c.args.output.now in
    passed_on c.from_residual.result (refusal.Query (c.in_err-carry.field-0).0)
    (WritesUpTo (IsExportOf c.args.snapshot.now.shelf c.args.skip c.args.most) output output) c.from_residual.ensures.1
    (inl (Keeps-refl output))

pub returns-in_err-carry-clause-blameless : goal.returns-in_err-carry-clause-blameless
returns-in_err-carry-clause-blameless g c = λ honest v view.
    passed_on c.from_residual.result (refusal.Query (c.in_err-carry.field-0).0) IsBlameless c.from_residual.ensures.1
    (c.in_err-carry.ensures.given honest v view)
