use Rattle.std.proofs.Common.{◌≢◌, [], inl, refl}
use Rattle.std.proofs.KnownBytes.{Keeps-refl}
use Rattle.flow_disk.proofs.Results.{passed_on}
use Rattle.flow_manifest.specs.declared.error.OpenError.TheVariants as opening
use Rattle.flow_refusals.specs.declared.read_refusal.ReadRefusal.TheVariants as query
use Rattle.flow_report.specs.ArchiveLines.{flows_text}
use Rattle.flow_commands.specs.declared.archive_refusal.ArchiveRefusal.TheVariants as refusal
use Rattle.flow_commands.specs.Asking.{flows_lines, Always, AreFlowsIn, TellsUpTo, WritesUpTo}
use Rattle.flow_commands.proofs.Causes.{memory_is_no_opening, memory_is_no_query, other_than}
use Rattle.flow_commands.proofs.KeptLines.{lines_told, no_flows_in, no_opening, none_alone, up_to, up_to_told}
use Rattle.flow_commands.proofs.KeptLines.{written_up_to}
use Rattle.flow_commands.proofs.listing.list.Goals as goal

pub returns-in_err-asked-clause-refused : goal.returns-in_err-asked-clause-refused
returns-in_err-asked-clause-refused g c h reads stands =
    let output = g.W.Write.contents c.args.output.now in
    passed_on c.from_residual.result refusal.OutOfMemory
    (λ e. TellsUpTo (flows_lines c.args.format c.args.span.now) Always reads output output e) c.from_residual.ensures.1
    (inl (Keeps-refl output))

pub returns-in_err-asked-clause-kept : goal.returns-in_err-asked-clause-kept
returns-in_err-asked-clause-kept g c =
    let output = g.W.Write.contents c.args.output.now in
    passed_on c.from_residual.result refusal.OutOfMemory (λ e. WritesUpTo (AreFlowsIn c.args.format c.args.span.now) e output output)
    c.from_residual.ensures.1
    (up_to c.args.format c.args.span.now refusal.OutOfMemory output output [] (no_flows_in c.args.span.now) tt
    (none_alone output (flows_text c.args.format [])))

pub returns-in_err-asked-clause-opened : goal.returns-in_err-asked-clause-opened
returns-in_err-asked-clause-opened g c =
    passed_on c.from_residual.result refusal.OutOfMemory (λ e. e ≢ refusal.Opening opening.Fault)
    c.from_residual.ensures.1 memory_is_no_opening

pub returns-in_err-asked-clause-cause : goal.returns-in_err-asked-clause-cause
returns-in_err-asked-clause-cause g c =
    other_than (refusal.Query query.Fault) refusal.OutOfMemory _ _ c.from_residual.result c.from_residual.ensures.1
    memory_is_no_query refl

pub returns-clause-told : goal.returns-clause-told
returns-clause-told g c h reads stands =
    lines_told c.args.format c.args.span.now reads c.in_ok-asked.asked.snapshot c.in_ok-asked.asked.width
    c.write_kept.result _ _ (c.in_ok-asked.ensures.read h reads stands) c.write_kept.ensures.told

pub returns-clause-refused : goal.returns-clause-refused
returns-clause-refused g c h reads stands =
    up_to_told c.args.format c.args.span.now reads c.in_ok-asked.asked.snapshot c.in_ok-asked.asked.width
    c.write_kept.result _ _ (c.in_ok-asked.ensures.read h reads stands) c.write_kept.ensures.some
    c.write_kept.ensures.cut

pub returns-clause-kept : goal.returns-clause-kept
returns-clause-kept g c = written_up_to c.args.format c.args.span.now c.write_kept.result _ _ c.write_kept.ensures.some

pub returns-clause-opened : goal.returns-clause-opened
returns-clause-opened g c = no_opening c.args.format c.args.span.now c.write_kept.result _ _ c.write_kept.ensures.some
