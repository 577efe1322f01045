use Rattle.std.proofs.Common.{◌≢◌, [], inl, refl}
use Rattle.std.proofs.KnownBytes.{Keeps-refl}
use Rattle.flow_disk.proofs.Results.{passed_on}
use Rattle.flow_manifest.specs.declared.error.OpenError.TheVariants as opening
use Rattle.flow_refusals.specs.declared.read_refusal.ReadRefusal.TheVariants as query
use Rattle.flow_commands.specs.declared.archive_refusal.ArchiveRefusal.TheVariants as refusal
use Rattle.flow_commands.specs.Asking.{Always, TellsUpTo, WritesUpTo}
use Rattle.flow_records.specs.Listing.{records_lines, AreRecordsIn}
use Rattle.flow_records.specs.Records.{records_text}
use Rattle.flow_commands.proofs.Causes.{memory_is_no_opening, memory_is_no_query, other_than}
use Rattle.flow_records.proofs.Lines.{lines_told, no_records_in, no_opening, none_alone, up_to, up_to_told}
use Rattle.flow_records.proofs.Lines.{written_up_to}
use Rattle.flow_records.proofs.asking.list.Goals as goal

pub returns-in_err-asked-clause-refused : goal.returns-in_err-asked-clause-refused
returns-in_err-asked-clause-refused g c h reads stands =
    let output = g.W.Write.contents c.args.output.now in
    passed_on c.from_residual.result refusal.OutOfMemory
    (λ e. TellsUpTo (records_lines c.args.format.now c.args.span.now.from c.args.span.now.to) Always reads output
    output e) c.from_residual.ensures.1 (inl (Keeps-refl output))

pub returns-in_err-asked-clause-kept : goal.returns-in_err-asked-clause-kept
returns-in_err-asked-clause-kept g c =
    let output = g.W.Write.contents c.args.output.now in
    passed_on c.from_residual.result refusal.OutOfMemory
    (λ e. WritesUpTo (AreRecordsIn c.args.format.now c.args.span.now.from c.args.span.now.to) e output output)
    c.from_residual.ensures.1
    (up_to c.args.format.now c.args.span.now refusal.OutOfMemory output output [] (no_records_in c.args.span.now) tt
    (none_alone output (records_text c.args.format.now [])))

pub returns-in_err-asked-clause-opened : goal.returns-in_err-asked-clause-opened
returns-in_err-asked-clause-opened g c =
    passed_on c.from_residual.result refusal.OutOfMemory (λ e. e ≢ refusal.Opening opening.Fault)
    c.from_residual.ensures.1 memory_is_no_opening

pub returns-in_err-asked-clause-cause : goal.returns-in_err-asked-clause-cause
returns-in_err-asked-clause-cause g c =
    other_than (refusal.Query query.Fault) refusal.OutOfMemory _ _ c.from_residual.result c.from_residual.ensures.1
    memory_is_no_query refl

pub returns-clause-told : goal.returns-clause-told
returns-clause-told g c h reads stands =
    lines_told c.args.format.now c.args.span.now reads c.in_ok-asked.asked.snapshot c.in_ok-asked.asked.width
    c.write_asked.result _ _ (c.in_ok-asked.ensures.read h reads stands) c.write_asked.ensures.told

pub returns-clause-refused : goal.returns-clause-refused
returns-clause-refused g c h reads stands =
    up_to_told c.args.format.now c.args.span.now reads c.in_ok-asked.asked.snapshot c.in_ok-asked.asked.width
    c.write_asked.result _ _ (c.in_ok-asked.ensures.read h reads stands) c.write_asked.ensures.some
    c.write_asked.ensures.cut

pub returns-clause-kept : goal.returns-clause-kept
returns-clause-kept g c =
    written_up_to c.args.format.now c.args.span.now c.write_asked.result _ _ c.write_asked.ensures.some

pub returns-clause-opened : goal.returns-clause-opened
returns-clause-opened g c =
    no_opening c.args.format.now c.args.span.now c.write_asked.result _ _ c.write_asked.ensures.some
