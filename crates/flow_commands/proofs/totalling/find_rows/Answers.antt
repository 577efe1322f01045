use Rattle.std.proofs.Common.{◌≢◌, refl}
use Rattle.flow_archive.proofs.SourceSums.{passed_on as fault_passed_on}
use Rattle.flow_disk.proofs.Results.{passed_on}
use Rattle.flow_manifest.specs.declared.error.OpenError.TheVariants as opening
use Rattle.flow_refusals.specs.declared.read_refusal.ReadRefusal.TheVariants as query
use Rattle.flow_snapshot.specs.Totals.{SumsFit}
use Rattle.flow_commands.specs.declared.archive_refusal.ArchiveRefusal.TheVariants as refusal
use Rattle.flow_commands.specs.Archives.{of_query}
use Rattle.flow_commands.specs.Asking.{IsBeforeWriting, IsNotFound}
use Rattle.flow_commands.proofs.OpenedAnswers.{query_unwritten, rows_read, rows_refused}
use Rattle.flow_commands.proofs.Causes.{memory_is_no_opening, memory_is_no_query, other_than, query_fault}
use Rattle.flow_commands.proofs.Causes.{query_is_no_opening, query_is_told}
use Rattle.flow_commands.proofs.totalling.find_rows.Goals as goal

pub returns-in_err-asked-clause-refused : goal.returns-in_err-asked-clause-refused
returns-in_err-asked-clause-refused g c h reads stands =
    passed_on c.from_residual.result refusal.OutOfMemory (λ e. IsNotFound SumsFit reads e) c.from_residual.ensures.1 tt

pub returns-in_err-asked-clause-unwritten : goal.returns-in_err-asked-clause-unwritten
returns-in_err-asked-clause-unwritten g c =
    passed_on c.from_residual.result refusal.OutOfMemory (λ e. IsBeforeWriting e) c.from_residual.ensures.1 tt

pub returns-in_err-asked-clause-opened : goal.returns-in_err-asked-clause-opened
returns-in_err-asked-clause-opened g c =
    passed_on c.from_residual.result refusal.OutOfMemory (λ e. e ≢ refusal.Opening opening.Fault)
    c.from_residual.ensures.1 memory_is_no_opening

pub returns-in_err-asked-clause-cause : goal.returns-in_err-asked-clause-cause
returns-in_err-asked-clause-cause g c =
    other_than (refusal.Query query.Fault) refusal.OutOfMemory _ _ c.from_residual.result c.from_residual.ensures.1
    memory_is_no_query refl

pub returns-in_err-rows-clause-refused : goal.returns-in_err-rows-clause-refused
returns-in_err-rows-clause-refused g c h reads stands =
    passed_on c.from_residual-in_err-rows.result (of_query (c.in_err-rows.field-0).0) (λ e. IsNotFound SumsFit reads e)
    c.from_residual-in_err-rows.ensures.1
    (rows_refused reads _ _ _ (c.in_err-rows.field-0).0 (c.in_ok-asked.ensures.read h reads stands) c.in_err-rows.ensures.given)

pub returns-in_err-rows-clause-unwritten : goal.returns-in_err-rows-clause-unwritten
returns-in_err-rows-clause-unwritten g c =
    passed_on c.from_residual-in_err-rows.result (of_query (c.in_err-rows.field-0).0) (λ e. IsBeforeWriting e)
    c.from_residual-in_err-rows.ensures.1 (query_unwritten (c.in_err-rows.field-0).0)

pub returns-in_err-rows-clause-opened : goal.returns-in_err-rows-clause-opened
returns-in_err-rows-clause-opened g c =
    passed_on c.from_residual-in_err-rows.result (of_query (c.in_err-rows.field-0).0)
    (λ e. e ≢ refusal.Opening opening.Fault) c.from_residual-in_err-rows.ensures.1
    (query_is_no_opening (c.in_err-rows.field-0).0)

pub returns-in_err-rows-clause-cause : goal.returns-in_err-rows-clause-cause
returns-in_err-rows-clause-cause g c =
    let e = (c.in_err-rows.field-0).0 in
    fault_passed_on query.Fault (refusal.Query query.Fault) e (of_query e) _ _ _ c.from_residual-in_err-rows.result
    c.in_err-rows.ensures.cause refl c.from_residual-in_err-rows.ensures.1 (query_fault e) (query_is_told e)

pub returns-clause-lines : goal.returns-clause-lines
returns-clause-lines g c h reads stands format =
    rows_read format reads _ c.in_ok-asked.asked.width c.args.span.now c.args.span.now.from c.args.span.now.to _
    (c.in_ok-asked.ensures.read h reads stands) refl refl c.in_ok-rows.ensures.given
