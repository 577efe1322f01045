use Rattle.std.proofs.Common.{◌≢◌, refl}
use Rattle.flow_archive.proofs.SourceSums.{passed_on as fault_passed_on}
use Rattle.flow_disk.proofs.Results.{passed_on}
use Rattle.flow_manifest.specs.declared.error.OpenError.TheVariants as opening
use Rattle.flow_refusals.specs.declared.read_refusal.ReadRefusal.TheVariants as query
use Rattle.flow_commands.specs.declared.archive_refusal.ArchiveRefusal.TheVariants as refusal
use Rattle.flow_commands.specs.ArchiveFiles.{AreListings, ListsNoFiles}
use Rattle.flow_commands.specs.Archives.{of_query}
use Rattle.flow_commands.specs.Asking.{WritesOrNot}
use Rattle.flow_commands.proofs.OpenedAnswers.{none_written, query_unwritten}
use Rattle.flow_commands.proofs.Causes.{query_fault, query_is_no_opening, query_is_told}
use Rattle.flow_commands.proofs.FileLines.{query_listed}
use Rattle.flow_commands.proofs.archive_files.list_files.Goals as goal

pub returns-in_err-text-clause-refused : goal.returns-in_err-text-clause-refused
returns-in_err-text-clause-refused g c h reads stands =
    let output = g.W.Write.contents c.args.output.now in
    let e = (c.in_err-text.field-0).0 in
    passed_on c.from_residual.result (of_query e) (λ e. ListsNoFiles reads output output e) c.from_residual.ensures.1
    (query_listed reads output e (c.in_err-text.ensures.refused h reads stands))

pub returns-in_err-text-clause-kept : goal.returns-in_err-text-clause-kept
returns-in_err-text-clause-kept g c =
    let output = g.W.Write.contents c.args.output.now in
    let e = (c.in_err-text.field-0).0 in
    passed_on c.from_residual.result (of_query e) (λ e. WritesOrNot AreListings e output output)
    c.from_residual.ensures.1 (none_written AreListings output (of_query e) (query_unwritten e))

pub returns-in_err-text-clause-opened : goal.returns-in_err-text-clause-opened
returns-in_err-text-clause-opened g c =
    let e = (c.in_err-text.field-0).0 in
    passed_on c.from_residual.result (of_query e) (λ e. e ≢ refusal.Opening opening.Fault) c.from_residual.ensures.1
    (query_is_no_opening e)

pub returns-in_err-text-clause-cause : goal.returns-in_err-text-clause-cause
returns-in_err-text-clause-cause g c =
    let e = (c.in_err-text.field-0).0 in
    fault_passed_on query.Fault (refusal.Query query.Fault) e (of_query e) _ _ _ c.from_residual.result
    c.in_err-text.ensures.cause refl c.from_residual.ensures.1 (query_fault e) (query_is_told e)

pub returns-in_err-write_patiently-clause-refused : goal.returns-in_err-write_patiently-clause-refused
returns-in_err-write_patiently-clause-refused g c h reads stands =
    passed_on c.from_residual-in_err-write_patiently.result (refusal.Write c.in_err-write_patiently.field-0.0)
    (λ e. ListsNoFiles reads (g.W.Write.contents c.args.output.now) (g.W.Write.contents c.write_patiently.new.output) e)
    c.from_residual-in_err-write_patiently.ensures.1 (
      c.in_ok-text.text.items,
      c.in_ok-text.ensures.lines h reads stands,
      rw c.as_slice.ensures.value at c.in_err-write_patiently.ensures.front,
    )

pub returns-clause-told : goal.returns-clause-told
returns-clause-told g c h reads stands = (
  c.in_ok-text.text.items,
  c.in_ok-text.ensures.lines h reads stands,
  rw c.as_slice.ensures.value at c.in_ok-write_patiently.ensures.all,
)
