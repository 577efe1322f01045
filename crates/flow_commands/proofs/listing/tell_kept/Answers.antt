use Rattle.std.proofs.Common.{◌∙◌, ◌<◌, List, [], length, refl, sym, subst, append-nil, arith}
use Rattle.std.proofs.lemmas.List.{take_all}
use Rattle.flow_disk.proofs.Results.{passed_on}
use Rattle.flow_measure.specs.declared.flow.Flow.{Flow}
use Rattle.flow_measure.specs.Query.{flows_in_view}
use Rattle.flow_snapshot.specs.Found.{kept_by_file, AreOwnFlows, KeptFile}
use Rattle.flow_snapshot.proofs.ByFile.{file_blameless, files_count, no_files, same_flows, view_flows}
use Rattle.flow_report.specs.declared.format.Format.{Format}
use Rattle.flow_report.specs.Telling.{Tells, TellsFront}
use Rattle.flow_report.proofs.Joining.{holds_more}
use Rattle.flow_commands.specs.declared.archive_refusal.ArchiveRefusal.TheVariants as refusal
use Rattle.flow_commands.specs.Archives.{of_query}
use Rattle.flow_commands.specs.Asking.{HasFront, IsBlameless, IsWhileAsking}
use Rattle.flow_commands.proofs.KeptLines.{cut_off, lines_of, no_flows_in, one_more, query_asks, query_blameless}
use Rattle.flow_commands.proofs.KeptLines.{some_cut, some_more, some_stopped, stopped}
use Rattle.flow_commands.proofs.listing.tell_kept.Goals as goal

pub loop-at-init : goal.loop-at-init
loop-at-init g c =
    let old = g.W.Write.contents c.args.output.now in
    let held = c.args.lines.now.held in
    let none = holds_more old held [] held (sym (append-nil held)) in
    record {
      faults = refl;
      format = refl;
      some = ([], no_flows_in c.args.span.now, none);
      told = λ honest v is. ([], no_files c.args.span.now.from c.args.span.now.to, none);
    }

pub loop-at-preserved : goal.loop-at-preserved
loop-at-preserved g c =
    let old = g.W.Write.contents c.args.output.now in
    let now = g.W.Write.contents c.loop-at.output in
    let new = g.W.Write.contents c.put.new.output in
    let held = c.args.lines.now.held in
    let mid = c.loop-at.lines.held in
    let left = c.put.new.self.held in
    let format = c.args.lines.now.format in
    let from = c.args.span.now.from in
    let to = c.args.span.now.to in
    let flows = c.in_ok-flows.flows.items in
    let s = c.args.snapshot.now.shelf in
    let told = subst (λ (f : Format). Tells now mid new left (lines_of f flows)) c.loop-at.invariant.format
    (rw c.as_slice.ensures.value at c.in_ok-put.ensures.told) in
    let within : c.loop-at.at < length (kept_by_file s) =
    omega (arith, c.loop-at-test.true, c.kept_files-files.ensures, files_count s) in
    record {
      faults = c.in_ok-flows.ensures.cause.done ∙ c.loop-at.invariant.faults;
      format = c.put.ensures.format ∙ c.loop-at.invariant.format;
      some = some_more format c.args.span.now old now new held mid left flows c.in_ok-flows.ensures.within
          c.loop-at.invariant.some told;
      told = λ honest v is.
          one_more format from to (kept_by_file s) c.loop-at.at (flows_in_view from to v) (view_flows from to s v is) old
          now held mid (c.loop-at.invariant.told honest v is) new flows within (c.in_ok-flows.ensures.given honest) left
          told;
    }

pub returns-clause-told : goal.returns-clause-told
returns-clause-told g c = λ honest v is.
    let from = c.args.span.now.from in
    let to = c.args.span.now.to in
    let s = c.args.snapshot.now.shelf in
    let told = c.loop-at.invariant.told honest v is in
    let all = subst (λ (fs : List KeptFile). AreOwnFlows from to fs told.0)
    (take_all c.loop-at.at (kept_by_file s)
    (omega (arith, c.loop-at-test.false, c.kept_files-files.ensures, files_count s))) told.1 in
    subst (λ (fs : List Flow). Tells (g.W.Write.contents c.args.output.now) c.args.lines.now.held
    (g.W.Write.contents c.loop-at.output) c.loop-at.lines.held (lines_of c.args.lines.now.format fs))
    (same_flows from to (kept_by_file s) told.0 (flows_in_view from to v) all (view_flows from to s v is)) told.2

pub returns-in_err-flows-clause-some : goal.returns-in_err-flows-clause-some
returns-in_err-flows-clause-some g c =
    let old = g.W.Write.contents c.args.output.now in
    let now = g.W.Write.contents c.loop-at.output in
    let held = c.args.lines.now.held in
    let mid = c.loop-at.lines.held in
    let format = c.args.lines.now.format in
    let e = (c.in_err-flows.field-0).0 in
    passed_on c.from_residual.result (of_query e)
    (λ e. IsWhileAsking e × HasFront format c.args.span.now old held now) c.from_residual.ensures.1
    (query_asks e, some_stopped format c.args.span.now old now held mid c.loop-at.invariant.some)

pub returns-in_err-flows-clause-cut : goal.returns-in_err-flows-clause-cut
returns-in_err-flows-clause-cut g c = λ honest v is.
    let e = (c.in_err-flows.field-0).0 in
    let old = g.W.Write.contents c.args.output.now in
    let now = g.W.Write.contents c.loop-at.output in
    let held = c.args.lines.now.held in
    let mid = c.loop-at.lines.held in
    let format = c.args.lines.now.format in
    let from = c.args.span.now.from in
    let to = c.args.span.now.to in
    let s = c.args.snapshot.now.shelf in
    let all = flows_in_view from to v in
    let are = view_flows from to s v is in
    let within : c.loop-at.at < length (kept_by_file s) =
    omega (arith, c.loop-at-test.true, c.kept_files-files.ensures, files_count s) in
    let none = file_blameless from to (kept_by_file s) all c.loop-at.at e are within
    (c.in_err-flows.ensures.given honest) in
    passed_on c.from_residual.result (of_query e) (λ e. IsBlameless e × TellsFront old held now (lines_of format all))
    c.from_residual.ensures.1 (
      query_blameless e none,
      stopped format from to (kept_by_file s) c.loop-at.at all are old now held mid
          (c.loop-at.invariant.told honest v is),
    )

pub returns-in_err-put-clause-some : goal.returns-in_err-put-clause-some
returns-in_err-put-clause-some g c =
    let old = g.W.Write.contents c.args.output.now in
    let now = g.W.Write.contents c.loop-at.output in
    let new = g.W.Write.contents c.put.new.output in
    let held = c.args.lines.now.held in
    let mid = c.loop-at.lines.held in
    let format = c.args.lines.now.format in
    let flows = c.in_ok-flows.flows.items in
    let front = subst (λ (f : Format). TellsFront now mid new (lines_of f flows)) c.loop-at.invariant.format
    (rw c.as_slice.ensures.value at c.in_err-put.ensures.front) in
    passed_on c.from_residual-in_err-put.result (refusal.Write (c.in_err-put.field-0).0)
    (λ e. IsWhileAsking e × HasFront format c.args.span.now old held new) c.from_residual-in_err-put.ensures.1 (
      tt,
      some_cut format c.args.span.now old now new held mid flows c.in_ok-flows.ensures.within
          c.loop-at.invariant.some front,
    )

pub returns-in_err-put-clause-cut : goal.returns-in_err-put-clause-cut
returns-in_err-put-clause-cut g c = λ honest v is.
    let old = g.W.Write.contents c.args.output.now in
    let now = g.W.Write.contents c.loop-at.output in
    let new = g.W.Write.contents c.put.new.output in
    let held = c.args.lines.now.held in
    let mid = c.loop-at.lines.held in
    let format = c.args.lines.now.format in
    let from = c.args.span.now.from in
    let to = c.args.span.now.to in
    let flows = c.in_ok-flows.flows.items in
    let s = c.args.snapshot.now.shelf in
    let all = flows_in_view from to v in
    let front = subst (λ (f : Format). TellsFront now mid new (lines_of f flows)) c.loop-at.invariant.format
    (rw c.as_slice.ensures.value at c.in_err-put.ensures.front) in
    let within : c.loop-at.at < length (kept_by_file s) =
    omega (arith, c.loop-at-test.true, c.kept_files-files.ensures, files_count s) in
    passed_on c.from_residual-in_err-put.result (refusal.Write (c.in_err-put.field-0).0)
    (λ e. IsBlameless e × TellsFront old held new (lines_of format all)) c.from_residual-in_err-put.ensures.1 (
      tt,
      cut_off format from to (kept_by_file s) c.loop-at.at all (view_flows from to s v is) old now held mid
          (c.loop-at.invariant.told honest v is) new flows within (c.in_ok-flows.ensures.given honest) front,
    )
