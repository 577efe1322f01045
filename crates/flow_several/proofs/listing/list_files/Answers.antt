use Rattle.std.proofs.Common.{◌∙◌, ◌<◌, List, [], length, refl, subst, arith}
use Rattle.std.proofs.KnownBytes.{Appends-nil}
use Rattle.std.proofs.lemmas.List.{take_all}
use Rattle.std.specs.Io.KnownBytes.{Appends}
use Rattle.flow_disk.proofs.Results.{passed_on}
use Rattle.flow_measure.specs.declared.flow.Flow.{Flow}
use Rattle.flow_measure.specs.Query.{flows_in_view}
use Rattle.flow_report.specs.Writing.{AppendsFront}
use Rattle.flow_snapshot.specs.Found.{kept_by_file, AreOwnFlows, KeptFile}
use Rattle.flow_snapshot.proofs.ByFile.{file_blameless, files_count, no_files, same_flows, view_flows}
use Rattle.flow_several.specs.declared.listing_refusal.ListingRefusal.TheVariants as refusal
use Rattle.flow_several.specs.Flows.{numbered_flow, of_text, IsNoBlame, IsWhileListed}
use Rattle.flow_several.proofs.Listed.{any_cut, any_more, any_stopped, cut_off, lines, none_in, one_more, stopped}
use Rattle.flow_several.proofs.Listed.{text_asks, text_blameless, text_is_no_fault, other_than, HasAnyFront}
use Rattle.flow_several.proofs.listing.list_files.Goals as goal

pub loop-at-init : goal.loop-at-init
loop-at-init g c =
    let old = g.W.Write.contents c.args.output.now in
    let from = c.args.listing.now.from in
    let to = c.args.listing.now.to in
    record {
      faults = refl;
      some = ([], none_in from to, Appends-nil old);
      told = λ honest v is. ([], no_files from to, Appends-nil old);
    }

pub loop-at-preserved : goal.loop-at-preserved
loop-at-preserved g c =
    let old = g.W.Write.contents c.args.output.now in
    let now = g.W.Write.contents c.loop-at.output in
    let new = g.W.Write.contents c.write_flows.new.output in
    let line = numbered_flow c.args.listing.now.format c.args.listing.now.number in
    let from = c.args.listing.now.from in
    let to = c.args.listing.now.to in
    let flows = c.in_ok-flows.flows.items in
    let s = c.args.snapshot.now.shelf in
    let grown = rw c.as_slice.ensures.value at c.in_ok-write_flows.ensures.all in
    let within : c.loop-at.at < length (kept_by_file s) =
    omega (arith, c.loop-at-test.true, c.kept_files-files.ensures, files_count s) in
    record {
      faults = c.in_ok-flows.ensures.cause.done ∙ c.loop-at.invariant.faults;
      some = any_more line from to old now new flows c.in_ok-flows.ensures.within c.loop-at.invariant.some grown;
      told = λ honest v is.
          one_more line from to (kept_by_file s) c.loop-at.at (flows_in_view from to v) (view_flows from to s v is) old
          now (c.loop-at.invariant.told honest v is) new flows within (c.in_ok-flows.ensures.given honest) grown;
    }

pub returns-clause-told : goal.returns-clause-told
returns-clause-told g c = λ honest v is.
    let line = numbered_flow c.args.listing.now.format c.args.listing.now.number in
    let from = c.args.listing.now.from in
    let to = c.args.listing.now.to in
    let s = c.args.snapshot.now.shelf in
    let told = c.loop-at.invariant.told honest v is in
    let all = subst (λ (fs : List KeptFile). AreOwnFlows from to fs told.0)
    (take_all c.loop-at.at (kept_by_file s)
    (omega (arith, c.loop-at-test.false, c.kept_files-files.ensures, files_count s))) told.1 in
    subst (λ (fs : List Flow). Appends (g.W.Write.contents c.args.output.now) (g.W.Write.contents c.loop-at.output)
    (lines line fs))
    (same_flows from to (kept_by_file s) told.0 (flows_in_view from to v) all (view_flows from to s v is)) told.2

pub returns-in_err-flows-clause-some : goal.returns-in_err-flows-clause-some
returns-in_err-flows-clause-some g c =
    let old = g.W.Write.contents c.args.output.now in
    let now = g.W.Write.contents c.loop-at.output in
    let line = numbered_flow c.args.listing.now.format c.args.listing.now.number in
    let from = c.args.listing.now.from in
    let to = c.args.listing.now.to in
    passed_on c.from_residual.result (refusal.Query (c.in_err-flows.field-0).0)
    (λ e. IsWhileListed e × HasAnyFront line from to old now) c.from_residual.ensures.1
    (tt, any_stopped line from to old now c.loop-at.invariant.some)

pub returns-in_err-flows-clause-cut : goal.returns-in_err-flows-clause-cut
returns-in_err-flows-clause-cut g c = λ honest v is.
    let e = (c.in_err-flows.field-0).0 in
    let old = g.W.Write.contents c.args.output.now in
    let now = g.W.Write.contents c.loop-at.output in
    let line = numbered_flow c.args.listing.now.format c.args.listing.now.number in
    let from = c.args.listing.now.from in
    let to = c.args.listing.now.to in
    let s = c.args.snapshot.now.shelf in
    let all = flows_in_view from to v in
    let are = view_flows from to s v is in
    let within : c.loop-at.at < length (kept_by_file s) =
    omega (arith, c.loop-at-test.true, c.kept_files-files.ensures, files_count s) in
    passed_on c.from_residual.result (refusal.Query e) (λ e. IsNoBlame e × AppendsFront old now (lines line all))
    c.from_residual.ensures.1 (
      file_blameless from to (kept_by_file s) all c.loop-at.at e are within (c.in_err-flows.ensures.given honest),
      stopped line from to (kept_by_file s) c.loop-at.at all are old now (c.loop-at.invariant.told honest v is),
    )

pub returns-in_err-write_flows-clause-some : goal.returns-in_err-write_flows-clause-some
returns-in_err-write_flows-clause-some g c =
    let e = (c.in_err-write_flows.field-0).0 in
    let old = g.W.Write.contents c.args.output.now in
    let now = g.W.Write.contents c.loop-at.output in
    let new = g.W.Write.contents c.write_flows.new.output in
    let line = numbered_flow c.args.listing.now.format c.args.listing.now.number in
    let from = c.args.listing.now.from in
    let to = c.args.listing.now.to in
    let flows = c.in_ok-flows.flows.items in
    let front = rw c.as_slice.ensures.value at c.in_err-write_flows.ensures.cut in
    passed_on c.from_residual-in_err-write_flows.result (of_text e)
    (λ e. IsWhileListed e × HasAnyFront line from to old new) c.from_residual-in_err-write_flows.ensures.1 (
      text_asks e,
      any_cut line from to old now new flows c.in_ok-flows.ensures.within c.loop-at.invariant.some front,
    )

pub returns-in_err-write_flows-clause-cut : goal.returns-in_err-write_flows-clause-cut
returns-in_err-write_flows-clause-cut g c = λ honest v is.
    let e = (c.in_err-write_flows.field-0).0 in
    let old = g.W.Write.contents c.args.output.now in
    let now = g.W.Write.contents c.loop-at.output in
    let new = g.W.Write.contents c.write_flows.new.output in
    let line = numbered_flow c.args.listing.now.format c.args.listing.now.number in
    let from = c.args.listing.now.from in
    let to = c.args.listing.now.to in
    let flows = c.in_ok-flows.flows.items in
    let s = c.args.snapshot.now.shelf in
    let all = flows_in_view from to v in
    let front = rw c.as_slice.ensures.value at c.in_err-write_flows.ensures.cut in
    let within : c.loop-at.at < length (kept_by_file s) =
    omega (arith, c.loop-at-test.true, c.kept_files-files.ensures, files_count s) in
    passed_on c.from_residual-in_err-write_flows.result (of_text e)
    (λ e. IsNoBlame e × AppendsFront old new (lines line all)) c.from_residual-in_err-write_flows.ensures.1 (
      text_blameless e,
      cut_off line from to (kept_by_file s) c.loop-at.at all (view_flows from to s v is) old now
          (c.loop-at.invariant.told honest v is) new flows within (c.in_ok-flows.ensures.given honest) front,
    )

pub returns-in_err-write_flows-clause-cause : goal.returns-in_err-write_flows-clause-cause
returns-in_err-write_flows-clause-cause g c =
    other_than _ (of_text (c.in_err-write_flows.field-0).0) _ _ c.from_residual-in_err-write_flows.result
    c.from_residual-in_err-write_flows.ensures.1 (text_is_no_fault (c.in_err-write_flows.field-0).0)
    (c.in_ok-flows.ensures.cause.done ∙ c.loop-at.invariant.faults)
