use Rattle.std.proofs.Common.{◌∙◌, ◌<◌, List, [], length, refl, subst, sym, arith}
use Rattle.std.proofs.lemmas.List.{take_all}
use Rattle.flow_measure.specs.Query.{flows_in_view}
use Rattle.flow_snapshot.specs.Found.{kept_by_file, AreOwnFlows, KeptFile}
use Rattle.flow_snapshot.proofs.ByFile.{file_blameless, files_count, no_files, one_file_more, same_flows, view_flows}
use Rattle.flow_snapshot.proofs.KeptFlows.{answered_err}
use Rattle.flow_snapshot.proofs.snapshot.Snapshot.flows.Goals as goal

pub loop-at-init : goal.loop-at-init
loop-at-init g c = record {
  faults = refl;
  found = λ honest. subst (AreOwnFlows c.args.from c.args.to []) (sym c.new-flows.ensures.items)
      (no_files c.args.from c.args.to);
}

pub loop-at-preserved : goal.loop-at-preserved
loop-at-preserved g c =
    let s = c.args.self.now.shelf in
    let within : c.loop-at.at < length (kept_by_file s) =
    omega (arith, c.loop-at-test.true, c.kept_files-files.ensures, files_count s) in
    record {
      faults = c.in_ok-collect_file.ensures.cause.done ∙ c.loop-at.invariant.faults;
      found = λ honest.
          one_file_more c.args.from c.args.to (kept_by_file s) c.loop-at.at c.loop-at.flows.items
          c.collect_file.new.flows.items within (c.loop-at.invariant.found honest)
          (c.in_ok-collect_file.ensures.found honest);
    }

pub returns-in_err-collect_file-clause-given : goal.returns-in_err-collect_file-clause-given
returns-in_err-collect_file-clause-given g c = λ honest v is.
    let s = c.args.self.now.shelf in
    let within : c.loop-at.at < length (kept_by_file s) =
    omega (arith, c.loop-at-test.true, c.kept_files-files.ensures, files_count s) in
    answered_err _ c.from_residual.result _ c.from_residual.ensures.1
    (file_blameless c.args.from c.args.to (kept_by_file s) (flows_in_view c.args.from c.args.to v) c.loop-at.at
    c.in_err-collect_file.field-0.0 (view_flows c.args.from c.args.to s v is) within
    (c.in_err-collect_file.ensures.given honest))

pub returns-clause-found : goal.returns-clause-found
returns-clause-found g c = λ honest.
    let s = c.args.self.now.shelf in
    subst (λ (fs : List KeptFile). AreOwnFlows c.args.from c.args.to fs c.loop-at.flows.items)
    (take_all c.loop-at.at (kept_by_file s)
    (omega (arith, c.loop-at-test.false, c.kept_files-files.ensures, files_count s)))
    (c.loop-at.invariant.found honest)

pub returns-clause-given : goal.returns-clause-given
returns-clause-given g c = λ honest v is.
    let s = c.args.self.now.shelf in
    let found = subst (λ (fs : List KeptFile). AreOwnFlows c.args.from c.args.to fs c.loop-at.flows.items)
    (take_all c.loop-at.at (kept_by_file s)
    (omega (arith, c.loop-at-test.false, c.kept_files-files.ensures, files_count s)))
    (c.loop-at.invariant.found honest) in
    same_flows c.args.from c.args.to (kept_by_file s) c.loop-at.flows.items (flows_in_view c.args.from c.args.to v) found
    (view_flows c.args.from c.args.to s v is)
