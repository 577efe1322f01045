use Rattle.std.proofs.Common.{ap, map, refl, subst, ◌∙◌, []}
use Rattle.std.proofs.lemmas.List.{drop_all, take_all}
use Rattle.flow_snapshot.specs.Files.{rollup_of, shared}
use Rattle.flow_snapshot.proofs.Adding.{all_summed, file_err, file_step, next_file, no_maps}
use Rattle.flow_snapshot.proofs.Finding.{file_summed, none_summed, AreSummed}
use Rattle.flow_snapshot.proofs.summing.add_rolled.Goals as goal

pub loop-part-init : goal.loop-part-init
loop-part-init g c = record {
  faults = refl;
  found = λ honest. none_summed c.args.rows.now;
  summed = λ honest maps are. record {
    front = [];
    rest = maps;
    whole = refl;
    others = are;
    is = no_maps c.args.rows.now;
  };
}

pub loop-part-preserved : goal.loop-part-preserved
loop-part-preserved g c = record {
  faults = c.in_ok-add_file.ensures.cause.done ∙ c.loop-part.invariant.faults;
  found = λ honest. file_summed c.args.rows.now c.loop-part.rows c.add_file.new.rows c.args.parts.now
      c.loop-part.part-index c.part-item.result c.deref.result.now c.loop-part-test.true c.part-item.is c.deref.ensures
      honest (c.loop-part.invariant.found honest) c.in_ok-add_file.ensures.found c.in_ok-add_file.ensures.given;
  summed = λ honest maps are.
      let n = next_file c.args.rows.now c.loop-part.rows maps c.args.parts.now c.loop-part.part-index c.part-item.result
      c.deref.result.now c.loop-part-test.true c.part-item.is c.deref.ensures honest
      (c.loop-part.invariant.summed honest maps are) in
      file_step c.args.rows.now c.loop-part.rows c.add_file.new.rows maps c.deref.result.now.octets _ n.next
      (c.in_ok-add_file.ensures.given n.honest);
}

pub returns-in_err-add_file-clause-given : goal.returns-in_err-add_file-clause-given
returns-in_err-add_file-clause-given g c = λ honest maps are.
    let n = next_file c.args.rows.now c.loop-part.rows maps c.args.parts.now c.loop-part.part-index c.part-item.result
    c.deref.result.now c.loop-part-test.true c.part-item.is c.deref.ensures honest
    (c.loop-part.invariant.summed honest maps are) in
    file_err _ c.args.rows.now c.loop-part.rows maps c.deref.result.now.octets _ n.next c.args.first
    c.from_residual.result c.in_err-add_file.field-0.0 c.from_residual.ensures.1
    (c.in_err-add_file.ensures.given n.honest)

pub returns-clause-found : goal.returns-clause-found
returns-clause-found g c = λ honest.
    let all = take_all c.loop-part.part-index c.args.parts.now c.loop-part-test.false in
    (subst (λ ps. AreSummed c.args.rows.now (map rollup_of (shared ps)) c.loop-part.rows) all
    (c.loop-part.invariant.found honest)).1

pub returns-clause-given : goal.returns-clause-given
returns-clause-given g c = λ honest maps are.
    let none = drop_all c.loop-part.part-index c.args.parts.now c.loop-part-test.false in
    all_summed c.args.rows.now maps _ c.loop-part.rows (ap (λ ps. map rollup_of (shared ps)) none)
    (c.loop-part.invariant.summed honest maps are)
