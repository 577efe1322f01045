use Rattle.std.proofs.Common.{subst, arith}
use Rattle.std.proofs.lemmas.List.{take_all}
use Rattle.flow_snapshot.specs.Files.{rollup_of, is_honest_sum}
use Rattle.flow_snapshot.specs.Shares.{IsFileSum}
use Rattle.flow_snapshot.proofs.LeftOut.{file_passed, none_yet, one_kept_too, one_left, Kept}
use Rattle.flow_snapshot.proofs.passing.sums_within.Goals as goal
use Rattle.flow_snapshot.proofs.passing.sums_within.Goals.{then-not-is_outside+in_ok-try_clone+in_ok-push, else-not-is_outside}

pub loop-part-init : goal.loop-part-init
loop-part-init g c = λ honest.
    none_yet (IsFileSum c.args.width) c.args.from c.args.to rollup_of is_honest_sum c.new-kept.result.items c.new-kept.ensures.items

pub loop-part-preserved : goal.loop-part-preserved
loop-part-preserved g c = λ honest.
    let part = c.deref.result.now in
    elim c.if-not-is_outside.branch [
      | then-not-is_outside+in_ok-try_clone+in_ok-push w ↦ rw w.kept-is
          (one_kept_too (IsFileSum c.args.width) c.args.from c.args.to rollup_of is_honest_sum c.args.parts.now
          c.loop-part.kept.items c.loop-part.part-index c.part-item.result part c.loop-part-test.true c.part-item.is
          c.deref.ensures honest (c.loop-part.invariant honest) w.push.new.self.items w.in_ok-try_clone.field-0
          w.in_ok-push.ensures.items w.in_ok-try_clone.ensures)
      | else-not-is_outside w ↦ rw w.kept-is
          (one_left (IsFileSum c.args.width) c.args.from c.args.to rollup_of is_honest_sum c.args.parts.now
          c.loop-part.kept.items c.loop-part.part-index c.part-item.result part c.loop-part-test.true c.part-item.is
          c.deref.ensures honest (c.loop-part.invariant honest)
          (λ own. file_passed part c.args.width c.args.from c.args.to (omega arith)
          (c.is_outside.ensures.whole w.if-not-is_outside.false own)))
    ]

pub returns-clause-honest : goal.returns-clause-honest
returns-clause-honest g c = λ honest. (c.loop-part.invariant honest).honest

pub returns-clause-left : goal.returns-clause-left
returns-clause-left g c = λ honest.
    let all = take_all c.loop-part.part-index c.args.parts.now c.loop-part-test.false in
    (subst (λ l. Kept (IsFileSum c.args.width) c.args.from c.args.to rollup_of is_honest_sum l c.loop-part.kept.items) all
    (c.loop-part.invariant honest)).left
