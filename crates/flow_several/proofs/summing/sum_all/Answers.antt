use Rattle.std.proofs.Common.{◌∙◌, Ok, ap, arith, length, refl, subst}
use Rattle.std.specs.Prelude.{IsOk, OnOk}
use Rattle.flow_several.specs.Several.{readings}
use Rattle.flow_several.specs.Turns.{Awaits}
use Rattle.flow_several.proofs.Faults.{none_failed, nothing_failed, refused_by}
use Rattle.flow_several.proofs.AnswersInTurn.{all_left, joined_err, joined_ok, ready_first, when_done}
use Rattle.flow_several.proofs.OneByOne.{all_summed, first_refused, none_summed, summed_more}
use Rattle.flow_several.proofs.summing.sum_all.Goals as goal

pub answers-init : goal.answers-init
answers-init g c =
    let disks = c.args.disks.items in
    let sums = c.of-sums.result in
    let none = c.of-sums.ensures.answers in
    let left = c.of-sums.ensures.left in
    record {
      count = omega (arith, ap length none, ap length left);
      summed = λ honest.
          none_summed (readings g.D.Disk disks) (Awaits g.D.Disk sums.archives.answers.items sums.archives.left.items)
          c.new-all.result.sums c.new-all.ensures
          (all_left g.D.Disk sums.archives.answers.items sums.archives.left.items disks none left honest);
      ready = ready_first g.D.Disk sums.archives.answers.items sums.archives.left.items disks none left c.requires;
      faults = refl;
    }

pub answers-preserved : goal.answers-preserved
answers-preserved g c =
    let old = c.answers.sums in
    let new = c.next.new.self in
    let waits = Awaits g.D.Disk old.archives.answers.items old.archives.left.items in
    let later = Awaits g.D.Disk new.archives.answers.items new.archives.left.items in
    let done = subst (λ r. OnOk r (IsOk c.in-Some.answer)) c.in-Ok.is c.sums_with.ensures.done in
    let few = when_done c.in-Some.answer _ done c.in-Some.ensures.count in
    record {
      count = omega (arith, few, c.answers.invariant.count);
      summed = λ honest.
          summed_more (readings g.D.Disk c.args.disks.items) waits c.answers.place c.answers.all.sums
          (c.answers.invariant.summed honest) later c.in-Ok.more.sums
          (joined_ok waits later c.in-Some.answer c.in-Some.ensures.answer c.answers.all c.sums_with.result
          c.sums_with.ensures.summed c.in-Ok.more c.in-Ok.is c.sums_with.ensures.done);
      ready = c.next.ensures.ready;
      faults = none_failed c.in-Ok.more _ _ c.sums_with.result c.in-Ok.is
          (c.sums_with.ensures.cause _ _ c.in-Some.ensures.cause) ∙ c.answers.invariant.faults;
    }

pub returns-in-Err-clause-refused : goal.returns-in-Err-clause-refused
returns-in-Err-clause-refused g c = λ honest.
    let old = c.answers.sums in
    let new = c.next.new.self in
    let waits = Awaits g.D.Disk old.archives.answers.items old.archives.left.items in
    let later = Awaits g.D.Disk new.archives.answers.items new.archives.left.items in
    first_refused (readings g.D.Disk c.args.disks.items) waits c.answers.place c.answers.all.sums
    (c.answers.invariant.summed honest) c.in-Err.error
    (joined_err waits later c.in-Some.answer c.in-Some.ensures.answer c.answers.all c.sums_with.result
    c.sums_with.ensures.summed c.in-Err.error c.in-Err.is)

pub returns-in-Err-clause-cause : goal.returns-in-Err-clause-cause
returns-in-Err-clause-cause g c =
    refused_by _ c.in-Err.error _ _ _ _ c.answers.invariant.faults c.in-Err.is
    (c.sums_with.ensures.cause _ _ c.in-Some.ensures.cause)

pub returns-clause-summed : goal.returns-clause-summed
returns-clause-summed g c = λ honest.
    let old = c.answers.sums in
    all_summed (readings g.D.Disk c.args.disks.items) (Awaits g.D.Disk old.archives.answers.items old.archives.left.items)
    c.answers.place c.answers.all.sums (c.answers.invariant.summed honest) c.in_default.ensures.end

pub returns-clause-cause : goal.returns-clause-cause
returns-clause-cause g c =
    nothing_failed _ _ (Ok c.answers.all) (c.in_default.ensures.still ∙ c.answers.invariant.faults) tt
