use Rattle.std.proofs.Common.{inl, inr, refl}
use Rattle.flow_several.proofs.Faults.{cause_added}
use Rattle.flow_several.proofs.AnswersInTurn.{counted, done_so, failed_so, none_left, ok_so, on_ok, ready_again, still_ready}
use Rattle.flow_several.proofs.AnswersInTurn.{taken, unasked}
use Rattle.flow_several.proofs.side_by_side.SumsOfEach.next.Goals as goal

pub returns-in-None-clause-ready : goal.returns-in-None-clause-ready
returns-in-None-clause-ready g c =
    let new = c.next.new.self in
    ready_again g.D.Disk new.answers.items new.left.items c.in-None.ensures.empty c.next.ensures.may

pub returns-in-None-clause-end : goal.returns-in-None-clause-end
returns-in-None-clause-end g c =
    let old = c.args.self.now.archives in
    none_left g.D.Disk old.answers.items old.left.items c.in-None.ensures.end

pub returns-in-Ok-clause-ready : goal.returns-in-Ok-clause-ready
returns-in-Ok-clause-ready g c =
    let old = c.args.self.now.archives in
    let new = c.next.new.self in
    still_ready g.D.Disk old.answers.items new.answers.items old.left.items new.left.items c.in-Ok.own
    (ok_so c.in-Some.answer c.in-Ok.own _ c.in-Ok.is c.in-Some.ensures.answer) c.requires c.next.ensures.may

pub returns-in-Ok-clause-answer : goal.returns-in-Ok-clause-answer
returns-in-Ok-clause-answer g c =
    let old = c.args.self.now.archives in
    let new = c.next.new.self in
    taken g.D.Disk old.answers.items new.answers.items old.left.items new.left.items c.in-Ok.own
    (ok_so c.in-Some.answer c.in-Ok.own _ c.in-Ok.is c.in-Some.ensures.answer)

pub returns-in-Ok-clause-count : goal.returns-in-Ok-clause-count
returns-in-Ok-clause-count g c =
    on_ok c.in-Ok.own.sums _ (done_so c.in-Some.answer c.in-Ok.own _ c.in-Ok.is c.in-Some.ensures.count)

pub returns-in-Ok-clause-cause : goal.returns-in-Ok-clause-cause
returns-in-Ok-clause-cause g c =
    let old = c.args.self.now.archives in
    let new = c.next.new.self in
    cause_added c.in-Ok.own.faults c.args.faults.now c.add.new.self c.in-Ok.own.sums
    (counted g.D.Disk old.answers.items new.answers.items old.left.items new.left.items c.in-Ok.own
    (ok_so c.in-Some.answer c.in-Ok.own _ c.in-Ok.is c.in-Some.ensures.answer) c.requires) c.add.ensures.none
    c.add.ensures.risen c.add.ensures.later

pub returns-in-Err-clause-ready : goal.returns-in-Err-clause-ready
returns-in-Err-clause-ready g c =
    let new = c.next.new.self in
    ready_again g.D.Disk new.answers.items new.left.items
    (failed_so c.in-Some.answer _ _ c.in-Err.is c.in-Some.ensures.none) c.next.ensures.may

pub returns-in-Err-clause-answer : goal.returns-in-Err-clause-answer
returns-in-Err-clause-answer g c = λ reads waits.
    let old = c.args.self.now.archives in
    let u = unasked g.D.Disk old.answers.items old.left.items
    (failed_so c.in-Some.answer _ _ c.in-Err.is c.in-Some.ensures.refused) reads waits in
    (u.0, u.1, u.2, inl (inr refl), tt)
