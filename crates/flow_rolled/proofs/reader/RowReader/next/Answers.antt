use Rattle.std.proofs.Common.{◌≡◌, ◌<◌, ◌≤◌, sym, ap, subst, ◌∙◌, arith}
use Rattle.std.specs.Prelude.{IsTrue, IfNone, IfOk, IfSome}
use Rattle.flow_rolled.specs.declared.cursor.Cursor.{Cursor}
use Rattle.flow_rolled.specs.Stored.{Reader, HasGiven, HasRead, Gives}
use Rattle.flow_rolled.proofs.Pieces.{same_reader, reader_at, gives, step_on, step_end, step_further, step_given}
use Rattle.flow_rolled.proofs.Pieces.{step_last}
use Rattle.flow_rolled.proofs.reader.RowReader.next.Given.{Over}
use Rattle.flow_rolled.proofs.reader.RowReader.next.Goals as goal

-- what the reader was
reader_was : (g : Over) (c : goal.After-step g)
    → reader_at c.self.inside.part.now c.fill.new.self ≡ c.args.self.now
reader_was g c =
    let fill = c.in_ok-fill.ensures in
    same_reader c.self.inside.part.now c.self.inside.cursor c.fill.new.self fill.same fill.filled.place
    ∙ c.self.view_is

-- and where its file ended
end_was : (g : Over) (c : goal.After-step g) → c.fill.new.self.window.end ≡ c.args.self.now.part.length
end_was g c =
    c.in_ok-fill.ensures.filled.end ∙ c.self.invariant.1 ∙ ap (λ (r : Reader). r.part.length) c.self.view_is

pub invariant_of-self-2 : goal.invariant_of-self-2
invariant_of-self-2 g c =
    let mid = c.fill.new.self in
    let new = c.step.new.self in
    let fill = c.in_ok-fill.ensures in
    let steps = c.step.ensures.steps in (
      omega (arith, c.step.ensures.width, ap (λ (q : Cursor). q.width) fill.same, c.self.invariant.0),
      step_end c.file.result mid new c.step.result steps ∙ fill.filled.end ∙ c.self.invariant.1,
      c.self.invariant.2,
      λ honest. step_on c.self.inside.part.now.octets c.file.result mid new c.step.result
          (fill.on honest (c.self.invariant.3 honest)) steps,
    )

pub returns-clause-further : goal.returns-clause-further
returns-clause-further g c =
    let mid = c.fill.new.self in
    let new = c.step.new.self in
    let went = step_further c.file.result mid new c.step.result c.step.ensures.within c.step.ensures.steps in
    subst (λ n. IfOk c.step.result (λ o. IfSome o (λ _. (n < new.window.place)
    × (new.window.place ≤ c.args.self.now.part.length)))) (ap (λ (r : Reader). r.place) (reader_was g c))
    (subst (λ n. IfOk c.step.result (λ o. IfSome o (λ _. (mid.window.place < new.window.place)
    × (new.window.place ≤ n)))) (end_was g c) went)

pub returns-clause-last : goal.returns-clause-last
returns-clause-last g c =
    let mid = c.fill.new.self in
    let ended = step_last c.file.result mid c.step.new.self c.step.result c.step.ensures.steps in
    subst (λ n. IfOk c.step.result (λ o. IfNone o (n ≡ c.args.self.now.part.length)))
    (ap (λ (r : Reader). r.place) (reader_was g c))
    (subst (λ n. IfOk c.step.result (λ o. IfNone o (mid.window.place ≡ n))) (end_was g c) ended)

pub returns-clause-given : goal.returns-clause-given
returns-clause-given g c = λ rows so.
    let before = subst (λ (q : Reader). HasGiven q rows) (sym (reader_was g c)) so in
    step_given rows c.file.result c.fill.new.self c.step.new.self c.step.result before.0 c.step.ensures.steps before.1

pub returns-clause-gives : goal.returns-clause-gives
returns-clause-gives g c = λ honest rows so.
    let part = c.self.inside.part.now in
    let mid = c.fill.new.self in
    let fill = c.in_ok-fill.ensures in
    let was = reader_was g c in
    let truly = subst (λ (q : Reader). IsTrue q.part.honest) (sym was) honest in
    let size = c.self.invariant.2 truly ∙ sym (fill.filled.end ∙ c.self.invariant.1) in
    subst (λ (q : Reader). Gives q rows c.step.result (reader_at part c.step.new.self)) was
    (gives part rows c.file.result mid c.step.new.self c.step.result c.file.ensures c.step.ensures.wide size
    c.step.ensures.within (fill.on truly (c.self.invariant.3 truly)) fill.filled.ready c.step.ensures.steps
    (subst (λ (q : Reader). HasRead q rows) (sym was) so))
