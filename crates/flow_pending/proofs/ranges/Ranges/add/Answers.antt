use Rattle.std.proofs.Common.{rules, ◌<◌, inl, inr, sym, subst, length, List}
use Rattle.std.proofs.lemmas.List.Quantifiers.{Any-push}
use Rattle.flow_pending.specs.declared.ranges.Range.{Range}
use Rattle.flow_pending.specs.Written.{IsWithin, IsWritten}
use Rattle.flow_pending.proofs.Joined.{grows, stands, pushed, alone}
use Rattle.flow_pending.proofs.ranges.Ranges.add.Goals as goal

pub returns-in-Some-clause-before : goal.returns-in-Some-clause-before
returns-in-Some-clause-before c =
    grows c.args.self.now.ranges.items c.in-Some.index c.index.result.now c.joined.result
    (subst (λ (l : List Range). c.in-Some.index < length l) c.deref.ensures.value c.in-Some.ensures) c.index.ensures
    (λ place within. c.joined.ensures place (inl within))

pub returns-in-Some-clause-now : goal.returns-in-Some-clause-now
returns-in-Some-clause-now c place within =
    stands c.args.self.now.ranges.items c.in-Some.index c.joined.result
    (subst (λ (l : List Range). c.in-Some.index < length l) c.deref.ensures.value c.in-Some.ensures) place
    (c.joined.ensures place (inr within))

pub returns-then-len-lt-MOST-clause-before : goal.returns-then-len-lt-MOST-clause-before
returns-then-len-lt-MOST-clause-before c place written =
    subst (λ (l : List Range). IsWritten l place) (sym c.push_reserved.ensures.items)
    (pushed c.args.self.now.ranges.items c.args.range place written)

pub returns-then-len-lt-MOST-clause-now : goal.returns-then-len-lt-MOST-clause-now
returns-then-len-lt-MOST-clause-now c place within =
    subst (λ (l : List Range). IsWritten l place) (sym c.push_reserved.ensures.items)
    (Any-push (λ (r : Range). IsWithin r place) c.args.self.now.ranges.items c.args.range within)

pub returns-else-len-lt-MOST-clause-before : goal.returns-else-len-lt-MOST-clause-before
returns-else-len-lt-MOST-clause-before c place written =
    subst (λ (l : List Range). IsWritten l place) (sym c.truncate.ensures.items)
    (alone c.args.self.now.ranges.items c.hull.result (search rules) place
    (c.hull.ensures.others place
    (subst (λ (l : List Range). IsWritten l place) (sym c.deref-else-len-lt-MOST.ensures.value) written)))

pub returns-else-len-lt-MOST-clause-now : goal.returns-else-len-lt-MOST-clause-now
returns-else-len-lt-MOST-clause-now c place within =
    subst (λ (l : List Range). IsWritten l place) (sym c.truncate.ensures.items)
    (alone c.args.self.now.ranges.items c.hull.result (search rules) place (c.hull.ensures.this place within))
