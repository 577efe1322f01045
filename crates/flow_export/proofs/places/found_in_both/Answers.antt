use Rattle.flow_export.proofs.FoundInBoth.{none_more, some_more}
use Rattle.flow_export.proofs.places.found_in_both.Goals as goal

pub returns-in-Some : goal.returns-in-Some
returns-in-Some c = rw c.in-Some.is (λ xs ys from to is few found more.
    some_more from to xs ys c.args.found c.in-Some.more c.found_later.result c.args.count is few found more
    c.found_later.ensures.before c.found_later.ensures.upto)

pub returns-in-None : goal.returns-in-None
returns-in-None c = rw c.in-None.is (λ xs ys from to is few found more.
    none_more from to xs ys c.args.found found more)
