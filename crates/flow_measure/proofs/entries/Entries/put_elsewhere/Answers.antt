use Rattle.std.proofs.Common.{[], ◌∷◌, ◌++◌, sym, ap, ◌∙◌, arith}
use Rattle.flow_measure.specs.Entries.{map_of}
use Rattle.flow_measure.proofs.Places.{added, map_absent}
use Rattle.flow_measure.proofs.Putting.{adds_nothing}
use Rattle.flow_measure.proofs.entries.Entries.put_elsewhere.Goals as goal

pub returns-in_err-push : goal.returns-in_err-push
returns-in_err-push c =
    let none = map_absent c.args.self.now c.args.key (sym c.search.ensures ∙ c.in_default.is) in
    let same = ap map_of (c.in_err-push.ensures.err ∙ c.self.view_is) in
    adds_nothing c.from_residual.result (map_of c.args.self.now) (map_of c.push.new.self) c.args.key c.args.sums
    c.from_residual.ensures.1 none same

pub returns : goal.returns
returns c =
    let none = sym c.search.ensures ∙ c.in_default.is in
    let more = c.in_ok-push.ensures.ok ∙ ap (λ es. es ++ (c.args.key, c.args.sums) ∷ []) c.self.view_is in
    added c.args.self.now c.push.new.self c.args.key c.args.sums none (omega arith, omega arith, omega arith) more
