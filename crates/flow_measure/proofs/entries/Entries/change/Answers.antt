use Rattle.std.proofs.Common.{[], ◌∷◌, ◌++◌, Some, sym, ap, ◌∙◌, arith}
use Rattle.flow_measure.specs.declared.rows.Key.{Key}
use Rattle.flow_measure.specs.declared.rows.Sums.{Sums}
use Rattle.flow_measure.specs.Entries.{map_of, place_of, without_last}
use Rattle.flow_measure.proofs.Places.{added, map_absent, found, within, read}
use Rattle.flow_measure.proofs.Putting.{adds_nothing}
use Rattle.flow_measure.proofs.Undoing.{push_back}
use Rattle.flow_measure.proofs.entries.Entries.change.Goals as goal

pub returns-in_err-push-clause-adds : goal.returns-in_err-push-clause-adds
returns-in_err-push-clause-adds c =
    let none = map_absent c.args.self.now c.args.key (sym c.find.ensures ∙ c.in_default.is) in
    let same = ap map_of (c.in_err-push.ensures.err ∙ c.self.view_is) in
    adds_nothing c.from_residual.result (map_of c.args.self.now) (map_of c.push.new.self) c.args.key c.args.sums
    c.from_residual.ensures.1 none same

pub returns-in_default-clause-adds : goal.returns-in_default-clause-adds
returns-in_default-clause-adds c =
    let more = c.in_ok-push.ensures.ok ∙ ap (λ es. es ++ (c.args.key, c.args.sums) ∷ []) c.self.view_is in
    added c.args.self.now c.push.new.self c.args.key c.args.sums (sym c.find.ensures ∙ c.in_default.is)
    (omega arith, omega arith, omega arith) more

pub returns-in_default-clause-ok : goal.returns-in_default-clause-ok
returns-in_default-clause-ok c =
    ap without_last c.in_ok-push.ensures.ok ∙ push_back c.self.inside.items.items (c.args.key, c.args.sums)
    ∙ c.self.view_is

pub index-requires : goal.index-requires
index-requires c =
    let at = found c.args.key c.self.inside.items.items c.in-Some.place
    (ap (place_of c.args.key) c.self.view_is ∙ sym c.find.ensures ∙ c.in-Some.is) in
    omega (arith, within c.self.inside.items.items c.in-Some.place (c.args.key, at.0) at.1, c.self.inside.items.ok.0)

pub returns-clause-ok : goal.returns-clause-ok
returns-clause-ok c =
    let items = c.self.inside.items.items in
    let at = found c.args.key items c.in-Some.place
    (ap (place_of c.args.key) c.self.view_is ∙ sym c.find.ensures ∙ c.in-Some.is) in
    let here = c.index.ensures ∙ read items c.in-Some.place c.index.result.now (c.args.key, at.0) at.1 in
    let total = ap (λ (e : Key × Sums). Some (c.args.key, e.1)) (sym here) in
    c.in_ok-increase.ensures.back c.index.result.now.1 (at.1 ∙ total) ∙ c.self.view_is
