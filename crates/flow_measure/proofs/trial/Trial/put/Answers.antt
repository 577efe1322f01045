use Rattle.std.proofs.Common.{◌≡◌, ◌<◌, None, sym, ap, subst, rules, arith}
use Rattle.std.specs.FinMap.{get}
use Rattle.flow_measure.specs.Sums.{Table, IsKeyBy, AreSound, AllFit}
use Rattle.flow_measure.specs.Entries.{map_of, table_at}
use Rattle.flow_measure.proofs.Putting.{stays_well, becomes_so}
use Rattle.flow_measure.proofs.trial.Trial.put.Goals as goal

pub invariant_of-self : goal.invariant_of-self
invariant_of-self c =
    let width = c.self.inside.width in
    let own = table_at width c.self.inside.entries in
    let is : own ≡ c.args.self.now.1 = ap (λ (v : Table × Table). v.1) c.self.view_is in
    let is_key : IsKeyBy c.args.self.now.1.width c.args.key = record {
      aligned = c.requires.aligned;
      start = omega arith;
      domain = omega arith;
      protocol = search rules;
    } in
    let first = subst (λ (v : Table). get v.sums c.args.key ≡ None → 0 < c.args.sums.flows) (sym is)
    c.requires.counted in
    let well = stays_well c.add_once.result width (map_of c.self.inside.entries) (map_of c.add_once.new.self) c.args.key
    c.args.sums (subst (λ (v : Table). IsKeyBy v.width c.args.key) (sym is) is_key) first
    (c.self.invariant.0, c.self.invariant.1.0, c.self.invariant.1.1) c.add_once.ensures.adds c.add_once.ensures.err in (
      well.0,
      (well.1, well.2),
      (
        subst (λ es. AreSound width (map_of es)) (sym c.add_once.ensures.back) c.self.invariant.2.0,
        subst (λ es. AllFit (table_at width es)) (sym c.add_once.ensures.back) c.self.invariant.2.1,
      ),
    )

pub returns-clause-becomes : goal.returns-clause-becomes
returns-clause-becomes c =
    let width = c.self.inside.width in
    let own = table_at width c.self.inside.entries in
    let is : own ≡ c.args.self.now.1 = ap (λ (v : Table × Table). v.1) c.self.view_is in
    becomes_so c.add_once.result width (map_of c.self.inside.entries) (map_of c.add_once.new.self) c.args.key
    c.args.sums c.args.self.now.1 is (c.self.invariant.0, c.self.invariant.1.0, c.self.invariant.1.1)
    c.add_once.ensures.adds c.add_once.ensures.err
