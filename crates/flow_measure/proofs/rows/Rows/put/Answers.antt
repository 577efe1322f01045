use Rattle.std.proofs.Common.{◌≡◌, ◌<◌, None, sym, ap, subst, rules, arith}
use Rattle.std.specs.Prelude.{IfErr}
use Rattle.std.specs.FinMap.{get}
use Rattle.flow_measure.specs.declared.error.SumError.TheVariants.{OutOfMemory}
use Rattle.flow_measure.specs.Sums.{Table, IsKeyBy}
use Rattle.flow_measure.specs.Entries.{map_of}
use Rattle.flow_measure.proofs.Putting.{adds_well, gives, wants_room}
use Rattle.flow_measure.proofs.rows.Rows.put.Goals as goal

pub invariant_of-self : goal.invariant_of-self
invariant_of-self c =
    let is_key : IsKeyBy c.args.self.now.width c.args.key = record {
      aligned = c.requires.aligned;
      start = omega arith;
      domain = omega arith;
      protocol = search rules;
    } in
    let same = sym (ap (λ (v : Table). v.width) c.self.view_is) in
    let first = subst (λ (v : Table). get v.sums c.args.key ≡ None → 0 < c.args.sums.flows) (sym c.self.view_is)
    c.requires.counted in
    adds_well c.put.result c.self.inside.width (map_of c.self.inside.entries) (map_of c.put.new.self) c.args.key
    c.args.sums (subst (λ w. IsKeyBy w c.args.key) same is_key) first c.self.invariant c.put.ensures

pub returns-clause-becomes : goal.returns-clause-becomes
returns-clause-becomes c =
    gives c.put.result c.self.inside.width (map_of c.self.inside.entries) (map_of c.put.new.self) c.args.key c.args.sums
    c.args.self.now c.self.view_is c.self.invariant c.put.ensures

pub returns-clause-room : goal.returns-clause-room
returns-clause-room c =
    subst (λ (v : Table). IfErr c.put.result (λ e. e ≡ OutOfMemory → get v.sums c.args.key ≡ None)) c.self.view_is
    (wants_room c.put.result (map_of c.self.inside.entries) (map_of c.put.new.self) c.args.key c.args.sums
    c.put.ensures)
