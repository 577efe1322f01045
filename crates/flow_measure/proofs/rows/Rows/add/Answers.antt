use Rattle.std.proofs.Common.{arith}
use Rattle.flow_measure.specs.declared.rows.Key.{Key}
use Rattle.flow_measure.specs.Sums.{IsKeyBy, counted}
use Rattle.flow_measure.specs.Entries.{map_of, table_at}
use Rattle.flow_measure.proofs.Intervals.{aligned}
use Rattle.flow_measure.proofs.Putting.{adds_well, gives_flow}
use Rattle.flow_measure.proofs.SumLaws.{added_on}
use Rattle.flow_measure.proofs.rows.Rows.add.Goals as goal

pub invariant_of-self : goal.invariant_of-self
invariant_of-self c =
    let width = c.self.inside.width in
    let flow = c.args.flow.now in
    let key : Key = record { start = c.interval_of.result; domain = flow.domain; protocol = flow.protocol } in
    let is_key : IsKeyBy width key = record {
      aligned = rw c.interval_of.ensures (aligned flow.start width c.self.invariant.0);
      start = omega arith;
      domain = c.add.ensures.typed.0;
      protocol = c.add.ensures.typed.1;
    } in
    adds_well c.add.result width (map_of c.self.inside.entries) (map_of c.add.new.self) key (counted flow) is_key
    (λ _. omega arith) c.self.invariant c.add.ensures.adds

pub returns-clause-becomes : goal.returns-clause-becomes
returns-clause-becomes c =
    gives_flow c.add.result c.self.inside.width (map_of c.self.inside.entries) (map_of c.add.new.self) c.args.flow.now
    c.args.self.now c.self.view_is c.self.invariant (rw c.interval_of.ensures at c.add.ensures.adds)

pub returns-clause-sums : goal.returns-clause-sums
returns-clause-sums c =
    added_on c.add.result c.args.self.now (table_at c.self.inside.width c.add.new.self) c.args.flow.now
    (gives_flow c.add.result c.self.inside.width (map_of c.self.inside.entries) (map_of c.add.new.self) c.args.flow.now
    c.args.self.now c.self.view_is c.self.invariant (rw c.interval_of.ensures at c.add.ensures.adds))
