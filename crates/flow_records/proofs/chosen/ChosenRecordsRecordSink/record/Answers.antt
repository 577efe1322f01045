use Rattle.std.proofs.Common.{◌≡◌, length, refl, sym, ◌∙◌, false, true}
use Rattle.flow_codec.specs.Raw.{raw, Placed}
use Rattle.flow_records.specs.declared.chosen.ChosenRecord.{ChosenRecord}
use Rattle.flow_records.specs.declared.chosen.ChosenRecords.{ChosenRecords}
use Rattle.flow_records.specs.Records.{started}
use Rattle.flow_records.proofs.Choosing.{taken_less, taken_more}
use Rattle.flow_records.proofs.Within.{chosen_is, option_not_chosen}
use Rattle.flow_records.proofs.chosen.ChosenRecordsRecordSink.record.Goals as goal

pub returns-then-options-clause-taken : goal.returns-then-options-clause-taken
returns-then-options-clause-taken c = λ start taken h.
    let x : Placed = (c.args.header.now, raw c.args.id c.args.definition.now c.args.octets.now) in
    taken_less start c.args.self.now taken x
    (option_not_chosen c.args.self.now.from c.args.self.now.to x (sym c.options.ensures ∙ c.if-options.true)) h

pub returns-then-not-takes-clause-taken : goal.returns-then-not-takes-clause-taken
returns-then-not-takes-clause-taken c = λ start taken h.
    let x : Placed = (c.args.header.now, raw c.args.id c.args.definition.now c.args.octets.now) in
    let from = c.args.self.now.from in
    let to = c.args.self.now.to in
    taken_less start c.args.self.now taken x
    (chosen_is from to c.start_of_flow-start.result x false (sym c.options.ensures ∙ c.if-options.false)
    c.start_of_flow-start.ensures (sym c.takes.ensures ∙ c.if-not-takes.true)) h

pub returns-clause-taken : goal.returns-clause-taken
returns-clause-taken c = λ start taken h.
    let x : Placed = (c.args.header.now, raw c.args.id c.args.definition.now c.args.octets.now) in
    let from = c.args.self.now.from in
    let to = c.args.self.now.to in
    let old = c.args.self.now in
    let r : ChosenRecord = record {
      start = c.start_of_flow-start.result;
      header = c.args.header.now;
      id = c.args.id;
      definition = c.in_ok-clone.field-0;
      len = length c.args.octets.now;
    } in
    let new : ChosenRecords =
    record { records = c.push.new.self; octets = c.extend_from_slice.new.self; from = from; to = to } in
    let one : (r.start, (r.header, raw r.id r.definition c.args.octets.now)) ≡ started x =
    λ i. (
      c.start_of_flow-start.ensures i,
      (c.args.header.now, raw c.args.id (c.in_ok-clone.ensures.cases i) c.args.octets.now),
    ) in
    taken_more start old new taken x r c.args.octets.now
    (chosen_is from to c.start_of_flow-start.result x true (sym c.options.ensures ∙ c.if-options.false)
    c.start_of_flow-start.ensures (sym c.takes.ensures ∙ c.if-not-takes.false)) refl one c.in_ok-push.ensures.items
    c.in_ok-extend_from_slice.ensures.items refl refl h
