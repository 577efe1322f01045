use Rattle.std.proofs.Common.{[], false, refl, inr}
use Rattle.flow_codec.specs.Raw.{RawMessage}
use Rattle.flow_segment.proofs.Restating.{none_seen, some_seen}
use Rattle.flow_segment.proofs.restated.restate.Goals as goal

pub returns-then-records : goal.returns-then-records
returns-then-records c =
    let w = c.in-Ok.ensures.found in
    let m : RawMessage = record { header = c.in-Ok.field-0; records = w.0 } in (
      refl,
      refl,
      inr (
        m,
        c.walk_message.new.templates,
        w.1,
        some_seen c.in-Ok.field-0 w.0 c.walk_message.new.sink.any c.if-records.true
            (w.2 (record { any = false }) [] (refl, refl)),
      ),
    )

pub returns-else-records : goal.returns-else-records
returns-else-records c =
    let w = c.in-Ok.ensures.found in (
      record { header = c.in-Ok.field-0; records = w.0 },
      w.1,
      none_seen c.in-Ok.field-0 w.0 c.walk_message.new.sink.any c.if-records.false
          (w.2 (record { any = false }) [] (refl, refl)),
    )
