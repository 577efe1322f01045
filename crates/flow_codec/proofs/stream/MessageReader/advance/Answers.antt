use Rattle.std.proofs.Common.{inr, refl, arith}
use Rattle.std.proofs.lemmas.List.{length-take-le}
use Rattle.flow_codec.specs.Stream.{held}
use Rattle.flow_codec.proofs.Streaming.{message_next, none_of, taken_next, stops_at}
use Rattle.flow_codec.proofs.stream.MessageReader.advance.Goals as goal

pub returns-in-Ok-Some-clause-step : goal.returns-in-Ok-Some-clause-step
returns-in-Ok-Some-clause-step g c =
    let h = rw (c.in-Ok-Some.field-0-is, c.skip.ensures) at c.in-Ok-Some.ensures.found in
    rw (← c.self.view_is) (
      none_of _ c.in_default.not-Some,
      none_of _ c.in_default.not-Some,
      h.1,
      taken_next _ _ _ _ h.2,
      refl,
      omega arith,
      omega (arith, length-take-le c.in-Ok-Some.length (held c.find_message.new.window) h.0),
    )

pub returns-in-Ok-Some-2-clause-step : goal.returns-in-Ok-Some-2-clause-step
returns-in-Ok-Some-2-clause-step g c =
    let h = rw (c.in-Ok-Some.field-0-is, c.skip.ensures) at c.in-Ok-Some.ensures.found in
    rw (← c.self.view_is) (
      inr (none_of _ c.in_default.not-Some, (omega arith, message_next _ _ _ h.1 (taken_next _ _ _ _ h.2))),
      refl,
      refl,
      refl,
      refl,
    )

pub returns-in-Err-clause-step : goal.returns-in-Err-clause-step
returns-in-Err-clause-step g c =
    rw (← c.self.view_is) (
      inr (
        none_of _ c.in_default.not-Some,
        stops_at _ _ _ _ _ _ _ c.in-Err.error c.skip.ensures c.in-Err.ensures.found,
      ),
      refl,
      refl,
      refl,
      refl,
    )
