use Rattle.std.proofs.Common.{[], arith, refl, sym, ◌∙◌, None, Some}
use Rattle.flow_codec.specs.Raw.{RawMessage}
use Rattle.flow_segment.specs.declared.sinks.Noting.{Noting}
use Rattle.flow_segment.proofs.NotingStarts.{message_noted, none_noted}
use Rattle.flow_snapshot.proofs.kept.is_noted.Goals as goal

pub returns-in-Some : goal.returns-in-Some
returns-in-Some c = λ _.
    let w = c.in-Ok.ensures.found in
    let header = c.in-Ok.field-0 in
    let span = Some c.args.span.now in
    let old : Noting = record { records = 0; span = span; caveats = None } in
    let m : RawMessage = record { header = header; records = w.0 } in (
      λ i. omega (arith, c.type_inv.octets i),
      record { octets = c.args.octets.now; message = m; after = c.walk_message.new.templates },
      refl,
      w.1,
      refl,
      sym c.in-Some.is
          ∙ message_noted m header 0 c.walk_message.new.sink.records span c.walk_message.new.sink.span refl
          (w.2 old [] (none_noted 0 span, refl)).0,
    )
