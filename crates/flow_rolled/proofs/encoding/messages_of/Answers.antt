use Rattle.std.proofs.Common.{◌<◌, List, ◌++◌, length, Some, sym, ap, subst, ◌∙◌, arith}
use Rattle.std.proofs.lemmas.Bool.{eqb-true, eqb-false}
use Rattle.flow_rolled.specs.declared.row.RolledRow.{RolledRow}
use Rattle.flow_rolled.specs.Messages.{RolledMessage, messages_with}
use Rattle.flow_rolled.specs.Octets.{message_octets, messages_octets}
use Rattle.flow_rolled.proofs.Grouping.{no_length}
use Rattle.flow_rolled.proofs.WrittenParts.{IsWritten, work, none_written, place_moves, one_written, all_written}
use Rattle.flow_rolled.proofs.encoding.messages_of.Goals as goal

pub loop-left-init : goal.loop-left-init
loop-left-init c = record {
  few = tt;
  written =
      none_written c.args.width c.args.time c.args.rows.now c.new-octets.result.items c.new-octets.ensures.items;
}

pub put_message-requires-clause-few : goal.put_message-requires-clause-few
put_message-requires-clause-few c = let a = c.split_at.ensures.front_len in let b = c.next_place-place.ensures.few in
    omega (arith, a, b)

pub loop-left-smaller : goal.loop-left-smaller
loop-left-smaller c =
    let left = c.loop-left.left.now in
    let place = c.next_place-place.result in
    let some = eqb-false (length left) 0 (sym c.is_empty.ensures ∙ c.loop-left-test.true) in
    subst (λ (l : List RolledRow). work (Some place) l < work c.loop-left.before left) (sym c.split_at.ensures.back)
    (place_moves c.args.width c.args.time _ c.loop-left.octets.items c.loop-left.before left place
    c.loop-left.invariant.written
    (omega (arith, some)) c.next_place-place.ensures.is c.next_place-place.ensures.within)

pub loop-left-preserved : goal.loop-left-preserved
loop-left-preserved c =
    let w = c.args.width in
    let time = c.args.time in
    let left = c.loop-left.left.now in
    let place = c.next_place-place.result in
    let all = messages_octets w (messages_with time c.args.rows.now) in
    let some = eqb-false (length left) 0 (sym c.is_empty.ensures ∙ c.loop-left-test.true) in
    let front : List RolledRow → RolledMessage =
    λ rows. record { time = time; sequence = place.sequence; domain = place.domain; rows = rows } in
    let new = c.in_ok-put_message.ensures
    ∙ ap (λ (l : List RolledRow). c.loop-left.octets.items ++ message_octets w (front l)) c.split_at.ensures.front in
    record {
      few = c.next_place-place.ensures.few;
      written = subst (IsWritten w time all c.put_message.new.octets.items (Some place)) (sym c.split_at.ensures.back)
          (one_written w time all c.loop-left.octets.items c.put_message.new.octets.items c.loop-left.before left place
          c.loop-left.invariant.written
          (omega (arith, some)) c.next_place-place.ensures.is c.next_place-place.ensures.within new);
    }

pub returns : goal.returns
returns c = all_written c.args.width c.args.time _ c.loop-left.octets.items c.loop-left.before c.loop-left.left.now
    c.loop-left.invariant.written
    (no_length c.loop-left.left.now (eqb-true (length c.loop-left.left.now) 0 (sym c.is_empty.ensures
    ∙ c.loop-left-test.false)))
