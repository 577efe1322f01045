use Rattle.std.proofs.Common.{◌+◌, ◌++◌, ◌∙◌, ap, arith}
use Rattle.std.specs.Int.{w16, to_be_bytes}
use Rattle.flow_codec.proofs.Writing.{message_put}
use Rattle.flow_codec.proofs.prefix.put_message.Goals as goal

pub returns : goal.returns
returns c =
    message_put c.args.time c.args.due c.args.domain c.args.here.now c.args.octets.now.items c.put_u16.new.octets.items
    c.put_u16-2.new.octets.items c.put_u32.new.octets.items c.put_u32-2.new.octets.items c.put_u32-3.new.octets.items
    c.put_set.new.octets.items c.put_set-2.new.octets.items (c.set_size.result + c.set_size-2.result)
    (omega (arith, c.set_size.ensures.exact, c.set_size-2.ensures.exact)) c.in_ok-put_u16.ensures
    (c.in_ok-put_u16-2.ensures ∙ ap (λ n. c.put_u16.new.octets.items ++ to_be_bytes w16 n) (omega arith))
    c.in_ok-put_u32.ensures c.in_ok-put_u32-2.ensures c.in_ok-put_u32-3.ensures c.in_ok-put_set.ensures
    c.in_ok-put_set-2.ensures
