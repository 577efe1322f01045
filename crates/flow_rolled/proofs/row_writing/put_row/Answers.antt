use Rattle.std.proofs.Common.{◌+◌, ◌-◌, ◌*◌, ◌++◌, ap, ◌∙◌}
use Rattle.std.specs.Int.{w64, to_be_bytes}
use Rattle.flow_rolled.specs.Octets.{protocol_octets}
use Rattle.flow_rolled.proofs.WrittenRows.{put_six}
use Rattle.flow_rolled.proofs.row_writing.put_row.Goals as goal

pub returns : goal.returns
returns c =
    let r = c.args.row.now in
    let w = c.args.width in
    put_six c.args.octets.now.items (to_be_bytes w64 (r.key.start * 1000))
    (to_be_bytes w64 ((r.key.start + w) * 1000 - 1)) (protocol_octets r.key.protocol) (to_be_bytes w64 r.flows)
    (to_be_bytes w64 r.octets) (to_be_bytes w64 r.packets)
    _ _ _ _ _ _
    (c.in_ok-put_u64.ensures ∙ ap (λ n. c.args.octets.now.items ++ to_be_bytes w64 (n * 1000)) c.from-start.ensures)
    (c.in_ok-put_u64-2.ensures
    ∙ (λ i. c.put_u64.new.octets.items ++ to_be_bytes w64 ((c.from-start.ensures i + c.from.ensures i) * 1000 - 1)))
    c.in_ok-put_protocol.ensures c.in_ok-put_u64-3.ensures c.in_ok-put_u64-4.ensures c.in_ok-put_u64-5.ensures
