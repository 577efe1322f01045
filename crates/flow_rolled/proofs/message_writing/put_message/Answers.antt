use Rattle.std.proofs.Common.{◌≡◌, ℕ, ◌+◌, List, ◌++◌, length, sym, ap, ◌∙◌}
use Rattle.std.specs.Int.{w16, w32, to_be_bytes}
use Rattle.flow_rolled.specs.Octets.{sets_of, message_octets}
use Rattle.flow_rolled.proofs.WrittenRows.{put_six}
use Rattle.flow_rolled.proofs.message_writing.put_message.Goals as goal

pub returns : goal.returns
unfolding message_octets
returns c =
    let sets = sets_of c.args.width c.args.rows.now in
    let len : c.len.result ≡ length sets = c.len.ensures ∙ sym c.deref.ensures.len
    ∙ ap (λ (l : List ℕ). length l) (c.deref.ensures.value ∙ c.in_ok-sets.ensures.sets) in
    put_six c.args.octets.now.items (to_be_bytes w16 10) (to_be_bytes w16 (16 + length sets))
    (to_be_bytes w32 c.args.time) (to_be_bytes w32 c.args.sequence) (to_be_bytes w32 c.args.domain) sets
    _ _ _ _ _ _
    c.in_ok-put_u16.ensures (c.in_ok-put_u16-2.ensures
    ∙ ap (λ n. c.put_u16.new.octets.items ++ to_be_bytes w16 (16 + n)) len) c.in_ok-put_u32.ensures
    c.in_ok-put_u32-2.ensures c.in_ok-put_u32-3.ensures
    (c.in_ok-extend_from_slice.ensures.items
    ∙ ap (λ (l : List ℕ). c.put_u32-3.new.octets.items ++ l) (c.deref.ensures.value ∙ c.in_ok-sets.ensures.sets))
