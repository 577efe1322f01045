use Rattle.std.proofs.Common.{rules, arith, ◌≤◌, ◌+◌, ap, length, drop, get_or}
use Rattle.flow_feed.proofs.Cuts.{ends_more, ends_within}
use Rattle.flow_feed.proofs.held.HeldMessages.slices.Goals as goal

pub slice_bounds-push_reserved-end : goal.slice_bounds-push_reserved-end
slice_bounds-push_reserved-end c =
    let octets = c.self.inside.octets.items in
    let ends = c.self.inside.ends.items in
    let i = c.loop-end.end-index in
    let long = ap length c.deref-end-items.ensures.value in
    let test = c.loop-end-test.true in
    let more = ends_more c.loop-end.start ends (length octets) i (omega (arith, long, test))
    c.loop-end.invariant.left in
    let within : get_or ends i 0 ≤ length octets =
    ends_within (get_or ends i 0) (drop (i + 1) ends) (length octets) more.1 in
    search rules
