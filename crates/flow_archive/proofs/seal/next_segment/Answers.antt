use Rattle.std.proofs.Common.{ℕ, List, length, ap, arith}
use Rattle.flow_archive.proofs.Chaining.{prefix_fits}
use Rattle.flow_archive.proofs.seal.next_segment.Goals as goal

pub overflow_cast-len : goal.overflow_cast-len
overflow_cast-len c = record {
  fits = omega (
    arith,
    c.len-2.ensures.value,
    ap (λ (l : List ℕ). length l) c.in_ok-prefix.ensures.ok,
    ap (λ (l : List ℕ). length l) c.in_ok-octets.ensures.octets,
    prefix_fits c.args.carry.now c.in_ok-octets.ensures.carry,
  );
}
