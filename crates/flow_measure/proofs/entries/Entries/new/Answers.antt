use Rattle.std.proofs.Common.{refl}
use Rattle.flow_measure.specs.Entries.{place_of, AreOnce}
use Rattle.flow_measure.proofs.entries.Entries.new.Goals as goal

pub invariant_of-result : goal.invariant_of-result
unfolding place_of AreOnce
invariant_of-result c = rw (c.new.ensures.items, c.new-2.ensures.empty) (tt, λ key. refl)
