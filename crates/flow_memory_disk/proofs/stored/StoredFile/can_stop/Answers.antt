use Rattle.std.proofs.Common.{◌≡◌, ℕ, ◌<◌, Bool, List, length, sym, subst, arith, ◌==◌}
use Rattle.std.specs.Prelude.{IsTrue, not}
use Rattle.std.proofs.lemmas.Bool.Decides.{nat_tests}
use Rattle.flow_memory_disk.specs.declared.choice.Choice.{Choice}
use Rattle.flow_memory_disk.specs.declared.stored.StoredFile.{StoredFile}
use Rattle.flow_memory_disk.specs.Stopping.{CanStop}
use Rattle.flow_memory_disk.proofs.stored.StoredFile.can_stop.Goals as goal

some : (octets : List ℕ) (b : Bool) → b ≡ (length octets == 0) → IsTrue (not b) → 0 < length octets
some octets b same is = grind (arith, nat_tests)

not_none : (octets : List ℕ) (b : Bool) → b ≡ (length octets == 0) → 0 < length octets → IsTrue (not b)
not_none octets b same is = grind (arith, nat_tests)

pub returns-in-Filled : goal.returns-in-Filled
returns-in-Filled c =
    let file = c.args.self.now in
    let octets = c.in-Filled.octets in (
      λ is. subst (λ (k : Choice). CanStop file k) (sym c.in-Filled.is) (some octets.now _ c.is_empty.ensures is),
      λ can. not_none octets.now _ c.is_empty.ensures (subst (λ (k : Choice). CanStop file k) c.in-Filled.is can),
    )
