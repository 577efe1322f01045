-- Calls under the lock, from what `Locked` says of them. In each lemma the call comes first: it names the two values.
use Rattle.std.proofs.Common.{◌≡◌, ◌⊎◌, ◌↔◌, ℕ, Bool, List, [], ◌++◌, refl, sym, ◌∙◌, append-nil}
use Rattle.std.specs.Prelude.{IsTrue, Result}
use mathlib.Core.List.{IsPrefix}
use Rattle.flow_disk.specs.Cause.{HasCause}
use Rattle.flow_disk.specs.declared.disk.Disk.{Ghosts}
use Rattle.flow_manifest.specs.declared.following.JobKind.{JobKind}
use Rattle.flow_model.specs.Changes.{Change}
use Rattle.flow_model.specs.Shelf.{Shelf}
use Rattle.flow_archive.specs.declared.refusal.ArchiveError.{ArchiveError}
use Rattle.flow_archive.specs.declared.refusal.ArchiveError.TheVariants.{Fault}
use Rattle.flow_turns.specs.declared.turn.Turn.{Turn}
use Rattle.flow_turns.specs.Turns.{due, IsTurn}
use Rattle.flow_shared.specs.Calls.{IsClosedBy, IsRefusedBefore, IsSeal, IsTurnedBy}
use Rattle.flow_shared.specs.Known.{GoesOn, Refreshes, Seals, Turns, WasCalled}
use Rattle.flow_shared.specs.UnderLock.{all_of, IsAllShown, IsUnderLock, LockState}

module _ {D S X : Type 0} (g : Ghosts D S X) (opening : Shelf) (old new : LockState D) where
  goes_on : (steps : List Change) → all_of new ≡ all_of old ++ steps → IsPrefix old.made new.made
      → IsUnderLock g opening old → IsUnderLock g opening new
      → GoesOn g opening old new steps
  goes_on steps steps_are later was is = record {
    before = was;
    now = is;
    steps_are = steps_are;
    later = later;
  }

  pub was_sealed : (result : Result ℕ ArchiveError)
      → IsSeal g old.core new.core result ⊎ IsRefusedBefore old.core new.core result
      → (steps : List Change) × IsClosedBy (g.honest old.core.disk) old.core.state new.core.state result steps
      × (all_of new ≡ all_of old ++ steps)
      → HasCause Fault (g.faults old.core.disk) (g.faults new.core.disk) result
      → IsPrefix old.made new.made
      → IsUnderLock g opening old → IsUnderLock g opening new
      → WasCalled g opening (Seals g result)
  was_sealed result call steps cause later was is = record {
    old = old;
    new = new;
    steps = steps.0;
    goes_on = goes_on steps.0 steps.2 later was is;
    call = ((call, steps.1), cause);
  }

  pub was_turned : (kind : JobKind) (keep : ℕ) (result : Result Turn ArchiveError)
      → IsTurn g old.core new.core (due kind keep old.core.state) result ⊎ IsRefusedBefore old.core new.core result
      → (steps : List Change) × IsTurnedBy result steps × (all_of new ≡ all_of old ++ steps)
      → HasCause Fault (g.faults old.core.disk) (g.faults new.core.disk) result
      → IsPrefix old.made new.made
      → IsUnderLock g opening old → IsUnderLock g opening new
      → WasCalled g opening (Turns g kind keep result)
  was_turned kind keep result call steps cause later was is = record {
    old = old;
    new = new;
    steps = steps.0;
    goes_on = goes_on steps.0 steps.2 later was is;
    call = ((call, steps.1), cause);
  }

  pub was_refreshed : (shown : Bool) → IsTrue shown ↔ IsAllShown new → new.core ≡ old.core → all_of new ≡ all_of old
      → IsPrefix old.made new.made
      → IsUnderLock g opening old → IsUnderLock g opening new
      → WasCalled g opening (Refreshes shown)
  was_refreshed shown is_shown core all later was is = record {
    old = old;
    new = new;
    steps = [];
    goes_on = goes_on [] (all ∙ sym (append-nil (all_of old))) later was is;
    call = (core, refl, is_shown);
  }
