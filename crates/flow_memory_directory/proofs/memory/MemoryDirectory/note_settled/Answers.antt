use Rattle.std.proofs.Common.{◌≡◌, ◌++◌, ◌∷◌, [], ◌∙◌, ℕ, List, subst, sym, refl, ap}
use Rattle.flow_disk.specs.Disk.{IsImage, settled_at}
use Rattle.flow_memory_directory.specs.declared.deed.Deed.{Deed}
use Rattle.flow_memory_directory.specs.declared.deed.Deed.TheVariants.{Settled}
use Rattle.flow_memory_directory.specs.Bound.{bound, IsSound}
use Rattle.flow_memory_directory.specs.Memory.{deeds_of}
use Rattle.flow_memory_directory.specs.Nodes.{octets_in, device_in}
use Rattle.flow_memory_directory.proofs.At.{sound_at}
use Rattle.flow_memory_directory.proofs.At.{noted_all, keeps_noted}
use Rattle.flow_disk.proofs.Images.{settled_one}
use Rattle.flow_memory_directory.proofs.Devices.{device_clean}
use Rattle.flow_memory_directory.proofs.Images.{settled_sound}
use Rattle.flow_memory_directory.proofs.Settling.{settles_here}
use Rattle.flow_memory_directory.proofs.memory.MemoryDirectory.note_settled.Goals.{After-push_reserved}
use Rattle.flow_memory_directory.proofs.memory.MemoryDirectory.note_settled.Goals as goal

log : (c : After-push_reserved) → c.push_reserved.new.self.items ≡ c.args.self.now.log.items ++ (Settled c.args.file c.in_ok-octets.octets) ∷ []
log c = c.push_reserved.ensures.items
    ∙ ap (λ (l : List Deed). l ++ (Settled c.args.file c.in_ok-octets.octets) ∷ []) c.reserve.ensures.items

sound : (c : After-push_reserved) → IsSound (settled_at c.in_ok-octets.octets.items) (octets_in c.index.result.now) (device_in c.index.result.now)
sound c = subst (λ (l : List ℕ). IsSound (settled_at c.in_ok-octets.octets.items) l (device_in c.index.result.now)) c.in_ok-octets.ensures.octets
    (settled_sound c.in_ok-octets.octets.items (device_in c.index.result.now)
    (device_clean c.index.result.now c.in_ok-octets.ensures.named c.in_ok-octets.ensures.clean ∙ sym c.in_ok-octets.ensures.octets))

fewer : (c : After-push_reserved) (image : List ℕ) → IsImage (settled_at c.in_ok-octets.octets.items) image → IsImage (bound (deeds_of c.args.self.now) c.args.file) image
fewer c image is = subst (λ (l : List ℕ). IsImage (bound (deeds_of c.args.self.now) c.args.file) l) (sym (settled_one c.in_ok-octets.octets.items image is ∙ c.in_ok-octets.ensures.octets))
    (sound_at c.args.self.now c.in_ok-index.index c.args.file c.index.result.now c.in_ok-index.ensures.found.0 c.in_ok-index.ensures.found.1 c.index.ensures).memory

pub invariant_of-self-2 : goal.invariant_of-self-2
invariant_of-self-2 c = record { sound = noted_all c.args.self.now c.in_ok-index.index c.index.result.now (Settled c.args.file c.in_ok-octets.octets) c.in_ok-index.ensures.found.0 c.in_ok-index.ensures.found.1 c.index.ensures (sound c) _ (log c) }

pub returns-clause-done : goal.returns-clause-done
returns-clause-done c =
    let after = (goal.at.returns-clause-done c).After-push_reserved in
    keeps_noted c.args.self.now c.in_ok-index.index c.index.result.now (Settled c.args.file c.in_ok-octets.octets) c.in_ok-index.ensures.found.0 c.in_ok-index.ensures.found.1 c.index.ensures (sound after) (fewer after) _ refl (log after) _
    (settles_here (bound (deeds_of c.args.self.now) c.args.file) (settled_at c.in_ok-octets.octets.items) c.index.result.now (device_in c.index.result.now) (sound_at c.args.self.now c.in_ok-index.index c.args.file c.index.result.now c.in_ok-index.ensures.found.0 c.in_ok-index.ensures.found.1 c.index.ensures)
    (ap (λ (l : List ℕ). settled_at l) c.in_ok-octets.ensures.octets))
