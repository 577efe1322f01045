use Rattle.std.proofs.Common.{◌≡◌, ◌++◌, ◌∷◌, [], ◌∙◌, ℕ, List, subst, sym, refl, ap}
use Rattle.flow_disk.specs.Disk.{IsImage, settled_at}
use Rattle.flow_memory_directory.specs.declared.deed.Deed.{Deed}
use Rattle.flow_memory_directory.specs.declared.deed.Deed.TheVariants.{Settled}
use Rattle.flow_memory_directory.specs.Bound.{bound, made, IsSound}
use Rattle.flow_memory_directory.specs.Memory.{deeds_of}
use Rattle.flow_memory_directory.specs.Nodes.{octets_in, device_in}
use Rattle.flow_memory_directory.proofs.At.{sound_at, told_all}
use Rattle.flow_memory_directory.proofs.At.{keeps_told_at}
use Rattle.flow_disk.proofs.Images.{settled_one}
use Rattle.flow_memory_directory.proofs.Images.{settled_sound}
use Rattle.flow_memory_directory.proofs.Rules.{syncing_whole}
use Rattle.flow_memory_directory.proofs.memory.MemoryDirectory.sync_whole.Goals.{After-push_reserved}
use Rattle.flow_memory_directory.proofs.memory.MemoryDirectory.sync_whole.Goals as goal

log : (c : After-push_reserved) → c.push_reserved.new.self.items ≡ c.args.self.now.log.items ++ (Settled c.args.file c.in_ok-octets.octets) ∷ []
log c = c.push_reserved.ensures.items ∙ ap (λ (l : List Deed). l ++ (Settled c.args.file c.in_ok-octets.octets) ∷ []) c.reserve.ensures.items

sound : (c : After-push_reserved) → IsSound (made (bound (deeds_of c.args.self.now) c.args.file) (Settled c.args.file c.in_ok-octets.octets)) (octets_in c.sync_whole.new.self) (device_in c.sync_whole.new.self)
sound c = subst (λ (l : List ℕ). IsSound (settled_at c.in_ok-octets.octets.items) l (device_in c.sync_whole.new.self))
    (c.in_ok-octets.ensures.octets ∙ sym c.in_ok-octets.ensures.done.octets_are)
    (settled_sound c.in_ok-octets.octets.items (device_in c.sync_whole.new.self) (c.in_ok-octets.ensures.same ∙ sym c.in_ok-octets.ensures.octets))

fewer : (c : After-push_reserved) (image : List ℕ) → IsImage (made (bound (deeds_of c.args.self.now) c.args.file) (Settled c.args.file c.in_ok-octets.octets)) image → IsImage (bound (deeds_of c.args.self.now) c.args.file) image
fewer c image is = subst (λ (l : List ℕ). IsImage (bound (deeds_of c.args.self.now) c.args.file) l)
    (sym (settled_one c.in_ok-octets.octets.items image is ∙ c.in_ok-octets.ensures.octets)) (sound_at c.args.self.now c.in_ok-index.index c.args.file c.index_mut.result.now c.in_ok-index.ensures.found.0 c.in_ok-index.ensures.found.1 c.index_mut.ensures.value).memory

pub invariant_of-self-2 : goal.invariant_of-self-2
invariant_of-self-2 c = record { sound = told_all c.args.self.now c.in_ok-index.index c.index_mut.result.now c.sync_whole.new.self (Settled c.args.file c.in_ok-octets.octets) c.in_ok-index.ensures.found.0 c.in_ok-index.ensures.found.1 c.index_mut.ensures.value (sound c) _ (log c) }

pub returns-clause-done : goal.returns-clause-done
returns-clause-done c =
    let after = (goal.at.returns-clause-done c).After-push_reserved in
    keeps_told_at c.args.self.now c.in_ok-index.index c.index_mut.result.now c.sync_whole.new.self (Settled c.args.file c.in_ok-octets.octets) c.in_ok-index.ensures.found.0 c.in_ok-index.ensures.found.1 c.index_mut.ensures.value (sound after) (fewer after) _ refl (log after) _
    (syncing_whole (bound (deeds_of c.args.self.now) c.args.file) (made (bound (deeds_of c.args.self.now) c.args.file) (Settled c.args.file c.in_ok-octets.octets)) c.index_mut.result.now c.sync_whole.new.self c.in_ok-octets.ensures.done (device_in c.index_mut.result.now) (sound_at c.args.self.now c.in_ok-index.index c.args.file c.index_mut.result.now c.in_ok-index.ensures.found.0 c.in_ok-index.ensures.found.1 c.index_mut.ensures.value)
    (ap (λ (l : List ℕ). settled_at l) c.in_ok-octets.ensures.octets))
