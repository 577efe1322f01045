use Rattle.std.proofs.Common.{◌≡◌, ◌++◌, ◌∷◌, [], ◌∙◌, ℕ, List, length, subst, sym, refl, ap}
use Rattle.flow_disk.specs.Disk.{put_at}
use Rattle.flow_memory_directory.specs.declared.deed.Deed.{Deed}
use Rattle.flow_memory_directory.specs.declared.deed.Deed.TheVariants.{Wrote}
use Rattle.flow_memory_directory.specs.Bound.{bound, made, IsSound}
use Rattle.flow_memory_directory.specs.Memory.{deeds_of}
use Rattle.flow_memory_directory.specs.Nodes.{octets_in, device_in}
use Rattle.flow_memory_directory.proofs.At.{sound_at, told_all, changes_at}
use Rattle.flow_memory_directory.proofs.Images.{put_sound}
use Rattle.flow_memory_directory.proofs.Rules.{writing}
use Rattle.flow_memory_directory.proofs.memory.MemoryDirectory.write_node.Goals.{After-push_reserved}
use Rattle.flow_memory_directory.proofs.memory.MemoryDirectory.write_node.Goals as goal

log : (c : After-push_reserved) → c.push_reserved.new.self.items ≡ c.args.self.now.log.items ++ (Wrote c.args.file c.args.at (length c.args.octets.now)) ∷ []
log c = c.push_reserved.ensures.items ∙ ap (λ (l : List Deed). l ++ (Wrote c.args.file c.args.at (length c.args.octets.now)) ∷ []) c.reserve.ensures.items

sound : (c : After-push_reserved) → IsSound (made (bound (deeds_of c.args.self.now) c.args.file) (Wrote c.args.file c.args.at (length c.args.octets.now))) (octets_in c.write.new.self) (device_in c.write.new.self)
sound c = subst (λ (l : List ℕ). IsSound (made (bound (deeds_of c.args.self.now) c.args.file) (Wrote c.args.file c.args.at (length c.args.octets.now))) l (device_in c.write.new.self)) (sym c.in_ok-write.ensures.done.octets_are)
    (subst (λ (l : List ℕ). IsSound (made (bound (deeds_of c.args.self.now) c.args.file) (Wrote c.args.file c.args.at (length c.args.octets.now))) (put_at c.index_mut.result.now.octets.items c.args.at c.args.octets.now) l)
    (sym c.in_ok-write.ensures.done.device_is)
    (put_sound (bound (deeds_of c.args.self.now) c.args.file) (bound (deeds_of c.args.self.now) c.args.file).reads c.index_mut.result.now.octets.items (device_in c.index_mut.result.now) c.args.at c.args.octets.now (sound_at c.args.self.now c.in_ok-index.index c.args.file c.index_mut.result.now c.in_ok-index.ensures.found.0 c.in_ok-index.ensures.found.1 c.index_mut.ensures.value)))

pub invariant_of-self-2 : goal.invariant_of-self-2
invariant_of-self-2 c = record { sound = told_all c.args.self.now c.in_ok-index.index c.index_mut.result.now c.write.new.self (Wrote c.args.file c.args.at (length c.args.octets.now)) c.in_ok-index.ensures.found.0 c.in_ok-index.ensures.found.1 c.index_mut.ensures.value (sound c) _ (log c) }

pub returns-clause-done : goal.returns-clause-done
returns-clause-done c =
    let after = (goal.at.returns-clause-done c).After-push_reserved in
    changes_at c.args.self.now c.in_ok-index.index c.index_mut.result.now c.write.new.self (Wrote c.args.file c.args.at (length c.args.octets.now)) c.in_ok-index.ensures.found.0 c.in_ok-index.ensures.found.1 c.index_mut.ensures.value (sound after) _ refl (log after) _
    (writing (bound (deeds_of c.args.self.now) c.args.file) (made (bound (deeds_of c.args.self.now) c.args.file) (Wrote c.args.file c.args.at (length c.args.octets.now))) c.index_mut.result.now c.write.new.self c.args.at c.args.octets.now c.in_ok-write.ensures.done refl)
