use Rattle.std.proofs.Common.{◌≡◌, ◌++◌, ◌∷◌, [], ◌∙◌, ℕ, List, take, subst, sym, refl, ap}
use Rattle.flow_memory_directory.specs.declared.deed.Deed.{Deed}
use Rattle.flow_memory_directory.specs.declared.deed.Deed.TheVariants.{Cut}
use Rattle.flow_memory_directory.specs.Bound.{bound, made, IsSound}
use Rattle.flow_memory_directory.specs.Memory.{deeds_of}
use Rattle.flow_memory_directory.specs.Nodes.{octets_in, device_in}
use Rattle.flow_memory_directory.proofs.At.{sound_at, told_all, changes_at}
use Rattle.flow_memory_directory.proofs.Images.{cut_sound}
use Rattle.flow_memory_directory.proofs.Rules.{truncating}
use Rattle.flow_memory_directory.proofs.memory.MemoryDirectory.cut_node.Goals.{After-push_reserved}
use Rattle.flow_memory_directory.proofs.memory.MemoryDirectory.cut_node.Goals as goal

log : (c : After-push_reserved) → c.push_reserved.new.self.items ≡ c.args.self.now.log.items ++ (Cut c.args.file c.args.count) ∷ []
log c = c.push_reserved.ensures.items ∙ ap (λ (l : List Deed). l ++ (Cut c.args.file c.args.count) ∷ []) c.reserve.ensures.items

sound : (c : After-push_reserved) → IsSound (made (bound (deeds_of c.args.self.now) c.args.file) (Cut c.args.file c.args.count)) (octets_in c.cut.new.self) (device_in c.cut.new.self)
sound c = subst (λ (l : List ℕ). IsSound (made (bound (deeds_of c.args.self.now) c.args.file) (Cut c.args.file c.args.count)) l (device_in c.cut.new.self)) (sym c.in_ok-cut.ensures.done.octets_are)
    (subst (λ (l : List ℕ). IsSound (made (bound (deeds_of c.args.self.now) c.args.file) (Cut c.args.file c.args.count)) (take c.args.count c.index_mut.result.now.octets.items) l)
    (sym c.in_ok-cut.ensures.done.device_is)
    (cut_sound (bound (deeds_of c.args.self.now) c.args.file) (bound (deeds_of c.args.self.now) c.args.file).reads c.index_mut.result.now.octets.items (device_in c.index_mut.result.now) c.args.count (sound_at c.args.self.now c.in_ok-index.index c.args.file c.index_mut.result.now c.in_ok-index.ensures.found.0 c.in_ok-index.ensures.found.1 c.index_mut.ensures.value)))

pub invariant_of-self-2 : goal.invariant_of-self-2
invariant_of-self-2 c = record { sound = told_all c.args.self.now c.in_ok-index.index c.index_mut.result.now c.cut.new.self (Cut c.args.file c.args.count) c.in_ok-index.ensures.found.0 c.in_ok-index.ensures.found.1 c.index_mut.ensures.value (sound c) _ (log c) }

pub returns-clause-done : goal.returns-clause-done
returns-clause-done c =
    let after = (goal.at.returns-clause-done c).After-push_reserved in
    changes_at c.args.self.now c.in_ok-index.index c.index_mut.result.now c.cut.new.self (Cut c.args.file c.args.count) c.in_ok-index.ensures.found.0 c.in_ok-index.ensures.found.1 c.index_mut.ensures.value (sound after) _ refl (log after) _
    (truncating (bound (deeds_of c.args.self.now) c.args.file) (made (bound (deeds_of c.args.self.now) c.args.file) (Cut c.args.file c.args.count)) c.index_mut.result.now c.cut.new.self c.args.count c.in_ok-cut.ensures.done refl)
