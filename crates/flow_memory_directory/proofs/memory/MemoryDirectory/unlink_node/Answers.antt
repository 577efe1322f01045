use Rattle.std.proofs.Common.{◌≡◌, ◌++◌, ◌∷◌, [], ◌∙◌, List, refl, ap}
use Rattle.flow_memory_directory.specs.declared.deed.Deed.{Deed}
use Rattle.flow_memory_directory.specs.declared.deed.Deed.TheVariants.{Unlinked}
use Rattle.flow_memory_directory.specs.Bound.{bound, made, IsSound}
use Rattle.flow_memory_directory.specs.Memory.{deeds_of}
use Rattle.flow_memory_directory.specs.Nodes.{octets_in, device_in}
use Rattle.flow_memory_directory.proofs.At.{told_all, changes_at}
use Rattle.flow_memory_directory.proofs.Images.{given_sound}
use Rattle.flow_memory_directory.proofs.Names.{unlinking_either}
use Rattle.flow_memory_directory.proofs.memory.MemoryDirectory.unlink_node.Goals.{After-push_reserved}
use Rattle.flow_memory_directory.proofs.memory.MemoryDirectory.unlink_node.Goals as goal

log : (c : After-push_reserved) → c.push_reserved.new.self.items ≡ c.args.self.now.log.items ++ (Unlinked c.args.file) ∷ []
log c = c.push_reserved.ensures.items ∙ ap (λ (l : List Deed). l ++ (Unlinked c.args.file) ∷ []) c.reserve.ensures.items

sound : (c : After-push_reserved) → IsSound (made (bound (deeds_of c.args.self.now) c.args.file) (Unlinked c.args.file)) (octets_in c.unlink.new.self) (device_in c.unlink.new.self)
sound c = given_sound (bound (deeds_of c.args.self.now) c.args.file) (bound (deeds_of c.args.self.now) c.args.file).reads (octets_in c.unlink.new.self) (device_in c.unlink.new.self)

pub invariant_of-self-2 : goal.invariant_of-self-2
invariant_of-self-2 c = record { sound = told_all c.args.self.now c.in_ok-index.index c.index_mut.result.now c.unlink.new.self (Unlinked c.args.file) c.in_ok-index.ensures.found.0 c.in_ok-index.ensures.found.1 c.index_mut.ensures.value (sound c) _ (log c) }

pub returns-clause-done : goal.returns-clause-done
returns-clause-done c =
    let after = (goal.at.returns-clause-done c).After-push_reserved in
    changes_at c.args.self.now c.in_ok-index.index c.index_mut.result.now c.unlink.new.self (Unlinked c.args.file) c.in_ok-index.ensures.found.0 c.in_ok-index.ensures.found.1 c.index_mut.ensures.value (sound after) _ refl (log after) _
    (unlinking_either (bound (deeds_of c.args.self.now) c.args.file) (made (bound (deeds_of c.args.self.now) c.args.file) (Unlinked c.args.file)) c.index_mut.result.now c.unlink.new.self c.in_ok-linked.ensures.done c.in_ok-linked.ensures.none
    c.in_ok-linked.linked c.in_ok-linked.ensures.linked)
