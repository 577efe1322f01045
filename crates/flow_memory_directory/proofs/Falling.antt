-- A node after a failed sync.
use Rattle.std.proofs.Common.{◌≡◌, ℕ, List, refl, sym, ◌∙◌, ap, subst, Result, Ok, Err, OnOk, OnErr}
use Rattle.flow_memory_directory.specs.declared.mark.Mark.{Mark}
use Rattle.flow_memory_directory.specs.declared.node.Node.{Node}
use Rattle.flow_memory_directory.specs.Bound.{IsBetween}
use Rattle.flow_memory_directory.specs.Marks.{mark_at}
use Rattle.flow_memory_directory.specs.Nodes.{device_in, KeepsRest, NodeFails, NodeReverts, NodeFalls}
use Rattle.flow_memory_directory.proofs.Devices.{kept_between, dropped_between, dropped_clean}

-- its pages were kept
pub falls_kept : (was mid : Node) → NodeFails was mid → NodeFalls was mid
falls_kept was mid fails = record {
  between = subst (λ (l : List ℕ). IsBetween was.octets.items (device_in was) l) (sym fails.octets_are)
      (kept_between was.octets.items (device_in was));
  clean = λ _. fails.octets_are;
  marks_are = fails.marks_are;
  size_is = fails.size_is;
  device_is = fails.device_is;
  rest = fails.rest;
}

-- they were dropped
falls_dropped : (was mid to : Node) → NodeFails was mid → NodeReverts mid to → NodeFalls was to
falls_dropped was mid to fails reverts = record {
  between = dropped_between was mid to fails reverts;
  clean = dropped_clean was mid to fails reverts;
  marks_are = λ place. ap (λ (l : List Mark). mark_at l place) reverts.marks_are ∙ fails.marks_are place;
  size_is = reverts.size_is ∙ fails.size_is;
  device_is = reverts.device_is ∙ fails.device_is;
  rest = record {
    entry_is = reverts.rest.entry_is ∙ fails.rest.entry_is;
    on_device_is = reverts.rest.on_device_is ∙ fails.rest.on_device_is;
    linked_is = reverts.rest.linked_is ∙ fails.rest.linked_is;
    read_only_is = reverts.rest.read_only_is ∙ fails.rest.read_only_is;
    lent_is = reverts.rest.lent_is ∙ fails.rest.lent_is;
  };
}

pub falls_either : {T E : Type 0} (was mid to : Node) → NodeFails was mid → (r : Result T E)
    → OnOk r (NodeReverts mid to) → OnErr r (to ≡ mid) → NodeFalls was to
falls_either was mid to fails (Ok x) done failed = falls_dropped was mid to fails done
falls_either was mid to fails (Err e) done failed =
    subst (λ (n : Node). NodeFalls was n) (sym failed) (falls_kept was mid fails)
