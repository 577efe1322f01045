use Rattle.std.proofs.Common.{◌∙◌, List, [], false, reverse, sym, ap, subst}
use Rattle.flow_memory_directory.specs.declared.deed.Deed.{Deed}
use Rattle.flow_memory_directory.specs.Bound.{bound}
use Rattle.flow_memory_directory.specs.declared.node.Node.{Node}
use Rattle.flow_memory_directory.specs.Nodes.{looked, octets_in, device_in}
use Rattle.flow_memory_directory.specs.Views.{AllSound}
use Rattle.flow_memory_directory.proofs.Restoring.{push_none, linked_is, empty_sound}
use Rattle.flow_memory_directory.proofs.memory.MemoryDirectory.new.Goals as goal

pub places-preserved : goal.places-preserved
places-preserved c = record {
  octets = λ n. ap (λ (l : List Node). looked octets_in [] l n) c.in_ok-push.ensures.items
      ∙ push_none octets_in [] c.places.nodes.items c.absent.result c.absent.ensures.octets c.places.invariant.octets n;
  device = λ n. ap (λ (l : List Node). looked device_in [] l n) c.in_ok-push.ensures.items
      ∙ push_none device_in [] c.places.nodes.items c.absent.result c.absent.ensures.device c.places.invariant.device n;
  linked = λ n. ap (λ (l : List Node). looked (λ (node : Node). node.linked) false l n) c.in_ok-push.ensures.items
      ∙ push_none (λ (node : Node). node.linked) false c.places.nodes.items c.absent.result c.absent.ensures.linked
      c.places.invariant.linked n;
}

pub invariant_of-result : goal.invariant_of-result
invariant_of-result c = record {
  sound = subst (λ (l : List Deed). AllSound c.places.nodes.items l) (sym (ap reverse c.new.ensures.items))
      (empty_sound c.places.nodes.items c.places.invariant.octets c.places.invariant.device);
}

pub returns : goal.returns
returns c n = linked_is (bound (reverse c.new.result.items) n) c.places.nodes.items n ∙ c.places.invariant.linked n
