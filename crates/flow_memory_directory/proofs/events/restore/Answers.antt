use Rattle.std.proofs.Common.{rules, ap, ◌∙◌, refl, List, ℕ}
use Rattle.flow_disk.specs.Disk.{settled_at}
use Rattle.flow_memory_directory.specs.declared.deed.Deed.TheVariants.{Settled}
use Rattle.flow_memory_directory.proofs.events.restore.Goals as goal

pub returns : goal.returns
returns c = record {
  node = c.in_ok-node.node;
  deed = Settled c.args.file c.in_ok-octets.octets;
  nodes_are = search rules;
  log_is = search rules;
  restores = c.in_ok-node.ensures;
  file_is = refl;
  made_is = λ held. ap (λ (l : List ℕ). settled_at l)
      (c.in_ok-octets.ensures.items_if_clones_equal (λ x y same. same) ∙ c.deref.ensures.value);
}
