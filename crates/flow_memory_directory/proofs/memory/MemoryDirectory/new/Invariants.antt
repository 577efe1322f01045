use Rattle.std.proofs.Common.{◌≡◌, ℕ, [], false}
use Rattle.flow_memory_directory.specs.Nodes.{looked, octets_in, device_in}
use Rattle.flow_memory_directory.proofs.memory.MemoryDirectory.new.Given as goal

abbrev pub invariant-places : goal.invariant-places
invariant-places l = record {
  octets : (n : ℕ) → looked octets_in [] l.nodes.items n ≡ [];
  device : (n : ℕ) → looked device_in [] l.nodes.items n ≡ [];
  linked : (n : ℕ) → looked (λ node. node.linked) false l.nodes.items n ≡ false;
}
