use Rattle.std.proofs.Common.{◌≡◌, List, ◌++◌, length}
use Rattle.std.specs.List.{flat_map, AllByRecursion}
use Rattle.flow_manifest.specs.declared.manifest.Entry.{Entry}
use Rattle.flow_manifest.specs.Manifest.{entry_octets, FitsEntry}
use Rattle.flow_manifest.proofs.decoding.entries_of.Given as goal

abbrev pub invariant-loop-rest : goal.invariant-loop-rest
invariant-loop-rest l = record {
  fit : AllByRecursion FitsEntry l.entries.items;
  read : flat_map entry_octets l.entries.items ++ l.rest ≡ l.octets;
  others : (all : List Entry) → flat_map entry_octets all ≡ l.octets
      → (left : List Entry) × (flat_map entry_octets left ≡ l.rest);
}

abbrev pub decreases-loop-rest : goal.decreases-loop-rest
decreases-loop-rest l = length l.rest
