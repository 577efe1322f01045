use Rattle.std.proofs.Common.{◌≡◌, ◌++◌, take}
use Rattle.std.specs.List.{flat_map}
use Rattle.std.specs.Int.{w16, to_be_bytes}
use Rattle.flow_manifest.specs.Manifest.{head_octets, head_of, entry_octets, format_2}
use Rattle.flow_manifest.proofs.encoding.encode.Given as goal

abbrev pub invariant-loop-entry : goal.invariant-loop-entry
invariant-loop-entry l =
    l.octets.items ≡ to_be_bytes w16 2 ++ head_octets format_2 (head_of l.manifest) ++ flat_map entry_octets
    (take l.entry-index l.entries)
