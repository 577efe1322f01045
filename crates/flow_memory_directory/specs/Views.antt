-- The files of a directory in memory, by its nodes and the calls so far, the last one first.
use Rattle.std.specs.Prelude.{ℕ, List, []}
use Rattle.flow_directory.specs.File.{File}
use Rattle.flow_memory_directory.specs.declared.deed.Deed.{Deed}
use Rattle.flow_memory_directory.specs.declared.node.Node.{Node}
use Rattle.flow_memory_directory.specs.Bound.{bound, IsSound}
use Rattle.flow_memory_directory.specs.Nodes.{looked, octets_in, device_in, file_in, no_file}

abbrev pub files_in : List Node → List Deed → ℕ → File
files_in nodes deeds n = looked (file_in (bound deeds n)) (no_file (bound deeds n)) nodes n

-- whatever happens to a file, a stop leaves what it may
abbrev pub AllSound : List Node → List Deed → Type 0
AllSound nodes deeds = (n : ℕ) → IsSound (bound deeds n) (looked octets_in [] nodes n) (looked device_in [] nodes n)
