-- The record: of a write it keeps its place and how many octets it has; the octets of all writes are in one list, one
-- after the other.
use Rattle.std.specs.Prelude.{ℕ, ◌+◌, List, [], ◌∷◌, take, drop}
use Rattle.flow_memory_disk.specs.declared.deed.Deed.{Deed}
use Rattle.flow_memory_disk.specs.declared.deed.Deed.TheVariants.{Wrote, Cut, Synced, Abandoned, Removed}
use Rattle.flow_memory_disk.specs.Calls.{Call, written, shortened, settled, abandoned, removed}

abbrev pub octet_count : Deed → ℕ
octet_count (Wrote file at count) = count
octet_count (Cut file count) = 0
octet_count (Synced file) = 0
octet_count (Abandoned file) = 0
octet_count (Removed file) = 0

abbrev pub count_all : List Deed → ℕ
count_all [] = 0
count_all (deed ∷ deeds) = octet_count deed + count_all deeds

abbrev pub call_of : Deed → List ℕ → Call
call_of (Wrote file at count) octets = written file at (take count octets)
call_of (Cut file count) octets = shortened file count
call_of (Synced file) octets = settled file
call_of (Abandoned file) octets = abandoned file
call_of (Removed file) octets = removed file

abbrev pub calls_of : List Deed → List ℕ → List Call
calls_of [] octets = []
calls_of (deed ∷ deeds) octets = call_of deed octets ∷ calls_of deeds (drop (octet_count deed) octets)
