-- What the frozen files of an archive hold, by the entries that name them.
use Rattle.std.specs.Prelude.{ℕ, List, [], ◌∷◌, take}
use Rattle.flow_manifest.specs.declared.manifest.Kind.{Kind}
use Rattle.flow_manifest.specs.declared.manifest.Kind.TheVariants.{Wide, Rolled, Sealed, Active}
use Rattle.flow_manifest.specs.declared.manifest.Entry.{Entry}
use Rattle.flow_segment.specs.Segment.{part_octets}
use Rattle.flow_snapshot.specs.Files.{cut_into}
use Rattle.flow_model.specs.State.{Part}

-- A segment is its prefix and its messages, cut off as a directory cuts them; a rolled or wide file is all `front`. On
-- a disk that isn't honest a file may hold anything, and this is what it is taken for.
abbrev pub part_at : Kind → Entry → List ℕ → Part
part_at Wide entry octets = record { front = take entry.length octets; messages = [] }
part_at Rolled entry octets = record { front = take entry.length octets; messages = [] }
part_at Sealed entry octets = record {
  front = part_octets 0 entry.prefix octets;
  messages = cut_into entry.messages (part_octets entry.prefix entry.length octets);
}
part_at Active entry octets = record { front = []; messages = [] }

-- each of these files, by the entry that names it
abbrev pub parts_at : {S : Type 0} → (S → List ℕ) → List Entry → List S → List Part
parts_at octets [] files = []
parts_at octets (entry ∷ entries) [] = []
parts_at octets (entry ∷ entries) (file ∷ files) =
    part_at entry.kind entry (octets file) ∷ parts_at octets entries files
