-- What the files of a directory hold.
use Rattle.std.specs.Prelude.{ℕ, zero, suc, Bool, List, [], ◌∷◌, map, take, drop}
use Rattle.std.specs.Arc.{arc_value}
use Rattle.std.specs.declared.sync.Arc.{Arc}
use Rattle.flow_codec.specs.Cutting.{length_of}
use Rattle.flow_disk.specs.declared.sealed.SealedFile.{Ghosts}
use Rattle.flow_rolled.specs.Stored as stored
use Rattle.flow_segment.specs.declared.sealed.SealedPart.{SealedPart}
use Rattle.flow_segment.specs.Segment.{part_octets}
use Rattle.flow_model.specs.Shelf.{Rollup, Segment}

-- The messages of a sealed segment's octets, so many: each cut off by its Length field, and the last one all that is
-- left, so that octets too few or too many are no messages.
abbrev pub cut_into : ℕ → List ℕ → List (List ℕ)
cut_into zero octets = []
cut_into (suc zero) octets = octets ∷ []
cut_into (suc (suc n)) octets = take (length_of octets) octets ∷ cut_into (suc n) (drop (length_of octets) octets)

-- a sealed segment
abbrev pub segment_of : {F X : Type 0} {files : Ghosts F X} → SealedPart F X files → Segment
segment_of {F} {X} {files} p = let octets = files.octets p.reader in record {
  file = files.number p.reader;
  prefix = part_octets 0 p.prefix octets;
  messages = cut_into p.messages (part_octets p.prefix p.length octets);
}

-- whether it is on an honest disk, which reads as it is
abbrev pub is_honest : {F X : Type 0} {files : Ghosts F X} → SealedPart F X files → Bool
is_honest {F} {X} {files} p = files.honest p.reader

-- the values that several owners share, in order
abbrev pub shared : {P Z : Type 0} → List (Arc P Z) → List P
shared list = map arc_value list

-- a rolled file
abbrev pub rollup_of : stored.Rollup → Rollup
rollup_of part = record { file = part.file; messages = part.messages; octets = part.octets }

abbrev pub is_honest_sum : stored.Rollup → Bool
is_honest_sum part = part.honest
