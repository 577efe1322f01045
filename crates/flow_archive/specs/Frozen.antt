-- The frozen files of an archive, and what directories have of them.
use Rattle.std.specs.Prelude.{◌≡◌, ℕ, ◌≤◌, Bool, true, false, IsTrue, List, [], ◌∷◌, take}
use Rattle.std.specs.List.{flat_map}
use Rattle.std.specs.Arc.{arc_value}
use Rattle.flow_disk.specs.declared.sealed.SealedFile.{Ghosts}
use Rattle.flow_manifest.specs.declared.manifest.Entry.{Entry}
use Rattle.flow_manifest.specs.declared.manifest.Kind.{Kind}
use Rattle.flow_manifest.specs.declared.manifest.Kind.TheVariants as kind
use Rattle.flow_manifest.specs.declared.manifest.Manifest.{Manifest}
use Rattle.flow_measure.specs.declared.span.PartSpan.{PartSpan}
use Rattle.flow_rolled.specs.Spans as rows
use Rattle.flow_rolled.specs.Stored as stored
use Rattle.flow_segment.specs.declared.sealed.SealedPart.{SealedPart}
use Rattle.flow_segment.specs.Segment.{part_octets}
use Rattle.flow_segment.specs.Spans as segment
use Rattle.flow_snapshot.specs.Files.{cut_into}
use Rattle.flow_model.specs.Shelf.{Rollup, Segment, Shelf}
use Rattle.flow_archive.specs.declared.frozen.FrozenPart.{FrozenPart}
use Rattle.flow_archive.specs.declared.frozen.FrozenPart.TheVariants.{Rolled, Sealed, Wide}
use Rattle.flow_archive.specs.declared.frozen.Owned.{Owned}
use Rattle.flow_archive.specs.declared.frozen.Owned.TheVariants.{Plain, Shared}

-- a value, however many owners it has
abbrev pub value_of : {P : Type 0} → Owned P → P
value_of (Plain value) = value
value_of (Shared arc) = arc_value arc

-- whether it may have further owners
abbrev pub is_shared : {P : Type 0} → Owned P → Bool
is_shared (Plain value) = false
is_shared (Shared arc) = true

-- A frozen file of an archive: what its entry says of it, whether it is on an honest disk, which reads as it is, its
-- octets, and whether it may have further owners.
pub record Frozen : Type 0 where
  pub entry : Entry
  pub honest : Bool
  pub octets : List ℕ
  pub shared : Bool

-- the same file, with one owner
abbrev pub unshared : Frozen → Frozen
unshared f = record f { shared = false }

-- the archive alone has it
abbrev pub IsAlone : Frozen → Type 0
IsAlone f = f.shared ≡ false

abbrev pub octets_in : Frozen → List ℕ
octets_in f = f.octets

-- a sealed segment
abbrev pub segment_file : {F X : Type 0} {files : Ghosts F X} → Bool → SealedPart F X files → Frozen
segment_file {F} {X} {files} shared p = record {
  entry = record {
    kind = kind.Sealed;
    prefix = p.prefix;
    file = files.number p.reader;
    length = p.length;
    messages = p.messages;
  };
  honest = files.honest p.reader;
  octets = files.octets p.reader;
  shared = shared;
}

-- a file of sums, over intervals of the width or wide ones
abbrev pub sums_file : Kind → Bool → stored.Rollup → Frozen
sums_file of shared p = record {
  entry = record { kind = of; prefix = 0; file = p.file; length = p.length; messages = p.messages };
  honest = p.honest;
  octets = p.octets;
  shared = shared;
}

abbrev pub frozen_of : {F X : Type 0} {files : Ghosts F X} → FrozenPart F X files → Frozen
frozen_of (Sealed part) = segment_file (is_shared part) (value_of part)
frozen_of (Rolled part) = sums_file kind.Rolled (is_shared part) (value_of part)
frozen_of (Wide part) = sums_file kind.Wide (is_shared part) (value_of part)

-- ---- the entry of a file

-- what counts of a file's octets: of sums so many as the entry says, of a segment all of them
abbrev pub counted_of : Kind → ℕ → List ℕ → List ℕ
counted_of kind.Wide count octets = take count octets
counted_of kind.Rolled count octets = take count octets
counted_of kind.Sealed count octets = octets
counted_of kind.Active count octets = octets

-- An entry may be that of a frozen file: sums have no prefix, and that of a segment ends within it.
abbrev pub MayBeFrozen : Kind → Entry → Type 0
MayBeFrozen kind.Wide entry = entry.prefix ≡ 0
MayBeFrozen kind.Rolled entry = entry.prefix ≡ 0
MayBeFrozen kind.Sealed entry = entry.prefix ≤ entry.length
MayBeFrozen kind.Active entry = ⊥

-- the file with these octets that an entry names, as its disk gives it
abbrev pub frozen_as : Entry → Bool → List ℕ → Frozen
frozen_as entry honest octets =
    record { entry = entry; honest = honest; octets = counted_of entry.kind entry.length octets; shared = false }

abbrev pub all_frozen : {S : Type 0} → (S → Bool) → (S → List ℕ) → List Entry → List S → List Frozen
all_frozen honest octets [] files = []
all_frozen honest octets (entry ∷ entries) [] = []
all_frozen honest octets (entry ∷ entries) (file ∷ files) =
    frozen_as entry (honest file) (octets file) ∷ all_frozen honest octets entries files

-- A file is held as the one that an entry names, on a disk that is honest or not.
pub record IsHeldAs (honest : Bool) (entry : Entry) (file : Frozen) : Type 0 where
  pub entry_is : file.entry ≡ entry
  pub honest_is : file.honest ≡ honest
  pub counted : counted_of entry.kind entry.length file.octets ≡ file.octets

-- one for each entry, in order
abbrev pub AreHeldAs : Bool → List Entry → List Frozen → Type 0
AreHeldAs honest [] [] = Unit {0}
AreHeldAs honest [] (file ∷ files) = ⊥
AreHeldAs honest (entry ∷ entries) [] = ⊥
AreHeldAs honest (entry ∷ entries) (file ∷ files) =
    IsHeldAs honest entry file × AreHeldAs honest entries files

-- ---- when its flows start

-- Of a file with these octets, which an entry names: the span of a segment's flows, or of the intervals by this width
-- that sums have. Such a file reads whole.
abbrev pub HasSpanAs : Kind → Entry → ℕ → List ℕ → PartSpan → Type 0
HasSpanAs kind.Wide entry width octets span = rows.HasSpan (record { width = width; span = span }) octets
HasSpanAs kind.Rolled entry width octets span = rows.HasSpan (record { width = width; span = span }) octets
HasSpanAs kind.Sealed entry width octets span =
    segment.HasSpan span (part_octets 0 entry.prefix octets) (part_octets entry.prefix entry.length octets)
    entry.messages
HasSpanAs kind.Active entry width octets span = Unit {0}

abbrev pub HasSpan : Frozen → ℕ → PartSpan → Type 0
HasSpan f width span = IsTrue f.honest → HasSpanAs f.entry.kind f.entry width f.octets span

-- the width of the intervals of a file of this kind
abbrev pub width_of : Kind → Manifest → ℕ
width_of kind.Wide m = m.wide
width_of kind.Rolled m = m.width
width_of kind.Sealed m = m.width
width_of kind.Active m = m.width

-- the spans of these files, in their order
abbrev pub HaveSpans : Manifest → List Frozen → List PartSpan → Type 0
HaveSpans m [] spans = Unit {0}
HaveSpans m (f ∷ files) [] = Unit {0}
HaveSpans m (f ∷ files) (span ∷ spans) = HasSpan f (width_of f.entry.kind m) span × HaveSpans m files spans

-- ---- what a directory has of them

abbrev pub rollup_of : Frozen → Rollup
rollup_of f = record { file = f.entry.file; messages = f.entry.messages; octets = f.octets }

abbrev pub segment_of : Frozen → Segment
segment_of f = record {
  file = f.entry.file;
  prefix = part_octets 0 f.entry.prefix f.octets;
  messages = cut_into f.entry.messages (part_octets f.entry.prefix f.entry.length f.octets);
}

-- what one file is among those of a kind: itself, or nothing
abbrev pub wide_in : Kind → Frozen → List Rollup
wide_in kind.Wide f = rollup_of f ∷ []
wide_in kind.Rolled f = []
wide_in kind.Sealed f = []
wide_in kind.Active f = []

abbrev pub rolled_in : Kind → Frozen → List Rollup
rolled_in kind.Wide f = []
rolled_in kind.Rolled f = rollup_of f ∷ []
rolled_in kind.Sealed f = []
rolled_in kind.Active f = []

abbrev pub segment_in : Kind → Frozen → List Segment
segment_in kind.Wide f = []
segment_in kind.Rolled f = []
segment_in kind.Sealed f = segment_of f ∷ []
segment_in kind.Active f = []

-- the shelf of these files, and of an active segment
abbrev pub shelf_with : ℕ → ℕ → List Frozen → List ℕ → List (List ℕ) → Shelf
shelf_with width wide files prefix active = record {
  width = width;
  wide = wide;
  merged = flat_map (λ f. wide_in f.entry.kind f) files;
  rolled = flat_map (λ f. rolled_in f.entry.kind f) files;
  sealed = flat_map (λ f. segment_in f.entry.kind f) files;
  prefix = prefix;
  active = active;
}
