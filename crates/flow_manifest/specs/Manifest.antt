-- Manifests, and their octets. All numbers are big-endian.
use Rattle.std.specs.Prelude.{◌≡◌, ◌≢◌, ℕ, ◌+◌, ◌*◌, ◌/◌, ◌%◌, ◌<◌, ◌≤◌, ◌^◌, List, [], ◌∷◌, ◌++◌, length}
use Rattle.std.specs.List.{flat_map, sum_by, AllByRecursion}
use Rattle.std.specs.Int.{w16, w32, w64, to_be_bytes}
use Rattle.flow_manifest.specs.Limits.{greatest_width, least_limit, greatest_limit, most_entries, too_many_messages}
use Rattle.flow_manifest.specs.declared.manifest.Kind.{Kind}
use Rattle.flow_manifest.specs.declared.manifest.Kind.TheVariants.{Wide, Rolled, Sealed, Active}
use Rattle.flow_manifest.specs.declared.manifest.Entry.{Entry}
use Rattle.flow_manifest.specs.declared.manifest.Manifest.{Manifest}
use Rattle.flow_manifest.specs.declared.head.Head.{Head}

-- ---- valid manifests

-- the numbers before the entries
abbrev pub head_of : Manifest → Head
head_of m = record {
  generation = m.generation;
  width = m.width;
  wide = m.wide;
  limit = m.limit;
  next = m.next;
  rolled = m.rolled;
  second = m.second;
  count = length m.entries;
}

-- each number fits its octets
pub record FitsHead (h : Head) : Type 0 where
  pub generation : h.generation < 2 ^ 64
  pub width : h.width < 2 ^ 32
  pub wide : h.wide < 2 ^ 32
  pub limit : h.limit < 2 ^ 32
  pub next : h.next < 2 ^ 64
  pub rolled : h.rolled < 2 ^ 64
  pub second : h.second < 2 ^ 64
  pub count : h.count < 2 ^ 32

pub record FitsEntry (entry : Entry) : Type 0 where
  pub prefix : entry.prefix < 2 ^ 32
  pub file : entry.file < 2 ^ 64
  pub octets : entry.length < 2 ^ 64
  pub messages : entry.messages < 2 ^ 64

-- Intervals of 1 to 86,400 seconds, the wide ones made of whole narrow ones; segments of 65,535 to 16,777,216 octets; 1
-- to 4,096 entries.
pub record IsInRange (h : Head) : Type 0 where
  pub width_from : 1 ≤ h.width
  pub wide_from : h.width ≤ h.wide
  pub wide_to : h.wide ≤ greatest_width
  pub wide_multiple : h.wide % h.width ≡ 0
  pub limit_from : least_limit ≤ h.limit
  pub limit_to : h.limit ≤ greatest_limit
  pub count_from : 1 ≤ h.count
  pub count_to : h.count ≤ most_entries

abbrev pub rank : Kind → ℕ
rank Wide = 0
rank Rolled = 1
rank Sealed = 2
rank Active = 3

-- wide entries, then rolled ones, then sealed ones, and last the one active entry
abbrev pub IsInOrder : List Entry → Type 0
IsInOrder [] = ⊥
IsInOrder (entry ∷ []) = rank entry.kind ≡ 3
IsInOrder (entry ∷ next ∷ others) = (rank entry.kind < 3) × (rank entry.kind ≤ rank next.kind)
    × IsInOrder (next ∷ others)

-- no two entries have one file
abbrev pub HaveOwnFiles : List Entry → Type 0
HaveOwnFiles [] = Unit {0}
HaveOwnFiles (entry ∷ others) = AllByRecursion (λ other. other.file ≢ entry.file) others × HaveOwnFiles others

-- what an entry counts, by its kind
abbrev pub HasShape : ℕ → Kind → Entry → Type 0
HasShape limit Wide entry = (entry.prefix ≡ 0) × (1 ≤ entry.messages)
HasShape limit Rolled entry = (entry.prefix ≡ 0) × (1 ≤ entry.messages)
HasShape limit Sealed entry = (1 ≤ entry.messages) × (entry.prefix + 16 ≤ entry.length)
    × (entry.length ≤ entry.prefix + limit)
HasShape limit Active entry = (entry.length ≡ 0) × (entry.messages ≡ 0)

pub record IsEntry (limit next : ℕ) (entry : Entry) : Type 0 where
  pub fits : FitsEntry entry
  pub file_from : 3 ≤ entry.file
  pub file_below : entry.file < next
  pub shape : HasShape limit entry.kind entry

-- the messages of an entry that the second cut counts
abbrev pub wide_messages : Kind → ℕ → ℕ
wide_messages Wide messages = messages
wide_messages Rolled messages = 0
wide_messages Sealed messages = 0
wide_messages Active messages = 0

-- the messages of an entry that the cut counts
abbrev pub rolled_messages : Kind → ℕ → ℕ
rolled_messages Wide messages = messages
rolled_messages Rolled messages = messages
rolled_messages Sealed messages = 0
rolled_messages Active messages = 0

pub record IsValidManifest (m : Manifest) : Type 0 where
  pub fits : FitsHead (head_of m)
  pub ranges : IsInRange (head_of m)
  pub order : IsInOrder m.entries
  pub files : HaveOwnFiles m.entries
  pub each : AllByRecursion (IsEntry m.limit m.next) m.entries
  pub wide : sum_by (λ e. wide_messages e.kind e.messages) m.entries ≡ m.second
  pub cut : sum_by (λ e. rolled_messages e.kind e.messages) m.entries ≡ m.rolled
  pub all : sum_by (λ e. e.messages) m.entries < too_many_messages

-- ---- octets

abbrev pub kind_number : Kind → ℕ
kind_number Rolled = 1
kind_number Sealed = 2
kind_number Active = 3
kind_number Wide = 4

abbrev pub entry_octets : Entry → List ℕ
entry_octets e =
    to_be_bytes w32 (kind_number e.kind) ++ to_be_bytes w32 e.prefix ++ to_be_bytes w64 e.file ++
    to_be_bytes w64 e.length ++ to_be_bytes w64 e.messages

-- the two formats
pub data Format : Type 0 where
  format_1 : Format
  format_2 : Format

abbrev pub format_number : Format → ℕ
format_number format_1 = 1
format_number format_2 = 2

-- the numbers between the format and the entries: 36 octets in format 1, 48 in format 2
unfoldable pub head_octets : Format → Head → List ℕ
head_octets format_1 h =
    to_be_bytes w64 h.generation ++ to_be_bytes w32 h.width ++ to_be_bytes w32 h.limit ++ to_be_bytes w64 h.next ++
    to_be_bytes w64 h.rolled ++ to_be_bytes w32 h.count
head_octets format_2 h =
    to_be_bytes w64 h.generation ++ to_be_bytes w32 h.width ++ to_be_bytes w32 h.wide ++ to_be_bytes w32 h.limit ++
    to_be_bytes w64 h.next ++ to_be_bytes w64 h.rolled ++ to_be_bytes w64 h.second ++ to_be_bytes w32 h.count

abbrev pub head_length : Format → ℕ
head_length format_1 = 38
head_length format_2 = 50

-- What format 1 leaves out: nothing was merged, and the wide width is the greatest multiple of the width up to 86,400.
abbrev pub IsSaid : Format → Head → Type 0
IsSaid format_1 h = (h.second ≡ 0) × (h.wide ≡ greatest_width / h.width * h.width)
IsSaid format_2 h = Unit {0}

abbrev pub octets_in : Format → Manifest → List ℕ
octets_in format m =
    to_be_bytes w16 (format_number format) ++ head_octets format (head_of m) ++ flat_map entry_octets m.entries

-- the octets of a manifest, in format 2
abbrev pub manifest_octets : Manifest → List ℕ
manifest_octets m = octets_in format_2 m

-- these octets are those of a valid manifest, in either format
pub record IsBody (octets : List ℕ) (m : Manifest) : Type 0 where
  pub valid : IsValidManifest m
  pub format : Format
  pub said : IsSaid format (head_of m)
  pub is : octets ≡ octets_in format m
