-- The first fault of octets that are no manifest.
use Rattle.std.specs.Prelude.{◌≡◌, ◌≢◌, ℕ, ◌*◌, ◌<◌, ◌^◌, ◌⊎◌, List, ◌++◌, length, Result, Ok, Err}
use Rattle.std.specs.List.{flat_map}
use Rattle.std.specs.Int.{w16, to_be_bytes}
use Rattle.flow_manifest.specs.declared.manifest.Manifest.{Manifest}
use Rattle.flow_manifest.specs.declared.error.ManifestError.{ManifestError}
use Rattle.flow_manifest.specs.declared.error.ManifestError.TheVariants.{Format, Entries, Cut, OutOfMemory}
use Rattle.flow_manifest.specs.Manifest as manifest
use Rattle.flow_manifest.specs.declared.head.Head.{Head}
use Rattle.flow_manifest.specs.Manifest.{FitsHead, IsInRange, IsSaid, IsValidManifest, head_of, entry_octets}
use Rattle.flow_manifest.specs.Manifest.{format_number}
use Rattle.flow_manifest.specs.Manifest.{head_octets, head_length}

-- A number of the head is out of its range, else another count of octets follows than that of its entries, else no
-- valid manifest has this head and these entries.
abbrev pub IsFaultBehind : Head → List ℕ → ManifestError → Type 0
IsFaultBehind head rest fault =
    ((IsInRange head → ⊥) × (fault ≡ Entries))
    ⊎ (IsInRange head × (length rest ≢ 32 * head.count) × (fault ≡ Cut))
    ⊎ (IsInRange head × (length rest ≡ 32 * head.count) × ((m : Manifest) → IsValidManifest m → head_of m ≡ head
    → flat_map entry_octets m.entries ≢ rest) × (fault ≡ Entries))

-- In a known format: fewer octets than come before the entries, or a fault in the head or after it.
abbrev pub IsFaultIn : manifest.Format → List ℕ → ManifestError → Type 0
IsFaultIn format octets fault =
    ((length octets < head_length format) × (fault ≡ Cut))
    ⊎ ((head : Head) × (rest : List ℕ)
    × (octets ≡ to_be_bytes w16 (format_number format) ++ head_octets format head ++ rest) × FitsHead head
    × IsSaid format head × IsFaultBehind head rest fault)

-- No format, an unknown one, or a fault in a known one.
abbrev pub IsFault : List ℕ → ManifestError → Type 0
IsFault octets fault =
    ((length octets < 2) × (fault ≡ Cut))
    ⊎ ((number : ℕ) × (rest : List ℕ) × (octets ≡ to_be_bytes w16 number ++ rest) × (number < 2 ^ 16)
    × ((format : manifest.Format) → number ≢ format_number format) × (fault ≡ Format))
    ⊎ ((format : manifest.Format) × (rest : List ℕ) × (octets ≡ to_be_bytes w16 (format_number format) ++ rest)
    × IsFaultIn format octets fault)

-- the call answered this, unless memory ran out
abbrev pub IsDecoded : Result Manifest ManifestError → Manifest → Type 0
IsDecoded (Ok n) m = n ≡ m
IsDecoded (Err e) m = e ≡ OutOfMemory
