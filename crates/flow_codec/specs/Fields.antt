-- The fields of a data record (RFC 7011, sections 3.4.3 and 7).
use Rattle.std.specs.Prelude.{◌≡◌, ◌≢◌, ◌⊎◌, ℕ, ◌<◌, ◌^◌, List, [], ◌∷◌, ◌++◌, length, take, drop, nat_lt, ◌==◌}
use Rattle.std.specs.Prelude.{if◌then◌else◌}
use Rattle.std.specs.Int.{w16, from_be_bytes, to_be_bytes}
use Rattle.flow_elements.specs.declared.element.ElementId.{ElementId}
use Rattle.flow_codec.specs.declared.message.Field.{Field}

-- ---- as a relation

-- the octets of one field: its value of fixed length, or its value after the length in one octet or three
abbrev pub IsField : ℕ → List ℕ → List ℕ → Type 0
IsField len octets value =
    ((len ≢ 65535) × (octets ≡ value) × (length value ≡ len))
    ⊎ ((len ≡ 65535) × (length value < 255) × (octets ≡ length value ∷ value))
    ⊎ ((len ≡ 65535) × (length value < 2 ^ 16) × (octets ≡ 255 ∷ to_be_bytes w16 (length value) ++ value))

-- the fields of these specifiers, one after the other, fill the octets
abbrev pub AreFields : List (ElementId × ℕ) → List ℕ → List Field → Type 0
AreFields [] octets [] = octets ≡ []
AreFields [] octets (x ∷ xs) = ⊥
AreFields (f ∷ fs) octets [] = ⊥
AreFields (f ∷ fs) octets (x ∷ xs) = (first : List ℕ) × (more : List ℕ) × (octets ≡ first ++ more) × (x.id ≡ f.0)
    × IsField f.1 first x.octets × AreFields fs more xs

-- ---- as a function of the octets of a whole record

-- the octets that a length in one octet or three counts, and the octets after them
abbrev pub counted_of : List ℕ → List ℕ × List ℕ
counted_of [] = ([], [])
counted_of (n ∷ rest) = if nat_lt n 255 then (take n rest, drop n rest) else
    (take (from_be_bytes w16 (take 2 rest)) (drop 2 rest), drop (from_be_bytes w16 (take 2 rest)) (drop 2 rest))

-- the value of the first field, and the octets after it
abbrev pub value_of : ℕ → List ℕ → List ℕ × List ℕ
value_of len octets = if len == 65535 then counted_of octets else (take len octets, drop len octets)

unfoldable pub fields_in : List (ElementId × ℕ) → List ℕ → List Field
fields_in [] octets = []
fields_in (f ∷ fs) octets = record { id = f.0; octets = (value_of f.1 octets).0 } ∷ fields_in fs (value_of f.1 octets).1
