-- The texts of octets in tables.
use Rattle.std.proofs.Common.{◌≡◌, ℕ, zero, suc, ◌-◌, ◌<◌, Bool, true, false, ◌&&◌, T, [], get_or, refl}
use Rattle.std.proofs.Common.{inl, inr, arith, eq-zero-or-pos, ◌+◌, ◌≤◌, ◌∷◌, drop}
use Rattle.std.proofs.lemmas.Slice.Eq.{bytes_eq-Decides}
use Rattle.std.specs.Fmt.{decimal, digits}
use Rattle.std.specs.Str.{bytes_eq}
use lib.Ieee.Fits.{and_l, and_r}
use Rattle.flow_report.specs.declared.tables.TheConstants.{HEX, DOTTED_OCTETS}
use Rattle.flow_report.specs.Lines.{hex, hex_digit}

holds : (b : Bool) → T b → b ≡ true
holds true t = refl
holds false t = absurd t

are_hex : ℕ → Bool
unfolding hex hex_digit
are_hex zero = true
are_hex (suc n) = bytes_eq (get_or HEX n []) (hex n) && are_hex n

below : (n p : ℕ) → T (are_hex n) → p < n → get_or HEX p [] ≡ hex p
unfolding are_hex
below zero p t h = absurd (omega arith)
below (suc n) p t h =
    elim (eq-zero-or-pos (n - p)) [
      | inl z ↦ let e : p ≡ n = omega arith in
          rw e ((bytes_eq-Decides (get_or HEX n []) (hex n)).0 (holds _ (and_l _ (are_hex n) t)))
      | inr g ↦ below n p (and_r _ (are_hex n) t) (omega arith)
    ]

pub HEX_at : (octet : ℕ) → octet < 256 → get_or HEX octet [] ≡ hex octet
unfolding are_hex hex hex_digit
HEX_at octet h = below 256 octet tt h

-- the octets from `first` on have their texts after so many octets of their entries
are_parts : ℕ → ℕ → ℕ → Bool
unfolding digits
are_parts before first zero = true
are_parts before first (suc n) =
    bytes_eq (drop before (get_or DOTTED_OCTETS (first + n) [])) (46 ∷ decimal (first + n)) && are_parts before first n

part_below : (before first n p : ℕ) → T (are_parts before first n) → p < n
    → drop before (get_or DOTTED_OCTETS (first + p) []) ≡ 46 ∷ decimal (first + p)
unfolding are_parts
part_below before first zero p t h = absurd (omega arith)
part_below before first (suc n) p t h =
    elim (eq-zero-or-pos (n - p)) [
      | inl z ↦ let e : p ≡ n = omega arith in
          rw e ((bytes_eq-Decides (drop before (get_or DOTTED_OCTETS (first + n) [])) (46 ∷ decimal (first + n))).0
          (holds _ (and_l _ (are_parts before first n) t)))
      | inr g ↦ part_below before first n p (and_r _ (are_parts before first n) t) (omega arith)
    ]

pub one_digit : (octet : ℕ) → octet < 10 → drop 2 (get_or DOTTED_OCTETS octet []) ≡ 46 ∷ decimal octet
unfolding are_parts digits
one_digit octet h =
    let e : 0 + octet ≡ octet = omega arith in
    let found = part_below 2 0 10 octet tt h in
    rw e at found

pub two_digits : (octet : ℕ) → 10 ≤ octet → octet < 100 → drop 1 (get_or DOTTED_OCTETS octet []) ≡ 46 ∷ decimal octet
unfolding are_parts digits
two_digits octet least h =
    let e : 10 + (octet - 10) ≡ octet = omega arith in
    let found = part_below 1 10 90 (octet - 10) tt (omega arith) in
    rw e at found

pub three_digits : (octet : ℕ) → 100 ≤ octet → octet < 256 → drop 0 (get_or DOTTED_OCTETS octet []) ≡ 46 ∷ decimal octet
unfolding are_parts digits
three_digits octet least h =
    let e : 100 + (octet - 100) ≡ octet = omega arith in
    let found = part_below 0 100 156 (octet - 100) tt (omega arith) in
    rw e at found
