-- The octets of a head are those of no other head.
use Rattle.std.proofs.Common.{◌≡◌, ℕ, zero, suc, ◌/◌, ◌*◌, ◌^◌, ◌<◌, List, ◌++◌, length, refl, sym, ap, ◌∙◌, arith}
use Rattle.std.specs.Int.{w16, w32, w64, to_be_bytes}
use Rattle.flow_manifest.specs.declared.head.Head.{Head}
use Rattle.flow_manifest.specs.Manifest.{FitsHead, IsSaid, Format, format_1, format_2, format_number, head_octets}
use Rattle.flow_manifest.specs.Manifest.{head_length}
use Rattle.flow_manifest.proofs.Numbers.{wide16, wide32, wide64, same_number}

abbrev with_all : ℕ → ℕ → ℕ → ℕ → ℕ → ℕ → ℕ → ℕ → Head
with_all generation width wide limit next rolled second count =
    record {
      generation = generation;
      width = width;
      wide = wide;
      limit = limit;
      next = next;
      rolled = rolled;
      second =
          second;
      count = count;
    }

all_same : (h k : Head) → h.generation ≡ k.generation → h.width ≡ k.width → h.wide ≡ k.wide → h.limit ≡ k.limit
    → h.next ≡ k.next → h.rolled ≡ k.rolled → h.second ≡ k.second → h.count ≡ k.count → h ≡ k
all_same h k generation width wide limit next rolled second count =
    let same : with_all h.generation h.width h.wide h.limit h.next h.rolled h.second h.count ≡ with_all k.generation
    k.width k.wide k.limit k.next k.rolled k.second k.count =
    rw (generation, width, wide, limit, next, rolled, second, count) refl in
    same

-- what follows in format 1 from the count, the messages rolled, .. on
abbrev one_6 : Head → List ℕ → List ℕ
one_6 h rest = to_be_bytes w32 h.count ++ rest

abbrev one_5 : Head → List ℕ → List ℕ
one_5 h rest = to_be_bytes w64 h.rolled ++ one_6 h rest

abbrev one_4 : Head → List ℕ → List ℕ
one_4 h rest = to_be_bytes w64 h.next ++ one_5 h rest

abbrev one_3 : Head → List ℕ → List ℕ
one_3 h rest = to_be_bytes w32 h.limit ++ one_4 h rest

abbrev one_2 : Head → List ℕ → List ℕ
one_2 h rest = to_be_bytes w32 h.width ++ one_3 h rest

-- the same in format 2
abbrev two_7 : Head → List ℕ → List ℕ
two_7 h rest = to_be_bytes w64 h.second ++ one_6 h rest

abbrev two_6 : Head → List ℕ → List ℕ
two_6 h rest = to_be_bytes w64 h.rolled ++ two_7 h rest

abbrev two_5 : Head → List ℕ → List ℕ
two_5 h rest = to_be_bytes w64 h.next ++ two_6 h rest

abbrev two_4 : Head → List ℕ → List ℕ
two_4 h rest = to_be_bytes w32 h.limit ++ two_5 h rest

abbrev two_3 : Head → List ℕ → List ℕ
two_3 h rest = to_be_bytes w32 h.wide ++ two_4 h rest

abbrev two_2 : Head → List ℕ → List ℕ
two_2 h rest = to_be_bytes w32 h.width ++ two_3 h rest

-- the same octets after the format begin with the same head, and the same octets follow
pub same_head : (format : Format) (h k : Head) (xs ys : List ℕ) → FitsHead h → FitsHead k → IsSaid format h
    → IsSaid format k
    → head_octets format h ++ xs ≡ head_octets format k ++ ys → (h ≡ k) × (xs ≡ ys)
unfolding head_octets
same_head format_1 h k xs ys fits_h fits_k said_h said_k e =
    let generation = same_number w64 (2 ^ 64) wide64 h.generation k.generation (one_2 h xs)
    (one_2 k ys) fits_h.generation fits_k.generation e in
    let width = same_number w32 (2 ^ 32) wide32 h.width k.width (one_3 h xs)
    (one_3 k ys) fits_h.width fits_k.width generation.1 in
    let limit = same_number w32 (2 ^ 32) wide32 h.limit k.limit (one_4 h xs)
    (one_4 k ys) fits_h.limit fits_k.limit width.1 in
    let next = same_number w64 (2 ^ 64) wide64 h.next k.next (one_5 h xs)
    (one_5 k ys) fits_h.next fits_k.next limit.1 in
    let rolled = same_number w64 (2 ^ 64) wide64 h.rolled k.rolled (one_6 h xs)
    (one_6 k ys) fits_h.rolled fits_k.rolled next.1 in
    let count = same_number w32 (2 ^ 32) wide32 h.count k.count xs ys fits_h.count fits_k.count rolled.1 in
    let wide : h.wide ≡ k.wide = said_h.1 ∙ ap (λ (w : ℕ). 86400 / w * w) width.0 ∙ sym said_k.1 in
    (all_same h k generation.0 width.0 wide limit.0 next.0 rolled.0 (said_h.0 ∙ sym said_k.0) count.0, count.1)
same_head format_2 h k xs ys fits_h fits_k said_h said_k e =
    let generation = same_number w64 (2 ^ 64) wide64 h.generation k.generation (two_2 h xs)
    (two_2 k ys) fits_h.generation fits_k.generation e in
    let width = same_number w32 (2 ^ 32) wide32 h.width k.width (two_3 h xs)
    (two_3 k ys) fits_h.width fits_k.width generation.1 in
    let wide = same_number w32 (2 ^ 32) wide32 h.wide k.wide (two_4 h xs)
    (two_4 k ys) fits_h.wide fits_k.wide width.1 in
    let limit = same_number w32 (2 ^ 32) wide32 h.limit k.limit (two_5 h xs)
    (two_5 k ys) fits_h.limit fits_k.limit wide.1 in
    let next = same_number w64 (2 ^ 64) wide64 h.next k.next (two_6 h xs)
    (two_6 k ys) fits_h.next fits_k.next limit.1 in
    let rolled = same_number w64 (2 ^ 64) wide64 h.rolled k.rolled (two_7 h xs)
    (two_7 k ys) fits_h.rolled fits_k.rolled next.1 in
    let second = same_number w64 (2 ^ 64) wide64 h.second k.second (one_6 h xs)
    (one_6 k ys) fits_h.second fits_k.second rolled.1 in
    let count = same_number w32 (2 ^ 32) wide32 h.count k.count xs ys fits_h.count fits_k.count second.1 in
    (all_same h k generation.0 width.0 wide.0 limit.0 next.0 rolled.0 second.0 count.0, count.1)

-- how many octets a format and a head have
pub head_long : (format : Format) (h : Head)
    → length (to_be_bytes w16 (format_number format) ++ head_octets format h) ≡ head_length format
unfolding head_octets
head_long format_1 h = refl
head_long format_2 h = refl

abbrev format_at : ℕ → Format
format_at zero = format_1
format_at (suc zero) = format_1
format_at (suc (suc n)) = format_2

format_again : (f : Format) → format_at (format_number f) ≡ f
format_again format_1 = refl
format_again format_2 = refl

pub same_format : (f g : Format) → format_number f ≡ format_number g → f ≡ g
same_format f g e = sym (format_again f) ∙ ap format_at e ∙ format_again g

pub format_fits : (f : Format) → format_number f < 2 ^ 16
format_fits format_1 = omega arith
format_fits format_2 = omega arith

-- octets that begin with the number of a format begin with that of no other
pub format_of : (f : Format) (number : ℕ) (xs ys : List ℕ) → number < 2 ^ 16
    → to_be_bytes w16 number ++ xs ≡ to_be_bytes w16 (format_number f) ++ ys → (number ≡ format_number f) × (xs ≡ ys)
format_of f number xs ys fits e = same_number w16 (2 ^ 16) wide16 number (format_number f) xs ys fits (format_fits f) e
