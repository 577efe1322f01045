-- The order of keys.
use Rattle.std.proofs.Common.{◌≡◌, ℕ, Bool, true, false, nat_eq, eqb-true, Option, Some, None, refl, ap}
use Rattle.std.specs.Prelude.{◌&&◌}
use Rattle.std.specs.Cmp.{IsTotalOrder, eq_by_cmp_equiv}
use Rattle.std.specs.Cmp.Lexicographic.{options_total}
use Rattle.std.specs.Option.{option_cmp, option_eq}
use Rattle.std.specs.Ordering.{nat_cmp, ordering_then, is_eq}
use Rattle.std.specs.declared.cmp.Ordering.{Ordering}
use Rattle.std.specs.declared.cmp.Ordering.TheVariants.{Less, Equal, Greater}
use Rattle.std.proofs.lemmas.Cmp.{nat_cmp_total, on_total, then_total}
use Rattle.std.proofs.lemmas.Map.Lookups.{CmpEqualImpliesEq, exact_unsigned, exact_pairs}
use Rattle.flow_measure.specs.declared.rows.Key.{Key}
use Rattle.flow_measure.specs.Sums.{key_cmp, is_key}

pub keys_total : IsTotalOrder key_cmp
keys_total = then_total (on_total (λ k. k.start) nat_cmp_total)
    (then_total (on_total (λ k. k.domain) nat_cmp_total) (on_total (λ k. k.protocol) (options_total nat_cmp_total)))

pub exact_options : CmpEqualImpliesEq (option_cmp nat_cmp)
exact_options None None h = refl
exact_options None (Some y) h = absurd cc
exact_options (Some x) None h = absurd cc
exact_options (Some x) (Some y) h = ap Some (exact_unsigned x y h)

-- keys that compare alike are one
pub exact_keys : CmpEqualImpliesEq key_cmp
exact_keys a b h = ap (λ (p : ℕ × (ℕ × Option ℕ)). record { start = p.0; domain = (p.1).0; protocol = (p.1).1 })
    (exact_pairs nat_cmp (λ (x y : ℕ × Option ℕ). ordering_then (nat_cmp x.0 y.0) (option_cmp nat_cmp x.1 y.1))
    exact_unsigned (exact_pairs nat_cmp (option_cmp nat_cmp) exact_unsigned exact_options) (
      a.start,
      (a.domain, a.protocol),
    ) (b.start, (b.domain, b.protocol)) h)

both : (a b : Bool) → (a && b) ≡ true → (a ≡ true) × (b ≡ true)
both true b h = (refl, h)
both false b h = absurd cc

same_protocol : (a b : Option ℕ) → option_eq nat_eq a b ≡ true → a ≡ b
same_protocol None None h = refl
same_protocol None (Some y) h = absurd cc
same_protocol (Some x) None h = absurd cc
same_protocol (Some x) (Some y) h = ap Some (eqb-true x y h)

-- keys whose numbers are the same are one
pub equal_keys : (a b : Key)
    → (nat_eq a.start b.start && (nat_eq a.domain b.domain && option_eq nat_eq a.protocol b.protocol)) ≡ true → a ≡ b
equal_keys a b h =
    let first = both _ _ h in
    let rest = both _ _ first.1 in
    let start : a.start ≡ b.start = eqb-true _ _ first.0 in
    let domain : a.domain ≡ b.domain = eqb-true _ _ rest.0 in
    let protocol : a.protocol ≡ b.protocol = same_protocol _ _ rest.1 in
    λ i. record { start = start i; domain = domain i; protocol = protocol i }

equal : (o : Ordering) → is_eq o ≡ true → o ≡ Equal
equal Less h = absurd cc
equal Equal h = refl
equal Greater h = absurd cc

pub same_key : (a b : Key) → is_key a b ≡ true → a ≡ b
same_key a b h = exact_keys a b (equal (key_cmp a b) h)

pub is_key-symm : (a b : Key) → is_key a b ≡ is_key b a
is_key-symm a b = (eq_by_cmp_equiv keys_total).symm a b

pub is_key-refl : (a : Key) → is_key a a ≡ true
is_key-refl a = (eq_by_cmp_equiv keys_total).refl a
