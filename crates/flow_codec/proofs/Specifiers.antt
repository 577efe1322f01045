-- The laws of specifiers.
use Rattle.std.proofs.Common.{◌≡◌, ℕ, zero, suc, ◌+◌, ◌-◌, ◌^◌, ◌≤◌, true, false, ltb, List, [], ◌∷◌, ◌++◌, length}
use Rattle.std.proofs.Common.{Option, Some, None, Ok, refl, ap, subst, ◌∙◌, append_assoc, arith, inl, inr}
use Rattle.std.specs.Int.{w16, w32, to_be_bytes}
use Rattle.std.specs.List.{AllByRecursion}
use Rattle.std.proofs.lemmas.Bool.{ltb-false, ltb-true, le-ltb, lt-ltb}
use Rattle.std.proofs.lemmas.List.Concat.{flat_map-cons}
use Rattle.flow_elements.specs.declared.element.ElementId.{ElementId}
use Rattle.flow_codec.specs.declared.error.MessageError.TheVariants.{TemplateCut}
use Rattle.flow_codec.specs.Reading.{◌>>=◌, number_at, element_at, specifier_at, specifiers_at}
use Rattle.flow_codec.specs.Layout.{specifier, specifiers, specifier_of, IsSpecifier}
use Rattle.flow_codec.proofs.Steps.{bind_ok, ok_is, chosen}
use Rattle.flow_codec.proofs.NumberLaws.{IsBytes, Takes, Takes-then, wide16, wide32, number_takes, number_again}

abbrev plain : ℕ → ℕ → ElementId × ℕ
plain number len = (record { enterprise = None; number = number }, len)

abbrev owned : ℕ → ℕ → ℕ → ElementId × ℕ
owned number len enterprise = (record { enterprise = Some enterprise; number = number }, len)

pub specifier_takes : (at : ℕ) (octets : List ℕ) (x : (ElementId × ℕ) × List ℕ) → IsBytes octets
    → specifier_at at octets ≡ Ok x → Takes octets (specifier x.0) x.1 × IsSpecifier x.0
unfolding specifier_at
specifier_takes at octets x fits e =
    let a = bind_ok (number_at (TemplateCut at) w16 octets) (λ number. number_at (TemplateCut at) w16 number.1 >>=
    λ len. element_at at number.0 len.0 len.1) x e in
    let b = bind_ok (number_at (TemplateCut at) w16 a.0.1) (λ len. element_at at a.0.0 len.0 len.1) x a.2 in
    let t0 = number_takes (TemplateCut at) w16 (2 ^ 16) wide16 octets a.0 fits a.1 in
    let t1 = number_takes (TemplateCut at) w16 (2 ^ 16) wide16 a.0.1 b.0 t0.0.rest_fits b.1 in
    elim (chosen (ltb a.0.0 32768) (Ok (plain a.0.0 b.0.0, b.0.1)) (number_at (TemplateCut at) w32 b.0.1 >>=
    λ enterprise. Ok (owned (a.0.0 - 32768) b.0.0 enterprise.0, enterprise.1)) (Ok x) b.2) [
      | inl w ↦
          let both = Takes-then octets (to_be_bytes w16 a.0.0) a.0.1 (to_be_bytes w16 b.0.0) b.0.1 t0.0 t1.0 in
          subst P (ok_is (plain a.0.0 b.0.0, b.0.1) x w.1) (
            both,
            record {
              number = ltb-true _ _ w.0;
              len =
                  t1.1;
              enterprise = tt;
            },
          )
      | inr w ↦
          let c = bind_ok (number_at (TemplateCut at) w32 b.0.1)
          (λ enterprise. Ok (owned (a.0.0 - 32768) b.0.0 enterprise.0, enterprise.1)) x w.1 in
          let t2 = number_takes (TemplateCut at) w32 (2 ^ 32) wide32 b.0.1 c.0 t1.0.rest_fits c.1 in
          let big : 32768 ≤ a.0.0 = ltb-false _ _ w.0 in
          let back : a.0.0 ≡ a.0.0 - 32768 + 32768 = omega arith in
          let e12 = Takes-then a.0.1 (to_be_bytes w16 b.0.0) b.0.1 (to_be_bytes w32 c.0.0) c.0.1 t1.0 t2.0 in
          let first : Takes octets (to_be_bytes w16 (a.0.0 - 32768 + 32768)) a.0.1 =
          subst (λ (n : ℕ). Takes octets (to_be_bytes w16 n) a.0.1) back t0.0 in
          let all = Takes-then octets (to_be_bytes w16 (a.0.0 - 32768 + 32768)) a.0.1
          (to_be_bytes w16 b.0.0 ++ to_be_bytes w32 c.0.0) c.0.1 first e12 in
          subst P (ok_is (owned (a.0.0 - 32768) b.0.0 c.0.0, c.0.1) x c.2) (
            all,
            record { number = omega (arith, t0.1); len = t1.1; enterprise = t2.1 },
          )
    ]
  where
    P : (ElementId × ℕ) × List ℕ → Type 0
    P y = Takes octets (specifier y.0) y.1 × IsSpecifier y.0

again : (at : ℕ) (enterprise : Option ℕ) (number len : ℕ) (rest : List ℕ)
    → IsSpecifier (record { enterprise = enterprise; number = number }, len)
    → specifier_at at (specifier_of enterprise number len ++ rest) ≡ Ok
    ((record { enterprise = enterprise; number = number }, len), rest)
unfolding specifier_at
again at None number len rest h =
    let regrouped : specifier_of None number len ++ rest ≡ to_be_bytes w16 number ++ (to_be_bytes w16 len ++ rest) =
    append_assoc (to_be_bytes w16 number) (to_be_bytes w16 len) rest in
    let small : ltb number 32768 ≡ true = lt-ltb _ _ h.number in
    ap (specifier_at at) regrouped
    ∙ rw (
      number_again (TemplateCut at) w16 (2 ^ 16) wide16 number (to_be_bytes w16 len ++ rest)
          (omega (arith, h.number)),
      number_again (TemplateCut at) w16 (2 ^ 16) wide16 len rest h.len,
      small,
    ) refl
again at (Some enterprise) number len rest h =
    let regrouped : specifier_of (Some enterprise) number len ++ rest ≡ to_be_bytes w16 (number + 32768) ++
    (to_be_bytes w16 len ++ (to_be_bytes w32 enterprise ++ rest)) =
    append_assoc (to_be_bytes w16 (number + 32768)) (to_be_bytes w16 len ++ to_be_bytes w32 enterprise) rest
    ∙ ap (λ (t : List ℕ). to_be_bytes w16 (number + 32768) ++ t)
    (append_assoc (to_be_bytes w16 len) (to_be_bytes w32 enterprise) rest) in
    let big : ltb (number + 32768) 32768 ≡ false = le-ltb _ _ (omega arith) in
    let back : number + 32768 - 32768 ≡ number = omega arith in
    ap (specifier_at at) regrouped
    ∙ rw (
      number_again (TemplateCut at) w16 (2 ^ 16) wide16 (number + 32768)
          (to_be_bytes w16 len ++ (to_be_bytes w32 enterprise ++ rest)) (omega (arith, h.number)),
      number_again (TemplateCut at) w16 (2 ^ 16) wide16 len (to_be_bytes w32 enterprise ++ rest) h.len,
      big,
      number_again (TemplateCut at) w32 (2 ^ 32) wide32 enterprise rest h.enterprise,
      back,
    ) refl

pub specifier_again : (at : ℕ) (f : ElementId × ℕ) (rest : List ℕ) → IsSpecifier f
    → specifier_at at (specifier f ++ rest) ≡ Ok (f, rest)
specifier_again at f rest h = again at f.0.enterprise f.0.number f.1 rest h

pub specifiers_take : (at n : ℕ) (octets : List ℕ) (x : List (ElementId × ℕ) × List ℕ) → IsBytes octets
    → specifiers_at at n octets ≡ Ok x → Takes octets (specifiers x.0) x.1 × (length x.0 ≡ n)
    × AllByRecursion IsSpecifier x.0
unfolding specifiers_at
specifiers_take at zero octets x fits e =
    subst (λ (y : List (ElementId × ℕ) × List ℕ). Takes octets (specifiers y.0) y.1 × (length y.0 ≡ 0)
    × AllByRecursion IsSpecifier y.0) (ok_is ([], octets) x e) (record { parts = refl; rest_fits = fits }, refl, tt)
specifiers_take at (suc n) octets x fits e =
    let a = bind_ok (specifier_at at octets) (λ first. specifiers_at at n first.1 >>=
    λ others. Ok (first.0 ∷ others.0, others.1)) x e in
    let b = bind_ok (specifiers_at at n a.0.1) (λ others. Ok (a.0.0 ∷ others.0, others.1)) x a.2 in
    let first = specifier_takes at octets a.0 fits a.1 in
    let second = specifiers_take at n a.0.1 b.0 first.0.rest_fits b.1 in
    let both = Takes-then octets (specifier a.0.0) a.0.1 (specifiers b.0.0) b.0.1 first.0 second.0 in
    let made : List (ElementId × ℕ) × List ℕ = (a.0.0 ∷ b.0.0, b.0.1) in
    subst (λ (y : List (ElementId × ℕ) × List ℕ). Takes octets (specifiers y.0) y.1 × (length y.0 ≡ suc n)
    × AllByRecursion IsSpecifier y.0) (ok_is made x b.2) (
      rw flat_map-cons both,
      ap suc second.1,
      (first.1, second.2),
    )

pub specifiers_again : (at : ℕ) (fs : List (ElementId × ℕ)) (rest : List ℕ) → AllByRecursion IsSpecifier fs
    → specifiers_at at (length fs) (specifiers fs ++ rest) ≡ Ok (fs, rest)
unfolding specifiers_at
specifiers_again at [] rest fits = refl
specifiers_again at (f ∷ fs) rest fits =
    let regrouped : specifiers (f ∷ fs) ++ rest ≡ specifier f ++ (specifiers fs ++ rest) =
    ap (λ (x : List ℕ). x ++ rest) (flat_map-cons specifier f fs)
    ∙ append_assoc (specifier f) (specifiers fs) rest in
    ap (specifiers_at at (suc (length fs))) regrouped
    ∙ rw (specifier_again at f (specifiers fs ++ rest) fits.0, specifiers_again at fs rest fits.1) refl
