-- One archive more.
use Rattle.std.proofs.Common.{◌≡◌, ◌≢◌, ◌∙◌, ℕ, zero, suc, List, [], ◌∷◌, ◌++◌, length, map, refl, sym, ap, subst}
use Rattle.std.proofs.Common.{arith}
use Rattle.std.specs.Prelude.{Bool, true, false, ◌==◌, ◌&&◌, Option, Some, None, Result, Ok, Err, MatchResult}
use Rattle.std.specs.Prelude.{IsErrAnd}
use Rattle.std.specs.FinMap.{FinMap}
use Rattle.std.proofs.lemmas.Bool.{eq-eqb, eqb-true}
use Rattle.std.proofs.lemmas.List.{map-append}
use Rattle.flow_measure.specs.declared.error.SumError.{SumError}
use Rattle.flow_measure.specs.declared.error.SumError.TheVariants as measure
use Rattle.flow_measure.specs.declared.rows.Row.{Row}
use Rattle.flow_measure.specs.declared.rows.Sums.{Sums}
use Rattle.flow_measure.specs.Query.{narrow_table_in, rows_of_both}
use Rattle.flow_measure.specs.Sums.{key_cmp, merged, AllFit, IsRefused, Table}
use Rattle.flow_measure.specs.View.{View}
use Rattle.flow_refusals.specs.declared.read_refusal.ReadRefusal.{ReadRefusal}
use Rattle.flow_refusals.specs.declared.read_refusal.ReadRefusal.TheVariants as query
use Rattle.flow_model.specs.Shelf.{Shelf}
use Rattle.flow_model.specs.Views.{IsViewOf}
use Rattle.flow_snapshot.specs.declared.shares.PartSums.{PartSums}
use Rattle.flow_snapshot.specs.Shares.{narrow_turn, own, summed, turn_after, AllPartsFit, AreNarrow, AreWide}
use Rattle.flow_snapshot.specs.Shares.{IsOwnRead}
use Rattle.flow_snapshot.specs.Totals.{wide_table_in, IsMade, IsTotalsRefusal}
use Rattle.flow_snapshot.proofs.Dealt.{all_read}
use Rattle.flow_snapshot.proofs.ViewParts.{parts_of}
use Rattle.flow_several.specs.declared.error.TogetherError.{TogetherError}
use Rattle.flow_several.specs.declared.error.TogetherError.TheVariants.{OtherWidths, Query}
use Rattle.flow_several.specs.Together.{added, first_width, narrow_of, of_sums, rows_of_sums, totals_in_views, wide_of}
use Rattle.flow_several.specs.Together.{width_of_sums}
use Rattle.flow_several.specs.Together.{same_widths, AreJoined, AreNotJoined, ArePartSums, AreSumsOf, BothFit}
use Rattle.flow_several.specs.Together.{BothFitTogether, FitTogether}
use Rattle.flow_several.specs.Together.{HaveWidths, IsJoiningRefused, IsJoint, IsJointWith, IsUnmade, OneTableFits}

-- ---- tables

pub added-more : (t : Table) (xs : List Table) (x : Table) → added t (xs ++ x ∷ []) ≡ merged (added t xs) x
added-more t [] x = refl
added-more t (y ∷ ys) x = added-more (merged t y) ys x

pub added-width : (t : Table) (xs : List Table) → (added t xs).width ≡ t.width
added-width t [] = refl
added-width t (x ∷ xs) = added-width (merged t x) xs

narrow-more : (v u : View) (vs : List View) → narrow_of v (vs ++ u ∷ []) ≡ merged (narrow_of v vs) (narrow_table_in u)
narrow-more v u vs =
    ap (added (narrow_table_in v)) (map-append narrow_table_in vs (u ∷ []))
    ∙ added-more (narrow_table_in v) (map narrow_table_in vs) (narrow_table_in u)

wide-more : (v u : View) (vs : List View) → wide_of v (vs ++ u ∷ []) ≡ merged (wide_of v vs) (wide_table_in u)
wide-more v u vs =
    ap (added (wide_table_in v)) (map-append wide_table_in vs (u ∷ []))
    ∙ added-more (wide_table_in v) (map wide_table_in vs) (wide_table_in u)

widths-more : (width wide : ℕ) (vs : List View) (u : View) → HaveWidths width wide vs
    → (u.width ≡ width) × (u.wide ≡ wide) → HaveWidths width wide (vs ++ u ∷ [])
widths-more width wide [] u h same = (same, tt)
widths-more width wide (v ∷ vs) u h same = (h.0, widths-more width wide vs u h.1 same)

-- ---- refusals

pub unmade_for : (fit other : Type 0) → (other → fit) → (e : SumError) → IsUnmade fit e → IsUnmade other e
unmade_for fit other by measure.SumSpent h = λ o. h (by o)
unmade_for fit other by measure.OutOfMemory h = tt

-- a refused sum of two
pub refused_one : (t : Table) (fit : Type 0) → (fit → AllFit t) → (e : SumError) → IsRefused e t → IsUnmade fit e
refused_one t fit by measure.SumSpent h = λ o. h (by o)
refused_one t fit by measure.OutOfMemory h = tt

-- ---- one share that is all

one_turn : (n : ℕ) → turn_after 1 n 0 ≡ 0
one_turn zero = refl
one_turn (suc n) = one_turn n

own_all : {A : Type 0} (xs : List A) → own 1 0 0 xs ≡ xs
own_all [] = refl
own_all {A} (x ∷ xs) = ap (λ (ys : List A). x ∷ ys) (own_all xs)

-- the tables that the one share has are those of the view
module _ (s : Shelf) (v : View) (is : IsViewOf s v) where
  pub whole : (sums : PartSums)
      → ((wide narrow : List (FinMap key_cmp Sums)) → AreWide s wide → AreNarrow s narrow
      → (sums.wide ≡ summed s.wide (own 1 0 0 wide))
      × (sums.narrow ≡ summed s.width (own 1 0 (narrow_turn s 1) narrow)))
      → (sums.narrow ≡ narrow_table_in v) × (sums.wide ≡ wide_table_in v)
  whole sums given =
      let p = parts_of s v is in
      let made = given p.wide p.narrow p.are_wide p.are_narrow in (
        made.1 ∙ ap (λ (t : ℕ). summed s.width (own 1 0 t p.narrow)) (one_turn (length s.merged))
            ∙ ap (summed s.width) (own_all p.narrow) ∙ p.narrow_is,
        made.0 ∙ ap (summed s.wide) (own_all p.wide) ∙ p.wide_is,
      )

  pub unshared : (first : ℕ) (e : ReadRefusal)
      → ((wide narrow : List (FinMap key_cmp Sums)) → AreWide s wide → AreNarrow s narrow
      → IsTotalsRefusal first (AllPartsFit s wide narrow) e)
      → IsTotalsRefusal first (FitTogether (v ∷ [])) e
  unshared first (query.Damaged file at) given =
      let p = parts_of s v is in
      let told = given p.wide p.narrow p.are_wide p.are_narrow in (
        told.0,
        told.1,
        λ fit. told.2 (subst AllFit (sym p.wide_is) fit.1, subst AllFit (sym p.narrow_is) fit.0),
      )
  unshared first query.Fault given = tt
  unshared first query.OutOfMemory given = tt

-- the one share that was answered is that of all parts
pub of_parts : (s : Shelf) (sums : PartSums) → IsOwnRead s 1 0
    → ((wide narrow : List (FinMap key_cmp Sums)) → AreWide s wide → AreNarrow s narrow
    → (sums.wide ≡ summed s.wide (own 1 0 0 wide)) × (sums.narrow ≡ summed s.width (own 1 0 (narrow_turn s 1) narrow)))
    → ArePartSums s sums
of_parts s sums read given =
    let parts = all_read s 1 (omega arith)
    (λ n few. let none : 0 ≡ n = omega (arith, few) in subst (IsOwnRead s 1) none read) in
    let made = given parts.0 parts.1 parts.2 parts.3 in (
      parts.0,
      parts.1,
      parts.2,
      parts.3,
      made.0 ∙ ap (summed s.wide) (own_all parts.0),
      made.1 ∙ ap (λ (t : ℕ). summed s.width (own 1 0 t parts.1)) (one_turn (length s.merged))
          ∙ ap (summed s.width) (own_all parts.1),
    )

-- ---- sums of some archives and of one more

alike : (a b : ℕ) (c d : ℕ) → ((a == b) && (c == d)) ≡ true → (a ≡ b) × (c ≡ d)
alike a b c d is = by (a == b) (c == d) refl refl is
  where
    by : (x y : Bool) → (a == b) ≡ x → (c == d) ≡ y → (x && y) ≡ true → (a ≡ b) × (c ≡ d)
    by true true p q h = (eqb-true a b p, eqb-true c d q)
    by true false p q h = absurd cc
    by false y p q h = absurd cc

unlike : (a b : ℕ) (c d : ℕ) → ((a == b) && (c == d)) ≡ false → (a ≡ b) × (c ≡ d) → ⊥
unlike a b c d is (first, second) = by (a == b) (c == d) (eq-eqb a b first) (eq-eqb c d second) is
  where
    by : (x y : Bool) → x ≡ true → y ≡ true → (x && y) ≡ false → ⊥
    by true true p q h = cc
    by true false p q h = cc
    by false y p q h = cc

-- the widths of the first, and those of one more
module _ (all more : PartSums) (v u : View) (vs : List View) (narrow : all.narrow ≡ narrow_of v vs)
    (wide : all.wide ≡ wide_of v vs) (own : (more.narrow ≡ narrow_table_in u) × (more.wide ≡ wide_table_in u)) where
  first_narrow : all.narrow.width ≡ v.width
  first_narrow = ap (λ (t : Table). t.width) narrow ∙ added-width (narrow_table_in v) (map narrow_table_in vs)

  first_wide : all.wide.width ≡ v.wide
  first_wide = ap (λ (t : Table). t.width) wide ∙ added-width (wide_table_in v) (map wide_table_in vs)

  same_as_first : same_widths all more ≡ true → (u.width ≡ v.width) × (u.wide ≡ v.wide)
  same_as_first is =
      let same = alike all.narrow.width more.narrow.width all.wide.width more.wide.width is in (
        sym (ap (λ (t : Table). t.width) own.0) ∙ sym same.0 ∙ first_narrow,
        sym (ap (λ (t : Table). t.width) own.1) ∙ sym same.1 ∙ first_wide,
      )

  other_than_first : same_widths all more ≡ false → (u.width ≡ v.width) × (u.wide ≡ v.wide) → ⊥
  other_than_first is same = unlike all.narrow.width more.narrow.width all.wide.width more.wide.width is (
    first_narrow ∙ sym same.0 ∙ sym (ap (λ (t : Table). t.width) own.0),
    first_wide ∙ sym same.1 ∙ sym (ap (λ (t : Table). t.width) own.1),
  )

  narrow_then : narrow_of v (vs ++ u ∷ []) ≡ merged all.narrow more.narrow
  narrow_then = narrow-more v u vs ∙ ap (λ (t : Table). merged t (narrow_table_in u)) (sym narrow)
      ∙ ap (merged all.narrow) (sym own.0)

  wide_then : wide_of v (vs ++ u ∷ []) ≡ merged all.wide more.wide
  wide_then = wide-more v u vs ∙ ap (λ (t : Table). merged t (wide_table_in u)) (sym wide)
      ∙ ap (merged all.wide) (sym own.1)

joint_views : (all : Option PartSums) (more s : PartSums) (u : View) (vs : List View) → AreSumsOf all vs
    → (more.narrow ≡ narrow_table_in u) × (more.wide ≡ wide_table_in u) → IsJoint all more (Ok s)
    → AreSumsOf (Some s) (vs ++ u ∷ [])
joint_views None more s u [] are own is =
    let same : s ≡ more = cc in
    (tt, ap (λ (p : PartSums). p.narrow) same ∙ own.0, ap (λ (p : PartSums). p.wide) same ∙ own.1)
joint_views None more s u (v ∷ vs) are own is = absurd are
joint_views (Some all) more s u [] are own is = absurd are
joint_views (Some all) more s u (v ∷ vs) (widths, narrow, wide) own is = by (same_widths all more) refl is
  where
    by : (b : Bool) → same_widths all more ≡ b → IsJointWith b all more (Ok s) → AreSumsOf (Some s) (v ∷ (vs ++ u ∷ []))
    by false w h = absurd cc
    by true w (is_narrow, is_wide) = (
      widths-more v.width v.wide vs u widths (same_as_first all more v u vs narrow wide own w),
      is_narrow ∙ sym (narrow_then all more v u vs narrow wide own),
      is_wide ∙ sym (wide_then all more v u vs narrow wide own),
    )

joint_refused : (all : Option PartSums) (more : PartSums) (u : View) (vs : List View)
    (e : TogetherError) → AreSumsOf all vs → (more.narrow ≡ narrow_table_in u) × (more.wide ≡ wide_table_in u)
    → IsJoint all more (Err e) → IsJoiningRefused vs u e
joint_refused None more u vs e are own is = absurd cc
joint_refused (Some all) more u [] e are own is = absurd are
joint_refused (Some all) more u (v ∷ vs) e (widths, narrow, wide) own is = by (same_widths all more) refl is
  where
    unmade : same_widths all more ≡ true → (why : SumError) → IsUnmade (BothFit all more) why
        → IsJoiningRefused (v ∷ vs) u (of_sums why)
    unmade w measure.SumSpent h = (
      same_as_first all more v u vs narrow wide own w,
      λ fit. h (
        subst AllFit (narrow_then all more v u vs narrow wide own) fit.0,
        subst AllFit (wide_then all more v u vs narrow wide own) fit.1,
      ),
    )
    unmade w measure.OutOfMemory h = refl

    by : (b : Bool) → same_widths all more ≡ b → IsJointWith b all more (Err e) → IsJoiningRefused (v ∷ vs) u e
    by true w (why, h, other) = subst (IsJoiningRefused (v ∷ vs) u) (sym other) (unmade w why h)
    by false w h =
        let other : e ≡ OtherWidths = cc in
        subst (IsJoiningRefused (v ∷ vs) u) (sym other) (other_than_first all more v u vs narrow wide own w)

-- no read is a part of it
joint_quiet : (all : Option PartSums) (more : PartSums) (e : TogetherError) → IsJoint all more (Err e)
    → e ≢ Query query.Fault
joint_quiet None more e is = absurd cc
joint_quiet (Some all) more e is = by (same_widths all more) is
  where
    unmade : (why : SumError) → of_sums why ≢ Query query.Fault
    unmade measure.SumSpent = λ same. absurd cc
    unmade measure.OutOfMemory = λ same. absurd cc

    by : (b : Bool) → IsJointWith b all more (Err e) → e ≢ Query query.Fault
    by true (why, h, other) = λ same. unmade why (sym other ∙ same)
    by false h = λ same. absurd cc

-- ---- sums of some archives and of more, which are those of one

pub joined_views : (all more new : Option PartSums) (u : View) → AreSumsOf more (u ∷ []) → (vs : List View)
    → AreSumsOf all vs → AreJoined all more new → AreSumsOf new (vs ++ u ∷ [])
joined_views all None new u one vs are is = absurd one
joined_views all (Some more) new u one vs are (sums, joint, is) =
    subst (λ (o : Option PartSums). AreSumsOf o (vs ++ u ∷ [])) (sym is)
    (joint_views all more sums u vs are (one.1, one.2) joint)

pub joined_refused : (all more : Option PartSums) (e : TogetherError) (u : View) → AreSumsOf more (u ∷ [])
    → (vs : List View) → AreSumsOf all vs → AreNotJoined all more e → IsJoiningRefused vs u e
joined_refused all None e u one vs are is = absurd one
joined_refused all (Some more) e u one vs are is = joint_refused all more u vs e are (one.1, one.2) is

pub joined_quiet : (all more : Option PartSums) (e : TogetherError) → AreNotJoined all more e → e ≢ Query query.Fault
joined_quiet all None e is = absurd is
joined_quiet all (Some more) e is = joint_quiet all more e is

-- ---- rows

pub width_first : (sums : Option PartSums) (vs : List View) → AreSumsOf sums vs → width_of_sums sums ≡ first_width vs
width_first None [] are = refl
width_first None (v ∷ vs) are = absurd are
width_first (Some s) [] are = absurd are
width_first (Some s) (v ∷ vs) (widths, narrow, wide) =
    ap (λ (t : Table). t.width) narrow ∙ added-width (narrow_table_in v) (map narrow_table_in vs)

pub rows_of_views : {X : Type 0} (items : X → List Row) (sums : Option PartSums) (from to : ℕ)
    (r : Result X SumError)
    → MatchResult r (λ x. items x ≡ rows_of_sums from to sums) (λ e. IsUnmade (OneTableFits sums) e)
    → (vs : List View) → AreSumsOf sums vs
    → MatchResult r (λ x. items x ≡ totals_in_views from to vs) (λ e. IsUnmade (BothFitTogether vs) e)
rows_of_views items None from to r made [] are = made
rows_of_views items None from to r made (v ∷ vs) are = absurd are
rows_of_views items (Some s) from to r made [] are = absurd are
rows_of_views {X} items (Some s) from to r made (v ∷ vs) (widths, narrow, wide) = by r made
  where
    fits : (v.width ≡ v.wide → AllFit (merged (narrow_of v vs) (wide_of v vs))) → s.narrow.width ≡ s.wide.width
        → AllFit (merged s.narrow s.wide)
    fits both same = subst AllFit
        (ap (λ (t : Table). merged t (wide_of v vs)) (sym narrow) ∙ ap (merged s.narrow) (sym wide))
        (both (sym (added-width (narrow_table_in v) (map narrow_table_in vs)) ∙ sym (ap (λ (t : Table). t.width) narrow)
        ∙ same ∙ ap (λ (t : Table). t.width) wide ∙ added-width (wide_table_in v) (map wide_table_in vs)))

    by : (r : Result X SumError)
        → MatchResult r (λ x. items x ≡ rows_of_sums from to (Some s)) (λ e. IsUnmade (OneTableFits (Some s)) e)
        → MatchResult r (λ x. items x ≡ totals_in_views from to (v ∷ vs)) (λ e. IsUnmade (BothFitTogether (v ∷ vs)) e)
    by (Ok x) made = made ∙ ap (λ (t : Table). rows_of_both from to t s.wide) narrow
        ∙ ap (rows_of_both from to (narrow_of v vs)) wide
    by (Err e) made = unmade_for _ _ fits e made

-- ---- answers

pub err_matched : {X E : Type 0} (r : Result X E) (e : E) (P : X → Type 0) (Q : E → Type 0)
    → IsErrAnd r (λ x. x ≡ e) → Q e → MatchResult r P Q
err_matched (Ok x) e P Q is q = absurd is
err_matched (Err x) e P Q is q = subst Q (sym is) q

pub err_made : {X : Type 0} (first : ℕ) (fit : Type 0) (P : X → Type 0) (r : Result X ReadRefusal) (e : ReadRefusal)
    → IsErrAnd r (λ x. x ≡ e) → IsTotalsRefusal first fit e → IsMade first fit P r
err_made first fit P (Ok x) e is h = absurd is
err_made first fit P (Err x) e is h = subst (IsTotalsRefusal first fit) (sym is) h
