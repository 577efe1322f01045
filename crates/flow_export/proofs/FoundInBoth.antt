-- What is found of messages, and of others after them.
use Rattle.std.proofs.Common.{◌≡◌, ◌∙◌, ◌≤◌, ℕ, ◌+◌, List, [], ◌∷◌, ◌++◌, length, Bool, true, false, refl, sym, ap}
use Rattle.std.proofs.Common.{arith, length-append, Option, Some, None, suc, subst}
use Rattle.std.specs.Prelude.{◌||◌, ◌==◌, filter, if◌then◌else◌, min, not, Result, Ok, Err}
use Rattle.std.specs.List.{list_any}
use Rattle.std.specs.Option.{option_map_or}
use Rattle.std.proofs.lemmas.List.Elements.{filter-append}
use Rattle.std.proofs.lemmas.List.Folds.{list_any-append}
use Rattle.flow_codec.specs.Message.{in_fields}
use Rattle.flow_codec.specs.Templates.{AllTemplates}
use Rattle.flow_disk.specs.declared.sealed.SealedFile.{Ghosts}
use Rattle.flow_measure.specs.declared.flow.Flow.{Flow}
use Rattle.flow_measure.specs.Flows.{flows_of}
use Rattle.flow_measure.specs.History.{flows_in, Accepted, AreAcceptedFrom}
use Rattle.flow_model.proofs.Accepting.{one_restated, read_as}
use Rattle.flow_refusals.specs.declared.read_refusal.ReadRefusal.{ReadRefusal}
use Rattle.flow_segment.specs.declared.sealed.SealedPart.{SealedPart}
use Rattle.flow_segment.specs.Carry.{octets_of}
use Rattle.flow_segment.specs.PartFlows.{flows_within}
use Rattle.flow_segment.specs.Prefix.{IsRestated}
use Rattle.flow_segment.specs.Segment.{part_octets}
use Rattle.flow_segment.specs.Spans as segment
use Rattle.flow_snapshot.proofs.ByFile.{outside_part}
use Rattle.flow_snapshot.specs.Answered.{IsAnswered}
use Rattle.flow_snapshot.specs.Files.{segment_of}
use Rattle.flow_export.specs.declared.finding.Found.{Found}
use Rattle.flow_export.specs.Span.{before_first, has_flow, starts_within, up_to_last, IsFound}
use Rattle.flow_export.proofs.FindingSpans.{either, neither}
use Rattle.flow_export.proofs.Spanning.{any_pass}

module _ (from to : ℕ) where
  abbrev some_has : List Accepted → Bool
  some_has xs = list_any (has_flow from to) xs

  -- ---- the first one

  first_within : (xs : List Accepted) → before_first from to xs ≤ length xs
  first_within [] = omega arith
  first_within (x ∷ xs) = by (has_flow from to x) (first_within xs)
    where
      by : (b : Bool) → before_first from to xs ≤ length xs
          → (if b then 0 else suc (before_first from to xs)) ≤ suc (length xs)
      by true others = omega arith
      by false others = omega (arith, others)

  first_here : (xs ys : List Accepted) → some_has xs ≡ true → before_first from to (xs ++ ys) ≡ before_first from to xs
  first_here [] ys some = absurd cc
  first_here (x ∷ xs) ys some = by (has_flow from to x) some (first_here xs ys)
    where
      by : (b : Bool) → (b || some_has xs) ≡ true
          → (some_has xs ≡ true → before_first from to (xs ++ ys) ≡ before_first from to xs)
          → (if b then 0 else suc (before_first from to (xs ++ ys))) ≡ (if b then 0 else suc (before_first from to xs))
      by true some others = refl
      by false some others = ap suc (others some)

  first_there : (xs ys : List Accepted) → some_has xs ≡ false
      → before_first from to (xs ++ ys) ≡ length xs + before_first from to ys
  first_there [] ys none = omega arith
  first_there (x ∷ xs) ys none = by (has_flow from to x) none (first_there xs ys)
    where
      by : (b : Bool) → (b || some_has xs) ≡ false
          → (some_has xs ≡ false → before_first from to (xs ++ ys) ≡ length xs + before_first from to ys)
          → (if b then 0 else suc (before_first from to (xs ++ ys))) ≡ suc (length xs) + before_first from to ys
      by true none others = absurd cc
      by false none others = let later = others none in omega (arith, later)

  -- ---- the last one

  last_within : (xs : List Accepted) → length (up_to_last from to xs) ≤ length xs
  last_within [] = omega arith
  last_within (x ∷ xs) = by (some_has (x ∷ xs)) (last_within xs)
    where
      by : (b : Bool) → length (up_to_last from to xs) ≤ length xs
          → length (if b then x ∷ up_to_last from to xs else []) ≤ suc (length xs)
      by true others = omega (arith, others)
      by false others = omega arith

  last_there : (xs ys : List Accepted) → some_has ys ≡ true → up_to_last from to (xs ++ ys) ≡ xs ++ up_to_last from to ys
  last_there [] ys some = refl
  last_there (x ∷ xs) ys some =
      by (some_has (x ∷ (xs ++ ys)))
      (list_any-append (has_flow from to) (x ∷ xs) ys ∙ either (some_has (x ∷ xs)) (some_has ys) some)
      (last_there xs ys some)
    where
      by : (b : Bool) → b ≡ true → up_to_last from to (xs ++ ys) ≡ xs ++ up_to_last from to ys
          → (if b then x ∷ up_to_last from to (xs ++ ys) else []) ≡ x ∷ (xs ++ up_to_last from to ys)
      by true is others = ap (λ (l : List Accepted). x ∷ l) others
      by false is others = absurd cc

  none_up_to : (ys : List Accepted) → some_has ys ≡ false → up_to_last from to ys ≡ []
  none_up_to [] none = refl
  none_up_to (y ∷ ys) none = rw none refl

  last_here : (xs ys : List Accepted) → some_has ys ≡ false → up_to_last from to (xs ++ ys) ≡ up_to_last from to xs
  last_here [] ys none = none_up_to ys none
  last_here (x ∷ xs) ys none =
      ap (λ (b : Bool). if b then x ∷ up_to_last from to (xs ++ ys) else [])
      (list_any-append (has_flow from to) (x ∷ xs) ys)
      ∙ by (some_has (x ∷ xs)) (some_has ys) none (last_here xs ys none)
    where
      by : (b c : Bool) → c ≡ false → up_to_last from to (xs ++ ys) ≡ up_to_last from to xs
          → (if b || c then x ∷ up_to_last from to (xs ++ ys) else [])
          ≡ (if b then x ∷ up_to_last from to xs else [])
      by true c is others = ap (λ (l : List Accepted). x ∷ l) others
      by false true is others = absurd cc
      by false false is others = refl

  -- ---- both

  pub none_more : (xs ys : List Accepted) (o : Option Found) → IsFound from to xs o → IsFound from to ys None
      → IsFound from to (xs ++ ys) o
  none_more xs ys None none nor =
      list_any-append (has_flow from to) xs ys ∙ neither (some_has xs) (some_has ys) none nor
  none_more xs ys (Some f) (some, before, upto) nor = (
    list_any-append (has_flow from to) xs ys ∙ ap (λ (b : Bool). b || some_has ys) some,
    before ∙ sym (first_here xs ys some),
    upto ∙ ap length (sym (last_here xs ys nor)),
  )

  pub some_more : (xs ys : List Accepted) (o : Option Found) (more new : Found) (count : ℕ) → count ≡ length xs
      → length xs + length ys ≤ 18446744073709551615 → IsFound from to xs o → IsFound from to ys (Some more)
      → new.before ≡ option_map_or (λ f. f.before) o (min (count + more.before) 18446744073709551615)
      → new.upto ≡ min (count + more.upto) 18446744073709551615 → IsFound from to (xs ++ ys) (Some new)
  some_more xs ys o more new count is few found (some, before, upto) first last = (
    list_any-append (has_flow from to) xs ys ∙ either (some_has xs) (some_has ys) some,
    by o found first,
    omega (
      arith,
      is,
      few,
      upto,
      last,
      last_within ys,
      ap length (last_there xs ys some),
      length-append xs (up_to_last from to ys),
    ),
  )
    where
      by : (p : Option Found) → IsFound from to xs p
          → new.before ≡ option_map_or (λ f. f.before) p (min (count + more.before) 18446744073709551615)
          → new.before ≡ before_first from to (xs ++ ys)
      by None none first = omega (arith, is, few, before, first, first_within ys, first_there xs ys none)
      by (Some f) (has, start, end) first = first ∙ start ∙ sym (first_here xs ys has)

  -- nothing is found of no messages
  pub none_yet : IsFound from to [] None
  none_yet = refl

-- what is answered is right in another sense too
pub answered_as : {X : Type 0} (P Q : X → Type 0) (r : Result X ReadRefusal) → ((x : X) → P x → Q x) → IsAnswered P r
    → IsAnswered Q r
answered_as P Q (Ok x) each is = each x is
answered_as P Q (Err e) each is = is

-- ---- a segment that is known to have none

both_empty : {A : Type 0} (xs ys : List A) → xs ++ ys ≡ [] → (xs ≡ []) × (ys ≡ [])
both_empty [] ys none = (refl, none)
both_empty (x ∷ xs) ys none = absurd cc

none_starts : (from to : ℕ) (list : List Accepted) → flows_within from to (flows_in list) ≡ []
    → list_any (has_flow from to) list ≡ false
none_starts from to [] none = refl
none_starts from to (a ∷ more) none =
    let own = flows_of (in_fields a.message) in
    let both = both_empty (filter (starts_within from to) own) (flows_within from to (flows_in more))
    (sym (filter-append (starts_within from to) own (flows_in more)) ∙ none) in
    neither (has_flow from to a) (list_any (has_flow from to) more)
    (sym (any_pass (starts_within from to) own) ∙ ap (λ (l : List Flow). not (length l == 0)) both.0)
    (none_starts from to more both.1)

pub outside_none : {F X : Type 0} {files : Ghosts F X} (part : SealedPart F X files) (from to : ℕ)
    → segment.IsPassedOver 1 from to (part_octets 0 part.prefix (files.octets part.reader))
    (part_octets part.prefix part.length (files.octets part.reader)) part.messages
    → (before : AllTemplates) (list : List Accepted) → IsRestated (segment_of part).prefix before
    → AreAcceptedFrom before list → octets_of list ≡ (segment_of part).messages → IsFound from to list None
outside_none part from to out before list restated accepted octets =
    let own = outside_part part from to out in
    let same : own.0 ≡ before = one_restated (segment_of part).prefix own.0 before own.2 restated in
    let lists : own.1 ≡ list =
    sym (read_as before own.1 (segment_of part).messages
    (subst (λ (t : AllTemplates). AreAcceptedFrom t own.1) same own.3) own.4)
    ∙ read_as before list (segment_of part).messages accepted octets in
    none_starts from to list (sym (own.5 ∙ ap (λ (l : List Accepted). flows_within from to (flows_in l)) lists))
