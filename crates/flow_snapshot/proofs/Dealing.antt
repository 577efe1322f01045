-- What a worker adds: its share of a snapshot's parts.
use Rattle.std.proofs.Common.{◌≡◌, ℕ, suc, Bool, true, false, cond, ◌+◌, ◌<◌, List, [], ◌∷◌, ◌++◌, length, map, drop}
use Rattle.std.proofs.Common.{refl, sym, ap, subst, ◌∙◌, append_assoc, get_or}
use Rattle.std.specs.Prelude.{◌==◌, IsTrue, Result, Ok, Err, IsErrAnd}
use Rattle.std.specs.List.{flat_map, list_all, AllZip}
use Rattle.std.specs.FinMap.{FinMap, entries}
use Rattle.std.specs.Arc.{arc_value}
use Rattle.std.specs.declared.sync.Arc.{Arc}
use Rattle.std.proofs.lemmas.List.{drop-map}
use Rattle.std.proofs.lemmas.List.Concat.{flat_map-append}
use Rattle.flow_codec.specs.Templates.{AllTemplates}
use Rattle.flow_measure.specs.declared.rows.Sums.{Sums}
use Rattle.flow_measure.specs.History.{Accepted, AreAcceptedFrom, flows_in}
use Rattle.flow_measure.specs.Query.{narrow_table_in}
use Rattle.flow_measure.specs.Sums.{key_cmp, empty_table, gathered, merged, sums_by, AllFit, Table}
use Rattle.flow_measure.specs.View.{View}
use Rattle.flow_measure.proofs.Fitting.{front_fits}
use Rattle.flow_measure.proofs.Gathering.{gathered-again, gathered-entries}
use Rattle.flow_segment.specs.Carry.{octets_of}
use Rattle.flow_disk.specs.declared.sealed.SealedFile.{Ghosts}
use Rattle.flow_segment.specs.declared.sealed.SealedPart.{SealedPart}
use Rattle.flow_segment.specs.Segment.{part_octets}
use Rattle.flow_segment.specs.PartFlows.{with_flows, ArePartMessages}
use Rattle.flow_refusals.specs.declared.read_refusal.ReadRefusal.{ReadRefusal}
use Rattle.flow_snapshot.specs.Files.{cut_into, segment_of, shared}
use Rattle.flow_snapshot.specs.Shares.{added_if, next_turn, own, summed, turn_after, AllPartsFit, AreNarrow, IsFileSum}
use Rattle.flow_snapshot.specs.Shares.{IsOwnSum, IsSegmentSum}
use Rattle.flow_model.specs.Shelf.{Shelf}
use Rattle.flow_snapshot.specs.Totals.{wide_table_in, with_maps, IsMade, IsTotalsRefusal, SumsFit}
use Rattle.flow_snapshot.proofs.Adding.{made_err, no_maps, only_maps, with_nothing}
use Rattle.flow_snapshot.proofs.KeptFlows.{next_item, of_part}
use Rattle.flow_snapshot.proofs.Sharing.{all_rest, first_of_two}
use Rattle.flow_snapshot.proofs.Choosing.{chosen_fit, chosen_then}
use Rattle.flow_snapshot.proofs.ViewParts.{PartsOf, parts_fit}

-- ---- a worker's loop

-- Of the sums that make `goal` those of what is left are still to be added.
pub record Left {A : Type 0} (P : A → FinMap key_cmp Sums → Type 0) (workers worker : ℕ) (left : List A)
    (turn : ℕ) (now goal : Table) : Type 0 where
  pub rest : List (FinMap key_cmp Sums)
  pub each : AllZip P left rest
  pub is : with_maps (own workers worker turn rest) now ≡ goal

with_first : (m : FinMap key_cmp Sums) (ms : List (FinMap key_cmp Sums)) (t : Table)
    → with_maps (m ∷ ms) t ≡ with_maps ms (merged t (record { width = t.width; sums = m }))
with_first m ms t = λ i. record {
  width = t.width;
  sums = (sym (gathered-again (entries t.sums ++ entries m) (flat_map entries ms)
      ∙ ap gathered (append_assoc (entries t.sums) (entries m) (flat_map entries ms)))) i;
}

pub fit_without : (ms : List (FinMap key_cmp Sums)) (t : Table) → AllFit (with_maps ms t) → AllFit t
fit_without ms t fit =
    subst AllFit (λ i. record { width = t.width; sums = gathered-entries t.sums i })
    (front_fits t.width t.width (entries t.sums) (flat_map entries ms) fit)

-- the next part, with its sums
pub record First {A : Type 0} (P : A → FinMap key_cmp Sums → Type 0) (workers worker : ℕ) (x : A) (left : List A)
    (turn : ℕ) (now goal : Table) : Type 0 where
  pub sums : FinMap key_cmp Sums
  pub these : P x sums
  pub rest : List (FinMap key_cmp Sums)
  pub each : AllZip P left rest
  pub is : with_maps (own workers worker turn (sums ∷ rest)) now ≡ goal

first_left : {A : Type 0} (P : A → FinMap key_cmp Sums → Type 0) (workers worker : ℕ) (x : A) (left : List A)
    (turn : ℕ) (now goal : Table) → Left P workers worker (x ∷ left) turn now goal
    → First P workers worker x left turn now goal
first_left P workers worker x left turn now goal l = by l.rest l.each l.is
  where
    by : (rest : List (FinMap key_cmp Sums)) → AllZip P (x ∷ left) rest
        → with_maps (own workers worker turn rest) now ≡ goal → First P workers worker x left turn now goal
    by [] each is = absurd each
    by (m ∷ ms) each is = record { sums = m; these = each.0; rest = ms; each = each.1; is = is }

-- the width is the goal's
same_width : {A : Type 0} (P : A → FinMap key_cmp Sums → Type 0) (workers worker : ℕ) (left : List A) (turn : ℕ)
    (now goal : Table) → Left P workers worker left turn now goal → now.width ≡ goal.width
same_width P workers worker left turn now goal l = ap (λ (t : Table). t.width) l.is

-- the next part's sums, where it is the worker's own
with_next : (workers worker turn : ℕ) (m : FinMap key_cmp Sums) (ms : List (FinMap key_cmp Sums)) (t : Table)
    → with_maps (own workers worker turn (m ∷ ms)) t
    ≡ with_maps (own workers worker (next_turn workers turn) ms) (added_if (turn == worker) m t)
with_next workers worker turn m ms t =
    let rest = own workers worker (next_turn workers turn) ms in
    elim (turn == worker) as (λ b. with_maps (cond b (m ∷ rest) rest) t
    ≡ with_maps rest (cond b (merged t (record { width = t.width; sums = m })) t)) [
      | true ↦ with_first m rest t
      | false ↦ refl
    ]

module _ {A : Type 0} (P : ℕ → A → FinMap key_cmp Sums → Type 0) (workers worker : ℕ) (x : A) (left : List A)
    (turn : ℕ) (now goal : Table) (l : Left (P goal.width) workers worker (x ∷ left) turn now goal) where
  abbrev f : First (P goal.width) workers worker x left turn now goal
  f = first_left (P goal.width) workers worker x left turn now goal l

  these_now : P now.width x f.sums
  these_now = subst (λ (w : ℕ). P w x f.sums)
      (sym (same_width (P goal.width) workers worker (x ∷ left) turn now goal l)) f.these

  abbrev added : Table
  added = added_if (turn == worker) f.sums now

  goal_is : with_maps (own workers worker (next_turn workers turn) f.rest) added ≡ goal
  goal_is = sym (with_next workers worker turn f.sums f.rest now) ∙ f.is

  pub taken : (new : Table)
      → ((sums : FinMap key_cmp Sums) → P now.width x sums → new ≡ added_if (turn == worker) sums now)
      → Left (P goal.width) workers worker left (next_turn workers turn) new goal
  taken new given = record {
    rest = f.rest;
    each = f.each;
    is = ap (with_maps (own workers worker (next_turn workers turn) f.rest)) (given f.sums these_now) ∙ goal_is;
  }

  pub refused : {Y : Type 0} (Q : Y → Type 0) (first : ℕ) (r : Result Y ReadRefusal) (e : ReadRefusal)
      → IsErrAnd r (λ y. y ≡ e)
      → ((sums : FinMap key_cmp Sums) → P now.width x sums
      → IsTotalsRefusal first (AllFit (added_if (turn == worker) sums now)) e)
      → IsMade first (AllFit goal) Q r
  refused Q first r e is given =
      made_err Q first (AllFit added) (AllFit goal) r e
      (λ fit. fit_without (own workers worker (next_turn workers turn) f.rest) added (subst AllFit (sym goal_is) fit))
      is (given f.sums these_now)

pub none_left : {A : Type 0} (P : A → FinMap key_cmp Sums → Type 0) (workers worker : ℕ) (left : List A)
    (turn : ℕ) (now goal : Table) → left ≡ [] → Left P workers worker left turn now goal → now ≡ goal
none_left {A} P workers worker left turn now goal none l =
    by l.rest (subst (λ (xs : List A). AllZip P xs l.rest) none l.each) l.is
  where
    by : (rest : List (FinMap key_cmp Sums)) → AllZip P [] rest → with_maps (own workers worker turn rest) now ≡ goal
        → now ≡ goal
    by [] each is = no_maps now ∙ is
    by (m ∷ ms) each is = absurd each

-- the next of several parts, which is on an honest disk
pub next_shared : {P Z V : Type 0} (f : P → V) (test : P → Bool) (parts : List (Arc P Z)) (i : ℕ) (item : Arc P Z)
    (part : P) → i < length parts → item ≡ get_or parts i item → part ≡ arc_value item
    → IsTrue (list_all test (shared parts))
    → (map f (shared (drop i parts)) ≡ f part ∷ map f (shared (drop (i + 1) parts))) × IsTrue (test part)
next_shared {P} {Z} {V} f test parts i item part within is same honest =
    let rest = shared (drop (i + 1) parts) in
    let parted : shared (drop i parts) ≡ part ∷ rest =
    ap shared (next_item parts i item item within is refl) ∙ ap (λ (p : P). p ∷ rest) (sym same) in
    let all : IsTrue (list_all test (part ∷ rest)) = subst (λ (ps : List P). IsTrue (list_all test ps))
    (drop-map arc_value i parts ∙ parted) (all_rest test i (shared parts) honest) in
    (ap (map f) parted, first_of_two (test part) (list_all test rest) all)

-- ---- one list after another

with_both : (xs ys : List (FinMap key_cmp Sums)) (t : Table) → with_maps ys (with_maps xs t) ≡ with_maps (xs ++ ys) t
with_both xs ys t = λ i. record {
  width = t.width;
  sums = (gathered-again (entries t.sums ++ flat_map entries xs) (flat_map entries ys)
      ∙ ap gathered (append_assoc (entries t.sums) (flat_map entries xs) (flat_map entries ys)
      ∙ ap (λ es. entries t.sums ++ es) (sym (flat_map-append entries xs ys)))) i;
}

with_none : (width : ℕ) (maps : List (FinMap key_cmp Sums)) (t : Table) → t ≡ empty_table width
    → with_maps maps t ≡ summed width maps
with_none width maps t is = ap (with_maps maps) is ∙ only_maps width maps

zip_length : {A B : Type 0} (P : A → B → Type 0) (xs : List A) (ys : List B) → AllZip P xs ys → length ys ≡ length xs
zip_length P [] [] h = refl
zip_length P [] (y ∷ ys) h = absurd h
zip_length P (x ∷ xs) [] h = absurd h
zip_length P (x ∷ xs) (y ∷ ys) h = ap (λ (n : ℕ). suc n) (zip_length P xs ys h.1)

-- the wide parts of a worker
module _ (s : Shelf) (workers worker : ℕ) (wide : List (FinMap key_cmp Sums)) (start : Table)
    (none : start ≡ empty_table s.wide) where
  pub wide_whole : with_maps (own workers worker 0 wide) start ≡ summed s.wide (own workers worker 0 wide)
  wide_whole = with_none s.wide (own workers worker 0 wide) start none

  pub wide_fit : AllFit (summed s.wide wide) → AllFit (with_maps (own workers worker 0 wide) start)
  wide_fit fit = subst AllFit (sym wide_whole) (chosen_fit (λ t. t == worker) workers 0 s.wide wide fit)

-- the others
module _ (s : Shelf) (workers worker turn : ℕ) (narrow : List (FinMap key_cmp Sums)) (are : AreNarrow s narrow)
    (start : Table) (none : start ≡ empty_table s.width) (t1 t2 : ℕ)
    (first_is : t1 ≡ turn_after workers (length s.rolled) turn)
    (second_is : t2 ≡ turn_after workers (length s.sealed) t1) where
  abbrev pub after_rolled : Table
  after_rolled = with_maps (own workers worker turn are.rolled) start

  abbrev pub after_sealed : Table
  after_sealed = with_maps (own workers worker t1 are.sealed) after_rolled

  abbrev after_all : Table
  after_all = with_maps (own workers worker t2 (are.active ∷ [])) after_sealed

  own_is : own workers worker turn narrow
      ≡ own workers worker turn are.rolled
      ++ (own workers worker t1 are.sealed ++ own workers worker t2 (are.active ∷ []))
  own_is =
      ap (own workers worker turn) are.all
      ∙ chosen_then (λ t. t == worker) workers turn are.rolled (are.sealed ++ are.active ∷ [])
      ∙ ap (λ (t : ℕ). own workers worker turn are.rolled ++ own workers worker t (are.sealed ++ are.active ∷ []))
      (ap (λ (n : ℕ). turn_after workers n turn) (zip_length (IsFileSum s.width) s.rolled are.rolled are.of_rolled)
      ∙ sym first_is)
      ∙ ap (λ (ms : List (FinMap key_cmp Sums)). own workers worker turn are.rolled ++ ms)
      (chosen_then (λ t. t == worker) workers t1 are.sealed (are.active ∷ [])
      ∙ ap (λ (t : ℕ). own workers worker t1 are.sealed ++ own workers worker t (are.active ∷ []))
      (ap (λ (n : ℕ). turn_after workers n t1) (zip_length (IsSegmentSum s.width) s.sealed are.sealed are.of_sealed)
      ∙ sym second_is))

  all_is : after_all ≡ summed s.width (own workers worker turn narrow)
  all_is =
      with_both (own workers worker t1 are.sealed) (own workers worker t2 (are.active ∷ [])) after_rolled
      ∙ with_both (own workers worker turn are.rolled)
      (own workers worker t1 are.sealed ++ own workers worker t2 (are.active ∷ [])) start
      ∙ ap (λ (ms : List (FinMap key_cmp Sums)). with_maps ms start) (sym own_is)
      ∙ with_none s.width (own workers worker turn narrow) start none

  all_fit : AllFit (summed s.width narrow) → AllFit after_all
  all_fit fit = subst AllFit (sym all_is) (chosen_fit (λ t. t == worker) workers turn s.width narrow fit)

  pub sealed_fit : AllFit (summed s.width narrow) → AllFit after_sealed
  sealed_fit fit = fit_without (own workers worker t2 (are.active ∷ [])) after_sealed (all_fit fit)

  pub rolled_fit : AllFit (summed s.width narrow) → AllFit after_rolled
  rolled_fit fit = fit_without (own workers worker t1 are.sealed) after_rolled (sealed_fit fit)

  abbrev pub with_active : Table
  with_active = added_if (t2 == worker) are.active after_sealed

  active_is : with_active ≡ after_all
  active_is = no_maps with_active ∙ sym (with_next workers worker t2 are.active [] after_sealed)

  pub active_added : with_active ≡ summed s.width (own workers worker turn narrow)
  active_added = active_is ∙ all_is

  pub active_fit : AllFit (summed s.width narrow) → AllFit with_active
  active_fit fit = subst AllFit (sym active_is) (all_fit fit)

  module _ (rows more all : Table) (r1 : rows ≡ after_rolled)
      (r2 : more ≡ with_maps (own workers worker t1 are.sealed) rows) where
    pub more_is : more ≡ after_sealed
    more_is = r2 ∙ ap (with_maps (own workers worker t1 are.sealed)) r1

    pub narrow_done : all ≡ added_if (t2 == worker) are.active more
        → all ≡ summed s.width (own workers worker turn narrow)
    narrow_done r3 = r3 ∙ ap (added_if (t2 == worker) are.active) more_is ∙ active_added

    pub more_fit : AllFit (summed s.width narrow) → AllFit (with_maps (own workers worker t1 are.sealed) rows)
    more_fit fit = subst AllFit (ap (with_maps (own workers worker t1 are.sealed)) (sym r1)) (sealed_fit fit)

    pub all_of_them_fit : AllFit (summed s.width narrow) → AllFit (added_if (t2 == worker) are.active more)
    all_of_them_fit fit = subst AllFit (ap (added_if (t2 == worker) are.active) (sym more_is)) (active_fit fit)

-- ---- answers

pub made_as : {X : Type 0} (first : ℕ) (fit all : Type 0) (P Q : X → Type 0) (r : Result X ReadRefusal)
    → (all → fit) → ((x : X) → P x → Q x) → IsMade first fit P r → IsMade first all Q r
made_as first fit all P Q (Ok x) fewer then h = then x h
made_as {X} first fit all P Q (Err e) fewer then h = made_err {Y = X} Q first fit all (Err e) e fewer refl h

-- a segment without messages adds nothing
pub nothing_of_none : (prefix : List ℕ) (sums : FinMap key_cmp Sums) (t : Table) → IsOwnSum t.width prefix [] sums
    → t ≡ added_if true sums t
nothing_of_none prefix sums t (before, list, restated, accepted, octets, is) =
    let none : list ≡ [] = no_list list octets in
    sym (with_nothing t)
    ∙ ap (λ (m : FinMap key_cmp Sums). merged t (record { width = t.width; sums = m }))
    (sym (is ∙ ap (λ (ms : List Accepted). sums_by t.width (flows_in ms)) none))
  where
    no_list : (ms : List Accepted) → octets_of ms ≡ [] → ms ≡ []
    no_list [] h = refl
    no_list (m ∷ ms) h = absurd cc

-- a segment adds its flows
pub flows_added : (sums : FinMap key_cmp Sums) (t : Table) (list : List Accepted)
    → sums ≡ sums_by t.width (flows_in list) → with_flows (flows_in list) t ≡ added_if true sums t
flows_added sums t list is =
    ap (λ (m : FinMap key_cmp Sums). merged t (record { width = t.width; sums = m })) (sym is)

-- one part more
pub turn_step : {A : Type 0} (workers next after : ℕ) (xs : List A) (i : ℕ) (x : A) (target : ℕ)
    → drop i xs ≡ x ∷ drop (i + 1) xs → after ≡ next_turn workers next
    → turn_after workers (length (drop i xs)) next ≡ target
    → turn_after workers (length (drop (i + 1) xs)) after ≡ target
turn_step {A} workers next after xs i x target parted is before =
    ap (turn_after workers (length (drop (i + 1) xs))) is
    ∙ sym (ap (λ (ys : List A). turn_after workers (length ys) next) parted) ∙ before

-- a segment's messages, as a reader wants them
pub part_list : {F X : Type 0} {files : Ghosts F X} (part : SealedPart F X files) (templates before : AllTemplates)
    (list : List Accepted) → 0 < part.messages → templates ≡ before → AreAcceptedFrom before list
    → octets_of list ≡ (segment_of part).messages
    → ArePartMessages (part_octets part.prefix part.length (files.octets part.reader)) templates part.messages list
part_list {F} {X} {files} part templates before list some same accepted octets =
    of_part (part_octets part.prefix part.length (files.octets part.reader)) part.messages templates list some
    (subst (λ (t : AllTemplates). AreAcceptedFrom t list) (sym same) accepted) octets

-- the view's tables
pub of_view : {X : Type 0} (s : Shelf) (v : View) (p : PartsOf s v) (first : ℕ) (narrow wide : X → Table)
    (r : Result X ReadRefusal)
    → IsMade first (AllPartsFit s p.wide p.narrow)
    (λ x. (wide x ≡ summed s.wide p.wide) × (narrow x ≡ summed s.width p.narrow)) r
    → IsMade first (SumsFit v) (λ x. (narrow x ≡ narrow_table_in v) × (wide x ≡ wide_table_in v)) r
of_view {X} s v p first narrow wide r made =
    made_as first (AllPartsFit s p.wide p.narrow) (SumsFit v)
    (λ (x : X). (wide x ≡ summed s.wide p.wide) × (narrow x ≡ summed s.width p.narrow))
    (λ (x : X). (narrow x ≡ narrow_table_in v) × (wide x ≡ wide_table_in v)) r (parts_fit s v p)
    (λ x h. (h.1 ∙ p.narrow_is, h.0 ∙ p.wide_is)) made

-- ---- one part more

module _ {B Z A : Type 0} (P : ℕ → A → FinMap key_cmp Sums → Type 0) (f : B → A) (test : B → Bool)
    (parts : List (Arc B Z)) (i : ℕ) (item : Arc B Z) (part : B) (within : i < length parts)
    (is : item ≡ get_or parts i item) (same : part ≡ arc_value item) (honest : IsTrue (list_all test (shared parts)))
    (workers worker turn : ℕ) (now goal : Table)
    (l : Left (P goal.width) workers worker (map f (shared (drop i parts))) turn now goal) where
  abbrev left : List A
  left = map f (shared (drop (i + 1) parts))

  abbrev before : Left (P goal.width) workers worker (f part ∷ left) turn now goal
  before = subst (λ (xs : List A). Left (P goal.width) workers worker xs turn now goal)
      (next_shared f test parts i item part within is same honest).0 l

  pub own_next : (after : ℕ) (new : Table) → after ≡ next_turn workers turn
      → (IsTrue (test part) → (sums : FinMap key_cmp Sums) → P now.width (f part) sums
      → new ≡ added_if (turn == worker) sums now)
      → Left (P goal.width) workers worker (map f (shared (drop (i + 1) parts))) after new goal
  own_next after new moved given =
      subst (λ (t : ℕ). Left (P goal.width) workers worker left t new goal) (sym moved)
      (taken P workers worker (f part) left turn now goal before new
      (given (next_shared f test parts i item part within is same honest).1))

  pub own_refused : {Y : Type 0} (Q : Y → Type 0) (first : ℕ) (r : Result Y ReadRefusal) (e : ReadRefusal)
      → IsErrAnd r (λ y. y ≡ e)
      → (IsTrue (test part) → (sums : FinMap key_cmp Sums) → P now.width (f part) sums
      → IsTotalsRefusal first (AllFit (added_if (turn == worker) sums now)) e)
      → IsMade first (AllFit goal) Q r
  own_refused Q first r e is_err given =
      refused P workers worker (f part) left turn now goal before Q first r e is_err
      (given (next_shared f test parts i item part within is same honest).1)

pub nothing_of_empty : {F X : Type 0} {files : Ghosts F X} (part : SealedPart F X files) (sums : FinMap key_cmp Sums)
    (t : Table) → part.messages ≡ 0 → IsSegmentSum t.width (segment_of part) sums → t ≡ added_if true sums t
nothing_of_empty {F} {X} {files} part sums t none is =
    let octets = files.octets part.reader in
    nothing_of_none (part_octets 0 part.prefix octets) sums t
    (subst (λ (n : ℕ). IsOwnSum t.width (part_octets 0 part.prefix octets)
    (cut_into n (part_octets part.prefix part.length octets)) sums) none is)

pub shared_length : {B Z A : Type 0} (f : B → A) (xs : List (Arc B Z)) → length (map f (shared xs)) ≡ length xs
shared_length f [] = refl
shared_length f (x ∷ xs) = ap (λ (n : ℕ). suc n) (shared_length f xs)
