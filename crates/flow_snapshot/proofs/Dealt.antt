-- What workers have read of the parts that fall to them.
use Rattle.std.proofs.Common.{◌≡◌, ℕ, suc, Bool, true, false, cond, ◌+◌, ◌<◌, List, [], ◌∷◌, ◌++◌, length, map}
use Rattle.std.proofs.Common.{take, refl, sym, ap, subst, ◌∙◌, arith, get_or}
use Rattle.std.specs.Prelude.{◌==◌, IsTrue, Result, Ok, Err, IfOk, IsErr, IsErrAnd, OnOk}
use Rattle.std.specs.List.{list_all, AllZip}
use Rattle.std.specs.FinMap.{FinMap}
use Rattle.std.specs.Arc.{arc_value}
use Rattle.std.specs.declared.sync.Arc.{Arc}
use Rattle.std.proofs.lemmas.Bool.{eq-eqb, eqb-false, eqb-true}
use Rattle.std.proofs.lemmas.List.{length-append, map-append}
use Rattle.flow_measure.specs.declared.rows.Sums.{Sums}
use Rattle.flow_codec.specs.Templates.{AllTemplates}
use Rattle.flow_disk.specs.declared.sealed.SealedFile.{Ghosts}
use Rattle.flow_measure.specs.History.{flows_in}
use Rattle.flow_measure.specs.declared.rows.Row.{Row}
use Rattle.flow_measure.specs.Query.{rows_of_both}
use Rattle.flow_measure.specs.Sums.{key_cmp, sums_by, Table}
use Rattle.flow_segment.specs.declared.sealed.SealedPart.{SealedPart}
use Rattle.flow_segment.specs.PartFlows.{HasMessages}
use Rattle.flow_segment.specs.Prefix.{IsRestated}
use Rattle.flow_segment.specs.Segment.{part_octets}
use Rattle.flow_refusals.specs.declared.read_refusal.ReadRefusal.{ReadRefusal}
use Rattle.flow_snapshot.specs.declared.shares.PartSums.{PartSums}
use Rattle.flow_snapshot.specs.Files.{cut_into, segment_of, shared}
use Rattle.flow_snapshot.specs.Found.{AreAccepted}
use Rattle.flow_snapshot.specs.Shares.{narrow_turn, next_turn, own, turn_after, AreNarrow, AreWide, HaveSums}
use Rattle.flow_snapshot.specs.Shares.{summed, IsFileSum, IsJoined, IsNarrowRead, IsOwnRead, IsOwnSum, IsSegmentSum}
use Rattle.flow_model.specs.Shelf.{Shelf}
use Rattle.flow_snapshot.specs.Totals.{IsMade}
use Rattle.flow_snapshot.proofs.Choosing.{chosen_then, turn_then, turn_within}
use Rattle.flow_snapshot.proofs.Finding.{honest_one, own_cut, shared_more}

zip_then : {A : Type 0} (P : A → FinMap key_cmp Sums → Type 0) (xs ys : List A) (ms ns : List (FinMap key_cmp Sums))
    → AllZip P xs ms → AllZip P ys ns → AllZip P (xs ++ ys) (ms ++ ns)
zip_then P [] ys [] ns h k = k
zip_then P [] ys (m ∷ ms) ns h k = absurd h
zip_then P (x ∷ xs) ys [] ns h k = absurd h
zip_then P (x ∷ xs) ys (m ∷ ms) ns h k = (h.0, zip_then P xs ys ms ns h.1 k)

one_own : {A : Type 0} (P : A → FinMap key_cmp Sums → Type 0) (x : A) (b : Bool)
    → (b ≡ true → (m : FinMap key_cmp Sums) × P x m) → HaveSums P (cond b (x ∷ []) [])
one_own P x true here = let own = here refl in (own.0 ∷ [], (own.1, tt))
one_own P x false here = ([], tt)

-- ---- one part

pub then_ok : {X : Type 0} (P Q : Type 0) (r : Result X ReadRefusal) → (P → Q) → OnOk r P → OnOk r Q
then_ok P Q (Ok x) then h = then h
then_ok P Q (Err e) then h = tt

pub own_sum : (width : ℕ) (prefix : List ℕ) (messages : List (List ℕ)) (templates : AllTemplates)
    → IsRestated prefix templates → AreAccepted templates messages
    → (sums : FinMap key_cmp Sums) × IsOwnSum width prefix messages sums
own_sum width prefix messages templates restated (list, accepted, octets) =
    (sums_by width (flows_in list), (templates, list, restated, accepted, octets, refl))

module _ {F X : Type 0} {files : Ghosts F X} (part : SealedPart F X files) (width : ℕ) (templates : AllTemplates)
    (restated : IsRestated (part_octets 0 part.prefix (files.octets part.reader)) templates) where
  pub segment_sum : HasMessages (part_octets part.prefix part.length (files.octets part.reader)) templates part.messages
      → (sums : FinMap key_cmp Sums) × IsSegmentSum width (segment_of part) sums
  segment_sum (own, are) =
      let octets = part_octets part.prefix part.length (files.octets part.reader) in
      own_sum width (part_octets 0 part.prefix (files.octets part.reader)) (cut_into part.messages octets) templates
      restated (own, are.read.accepted, own_cut octets templates part.messages own are)

  pub empty_sum : part.messages ≡ 0 → (sums : FinMap key_cmp Sums) × IsSegmentSum width (segment_of part) sums
  empty_sum none =
      let octets = part_octets part.prefix part.length (files.octets part.reader) in
      own_sum width (part_octets 0 part.prefix (files.octets part.reader)) (cut_into part.messages octets) templates
      restated ([], tt, ap (λ (n : ℕ). cut_into n octets) (sym none))

-- ---- a worker's loop

-- Of these parts those that fall to the worker were read, and whose turn is next.
pub record ReadSoFar {A : Type 0} (P : A → FinMap key_cmp Sums → Type 0) (workers worker turn : ℕ) (parts : List A)
    (next : ℕ) : Type 0 where
  pub moved : next ≡ turn_after workers (length parts) turn
  pub have : HaveSums P (own workers worker turn parts)

pub none_so_far : {A : Type 0} (P : A → FinMap key_cmp Sums → Type 0) (workers worker turn : ℕ)
    → ReadSoFar P workers worker turn [] turn
none_so_far P workers worker turn = record { moved = refl; have = ([], tt) }

read_then : {A : Type 0} (P : A → FinMap key_cmp Sums → Type 0) (workers worker turn : ℕ) (xs : List A) (x : A)
    (next after : ℕ) → ReadSoFar P workers worker turn xs next → after ≡ next_turn workers next
    → ((next == worker) ≡ true → (m : FinMap key_cmp Sums) × P x m)
    → ReadSoFar P workers worker turn (xs ++ x ∷ []) after
read_then {A} P workers worker turn xs x next after so_far is here =
    let n = length xs in
    let mine = subst (λ (t : ℕ). HaveSums P (own workers worker t (x ∷ []))) so_far.moved
    (one_own P x (next == worker) here) in
    let longer : suc n ≡ length (xs ++ x ∷ []) = omega (arith, length-append xs (x ∷ [])) in
    record {
      moved = is ∙ ap (next_turn workers) so_far.moved ∙ sym (turn_then workers n turn)
          ∙ ap (λ (k : ℕ). turn_after workers k turn) longer;
      have = subst (HaveSums P) (sym (chosen_then (λ t. t == worker) workers turn xs (x ∷ []))) (
        so_far.have.0 ++ mine.0,
        zip_then P (own workers worker turn xs) (own workers worker (turn_after workers n turn) (x ∷ []))
            so_far.have.0 mine.0 so_far.have.1 mine.1,
      );
    }

pub part_read : {B Z A : Type 0} (P : ℕ → A → FinMap key_cmp Sums → Type 0) (f : B → A) (test : B → Bool)
    (parts : List (Arc B Z)) (i : ℕ) (item : Arc B Z) (part : B) → i < length parts → item ≡ get_or parts i item
    → part ≡ arc_value item → IsTrue (list_all test (shared parts)) → (workers worker turn width now next after : ℕ)
    → now ≡ width → ReadSoFar (P width) workers worker turn (map f (shared (take i parts))) next
    → after ≡ next_turn workers next
    → (IsTrue (test part) → (next == worker) ≡ true → (m : FinMap key_cmp Sums) × P now (f part) m)
    → ReadSoFar (P width) workers worker turn (map f (shared (take (i + 1) parts))) after
part_read {B} {Z} {A} P f test parts i item part within is same honest workers worker turn width now next after wide
    so_far moved here =
    let front = map f (shared (take i parts)) in
    let more : map f (shared (take (i + 1) parts)) ≡ front ++ f part ∷ [] =
    ap (λ (ps : List B). map f ps) (shared_more parts i item part within is same)
    ∙ map-append f (shared (take i parts)) (part ∷ []) in
    subst (λ (xs : List A). ReadSoFar (P width) workers worker turn xs after) (sym more)
    (read_then (P width) workers worker turn front (f part) next after so_far moved (λ mine.
    subst (λ (w : ℕ). (m : FinMap key_cmp Sums) × P w (f part) m) wide
    (here (honest_one parts i item part within is same test honest) mine)))

pub own_narrow_read : (s : Shelf) (workers worker turn t1 t2 w0 w1 w2 : ℕ)
    → t1 ≡ turn_after workers (length s.rolled) turn → t2 ≡ turn_after workers (length s.sealed) t1
    → w0 ≡ s.width → w1 ≡ s.width → w2 ≡ s.width → HaveSums (IsFileSum w0) (own workers worker turn s.rolled)
    → HaveSums (IsSegmentSum w1) (own workers worker t1 s.sealed)
    → ((t2 == worker) ≡ true → (m : FinMap key_cmp Sums) × IsOwnSum w2 s.prefix s.active m)
    → IsNarrowRead s workers worker turn
own_narrow_read s workers worker turn t1 t2 w0 w1 w2 first second e0 e1 e2 rolled sealed active =
    let u1 = turn_after workers (length s.rolled) turn in
    record {
      rolled = subst (λ (w : ℕ). HaveSums (IsFileSum w) (own workers worker turn s.rolled)) e0 rolled;
      sealed = subst (λ (w : ℕ). HaveSums (IsSegmentSum w) (own workers worker u1 s.sealed)) e1
          (subst (λ (t : ℕ). HaveSums (IsSegmentSum w1) (own workers worker t s.sealed)) first sealed);
      active = subst (λ (t : ℕ). HaveSums (IsOwnSum s.width s.prefix) (own workers worker t (s.active ∷ [])))
          (second ∙ ap (turn_after workers (length s.sealed)) first)
          (one_own (IsOwnSum s.width s.prefix) s.active (t2 == worker)
          (λ mine. subst (λ (w : ℕ). (m : FinMap key_cmp Sums) × IsOwnSum w s.prefix s.active m) e2 (active mine)));
    }

-- ---- all workers

-- the sums of the first of these parts, which is the worker's own
head_sums : {A : Type 0} (P : A → FinMap key_cmp Sums → Type 0) (x : A) (rest : List A) (b : Bool) → b ≡ true
    → HaveSums P (cond b (x ∷ rest) rest) → (m : FinMap key_cmp Sums) × P x m
head_sums P x rest false is h = absurd cc
head_sums P x rest true is ([], h) = absurd h
head_sums P x rest true is (m ∷ ms, h) = (m, h.0)

later_sums : {A : Type 0} (P : A → FinMap key_cmp Sums → Type 0) (x : A) (rest : List A) (b : Bool)
    → HaveSums P (cond b (x ∷ rest) rest) → HaveSums P rest
later_sums P x rest false h = h
later_sums P x rest true ([], h) = absurd h
later_sums P x rest true (m ∷ ms, h) = (ms, h.1)

pub all_have : {A : Type 0} (P : A → FinMap key_cmp Sums → Type 0) (workers turn : ℕ) (xs : List A) → turn < workers
    → ((n : ℕ) → n < workers → HaveSums P (own workers n turn xs)) → HaveSums P xs
all_have P workers turn [] within each = ([], tt)
all_have P workers turn (x ∷ xs) within each =
    let next = next_turn workers turn in
    let first = head_sums P x (own workers turn next xs) (turn == turn) (eq-eqb turn turn refl) (each turn within) in
    let rest = all_have P workers next xs (turn_within workers 1 turn within)
    (λ n few. later_sums P x (own workers n next xs) (turn == n) (each n few)) in
    (first.0 ∷ rest.0, (first.1, rest.1))

pub all_read : (s : Shelf) (workers : ℕ) → 0 < workers → ((n : ℕ) → n < workers → IsOwnRead s workers n)
    → (wide : List (FinMap key_cmp Sums)) × (narrow : List (FinMap key_cmp Sums)) × AreWide s wide
    × AreNarrow s narrow
all_read s workers some each =
    let t0 = narrow_turn s workers in
    let t1 = turn_after workers (length s.rolled) t0 in
    let t2 = turn_after workers (length s.sealed) t1 in
    let in0 = turn_within workers (length s.merged) 0 some in
    let in1 = turn_within workers (length s.rolled) t0 in0 in
    let wide = all_have (IsFileSum s.wide) workers 0 s.merged some (λ n few. (each n few).wide) in
    let rolled = all_have (IsFileSum s.width) workers t0 s.rolled in0 (λ n few. (each n few).narrow.rolled) in
    let sealed = all_have (IsSegmentSum s.width) workers t1 s.sealed in1 (λ n few. (each n few).narrow.sealed) in
    let active = all_have (IsOwnSum s.width s.prefix) workers t2 (s.active ∷ [])
    (turn_within workers (length s.sealed) t1 in1) (λ n few. (each n few).narrow.active) in
    let last = head_sums (IsOwnSum s.width s.prefix) s.active [] true refl active in (
      wide.0,
      rolled.0 ++ (sealed.0 ++ last.0 ∷ []),
      wide.1,
      record {
        rolled = rolled.0;
        sealed = sealed.0;
        active = last.0;
        of_rolled = rolled.1;
        of_sealed = sealed.1;
        of_active = last.1;
        all = refl;
      },
    )

-- ---- answers

pub err_read : {X : Type 0} (P : Type 0) (r : Result X ReadRefusal) (e : ReadRefusal) → IsErrAnd r (λ x. x ≡ e)
    → OnOk r P
err_read P (Ok x) e is = absurd is
err_read P (Err x) e is = tt

pub refused_read : {X : Type 0} (P : Type 0) (r : Result X ReadRefusal) → IsErr r → OnOk r P
refused_read P (Ok x) is = absurd cc
refused_read P (Err e) is = tt

-- what was joined wasn't refused
pub joined_read : {X : Type 0} (P : Type 0) (first : ℕ) (old new : PartSums) (share : Result PartSums ReadRefusal)
    (x : X) → IsJoined {X = X} first old share new (Ok x) → OnOk share P → P
joined_read P first old new (Ok mine) x is h = h
joined_read P first old new (Err e) x is h = absurd cc

pub one_more_read : (s : Shelf) (workers n more : ℕ) → more ≡ suc n → ((k : ℕ) → k < n → IsOwnRead s workers k)
    → IsOwnRead s workers n → (k : ℕ) → k < more → IsOwnRead s workers k
one_more_read s workers n more is before here k within =
    elim (k == n) as (λ b. (k == n) ≡ b → IsOwnRead s workers k) [
      | true ↦ λ w. subst (IsOwnRead s workers) (sym (eqb-true k n w)) here
      | false ↦ λ w. let other = eqb-false k n w in before k (grind (arith, within, is, other))
    ] refl

-- the totals of all parts
pub shares_read : {X : Type 0} (items : X → List Row) (s : Shelf) (sums : PartSums) (from to first : ℕ) (fit : Type 0)
    (r : Result X ReadRefusal)
    → (found : (wide : List (FinMap key_cmp Sums)) × (narrow : List (FinMap key_cmp Sums)) × AreWide s wide
    × AreNarrow s narrow)
    → (sums.wide ≡ summed s.wide found.0) × (sums.narrow ≡ summed s.width found.1)
    → IsMade first fit (λ x. items x ≡ rows_of_both from to sums.narrow sums.wide) r
    → IfOk r (λ x. (wide : List (FinMap key_cmp Sums)) × (narrow : List (FinMap key_cmp Sums)) × AreWide s wide
    × AreNarrow s narrow × (items x ≡ rows_of_both from to (summed s.width narrow) (summed s.wide wide)))
shares_read items s sums from to first fit (Ok x) (wide, narrow, are_wide, are_narrow) right made = (
  wide,
  narrow,
  are_wide,
  are_narrow,
  made ∙ ap (λ (t : Table). rows_of_both from to t sums.wide) right.1
      ∙ ap (λ (t : Table). rows_of_both from to (summed s.width narrow) t) right.0,
)
shares_read items s sums from to first fit (Err e) found right made = tt
