-- The shares of workers, joined.
use Rattle.std.proofs.Common.{◌≡◌, ℕ, suc, ◌+◌, ◌<◌, ◌≤◌, List, [], ◌++◌, length, refl, sym, ap, subst, ◌∙◌}
use Rattle.std.proofs.Common.{arith, get_or}
use Rattle.std.specs.Prelude.{nat_lt, ◌≢◌, IfErr, IsErr, IsTrue, OnOk, Result, Ok, Err}
use Rattle.std.specs.FinMap.{FinMap, entries}
use Rattle.flow_disk.specs.Cause.{HasCause, HasRisen}
use Rattle.flow_measure.specs.declared.rows.Sums.{Sums}
use Rattle.flow_measure.specs.Sums.{key_cmp, empty_table, gathered, merged, AllFit, Table}
use Rattle.flow_measure.proofs.Gathering.{gathered-entries}
use Rattle.flow_refusals.specs.declared.read_refusal.ReadRefusal.{ReadRefusal}
use Rattle.flow_refusals.specs.declared.read_refusal.ReadRefusal.TheVariants.{Fault}
use Rattle.flow_snapshot.specs.declared.shares.PartSums.{PartSums}
use Rattle.flow_snapshot.specs.declared.shares.Share.{Share}
use Rattle.flow_snapshot.specs.Shares.{chosen, narrow_turn, own, summed, AllPartsFit, AreNarrow, AreShares, AreWide}
use Rattle.flow_snapshot.specs.Shares.{IsJoined, IsRefusedAt, IsShare}
use Rattle.flow_model.specs.Shelf.{Shelf}
use Rattle.flow_snapshot.specs.ShelfSeen.{ShelfSeen}
use Rattle.flow_snapshot.specs.Totals.{IsMade}
use Rattle.flow_snapshot.proofs.Choosing.{all_shares, chosen_fit, none_summed_yet, shares_merged, turn_within}
use Rattle.flow_snapshot.proofs.Dealing.{made_as}

-- ---- shares, joined

abbrev pub below : {A : Type 0} → ℕ → ℕ → ℕ → List A → List A
below workers n turn xs = chosen (λ t. nat_lt t n) workers turn xs

-- the shares of so many workers
pub record Joined (s : Shelf) (workers n : ℕ) (wide narrow : List (FinMap key_cmp Sums)) (sums : PartSums) : Type 0
  where
    pub wide_is : sums.wide ≡ summed s.wide (below workers n 0 wide)
    pub narrow_is : sums.narrow ≡ summed s.width (below workers n (narrow_turn s workers) narrow)

pub none_joined : (s : Shelf) (workers : ℕ) (wide narrow : List (FinMap key_cmp Sums)) (sums : PartSums)
    → sums.wide ≡ empty_table s.wide → sums.narrow ≡ empty_table s.width → Joined s workers 0 wide narrow sums
none_joined s workers wide narrow sums w n = record {
  wide_is = none_summed_yet workers 0 s.wide wide sums.wide w;
  narrow_is = none_summed_yet workers (narrow_turn s workers) s.width narrow sums.narrow n;
}

pub all_joined : (s : Shelf) (workers n : ℕ) (wide narrow : List (FinMap key_cmp Sums)) (sums : PartSums)
    → 0 < workers → workers ≤ n → Joined s workers n wide narrow sums
    → (sums.wide ≡ summed s.wide wide) × (sums.narrow ≡ summed s.width narrow)
all_joined s workers n wide narrow sums some all j =
    let within = turn_within workers (length s.merged) 0 some in (
      j.wide_is ∙ all_shares workers n 0 s.wide wide some all,
      j.narrow_is ∙ all_shares workers n (narrow_turn s workers) s.width narrow within all,
    )

-- an answer, by its number
pub share_at : {F X : Type 0} (first : ℕ) (sight : ShelfSeen) (shares : List (Share F X)) (i : ℕ) (item : Share F X)
    → i < length shares → item ≡ get_or shares i item → AreShares first sight shares
    → HasCause Fault 0 item.faults item.sums × IsShare first sight (length shares) i item.sums
share_at {F} {X} first sight shares i item within is are =
    subst (λ (x : Share F X). HasCause Fault 0 x.faults x.sums × IsShare first sight (length shares) i x.sums) (sym is)
    (are i item within)

module _ (s : Shelf) (workers n first : ℕ) (wide narrow : List (FinMap key_cmp Sums)) (old new : PartSums)
    (j : Joined s workers n wide narrow old) where
  abbrev fits : Type 0
  fits = AllPartsFit s wide narrow

  abbrev next : PartSums → Type 0
  next sums = Joined s workers (n + 1) wide narrow sums

  join_ok : {X : Type 0} (mine : PartSums) (r : Result X ReadRefusal)
      → (mine.wide ≡ summed s.wide (own workers n 0 wide))
      × (mine.narrow ≡ summed s.width (own workers n (narrow_turn s workers) narrow))
      → IsJoined first old (Ok mine) new r → IsMade first fits (λ _. next new) r
  join_ok {X} mine r is given =
      let turn = narrow_turn s workers in
      let wide_sums : merged old.wide mine.wide ≡ summed s.wide (below workers (suc n) 0 wide) =
      ap (λ (t : Table). merged t mine.wide) j.wide_is
      ∙ ap (λ (t : Table). merged (summed s.wide (below workers n 0 wide)) t) is.0
      ∙ shares_merged workers n 0 s.wide wide in
      let narrow_sums : merged old.narrow mine.narrow ≡ summed s.width (below workers (suc n) turn narrow) =
      ap (λ (t : Table). merged t mine.narrow) j.narrow_is
      ∙ ap (λ (t : Table). merged (summed s.width (below workers n turn narrow)) t) is.1
      ∙ shares_merged workers n turn s.width narrow in
      made_as first (AllFit (merged old.narrow mine.narrow) × AllFit (merged old.wide mine.wide)) fits
      (λ (_ : X). (new.narrow ≡ merged old.narrow mine.narrow) × (new.wide ≡ merged old.wide mine.wide))
      (λ (_ : X). next new) r
      (λ fit. (
        subst AllFit (sym narrow_sums) (chosen_fit (λ t. nat_lt t (suc n)) workers turn s.width narrow fit.1),
        subst AllFit (sym wide_sums) (chosen_fit (λ t. nat_lt t (suc n)) workers 0 s.wide wide fit.0),
      ))
      (λ x h. subst (λ (k : ℕ). Joined s workers k wide narrow new) (omega arith)
      (record { wide_is = h.1 ∙ wide_sums; narrow_is = h.0 ∙ narrow_sums }))
      (given.0 (ap (λ (t : Table). t.width) j.narrow_is ∙ sym (ap (λ (t : Table). t.width) is.1))
      (ap (λ (t : Table). t.width) j.wide_is ∙ sym (ap (λ (t : Table). t.width) is.0)))

  pub join_any : {X : Type 0} (share : Result PartSums ReadRefusal) (r : Result X ReadRefusal)
      → IsMade first fits (λ (sums : PartSums). (sums.wide ≡ summed s.wide (own workers n 0 wide))
      × (sums.narrow ≡ summed s.width (own workers n (narrow_turn s workers) narrow))) share
      → IsJoined first old share new r → IsMade first fits (λ _. next new) r
  join_any {X} (Ok mine) r made given = join_ok mine r made given
  join_any {X} (Err e) r made given = subst (IsMade first fits (λ (_ : X). next new)) (sym given) made

-- ---- causes

on_ok : {X : Type 0} (P : Type 0) (r : Result X ReadRefusal) → P → OnOk r P
on_ok P (Ok x) h = h
on_ok P (Err e) h = tt

if_err : {X : Type 0} (P : Type 0) (Q : ReadRefusal → Type 0) (r : Result X ReadRefusal) → P → IfErr r (λ e. Q e → P)
if_err P Q (Ok x) h = tt
if_err P Q (Err e) h = λ _. h

pub cause_of_share : {X : Type 0} (first : ℕ) (old new : PartSums) (share : Result PartSums ReadRefusal)
    (raised before after : ℕ) (r : Result X ReadRefusal) → HasCause Fault 0 raised share
    → (raised ≡ 0 → after ≡ before) → (HasRisen 0 raised → HasRisen before after) → before ≤ after
    → IsJoined first old share new r → HasCause Fault before after r
cause_of_share {X} first old new (Ok mine) raised before after r h none some later given =
    let same : after ≡ before = none h.done in
    record {
      later = later;
      done = on_ok (after ≡ before) r same;
      risen = λ is. absurd (subst (λ (x : Result X ReadRefusal). IfErr x (λ e. e ≢ Fault)) is given.1 refl);
      other = if_err (after ≡ before) (λ e. e ≢ Fault) r same;
    }
cause_of_share {X} first old new (Err e) raised before after r h none some later given =
    let reported : HasCause {T = X} Fault before after (Err e) = record {
      later = later;
      done = tt;
      risen = λ is. let fault : e ≡ Fault = cc in some (h.risen (ap Err fault));
      other = λ different. none (h.other different);
    } in
    subst (HasCause Fault before after) (sym given) reported

-- ---- a worker that was refused

-- it is refused whatever is to be made
pub refused_made : {X : Type 0} (first : ℕ) (fit : Type 0) (P Q : X → Type 0) (r : Result X ReadRefusal) → IsErr r
    → IsMade first fit P r → IsMade first fit Q r
refused_made first fit P Q (Ok x) is h = absurd cc
refused_made first fit P Q (Err e) is h = h

-- what a worker's reads have raised, added to another count
pub cause_added : {X : Type 0} (raised before after : ℕ) (r : Result X ReadRefusal) → HasCause Fault 0 raised r
    → (raised ≡ 0 → after ≡ before) → (HasRisen 0 raised → HasRisen before after) → before ≤ after
    → HasCause Fault before after r
cause_added raised before after (Ok x) h none some later = record {
  later = later;
  done = none h.done;
  risen = λ is. some (h.risen is);
  other = tt;
}
cause_added raised before after (Err e) h none some later = record {
  later = later;
  done = tt;
  risen = λ is. some (h.risen is);
  other = λ different. none (h.other different);
}

pub refused_answer : {F X : Type 0} (shares : List (Share F X)) (n : ℕ) (item : Share F X)
    (result : Result PartSums ReadRefusal) → IsRefusedAt shares n → item ≡ get_or shares n item → result ≡ item.sums
    → IsErr result
refused_answer {F} {X} shares n item result refused is same =
    subst (λ (r : Result PartSums ReadRefusal). IsErr r) (sym same)
    (subst (λ (x : Share F X). IsErr x.sums) (sym is) (refused.1 item))

-- so the answer of one is that of all
pub refused_worker : {F X : Type 0} (sight : ShelfSeen) (shares : List (Share F X)) (n first : ℕ) (item : Share F X)
    (result : Result PartSums ReadRefusal) → IsRefusedAt shares n → item ≡ get_or shares n item → AreShares first sight shares
    → result ≡ item.sums → IsTrue sight.honest
    → (wide narrow : List (FinMap key_cmp Sums)) → AreWide sight.shelf wide → AreNarrow sight.shelf narrow
    → IsMade first (AllPartsFit sight.shelf wide narrow)
    (λ sums. (sums.wide ≡ summed sight.shelf.wide wide) × (sums.narrow ≡ summed sight.shelf.width narrow)) result
refused_worker {F} {X} sight shares n first item result refused is are same honest wide narrow w m =
    let s = sight.shelf in
    let workers = length shares in
    let all = λ (sums : PartSums). (sums.wide ≡ summed s.wide wide) × (sums.narrow ≡ summed s.width narrow) in
    let mine = λ (sums : PartSums). (sums.wide ≡ summed s.wide (own workers n 0 wide))
    × (sums.narrow ≡ summed s.width (own workers n (narrow_turn s workers) narrow)) in
    let fit = AllPartsFit s wide narrow in
    let answered = share_at first sight shares n item refused.0 is are in
    subst (λ (r : Result PartSums ReadRefusal). IsMade first fit all r) (sym same)
    (refused_made first fit mine all item.sums
    (subst (λ (x : Share F X). IsErr x.sums) (sym is) (refused.1 item))
    (answered.1.given honest wide narrow w m))

-- ---- rows, added to none

pub merged_none : (a b : Table) → a.width ≡ b.width → entries a.sums ≡ [] → b ≡ merged a b
merged_none a b same none = λ i. record {
  width = sym same i;
  sums = (sym (gathered-entries b.sums) ∙ ap (λ es. gathered (es ++ entries b.sums)) (sym none)) i;
}
