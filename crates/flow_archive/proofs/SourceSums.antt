-- The sums of a sealed segment are those of its messages.
use Rattle.std.proofs.Common.{◌≡◌, ℕ, ◌-◌, ◌<◌, ◌≤◌, ◌^◌, List, [], length, take, drop, refl, sym, ap, subst, ◌∙◌}
use Rattle.std.proofs.Common.{arith, ◌++◌, inl, inr, Option, Some, None, Result, Ok, Err}
use Rattle.std.specs.Prelude.{IfSome, MatchResult}
use Rattle.std.specs.Result.{IsErrAnd}
use Rattle.std.specs.FinMap.{entries}
use Rattle.std.proofs.lemmas.List.{drop-take, length-map, length-take-le, take-take}
use Rattle.flow_codec.specs.Templates.{AllTemplates}
use Rattle.flow_disk.specs.Cause.{HasCause, HasRisen}
use Rattle.flow_disk.specs.Printed.{read_refusal}
use Rattle.flow_disk.specs.declared.error.DiskError.{DiskError}
use Rattle.flow_disk.specs.declared.error.DiskError.TheVariants as disk
use Rattle.flow_refusals.specs.Printed.{sum_of_read}
use Rattle.flow_refusals.specs.declared.read_refusal.ReadRefusal.{ReadRefusal}
use Rattle.flow_refusals.specs.declared.read_refusal.ReadRefusal.TheVariants as read
use Rattle.flow_manifest.specs.declared.manifest.Kind.TheVariants.{Sealed}
use Rattle.flow_manifest.specs.declared.manifest.Entry.{Entry}
use Rattle.flow_measure.specs.History.{Accepted, flows_in, templates_from}
use Rattle.flow_measure.specs.Printed.{sum_refusal}
use Rattle.flow_measure.specs.declared.rows.Sums.{Sums}
use Rattle.flow_measure.specs.declared.error.SumError.{SumError}
use Rattle.flow_measure.specs.declared.error.SumError.TheVariants as sum
use Rattle.flow_measure.specs.Sums.{IsRefused, AllFit, Fits, Table, empty_table, merged, table_of, widened, with_entries}
use Rattle.flow_measure.proofs.Gathering.{get-gathered, joined, sum_at, sum_at-append, sum_at-entries}
use Rattle.flow_measure.proofs.Merging.{with_empty}
use Rattle.flow_refusals.specs.declared.sum_refusal.SumRefusal.{SumRefusal}
use Rattle.flow_rolled.specs.Rollup.{IsBroken, IsRollup}
use Rattle.flow_rolled.specs.Stored as stored
use Rattle.flow_rolled.specs.Stored.{export_time, IsAdded, IsNotAdded}
use Rattle.flow_rolled.proofs.Breaking.{one_table}
use Rattle.flow_segment.specs.Carry.{Carry}
use Rattle.flow_segment.specs.Prefix.{AreRead, AreTemplatesGiven, IsPrefixToldOf, IsRestated}
use Rattle.flow_segment.specs.PartFlows as flows
use Rattle.flow_segment.specs.PartFlows.{greatest_time, AreAdded, ArePartMessages, HasMessages}
use Rattle.flow_segment.specs.Segment.{part_octets}
use Rattle.flow_segment.specs.Steps.{KeepsFront}
use Rattle.flow_model.specs.State.{Part}
use Rattle.flow_model.specs.Chain.{IsSegment}
use Rattle.flow_model.specs.Standing.{IsSealedAt}
use Rattle.flow_recover.proofs.Behind.{sealed_read}
use Rattle.flow_model.proofs.Stand.{part_cut}
use Rattle.flow_archive.specs.declared.sources.Source.{Source}
use Rattle.flow_refusals.specs.declared.sum_refusal.SumRefusal.TheVariants.{Damaged, SumSpent, Fault, OutOfMemory}
use Rattle.flow_archive.specs.Sources.{IsFileRefusal, IsFileSum}
use Rattle.flow_archive.specs.Sources.{IsMerged, IsNotTakenUp, IsSegmentRefusal, IsSegmentSum, IsSummed, IsTakenUp}

-- ---- what the file holds

pub restated_there : (octets : List ℕ) (prefix : ℕ) (e : Entry) (p : Part) (carry : Carry) → prefix ≡ e.prefix
    → IsSealedAt octets e p → (g : IsSegment p carry)
    → IsRestated (part_octets 0 prefix octets) (templates_from [] g.prefix)
restated_there octets prefix e p carry same at g =
    subst (λ (l : List ℕ). IsRestated l (templates_from [] g.prefix))
    (sym (ap (λ (n : ℕ). take n octets) (omega (arith, same)) ∙ at.front)) (g.prefix, g.front, g.restated, refl)

pub cut_whole : (octets : List ℕ) (e : Entry) (p : Part) → IsSealedAt octets e p → IsSealedAt (take e.length octets) e p
cut_whole octets e p at =
    let keeps : KeepsFront e.length octets (take e.length octets) = record {
      front = take-take e.length e.length octets (omega arith);
      long = omega (arith, length-take-le e.length octets at.long);
    } in
    part_cut Sealed e.length octets (take e.length octets) e p (omega arith) keeps at

pub ordered : (octets : List ℕ) (e : Entry) (p : Part) → IsSealedAt octets e p → e.prefix ≤ e.length
ordered octets e p at = omega (arith, at.count)

messages_read : (octets : List ℕ) (e : Entry) (p : Part) (carry : Carry) → IsSealedAt octets e p
    → (g : IsSegment p carry)
    → AreRead (part_octets e.prefix e.length octets) (templates_from [] g.prefix) g.messages []
messages_read octets e p carry at g =
    let le = ordered octets e p at in
    let same : drop e.prefix (take e.length octets) ≡ part_octets e.prefix e.length octets =
    ap (λ (n : ℕ). drop e.prefix (take n octets)) (omega (arith, le)) ∙ drop-take e.prefix (e.length - e.prefix) octets
    in
    subst (λ (l : List ℕ). AreRead l (templates_from [] g.prefix) g.messages []) same
    (sealed_read (take e.length octets) e p (templates_from [] g.prefix) g.messages
    (length-take-le e.length octets at.long) (cut_whole octets e p at) g.octets g.accepted)

pub messages_there : (octets : List ℕ) (prefix end count : ℕ) (e : Entry) (p : Part) (carry : Carry)
    → prefix ≡ e.prefix → end ≡ e.length → count ≡ e.messages → IsSealedAt octets e p → (g : IsSegment p carry)
    → ArePartMessages (part_octets prefix end octets) (templates_from [] g.prefix) count g.messages
messages_there octets prefix end count e p carry prefix_is end_is count_is at g = record {
  read = subst (λ (n : ℕ). AreRead (part_octets n end octets) (templates_from [] g.prefix) g.messages [])
      (sym prefix_is)
      (subst (λ (n : ℕ). AreRead (part_octets e.prefix n octets) (templates_from [] g.prefix) g.messages [])
      (sym end_is) (messages_read octets e p carry at g));
  all = sym (length-map g.messages (λ (a : Accepted). a.octets)) ∙ ap (λ (l : List (List ℕ)). length l) g.octets
      ∙ at.messages ∙ sym count_is;
}

-- ---- what is answered

pub err_is : {X : Type 0} (answer : Result X SumRefusal) (e : SumRefusal) → IsErrAnd answer (λ x. x ≡ e)
    → answer ≡ Err e
err_is (Ok x) e never = absurd never
err_is (Err x) e is = ap Err is

-- a refusal of a call below as one of these
pub passed_on : {E F T U : Type 0} (fault : E) (told : F) (e : E) (f : F) (start before now : ℕ)
    (answer : Result U F) → HasCause {T = T} fault before now (Err e) → before ≡ start → IsErrAnd answer (λ x. x ≡ f)
    → (f ≡ told → e ≡ fault) → (e ≡ fault → f ≡ told) → HasCause told start now answer
passed_on {E} {F} {T} {U} fault told e f start before now (Ok x) was still never to back = absurd never
passed_on {E} {F} {T} {U} fault told e f start before now (Err x) was still is to back = record {
  later = omega (arith, was.later, still);
  done = tt;
  risen = λ same. subst (λ (n : ℕ). HasRisen n now) still
      (was.risen (ap (λ (y : E). Err y) (to (let this : x ≡ told = cc in sym is ∙ this))));
  other = λ differs. was.other (λ same. differs (is ∙ back same)) ∙ still;
}

-- a refusal of the disk, whatever the octets
pub not_read : (sums : Table) (time : ℕ) (e : DiskError) (answer : Result Source SumRefusal)
    → answer ≡ Err (sum_of_read (read_refusal e)) → IsSummed sums time answer
not_read sums time disk.Fault answer is = subst (IsSummed sums time) (sym is) tt
not_read sums time disk.OutOfMemory answer is = subst (IsSummed sums time) (sym is) tt

-- restated templates aren't reported as damaged
pub not_restated : (all : AllTemplates) (sums : Table) (time : ℕ) (old new : Table) (e : ReadRefusal)
    (answer : Result ℕ SumRefusal) → AreTemplatesGiven all (Err e) → answer ≡ Err (sum_of_read e)
    → IsMerged sums time old new answer
not_restated all sums time old new (read.Damaged file at) answer never is = absurd never
not_restated all sums time old new read.Fault answer given is = subst (IsMerged sums time old new) (sym is) tt
not_restated all sums time old new read.OutOfMemory answer given is = subst (IsMerged sums time old new) (sym is) tt

-- flows that aren't added would pass their types, or a read failed, or memory ran out
pub not_added : (before after : AllTemplates) (messages : List Accepted) (old some new : Table) (time : ℕ)
    (e : SumRefusal) → AreAdded {X = ℕ} before old messages (Err e) after some
    → IsMerged (table_of old.width (flows_in messages)) time old new (Err e)
not_added before after messages old some new time (Damaged file at) never = absurd never
not_added before after messages old some new time SumSpent spent = spent.0
not_added before after messages old some new time Fault given = tt
not_added before after messages old some new time OutOfMemory given = tt

-- ---- a rolled file

module _ (width wide : ℕ) (small : width < 2 ^ 32) (octets : List ℕ) (table : Table) (is : IsRollup width octets table)
    (old : Table) (none : old ≡ empty_table wide) (time : ℕ) where
  pub file_sums : (new : Table) → IsAdded width octets old new → new ≡ widened wide table
  file_sums new a =
      a.sums
      ∙ ap (λ (t : Table). with_entries (entries t.sums) old) (one_table width small octets a.table table a.rollup is)
      ∙ ap (with_entries (entries table.sums)) none ∙ with_empty wide table (entries table.sums) refl

  pub file_refused : (file : stored.Rollup) (e : SumRefusal) (answer : Result Source SumRefusal)
      → file.octets ≡ octets → IsNotAdded file width old e → answer ≡ Err e
      → IsSummed (widened wide table) time answer
  file_refused file (Damaged number at) answer here h same =
      absurd ((h.1).none table (subst (λ (os : List ℕ). IsRollup width os table) (sym here) is))
  file_refused file SumSpent answer here h same =
      subst (IsSummed (widened wide table) time) (sym same)
      (λ fit. h table (subst (λ (os : List ℕ). IsRollup width os table) (sym here) is)
      (subst AllFit (sym (ap (with_entries (entries table.sums)) none
      ∙ with_empty wide table (entries table.sums) refl)) fit))
  file_refused file Fault answer here h same = subst (IsSummed (widened wide table) time) (sym same) tt
  file_refused file OutOfMemory answer here h same = subst (IsSummed (widened wide table) time) (sym same) tt

-- ---- sums that pass their types

joined_fits : (a b : Option Sums) → IfSome (joined a b) Fits → IfSome b Fits
joined_fits a None h = tt
joined_fits None (Some b) h = h
joined_fits (Some a) (Some b) h = (omega (arith, h.0), omega (arith, h.1), omega (arith, h.2))

-- what is merged into sums that fit fits
pub behind_fits : (a b : Table) → AllFit (merged a b) → AllFit b
behind_fits a b all q =
    subst (λ o. IfSome o Fits) (sum_at-entries b.sums q)
    (joined_fits (sum_at q (entries a.sums)) (sum_at q (entries b.sums))
    (subst (λ o. IfSome o Fits) (get-gathered (entries a.sums ++ entries b.sums) q
    ∙ sum_at-append q (entries a.sums) (entries b.sums)) (all q)))

-- ---- what is read, damaged or not

module _ (prefix octets : List ℕ) (number start end count : ℕ) (A : ℕ → Type 0) (old : Table) where
  abbrev IsNotTaken : SumRefusal → Type 0
  IsNotTaken = IsNotTakenUp (IsSegmentSum old.width prefix octets count)
      (IsSegmentRefusal prefix octets number start end count) old

  abbrev IsAnswered : Result ℕ SumRefusal → Type 0
  IsAnswered answer = MatchResult answer A IsNotTaken

  pub prefix_refused : (e : ReadRefusal) (answer : Result ℕ SumRefusal) → IsPrefixToldOf prefix number e
      → answer ≡ Err (sum_of_read e)
      → MatchResult answer A (IsNotTakenUp (IsSegmentSum old.width prefix octets count)
      (IsSegmentRefusal prefix octets number start end count) old)
  prefix_refused (read.Damaged file at) answer why is =
      subst IsAnswered (sym is) (inl why)
  prefix_refused read.Fault answer why is = subst IsAnswered (sym is) tt
  prefix_refused read.OutOfMemory answer why is = subst IsAnswered (sym is) tt

  pub messages_refused : (before after : AllTemplates) (some : Table) (e : SumRefusal) → IsRestated prefix before
      → flows.IsNotAdded octets before number start end count e
      → ((messages : List Accepted) → ArePartMessages octets before count messages
      → AreAdded {X = ℕ} before old messages (Err e) after some)
      → IsNotTakenUp (IsSegmentSum old.width prefix octets count) (IsSegmentRefusal prefix octets number start end count)
      old e
  messages_refused before after some (Damaged file at) restated why given =
      inr (before, restated, why)
  messages_refused before after some SumSpent restated (messages, are) given =
      inr (
        record { rows = table_of old.width (flows_in messages); time = greatest_time messages },
        (before, messages, restated, are, refl, refl),
        (given messages are).0,
      )
  messages_refused before after some Fault restated why given = tt
  messages_refused before after some OutOfMemory restated why given = tt

pub segment_added : (prefix octets : List ℕ) (count : ℕ) (before after : AllTemplates) (old new : Table) (time : ℕ)
    → IsRestated prefix before → HasMessages octets before count
    → ((messages : List Accepted) → ArePartMessages octets before count messages
    → AreAdded {X = ℕ} before old messages (Ok time) after new)
    → ((messages : List Accepted) → ArePartMessages octets before count messages → time ≡ greatest_time messages)
    → IsTakenUp (IsSegmentSum old.width prefix octets count) old new time
segment_added prefix octets count before after old new time restated (messages, are) added latest = (
  record { rows = table_of old.width (flows_in messages); time = greatest_time messages },
  (before, messages, restated, are, refl, refl),
  (added messages are).1,
  latest messages are,
)

-- ---- a source's own sums, added to others

pub own_refused : (Holds : Source → Type 0) (Refuses : SumRefusal → Type 0) (old : Table) (e : SumRefusal) → Refuses e
    → IsNotTakenUp Holds Refuses old e
own_refused Holds Refuses old (Damaged file at) h = h
own_refused Holds Refuses old SumSpent h = inl h
own_refused Holds Refuses old Fault h = tt
own_refused Holds Refuses old OutOfMemory h = tt

pub merge_refused : (Holds : Source → Type 0) (Refuses : SumRefusal → Type 0) (old : Table) (read : Source)
    (e : SumError) → Holds read → IsRefused e (merged old read.rows) → IsNotTakenUp Holds Refuses old (sum_refusal e)
merge_refused Holds Refuses old read sum.SumSpent holds spent = inr (read, holds, spent)
merge_refused Holds Refuses old read sum.OutOfMemory holds spent = tt

pub own_not_merged : (sums : Table) (time : ℕ) (old new : Table) (e : SumRefusal) → IsSummed sums time (Err e)
    → IsMerged sums time old new (Err e)
own_not_merged sums time old new (Damaged file at) never = absurd never
own_not_merged sums time old new SumSpent spent = λ all. spent (behind_fits old sums all)
own_not_merged sums time old new Fault h = tt
own_not_merged sums time old new OutOfMemory h = tt

pub not_merged : (sums : Table) (time : ℕ) (old new : Table) (read : Source) (e : SumError)
    → IsSummed sums time (Ok read) → IsRefused e (merged old read.rows)
    → IsMerged sums time old new (Err (sum_refusal e))
not_merged sums time old new read sum.SumSpent is spent = subst (λ (t : Table). AllFit (merged old t) → ⊥) is.0 spent
not_merged sums time old new read sum.OutOfMemory is spent = tt

module _ (width wide : ℕ) (octets : List ℕ) (old : Table) (none : old ≡ empty_table wide) where
  pub file_summed : (new : Table) (time : ℕ) → IsAdded width octets old new → time ≡ export_time octets
      → IsFileSum width wide octets (record { rows = new; time = time })
  file_summed new time a at = (
    a.table,
    a.rollup,
    a.sums ∙ ap (with_entries (entries a.table.sums)) none ∙ with_empty wide a.table (entries a.table.sums) refl,
    at,
  )

  pub file_not_summed : (A : Source → Type 0) (file : stored.Rollup) (e : SumRefusal)
      (answer : Result Source SumRefusal) → file.octets ≡ octets → IsNotAdded file width old e
      → answer ≡ Err e → MatchResult answer A (IsFileRefusal width wide octets)
  file_not_summed A file (Damaged number at) answer here why is =
      subst (λ (r : Result Source SumRefusal). MatchResult r A (IsFileRefusal width wide octets)) (sym is)
      (subst (λ (os : List ℕ). IsBroken width os at) here (why.1))
  file_not_summed A file SumSpent answer here why is =
      subst (λ (r : Result Source SumRefusal). MatchResult r A (IsFileRefusal width wide octets)) (sym is)
      (λ table rollup fit. why table (subst (λ (os : List ℕ). IsRollup width os table) (sym here) rollup)
      (subst AllFit (sym (ap (with_entries (entries table.sums)) none
      ∙ with_empty wide table (entries table.sums) refl)) fit))
  file_not_summed A file Fault answer here why is =
      subst (λ (r : Result Source SumRefusal). MatchResult r A (IsFileRefusal width wide octets)) (sym is) tt
  file_not_summed A file OutOfMemory answer here why is =
      subst (λ (r : Result Source SumRefusal). MatchResult r A (IsFileRefusal width wide octets)) (sym is) tt

  pub file_unread : (A : Source → Type 0) (e : DiskError) (answer : Result Source SumRefusal)
      → answer ≡ Err (sum_of_read (read_refusal e)) → MatchResult answer A (IsFileRefusal width wide octets)
  file_unread A disk.Fault answer is =
      subst (λ (r : Result Source SumRefusal). MatchResult r A (IsFileRefusal width wide octets)) (sym is) tt
  file_unread A disk.OutOfMemory answer is =
      subst (λ (r : Result Source SumRefusal). MatchResult r A (IsFileRefusal width wide octets)) (sym is) tt
