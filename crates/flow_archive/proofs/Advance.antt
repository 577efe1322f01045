-- What a job reads of its sources, one after the other.
use Rattle.std.proofs.Common.{◌≡◌, ℕ, ◌<◌, ◌^◌, List, [], ◌∷◌, ◌++◌, map, refl, sym, ap, subst, ◌∙◌, append-nil}
use Rattle.std.proofs.Common.{append_assoc}
use Rattle.std.proofs.Common.{arith, Result, Ok, Err}
use Rattle.std.specs.Prelude.{fold, max, IsErrAnd}
use Rattle.std.proofs.lemmas.List.{map-append}
use Rattle.flow_manifest.specs.declared.following.JobKind.{JobKind}
use Rattle.flow_manifest.specs.declared.following.JobKind.TheVariants.{Roll, Merge}
use Rattle.flow_manifest.specs.declared.manifest.Kind.TheVariants.{Rolled, Sealed}
use Rattle.flow_manifest.specs.declared.manifest.Manifest.{Manifest}
use Rattle.flow_measure.specs.History.{Accepted, flows_in}
use Rattle.flow_measure.specs.Sums.{Table, merged, table_of, widened}
use Rattle.flow_rolled.specs.Rollup.{IsRollup}
use Rattle.flow_rolled.specs.Stored.{export_time}
use Rattle.flow_segment.specs.Carry.{Carry}
use Rattle.flow_segment.specs.PartFlows.{greatest_time}
use Rattle.flow_model.specs.Chain.{IsSegment}
use Rattle.flow_model.specs.Jobs.{width_made, AreRolledMessages, IsJobSum}
use Rattle.flow_model.specs.Standing.{IsSealedAt}
use Rattle.flow_model.specs.State.{Part}
use Rattle.flow_model.proofs.Sourcing.{job_more}
use Rattle.flow_refusals.specs.declared.sum_refusal.SumRefusal.{SumRefusal}
use Rattle.flow_refusals.specs.declared.sum_refusal.SumRefusal.TheVariants.{Damaged, SumSpent, Fault, OutOfMemory}
use Rattle.flow_archive.specs.Frozen.{Frozen}
use Rattle.flow_archive.specs.Sources.{IsJobTime, IsMerged, IsRead, IsSource}
use Rattle.flow_archive.specs.Advancing.{IsTakenIn}
use Rattle.flow_archive.specs.UnderWay.{RunningJob}

-- ---- one source

pub segment_read : (made : ℕ) (m : Manifest) (p : Part) (carry : Carry) (segment : IsSegment p carry) (old new : Table)
    (r : Result ℕ SumRefusal) → made ≡ m.width
    → IsMerged (table_of made (flows_in segment.messages)) (greatest_time segment.messages) old new r
    → IsRead Roll m p old new r
segment_read made m p carry segment old new r is added = (
  table_of m.width (flows_in segment.messages),
  greatest_time segment.messages,
  (carry, segment, refl),
  (segment.messages, (carry, segment, [], refl, sym (append-nil segment.messages)), refl),
  subst (λ (w : ℕ). IsMerged (table_of w (flows_in segment.messages)) (greatest_time segment.messages) old new r) is
      added,
)

one_time : (n : ℕ) → n ≡ fold max 0 (n ∷ [])
one_time n = omega arith

pub file_read : (made : ℕ) (m : Manifest) (p : Part) (octets : List ℕ) (table old new : Table) (r : Result ℕ SumRefusal)
    → made ≡ m.wide → octets ≡ p.front → IsRollup m.width p.front table
    → IsMerged (widened made table) (export_time octets) old new r → IsRead Merge m p old new r
file_read made m p octets table old new r is here rollup added = (
  widened m.wide table,
  export_time p.front,
  (table, rollup, refl),
  one_time (export_time p.front),
  subst (λ (l : List ℕ). IsMerged (widened m.wide table) (export_time l) old new r) here
      (subst (λ (w : ℕ). IsMerged (widened w table) (export_time octets) old new r) is added),
)

pub sealed_read : (f : Frozen) (old new : Table) (r : Result ℕ SumRefusal) → f.entry.kind ≡ Sealed
    → ((p : Part) (carry : Carry) → IsSealedAt f.octets f.entry p → (segment : IsSegment p carry)
    → IsMerged (table_of old.width (flows_in segment.messages)) (greatest_time segment.messages) old new r)
    → (kind : JobKind) (m : Manifest) (p : Part) → old.width ≡ width_made kind m → IsSource kind m f p
    → IsRead kind m p old new r
sealed_read f old new r sealed given Roll m p is (k, few, at, own) =
    segment_read old.width m p own.0 own.1 old new r is (given p own.0 at own.1)
sealed_read f old new r sealed given Merge m p is (k, here, own) = let no = sym sealed ∙ k in absurd (cc)

pub rolled_read : (f : Frozen) (width : ℕ) (old new : Table) (r : Result ℕ SumRefusal) → f.entry.kind ≡ Rolled
    → ((table : Table) → IsRollup width f.octets table
    → IsMerged (widened old.width table) (export_time f.octets) old new r)
    → (kind : JobKind) (m : Manifest) (p : Part) → width ≡ m.width → old.width ≡ width_made kind m
    → IsSource kind m f p → IsRead kind m p old new r
rolled_read f width old new r rolled given Roll m p narrow is (k, few, at, own) =
    let no = sym rolled ∙ k in absurd (cc)
rolled_read f width old new r rolled given Merge m p narrow is (k, here, own) =
    file_read old.width m p f.octets own.0 old new r is here own.1
    (given own.0 (subst (λ (w : ℕ). IsRollup w f.octets own.0) (sym narrow)
    (subst (λ (l : List ℕ). IsRollup m.width l own.0) (sym here) own.1)))

-- ---- one source more

rolled_more : (ps qs : List Part) (ms ns : List Accepted) → AreRolledMessages ps ms → AreRolledMessages qs ns
    → AreRolledMessages (ps ++ qs) (ms ++ ns)
rolled_more [] qs ms ns none more = subst (λ (l : List Accepted). AreRolledMessages qs (l ++ ns)) (sym none) more
rolled_more (q ∷ ps) qs ms ns (c, g, others, rest, is) more = (
  c,
  g,
  others ++ ns,
  rolled_more ps qs others ns rest more,
  ap (λ (l : List Accepted). l ++ ns) is ∙ append_assoc g.messages others ns,
)

greatest_both : (ms ns : List Accepted) → max (greatest_time ms) (greatest_time ns) ≡ greatest_time (ms ++ ns)
greatest_both [] ns = omega arith
greatest_both (a ∷ ms) ns = omega (arith, greatest_both ms ns)

fold_both : (xs : List ℕ) (z y : ℕ) → max (fold max z xs) (fold max 0 (y ∷ [])) ≡ fold max z (xs ++ y ∷ [])
fold_both [] z y = omega arith
fold_both (x ∷ xs) z y = fold_both xs (max z x) y

time_more : (kind : JobKind) (ps : List Part) (p : Part) (t u : ℕ) → IsJobTime kind ps t → IsJobTime kind (p ∷ []) u
    → IsJobTime kind (ps ++ p ∷ []) (max t u)
time_more Roll ps p t u (ms, rolled, is) (ns, one, same) = (
  ms ++ ns,
  rolled_more ps (p ∷ []) ms ns rolled one,
  ap (λ (n : ℕ). max n u) is ∙ ap (max (greatest_time ms)) same ∙ greatest_both ms ns,
)
time_more Merge ps p t u is same =
    let time = λ (x : Part). export_time x.front in
    ap (λ (n : ℕ). max n u) is ∙ ap (max (fold max 0 (map time ps))) same
    ∙ fold_both (map time ps) 0 (time p) ∙ ap (fold max 0) (sym (map-append time ps (p ∷ [])))

-- ---- a job takes it

module _ (kind : JobKind) (m : Manifest) (ps : List Part) (p : Part) (rows : Table) (before : ℕ)
    (sums : IsJobSum kind m ps rows) (times : IsJobTime kind ps before) where
  pub not_taken : (after : Table) (new : RunningJob) (e : SumRefusal) → IsRead kind m p rows after (Err e)
      → IsTakenIn {X = Unit {0}} kind m (ps ++ p ∷ []) (Err e) new
  not_taken after new (Damaged file at) (one, time, source, its, never) = absurd never
  not_taken after new SumSpent (one, time, source, its, spent) = (
    merged rows one,
    job_more kind m ps p rows one sums source,
    spent,
  )
  not_taken after new Fault read = tt
  not_taken after new OutOfMemory read = tt

  pub taken : (now : Table) (own latest : ℕ) → IsRead kind m p rows now (Ok own) → latest ≡ max before own
      → IsJobSum kind m (ps ++ p ∷ []) now × IsJobTime kind (ps ++ p ∷ []) latest
  taken now own latest (one, time, its, times_are, is) time_is = (
    subst (IsJobSum kind m (ps ++ p ∷ [])) (sym is.0) (job_more kind m ps p rows one sums its),
    subst (IsJobTime kind (ps ++ p ∷ [])) (sym (time_is ∙ ap (max before) is.1))
        (time_more kind ps p before time times times_are),
  )

pub source_err : {X : Type 0} (r : Result X SumRefusal) (e : SumRefusal) (P : Result X SumRefusal → Type 0)
    → IsErrAnd r (λ x. x ≡ e) → P (Err e) → P r
source_err (Ok x) e P is holds = absurd is
source_err (Err x) e P is holds = subst (λ y. P (Err y)) (sym is) holds

-- ---- what is taken, damaged or not

pub refused_so : {X : Type 0} (r : Result X SumRefusal) (e : SumRefusal) → IsErrAnd r (λ x. x ≡ e) → r ≡ Err e
refused_so (Ok x) e is = absurd is
refused_so (Err x) e is = ap Err is
