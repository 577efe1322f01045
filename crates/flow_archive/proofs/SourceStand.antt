-- The place of a job's next source, and the job once it has taken it.
use Rattle.std.proofs.Common.{◌≡◌, ℕ, zero, suc, ◌+◌, ◌-◌, ◌<◌, ◌≤◌, ◌^◌, Bool, true, false, IsTrue, List, [], ◌∷◌}
use Rattle.std.proofs.Common.{◌++◌, inl, inr, length}
use Rattle.std.proofs.Common.{map, take, drop, get_or, refl, sym, ap, subst, ◌∙◌, arith, Option, Some, None, Result, Err}
use Rattle.std.specs.Prelude.{min, IfSome}
use Rattle.std.specs.List.{AllByRecursion}
use Rattle.std.proofs.lemmas.List.{drop_more, get_or-drop, get_or-take, length-drop, length-take-le, take_more}
use Rattle.std.proofs.lemmas.List.Sums.{sum_by-cons}
use Rattle.flow_manifest.specs.declared.following.JobKind.{JobKind}
use Rattle.flow_manifest.specs.declared.following.JobKind.TheVariants.{Merge, Roll}
use Rattle.flow_disk.specs.Disk.{Held, Marks}
use Rattle.flow_manifest.specs.declared.manifest.Entry.{Entry}
use Rattle.flow_manifest.specs.declared.manifest.Kind.{Kind}
use Rattle.flow_manifest.specs.declared.manifest.Kind.TheVariants.{Wide, Rolled, Sealed, Active}
use Rattle.flow_manifest.specs.declared.manifest.Manifest.{Manifest}
use Rattle.flow_manifest.specs.declared.slots.Slots.{Slots}
use Rattle.flow_manifest.specs.Following.{count_before, count_of, front_of, messages_of, no_entry, source_of}
use Rattle.flow_manifest.specs.Following.{sources_of}
use Rattle.flow_manifest.specs.Manifest.{rank, IsValidManifest}
use Rattle.flow_manifest.proofs.ValidEntries.{all_sum, front_long}
use Rattle.flow_manifest.proofs.ManifestAfterInstall.{behind_short}
use Rattle.flow_segment.specs.Carry.{Carry}
use Rattle.flow_model.specs.State.{Part, State}
use Rattle.flow_model.specs.Chain.{ArePartsBehind, HandsOn, IsPartBehind}
use Rattle.flow_model.specs.Jobs.{source_parts, width_made, IsJobSum}
use Rattle.flow_recover.specs.Opening.{FrozenStand}
use Rattle.flow_model.specs.Standing.{IsSealedAt, StandsAs}
use Rattle.flow_model.proofs.SourcePlaces.{are_sources}
use Rattle.flow_archive.specs.Frozen.{counted_of, octets_in, AreHeldAs, Frozen, IsHeldAs}
use Rattle.flow_archive.specs.declared.refusal.ArchiveError.TheVariants as refusal
use Rattle.flow_refusals.specs.declared.sum_refusal.SumRefusal.{SumRefusal}
use Rattle.flow_refusals.specs.declared.sum_refusal.SumRefusal.TheVariants as source
use Rattle.flow_archive.specs.Advancing.{IsTaken, IsTakenIn}
use Rattle.flow_archive.specs.JobAnswers.{sources_left, stepped, AnswersStep, HasJob, IsFirstFile, IsNextFile}
use Rattle.flow_archive.specs.Seen.{IsArchive}
use Rattle.flow_archive.specs.Sources.{of_source, IsJobTime, IsSource}
use Rattle.flow_archive.specs.UnderWay.{FrozenStaged, RunningJob, job_in, staged_in, IsRunningJob, IsStaged}

-- ---- a file, its entry and its part

record AreAt (m : Manifest) (e : Entry) (p : Part) (f : Frozen) : Type 0 where
  held : IsHeldAs true e f
  stands : StandsAs e.kind f.octets e p
  before : Option Carry
  after : Option Carry
  behind : IsPartBehind m e.kind before p after

pub all_at : (P : Entry → Type 0) (es : List Entry) (i : ℕ) (d : Entry) → i < length es → AllByRecursion P es
    → P (get_or es i d)
all_at P [] i d lt all = absurd (omega (arith, lt))
all_at P (e ∷ es) zero d lt all = all.0
all_at P (e ∷ es) (suc i) d lt all = all_at P es i d (omega (arith, lt)) all.1

are_at : (m : Manifest) (before after : Option Carry) (es : List Entry) (ps : List Part) (fs : List Frozen) (i : ℕ)
    (e : Entry) (p : Part) (f : Frozen) → i < length es → ArePartsBehind m before es ps after
    → FrozenStand octets_in es ps fs → AreHeldAs true es fs → AreAt m (get_or es i e) (get_or ps i p) (get_or fs i f)
are_at m before after [] ps fs i e p f lt chain stand held = absurd (omega (arith, lt))
are_at m before after (x ∷ es) [] fs i e p f lt chain stand held = absurd chain
are_at m before after (x ∷ es) (y ∷ ps) [] i e p f lt chain stand held = absurd stand
are_at m before after (x ∷ es) (y ∷ ps) (z ∷ fs) zero e p f lt chain stand held = record {
  held = held.0;
  stands = stand.0;
  before = before;
  after = chain.0;
  behind = chain.1;
}
are_at m before after (x ∷ es) (y ∷ ps) (z ∷ fs) (suc i) e p f lt chain stand held =
    are_at m chain.0 after es ps fs i e p f (omega (arith, lt)) chain.2 stand.1 held.1

messages_within : (es : List Entry) (i : ℕ) (d : Entry) → i < length es → (get_or es i d).messages ≤ messages_of es
messages_within [] i d lt = absurd (omega (arith, lt))
messages_within (e ∷ es) zero d lt = omega (arith, sum_by-cons (λ (x : Entry). x.messages) e es)
messages_within (e ∷ es) (suc i) d lt =
    omega (arith, sum_by-cons (λ (x : Entry). x.messages) e es, messages_within es i d (omega (arith, lt)))

source_kind : (job : JobKind) (kind : Kind) → rank kind ≡ rank (source_of job) → kind ≡ source_of job
source_kind Roll Wide is = absurd (omega (arith, is))
source_kind Roll Rolled is = absurd (omega (arith, is))
source_kind Roll Sealed is = refl
source_kind Roll Active is = absurd (omega (arith, is))
source_kind Merge Wide is = absurd (omega (arith, is))
source_kind Merge Rolled is = refl
source_kind Merge Sealed is = absurd (omega (arith, is))
source_kind Merge Active is = absurd (omega (arith, is))

is_source : (m : Manifest) (job : JobKind) (e : Entry) (p : Part) (f : Frozen) → AreAt m e p f
    → e.kind ≡ source_of job → e.messages < 2 ^ 48 → IsSource job m f p
is_source m Roll e p f at kind few =
    let behind = subst (λ (k : Kind). IsPartBehind m k at.before p at.after) kind at.behind in (
      ap (λ (x : Entry). x.kind) at.held.entry_is ∙ kind,
      subst (λ (x : Entry). x.messages < 2 ^ 48) (sym at.held.entry_is) few,
      subst (λ (x : Entry). IsSealedAt f.octets x p) (sym at.held.entry_is)
          (subst (λ (k : Kind). StandsAs k f.octets e p) kind at.stands),
      (behind.0, behind.2),
    )
is_source m Merge e p f at kind few =
    let behind = subst (λ (k : Kind). IsPartBehind m k at.before p at.after) kind at.behind in
    let stands = subst (λ (k : Kind). StandsAs k f.octets e p) kind at.stands in (
      ap (λ (x : Entry). x.kind) at.held.entry_is ∙ kind,
      sym (subst (λ (k : Kind). counted_of k e.length f.octets ≡ f.octets) kind at.held.counted) ∙ stands.front,
      behind.0,
    )

pub entry_at : (honest : Bool) (es : List Entry) (fs : List Frozen) (i : ℕ) (e : Entry) (f : Frozen) → i < length es
    → AreHeldAs honest es fs → (get_or fs i f).entry ≡ get_or es i e
entry_at honest [] fs i e f lt held = absurd (omega (arith, lt))
entry_at honest (x ∷ es) [] i e f lt held = absurd held
entry_at honest (x ∷ es) (z ∷ fs) zero e f lt held = held.0.entry_is
entry_at honest (x ∷ es) (z ∷ fs) (suc i) e f lt held = entry_at honest es fs i e f (omega (arith, lt)) held.1

-- ---- the next source

abbrev pub no_part : Part
no_part = record { front = []; messages = [] }

module _ (s : State) (valid : IsValidManifest s.manifest) (kind : JobKind) (count read : ℕ)
    (few : count ≤ count_of (source_of kind) s.manifest.entries) (lt : read < count) where
  abbrev m : Manifest
  m = s.manifest

  abbrev place : ℕ
  place = count_before (source_of kind) m.entries

  -- it is before the active file
  pub below : place + read < length (front_of m)
  below = omega (arith, behind_short m valid kind count few, front_long m valid, lt)

  pub next_source : (files : List Frozen) (f : Frozen) (carry : Carry) → f ≡ get_or files (place + read) f
      → HandsOn s carry → FrozenStand octets_in (front_of m) s.parts files → AreHeldAs true (front_of m) files
      → IsTrue f.honest × IsSource kind m f (get_or s.parts (place + read) no_part)
  next_source files f carry is hands stand held =
      let at = are_at m None hands.sealed (front_of m) s.parts files (place + read) no_entry no_part f below hands.parts
      stand held in
      let e = get_or (front_of m) (place + read) no_entry in
      let own : get_or (take count (drop place (front_of m))) read no_entry ≡ e =
      get_or-take count (drop place (front_of m)) read no_entry lt ∙ get_or-drop place (front_of m) read no_entry in
      let long : read < length (take count (drop place (front_of m))) =
      omega (
        arith,
        lt,
        length-take-le count (drop place (front_of m)) (omega (
          arith,
          behind_short m valid kind count few,
          front_long m valid,
          length-drop place (front_of m),
        )),
      ) in
      let its = subst (λ (x : Entry). rank x.kind ≡ rank (source_of kind)) own
      (all_at (λ x. rank x.kind ≡ rank (source_of kind)) (take count (drop place (front_of m))) read no_entry long
      (are_sources m valid kind count few)) in
      let here = subst (λ (x : Frozen). AreAt m e (get_or s.parts (place + read) no_part) x) (sym is) at in (
        here.held.honest_is,
        is_source m kind e (get_or s.parts (place + read) no_part) f here (source_kind kind e.kind its)
            (omega (arith, messages_within (front_of m) (place + read) no_entry below, all_sum m valid, valid.all)),
      )

  -- its file, on every disk
  pub next_file : (honest : Bool) (files : List Frozen) (f : Frozen) → f ≡ get_or files (place + read) f
      → AreHeldAs honest (front_of m) files
      → (others : List ℕ) × (map (λ (e : Entry). e.file) (drop read (sources_of kind count m.entries))
      ≡ f.entry.file ∷ others)
  next_file honest files f is held =
      let sources = sources_of kind count m.entries in
      let e = get_or (front_of m) (place + read) no_entry in
      let long : length sources ≡ count = length-take-le count (drop place m.entries)
      (omega (arith, behind_short m valid kind count few, length-drop place m.entries)) in
      let own : get_or sources read no_entry ≡ e =
      get_or-take count (drop place m.entries) read no_entry lt ∙ get_or-drop place m.entries read no_entry
      ∙ sym (get_or-take (length m.entries - 1) m.entries (place + read) no_entry
      (omega (arith, below, front_long m valid))) in
      let entry : f.entry ≡ e =
      ap (λ (x : Frozen). x.entry) is ∙ entry_at honest (front_of m) files (place + read) no_entry f below held in (
        map (λ (x : Entry). x.file) (drop (read + 1) sources),
        ap (map (λ (x : Entry). x.file)) (drop_more sources read no_entry (omega (arith, long, lt)))
            ∙ ap (λ (x : Entry). x.file ∷ map (λ (y : Entry). y.file) (drop (read + 1) sources)) (own ∙ sym entry),
      )

  pub one_more : length s.parts ≡ length (front_of m) → take (read + 1) (source_parts kind count s)
      ≡ take read (source_parts kind count s) ++ get_or s.parts (place + read) no_part ∷ []
  one_more many =
      let sources = source_parts kind count s in
      let long : length sources ≡ count = length-take-le count (drop place s.parts) (omega (
        arith,
        behind_short m valid kind count few,
        front_long m valid,
        length-drop place s.parts,
        many,
      )) in
      take_more sources read no_part (omega (arith, long, lt))
      ∙ ap (λ (p : Part). take read sources ++ p ∷ [])
      (get_or-take count (drop place s.parts) read no_part lt ∙ get_or-drop place s.parts read no_part)

-- ---- the job

no_staged : (honest : Bool) (s : State) (r : RunningJob) (f : Option FrozenStaged) → IfSome f (IsStaged honest s r)
    → r.read < r.sources → f ≡ None
no_staged honest s r None is lt = refl
no_staged honest s r (Some f) is lt = absurd (omega (arith, is.all, lt))

pub none_staged : (honest : Bool) (s : State) (r : RunningJob) → IsRunningJob honest s r → r.read < r.sources
    → r.staged ≡ None
none_staged honest s r is lt = no_staged honest s r r.staged is.staged lt

pub taken_rolling : (honest : Bool) (s : State) (old new : RunningJob) → IsRunningJob honest s old → old.read < old.sources
    → IsTaken old new
    → (IsTrue honest → IsJobSum old.kind s.manifest (take (old.read + 1) (source_parts old.kind old.sources s)) new.rows
    × IsJobTime old.kind (take (old.read + 1) (source_parts old.kind old.sources s)) new.time)
    → IsRunningJob honest s new
taken_rolling honest s old new is lt (same, width) sums =
    subst (IsRunningJob honest s) (sym same) (record {
      some = is.some;
      few = is.few;
      read = omega (arith, lt);
      width = width ∙ is.width;
      sums = λ h. (sums h).0;
      time = λ h. (sums h).1;
      staged = subst (λ (f : Option FrozenStaged). IfSome f (IsStaged honest s (record old {
        read = old.read + 1;
        rows = new.rows;
        time = new.time;
      }))) (sym (none_staged honest s old is lt)) tt;
    })

-- ---- what is answered

pub at_end : (s : State) (j : RunningJob) → s.job ≡ job_in (Some j) → j.read ≡ j.sources
    → HasJob s (λ job. (0 ≡ sources_left (stepped job))
    × (record s { job = job_in (Some j) } ≡ record s { job = Some (stepped job) }))
at_end s j is end = (
  record { kind = j.kind; sources = j.sources; read = j.read; staged = staged_in j.staged },
  is,
  (
    omega (arith, end),
    ap (λ (n : ℕ). record s {
      job = Some (record { kind = j.kind; sources = j.sources; read = n; staged = staged_in j.staged });
    }) (let same : j.read ≡ min (j.read + 1) j.sources = omega (arith, end) in same),
  ),
)

pub one_less : (s : State) (j new : RunningJob) → s.job ≡ job_in (Some j) → j.read < j.sources → IsTaken j new
    → HasJob s (λ job. (new.sources - new.read ≡ sources_left (stepped job))
    × (record s { job = job_in (Some new) } ≡ record s { job = Some (stepped job) }))
one_less s j new is lt (same, width) =
    let next : j.read + 1 ≡ min (j.read + 1) j.sources = omega (arith, lt) in (
      record { kind = j.kind; sources = j.sources; read = j.read; staged = staged_in j.staged },
      is,
      (
        ap (λ (r : RunningJob). r.sources - r.read) same ∙ ap (λ (n : ℕ). j.sources - n) next,
        ap (λ (r : RunningJob). record s { job = job_in (Some r) }) same
            ∙ ap (λ (n : ℕ). record s {
              job = Some (record { kind = j.kind; sources = j.sources; read = n; staged = staged_in j.staged });
            }) next,
      ),
    )

-- a refusal changes nothing
pub not_stepped : (honest closed : Bool) (s after : State) (j new : RunningJob) (first number : ℕ) (e : SumRefusal)
    → closed ≡ false → s.job ≡ job_in (Some j) → j.read < j.sources → after ≡ s
    → IsFirstFile s (record { kind = j.kind; sources = j.sources; read = j.read; staged = staged_in j.staged }) first
    → IsNextFile s (record { kind = j.kind; sources = j.sources; read = j.read; staged = staged_in j.staged }) number
    → (IsTrue honest → IsTakenIn {X = Unit {0}} j.kind s.manifest
    (take (j.read + 1) (source_parts j.kind j.sources s)) (Err e) new)
    → AnswersStep honest closed s (Err (of_source first number e)) after
not_stepped honest closed s after j new first number (source.Damaged file at) up is lt same oldest next told = (
  up,
  (
    record { kind = j.kind; sources = j.sources; read = j.read; staged = staged_in j.staged },
    is,
    (omega (arith, lt), (inl next, λ h. absurd (told h))),
  ),
  same,
)
not_stepped honest closed s after j new first number source.SumSpent up is lt same oldest next told = (
  up,
  (
    record { kind = j.kind; sources = j.sources; read = j.read; staged = staged_in j.staged },
    is,
    (omega (arith, lt), (inr (oldest, refl), λ h. (oldest, refl, told h))),
  ),
  same,
)
not_stepped honest closed s after j new first number source.Fault up is lt same oldest next told = (
  up,
  (record { kind = j.kind; sources = j.sources; read = j.read; staged = staged_in j.staged }, is, omega (arith, lt)),
  same,
)
not_stepped honest closed s after j new first number source.OutOfMemory up is lt same oldest next told = (
  up,
  (record { kind = j.kind; sources = j.sources; read = j.read; staged = staged_in j.staged }, is, omega (arith, lt)),
  same,
)

pub source_fault : (first number : ℕ) (e : SumRefusal) → of_source first number e ≡ refusal.SourceFault
    → e ≡ source.Fault
source_fault first number (source.Damaged file at) is = absurd (cc)
source_fault first number source.SumSpent is = absurd (cc)
source_fault first number source.Fault is = refl
source_fault first number source.OutOfMemory is = absurd (cc)

pub not_closing : (first number : ℕ) (e : SumRefusal) → of_source first number e ≡ refusal.Fault → ⊥
not_closing first number (source.Damaged file at) is = cc
not_closing first number source.SumSpent is = cc
not_closing first number source.Fault is = cc
not_closing first number source.OutOfMemory is = cc

-- ---- what a job reads of an archive's files

as_long : (es : List Entry) (ps : List Part) (fs : List Frozen) → FrozenStand octets_in es ps fs
    → length ps ≡ length es
as_long [] [] [] stand = refl
as_long [] [] (f ∷ fs) stand = absurd stand
as_long [] (p ∷ ps) fs stand = absurd stand
as_long (e ∷ es) [] fs stand = absurd stand
as_long (e ∷ es) (p ∷ ps) [] stand = absurd stand
as_long (e ∷ es) (p ∷ ps) (f ∷ fs) stand = omega (arith, as_long es ps fs stand.1)

pub source_read : {D : Type 0} (honest : D → Bool) (marks : D → ℕ → Marks) (held : D → ℕ → Held) (d : D)
    (slots : Slots) (last : Entry) (end total : ℕ) (carry : Carry) (files : List Frozen) (s : State) (closed : Bool)
    → closed ≡ false → IsArchive honest marks held d slots last end total carry files s closed → (j new : RunningJob)
    (f : Frozen) (r : Result (Unit {0}) SumRefusal) → IsRunningJob (honest d) s j → j.read < j.sources
    → f ≡ get_or files (count_before (source_of j.kind) s.manifest.entries + j.read) f
    → (IsTrue f.honest → (m : Manifest) (parts : List Part) (p : Part) → s.manifest.width ≡ m.width
    → j.rows.width ≡ width_made j.kind m → IsSource j.kind m f p → IsJobSum j.kind m parts j.rows
    → IsJobTime j.kind parts j.time → IsTakenIn j.kind m (parts ++ p ∷ []) r new)
    → IsTrue (honest d) → IsTakenIn j.kind s.manifest (take (j.read + 1) (source_parts j.kind j.sources s)) r new
source_read honest marks held d slots last end total carry files s closed up was j new f r is lt at given h =
    let m = s.manifest in
    let valid = was.counted.valid in
    let p = get_or s.parts (count_before (source_of j.kind) m.entries + j.read) no_part in
    let there = next_source s valid j.kind j.sources j.read is.few lt files f carry at ((was.still_open up).hands_on h)
    (was.stand h) (subst (λ (b : Bool). AreHeldAs b (front_of m) files) h was.files_are) in
    subst (λ (l : List Part). IsTakenIn j.kind m l r new)
    (sym (one_more s valid j.kind j.sources j.read is.few lt (as_long (front_of m) s.parts files (was.stand h))))
    (given there.0 m (take j.read (source_parts j.kind j.sources s)) p refl is.width there.1 (is.sums h) (is.time h))
