-- The answers of events lead to one state.
use Rattle.std.proofs.Common.{◌≡◌, ℕ, ◌<◌, ◌^◌, true, List, [], ◌∷◌, ◌++◌, drop}
use Rattle.std.proofs.Common.{Option, Some, None, Result, Ok, Err, refl, sym, ◌∙◌, ap, subst}
use Rattle.std.proofs.lemmas.Option.{same_Some}
use Rattle.std.specs.FinMap.{FinMap}
use Rattle.flow_manifest.specs.declared.following.JobKind.{JobKind}
use Rattle.flow_manifest.specs.declared.following.JobKind.TheVariants.{Roll, Merge}
use Rattle.flow_manifest.specs.declared.manifest.Manifest.{Manifest}
use Rattle.flow_measure.specs.declared.rows.Sums.{Sums}
use Rattle.flow_measure.specs.History.{Accepted, flows_in, read_from, templates_from}
use Rattle.flow_measure.specs.Sums.{Table, key_cmp, table_of, widened}
use Rattle.flow_measure.specs.View.{gathered_all}
use Rattle.flow_rolled.proofs.Breaking.{one_table}
use Rattle.flow_rolled.specs.Rollup.{rollup_octets}
use Rattle.flow_segment.specs.Carry.{Carry, prefix_of}
use Rattle.flow_segment.specs.PartFlows.{greatest_time}
use Rattle.flow_model.specs.Chain.{IsSegment}
use Rattle.flow_model.specs.Jobs.{AreRolledMessages, AreRolledSums, IsJobSum, replaced, replaced_parts, source_parts}
use Rattle.flow_model.specs.State.{Job, Part, StagedFile, State, after_seal}
use Rattle.flow_model.proofs.Accepting.{read_as, read_once}
use Rattle.flow_recover.proofs.Behind.{one_carry}
use Rattle.flow_archive.specs.declared.event.Answer.{Answer}
use Rattle.flow_archive.specs.declared.event.Event.{Event}
use Rattle.flow_archive.specs.declared.event.Event.TheVariants.{Append, AppendBatch, Seal, RollBegin, MergeBegin}
use Rattle.flow_archive.specs.declared.event.Event.TheVariants.{RollStep, RollWrite, RollInstall, RollDrop, Retire}
use Rattle.flow_archive.specs.declared.refusal.ArchiveError.{ArchiveError}
use Rattle.flow_archive.specs.declared.refusal.ArchiveError.TheVariants.{Message, OutOfMemory, NumbersSpent, NotEmpty}
use Rattle.flow_archive.specs.declared.refusal.ArchiveError.TheVariants.{Fault, NoRoom, ManifestFull, NothingToSeal}
use Rattle.flow_archive.specs.declared.refusal.ArchiveError.TheVariants.{Closed}
use Rattle.flow_archive.specs.declared.refusal.ArchiveError.TheVariants.{Damaged, SourceFault, RollBusy, NoRoll}
use Rattle.flow_archive.specs.declared.refusal.ArchiveError.TheVariants.{RollCount, RollNotDone, Pinned, NothingToRetire}
use Rattle.flow_archive.specs.Answers.{Takes}
use Rattle.flow_archive.specs.JobAnswers.{IsJobFile, IsStagedIn, stepped, with_staged}
use Rattle.flow_archive.specs.Runs.{IsAfter, Leads}
use Rattle.flow_archive.specs.Sources.{IsJobTime}

-- ---- what a job makes

pub some_once : {X : Type 0} (o : Option X) (x y : X) → o ≡ Some x → o ≡ Some y → x ≡ y
some_once o x y is was = same_Some x y (sym is ∙ was)

own_messages : (p : Part) (c d : Carry) (g : IsSegment p c) (h : IsSegment p d) → g.messages ≡ h.messages
own_messages p c d g h =
    let front : g.prefix ≡ h.prefix = read_once p.front g.prefix h.prefix g.front h.front in
    sym (read_as (templates_from [] g.prefix) g.messages p.messages g.accepted g.octets)
    ∙ ap (λ (xs : List Accepted). read_from (templates_from [] xs) p.messages) front
    ∙ read_as (templates_from [] h.prefix) h.messages p.messages h.accepted h.octets

one_list : (parts : List Part) (xs ys : List Accepted) → AreRolledMessages parts xs → AreRolledMessages parts ys
    → xs ≡ ys
one_list [] xs ys is was = is ∙ sym was
one_list (p ∷ parts) xs ys (c, g, more, are, is) (d, h, rest, were, was) =
    is ∙ ap (λ (l : List Accepted). l ++ more) (own_messages p c d g h)
    ∙ ap (λ (l : List Accepted). h.messages ++ l) (one_list parts more rest are were) ∙ sym was

sums_once : (width : ℕ) → width < 2 ^ 32 → (parts : List Part) (ms ns : List (FinMap key_cmp Sums))
    → AreRolledSums width parts ms → AreRolledSums width parts ns → ms ≡ ns
sums_once width small [] ms ns is was = is ∙ sym was
sums_once width small (p ∷ parts) ms ns (m, more, file, are, is) (n, rest, again, were, was) =
    let first : m ≡ n = ap (λ (t : Table). t.sums) (one_table width small p.front
    (record { width = width; sums = m }) (record { width = width; sums = n }) file again) in
    is ∙ ap (λ (x : FinMap key_cmp Sums). x ∷ more) first
    ∙ ap (λ (l : List (FinMap key_cmp Sums)). n ∷ l) (sums_once width small parts more rest are were) ∙ sym was

one_sum : (kind : JobKind) (m : Manifest) (parts : List Part) (a b : Table) → m.width < 2 ^ 32
    → IsJobSum kind m parts a → IsJobSum kind m parts b → a ≡ b
one_sum Roll m parts a b small (xs, are, is) (ys, were, was) =
    is ∙ ap (λ (l : List Accepted). table_of m.width (flows_in l)) (one_list parts xs ys are were) ∙ sym was
one_sum Merge m parts a b small (ms, are, is) (ns, were, was) =
    is ∙ ap (λ (l : List (FinMap key_cmp Sums)). widened m.wide (record { width = m.width; sums = gathered_all l }))
    (sums_once m.width small parts ms ns are were) ∙ sym was

one_time : (kind : JobKind) (parts : List Part) (a b : ℕ) → IsJobTime kind parts a → IsJobTime kind parts b → a ≡ b
one_time Roll parts a b (xs, are, is) (ys, were, was) =
    is ∙ ap greatest_time (one_list parts xs ys are were) ∙ sym was
one_time Merge parts a b is was = is ∙ sym was

one_file : (s : State) (job : Job) (a b : List ℕ) → s.manifest.width < 2 ^ 32 → IsJobFile s job a → IsJobFile s job b
    → a ≡ b
one_file s job a b small (t, file, sum, time) (u, other, also, when) =
    let parts = source_parts job.kind job.sources s in
    file.is ∙ ap (λ (x : Table). rollup_octets x file.time) (one_sum job.kind s.manifest parts t u small sum also)
    ∙ ap (λ (n : ℕ). rollup_octets u n) (one_time job.kind parts file.time other.time time when) ∙ sym other.is

-- ---- one event

written_once : (s a b : State) (job : Job) (staged : Option StagedFile) → s.manifest.width < 2 ^ 32
    → IsStagedIn true s job staged a → IsStagedIn true s job staged b → a ≡ b
written_once s a b job (Some file) small is was = is ∙ sym was
written_once s a b job None small (numbers, (xs, made, is)) (also, (ys, right, was)) =
    is ∙ ap (λ (l : List ℕ). with_staged s job l) (one_file s job xs ys small (made refl) (right refl)) ∙ sym was

-- the state after an install
abbrev pub installed : State → Job → StagedFile → List ℕ → State
installed s job staged octets = record (replaced s job.kind job.sources staged) {
  parts = replaced_parts job.kind job.sources octets s.manifest.entries s.parts;
}

others_once : (xs ys zs : List ℕ) (m n : ℕ) → xs ≡ m ∷ ys → xs ≡ n ∷ zs → ys ≡ zs
others_once xs ys zs m n is was = ap (drop 1) (sym is ∙ was)

pub taken_once : (s a b : State) (e : Event) → s.manifest.width < 2 ^ 32 → Takes true s e a → Takes true s e b → a ≡ b
taken_once s a b (Append message) small is was = is ∙ sym was
taken_once s a b (AppendBatch messages) small is was = is ∙ sym was
taken_once s a b Seal small (c, p, g, same, is) (d, q, h, also, was) =
    is ∙ ap (λ (l : List ℕ). record (after_seal s l) { parts = s.parts ++ p ∷ [] }) (one_carry s.active c d g h)
    ∙ ap (λ (x : Part). record (after_seal s (prefix_of d)) { parts = s.parts ++ x ∷ [] })
    (same refl ∙ sym (also refl)) ∙ sym was
taken_once s a b (RollBegin count) small is was = is ∙ sym was
taken_once s a b (MergeBegin count) small is was = is ∙ sym was
taken_once s a b RollStep small (job, there, is) (own, here, was) =
    is ∙ ap (λ (j : Job). record s { job = Some (stepped j) }) (some_once s.job job own there here) ∙ sym was
taken_once s a b RollWrite small (job, there, (none, is)) (own, here, (left, was)) =
    written_once s a b job job.staged small is
    (subst (λ (j : Job). IsStagedIn true s j j.staged b) (some_once s.job own job here there) was)
taken_once s a b RollInstall small (job, there, (file, xs, made, sources, right, is))
    (own, here, (other, ys, built, also, good, was)) =
    let same : job ≡ own = some_once s.job job own there here in
    let one : file ≡ other =
    some_once job.staged file other made (ap (λ (j : Job). j.staged) same ∙ built) in
    let octets : xs ≡ ys =
    (right refl).1 ∙ ap (λ (f : StagedFile). f.octets) one ∙ sym (good refl).1 in
    is ∙ ap (λ (j : Job). installed s j file xs) same ∙ ap (λ (f : StagedFile). installed s own f xs) one
    ∙ ap (λ (l : List ℕ). installed s own other l) octets ∙ sym was
taken_once s a b RollDrop small is was = is ∙ sym was
taken_once s a b Retire small (file, (others, there, is)) (n, (more, here, was)) =
    is ∙ ap (λ (l : List ℕ). record s { waiting = l }) (others_once s.waiting others more file n there here) ∙ sym was

lead_once : (s a b : State) (e : Event) (r : Result Answer ArchiveError) → s.manifest.width < 2 ^ 32 → Leads s e r a
    → Leads s e r b → a ≡ b
lead_once s a b e (Ok answer) small is was = taken_once s a b e small is was
lead_once s a b e (Err Fault) small is was = taken_once s a b e small is was
lead_once s a b e (Err (Message fault)) small is was = is ∙ sym was
lead_once s a b e (Err OutOfMemory) small is was = is ∙ sym was
lead_once s a b e (Err NumbersSpent) small is was = is ∙ sym was
lead_once s a b e (Err NotEmpty) small is was = is ∙ sym was
lead_once s a b e (Err (Damaged file at)) small is was = is ∙ sym was
lead_once s a b e (Err SourceFault) small is was = is ∙ sym was
lead_once s a b e (Err RollBusy) small is was = is ∙ sym was
lead_once s a b e (Err NoRoll) small is was = is ∙ sym was
lead_once s a b e (Err RollCount) small is was = is ∙ sym was
lead_once s a b e (Err RollNotDone) small is was = is ∙ sym was
lead_once s a b e (Err Pinned) small is was = is ∙ sym was
lead_once s a b e (Err NothingToRetire) small is was = is ∙ sym was
lead_once s a b e (Err NoRoom) small is was = is ∙ sym was
lead_once s a b e (Err ManifestFull) small is was = is ∙ sym was
lead_once s a b e (Err NothingToSeal) small is was = is ∙ sym was
lead_once s a b e (Err Closed) small is was = is ∙ sym was

-- ---- the widths are as they were

written_width : (s a : State) (job : Job) (staged : Option StagedFile) → IsStagedIn true s job staged a
    → a.manifest.width ≡ s.manifest.width
written_width s a job (Some file) is = ap (λ (x : State). x.manifest.width) is
written_width s a job None (numbers, (xs, made, is)) = ap (λ (x : State). x.manifest.width) is

same_width : (s a : State) (e : Event) → Takes true s e a → a.manifest.width ≡ s.manifest.width
same_width s a (Append message) is = ap (λ (x : State). x.manifest.width) is
same_width s a (AppendBatch messages) is = ap (λ (x : State). x.manifest.width) is
same_width s a Seal (c, p, g, same, is) = ap (λ (x : State). x.manifest.width) is
same_width s a (RollBegin count) is = ap (λ (x : State). x.manifest.width) is
same_width s a (MergeBegin count) is = ap (λ (x : State). x.manifest.width) is
same_width s a RollStep (job, there, is) = ap (λ (x : State). x.manifest.width) is
same_width s a RollWrite (job, there, (none, is)) = written_width s a job job.staged is
same_width s a RollInstall (job, there, (file, xs, made, sources, right, is)) = ap (λ (x : State). x.manifest.width) is
same_width s a RollDrop is = ap (λ (x : State). x.manifest.width) is
same_width s a Retire (file, (others, there, is)) = ap (λ (x : State). x.manifest.width) is

led_width : (s a : State) (e : Event) (r : Result Answer ArchiveError) → Leads s e r a
    → a.manifest.width ≡ s.manifest.width
led_width s a e (Ok answer) is = same_width s a e is
led_width s a e (Err Fault) is = same_width s a e is
led_width s a e (Err (Message fault)) is = ap (λ (x : State). x.manifest.width) is
led_width s a e (Err OutOfMemory) is = ap (λ (x : State). x.manifest.width) is
led_width s a e (Err NumbersSpent) is = ap (λ (x : State). x.manifest.width) is
led_width s a e (Err NotEmpty) is = ap (λ (x : State). x.manifest.width) is
led_width s a e (Err (Damaged file at)) is = ap (λ (x : State). x.manifest.width) is
led_width s a e (Err SourceFault) is = ap (λ (x : State). x.manifest.width) is
led_width s a e (Err RollBusy) is = ap (λ (x : State). x.manifest.width) is
led_width s a e (Err NoRoll) is = ap (λ (x : State). x.manifest.width) is
led_width s a e (Err RollCount) is = ap (λ (x : State). x.manifest.width) is
led_width s a e (Err RollNotDone) is = ap (λ (x : State). x.manifest.width) is
led_width s a e (Err Pinned) is = ap (λ (x : State). x.manifest.width) is
led_width s a e (Err NothingToRetire) is = ap (λ (x : State). x.manifest.width) is
led_width s a e (Err NoRoom) is = ap (λ (x : State). x.manifest.width) is
led_width s a e (Err ManifestFull) is = ap (λ (x : State). x.manifest.width) is
led_width s a e (Err NothingToSeal) is = ap (λ (x : State). x.manifest.width) is
led_width s a e (Err Closed) is = ap (λ (x : State). x.manifest.width) is

-- ---- a list of events

pub one_state_of : (s a b : State) (events : List Event) (answers : List (Result Answer ArchiveError))
    → s.manifest.width < 2 ^ 32 → IsAfter s events answers a → IsAfter s events answers b → a ≡ b
one_state_of s a b [] answers small is was = is ∙ sym was
one_state_of s a b (e ∷ events) [] small is was = is ∙ sym was
one_state_of s a b (e ∷ events) (r ∷ answers) small (next, lead, rest) (mid, other, more) =
    let same : next ≡ mid = lead_once s next mid e r small lead other in
    one_state_of mid a b events answers
    (subst (λ (n : ℕ). n < 2 ^ 32) (sym (led_width s mid e r other)) small)
    (subst (λ (x : State). IsAfter x events answers a) same rest) more
