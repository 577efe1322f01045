-- What events make of the shelf of a state, on every disk.
use Rattle.std.proofs.Common.{◌≡◌, ℕ, ◌+◌, ◌-◌, ◌<◌, ◌≤◌, List, [], ◌∷◌, ◌++◌, length, take, drop, refl, sym}
use Rattle.std.proofs.Common.{ap, subst, ◌∙◌, arith, Bool, IsTrue, Some, Ok}
use Rattle.std.specs.List.{AllByRecursion}
use Rattle.std.proofs.lemmas.List.{take-append-drop, drop-drop}
use Rattle.std.proofs.Math.Seq.{drop-append_seam}
use Rattle.flow_manifest.specs.declared.following.JobKind.{JobKind}
use Rattle.flow_manifest.specs.declared.following.JobKind.TheVariants.{Roll, Merge}
use Rattle.flow_manifest.specs.declared.manifest.Entry.{Entry}
use Rattle.flow_manifest.specs.declared.manifest.Kind.{Kind}
use Rattle.flow_manifest.specs.declared.manifest.Kind.TheVariants.{Wide, Rolled, Sealed, Active}
use Rattle.flow_manifest.specs.declared.manifest.Manifest.{Manifest}
use Rattle.flow_manifest.specs.Following.{active_of, count_before, count_of, front_of, made_entry, sealed_entry}
use Rattle.flow_manifest.specs.Following.{messages_of, source_of, sources_of}
use Rattle.flow_manifest.specs.Manifest.{IsValidManifest, rank}
use Rattle.flow_manifest.proofs.ManifestAfterSeal.{next_front}
use Rattle.flow_model.specs.Changes.{added, applied, sealed, installed, merged}
use Rattle.flow_model.specs.Shelf.{Rollup, Segment, Shelf}
use Rattle.flow_model.specs.Jobs.{replaced, replaced_parts, staged_of}
use Rattle.flow_model.specs.Shelved.{active_shelf, rollup_of, segment_of, shelf_of, shelved, shelved_first}
use Rattle.flow_model.specs.State.{Job, Part, StagedFile, State, end_of, after_seal}
use Rattle.flow_model.proofs.History.{appended_shelf, sealed_last}
use Rattle.flow_model.proofs.Installing.{merge_front, no_merged, no_rolled, roll_front, rollups, shelved_join}
use Rattle.flow_model.proofs.SourcePlaces.{are_behind, are_sources, first_same, front_installed, low, number}
use Rattle.flow_model.proofs.SourcePlaces.{sources_same}
use Rattle.flow_segment.specs.Carry.{prefix_of}
use Rattle.flow_archive.specs.declared.event.Answer.{Answer}
use Rattle.flow_archive.specs.Answers.{AnswersAppend, AnswersSeal}
use Rattle.flow_archive.specs.JobAnswers.{AnswersInstall}
use Rattle.flow_archive.specs.Marks.{made_change}

-- ---- a seal

-- the sealed segment, whatever its file holds
abbrev pub sealed_segment : State → Part → Segment
sealed_segment s part =
    record { file = (active_of s.manifest).file; prefix = part.front; messages = part.messages }

pub moved_shelf : (s : State) (prefix : List ℕ) (part : Part) → IsValidManifest s.manifest
    → length s.parts ≡ length (front_of s.manifest)
    → shelf_of (record (after_seal s prefix) { parts = s.parts ++ part ∷ [] })
    ≡ applied (shelf_of s) (sealed (sealed_segment s part) prefix)
moved_shelf s prefix part valid long =
    let entry = sealed_entry (active_of s.manifest) (end_of s) (length s.active.messages) in
    let front = next_front s.manifest valid (end_of s) (length s.active.messages) s.next (length prefix) in
    let last = active_shelf (after_seal s prefix) in
    ap (λ (es : List Entry). shelved es (s.parts ++ part ∷ []) last) front
    ∙ shelved_join (front_of s.manifest) (entry ∷ []) s.parts (part ∷ []) last (sym long)
    ∙ sealed_last (sealed_segment s part) prefix (front_of s.manifest) s.parts (active_shelf s)

-- ---- an install

one_segment : (kind : Kind) (e : Entry) (p : Part) (front : List Segment) (s : Shelf) → rank kind ≡ 2
    → shelved_first kind e p (record s { sealed = front ++ s.sealed })
    ≡ record s { sealed = segment_of e p ∷ front ++ s.sealed }
one_segment Wide e p front s is = absurd (omega (arith, is))
one_segment Rolled e p front s is = absurd (omega (arith, is))
one_segment Sealed e p front s is = refl
one_segment Active e p front s is = absurd (omega (arith, is))

record AreSegments (es : List Entry) (ps : List Part) (s : Shelf) : Type 0 where
  pub front : List Segment
  pub long : length front ≡ length es
  pub is : shelved es ps s ≡ record s { sealed = front ++ s.sealed }

segments : (es : List Entry) (ps : List Part) (s : Shelf) → length es ≡ length ps
    → AllByRecursion (λ e. rank e.kind ≡ 2) es → AreSegments es ps s
segments [] [] s same are = record { front = []; long = refl; is = refl }
segments [] (p ∷ ps) s same are = absurd (omega (arith, same))
segments (e ∷ es) [] s same are = absurd (omega (arith, same))
segments (e ∷ es) (p ∷ ps) s same are =
    let more = segments es ps s (omega (arith, same)) are.1 in
    record {
      front = segment_of e p ∷ more.front;
      long = omega (arith, more.long);
      is = ap (λ (x : Shelf). shelved_first e.kind e p x) more.is ∙ one_segment e.kind e p more.front s are.0;
    }

in_three : {X : Type 0} (n k : ℕ) (xs : List X) → xs ≡ take n xs ++ (take k (drop n xs) ++ drop (n + k) xs)
in_three {X} n k xs =
    sym (take-append-drop n xs)
    ∙ ap (λ (l : List X). take n xs ++ l) (sym (take-append-drop k (drop n xs))
    ∙ ap (λ (l : List X). take k (drop n xs) ++ l) (drop-drop k n xs))

dropped : {X : Type 0} (k : ℕ) (xs ys : List X) → length xs ≡ k → drop k (xs ++ ys) ≡ ys
dropped {X} k xs ys long = ap (λ (n : ℕ). drop n (xs ++ ys)) (sym long) ∙ drop-append_seam xs ys

-- a job's file, where it is installed
abbrev pub made_rollup : JobKind → ℕ → StagedFile → List ℕ → Manifest → Rollup
made_rollup kind count file octets m =
    rollup_of (made_entry kind (staged_of file) (sources_of kind count m.entries))
    (record { front = octets; messages = [] })

abbrev pub with_octets : State → JobKind → ℕ → StagedFile → List ℕ → State
with_octets s kind count file octets =
    record (replaced s kind count file) { parts = replaced_parts kind count octets s.manifest.entries s.parts }

module _ (s : State) (valid : IsValidManifest s.manifest) (long : length s.parts ≡ length (front_of s.manifest))
    (kind : JobKind) (count : ℕ) (few : count ≤ count_of (source_of kind) s.manifest.entries) (file : StagedFile)
    (octets : List ℕ) where
  abbrev n : ℕ
  n = count_before (source_of kind) s.manifest.entries

  abbrev e1 : List Entry
  e1 = take n (front_of s.manifest)

  abbrev e2 : List Entry
  e2 = take count (drop n (front_of s.manifest))

  abbrev e3 : List Entry
  e3 = drop (n + count) (front_of s.manifest)

  abbrev p1 : List Part
  p1 = take n s.parts

  abbrev p2 : List Part
  p2 = take count (drop n s.parts)

  abbrev p3 : List Part
  p3 = drop (n + count) s.parts

  abbrev made : Entry
  made = made_entry kind (staged_of file) (sources_of kind count s.manifest.entries)

  abbrev part : Part
  part = record { front = octets; messages = [] }

  abbrev rest : Shelf
  rest = shelved e3 p3 (active_shelf s)

  same_1 : length e1 ≡ length p1
  same_1 = first_same s.manifest valid kind count few s.parts (sym long)

  pub same_2 : length e2 ≡ length p2
  same_2 = sources_same s.manifest valid kind count few s.parts (sym long)

  pub now_shelf : shelf_of s ≡ shelved e1 p1 (shelved e2 p2 rest)
  now_shelf =
      ap (λ (es : List Entry). shelved es s.parts (active_shelf s)) (in_three n count (front_of s.manifest))
      ∙ ap (λ (ps : List Part). shelved (e1 ++ (e2 ++ e3)) ps (active_shelf s)) (in_three n count s.parts)
      ∙ shelved_join e1 (e2 ++ e3) p1 (p2 ++ p3) (active_shelf s) same_1
      ∙ ap (λ (x : Shelf). shelved e1 p1 x) (shelved_join e2 e3 p2 p3 (active_shelf s) same_2)

  pub then_shelf : shelf_of (with_octets s kind count file octets) ≡ shelved e1 p1 (shelved_first made.kind made part rest)
  then_shelf =
      ap (λ (es : List Entry). shelved es (p1 ++ part ∷ p3) (active_shelf s))
      (front_installed s.manifest valid kind count few file s.next)
      ∙ shelved_join e1 (made ∷ e3) p1 (part ∷ p3) (active_shelf s) same_1

module _ (s : State) (valid : IsValidManifest s.manifest) (long : length s.parts ≡ length (front_of s.manifest))
    (count : ℕ) (file : StagedFile) (octets : List ℕ) where
  pub rolled_shelf : count ≤ count_of Sealed s.manifest.entries
      → shelf_of (with_octets s Roll count file octets)
      ≡ applied (shelf_of s) (installed (made_rollup Roll count file octets s.manifest) count)
  rolled_shelf few =
      let a1 = e1 s valid long Roll count few file octets in
      let a2 = e2 s valid long Roll count few file octets in
      let a3 = e3 s valid long Roll count few file octets in
      let b1 = p1 s valid long Roll count few file octets in
      let b2 = p2 s valid long Roll count few file octets in
      let b3 = p3 s valid long Roll count few file octets in
      let left = rest s valid long Roll count few file octets in
      let r = made_rollup Roll count file octets s.manifest in
      let are = segments a2 b2 left (same_2 s valid long Roll count few file octets)
      (are_sources s.manifest valid Roll count few) in
      let none : left.rolled ≡ [] = no_rolled a3 b3 (active_shelf s) (are_behind s.manifest valid Roll count few) in
      let over : record left { rolled = r ∷ left.rolled } ≡ applied (shelved a2 b2 left) (installed r count) =
      sym (ap (λ (x : Shelf). applied x (installed r count)) are.is
      ∙ ap (λ (gs : List Segment). record left { rolled = left.rolled ++ r ∷ []; sealed = gs })
      (dropped count are.front left.sealed (are.long ∙ number s.manifest valid Roll count few))
      ∙ ap (λ (rs : List Rollup). record left { rolled = rs ++ r ∷ [] }) none
      ∙ ap (λ (rs : List Rollup). record left { rolled = r ∷ rs }) (sym none)) in
      then_shelf s valid long Roll count few file octets
      ∙ ap (λ (x : Shelf). shelved a1 b1 x) over
      ∙ roll_front r count a1 b1 (shelved a2 b2 left) (low s.manifest valid Roll count few)
      ∙ sym (ap (λ (x : Shelf). applied x (installed r count)) (now_shelf s valid long Roll count few file octets))

  pub merged_shelf : count ≤ count_of Rolled s.manifest.entries
      → shelf_of (with_octets s Merge count file octets)
      ≡ applied (shelf_of s) (merged (made_rollup Merge count file octets s.manifest) count)
  merged_shelf few =
      let a1 = e1 s valid long Merge count few file octets in
      let a2 = e2 s valid long Merge count few file octets in
      let a3 = e3 s valid long Merge count few file octets in
      let b1 = p1 s valid long Merge count few file octets in
      let b2 = p2 s valid long Merge count few file octets in
      let b3 = p3 s valid long Merge count few file octets in
      let left = rest s valid long Merge count few file octets in
      let r = made_rollup Merge count file octets s.manifest in
      let are = rollups a2 b2 left (same_2 s valid long Merge count few file octets)
      (are_sources s.manifest valid Merge count few) in
      let none : left.merged ≡ [] = no_merged a3 b3 (active_shelf s) (are_behind s.manifest valid Merge count few) in
      let over : record left { merged = r ∷ left.merged } ≡ applied (shelved a2 b2 left) (merged r count) =
      sym (ap (λ (x : Shelf). applied x (merged r count)) are.is
      ∙ ap (λ (rs : List Rollup). record left { merged = left.merged ++ r ∷ []; rolled = rs })
      (dropped count are.front left.rolled (are.long ∙ number s.manifest valid Merge count few))
      ∙ ap (λ (rs : List Rollup). record left { merged = rs ++ r ∷ [] }) none
      ∙ ap (λ (rs : List Rollup). record left { merged = r ∷ rs }) (sym none)) in
      then_shelf s valid long Merge count few file octets
      ∙ ap (λ (x : Shelf). shelved a1 b1 x) over
      ∙ merge_front r count a1 b1 (shelved a2 b2 left) (low s.manifest valid Merge count few)
      ∙ sym (ap (λ (x : Shelf). applied x (merged r count)) (now_shelf s valid long Merge count few file octets))

-- ---- answers

pub appended_law : (is_closed : Bool) (s after : State) (octets : List (List ℕ)) (position : ℕ)
    → AnswersAppend is_closed s octets (Ok position) after → shelf_of after ≡ applied (shelf_of s) (added octets)
appended_law is_closed s after octets position told = ap shelf_of told.2 ∙ appended_shelf s octets

pub sealed_law : (honest is_closed : Bool) (s after : State) (file : ℕ) → IsValidManifest s.manifest
    → length s.parts ≡ length (front_of s.manifest) → AnswersSeal honest is_closed s (Ok file) after
    → (segment : Segment) × (segment.file ≡ file)
    × (IsTrue honest → (segment.prefix ≡ s.active.front) × (segment.messages ≡ s.active.messages))
    × (shelf_of after ≡ applied (shelf_of s) (sealed segment after.active.front))
sealed_law honest is_closed s after file valid long told =
    let moved = told.2 in
    let prefix = prefix_of moved.0 in
    let part : Part = moved.1 in
    let own = moved.3 in
    let g = sealed_segment s part in
    let front : after.active.front ≡ prefix = ap (λ (x : State). x.active.front) moved.4 in (
      g,
      sym told.3,
      λ h. (ap (λ (p : Part). p.front) (own h), ap (λ (p : Part). p.messages) (own h)),
      ap shelf_of moved.4 ∙ moved_shelf s prefix part valid long
          ∙ ap (λ (x : List ℕ). applied (shelf_of s) (sealed g x)) (sym front),
    )

made_shelf : (s : State) (valid : IsValidManifest s.manifest) (long : length s.parts ≡ length (front_of s.manifest))
    (kind : JobKind) (count : ℕ) (file : StagedFile) (octets : List ℕ)
    → count ≤ count_of (source_of kind) s.manifest.entries
    → shelf_of (with_octets s kind count file octets)
    ≡ applied (shelf_of s) (made_change kind (made_rollup kind count file octets s.manifest) count)
made_shelf s valid long Roll count file octets few = rolled_shelf s valid long count file octets few
made_shelf s valid long Merge count file octets few = merged_shelf s valid long count file octets few

abbrev IsInstall : Bool → State → State → Job → StagedFile → Type 0
IsInstall honest s after job staged = (rollup : Rollup) × (rollup.file ≡ staged.file)
    × (IsTrue honest → rollup.octets ≡ staged.octets)
    × (rollup.messages ≡ messages_of (sources_of job.kind job.sources s.manifest.entries))
    × (shelf_of after ≡ applied (shelf_of s) (made_change job.kind rollup job.sources))

rollup_file : (kind : JobKind) (count : ℕ) (file : StagedFile) (octets : List ℕ) (m : Manifest)
    → (made_rollup kind count file octets m).file ≡ file.file
rollup_file Roll count file octets m = refl
rollup_file Merge count file octets m = refl

rollup_messages : (kind : JobKind) (count : ℕ) (file : StagedFile) (octets : List ℕ) (m : Manifest)
    → (made_rollup kind count file octets m).messages ≡ messages_of (sources_of kind count m.entries)
rollup_messages Roll count file octets m = refl
rollup_messages Merge count file octets m = refl

pub installed_law : (honest is_closed : Bool) (s after : State) (job : Job) (staged : StagedFile) (answer : Answer)
    → IsValidManifest s.manifest → length s.parts ≡ length (front_of s.manifest)
    → s.job ≡ Some job → job.staged ≡ Some staged → AnswersInstall honest is_closed s (Ok answer) after
    → (rollup : Rollup) × (rollup.file ≡ staged.file) × (IsTrue honest → rollup.octets ≡ staged.octets)
    × (rollup.messages ≡ messages_of (sources_of job.kind job.sources s.manifest.entries))
    × (shelf_of after ≡ applied (shelf_of s) (made_change job.kind rollup job.sources))
installed_law honest is_closed s after job staged answer valid long job_is staged_is told =
    let has = told.1 in
    let other : Job = has.0 in
    let one = has.2 in
    let file : StagedFile = one.0 in
    let octets : List ℕ = one.1 in
    let jobs : Some other ≡ Some job = sym has.1 ∙ job_is in
    let same : other ≡ job = cc in
    let files : Some file ≡ Some staged = sym one.2 ∙ ap (λ (j : Job). j.staged) same ∙ staged_is in
    let same_file : file ≡ staged = cc in
    subst (λ (f : StagedFile). IsInstall honest s after job f) same_file
    (subst (λ (j : Job). IsInstall honest s after j file) same (
      made_rollup other.kind other.sources file octets s.manifest,
      rollup_file other.kind other.sources file octets s.manifest,
      λ h. (one.4 h).1,
      rollup_messages other.kind other.sources file octets s.manifest,
      ap shelf_of one.5 ∙ made_shelf s valid long other.kind other.sources file octets one.3.1,
    ))
