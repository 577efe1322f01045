-- By which marks readers learn of events.
use Rattle.std.proofs.Common.{◌≡◌, ℕ, ◌+◌, ◌-◌, ◌≤◌, Bool, IsTrue, List, [], ◌∷◌, ◌++◌, length, take, drop, get_or, refl}
use Rattle.std.proofs.Common.{sym, ap, ◌∙◌, arith, length-append, Some, Ok}
use Rattle.std.proofs.lemmas.List.{drop_at, get_or_push, take_all}
use Rattle.flow_manifest.specs.declared.following.JobKind.{JobKind}
use Rattle.flow_manifest.specs.declared.following.JobKind.TheVariants.{Roll, Merge}
use Rattle.flow_manifest.specs.Following.{active_of, count_of, front_of, messages_of, source_of, sources_of}
use Rattle.flow_manifest.specs.Manifest.{IsValidManifest}
use Rattle.flow_segment.specs.Carry.{prefix_of}
use Rattle.flow_snapshot.specs.declared.step.Mark.TheVariants.{Added, Sealed, Installed, Merged}
use Rattle.flow_measure.specs.History.{History}
use Rattle.flow_model.specs.Changes.{added, applied, sealed, history_after, installed, merged, Change}
use Rattle.flow_model.specs.Shelf.{cut_of, messages_in, position_of, Rollup, Segment, Shelf}
use Rattle.flow_model.specs.Jobs.{history_made}
use Rattle.flow_model.specs.Shelved.{shelf_of, HasHistory}
use Rattle.flow_model.specs.State.{Part, StagedFile, State, appended}
use Rattle.flow_archive.specs.Answers.{IsSealed, archive_position}
use Rattle.flow_archive.specs.Marks.{made_mark, numbered, HasMark}
use Rattle.flow_turns.specs.declared.turn.Turn.{Turn}
use Rattle.flow_turns.specs.declared.turn.Turn.TheVariants as turn
use Rattle.flow_shared.specs.Calls.{IsClosing, IsTurnedBy}
use Rattle.flow_shared.specs.UnderLock.{IsMarkedBy, IsMarkOf}
use Rattle.flow_shared.specs.Told.{change_at, no_rollup, no_segment}
use Rattle.flow_model.proofs.History.{appended_shelf}
use Rattle.flow_archive.proofs.Shelves.{sealed_segment, made_rollup, merged_shelf, moved_shelf}
use Rattle.flow_archive.proofs.Shelves.{rolled_shelf, with_octets}

-- ---- an append

added_there : (a ms all : List (List ℕ)) (before first last : ℕ) → all ≡ a ++ ms → first ≡ before + length a + 1
    → last ≡ before + length a + length ms → numbered before all first last ≡ ms
added_there a ms all before first last is from to =
    ap (λ (n : ℕ). take n (drop (first - 1 - before) all)) (let n : last + 1 - first ≡ length ms = omega (arith, from, to) in n)
    ∙ ap (λ (n : ℕ). take (length ms) (drop n all)) (let n : first - 1 - before ≡ length a = omega (arith, from) in n)
    ∙ ap (λ (l : List (List ℕ)). take (length ms) (drop (length a) l)) is
    ∙ ap (take (length ms)) (drop_at a ms (length a) refl) ∙ take_all (length ms) ms (omega arith)

abbrev pub GoesOn : Bool → State → State → Change → Type 0
GoesOn honest s behind change =
    IsTrue honest → (h : History) → HasHistory s h → HasHistory behind (history_after h change)

pub appended_marked : (honest : Bool) (s behind : State) (messages : List (List ℕ)) (first position : ℕ)
    → 1 ≤ length messages
    → behind ≡ appended s messages → position ≡ archive_position behind
    → position_of (shelf_of s) ≡ archive_position s → first ≡ position + 1 - length messages
    → HasMark behind (Added first position) → GoesOn honest s behind (added messages)
    → IsMarkOf honest s behind (Added first position) (added messages)
appended_marked honest s behind messages first position some is at count named stands means =
    let old = shelf_of s in
    let files : shelf_of behind ≡ applied old (added messages) = ap shelf_of is ∙ appended_shelf s messages in
    let later : position ≡ archive_position (appended s messages) = at ∙ ap archive_position is in
    let whole : position ≡ position_of old + length messages =
    omega (arith, later, count, length-append s.active.messages messages) in
    let from : first ≡ position_of old + 1 = omega (arith, named, whole) in
    let front = cut_of old + length (messages_in old.sealed) in
    let all : position_of old ≡ front + length old.active =
    omega (arith, length-append (messages_in old.sealed) old.active) in
    record {
      stands = stands;
      files = files;
      mark_is = λ i. Added (from i) (whole i);
      change_is = ap (λ (x : Shelf). change_at x (Added first position)) files
          ∙ ap added (added_there old.active messages (old.active ++ messages) front first position refl
          (omega (arith, from, all)) (omega (arith, whole, all)));
      means = means;
    }

-- ---- a seal

last_there : {X : Type 0} (xs : List X) (x none : X) → get_or (xs ++ x ∷ []) (length (xs ++ x ∷ []) - 1) none ≡ x
last_there {X} xs x none =
    get_or_push xs x none (length (xs ++ x ∷ []) - 1) (omega (arith, length-append xs (x ∷ [])))

pub sealed_marked : (honest : Bool) (s behind : State) (file : ℕ) → IsValidManifest s.manifest
    → length s.parts ≡ length (front_of s.manifest) → IsSealed honest s behind
    → file ≡ (active_of s.manifest).file → HasMark behind (Sealed file)
    → (IsTrue honest → (h : History) → HasHistory s h → HasHistory behind h)
    → (change : Change) × IsClosing honest s behind file change × IsMarkOf honest s behind (Sealed file) change
sealed_marked honest s behind file valid long (carry, part, segment, own, is) named stands means =
    let prefix = prefix_of carry in
    let g = sealed_segment s part in
    let files : shelf_of behind ≡ applied (shelf_of s) (sealed g prefix) =
    ap shelf_of is ∙ moved_shelf s prefix part valid long in
    let front : behind.active.front ≡ prefix = ap (λ (x : State). x.active.front) is in (
      sealed g prefix,
      record {
        segment = g;
        file_is = sym named;
        own = λ h. (ap (λ (p : Part). p.front) (own h), ap (λ (p : Part). p.messages) (own h));
        is = ap (sealed g) (sym front);
      },
      record {
        stands = stands;
        files = files;
        mark_is = ap Sealed named;
        change_is = ap (λ (x : Shelf). change_at x (Sealed file)) files
            ∙ ap (λ (x : Segment). sealed x prefix) (last_there (shelf_of s).sealed g no_segment);
        means = means;
      },
    )

-- ---- an install

abbrev pub turn_by : JobKind → ℕ → Turn
turn_by Roll cut = turn.Installed cut
turn_by Merge cut = turn.Merged cut

-- what a file of sums makes of a history
abbrev pub GoesOnBy : Bool → State → State → JobKind → ℕ → Type 0
GoesOnBy honest s behind kind messages =
    IsTrue honest → (h : History) → HasHistory s h → HasHistory behind (history_made kind messages h)

pub installed_marked : (honest : Bool) (s behind : State) (kind : JobKind) (count : ℕ) (file : StagedFile) (octets : List ℕ) (cut : ℕ)
    → IsValidManifest s.manifest → length s.parts ≡ length (front_of s.manifest)
    → count ≤ count_of (source_of kind) s.manifest.entries → behind ≡ with_octets s kind count file octets
    → HasMark behind (made_mark kind file.file count)
    → GoesOnBy honest s behind kind (messages_of (sources_of kind count s.manifest.entries))
    → (steps : List Change) × IsTurnedBy (Ok (turn_by kind cut)) steps
    × IsMarkedBy honest s behind (Some (made_mark kind file.file count)) steps
installed_marked honest s behind Roll count file octets cut valid long few is stands means =
    let r = made_rollup Roll count file octets s.manifest in
    let files : shelf_of behind ≡ applied (shelf_of s) (installed r count) =
    ap shelf_of is ∙ rolled_shelf s valid long count file octets few in (
      installed r count ∷ [],
      (r, count, refl),
      (
        installed r count,
        record {
          stands = stands;
          files = files;
          mark_is = refl;
          change_is = ap (λ (x : Shelf). change_at x (Installed file.file count)) files
              ∙ ap (λ (x : Rollup). installed x count) (last_there (shelf_of s).rolled r no_rollup);
          means = means;
        },
        refl,
      ),
    )
installed_marked honest s behind Merge count file octets cut valid long few is stands means =
    let r = made_rollup Merge count file octets s.manifest in
    let files : shelf_of behind ≡ applied (shelf_of s) (merged r count) =
    ap shelf_of is ∙ merged_shelf s valid long count file octets few in (
      merged r count ∷ [],
      (r, count, refl),
      (
        merged r count,
        record {
          stands = stands;
          files = files;
          mark_is = refl;
          change_is = ap (λ (x : Shelf). change_at x (Merged file.file count)) files
              ∙ ap (λ (x : Rollup). merged x count) (last_there (shelf_of s).merged r no_rollup);
          means = means;
        },
        refl,
      ),
    )
