-- The marks of steps: which change one names, and where it may be asked for.
use Rattle.std.specs.Prelude.{◌≡◌, ◌≢◌, ℕ, ◌+◌, ◌-◌, ◌<◌, ◌≤◌, List, ◌∷◌, ◌++◌, length, take, drop, get_or}
use Rattle.std.specs.List.{AllByRecursion}
use Rattle.flow_manifest.specs.declared.following.JobKind.{JobKind}
use Rattle.flow_manifest.specs.declared.following.JobKind.TheVariants.{Merge, Roll}
use Rattle.flow_manifest.specs.declared.manifest.Entry.{Entry}
use Rattle.flow_manifest.specs.declared.manifest.Kind.{Kind}
use Rattle.flow_manifest.specs.declared.manifest.Kind.TheVariants as kind
use Rattle.flow_manifest.specs.Following.{messages_of}
use Rattle.flow_snapshot.specs.declared.step.Mark.{Mark}
use Rattle.flow_snapshot.specs.declared.step.Mark.TheVariants.{Added, Sealed, Installed, Merged}
use Rattle.flow_model.specs.Changes.{Change}
use Rattle.flow_model.specs.Changes.Change.{added, sealed, installed, merged}
use Rattle.flow_model.specs.Shelf.{Rollup, Segment, Shelf, position_of}
use Rattle.flow_model.specs.State.{State}
use Rattle.flow_archive.specs.Frozen.{rollup_of, segment_of, Frozen}

-- the mark of a change that is made to a shelf
abbrev pub mark_of : Shelf → Change → Mark
mark_of s (added messages) = Added (position_of s + 1) (position_of s + length messages)
mark_of s (sealed segment next) = Sealed segment.file
mark_of s (installed file count) = Installed file.file count
mark_of s (merged file count) = Merged file.file count

-- the mark of a file that a job has made of so many
abbrev pub made_mark : JobKind → ℕ → ℕ → Mark
made_mark Roll file count = Installed file count
made_mark Merge file count = Merged file count

-- the change that it makes in place of its sources
abbrev pub made_change : JobKind → Rollup → ℕ → Change
made_change Roll file count = installed file count
made_change Merge file count = merged file count

-- ---- where it may be asked for

-- The newest file of a kind: no entry after its own is of that kind.
abbrev pub IsNewest : Kind → ℕ → List Entry → Type 0
IsNewest kind file entries = (older : List Entry) × (e : Entry) × (newer : List Entry)
    × (entries ≡ older ++ e ∷ newer) × (e.kind ≡ kind) × (e.file ≡ file) × AllByRecursion (λ x. x.kind ≢ kind) newer

-- Its messages are in the active segment, or its file is the newest of its kind.
abbrev pub HasMark : State → Mark → Type 0
HasMark s (Added first last) = (messages_of s.manifest.entries < first) × (first ≤ last)
    × (last ≤ messages_of s.manifest.entries + length s.active.messages)
HasMark s (Sealed file) = IsNewest kind.Sealed file s.manifest.entries
HasMark s (Installed file count) = IsNewest kind.Rolled file s.manifest.entries
HasMark s (Merged file count) = IsNewest kind.Wide file s.manifest.entries

-- ---- what it says

-- of these messages, which come after so many others, those with the numbers from the first to the last one
abbrev pub numbered : ℕ → List (List ℕ) → ℕ → ℕ → List (List ℕ)
numbered before messages first last = take (last + 1 - first) (drop (first - 1 - before) messages)

-- A change has what its mark says, on every disk. On one that isn't honest the file may hold anything.
abbrev pub IsMarked : State → Mark → Change → Type 0
IsMarked s (Added first last) change =
    change ≡ added (numbered (messages_of s.manifest.entries) s.active.messages first last)
IsMarked s (Sealed file) change = (segment : Segment) × (segment.file ≡ file) × (change ≡ sealed segment s.active.front)
IsMarked s (Installed file count) change = (rollup : Rollup) × (rollup.file ≡ file) × (change ≡ installed rollup count)
IsMarked s (Merged file count) change = (rollup : Rollup) × (rollup.file ≡ file) × (change ≡ merged rollup count)

-- ---- among frozen files

-- one of these files is of this kind
abbrev pub HasKind : Kind → List Frozen → Type 0
HasKind kind files =
    (place : ℕ) × (place < length files) × ((none : Frozen) → (get_or files place none).entry.kind ≡ kind)

-- the newest of these files of a kind, and its place
pub record IsNewestOf (kind : Kind) (files : List Frozen) (file : Frozen) : Type 0 where
  pub place : ℕ
  pub below : place < length files
  pub is : file ≡ get_or files place file
  pub kind_is : file.entry.kind ≡ kind
  pub newest : (k : ℕ) (none : Frozen) → place < k → k < length files → (get_or files k none).entry.kind ≢ kind

abbrev pub HasMarkAmong : List Frozen → ℕ → List (List ℕ) → Mark → Type 0
HasMarkAmong files before messages (Added first last) =
    (before < first) × (first ≤ last) × (last ≤ before + length messages)
HasMarkAmong files before messages (Sealed file) = HasKind kind.Sealed files
HasMarkAmong files before messages (Installed file count) = HasKind kind.Rolled files
HasMarkAmong files before messages (Merged file count) = HasKind kind.Wide files

abbrev pub IsMarkedAmong : List Frozen → List ℕ → ℕ → List (List ℕ) → Mark → Change → Type 0
IsMarkedAmong files prefix before messages (Added first last) change =
    change ≡ added (numbered before messages first last)
IsMarkedAmong files prefix before messages (Sealed file) change =
    (f : Frozen) × IsNewestOf kind.Sealed files f × (change ≡ sealed (segment_of f) prefix)
IsMarkedAmong files prefix before messages (Installed file count) change =
    (f : Frozen) × IsNewestOf kind.Rolled files f × (change ≡ installed (rollup_of f) count)
IsMarkedAmong files prefix before messages (Merged file count) change =
    (f : Frozen) × IsNewestOf kind.Wide files f × (change ≡ merged (rollup_of f) count)
