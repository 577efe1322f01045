-- Which files an archive has alone after an install.
use Rattle.std.proofs.Common.{◌≡◌, ◌≢◌, ℕ, zero, suc, ◌+◌, ◌≤◌, Bool, List, [], ◌∷◌, ◌++◌, take, drop, sym, subst}
use Rattle.std.proofs.Common.{Option, None, Some}
use Rattle.std.specs.List.{AllByRecursion}
use Rattle.std.proofs.lemmas.List.{map-append}
use Rattle.flow_disk.specs.Disk.{Marks}
use Rattle.flow_manifest.specs.declared.following.JobKind.{JobKind}
use Rattle.flow_manifest.specs.declared.manifest.Entry.{Entry}
use Rattle.flow_manifest.specs.declared.manifest.Manifest.{Manifest}
use Rattle.flow_manifest.specs.Manifest.{HaveOwnFiles, IsValidManifest}
use Rattle.flow_manifest.specs.Following.{count_before, count_of, front_of, source_of, sources_of}
use Rattle.flow_manifest.proofs.EntryLists.{all_drop, all_take, own_left, own_right}
use Rattle.flow_model.specs.State.{State}
use Rattle.flow_model.proofs.SourcePlaces.{sources_are}
use Rattle.flow_archive.specs.Frozen.{AreHeldAs, Frozen, IsAlone}
use Rattle.flow_archive.specs.UnderWay.{number_in, AllDiffer, HasOwnFiles, numbers_of, staged_in, under_way_in}
use Rattle.flow_archive.specs.UnderWay.{IsWaiting, FrozenStaged, RunningJob}
use Rattle.flow_archive.specs.UnderWay as files
use Rattle.flow_archive.proofs.FilePieces.{held_take, held_drop, held_all, numbered, in_three}

alone_take : (n : ℕ) (xs : List Frozen) → AllByRecursion IsAlone xs → AllByRecursion IsAlone (take n xs)
alone_take zero xs each = tt
alone_take (suc n) [] each = tt
alone_take (suc n) (x ∷ xs) each = (each.0, alone_take n xs each.1)

alone_drop : (n : ℕ) (xs : List Frozen) → AllByRecursion IsAlone xs → AllByRecursion IsAlone (drop n xs)
alone_drop zero xs each = each
alone_drop (suc n) [] each = tt
alone_drop (suc n) (x ∷ xs) each = alone_drop n xs each.1

alone_join : (xs ys : List Frozen) → AllByRecursion IsAlone xs → AllByRecursion IsAlone ys
    → AllByRecursion IsAlone (xs ++ ys)
alone_join [] ys here there = there
alone_join (x ∷ xs) ys here there = (here.0, alone_join xs ys here.1 there)

numbers_all : (P : ℕ → Type 0) (xs : List Frozen) → AllByRecursion (λ x. P x.entry.file) xs
    → AllByRecursion P (numbers_of xs)
numbers_all P [] each = tt
numbers_all P (x ∷ xs) each = (each.0, numbers_all P xs each.1)

all_numbers_join : (P : ℕ → Type 0) (xs ys : List ℕ) → AllByRecursion P xs → AllByRecursion P ys
    → AllByRecursion P (xs ++ ys)
all_numbers_join P [] ys here there = there
all_numbers_join P (x ∷ xs) ys here there = (here.0, all_numbers_join P xs ys here.1 there)

differ_join : (xs ys : List ℕ) → AllDiffer xs → AllDiffer ys
    → AllByRecursion (λ x. AllByRecursion (λ o. o ≢ x) ys) xs → AllDiffer (xs ++ ys)
differ_join [] ys here there apart = there
differ_join (x ∷ xs) ys here there apart =
    (all_numbers_join (λ o. o ≢ x) xs ys here.0 apart.0, differ_join xs ys here.1 there apart.1)

-- files of entries that have files of their own
files_differ : (h : Bool) (es : List Entry) (xs : List Frozen) → AreHeldAs h es xs → HaveOwnFiles es
    → AllDiffer (numbers_of xs)
files_differ h [] [] is own = tt
files_differ h [] (x ∷ xs) is own = absurd is
files_differ h (e ∷ es) [] is own = absurd is
files_differ h (e ∷ es) (x ∷ xs) is own = (
  subst (λ (y : Entry). AllByRecursion (λ (o : ℕ). o ≢ y.file) (numbers_of xs)) (sym is.0.entry_is)
      (numbers_all (λ o. o ≢ e.file) xs (held_all h (λ o. o ≢ e.file) es xs is.1 own.0)),
  files_differ h es xs is.1 own.1,
)

-- and that none which waits is one of
waits_apart : (h : Bool) (marks : ℕ → Marks) (s : State) (closed : Bool) (es : List Entry) (xs waiting : List Frozen)
    → AreHeldAs h es xs
    → ((n : ℕ) → AllByRecursion (λ e. e.file ≢ n) s.manifest.entries → AllByRecursion (λ e. e.file ≢ n) es)
    → AllByRecursion (IsWaiting marks s closed) waiting
    → AllByRecursion (λ x. AllByRecursion (λ o. o ≢ x) (numbers_of xs)) (numbers_of waiting)
waits_apart h marks s closed es xs [] is among each = tt
waits_apart h marks s closed es xs (w ∷ waiting) is among each = (
  numbers_all (λ o. o ≢ w.entry.file) xs
      (held_all h (λ o. o ≢ w.entry.file) es xs is (among w.entry.file (each.0.unnamed).apart)),
  waits_apart h marks s closed es xs waiting is among each.1,
)

module _ (m : Manifest) (valid : IsValidManifest m) (kind : JobKind) (count : ℕ)
    (few : count ≤ count_of (source_of kind) m.entries) (h : Bool) (files : List Frozen)
    (are_held : AreHeldAs h (front_of m) files) where
  abbrev from : ℕ
  from = count_before (source_of kind) m.entries

  abbrev taken : List Frozen
  taken = take count (drop from files)

  taken_held : AreHeldAs h (take count (drop from (front_of m))) taken
  taken_held = held_take h count (drop from (front_of m)) (drop from files) (held_drop h from (front_of m) files are_held)

  sources_own : HaveOwnFiles (take count (drop from (front_of m)))
  sources_own = subst HaveOwnFiles (sources_are m valid kind count few)
      (own_left (sources_of kind count m.entries) (drop (from + count) m.entries)
      (own_right (take from m.entries) (sources_of kind count m.entries ++ drop (from + count) m.entries)
      (subst HaveOwnFiles (in_three from count m.entries) valid.files)))

  among : (n : ℕ) → AllByRecursion (λ e. e.file ≢ n) m.entries
      → AllByRecursion (λ e. e.file ≢ n) (take count (drop from (front_of m)))
  among n all = subst (AllByRecursion (λ e. e.file ≢ n)) (sources_are m valid kind count few)
      (all_take (λ e. e.file ≢ n) count (drop from m.entries) (all_drop (λ e. e.file ≢ n) from m.entries all))

  pub own_installed : (marks : ℕ → Marks) (s : State) (closed shared : Bool) (r : RunningJob) (f : FrozenStaged) (part : Frozen)
      (next : ℕ) (waiting : List Frozen) → s.manifest ≡ m → r.staged ≡ Some f → IsAlone part
      → AllByRecursion (IsWaiting marks s closed) waiting → HasOwnFiles shared files (under_way_in next (Some r) waiting)
      → HasOwnFiles shared (take from files ++ part ∷ drop (from + count) files) (under_way_in next None (waiting ++ taken))
  own_installed marks s closed shared r f part next waiting same staged alone waits own =
      let differ : AllDiffer (f.file ∷ numbers_of waiting) =
      subst (λ (x : Option FrozenStaged). AllDiffer (number_in (staged_in x) ++ numbers_of waiting)) staged own.differ in
      record {
        alone = λ not. alone_join (take from files) (part ∷ drop (from + count) files)
            (alone_take from files (own.alone not)) (alone, alone_drop (from + count) files (own.alone not));
        waiting = λ not. alone_join waiting taken (own.waiting not)
            (alone_take count (drop from files) (alone_drop from files (own.alone not)));
        differ = subst AllDiffer (sym (map-append (λ (x : Frozen). x.entry.file) waiting taken))
            (differ_join (numbers_of waiting) (numbers_of taken) differ.1
            (files_differ h (take count (drop from (front_of m))) taken taken_held sources_own)
            (waits_apart h marks s closed (take count (drop from (front_of m))) taken waiting taken_held
            (λ n all. among n (subst (λ (x : Manifest). AllByRecursion (λ (e : Entry). e.file ≢ n) x.entries) same all))
            waits));
      }

  -- and the file that was made isn't one of those that wait
  pub made_apart : (shared : Bool) (r : RunningJob) (f : FrozenStaged) (next : ℕ) (waiting : List Frozen) → r.staged ≡ Some f
      → HasOwnFiles shared files (under_way_in next (Some r) waiting)
      → AllByRecursion (λ x. x.entry.file ≢ f.file) waiting
  made_apart shared r f next waiting staged own =
      let differ : AllDiffer (f.file ∷ numbers_of waiting) =
      subst (λ (x : Option FrozenStaged). AllDiffer (number_in (staged_in x) ++ numbers_of waiting)) staged own.differ in
      numbered (λ n. n ≢ f.file) waiting differ.0
