-- Where a job's sources are in a valid manifest, and its entries after their install.
use Rattle.std.proofs.Common.{◌≡◌, ℕ, ◌+◌, ◌-◌, ◌<◌, ◌≤◌, List, [], ◌∷◌, ◌++◌, length, take, drop, sym, ap, subst, ◌∙◌}
use Rattle.std.proofs.Common.{append_assoc, get_or, length-append, length-drop, arith}
use Rattle.std.specs.List.{AllByRecursion}
use Rattle.std.proofs.lemmas.List.{take-append-drop, take-append-le, drop-append-le, drop-drop, drop-take, get_or_push}
use Rattle.std.proofs.lemmas.List.{length-take-le}
use Rattle.std.proofs.lemmas.List.Sums.{sum_by-append, sum_by-cons, sum_by-take-drop}
use Rattle.std.proofs.Math.Seq.{take-append_seam}
use Rattle.flow_manifest.specs.declared.following.JobKind.{JobKind}
use Rattle.flow_manifest.specs.declared.manifest.Entry.{Entry}
use Rattle.flow_manifest.specs.declared.manifest.Manifest.{Manifest}
use Rattle.flow_manifest.specs.Manifest.{IsValidManifest, rank}
use Rattle.flow_manifest.specs.Following.{active_of, count_before, count_of, front_of, installed_manifest, made_entry}
use Rattle.flow_manifest.specs.Following.{no_entry, messages_of, source_of, sources_of}
use Rattle.flow_manifest.proofs.EntryLists.{all_both, all_drop, all_left, all_take, below_next, front_low, rest_high}
use Rattle.flow_manifest.proofs.EntryLists.{sorted}
use Rattle.flow_manifest.proofs.ValidEntries.{front_long, split}
use Rattle.flow_manifest.proofs.ManifestAfterInstall.{behind_short}
use Rattle.flow_model.specs.State.{Part, StagedFile}
use Rattle.flow_model.specs.Jobs.{staged_of}

-- ---- lists in three pieces

abbrev behind_of : {X : Type 0} → ℕ → ℕ → List X → List X
behind_of n k xs = drop (n + k) xs

pub in_three : {X : Type 0} (n k : ℕ) (xs : List X) → xs ≡ take n xs ++ (take k (drop n xs) ++ drop (n + k) xs)
in_three {X} n k xs =
    sym (take-append-drop n xs)
    ∙ ap (λ (l : List X). take n xs ++ l) (sym (take-append-drop k (drop n xs))
    ∙ ap (λ (l : List X). take k (drop n xs) ++ l) (drop-drop k n xs))

but_last : {X : Type 0} (xs : List X) (x : X) → take (length (xs ++ x ∷ []) - 1) (xs ++ x ∷ []) ≡ xs
but_last {X} xs x =
    ap (λ (n : ℕ). take n (xs ++ x ∷ [])) (omega (arith, length-append xs (x ∷ []))) ∙ take-append_seam xs (x ∷ [])

last_of : (xs : List Entry) (x : Entry) → get_or (xs ++ x ∷ []) (length (xs ++ x ∷ []) - 1) no_entry ≡ x
last_of xs x = get_or_push xs x no_entry (length (xs ++ x ∷ []) - 1) (omega (arith, length-append xs (x ∷ [])))

-- ---- the place of the sources

module _ (m : Manifest) (valid : IsValidManifest m) (kind : JobKind) (count : ℕ)
    (few : count ≤ count_of (source_of kind) m.entries) where
  abbrev place : ℕ
  place = count_before (source_of kind) m.entries

  abbrev all : List Entry
  all = front_of m

  abbrev before : List Entry
  before = take place all

  abbrev sources : List Entry
  sources = take count (drop place all)

  abbrev behind : List Entry
  behind = drop (place + count) all

  within : place + count ≤ length all
  within = omega (arith, behind_short m valid kind count few, front_long m valid)

  parted : m.entries ≡ all ++ active_of m ∷ []
  parted = split m valid

  pub before_is : take place m.entries ≡ before
  before_is = ap (take place) parted ∙ take-append-le place all (active_of m ∷ []) (omega (arith, within))

  rest_is : drop place m.entries ≡ drop place all ++ active_of m ∷ []
  rest_is = ap (drop place) parted ∙ drop-append-le place all (active_of m ∷ []) (omega (arith, within))

  pub sources_are : sources_of kind count m.entries ≡ sources
  sources_are = ap (take count) rest_is
      ∙ take-append-le count (drop place all) (active_of m ∷ []) (omega (arith, within, length-drop place all))

  pub behind_is : drop (place + count) m.entries ≡ behind ++ active_of m ∷ []
  behind_is = ap (drop (place + count)) parted
      ∙ drop-append-le (place + count) all (active_of m ∷ []) within

  pub number : length sources ≡ count
  number = length-take-le count (drop place all) (omega (arith, within, length-drop place all))

  -- kinds
  pub low : AllByRecursion (λ e. rank e.kind < rank (source_of kind)) before
  low = subst (AllByRecursion (λ e. rank e.kind < rank (source_of kind))) before_is
      (front_low (rank (source_of kind)) place m.entries (sorted m.entries valid.order) (omega arith))

  high : AllByRecursion (λ e. rank (source_of kind) ≤ rank e.kind) (drop place all)
  high = all_left (λ e. rank (source_of kind) ≤ rank e.kind) (drop place all) (active_of m ∷ [])
      (subst (AllByRecursion (λ e. rank (source_of kind) ≤ rank e.kind)) rest_is
      (rest_high (rank (source_of kind)) m.entries (sorted m.entries valid.order)))

  not_higher : AllByRecursion (λ e. rank e.kind < rank (source_of kind) + 1) sources
  not_higher = subst (AllByRecursion (λ e. rank e.kind < rank (source_of kind) + 1)) middle
      (all_drop (λ e. rank e.kind < rank (source_of kind) + 1) place (take (place + count) m.entries)
      (front_low (rank (source_of kind) + 1) (place + count) m.entries (sorted m.entries valid.order)
      (omega (arith, few, below_next (source_of kind) m.entries))))
    where
      middle : drop place (take (place + count) m.entries) ≡ sources
      middle = drop-take place count m.entries ∙ sources_are

  pub are_sources : AllByRecursion (λ e. rank e.kind ≡ rank (source_of kind)) sources
  are_sources = all_both (λ e. rank (source_of kind) ≤ rank e.kind) (λ e. rank e.kind < rank (source_of kind) + 1)
      (λ e. rank e.kind ≡ rank (source_of kind)) (λ e le lt. omega (arith, le, lt)) sources
      (all_take (λ e. rank (source_of kind) ≤ rank e.kind) count (drop place all) high) not_higher

  pub are_behind : AllByRecursion (λ e. rank (source_of kind) ≤ rank e.kind) behind
  are_behind = subst (AllByRecursion (λ e. rank (source_of kind) ≤ rank e.kind)) (drop-drop count place all)
      (all_drop (λ e. rank (source_of kind) ≤ rank e.kind) count (drop place all) high)

  entries_installed : (file : StagedFile)
      → take place m.entries ++
      made_entry kind (staged_of file) (sources_of kind count m.entries) ∷ drop (place + count) m.entries
      ≡ (before ++ made_entry kind (staged_of file) (sources_of kind count m.entries) ∷ behind) ++ active_of m ∷ []
  entries_installed file =
      let made = made_entry kind (staged_of file) (sources_of kind count m.entries) in
      ap (λ (l : List Entry). l ++ made ∷ drop (place + count) m.entries) before_is
      ∙ ap (λ (l : List Entry). before ++ made ∷ l) behind_is
      ∙ sym (append_assoc before (made ∷ behind) (active_of m ∷ []))

  -- the entries before the active one after the install
  pub front_installed : (file : StagedFile) (next : ℕ)
      → front_of (installed_manifest m kind count (staged_of file) next)
      ≡ before ++ made_entry kind (staged_of file) (sources_of kind count m.entries) ∷ behind
  front_installed file next =
      ap (λ (l : List Entry). take (length l - 1) l) (entries_installed file)
      ∙ but_last (before ++ made_entry kind (staged_of file) (sources_of kind count m.entries) ∷ behind) (active_of m)

  pub active_installed : (file : StagedFile) (next : ℕ)
      → active_of (installed_manifest m kind count (staged_of file) next) ≡ active_of m
  active_installed file next =
      ap (λ (l : List Entry). get_or l (length l - 1) no_entry) (entries_installed file)
      ∙ last_of (before ++ made_entry kind (staged_of file) (sources_of kind count m.entries) ∷ behind) (active_of m)

  -- and all messages are still counted
  pub messages_installed : (file : StagedFile) (next : ℕ)
      → messages_of (installed_manifest m kind count (staged_of file) next).entries ≡ messages_of m.entries
  messages_installed file next =
      let made = made_entry kind (staged_of file) (sources_of kind count m.entries) in
      omega (
        arith,
        sum_by-append (λ (e : Entry). e.messages) (take place m.entries) (made ∷ drop (place + count) m.entries),
        sum_by-cons (λ (e : Entry). e.messages) made (drop (place + count) m.entries),
        sum_by-take-drop (λ (e : Entry). e.messages) m.entries place,
        sum_by-take-drop (λ (e : Entry). e.messages) (drop place m.entries) count,
        ap (λ (l : List Entry). messages_of l) (drop-drop count place m.entries),
      )

  -- ---- the parts

  module _ (parts : List Part) (same : length all ≡ length parts) where
    pub first_same : length before ≡ length (take place parts)
    first_same = omega (
      arith,
      length-take-le place all (omega (arith, within)),
      length-take-le place parts (omega (arith, within, same)),
    )

    pub sources_same : length sources ≡ length (take count (drop place parts))
    sources_same = omega (
      arith,
      number,
      length-take-le count (drop place parts) (omega (arith, within, same, length-drop place parts)),
    )

    pub behind_same : length behind ≡ length (drop (place + count) parts)
    behind_same = omega (arith, length-drop (place + count) all, length-drop (place + count) parts, same)
