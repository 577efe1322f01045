-- The entries of the sources of a job, and what is named in their place.
use Rattle.std.proofs.Common.{◌≡◌, ◌≢◌, ◌∙◌, ℕ, ◌+◌, ◌<◌, ◌≤◌, min, Bool, List, [], ◌∷◌, ◌++◌, length, take, drop, map}
use Rattle.std.proofs.Common.{refl, sym, ap, subst, arith}
use Rattle.std.proofs.lemmas.List.{drop-drop, drop_all, length-map, take-append-drop}
use Rattle.std.proofs.lemmas.List.Sums.{sum_by-append, sum_by-cons}
use Rattle.std.specs.Prelude.{◌==◌}
use Rattle.std.specs.List.{AllByRecursion}
use Rattle.flow_manifest.specs.declared.following.JobKind.{JobKind}
use Rattle.flow_manifest.specs.declared.following.JobKind.TheVariants.{Roll, Merge}
use Rattle.flow_manifest.specs.declared.manifest.Entry.{Entry}
use Rattle.flow_manifest.specs.declared.manifest.Kind.{Kind}
use Rattle.flow_manifest.specs.declared.manifest.Kind.TheVariants.{Wide, Rolled, Sealed, Active}
use Rattle.flow_manifest.specs.declared.manifest.Manifest.{Manifest}
use Rattle.flow_manifest.specs.Following.{count_before, count_of, made_entry, made_of, messages_of}
use Rattle.flow_manifest.specs.Following.{source_of, sources_of}
use Rattle.flow_manifest.specs.Manifest.{IsValidManifest, rank}
use Rattle.flow_manifest.proofs.EntryLists.{all_by, counted}
use Rattle.flow_manifest.proofs.ManifestAfterInstall.{behind_short}
use Rattle.flow_model.specs.State.{Part, State}
use Rattle.flow_model.specs.Jobs.{staged_of}
use Rattle.flow_model.proofs.SourcePlaces.{are_sources, before_is, low, messages_installed, number, sources_are}
use Rattle.flow_archive.specs.JobAnswers.{IsJobFile}
use Rattle.flow_turns.specs.Turns.{files_over}
use Rattle.flow_turns.specs.Laws.{all_read, IsReplacement}
use Rattle.flow_turns.proofs.Chains.{IsSummed}
use Rattle.flow_turns.proofs.JobStates.{file_made, with_sums}

in_three : (n k : ℕ) (xs : List Entry) → xs ≡ take n xs ++ (take k (drop n xs) ++ drop (n + k) xs)
in_three n k xs =
    sym (take-append-drop n xs)
    ∙ ap (λ (l : List Entry). take n xs ++ l) (sym (take-append-drop k (drop n xs))
    ∙ ap (λ (l : List Entry). take k (drop n xs) ++ l) (drop-drop k n xs))

one_kind : (kind : JobKind) (k : Kind) → rank k ≡ rank (source_of kind) → k ≡ source_of kind
one_kind Roll Wide is = absurd (omega (arith, is))
one_kind Roll Rolled is = absurd (omega (arith, is))
one_kind Roll Sealed is = refl
one_kind Roll Active is = absurd (omega (arith, is))
one_kind Merge Wide is = absurd (omega (arith, is))
one_kind Merge Rolled is = refl
one_kind Merge Sealed is = absurd (omega (arith, is))
one_kind Merge Active is = absurd (omega (arith, is))

module _ (m : Manifest) (valid : IsValidManifest m) (kind : JobKind) (count : ℕ)
    (few : count ≤ count_of (source_of kind) m.entries) where
  pub so_many : length (sources_of kind count m.entries) ≡ count
  so_many = ap (λ (l : List Entry). length l) (sources_are m valid kind count few) ∙ number m valid kind count few

  pub are_of_kind : AllByRecursion (λ e. e.kind ≡ source_of kind) (sources_of kind count m.entries)
  are_of_kind = subst (AllByRecursion (λ e. e.kind ≡ source_of kind)) (sym (sources_are m valid kind count few))
      (all_by (λ e. rank e.kind ≡ rank (source_of kind)) (λ e. e.kind ≡ source_of kind)
      (λ e is. one_kind kind e.kind is) _ (are_sources m valid kind count few))

  pub none_before : AllByRecursion (λ e. e.kind ≢ source_of kind)
      (take (count_before (source_of kind) m.entries) m.entries)
  none_before = subst (AllByRecursion (λ e. e.kind ≢ source_of kind)) (sym (before_is m valid kind count few))
      (all_by (λ e. rank e.kind < rank (source_of kind)) (λ e. e.kind ≢ source_of kind)
      (λ e below. λ same. omega (arith, below, ap rank same)) _ (low m valid kind count few))

-- the state after a job, of whose files so many were removed
module _ (honest : Bool) (s after : State) (kind : JobKind) (count removed : ℕ) (valid : IsValidManifest s.manifest)
    (summed : State) (is_summed : IsSummed honest s kind count summed)
    (is : after ≡ record summed { waiting = drop removed summed.waiting }) where
  pub replacement : IsReplacement honest kind count removed s after
  replacement =
      let octets = is_summed.has.octets in
      let read = is_summed.has.read in
      let file = file_made s octets in
      let sources = sources_of kind count s.manifest.entries in
      let end = with_sums s kind count octets read in
      let last : after ≡ record end { waiting = drop removed end.waiting } =
      is ∙ ap (λ (x : State). record x { waiting = drop removed x.waiting }) is_summed.has.is in
      let all = ap (λ (x : State). messages_of x.manifest.entries) last
      ∙ messages_installed s.manifest valid kind count is_summed.few file (s.next + 1) in
      let active = ap (λ (x : State). x.active) last in
      record {
        before = take (count_before (source_of kind) s.manifest.entries) s.manifest.entries;
        sources = sources;
        later = drop (count_before (source_of kind) s.manifest.entries + count) s.manifest.entries;
        entries = in_three (count_before (source_of kind) s.manifest.entries) count s.manifest.entries;
        many = so_many s.manifest valid kind count is_summed.few;
        of_kind = are_of_kind s.manifest valid kind count is_summed.few;
        oldest = none_before s.manifest valid kind count is_summed.few;
        made = made_entry kind (staged_of file) sources;
        long = length octets;
        made_is = refl;
        manifest = ap (λ (x : State). x.manifest) last;
        octets = read;
        parts = ap (λ (x : State). x.parts) last;
        sums = λ h. (
          sym (ap (λ (l : List ℕ). length l) (is_summed.has.reads h)),
          subst (λ (l : List ℕ). IsJobFile s (all_read kind count) l) (sym (is_summed.has.reads h))
              (is_summed.has.sums h),
        );
        all = all;
        active = active;
        position = omega (arith, all, ap (λ (p : Part). length p.messages) active);
        next = ap (λ (x : State). x.next) last;
        shared = ap (λ (x : State). x.shared) last;
        no_job = ap (λ (x : State). x.job) last;
        waiting = ap (λ (x : State). x.waiting) last;
      }

-- ---- how many files a job leaves

each_counts : (a r : ℕ) → a ≡ r → counted (a == r) ≡ 1
each_counts a r same = grind arith

all_count : (kind : Kind) (xs : List Entry) → AllByRecursion (λ e. e.kind ≡ kind) xs → count_of kind xs ≡ length xs
all_count kind [] all = refl
all_count kind (e ∷ xs) all = omega (
  arith,
  sum_by-cons (λ (o : Entry). counted (rank o.kind == rank kind)) e xs,
  each_counts (rank e.kind) (rank kind) (ap rank all.0),
  all_count kind xs all.1,
)

made_counts : (kind : JobKind) → counted (rank (made_of kind) == rank (source_of kind)) ≡ 0
made_counts Roll = refl
made_counts Merge = refl

module _ (honest : Bool) (kind : JobKind) (count removed : ℕ) (old new : State)
    (is : IsReplacement honest kind count removed old new) where
  pub fewer : count_of (source_of kind) new.manifest.entries + count ≡ count_of (source_of kind) old.manifest.entries
  fewer =
      let one = λ (e : Entry). counted (rank e.kind == rank (source_of kind)) in
      omega (
        arith,
        ap (λ (m : Manifest). count_of (source_of kind) m.entries) is.manifest,
        ap (λ (l : List Entry). count_of (source_of kind) l) is.entries,
        sum_by-append one is.before (is.made ∷ is.later),
        sum_by-cons one is.made is.later,
        ap one is.made_is,
        made_counts kind,
        sum_by-append one is.before (is.sources ++ is.later),
        sum_by-append one is.sources is.later,
        all_count (source_of kind) is.sources is.of_kind,
        is.many,
      )

  module _ (valid : IsValidManifest old.manifest) (keep : ℕ) (all : count ≡ files_over kind keep old)
      (some : 1 ≤ count) where
    short : count_of (source_of kind) old.manifest.entries < 4096
    short = omega (
      arith,
      behind_short old.manifest valid kind (count_of (source_of kind) old.manifest.entries) (omega arith),
      valid.ranges.count_to,
    )

    pub none_over : files_over kind keep new ≡ 0
    none_over = omega (arith, short, fewer, all, some)

    pub all_kept : count_of (source_of kind) new.manifest.entries
        ≡ min keep (count_of (source_of kind) old.manifest.entries)
    all_kept = omega (arith, short, fewer, all, some)

-- ---- the files that wait

-- as many are removed as are summed
pub none_left : (s : State) (kind : JobKind) (count : ℕ) → length (sources_of kind count s.manifest.entries) ≡ count
    → s.waiting ≡ []
    → drop count (s.waiting ++ map (λ (e : Entry). e.file) (sources_of kind count s.manifest.entries)) ≡ []
none_left s kind count many none =
    let files = map (λ (e : Entry). e.file) (sources_of kind count s.manifest.entries) in
    ap (λ (w : List ℕ). drop count (w ++ files)) none
    ∙ drop_all count files
    (omega (arith, many, length-map (sources_of kind count s.manifest.entries) (λ (e : Entry). e.file)))
