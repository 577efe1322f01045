-- The messages of each file, among those of a view.
use Rattle.std.proofs.Common.{◌≡◌, ◌∙◌, ◌<◌, ◌≤◌, ℕ, ◌+◌, ◌-◌, List, ◌++◌, Some, length, take, drop, sym, ap, subst, arith}
use Rattle.std.specs.Prelude.{slice_get}
use Rattle.std.proofs.lemmas.List.{drop-map, length-append, length-map, length-take-le, take-append-drop, take-map, take_all}
use Rattle.std.proofs.Math.Seq.{drop-append_seam, take-add, take-append_seam}
use Rattle.flow_codec.specs.Templates.{AllTemplates}
use Rattle.flow_measure.specs.History.{templates_from, Accepted, AreAcceptedFrom}
use Rattle.flow_measure.specs.View.{View}
use Rattle.flow_model.specs.Shelf.{Shelf}
use Rattle.flow_model.specs.Views.{AreRestated, IsViewOf}
use Rattle.flow_model.proofs.Accepting.{accepted_first, accepted_rest, restated_behind}
use Rattle.flow_segment.specs.Carry.{octets_of}
use Rattle.flow_segment.specs.Prefix.{IsRestated}
use Rattle.flow_snapshot.proofs.ByFile.{files_count}
use Rattle.flow_snapshot.specs.Found.{kept_by_file, KeptFile}
use Rattle.flow_export.specs.Export.{messages_of}
use Rattle.flow_export.proofs.Choosing.{file_more}
use Rattle.flow_export.proofs.ReadBack.{all_octets, before_it, files_parted, own_and_more, own_restated}

-- how many messages come before those of a file
abbrev pub count_before : Shelf → ℕ → ℕ
count_before s at = length (messages_of (take at (kept_by_file s)))

-- those before them, and these
abbrev pub list_before : Shelf → View → ℕ → List Accepted
list_before s v at = take (count_before s at) v.kept

abbrev pub own_list : Shelf → View → ℕ → KeptFile → List Accepted
own_list s v at file = take (length file.messages) (drop (count_before s at) v.kept)

module _ (s : Shelf) (at : ℕ) (file : KeptFile) (within : at < length (kept_by_file s))
    (there : slice_get (kept_by_file s) at ≡ Some file) where
  count_next : count_before s (at + 1) ≡ count_before s at + length file.messages
  count_next =
      ap length (file_more (kept_by_file s) at file within there)
      ∙ length-append (messages_of (take at (kept_by_file s))) file.messages

  pub next_count : (count all : ℕ) → count ≡ count_before s at → all ≡ count + length file.messages
      → all ≡ count_before s (at + 1)
  next_count count all is then = omega (arith, is, then, count_next)

  -- of a number of messages those that aren't among the first files
  pub next_left : (n now next count : ℕ) → now ≡ n - count_before s at → next ≡ now - count
      → count ≡ length file.messages → next ≡ n - count_before s (at + 1)
  next_left n now next count is then many = omega (arith, is, then, many, count_next)

module _ (s : Shelf) (v : View) (view : IsViewOf s v) where
  pub kept_count : length v.kept ≡ length (messages_of (kept_by_file s))
  kept_count = sym (length-map v.kept (λ (a : Accepted). a.octets)) ∙ ap length (all_octets s v view)

  -- those of all files
  pub all_before : (at : ℕ) → length (kept_by_file s) ≤ at → list_before s v at ≡ v.kept
  all_before at all =
      ap (λ (fs : List KeptFile). take (length (messages_of fs)) v.kept) (take_all at (kept_by_file s) all)
      ∙ take_all (length (messages_of (kept_by_file s))) v.kept (omega (arith, kept_count))

  pub count_within : (at : ℕ) → count_before s at ≤ length v.kept
  count_within at =
      let files = kept_by_file s in
      let all = ap length (files_parted files at) in
      let both = length-append (messages_of (take at files)) (messages_of (drop at files)) in
      omega (arith, kept_count, all, both)

  pub length_before : (at : ℕ) → length (list_before s v at) ≡ count_before s at
  length_before at = length-take-le (count_before s at) v.kept (count_within at)

  module _ (at : ℕ) (file : KeptFile) (within : at < length (kept_by_file s))
      (there : slice_get (kept_by_file s) at ≡ Some file) where
    abbrev before : AllTemplates
    before = templates_from v.templates (list_before s v at)

    pub own_prefix : IsRestated file.prefix (templates_from v.templates (list_before s v at))
    own_prefix =
        let count = files_count s in
        let most : at ≤ length s.sealed = omega (arith, count, within) in
        let active : KeptFile = record { prefix = s.prefix; messages = s.active } in
        let same = before_it s.sealed active at most in
        let chain = restated_behind at v.templates s.sealed s.prefix s.active v.kept view.accepted view.kept view.prefixes in
        own_restated before s.sealed active file at there
        (subst (λ (k : ℕ). AreRestated (templates_from v.templates (take k v.kept)) (drop at s.sealed) s.prefix)
        (sym (ap length same)) chain)

    pub own_accepted : AreAcceptedFrom (templates_from v.templates (list_before s v at)) (own_list s v at file)
    own_accepted =
        let n = count_before s at in
        accepted_first before (length file.messages) (drop n v.kept) (accepted_rest v.templates n v.kept view.accepted)

    pub own_octets : octets_of (own_list s v at file) ≡ file.messages
    own_octets =
        let files = kept_by_file s in
        let n = count_before s at in
        let rest = messages_of (drop (at + 1) files) in
        let tail : octets_of (drop n v.kept) ≡ file.messages ++ rest =
        sym (drop-map (λ (a : Accepted). a.octets) n v.kept) ∙ ap (drop n) (all_octets s v view ∙ files_parted files at)
        ∙ drop-append_seam (messages_of (take at files)) (messages_of (drop at files))
        ∙ ap messages_of (own_and_more files at file within there) in
        sym (take-map (λ (a : Accepted). a.octets) (length file.messages) (drop n v.kept))
        ∙ ap (take (length file.messages)) tail ∙ take-append_seam file.messages rest

    pub own_count : length (own_list s v at file) ≡ length file.messages
    own_count =
        sym (length-map (own_list s v at file) (λ (a : Accepted). a.octets)) ∙ ap length own_octets

    -- with those of this file
    pub next_before : list_before s v (at + 1) ≡ list_before s v at ++ own_list s v at file
    next_before =
        ap (λ (n : ℕ). take n v.kept) (count_next s at file within there) ∙ take-add (count_before s at) (length file.messages) v.kept

  -- those of the first files, and the others
  pub rest_after : (at : ℕ) → list_before s v at ++ drop (count_before s at) v.kept ≡ v.kept
  rest_after at = take-append-drop (count_before s at) v.kept
