-- The history after an install.
use Rattle.std.proofs.Common.{◌≡◌, ℕ, ◌+◌, ◌<◌, ◌≤◌, List, [], ◌∷◌, ◌++◌, length, take, drop, refl, sym, ap, subst, ◌∙◌}
use Rattle.std.proofs.Common.{length-append, arith}
use Rattle.std.specs.List.{AllByRecursion}
use Rattle.flow_manifest.specs.declared.manifest.Kind.{Kind}
use Rattle.flow_manifest.specs.declared.manifest.Kind.TheVariants.{Wide, Rolled, Sealed, Active}
use Rattle.flow_manifest.specs.declared.following.JobKind.{JobKind}
use Rattle.flow_manifest.specs.declared.following.JobKind.TheVariants.{Roll, Merge}
use Rattle.flow_manifest.specs.declared.manifest.Entry.{Entry}
use Rattle.flow_manifest.specs.Manifest.{IsValidManifest, rank}
use Rattle.flow_manifest.specs.Following.{count_before, count_of, front_of, made_entry, messages_of, source_of}
use Rattle.flow_manifest.specs.Following.{sources_of}
use Rattle.std.specs.FinMap.{FinMap}
use Rattle.flow_measure.specs.declared.rows.Sums.{Sums}
use Rattle.flow_measure.specs.History.{Accepted, History, flows_in}
use Rattle.flow_measure.specs.Sums.{Table, key_cmp, table_of, widened}
use Rattle.flow_measure.specs.View.{gathered_all, view_of}
use Rattle.flow_rolled.specs.Rollup.{IsRollup}
use Rattle.flow_segment.specs.Carry.{Carry}
use Rattle.flow_model.specs.Shelf.{Rollup, Segment, Shelf, messages_in, rollup_message_count}
use Rattle.flow_model.specs.Changes.{applied, counts_of, history_after, installed, merged, merged_table, Allows, Change}
use Rattle.flow_model.specs.Views.{AreRestated, AreRolled, IsViewOf}
use Rattle.flow_model.proofs.Following.{history_follows, merge_by_messages, view_follows}
use Rattle.flow_model.specs.State.{Part, StagedFile, State}
use Rattle.flow_model.specs.Jobs.{AreRolledMessages, AreRolledSums, IsJobSum, source_parts, history_made, replaced}
use Rattle.flow_model.specs.Jobs.{source_messages, staged_of, table_made, width_made}
use Rattle.flow_model.specs.Chain.{HandsOn}
use Rattle.flow_model.specs.Shelved.{HasHistory, active_shelf, rollup_of, shelf_of, shelved, shelved_first}
use Rattle.flow_model.specs.Standing.{PartsStand}
use Rattle.flow_model.proofs.Installing.{AreRollups, AreSegments, merge_front, merge_over, no_merged, no_rolled}
use Rattle.flow_model.proofs.Installing.{roll_front, roll_over, rollups, segments, taken, rollups_of, segments_of}
use Rattle.flow_model.proofs.Sourcing.{merged_first, rolled_first}
use Rattle.flow_model.proofs.Viewing.{widths}
use Rattle.flow_model.proofs.SourcePlaces.{sources_are, number, low, are_sources, are_behind}
use Rattle.flow_model.proofs.Replacing.{now_shelf, then_shelf, same_2, part, sources_stand}

-- ---- a roll

no_rolled_low : (kind : Kind) (e : Entry) (p : Part) (s : Shelf) → rank kind < 1
    → (shelved_first kind e p s).rolled ≡ s.rolled
no_rolled_low Wide e p s small = refl
no_rolled_low Rolled e p s small = absurd (omega (arith, small))
no_rolled_low Sealed e p s small = absurd (omega (arith, small))
no_rolled_low Active e p s small = absurd (omega (arith, small))

no_rolled_in : (es : List Entry) (ps : List Part) (s : Shelf) → AllByRecursion (λ e. rank e.kind < 1) es
    → (shelved es ps s).rolled ≡ s.rolled
no_rolled_in [] ps s small = refl
no_rolled_in (e ∷ es) [] s small = refl
no_rolled_in (e ∷ es) (p ∷ ps) s small = no_rolled_low e.kind e p (shelved es ps s) small.0 ∙ no_rolled_in es ps s small.1

no_sealed_first : (kind : Kind) (e : Entry) (p : Part) (s : Shelf) → rank kind < 2
    → (shelved_first kind e p s).sealed ≡ s.sealed
no_sealed_first Wide e p s small = refl
no_sealed_first Rolled e p s small = refl
no_sealed_first Sealed e p s small = absurd (omega (arith, small))
no_sealed_first Active e p s small = absurd (omega (arith, small))

no_sealed : (es : List Entry) (ps : List Part) (s : Shelf) → AllByRecursion (λ e. rank e.kind < 2) es
    → (shelved es ps s).sealed ≡ s.sealed
no_sealed [] ps s small = refl
no_sealed (e ∷ es) [] s small = refl
no_sealed (e ∷ es) (p ∷ ps) s small = no_sealed_first e.kind e p (shelved es ps s) small.0 ∙ no_sealed es ps s small.1

module _ (s : State) (c : Carry) (h : History) (valid : IsValidManifest s.manifest) (hands : HandsOn s c)
    (image : ℕ → List ℕ) (stand : PartsStand image (front_of s.manifest) s.parts) (has : HasHistory s h) (count : ℕ)
    (file : StagedFile) where
  module _ (few : count ≤ count_of Sealed s.manifest.entries) where
    abbrev rolled_entry : Entry
    rolled_entry = made_entry Roll (staged_of file) (sources_of Roll count s.manifest.entries)

    abbrev rolled_file : Rollup
    rolled_file = rollup_of rolled_entry (part s c valid hands Roll count few file)

    abbrev at : ℕ
    at = count_before Sealed s.manifest.entries

    abbrev s1 : List Entry
    s1 = take at (front_of s.manifest)

    abbrev s2 : List Entry
    s2 = take count (drop at (front_of s.manifest))

    abbrev s3 : List Entry
    s3 = drop (at + count) (front_of s.manifest)

    abbrev q1 : List Part
    q1 = take at s.parts

    abbrev q2 : List Part
    q2 = take count (drop at s.parts)

    abbrev q3 : List Part
    q3 = drop (at + count) s.parts

    abbrev rest : Shelf
    rest = shelved s3 q3 (active_shelf s)

    are : AreSegments s2 q2 rest
    are = segments image s2 q2 rest (sources_stand s c valid hands Roll count few file image stand)
        (are_sources s.manifest valid Roll count few)

    sealed_now : (shelf_of s).sealed ≡ are.front ++ rest.sealed
    sealed_now =
        ap (λ (x : Shelf). x.sealed) (now_shelf s c valid hands Roll count few file)
        ∙ no_sealed s1 q1 (shelved s2 q2 rest) (low s.manifest valid Roll count few)
        ∙ ap (λ (x : Shelf). x.sealed) are.is

    pub roll_shelf : shelf_of (replaced s Roll count file) ≡ applied (shelf_of s) (installed rolled_file count)
    roll_shelf =
        then_shelf s c valid hands Roll count few file
        ∙ ap (λ (x : Shelf). shelved s1 q1 x) (roll_over rolled_entry (part s c valid hands Roll count few file) count
        s2 q2 rest are (number s.manifest valid Roll count few)
        (no_rolled s3 q3 (active_shelf s) (are_behind s.manifest valid Roll count few)))
        ∙ roll_front rolled_file count s1 q1 (shelved s2 q2 rest) (low s.manifest valid Roll count few)
        ∙ sym (ap (λ (x : Shelf). applied x (installed rolled_file count))
        (now_shelf s c valid hands Roll count few file))

    front_taken : take count (shelf_of s).sealed ≡ are.front
    front_taken = ap (take count) sealed_now
        ∙ taken count are.front rest.sealed (are.long ∙ number s.manifest valid Roll count few)

    counted : messages_of (sources_of Roll count s.manifest.entries)
        ≡ length (messages_in (take count (shelf_of s).sealed))
    counted = ap messages_of (sources_are s.manifest valid Roll count few) ∙ sym are.count
        ∙ sym (ap (λ (gs : List Segment). length (messages_in gs)) front_taken)

    -- what the sources hold
    pub roll_sources : (messages : List Accepted) → AreRolledMessages q2 messages
        → messages ≡ source_messages Roll (messages_of (sources_of Roll count s.manifest.entries)) h
    roll_sources messages hold =
        let v = view_of h (counts_of (shelf_of s)) in
        let now : (shelf_of s).sealed ≡ segments_of s2 q2 ++ rest.sealed =
        sealed_now ∙ ap (λ (gs : List Segment). gs ++ rest.sealed) are.front_is in
        rolled_first s2 q2 rest.sealed (shelf_of s).prefix (shelf_of s).active v.templates messages v.kept
        (messages_of (sources_of Roll count s.manifest.entries)) (same_2 s c valid hands Roll count few file) hold
        (subst (λ (gs : List Segment). AreRestated v.templates gs (shelf_of s).prefix) now (has.view).prefixes)
        (has.view).accepted
        ((has.view).kept ∙ ap (λ (gs : List Segment). messages_in gs ++ (shelf_of s).active) now)
        (ap messages_of (sources_are s.manifest valid Roll count few) ∙ sym are.count
        ∙ ap (λ (gs : List Segment). length (messages_in gs)) are.front_is)

    enough : count ≤ length (shelf_of s).sealed
    enough = omega (
      arith,
      ap (λ (gs : List Segment). length gs) sealed_now,
      length-append are.front rest.sealed,
      are.long,
      number s.manifest valid Roll count few,
    )

    pub roll_follows : IsRollup s.manifest.width file.octets
        (table_made Roll s.manifest (messages_of (sources_of Roll count s.manifest.entries)) h)
        → HasHistory (replaced s Roll count file)
        (history_made Roll (messages_of (sources_of Roll count s.manifest.entries)) h)
    roll_follows is =
        let width : (shelf_of s).width ≡ s.manifest.width =
        (widths (front_of s.manifest) s.parts (active_shelf s)).0 in
        let change : Change = installed rolled_file count in
        let allowed : Allows (shelf_of s) (view_of h (counts_of (shelf_of s))) change = (
          enough,
          counted,
          subst (λ (w : ℕ). IsRollup w file.octets (table_of w (flows_in (take rolled_file.messages
              (drop h.cut h.all))))) (sym width) is,
        ) in
        record {
          history = history_follows (shelf_of s) h change has.history has.view allowed;
          view = subst (λ (x : Shelf). IsViewOf x (view_of (history_after h change) (counts_of x))) (sym roll_shelf)
              (view_follows (shelf_of s) h change has.history has.view allowed);
        }

  -- ---- a merge

  module _ (few : count ≤ count_of Rolled s.manifest.entries) where
    abbrev wide_entry : Entry
    wide_entry = made_entry Merge (staged_of file) (sources_of Merge count s.manifest.entries)

    abbrev wide_file : Rollup
    wide_file = rollup_of wide_entry (part s c valid hands Merge count few file)

    abbrev point : ℕ
    point = count_before Rolled s.manifest.entries

    abbrev r1 : List Entry
    r1 = take point (front_of s.manifest)

    abbrev r2 : List Entry
    r2 = take count (drop point (front_of s.manifest))

    abbrev r3 : List Entry
    r3 = drop (point + count) (front_of s.manifest)

    abbrev o1 : List Part
    o1 = take point s.parts

    abbrev o2 : List Part
    o2 = take count (drop point s.parts)

    abbrev o3 : List Part
    o3 = drop (point + count) s.parts

    abbrev others : Shelf
    others = shelved r3 o3 (active_shelf s)

    they : AreRollups r2 o2 others
    they = rollups r2 o2 others (same_2 s c valid hands Merge count few file)
        (are_sources s.manifest valid Merge count few)

    rolled_now : (shelf_of s).rolled ≡ they.front ++ others.rolled
    rolled_now =
        ap (λ (x : Shelf). x.rolled) (now_shelf s c valid hands Merge count few file)
        ∙ no_rolled_in r1 o1 (shelved r2 o2 others) (low s.manifest valid Merge count few)
        ∙ ap (λ (x : Shelf). x.rolled) they.is

    pub merge_shelf : shelf_of (replaced s Merge count file) ≡ applied (shelf_of s) (merged wide_file count)
    merge_shelf =
        then_shelf s c valid hands Merge count few file
        ∙ ap (λ (x : Shelf). shelved r1 o1 x) (merge_over wide_entry (part s c valid hands Merge count few file) count
        r2 o2 others they (number s.manifest valid Merge count few)
        (no_merged r3 o3 (active_shelf s) (are_behind s.manifest valid Merge count few)))
        ∙ merge_front wide_file count r1 o1 (shelved r2 o2 others) (low s.manifest valid Merge count few)
        ∙ sym (ap (λ (x : Shelf). applied x (merged wide_file count))
        (now_shelf s c valid hands Merge count few file))

    rolled_taken : take count (shelf_of s).rolled ≡ they.front
    rolled_taken = ap (take count) rolled_now
        ∙ taken count they.front others.rolled (they.long ∙ number s.manifest valid Merge count few)

    summed : messages_of (sources_of Merge count s.manifest.entries)
        ≡ rollup_message_count (take count (shelf_of s).rolled)
    summed = ap messages_of (sources_are s.manifest valid Merge count few) ∙ sym they.count
        ∙ sym (ap rollup_message_count rolled_taken)

    -- what the sources hold
    pub merge_sources : (maps : List (FinMap key_cmp Sums)) → AreRolledSums s.manifest.width o2 maps
        → widened s.manifest.wide (record { width = s.manifest.width; sums = gathered_all maps })
        ≡ table_made Merge s.manifest (messages_of (sources_of Merge count s.manifest.entries)) h
    merge_sources maps hold =
        let v = view_of h (counts_of (shelf_of s)) in
        let both = widths (front_of s.manifest) s.parts (active_shelf s) in
        let now : (shelf_of s).rolled ≡ rollups_of r2 o2 ++ others.rolled =
        rolled_now ∙ ap (λ (rs : List Rollup). rs ++ others.rolled) they.front_is in
        let rolled : AreRolled s.manifest.width (rollups_of r2 o2 ++ others.rolled) v.rolled =
        subst (λ (w : ℕ). AreRolled w (rollups_of r2 o2 ++ others.rolled) v.rolled) both.0
        (subst (λ (rs : List Rollup). AreRolled (shelf_of s).width rs v.rolled) now (has.view).rolled) in
        let first : maps ≡ take count v.rolled =
        merged_first s.manifest.width r2 o2 others.rolled maps v.rolled count (valid.fits).width
        (same_2 s c valid hands Merge count few file) hold rolled
        (sym (ap (λ (rs : List Rollup). length rs) (sym they.front_is) ∙ they.long
        ∙ number s.manifest valid Merge count few)) in
        let shelf_sums : widened s.manifest.wide (record { width = s.manifest.width; sums = gathered_all maps })
        ≡ merged_table (shelf_of s) v count =
        ap (λ (ms : List (FinMap key_cmp Sums)). widened s.manifest.wide (record {
          width = s.manifest.width;
          sums = gathered_all ms;
        })) first
        ∙ sym (ap (λ (w : ℕ). widened s.manifest.wide (record {
          width = w;
          sums = gathered_all (take count v.rolled);
        })) both.0)
        ∙ sym (ap (λ (w : ℕ). widened w (record {
          width = (shelf_of s).width;
          sums = gathered_all (take count v.rolled);
        })) both.1) in
        shelf_sums ∙ merge_by_messages (shelf_of s) h count has.history has.view
        ∙ ap (λ (w : ℕ). table_of w (flows_in (take (rollup_message_count (take count (shelf_of s).rolled))
        (drop h.second h.all)))) both.1
        ∙ sym (ap (λ (k : ℕ). table_of s.manifest.wide (flows_in (take k (drop h.second h.all)))) summed)

    plenty : count ≤ length (shelf_of s).rolled
    plenty = omega (
      arith,
      ap (λ (rs : List Rollup). length rs) rolled_now,
      length-append they.front others.rolled,
      they.long,
      number s.manifest valid Merge count few,
    )

    pub merge_follows : IsRollup s.manifest.wide file.octets
        (table_made Merge s.manifest (messages_of (sources_of Merge count s.manifest.entries)) h)
        → HasHistory (replaced s Merge count file)
        (history_made Merge (messages_of (sources_of Merge count s.manifest.entries)) h)
    merge_follows is =
        let wide : (shelf_of s).wide ≡ s.manifest.wide =
        (widths (front_of s.manifest) s.parts (active_shelf s)).1 in
        let change : Change = merged wide_file count in
        let of_shelf : IsRollup (shelf_of s).wide file.octets (table_of (shelf_of s).wide
        (flows_in (take (rollup_message_count (take count (shelf_of s).rolled)) (drop h.second h.all)))) =
        subst (λ (k : ℕ). IsRollup (shelf_of s).wide file.octets (table_of (shelf_of s).wide
        (flows_in (take k (drop h.second h.all))))) summed
        (subst (λ (w : ℕ). IsRollup w file.octets (table_of w (flows_in (take wide_file.messages
        (drop h.second h.all))))) (sym wide) is) in
        let allowed : Allows (shelf_of s) (view_of h (counts_of (shelf_of s))) change = (
          plenty,
          summed,
          subst (IsRollup (shelf_of s).wide file.octets)
              (sym (merge_by_messages (shelf_of s) h count has.history has.view)) of_shelf,
        ) in
        record {
          history = history_follows (shelf_of s) h change has.history has.view allowed;
          view = subst (λ (x : Shelf). IsViewOf x (view_of (history_after h change) (counts_of x))) (sym merge_shelf)
              (view_follows (shelf_of s) h change has.history has.view allowed);
        }

-- ---- either

pub history_replaced : (s : State) (c : Carry) (h : History) (valid : IsValidManifest s.manifest) (hands : HandsOn s c)
    (image : ℕ → List ℕ) (stand : PartsStand image (front_of s.manifest) s.parts) (has : HasHistory s h)
    (kind : JobKind) (count : ℕ) (file : StagedFile) (few : count ≤ count_of (source_of kind) s.manifest.entries)
    → IsRollup (width_made kind s.manifest) file.octets
    (table_made kind s.manifest (messages_of (sources_of kind count s.manifest.entries)) h)
    → HasHistory (replaced s kind count file)
    (history_made kind (messages_of (sources_of kind count s.manifest.entries)) h)
history_replaced s c h valid hands image stand has Roll count file few is =
    roll_follows s c h valid hands image stand has count file few is
history_replaced s c h valid hands image stand has Merge count file few is =
    merge_follows s c h valid hands image stand has count file few is

-- what the sources hold is what the history has there
pub sources_hold : (s : State) (c : Carry) (h : History) (valid : IsValidManifest s.manifest) (hands : HandsOn s c)
    (image : ℕ → List ℕ) (stand : PartsStand image (front_of s.manifest) s.parts) (has : HasHistory s h)
    (kind : JobKind) (count : ℕ) (few : count ≤ count_of (source_of kind) s.manifest.entries) (table : Table)
    → IsJobSum kind s.manifest (source_parts kind count s) table
    → table ≡ table_made kind s.manifest (messages_of (sources_of kind count s.manifest.entries)) h
sources_hold s c h valid hands image stand has Roll count few table (messages, hold, is) =
    is ∙ ap (λ (ms : List Accepted). table_of s.manifest.width (flows_in ms))
    (roll_sources s c h valid hands image stand has count (record { file = 0; octets = [] }) few messages hold)
sources_hold s c h valid hands image stand has Merge count few table (maps, hold, is) =
    is ∙ merge_sources s c h valid hands image stand has count (record { file = 0; octets = [] }) few maps hold
