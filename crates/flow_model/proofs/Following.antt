-- A shelf's view after a change.
use Rattle.std.proofs.Common.{◌≡◌, ℕ, zero, suc, ◌+◌, ◌-◌, ◌%◌, ◌<◌, ◌≤◌, List, [], ◌∷◌, ◌++◌, length, map, take, drop}
use Rattle.std.proofs.Common.{refl}
use Rattle.std.proofs.Common.{sym, ap, subst, ◌∙◌, append-nil, append_assoc, arith}
use Rattle.std.specs.Prelude.{sum}
use Rattle.std.specs.List.{flat_map}
use Rattle.std.specs.FinMap.{FinMap, entries}
use Rattle.std.proofs.lemmas.List.{take-append-drop, take-append-le, drop-append-le, take-take, drop-take, drop-drop}
use Rattle.std.proofs.lemmas.List.{length-append, length-drop, length-map, length-take, length-take-le, map-append}
use Rattle.std.proofs.lemmas.List.{take-map, drop-map}
use Rattle.std.proofs.lemmas.List.Sums.{sum-map, sum_by-append, sum_by-take-drop}
use Rattle.std.proofs.lemmas.List.Concat.{flat_map-append}
use Rattle.std.proofs.Math.Seq.{take-add, drop-append_seam}
use Rattle.flow_codec.specs.Templates.{AllTemplates}
use Rattle.flow_measure.specs.declared.rows.Sums.{Sums}
use Rattle.flow_measure.specs.Sums.{Table, key_cmp, gathered, sums_by, table_of, widened}
use Rattle.flow_measure.specs.History.{Accepted, AreAcceptedFrom, History, IsHistory, flows_in, read_from}
use Rattle.flow_measure.specs.History.{templates_from, templates_of}
use Rattle.flow_measure.specs.View.{gathered_all, parted, messages_between_cuts, view_of}
use Rattle.flow_measure.proofs.Gathering.{gathered-again}
use Rattle.flow_measure.proofs.SumLaws.{widened-table_of}
use Rattle.flow_measure.proofs.ViewLaws.{both_sums, flows-append, no_sums, parts_sum}
use Rattle.flow_rolled.specs.Rollup.{IsRollup}
use Rattle.flow_segment.specs.Carry.{octets_of}
use Rattle.flow_model.specs.Shelf.{Rollup, Segment, Shelf, cut_of, kept_of, messages_in, rollup_message_count}
use Rattle.flow_model.specs.Shelf.{new_shelf}
use Rattle.flow_model.specs.Views.{AreRestated, AreRolled, AreRolledInto, IsViewOf}
use Rattle.flow_model.specs.Changes.{Allows, CallsFor, applied, counts_of, history_after, merged_table}
use Rattle.flow_model.specs.Changes.{new_history}
use Rattle.flow_model.specs.Changes.Change.{added, sealed, installed, merged}
use Rattle.flow_model.specs.Changes.{Change}
use Rattle.flow_model.proofs.Accepting.{accepted_rest, accepted_then, read_as, restated_behind, restated_then}
use Rattle.flow_model.proofs.Accepting.{templates_then}
use Rattle.flow_model.proofs.Parting.{parted_front, parted_rest, parted_then}

-- ---- files and maps

rolled_then : (width : ℕ) (rs : List Rollup) (ms : List (FinMap key_cmp Sums)) (r : Rollup)
    (m : FinMap key_cmp Sums) → AreRolled width rs ms → IsRollup width r.octets (record { width = width; sums = m })
    → AreRolled width (rs ++ r ∷ []) (ms ++ m ∷ [])
rolled_then width [] [] r m h is = (is, tt)
rolled_then width [] (n ∷ ns) r m h is = absurd h
rolled_then width (x ∷ xs) [] r m h is = absurd h
rolled_then width (x ∷ xs) (n ∷ ns) r m h is = (h.0, rolled_then width xs ns r m h.1 is)

rolled_rest : (width k : ℕ) (rs : List Rollup) (ms : List (FinMap key_cmp Sums)) → AreRolled width rs ms
    → AreRolled width (drop k rs) (drop k ms)
rolled_rest width zero rs ms h = h
rolled_rest width (suc k) [] [] h = tt
rolled_rest width (suc k) [] (m ∷ ms) h = absurd h
rolled_rest width (suc k) (r ∷ rs) [] h = absurd h
rolled_rest width (suc k) (r ∷ rs) (m ∷ ms) h = rolled_rest width k rs ms h.1

gathered_then : (maps : List (FinMap key_cmp Sums)) (m : FinMap key_cmp Sums)
    → gathered_all (maps ++ m ∷ []) ≡ gathered (entries (gathered_all maps) ++ entries m)
gathered_then maps m =
    ap gathered (flat_map-append entries maps (m ∷ [])
    ∙ ap (λ (es : List (_ × Sums)). flat_map entries maps ++ es) (append-nil (entries m)))
    ∙ sym (gathered-again (flat_map entries maps) (entries m))

segments_split : (k : ℕ) (gs : List Segment) → messages_in gs ≡ messages_in (take k gs) ++ messages_in (drop k gs)
segments_split k gs =
    ap messages_in (sym (take-append-drop k gs))
    ∙ flat_map-append (λ (g : Segment). g.messages) (take k gs) (drop k gs)

-- ---- a view of a history

module _ (s : Shelf) (h : History) (hist : IsHistory h) (is : IsViewOf s (view_of h (counts_of s))) where
  abbrev rolled_sums : List Accepted → FinMap key_cmp Sums
  rolled_sums part = sums_by h.width (flows_in part)

  second_is : h.second ≡ rollup_message_count s.merged
  second_is = is.second

  cut_is : h.cut ≡ rollup_message_count s.merged + rollup_message_count s.rolled
  cut_is = is.cut

  position_is : length h.all ≡ cut_of s + length (kept_of s)
  position_is = is.position

  counted : sum (counts_of s) ≡ rollup_message_count s.rolled
  counted = sum-map (λ (r : Rollup). r.messages) s.rolled

  pub all_counted : sum (counts_of s) ≡ h.cut - h.second
  all_counted = omega (arith, counted, second_is, cut_is)

  behind_all : templates_from (templates_of (take h.cut h.all)) (drop h.cut h.all) ≡ templates_of h.all
  behind_all = sym (templates_then [] (take h.cut h.all) (drop h.cut h.all))
      ∙ ap templates_of (take-append-drop h.cut h.all)

  -- ---- messages are added

  module _ (messages : List (List ℕ)) (more : List Accepted) (octets : octets_of more ≡ messages)
      (behind : AreAcceptedFrom (templates_from (templates_of (take h.cut h.all)) (drop h.cut h.all)) more) where
    accepted_more : AreAcceptedFrom (templates_of h.all) more
    accepted_more = subst (λ (t : AllTemplates). AreAcceptedFrom t more) behind_all behind

    abbrev grown : List Accepted → History
    grown xs = record h { all = h.all ++ xs }

    read_more : more ≡ read_from (templates_of h.all) messages
    read_more = sym (read_as (templates_of h.all) more messages accepted_more octets)

    grown_is : IsHistory (grown more)
    grown_is = record {
      accepted = accepted_then [] h.all more hist.accepted accepted_more;
      second = hist.second;
      cut = omega (arith, hist.cut, length-append h.all more);
      width = hist.width;
      wide = hist.wide;
      multiple = hist.multiple;
    }

    same_first : (n : ℕ) → n ≤ h.cut → take n (h.all ++ more) ≡ take n h.all
    same_first n le = take-append-le n h.all more (omega (arith, le, hist.cut))

    same_rolled : messages_between_cuts (grown more) ≡ messages_between_cuts h
    same_rolled =
        ap (take (h.cut - h.second)) (drop-append-le h.second h.all more (omega (arith, hist.second, hist.cut)))
        ∙ take-append-le (h.cut - h.second) (drop h.second h.all) more
        (omega (arith, hist.second, hist.cut, length-drop h.second h.all))

    kept_more : octets_of (drop h.cut (h.all ++ more)) ≡ messages_in s.sealed ++ (s.active ++ messages)
    kept_more =
        ap octets_of (drop-append-le h.cut h.all more hist.cut)
        ∙ map-append (λ (a : Accepted). a.octets) (drop h.cut h.all) more
        ∙ ap (λ (os : List (List ℕ)). os ++ octets_of more) is.kept
        ∙ ap (λ (os : List (List ℕ)). kept_of s ++ os) octets ∙ append_assoc (messages_in s.sealed) s.active messages

    long : length (h.all ++ more) ≡ cut_of s + length (messages_in s.sealed ++ (s.active ++ messages))
    long = omega (
      arith,
      position_is,
      length-append h.all more,
      length-append (messages_in s.sealed) s.active,
      length-append (messages_in s.sealed) (s.active ++ messages),
      length-append s.active messages,
      length-map more (λ (a : Accepted). a.octets),
      ap length octets,
    )

    added_view : IsViewOf (applied s (added messages)) (view_of (grown more) (counts_of s))
    added_view = record {
      merged = subst (λ (ms : List Accepted). AreRolledInto s.wide s.merged (sums_by h.wide (flows_in ms)))
          (sym (same_first h.second hist.second)) is.merged;
      rolled = subst (λ (ms : List Accepted). AreRolled s.width s.rolled (map rolled_sums (parted (counts_of s) ms)))
          (sym same_rolled) is.rolled;
      prefixes = subst (λ (ms : List Accepted). AreRestated (templates_of ms) s.sealed s.prefix)
          (sym (same_first h.cut (omega arith))) is.prefixes;
      accepted = accepted_rest [] h.cut (h.all ++ more) grown_is.accepted;
      kept = kept_more;
      second = is.second;
      cut = is.cut;
      position = long;
      width = is.width;
      wide = is.wide;
    }

    pub added_history : IsHistory (history_after h (added messages))
    added_history = subst (λ (xs : List Accepted). IsHistory (grown xs)) read_more grown_is

    pub added_follows : IsViewOf (applied s (added messages))
        (view_of (history_after h (added messages)) (counts_of s))
    added_follows =
        subst (λ (xs : List Accepted). IsViewOf (applied s (added messages)) (view_of (grown xs) (counts_of s)))
        read_more added_view

  -- ---- a segment is sealed

  module _ (g : Segment) (next : List ℕ) (prefix : g.prefix ≡ s.prefix) (messages : g.messages ≡ s.active)
      (calls : CallsFor g next) where
    same_kept : messages_in (s.sealed ++ g ∷ []) ++ [] ≡ kept_of s
    same_kept =
        append-nil (messages_in (s.sealed ++ g ∷ []))
        ∙ flat_map-append (λ (x : Segment). x.messages) s.sealed (g ∷ [])
        ∙ ap (λ (os : List (List ℕ)). messages_in s.sealed ++ os) (append-nil g.messages ∙ messages)

    pub sealed_follows : IsViewOf (applied s (sealed g next)) (view_of h (counts_of s))
    sealed_follows = record {
      merged = is.merged;
      rolled = is.rolled;
      prefixes =
          restated_then (templates_of (take h.cut h.all)) s.sealed s.prefix g next prefix calls is.prefixes;
      accepted = is.accepted;
      kept = is.kept ∙ sym same_kept;
      second = is.second;
      cut = is.cut;
      position = is.position ∙ ap (λ (os : List (List ℕ)). cut_of s + length os) (sym same_kept);
      width = is.width;
      wide = is.wide;
    }

  -- ---- sealed segments are rolled

  module _ (file : Rollup) (k : ℕ) (count : file.messages ≡ length (messages_in (take k s.sealed)))
      (rolled : IsRollup s.width file.octets (table_of s.width
      (flows_in (take file.messages (drop h.cut h.all))))) where
    left : kept_of s ≡ messages_in (take k s.sealed) ++ (messages_in (drop k s.sealed) ++ s.active)
    left = ap (λ (os : List (List ℕ)). os ++ s.active) (segments_split k s.sealed)
        ∙ append_assoc (messages_in (take k s.sealed)) (messages_in (drop k s.sealed)) s.active

    enough : length (kept_of s) ≡ file.messages + length (messages_in (drop k s.sealed) ++ s.active)
    enough = omega (
      arith,
      ap length left,
      count,
      length-append (messages_in (take k s.sealed)) (messages_in (drop k s.sealed) ++ s.active),
    )

    pub installed_history : IsHistory (history_after h (installed file k))
    installed_history = record {
      accepted = hist.accepted;
      second = omega (arith, hist.second);
      cut = omega (arith, position_is, cut_is, enough);
      width = hist.width;
      wide = hist.wide;
      multiple = hist.multiple;
    }

    abbrev own : List Accepted
    own = take file.messages (drop h.cut h.all)

    own_count : length own ≡ file.messages
    own_count = length-take-le file.messages (drop h.cut h.all)
        (omega (arith, length-drop h.cut h.all, position_is, cut_is, enough))

    all_rolled : messages_between_cuts (history_after h (installed file k)) ≡ messages_between_cuts h ++ own
    all_rolled =
        ap (λ (n : ℕ). take n (drop h.second h.all)) (omega (arith, hist.second))
        ∙ take-add (h.cut - h.second) file.messages (drop h.second h.all)
        ∙ ap (λ (ms : List Accepted). messages_between_cuts h ++ take file.messages ms)
        (drop-drop (h.cut - h.second) h.second h.all
        ∙ ap (λ (n : ℕ). drop n h.all) (omega (arith, hist.second)))

    rolled_count : length (messages_between_cuts h) ≡ sum (counts_of s)
    rolled_count = length-take-le (h.cut - h.second) (drop h.second h.all)
        (omega (arith, length-drop h.second h.all, hist.cut, hist.second)) ∙ sym all_counted

    parts : map rolled_sums (parted (counts_of (applied s (installed file k))) (messages_between_cuts h ++ own))
        ≡ map rolled_sums (parted (counts_of s) (messages_between_cuts h)) ++ rolled_sums own ∷ []
    parts =
        ap (λ (cs : List ℕ). map rolled_sums (parted cs (messages_between_cuts h ++ own)))
        (map-append (λ (r : Rollup). r.messages) s.rolled (file ∷ [])
        ∙ ap (λ (n : ℕ). counts_of s ++ n ∷ []) (sym own_count))
        ∙ ap (map rolled_sums) (parted_then (counts_of s) (messages_between_cuts h) own rolled_count)
        ∙ map-append rolled_sums (parted (counts_of s) (messages_between_cuts h)) (own ∷ [])

    entry : IsRollup s.width file.octets (record { width = s.width; sums = rolled_sums own })
    entry = subst (λ (w : ℕ). IsRollup s.width file.octets
        (record { width = s.width; sums = sums_by w (flows_in own) })) (sym is.width) rolled

    moved : templates_from (templates_of (take h.cut h.all)) (take (length (messages_in (take k s.sealed)))
        (drop h.cut h.all)) ≡ templates_of (take (h.cut + file.messages) h.all)
    moved =
        ap (λ (n : ℕ). templates_from (templates_of (take h.cut h.all)) (take n (drop h.cut h.all))) (sym count)
        ∙ sym (templates_then [] (take h.cut h.all) own) ∙ ap templates_of (sym (take-add h.cut file.messages h.all))

    kept_behind : octets_of (drop (h.cut + file.messages) h.all) ≡ messages_in (drop k s.sealed) ++ s.active
    kept_behind =
        ap octets_of (sym (drop-drop file.messages h.cut h.all))
        ∙ sym (drop-map (λ (a : Accepted). a.octets) file.messages (drop h.cut h.all))
        ∙ ap (drop file.messages) (is.kept ∙ left)
        ∙ ap (λ (n : ℕ). drop n (messages_in (take k s.sealed) ++ (messages_in (drop k s.sealed) ++ s.active))) count
        ∙ drop-append_seam (messages_in (take k s.sealed)) (messages_in (drop k s.sealed) ++ s.active)

    more_rolled : rollup_message_count (s.rolled ++ file ∷ []) ≡ rollup_message_count s.rolled + file.messages
    more_rolled = omega (arith, sum_by-append (λ (r : Rollup). r.messages) s.rolled (file ∷ []))

    pub installed_follows : IsViewOf (applied s (installed file k))
        (view_of (history_after h (installed file k)) (counts_of (applied s (installed file k))))
    installed_follows = record {
      merged = is.merged;
      rolled = subst (AreRolled s.width (s.rolled ++ file ∷ []))
          (sym (ap (λ (ms : List Accepted). map rolled_sums (parted (counts_of (applied s (installed file k))) ms))
          all_rolled ∙ parts))
          (rolled_then s.width s.rolled (map rolled_sums (parted (counts_of s) (messages_between_cuts h))) file
          (rolled_sums own) is.rolled entry);
      prefixes = subst (λ (t : AllTemplates). AreRestated t (drop k s.sealed) s.prefix) moved
          (restated_behind k (templates_of (take h.cut h.all)) s.sealed s.prefix s.active (drop h.cut h.all)
          is.accepted is.kept is.prefixes);
      accepted = accepted_rest [] (h.cut + file.messages) h.all hist.accepted;
      kept = kept_behind;
      second = is.second;
      cut = omega (arith, cut_is, more_rolled);
      position = omega (arith, position_is, cut_is, enough, more_rolled);
      width = is.width;
      wide = is.wide;
    }

  -- ---- rolled files are merged

  module _ (file : Rollup) (k : ℕ) (count : file.messages ≡ rollup_message_count (take k s.rolled)) where
    few : file.messages + rollup_message_count (drop k s.rolled) ≡ rollup_message_count s.rolled
    few = omega (arith, count, sum_by-take-drop (λ (r : Rollup). r.messages) s.rolled k)

    pub merged_history : IsHistory (history_after h (merged file k))
    merged_history = record {
      accepted = hist.accepted;
      second = omega (arith, few, second_is, cut_is);
      cut = hist.cut;
      width = hist.width;
      wide = hist.wide;
      multiple = hist.multiple;
    }

    front_count : sum (take k (counts_of s)) ≡ file.messages
    front_count = ap sum (take-map (λ (r : Rollup). r.messages) k s.rolled)
        ∙ sum-map (λ (r : Rollup). r.messages) (take k s.rolled) ∙ sym count

    abbrev sources : List Accepted
    sources = take file.messages (drop h.second h.all)

    source_front : take (sum (take k (counts_of s))) (messages_between_cuts h) ≡ sources
    source_front = ap (λ (n : ℕ). take n (messages_between_cuts h)) front_count
        ∙ take-take file.messages (h.cut - h.second) (drop h.second h.all)
        (omega (arith, few, second_is, cut_is))

    narrow_sums : gathered_all (take k (map rolled_sums (parted (counts_of s) (messages_between_cuts h))))
        ≡ rolled_sums sources
    narrow_sums =
        ap gathered_all (take-map rolled_sums k (parted (counts_of s) (messages_between_cuts h))
        ∙ ap (map rolled_sums) (parted_front k (counts_of s) (messages_between_cuts h)))
        ∙ parts_sum h.width (take k (counts_of s)) (take (sum (take k (counts_of s))) (messages_between_cuts h))
        (omega (arith, length-take (sum (take k (counts_of s))) (messages_between_cuts h)))
        ∙ ap rolled_sums source_front

    -- the k oldest rolled files' sums, widened
    abbrev wide_table : Table
    wide_table = widened s.wide (record {
      width = s.width;
      sums = gathered_all (take k (map rolled_sums (parted (counts_of s) (messages_between_cuts h))));
    })

    pub wide_sums : wide_table ≡ table_of s.wide (flows_in sources)
    wide_sums =
        ap (λ (m : FinMap key_cmp Sums). widened s.wide (record { width = s.width; sums = m })) narrow_sums
        ∙ ap (λ (w : ℕ). widened w (record { width = s.width; sums = rolled_sums sources })) (sym is.wide)
        ∙ ap (λ (w : ℕ). widened h.wide (record { width = w; sums = rolled_sums sources })) (sym is.width)
        ∙ widened-table_of h.width h.wide hist.width hist.multiple (flows_in sources)
        ∙ ap (λ (w : ℕ). table_of w (flows_in sources)) is.wide

    module _ (rolled : IsRollup s.wide file.octets wide_table) where
      merged_more : AreRolledInto s.wide (s.merged ++ file ∷ [])
          (sums_by h.wide (flows_in (take (h.second + file.messages) h.all)))
      merged_more = by is.merged
        where
          by : AreRolledInto s.wide s.merged (sums_by h.wide (flows_in (take h.second h.all)))
              → AreRolledInto s.wide (s.merged ++ file ∷ [])
              (sums_by h.wide (flows_in (take (h.second + file.messages) h.all)))
          by (maps, are, sums) = (
            maps ++ wide_table.sums ∷ [],
            rolled_then s.wide s.merged maps file wide_table.sums are rolled,
            sym (gathered_then maps wide_table.sums
                ∙ ap (λ (m : FinMap key_cmp Sums). gathered (entries m ++ entries wide_table.sums)) (sym sums)
                ∙ ap (λ (m : FinMap key_cmp Sums). gathered (entries (sums_by h.wide
                (flows_in (take h.second h.all))) ++ entries m)) (ap (λ (t : Table). t.sums) wide_sums
                ∙ ap (λ (w : ℕ). sums_by w (flows_in sources)) (sym is.wide))
                ∙ both_sums h.wide (flows_in (take h.second h.all)) (flows_in sources)
                ∙ ap (sums_by h.wide) (sym (flows-append (take h.second h.all) sources)
                ∙ ap flows_in (sym (take-add h.second file.messages h.all)))),
          )

      rest_rolled : messages_between_cuts (history_after h (merged file k))
          ≡ drop file.messages (messages_between_cuts h)
      rest_rolled =
          let m = h.cut - (h.second + file.messages) in
          let all : file.messages + m ≡ h.cut - h.second = omega (arith, few, second_is, cut_is) in
          ap (take m) (sym (drop-drop file.messages h.second h.all))
          ∙ sym (drop-take file.messages m (drop h.second h.all))
          ∙ ap (λ (n : ℕ). drop file.messages (take n (drop h.second h.all))) all

      rest_parts : drop k (map rolled_sums (parted (counts_of s) (messages_between_cuts h)))
          ≡ map rolled_sums (parted (counts_of (applied s (merged file k)))
          (messages_between_cuts (history_after h (merged file k))))
      rest_parts =
          drop-map rolled_sums k (parted (counts_of s) (messages_between_cuts h))
          ∙ ap (map rolled_sums) (parted_rest k (counts_of s) (messages_between_cuts h)
          ∙ ap (λ (n : ℕ). parted (drop k (counts_of s)) (drop n (messages_between_cuts h))) front_count
          ∙ ap (λ (cs : List ℕ). parted cs (drop file.messages (messages_between_cuts h)))
          (drop-map (λ (r : Rollup). r.messages) k s.rolled)
          ∙ ap (parted (counts_of (applied s (merged file k)))) (sym rest_rolled))

      more_merged : rollup_message_count (s.merged ++ file ∷ []) ≡ rollup_message_count s.merged + file.messages
      more_merged = omega (arith, sum_by-append (λ (r : Rollup). r.messages) s.merged (file ∷ []))

      pub merged_follows : IsViewOf (applied s (merged file k))
          (view_of (history_after h (merged file k)) (counts_of (applied s (merged file k))))
      merged_follows = record {
        merged = merged_more;
        rolled = subst (AreRolled s.width (drop k s.rolled)) rest_parts
            (rolled_rest s.width k s.rolled (map rolled_sums (parted (counts_of s) (messages_between_cuts h)))
            is.rolled);
        prefixes = is.prefixes;
        accepted = is.accepted;
        kept = is.kept;
        second = omega (arith, second_is, more_merged);
        cut = omega (arith, cut_is, more_merged, few);
        position = omega (arith, position_is, more_merged, few);
        width = is.width;
        wide = is.wide;
      }

pub history_follows : (s : Shelf) (h : History) (c : Change) (hist : IsHistory h)
    (is : IsViewOf s (view_of h (counts_of s))) → Allows s (view_of h (counts_of s)) c → IsHistory (history_after h c)
history_follows s h (added messages) hist is (more, octets, behind) =
    added_history s h hist is messages more octets behind
history_follows s h (sealed g next) hist is allowed = hist
history_follows s h (installed file k) hist is (within, count, rolled) =
    installed_history s h hist is file k count rolled
history_follows s h (merged file k) hist is (within, count, rolled) = merged_history s h hist is file k count

pub view_follows : (s : Shelf) (h : History) (c : Change) (hist : IsHistory h)
    (is : IsViewOf s (view_of h (counts_of s))) → Allows s (view_of h (counts_of s)) c
    → IsViewOf (applied s c) (view_of (history_after h c) (counts_of (applied s c)))
view_follows s h (added messages) hist is (more, octets, behind) =
    added_follows s h hist is messages more octets behind
view_follows s h (sealed g next) hist is (prefix, messages, some, calls) =
    sealed_follows s h hist is g next prefix messages calls
view_follows s h (installed file k) hist is (within, count, rolled) = installed_follows s h hist is file k count rolled
view_follows s h (merged file k) hist is (within, count, rolled) = merged_follows s h hist is file k count rolled

pub starts : (width wide : ℕ) → 0 < width → 0 < wide → wide % width ≡ 0 → IsHistory (new_history width wide)
    × IsViewOf (new_shelf width wide) (view_of (new_history width wide) (counts_of (new_shelf width wide)))
starts width wide positive also multiple = (
  record {
    accepted = tt;
    second = omega arith;
    cut = omega arith;
    width = positive;
    wide = also;
    multiple = multiple;
  },
  record {
    merged = ([], tt, sym (no_sums wide));
    rolled = tt;
    prefixes = ([], record { divided = record { whole = refl; each = tt }; accepted = tt }, tt, refl);
    accepted = tt;
    kept = refl;
    second = refl;
    cut = refl;
    position = refl;
    width = refl;
    wide = refl;
  },
)

pub merge_by_messages : (s : Shelf) (h : History) (k : ℕ) → IsHistory h → IsViewOf s (view_of h (counts_of s))
    → merged_table s (view_of h (counts_of s)) k
    ≡ table_of s.wide (flows_in (take (rollup_message_count (take k s.rolled)) (drop h.second h.all)))
merge_by_messages s h k hist is =
    wide_sums s h hist is (record { file = 0; messages = rollup_message_count (take k s.rolled); octets = [] }) k refl
