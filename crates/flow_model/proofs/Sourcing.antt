-- What a job's sources hold is what the history has there.
use Rattle.std.proofs.Common.{◌≡◌, ℕ, ◌<◌, ◌^◌, List, [], ◌∷◌, ◌++◌, length, take, refl, sym}
use Rattle.std.proofs.Common.{ap, subst, ◌∙◌, append-nil, append_assoc, arith}
use Rattle.std.specs.FinMap.{FinMap, entries}
use Rattle.std.specs.List.{flat_map}
use Rattle.std.proofs.Math.Seq.{take-append_seam}
use Rattle.std.proofs.lemmas.Grind.{flat_map-append}
use Rattle.std.proofs.lemmas.List.{map-append, take-map}
use Rattle.flow_codec.specs.Templates.{AllTemplates}
use Rattle.flow_manifest.specs.declared.following.JobKind.{JobKind}
use Rattle.flow_manifest.specs.declared.following.JobKind.TheVariants.{Roll, Merge}
use Rattle.flow_manifest.specs.declared.manifest.Entry.{Entry}
use Rattle.flow_manifest.specs.declared.manifest.Manifest.{Manifest}
use Rattle.flow_measure.specs.declared.rows.Sums.{Sums}
use Rattle.flow_measure.specs.Sums.{Table, empty_table, gathered, key_cmp, merged, table_of, widened, widened_entries}
use Rattle.flow_measure.specs.Sums.{widened_key}
use Rattle.flow_measure.specs.View.{gathered_all}
use Rattle.flow_measure.proofs.Gathering.{gathered-both, gathered-same}
use Rattle.flow_measure.proofs.SinkSteps.{none_summed}
use Rattle.flow_measure.proofs.SumLaws.{merged-table_of}
use Rattle.flow_measure.proofs.ViewLaws.{flows-append, no_sums}
use Rattle.flow_measure.proofs.Widening.{rekeyed-gathered}
use Rattle.flow_rolled.specs.Rollup.{IsRollup}
use Rattle.flow_measure.specs.History.{Accepted, AreAcceptedFrom, flows_in, read_from, templates_from}
use Rattle.flow_segment.specs.Carry.{Carry, octets_of}
use Rattle.flow_segment.specs.Prefix.{IsRestated}
use Rattle.flow_model.specs.Shelf.{Rollup, Segment, messages_in}
use Rattle.flow_model.specs.Views.{AreRestated, AreRolled}
use Rattle.flow_model.proofs.Accepting.{accepted_first, accepted_then, one_restated, read_as}
use Rattle.flow_model.proofs.Meaning.{one_rolled}
use Rattle.flow_model.specs.State.{Part}
use Rattle.flow_model.specs.Chain.{IsSegment}
use Rattle.flow_model.specs.Jobs.{AreRolledMessages, AreRolledSums, IsJobSum, IsSourceSum, width_made}
use Rattle.flow_model.proofs.Installing.{rollups_of, segments_of}

-- ---- segments

-- the messages of segments after these templates, with others after them
segments_accepted : (es : List Entry) (ps : List Part) (more : List Segment) (active : List ℕ) (before : AllTemplates)
    (messages : List Accepted) → length es ≡ length ps → AreRolledMessages ps messages
    → AreRestated before (segments_of es ps ++ more) active
    → (octets_of messages ≡ messages_in (segments_of es ps)) × AreAcceptedFrom before messages
segments_accepted [] [] more active before messages same is restated =
    (ap octets_of is, subst (AreAcceptedFrom before) (sym is) tt)
segments_accepted [] (p ∷ ps) more active before messages same is restated = absurd (omega (arith, same))
segments_accepted (e ∷ es) [] more active before messages same is restated = absurd (omega (arith, same))
segments_accepted (e ∷ es) (p ∷ ps) more active before messages same (carry, segment, others, rest, is)
    (first, next) =
    let t = templates_from [] segment.prefix in
    let own : IsRestated p.front t = (segment.prefix, segment.front, segment.restated, refl) in
    let accepted : AreAcceptedFrom before segment.messages =
    subst (λ (x : AllTemplates). AreAcceptedFrom x segment.messages) (sym (one_restated p.front before t first own))
    segment.accepted in
    let read : read_from before p.messages ≡ segment.messages =
    read_as before segment.messages p.messages accepted segment.octets in
    let ih = segments_accepted es ps more active (templates_from before segment.messages) others (omega (arith, same))
    rest (subst (λ (xs : List Accepted). AreRestated (templates_from before xs) (segments_of es ps ++ more) active) read
    next) in (
      ap octets_of is ∙ map-append (λ (a : Accepted). a.octets) segment.messages others
          ∙ ap (λ (l : List (List ℕ)). l ++ octets_of others) segment.octets
          ∙ ap (λ (l : List (List ℕ)). p.messages ++ l) ih.0,
      subst (AreAcceptedFrom before) (sym is) (accepted_then before segment.messages others accepted ih.1),
    )

-- are the first of all messages that are kept
pub rolled_first : (es : List Entry) (ps : List Part) (more : List Segment) (active : List ℕ) (last : List (List ℕ))
    (before : AllTemplates) (messages kept : List Accepted) (count : ℕ) → length es ≡ length ps
    → AreRolledMessages ps messages → AreRestated before (segments_of es ps ++ more) active
    → AreAcceptedFrom before kept → octets_of kept ≡ messages_in (segments_of es ps ++ more) ++ last
    → count ≡ length (messages_in (segments_of es ps)) → messages ≡ take count kept
rolled_first es ps more active last before messages kept count same are restated accepted is counts =
    let own = segments_accepted es ps more active before messages same are restated in
    let all : octets_of kept ≡ messages_in (segments_of es ps) ++ (messages_in more ++ last) =
    is ∙ ap (λ (l : List (List ℕ)). l ++ last)
    (flat_map-append (λ (g : Segment). g.messages) (segments_of es ps) more)
    ∙ append_assoc (messages_in (segments_of es ps)) (messages_in more) last in
    let front : octets_of (take count kept) ≡ messages_in (segments_of es ps) =
    sym (take-map (λ (a : Accepted). a.octets) count kept) ∙ ap (take count) all
    ∙ ap (λ (n : ℕ). take n (messages_in (segments_of es ps) ++ (messages_in more ++ last))) counts
    ∙ take-append_seam (messages_in (segments_of es ps)) (messages_in more ++ last) in
    sym (read_as before messages (messages_in (segments_of es ps)) own.1 own.0)
    ∙ read_as before (take count kept) (messages_in (segments_of es ps)) (accepted_first before count kept accepted)
    front

-- ---- rolled files

rolled_front : (width : ℕ) (rs ss : List Rollup) (ms : List (FinMap key_cmp Sums)) → AreRolled width (rs ++ ss) ms
    → AreRolled width rs (take (length rs) ms)
rolled_front width [] ss ms are = tt
rolled_front width (r ∷ rs) ss [] are = absurd are
rolled_front width (r ∷ rs) ss (m ∷ ms) are = (are.0, rolled_front width rs ss ms are.1)

rolled_sums : (width : ℕ) (es : List Entry) (ps : List Part) (maps : List (FinMap key_cmp Sums))
    → length es ≡ length ps → AreRolledSums width ps maps → AreRolled width (rollups_of es ps) maps
rolled_sums width [] [] maps same is = subst (AreRolled width []) (sym is) tt
rolled_sums width [] (p ∷ ps) maps same is = absurd (omega (arith, same))
rolled_sums width (e ∷ es) [] maps same is = absurd (omega (arith, same))
rolled_sums width (e ∷ es) (p ∷ ps) maps same (sums, others, one, rest, is) =
    subst (AreRolled width (rollups_of (e ∷ es) (p ∷ ps))) (sym is)
    (one, rolled_sums width es ps others (omega (arith, same)) rest)

-- are the first of all
pub merged_first : (width : ℕ) (es : List Entry) (ps : List Part) (more : List Rollup)
    (maps all : List (FinMap key_cmp Sums)) (count : ℕ) → width < 2 ^ 32 → length es ≡ length ps
    → AreRolledSums width ps maps → AreRolled width (rollups_of es ps ++ more) all
    → count ≡ length (rollups_of es ps) → maps ≡ take count all
merged_first width es ps more maps all count small same sums are counts =
    one_rolled width (rollups_of es ps) maps (take (length (rollups_of es ps)) all) small
    (rolled_sums width es ps maps same sums) (rolled_front width (rollups_of es ps) more all are)
    ∙ ap (λ (n : ℕ). take n all) (sym counts)

-- ---- one source more

messages_more : (ps : List Part) (p : Part) (messages own : List Accepted) (carry : Carry)
    → (segment : IsSegment p carry) → own ≡ segment.messages → AreRolledMessages ps messages
    → AreRolledMessages (ps ++ p ∷ []) (messages ++ own)
messages_more [] p messages own carry segment same is = (
  carry,
  segment,
  [],
  refl,
  ap (λ (l : List Accepted). l ++ own) is ∙ same ∙ sym (append-nil segment.messages),
)
messages_more (q ∷ ps) p messages own carry segment same (c, g, others, rest, is) = (
  c,
  g,
  others ++ own,
  messages_more ps p others own carry segment same rest,
  ap (λ (l : List Accepted). l ++ own) is ∙ append_assoc g.messages others own,
)

sums_more : (width : ℕ) (ps : List Part) (p : Part) (maps : List (FinMap key_cmp Sums)) (own : FinMap key_cmp Sums)
    → IsRollup width p.front (record { width = width; sums = own }) → AreRolledSums width ps maps
    → AreRolledSums width (ps ++ p ∷ []) (maps ++ own ∷ [])
sums_more width [] p maps own one is =
    (own, [], one, refl, ap (λ (l : List (FinMap key_cmp Sums)). l ++ own ∷ []) is)
sums_more width (q ∷ ps) p maps own one (sums, others, first, rest, is) = (
  sums,
  others ++ own ∷ [],
  first,
  sums_more width ps p others own one rest,
  ap (λ (l : List (FinMap key_cmp Sums)). l ++ own ∷ []) is,
)

-- sums over wide intervals, of one map more
widened_more : (width wide : ℕ) (maps : List (FinMap key_cmp Sums)) (own : FinMap key_cmp Sums)
    → merged (widened wide (record { width = width; sums = gathered_all maps }))
    (widened wide (record { width = width; sums = own }))
    ≡ widened wide (record { width = width; sums = gathered_all (maps ++ own ∷ []) })
widened_more width wide maps own =
    let front = flat_map entries maps in
    let behind = widened_entries wide (entries own) in
    let all : flat_map entries (maps ++ own ∷ []) ≡ front ++ entries own =
    flat_map-append entries maps (own ∷ []) ∙ ap (λ es. front ++ es) (append-nil (entries own)) in
    let again : gathered (widened_entries wide (entries (gathered front))) ≡ gathered (widened_entries wide front) =
    gathered-same (widened_entries wide (entries (gathered front))) (widened_entries wide front)
    (λ q. rekeyed-gathered (widened_key wide) q front) in
    let both : gathered (widened_entries wide (entries (gathered (front ++ entries own))))
    ≡ gathered (widened_entries wide (front ++ entries own)) =
    gathered-same (widened_entries wide (entries (gathered (front ++ entries own))))
    (widened_entries wide (front ++ entries own)) (λ q. rekeyed-gathered (widened_key wide) q (front ++ entries own))
    in
    ap (λ (m : FinMap key_cmp Sums). record { width = wide; sums = m })
    (ap (λ (m : FinMap key_cmp Sums). gathered (entries m ++ entries (gathered behind))) again
    ∙ gathered-both (widened_entries wide front) behind
    ∙ ap gathered (sym (map-append (λ e. (widened_key wide e.0, e.1)) front (entries own)))
    ∙ sym both ∙ ap (λ es. gathered (widened_entries wide (entries (gathered es)))) (sym all))

pub job_more : (kind : JobKind) (m : Manifest) (ps : List Part) (p : Part) (sums one : Table) → IsJobSum kind m ps sums
    → IsSourceSum kind m p one → IsJobSum kind m (ps ++ p ∷ []) (merged sums one)
job_more Roll m ps p sums one (messages, hold, is) (carry, segment, same) = (
  messages ++ segment.messages,
  messages_more ps p messages segment.messages carry segment refl hold,
  ap (λ (t : Table). merged t one) is ∙ ap (merged (table_of m.width (flows_in messages))) same
      ∙ merged-table_of m.width (flows_in messages) (flows_in segment.messages)
      ∙ ap (table_of m.width) (sym (flows-append messages segment.messages)),
)
job_more Merge m ps p sums one (maps, hold, is) (narrow, rolled, same) =
    let own : narrow ≡ record { width = m.width; sums = narrow.sums } =
    λ i. record { width = rolled.width_is i; sums = narrow.sums } in (
      maps ++ narrow.sums ∷ [],
      sums_more m.width ps p maps narrow.sums (subst (IsRollup m.width p.front) own rolled) hold,
      ap (λ (t : Table). merged t one) is
          ∙ ap (merged (widened m.wide (record { width = m.width; sums = gathered_all maps })))
          (same ∙ ap (widened m.wide) own)
          ∙ widened_more m.width m.wide maps narrow.sums,
    )

-- none so far
no_wide : (width wide : ℕ)
    → widened wide (record { width = width; sums = gathered_all [] }) ≡ empty_table wide
no_wide width wide =
    ap (λ (m : FinMap key_cmp Sums). record { width = wide; sums = m })
    (gathered-same (widened_entries wide (entries (gathered []))) [] (λ q. rekeyed-gathered (widened_key wide) q [])
    ∙ no_sums wide ∙ ap (λ (t : Table). t.sums) (none_summed wide))

pub job_none : (kind : JobKind) (m : Manifest) → IsJobSum kind m [] (empty_table (width_made kind m))
job_none Roll m = ([], refl, sym (none_summed m.width))
job_none Merge m = ([], refl, sym (no_wide m.width m.wide))
