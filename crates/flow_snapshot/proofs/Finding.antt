-- What has been read, part by part, and message by message.
use Rattle.std.proofs.Common.{◌≡◌, ℕ, Bool, false, ◌+◌, ◌<◌, List, [], ◌∷◌, ◌++◌, length, map, take, drop}
use Rattle.std.proofs.Common.{refl, sym, ap, subst, ◌∙◌, append-nil, get_or}
use Rattle.std.specs.Prelude.{IsTrue, true}
use Rattle.std.specs.List.{list_all}
use Rattle.std.specs.FinMap.{FinMap}
use Rattle.std.specs.Arc.{arc_value}
use Rattle.std.specs.declared.sync.Arc.{Arc}
use Rattle.std.proofs.lemmas.List.{drop-map, length-map, map-append, take-append-drop, take_more}
use Rattle.std.proofs.lemmas.List.Concat.{flat_map-append}
use Rattle.flow_codec.specs.Cutting.{IsCutOff}
use Rattle.flow_codec.specs.declared.message.Header.{Header}
use Rattle.flow_codec.specs.Message.{IsAccepted}
use Rattle.flow_codec.specs.Raw.{under, RawRecord}
use Rattle.flow_codec.specs.Templates.{AllTemplates}
use Rattle.flow_disk.specs.declared.sealed.SealedFile.{Ghosts}
use Rattle.flow_measure.specs.declared.rows.Sums.{Sums}
use Rattle.flow_measure.specs.History.{Accepted, AreAcceptedFrom, templates_from}
use Rattle.flow_measure.specs.Sums.{key_cmp, merged, Table}
use Rattle.flow_rolled.specs.Rollup.{IsRollup}
use Rattle.flow_rolled.specs.Stored as stored
use Rattle.flow_segment.specs.declared.sealed.SealedPart.{SealedPart}
use Rattle.flow_segment.specs.Carry.{octets_of}
use Rattle.flow_segment.specs.PartFlows.{ArePartMessages, HasMessages}
use Rattle.flow_segment.specs.Prefix.{AreSeen, HaveNoRecords, IsRestated}
use Rattle.flow_segment.specs.Segment.{part_octets}
use Rattle.flow_segment.proofs.Restating.{none_more, one_more, some_seen, Behind}
use Rattle.flow_snapshot.specs.Files.{cut_into, is_honest, is_honest_sum, rollup_of, segment_of, shared}
use Rattle.flow_snapshot.specs.Found.{AreAccepted}
use Rattle.flow_model.specs.Shelf.{messages_in, Rollup}
use Rattle.flow_model.specs.Views.{AreRolled}
use Rattle.flow_model.proofs.Accepting.{accepted_then, templates_then}
use Rattle.flow_snapshot.proofs.KeptFlows.{next_item}
use Rattle.flow_snapshot.proofs.PartMessages.{messages_are}
use Rattle.flow_snapshot.proofs.Sharing.{all_rest, first_of_two}

-- ---- parts, one after the other

module _ {P Z : Type 0} (parts : List (Arc P Z)) (i : ℕ) (item : Arc P Z) (part : P) (within : i < length parts)
    (is : item ≡ get_or parts i item) (same : part ≡ arc_value item) where
  pub shared_more : shared (take (i + 1) parts) ≡ shared (take i parts) ++ part ∷ []
  shared_more =
      ap shared (take_more parts i item within ∙ ap (λ (x : Arc P Z). take i parts ++ x ∷ []) (sym is))
      ∙ map-append arc_value (take i parts) (item ∷ []) ∙ ap (λ (p : P). shared (take i parts) ++ p ∷ []) (sym same)

  pub honest_one : (test : P → Bool) → IsTrue (list_all test (shared parts)) → IsTrue (test part)
  honest_one test honest =
      let rest = shared (drop (i + 1) parts) in
      first_of_two (test part) (list_all test rest) (subst (λ (ps : List P). IsTrue (list_all test ps))
      (drop-map arc_value i parts ∙ ap shared (next_item parts i item item within is refl)
      ∙ ap (λ (p : P). p ∷ rest) (sym same)) (all_rest test i (shared parts) honest))

-- ---- messages

-- These octets were read as accepted messages, and these templates are in force after them.
abbrev pub AreBehind : AllTemplates → List (List ℕ) → AllTemplates → Type 0
AreBehind before octets now = (messages : List Accepted) × AreAcceptedFrom before messages
    × (octets_of messages ≡ octets) × (now ≡ templates_from before messages)

pub none_behind : (before : AllTemplates) → AreBehind before [] before
none_behind before = ([], tt, refl, refl)

pub all_accepted : (before now : AllTemplates) (octets : List (List ℕ)) → AreBehind before octets now
    → AreAccepted before octets
all_accepted before now octets (ms, accepted, is, moved) = (ms, accepted, is)

pub more_behind : (before now after : AllTemplates) (front here : List (List ℕ)) → AreBehind before front now
    → (own : List Accepted) → AreAcceptedFrom now own → octets_of own ≡ here → after ≡ templates_from now own
    → AreBehind before (front ++ here) after
more_behind before now after front here (ms, accepted, octets, moved) own also is next = (
  ms ++ own,
  accepted_then before ms own accepted (subst (λ (t : AllTemplates). AreAcceptedFrom t own) moved also),
  map-append (λ (a : Accepted). a.octets) ms own ∙ ap (λ (os : List (List ℕ)). os ++ octets_of own) octets
      ∙ ap (λ (os : List (List ℕ)). front ++ os) is,
  next ∙ ap (λ (t : AllTemplates). templates_from t own) moved ∙ sym (templates_then before ms own),
)

-- a part's messages are those that its octets are cut into
pub own_cut : (octets : List ℕ) (before : AllTemplates) (count : ℕ) (own : List Accepted)
    → ArePartMessages octets before count own → octets_of own ≡ cut_into count octets
own_cut octets before count own are = sym (messages_are octets count (octets_of own) (record {
  divided = are.read.divided;
  all = length-map own (λ (a : Accepted). a.octets) ∙ are.all;
}))

-- one message in memory more
pub message_behind : (before now after : AllTemplates) (list : List (List ℕ)) (i : ℕ) (item here : List ℕ)
    → i < length list → item ≡ get_or list i item → here ≡ item → AreBehind before (take i list) now
    → (a : Accepted) × (a.octets ≡ here) × IsAccepted here now a.message a.after
    → ((a : Accepted) → a.octets ≡ here → IsAccepted here now a.message a.after → after ≡ a.after)
    → AreBehind before (take (i + 1) list) after
message_behind before now after list i item here within is same behind (a, octets, accepted) moved =
    subst (λ (os : List (List ℕ)). AreBehind before os after)
    (sym (take_more list i item within ∙ ap (λ (x : List ℕ). take i list ++ x ∷ []) (sym is ∙ sym same)))
    (more_behind before now after (take i list) (here ∷ []) behind (a ∷ [])
    (subst (λ (o : List ℕ). IsAccepted o now a.message a.after) (sym octets) accepted, tt)
    (ap (λ (o : List ℕ). o ∷ []) octets) (moved a octets accepted))

module _ {F X Z : Type 0} {files : Ghosts F X} (parts : List (Arc (SealedPart F X files) Z)) (i : ℕ)
    (item : Arc (SealedPart F X files) Z) (part : SealedPart F X files) (within : i < length parts)
    (is : item ≡ get_or parts i item) (same : part ≡ arc_value item) where
  abbrev own_octets : List ℕ
  own_octets = part_octets part.prefix part.length (files.octets part.reader)

  pub messages_more : messages_in (map segment_of (shared (take (i + 1) parts)))
      ≡ messages_in (map segment_of (shared (take i parts))) ++ cut_into part.messages own_octets
  messages_more =
      ap (λ (ps : List (SealedPart F X files)). messages_in (map segment_of ps))
      (shared_more parts i item part within is same)
      ∙ ap messages_in (map-append segment_of (shared (take i parts)) (part ∷ []))
      ∙ flat_map-append (λ g. g.messages) (map segment_of (shared (take i parts))) (segment_of part ∷ [])
      ∙ ap (λ (ms : List (List ℕ)). messages_in (map segment_of (shared (take i parts))) ++ ms)
      (append-nil (cut_into part.messages own_octets))

  module _ (before now after : AllTemplates)
      (behind : AreBehind before (messages_in (map segment_of (shared (take i parts)))) now) where
    pub part_behind : IsTrue (list_all is_honest (shared parts))
        → (IsTrue (is_honest part) → HasMessages own_octets now part.messages)
        → (IsTrue (is_honest part) → (own : List Accepted) → ArePartMessages own_octets now part.messages own
        → after ≡ templates_from now own)
        → AreBehind before (messages_in (map segment_of (shared (take (i + 1) parts)))) after
    part_behind all found moved =
        let here = honest_one parts i item part within is same is_honest all in
        let own = found here in
        subst (λ (os : List (List ℕ)). AreBehind before os after) (sym messages_more)
        (more_behind before now after (messages_in (map segment_of (shared (take i parts))))
        (cut_into part.messages own_octets) behind own.0 own.1.read.accepted
        (own_cut own_octets now part.messages own.0 own.1) (moved here own.0 own.1))

    -- a part that is said to have no messages
    pub none_in_part : part.messages ≡ 0 → after ≡ now
        → AreBehind before (messages_in (map segment_of (shared (take (i + 1) parts)))) after
    none_in_part none stays =
        let front = messages_in (map segment_of (shared (take i parts))) in
        subst (λ (os : List (List ℕ)). AreBehind before os after)
        (sym (messages_more ∙ ap (λ (k : ℕ). front ++ cut_into k own_octets) none ∙ append-nil front))
        (subst (AreBehind before front) (sym stays) behind)

-- ---- a prefix in memory

pub not_seen : (header : Header) (records : List RawRecord) (any : Bool) → records ≡ []
    → AreSeen false (under header records) any → any ≡ false
not_seen header records false none h = refl
not_seen header records true none h = absurd (some_seen header records true refl h none)

pub seen_twice : (any : Bool) → any ≡ true → any ≡ false → ⊥
seen_twice false some none = absurd cc
seen_twice true some none = absurd cc

-- what was read of it so far
abbrev pub IsReadSoFar : List ℕ → List ℕ → AllTemplates → Type 0
IsReadSoFar prefix rest now = (place : ℕ) × Behind HaveNoRecords prefix 0 [] now place rest

pub none_read : (prefix : List ℕ) (now : AllTemplates) → now ≡ [] → IsReadSoFar prefix prefix now
none_read prefix now none = (
  0,
  record {
    messages = [];
    read = record { divided = record { whole = refl; each = tt }; accepted = tt };
    kind = tt;
    same = none;
    at = refl;
  },
)

pub one_read : (prefix rest message left : List ℕ) (n : ℕ) (now after : AllTemplates) (any : Bool)
    → IsReadSoFar prefix rest now → IsCutOff (take n rest) → message ≡ take n rest → left ≡ drop n rest → any ≡ false
    → (a : Accepted) × (a.octets ≡ message) × IsAccepted message now a.message a.after × (after ≡ a.after)
    × (any ≡ false → a.message.records ≡ [])
    → IsReadSoFar prefix left after
one_read prefix rest message left n now after any (place, b) cut front back none
    (a, octets, accepted, moved, bare) =
    let one : Accepted = record { octets = message; message = a.message; after = after } in (
      place + length message,
      one_more HaveNoRecords HaveNoRecords prefix 0 [] now after place (place + length message) rest left message
          a.message b (subst IsCutOff (sym front) cut)
          (sym (take-append-drop n rest) ∙ ap (λ (o : List ℕ). o ++ drop n rest) (sym front)
          ∙ ap (λ (o : List ℕ). message ++ o) (sym back))
          refl (subst (IsAccepted message now a.message) (sym moved) accepted)
          (none_more b.messages one b.kind (bare none)),
    )

pub whole_prefix : (prefix rest : List ℕ) (now : AllTemplates) → length rest ≡ 0 → IsReadSoFar prefix rest now
    → IsRestated prefix now
whole_prefix prefix [] now none (place, b) = (b.messages, b.read, b.kind, b.same)
whole_prefix prefix (o ∷ os) now none (place, b) = absurd cc

-- ---- rolled files

rolled_then : (width : ℕ) (rs : List Rollup) (ms : List (FinMap key_cmp Sums)) (r : Rollup) (m : FinMap key_cmp Sums)
    → AreRolled width rs ms → IsRollup width r.octets (record { width = width; sums = m })
    → AreRolled width (rs ++ r ∷ []) (ms ++ m ∷ [])
rolled_then width [] [] r m are is = (is, tt)
rolled_then width [] (x ∷ xs) r m are is = absurd are
rolled_then width (x ∷ xs) [] r m are is = absurd are
rolled_then width (x ∷ xs) (y ∷ ys) r m are is = (are.0, rolled_then width xs ys r m are.1 is)

-- a file's table has the width that it was read by
pub own_sums : (width : ℕ) (octets : List ℕ) (table : Table) → IsRollup width octets table
    → IsRollup width octets (record { width = width; sums = table.sums })
own_sums width octets table is =
    subst (IsRollup width octets) (λ i. record { width = is.width_is i; sums = table.sums }) is

-- These files were read as rolled files, into sums of the same width.
abbrev pub AreSummed : Table → List Rollup → Table → Type 0
AreSummed old files now = (now.width ≡ old.width)
    × ((maps : List (FinMap key_cmp Sums)) × AreRolled old.width files maps)

pub none_summed : (old : Table) → AreSummed old [] old
none_summed old = (refl, ([], tt))

pub file_summed : {Z : Type 0} (old now new : Table) (parts : List (Arc stored.Rollup Z)) (i : ℕ)
    (item : Arc stored.Rollup Z) (part : stored.Rollup) → i < length parts → item ≡ get_or parts i item
    → part ≡ arc_value item → IsTrue (list_all is_honest_sum (shared parts))
    → AreSummed old (map rollup_of (shared (take i parts))) now
    → (IsTrue part.honest → (sums : FinMap key_cmp Sums)
    × IsRollup now.width part.octets (record { width = now.width; sums = sums }))
    → (IsTrue part.honest → (sums : FinMap key_cmp Sums)
    → IsRollup now.width part.octets (record { width = now.width; sums = sums })
    → new ≡ merged now (record { width = now.width; sums = sums }))
    → AreSummed old (map rollup_of (shared (take (i + 1) parts))) new
file_summed old now new parts i item part within is same all (width, (maps, are)) found added =
    let here = honest_one parts i item part within is same is_honest_sum all in
    let own = found here in
    let rollup = subst (λ (w : ℕ). IsRollup w part.octets (record { width = w; sums = own.0 })) width own.1 in (
      ap (λ (t : Table). t.width) (added here own.0 own.1) ∙ width,
      (
        maps ++ own.0 ∷ [],
        subst (λ (rs : List Rollup). AreRolled old.width rs (maps ++ own.0 ∷ []))
            (sym (ap (λ (ps : List stored.Rollup). map rollup_of ps) (shared_more parts i item part within is same)
            ∙ map-append rollup_of (shared (take i parts)) (part ∷ [])))
            (rolled_then old.width (map rollup_of (shared (take i parts))) maps (rollup_of part) own.0 are rollup),
      ),
    )
