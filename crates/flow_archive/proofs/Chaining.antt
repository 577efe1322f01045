-- What segments pass on, as messages are added to them and new ones begin.
use Rattle.std.proofs.Common.{◌≡◌, ℕ, ◌+◌, ◌*◌, ◌<◌, ◌≤◌, ◌^◌, List, [], ◌∷◌, ◌++◌, length}
use Rattle.std.proofs.Common.{refl, sym, ◌∙◌, ap, subst, arith, length-append, append_assoc}
use Rattle.std.specs.Prelude.{Option, Some, None, unwrap_or}
use Rattle.std.specs.List.{AllByRecursion}
use Rattle.std.proofs.lemmas.List.{append-nil, map-append, length-map}
use Rattle.flow_codec.specs.Cutting.{IsCutOff}
use Rattle.flow_codec.specs.Message.{joined}
use Rattle.flow_codec.specs.Templates.{AllTemplates}
use Rattle.flow_codec.proofs.RestatingAll.{message_cut}
use Rattle.flow_manifest.specs.declared.manifest.Kind.{Kind}
use Rattle.flow_manifest.specs.declared.manifest.Kind.TheVariants.{Wide, Rolled, Sealed, Active}
use Rattle.flow_manifest.specs.declared.manifest.Entry.{Entry}
use Rattle.flow_manifest.specs.declared.manifest.Manifest.{Manifest}
use Rattle.flow_manifest.specs.Manifest.{IsValidManifest}
use Rattle.flow_manifest.specs.Following.{active_of, front_of, sealed_entry}
use Rattle.flow_manifest.proofs.ManifestAfterSeal.{next_front}
use Rattle.flow_measure.specs.History.{Accepted, AreAcceptedFrom, templates_from}
use Rattle.flow_rolled.specs.Rollup.{IsRollup}
use Rattle.flow_segment.specs.Batch.{AreTaken}
use Rattle.flow_segment.specs.Carry.{Carry, carry_from, no_carry, octets_of, prefix_of, restated, IsCarry}
use Rattle.flow_segment.specs.Carry.{IsReadBack}
use Rattle.flow_segment.specs.Prefix.{AreRead}
use Rattle.flow_segment.proofs.Batches.{carried_then, templates_carried}
use Rattle.flow_segment.proofs.Carrying.{is_read_back}
use Rattle.flow_model.specs.State.{Part, State, appended, end_of, after_seal}
use Rattle.flow_model.specs.Chain.{ArePartsBehind, HandsOn, IsPartBehind, IsSegment}

-- ---- messages after others

pub accepted_join : (before : AllTemplates) (xs ys : List Accepted) → AreAcceptedFrom before xs
    → AreAcceptedFrom (templates_from before xs) ys → AreAcceptedFrom before (xs ++ ys)
accepted_join before [] ys h k = k
accepted_join before (x ∷ xs) ys h k = (h.0, accepted_join x.after xs ys h.1 k)

templates_join : (before : AllTemplates) (xs ys : List Accepted)
    → templates_from before (xs ++ ys) ≡ templates_from (templates_from before xs) ys
templates_join before [] ys = refl
templates_join before (x ∷ xs) ys = templates_join x.after xs ys

-- ---- a segment

segment_templates : (part : Part) (carry : Carry) (segment : IsSegment part carry)
    → carry.templates ≡ templates_from (templates_from [] segment.prefix) segment.messages
segment_templates part carry segment =
    ap (λ (c : Carry). c.templates) segment.hands_on
    ∙ templates_carried (no_carry segment.time) (segment.prefix ++ segment.messages)
    ∙ templates_join [] segment.prefix segment.messages

pub segment_more : (part : Part) (octets : List (List ℕ)) (old new : Carry) → IsSegment part old
    → AreTaken octets old new → IsSegment (record { front = part.front; messages = part.messages ++ octets }) new
segment_more part octets old new segment are = record {
  prefix = segment.prefix;
  messages = segment.messages ++ are.0;
  front = segment.front;
  restated = segment.restated;
  octets = map-append (λ (x : Accepted). x.octets) segment.messages are.0
      ∙ ap (λ (l : List (List ℕ)). l ++ octets_of are.0) segment.octets
      ∙ ap (λ (l : List (List ℕ)). part.messages ++ l) are.1;
  accepted = accepted_join (templates_from [] segment.prefix) segment.messages are.0 segment.accepted
      (subst (λ (t : AllTemplates). AreAcceptedFrom t are.0) (segment_templates part old segment) are.2);
  time = segment.time;
  small = segment.small;
  hands_on = are.3 ∙ ap (λ (c : Carry). carry_from c are.0) segment.hands_on
      ∙ sym (carried_then (no_carry segment.time) (segment.prefix ++ segment.messages) are.0)
      ∙ ap (λ (l : List Accepted). carry_from (no_carry segment.time) l)
      (append_assoc segment.prefix segment.messages are.0);
}

cut_each : (before : AllTemplates) (xs : List Accepted) → AreAcceptedFrom before xs
    → AllByRecursion IsCutOff (octets_of xs)
cut_each before [] h = tt
cut_each before (x ∷ xs) h = (message_cut x.octets before x.message x.after h.0.0, cut_each x.after xs h.1)

-- the prefix of a carry, as it is read
pub called_read : (c : Carry) → IsCarry c → AreRead (prefix_of c) [] (restated c) []
called_read c h = let back = is_read_back c h in record {
  divided = record {
    whole = sym (append-nil (joined (octets_of (restated c))) ∙ ap joined back.octets);
    each = cut_each [] (restated c) back.accepted;
  };
  accepted = back.accepted;
}

-- a segment without messages, with the prefix of a carry, passes that carry on
pub segment_called : (c : Carry) → IsCarry c → IsSegment (record { front = prefix_of c; messages = [] }) c
segment_called c h = record {
  prefix = restated c;
  messages = [];
  front = called_read c h;
  restated = back.none;
  octets = refl;
  accepted = tt;
  time = c.time;
  small = h.time;
  hands_on = sym (ap (λ (l : List Accepted). carry_from (no_carry c.time) l) (append-nil (restated c)) ∙ back.again);
}
  where
    back : IsReadBack c (restated c)
    back = is_read_back c h

-- ---- an archive

-- the carry of a segment that hands it on
pub handed_segment : (s : State) (carry : Carry) → HandsOn s carry → IsSegment s.active carry
handed_segment s carry h = subst (λ (c : Carry). IsSegment s.active c)
    (sym (ap (λ (o : Option Carry). unwrap_or o carry) h.active.3)) h.active.2

pub hands_more : (s : State) (octets : List (List ℕ)) (old new : Carry) → HandsOn s old → AreTaken octets old new
    → HandsOn (appended s octets) new
hands_more s octets old new h are = record {
  sealed = h.sealed;
  parts = h.parts;
  active = (new, h.active.1, segment_more s.active octets old new (handed_segment s old h) are, refl);
}

part_same : (m n : Manifest) → n.width ≡ m.width → n.wide ≡ m.wide → (kind : Kind) (before after : Option Carry)
    (part : Part) → IsPartBehind m kind before part after → IsPartBehind n kind before part after
part_same m n width wide Wide before after part is =
    ((is.0.0, subst (λ (w : ℕ). IsRollup w part.front is.0.0) (sym wide) is.0.1), is.1)
part_same m n width wide Rolled before after part is =
    ((is.0.0, subst (λ (w : ℕ). IsRollup w part.front is.0.0) (sym width) is.0.1), is.1)
part_same m n width wide Sealed before after part is = is
part_same m n width wide Active before after part is = is

behind_push : (m n : Manifest) → n.width ≡ m.width → n.wide ≡ m.wide → (entry : Entry) (part : Part)
    (mid after : Option Carry) → IsPartBehind n entry.kind mid part after
    → (before : Option Carry) (entries : List Entry) (parts : List Part) → ArePartsBehind m before entries parts mid
    → ArePartsBehind n before (entries ++ entry ∷ []) (parts ++ part ∷ []) after
behind_push m n width wide entry part mid after last before [] [] is =
    (after, subst (λ (o : Option Carry). IsPartBehind n entry.kind o part after) is last, refl)
behind_push m n width wide entry part mid after last before [] (p ∷ parts) is = absurd is
behind_push m n width wide entry part mid after last before (e ∷ entries) [] is = absurd is
behind_push m n width wide entry part mid after last before (e ∷ entries) (p ∷ parts) is = (
  is.0,
  part_same m n width wide e.kind before is.0 p is.1,
  behind_push m n width wide entry part mid after last is.0 entries parts is.2,
)

-- after a seal
pub hands_next : (s : State) (carry : Carry) → IsValidManifest s.manifest → IsCarry carry → HandsOn s carry
    → HandsOn (after_seal s (prefix_of carry)) carry
hands_next s carry valid h hands = record {
  sealed = Some carry;
  parts = subst (λ (l : List Entry). ArePartsBehind (after_seal s (prefix_of carry)).manifest None l
      (s.parts ++ s.active ∷ []) (Some carry))
      (sym (next_front s.manifest valid (end_of s) (length s.active.messages) s.next (length (prefix_of carry))))
      (behind_push s.manifest (after_seal s (prefix_of carry)).manifest refl refl sealed s.active hands.sealed
      (Some carry) (carry, hands.active.1, handed_segment s carry hands, refl) None (front_of s.manifest) s.parts
      hands.parts);
  active = (carry, refl, segment_called carry h, refl);
}
  where
    sealed : Entry
    sealed = sealed_entry (active_of s.manifest) (end_of s) (length s.active.messages)

-- ---- how long a prefix is

joined_long : (before : AllTemplates) (xs : List Accepted) → AreAcceptedFrom before xs
    → length (joined (octets_of xs)) ≤ 65535 * length xs
joined_long before [] h = omega arith
joined_long before (x ∷ xs) h =
    let front = h.0.0 in
    let long : length x.octets < 65536 = omega (arith, front.len, (front.fits).len) in
    omega (arith, length-append x.octets (joined (octets_of xs)), long, joined_long x.after xs h.1)

pub prefix_fits : (c : Carry) → IsCarry c → length (prefix_of c) < 2 ^ 32
prefix_fits c h =
    let back = is_read_back c h in
    let whole : length (prefix_of c) ≡ length (joined (octets_of (restated c))) =
    ap (λ (l : List (List ℕ)). length (joined l)) (sym back.octets) in
    let count : length (restated c) ≡ length c.templates =
    sym (length-map (restated c) (λ (x : Accepted). x.octets)) ∙ ap (λ (l : List (List ℕ)). length l) back.octets
    ∙ length-map c.templates _ in
    omega (arith, whole, joined_long [] (restated c) back.accepted, count, (h.templates).count)
