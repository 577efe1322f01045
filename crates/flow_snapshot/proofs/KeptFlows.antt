-- Kept messages, taken one after the other.
use Rattle.std.proofs.Common.{◌≡◌, ℕ, zero, suc, Bool, true, false, ◌+◌, ◌<◌, ◌≤◌, List, [], ◌∷◌, ◌++◌, length, map}
use Rattle.std.proofs.Common.{take, drop, refl, sym, ap}
use Rattle.std.proofs.Common.{subst, ◌∙◌, append-nil, append_assoc, arith, get_or, inr}
use Rattle.std.specs.Prelude.{IsTrue, ◌==◌, ◌≢◌, nat_le, nat_lt, ◌&&◌, Result, Ok, Err, IsErrAnd}
use Rattle.std.specs.List.{AllByRecursion, list_all}
use Rattle.std.specs.Arc.{arc_value}
use Rattle.std.specs.declared.sync.Arc.{Arc}
use Rattle.std.proofs.lemmas.List.{take-append-drop, take-map, drop-map, drop_more, length-append, length-map}
use Rattle.std.proofs.lemmas.Bool.{eqb-true, eqb-false}
use Rattle.std.proofs.lemmas.List.Elements.{filter-append}
use Rattle.std.proofs.Math.Seq.{take-append_seam, drop-append_seam}
use Rattle.flow_codec.specs.declared.file.FileError.{FileError}
use Rattle.flow_codec.specs.Cutting.{IsCutOff, IsDivided, IsFileFault}
use Rattle.flow_codec.proofs.Dividing.{no_more, one_message}
use Rattle.flow_disk.specs.declared.sealed.SealedFile.{Ghosts}
use Rattle.flow_codec.specs.Message.{in_fields, joined, IsAccepted}
use Rattle.flow_codec.specs.Raw.{under, Placed, Took}
use Rattle.flow_codec.specs.Templates.{AllTemplates}
use Rattle.flow_refusals.specs.declared.read_refusal.ReadRefusal.{ReadRefusal}
use Rattle.flow_measure.specs.declared.flow.Flow.{Flow}
use Rattle.flow_measure.specs.Flows.{flows_of, flows_of_records}
use Rattle.flow_measure.specs.History.{Accepted, AreAcceptedFrom, flows_in, templates_from}
use Rattle.flow_measure.proofs.SinkSteps.{flows-in_fields}
use Rattle.flow_measure.proofs.ViewLaws.{flows-append}
use Rattle.flow_segment.specs.Carry.{octets_of}
use Rattle.flow_segment.specs.PartFlows.{flows_within, ArePartMessages, HasChosen}
use Rattle.flow_segment.specs.declared.sealed.SealedPart.{SealedPart}
use Rattle.flow_segment.specs.declared.sinks.Chosen.{Chosen}
use Rattle.flow_segment.specs.Prefix.{HaveNoRecords, IsRestated}
use Rattle.flow_segment.specs.Segment.{part_octets}
use Rattle.flow_snapshot.specs.Files.{cut_into, is_honest, segment_of, shared}
use Rattle.flow_model.specs.Shelf.{messages_in}
use Rattle.flow_snapshot.specs.Answered.{IsAnswered, IsNoDamage}
use Rattle.flow_model.proofs.Accepting.{accepted_first, all_cut, templates_then}
use Rattle.flow_snapshot.proofs.PartMessages.{cut_whole}
use Rattle.flow_snapshot.proofs.Sharing.{all_rest}

-- Of these messages, which are accepted after these templates, some were taken and others are left, with these octets.
pub record Taken (Has : List Accepted → Type 0) (before : AllTemplates) (messages : List Accepted)
    (left : List (List ℕ)) (templates : AllTemplates) : Type 0 where
  pub front : List Accepted
  pub rest : List Accepted
  pub whole : messages ≡ front ++ rest
  pub octets : octets_of rest ≡ left
  pub moved : templates ≡ templates_from before front
  pub has : Has front

-- the next ones, with these octets
pub record Next (Has : List Accepted → Type 0) (before : AllTemplates) (messages : List Accepted)
    (here left : List (List ℕ)) (templates : AllTemplates) : Type 0 where
  pub front : List Accepted
  pub own : List Accepted
  pub rest : List Accepted
  pub whole : messages ≡ (front ++ own) ++ rest
  pub octets : octets_of own ≡ here
  pub others : octets_of rest ≡ left
  pub accepted : AreAcceptedFrom templates own
  pub moved : templates ≡ templates_from before front
  pub has : Has front

accepted_behind : (before : AllTemplates) (xs ys : List Accepted) → AreAcceptedFrom before (xs ++ ys)
    → AreAcceptedFrom (templates_from before xs) ys
accepted_behind before [] ys h = h
accepted_behind before (x ∷ xs) ys h = accepted_behind x.after xs ys h.1

pub next_ones : (Has : List Accepted → Type 0) (before : AllTemplates) (messages : List Accepted)
    (here left : List (List ℕ)) (templates : AllTemplates) → AreAcceptedFrom before messages
    → Taken Has before messages (here ++ left) templates → Next Has before messages here left templates
next_ones Has before messages here left templates accepted t =
    let n = length here in
    let behind : AreAcceptedFrom templates t.rest = subst (λ (x : AllTemplates). AreAcceptedFrom x t.rest) (sym t.moved)
    (accepted_behind before t.front t.rest (subst (AreAcceptedFrom before) t.whole accepted)) in
    record {
      front = t.front;
      own = take n t.rest;
      rest = drop n t.rest;
      whole = t.whole ∙ ap (λ (ms : List Accepted). t.front ++ ms) (sym (take-append-drop n t.rest))
          ∙ sym (append_assoc t.front (take n t.rest) (drop n t.rest));
      octets = sym (take-map (λ (a : Accepted). a.octets) n t.rest) ∙ ap (take n) t.octets
          ∙ take-append_seam here left;
      others = sym (drop-map (λ (a : Accepted). a.octets) n t.rest) ∙ ap (drop n) t.octets
          ∙ drop-append_seam here left;
      accepted = accepted_first templates n t.rest behind;
      moved = t.moved;
      has = t.has;
    }

pub taken_next : (Has More : List Accepted → Type 0) (before : AllTemplates) (messages : List Accepted)
    (here left : List (List ℕ)) (templates after : AllTemplates)
    (n : Next Has before messages here left templates) → after ≡ templates_from templates n.own
    → More (n.front ++ n.own) → Taken More before messages left after
taken_next Has More before messages here left templates after n moved has = record {
  front = n.front ++ n.own;
  rest = n.rest;
  whole = n.whole;
  octets = n.others;
  moved = moved ∙ ap (λ (t : AllTemplates). templates_from t n.own) n.moved
      ∙ sym (templates_then before n.front n.own);
  has = has;
}

pub no_octets : (ms : List Accepted) → octets_of ms ≡ [] → ms ≡ []
no_octets [] h = refl
no_octets (m ∷ ms) h = absurd cc

-- all were taken
pub taken_all : (Has : List Accepted → Type 0) (before : AllTemplates) (messages : List Accepted)
    (left : List (List ℕ)) (templates : AllTemplates) → left ≡ [] → Taken Has before messages left templates
    → (templates ≡ templates_from before messages) × Has messages
taken_all Has before messages left templates none t =
    let all : t.front ≡ messages = sym (t.whole ∙ ap (λ (ms : List Accepted). t.front ++ ms)
    (no_octets t.rest (t.octets ∙ none)) ∙ append-nil t.front) in
    (t.moved ∙ ap (templates_from before) all, subst Has all t.has)

-- messages of a part's octets, so many, as a reader wants them
pub of_part : (octets : List ℕ) (count : ℕ) (templates : AllTemplates) (own : List Accepted) → 0 < count
    → AreAcceptedFrom templates own → octets_of own ≡ cut_into count octets
    → ArePartMessages octets templates count own
of_part octets count templates own some accepted is =
    let each = subst (AllByRecursion IsCutOff) is (all_cut templates own accepted) in
    let are = cut_whole count octets some each in
    record {
      read = record {
        divided = subst (λ (ms : List (List ℕ)). IsDivided octets ms []) (sym is) are.divided;
        accepted = accepted;
      };
      all = sym (length-map own (λ (a : Accepted). a.octets)) ∙ ap length is ∙ are.all;
    }

-- ---- flows within a span

abbrev pub HasFlows : ℕ → ℕ → List Flow → List Flow → List Accepted → Type 0
HasFlows from to old flows messages = flows ≡ old ++ flows_within from to (flows_in messages)

pub more_flows : (from to : ℕ) (old flows more : List Flow) (front own : List Accepted)
    → flows ≡ old ++ flows_within from to (flows_in front) → more ≡ flows ++ flows_within from to (flows_in own)
    → more ≡ old ++ flows_within from to (flows_in (front ++ own))
more_flows from to old flows more front own was is =
    is ∙ ap (λ (fs : List Flow). fs ++ flows_within from to (flows_in own)) was
    ∙ append_assoc old (flows_within from to (flows_in front)) (flows_within from to (flows_in own))
    ∙ ap (λ (fs : List Flow). old ++ fs) (sym (ap (flows_within from to) (flows-append front own)
    ∙ filter-append (λ (f : Flow). nat_le from f.start && nat_lt f.start to) (flows_in front) (flows_in own)))

pub no_flows : (from to : ℕ) (old : List Flow) → old ≡ old ++ flows_within from to (flows_in [])
no_flows from to old = sym (append-nil old)

-- ---- messages in memory

abbrev pub HasChosenFlows : ℕ → ℕ → List Flow → Chosen → List Accepted → Type 0
HasChosenFlows from to old sink messages =
    (sink.from ≡ from) × (sink.to ≡ to) × HasFlows from to old sink.flows.items messages

-- ---- a prefix in memory

-- accepted messages that fill what is left and lead to all templates
abbrev pub IsStillRestated : List ℕ → AllTemplates → AllTemplates → Type 0
IsStillRestated rest templates all = (left : List Accepted) × (rest ≡ joined (octets_of left))
    × AreAcceptedFrom templates left × HaveNoRecords left × (all ≡ templates_from templates left)

-- ---- one message more

single : (own : List Accepted) (o : List ℕ) → octets_of own ≡ o ∷ [] → (a : Accepted) × (own ≡ a ∷ []) × (a.octets ≡ o)
single [] o is = absurd cc
single (a ∷ []) o is = (a, refl, cc)
single (a ∷ b ∷ more) o is = absurd cc

abbrev pub chosen_holds : Chosen → List Placed → Chosen → Type 0
chosen_holds start taken now =
    HasChosen start.from start.to start.flows.items taken now.from now.to now.flows.items

-- what is answered of a message is right of the next one that is left
pub message_told : (Has : List Accepted → Type 0) (Q : Accepted → Type 0) (before templates : AllTemplates)
    (list : List Accepted) (here : List ℕ) (left : List (List ℕ)) → AreAcceptedFrom before list
    → Taken Has before list (here ∷ left) templates
    → ((a : Accepted) → a.octets ≡ here → IsAccepted here templates a.message a.after → Q a)
    → (a : Accepted) × (n : Next Has before list (here ∷ []) left templates) × (n.own ≡ a ∷ []) × Q a
message_told Has Q before templates list here left accepted t told =
    let n = next_ones Has before list (here ∷ []) left templates accepted t in
    let one = single n.own here n.octets in
    let is : IsAccepted one.0.octets templates one.0.message one.0.after =
    (subst (AreAcceptedFrom templates) one.1 n.accepted).0 in (
      one.0,
      n,
      one.1,
      told one.0 one.2
          (subst (λ (o : List ℕ). IsAccepted o templates one.0.message one.0.after) one.2 is),
    )

pub active_step : (from to : ℕ) (old : List Flow) (before templates after : AllTemplates) (list : List Accepted)
    (sink new : Chosen) (here : List ℕ) (left : List (List ℕ)) → AreAcceptedFrom before list
    → Taken (HasChosenFlows from to old sink) before list (here ∷ left) templates
    → ((a : Accepted) → a.octets ≡ here → IsAccepted here templates a.message a.after
    → (after ≡ a.after) × Took chosen_holds a.message.header sink a.message.records new)
    → Taken (HasChosenFlows from to old new) before list left after
active_step from to old before templates after list sink new here left accepted t told =
    by (message_told (HasChosenFlows from to old sink)
    (λ a. (after ≡ a.after) × Took chosen_holds a.message.header sink a.message.records new) before templates list here
    left accepted t told)
  where
    by : (a : Accepted) × (n : Next (HasChosenFlows from to old sink) before list (here ∷ []) left templates)
        × (n.own ≡ a ∷ []) × ((after ≡ a.after) × Took chosen_holds a.message.header sink a.message.records new)
        → Taken (HasChosenFlows from to old new) before list left after
    by (a, n, own, right) =
        let start : chosen_holds sink [] sink = (refl, refl, sym (append-nil sink.flows.items)) in
        let took = right.1 sink [] start in
        let records = under a.message.header a.message.records in
        let flows : flows_of_records records ≡ flows_in n.own =
        sym (ap flows_in own ∙ append-nil (flows_of (in_fields a.message)) ∙ flows-in_fields a.message) in
        let more : new.flows.items ≡ sink.flows.items ++ flows_within from to (flows_in n.own) =
        took.2 ∙ ap (λ (k : ℕ). sink.flows.items ++ flows_within k sink.to (flows_of_records records)) n.has.0
        ∙ ap (λ (k : ℕ). sink.flows.items ++ flows_within from k (flows_of_records records)) n.has.1
        ∙ ap (λ (fs : List Flow). sink.flows.items ++ flows_within from to fs) flows in
        taken_next (HasChosenFlows from to old sink) (HasChosenFlows from to old new) before list (here ∷ []) left
        templates after n (right.0 ∙ ap (templates_from templates) (sym own)) (
          took.0 ∙ n.has.0,
          took.1 ∙ n.has.1,
          more_flows from to old sink.flows.items new.flows.items n.front n.own n.has.2 more,
        )

pub answered_err : {X : Type 0} (P : X → Type 0) (r : Result X ReadRefusal) (e : ReadRefusal)
    → IsErrAnd r (λ x. x ≡ e) → IsNoDamage e → IsAnswered P r
answered_err P (Ok x) e is h = absurd is
answered_err P (Err x) e is h = subst IsNoDamage (sym is) h

pub active_err : {X : Type 0} (P : X → Type 0) (Has : List Accepted → Type 0)
    (before templates : AllTemplates) (list : List Accepted) (here : List ℕ) (left : List (List ℕ))
    (r : Result X ReadRefusal) (e : ReadRefusal) → AreAcceptedFrom before list
    → Taken Has before list (here ∷ left) templates → IsErrAnd r (λ x. x ≡ e)
    → ((a : Accepted) → a.octets ≡ here → IsAccepted here templates a.message a.after → IsNoDamage e)
    → IsAnswered P r
active_err P Has before templates list here left r e accepted t is told =
    let found = message_told Has (λ _. IsNoDamage e) before templates list here left accepted t told in
    answered_err P r e is found.3

pub next_item : {A : Type 0} (xs : List A) (i : ℕ) (x y : A) → i < length xs → x ≡ get_or xs i x → y ≡ x
    → drop i xs ≡ y ∷ drop (i + 1) xs
next_item {A} xs i x y within is same =
    drop_more xs i x within ∙ ap (λ (a : A). a ∷ drop (i + 1) xs) (sym is ∙ sym same)

-- ---- one part more

-- the next part's messages, as a reader wants them
pub record NextPart {F X : Type 0} {files : Ghosts F X} (Has : List Accepted → Type 0) (before : AllTemplates)
    (messages : List Accepted) (left : List (List ℕ)) (templates : AllTemplates) (part : SealedPart F X files)
    : Type 0 where
  pub next : Next Has before messages (segment_of part).messages left templates
  pub honest : IsTrue (is_honest part)
  pub are : 0 < part.messages → ArePartMessages (part_octets part.prefix part.length (files.octets part.reader))
      templates part.messages next.own

honest_first : {P : Type 0} (test : P → Bool) (x : P) (xs : List P) → IsTrue (list_all test (x ∷ xs)) → IsTrue (test x)
honest_first test x xs h = elim (test x) as (λ b. IsTrue (b && list_all test xs) → IsTrue b) [
  | true ↦ λ _. refl
  | false ↦ λ w. w
] h

pub next_part : {F X Z : Type 0} {files : Ghosts F X} (Has : List Accepted → Type 0) (before : AllTemplates)
    (messages : List Accepted) (templates : AllTemplates) (parts : List (Arc (SealedPart F X files) Z)) (i : ℕ)
    (item : Arc (SealedPart F X files) Z) (part : SealedPart F X files) → i < length parts
    → item ≡ get_or parts i item → part ≡ arc_value item → IsTrue (list_all is_honest (shared parts))
    → AreAcceptedFrom before messages
    → Taken Has before messages (messages_in (map segment_of (shared (drop i parts)))) templates
    → NextPart Has before messages (messages_in (map segment_of (shared (drop (i + 1) parts)))) templates part
next_part {F} {X} {Z} {files} Has before messages templates parts i item part within is same honest accepted t =
    let rest = shared (drop (i + 1) parts) in
    let left = messages_in (map segment_of rest) in
    let parted : shared (drop i parts) ≡ part ∷ rest =
    ap shared (next_item parts i item item within is refl)
    ∙ ap (λ (p : SealedPart F X files). p ∷ rest) (sym same) in
    let here : Taken Has before messages ((segment_of part).messages ++ left) templates =
    subst (λ (ps : List (SealedPart F X files)). Taken Has before messages (messages_in (map segment_of ps)) templates)
    parted t in
    let n = next_ones Has before messages (segment_of part).messages left templates accepted here in
    let all : IsTrue (list_all is_honest (part ∷ rest)) =
    subst (λ (ps : List (SealedPart F X files)). IsTrue (list_all is_honest ps))
    (drop-map arc_value i parts ∙ parted) (all_rest is_honest i (shared parts) honest) in
    record {
      next = n;
      honest = honest_first is_honest part rest all;
      are = λ some. of_part (part_octets part.prefix part.length (files.octets part.reader)) part.messages templates
          n.own some n.accepted n.octets;
    }

-- a part that is said to have no messages
pub skipped_part : {F X : Type 0} {files : Ghosts F X} (Has : List Accepted → Type 0) (before : AllTemplates)
    (messages : List Accepted) (left : List (List ℕ)) (templates : AllTemplates) (part : SealedPart F X files)
    → part.messages ≡ 0 → NextPart Has before messages left templates part
    → Taken Has before messages left templates
skipped_part {F} {X} {files} Has before messages left templates part none p =
    let n = p.next in
    let octets = part_octets part.prefix part.length (files.octets part.reader) in
    let nothing : n.own ≡ [] = no_octets n.own (n.octets ∙ ap (λ (k : ℕ). cut_into k octets) none) in
    let front : n.front ++ n.own ≡ n.front = ap (λ (ms : List Accepted). n.front ++ ms) nothing ∙ append-nil n.front in
    record {
      front = n.front;
      rest = n.rest;
      whole = n.whole ∙ ap (λ (ms : List Accepted). ms ++ n.rest) front;
      octets = n.others;
      moved = n.moved;
      has = n.has;
    }

-- ---- a prefix

pub still_restated : (prefix : List ℕ) (all : AllTemplates) → IsRestated prefix all → IsStillRestated prefix [] all
still_restated prefix all (ms, read, none, is) =
    (ms, (read.divided).whole ∙ append-nil (joined (octets_of ms)), read.accepted, none, is)

-- the first message, where something is left
abbrev pub IsFirstLeft : List ℕ → AllTemplates → AllTemplates → Type 0
IsFirstLeft rest templates all = (a : Accepted) × (more : List Accepted)
    × (rest ≡ a.octets ++ joined (octets_of more)) × IsCutOff a.octets × IsAccepted a.octets templates a.message a.after
    × (a.message.records ≡ []) × AreAcceptedFrom a.after more × HaveNoRecords more
    × (all ≡ templates_from a.after more)

pub first_left : (rest : List ℕ) (templates all : AllTemplates) → 0 < length rest → IsStillRestated rest templates all
    → IsFirstLeft rest templates all
first_left rest templates all some ([], is, accepted, bare, last) = absurd (omega (arith, some, ap length is))
first_left rest templates all some (a ∷ more, is, accepted, bare, last) =
    (a, more, is, (all_cut templates (a ∷ more) accepted).0, accepted.0, bare.0, accepted.1, bare.1, last)

pub restated_step : (rest message left : List ℕ) (n : ℕ) (templates after all : AllTemplates) → 0 < length rest
    → IsCutOff (take n rest) → message ≡ take n rest → left ≡ drop n rest → IsStillRestated rest templates all
    → ((a : Accepted) → a.octets ≡ message → IsAccepted message templates a.message a.after → after ≡ a.after)
    → IsStillRestated left after all
restated_step rest message left n templates after all some cut front back still told =
    by (first_left rest templates all some still)
  where
    by : IsFirstLeft rest templates all → IsStillRestated left after all
    by (a, more, is, own, accepted, bare, others, none, last) =
        let same = one_message a.octets (take n rest) (joined (octets_of more)) (drop n rest) own cut
        (sym is ∙ sym (take-append-drop n rest)) in
        let here : a.octets ≡ message = same.0 ∙ sym front in
        let moved = told a here (subst (λ (o : List ℕ). IsAccepted o templates a.message a.after) here accepted) in (
          more,
          back ∙ sym same.1,
          subst (λ (t : AllTemplates). AreAcceptedFrom t more) (sym moved) others,
          none,
          last ∙ ap (λ (t : AllTemplates). templates_from t more) (sym moved),
        )

pub restated_err : {X : Type 0} (P : X → Type 0) (rest message : List ℕ) (n : ℕ)
    (templates all : AllTemplates) (r : Result X ReadRefusal) (e : ReadRefusal) → 0 < length rest
    → IsCutOff (take n rest) → message ≡ take n rest → IsStillRestated rest templates all → IsErrAnd r (λ x. x ≡ e)
    → ((a : Accepted) → a.octets ≡ message → IsAccepted message templates a.message a.after → IsNoDamage e)
    → IsAnswered P r
restated_err P rest message n templates all r e some cut front still is told =
    by (first_left rest templates all some still)
  where
    by : IsFirstLeft rest templates all → IsAnswered P r
    by (a, more, whole, own, accepted, bare, others, none, last) =
        let same = one_message a.octets (take n rest) (joined (octets_of more)) (drop n rest) own cut
        (sym whole ∙ sym (take-append-drop n rest)) in
        let here : a.octets ≡ message = same.0 ∙ sym front in
        answered_err P r e is
        (told a here (subst (λ (o : List ℕ). IsAccepted o templates a.message a.after) here accepted))

-- it has no data records
pub none_seen_left : (rest message : List ℕ) (n : ℕ) (templates all : AllTemplates) (any : Bool) → 0 < length rest
    → IsCutOff (take n rest) → message ≡ take n rest → IsStillRestated rest templates all
    → ((a : Accepted) → a.octets ≡ message → IsAccepted message templates a.message a.after
    → a.message.records ≡ [] → any ≡ false) → any ≡ false
none_seen_left rest message n templates all any some cut front still told =
    by (first_left rest templates all some still)
  where
    by : IsFirstLeft rest templates all → any ≡ false
    by (a, more, whole, own, accepted, bare, others, none, last) =
        let same = one_message a.octets (take n rest) (joined (octets_of more)) (drop n rest) own cut
        (sym whole ∙ sym (take-append-drop n rest)) in
        let here : a.octets ≡ message = same.0 ∙ sym front in
        told a here (subst (λ (o : List ℕ). IsAccepted o templates a.message a.after) here accepted) bare

pub no_fault_left : (rest : List ℕ) (fault : FileError) (templates all : AllTemplates) → 0 < length rest
    → IsStillRestated rest templates all → IsFileFault 0 rest fault → ⊥
no_fault_left rest fault templates all some still bad = by (first_left rest templates all some still)
  where
    by : IsFirstLeft rest templates all → ⊥
    by (a, more, is, own, accepted, bare, others, none, last) =
        no_more 0 rest a.octets (joined (octets_of more)) (inr (fault, bad)) own is

pub none_left : (rest : List ℕ) (templates all : AllTemplates) → length rest ≡ 0 → IsStillRestated rest templates all
    → templates ≡ all
none_left rest templates all none ([], is, accepted, bare, last) = sym last
none_left rest templates all none (a ∷ more, is, accepted, bare, last) =
    let cut = (all_cut templates (a ∷ more) accepted).0 in
    let long : 16 ≤ length a.octets = cut.long in
    absurd (omega (arith, none, ap length is, long, length-append a.octets (joined (octets_of more))))

pub some_left : (n : ℕ) (b : Bool) → b ≡ (n == 0) → b ≡ false → 0 < n
some_left n b is none = by n (eqb-false n 0 (sym is ∙ none))
  where
    by : (n : ℕ) → n ≢ 0 → 0 < n
    by zero differ = absurd (differ refl)
    by (suc n) differ = omega arith

pub nothing_left : (n : ℕ) (b : Bool) → b ≡ (n == 0) → b ≡ true → n ≡ 0
nothing_left n b is none = eqb-true n 0 (sym is ∙ none)
