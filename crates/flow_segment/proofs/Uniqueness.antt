-- The messages of octets are one list, so no other list of them is reported.
use Rattle.std.proofs.Common.{◌≡◌, ◌≢◌, ◌⊎◌, ℕ, ◌+◌, List, [], ◌∷◌, ◌++◌, length, refl, sym, ap, subst, ◌∙◌, inl, inr}
use Rattle.std.proofs.Common.{append_assoc, append-nil, arith}
use Rattle.std.specs.List.{AllByRecursion}
use Rattle.std.proofs.lemmas.List.{length-append}
use Rattle.std.specs.Prelude.{Result, Ok, Err, IfOk, IfErr}
use Rattle.flow_codec.specs.declared.file.FileError.{FileError}
use Rattle.flow_codec.specs.Cutting.{IsCutOff, IsFileFault}
use Rattle.flow_codec.specs.Message.{joined, IsAccepted}
use Rattle.flow_codec.specs.Raw.{RawMessage}
use Rattle.flow_codec.specs.Templates.{AllTemplates}
use Rattle.flow_codec.proofs.Dividing.{no_more, none_has_no_fault, one_message}
use Rattle.flow_codec.proofs.FaultLaws.{never_both, one_state}
use Rattle.flow_codec.proofs.FaultLaws.{one_message as same_message}
use Rattle.flow_refusals.specs.declared.read_refusal.ReadRefusal.{ReadRefusal}
use Rattle.flow_refusals.specs.declared.read_refusal.ReadRefusal.TheVariants.{Damaged, Fault, OutOfMemory}
use Rattle.flow_measure.specs.History.{Accepted, AreAcceptedFrom, templates_from}
use Rattle.flow_segment.specs.Carry.{octets_of}
use Rattle.flow_segment.specs.PartFlows.{ArePartMessages, IsNoMessage, IsStoppedAt}
use Rattle.flow_segment.specs.Prefix.{AreRead, AreTemplatesGiven, HaveNoRecords, IsFaulty, IsNoPrefix, IsNoRestatement}
use Rattle.flow_segment.specs.Prefix.{IsPrefixToldOf, IsRestated}

-- messages after others
pub record StandBehind (before : AllTemplates) (front all : List Accepted) (rest : List ℕ) : Type 0 where
  pub more : List Accepted
  pub whole : all ≡ front ++ more
  pub octets : rest ≡ joined (octets_of more)
  pub each : AllByRecursion IsCutOff (octets_of more)
  pub accepted : AreAcceptedFrom (templates_from before front) more

-- Messages that are read from octets are the first of those that fill them.
stand_behind : (octets : List ℕ) (before : AllTemplates) (front all : List Accepted) (rest : List ℕ)
    → octets ≡ joined (octets_of front) ++ rest → AllByRecursion IsCutOff (octets_of front)
    → AreAcceptedFrom before front → octets ≡ joined (octets_of all) ++ [] → AllByRecursion IsCutOff (octets_of all)
    → AreAcceptedFrom before all → StandBehind before front all rest
stand_behind octets before [] all rest w each are v cut accepted = record {
  more = all;
  whole = refl;
  octets = sym w ∙ v ∙ append-nil (joined (octets_of all));
  each = cut;
  accepted = accepted;
}
stand_behind octets before (m ∷ ms) [] rest w each are v cut accepted =
    let more = joined (octets_of ms) in
    let none : length ((m.octets ++ more) ++ rest) ≡ 0 = ap length (sym w ∙ v) in
    absurd (omega (arith, none, length-append (m.octets ++ more) rest, length-append m.octets more, each.0.long))
stand_behind octets before (m ∷ ms) (l ∷ ls) rest w each are v cut accepted =
    let xs = joined (octets_of ms) in
    let ys = joined (octets_of ls) in
    let same = sym (append_assoc m.octets xs rest) ∙ sym w ∙ v ∙ append_assoc l.octets ys [] in
    let one = one_message m.octets l.octets (xs ++ rest) (ys ++ []) each.0 cut.0 same in
    let is : IsAccepted m.octets before l.message l.after =
    subst (λ (o : List ℕ). IsAccepted o before l.message l.after) (sym one.0) accepted.0 in
    let message = same_message before m.octets m.message l.message m.after l.after are.0 is in
    let after = one_state before m.octets m.message l.message m.after l.after are.0 is in
    let head : m ≡ l = λ i. record { octets = one.0 i; message = message i; after = after i } in
    let behind = stand_behind (xs ++ rest) m.after ms ls rest refl each.1 are.1 one.1 cut.1
    (subst (λ (t : AllTemplates). AreAcceptedFrom t ls) (sym after) accepted.1) in
    record {
      more = behind.more;
      whole =
          ap (λ (x : Accepted). x ∷ ls) (sym head) ∙ ap (λ (t : List Accepted). m ∷ t) behind.whole;
      octets = behind.octets;
      each = behind.each;
      accepted = behind.accepted;
    }

pub read_behind : (octets : List ℕ) (before : AllTemplates) (front all : List Accepted) (rest : List ℕ)
    → AreRead octets before front rest → AreRead octets before all [] → StandBehind before front all rest
read_behind octets before front all rest some whole =
    stand_behind octets before front all rest some.divided.whole some.divided.each some.accepted
    whole.divided.whole whole.divided.each whole.accepted

none_left : (more : List Accepted) → AllByRecursion IsCutOff (octets_of more) → joined (octets_of more) ≡ []
    → more ≡ []
none_left [] each none = refl
none_left (a ∷ xs) each none =
    absurd (omega (arith, ap length none, length-append a.octets (joined (octets_of xs)), each.0.long))

-- two lists of messages that fill octets are one
all_behind : (before : AllTemplates) (front all : List Accepted) (rest : List ℕ) → StandBehind before front all rest
    → rest ≡ [] → all ≡ front
all_behind before front all rest b none =
    b.whole ∙ ap (λ (t : List Accepted). front ++ t) (none_left b.more b.each (sym b.octets ∙ none))
    ∙ append-nil front

pub same_read : (octets : List ℕ) (before : AllTemplates) (ms all : List Accepted) → AreRead octets before ms []
    → AreRead octets before all [] → all ≡ ms
same_read octets before ms all some whole =
    all_behind before ms all [] (read_behind octets before ms all [] some whole) refl

-- a message that is refused after some messages isn't one of them
not_faulty : (before : AllTemplates) (more : List Accepted) (message others : List ℕ)
    → AllByRecursion IsCutOff (octets_of more) → AreAcceptedFrom before more → IsCutOff message
    → joined (octets_of more) ≡ message ++ others → IsFaulty message before → ⊥
not_faulty before [] message others each are cut same bad =
    absurd (omega (arith, ap length same, length-append message others, cut.long))
not_faulty before (a ∷ xs) message others each are cut same bad =
    let one = one_message a.octets message (joined (octets_of xs)) others each.0 cut same in
    never_both before message a.message a.after bad.1.0 bad.0
    (subst (λ (o : List ℕ). IsAccepted o before a.message a.after) one.0 are.0) bad.1.1

not_cut : (at : ℕ) (rest : List ℕ) (more : List Accepted) → AllByRecursion IsCutOff (octets_of more)
    → rest ≡ joined (octets_of more) → (fault : FileError) → IsFileFault at rest fault → ⊥
not_cut at rest [] each is fault bad = none_has_no_fault at rest fault is bad
not_cut at rest (a ∷ xs) each is fault bad =
    no_more at rest a.octets (joined (octets_of xs)) (inr (fault, bad)) each.0 is

-- where messages fill a part, nothing stops their reading
pub not_stopped : (octets : List ℕ) (before : AllTemplates) (start end count at : ℕ) (all : List Accepted)
    → ArePartMessages octets before count all → IsStoppedAt octets before start end count at → ⊥
not_stopped octets before start end count at all are (ms, rest, read, why) =
    by (read_behind octets before ms all rest read are.read) why
  where
    by : StandBehind before ms all rest
        → ((at ≡ start + length (joined (octets_of ms))) × IsNoMessage at (templates_from before ms) rest)
        ⊎ ((at ≡ end) × (rest ≡ []) × (length ms ≢ count)) → ⊥
    by b (inl (place, inl (fault, bad))) = not_cut at rest b.more b.each b.octets fault bad
    by b (inl (place, inr (message, others, cut, split, bad))) =
        not_faulty (templates_from before ms) b.more message others b.each b.accepted cut (sym b.octets ∙ split) bad
    by b (inr (place, none, differ)) =
        differ (ap length (sym (all_behind before ms all rest b none)) ∙ are.all)

-- ---- a prefix

-- a message with data records after some without isn't one of them
not_restated : (before : AllTemplates) (more : List Accepted) (message others : List ℕ)
    → AllByRecursion IsCutOff (octets_of more) → AreAcceptedFrom before more → HaveNoRecords more → IsCutOff message
    → joined (octets_of more) ≡ message ++ others → IsNoRestatement message before → ⊥
not_restated before more message others each are none cut same (inl bad) =
    not_faulty before more message others each are cut same bad
not_restated before [] message others each are none cut same (inr some) =
    absurd (omega (arith, ap length same, length-append message others, cut.long))
not_restated before (a ∷ xs) message others each are none cut same (inr (m, after, is, some)) =
    let one = one_message a.octets message (joined (octets_of xs)) others each.0 cut same in
    let there = subst (λ (o : List ℕ). IsAccepted o before a.message a.after) one.0 are.0 in
    some (ap (λ (x : RawMessage). x.records)
    (same_message before message m a.message after a.after is there) ∙ none.0)

none_behind : (front more : List Accepted) → HaveNoRecords (front ++ more) → HaveNoRecords more
none_behind [] more h = h
none_behind (a ∷ xs) more h = none_behind xs more h.1

-- the templates that a prefix restates are one state
pub same_restated : (octets : List ℕ) (all other : AllTemplates) → IsRestated octets all → IsRestated octets other
    → other ≡ all
same_restated octets all other (ms, read, none, is) (ns, others, without, same) =
    same ∙ ap (templates_from []) (sym (same_read octets [] ns ms others read)) ∙ sym is

-- of octets that restate templates no damage is reported
pub not_told : (octets : List ℕ) (all : AllTemplates) (number file at : ℕ) → IsRestated octets all
    → IsPrefixToldOf octets number (Damaged file at) → ⊥
not_told octets all number file at (ns, whole, none, is) (same, ms, rest, read, without, place, why) =
    by (read_behind octets [] ms ns rest read whole) why
  where
    by : StandBehind [] ms ns rest → IsNoPrefix at (templates_from [] ms) rest → ⊥
    by b (inl (fault, bad)) = not_cut at rest b.more b.each b.octets fault bad
    by b (inr (message, others, cut, split, bad)) =
        not_restated (templates_from [] ms) b.more message others b.each b.accepted
        (none_behind ms b.more (subst HaveNoRecords b.whole none)) cut (sym b.octets ∙ split) bad

pub templates_given : (octets : List ℕ) (number : ℕ) (all : AllTemplates) (result : Result AllTemplates ReadRefusal)
    → IsRestated octets all → IfOk result (λ templates. IsRestated octets templates)
    → IfErr result (λ e. IsPrefixToldOf octets number e) → AreTemplatesGiven all result
templates_given octets number all (Ok templates) are found told = same_restated octets all templates are found
templates_given octets number all (Err (Damaged file at)) are found told =
    not_told octets all number file at are told
templates_given octets number all (Err Fault) are found told = tt
templates_given octets number all (Err OutOfMemory) are found told = tt
