-- What a walk over a part's messages gives: their flows, and the sums of these.
use Rattle.std.proofs.Common.{inl, inr, Bool}
use Rattle.std.proofs.Common.{◌≡◌, ℕ, true, false, List, [], ◌++◌, refl, sym, ap, subst, ◌∙◌, append-nil, Vec, Global}
use Rattle.std.specs.Prelude.{Result, Ok, Err, IsErrAnd}
use Rattle.std.specs.List.{AllByRecursion}
use Rattle.std.specs.FinMap.{entries}
use Rattle.flow_codec.specs.Raw.{Placed}
use Rattle.flow_codec.specs.Templates.{AllTemplates}
use Rattle.flow_refusals.specs.declared.read_refusal.ReadRefusal.{ReadRefusal}
use Rattle.flow_refusals.specs.declared.read_refusal.ReadRefusal.TheVariants.{Damaged, Fault, OutOfMemory}
use Rattle.flow_measure.specs.declared.flow.Flow.{Flow}
use Rattle.flow_measure.specs.declared.sinks.Flows.{Flows}
use Rattle.flow_measure.specs.Flows.{flows_of_records, FlowFits}
use Rattle.flow_measure.specs.History.{Accepted, flows_in, templates_from}
use Rattle.flow_measure.specs.Sums.{Table, gathered, AllFit}
use Rattle.flow_measure.proofs.Gathering.{entries_of_none, gathered-entries}
use Rattle.flow_measure.proofs.SinkSteps.{none_summed}
use Rattle.flow_refusals.specs.declared.sum_refusal.SumRefusal.{SumRefusal}
use Rattle.flow_segment.specs.declared.sinks.Adding.{Adding}
use Rattle.flow_segment.specs.declared.sinks.Chosen.{Chosen}
use Rattle.flow_segment.specs.PartFlows.{flows_within, records_in, with_flows, AreAdded, AreCollected, AreFlowsGiven}
use Rattle.flow_segment.specs.PartFlows.{ArePartFlows, ArePartMessages, HasAdded, HasChosen, IsDamage, IsPartToldOf}
use Rattle.flow_segment.specs.PartFlows.{IsStoppedAt, TookAll}
use Rattle.flow_segment.specs.Prefix.{AreRead, IsPrefixToldOf, IsRestated}
use Rattle.flow_refusals.specs.Printed.{sum_of_read}
use Rattle.flow_segment.proofs.Taking.{flows_in_records}
use Rattle.flow_segment.proofs.Uniqueness.{not_stopped, not_told, same_read, same_restated}

with_nothing : (t : Table) → with_flows [] t ≡ t
with_nothing t =
    ap (λ (e : Table). let s : Table = record { width = t.width; sums = gathered (entries t.sums ++ entries e.sums) } in
    s)
    (none_summed t.width)
    ∙ ap (λ es. let s : Table = record { width = t.width; sums = gathered (entries t.sums ++ es) } in s) entries_of_none
    ∙ ap (λ es. let s : Table = record { width = t.width; sums = gathered es } in s) (append-nil (entries t.sums))
    ∙ ap (λ m. let s : Table = record { width = t.width; sums = m } in s) (gathered-entries t.sums)

-- what a walk found: messages of the part, and a sink that took their records
abbrev pub IsFound : {S : Type 0} → (S → List Placed → S → Type 0) → List ℕ → AllTemplates → ℕ → AllTemplates → S → S
    → Type 0
IsFound holds octets before count after old new =
    (messages : List Accepted) × ArePartMessages octets before count messages
    × (after ≡ templates_from before messages) × TookAll holds old (records_in messages) new

-- the same of the messages of the part
found_is : {S : Type 0} (holds : S → List Placed → S → Type 0) (octets : List ℕ) (before after : AllTemplates)
    (count : ℕ) (old new : S) (messages : List Accepted) → ArePartMessages octets before count messages
    → IsFound holds octets before count after old new
    → (after ≡ templates_from before messages) × TookAll holds old (records_in messages) new
found_is holds octets before after count old new messages are (ms, found, state, took) =
    let same = same_read octets before messages ms are.read found.read in (
      state ∙ ap (templates_from before) same,
      subst (λ (t : List Accepted). TookAll holds old (records_in t) new) same took,
    )

-- ---- sums

abbrev pub Adds : {T : Type 0} → (T → Table) → Adding T → List Placed → Adding T → Type 0
Adds table start taken now = HasAdded (table start.rows) taken (table now.rows) now.spent

nothing_added : (t : Table) (spent : Bool) → spent ≡ false → HasAdded t [] t spent
nothing_added t false is = (sym (with_nothing t), tt)
nothing_added t true is = absurd cc

sums_of : {T : Type 0} (table : T → Table) (old now : Adding T) (records : List Placed) → old.spent ≡ false
    → TookAll (Adds table) old records now → HasAdded (table old.rows) records (table now.rows) now.spent
sums_of table old now records fresh took = took old [] (nothing_added (table old.rows) old.spent fresh)

width_of : (t now : Table) (records : List Placed) (spent : Bool) → spent ≡ false → HasAdded t records now spent
    → now.width ≡ t.width
width_of t now records false is h = ap (λ (s : Table). s.width) h.0
width_of t now records true is h = absurd cc

pub width_kept : {T : Type 0} (table : T → Table) (old now : Adding T) (records : List Placed) → old.spent ≡ false
    → TookAll (Adds table) old records now → now.spent ≡ false → (table now.rows).width ≡ (table old.rows).width
width_kept table old now records fresh took going =
    width_of (table old.rows) (table now.rows) records now.spent going (sums_of table old now records fresh took)

by_flows : (t now : Table) (messages : List Accepted) (spent : Bool) → spent ≡ false
    → HasAdded t (records_in messages) now spent
    → (now ≡ with_flows (flows_in messages) t) × AllByRecursion FlowFits (flows_in messages)
by_flows t now messages false is h =
    let same = flows_in_records messages in
    (h.0 ∙ ap (λ (fs : List Flow). with_flows fs t) same, subst (AllByRecursion FlowFits) same h.1)
by_flows t now messages true is h = absurd cc

too_much : (t now : Table) (messages : List Accepted) (spent : Bool) → spent ≡ true
    → HasAdded t (records_in messages) now spent
    → (AllFit (with_flows (flows_in messages) t) → ⊥) × AllByRecursion FlowFits (flows_in messages)
too_much t now messages true is h =
    let same = flows_in_records messages in (
      λ fit. h.0 (subst (λ (fs : List Flow). AllFit (with_flows fs t)) (sym same) fit),
      subst (AllByRecursion FlowFits) same h.1,
    )
too_much t now messages false is h = absurd cc

module _ {T : Type 0} (table : T → Table) (octets : List ℕ) (before after : AllTemplates) (count : ℕ)
    (old now : Adding T) (fresh : old.spent ≡ false) (found : IsFound (Adds table) octets before count after old now)
    (messages : List Accepted) (are : ArePartMessages octets before count messages) where
  pub added : now.spent ≡ false → (after ≡ templates_from before messages)
      × (table now.rows ≡ with_flows (flows_in messages) (table old.rows)) × AllByRecursion FlowFits (flows_in messages)
  added going =
      let x = found_is (Adds table) octets before after count old now messages are found in
      let y = by_flows (table old.rows) (table now.rows) messages now.spent going
      (sums_of table old now (records_in messages) fresh x.1) in
      (x.0, y.0, y.1)

  pub spent : now.spent ≡ true
      → (AllFit (with_flows (flows_in messages) (table old.rows)) → ⊥) × AllByRecursion FlowFits (flows_in messages)
  spent stopped =
      let x = found_is (Adds table) octets before after count old now messages are found in
      too_much (table old.rows) (table now.rows) messages now.spent stopped
      (sums_of table old now (records_in messages) fresh x.1)

-- no damage is reported where messages fill a part
pub not_damaged : (octets : List ℕ) (before : AllTemplates) (number start end count : ℕ) (messages : List Accepted)
    (e : ReadRefusal) (t new : Table) (after : AllTemplates) {X : Type 0} (r : Result X SumRefusal)
    → IsErrAnd r (λ x. x ≡ sum_of_read e) → ArePartMessages octets before count messages
    → IsDamage octets before number start end count e → AreAdded before t messages r after new
not_damaged octets before number start end count messages e t new after (Ok x) given are told = absurd given
not_damaged octets before number start end count messages e t new after {X = X} (Err x) given are told =
    subst (λ (y : SumRefusal). AreAdded {X = X} before t messages (Err y) after new) (sym given) (by e told)
  where
    by : (e : ReadRefusal) → IsDamage octets before number start end count e
        → AreAdded {X = X} before t messages (Err (sum_of_read e)) after new
    by (Damaged file at) bad = not_stopped octets before start end count at messages are bad.1
    by Fault bad = tt
    by OutOfMemory bad = tt

-- ---- chosen flows

abbrev pub Chooses : Chosen → List Placed → Chosen → Type 0
Chooses start taken now = HasChosen start.from start.to start.flows.items taken now.from now.to now.flows.items

pub collected : (octets : List ℕ) (before after : AllTemplates) (count : ℕ) (old new : Chosen) (items : List Flow)
    → old.flows.items ≡ items
    → IsFound Chooses octets before count after old new → (messages : List Accepted)
    → ArePartMessages octets before count messages → (after ≡ templates_from before messages)
    × (new.flows.items ≡ items ++ flows_within old.from old.to (flows_in messages))
collected octets before after count old new items same found messages are =
    let x = found_is Chooses octets before after count old new messages are found in
    let all = x.1 old [] (refl, refl, sym (append-nil old.flows.items)) in (
      x.0,
      all.2 ∙ ap (λ (fs : List Flow). old.flows.items ++ flows_within old.from old.to fs) (flows_in_records messages)
          ∙ ap (λ (fs : List Flow). fs ++ flows_within old.from old.to (flows_in messages)) same,
    )

pub not_collected : (octets : List ℕ) (before : AllTemplates) (number start end count from to : ℕ)
    (messages : List Accepted) (e : ReadRefusal) (old new : List Flow) (after : AllTemplates) {X : Type 0}
    (r : Result X ReadRefusal) → IsErrAnd r (λ x. x ≡ e) → ArePartMessages octets before count messages
    → IsDamage octets before number start end count e → AreCollected before from to old messages r after new
not_collected octets before number start end count from to messages e old new after (Ok x) given are told =
    absurd given
not_collected octets before number start end count from to messages e old new after {X = X} (Err x) given are told =
    subst (λ (y : ReadRefusal). AreCollected {X = X} before from to old messages (Err y) after new) (sym given)
    (by e told)
  where
    by : (e : ReadRefusal) → IsDamage octets before number start end count e
        → AreCollected {X = X} before from to old messages (Err e) after new
    by (Damaged file at) bad = not_stopped octets before start end count at messages are bad.1
    by Fault bad = tt
    by OutOfMemory bad = tt

-- ---- the flows of a part with its prefix

abbrev pub Takes : Flows → List Placed → Flows → Type 0
Takes start taken now = now.flows.items ≡ start.flows.items ++ flows_of_records taken

flows_taken : (old new : Flows) (messages : List Accepted) → old.flows.items ≡ []
    → TookAll Takes old (records_in messages) new → new.flows.items ≡ flows_in messages
flows_taken old new messages none took =
    took old [] (sym (append-nil old.flows.items))
    ∙ ap (λ (fs : List Flow). fs ++ flows_of_records (records_in messages)) none ∙ flows_in_records messages

pub flows_found : (prefix octets : List ℕ) (before after : AllTemplates) (count : ℕ) (old new : Flows)
    → IsRestated prefix before → old.flows.items ≡ [] → IsFound Takes octets before count after old new
    → ArePartFlows prefix octets count new.flows.items
flows_found prefix octets before after count old new restated none (ms, found, state, took) =
    (before, ms, restated, found, flows_taken old new ms none took)

-- a part has one list of flows
pub flows_same : (prefix octets : List ℕ) (count : ℕ) (list flows : List Flow) → ArePartFlows prefix octets count list
    → ArePartFlows prefix octets count flows → flows ≡ list
flows_same prefix octets count list flows (here, ms, restated, are, is) (there, ns, others, found, same) =
    let one = same_restated prefix here there restated others in
    let all = same_read octets here ms ns are.read
    (subst (λ (t : AllTemplates). AreRead octets t ns []) one found.read) in
    same ∙ ap flows_in all ∙ sym is

pub flows_not_told : (prefix octets : List ℕ) (number start end count : ℕ) (list : List Flow) (e : ReadRefusal)
    (r : Result (Vec Flow Global) ReadRefusal) → IsErrAnd r (λ x. x ≡ e) → ArePartFlows prefix octets count list
    → IsPartToldOf prefix octets number start end count e → AreFlowsGiven list r
flows_not_told prefix octets number start end count list e (Ok flows) given are told = absurd given
flows_not_told prefix octets number start end count list e (Err x) given (here, ms, restated, are, is) told =
    subst (λ (y : ReadRefusal). AreFlowsGiven list (Err y)) (sym given) (by e told)
  where
    by : (e : ReadRefusal) → IsPartToldOf prefix octets number start end count e → AreFlowsGiven list (Err e)
    by (Damaged file at) (inl bad) = not_told prefix here number file at restated bad
    by (Damaged file at) (inr (there, others, bad)) =
        not_stopped octets here start end count at ms are
        (subst (λ (t : AllTemplates). IsStoppedAt octets t start end count at)
        (same_restated prefix here there restated others) bad.1)
    by Fault bad = tt
    by OutOfMemory bad = tt

pub prefix_told_of : (prefix octets : List ℕ) (number start end count : ℕ) (e : ReadRefusal)
    → IsPrefixToldOf prefix number e → IsPartToldOf prefix octets number start end count e
prefix_told_of prefix octets number start end count (Damaged file at) bad = inl bad
prefix_told_of prefix octets number start end count Fault bad = tt
prefix_told_of prefix octets number start end count OutOfMemory bad = tt

pub part_told_of : (prefix octets : List ℕ) (before : AllTemplates) (number start end count : ℕ) (e : ReadRefusal)
    → IsRestated prefix before → IsDamage octets before number start end count e
    → IsPartToldOf prefix octets number start end count e
part_told_of prefix octets before number start end count (Damaged file at) restated bad = inr (before, restated, bad)
part_told_of prefix octets before number start end count Fault restated bad = tt
part_told_of prefix octets before number start end count OutOfMemory restated bad = tt
