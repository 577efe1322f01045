-- The flows of a sealed segment's messages, and their sums.
use Rattle.std.specs.Prelude.{◌≡◌, ◌≢◌, ◌⊎◌, ⊤, ℕ, ◌+◌, Bool, true, false, nat_le, nat_lt, ◌&&◌, List, [], ◌∷◌, ◌++◌}
use Rattle.std.specs.Prelude.{length, filter, max, Vec, Result, Ok, Err}
use Rattle.std.specs.List.{flat_map, AllByRecursion}
use Rattle.std.specs.declared.alloc.Global.{Global}
use Rattle.flow_refusals.specs.declared.read_refusal.ReadRefusal.{ReadRefusal}
use Rattle.flow_refusals.specs.declared.read_refusal.ReadRefusal.TheVariants.{Damaged, Fault, OutOfMemory}
use Rattle.flow_refusals.specs.declared.sum_refusal.SumRefusal.{SumRefusal}
use Rattle.flow_refusals.specs.declared.sum_refusal.SumRefusal.TheVariants as sum
use Rattle.flow_codec.specs.declared.file.FileError.{FileError}
use Rattle.flow_codec.specs.Cutting.{IsCutOff, IsFileFault}
use Rattle.flow_codec.specs.Message.{joined, IsAccepted}
use Rattle.flow_codec.specs.Raw.{under, Placed, RawMessage}
use Rattle.flow_codec.specs.Templates.{AllTemplates}
use Rattle.flow_measure.specs.declared.flow.Flow.{Flow}
use Rattle.flow_measure.specs.Flows.{flows_of_records, FlowFits}
use Rattle.flow_measure.specs.History.{Accepted, AreAcceptedFrom, flows_in, templates_from}
use Rattle.flow_measure.specs.Sums.{Table, merged, table_of, AllFit}
use Rattle.flow_segment.specs.Carry.{octets_of}
use Rattle.flow_segment.specs.Prefix.{AreRead, IsFaulty, IsPrefixToldOf, IsRestated}

-- The messages of a part, so many, each accepted after those before it, the first under these templates.
pub record ArePartMessages (octets : List ℕ) (before : AllTemplates) (count : ℕ)
    (messages : List Accepted) : Type 0 where
  pub read : AreRead octets before messages []
  pub all : length messages ≡ count

abbrev pub HasMessages : List ℕ → AllTemplates → ℕ → Type 0
HasMessages octets before count = (messages : List Accepted) × ArePartMessages octets before count messages

-- the greatest Export Time of messages, in seconds since 1970; 0 where there are none
abbrev pub greatest_time : List Accepted → ℕ
greatest_time [] = 0
greatest_time (a ∷ more) = max a.message.header.time (greatest_time more)

-- the templates after some accepted messages, the first of them accepted under those of before
abbrev pub AreBehind : AllTemplates → AllTemplates → Type 0
AreBehind before now =
    (messages : List Accepted) × AreAcceptedFrom before messages × (now ≡ templates_from before messages)

-- ---- damage

-- These octets, whose place is `at`, don't begin with an accepted message.
abbrev pub IsNoMessage : ℕ → AllTemplates → List ℕ → Type 0
IsNoMessage at before rest =
    ((fault : FileError) × IsFileFault at rest fault)
    ⊎ ((message : List ℕ) × (more : List ℕ) × IsCutOff message × (rest ≡ message ++ more) × IsFaulty message before)

-- Why a part isn't so many messages accepted under these templates: after some of them no further one begins at this
-- place, or there is another count of them.
abbrev pub IsStoppedAt : List ℕ → AllTemplates → ℕ → ℕ → ℕ → ℕ → Type 0
IsStoppedAt octets before start end count at =
    (messages : List Accepted) × (rest : List ℕ) × AreRead octets before messages rest
    × (((at ≡ start + length (joined (octets_of messages))) × IsNoMessage at (templates_from before messages) rest)
    ⊎ ((at ≡ end) × (rest ≡ []) × (length messages ≢ count)))

-- the damage reported of a part, read under these templates
abbrev pub IsDamage : List ℕ → AllTemplates → ℕ → ℕ → ℕ → ℕ → ReadRefusal → Type 0
IsDamage octets before number start end count (Damaged file at) =
    (file ≡ number) × IsStoppedAt octets before start end count at
IsDamage octets before number start end count Fault = ⊤
IsDamage octets before number start end count OutOfMemory = ⊤

-- ---- the flows of a part with its prefix

-- the flows of a part, under the templates that its prefix restates
abbrev pub ArePartFlows : List ℕ → List ℕ → ℕ → List Flow → Type 0
ArePartFlows prefix octets count flows =
    (before : AllTemplates) × (messages : List Accepted) × IsRestated prefix before
    × ArePartMessages octets before count messages × (flows ≡ flows_in messages)

-- Why there are no flows: damage of the prefix, or of the messages after it.
abbrev pub IsPartToldOf : List ℕ → List ℕ → ℕ → ℕ → ℕ → ℕ → ReadRefusal → Type 0
IsPartToldOf prefix octets number start end count (Damaged file at) =
    IsPrefixToldOf prefix number (Damaged file at)
    ⊎ ((before : AllTemplates) × IsRestated prefix before
    × IsDamage octets before number start end count (Damaged file at))
IsPartToldOf prefix octets number start end count Fault = ⊤
IsPartToldOf prefix octets number start end count OutOfMemory = ⊤

-- These flows are given, unless a read fails or memory runs out.
abbrev pub AreFlowsGiven : List Flow → Result (Vec Flow Global) ReadRefusal → Type 0
AreFlowsGiven list (Ok flows) = flows.items ≡ list
AreFlowsGiven list (Err (Damaged file at)) = ⊥
AreFlowsGiven list (Err Fault) = ⊤
AreFlowsGiven list (Err OutOfMemory) = ⊤

-- ---- flows of a part, collected and added

abbrev pub flows_within : ℕ → ℕ → List Flow → List Flow
flows_within from to flows = filter (λ f. nat_le from f.start && nat_lt f.start to) flows

-- The flows of these messages that start within the span are appended to others, and the templates are those after the
-- messages, unless a read fails or memory runs out.
abbrev pub AreCollected : {X : Type 0} → AllTemplates → ℕ → ℕ → List Flow → List Accepted → Result X ReadRefusal
    → AllTemplates → List Flow → Type 0
AreCollected before from to old messages (Ok _) after new =
    (after ≡ templates_from before messages) × (new ≡ old ++ flows_within from to (flows_in messages))
AreCollected before from to old messages (Err (Damaged file at)) after new = ⊥
AreCollected before from to old messages (Err Fault) after new = ⊤
AreCollected before from to old messages (Err OutOfMemory) after new = ⊤

-- sums, with these flows added
abbrev pub with_flows : List Flow → Table → Table
with_flows flows t = merged t (table_of t.width flows)

-- The flows of these messages are added, and the templates are those after them, unless a sum would pass its type, a
-- read fails, or memory runs out. Each flow's counts fit their types.
abbrev pub AreAdded : {X : Type 0} → AllTemplates → Table → List Accepted → Result X SumRefusal → AllTemplates → Table
    → Type 0
AreAdded before old messages (Ok _) after new =
    (after ≡ templates_from before messages) × (new ≡ with_flows (flows_in messages) old)
    × AllByRecursion FlowFits (flows_in messages)
AreAdded before old messages (Err (sum.Damaged file at)) after new = ⊥
AreAdded before old messages (Err sum.SumSpent) after new =
    (AllFit (with_flows (flows_in messages) old) → ⊥) × AllByRecursion FlowFits (flows_in messages)
AreAdded before old messages (Err sum.Fault) after new = ⊤
AreAdded before old messages (Err sum.OutOfMemory) after new = ⊤

-- Why flows are not added: damage; or accepted messages fill the part, and a sum would pass its type.
abbrev pub IsNotAdded : List ℕ → AllTemplates → ℕ → ℕ → ℕ → ℕ → SumRefusal → Type 0
IsNotAdded octets before number start end count (sum.Damaged file at) =
    IsDamage octets before number start end count (Damaged file at)
IsNotAdded octets before number start end count sum.SumSpent = HasMessages octets before count
IsNotAdded octets before number start end count sum.Fault = ⊤
IsNotAdded octets before number start end count sum.OutOfMemory = ⊤

-- ---- what takes data records

-- Rows have the flows of the records taken, or a sum with these would pass its type.
abbrev pub HasAdded : Table → List Placed → Table → Bool → Type 0
HasAdded start taken now false =
    (now ≡ with_flows (flows_of_records taken) start) × AllByRecursion FlowFits (flows_of_records taken)
HasAdded start taken now true =
    (AllFit (with_flows (flows_of_records taken) start) → ⊥) × AllByRecursion FlowFits (flows_of_records taken)

-- The list has the flows of the records taken that start within.
abbrev pub HasChosen : ℕ → ℕ → List Flow → List Placed → ℕ → ℕ → List Flow → Type 0
HasChosen from to start taken now_from now_to now =
    (now_from ≡ from) × (now_to ≡ to) × (now ≡ start ++ flows_within from to (flows_of_records taken))

-- the data records of messages, each with its message's header
abbrev pub records_in : List Accepted → List Placed
records_in messages = flat_map (λ a. under a.message.header a.message.records) messages

-- A sink took these records, after whatever it had taken before.
abbrev pub TookAll : {S : Type 0} → (S → List Placed → S → Type 0) → S → List Placed → S → Type 0
TookAll {S} holds old records new = (start : S) (before : List Placed) → holds start before old
    → holds start (before ++ records) new

-- the answer on one message, at this place of this file
abbrev pub IsWalkedInto : {X : Type 0} → (X → RawMessage → Type 0) → ℕ → ℕ → List ℕ → AllTemplates → AllTemplates
    → Result X ReadRefusal → Type 0
IsWalkedInto takes file at octets before after (Ok x) =
    (m : RawMessage) × IsAccepted octets before m after × takes x m
IsWalkedInto takes file at octets before after (Err (Damaged f place)) =
    (f ≡ file) × (place ≡ at) × IsFaulty octets before
IsWalkedInto takes file at octets before after (Err Fault) = ⊥
IsWalkedInto takes file at octets before after (Err OutOfMemory) = ⊤
