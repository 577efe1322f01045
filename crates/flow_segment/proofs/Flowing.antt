-- The flows of a part's messages, taken one message after the other.
use Rattle.std.proofs.Common.{◌≡◌, ◌≢◌, ℕ, ◌+◌, ◌≤◌, Bool, true, false, List, [], ◌∷◌, ◌++◌, length, refl, sym}
use Rattle.std.proofs.Common.{ap, subst, Ordering, Less, Equal, Greater}
use Rattle.std.proofs.Common.{◌∙◌, inl, inr, arith}
use Rattle.std.proofs.lemmas.List.{length-append}
use Rattle.std.specs.Prelude.{◌<◌, cond, max, IsTrue, Result, Ok, Err, IsErrAnd, IsErrOf}
use Rattle.std.proofs.lemmas.Cmp.{ranked}
use Rattle.std.specs.Ordering.{is_lt, nat_cmp, ord_max, MatchOrdering}
use Rattle.flow_disk.specs.Cause.{HasCause}
use Rattle.flow_disk.specs.Window.{Window, IsOn}
use Rattle.flow_codec.specs.Cutting.{IsFileFault}
use Rattle.flow_refusals.specs.declared.read_refusal.ReadRefusal.{ReadRefusal}
use Rattle.flow_refusals.specs.declared.read_refusal.ReadRefusal.TheVariants.{Damaged, Fault, OutOfMemory}
use Rattle.flow_codec.specs.Message.{IsAccepted}
use Rattle.flow_codec.specs.Raw.{under, Placed, RawMessage, Took}
use Rattle.flow_codec.specs.Templates.{AllTemplates}
use Rattle.flow_measure.specs.History.{Accepted, templates_from}
use Rattle.flow_measure.proofs.Histories.{accepted_then, after_then}
use Rattle.flow_segment.specs.Part.{rest_of, IsPartStep, Moves}
use Rattle.flow_segment.specs.PartFlows.{greatest_time, records_in, AreBehind, ArePartMessages, IsDamage, IsStoppedAt}
use Rattle.flow_segment.specs.PartFlows.{IsWalkedInto, TookAll}
use Rattle.flow_segment.specs.Prefix.{AreRead, IsFaulty}
use Rattle.flow_segment.specs.Segment.{part_octets}
use Rattle.flow_segment.proofs.Restating.{step_more, Behind}
use Rattle.flow_segment.proofs.Uniqueness.{same_read}
use Rattle.flow_segment.proofs.Taking.{records_then, took_then}

-- so many messages, whose records a sink took, and their greatest Export Time
abbrev pub HasTaken : {S : Type 0} → (S → List Placed → S → Type 0) → S → S → ℕ → ℕ → List Accepted → Type 0
HasTaken holds old now count time messages =
    TookAll holds old (records_in messages) now × (count ≡ length messages) × (time ≡ greatest_time messages)

max_by : (a b : ℕ) (r : Ordering) → MatchOrdering r (b < a) (b ≡ a) (a < b) → max a b ≡ cond (is_lt r) a b
max_by a b Less h = omega (arith, h)
max_by a b Equal h = omega (arith, h)
max_by a b Greater h = omega (arith, h)

pub max_is : (a b : ℕ) → max a b ≡ ord_max nat_cmp a b
max_is a b = max_by a b (nat_cmp b a) (ranked b a (nat_cmp b a) refl)

later_time : (messages : List Accepted) (a : Accepted)
    → greatest_time (messages ++ a ∷ []) ≡ max (greatest_time messages) a.message.header.time
later_time [] a = omega arith
later_time (b ∷ more) a = omega (arith, later_time more a)

-- the templates after one message more
pub behind_more : (before now after : AllTemplates) (octets : List ℕ) (m : RawMessage) → AreBehind before now
    → IsAccepted octets now m after → AreBehind before after
behind_more before now after octets m h is =
    let a : Accepted = record { octets = octets; message = m; after = after } in (
      h.0 ++ a ∷ [],
      accepted_then before h.0 a h.1 (subst (λ (ts : AllTemplates). IsAccepted octets ts m after) h.2 is),
      sym (after_then before h.0 a),
    )

pub behind_kept : (before now after : AllTemplates) → AreBehind before now → after ≡ now → AreBehind before after
behind_kept before now after h same = subst (AreBehind before) (sym same) h

-- what holds of a part that is read up to a window's place
abbrev pub PartSoFar : (List Accepted → Type 0) → Bool → List ℕ → ℕ → ℕ → AllTemplates → AllTemplates → Window → Type 0
PartSoFar Kind honest octets start end before now c =
    IsTrue honest → Behind Kind (part_octets start end octets) start before now c.place (rest_of octets c)
    × IsOn octets c

taken_more : {S : Type 0} (holds : S → List Placed → S → Type 0) (old now new : S) (count time later : ℕ)
    (messages : List Accepted) (a : Accepted) → HasTaken holds old now count time messages
    → Took holds a.message.header now a.message.records new → later ≡ a.message.header.time
    → HasTaken holds old new (count + 1) (max time later) (messages ++ a ∷ [])
taken_more holds old now new count time later messages a h took is = (
  subst (λ (t : List Placed). TookAll holds old t new) (sym (records_then messages a))
      (took_then holds old now new (records_in messages) (under a.message.header a.message.records) h.0 took),
  omega (arith, h.1, length-append messages (a ∷ [])),
  ap (λ t. max t later) h.2 ∙ ap (max (greatest_time messages)) is ∙ sym (later_time messages a),
)

pub part_more : {S : Type 0} (holds : S → List Placed → S → Type 0) (first sink sink_new : S)
    (honest : Bool) (octets : List ℕ) (start end file number at count time later : ℕ)
    (more : Bool) (before now after : AllTemplates) (old new : Window) (message : List ℕ) → more ≡ true
    → PartSoFar (HasTaken holds first sink count time) honest octets start end before now old → Moves old (Ok more) new
    → (IsTrue honest → IsOn octets old → IsOn octets new × IsPartStep octets file old (Ok more) new)
    → message ≡ new.held
    → (m : RawMessage) × IsAccepted message now m after
    × (Took holds m.header sink m.records sink_new × (later ≡ m.header.time))
    → PartSoFar (HasTaken holds first sink_new (count + 1) (max time later)) honest octets start end before after new
part_more holds first sink sink_new honest octets start end file number at count time later false before now after old new message
    go sofar moves step same x =
    absurd cc
part_more holds first sink sink_new honest octets start end file number at count time later true before now after old new message
    go sofar moves step same x = λ h.
    let was = sofar h in
    let s = step h was.1 in
    let m : RawMessage = x.0 in
    let b = was.0 in
    let a : Accepted = record { octets = message; message = m; after = after } in
    let kind = taken_more holds first sink sink_new count time later b.messages a b.kind x.2.0 x.2.1 in (
      step_more (HasTaken holds first sink count time) (HasTaken holds first sink_new (count + 1) (max time later)) octets
          (part_octets start end octets) start file before now after old new message m b s.1 moves.2 same x.1 kind,
      s.0,
    )

pub part_told : (Kind : List Accepted → Type 0) (takes : ℕ → RawMessage → Type 0) (honest : Bool) (octets : List ℕ)
    (start end file number at count : ℕ)
    (more : Bool) (before now after : AllTemplates) (old new : Window) (message : List ℕ) (f place : ℕ) → more ≡ true
    → PartSoFar Kind honest octets start end before now old → Moves old (Ok more) new
    → (IsTrue honest → IsOn octets old → IsOn octets new × IsPartStep octets file old (Ok more) new)
    → message ≡ new.held → at ≡ old.place
    → IsWalkedInto takes number at message now after (Err (Damaged f place)) → IsTrue honest
    → (f ≡ number) × IsStoppedAt (part_octets start end octets) before start end count place
part_told Kind takes honest octets start end file number at count false before now after old new message f place go
    sofar moves step same there x h =
    absurd cc
part_told Kind takes honest octets start end file number at count true before now after old new message f place go
    sofar moves step same there x h =
    let was = sofar h in
    let b = was.0 in
    let s = (step h was.1).1 in (
      x.0,
      (
        b.messages,
        rest_of octets old,
        b.read,
        inl (
          x.1 ∙ there ∙ b.at,
          inr (
            new.held,
            rest_of octets new,
            s.0,
            s.1,
            subst (λ (t : List ℕ). IsFaulty t (templates_from before b.messages)) same
                (subst (λ (ts : AllTemplates). IsFaulty message ts) b.same x.2),
          ),
        ),
      ),
    )

pub walked_told : (Kind : List Accepted → Type 0) (takes : ℕ → RawMessage → Type 0) (honest : Bool) (octets : List ℕ)
    (start end file number at count : ℕ) (more : Bool) (before now after : AllTemplates) (old new : Window)
    (message : List ℕ) (e : ReadRefusal) → more ≡ true
    → PartSoFar Kind honest octets start end before now old → Moves old (Ok more) new
    → (IsTrue honest → IsOn octets old → IsOn octets new × IsPartStep octets file old (Ok more) new)
    → message ≡ new.held → number ≡ file → at ≡ old.place
    → IsWalkedInto takes number at message now after (Err e) → IsTrue honest
    → IsDamage (part_octets start end octets) before file start end count e
walked_told Kind takes honest octets start end file number at count more before now after old new message (Damaged f p)
    go sofar moves step same is there x h =
    let t = part_told Kind takes honest octets start end file number at count more before now after old new message f p
    go sofar moves step same there x h in
    (t.0 ∙ is, t.1)
walked_told Kind takes honest octets start end file number at count more before now after old new message Fault
    go sofar moves step same is there x h = tt
walked_told Kind takes honest octets start end file number at count more before now after old new message OutOfMemory
    go sofar moves step same is there x h = tt

pub advance_told : (Kind : List Accepted → Type 0) (honest : Bool) (octets : List ℕ) (start end file count : ℕ)
    (before now : AllTemplates) (old new : Window) (e : ReadRefusal)
    → PartSoFar Kind honest octets start end before now old
    → (IsTrue honest → IsOn octets old → IsOn octets new × IsPartStep octets file old (Err e) new)
    → IsTrue honest → IsDamage (part_octets start end octets) before file start end count e
advance_told Kind honest octets start end file count before now old new (Damaged f at) sofar step h =
    let was = sofar h in
    let b = was.0 in
    let s = (step h was.1).1 in (
      s.0,
      (
        b.messages,
        rest_of octets old,
        b.read,
        inl (
          s.1 ∙ b.at,
          inl (s.2.0, subst (λ (n : ℕ). IsFileFault n (rest_of octets old) s.2.0) (sym s.1) s.2.1),
        ),
      ),
    )
advance_told Kind honest octets start end file count before now old new Fault sofar step h = tt
advance_told Kind honest octets start end file count before now old new OutOfMemory sofar step h = tt

pub count_told : {S : Type 0} (holds : S → List Placed → S → Type 0) (first sink : S) (more honest : Bool)
    (octets : List ℕ) (start end file number count time all : ℕ) (before now : AllTemplates) (old new : Window)
    → more ≡ false → PartSoFar (HasTaken holds first sink count time) honest octets start end before now old
    → (IsTrue honest → IsOn octets old → IsOn octets new × IsPartStep octets file old (Ok more) new)
    → IsTrue honest → count ≢ all → number ≡ file
    → IsDamage (part_octets start end octets) before file start end all (Damaged number end)
count_told holds first sink true honest octets start end file number count time all before now old new go sofar step h differ
    is = absurd cc
count_told holds first sink false honest octets start end file number count time all before now old new go sofar step h
    differ is =
    let was = sofar h in
    let b = was.0 in
    let s = (step h was.1).1 in
    (is, (b.messages, rest_of octets old, b.read, inr (refl, s.0, λ same. differ (b.kind.1 ∙ same))))

-- all messages, where there are as many as there are to be
pub all_found : {S : Type 0} (holds : S → List Placed → S → Type 0) (first sink : S) (more honest : Bool)
    (octets : List ℕ) (start end file count time all : ℕ) (before now : AllTemplates) (old new : Window)
    → more ≡ false → PartSoFar (HasTaken holds first sink count time) honest octets start end before now old
    → (IsTrue honest → IsOn octets old → IsOn octets new × IsPartStep octets file old (Ok more) new)
    → IsTrue honest → count ≡ all
    → (messages : List Accepted) × ArePartMessages (part_octets start end octets) before all messages
    × (now ≡ templates_from before messages) × TookAll holds first (records_in messages) sink
all_found holds first sink true honest octets start end file count time all before now old new go sofar step h same =
    absurd cc
all_found holds first sink false honest octets start end file count time all before now old new go sofar step h same =
    let was = sofar h in
    let b = was.0 in
    let s = (step h was.1).1 in (
      b.messages,
      record {
        read = subst (λ (t : List ℕ). AreRead (part_octets start end octets) before b.messages t) s.0 b.read;
        all = sym b.kind.1 ∙ same;
      },
      b.same,
      b.kind.0,
    )

-- their greatest Export Time, where the messages are given
pub time_found : {S : Type 0} (holds : S → List Placed → S → Type 0) (first sink : S) (more honest : Bool)
    (octets : List ℕ) (start end file count time all : ℕ) (before now : AllTemplates) (old new : Window)
    → more ≡ false → PartSoFar (HasTaken holds first sink count time) honest octets start end before now old
    → (IsTrue honest → IsOn octets old → IsOn octets new × IsPartStep octets file old (Ok more) new)
    → IsTrue honest → (messages : List Accepted)
    → ArePartMessages (part_octets start end octets) before all messages → time ≡ greatest_time messages
time_found holds first sink true honest octets start end file count time all before now old new go sofar step h messages
    are =
    absurd cc
time_found holds first sink false honest octets start end file count time all before now old new go sofar step h messages
    are =
    let was = sofar h in
    let b = was.0 in
    let s = (step h was.1).1 in
    b.kind.2 ∙ ap greatest_time (same_read (part_octets start end octets) before messages b.messages are.read
    (subst (λ (t : List ℕ). AreRead (part_octets start end octets) before b.messages t) s.0 b.read))

not_fault : (takes : ℕ → RawMessage → Type 0) (number at : ℕ) (message : List ℕ) (now after : AllTemplates)
    (e : ReadRefusal)
    → IsWalkedInto takes number at message now after (Err e) → e ≡ Fault → ⊥
not_fault takes number at message now after (Damaged f p) is same = cc
not_fault takes number at message now after Fault is same = absurd is
not_fault takes number at message now after OutOfMemory is same = cc

err_same : {X : Type 0} (x : ReadRefusal) → IsErrOf {T = X} {E = ReadRefusal} (Err x) Fault → x ≡ Fault
err_same x h = cc

pub walked_cause : {X : Type 0} (takes : ℕ → RawMessage → Type 0) (number at : ℕ) (message : List ℕ)
    (now after : AllTemplates) (e : ReadRefusal) (r : Result X ReadRefusal) (before later : ℕ)
    → IsErrAnd r (λ x. x ≡ e) → IsWalkedInto takes number at message now after (Err e) → later ≡ before
    → HasCause Fault before later r
walked_cause {X = X} takes number at message now after e (Ok x) before later given is same = absurd given
walked_cause {X = X} takes number at message now after e (Err x) before later given is same = record {
  later = omega (arith, same);
  done = tt;
  risen = λ fault. absurd (not_fault takes number at message now after e is (sym given ∙ err_same {X = X} x fault));
  other = λ _. same;
}

pub count_within : (old new : Window) (count : ℕ) (more : Bool) → more ≡ true → Moves old (Ok more) new
    → count ≤ old.place → count + 1 ≤ new.place
count_within old new count false go moves h = absurd cc
count_within old new count true go moves h = omega (arith, moves.0, moves.2, h)
