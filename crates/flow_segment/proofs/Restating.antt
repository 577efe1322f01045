-- Messages of a part, walked one after the other.
use Rattle.std.proofs.Common.{◌≡◌, ◌≢◌, ℕ, ◌+◌, Bool, true, false, List, [], ◌∷◌, ◌++◌, length, refl, sym, ap, subst}
use Rattle.std.proofs.Common.{◌∙◌, ◌≤◌, inl, inr, append_assoc, arith}
use Rattle.std.proofs.lemmas.List.{length-append, append-nil}
use Rattle.std.specs.List.{AllByRecursion}
use Rattle.flow_disk.specs.Window.{Window, IsOn}
use Rattle.flow_codec.specs.declared.message.Header.{Header}
use Rattle.flow_codec.specs.Raw.{under, RawMessage, RawRecord}
use Rattle.flow_codec.specs.Templates.{AllTemplates}
use Rattle.flow_codec.specs.Message.{joined, IsAccepted}
use Rattle.flow_codec.specs.Cutting.{IsCutOff}
use Rattle.flow_measure.specs.History.{Accepted, templates_from}
use Rattle.flow_measure.proofs.Histories.{accepted_then, after_then}
use Rattle.flow_segment.specs.Carry.{octets_of}
use Rattle.flow_refusals.specs.declared.read_refusal.ReadRefusal.{ReadRefusal}
use Rattle.flow_refusals.specs.declared.read_refusal.ReadRefusal.TheVariants.{Damaged, Fault, OutOfMemory}
use Rattle.std.specs.Prelude.{IsTrue, Ok, Err}
use Rattle.flow_segment.specs.Part.{rest_of, IsPartStep, Moves}
use Rattle.flow_segment.specs.Segment.{part_octets}
use Rattle.flow_segment.specs.Prefix.{AreRead, AreSeen, HaveNoRecords, IsNoRestatement, IsPrefixToldOf, IsRestating}

pub none_seen : (header : Header) (records : List RawRecord) (any : Bool) → any ≡ false
    → AreSeen false (under header records) any → records ≡ []
none_seen header [] any is h = refl
none_seen header (r ∷ rs) true is h = absurd cc
none_seen header (r ∷ rs) false is h = absurd (by h.1)
  where
    by : {A : Type 0} {x : A} {xs : List A} → x ∷ xs ≡ [] → ⊥
    by same = cc

pub some_seen : (header : Header) (records : List RawRecord) (any : Bool) → any ≡ true
    → AreSeen false (under header records) any → records ≢ []
some_seen header records false is h = absurd cc
some_seen header [] true is (inl wrong) = absurd cc
some_seen header [] true is (inr some) = absurd (some refl)
some_seen header (r ∷ rs) true is h = λ same. cc

-- What was read so far of octets whose place is `from`: messages of this kind, under these templates.
pub record Behind (Kind : List Accepted → Type 0) (octets : List ℕ) (from : ℕ) (before now : AllTemplates) (place : ℕ)
    (rest : List ℕ) : Type 0 where
  pub messages : List Accepted
  pub read : AreRead octets before messages rest
  pub kind : Kind messages
  pub same : now ≡ templates_from before messages
  pub at : place ≡ from + length (joined (octets_of messages))

joined_more : (ms : List Accepted) (a : Accepted)
    → joined (octets_of (ms ++ a ∷ [])) ≡ joined (octets_of ms) ++ a.octets
joined_more [] a = append-nil a.octets
joined_more (m ∷ ms) a =
    ap (λ (t : List ℕ). m.octets ++ t) (joined_more ms a)
    ∙ sym (append_assoc m.octets (joined (octets_of ms)) a.octets)

cut_more : (ms : List Accepted) (a : Accepted) → AllByRecursion IsCutOff (octets_of ms) → IsCutOff a.octets
    → AllByRecursion IsCutOff (octets_of (ms ++ a ∷ []))
cut_more [] a each is = (is, tt)
cut_more (m ∷ ms) a each is = (each.0, cut_more ms a each.1 is)

pub none_more : (ms : List Accepted) (a : Accepted) → HaveNoRecords ms → a.message.records ≡ []
    → HaveNoRecords (ms ++ a ∷ [])
none_more [] a each is = (is, tt)
none_more (m ∷ ms) a each is = (each.0, none_more ms a each.1 is)

-- one message more
pub one_more : (Kind Next : List Accepted → Type 0) (octets : List ℕ) (from : ℕ) (before now after : AllTemplates)
    (place next : ℕ) (rest more octets_of_one : List ℕ) (m : RawMessage)
    (b : Behind Kind octets from before now place rest)
    → IsCutOff octets_of_one → rest ≡ octets_of_one ++ more → next ≡ place + length octets_of_one
    → IsAccepted octets_of_one now m after
    → Next (b.messages ++ record { octets = octets_of_one; message = m; after = after } ∷ [])
    → Behind Next octets from before after next more
one_more Kind Next octets from before now after place next rest more one m b cut split on is kind =
    let a : Accepted = record { octets = one; message = m; after = after } in
    let ms = b.messages in
    let join = joined_more ms a in
    record {
      messages = ms ++ a ∷ [];
      read =
          record {
            divided =
                record {
                  whole = b.read.divided.whole ∙ ap (λ (t : List ℕ). joined (octets_of ms) ++ t) split
                      ∙ sym (append_assoc (joined (octets_of ms)) one more)
                      ∙ ap (λ (t : List ℕ). t ++ more) (sym join);
                  each = cut_more ms a b.read.divided.each cut;
                };
            accepted =
                accepted_then before ms a b.read.accepted
                (subst (λ (ts : AllTemplates). IsAccepted one ts m after) b.same is);
          };
      kind = kind;
      same = sym (after_then before ms a);
      at =
          (let size : length (joined (octets_of (ms ++ a ∷ []))) ≡ length (joined (octets_of ms)) + length one =
          ap length join ∙ length-append (joined (octets_of ms)) one in
          let at : place ≡ from + length (joined (octets_of ms)) = b.at in
          omega (arith, size, at, on));
    }

-- ---- a step over a part, and its message

-- a message at a window's place is one more
pub step_more : (Kind Next : List Accepted → Type 0) (octets whole : List ℕ) (from file : ℕ)
    (before now after : AllTemplates)
    (old new : Window) (message : List ℕ) (m : RawMessage)
    (b : Behind Kind whole from before now old.place (rest_of octets old))
    → IsPartStep octets file old (Ok true) new → new.place ≡ old.place + length new.held → message ≡ new.held
    → IsAccepted message now m after
    → Next (b.messages ++ record { octets = message; message = m; after = after } ∷ [])
    → Behind Next whole from before after new.place (rest_of octets new)
step_more Kind Next octets whole from file before now after old new message m b step place same is kind =
    one_more Kind Next whole from before now after old.place new.place (rest_of octets old) (rest_of octets new)
    message m b
    (subst IsCutOff (sym same) step.0)
    (step.1 ∙ ap (λ (t : List ℕ). t ++ rest_of octets new) (sym same))
    (place ∙ ap (λ (t : List ℕ). old.place + length t) (sym same)) is kind

pub moves_within : (old new : Window) (more : Bool) → more ≡ true → Moves old (Ok more) new → new.place ≤ new.end
moves_within old new false go moves = absurd cc
moves_within old new true go moves = moves.3

-- what holds of a prefix that is read up to a window's place
abbrev pub PrefixSoFar : Bool → List ℕ → ℕ → AllTemplates → Window → Type 0
PrefixSoFar honest octets prefix now c =
    IsTrue honest → Behind HaveNoRecords (part_octets 0 prefix octets) 0 [] now c.place (rest_of octets c)
    × IsOn octets c

pub prefix_more : (honest : Bool) (octets : List ℕ) (prefix file number at : ℕ) (more : Bool) (now after : AllTemplates)
    (old new : Window) (message : List ℕ) → more ≡ true → PrefixSoFar honest octets prefix now old
    → Moves old (Ok more) new
    → (IsTrue honest → IsOn octets old → IsOn octets new × IsPartStep octets file old (Ok more) new)
    → message ≡ new.held
    → (m : RawMessage) × IsAccepted message now m after × (m.records ≡ [])
    → PrefixSoFar honest octets prefix after new
prefix_more honest octets prefix file number at false now after old new message go sofar moves step same x =
    absurd cc
prefix_more honest octets prefix file number at true now after old new message go sofar moves step same x = λ h.
    let was = sofar h in
    let s = step h was.1 in
    let m : RawMessage = x.0 in (
      step_more HaveNoRecords HaveNoRecords octets (part_octets 0 prefix octets) 0 file [] now after old new message m
          was.0 s.1
          moves.2 same x.1
          (none_more was.0.messages (record { octets = message; message = m; after = after }) was.0.kind x.2),
      s.0,
    )

from_zero : (a b : ℕ) → a ≡ 0 + b → a ≡ b
from_zero a b h = omega (arith, h)

pub prefix_told : (honest : Bool) (octets : List ℕ) (prefix file number at : ℕ) (more : Bool)
    (now after : AllTemplates) (old new : Window) (message : List ℕ) (e : ReadRefusal) → more ≡ true
    → PrefixSoFar honest octets prefix now old → Moves old (Ok more) new
    → (IsTrue honest → IsOn octets old → IsOn octets new × IsPartStep octets file old (Ok more) new)
    → message ≡ new.held → number ≡ file → at ≡ old.place
    → IsRestating {X = Unit {0}} number at message now after (Err e) → IsTrue honest
    → IsPrefixToldOf (part_octets 0 prefix octets) file e
prefix_told honest octets prefix file number at false now after old new message e go sofar moves step same f p x h =
    absurd cc
prefix_told honest octets prefix file number at true now after old new message (Damaged f place) go sofar moves step
    same is there x h =
    let was = sofar h in
    let b = was.0 in
    let s = (step h was.1).1 in (
      x.0 ∙ is,
      b.messages,
      rest_of octets old,
      b.read,
      b.kind,
      x.1 ∙ there ∙ from_zero old.place (length (joined (octets_of b.messages))) b.at,
      inr (
        new.held,
        rest_of octets new,
        s.0,
        s.1,
        subst (λ (t : List ℕ). IsNoRestatement t (templates_from [] b.messages)) same
            (subst (λ (ts : AllTemplates). IsNoRestatement message ts) b.same x.2),
      ),
    )
prefix_told honest octets prefix file number at true now after old new message Fault go sofar moves step same is there
    x h = tt
prefix_told honest octets prefix file number at true now after old new message OutOfMemory go sofar moves step same is
    there x h = tt
