-- A message by its header, its Sets and its limits, and what a walk over it answers.
use Rattle.std.proofs.Common.{◌≡◌, ℕ, ◌≤◌, List, [], length, ◌⊎◌, inl, inr, Result, Ok, Err, refl, sym, ap, subst, ◌∙◌}
use Rattle.std.proofs.Common.{arith}
use Rattle.std.specs.Prelude.{IfOk, IfErr}
use Rattle.flow_codec.specs.declared.error.MessageError.{MessageError}
use Rattle.flow_codec.specs.declared.error.MessageError.TheVariants.{Short, Version, Length, SetLength, TemplateCut}
use Rattle.flow_codec.specs.declared.error.MessageError.TheVariants.{TemplateId, ScopeCount, RecordCut, TemplatesFull}
use Rattle.flow_codec.specs.declared.error.MessageError.TheVariants.{DomainsFull, OutOfMemory}
use Rattle.flow_codec.specs.declared.sink.WalkError.{WalkError}
use Rattle.flow_codec.specs.declared.sink.WalkError.TheVariants.{Message, Sink}
use Rattle.flow_codec.specs.declared.message.Header.{Header}
use Rattle.flow_codec.specs.declared.walk.Walked.{Walked}
use Rattle.flow_codec.specs.Raw.{RawRecord, RawMessage, Placed, Took}
use Rattle.flow_codec.specs.Templates.{AllTemplates}
use Rattle.flow_codec.specs.Reading.{Fails, Feeds, IsRefused, IsWalked, header_at, sets_at, limited, division_at}
use Rattle.flow_codec.specs.Reading.{message_at}
use Rattle.flow_codec.specs.Message.{IsAccepted}
use Rattle.flow_codec.specs.Fault.{IsFault}
use Rattle.flow_codec.specs.Walk.{IsWalkedBy, IsWalkOf, IsStopped}
use Rattle.flow_codec.specs.Unread.{header_in}
use Rattle.flow_codec.proofs.Steps.{Fails-of, ok_is}
use Rattle.flow_codec.proofs.NumberLaws.{IsBytes}
use Rattle.flow_codec.proofs.MessageLaws.{message_takes, message_again}
use Rattle.flow_codec.proofs.FaultLaws.{fault_is}
use Rattle.flow_codec.proofs.Taking.{takes_none, refused_then}

module _ (before : AllTemplates) (octets : List ℕ) where
  pub header_fails : (e : MessageError) → Fails e (header_at octets) → Fails e (message_at before octets)
  unfolding message_at division_at
  header_fails e h = Fails-of e (header_at octets) (message_at before octets) (λ f is. rw is refl) h

  module _ (header : Header) (rest : List ℕ) (is : header_at octets ≡ Ok (header, rest)) where
    pub sets_fail : (e : MessageError) → Fails e (sets_at (length rest) (length octets) header.domain before rest)
        → Fails e (message_at before octets)
    unfolding message_at division_at
    sets_fail e h = Fails-of e (sets_at (length rest) (length octets) header.domain before rest)
        (message_at before octets) (λ f fails. rw (is, fails) refl) h

    module _ (records : List RawRecord) (after : AllTemplates)
        (sets : sets_at (length rest) (length octets) header.domain before rest ≡ Ok (records, after)) where
      pub limits_fail : (e : MessageError) → Fails e (limited (record { header = header; records = records }) after)
          → Fails e (message_at before octets)
      unfolding message_at division_at
      limits_fail e h = Fails-of e (limited (record { header = header; records = records }) after)
          (message_at before octets) (λ f fails. rw (is, sets, fails) refl) h

      pub message_is : limited (record { header = header; records = records }) after ≡ Ok
          (record { header = header; records = records }, after)
          → message_at before octets ≡ Ok (record { header = header; records = records }, after)
      unfolding message_at division_at
      message_is fits = rw (is, sets, fits) refl

    module _ {S E : Type 0} (holds : S → List Placed → S → Type 0) (refuses : S → List Placed → Placed → E
        → Type 0) (old new : S) where
      pub sets_stop : length rest ≤ length octets → (e : WalkError E)
          → Feeds {X = Unit {0}} (λ _. Unit {0}) (IsRefused holds refuses header old (length rest)) (λ _. before)
          (Err e) (sets_at (length rest) (length octets) header.domain before rest)
          → IsWalked {X = Unit {0}} holds (λ h. IsRefused holds refuses h old (length octets))
          (λ _. (header, before)) old new (Err e) (message_at before octets)
      sets_stop le (Message e) h = sets_fail e h
      sets_stop le (Sink e) h = (
        header,
        refused_then holds header refuses old old [] (length octets) (length rest) e
            (takes_none holds header old) h (omega arith),
      )

-- a message has no fault
pub no_fault : (before : AllTemplates) (octets : List ℕ) (m : RawMessage) (after : AllTemplates) (e : MessageError)
    → Fails e (message_at before octets) → IsAccepted octets before m after → e ≡ OutOfMemory
no_fault before octets m after OutOfMemory h is = refl
no_fault before octets m after Short h is = let e = sym (message_again before octets m after is) ∙ h in absurd cc
no_fault before octets m after Version h is = let e = sym (message_again before octets m after is) ∙ h in absurd cc
no_fault before octets m after Length h is = let e = sym (message_again before octets m after is) ∙ h in absurd cc
no_fault before octets m after (SetLength at) h is = let e = sym (message_again before octets m after is) ∙ h in
    absurd cc
no_fault before octets m after (TemplateCut at) h is = let e = sym (message_again before octets m after is) ∙ h in
    absurd cc
no_fault before octets m after (TemplateId at) h is = let e = sym (message_again before octets m after is) ∙ h in
    absurd cc
no_fault before octets m after (ScopeCount at) h is = let e = sym (message_again before octets m after is) ∙ h in
    absurd cc
no_fault before octets m after (RecordCut at) h is = let e = sym (message_again before octets m after is) ∙ h in
    absurd cc
no_fault before octets m after (TemplatesFull domain) h is = let e = sym (message_again before octets m after is)
    ∙ h in absurd cc
no_fault before octets m after DomainsFull h is = let e = sym (message_again before octets m after is) ∙ h in absurd cc

-- octets that are no message have their first fault
pub has_fault : (before : AllTemplates) (octets : List ℕ) (e : MessageError) → IsBytes octets
    → Fails e (message_at before octets) → (e ≡ OutOfMemory) ⊎ IsFault octets before e
has_fault before octets OutOfMemory fits h = inl refl
has_fault before octets Short fits h = inr (fault_is before octets Short fits h)
has_fault before octets Version fits h = inr (fault_is before octets Version fits h)
has_fault before octets Length fits h = inr (fault_is before octets Length fits h)
has_fault before octets (SetLength at) fits h = inr (fault_is before octets (SetLength at) fits h)
has_fault before octets (TemplateCut at) fits h = inr (fault_is before octets (TemplateCut at) fits h)
has_fault before octets (TemplateId at) fits h = inr (fault_is before octets (TemplateId at) fits h)
has_fault before octets (ScopeCount at) fits h = inr (fault_is before octets (ScopeCount at) fits h)
has_fault before octets (RecordCut at) fits h = inr (fault_is before octets (RecordCut at) fits h)
has_fault before octets (TemplatesFull domain) fits h = inr (fault_is before octets (TemplatesFull domain) fits h)
has_fault before octets DomainsFull fits h = inr (fault_is before octets DomainsFull fits h)

-- what was read is the message
pub same_message : (before : AllTemplates) (octets : List ℕ) (m n : RawMessage) (after other : AllTemplates)
    → message_at before octets ≡ Ok (m, after) → IsAccepted octets before n other → (m ≡ n) × (after ≡ other)
same_message before octets m n after other e h =
    let same = ok_is (m, after) (n, other) (sym e ∙ message_again before octets n other h) in
    (ap (λ (p : RawMessage × AllTemplates). p.0) same, ap (λ (p : RawMessage × AllTemplates). p.1) same)

module _ {S E : Type 0} (holds : S → List Placed → S → Type 0) (refuses : S → List Placed → Placed → E
    → Type 0) (old new : S) (octets : List ℕ) (before now : AllTemplates) where
  abbrev pub WalkedIn : Result Walked (WalkError E) → Type 0
  WalkedIn r = IsWalked holds (λ header. IsRefused holds refuses header old (length octets))
      (λ w. (w.header, now)) old new r (message_at before octets)

  pub is_found : (r : Result Walked (WalkError E)) → IsBytes octets → WalkedIn r
      → IfOk r (λ w. IsWalkedBy holds octets before now old new w.header)
  is_found (Ok w) fits given =
      (given.0, message_takes before octets (record { header = w.header; records = given.0 }, now) fits given.1, given.2)
  is_found (Err e) fits given = tt

  pub is_walk : (r : Result Walked (WalkError E)) (m : RawMessage) (after : AllTemplates) → WalkedIn r
      → IsAccepted octets before m after → IsWalkOf holds refuses (length octets) now old new (header_in r) m after
  is_walk (Ok w) m after given h =
      let same = same_message before octets (record { header = w.header; records = given.0 }) m now after given.1 h in (
        ap (λ (x : RawMessage). x.header) same.0,
        same.1,
        subst (λ (x : RawMessage). Took holds w.header old x.records new) same.0 given.2,
      )
  is_walk (Err (Message e)) m after given h = no_fault before octets m after e given h
  is_walk (Err (Sink e)) m after given h = given

  pub is_stopped : (r : Result Walked (WalkError E)) → IsBytes octets → WalkedIn r
      → IfErr r (λ e. IsStopped holds refuses octets before old e)
  is_stopped (Ok w) fits given = tt
  is_stopped (Err (Message e)) fits given = has_fault before octets e fits given
  is_stopped (Err (Sink e)) fits given = given
