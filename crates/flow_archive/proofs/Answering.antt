-- What is answered to an append.
use Rattle.std.proofs.Common.{◌≡◌, ◌⊎◌, inl, inr, ⊎_elim, ℕ, ◌<◌, ◌≤◌, Bool, false, List, length, Result, Ok}
use Rattle.std.proofs.Common.{Err, refl, sym, ap, subst, arith}
use Rattle.std.proofs.lemmas.List.{nil_from_length}
use Rattle.std.specs.Prelude.{IsErrAnd}
use Rattle.flow_codec.specs.declared.error.MessageError.{MessageError}
use Rattle.flow_codec.specs.declared.error.MessageError.TheVariants as message
use Rattle.flow_codec.specs.Templates.{AllTemplates}
use Rattle.flow_gate.specs.Gate.{octet_sum}
use Rattle.flow_segment.specs.Batch.{IsFirstFault}
use Rattle.flow_segment.specs.Carry.{Carry}
use Rattle.flow_model.specs.State.{State}
use Rattle.flow_model.specs.Chain.{IsSegment}
use Rattle.flow_archive.specs.declared.refusal.ArchiveError.{ArchiveError}
use Rattle.flow_archive.specs.declared.refusal.ArchiveError.TheVariants.{Message, OutOfMemory, NumbersSpent, NotEmpty}
use Rattle.flow_archive.specs.declared.refusal.ArchiveError.TheVariants.{Fault, NoRoom, ManifestFull, NothingToSeal}
use Rattle.flow_archive.specs.declared.refusal.ArchiveError.TheVariants.{Closed}
use Rattle.flow_archive.specs.declared.refusal.ArchiveError.TheVariants.{Damaged, SourceFault, RollBusy, NoRoll}
use Rattle.flow_archive.specs.declared.refusal.ArchiveError.TheVariants.{RollCount, RollNotDone, Pinned, NothingToRetire}
use Rattle.flow_archive.specs.Answers.{AnswersAppend, AnswersSeal, HasPositions, HasRoom, IsNotAdmitted}
use Rattle.flow_archive.specs.Answers.{job_generations, IsNotSealed}
use Rattle.flow_archive.specs.Refusals.{refusal_of}

-- what holds of a refusal that is passed on
pub err_is : {X E : Type 0} (r : Result X E) (e : E) (P : Result X E → Type 0) → IsErrAnd r (λ x. x ≡ e) → P (Err e)
    → P r
err_is (Ok x) e P is holds = absurd is
err_is (Err x) e P is holds = subst (λ y. P (Err y)) (sym is) holds

-- the fault of a message, as a refusal
pub refused_as : (octets : List (List ℕ)) (before : AllTemplates) (e : MessageError)
    → (e ≡ message.OutOfMemory) ⊎ IsFirstFault octets before e → (refusal_of e ≡ OutOfMemory)
    ⊎ ((fault : MessageError) × IsFirstFault octets before fault × (refusal_of e ≡ Message fault))
refused_as octets before message.OutOfMemory is = inl refl
refused_as octets before message.Short (inl is) = absurd (cc)
refused_as octets before message.Short (inr fault) = inr (message.Short, fault, refl)
refused_as octets before message.Version (inl is) = absurd (cc)
refused_as octets before message.Version (inr fault) = inr (message.Version, fault, refl)
refused_as octets before message.Length (inl is) = absurd (cc)
refused_as octets before message.Length (inr fault) = inr (message.Length, fault, refl)
refused_as octets before (message.SetLength at) (inl is) = absurd (cc)
refused_as octets before (message.SetLength at) (inr fault) = inr ((message.SetLength at), fault, refl)
refused_as octets before (message.TemplateCut at) (inl is) = absurd (cc)
refused_as octets before (message.TemplateCut at) (inr fault) = inr ((message.TemplateCut at), fault, refl)
refused_as octets before (message.TemplateId at) (inl is) = absurd (cc)
refused_as octets before (message.TemplateId at) (inr fault) = inr ((message.TemplateId at), fault, refl)
refused_as octets before (message.ScopeCount at) (inl is) = absurd (cc)
refused_as octets before (message.ScopeCount at) (inr fault) = inr ((message.ScopeCount at), fault, refl)
refused_as octets before (message.RecordCut at) (inl is) = absurd (cc)
refused_as octets before (message.RecordCut at) (inr fault) = inr ((message.RecordCut at), fault, refl)
refused_as octets before (message.TemplatesFull domain) (inl is) = absurd (cc)
refused_as octets before (message.TemplatesFull domain) (inr fault) = inr ((message.TemplatesFull domain), fault, refl)
refused_as octets before message.DomainsFull (inl is) = absurd (cc)
refused_as octets before message.DomainsFull (inr fault) = inr (message.DomainsFull, fault, refl)

-- what isn't admitted is refused, and nothing changes
pub not_admitted : (closed : Bool) (s : State) (octets : List (List ℕ)) (carry : Carry) (room positions : ℕ)
    (e : ArchiveError) → closed ≡ false → IsSegment s.active carry → (octet_sum octets ≤ room → HasRoom s (octet_sum
    octets))
    → (room < octet_sum octets → HasRoom s (octet_sum octets) → ⊥)
    → (positions < length octets → HasPositions s (length octets) → ⊥) → IsNotAdmitted octets carry room positions e
    → AnswersAppend closed s octets (Err e) s
not_admitted closed s octets carry room positions (Message fault) still segment fits long many is =
    (still, (carry, segment, is), refl)
not_admitted closed s octets carry room positions NoRoom still segment fits long many is =
    (still, (carry, is.0.0, segment, is.0.1), long is.1, refl)
not_admitted closed s octets carry room positions NumbersSpent still segment fits long many is =
    (still, (carry, is.0.0, segment, is.0.1), fits is.1, many is.2, refl)
not_admitted closed s octets carry room positions OutOfMemory still segment fits long many is = (still, refl)
not_admitted closed s octets carry room positions Fault still segment fits long many is = absurd is
not_admitted closed s octets carry room positions NotEmpty still segment fits long many is = absurd is
not_admitted closed s octets carry room positions (Damaged file at) still segment fits long many is = absurd is
not_admitted closed s octets carry room positions SourceFault still segment fits long many is = absurd is
not_admitted closed s octets carry room positions RollBusy still segment fits long many is = absurd is
not_admitted closed s octets carry room positions NoRoll still segment fits long many is = absurd is
not_admitted closed s octets carry room positions RollCount still segment fits long many is = absurd is
not_admitted closed s octets carry room positions RollNotDone still segment fits long many is = absurd is
not_admitted closed s octets carry room positions Pinned still segment fits long many is = absurd is
not_admitted closed s octets carry room positions NothingToRetire still segment fits long many is = absurd is
not_admitted closed s octets carry room positions ManifestFull still segment fits long many is = absurd is
not_admitted closed s octets carry room positions NothingToSeal still segment fits long many is = absurd is
not_admitted closed s octets carry room positions Closed still segment fits long many is = absurd is

pub not_fault : (octets : List (List ℕ)) (carry : Carry) (room positions : ℕ) (e : ArchiveError)
    → IsNotAdmitted octets carry room positions e → e ≡ Fault → ⊥
not_fault octets carry room positions e is same =
    subst (IsNotAdmitted octets carry room positions) same is

-- a seal that no manifest follows is refused, and nothing changes
pub not_followed : (honest closed : Bool) (s : State) (count : ℕ) (e : ArchiveError) → closed ≡ false
    → count ≡ length s.active.messages → IsNotSealed s.manifest count s.next (job_generations s.job) e
    → AnswersSeal honest closed s (Err e) s
not_followed honest closed s count NothingToSeal still all is =
    (still, nil_from_length s.active.messages (omega (arith, all, is)), refl)
not_followed honest closed s count ManifestFull still all is =
    (still, (λ none. omega (arith, all, is.0, ap (λ (l : List (List ℕ)). length l) none)), is.1, refl)
not_followed honest closed s count NumbersSpent still all is = (
  still,
  (λ none. omega (arith, all, is.0, ap (λ (l : List (List ℕ)). length l) none)),
  is.1,
  (λ numbers. ⊎_elim (λ file. omega (arith, numbers.0, file))
      (λ generation. omega (arith, numbers.1, generation)) is.2),
  refl,
)
not_followed honest closed s count OutOfMemory still all is = (still, refl)
not_followed honest closed s count (Message fault) still all is = absurd is
not_followed honest closed s count NotEmpty still all is = absurd is
not_followed honest closed s count (Damaged file at) still all is = absurd is
not_followed honest closed s count SourceFault still all is = absurd is
not_followed honest closed s count RollBusy still all is = absurd is
not_followed honest closed s count NoRoll still all is = absurd is
not_followed honest closed s count RollCount still all is = absurd is
not_followed honest closed s count RollNotDone still all is = absurd is
not_followed honest closed s count Pinned still all is = absurd is
not_followed honest closed s count NothingToRetire still all is = absurd is
not_followed honest closed s count Fault still all is = absurd is
not_followed honest closed s count NoRoom still all is = absurd is
not_followed honest closed s count Closed still all is = absurd is
