-- Which refusals are failed reads.
use Rattle.std.proofs.Common.{◌≡◌, ◌≢◌, ◌≤◌, ◌∙◌, ℕ, refl, sym, ap, subst, arith}
use Rattle.std.specs.Prelude.{IsErrAnd, OnOk, Result, Ok, Err, IfErr}
use Rattle.flow_disk.specs.Cause.{HasCause, HasRisen}
use Rattle.flow_manifest.specs.declared.error.OpenError.TheVariants as opening
use Rattle.flow_refusals.specs.declared.read_refusal.ReadRefusal.TheVariants as query
use Rattle.flow_several.specs.declared.error.TogetherError.TheVariants as together
use Rattle.flow_several.specs.declared.refusal.SeveralRefusal.{SeveralRefusal}
use Rattle.flow_several.specs.declared.refusal.SeveralRefusal.TheVariants.{Archive, OutOfMemory, SumSpent, Write}
use Rattle.flow_several.specs.declared.refusal.SummingRefusal.{SummingRefusal}
use Rattle.flow_several.specs.declared.refusal.SummingRefusal.TheVariants.{Opening, Sums}
use Rattle.flow_several.specs.Several.{HasReadCause, IsOfAnArchive, IsReadFault}

-- the refusal of a failed read
abbrev pub read_fault : SummingRefusal
read_fault = Sums (together.Query query.Fault)

fault_is : (number : ℕ) (e : SummingRefusal) → IsReadFault (Archive number e) → e ≡ read_fault
fault_is number (Opening e) is = absurd is
fault_is number (Sums (together.Query (query.Damaged file at))) is = absurd is
fault_is number (Sums (together.Query query.Fault)) is = refl
fault_is number (Sums (together.Query query.OutOfMemory)) is = absurd is
fault_is number (Sums together.OtherWidths) is = absurd is
fault_is number (Sums together.SumSpent) is = absurd is

pub refused_by : {X Z : Type 0} (number : ℕ) (e : SummingRefusal) (old before after : ℕ) (r : Result X SummingRefusal)
    → before ≡ old → r ≡ Err e → HasCause read_fault before after r
    → HasReadCause {X = Z} old after (Err (Archive number e))
refused_by {X} {Z} number e old before after r same is cause = record {
  later = omega (arith, cause.later, same);
  done = tt;
  risen = λ fault. subst (λ (k : ℕ). HasRisen k after) same
      (cause.risen (is ∙ ap (λ (x : SummingRefusal). Err x) (fault_is number e fault)));
  other = λ not. subst (λ (r : Result X SummingRefusal). IfErr r (λ x. x ≢ read_fault → after ≡ before)) is cause.other
      (λ fault. not (subst (λ (x : SummingRefusal). IsReadFault (Archive number x)) (sym fault) tt)) ∙ same;
}

-- a count of one's own, added to another
pub cause_added : {X : Type 0} (raised before after : ℕ) (r : Result X SummingRefusal) → HasCause read_fault 0 raised r
    → (raised ≡ 0 → after ≡ before) → (HasRisen 0 raised → HasRisen before after) → before ≤ after
    → HasCause read_fault before after r
cause_added raised before after (Ok x) h none some later = record {
  later = later;
  done = none h.done;
  risen = λ is. some (h.risen is);
  other = tt;
}
cause_added raised before after (Err e) h none some later = record {
  later = later;
  done = tt;
  risen = λ is. some (h.risen is);
  other = λ different. none (h.other different);
}

-- the refusal of an answer, handed on, and one of sums that are made
pub cause_passed : {X Z : Type 0} (e : SummingRefusal) (before now : ℕ) (r : Result Z SummingRefusal)
    → IsErrAnd r (λ x. x ≡ e) → HasCause {T = X} read_fault before now (Err e) → HasCause read_fault before now r
cause_passed {X} {Z} e before now (Ok z) is h = absurd is
cause_passed {X} {Z} e before now (Err x) is h = record {
  later = h.later;
  done = tt;
  risen = λ fault. let same : e ≡ read_fault = cc in h.risen (ap (λ (x : SummingRefusal). Err x) same);
  other = λ different. h.other (λ same. different (is ∙ same));
}

pub cause_quiet : {Z : Type 0} (e : SummingRefusal) (before now : ℕ) (r : Result Z SummingRefusal)
    → IsErrAnd r (λ x. x ≡ e) → e ≢ read_fault → now ≡ before → HasCause read_fault before now r
cause_quiet {Z} e before now (Ok z) is not same = absurd is
cause_quiet {Z} e before now (Err x) is not same = record {
  later = omega (arith, same);
  done = tt;
  risen = λ fault. absurd (not (let this : e ≡ read_fault = cc in this));
  other = λ different. same;
}

pub none_failed : {X : Type 0} (x : X) (before after : ℕ) (r : Result X SummingRefusal) → r ≡ Ok x
    → HasCause read_fault before after r → after ≡ before
none_failed {X} x before after r is cause =
    subst (λ (r : Result X SummingRefusal). OnOk r (after ≡ before)) is cause.done

-- the same cause, of another type of answer
pub passed : {X Z : Type 0} (e : SeveralRefusal) (old new : ℕ) (r : Result Z SeveralRefusal)
    → HasReadCause {X = X} old new (Err e) → IsErrAnd r (λ x. x ≡ e) → HasReadCause old new r
passed {X} {Z} e old new (Ok z) cause is = absurd is
passed {X} {Z} e old new (Err x) cause is = record {
  later = cause.later;
  done = tt;
  risen = subst (λ (e : SeveralRefusal). IsReadFault e → HasRisen old new) (sym is) cause.risen;
  other = subst (λ (e : SeveralRefusal). (IsReadFault e → ⊥) → new ≡ old) (sym is) cause.other;
}

no_fault : (e : SeveralRefusal) → (IsOfAnArchive e → ⊥) → IsReadFault e → ⊥
no_fault (Archive number e) not fault = not tt
no_fault SumSpent not fault = fault
no_fault OutOfMemory not fault = fault
no_fault (Write failed) not fault = fault

pub nothing_failed : {X : Type 0} (old new : ℕ) (r : Result X SeveralRefusal) → new ≡ old
    → IfErr r (λ e. IsOfAnArchive e → ⊥) → HasReadCause old new r
nothing_failed old new (Ok x) same not = record { later = omega (arith, same); done = same; risen = tt; other = tt }
nothing_failed old new (Err e) same not = record {
  later = omega (arith, same);
  done = tt;
  risen = λ fault. absurd (no_fault e not fault);
  other = λ _. same;
}

pub none_read : {X : Type 0} (e : SeveralRefusal) (old new : ℕ) (r : Result X SeveralRefusal) → new ≡ old
    → (IsReadFault e → ⊥) → IsErrAnd r (λ x. x ≡ e) → HasReadCause old new r
none_read {X} e old new (Ok x) same not is = absurd is
none_read {X} e old new (Err x) same not is = record {
  later = omega (arith, same);
  done = tt;
  risen = λ fault. absurd (not (subst IsReadFault is fault));
  other = λ _. same;
}

-- an archive that was opened, by which no call of the disk failed
pub asked_alone : {X : Type 0} (before opened after : ℕ) (r : Result X SummingRefusal) → opened ≡ before → after ≡ opened
    → IfErr r (λ e. e ≢ Opening opening.Fault) → HasCause (Opening opening.Fault) before after r
asked_alone before opened after (Ok x) still same other =
    let here : after ≡ before = same ∙ still in
    record { later = omega (arith, here); done = here; risen = λ is. absurd cc; other = tt }
asked_alone before opened after (Err e) still same other =
    let here : after ≡ before = same ∙ still in
    record {
      later = omega (arith, here);
      done = tt;
      risen = λ is. absurd (other (let this : e ≡ Opening opening.Fault = cc in this));
      other = λ _. here;
    }
