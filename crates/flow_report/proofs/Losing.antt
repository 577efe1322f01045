-- What the messages of a File show of records that aren't read, one message after the other.
use Rattle.std.proofs.Common.{◌≡◌, ◌∙◌, ℕ, ◌+◌, ◌%◌, ◌^◌, Bool, List, [], ◌∷◌, ◌++◌, Option, None, Some, length}
use Rattle.std.proofs.Common.{refl, sym, ap, ap₂, subst, append-nil, append_assoc, eqb-true, eq-eqb, IfSome}
use Rattle.std.specs.Prelude.{true, false, cond, nat_eq, Ok, if◌then◌else◌}
use Rattle.std.specs.Io.KnownBytes.{Consumes, IsAtEnd}
use Rattle.std.specs.Map.{lookup}
use Rattle.indexmap.specs.IndexMap.{insert_entry}
use Rattle.flow_codec.specs.declared.losses.Losses.{Losses}
use Rattle.flow_codec.specs.declared.walk.Walked.{Walked}
use Rattle.flow_codec.specs.Losses.{both_losses, losses_of, no_losses}
use Rattle.flow_codec.specs.Message.{IsAccepted}
use Rattle.flow_codec.specs.Raw.{RawMessage, RawRecord}
use Rattle.flow_codec.specs.Stream.{Progress, IsStep}
use Rattle.flow_codec.specs.Templates.{AllTemplates}
use Rattle.flow_codec.specs.Unread.{counted, unread_of}
use Rattle.flow_report.specs.Lacks.{due_after, joined_back, losses_after, lost_in, ArePassed, HasLosses, Passed}

-- a look-up after a key has got a value
pub lookup_after : {V : Type 0} (d k : ℕ) (v : V) (es : List (ℕ × V))
    → lookup (nat_eq d) (insert_entry nat_eq es k v) ≡ cond (nat_eq d k) (Some v) (lookup (nat_eq d) es)
lookup_after d k v [] = refl
lookup_after {V} d k v (e ∷ es) = by (nat_eq k e.0) refl (lookup_after d k v es)
  where
    here : (b c : Bool) → b ≡ c → cond b (Some v) (lookup (nat_eq d) es)
        ≡ cond c (Some v) (cond b (Some e.1) (lookup (nat_eq d) es))
    here true true s = refl
    here false false s = refl
    here true false s = absurd cc
    here false true s = absurd cc

    there : (b c : Bool) → (b ≡ true → c ≡ true → ⊥)
        → cond b (Some e.1) (cond c (Some v) (lookup (nat_eq d) es))
        ≡ cond c (Some v) (cond b (Some e.1) (lookup (nat_eq d) es))
    there true true s = absurd (s refl refl)
    there true false s = refl
    there false true s = refl
    there false false s = refl

    by : (b : Bool) → nat_eq k e.0 ≡ b
        → lookup (nat_eq d) (insert_entry nat_eq es k v) ≡ cond (nat_eq d k) (Some v) (lookup (nat_eq d) es)
        → lookup (nat_eq d) (insert_entry nat_eq (e ∷ es) k v)
        ≡ cond (nat_eq d k) (Some v) (lookup (nat_eq d) (e ∷ es))
    by true s rest =
        ap (λ (b : Bool). lookup (nat_eq d) (if b then (e.0, v) ∷ es else e ∷ insert_entry nat_eq es k v)) s
        ∙ here (nat_eq d e.0) (nat_eq d k) (ap (nat_eq d) (sym (eqb-true k e.0 s)))
    by false s rest =
        let apart : nat_eq d e.0 ≡ true → nat_eq d k ≡ true → ⊥ = λ p q.
        let wrong = sym (eq-eqb k e.0 (sym (eqb-true d k q) ∙ eqb-true d e.0 p)) ∙ s in absurd cc in
        ap (λ (b : Bool). lookup (nat_eq d) (if b then (e.0, v) ∷ es else e ∷ insert_entry nat_eq es k v)) s
        ∙ ap (λ (r : Option V). cond (nat_eq d e.0) (Some e.1) r) rest
        ∙ there (nat_eq d e.0) (nat_eq d k) apart

-- what the messages show that a reader gave, and the Sequence Numbers that are due after them
pub record HasLacked (old left : Option (List ℕ)) (here : AllTemplates) (losses : Losses)
    (due : List (ℕ × ℕ)) : Type 0 where
  pub parts : List (List ℕ)
  pub passed : List Passed
  pub each : ArePassed parts passed here
  pub divided : IfSome old (λ octets. (rest : List ℕ) × (left ≡ Some rest) × (octets ≡ joined_back parts ++ rest))
  pub losses_are : losses ≡ losses_after passed
  pub due_are : (d : ℕ) → lookup (nat_eq d) due ≡ due_after d passed

-- before the first message
pub none_lacked : (old left : Option (List ℕ)) (here : AllTemplates) (losses : Losses) (due : List (ℕ × ℕ))
    → left ≡ old → here ≡ [] → losses ≡ no_losses → due ≡ [] → HasLacked old left here losses due
none_lacked old left here losses due all none nothing nowhere =
    subst (λ (o : Option (List ℕ)). HasLacked old o here losses due) (sym all) (record {
      parts = [];
      passed = [];
      each = none;
      divided = from old;
      losses_are = nothing;
      due_are = λ d. ap (lookup (nat_eq d)) nowhere;
    })
  where
    from : (o : Option (List ℕ)) → IfSome o (λ octets. (rest : List ℕ) × (o ≡ Some rest) × (octets ≡ rest))
    from None = tt
    from (Some octets) = (octets, refl, refl)

-- one message more of known octets
part_more : (old left after : Option (List ℕ)) (front part : List ℕ)
    → IfSome old (λ octets. (rest : List ℕ) × (left ≡ Some rest) × (octets ≡ front ++ rest)) → Consumes left after part
    → IfSome old (λ octets. (rest : List ℕ) × (after ≡ Some rest) × (octets ≡ (front ++ part) ++ rest))
part_more None left after front part so_far took = tt
part_more (Some octets) left None front part (rest, is, divided) took =
    absurd (subst (λ (o : Option (List ℕ)). Consumes o None part) is took)
part_more (Some octets) left (Some more) front part (rest, is, divided) took =
    let here : rest ≡ part ++ more = subst (λ (o : Option (List ℕ)). Consumes o (Some more) part) is took in (
      more,
      refl,
      divided ∙ ap (λ (xs : List ℕ). front ++ xs) here ∙ sym (append_assoc front part more),
    )

pub lacked_more : (old : Option (List ℕ)) (r0 r1 : Progress) (h0 h1 : AllTemplates) (l0 l1 : Losses)
    (d0 d1 : List (ℕ × ℕ)) (walked : Walked) (count : ℕ) (records : List RawRecord)
    → HasLacked old r0.rest h0 l0 d0 → IsStep r0 (Ok true) r1
    → IsAccepted r1.message h0 (record { header = walked.header; records = records }) h1
    → walked.unread ≡ counted (unread_of h0 r1.message) → count ≡ length records
    → l1 ≡ both_losses l0 (losses_of walked (lookup (nat_eq walked.header.domain) d0))
    → d1 ≡ insert_entry nat_eq d0 walked.header.domain ((walked.header.sequence + count) % 2 ^ 32)
    → HasLacked old r1.rest h1 l1 d1
lacked_more old r0 r1 h0 h1 l0 l1 d0 d1 walked count records s step accepted unread all lost grown =
    let m : RawMessage = record { header = walked.header; records = records } in
    let p : Passed = record { message = m; unread = walked.unread } in
    let domain = walked.header.domain in
    let number = λ (n : ℕ). (walked.header.sequence + n) % 2 ^ 32 in
    record {
      parts = r1.message ∷ s.parts;
      passed = p ∷ s.passed;
      each = (h0, s.each, step.2, accepted, unread);
      divided = part_more old r0.rest r1.rest (joined_back s.parts) r1.message s.divided step.3;
      losses_are =
          lost ∙ ap₂ (λ (l : Losses) (due : Option ℕ). both_losses l (lost_in p due)) s.losses_are (s.due_are domain);
      due_are = λ d.
          ap (lookup (nat_eq d)) grown ∙ lookup_after d domain (number count) d0
          ∙ ap₂ (λ (n : ℕ) (rest : Option ℕ). cond (nat_eq d domain) (Some (number n)) rest) all (s.due_are d);
    }

-- at the File's end
pub all_lacked : (old : Option (List ℕ)) (reader next : Progress) (here : AllTemplates) (losses : Losses)
    (due : List (ℕ × ℕ)) → HasLacked old reader.rest here losses due → IsStep reader (Ok false) next
    → IfSome old (λ octets. HasLosses octets losses)
all_lacked old reader next here losses due s step = by old s.divided
  where
    by : (o : Option (List ℕ))
        → IfSome o (λ octets. (rest : List ℕ) × (reader.rest ≡ Some rest) × (octets ≡ joined_back s.parts ++ rest))
        → IfSome o (λ octets. HasLosses octets losses)
    by None divided = tt
    by (Some octets) (rest, left, divided) =
        let none : rest ≡ [] = subst (λ (o : Option (List ℕ)). IsAtEnd o) left step.3 in (
          s.parts,
          s.passed,
          here,
          divided ∙ ap (λ (xs : List ℕ). joined_back s.parts ++ xs) none ∙ append-nil (joined_back s.parts),
          s.each,
          s.losses_are,
        )
