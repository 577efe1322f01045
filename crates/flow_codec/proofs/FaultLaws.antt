-- The first fault of a message: what reading answers is one, and each is answered.
use Rattle.std.proofs.Common.{◌≡◌, ℕ, ◌+◌, ◌-◌, ◌^◌, ◌<◌, ◌≤◌, true, false, cond, ltb, eqb, List, ◌++◌, length, take}
use Rattle.std.proofs.Common.{drop, Result, Ok, Err, refl, sym, ap, subst, ◌∙◌, append_assoc, arith, inl, inr, ◌⊎◌}
use Rattle.std.specs.Int.{w16, w32, from_be_bytes, to_be_bytes}
use Rattle.std.proofs.lemmas.Bool.{ltb-false, ltb-true, le-ltb, lt-ltb, ne_eqb, eqb-false, eqb-true}
use Rattle.std.proofs.lemmas.List.{take_at}
use Rattle.flow_codec.specs.declared.error.MessageError.{MessageError}
use Rattle.flow_codec.specs.declared.error.MessageError.TheVariants.{Short, Version, Length, TemplatesFull, DomainsFull}
use Rattle.flow_codec.specs.declared.message.Header.{Header}
use Rattle.flow_codec.specs.Raw.{RawRecord, RawMessage}
use Rattle.flow_codec.specs.Templates.{AllTemplates, definitions_of, domain_size}
use Rattle.flow_codec.specs.Reading.{◌>>=◌, number_at, sets_at, header_at, behind_length, behind_version, limited}
use Rattle.flow_codec.specs.Reading.{division_at, message_at}
use Rattle.flow_codec.specs.Message.{header_octets, Front, IsMessage, IsAccepted}
use Rattle.flow_codec.specs.Fault.{IsHeaderFault, IsSetFault, IsTooMuch, IsFault, IsAnswered}
use Rattle.flow_codec.proofs.Steps.{ok_is, bind_err, past_err, chosen}
use Rattle.flow_codec.proofs.NumberLaws.{IsBytes, Takes, Takes-then, wide16, wide32, number_takes, number_again}
use Rattle.flow_codec.proofs.NumberLaws.{number_cut}
use Rattle.flow_codec.proofs.FieldLaws.{suffix}
use Rattle.flow_codec.proofs.TemplateFaults.{has}
use Rattle.flow_codec.proofs.SetLaws.{all_octets, sets_go_on}
use Rattle.flow_codec.proofs.SetFaults.{sets_fault, set_fault_again}
use Rattle.flow_codec.proofs.MessageLaws.{header_takes, header_again, division_takes, division_again, message_takes}
use Rattle.flow_codec.proofs.MessageLaws.{message_again}

-- ---- the header

header_fault : (octets : List ℕ) (d : MessageError) → IsBytes octets → header_at octets ≡ Err d → IsHeaderFault octets d
unfolding header_at
header_fault octets d fits e =
    elim (past_err (ltb (length octets) 16) Short (number_at Short w16 octets >>=
    λ version. behind_version octets version.0 version.1) d e) [
      | inl w ↦ inl (ltb-true _ _ w.0, w.1)
      | inr v ↦
          let long : 16 ≤ length octets = ltb-false _ _ v.0 in
          elim (bind_err (number_at Short w16 octets) (λ version. behind_version octets version.0 version.1) d v.1) [
            | inl w ↦ let n = number_cut Short w16 octets d w in absurd (omega arith)
            | inr a ↦
                let t0 = number_takes Short w16 (2 ^ 16) wide16 octets a.0 fits a.1 in
                let len0 : length octets ≡ 2 + length (a.0).1 = omega (arith, ap length (t0.0).parts) in
                elim (chosen (eqb (a.0).0 10) (number_at Short w16 (a.0).1 >>= λ len. behind_length octets len.0 len.1)
                (Err Version) (Err d) a.2) [
                  | inl u ↦
                      let ten : (a.0).0 ≡ 10 = eqb-true _ _ u.0 in
                      elim (bind_err (number_at Short w16 (a.0).1) (λ len. behind_length octets len.0 len.1) d u.1) [
                        | inl w ↦ let n = number_cut Short w16 (a.0).1 d w in absurd (omega arith)
                        | inr b ↦
                            let t1 = number_takes Short w16 (2 ^ 16) wide16 (a.0).1 b.0 (t0.0).rest_fits b.1 in
                            let len1 : length (a.0).1 ≡ 2 + length (b.0).1 = omega (arith, ap length (t1.0).parts) in
                            let first : Takes octets (to_be_bytes w16 10) (a.0).1 =
                            subst (λ (n : ℕ). Takes octets (to_be_bytes w16 n) (a.0).1) ten t0.0 in
                            let both = Takes-then octets (to_be_bytes w16 10) (a.0).1 (to_be_bytes w16 (b.0).0)
                            (b.0).1 first t1.0 in
                            elim (chosen (eqb (b.0).0 (length octets)) (number_at Short w32 (b.0).1 >>=
                            λ time. number_at Short w32 time.1 >>= λ sequence. number_at Short w32 sequence.1 >>=
                            λ domain. Ok (made (b.0).0 time.0 sequence.0 domain.0, domain.1)) (Err Length)
                            (Err d) b.2) [
                              | inl t ↦
                                  elim (bind_err (number_at Short w32 (b.0).1) (λ time. number_at Short w32 time.1 >>=
                                  λ sequence. number_at Short w32 sequence.1 >>=
                                  λ domain. Ok (made (b.0).0 time.0 sequence.0 domain.0, domain.1)) d t.1) [
                                    | inl w ↦ let n = number_cut Short w32 (b.0).1 d w in absurd (omega arith)
                                    | inr c ↦
                                        let t2 = number_takes Short w32 (2 ^ 32) wide32 (b.0).1 c.0
                                        (t1.0).rest_fits c.1 in
                                        let len2 : length (b.0).1 ≡ 4 + length (c.0).1 =
                                        omega (arith, ap length (t2.0).parts) in
                                        elim (bind_err (number_at Short w32 (c.0).1)
                                        (λ sequence. number_at Short w32 sequence.1 >>=
                                        λ domain. Ok (made (b.0).0 (c.0).0 sequence.0 domain.0, domain.1)) d c.2) [
                                          | inl w ↦ let n = number_cut Short w32 (c.0).1 d w in absurd (omega arith)
                                          | inr f ↦
                                              let t3 = number_takes Short w32 (2 ^ 32) wide32 (c.0).1 f.0
                                              (t2.0).rest_fits f.1 in
                                              let len3 : length (c.0).1 ≡ 4 + length (f.0).1 =
                                              omega (arith, ap length (t3.0).parts) in
                                              elim (bind_err (number_at Short w32 (f.0).1)
                                              (λ domain. Ok (
                                                made (b.0).0 (c.0).0 (f.0).0 domain.0,
                                                domain.1,
                                              )) d f.2) [
                                                | inl w ↦ let n = number_cut Short w32 (f.0).1 d w in
                                                    absurd (omega arith)
                                                | inr g ↦ let no = g.2 in absurd cc
                                              ]
                                        ]
                                  ]
                              | inr t ↦ let same = t.1 in
                                  inr (inr (long, (b.0).0, (b.0).1, both.parts, t1.1, eqb-false _ _ t.0, cc))
                            ]
                      ]
                  | inr u ↦
                      let same = u.1 in
                      inr (inl (
                        long,
                        (λ rest h. eqb-false _ _ u.0
                            (version_is (a.0).0 rest t0.1
                            (sym (ap (λ (o : List ℕ). from_be_bytes w16 (take 2 o)) (t0.0).parts
                            ∙ number (a.0).0 (a.0).1 t0.1) ∙ ap (λ (o : List ℕ). from_be_bytes w16 (take 2 o)) h))),
                        cc,
                      ))
                ]
          ]
    ]
  where
    made : ℕ → ℕ → ℕ → ℕ → Header
    made len time sequence domain = record { length = len; time = time; sequence = sequence; domain = domain }

    number : (n : ℕ) (rest : List ℕ) → n < 2 ^ 16 → from_be_bytes w16 (take 2 (to_be_bytes w16 n ++ rest)) ≡ n
    number n rest lt = ap (from_be_bytes w16) (take_at (to_be_bytes w16 n) rest 2 refl) ∙ wide16.again n lt

    version_is : (n : ℕ) (rest : List ℕ) → n < 2 ^ 16 → n ≡ from_be_bytes w16 (take 2 (to_be_bytes w16 10 ++ rest))
        → n ≡ 10
    version_is n rest lt e = e ∙ number 10 rest (omega arith)

header_fault_again : (octets : List ℕ) (d : MessageError) → IsBytes octets → IsHeaderFault octets d
    → header_at octets ≡ Err d
unfolding header_at
header_fault_again octets d fits (inl (short, is)) = let e : ltb (length octets) 16 ≡ true = lt-ltb _ _ short in
    rw (e, is) refl
header_fault_again octets d fits (inr (inl (long, other, is))) =
    let e : ltb (length octets) 16 ≡ false = le-ltb _ _ long in
    let first = has Short w16 octets (omega arith) in
    let t = number_takes Short w16 (2 ^ 16) wide16 octets (
      from_be_bytes w16 (take 2 octets),
      drop 2 octets,
    ) fits first in
    let ten : eqb (from_be_bytes w16 (take 2 octets)) 10 ≡ false =
    ne_eqb (from_be_bytes w16 (take 2 octets)) 10 (λ h. other (drop 2 octets) ((t.0).parts
    ∙ ap (λ (n : ℕ). to_be_bytes w16 n ++ drop 2 octets) h)) in
    rw (e, first, ten, is) refl
header_fault_again octets d fits (inr (inr (long, len, rest, parts, below, differs, is))) =
    let e : ltb (length octets) 16 ≡ false = le-ltb _ _ long in
    let flat : octets ≡ to_be_bytes w16 10 ++ (to_be_bytes w16 len ++ rest) = parts
    ∙ append_assoc (to_be_bytes w16 10) (to_be_bytes w16 len) rest in
    let first : number_at Short w16 octets ≡ Ok (10, to_be_bytes w16 len ++ rest) = ap (number_at Short w16) flat
    ∙ number_again Short w16 (2 ^ 16) wide16 10 (to_be_bytes w16 len ++ rest) (omega arith) in
    let test : eqb len (length octets) ≡ false = ne_eqb len (length octets) differs in
    rw (e, first, number_again Short w16 (2 ^ 16) wide16 len rest below, test, is) refl

-- ---- the Sets

-- a Set that is wrong, after the header and whole Sets
abbrev IsBehindFront : List ℕ → AllTemplates → MessageError → Type 0
IsBehindFront octets before d =
    (header : Header) × (records : List RawRecord) × (here : AllTemplates) × (at : ℕ) × (tail : List ℕ)
    × Front octets before header records here at tail × IsSetFault header.domain here at tail d

division_fault : (before : AllTemplates) (octets : List ℕ) (d : MessageError) → IsBytes octets
    → division_at before octets ≡ Err d → IsHeaderFault octets d ⊎ IsBehindFront octets before d
unfolding division_at
division_fault before octets d fits e =
    elim (bind_err (header_at octets)
    (λ header. sets_at (length header.1) (length octets) header.0.domain before header.1 >>=
    λ sets. Ok (made header.0 sets.0, sets.1)) d e) [
      | inl w ↦ inl (header_fault octets d fits w)
      | inr a ↦
          let h = header_takes octets a.0 fits a.1 in
          let header = (a.0).0 in
          let size : length octets ≡ 16 + length (a.0).1 = omega (arith, ap length (h.0).parts) in
          elim (bind_err (sets_at (length (a.0).1) (length octets) header.domain before (a.0).1)
          (λ sets. Ok (made header sets.0, sets.1)) d a.2) [
            | inl w ↦
                let f = sets_fault (length (a.0).1) (length octets) header.domain before (a.0).1 d (omega arith)
                (omega arith) (h.0).rest_fits w in
                let parts : octets ≡ header_octets header ++ all_octets f.0 ++ f.3 = (h.0).parts
                ∙ ap (λ (t : List ℕ). header_octets header ++ t) f.4
                ∙ sym (append_assoc (header_octets header) (all_octets f.0) f.3) in
                let front : Front octets before header f.1 f.2 (length octets - length f.3) f.3 =
                record {
                  sets = f.0;
                  parts = parts;
                  len = h.1;
                  place = omega (arith, f.7);
                  fits = h.2;
                  hold =
                      f.5;
                } in
                inr (header, f.1, f.2, length octets - length f.3, f.3, front, f.6)
            | inr w ↦ let no = w.2 in absurd cc
          ]
    ]
  where
    made : Header → List RawRecord → RawMessage
    made header records = record { header = header; records = records }

behind_again : (before : AllTemplates) (octets : List ℕ) (d : MessageError) → IsBytes octets
    → IsBehindFront octets before d → division_at before octets ≡ Err d
unfolding division_at
behind_again before octets d fits (header, records, here, at, tail, front, bad) =
    let rest = all_octets front.sets ++ tail in
    let parts : octets ≡ header_octets header ++ rest = front.parts
    ∙ append_assoc (header_octets header) (all_octets front.sets) tail in
    let first = header_again header rest octets front.fits parts front.len in
    let second = sets_go_on (length rest) (length octets) header.domain before front.sets records here tail front.hold
    (omega arith) in
    let bytes : IsBytes tail =
    suffix (header_octets header ++ all_octets front.sets) tail (subst IsBytes front.parts fits) in
    let place : at ≡ length octets - length tail = omega (arith, front.place) in
    let wrong : IsSetFault header.domain here (length octets - length tail) tail d =
    subst (λ (p : ℕ). IsSetFault header.domain here p tail d) place bad in
    let third : sets_at second.0 (length octets) header.domain here tail ≡ Err d =
    set_fault_again second.0 (length octets) header.domain here tail d bytes second.1
    (omega (arith, front.place)) wrong in
    rw (first, second.2, third) refl

header_again_fault : (before : AllTemplates) (octets : List ℕ) (d : MessageError) → IsBytes octets
    → IsHeaderFault octets d → division_at before octets ≡ Err d
unfolding division_at
header_again_fault before octets d fits h = rw (header_fault_again octets d fits h) refl

-- ---- the limits

limit_passed : (octets : List ℕ) (before : AllTemplates) (message : RawMessage) (after : AllTemplates)
    (d : MessageError) → IsMessage octets before message after → limited message after ≡ Err d
    → IsTooMuch octets before d
limit_passed octets before message after d h e =
    let domain = message.header.domain in
    let size = domain_size (definitions_of domain after) in
    elim (past_err (ltb 60000 size) (TemplatesFull domain)
    (cond (ltb 64 (length after)) (Err DomainsFull) (Ok (message, after))) d e) [
      | inl w ↦ (message, after, h, inl (ltb-true _ _ w.0, w.1))
      | inr v ↦ elim (past_err (ltb 64 (length after)) DomainsFull (Ok (message, after)) d v.1) [
        | inl w ↦ (message, after, h, inr (ltb-false _ _ v.0, ltb-true _ _ w.0, w.1))
        | inr w ↦ let no = w.1 in absurd cc
      ]
    ]

passed_again : (message : RawMessage) (after : AllTemplates) (d : MessageError)
    → ((60000 < domain_size (definitions_of message.header.domain after)) × (d ≡ TemplatesFull message.header.domain))
    ⊎ ((domain_size (definitions_of message.header.domain after) ≤ 60000) × (64 < length after) × (d ≡ DomainsFull))
    → limited message after ≡ Err d
passed_again message after d (inl (large, fault)) =
    let test : ltb 60000 (domain_size (definitions_of message.header.domain after)) ≡ true = lt-ltb _ _ large in
    rw (test, fault) refl
passed_again message after d (inr (small, many, fault)) =
    let test : ltb 60000 (domain_size (definitions_of message.header.domain after)) ≡ false = le-ltb _ _ small in
    let more : ltb 64 (length after) ≡ true = lt-ltb _ _ many in
    rw (test, more, fault) refl

-- ---- the message

-- what reading answers is a fault
pub fault_is : (before : AllTemplates) (octets : List ℕ) (d : MessageError) → IsBytes octets
    → message_at before octets ≡ Err d → IsFault octets before d
unfolding message_at
fault_is before octets d fits e =
    elim (bind_err (division_at before octets) (λ x. limited x.0 x.1) d e) [
      | inl w ↦ elim (division_fault before octets d fits w) [ inl h ↦ inl h | inr h ↦ inr (inl h) ]
      | inr a ↦ inr (inr (limit_passed octets before (a.0).0 (a.0).1 d (division_takes before octets a.0 fits a.1) a.2))
    ]

-- each fault is what reading answers
pub fault_again : (before : AllTemplates) (octets : List ℕ) (d : MessageError) → IsBytes octets
    → IsFault octets before d → message_at before octets ≡ Err d
unfolding message_at
fault_again before octets d fits (inl h) = rw (header_again_fault before octets d fits h) refl
fault_again before octets d fits (inr (inl h)) = rw (behind_again before octets d fits h) refl
fault_again before octets d fits (inr (inr (message, after, whole, why))) =
    rw (division_again before octets message after whole) (passed_again message after d why)

-- ---- one answer

pub answered : (before : AllTemplates) (octets : List ℕ) → IsBytes octets → IsAnswered octets before
answered before octets fits = by (message_at before octets) refl
  where
    by : (r : Result (RawMessage × AllTemplates) MessageError) → message_at before octets ≡ r → IsAnswered octets before
    by (Ok x) e = inl (x.0, x.1, message_takes before octets x fits e)
    by (Err d) e = inr (d, fault_is before octets d fits e)

same_answer : (before : AllTemplates) (octets : List ℕ) (m n : RawMessage) (after other : AllTemplates)
    → IsAccepted octets before m after → IsAccepted octets before n other
    → (let x : RawMessage × AllTemplates = (m, after) in x ≡ (n, other))
same_answer before octets m n after other p q =
    ok_is (m, after) (n, other) (sym (message_again before octets m after p) ∙ message_again before octets n other q)

pub one_message : (before : AllTemplates) (octets : List ℕ) (m n : RawMessage) (after other : AllTemplates)
    → IsAccepted octets before m after → IsAccepted octets before n other → m ≡ n
one_message before octets m n after other p q =
    ap (λ (x : RawMessage × AllTemplates). x.0) (same_answer before octets m n after other p q)

pub one_state : (before : AllTemplates) (octets : List ℕ) (m n : RawMessage) (after other : AllTemplates)
    → IsAccepted octets before m after → IsAccepted octets before n other → after ≡ other
one_state before octets m n after other p q =
    ap (λ (x : RawMessage × AllTemplates). x.1) (same_answer before octets m n after other p q)

pub one_fault : (before : AllTemplates) (octets : List ℕ) (d e : MessageError) → IsBytes octets
    → IsFault octets before d → IsFault octets before e → d ≡ e
one_fault before octets d e fits p q = let a = fault_again before octets d fits p in let b =
    fault_again before octets e fits q in same (sym a ∙ b)
  where
    same : (let f : Result (RawMessage × AllTemplates) MessageError = Err d in f ≡ Err e) → d ≡ e
    same h = cc

pub never_both : (before : AllTemplates) (octets : List ℕ) (m : RawMessage) (after : AllTemplates) (d : MessageError)
    → IsBytes octets → IsAccepted octets before m after → IsFault octets before d → ⊥
never_both before octets m after d fits h bad = let a = message_again before octets m after h in let b =
    fault_again before octets d fits bad in differs (sym a ∙ b)
  where
    differs : (let ok : Result (RawMessage × AllTemplates) MessageError = Ok (m, after) in ok ≡ Err d) → ⊥
    differs e = cc
