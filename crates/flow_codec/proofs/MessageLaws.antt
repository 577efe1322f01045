-- Messages: what is read is accepted, and each accepted message is read.
use Rattle.std.proofs.Common.{◌≡◌, ℕ, ◌^◌, true, false, cond, ltb, eqb, List, [], ◌++◌, length, Ok, Err, refl, sym, ap}
use Rattle.std.proofs.Common.{subst, ◌∙◌, append_assoc, eq-eqb, arith}
use Rattle.std.specs.Int.{w16, w32, to_be_bytes}
use Rattle.std.proofs.lemmas.Bool.{ltb-false, le-ltb, eqb-true}
use Rattle.std.proofs.lemmas.List.{append-nil}
use Rattle.flow_codec.specs.declared.error.MessageError.TheVariants.{Short, Version, Length, TemplatesFull, DomainsFull}
use Rattle.flow_codec.specs.declared.message.Header.{Header}
use Rattle.flow_codec.specs.Raw.{RawRecord, RawMessage}
use Rattle.flow_codec.specs.Templates.{AllTemplates, definitions_of, domain_size, IsWithinTemplateLimits}
use Rattle.flow_codec.specs.Reading.{◌>>=◌, number_at, sets_at, header_at, behind_length, behind_version, limited}
use Rattle.flow_codec.specs.Reading.{division_at, message_at}
use Rattle.flow_codec.specs.Message.{header_octets, HeaderFits, Front, IsMessage, IsAccepted}
use Rattle.flow_codec.proofs.Steps.{with_front, bind_ok, ok_is, past, held}
use Rattle.flow_codec.proofs.NumberLaws.{IsBytes, Takes, Takes-then, wide16, wide32, number_takes, number_again}
use Rattle.flow_codec.proofs.SetLaws.{all_octets, sets_take, sets_go_on, sets_end}

-- ---- the header

pub header_takes : (octets : List ℕ) (x : Header × List ℕ) → IsBytes octets → header_at octets ≡ Ok x
    → Takes octets (header_octets x.0) x.1 × (x.0.length ≡ length octets) × HeaderFits x.0
unfolding header_at
header_takes octets x fits e =
    let g0 = past (ltb (length octets) 16) Short (number_at Short w16 octets >>=
    λ version. behind_version octets version.0 version.1) x e in
    let a = bind_ok (number_at Short w16 octets) (λ version. behind_version octets version.0 version.1) x g0.1 in
    let g1 = held (eqb a.0.0 10) Version (number_at Short w16 a.0.1 >>=
    λ len. behind_length octets len.0 len.1) x a.2 in
    let b = bind_ok (number_at Short w16 a.0.1) (λ len. behind_length octets len.0 len.1) x g1.1 in
    let g2 = held (eqb b.0.0 (length octets)) Length (number_at Short w32 b.0.1 >>=
    λ time. number_at Short w32 time.1 >>= λ sequence. number_at Short w32 sequence.1 >>=
    λ domain. Ok (
      record { length = b.0.0; time = time.0; sequence = sequence.0; domain = domain.0 },
      domain.1,
    )) x b.2 in
    let c = bind_ok (number_at Short w32 b.0.1) (λ time. number_at Short w32 time.1 >>=
    λ sequence. number_at Short w32 sequence.1 >>=
    λ domain. Ok (
      record { length = b.0.0; time = time.0; sequence = sequence.0; domain = domain.0 },
      domain.1,
    )) x g2.1 in
    let d = bind_ok (number_at Short w32 c.0.1) (λ sequence. number_at Short w32 sequence.1 >>=
    λ domain. Ok (
      record { length = b.0.0; time = c.0.0; sequence = sequence.0; domain = domain.0 },
      domain.1,
    )) x c.2 in
    let f = bind_ok (number_at Short w32 d.0.1)
    (λ domain. Ok (record { length = b.0.0; time = c.0.0; sequence = d.0.0; domain = domain.0 }, domain.1)) x d.2 in
    let ten : a.0.0 ≡ 10 = eqb-true _ _ g1.0 in
    let same : b.0.0 ≡ length octets = eqb-true _ _ g2.0 in
    let t0 = number_takes Short w16 (2 ^ 16) wide16 octets a.0 fits a.1 in
    let t1 = number_takes Short w16 (2 ^ 16) wide16 a.0.1 b.0 t0.0.rest_fits b.1 in
    let t2 = number_takes Short w32 (2 ^ 32) wide32 b.0.1 c.0 t1.0.rest_fits c.1 in
    let t3 = number_takes Short w32 (2 ^ 32) wide32 c.0.1 d.0 t2.0.rest_fits d.1 in
    let t4 = number_takes Short w32 (2 ^ 32) wide32 d.0.1 f.0 t3.0.rest_fits f.1 in
    let first : Takes octets (to_be_bytes w16 10) a.0.1 =
    subst (λ (n : ℕ). Takes octets (to_be_bytes w16 n) a.0.1) ten t0.0 in
    let e1 = Takes-then octets (to_be_bytes w16 10) a.0.1 (to_be_bytes w16 b.0.0) b.0.1 first t1.0 in
    let e2 = Takes-then octets (to_be_bytes w16 10 ++ to_be_bytes w16 b.0.0) b.0.1
    (to_be_bytes w32 c.0.0) c.0.1 e1 t2.0 in
    let e3 = Takes-then octets (to_be_bytes w16 10 ++ to_be_bytes w16 b.0.0 ++ to_be_bytes w32 c.0.0) c.0.1
    (to_be_bytes w32 d.0.0) d.0.1 e2 t3.0 in
    let e4 = Takes-then octets
    (to_be_bytes w16 10 ++ to_be_bytes w16 b.0.0 ++ to_be_bytes w32 c.0.0 ++ to_be_bytes w32 d.0.0) d.0.1
    (to_be_bytes w32 f.0.0) f.0.1 e3 t4.0 in
    let made : Header × List ℕ = (record { length = b.0.0; time = c.0.0; sequence = d.0.0; domain = f.0.0 }, f.0.1) in
    let P : Header × List ℕ → Type 0 = λ y. Takes octets (header_octets y.0) y.1 × (y.0.length ≡ length octets)
    × HeaderFits y.0 in
    subst P (ok_is made x f.2) (e4, same, record { len = t1.1; time = t2.1; sequence = t3.1; domain = t4.1 })

pub header_again : (h : Header) (rest octets : List ℕ) → HeaderFits h → octets ≡ header_octets h ++ rest
    → h.length ≡ length octets → header_at octets ≡ Ok (h, rest)
unfolding header_at
header_again h rest octets fits parts same =
    let flat : octets ≡ to_be_bytes w16 10 ++
    (to_be_bytes w16 h.length ++
    (to_be_bytes w32 h.time ++ (to_be_bytes w32 h.sequence ++ (to_be_bytes w32 h.domain ++ rest)))) = parts
    ∙ simp append_assoc in
    let long : ltb (length octets) 16 ≡ false = le-ltb _ _ (omega (arith, ap length flat)) in
    let ten : number_at Short w16 octets ≡ Ok (
      10,
      to_be_bytes w16 h.length ++
          (to_be_bytes w32 h.time ++ (to_be_bytes w32 h.sequence ++ (to_be_bytes w32 h.domain ++ rest))),
    ) =
    ap (number_at Short w16) flat
    ∙ number_again Short w16 (2 ^ 16) wide16 10
    (to_be_bytes w16 h.length ++
    (to_be_bytes w32 h.time ++ (to_be_bytes w32 h.sequence ++ (to_be_bytes w32 h.domain ++ rest)))) (omega arith) in
    let len : eqb h.length (length octets) ≡ true = eq-eqb h.length (length octets) same in
    rw (
      long,
      ten,
      number_again Short w16 (2 ^ 16) wide16 h.length
          (to_be_bytes w32 h.time ++ (to_be_bytes w32 h.sequence ++ (to_be_bytes w32 h.domain ++ rest))) fits.len,
      len,
      number_again Short w32 (2 ^ 32) wide32 h.time
          (to_be_bytes w32 h.sequence ++ (to_be_bytes w32 h.domain ++ rest)) fits.time,
      number_again Short w32 (2 ^ 32) wide32 h.sequence (to_be_bytes w32 h.domain ++ rest) fits.sequence,
      number_again Short w32 (2 ^ 32) wide32 h.domain rest fits.domain,
    ) refl

-- ---- the message, without its limits

pub division_takes : (before : AllTemplates) (octets : List ℕ) (x : RawMessage × AllTemplates) → IsBytes octets
    → division_at before octets ≡ Ok x → IsMessage octets before x.0 x.1
unfolding division_at
division_takes before octets x fits e =
    let a = bind_ok (header_at octets)
    (λ header. sets_at (length header.1) (length octets) header.0.domain before header.1 >>=
    λ sets. Ok (record { header = header.0; records = sets.0 }, sets.1)) x e in
    let b = bind_ok (sets_at (length a.0.1) (length octets) a.0.0.domain before a.0.1)
    (λ sets. Ok (record { header = a.0.0; records = sets.0 }, sets.1)) x a.2 in
    let h = header_takes octets a.0 fits a.1 in
    let s = sets_take (length a.0.1) (length octets) a.0.0.domain before a.0.1 b.0 (omega arith) (h.0).rest_fits b.1 in
    let parts : octets ≡ header_octets a.0.0 ++ all_octets s.0 ++ [] = (h.0).parts
    ∙ ap (λ (t : List ℕ). header_octets a.0.0 ++ t) s.1
    ∙ sym (append-nil (header_octets a.0.0 ++ all_octets s.0)) in
    let front : Front octets before a.0.0 b.0.0 b.0.1 (length octets) [] =
    record { sets = s.0; parts = parts; len = h.1; place = omega arith; fits = h.2; hold = s.2 } in
    let made : RawMessage × AllTemplates = (record { header = a.0.0; records = b.0.0 }, b.0.1) in
    subst (λ (y : RawMessage × AllTemplates). IsMessage octets before y.0 y.1) (ok_is made x b.2) front

pub division_again : (before : AllTemplates) (octets : List ℕ) (message : RawMessage) (after : AllTemplates)
    → IsMessage octets before message after → division_at before octets ≡ Ok (message, after)
unfolding division_at
division_again before octets message after front =
    let header = message.header in
    let rest = all_octets front.sets ++ [] in
    let parts : octets ≡ header_octets header ++ rest = front.parts
    ∙ append_assoc (header_octets header) (all_octets front.sets) [] in
    let first = header_again header rest octets front.fits parts front.len in
    let second = sets_go_on (length rest)
    (length octets) header.domain before front.sets message.records after [] front.hold (omega arith) in
    let third : with_front message.records (sets_at second.0 (length octets) header.domain after []) ≡ Ok
    (message.records, after) =
    rw (sets_end second.0 (length octets) header.domain after)
    (ap (λ (rs : List RawRecord). Ok (rs, after)) (append-nil message.records)) in
    rw (first, second.2, third) refl

-- ---- the limits

pub limits_hold : (message : RawMessage) (after : AllTemplates) (x : RawMessage × AllTemplates)
    → limited message after ≡ Ok x
    → IsWithinTemplateLimits message.header.domain after × (let read : RawMessage × AllTemplates =
    (message, after) in read ≡ x)
limits_hold message after x e =
    let domain = message.header.domain in
    let size = domain_size (definitions_of domain after) in
    let a = past (ltb 60000 size) (TemplatesFull domain)
    (cond (ltb 64 (length after)) (Err DomainsFull) (Ok (message, after))) x e in
    let b = past (ltb 64 (length after)) DomainsFull (Ok (message, after)) x a.1 in
    (record { size = ltb-false _ _ a.0; domains = ltb-false _ _ b.0 }, ok_is (message, after) x b.1)

pub within_again : (message : RawMessage) (after : AllTemplates) → IsWithinTemplateLimits message.header.domain after
    → limited message after ≡ Ok (message, after)
within_again message after h =
    let size : ltb 60000 (domain_size (definitions_of message.header.domain after)) ≡ false = le-ltb _ _ h.size in
    let domains : ltb 64 (length after) ≡ false = le-ltb _ _ h.domains in
    rw (size, domains) refl

-- ---- the message

pub message_takes : (before : AllTemplates) (octets : List ℕ) (x : RawMessage × AllTemplates) → IsBytes octets
    → message_at before octets ≡ Ok x → IsAccepted octets before x.0 x.1
unfolding message_at
message_takes before octets x fits e =
    let a = bind_ok (division_at before octets) (λ y. limited y.0 y.1) x e in
    let whole = division_takes before octets a.0 fits a.1 in
    let within = limits_hold a.0.0 a.0.1 x a.2 in
    subst (λ (y : RawMessage × AllTemplates). IsAccepted octets before y.0 y.1) within.1 (whole, within.0)

pub message_again : (before : AllTemplates) (octets : List ℕ) (message : RawMessage) (after : AllTemplates)
    → IsAccepted octets before message after → message_at before octets ≡ Ok (message, after)
unfolding message_at
message_again before octets message after h =
    rw (division_again before octets message after h.0) (within_again message after h.1)
