use Rattle.std.proofs.Common.{◌≡◌, ℕ, ◌-◌, List, ◌++◌, length, take, drop, refl, sym, ap, subst, ◌∙◌, arith}
use Rattle.std.proofs.Common.{length-append}
use Rattle.std.proofs.lemmas.List.{take-append-drop}
use Rattle.flow_rolled.specs.Octets.{sets_of, AreOf}
use Rattle.flow_rolled.proofs.PartOctets.{same_front}
use Rattle.flow_rolled.proofs.Headers.{header_is, message_made}
use Rattle.flow_rolled.proofs.message_reading.message_at.Goals as goal
use Rattle.flow_rolled.proofs.message_reading.message_at.Goals.{then-len-lt-HEADER_LENGTH-via-then-len-lt-HEADER_LENGTH}
use Rattle.flow_rolled.proofs.message_reading.message_at.Goals.{then-len-lt-HEADER_LENGTH-via-else-len-lt-HEADER_LENGTH+then-len-rest}

-- octets cut in two
parted : (n : ℕ) (octets front back : List ℕ) → front ≡ take n octets → back ≡ drop n octets → octets ≡ front ++ back
parted n octets front back ef eb = sym (take-append-drop n octets) ∙ (λ i. sym ef i ++ sym eb i)

pub returns-then-len-lt-HEADER_LENGTH-clause-none : goal.returns-then-len-lt-HEADER_LENGTH-clause-none
returns-then-len-lt-HEADER_LENGTH-clause-none c = λ p more h e.
    let w = c.args.width in
    let x = c.in-Some.header in
    let found = rw c.in-Some.is at c.header_of.ensures.found in
    let is = header_is w x.len x.time x.sequence x.domain c.args.octets.now c.in-Some.rest.now p more (omega arith)
    (omega arith) (omega arith) (omega arith) found h e in
    let l = ap (λ (l : List ℕ). length l) is.rest_is in
    let m = length-append (sets_of w p.rows) more in
    let n = is.len_is in
    elim c.then-len-lt-HEADER_LENGTH.branch [
      | then-len-lt-HEADER_LENGTH-via-then-len-lt-HEADER_LENGTH x ↦ let t = x.if-len-lt-HEADER_LENGTH.true in
          omega (arith, n, t)
      | then-len-lt-HEADER_LENGTH-via-else-len-lt-HEADER_LENGTH+then-len-rest x ↦ let t = x.if-len-rest.true in
          omega (arith, l, m, n, t)
    ]

pub returns-in_default-2-clause-none : goal.returns-in_default-2-clause-none
returns-in_default-2-clause-none c = λ p more h e.
    let w = c.args.width in
    let x = c.in-Some.header in
    let found = rw c.in-Some.is at c.header_of.ensures.found in
    let is = header_is w x.len x.time x.sequence x.domain c.args.octets.now c.in-Some.rest.now p more (omega arith)
    (omega arith) (omega arith) (omega arith) found h e in
    let n = is.len_is in
    let cut = parted (x.len - 16) c.in-Some.rest.now c.split_at.result.0.now c.split_at.result.1.now
    c.split_at.ensures.front c.split_at.ensures.back in
    let same = same_front c.split_at.result.0.now (sets_of w p.rows) c.split_at.result.1.now more
    (omega (arith, n, c.split_at.ensures.front_len)) (sym cut ∙ is.rest_is) in
    let none = rw c.in_default-2.is at c.in_ok-rows.ensures.none in
    none p.rows (subst (λ d. AreOf w d p.rows) (sym is.domain_is) h.rows) same.0

pub returns-clause-found : goal.returns-clause-found
returns-clause-found c =
    let w = c.args.width in
    let x = c.in-Some.header in
    let found = rw c.in-Some.is at c.header_of.ensures.found in
    let sets = rw c.in-Some-2.is at c.in_ok-rows.ensures.found in
    let cut = parted (x.len - 16) c.in-Some.rest.now c.split_at.result.0.now c.split_at.result.1.now
    c.split_at.ensures.front c.split_at.ensures.back in
    message_made w x.len x.time x.sequence x.domain c.args.octets.now c.in-Some.rest.now c.split_at.result.0.now
    c.split_at.result.1.now _ found cut sets
    (omega (arith, c.split_at.ensures.front_len, c.if-len-lt-HEADER_LENGTH.false)) refl refl refl
