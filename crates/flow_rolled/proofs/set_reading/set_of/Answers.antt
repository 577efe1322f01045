use Rattle.std.proofs.Common.{◌≡◌, ℕ, ◌-◌, List, ◌++◌, take, drop, sym, ap, ◌∙◌, arith}
use Rattle.std.proofs.lemmas.List.{take-append-drop}
use Rattle.flow_rolled.proofs.PartOctets.{same_rows_octets}
use Rattle.flow_rolled.proofs.RowSets.{in_front, set_head, set_body, not_long, body_is}
use Rattle.flow_rolled.proofs.set_reading.set_of.Goals as goal
use Rattle.flow_rolled.proofs.set_reading.set_of.Goals.{then-len-le4-via-then-len-le4}
use Rattle.flow_rolled.proofs.set_reading.set_of.Goals.{then-len-le4-via-else-len-le4+then-len-rest}

-- octets cut in two
parted : (n : ℕ) (octets front back : List ℕ) → front ≡ take n octets → back ≡ drop n octets → octets ≡ front ++ back
parted n octets front back ef eb = sym (take-append-drop n octets) ∙ (λ i. sym ef i ++ sym eb i)

pub returns-then-len-le4-clause-none : goal.returns-then-len-le4-clause-none
returns-then-len-le4-clause-none c = λ rows more h.
    let w = c.args.width in let d = c.args.domain in let n = c.args.number in let b = c.args.with in
    let rest = c.u16_of-other.result.1.now in
    let behind = c.u16_of-len.result.1.now in
    let len = c.u16_of-len.result.0 in
    let front = c.u16_of-other.ensures.is ∙ ap (λ m. in_front m rest) c.if-other-number.false in
    let head = set_head w d n b c.args.octets.now rest rows more c.ranges.number.fits front h in
    let body = set_body w d n b rest rows more len behind
    (omega (arith, c.u16_of-len.type_inv)) c.u16_of-len.ensures.is head in
    let fit = not_long w len behind rows more body in
    elim c.then-len-le4.branch [
      | then-len-le4-via-then-len-le4 x ↦ let t = x.if-len-le4.true in omega (arith, fit.0, t)
      | then-len-le4-via-else-len-le4+then-len-rest x ↦ let t = x.if-len-rest.true in omega (arith, fit.1, t)
    ]

pub returns-in_default-clause-none : goal.returns-in_default-clause-none
returns-in_default-clause-none c = λ rows more h.
    let w = c.args.width in let d = c.args.domain in let n = c.args.number in let b = c.args.with in
    let rest = c.u16_of-other.result.1.now in
    let behind = c.u16_of-len.result.1.now in
    let len = c.u16_of-len.result.0 in
    let front = c.u16_of-other.ensures.is ∙ ap (λ m. in_front m rest) c.if-other-number.false in
    let head = set_head w d n b c.args.octets.now rest rows more c.ranges.number.fits front h in
    let body = set_body w d n b rest rows more len behind
    (omega (arith, c.u16_of-len.type_inv)) c.u16_of-len.ensures.is head in
    let cut = parted (len - 4) behind c.split_at.result.0.now c.split_at.result.1.now c.split_at.ensures.front
    c.split_at.ensures.back in
    let is = body_is w len behind c.split_at.result.0.now c.split_at.result.1.now rows more cut
    (omega (arith, c.split_at.ensures.front_len, c.if-len-le4.false)) body in
    let none = rw c.in_default.is at c.in_ok-rows.ensures.none in
    none rows head.all is.0

pub returns-clause-only : goal.returns-clause-only
returns-clause-only c = λ rows more h.
    let w = c.args.width in let d = c.args.domain in let n = c.args.number in let b = c.args.with in
    let rest = c.u16_of-other.result.1.now in
    let behind = c.u16_of-len.result.1.now in
    let len = c.u16_of-len.result.0 in
    let front = c.u16_of-other.ensures.is ∙ ap (λ m. in_front m rest) c.if-other-number.false in
    let head = set_head w d n b c.args.octets.now rest rows more c.ranges.number.fits front h in
    let body = set_body w d n b rest rows more len behind
    (omega (arith, c.u16_of-len.type_inv)) c.u16_of-len.ensures.is head in
    let cut = parted (len - 4) behind c.split_at.result.0.now c.split_at.result.1.now c.split_at.ensures.front
    c.split_at.ensures.back in
    let is = body_is w len behind c.split_at.result.0.now c.split_at.result.1.now rows more cut
    (omega (arith, c.split_at.ensures.front_len, c.if-len-le4.false)) body in
    let found = rw c.in-Some.is at c.in_ok-rows.ensures.found in
    let all = rw c.in-Some.is at c.in_ok-rows.ensures.all in
    (same_rows_octets w d b c.in-Some.rows.items rows c.ranges.width.fits all head.all (sym found ∙ is.0), is.1)
