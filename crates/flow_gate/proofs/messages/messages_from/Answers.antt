use Rattle.std.proofs.Common.{◌≡◌, ℕ, ◌+◌, [], ◌∷◌, ◌++◌, take, drop, ap, ◌∙◌, sym, subst, rules, arith}
use Rattle.std.proofs.Common.{Vec}
use Rattle.std.specs.declared.alloc.Global.{Global}
use Rattle.std.proofs.lemmas.List.{map_push}
use Rattle.flow_gate.specs.Gate.{IsMessageAt, StandInRow, octet_sum}
use Rattle.flow_gate.specs.Scan.{texts}
use Rattle.flow_gate.proofs.Walking.{one_more, no_fill}
use Rattle.flow_gate.proofs.messages.messages_from.Goals as goal

pub messages-preserved : goal.messages-preserved
messages-preserved c =
    let octets = c.args.octets.now in
    let at = c.messages.at in
    let list = texts c.messages.messages.items in
    let part = c.in_ok-to_vec.field-0 in
    let found : IsMessageAt octets at c.in-Some.count = c.in-Some.ensures.found in
    let same : part.items ≡ take c.in-Some.count (drop at octets) = search rules in
    let more = one_more octets at c.in-Some.count found c.args.from list part.items same
    c.messages.invariant.row c.messages.invariant.place in
    let is : texts c.push.new.self.items ≡ list ++ part.items ∷ [] = ap texts c.in_ok-push.ensures.items
    ∙ map_push (λ (m : Vec ℕ Global). m.items) c.messages.messages.items part in
    record {
      row = subst (λ l. StandInRow octets c.args.from l) (sym is) more.0;
      place = more.1 ∙ ap (λ l. c.args.from + octet_sum l) (sym is);
      within = omega (arith, found.room);
    }

pub returns-in_default-clause-none : goal.returns-in_default-clause-none
returns-in_default-clause-none c list row =
    let octets = c.args.octets.now in
    let was = c.messages.invariant in
    no_fill octets c.args.from (texts c.messages.messages.items) list was.row
    (λ count found. c.in_default.ensures.none count
    (subst (λ (n : ℕ). IsMessageAt octets n count) (sym was.place) found))
    (λ ends. c.if-at-octets.false (was.place ∙ ends)) row.row row.ends
