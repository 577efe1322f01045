use Rattle.std.proofs.Common.{◌≡◌, ℕ, ◌+◌, [], ◌∷◌, ◌++◌, take, drop, ap, ◌∙◌, sym, subst, rules, arith, Vec}
use Rattle.std.specs.declared.alloc.Global.{Global}
use Rattle.std.proofs.lemmas.List.{map_push}
use Rattle.flow_gate.specs.Gate.{StandInRow, octet_sum}
use Rattle.flow_gate.specs.Scan.{texts}
use Rattle.flow_gate.proofs.Walking.{one_more}
use Rattle.flow_gate.proofs.walk.walk.Goals as goal

pub messages-preserved : goal.messages-preserved
messages-preserved c =
    let part = c.in_ok-to_vec-in-Message.field-0 in
    let same : part.items ≡ take c.in-Message.count (drop c.messages.at c.args.octets.now) = search rules in
    let more = one_more c.args.octets.now c.messages.at c.in-Message.count (c.in-Message.ensures).message 0
    (texts c.messages.messages.items) part.items same c.messages.invariant.row c.messages.invariant.place in
    let is : texts c.push.new.self.items ≡ texts c.messages.messages.items ++ part.items ∷ [] =
    ap texts c.in_ok-push-in-Message.ensures.items
    ∙ map_push (λ (m : Vec ℕ Global). m.items) c.messages.messages.items part in
    record {
      row = subst (λ l. StandInRow c.args.octets.now 0 l) (sym is) more.0;
      place = more.1 ∙ ap (λ l. 0 + octet_sum l) (sym is);
      fits = λ some. omega (arith, c.in-Message.ensures);
    }
