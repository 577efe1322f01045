use Rattle.std.proofs.Common.{◌≡◌, ℕ, List, [], ◌∷◌, ◌++◌, length, refl, sym, ◌∙◌, ap, arith, rules, append_assoc}
use Rattle.std.proofs.lemmas.List.{append-nil}
use Rattle.flow_archive.proofs.append.put_all.Goals as goal

nothing_left : (l : List (List ℕ)) → length l ≡ 0 → l ≡ []
nothing_left [] is = refl
nothing_left (x ∷ l) is = absurd (omega (arith, is))

pub returns : goal.returns
returns c =
    let none : c.loop-copy.copy-iterator.rest.items ≡ [] = nothing_left c.loop-copy.copy-iterator.rest.items (search
    rules) in
    sym (append-nil c.loop-copy.kept.items) ∙ ap (λ (l : List (List ℕ)). c.loop-copy.kept.items ++ l) (sym none)
    ∙ c.loop-copy.invariant.done

pub push_reserved-requires : goal.push_reserved-requires
push_reserved-requires c =
    let some = c.in-Some.ensures.steps in
    omega (arith, c.loop-copy.invariant.room, ap length some.0)

pub loop-copy-preserved : goal.loop-copy-preserved
loop-copy-preserved c =
    let some = c.in-Some.ensures.steps in
    let copy = c.in-Some.copy in
    let rest = c.next.new.self.rest.items in
    let kept = c.loop-copy.kept.items in
    record {
      done = ap (λ (l : List (List ℕ)). l ++ rest) c.push_reserved.ensures.items
          ∙ append_assoc kept (copy ∷ []) rest
          ∙ ap (λ (l : List (List ℕ)). kept ++ l) (sym some.0) ∙ c.loop-copy.invariant.done;
      room = omega (
        arith,
        c.loop-copy.invariant.room,
        ap length some.0,
        c.push_reserved.ensures.len,
        c.push_reserved.ensures.capacity,
      );
    }
