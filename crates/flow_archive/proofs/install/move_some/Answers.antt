use Rattle.std.proofs.Common.{◌++◌, ◌∷◌, [], List, sym, ◌∙◌, ap, arith, append_assoc, take}
use Rattle.std.specs.Vec.Iter.{into_iter_items}
use Rattle.flow_archive.specs.Frozen.{Frozen}
use Rattle.flow_archive.proofs.Leaving.{one_dropped, one_taken}
use Rattle.flow_archive.proofs.install.move_some.Goals as goal

pub loop-preserved : goal.loop-preserved
loop-preserved g c =
    let xs = into_iter_items c.args.from.now in
    let i = c.loop.counter in
    let x = c.in-Some.file in
    let step = c.in-Some.ensures.cases in
    let was = c.loop.invariant in
    let at = sym was.rest ∙ step.0 in
    record {
      moved = c.push_reserved.ensures.items ∙ ap (λ (l : List Frozen). l ++ x ∷ []) was.moved
          ∙ append_assoc c.args.to.now.items (take i xs) (x ∷ [])
          ∙ ap (λ (l : List Frozen). c.args.to.now.items ++ l)
          (sym (one_taken xs i x (into_iter_items c.next.new.self) at));
      rest = sym (one_dropped xs i x (into_iter_items c.next.new.self) at);
      left = omega (arith, was.left, step.1);
      len = omega (arith, was.len, c.push_reserved.ensures.len);
      capacity = c.push_reserved.ensures.capacity ∙ was.capacity;
    }
