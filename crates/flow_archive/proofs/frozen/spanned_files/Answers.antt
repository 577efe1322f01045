use Rattle.std.proofs.Common.{◌≡◌, ℕ, ◌+◌, ◌++◌, List, [], ◌∷◌, append_assoc, append-nil, drop, get_or, length, refl}
use Rattle.std.proofs.Common.{ap, sym, ◌∙◌, arith, subst, rules, vec_len}
use Rattle.flow_measure.specs.declared.span.PartSpan.{PartSpan}
use Rattle.flow_archive.specs.Frozen.{width_of, Frozen, HasSpan, HaveSpans}
use Rattle.flow_archive.proofs.Spanned.{later_known, next_known}
use Rattle.flow_archive.proofs.frozen.spanned_files.Goals as goal
use Rattle.flow_archive.proofs.frozen.spanned_files.Goals.{then-known-spans, else-known-spans}

pub with_span-file-requires : goal.with_span-file-requires
with_span-file-requires g c =
    let m = c.args.manifest.now in
    let spans = c.args.spans.now in
    let n = vec_len c.loop-file.all in
    let f : Frozen = c.in-Some.file in
    let rest = c.next.new.self.rest.items in
    let some = c.in-Some.ensures.steps in
    let at : c.len-known.result ≡ n = c.len-known.ensures in
    let known : HaveSpans m (f ∷ rest) (drop n spans) =
    subst (λ (xs : List Frozen). HaveSpans m xs (drop n spans)) some.0 c.loop-file.invariant.known in
    let none : PartSpan = record { first = 0; last = 0 } in
    let own : HasSpan f (width_of f.entry.kind m) (get_or spans n none) =
    next_known m f rest spans n none (omega (arith, at, c.if-known-spans.true)) known in
    rw (c.width_of-width.ensures, c.kind.ensures, at) own

pub loop-file-preserved : goal.loop-file-preserved
loop-file-preserved g c =
    let m = c.args.manifest.now in
    let spans = c.args.spans.now in
    let n = vec_len c.loop-file.all in
    let was = c.loop-file.invariant in
    let f : Frozen = c.in-Some.file in
    let rest = c.next.new.self.rest.items in
    let some = c.in-Some.ensures.steps in
    let count : vec_len c.push_reserved.new.self ≡ n + 1 = omega (arith, c.push_reserved.ensures.len) in
    let same : c.if-known-spans.file ≡ f = elim c.if-known-spans.branch [
      | then-known-spans w ↦ w.file-is ∙ w.with_span-file.ensures
      | else-known-spans w ↦ w.file-is
    ] in
    record {
      done = ap (λ (l : List Frozen). l ++ rest) c.push_reserved.ensures.items
          ∙ ap (λ (x : Frozen). (c.loop-file.all.items ++ x ∷ []) ++ rest) same
          ∙ append_assoc c.loop-file.all.items (f ∷ []) rest
          ∙ ap (λ (l : List Frozen). c.loop-file.all.items ++ l) (sym some.0) ∙ was.done;
      known = later_known m f rest spans n (vec_len c.push_reserved.new.self) count
          (subst (λ (xs : List Frozen). HaveSpans m xs (drop n spans)) some.0 was.known);
      room = omega (arith, was.room, ap length some.0, count, c.push_reserved.ensures.capacity);
    }

nothing_left : {X : Type 0} (l : List X) → length l ≡ 0 → l ≡ []
nothing_left [] is = refl
nothing_left (x ∷ l) is = absurd (omega (arith, is))

pub returns : goal.returns
returns g c =
    let none : c.loop-file.file-iterator.rest.items ≡ [] = nothing_left c.loop-file.file-iterator.rest.items (search
    rules) in
    sym (append-nil c.loop-file.all.items)
    ∙ ap (λ (l : List Frozen). c.loop-file.all.items ++ l) (sym none)
    ∙ c.loop-file.invariant.done
