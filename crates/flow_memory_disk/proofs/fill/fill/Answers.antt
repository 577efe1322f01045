use Rattle.std.proofs.Common.{◌≡◌, ◌<◌, ◌+◌, ◌++◌, ℕ, List, length, take, drop, get_or, set, reverse, sym, ◌∙◌, ap}
use Rattle.std.proofs.Common.{subst, arith}
use Rattle.flow_memory_disk.specs.Stopped.{filled}
use Rattle.flow_memory_disk.proofs.Filling.{behind_on, behind_changed, stays, changes}
use Rattle.flow_memory_disk.proofs.fill.fill.Goals as goal
use Rattle.flow_memory_disk.proofs.fill.fill.Goals.{then-not-is_safe, else-not-is_safe}

pub loop-place-preserved : goal.loop-place-preserved
loop-place-preserved c =
    let touched = reverse c.args.touched.now in
    let octets = c.args.octets.now in
    let reads = c.args.reads.now in
    let now = c.loop-place.reads in
    let place = c.loop-place.place in
    let used = c.loop-place.used in
    let behind = c.loop-place.invariant.behind in
    let long : length now ≡ length reads = omega arith in
    let lt : place < length reads = omega arith in
    elim c.if-not-is_safe.branch [
      | then-not-is_safe w ↦ record {
        used = subst (λ (n : ℕ). n < length octets) (sym w.used-is) w.after-used.ensures.within;
        behind = ap (λ (l : List ℕ). drop (place + 1) l) w.reads-is
            ∙ behind_changed c.args.fast touched octets reads now place used lt long behind (get_or octets used 0);
        so_far = ap (λ (l : List ℕ). take (place + 1) l ++ filled c.args.fast touched octets
            (place + 1) c.if-not-is_safe.used (drop (place + 1) reads)) w.reads-is
            ∙ ap (λ (n : ℕ). take (place + 1)
            (set now place (get_or octets used 0)) ++ filled c.args.fast touched octets (place + 1) n
            (drop (place + 1) reads)) (w.used-is ∙ w.after-used.ensures.next)
            ∙ changes c.args.fast touched octets reads now place used lt long behind (sym c.is_safe.ensures
            ∙ w.if-not-is_safe.true) ∙ c.loop-place.invariant.so_far;
      }
      | else-not-is_safe w ↦ record {
        used = subst (λ (n : ℕ). n < length octets) (sym w.used-is) c.loop-place.invariant.used;
        behind = ap (λ (l : List ℕ). drop (place + 1) l) w.reads-is
            ∙ behind_on c.args.fast touched octets reads now place used lt long behind;
        so_far = ap (λ (l : List ℕ). take (place + 1) l ++ filled c.args.fast touched octets
            (place + 1) c.if-not-is_safe.used (drop (place + 1) reads)) w.reads-is
            ∙ ap (λ (n : ℕ). take (place + 1) now ++ filled c.args.fast touched octets (place + 1) n
            (drop (place + 1) reads)) w.used-is
            ∙ stays c.args.fast touched octets reads now place used lt long behind (sym c.is_safe.ensures
            ∙ w.if-not-is_safe.false) ∙ c.loop-place.invariant.so_far;
      }
    ]
