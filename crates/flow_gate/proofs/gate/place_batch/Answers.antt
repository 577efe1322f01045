use Rattle.std.proofs.Common.{◌≡◌, inl, inr, ⊎_elim, ℕ, ◌+◌, ◌-◌, ◌≤◌, IsTrue, Bor, List, [], ◌∷◌, ◌++◌, length, get_or}
use Rattle.std.proofs.Common.{take, drop, refl, sym, ◌∙◌, ap, subst, arith, rules, length-drop}
use Rattle.std.proofs.lemmas.List.{take_rest, map_more, take_all}
use Rattle.flow_disk.specs.Disk.{Held, Marks, put_at}
use Rattle.flow_gate.specs.Gate.{IsWhole, IsPlaced, octet_sum}
use Rattle.flow_gate.specs.Steps.{slices, put_behind, put_batch}
use Rattle.flow_gate.proofs.Rows.{octet_sum-push}
use Rattle.flow_gate.proofs.Written.{IsNext, next_first, next_later, next_behind, next_within, whole_at, put_next}
use Rattle.flow_gate.proofs.Written.{put_trailer, put_nothing}
use Rattle.flow_gate.proofs.Written.{placed}
use Rattle.flow_gate.proofs.Placing.{IsUnderWay, begins, inside, writes_behind, syncs, settles}
use Rattle.flow_gate.proofs.gate.place_batch.Given.{Over}
use Rattle.flow_gate.proofs.gate.place_batch.Goals.{then-at-end, else-at-end, Joined-at-end, In_ok-write_at-2}
use Rattle.flow_gate.proofs.gate.place_batch.Goals as goal

pub loop-message-init : goal.loop-message-init
loop-message-init g c =
    let D = g.D.Disk in
    let d = c.args.disk.now in
    let file = c.args.file in
    let end = c.args.end in
    record {
      place = omega arith;
      first = inl refl;
      some = λ none. absurd (omega (arith, none));
      honest = refl;
      clock = omega arith;
      faults = refl;
      other_marks = λ n differs. refl;
      thawed = c.requires.thawed;
      size = omega (arith, c.requires.room);
      under_way = λ h. begins D d file end h (g.met.D.Disk.fast_within d file h)
          (c.requires.gated h) (λ image left. g.met.D.Disk.only_now d image h left);
      reads = λ h. sym (put_nothing (D.held d file).reads end);
    }

-- ---- in the loop
next : (g : Over) (c : Joined-at-end g) → IsNext c.args.end c.loop-message.at c.if-at-end.kept
next g c = elim c.if-at-end.branch [
  | then-at-end w ↦ next_first _ _ _ w.if-at-end.true w.kept-is
  | else-at-end w ↦ next_later _ _ _ w.if-at-end.false c.loop-message.invariant.first w.kept-is
]

whole : (g : Over) (c : Joined-at-end g) (none : Bor (List ℕ))
    → IsWhole (get_or c.args.messages.now c.loop-message.message-index none).now
whole g c none = whole_at c.args.messages.now c.requires.messages c.loop-message.message-index none
    c.loop-message-test.true

pub slice_bounds-write_at-count : goal.slice_bounds-write_at-count
slice_bounds-write_at-count g c =
    let end = c.args.end in
    let at = c.loop-message.at in
    let ms = c.args.messages.now in
    let i = c.loop-message.message-index in
    let none : Bor (List ℕ) = record { ref_ptr = (0, 0); now = [] } in
    let m = (get_or ms i none).now in
    let whole = whole g (goal.at.slice_bounds-write_at-count g c).Joined-at-end none in
    let next = next g (goal.at.slice_bounds-write_at-count g c).Joined-at-end in
    omega (arith, whole.long, next_within end at c.if-at-end.kept next)

pub slice_bounds-write_at-start : goal.slice_bounds-write_at-start
slice_bounds-write_at-start g c =
    let end = c.args.end in
    let at = c.loop-message.at in
    let ms = c.args.messages.now in
    let i = c.loop-message.message-index in
    let none : Bor (List ℕ) = record { ref_ptr = (0, 0); now = [] } in
    let m = (get_or ms i none).now in
    let whole = whole g (goal.at.slice_bounds-write_at-start g c).Joined-at-end none in
    let next = next g (goal.at.slice_bounds-write_at-start g c).Joined-at-end in
    let within : c.if-at-end.kept ≤ length m = omega (arith, whole.long, next_within end at c.if-at-end.kept next) in
    search rules

pub returns-in_err-write_at-clause-any_moment : goal.returns-in_err-write_at-clause-any_moment
returns-in_err-write_at-clause-any_moment g c h =
    let end = c.args.end in
    let at = c.loop-message.at in
    let next = next g (goal.at.returns-in_err-write_at-clause-any_moment g c).Joined-at-end in
    inside (at + c.if-at-end.kept) _ _ (c.loop-message.invariant.under_way h)
    (next_behind end at c.if-at-end.kept next) c.write_at.ensures.time

pub loop-message-preserved : goal.loop-message-preserved
loop-message-preserved g c =
    let D = g.D.Disk in
    let d = c.args.disk.now in
    let file = c.args.file in
    let end = c.args.end in
    let ms = c.args.messages.now in
    let now = c.loop-message.disk in
    let at = c.loop-message.at in
    let i = c.loop-message.message-index in
    let none : Bor (List ℕ) = record { ref_ptr = (0, 0); now = [] } in
    let m = (get_or ms i none).now in
    let whole = whole g (goal.at.loop-message-preserved g c).Joined-at-end none in
    let next = next g (goal.at.loop-message-preserved g c).Joined-at-end in
    let kept = c.if-at-end.kept in
    let part = take (length m - kept) (drop kept m) in
    let part_long : length part ≡ length m - kept = ap length (take_rest m kept) ∙ length-drop kept m in
    let more : slices (take (i + 1) ms) ≡ slices (take i ms) ++ m ∷ [] =
    map_more (λ (message : Bor (List ℕ)). message.now) ms i none c.loop-message-test.true in
    let count : octet_sum (slices (take (i + 1) ms)) ≡ octet_sum (slices (take i ms)) + length m = ap octet_sum more
    ∙ octet_sum-push (slices (take i ms)) m in
    let was = c.loop-message.invariant in
    let marks = c.in_ok-write_at.ensures.marks in
    let size = ap (λ (f : Marks). f.size) marks.done in
    let within = next_within end at kept next in
    let cause = c.in_ok-write_at.ensures.cause in
    record {
      place = omega (arith, was.place, count);
      first = inr (⊎_elim (λ same. omega (arith, same, whole.long)) (λ later. omega (arith, later)) was.first);
      some = λ some. ⊎_elim (λ same. omega (arith, same, whole.long)) (λ later. omega (arith, later)) was.first;
      honest = c.write_at.ensures.honest ∙ was.honest;
      clock = omega (arith, was.clock, c.write_at.ensures.clock);
      faults = cause.done ∙ was.faults;
      other_marks = λ n differs. marks.others n differs ∙ was.other_marks n differs;
      thawed = ap (λ (f : Marks). f.frozen) marks.done;
      size = omega (arith, size, was.size, part_long, within, whole.long);
      under_way = λ h.
          writes_behind (at + kept) _ (was.under_way h) (next_behind end at kept next) c.write_at.ensures.honest
          c.in_ok-write_at.ensures.held c.write_at.ensures.time;
      reads = λ h.
          let wrote = c.in_ok-write_at.ensures.held (was.under_way h).honest in
          let old = (D.held d file).reads in
          let room : end + 2 ≤ length old = omega (arith, c.requires.room, g.met.D.Disk.has_size d file h) in
          ap (λ (f : Held). f.reads) wrote.done ∙ ap (λ l. put_at l (at + kept) part) (was.reads h)
          ∙ put_next old end (slices (take i ms)) m at kept part room was.place next refl
          ∙ ap (λ l. put_behind old end l) (sym more);
    }

-- ---- after the loop
pub returns-in_err-write_at-2-clause-any_moment : goal.returns-in_err-write_at-2-clause-any_moment
returns-in_err-write_at-2-clause-any_moment g c h =
    inside c.loop-message.at _ _ (c.loop-message.invariant.under_way h)
    (omega (arith, c.loop-message.invariant.some (omega (arith, c.requires.some, c.loop-message-test.false))))
    c.write_at-2.ensures.time

-- the trailer is written after the messages
module _ (g : Over) (c : In_ok-write_at-2 g) where
  behind : c.args.end + 2 ≤ c.loop-message.at
  behind = omega (arith, c.loop-message.invariant.some (omega (arith, c.requires.some, c.loop-message-test.false)))

  ended : IsTrue (g.D.Disk.honest c.args.disk.now)
      → IsUnderWay g.D.Disk c.args.disk.now c.args.file c.args.end c.write_at-2.new.self
  ended h = writes_behind c.loop-message.at _ (c.loop-message.invariant.under_way h) behind c.write_at-2.ensures.honest
      c.in_ok-write_at-2.ensures.held c.write_at-2.ensures.time

  all : slices (take c.loop-message.message-index c.args.messages.now) ≡ slices c.args.messages.now
  all = ap slices (take_all c.loop-message.message-index c.args.messages.now c.loop-message-test.false)

  place : c.loop-message.at ≡ c.args.end + octet_sum (slices c.args.messages.now)
  place = c.loop-message.invariant.place ∙ ap (λ l. c.args.end + octet_sum l) all

  octets : IsTrue (g.D.Disk.honest c.args.disk.now) → (g.D.Disk.held c.write_at-2.new.self c.args.file).reads
      ≡ put_batch (g.D.Disk.held c.args.disk.now c.args.file).reads c.args.end (slices c.args.messages.now)
  octets h = let old = (g.D.Disk.held c.args.disk.now c.args.file).reads in
      ap (λ (f : Held). f.reads) (c.in_ok-write_at-2.ensures.held (c.loop-message.invariant.under_way h).honest).done
      ∙ ap (λ l. put_at l c.loop-message.at (0 ∷ 0 ∷ []))
      (c.loop-message.invariant.reads h ∙ ap (λ l. put_behind old c.args.end l) all)
      ∙ put_trailer old c.args.end c.loop-message.at (slices c.args.messages.now)
      (omega (arith, c.requires.room, g.met.D.Disk.has_size c.args.disk.now c.args.file h)) place
      (omega (arith, place, behind))

  stands : IsTrue (g.D.Disk.honest c.args.disk.now)
      → IsPlaced (g.D.Disk.held c.write_at-2.new.self c.args.file).reads c.args.end (slices c.args.messages.now)
  stands h =
      let old = (g.D.Disk.held c.args.disk.now c.args.file).reads in
      subst (λ l. IsPlaced l c.args.end (slices c.args.messages.now)) (sym (octets h))
      (placed old c.args.end (slices c.args.messages.now)
      (c.requires.gated h old (g.met.D.Disk.reads_image c.args.disk.now c.args.file h))
      (λ none. omega (arith, place, behind, ap octet_sum none)) c.requires.messages)

pub returns-in_err-sync-clause-any_moment : goal.returns-in_err-sync-clause-any_moment
returns-in_err-sync-clause-any_moment g c h =
    syncs (ended g (goal.at.returns-in_err-sync-clause-any_moment g c).In_ok-write_at-2 h) c.sync.ensures.time

pub returns-clause-any_moment : goal.returns-clause-any_moment
returns-clause-any_moment g c h =
    syncs (ended g (goal.at.returns-clause-any_moment g c).In_ok-write_at-2 h) c.sync.ensures.time

pub returns-clause-octets : goal.returns-clause-octets
returns-clause-octets g c h = let last = (goal.at.returns-clause-octets g c).In_ok-write_at-2 in
    ap (λ (f : Held). f.reads) (c.in_ok-sync.ensures.held (ended g last h).honest).done ∙ octets g last h

pub returns-clause-placed : goal.returns-clause-placed
returns-clause-placed g c h = let last = (goal.at.returns-clause-placed g c).In_ok-write_at-2 in
    subst (λ l. IsPlaced l c.args.end (slices c.args.messages.now))
    (sym (ap (λ (f : Held). f.reads) (c.in_ok-sync.ensures.held (ended g last h).honest).done)) (stands g last h)

pub returns-clause-after : goal.returns-clause-after
returns-clause-after g c h = let last = (goal.at.returns-clause-after g c).In_ok-write_at-2 in
    settles (slices c.args.messages.now) (ended g last h)
    (g.met.D.Disk.reads_image c.write_at-2.new.self c.args.file (ended g last h).honest) c.in_ok-sync.ensures.held
    (stands g last h)
