use Rattle.std.proofs.Common.{◌<◌, inr, ℕ, IsTrue, List, length, sym, subst, ◌∙◌, ap, arith}
use Rattle.flow_disk.specs.Disk.{Held, IsImage, Marks}
use Rattle.flow_disk.proofs.Moments.{Reached, stopped, reached, goes_on, arrive, comes_by, now_all}
use Rattle.flow_manifest.specs.declared.slots.Slots.{Slots}
use Rattle.flow_manifest.specs.Manifest.{IsValidManifest}
use Rattle.flow_manifest.specs.Following.{active_of, sealed_entry}
use Rattle.flow_manifest.specs.Slots.{file_of, reads_of, other}
use Rattle.flow_manifest.proofs.Swaps.{same_slots}
use Rattle.flow_model.specs.State.{State, end_of, after_seal, reopened}
use Rattle.flow_model.specs.Standing.{IsKnown, IsSealedAt, StandsForEither}
use Rattle.flow_archive.specs.Sealing.{IsSealing}
use Rattle.flow_archive.proofs.Stand.{slot_below, stands_for, valid_of}
use Rattle.flow_archive.proofs.SealSwap.{IsMade, slots_after, making, made_then, swapped_to, swapping}
use Rattle.flow_archive.proofs.SealSwap.{cuts, cutting_tail, sealed_is}
use Rattle.flow_archive.proofs.seal.seal_segment.Given.{Over}
use Rattle.flow_archive.proofs.seal.seal_segment.Goals.{In_ok-make_segment, In_ok-swap_slots, In_ok-seal_tail}
use Rattle.flow_archive.proofs.seal.seal_segment.Goals as goal

pub swap_slots-requires-clause-settled_current : goal.swap_slots-requires-clause-settled_current
swap_slots-requires-clause-settled_current g c =
    let current = c.args.slots.now.current_slot in
    ap (λ (k : Marks). k.settled) (c.make_segment.ensures.call.other_marks (file_of current)
    (λ is. omega (arith, is, slot_below current, c.requires.active.0, c.requires.active.1)))
    ∙ c.requires.current_settled

pub swap_slots-requires-clause-told : goal.swap_slots-requires-clause-told
swap_slots-requires-clause-told g c h =
    let D = g.D.Disk in
    let slots = c.args.slots.now in
    let h0 = subst IsTrue c.make_segment.ensures.call.honest h in
    let same = λ (n : ℕ) (low : n < 3). ap (λ (f : Held). f.reads) (c.make_segment.ensures.call.other_files h0 n
    (λ is. omega (arith, is, low, c.requires.active.0, c.requires.active.1))) in
    same_slots slots (reads_of (D.held c.args.disk.now)) (reads_of (D.held c.make_segment.new.disk))
    (c.requires.slots h0) (same (file_of slots.current_slot) (slot_below slots.current_slot))
    (same (file_of (other slots.current_slot)) (slot_below (other slots.current_slot)))

-- ---- how far the calls came, one after the other
module _ (g : Over) {d0 : g.row.D.Denot} {slots : Slots} {active end next : ℕ} {p body : List ℕ} {s : State}
    (m : IsSealing (g.D.Disk.held d0) slots active end next p body s) where
  abbrev Came : g.row.D.Denot → ((ℕ → List ℕ) → Type 0) → Type 0
  Came now Q = Reached g.D.Disk d0 now (StandsForEither (reopened s) (reopened (after_seal s p))) Q

  abbrev Made : g.row.D.Denot → Type 0
  Made now = Came now (IsMade (g.D.Disk.held d0) slots active end next p body s m)

  abbrev Swapped : g.row.D.Denot → Type 0
  Swapped now = Came now (IsKnown (slots_after (g.D.Disk.held d0) slots active end next p body s m) (after_seal s p))

  was : IsTrue (g.D.Disk.honest d0) → IsValidManifest s.manifest
  was h = let reads = λ (n : ℕ). (g.D.Disk.held d0 n).reads in
      valid_of slots s reads (m.known reads (λ n. g.met.D.Disk.reads_image d0 n h))

module _ (g : Over) (c : In_ok-make_segment g) (h : IsTrue (g.D.Disk.honest c.args.disk.now)) {s : State}
    (m : IsSealing (g.D.Disk.held c.args.disk.now) c.args.slots.now c.args.active c.args.end c.args.next
    c.args.prefix.now c.args.body.now s) where
  made : Made g m c.make_segment.new.disk
  made = record {
    honest = subst IsTrue (sym c.make_segment.ensures.call.honest) h;
    run = comes_by g.D.Disk _ _ _ _ _ m.known (c.make_segment.ensures.any_moment h) (making _ _ _ _ _ _ _ _ m);
    here = arrive g.D.Disk _ _ _ _ _ m.known (c.in_ok-make_segment.ensures.after h) (made_then _ _ _ _ _ _ _ _ m);
  }

module _ (g : Over) (c : In_ok-swap_slots g) {s : State}
    (m : IsSealing (g.D.Disk.held c.args.disk.now) c.args.slots.now c.args.active c.args.end c.args.next
    c.args.prefix.now c.args.body.now s) where
  in_force : Made g m c.make_segment.new.disk → Swapped g m c.swap_slots.new.disk
  in_force at = reached at c.swap_slots.ensures.any_moment (swapping _ _ _ _ _ _ _ _ m)
      c.swap_slots.ensures.call.honest c.in_ok-swap_slots.ensures.after (swapped_to _ _ _ _ _ _ _ _ m)

module _ (g : Over) (c : In_ok-seal_tail g) (h : IsTrue (g.D.Disk.honest c.args.disk.now)) {s : State}
    (m : IsSealing (g.D.Disk.held c.args.disk.now) c.args.slots.now c.args.active c.args.end c.args.next
    c.args.prefix.now c.args.body.now s) where
  cut : Swapped g m c.swap_slots.new.disk → Swapped g m c.seal_tail.new.disk
  cut at =
      let h4 = subst IsTrue (sym c.seal_tail.ensures.call.honest) at.honest in
      let kept = comes_by g.D.Disk _ _ _ _ _ at.here (c.seal_tail.ensures.any_moment at.honest)
      (cuts _ _ _ _ _ _ _ _ m (was g m h)) in
      record {
        honest = h4;
        run = stopped at c.seal_tail.ensures.any_moment (cutting_tail _ _ _ _ _ _ _ _ m (was g m h));
        here = now_all g.D.Disk _ _ _ kept
            (λ image is. g.met.D.Disk.counts_now _ _ image h4 kept.later is);
      }

-- ---- the answers
pub returns-in_err-make_segment-clause-any_moment : goal.returns-in_err-make_segment-clause-any_moment
returns-in_err-make_segment-clause-any_moment g c h s m =
    comes_by g.D.Disk _ _ _ _ _ m.known (c.make_segment.ensures.any_moment h) (making _ _ _ _ _ _ _ _ m)

pub returns-in_err-swap_slots-clause-any_moment : goal.returns-in_err-swap_slots-clause-any_moment
returns-in_err-swap_slots-clause-any_moment g c h s m =
    let at = goal.at.returns-in_err-swap_slots-clause-any_moment g c in
    stopped (made g at.In_ok-make_segment h m) c.swap_slots.ensures.any_moment (swapping _ _ _ _ _ _ _ _ m)

pub returns-in_err-seal_tail-clause-any_moment : goal.returns-in_err-seal_tail-clause-any_moment
returns-in_err-seal_tail-clause-any_moment g c h s m =
    let at = goal.at.returns-in_err-seal_tail-clause-any_moment g c in
    stopped (in_force g at.In_ok-swap_slots m (made g at.In_ok-make_segment h m))
    c.seal_tail.ensures.any_moment (cutting_tail _ _ _ _ _ _ _ _ m (was g m h))

pub returns-in_err-part-clause-any_moment : goal.returns-in_err-part-clause-any_moment
returns-in_err-part-clause-any_moment g c h s m =
    let at = goal.at.returns-in_err-part-clause-any_moment g c in
    let here = cut g at.In_ok-seal_tail h m (in_force g at.In_ok-swap_slots m (made g at.In_ok-make_segment h m)) in
    goes_on g.D.Disk _ _ _ _ _ here.run (c.freeze.ensures.time here.honest)
    (λ image is. inr (stands_for _ _ image (here.here image is)))

pub returns-clause-any_moment : goal.returns-clause-any_moment
returns-clause-any_moment g c h s m =
    let at = goal.at.returns-clause-any_moment g c in
    let here = cut g at.In_ok-seal_tail h m (in_force g at.In_ok-swap_slots m (made g at.In_ok-make_segment h m)) in
    goes_on g.D.Disk _ _ _ _ _ here.run (c.freeze.ensures.time here.honest)
    (λ image is. inr (stands_for _ _ image (here.here image is)))

pub returns-clause-after : goal.returns-clause-after
returns-clause-after g c h s m =
    let at = goal.at.returns-clause-after g c in
    let last = cut g at.In_ok-seal_tail h m (in_force g at.In_ok-swap_slots m (made g at.In_ok-make_segment h m)) in
    λ image is. last.here image (λ n. subst (λ (x : Held). IsImage x (image n)) (c.freeze.ensures.held last.honest n)
    (is n))

pub returns-clause-part : goal.returns-clause-part
returns-clause-part g c h s m =
    let at = goal.at.returns-clause-part g c in
    let last = cut g at.In_ok-seal_tail h m (in_force g at.In_ok-swap_slots m (made g at.In_ok-make_segment h m)) in
    subst (λ (l : List ℕ). IsSealedAt l
    (sealed_entry (active_of s.manifest) (end_of s) (length s.active.messages)) s.active)
    (sym (c.in_ok-part.ensures.octets last.honest))
    (sealed_is _ _ _ _ _ _ _ _ m (was g m h) _ (last.here _ (λ n. g.met.D.Disk.reads_image _ n last.honest)))
