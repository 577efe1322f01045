use Rattle.std.proofs.Common.{ℕ, false, IsTrue, List, [], sym, subst}
use Rattle.std.specs.Prelude.{None}
use Rattle.flow_manifest.specs.declared.slots.Slots.{Slots}
use Rattle.flow_manifest.specs.Following.{active_entry}
use Rattle.flow_segment.specs.Carry.{Carry, no_carry}
use Rattle.flow_model.specs.State.{State, empty_state}
use Rattle.flow_archive.specs.Beginning.{first_slots}
use Rattle.flow_archive.specs.Frozen.{Frozen}
use Rattle.flow_archive.specs.Seen.{IsArchive, state_in}
use Rattle.flow_archive.specs.UnderWay.{under_way_in, HasOwnFiles, IsUnderWay}
use Rattle.flow_archive.proofs.Empty.{empty_archive}
use Rattle.flow_archive.proofs.Sharing.{own_nothing}
use Rattle.flow_archive.proofs.Stand.{stands_for}
use Rattle.flow_archive.proofs.Working.{nothing_under_way}
use Rattle.flow_archive.proofs.archive.Archive.create_wide.Goals as goal

pub invariant_of-result : goal.invariant_of-result
invariant_of-result g c =
    let D = g.D.Disk in
    let d1 = c.begin.new.disk in
    let slots = first_slots c.args.width c.args.wide c.args.limit in
    let S : Slots → List Frozen → List ℕ → List (List ℕ) → List Frozen → State = λ x files prefix messages waiting.
    state_in (under_way_in 4 None waiting) false x.current files prefix messages in
    let P : Slots → Carry → List Frozen → List ℕ → List (List ℕ) → List Frozen → Type 0 =
    λ (x : Slots) (carry : Carry) files prefix messages waiting. IsArchive D.honest D.marks D.held d1 x
    (active_entry 3 0) 0 0 carry files (S x files prefix messages waiting) false
    × IsUnderWay D.honest D.marks D.held d1 (S x files prefix messages waiting) (under_way_in 4 None waiting) false
    × HasOwnFiles false files (under_way_in 4 None waiting) in
    let made : P slots (no_carry 0) [] [] [] [] = (
      empty_archive D.honest D.marks D.held d1 c.args.width c.args.wide
          c.args.limit c.in-Ok.ensures.valid c.in-Ok.ensures.ready
          (λ h. c.in-Ok.ensures.known (subst IsTrue c.begin.ensures.honest h)),
      nothing_under_way D.honest D.marks D.held d1 (S slots [] [] [] []) 4 false,
      own_nothing false 4,
    ) in
    let whole = subst (λ (x : Slots). P x c.new.result c.new-in-Ok.result.items c.new-in-Ok-2.result
    c.new-in-Ok-3.result.items c.new-in-Ok-4.result.items) (sym c.in-Ok.ensures.slots)
    (subst (λ (x : Carry). P slots x c.new-in-Ok.result.items c.new-in-Ok-2.result c.new-in-Ok-3.result.items
    c.new-in-Ok-4.result.items) (sym c.new.ensures)
    (subst (λ (l : List Frozen). P slots (no_carry 0) l c.new-in-Ok-2.result
    c.new-in-Ok-3.result.items c.new-in-Ok-4.result.items) (sym c.new-in-Ok.ensures.items)
    (subst (λ (l : List ℕ). P slots (no_carry 0) [] l c.new-in-Ok-3.result.items c.new-in-Ok-4.result.items)
    (sym c.new-in-Ok-2.ensures)
    (subst (λ (l : List (List ℕ)). P slots (no_carry 0) [] [] l c.new-in-Ok-4.result.items)
    (sym c.new-in-Ok-3.ensures.items)
    (subst (λ (l : List Frozen). P slots (no_carry 0) [] [] [] l) (sym c.new-in-Ok-4.ensures.items) made))))) in
    (whole.0, whole.1, whole.2, λ _. tt)

pub returns-in-Ok-clause-stands : goal.returns-in-Ok-clause-stands
returns-in-Ok-clause-stands g c h image is =
    stands_for (first_slots c.args.width c.args.wide c.args.limit)
    (empty_state c.args.width c.args.wide c.args.limit) image (c.in-Ok.ensures.known h image is)
