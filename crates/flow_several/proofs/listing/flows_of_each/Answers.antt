use Rattle.std.proofs.Common.{◌≡◌, ◌∙◌, ◌+◌, ℕ, ap, arith, drop, false, length, refl, subst, sym}
use Rattle.std.specs.Prelude.{IsTrue, IfErr, IsOk, OnOk, Err}
use Rattle.std.specs.List.{All}
use Rattle.flow_manifest.specs.Slots.{reads_of}
use Rattle.flow_several.specs.SideBySide.{Awaits}
use Rattle.flow_several.proofs.Taking.{at_head, next_one, of_none}
use Rattle.flow_several.specs.Flows.{AreFlowsRead, AreFlowsRefused, IsListedUpTo, Lists, ListsUpTo}
use Rattle.flow_several.specs.Flows.{StartIn, WritesSomeFlows}
use Rattle.flow_several.specs.Several.{readings, HasReadCause}
use Rattle.flow_several.specs.Turns.{IsOpened}
use Rattle.flow_several.proofs.EachFlows.{all_written, none_failed, none_listed, one_listed, own_refused, refused_so}
use Rattle.flow_several.proofs.EachFlows.{some_refused, some_written, Starting}
use Rattle.flow_several.proofs.AnswersInTurn.{when_done}
use Rattle.flow_several.proofs.OneByOne.{all_reads, at_turn, map_length, reads_at, reads_before, reads_next, when_err}
use Rattle.flow_several.proofs.OneByOne.{when_ok}
use Rattle.flow_several.proofs.listing.flows_of_each.Goals as goal

pub answers-init : goal.answers-init
answers-init g c =
    let reads = readings g.D.Disk c.args.disks.items in
    let known = g.W.Write.contents c.args.output.now in
    let archives = c.of-archives.result in
    let none = c.of-archives.ensures.answers in
    let left = c.of-archives.ensures.left in
    record {
      count = omega (arith, ap length none, ap length left);
      some = none_listed (Starting c.args.from c.args.to) c.args.format reads known;
      own = λ honest. none_listed (AreFlowsRead c.args.from c.args.to) c.args.format reads known;
      waits = of_none (IsOpened g.D.Disk) archives.answers.items archives.left.items c.args.disks.items none left;
      thawed = subst (All (λ d. (n : ℕ) → (g.D.Disk.marks d n).frozen ≡ false)) (sym left) c.requires;
      faults = refl;
    }

pub answers-preserved : goal.answers-preserved
answers-preserved g c =
    let disks = c.args.disks.items in
    let at = c.answers in
    let before = at.archives in
    let after = c.next.new.self in
    let answer = c.in-Some.answer in
    let (d, rest, whole, opened, later) = next_one (IsOpened g.D.Disk) before.answers.items after.answers.items
    before.left.items after.left.items answer (drop at.place disks) at.invariant.waits c.in-Some.ensures.answer
    c.in-Some.ensures.refused in
    let turn = at_head disks at.place d rest whole in
    let reads = readings g.D.Disk disks in
    let own = reads_of (g.D.Disk.held d) in
    let from = c.args.from in
    let to = c.args.to in
    let format = c.args.format in
    let old = g.W.Write.contents c.args.output.now in
    let now = g.W.Write.contents at.output in
    let new = g.W.Write.contents c.list_answer.new.output in
    let done = subst (λ r. OnOk r (IsOk answer)) c.in-Ok.is c.list_answer.ensures.done in
    let few = reads_before (λ d. reads_of (g.D.Disk.held d)) disks at.place d turn.0 turn.1 in
    let parts = reads_next (λ d. reads_of (g.D.Disk.held d)) disks at.place d turn.0 turn.1 (at.place + 1) refl in
    record {
      count = omega (arith, when_done answer _ done c.in-Some.ensures.count, at.invariant.count);
      some = one_listed (Starting from to) format reads at.place (at.place + 1) old now at.invariant.some refl few own
          (at.place + 1) parts new
          (subst (λ r. OnOk r (Lists format (at.place + 1) (StartIn from to) now new)) c.in-Ok.is
          c.list_answer.ensures.all);
      own = λ h.
          one_listed (AreFlowsRead from to) format reads at.place (at.place + 1) old now (at.invariant.own h) refl few own
          (at.place + 1) parts new
          (when_ok c.list_answer.result _ (λ _. Lists format (at.place + 1) (AreFlowsRead from to own) now new)
          (IsListedUpTo format (at.place + 1) from to own now new) c.in-Ok.is
          (c.list_answer.ensures.listed d opened
          (at_turn (λ d. IsTrue (g.D.Disk.honest d)) disks at.place d turn.0 turn.1 h)));
      waits = subst (λ left. Awaits (IsOpened g.D.Disk) after.answers.items after.left.items left) turn.2
          (when_done answer _ done later);
      thawed = c.next.ensures.may;
      faults = none_failed _ _ _ c.list_answer.result c.in-Ok.is c.list_answer.ensures.cause ∙ at.invariant.faults;
    }

pub returns-in-Err-clause-refused : goal.returns-in-Err-clause-refused
returns-in-Err-clause-refused g c = λ h.
    let disks = c.args.disks.items in
    let at = c.answers in
    let before = at.archives in
    let after = c.next.new.self in
    let answer = c.in-Some.answer in
    let (d, rest, whole, opened, later) = next_one (IsOpened g.D.Disk) before.answers.items after.answers.items
    before.left.items after.left.items answer (drop at.place disks) at.invariant.waits c.in-Some.ensures.answer
    c.in-Some.ensures.refused in
    let turn = at_head disks at.place d rest whole in
    let own = reads_of (g.D.Disk.held d) in
    let from = c.args.from in
    let to = c.args.to in
    let format = c.args.format in
    let old = g.W.Write.contents c.args.output.now in
    let now = g.W.Write.contents at.output in
    let new = g.W.Write.contents c.list_answer.new.output in
    let reads = readings g.D.Disk disks in
    subst (λ e. AreFlowsRefused format from to reads old new e) (sym c.numbered.ensures)
    (own_refused format from to reads at.place (at.place + 1) old now (at.invariant.own h) refl
    (reads_before (λ d. reads_of (g.D.Disk.held d)) disks at.place d turn.0 turn.1) own
    (readings g.D.Disk (drop (at.place + 1) disks))
    (reads_at (λ d. reads_of (g.D.Disk.held d)) disks at.place d turn.0 turn.1) new c.in-Err.error
    (when_err c.list_answer.result c.in-Err.error
    (λ _. Lists format (at.place + 1) (AreFlowsRead from to own) now new)
    (IsListedUpTo format (at.place + 1) from to own now new) c.in-Err.is
    (c.list_answer.ensures.listed d opened
    (at_turn (λ d. IsTrue (g.D.Disk.honest d)) disks at.place d turn.0 turn.1 h))))

pub returns-in-Err-clause-kept : goal.returns-in-Err-clause-kept
returns-in-Err-clause-kept g c =
    let disks = c.args.disks.items in
    let at = c.answers in
    let before = at.archives in
    let after = c.next.new.self in
    let (d, rest, whole, opened, later) = next_one (IsOpened g.D.Disk) before.answers.items after.answers.items
    before.left.items after.left.items c.in-Some.answer (drop at.place disks) at.invariant.waits
    c.in-Some.ensures.answer c.in-Some.ensures.refused in
    let turn = at_head disks at.place d rest whole in
    let from = c.args.from in
    let to = c.args.to in
    let format = c.args.format in
    let old = g.W.Write.contents c.args.output.now in
    let now = g.W.Write.contents at.output in
    let new = g.W.Write.contents c.list_answer.new.output in
    subst (λ e. WritesSomeFlows format from to old new e) (sym c.numbered.ensures)
    (some_refused format from to (readings g.D.Disk disks) at.place (at.place + 1) old now at.invariant.some refl
    (reads_before (λ d. reads_of (g.D.Disk.held d)) disks at.place d turn.0 turn.1) (reads_of (g.D.Disk.held d)) new
    c.in-Err.error
    (subst (λ r. IfErr r (ListsUpTo format (at.place + 1) (StartIn from to) now new)) c.in-Err.is
    c.list_answer.ensures.some))

pub returns-in-Err-clause-cause : goal.returns-in-Err-clause-cause
returns-in-Err-clause-cause g c =
    subst (λ e. HasReadCause c.args.faults.now c.list_answer.new.faults (Err e)) (sym c.numbered.ensures)
    (refused_so _ c.in-Err.error _ _ _ _ c.answers.invariant.faults c.in-Err.is c.list_answer.ensures.cause)

pub returns-clause-flows : goal.returns-clause-flows
returns-clause-flows g c = λ h.
    let disks = c.args.disks.items in
    let at = c.answers in
    all_written c.args.format c.args.from c.args.to (readings g.D.Disk disks) at.place
    (g.W.Write.contents c.args.output.now) (g.W.Write.contents at.output) (at.invariant.own h)
    (all_reads (λ d. reads_of (g.D.Disk.held d)) disks at.place
    (omega (arith, c.in_default.ensures.ended, at.invariant.count)))

pub returns-clause-written : goal.returns-clause-written
returns-clause-written g c =
    let disks = c.args.disks.items in
    let at = c.answers in
    some_written c.args.format c.args.from c.args.to (readings g.D.Disk disks) at.place (length disks)
    (g.W.Write.contents c.args.output.now) (g.W.Write.contents at.output) at.invariant.some
    (all_reads (λ d. reads_of (g.D.Disk.held d)) disks at.place
    (omega (arith, c.in_default.ensures.ended, at.invariant.count)))
    (map_length (λ d. reads_of (g.D.Disk.held d)) disks)
