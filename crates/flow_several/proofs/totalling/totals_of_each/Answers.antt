use Rattle.std.proofs.Common.{◌∙◌, ◌+◌, ap, arith, length, refl, subst, sym}
use Rattle.std.specs.Prelude.{IsOk, IsTrue}
use Rattle.std.specs.List.{All}
use Rattle.flow_disk.proofs.Results.{passed_on}
use Rattle.flow_several.specs.Each.{IsEachRefused, WritesSomeRows}
use Rattle.flow_several.specs.Several.{readings}
use Rattle.flow_several.specs.Turns.{Awaits}
use Rattle.flow_several.proofs.EachLines.{all_written, each_cut, each_refused, none_written, one_written, some_cut}
use Rattle.flow_several.proofs.Faults.{none_failed}
use Rattle.flow_several.proofs.AnswersInTurn.{all_left, next_err, next_ok, ready_first, when_done}
use Rattle.flow_several.proofs.totalling.totals_of_each.Goals as goal

pub answers-init : goal.answers-init
answers-init g c =
    let disks = c.args.disks.items in
    let sums = c.of-sums.result in
    let none = c.of-sums.ensures.answers in
    let left = c.of-sums.ensures.left in
    record {
      count = omega (arith, ap length none, ap length left);
      lines = none_written c.args.format c.args.from c.args.to (readings g.D.Disk disks)
          (All (λ d. IsTrue (g.D.Disk.honest d)) disks) (Awaits g.D.Disk sums.archives.answers.items sums.archives.left.items)
          (g.W.Write.contents c.args.output.now)
          (all_left g.D.Disk sums.archives.answers.items sums.archives.left.items disks none left);
      ready = ready_first g.D.Disk sums.archives.answers.items sums.archives.left.items disks none left c.requires;
      faults = refl;
    }

pub returns-in_err-write_archive-in-Ok-clause-refused : goal.returns-in_err-write_archive-in-Ok-clause-refused
returns-in_err-write_archive-in-Ok-clause-refused g c = λ honest.
    let disks = c.args.disks.items in
    let reads = readings g.D.Disk disks in
    let waits = Awaits g.D.Disk c.answers.sums.archives.answers.items c.answers.sums.archives.left.items in
    let later = Awaits g.D.Disk c.next.new.self.archives.answers.items c.next.new.self.archives.left.items in
    let old = g.W.Write.contents c.args.output.now in
    let now = g.W.Write.contents c.answers.output in
    let new = g.W.Write.contents c.write_archive.new.output in
    let e = (c.in_err-write_archive-in-Ok.field-0).0 in
    passed_on c.from_residual.result e (IsEachRefused c.args.format c.args.from c.args.to reads old new)
    c.from_residual.ensures.1
    (each_cut c.args.format c.args.from c.args.to reads (All (λ d. IsTrue (g.D.Disk.honest d)) disks) waits later
    c.answers.place (c.answers.place + 1) old now c.answers.invariant.lines refl c.in-Ok.one.sums
    (next_ok waits later c.in-Some.answer c.in-Some.ensures.answer c.in-Ok.one c.in-Ok.is) honest new e
    c.in_err-write_archive-in-Ok.ensures.refused)

pub returns-in_err-write_archive-in-Ok-clause-kept : goal.returns-in_err-write_archive-in-Ok-clause-kept
returns-in_err-write_archive-in-Ok-clause-kept g c =
    let disks = c.args.disks.items in
    let reads = readings g.D.Disk disks in
    let waits = Awaits g.D.Disk c.answers.sums.archives.answers.items c.answers.sums.archives.left.items in
    let later = Awaits g.D.Disk c.next.new.self.archives.answers.items c.next.new.self.archives.left.items in
    let old = g.W.Write.contents c.args.output.now in
    let now = g.W.Write.contents c.answers.output in
    let new = g.W.Write.contents c.write_archive.new.output in
    let e = (c.in_err-write_archive-in-Ok.field-0).0 in
    passed_on c.from_residual.result e (WritesSomeRows c.args.format c.args.from c.args.to old new)
    c.from_residual.ensures.1
    (some_cut c.args.format c.args.from c.args.to reads (All (λ d. IsTrue (g.D.Disk.honest d)) disks) waits later
    c.answers.place (c.answers.place + 1) old now c.answers.invariant.lines refl c.in-Ok.one.sums
    (next_ok waits later c.in-Some.answer c.in-Some.ensures.answer c.in-Ok.one c.in-Ok.is) new e
    c.in_err-write_archive-in-Ok.ensures.refused)

pub returns-in-Err-clause-refused : goal.returns-in-Err-clause-refused
returns-in-Err-clause-refused g c = λ honest.
    let disks = c.args.disks.items in
    let reads = readings g.D.Disk disks in
    let waits = Awaits g.D.Disk c.answers.sums.archives.answers.items c.answers.sums.archives.left.items in
    let later = Awaits g.D.Disk c.next.new.self.archives.answers.items c.next.new.self.archives.left.items in
    let old = g.W.Write.contents c.args.output.now in
    let now = g.W.Write.contents c.answers.output in
    each_refused c.args.format c.args.from c.args.to reads (All (λ d. IsTrue (g.D.Disk.honest d)) disks) waits
    c.answers.place (c.answers.place + 1) old now c.answers.invariant.lines refl c.in-Err.error
    (next_err waits later c.in-Some.answer c.in-Some.ensures.answer c.in-Err.error c.in-Err.is) honest

pub answers-preserved : goal.answers-preserved
answers-preserved g c =
    let disks = c.args.disks.items in
    let reads = readings g.D.Disk disks in
    let waits = Awaits g.D.Disk c.answers.sums.archives.answers.items c.answers.sums.archives.left.items in
    let later = Awaits g.D.Disk c.next.new.self.archives.answers.items c.next.new.self.archives.left.items in
    let old = g.W.Write.contents c.args.output.now in
    let now = g.W.Write.contents c.answers.output in
    let new = g.W.Write.contents c.write_archive.new.output in
    let few = when_done c.in-Some.answer _ (subst (λ r. IsOk r) (sym c.in-Ok.is) refl) c.in-Some.ensures.count in
    record {
      count = omega (arith, few, c.answers.invariant.count);
      lines = one_written c.args.format c.args.from c.args.to reads (All (λ d. IsTrue (g.D.Disk.honest d)) disks)
          waits later c.answers.place (c.answers.place + 1) old now c.answers.invariant.lines refl c.in-Ok.one.sums
          (next_ok waits later c.in-Some.answer c.in-Some.ensures.answer c.in-Ok.one c.in-Ok.is)
          (c.answers.place + 1) refl new c.in_ok-write_archive-in-Ok.ensures.all;
      ready = c.next.ensures.ready;
      faults = none_failed c.in-Ok.one _ _ c.in-Some.answer c.in-Ok.is c.in-Some.ensures.cause
          ∙ c.answers.invariant.faults;
    }

pub returns-clause-totals : goal.returns-clause-totals
returns-clause-totals g c = λ honest.
    let disks = c.args.disks.items in
    let waits = Awaits g.D.Disk c.answers.sums.archives.answers.items c.answers.sums.archives.left.items in
    all_written c.args.format c.args.from c.args.to (readings g.D.Disk disks)
    (All (λ d. IsTrue (g.D.Disk.honest d)) disks) waits c.answers.place (g.W.Write.contents c.args.output.now)
    (g.W.Write.contents c.answers.output) c.answers.invariant.lines c.in_default.ensures.end honest
