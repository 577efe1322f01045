use Rattle.std.proofs.Common.{ℕ, length, subst}
use Rattle.std.proofs.lemmas.List.{length-map}
use Rattle.std.specs.Borrow.{Bor}
use Rattle.flow_disk.proofs.Results.{passed_on}
use Rattle.flow_several.specs.Folders.{KeepsOrRows, Path}
use Rattle.flow_several.specs.Questions.{AnswersRows}
use Rattle.flow_several.proofs.Opened.{counted, paths_of, unopened_kept}
use Rattle.flow_several.proofs.asking.ask_folders.Goals as goal

pub returns-in_err-disks-clause-kept : goal.returns-in_err-disks-clause-kept
returns-in_err-disks-clause-kept g c =
    let words = c.args.folders.now in
    let known = g.W.Write.contents c.args.output.now in
    let e = (c.in_err-disks.field-0).0 in
    passed_on c.from_residual.result e (KeepsOrRows c.args.question.now (length words) known known)
    c.from_residual.ensures.1
    (unopened_kept g.O.Opener.opens g.O.Opener.refuses (paths_of words) c.args.question.now (length words) known
    (length-map words (λ (w : Bor Path). w.now)) e c.in_err-disks.ensures.refused)

pub returns-clause-written : goal.returns-clause-written
returns-clause-written g c =
    let contents = g.W.Write.contents in
    subst (λ (n : ℕ). AnswersRows c.args.question.now n (contents c.args.output.now) (contents c.answer.new.output))
    (counted g.O.Opener.opens c.args.folders.now c.in_ok-disks.disks.items c.in_ok-disks.ensures.opened)
    c.in_ok-answer.ensures.written
