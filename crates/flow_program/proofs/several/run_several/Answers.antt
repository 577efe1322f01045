use Rattle.std.proofs.Common.{◌≡◌, ◌∙◌, ℕ, List, length, map, ap, sym, subst}
use Rattle.std.specs.Borrow.{Bor}
use Rattle.std.proofs.lemmas.List.{length-map}
use Rattle.clap.specs.Walk.{Text}
use Rattle.flow_commands.specs.Plans.{Span}
use Rattle.flow_report.specs.declared.format.Format.{Format}
use Rattle.flow_several.specs.declared.asking.Question.{Question}
use Rattle.flow_several.specs.declared.asking.Wanted.{Wanted}
use Rattle.flow_several.specs.Folders.{AnswersFolders, AreFoldersRefused, KeepsOrRows}
use Rattle.flow_several.specs.Questions.{AnswersRows}
use Rattle.flow_program.proofs.Reported.{is_answered, without_clock}
use Rattle.flow_program.proofs.several.run_several.Goals as goal

pub returns-in-Err-clause-folders : goal.returns-in-Err-clause-folders
returns-in-Err-clause-folders g c =
    let output = g.W.Write.contents c.args.output.now in
    let folders = c.args.folders.now in
    let reported = c.tell_of_archive in
    without_clock (λ q. AnswersFolders g.D.Disk g.O.Opener.opens q folders output output)
    (λ q e. AreFoldersRefused g.D.Disk g.O.Opener.opens g.O.Opener.refuses q folders output output e) c.args.span
    c.args.wanted c.args.format output (g.E.Write.contents c.args.errors.now) (g.E.Write.contents reported.new.errors)
    reported.result c.in-Err.refusal c.in-Err.ensures.relative c.in-Err.ensures.refused reported.ensures.status
    reported.ensures.told

pub returns-in-Err-clause-runs : goal.returns-in-Err-clause-runs
returns-in-Err-clause-runs g c =
    let output = g.W.Write.contents c.args.output.now in
    let count = length c.args.folders.now in
    let reported = c.tell_of_archive in
    without_clock (λ q. AnswersRows q count output output) (λ q e. KeepsOrRows q count output output e) c.args.span
    c.args.wanted c.args.format output (g.E.Write.contents c.args.errors.now) (g.E.Write.contents reported.new.errors)
    reported.result c.in-Err.refusal c.in-Err.ensures.relative c.in-Err.ensures.refused reported.ensures.status
    reported.ensures.told

-- what is asked in the seconds of a span
abbrev asked_in : Span → Wanted → Format → Question
asked_in s wanted format = record { from = s.from; to = s.to; wanted = wanted; format = format }

pub returns-in-Ok-ask_folders-clause-folders : goal.returns-in-Ok-ask_folders-clause-folders
returns-in-Ok-ask_folders-clause-folders g c =
    let opens = g.O.Opener.opens in
    let old = g.W.Write.contents c.args.output.now in
    let new = g.W.Write.contents c.ask_folders.new.output in
    let found = c.in-Ok.ensures.found in
    let q = c.question_of-question.result in
    let folders = c.args.folders.now in
    let folders_are : map (λ (path : Bor Text). path.now) c.as_slice-paths.result.now ≡ folders =
    ap (λ (paths : List (Bor Text)). map (λ (path : Bor Text). path.now) paths) c.as_slice-paths.ensures.value
    ∙ c.folders.view_is in
    is_answered (λ q. AnswersFolders g.D.Disk opens q folders old new)
    (λ q e. AreFoldersRefused g.D.Disk opens g.O.Opener.refuses q folders old new e) c.args.span c.args.wanted
    c.args.format old new (g.E.Write.contents c.args.errors.now) found.0 q
    (c.question_of-question.ensures ∙ ap (λ (s : Span). asked_in s c.args.wanted c.args.format) found.1)
    (subst (λ (paths : List Text). AnswersFolders g.D.Disk opens q paths old new) folders_are
    c.in-Ok-ask_folders.ensures.answered)

pub returns-in-Ok-ask_folders-clause-runs : goal.returns-in-Ok-ask_folders-clause-runs
returns-in-Ok-ask_folders-clause-runs g c =
    let old = g.W.Write.contents c.args.output.now in
    let new = g.W.Write.contents c.ask_folders.new.output in
    let found = c.in-Ok.ensures.found in
    let q = c.question_of-question.result in
    let paths = c.as_slice-paths.result.now in
    let count = length c.args.folders.now in
    let folders_are : map (λ (path : Bor Text). path.now) paths ≡ c.args.folders.now =
    ap (λ (paths : List (Bor Text)). map (λ (path : Bor Text). path.now) paths) c.as_slice-paths.ensures.value
    ∙ c.folders.view_is in
    is_answered (λ q. AnswersRows q count old new) (λ q e. KeepsOrRows q count old new e) c.args.span c.args.wanted
    c.args.format old new (g.E.Write.contents c.args.errors.now) found.0 q
    (c.question_of-question.ensures ∙ ap (λ (s : Span). asked_in s c.args.wanted c.args.format) found.1)
    (subst (λ (n : ℕ). AnswersRows q n old new)
    (sym (length-map paths (λ (path : Bor Text). path.now)) ∙ ap length folders_are)
    c.in-Ok-ask_folders.ensures.written)
