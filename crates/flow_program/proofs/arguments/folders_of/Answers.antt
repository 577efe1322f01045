use Rattle.std.proofs.Common.{◌∙◌, ◌-◌, Bool, length, ap, sym}
use Rattle.std.specs.Prelude.{if◌then◌else◌}
use Rattle.clap.specs.Matches.{found_of}
use Rattle.clap.specs.Walk.{rows_of}
use Rattle.flow_program.specs.Arguments.{is_by_moments}
use Rattle.flow_program.proofs.LastWords.{words_before}
use Rattle.flow_program.proofs.arguments.folders_of.Goals as goal
use Rattle.flow_program.proofs.arguments.folders_of.Goals.{then-by_moments, else-by_moments}

pub returns : goal.returns
returns c =
    let by = c.is_by_moments-by_moments in
    let count_by = λ (b : Bool). if b then length c.args.words.now else length c.args.words.now - 2 in
    words_before (is_by_moments (rows_of (found_of c.args.arguments.now))) c.args.words.now c.in_ok-paths.paths.items
    c.if-by_moments.count c.in_ok-paths.ensures.items
    (elim c.if-by_moments.branch [
      | then-by_moments w ↦ w.count-is ∙ ap count_by (sym (sym by.ensures ∙ w.if-by_moments.true))
      | else-by_moments w ↦
          w.count-is ∙ w.saturating_sub-count.ensures ∙ ap count_by (sym (sym by.ensures ∙ w.if-by_moments.false))
    ])
