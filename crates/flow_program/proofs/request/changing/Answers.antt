use Rattle.std.proofs.Common.{◌∙◌}
use Rattle.clap.specs.Matches.{found_of}
use Rattle.clap.specs.Walk.{rows_of}
use Rattle.flow_program.proofs.Reading.{exporting_name}
use Rattle.flow_program.proofs.request.changing.Goals as goal

pub returns-in_default : goal.returns-in_default
returns-in_default c =
    c.exporting.ensures ∙ exporting_name c.args.name.now (rows_of (found_of c.args.arguments.now))
    c.in_default.not-roll c.in_default.not-merge c.in_default.not-shell
