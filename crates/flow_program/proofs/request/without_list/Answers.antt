use Rattle.std.proofs.Common.{◌∙◌}
use Rattle.clap.specs.Matches.{found_of}
use Rattle.clap.specs.Walk.{rows_of}
use Rattle.flow_program.proofs.Reading.{other_name}
use Rattle.flow_program.proofs.request.without_list.Goals as goal

pub returns-in_default : goal.returns-in_default
returns-in_default c =
    c.queried.ensures ∙ other_name c.args.name.now (rows_of (found_of c.args.arguments.now)) c.in_default.not-measure
    c.in_default.not-dump c.in_default.not-create
