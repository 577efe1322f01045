use Rattle.std.proofs.Common.{◌∙◌}
use Rattle.clap.specs.Matches.{found_of}
use Rattle.clap.specs.Walk.{rows_of}
use Rattle.flow_program.proofs.Reading.{without_list_name}
use Rattle.flow_program.proofs.request.requested.Goals as goal

pub returns-in_default : goal.returns-in_default
returns-in_default c =
    c.without_list.ensures
    ∙ without_list_name c.args.name.now (rows_of (found_of c.args.arguments.now)) c.in_default.not-feed
    c.in_default.not-inspect c.in_default.not-totals c.in_default.not-flows
    c.in_default.not-check
