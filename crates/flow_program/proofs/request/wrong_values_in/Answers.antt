use Rattle.std.proofs.Common.{◌∙◌, codes}
use Rattle.std.specs.Str.{bytes_eq}
use Rattle.clap.specs.Matches.{found_of}
use Rattle.clap.specs.Walk.{rows_of}
use Rattle.flow_program.specs.Requested.{wrong_others, wrong_records}
use Rattle.flow_program.proofs.Reading.{differs, passed_over}
use Rattle.flow_program.proofs.request.wrong_values_in.Goals as goal

pub returns-in_default : goal.returns-in_default
returns-in_default c =
    let name = c.args.name.now in
    let rows = rows_of (found_of c.args.arguments.now) in
    c.wrong_others.ensures
    ∙ passed_over (bytes_eq (codes "records") name) (wrong_records rows) (wrong_others name rows)
    (differs (codes "records") name c.in_default.not-records)
