use Rattle.std.specs.Prelude.{map}
use Rattle.std.proofs.Common.{◌∙◌, ap}
use Rattle.flow_program.specs.Requested.{wrong_values}
use Rattle.flow_program.proofs.Answered.{takes, is_told, ok_made, err_made, rows_taken}
use Rattle.flow_program.proofs.request.parse.Goals as goal

pub returns-clause-refused : goal.returns-clause-refused
returns-clause-refused g c =
    is_told _ _ c.in-Err.error c.line_error.result c.in-Ok.ensures c.in-Err.ensures.kinds c.line_error.ensures.memory
    c.line_error.ensures.either

pub returns-in-Ok-found-clause-found : goal.returns-in-Ok-found-clause-found
returns-in-Ok-found-clause-found g c =
    let words = map g.S.AsStr.text c.args.words.now in
    let m = c.in-Ok-try_get_matches_from.matches in
    let request = c.in-Ok-found.request in
    let made = takes _ words m request c.in-Ok.ensures c.in-Ok-try_get_matches_from.ensures.kinds
    c.in-Ok-try_get_matches_from.ensures.matches c.in-Ok-found.ensures in
    rw c.ok_or.ensures.value (ok_made request words c.wrong_values.result made)

pub returns-in-Ok-found-clause-refused : goal.returns-in-Ok-found-clause-refused
returns-in-Ok-found-clause-refused g c =
    let words = map g.S.AsStr.text c.args.words.now in
    let m = c.in-Ok-try_get_matches_from.matches in
    let request = c.in-Ok-found.request in
    let made = takes _ words m request c.in-Ok.ensures c.in-Ok-try_get_matches_from.ensures.kinds
    c.in-Ok-try_get_matches_from.ensures.matches c.in-Ok-found.ensures in
    let rows = rows_taken _ words m c.in-Ok.ensures c.in-Ok-try_get_matches_from.ensures.matches in
    rw c.ok_or.ensures.value
    (err_made request words c.wrong_values.result (c.wrong_values.ensures ∙ ap wrong_values rows) made)
