use Rattle.flow_snapshot.specs.Found.{kept_by_file}
use Rattle.flow_export.proofs.Viewed.{carry_found, own_file}
use Rattle.flow_export.proofs.exporting.carry_before.Goals as goal

pub returns-clause-found : goal.returns-clause-found
returns-clause-found g c = λ honest.
    let found = c.file_of_message-at.result in
    carry_found (kept_by_file c.args.snapshot.now.shelf) c.args.skip found.0 found.1 _ c.carry_after.result
    c.file_of_message-at.ensures.own c.kept_part.ensures.file
    (c.carry_after.ensures.found (c.kept_part.ensures.honest honest))

pub returns-clause-given : goal.returns-clause-given
returns-clause-given g c = λ honest v view.
    let own = own_file c.args.snapshot.now.shelf v c.file_of_message-at.result.0 _ view c.kept_part.ensures.file in
    c.carry_after.ensures.given (c.kept_part.ensures.honest honest) own.before own.messages own.restated own.accepted
    own.octets
