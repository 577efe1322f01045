use Rattle.std.proofs.Common.{ap, ◌∙◌}
use Rattle.flow_measure.specs.declared.entries.Change.{Change}
use Rattle.flow_measure.specs.Sums.{with_sums}
use Rattle.flow_measure.specs.Entries.{map_of, table_at, all_undone}
use Rattle.flow_measure.proofs.Merging.{refused_by}
use Rattle.flow_measure.proofs.Putting.{not_added}
use Rattle.flow_measure.proofs.Undoing.{last_first}
use Rattle.flow_measure.proofs.entries.Entries.add_noted.Goals as goal

pub returns-in_err-change-clause-adds : goal.returns-in_err-change-clause-adds
returns-in_err-change-clause-adds c =
    let refusal = c.in_err-change.field-0.0 in
    refused_by c.from_residual-in_err-change.result refusal
    (with_sums c.args.key c.args.sums (table_at 0 c.args.self.now)) _ c.from_residual-in_err-change.ensures.1
    (not_added Change refusal 0 (map_of c.args.self.now) (map_of c.change.new.self) c.args.key c.args.sums
    c.in_err-change.ensures.adds)

pub returns-clause-back : goal.returns-clause-back
returns-clause-back c =
    let changes = c.args.changes.now.items in
    let more = rw (c.unwrap.ensures, c.in_ok-reserve.ensures.items) at c.push.ensures.items in
    ap (λ cs. all_undone cs c.change.new.self) more ∙ last_first changes c.in_ok-change.change c.change.new.self
    ∙ ap (all_undone changes) c.in_ok-change.ensures.ok
