use Rattle.std.proofs.Common.{refl, ap, ◌∙◌}
use Rattle.flow_snapshot.specs.ShelfSeen.{ShelfSeen}
use Rattle.flow_headline.proofs.Telling.{unanswered}
use Rattle.flow_headline.proofs.totals.rows_of.Goals as goal

pub returns-in-Err-Damaged-clause-refused : goal.returns-in-Err-Damaged-clause-refused
returns-in-Err-Damaged-clause-refused c =
    let shown = c.in_ok-directory.ensures.shown refl in
    let same = c.into_snapshot-snapshot.ensures in
    unanswered c.args.archive.now.state c.into_snapshot-snapshot.result.honest c.into_snapshot-snapshot.result.shelf
    c.in-Err-Damaged.field-0 c.in-Err-Damaged.file c.in-Err-Damaged.at c.in-Err-Damaged.field-0-is
    (ap (λ (x : ShelfSeen). x.honest) same ∙ shown.1)
    (ap (λ (x : ShelfSeen). x.shelf) same ∙ shown.0) c.in-Err-Damaged.ensures.given c.in-Err-Damaged.ensures.answered
