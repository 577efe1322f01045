use Rattle.flow_headline.proofs.Telling.{refusal, told}
use Rattle.flow_headline.proofs.totals.totals_after_a_stop.Goals as goal

pub returns-in-Ok-clause-totals : goal.returns-in-Ok-clause-totals
returns-in-Ok-clause-totals c =
    let opened = c.in_ok-answers.ensures in
    told c.args.archive c.args.events.now c.in_ok-answers.field-0.answers.items c.args.choice
    c.in_ok-answers.field-0.archive.state opened.stopped opened.prefix c.args.from c.args.to
    c.in-Ok.rows.items c.in-Ok.ensures.rows

pub returns-in-Err-clause-refused : goal.returns-in-Err-clause-refused
returns-in-Err-clause-refused c =
    let opened = c.in_ok-answers.ensures in
    refusal c.args.archive c.args.events.now c.in_ok-answers.field-0.answers.items c.args.choice
    c.in_ok-answers.field-0.archive.state opened.stopped opened.prefix c.in-Err.refused c.in-Err.ensures.refused
