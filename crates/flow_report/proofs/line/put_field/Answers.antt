use Rattle.std.proofs.Common.{List, ℕ, subst, sym, drop}
use Rattle.flow_report.specs.Telling.{IsPut}
use Rattle.flow_report.proofs.Fields.{listed_field, other_field}
use Rattle.flow_report.proofs.line.put_field.Goals as goal

pub returns-in-Some-clause-put : goal.returns-in-Some-clause-put
returns-in-Some-clause-put c =
    let l = c.in-Some.label in
    subst (λ (t : List ℕ). IsPut c.args.line.now c.args.at c.put_named.new.line c.put_named.result t)
    (sym (listed_field c.args.id.now (drop l.before l.octets.now) l.kind c.args.octets.now c.in-Some.ensures.text))
    c.put_named.ensures.put

pub returns-in-None-clause-put : goal.returns-in-None-clause-put
returns-in-None-clause-put c =
    subst (λ (t : List ℕ). IsPut c.args.line.now c.args.at c.put_numbered.new.line c.put_numbered.result t)
    (sym (other_field c.args.id.now c.args.octets.now c.in-None.ensures.text)) c.put_numbered.ensures.put
