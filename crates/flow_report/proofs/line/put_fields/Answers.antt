use Rattle.std.proofs.Common.{sym, ap, ◌∙◌, ◌++◌, ◌∷◌, [], ◌-◌, ℕ, List, length, length-append, arith}
use Rattle.std.proofs.lemmas.List.{take-append-drop}
use Rattle.std.proofs.lemmas.Bool.{eqb-true}
use Rattle.flow_elements.specs.declared.element.ElementId.{ElementId}
use Rattle.flow_report.proofs.Putting.{nothing_put, rest_fixed, field_put, all_put, none_of}
use Rattle.flow_report.proofs.line.put_fields.Goals as goal

pub fields-init : goal.fields-init
fields-init c = (nothing_put c.args.line.now c.args.at c.args.specifiers.now c.args.octets.now, omega arith)

pub fields-preserved : goal.fields-preserved
fields-preserved c =
    let f = c.in-Some.field-0-0.now in
    let last = c.in-Some.ensures.cases.0 in
    let back = c.split_at.ensures.back_len in
    let split = sym (take-append-drop (length c.fields.rest.now - f.1) c.fields.rest.now)
    ∙ (λ i. sym c.split_at.ensures.front i ++ sym c.split_at.ensures.back i) in
    let one = ap (λ (l : List (ElementId × ℕ)). length l) last ∙ length-append c.in-Some.before.now (f ∷ []) in
    let fixed = rest_fixed _ _ _ _ _ _ _ _ f.1 c.fields.invariant.0 (omega arith) (omega arith) in (
      field_put c.args.line.now c.fields.line c.put_field-start.new.line c.args.at c.fields.start c.put_field-start.result
          c.args.specifiers.now c.fields.left.now c.in-Some.before.now c.args.octets.now c.fields.rest.now
          c.split_at.result.0.now c.split_at.result.1.now f.0 f.1 c.fields.invariant.0 last fixed split
          (omega (arith, back)) c.put_field-start.ensures.put,
      omega (arith, one, back, c.fields.invariant.1, c.put_field-start.ensures.room),
    )

pub returns-clause-put : goal.returns-clause-put
returns-clause-put c =
    all_put _ _ _ _ _ _ _ _ c.fields.invariant.0 (none_of c.fields.left.now c.in_default.ensures.cases)
    (none_of c.fields.rest.now (eqb-true _ 0 (sym c.if-not-is_empty.ensures)))
