use Rattle.std.proofs.Common.{sym, append_assoc, ◌∷◌, [], ◌∙◌, subst, List, ℕ, length, refl, arith}
use Rattle.flow_codec.specs.Raw.{raw}
use Rattle.flow_report.specs.Telling.{IsPut}
use Rattle.flow_report.specs.Lines.{start_text, record_line}
use Rattle.flow_report.proofs.Holding.{fields_text, record_parts}
use Rattle.flow_report.proofs.Putting.{put_both, put_last}
use Rattle.flow_report.proofs.line.end_by_record.Goals as goal

pub returns : goal.returns
returns c =
    let r = raw c.args.id c.args.definition.now c.args.octets.now in
    let fields = rw c.fields-fields.ensures at c.in_ok-at.ensures.put in
    let one = put_both _ _ _ _ _ _ _ _ c.put_octet-at.ensures.put fields in
    let start = rw c.options.ensures at c.put_start.ensures in
    let all = put_both _ _ _ _ _ _ _ _ one start in
    let parts = record_parts r
    ∙ append_assoc (start_text r.layout.options r.id) (fields_text r.layout.fields r.octets) (10 ∷ []) in
    put_last c.args.line.now c.put_start.new.line (length c.args.line.now) c.put_start.result (record_line r)
    (subst (λ (t : List ℕ). IsPut c.args.line.now (length c.args.line.now) c.put_start.new.line c.put_start.result t)
    (sym parts) all) refl (omega arith)
