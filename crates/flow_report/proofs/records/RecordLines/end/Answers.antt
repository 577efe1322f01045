use Rattle.std.proofs.Common.{[], refl, subst}
use Rattle.std.specs.Prelude.{IfErr}
use Rattle.std.proofs.lemmas.Result.{IfErr-weaker}
use Rattle.flow_report.specs.Records.{RecordText}
use Rattle.flow_report.specs.Writing.{AppendsFront}
use Rattle.flow_report.proofs.Joining.{front_written, stops_after}
use Rattle.flow_report.proofs.records.RecordLines.end.Goals as goal

pub returns-clause-front : goal.returns-clause-front
returns-clause-front g c =
    let held = c.self.inside.lines.text.items in
    subst (λ (t : RecordText). IfErr c.flush.result
    (λ x. AppendsFront (g.W.Write.contents c.args.output.now) (g.W.Write.contents c.flush.new.output) t.held))
    c.self.view_is
    (IfErr-weaker c.flush.result _ _ (λ e cut. front_written _ _ held (stops_after _ _ [] held held refl cut))
    c.flush.ensures.front)
