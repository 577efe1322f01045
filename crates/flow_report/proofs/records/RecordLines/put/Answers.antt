use Rattle.std.proofs.Common.{subst, sym}
use Rattle.std.specs.Prelude.{OnErr}
use Rattle.flow_codec.specs.Raw.{raw}
use Rattle.flow_report.specs.Records.{record_text, RecordText}
use Rattle.flow_report.specs.Telling.{TellsFront}
use Rattle.flow_report.proofs.records.RecordLines.put.Goals as goal
use Rattle.flow_report.proofs.records.RecordLines.put.Goals.{in-Ok, in-Err}

pub returns-clause-front : goal.returns-clause-front
returns-clause-front g c =
    let old = g.W.Write.contents c.args.output.now in
    let new = g.W.Write.contents c.put_flow_record.new.output in
    let r = raw c.args.id c.args.definition.now c.args.octets.now in
    let Front : RecordText → Type 0 =
    λ t. TellsFront old t.held new (record_text t.format (c.args.start, (c.args.header.now, r))) in
    elim c.match-put_flow_record.branch [
      | in-Ok w ↦ subst (λ r. OnErr r (Front c.args.self.now)) (sym w.result-is) tt
      | in-Err w ↦ subst (λ r. OnErr r (Front c.args.self.now)) (sym w.result-is)
          (subst Front c.self.view_is w.in-Err.ensures.front.1)
    ]
