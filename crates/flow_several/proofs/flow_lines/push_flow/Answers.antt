use Rattle.std.proofs.Common.{[], ◌∷◌, codes}
use Rattle.flow_report.specs.Formats.{closing, number_or_none, opening, separator, value_in}
use Rattle.flow_report.specs.Formats.Value.{Number, Time}
use Rattle.flow_report.proofs.LineMade.{line_made}
use Rattle.flow_several.specs.Flows.{numbered_flow}
use Rattle.flow_several.proofs.flow_lines.push_flow.Goals as goal

pub returns : goal.returns
unfolding numbered_flow
returns c =
    let f = c.args.format in
    let flow = c.args.flow in
    rw (
      c.put_last.ensures.text,
      c.put_value-3.ensures.text,
      c.in_ok-reserve-2.ensures.items,
      c.in_ok-push_protocol.ensures,
      c.put_value-2.ensures.text,
      c.put_time.ensures.text,
      c.put_value.ensures.text,
      c.put_opening.ensures.text,
      c.in_ok-reserve.ensures.items,
    )
    (line_made (separator f.layout) c.args.text.now.items (opening f.layout) (closing f.layout)
    (value_in f (codes "archive", Number c.args.number) ∷ value_in f (codes "start", Time flow.start)
    ∷ value_in f (codes "domain", Number flow.domain) ∷ value_in f (codes "protocol", number_or_none flow.protocol)
    ∷ value_in f (codes "octets", Number flow.octets) ∷ [])
    (value_in f (codes "packets", Number flow.packets)))
