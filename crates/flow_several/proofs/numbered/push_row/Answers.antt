use Rattle.std.proofs.Common.{◌≡◌, ◌∙◌, [], ◌∷◌, codes, sym, true, false}
use Rattle.flow_report.specs.ArchiveLines.{shows_width}
use Rattle.flow_report.specs.Formats.{closing, number_or_none, opening, separator, value_in}
use Rattle.flow_report.specs.Formats.Value.{Number, Time}
use Rattle.flow_report.proofs.LineMade.{line_made}
use Rattle.flow_several.specs.Each.{numbered_row}
use Rattle.flow_several.proofs.numbered.push_row.Goals as goal

pub returns-then-shows_width : goal.returns-then-shows_width
unfolding numbered_row
returns-then-shows_width c =
    let f = c.args.format in
    let row = c.args.row in
    let shown : shows_width f.layout c.args.usual row.width ≡ true = sym c.shows_width.ensures ∙ c.if-shows_width.true in
    rw (
      c.put_last.ensures.text,
      c.put_value-then-shows_width.ensures.text,
      c.put_value-4.ensures.text,
      c.put_value-3.ensures.text,
      c.in_ok-reserve-2.ensures.items,
      c.in_ok-push_protocol.ensures,
      c.put_value-2.ensures.text,
      c.put_time.ensures.text,
      c.put_value.ensures.text,
      c.put_opening.ensures.text,
      c.in_ok-reserve.ensures.items,
      shown,
    )
    (line_made (separator f.layout) c.args.text.now.items (opening f.layout) (closing f.layout)
    (value_in f (codes "archive", Number c.args.number) ∷ value_in f (codes "start", Time row.key.start)
    ∷ value_in f (codes "domain", Number row.key.domain) ∷ value_in f (codes "protocol", number_or_none row.key.protocol)
    ∷ value_in f (codes "flows", Number row.sums.flows) ∷ value_in f (codes "octets", Number row.sums.octets)
    ∷ value_in f (codes "packets", Number row.sums.packets) ∷ [])
    (value_in f (codes "width", Number row.width)))

pub returns-else-shows_width : goal.returns-else-shows_width
unfolding numbered_row
returns-else-shows_width c =
    let f = c.args.format in
    let row = c.args.row in
    let hidden : shows_width f.layout c.args.usual row.width ≡ false = sym c.shows_width.ensures ∙ c.if-shows_width.false in
    rw (
      c.put_last-else-shows_width.ensures.text,
      c.put_value-4.ensures.text,
      c.put_value-3.ensures.text,
      c.in_ok-reserve-2.ensures.items,
      c.in_ok-push_protocol.ensures,
      c.put_value-2.ensures.text,
      c.put_time.ensures.text,
      c.put_value.ensures.text,
      c.put_opening.ensures.text,
      c.in_ok-reserve.ensures.items,
      hidden,
    )
    (line_made (separator f.layout) c.args.text.now.items (opening f.layout) (closing f.layout)
    (value_in f (codes "archive", Number c.args.number) ∷ value_in f (codes "start", Time row.key.start)
    ∷ value_in f (codes "domain", Number row.key.domain) ∷ value_in f (codes "protocol", number_or_none row.key.protocol)
    ∷ value_in f (codes "flows", Number row.sums.flows) ∷ value_in f (codes "octets", Number row.sums.octets) ∷ [])
    (value_in f (codes "packets", Number row.sums.packets)))
