use Rattle.std.proofs.Common.{◌≡◌, ◌++◌, drop}
use Rattle.std.specs.List.{flat_map}
use Rattle.flow_codec.specs.Raw.{raw}
use Rattle.flow_report.specs.Records.{Started}
use Rattle.flow_columns.specs.Lines.{after_comma}
use Rattle.flow_columns.proofs.line.push_others.Given as goal

abbrev pub invariant-loop-column : goal.invariant-loop-column
invariant-loop-column l =
    let s : Started = (l.start, (l.header, raw l.id l.definition l.octets)) in
    l.text.items ++ flat_map (after_comma l.times s) (drop l.column-index l.columns)
    ≡ l.initial.text.items ++ flat_map (after_comma l.times s) l.columns
