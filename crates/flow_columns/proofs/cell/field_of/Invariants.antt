use Rattle.std.proofs.Common.{◌≡◌, drop}
use Rattle.flow_codec.specs.Fields.{fields_in}
use Rattle.flow_columns.specs.Lines.{field_of}
use Rattle.flow_columns.proofs.cell.field_of.Given as goal

-- no field so far is of the element
abbrev pub invariant-loop-of : goal.invariant-loop-of
invariant-loop-of l =
    field_of l.id (fields_in (drop l.of-index l.specifiers) l.rest) ≡ field_of l.id (fields_in l.specifiers l.octets)
