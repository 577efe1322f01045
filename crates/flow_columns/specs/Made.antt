-- Lines on their way to a writer, by how they are made.
use Rattle.flow_columns.specs.declared.lines.Made.{Made}
use Rattle.flow_columns.specs.declared.lines.Made.TheVariants as made
use Rattle.flow_columns.specs.Lines.{Cells, LinesText, Whole}

abbrev pub text_of : Made → LinesText
text_of (made.Whole lines) = record { line = Whole lines.format; held = lines.held }
text_of (made.Cells lines) = record { line = Cells lines.times lines.columns.items; held = lines.text.items }
