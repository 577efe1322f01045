use Rattle.std.proofs.Common.{◌≡◌, ◌-◌, List, None}
use Rattle.std.specs.Prelude.{IsTrue}
use Rattle.flow_rolled.specs.declared.row.RolledRow.{RolledRow}
use Rattle.flow_rolled.specs.Messages.{last_from}
use Rattle.flow_rolled.specs.Stored.{HasGiven, HasRead, with_rows}
use Rattle.flow_rolled.proofs.Widened.{HasKey}
use Rattle.flow_rolled.proofs.summing.sum_rows.Given as goal

-- the rows so far were added
abbrev pub invariant-loop-reader : goal.invariant-loop-reader
invariant-loop-reader g l = (given : List RolledRow) × record {
  part : l.reader.part ≡ l.part;
  width : l.reader.width ≡ l.width;
  given_is : HasGiven l.reader given;
  read : IsTrue l.part.honest → HasRead l.reader given;
  rows : l.rows ≡ with_rows given l.fn.rows;
  key : HasKey l.rows (last_from None given);
  faults : l.faults ≡ l.fn.faults;
}

abbrev pub decreases-loop-reader : goal.decreases-loop-reader
decreases-loop-reader g l = l.part.length - l.reader.place
