use Rattle.std.proofs.Common.{arith}
use Rattle.std.proofs.lemmas.Fmt.{length-decimal-le}
use Rattle.flow_report.proofs.line.put_number.Goals as goal

pub write_digits-requires : goal.write_digits-requires
write_digits-requires c =
    omega (arith, c.requires.0, c.requires.1, length-decimal-le 20 c.args.number (omega arith) (omega arith) (omega arith))

pub returns-clause-room : goal.returns-clause-room
returns-clause-room c =
    omega (
      arith,
      c.write_digits.ensures.start,
      length-decimal-le 20 c.args.number (omega arith) (omega arith) (omega arith),
    )
