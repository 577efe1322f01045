use Rattle.std.proofs.Common.{◌≡◌, ◌∙◌, sym, eqb, length, false}
use Rattle.flow_codec.proofs.Writing.{set_long}
use Rattle.flow_codec.proofs.prefix.set_size.Goals as goal

pub returns-clause-exact : goal.returns-clause-exact
returns-clause-exact c =
    let es = c.args.definitions.now in
    let some : eqb (length es) 0 ≡ false = sym c.is_empty.ensures ∙ c.if-is_empty.false in
    set_long c.args.kind es c.size.result c.requires.entries some c.size.ensures.size
