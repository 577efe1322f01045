use Rattle.std.proofs.Common.{rules, sym, ◌∙◌, subst}
use Rattle.flow_folder.specs.Naming.{IsPlain}
use Rattle.flow_folder.proofs.Decimals.{reads_back, reads_every, plain_decimal}
use Rattle.flow_folder.proofs.naming.number_of.Goals as goal

pub returns-then-not-is_plain-clause-every : goal.returns-then-not-is_plain-clause-every
returns-then-not-is_plain-clause-every c number small is =
    search (rules, plain_decimal number small, subst IsPlain (sym is) (plain_decimal number small))

pub returns-clause-written : goal.returns-clause-written
returns-clause-written c =
    search (rules, reads_back c.args.digits.now c.parse.result c.parse.ensures.value.0)

pub returns-clause-every : goal.returns-clause-every
returns-clause-every c number small is =
    c.ok.ensures.value ∙ reads_every c.args.digits.now c.parse.result c.parse.ensures.value.0 number small is
