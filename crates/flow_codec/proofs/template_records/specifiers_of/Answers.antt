use Rattle.std.proofs.Common.{◌∷◌, [], length, ap, arith}
use Rattle.std.proofs.lemmas.List.{length-append}
use Rattle.std.proofs.lemmas.Result.{err_from_is_err_and}
use Rattle.flow_codec.specs.Reading.{specifiers_at}
use Rattle.flow_codec.proofs.SpecifierLoop.{goes_on, ends, is_done}
use Rattle.flow_codec.proofs.template_records.specifiers_of.Goals as goal

pub returns-in_err-specifier-clause-exact : goal.returns-in_err-specifier-clause-exact
returns-in_err-specifier-clause-exact c =
    let p = err_from_is_err_and c.from_residual-in_err-specifier.result c.from_residual-in_err-specifier.ensures.1 in
    rw (p.1, p.2) (ends c.args.at c.args.count c.loop.counter c.loop.specifiers c.loop.rest.now
    (specifiers_at c.args.at c.args.count c.args.octets.now) c.loop-test.true c.in_err-specifier.field-0.0
    c.in_err-specifier.ensures.exact c.loop.invariant.0)

pub loop-preserved : goal.loop-preserved
loop-preserved c = (
  rw c.in_ok-push.ensures (goes_on c.args.at c.args.count c.loop.counter c.loop.specifiers c.loop.rest.now
      (specifiers_at c.args.at c.args.count c.args.octets.now) c.loop-test.true c.in_ok-specifier.specifier
      c.in_ok-specifier.after.now c.in_ok-specifier.ensures.exact c.loop.invariant.0),
  omega (
    arith,
    ap length c.in_ok-push.ensures,
    length-append c.loop.specifiers (c.in_ok-specifier.specifier ∷ []),
    c.loop.invariant.1,
  ),
  omega (arith, c.in_ok-specifier.ensures.len),
)

pub returns-clause-exact : goal.returns-clause-exact
returns-clause-exact c =
    is_done c.args.at c.args.count c.loop.counter c.loop.specifiers c.loop.rest.now
    (specifiers_at c.args.at c.args.count c.args.octets.now) c.loop-test.false c.loop.invariant.0
