use Rattle.std.proofs.Common.{◌≡◌, [], sym, subst, ◌∙◌, rules}
use Rattle.flow_disk.proofs.Results.{passed_on}
use Rattle.flow_segment.specs.Carry.{Carry}
use Rattle.flow_segment.specs.Prefix.{AreRead}
use Rattle.flow_manifest.specs.declared.error.OpenError.TheVariants.{OutOfMemory}
use Rattle.flow_recover.proofs.Accepting.{restated_all}
use Rattle.flow_recover.proofs.Behind.{called_some}
use Rattle.flow_recover.proofs.chaining.read_prefix.Goals as goal

pub returns-clause-found : goal.returns-clause-found
returns-clause-found c =
    let same : c.args.octets.now ≡ c.as_slice.result.now = search rules in
    let found = c.in_ok-take_octets.ensures.found in (
      restated_all c.in_ok-take_octets.field-0 c.args.octets.now c.args.carry.now c.take_octets.new.carry
          c.requires (found.0, found.1, found.2, found.3, found.4),
      called_some c.args.called.now c.in-Some.called c.args.octets.now c.in-Some.is (same
          ∙ c.as_slice.ensures.value),
    )

pub returns-in_err-take_octets-clause-refused : goal.returns-in_err-take_octets-clause-refused
returns-in_err-take_octets-clause-refused c messages read kind called =
    passed_on c.from_residual.result (c.in_err-take_octets.field-0).0 (λ e. e ≡ OutOfMemory)
    c.from_residual.ensures.1
    (c.in_err-take_octets.ensures.refused messages
    (subst (λ (k : Carry). AreRead c.args.octets.now k.templates messages []) (sym c.requires) read) kind)
