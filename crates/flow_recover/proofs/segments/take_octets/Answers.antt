use Rattle.std.proofs.Common.{◌≡◌, ◌+◌, List, ℕ, [], subst, sym, arith}
use Rattle.std.proofs.lemmas.List.{append-nil}
use Rattle.flow_disk.proofs.Results.{passed_on}
use Rattle.flow_segment.specs.Prefix.{AreRead}
use Rattle.flow_manifest.specs.declared.error.OpenError.TheVariants.{OutOfMemory}
use Rattle.flow_recover.proofs.Joining.{all_taken, no_fault_after}
use Rattle.flow_recover.proofs.segments.take_octets.Goals as goal

pub returns-clause-found : goal.returns-clause-found
returns-clause-found c =
    all_taken c.args.section c.args.octets.now c.args.carry.now c.take_whole.new.carry c.args.span.now
    c.take_whole.new.span c.in_ok-taken.taken (omega (arith, c.if-taken-octets.false)) c.in_ok-taken.ensures.found

pub returns-in_err-taken-clause-refused : goal.returns-in_err-taken-clause-refused
returns-in_err-taken-clause-refused c messages read kind =
    let octets = c.args.octets.now in
    passed_on c.from_residual.result (c.in_err-taken.field-0).0 (λ e. e ≡ OutOfMemory) c.from_residual.ensures.1
    (c.in_err-taken.ensures.refused messages []
    (subst (λ (l : List ℕ). AreRead l c.args.carry.now.templates messages []) (sym (append-nil octets)) read) kind)

pub returns-then-taken-octets-clause-refused : goal.returns-then-taken-octets-clause-refused
returns-then-taken-octets-clause-refused c messages read kind =
    let octets = c.args.octets.now in
    let taken = c.in_ok-taken.taken in
    let fault = c.in_ok-taken.ensures.stopped c.if-taken-octets.true in
    absurd (no_fault_after c.args.section octets c.args.carry.now c.take_whole.new.carry c.args.span.now
    c.take_whole.new.span taken (c.args.from + taken.octets) messages fault.0 c.if-taken-octets.true
    c.in_ok-taken.ensures.found read kind fault.1)
