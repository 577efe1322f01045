use Rattle.std.proofs.Common.{Bool, ◌≡◌, ◌⊎◌, ap, subst}
use Rattle.flow_codec.specs.declared.error.MessageError.{MessageError}
use Rattle.flow_codec.specs.declared.error.MessageError.TheVariants.{OutOfMemory}
use Rattle.flow_codec.specs.Fault.{IsFault}
use Rattle.flow_codec.specs.Templates.{AllTemplates}
use Rattle.flow_segment.specs.Carry.{Carry, kept_as}
use Rattle.flow_segment.proofs.Carrying.{err_of, taken_as, taken_in, taken_only}
use Rattle.flow_segment.proofs.carry.Carry.restate.Goals as goal

pub returns-in_err-walked-clause-refused : goal.returns-in_err-walked-clause-refused
returns-in_err-walked-clause-refused c =
    err_of {X = Bool} {E = MessageError} c.from_residual-in_err-walked.result c.in_err-walked.field-0.0
    (λ e. (e ≡ OutOfMemory) ⊎ IsFault c.args.octets.now c.args.self.now.templates e)
    c.from_residual-in_err-walked.ensures.1
    (subst (λ (ts : AllTemplates). (c.in_err-walked.field-0.0 ≡ OutOfMemory)
    ⊎ IsFault c.args.octets.now ts c.in_err-walked.field-0.0) (ap (λ (x : Carry). x.templates) c.self.view_is)
    c.in_err-walked.ensures.fault)

pub invariant_of-self-2 : goal.invariant_of-self-2
invariant_of-self-2 c =
    (taken_in c.args.octets.now c.args.self.now c.self.inside.templates c.counted.new.templates
    c.self.inside.due.entries c.reserve.new.self.entries c.put_due.new.due.entries c.self.inside.time
    c.in_ok-walked.walked.header c.in_ok-walked.count c.self.invariant c.self.view_is c.reserve.ensures.entries
    c.in_ok-walked.ensures.found c.put_due.ensures).0

pub returns-clause-taken : goal.returns-clause-taken
returns-clause-taken c =
    taken_as c.args.octets.now c.args.self.now c.self.inside.templates c.counted.new.templates
    c.self.inside.due.entries c.reserve.new.self.entries c.put_due.new.due.entries c.self.inside.time
    c.in_ok-walked.walked.header c.in_ok-walked.count c.is_none.result c.self.invariant c.self.view_is
    c.reserve.ensures.entries c.in_ok-walked.ensures.found c.put_due.ensures c.is_none.ensures.range c.is_none.ensures.value

pub returns-clause-only : goal.returns-clause-only
returns-clause-only c = λ a same is.
    taken_only c.args.octets.now c.args.self.now
    (kept_as c.counted.new.templates c.put_due.new.due.entries c.in_ok-walked.walked.header.time) a
    (taken_in c.args.octets.now c.args.self.now c.self.inside.templates c.counted.new.templates
    c.self.inside.due.entries c.reserve.new.self.entries c.put_due.new.due.entries c.self.inside.time
    c.in_ok-walked.walked.header c.in_ok-walked.count c.self.invariant c.self.view_is c.reserve.ensures.entries
    c.in_ok-walked.ensures.found c.put_due.ensures).1 is same
