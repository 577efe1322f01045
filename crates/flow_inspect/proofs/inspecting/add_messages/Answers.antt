use Rattle.std.proofs.Common.{refl, subst}
use Rattle.std.specs.Prelude.{Ok, Bool, None}
use Rattle.flow_codec.specs.Stream.{progress, IsStep}
use Rattle.flow_report.specs.declared.refusal.Refusal.TheVariants as refusal
use Rattle.flow_report.proofs.Reached.{opened}
use Rattle.flow_report.proofs.Summing.{err_of, short_at}
use Rattle.flow_inspect.specs.Counting.{HasCounted}
use Rattle.flow_inspect.proofs.Following.{always, begun, ended, ended_by, nothing, stepped, stopped_at}
use Rattle.flow_inspect.proofs.inspecting.add_messages.Goals as goal

pub messages-init : goal.messages-init
messages-init g c =
    begun (g.R.Read.remaining c.args.input.now) (progress c.args.reader.now (g.R.Read.remaining c.args.input.now))
    c.args.templates.now c.args.reports.now.entries (opened _ _ c.requires.opened) c.requires.undefined
    c.requires.none

pub messages-preserved : goal.messages-preserved
messages-preserved g c =
    let step = subst (λ (b : Bool). IsStep (progress c.messages.reader (g.R.Read.remaining c.messages.input)) (Ok b)
    (progress c.advance.new.self (g.R.Read.remaining c.advance.new.input))) c.if-branch.true
    c.in_ok-advance.ensures.step in
    stepped (g.R.Read.remaining c.args.input.now)
    (progress c.messages.reader (g.R.Read.remaining c.messages.input))
    (progress c.advance.new.self (g.R.Read.remaining c.advance.new.input))
    c.messages.templates c.walk_sets.new.templates c.messages.reports.entries c.add_message.new.reports.entries
    c.walk_sets.new.sink c.in-Ok.walked c.message.result.now
    c.messages.invariant step c.message.ensures.value c.in-Ok.ensures.found c.in-Ok.ensures.unread
    c.in-Ok.ensures.replaced c.in_ok-add_message-in-Ok.ensures

pub returns-clause-reports : goal.returns-clause-reports
returns-clause-reports g c =
    let step = subst (λ (b : Bool). IsStep (progress c.messages.reader (g.R.Read.remaining c.messages.input)) (Ok b)
    (progress c.advance.new.self (g.R.Read.remaining c.advance.new.input))) c.if-branch.false
    c.in_ok-advance.ensures.step in
    ended (g.R.Read.remaining c.args.input.now)
    (progress c.messages.reader (g.R.Read.remaining c.messages.input))
    (progress c.advance.new.self (g.R.Read.remaining c.advance.new.input))
    c.messages.templates c.messages.reports.entries c.messages.invariant step

pub returns-in_err-advance-clause-refused : goal.returns-in_err-advance-clause-refused
returns-in_err-advance-clause-refused g c =
    err_of c.from_residual.result _ _ c.from_residual.ensures.1
    (ended_by (g.R.Read.remaining c.args.input.now) _ c.advance.new.self.ahead
    (progress c.messages.reader (g.R.Read.remaining c.messages.input))
    (progress c.advance.new.self (g.R.Read.remaining c.advance.new.input)) c.messages.templates
    c.messages.reports.entries c.in_err-advance.field-0.0 c.messages.invariant c.in_err-advance.ensures.step
    (short_at c.messages.reader c.advance.new.self _ _ _ c.messages.invariant.going c.in_err-advance.ensures.within))

pub returns-in_err-add_message-in-Ok-clause-refused :
    goal.returns-in_err-add_message-in-Ok-clause-refused
returns-in_err-add_message-in-Ok-clause-refused g c =
    err_of c.from_residual-in_err-add_message-in-Ok.result refusal.OutOfMemory _
    c.from_residual-in_err-add_message-in-Ok.ensures.1 (always (g.R.Read.remaining c.args.input.now))

pub returns-in-Err-clause-refused : goal.returns-in-Err-clause-refused
returns-in-Err-clause-refused g c =
    let step = subst (λ (b : Bool). IsStep (progress c.messages.reader (g.R.Read.remaining c.messages.input)) (Ok b)
    (progress c.advance.new.self (g.R.Read.remaining c.advance.new.input))) c.if-branch.true
    c.in_ok-advance.ensures.step in
    let refused = stopped_at HasCounted (λ _ _ _ _. ⊥)
    (g.R.Read.remaining c.args.input.now) _ (progress c.messages.reader (g.R.Read.remaining c.messages.input))
    (progress c.advance.new.self (g.R.Read.remaining c.advance.new.input)) c.messages.templates
    c.messages.reports.entries nothing c.message.result.now c.in-Err.stop
    c.messages.invariant step c.message.ensures.value c.in-Err.ensures.fault in
    rw (c.walk_refusal.ensures.value, c.count.ensures.value) refused
