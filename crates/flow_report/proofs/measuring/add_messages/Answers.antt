use Rattle.std.proofs.Common.{ap, refl, subst, ◌∙◌, arith, List, ℕ}
use Rattle.std.specs.Prelude.{Ok, Bool}
use Rattle.flow_codec.specs.Unread.{counted, unread_of}
use Rattle.flow_codec.specs.Stream.{progress, IsStep, Progress}
use Rattle.flow_report.specs.declared.refusal.Refusal.TheVariants as refusal
use Rattle.flow_report.proofs.Reached.{opened}
use Rattle.flow_report.proofs.Losing.{all_lacked, lacked_more, none_lacked}
use Rattle.flow_report.proofs.Summing.{always, begun, ended_by, err_of, of_input, short_at, stepped, stopped_at, summed}
use Rattle.flow_report.proofs.measuring.add_messages.Goals as goal

pub messages-init : goal.messages-init
messages-init g c =
    let old = g.R.Read.remaining c.args.input.now in
    let reader = progress c.args.reader.now old in
    record {
      sums = begun c.args.sums.now.totals.rows.width old reader c.args.templates.now c.args.sums.now.totals
          (opened _ _ c.requires.opened) c.requires.undefined c.requires.empty;
      lacks = none_lacked old reader.rest c.args.templates.now c.args.lacking.now.losses
          c.args.lacking.now.due.entries (ap (λ (p : Progress). p.rest) (opened _ _ c.requires.opened)) c.requires.undefined
          c.requires.unlost c.requires.undue;
    }

pub messages-preserved : goal.messages-preserved
messages-preserved g c =
    let old = g.R.Read.remaining c.args.input.now in
    let before = progress c.messages.reader (g.R.Read.remaining c.messages.input) in
    let after = progress c.advance.new.self (g.R.Read.remaining c.advance.new.input) in
    let step = subst (λ (b : Bool). IsStep before (Ok b) after) c.if-branch.true c.in_ok-advance.ensures.step in
    let found = c.in-Ok.ensures.found in
    let next = stepped c.args.sums.now.totals.rows.width old before after c.messages.templates c.walk_sets.new.templates
    (record c.messages.sums { records = 0 }) c.walk_sets.new.sink c.in-Ok.walked.header c.message.result.now
    c.messages.invariant.sums refl step c.message.ensures.value found in
    let unread = c.in-Ok.ensures.unread
    ∙ ap (λ (o : List ℕ). counted (unread_of c.messages.templates o)) c.message.ensures.value in
    record {
      sums = next.0;
      lacks = lacked_more old before after c.messages.templates c.walk_sets.new.templates c.messages.lacking.losses
          c.note.new.self.losses c.messages.lacking.due.entries c.note.new.self.due.entries c.in-Ok.walked
          c.walk_sets.new.sink.records found.0 c.messages.invariant.lacks step next.2 unread next.1
          c.in_ok-note-in-Ok.ensures.losses c.in_ok-note-in-Ok.ensures.due;
    }

pub returns-clause-losses : goal.returns-clause-losses
returns-clause-losses g c =
    let old = g.R.Read.remaining c.args.input.now in
    let before = progress c.messages.reader (g.R.Read.remaining c.messages.input) in
    let after = progress c.advance.new.self (g.R.Read.remaining c.advance.new.input) in
    let step = subst (λ (b : Bool). IsStep before (Ok b) after) c.if-branch.false c.in_ok-advance.ensures.step in
    rw c.losses.ensures (all_lacked old before after c.messages.templates c.messages.lacking.losses
    c.messages.lacking.due.entries c.messages.invariant.lacks step)

pub returns-in_err-advance-clause-refused : goal.returns-in_err-advance-clause-refused
returns-in_err-advance-clause-refused g c =
    err_of c.from_residual.result _ _ c.from_residual.ensures.1
    (ended_by c.args.sums.now.totals.rows.width
    (g.R.Read.remaining c.args.input.now) _ c.advance.new.self.ahead
    (progress c.messages.reader (g.R.Read.remaining c.messages.input))
    (progress c.advance.new.self (g.R.Read.remaining c.advance.new.input)) c.messages.templates
    c.messages.sums.totals c.in_err-advance.field-0.0 c.messages.invariant.sums c.in_err-advance.ensures.step
    (short_at c.messages.reader c.advance.new.self _ _ _ c.messages.invariant.sums.going c.in_err-advance.ensures.within))

pub returns-in-Err-clause-refused : goal.returns-in-Err-clause-refused
returns-in-Err-clause-refused g c =
    let step = subst (λ (b : Bool). IsStep (progress c.messages.reader (g.R.Read.remaining c.messages.input)) (Ok b)
    (progress c.advance.new.self (g.R.Read.remaining c.advance.new.input))) c.if-branch.true
    c.in_ok-advance.ensures.step in
    let refused = stopped_at c.args.sums.now.totals.rows.width
    (g.R.Read.remaining c.args.input.now) _ (progress c.messages.reader (g.R.Read.remaining c.messages.input))
    (progress c.advance.new.self (g.R.Read.remaining c.advance.new.input)) c.messages.templates
    (record c.messages.sums { records = 0 }) c.message.result.now c.in-Err.stop
    c.messages.invariant.sums refl step c.message.ensures.value (omega (arith, c.message.ensures.most))
    c.in-Err.ensures.fault in
    rw (c.refusal_of.ensures.value, c.count.ensures.value) refused

pub returns-clause-sums : goal.returns-clause-sums
returns-clause-sums g c =
    let step = subst (λ (b : Bool). IsStep (progress c.messages.reader (g.R.Read.remaining c.messages.input)) (Ok b)
    (progress c.advance.new.self (g.R.Read.remaining c.advance.new.input))) c.if-branch.false
    c.in_ok-advance.ensures.step in
    summed c.args.sums.now.totals.rows.width (g.R.Read.remaining c.args.input.now)
    (progress c.messages.reader (g.R.Read.remaining c.messages.input))
    (progress c.advance.new.self (g.R.Read.remaining c.advance.new.input)) c.messages.templates
    c.messages.sums.totals c.messages.invariant.sums step

pub returns-in_err-advance-clause-unwritten : goal.returns-in_err-advance-clause-unwritten
returns-in_err-advance-clause-unwritten g c =
    err_of c.from_residual.result _ _ c.from_residual.ensures.1
    (of_input c.in_err-advance.field-0.0)

pub returns-in_err-note-in-Ok-clause-refused : goal.returns-in_err-note-in-Ok-clause-refused
returns-in_err-note-in-Ok-clause-refused g c =
    err_of c.from_residual-in_err-note-in-Ok.result refusal.OutOfMemory _
    c.from_residual-in_err-note-in-Ok.ensures.1 (always (g.R.Read.remaining c.args.input.now))
