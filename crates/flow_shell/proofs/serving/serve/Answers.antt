use Rattle.std.proofs.Common.{arith, ◌≡◌, ◌+◌, ◌∙◌, ℕ, true, inl, inr, refl, subst}
use Rattle.flow_shell.specs.Replies.{IsAnswered, IsLineReplied}
use Rattle.flow_shell.specs.declared.serving.End.TheVariants.{OfInput, Unread}
use Rattle.flow_shell.proofs.AllReplied.{at_end, ended_so, line_more, none_replied, quit_so}
use Rattle.flow_shell.proofs.serving.serve.Goals as goal

pub loop-init : goal.loop-init
loop-init g c = (
  refl,
  none_replied g.B.Ends.said g.B.Ends.had (IsAnswered g.J.Naming.honest g.J.Naming.opening c.args.asking.now.width)
      (g.I.Read.remaining c.args.lines.now.input) c.args.lines.now.is_read c.args.asking.now.reader
      (g.W.Write.contents c.args.output.now),
)

pub returns-in-Ok-false-clause-replied : goal.returns-in-Ok-false-clause-replied
returns-in-Ok-false-clause-replied g c =
    let remaining = g.I.Read.remaining in
    let input = remaining c.loop.lines.input in
    ended_so g.B.Ends.said g.B.Ends.had (IsAnswered g.J.Naming.honest g.J.Naming.opening c.args.asking.now.width)
    (remaining c.args.lines.now.input) input c.args.lines.now.is_read c.loop.lines.is_read c.loop.counter
    c.args.asking.now.reader c.loop.asking.reader (g.W.Write.contents c.args.output.now)
    (g.W.Write.contents c.loop.output) OfInput c.loop.invariant.1
    (λ octets is left. (
      refl,
      inl (at_end octets input c.loop.counter (c.in-Ok-false.ensures.end c.in-Ok-false.field-0-test is) left),
    ))

pub returns-in-Err-clause-replied : goal.returns-in-Err-clause-replied
returns-in-Err-clause-replied g c =
    let remaining = g.I.Read.remaining in
    ended_so g.B.Ends.said g.B.Ends.had (IsAnswered g.J.Naming.honest g.J.Naming.opening c.args.asking.now.width)
    (remaining c.args.lines.now.input) (remaining c.loop.lines.input) c.args.lines.now.is_read c.loop.lines.is_read
    c.loop.counter c.args.asking.now.reader c.loop.asking.reader (g.W.Write.contents c.args.output.now)
    (g.W.Write.contents c.loop.output) Unread c.loop.invariant.1 (λ octets is left. refl)

pub returns-then-branch-clause-replied : goal.returns-then-branch-clause-replied
returns-then-branch-clause-replied g c =
    let remaining = g.I.Read.remaining in
    let contents = g.W.Write.contents in
    let shown = c.answer_line.new.asking.reader in
    let line = c.read.new.self.line.items in
    let replied = subst (λ (w : ℕ). IsLineReplied g.B.Ends.said g.B.Ends.had
    (IsAnswered g.J.Naming.honest g.J.Naming.opening w shown) line c.in_ok-answer_line.field-0
    (contents c.loop.output) (contents c.answer_line.new.output)) c.loop.invariant.0
    c.in_ok-answer_line.ensures.replied in
    quit_so g.B.Ends.said g.B.Ends.had (IsAnswered g.J.Naming.honest g.J.Naming.opening c.args.asking.now.width)
    (remaining c.args.lines.now.input) (remaining c.loop.lines.input) (remaining c.read.new.self.input)
    c.args.lines.now.is_read c.loop.lines.is_read c.in_ok-answer_line.field-0 c.loop.counter c.args.asking.now.reader
    c.loop.asking.reader shown (contents c.args.output.now) (contents c.loop.output)
    (contents c.answer_line.new.output) line c.loop.invariant.1
    (c.in-Ok-true.ensures.next c.in-Ok-true.field-0-test) c.answer_line.ensures.later c.if-branch.true replied

pub loop-preserved : goal.loop-preserved
loop-preserved g c =
    let remaining = g.I.Read.remaining in
    let contents = g.W.Write.contents in
    let shown = c.answer_line.new.asking.reader in
    let line = c.read.new.self.line.items in
    let replied = subst (λ (w : ℕ). IsLineReplied g.B.Ends.said g.B.Ends.had
    (IsAnswered g.J.Naming.honest g.J.Naming.opening w shown) line c.in_ok-answer_line.field-0
    (contents c.loop.output) (contents c.answer_line.new.output)) c.loop.invariant.0
    c.in_ok-answer_line.ensures.replied in (
      c.answer_line.ensures.width ∙ c.loop.invariant.0,
      line_more g.B.Ends.said g.B.Ends.had (IsAnswered g.J.Naming.honest g.J.Naming.opening c.args.asking.now.width)
          (remaining c.args.lines.now.input) (remaining c.loop.lines.input) (remaining c.read.new.self.input)
          c.args.lines.now.is_read c.loop.lines.is_read c.read.new.self.is_read c.in_ok-answer_line.field-0
          c.loop.counter (c.loop.counter + 1) c.args.asking.now.reader c.loop.asking.reader shown
          (contents c.args.output.now) (contents c.loop.output) (contents c.answer_line.new.output) line
          c.loop.invariant.1 (c.in-Ok-true.ensures.next c.in-Ok-true.field-0-test) c.in-Ok-true.ensures.going
          c.answer_line.ensures.later c.if-branch.false (omega arith) replied,
    )

pub returns-clause-replied : goal.returns-clause-replied
returns-clause-replied g c =
    let remaining = g.I.Read.remaining in
    ended_so g.B.Ends.said g.B.Ends.had (IsAnswered g.J.Naming.honest g.J.Naming.opening c.args.asking.now.width)
    (remaining c.args.lines.now.input) (remaining c.loop.lines.input) c.args.lines.now.is_read c.loop.lines.is_read
    c.loop.counter c.args.asking.now.reader c.loop.asking.reader (g.W.Write.contents c.args.output.now)
    (g.W.Write.contents c.loop.output) OfInput c.loop.invariant.1
    (λ octets is left. (refl, inr (omega (arith, c.loop.auto.counter-end, c.loop-test.false))))
