use Rattle.std.proofs.Common.{[], refl, subst}
use Rattle.flow_disk.proofs.Results.{passed_on}
use Rattle.flow_measure.specs.Query.{flows_in_view}
use Rattle.flow_report.specs.ArchiveLines.{flow_names, flows_text, FlowText}
use Rattle.flow_report.specs.Formats.{heading}
use Rattle.flow_report.specs.Telling.{Tells, TellsFront}
use Rattle.flow_report.specs.Writing.{AppendsFront}
use Rattle.flow_report.proofs.Joining.{with_held_cut}
use Rattle.flow_commands.specs.declared.archive_refusal.ArchiveRefusal.TheVariants as refusal
use Rattle.flow_commands.specs.Asking.{flows_lines, AreFlowsIn, HasFront, HasSome, IsBlameless, IsWhileAsking}
use Rattle.flow_commands.specs.Asking.{WritesUpTo}
use Rattle.flow_commands.proofs.KeptLines.{all_ended, end_cut, lines_of, no_flows_in, none_alone}
use Rattle.flow_commands.proofs.KeptLines.{up_to}
use Rattle.flow_commands.proofs.listing.write_kept.Goals as goal

pub returns-in_err-lines-clause-some : goal.returns-in_err-lines-clause-some
returns-in_err-lines-clause-some g c =
    let format = c.args.format in
    let output = g.W.Write.contents c.args.output.now in
    passed_on c.from_residual.result refusal.OutOfMemory
    (λ e. IsWhileAsking e × WritesUpTo (AreFlowsIn format c.args.span.now) e output output) c.from_residual.ensures.1 (
      tt,
      up_to format c.args.span.now refusal.OutOfMemory output output [] (no_flows_in c.args.span.now) tt
          (none_alone output (flows_text format [])),
    )

pub returns-in_err-tell_kept-clause-some : goal.returns-in_err-tell_kept-clause-some
returns-in_err-tell_kept-clause-some g c =
    let format = c.args.format in
    let old = g.W.Write.contents c.args.output.now in
    let new = g.W.Write.contents c.tell_kept.new.output in
    let e = (c.in_err-tell_kept.field-0).0 in
    let some = subst (λ (t : FlowText). IsWhileAsking e × HasFront t.format c.args.span.now old t.held new) c.in_ok-lines.ensures
    c.in_err-tell_kept.ensures.some in
    passed_on c.from_residual-in_err-tell_kept.result e (λ e. IsWhileAsking e × WritesUpTo (AreFlowsIn format c.args.span.now) e old new)
    c.from_residual-in_err-tell_kept.ensures.1 (
      some.0,
      up_to format c.args.span.now e old new some.1.0 some.1.1 some.0
          (with_held_cut old new (heading format.layout flow_names) (lines_of format some.1.0) some.1.2),
    )

pub returns-in_err-tell_kept-clause-cut : goal.returns-in_err-tell_kept-clause-cut
returns-in_err-tell_kept-clause-cut g c = λ honest v is.
    let format = c.args.format in
    let old = g.W.Write.contents c.args.output.now in
    let new = g.W.Write.contents c.tell_kept.new.output in
    let e = (c.in_err-tell_kept.field-0).0 in
    let flows = flows_in_view c.args.span.now.from c.args.span.now.to v in
    let cut = subst (λ (t : FlowText). IsBlameless e × TellsFront old t.held new (lines_of t.format flows))
    c.in_ok-lines.ensures (c.in_err-tell_kept.ensures.cut honest v is) in
    passed_on c.from_residual-in_err-tell_kept.result e
    (λ e. IsBlameless e × AppendsFront old new (flows_lines format c.args.span.now v))
    c.from_residual-in_err-tell_kept.ensures.1
    (cut.0, with_held_cut old new (heading format.layout flow_names) (lines_of format flows) cut.1)

pub returns-in_err-end-clause-some : goal.returns-in_err-end-clause-some
returns-in_err-end-clause-some g c =
    let format = c.args.format in
    let old = g.W.Write.contents c.args.output.now in
    let mid = g.W.Write.contents c.tell_kept.new.output in
    let new = g.W.Write.contents c.end.new.output in
    let left = c.tell_kept.new.lines.held in
    let e = refusal.Write (c.in_err-end.field-0).0 in
    let all = subst (λ (t : FlowText). HasSome t.format c.args.span.now old t.held mid left) c.in_ok-lines.ensures
    c.in_ok-tell_kept.ensures.all in
    passed_on c.from_residual-in_err-end.result e (λ e. IsWhileAsking e × WritesUpTo (AreFlowsIn format c.args.span.now) e old new)
    c.from_residual-in_err-end.ensures.1 (
      tt,
      up_to format c.args.span.now e old new all.0 all.1 tt
          (end_cut old mid new (heading format.layout flow_names) left (lines_of format all.0) all.2
          c.in_err-end.ensures.front),
    )

pub returns-in_err-end-clause-cut : goal.returns-in_err-end-clause-cut
returns-in_err-end-clause-cut g c = λ honest v is.
    let format = c.args.format in
    let old = g.W.Write.contents c.args.output.now in
    let mid = g.W.Write.contents c.tell_kept.new.output in
    let new = g.W.Write.contents c.end.new.output in
    let left = c.tell_kept.new.lines.held in
    let flows = flows_in_view c.args.span.now.from c.args.span.now.to v in
    let told = subst (λ (t : FlowText). Tells old t.held mid left (lines_of t.format flows)) c.in_ok-lines.ensures
    (c.in_ok-tell_kept.ensures.told honest v is) in
    passed_on c.from_residual-in_err-end.result (refusal.Write (c.in_err-end.field-0).0)
    (λ e. IsBlameless e × AppendsFront old new (flows_lines format c.args.span.now v))
    c.from_residual-in_err-end.ensures.1 (
      tt,
      end_cut old mid new (heading format.layout flow_names) left (lines_of format flows) told c.in_err-end.ensures.front,
    )

pub returns-clause-written : goal.returns-clause-written
returns-clause-written g c =
    let format = c.args.format in
    let old = g.W.Write.contents c.args.output.now in
    let mid = g.W.Write.contents c.tell_kept.new.output in
    let new = g.W.Write.contents c.end.new.output in
    let left = c.tell_kept.new.lines.held in
    let all = subst (λ (t : FlowText). HasSome t.format c.args.span.now old t.held mid left) c.in_ok-lines.ensures
    c.in_ok-tell_kept.ensures.all in (
      flows_text format all.0,
      (all.0, all.1, refl),
      all_ended old mid new (heading format.layout flow_names) left (lines_of format all.0) all.2
          c.in_ok-end.ensures.all,
    )
