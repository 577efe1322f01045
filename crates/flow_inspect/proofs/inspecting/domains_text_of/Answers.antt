use Rattle.std.proofs.Common.{◌∙◌, ◌<◌, ◌++◌, ℕ, List, Vec, Global, ap, subst, sym, IsSome}
use Rattle.flow_inspect.specs.declared.reporting.DomainReport.{DomainReport}
use Rattle.flow_inspect.specs.Reports.{report_in}
use Rattle.flow_inspect.proofs.Following.{one_line_more}
use Rattle.flow_inspect.proofs.inspecting.domains_text_of.Goals.{in-Some+in_ok-push_in, in_default}
use Rattle.flow_inspect.proofs.inspecting.domains_text_of.Goals as goal

pub loop-i-preserved : goal.loop-i-preserved
loop-i-preserved c =
    elim c.match-get_index.branch [
      | in-Some+in_ok-push_in w ↦
          let e : ℕ × DomainReport = (w.in-Some.domain.now, w.in-Some.report.now) in
          ap (λ (t : Vec ℕ Global). t.items) w.text-is ∙ w.in_ok-push_in.ensures
          ∙ ap (λ (l : List ℕ). l ++ report_in c.args.format c.args.file e) c.loop-i.invariant
          ∙ sym (one_line_more c.args.format c.args.file c.args.reports.now.entries c.loop-i.i e (sym w.in-Some.ensures.entry))
      | in_default w ↦
          let within = subst (λ (n : ℕ). c.loop-i.i < n) c.len-i-end.ensures.len c.loop-i-test.true in
          let never = subst IsSome w.in_default.is (c.get_index.ensures.found.1 within) in absurd cc
    ]
