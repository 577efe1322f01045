use Rattle.std.proofs.Common.{◌∙◌, ◌<◌, ℕ, Option, Some, ap, subst, sym, IsSome}
use Rattle.flow_inspect.specs.declared.reporting.DomainReport.{DomainReport}
use Rattle.flow_inspect.specs.declared.tally.Tally.{Tally}
use Rattle.flow_inspect.specs.Reports.{with_tally}
use Rattle.flow_inspect.proofs.Following.{one_domain_more}
use Rattle.flow_inspect.proofs.inspecting.whole_of.Goals.{in-Some, in_default}
use Rattle.flow_inspect.proofs.inspecting.whole_of.Goals as goal

pub loop-i-preserved : goal.loop-i-preserved
loop-i-preserved c =
    elim c.match-get_index.branch [
      | in-Some w ↦
          let e : ℕ × DomainReport = (_, w.in-Some.report.now) in
          w.whole-is ∙ ap (λ (t : Tally). Some t) w.with_tally.ensures
          ∙ ap (λ (whole : Option Tally). Some (with_tally whole e.1.tally)) c.loop-i.invariant
          ∙ sym (one_domain_more c.args.reports.now.entries c.loop-i.i e (sym w.in-Some.ensures.entry))
      | in_default w ↦
          let within = subst (λ (n : ℕ). c.loop-i.i < n) c.len-domains.ensures.len c.loop-i-test.true in
          let never = subst IsSome w.in_default.is (c.get_index.ensures.found.1 within) in absurd cc
    ]
