use Rattle.std.proofs.Common.{ℕ, ap, subst, ◌∙◌}
use Rattle.flow_measure.specs.Sums.{AllFit}
use Rattle.flow_snapshot.specs.Shares.{own, summed, AllPartsFit, IsNarrowRead}
use Rattle.flow_snapshot.proofs.Adding.{made_err}
use Rattle.flow_snapshot.proofs.Dealt.{err_read}
use Rattle.flow_snapshot.proofs.snapshot.Snapshot.share.Goals as goal

pub returns-in_err-narrow-clause-share : goal.returns-in_err-narrow-clause-share
returns-in_err-narrow-clause-share g c = record {
  found = λ honest. err_read _ c.from_residual-in_err-narrow.result c.in_err-narrow.field-0.0
      c.from_residual-in_err-narrow.ensures.1;
  given = λ honest wide narrow are_wide are_narrow.
      let s = c.args.self.now.shelf in
      made_err _ _ (AllFit (summed s.width narrow)) (AllPartsFit s wide narrow) c.from_residual-in_err-narrow.result
      c.in_err-narrow.field-0.0 (λ fit. fit.1) c.from_residual-in_err-narrow.ensures.1
      (c.in_err-narrow.ensures.given honest narrow are_narrow);
}

pub returns-clause-share : goal.returns-clause-share
returns-clause-share g c =
    let s = c.args.self.now.shelf in
    let turn = c.in_ok-wide.ensures.turn.0 in
    record {
      found = λ honest. record {
        wide = c.in_ok-wide.ensures.found honest;
        narrow = subst (λ (t : ℕ). IsNarrowRead s c.args.workers c.args.worker t) turn
            (c.in_ok-narrow.ensures.found honest);
      };
      given = λ honest wide narrow are_wide are_narrow. (
        c.in_ok-wide.ensures.given honest wide are_wide,
        c.in_ok-narrow.ensures.given honest narrow are_narrow
            ∙ ap (λ (t : ℕ). summed s.width (own c.args.workers c.args.worker t narrow)) turn,
      );
    }
