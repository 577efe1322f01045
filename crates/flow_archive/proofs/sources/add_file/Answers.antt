use Rattle.std.proofs.Common.{refl, subst}
use Rattle.std.specs.Prelude.{Ok, Err}
use Rattle.flow_measure.specs.Printed.{sum_refusal}
use Rattle.flow_measure.specs.Sums.{widened}
use Rattle.flow_rolled.specs.Stored.{export_time}
use Rattle.flow_archive.specs.Sources.{IsFileRefusal, IsFileSum, IsSummed}
use Rattle.flow_archive.proofs.SourceSums.{err_is, merge_refused, not_merged, own_not_merged, own_refused}
use Rattle.flow_archive.proofs.sources.add_file.Goals as goal

pub returns-in_err-source-clause-found : goal.returns-in_err-source-clause-found
returns-in_err-source-clause-found g c = λ h.
    let e = c.in_err-source.field-0.0 in
    let octets = c.args.part.now.octets in
    let made = c.args.rows.now.width in
    rw (err_is c.from_residual.result e c.from_residual.ensures.1)
    (own_refused (IsFileSum c.args.width made octets) (IsFileRefusal c.args.width made octets) c.args.rows.now e
    (subst (λ w. IsFileRefusal c.args.width w octets e) c.width.ensures.width (c.in_err-source.ensures.found h)))

pub returns-in_err-source-clause-given : goal.returns-in_err-source-clause-given
returns-in_err-source-clause-given g c = λ h table rollup.
    let e = c.in_err-source.field-0.0 in
    let time = export_time c.args.part.now.octets in
    rw (err_is c.from_residual.result e c.from_residual.ensures.1)
    (own_not_merged (widened c.args.rows.now.width table) time c.args.rows.now c.args.rows.now e
    (subst (λ w. IsSummed (widened w table) time (Err e)) c.width.ensures.width
    (c.in_err-source.ensures.given h table rollup)))

pub returns-in_err-merge-clause-found : goal.returns-in_err-merge-clause-found
returns-in_err-merge-clause-found g c = λ h.
    let e = c.in_err-merge.field-0.0 in
    let octets = c.args.part.now.octets in
    let made = c.args.rows.now.width in
    let source = c.in_ok-source.source in
    rw (err_is c.from_residual-in_err-merge.result (sum_refusal e) c.from_residual-in_err-merge.ensures.1)
    (merge_refused (IsFileSum c.args.width made octets) (IsFileRefusal c.args.width made octets) c.args.rows.now source e
    (subst (λ w. IsFileSum c.args.width w octets source) c.width.ensures.width (c.in_ok-source.ensures.found h))
    c.in_err-merge.ensures.becomes.0)

pub returns-in_err-merge-clause-given : goal.returns-in_err-merge-clause-given
returns-in_err-merge-clause-given g c = λ h table rollup.
    let e = c.in_err-merge.field-0.0 in
    let time = export_time c.args.part.now.octets in
    let source = c.in_ok-source.source in
    rw (err_is c.from_residual-in_err-merge.result (sum_refusal e) c.from_residual-in_err-merge.ensures.1)
    (not_merged (widened c.args.rows.now.width table) time c.args.rows.now c.merge.new.self source e
    (subst (λ w. IsSummed (widened w table) time (Ok source)) c.width.ensures.width
    (c.in_ok-source.ensures.given h table rollup)) c.in_err-merge.ensures.becomes.0)

pub returns-clause-found : goal.returns-clause-found
returns-clause-found g c = λ h. (
  c.in_ok-source.source,
  subst (λ w. IsFileSum c.args.width w c.args.part.now.octets c.in_ok-source.source) c.width.ensures.width
      (c.in_ok-source.ensures.found h),
  c.in_ok-merge.ensures.becomes.1,
  refl,
)
