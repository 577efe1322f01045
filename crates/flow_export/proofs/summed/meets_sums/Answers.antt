use Rattle.std.proofs.Common.{◌≡◌, ◌∙◌, ◌+◌, ◌<◌, ◌≤◌, ℕ, Bool, arith, length, refl, subst, sym}
use Rattle.flow_snapshot.specs.Shares.{AllPartsFit}
use Rattle.flow_snapshot.specs.Totals.{IsMade, SumsFit}
use Rattle.flow_export.specs.Span.{meets_sums}
use Rattle.flow_snapshot.proofs.Adding.{made_err}
use Rattle.flow_snapshot.proofs.ViewParts.{parts_fit, parts_of}
use Rattle.flow_export.proofs.SumsMet.{all_not, none_met, one_met, one_not}
use Rattle.flow_export.proofs.summed.meets_sums.Goals as goal

pub loop-worker-init : goal.loop-worker-init
loop-worker-init g c = record {
  faults = refl;
  none = λ honest v view. none_met c.args.snapshot.now.shelf v view c.args.span.from c.args.span.to;
}

pub loop-worker-preserved : goal.loop-worker-preserved
loop-worker-preserved g c =
    let s = c.args.snapshot.now.shelf in
    let span = c.args.span in
    let workers = c.in-Ok.workers in
    let k = c.loop-worker.worker in
    let enough : length s.merged + (length s.rolled + (length s.sealed + 1)) ≤ workers =
    omega (arith, c.in-Ok.ensures, c.saturating_add-parts.ensures, c.summed_files-files.ensures, c.kept_files.ensures) in
    let within : k < length s.merged + length s.rolled =
    omega (arith, c.loop-worker-test.true, c.summed_files-files.ensures) in
    record {
      faults = c.in_ok-sums.ensures.cause.done ∙ c.loop-worker.invariant.faults;
      none = λ honest v view.
          let p = parts_of s v view in
          let made = c.in_ok-sums.ensures.share.given honest p.wide p.narrow p.are_wide p.are_narrow in
          one_not s v view span.from span.to workers enough k c.in_ok-sums.sums within made.0 made.1
          (sym c.has_either_row.ensures ∙ c.if-has_either_row.false) (c.loop-worker.invariant.none honest v view);
    }

pub returns-then-has_either_row-clause-given : goal.returns-then-has_either_row-clause-given
returns-then-has_either_row-clause-given g c = λ honest v view.
    let s = c.args.snapshot.now.shelf in
    let span = c.args.span in
    let workers = c.in-Ok.workers in
    let k = c.loop-worker.worker in
    let enough : length s.merged + (length s.rolled + (length s.sealed + 1)) ≤ workers =
    omega (arith, c.in-Ok.ensures, c.saturating_add-parts.ensures, c.summed_files-files.ensures, c.kept_files.ensures) in
    let within : k < length s.merged + length s.rolled =
    omega (arith, c.loop-worker-test.true, c.summed_files-files.ensures) in
    let p = parts_of s v view in
    let made = c.in_ok-sums.ensures.share.given honest p.wide p.narrow p.are_wide p.are_narrow in
    one_met s v view span.from span.to workers enough k c.in_ok-sums.sums within made.0 made.1
    (sym c.has_either_row.ensures ∙ c.if-has_either_row.true)

pub returns-in_err-sums-clause-given : goal.returns-in_err-sums-clause-given
returns-in_err-sums-clause-given g c = λ honest v view.
    let s = c.args.snapshot.now.shelf in
    let p = parts_of s v view in
    let right : Bool → Type 0 = λ meets. meets ≡ meets_sums c.args.span.from c.args.span.to v in
    subst (λ (first : ℕ). IsMade first (SumsFit v) right c.from_residual.result) c.first_file-first.ensures
    (made_err right c.first_file-first.result (AllPartsFit s p.wide p.narrow) (SumsFit v) c.from_residual.result
    (c.in_err-sums.field-0).0 (parts_fit s v p) c.from_residual.ensures.1
    (c.in_err-sums.ensures.share.given honest p.wide p.narrow p.are_wide p.are_narrow))

pub returns-clause-given : goal.returns-clause-given
returns-clause-given g c = λ honest v view.
    let s = c.args.snapshot.now.shelf in
    let span = c.args.span in
    let workers = c.in-Ok.workers in
    let enough : length s.merged + (length s.rolled + (length s.sealed + 1)) ≤ workers =
    omega (arith, c.in-Ok.ensures, c.saturating_add-parts.ensures, c.summed_files-files.ensures, c.kept_files.ensures) in
    let all : c.loop-worker.worker ≡ length s.merged + length s.rolled =
    omega (
      arith,
      c.loop-worker-test.false,
      c.loop-worker.auto.worker-end,
      c.summed_files-files.ensures,
      enough,
      c.in-Ok.ensures,
    ) in
    all_not s v view span.from span.to workers enough c.loop-worker.worker all
    (c.loop-worker.invariant.none honest v view)
