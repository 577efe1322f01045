use Rattle.std.proofs.Common.{ap, arith, refl, subst, inl, inr, ◌∙◌, rules, IfErr}
use Rattle.flow_rolled.specs.Rollup.{rollup_octets}
use Rattle.flow_rolled.specs.Rows.{IsTable}
use Rattle.flow_archive.specs.UnderWay.{RunningJob}
use Rattle.flow_archive.specs.Staging.{HasNoOctets}
use Rattle.flow_archive.proofs.Answering.{err_is}
use Rattle.flow_archive.specs.declared.refusal.ArchiveError.TheVariants.{OutOfMemory}
use Rattle.flow_archive.proofs.roll.staged_octets.Goals.{then-next-eq18446744073709551615-via-then-next-eq18446744073709551615}
use Rattle.flow_archive.proofs.roll.staged_octets.Goals.{then-next-eq18446744073709551615-via-else-next-eq18446744073709551615+then-generation-eq18446744073709551615}
use Rattle.flow_archive.proofs.roll.staged_octets.Goals as goal

pub returns-then-job-clause-refused : goal.returns-then-job-clause-refused
returns-then-job-clause-refused g c =
    let read = ap (λ (r : RunningJob). r.read) c.job.view_is in
    let sources = ap (λ (r : RunningJob). r.sources) c.job.view_is in
    (c.in-Some.job, c.in-Some.is, omega (arith, read, sources, c.if-job.true))

pub returns-then-next-eq18446744073709551615-clause-refused :
    goal.returns-then-next-eq18446744073709551615-clause-refused
returns-then-next-eq18446744073709551615-clause-refused g c =
    let read = ap (λ (r : RunningJob). r.read) c.job.view_is in
    let sources = ap (λ (r : RunningJob). r.sources) c.job.view_is in (
      c.in-Some.job,
      c.in-Some.is,
      omega (arith, read, sources, c.if-job.false),
      elim c.then-next-eq18446744073709551615.branch [
        | then-next-eq18446744073709551615-via-then-next-eq18446744073709551615 w ↦ inl (omega (arith, w.if-next-eq18446744073709551615.true))
        | then-next-eq18446744073709551615-via-else-next-eq18446744073709551615+then-generation-eq18446744073709551615 w ↦
            inr (omega (arith, w.if-generation-eq18446744073709551615.true))
      ],
    )

pub returns-in_err-encode_rows-clause-refused : goal.returns-in_err-encode_rows-clause-refused
returns-in_err-encode_rows-clause-refused g c =
    let read = ap (λ (r : RunningJob). r.read) c.job.view_is in
    let sources = ap (λ (r : RunningJob). r.sources) c.job.view_is in
    err_is c.from_residual.result OutOfMemory (λ x. IfErr x (HasNoOctets c.args.job.now c.args.next c.args.generation))
    c.from_residual.ensures.1 (
      c.in-Some.job,
      c.in-Some.is,
      record {
        all = omega (arith, read, sources, c.if-job.false);
        file = omega (arith, c.ranges.next.fits, c.if-next-eq18446744073709551615.false);
        manifest = omega (arith, c.ranges.generation.fits, c.if-generation-eq18446744073709551615.false);
      },
    )

pub returns-clause-made : goal.returns-clause-made
returns-clause-made g c =
    let read = ap (λ (r : RunningJob). r.read) c.job.view_is in
    let sources = ap (λ (r : RunningJob). r.sources) c.job.view_is in (
      c.in-Some.job,
      c.in-Some.is,
      record {
        all = omega (arith, read, sources, c.if-job.false);
        file = omega (arith, c.ranges.next.fits, c.if-next-eq18446744073709551615.false);
        manifest = omega (arith, c.ranges.generation.fits, c.if-generation-eq18446744073709551615.false);
      },
      record {
        valid = subst (λ (r : RunningJob). IsTable r.rows) c.job.view_is (c.in_ok-encode_rows.ensures.rolled).valid;
        width_is = refl;
        time = c.in-Some.job.time;
        small = search rules;
        is = c.in_ok-encode_rows.ensures.octets ∙ ap (λ (r : RunningJob). rollup_octets r.rows r.time) c.job.view_is;
      },
      refl,
    )
