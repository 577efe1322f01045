use Rattle.std.proofs.Common.{[], ◌∷◌, ◌++◌, ◌∙◌, ap}
use Rattle.std.specs.Prelude.{max}
use Rattle.flow_archive.specs.Advancing.{IsTakenIn}
use Rattle.flow_archive.specs.UnderWay.{frozen_staged_in, RunningJob}
use Rattle.flow_archive.proofs.Advance.{not_taken, refused_so, source_err, taken}
use Rattle.flow_archive.proofs.roll.take_source.Goals as goal

pub returns-in_err-time-clause-read : goal.returns-in_err-time-clause-read
returns-in_err-time-clause-read g c =
    let S = g.S.SealedFile in
    let job = c.job.inside in
    let now : RunningJob = record {
      kind = job.kind;
      sources = job.sources;
      read = job.read;
      rows = c.add_to.new.rows;
      time = job.time;
      staged = frozen_staged_in S.number S.size S.honest S.octets job.staged;
    } in
    let e = c.in_err-time.field-0.0 in
    rw (← c.job.view_is) (λ h m parts p narrow made source sums times.
    source_err c.from_residual.result e (λ r. IsTakenIn job.kind m (parts ++ p ∷ []) r now) c.from_residual.ensures.1
    (not_taken job.kind m parts p job.rows job.time sums times c.add_to.new.rows now e
    (c.in_err-time.ensures.read h job.kind m p narrow made source)))

pub returns-clause-read : goal.returns-clause-read
returns-clause-read g c =
    let job = c.job.inside in
    rw (← c.job.view_is) (λ h m parts p narrow made source sums times.
    taken job.kind m parts p job.rows job.time sums times c.add_to.new.rows c.in_ok-time.time
    c.max-job-inside.result (c.in_ok-time.ensures.read h job.kind m p narrow made source) c.max-job-inside.ensures)

pub returns-in_err-time-clause-found : goal.returns-in_err-time-clause-found
returns-in_err-time-clause-found g c =
    let e = c.in_err-time.field-0.0 in
    rw (← c.job.view_is) (λ h.
    rw (refused_so c.from_residual.result e c.from_residual.ensures.1) (c.in_err-time.ensures.found h))

pub returns-clause-found : goal.returns-clause-found
returns-clause-found g c =
    let job = c.job.inside in
    rw (← c.job.view_is) (λ h.
    let x = c.in_ok-time.ensures.found h in (
      x.0,
      x.1,
      x.2,
      c.max-job-inside.ensures ∙ ap (max job.time) x.3,
    ))
