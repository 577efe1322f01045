use Rattle.std.proofs.Common.{◌≡◌, ◌⊎◌, ⊎_elim, arith}
use Rattle.flow_disk.specs.Disk.{IsDiskImage}
use Rattle.flow_disk.proofs.Results.{if_err_by}
use Rattle.flow_manifest.specs.Slots.{reads_of}
use Rattle.flow_model.specs.State.{reopened}
use Rattle.flow_model.specs.Standing.{StandsFor}
use Rattle.flow_recover.specs.Opening.{IsDeviceOrMemory, StandsForNone}
use Rattle.flow_archive.specs.Beginning.{disk_of}
use Rattle.flow_headline.proofs.Opened.{both_ok, found_of, honest_of_run, ready_of, stopped_again, two_of_run}
use Rattle.flow_headline.proofs.openings.open_what_is_left.Goals as goal

pub returns-clause-found : goal.returns-clause-found
returns-clause-found g c = λ old early late events answers begun run.
    let D = g.D.Disk in
    let met = g.met.D.Disk in
    let disk = c.args.disk in
    let h = honest_of_run D old early late events answers begun disk run in
    let two = two_of_run D
    (λ d honest. (
      reads_of (D.held d),
      met.counts_now d (D.moment d) (reads_of (D.held d)) honest (omega arith)
          (λ n. met.reads_image d n honest),
    ))
    (λ d t image honest le left. met.counts_now d t image honest le (met.only_now d image honest left))
    (λ d image honest left. met.only_now d image honest left)
    old early late events answers begun disk run in
    both_ok c.open.result (λ a. StandsFor (reads_of (D.held disk)) a.state)
    (λ a. (a.state ≡ reopened two.one) ⊎ (a.state ≡ reopened two.two)) _
    (λ a stands which. found_of begun old.state a.state events answers (reads_of (D.held disk))
    (IsDiskImage (D.held disk)) two stands which)
    (c.open.ensures.read h) (c.open.ensures.either h (reopened two.one) (reopened two.two) two.either)

pub returns-clause-again : goal.returns-clause-again
returns-clause-again g c = λ old early late events answers begun run next stop.
    let D = g.D.Disk in
    stopped_again D old early late events answers begun c.args.disk (disk_of c.open.result) next run
    (c.open.ensures.any_moment (honest_of_run D old early late events answers begun c.args.disk run)) stop

pub returns-clause-refused : goal.returns-clause-refused
returns-clause-refused g c = λ old early late events answers begun run.
    let D = g.D.Disk in
    let met = g.met.D.Disk in
    let disk = c.args.disk in
    let h = honest_of_run D old early late events answers begun disk run in
    let reads = reads_of (D.held disk) in
    let two = two_of_run D
    (λ d honest. (
      reads_of (D.held d),
      met.counts_now d (D.moment d) (reads_of (D.held d)) honest (omega arith)
          (λ n. met.reads_image d n honest),
    ))
    (λ d t image honest le left. met.counts_now d t image honest le (met.only_now d image honest left))
    (λ d image honest left. met.only_now d image honest left)
    old early late events answers begun disk run in
    if_err_by c.open.result (λ r. IsDeviceOrMemory r.error ⊎ StandsForNone reads) (λ r. IsDeviceOrMemory r.error)
    (λ r why. ⊎_elim (λ is. is)
    (λ none. ⊎_elim (λ is. absurd (none (reopened two.one) is)) (λ is. absurd (none (reopened two.two) is))
    (two.either reads (λ n. met.reads_image disk n h)))
    why)
    (c.open.ensures.told h)

pub returns-clause-ready : goal.returns-clause-ready
returns-clause-ready g c = λ h.
    ready_of g.D.Disk c.open.result c.args.disk c.open.ensures.honest h c.open.ensures.opened
    (c.open.ensures.stands h)
