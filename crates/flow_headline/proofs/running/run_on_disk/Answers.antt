use Rattle.std.proofs.Common.{IsTrue, sym, subst, arith}
use Rattle.flow_manifest.specs.Slots.{reads_of}
use Rattle.flow_model.specs.State.{reopened}
use Rattle.flow_headline.proofs.Between.{are_moments, honest_after, moment_of, prefixes_between}
use Rattle.flow_headline.proofs.Closing.{ends_at_fault}
use Rattle.flow_headline.proofs.Fronts.{front_of, image_of_run}
use Rattle.flow_headline.proofs.running.run_on_disk.Goals as goal

pub returns-clause-between : goal.returns-clause-between
returns-clause-between g c h still =
    let D = g.D.Disk in
    let met = g.met.D.Disk in
    let old = c.args.archive.now in
    let events = c.args.events.now in
    let answers = c.in_ok-answers.answers.items in
    let moments = are_moments D old events answers c.run.new.archive c.in_ok-answers.ensures.run in
    let at = moment_of D old events answers c.run.new.archive c.in_ok-answers.ensures.run in (
      at,
      record {
        moments = moments;
        leaves = λ i j le. prefixes_between D
            (λ d honest. (
              reads_of (D.held d),
              met.counts_now d (D.moment d) (reads_of (D.held d)) honest (omega arith)
                  (λ n. met.reads_image d n honest),
            ))
            (λ d t image honest le left. met.counts_now d t image honest le (met.only_now d image honest left))
            i j old (at i) (at j) events answers le
            (moments.before i) (moments.between i j le) h still
            (record {
              images = λ image left. c.is_closed-closed.ensures.stands h still image (met.only_now old.disk image h left);
              some = (
                reads_of (D.held old.disk),
                met.counts_now old.disk (D.moment old.disk) (reads_of (D.held old.disk)) h (omega arith)
                    (λ n. met.reads_image old.disk n h),
              );
            });
      },
    )

pub returns-clause-left : goal.returns-clause-left
returns-clause-left g c h still image is =
    let D = g.D.Disk in
    let met = g.met.D.Disk in
    let found = image_of_run D
    (λ d honest. (
      reads_of (D.held d),
      met.counts_now d (D.moment d) (reads_of (D.held d)) honest (omega arith)
          (λ n. met.reads_image d n honest),
    ))
    c.args.archive.now c.args.events.now c.in_ok-answers.answers.items c.run.new.archive image
    c.in_ok-answers.ensures.run h still
    (record {
      images = λ one left. c.is_closed-closed.ensures.stands h still one
          (met.only_now c.args.archive.now.disk one h left);
      some = (
        reads_of (D.held c.args.archive.now.disk),
        met.counts_now c.args.archive.now.disk
            (D.moment c.args.archive.now.disk) (reads_of (D.held c.args.archive.now.disk)) h (omega arith)
            (λ n. met.reads_image c.args.archive.now.disk n h),
      );
    })
    (λ t le. met.counts_now c.run.new.archive.disk t image (subst IsTrue (sym (honest_after D
    c.args.archive.now c.args.events.now c.in_ok-answers.answers.items c.run.new.archive c.in_ok-answers.ensures.run)) h)
    le is) in (
      reopened found.after,
      front_of c.args.archive.now.state c.args.events.now c.in_ok-answers.answers.items image found,
      found.stands,
    )

pub returns-clause-behind : goal.returns-clause-behind
returns-clause-behind g c =
    ends_at_fault g.D.Disk c.args.archive.now c.args.events.now c.in_ok-answers.answers.items c.run.new.archive
    c.in_ok-answers.ensures.run
