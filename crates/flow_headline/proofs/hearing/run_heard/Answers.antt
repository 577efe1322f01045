use Rattle.std.proofs.Common.{◌≡◌, ◌+◌, List, [], ◌∷◌, ◌++◌, take, sym, ◌∙◌, ap, subst, arith}
use Rattle.std.proofs.lemmas.List.{take_more, take_all}
use Rattle.flow_manifest.specs.Slots.{reads_of}
use Rattle.flow_archive.specs.declared.event.Event.{Event}
use Rattle.flow_headline.specs.Heard.{AreHeard, answers_of, heard_by, moment_in}
use Rattle.flow_headline.proofs.Between.{prefixes_between}
use Rattle.flow_headline.proofs.Listening.{heard_more, moments_heard, one_more_heard}
use Rattle.flow_headline.proofs.hearing.run_heard.Goals as goal

pub events-preserved : goal.events-preserved
events-preserved g c =
    let D = g.D.Disk in
    let events = c.args.events.now in
    let i = c.events.event-index in
    let e = c.event-item.result in
    let so_far = c.events.invariant.run in
    let h = heard_by c.take_event-answer.new.archive c.take_event-answer.result c.hear.new.self in
    let more = heard_more D c.args.archive.now (take i events) so_far.0 c.events.archive e h so_far.1
    c.take_event-answer.ensures.answers c.take_event-answer.ensures.step in
    let taken : take (i + 1) events ≡ take i events ++ e ∷ [] =
    take_more events i e (omega arith) ∙ ap (λ (x : Event). take i events ++ x ∷ []) (sym c.event-item.is) in
    record {
      run = (
        so_far.0 ++ h ∷ [],
        subst (λ (l : List Event). AreHeard D c.args.archive.now l (so_far.0 ++ h ∷ []) c.take_event-answer.new.archive)
            (sym taken) more,
        one_more_heard g.L.Listener.hears c.args.listener.now c.events.listener so_far.0 h so_far.2 c.hear.ensures,
      );
    }

pub returns : goal.returns
returns g c =
    let D = g.D.Disk in
    let met = g.met.D.Disk in
    let old = c.args.archive.now in
    let new = c.events.archive in
    let events = c.args.events.now in
    let all : take c.events.event-index events ≡ events = take_all c.events.event-index events (omega arith) in
    let so_far = c.events.invariant.run in
    let heard = so_far.0 in
    let run = subst (λ (l : List Event). AreHeard D old l heard new) all so_far.1 in
    let moments = moments_heard D old events heard new run in
    record {
      heard = heard;
      run = run;
      by = so_far.2;
      stops = λ h still. record {
        moments = moments;
        leaves = λ i j le. prefixes_between D
            (λ d honest. (
              reads_of (D.held d),
              met.counts_now d (D.moment d) (reads_of (D.held d)) honest (omega arith)
                  (λ n. met.reads_image d n honest),
            ))
            (λ d t image honest le left. met.counts_now d t image honest le (met.only_now d image honest left))
            i j old (moment_in old heard i) (moment_in old heard j) events (answers_of heard) le
            (moments.before i) (moments.between i j le) h still
            (record {
              images = λ image left. c.is_closed-closed.ensures.stands h still image (met.only_now old.disk image h left);
              some = (
                reads_of (D.held old.disk),
                met.counts_now old.disk (D.moment old.disk) (reads_of (D.held old.disk)) h (omega arith)
                    (λ n. met.reads_image old.disk n h),
              );
            });
      };
    }
