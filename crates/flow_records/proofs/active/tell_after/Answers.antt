use Rattle.std.proofs.Common.{[], refl, subst}
use Rattle.std.proofs.lemmas.List.{drop_all, take_all}
use Rattle.flow_codec.specs.Raw.{under}
use Rattle.flow_disk.proofs.Results.{passed_on}
use Rattle.flow_segment.specs.PartFlows.{records_in}
use Rattle.flow_snapshot.proofs.Finding.{all_accepted, none_behind, AreBehind}
use Rattle.flow_snapshot.proofs.KeptFlows.{next_item, taken_all, Taken}
use Rattle.flow_records.specs.Listing.{IsBlameless, TellsFrontOf}
use Rattle.flow_records.specs.Records.{records_within}
use Rattle.flow_records.proofs.InMemory.{after_cut, after_more, next_behind, HasLines}
use Rattle.flow_records.proofs.Telling.{on_err, some_cut, some_more, some_none, some_within, stays_here}
use Rattle.flow_records.proofs.Telling.{stays_then, told_none}
use Rattle.flow_records.proofs.active.tell_after.Goals as goal

pub loop-message-init : goal.loop-message-init
loop-message-init g c =
    let old = c.args.listing.now in
    let was = g.W.Write.contents c.args.output.now in
    record {
      same = stays_here old;
      some = some_none old was;
      found = none_behind c.args.templates.now;
      taken = λ list accepted octets. record {
        front = [];
        rest = list;
        whole = refl;
        octets = octets;
        moved = refl;
        has = told_none old was;
      };
    }

pub loop-message-preserved : goal.loop-message-preserved
loop-message-preserved g c =
    let old = c.args.listing.now in
    let mid = c.loop-message.listing in
    let new = c.tell_message.new.listing in
    let was = g.W.Write.contents c.args.output.now in
    let now = g.W.Write.contents c.loop-message.output in
    let next = g.W.Write.contents c.tell_message.new.output in
    let i = c.loop-message.invariant in
    let x = c.in_ok-tell_message.ensures.found in
    record {
      same = stays_then old mid new i.same c.tell_message.ensures.same;
      some = some_more old mid new was now next i.same i.some
          (some_within mid new now next (under (x.0).header (x.0).records) x.2);
      found = next_behind mid new now next c.args.templates.now c.loop-message.templates c.tell_message.new.templates
          c.args.messages.now c.loop-message.message-index c.message-item.result c.as_slice.result.now
          c.loop-message-test.true c.message-item.is c.as_slice.ensures i.found x;
      taken = λ list accepted octets.
          let here = next_item c.args.messages.now c.loop-message.message-index c.message-item.result
          c.as_slice.result.now c.loop-message-test.true c.message-item.is c.as_slice.ensures in
          let t = subst (λ left. Taken (HasLines old was now mid) c.args.templates.now list left c.loop-message.templates)
          here (i.taken list accepted octets) in
          after_more old mid was now c.args.templates.now c.loop-message.templates list c.as_slice.result.now _ accepted t
          i.same next new c.tell_message.new.templates x;
    }

pub returns-in_err-tell_message-clause-some : goal.returns-in_err-tell_message-clause-some
returns-in_err-tell_message-clause-some g c =
    on_err c.from_residual.result _ _ c.from_residual.ensures.1
    (some_cut c.args.listing.now c.loop-message.listing (g.W.Write.contents c.args.output.now)
    (g.W.Write.contents c.loop-message.output) (g.W.Write.contents c.tell_message.new.output)
    c.loop-message.invariant.same c.loop-message.invariant.some c.in_err-tell_message.ensures.some)

pub returns-in_err-tell_message-clause-cut : goal.returns-in_err-tell_message-clause-cut
returns-in_err-tell_message-clause-cut g c = λ list accepted octets.
    let old = c.args.listing.now in
    let mid = c.loop-message.listing in
    let was = g.W.Write.contents c.args.output.now in
    let now = g.W.Write.contents c.loop-message.output in
    let next = g.W.Write.contents c.tell_message.new.output in
    let e = c.in_err-tell_message.field-0.0 in
    let here = next_item c.args.messages.now c.loop-message.message-index c.message-item.result
    c.as_slice.result.now c.loop-message-test.true c.message-item.is c.as_slice.ensures in
    let t = subst (λ left. Taken (HasLines old was now mid) c.args.templates.now list left c.loop-message.templates)
    here (c.loop-message.invariant.taken list accepted octets) in
    passed_on c.from_residual.result e (λ e. IsBlameless e × TellsFrontOf old was next
    (records_within old.chosen.from old.chosen.to (records_in list))) c.from_residual.ensures.1
    (after_cut old mid was now c.args.templates.now c.loop-message.templates list c.as_slice.result.now _ accepted t
    c.loop-message.invariant.same next e c.in_err-tell_message.ensures.cut)

pub returns-clause-found : goal.returns-clause-found
returns-clause-found g c = all_accepted c.args.templates.now c.loop-message.templates c.args.messages.now
    (subst (λ os. AreBehind c.args.templates.now os c.loop-message.templates)
    (take_all c.loop-message.message-index c.args.messages.now c.loop-message-test.false)
    c.loop-message.invariant.found)

pub returns-clause-told : goal.returns-clause-told
returns-clause-told g c = λ list accepted octets.
    let all = taken_all (HasLines c.args.listing.now (g.W.Write.contents c.args.output.now)
    (g.W.Write.contents c.loop-message.output) c.loop-message.listing) c.args.templates.now list _
    c.loop-message.templates (drop_all c.loop-message.message-index c.args.messages.now c.loop-message-test.false)
    (c.loop-message.invariant.taken list accepted octets) in
    all.1
