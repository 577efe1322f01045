use Rattle.std.proofs.Common.{arith, ap, refl, ◌∙◌}
use Rattle.flow_disk.proofs.Results.{passed_on}
use Rattle.flow_codec.specs.Raw.{under}
use Rattle.flow_segment.specs.PartFlows.{records_in}
use Rattle.flow_disk.specs.Window.{Window}
use Rattle.flow_segment.proofs.Flowing.{count_within}
use Rattle.flow_segment.proofs.Restating.{moves_within}
use Rattle.flow_records.specs.declared.refusal.RecordsRefusal.TheVariants.{Query}
use Rattle.flow_records.specs.Listing.{IsBlameless, TellsFrontOf}
use Rattle.flow_records.specs.Records.{records_within}
use Rattle.flow_records.proofs.Telling.{advance_blameless, next_cut, on_err, part_begins, part_counted, part_found}
use Rattle.flow_records.proofs.Telling.{part_more, part_stopped, part_told, query_cause, some_cut, some_more, some_stopped}
use Rattle.flow_records.proofs.Telling.{some_none, some_within, stays_here, stays_then}
use Rattle.flow_records.proofs.part.tell_messages.Goals as goal

pub messages-init : goal.messages-init
messages-init g c =
    let S = g.S.SealedFile in
    let part = c.args.part.now in
    let old = c.args.listing.now in
    let was = g.W.Write.contents c.args.output.now in
    let new = c.new-window.ensures in
    record {
      same = stays_here old;
      some = some_none old was;
      sofar = part_begins old was (S.honest part.reader) (S.octets part.reader) part.prefix part.length
          c.args.templates.now c.new-window.result new;
      end = ap (λ (w : Window). w.end) new;
      within = omega (arith, ap (λ (w : Window). w.place) new, ap (λ (w : Window). w.end) new, part.order);
      faults = refl;
      few = omega arith;
    }

pub messages-preserved : goal.messages-preserved
messages-preserved g c =
    let S = g.S.SealedFile in
    let part = c.args.part.now in
    let file = part.reader in
    let old = c.args.listing.now in
    let mid = c.messages.listing in
    let new = c.tell_message.new.listing in
    let was = g.W.Write.contents c.args.output.now in
    let now = g.W.Write.contents c.messages.output in
    let next = g.W.Write.contents c.tell_message.new.output in
    let i = c.messages.invariant in
    let x = c.in_ok-tell_message.ensures.found in
    record {
      same = stays_then old mid new i.same c.tell_message.ensures.same;
      some = some_more old mid new was now next i.same i.some
          (some_within mid new now next (under (x.0).header (x.0).records) x.2);
      sofar = part_more old mid was now (S.honest file) (S.octets file) part.prefix part.length (S.number file)
          c.messages.count c.args.templates.now c.messages.templates c.messages.window i.sofar new next
          c.in_ok-advance.field-0 c.tell_message.new.templates c.advance.new.window c.held.result.now
          c.if-not-branch.false c.in_ok-advance.ensures.moves c.in_ok-advance.ensures.step c.held.ensures i.same x;
      end = c.in_ok-advance.ensures.end ∙ i.end;
      within = moves_within c.messages.window c.advance.new.window c.in_ok-advance.field-0 c.if-not-branch.false
          c.in_ok-advance.ensures.moves;
      faults = c.in_ok-advance.ensures.cause.done ∙ i.faults;
      few = count_within c.messages.window c.advance.new.window c.messages.count c.in_ok-advance.field-0
          c.if-not-branch.false c.in_ok-advance.ensures.moves i.few;
    }

pub returns-in_err-advance-clause-some : goal.returns-in_err-advance-clause-some
returns-in_err-advance-clause-some g c =
    on_err c.from_residual.result _ _ c.from_residual.ensures.1
    (some_stopped c.args.listing.now c.messages.listing (g.W.Write.contents c.args.output.now)
    (g.W.Write.contents c.messages.output) c.messages.invariant.some)

pub returns-in_err-advance-clause-cause : goal.returns-in_err-advance-clause-cause
returns-in_err-advance-clause-cause g c =
    query_cause c.args.faults.now c.messages.faults c.advance.new.faults c.in_err-advance.field-0.0
    c.from_residual.result c.messages.invariant.faults c.in_err-advance.ensures.cause c.from_residual.ensures.1

pub returns-in_err-advance-clause-cut : goal.returns-in_err-advance-clause-cut
returns-in_err-advance-clause-cut g c = λ h messages are.
    let S = g.S.SealedFile in
    let part = c.args.part.now in
    let file = part.reader in
    let old = c.args.listing.now in
    let mid = c.messages.listing in
    let was = g.W.Write.contents c.args.output.now in
    let now = g.W.Write.contents c.messages.output in
    let e = c.in_err-advance.field-0.0 in
    let sofar = c.messages.invariant.sofar in
    passed_on c.from_residual.result (Query e) (λ e. IsBlameless e × TellsFrontOf old was now
    (records_within old.chosen.from old.chosen.to (records_in messages))) c.from_residual.ensures.1 (
      advance_blameless old mid was now (S.honest file) (S.octets file) part.prefix part.length (S.number file)
          c.messages.count c.args.templates.now c.messages.templates c.messages.window sofar part.messages messages are h
          c.advance.new.window e c.in_err-advance.ensures.step,
      part_stopped old mid was now (S.honest file) (S.octets file) part.prefix part.length (S.number file)
          c.messages.count c.args.templates.now c.messages.templates c.messages.window sofar part.messages messages are
          h,
    )

pub returns-in_err-tell_message-clause-some : goal.returns-in_err-tell_message-clause-some
returns-in_err-tell_message-clause-some g c =
    on_err c.from_residual-in_err-tell_message.result _ _ c.from_residual-in_err-tell_message.ensures.1
    (some_cut c.args.listing.now c.messages.listing (g.W.Write.contents c.args.output.now)
    (g.W.Write.contents c.messages.output) (g.W.Write.contents c.tell_message.new.output) c.messages.invariant.same
    c.messages.invariant.some c.in_err-tell_message.ensures.some)

pub returns-in_err-tell_message-clause-cut : goal.returns-in_err-tell_message-clause-cut
returns-in_err-tell_message-clause-cut g c = λ h messages are.
    let S = g.S.SealedFile in
    let part = c.args.part.now in
    let file = part.reader in
    let old = c.args.listing.now in
    let mid = c.messages.listing in
    let was = g.W.Write.contents c.args.output.now in
    let now = g.W.Write.contents c.messages.output in
    let next = g.W.Write.contents c.tell_message.new.output in
    let e = c.in_err-tell_message.field-0.0 in
    passed_on c.from_residual-in_err-tell_message.result e (λ e. IsBlameless e × TellsFrontOf old was next
    (records_within old.chosen.from old.chosen.to (records_in messages))) c.from_residual-in_err-tell_message.ensures.1
    (next_cut old mid was now (S.honest file) (S.octets file) part.prefix part.length (S.number file)
    c.messages.count c.args.templates.now c.messages.templates c.messages.window c.messages.invariant.sofar part.messages
    messages are h c.in_ok-advance.field-0 c.advance.new.window c.in_ok-advance.ensures.step c.held.result.now next e
    c.if-not-branch.false c.held.ensures c.messages.invariant.same c.in_err-tell_message.ensures.cut)

pub returns-then-count-part-clause-cut : goal.returns-then-count-part-clause-cut
returns-then-count-part-clause-cut g c = λ h messages are.
    let S = g.S.SealedFile in
    let part = c.args.part.now in
    let file = part.reader in
    absurd (c.if-count-part.true
    (part_counted c.args.listing.now c.messages.listing (g.W.Write.contents c.args.output.now)
    (g.W.Write.contents c.messages.output) (S.honest file) (S.octets file) part.prefix part.length (S.number file)
    c.messages.count c.args.templates.now c.messages.templates c.messages.window c.messages.invariant.sofar part.messages
    messages are h c.in_ok-advance.field-0 c.advance.new.window c.in_ok-advance.ensures.step c.if-not-branch.true))

pub returns-then-not-branch-clause-found : goal.returns-then-not-branch-clause-found
returns-then-not-branch-clause-found g c = λ h.
    let S = g.S.SealedFile in
    let part = c.args.part.now in
    let file = part.reader in
    part_found c.args.listing.now c.messages.listing (g.W.Write.contents c.args.output.now)
    (g.W.Write.contents c.messages.output) (S.honest file) (S.octets file) part.prefix part.length (S.number file)
    c.messages.count c.args.templates.now c.messages.templates c.messages.window c.messages.invariant.sofar part.messages
    c.in_ok-advance.field-0 c.advance.new.window h c.in_ok-advance.ensures.step c.if-not-branch.true
    c.if-count-part.false

pub returns-then-not-branch-clause-told : goal.returns-then-not-branch-clause-told
returns-then-not-branch-clause-told g c = λ h messages are.
    let S = g.S.SealedFile in
    let part = c.args.part.now in
    let file = part.reader in
    part_told c.args.listing.now c.messages.listing (g.W.Write.contents c.args.output.now)
    (g.W.Write.contents c.messages.output) (S.honest file) (S.octets file) part.prefix part.length (S.number file)
    c.messages.count c.args.templates.now c.messages.templates c.messages.window c.messages.invariant.sofar part.messages
    messages are h c.in_ok-advance.field-0 c.advance.new.window c.in_ok-advance.ensures.step c.if-not-branch.true
