use Rattle.std.proofs.Common.{[], ◌∙◌, refl, sym, subst, arith, List}
use Rattle.std.specs.Prelude.{IfErr}
use Rattle.flow_codec.specs.Raw.{Placed}
use Rattle.flow_disk.proofs.Results.{passed_on}
use Rattle.flow_snapshot.proofs.Asking.{templates_blameless}
use Rattle.flow_snapshot.proofs.Finding.{seen_twice}
use Rattle.flow_records.specs.declared.refusal.RecordsRefusal.TheVariants.{Query}
use Rattle.flow_records.specs.Listing.{IsBlameless, TellsFrontOf}
use Rattle.flow_records.proofs.ByFile.{empty_part, outside_part, own_messages, part_own}
use Rattle.flow_records.proofs.Telling.{cut_none, on_err, query_cause, some_cut_none, some_none}
use Rattle.flow_records.proofs.Telling.{told_none}
use Rattle.flow_records.proofs.part.tell_segment.Goals as goal

pub returns-then-is_outside-clause-all : goal.returns-then-is_outside-clause-all
returns-then-is_outside-clause-all g c = some_none c.args.listing.now (g.W.Write.contents c.args.output.now)

pub returns-then-is_outside-clause-unread : goal.returns-then-is_outside-clause-unread
returns-then-is_outside-clause-unread g c = λ known.
    (tt, refl, told_none c.args.listing.now (g.W.Write.contents c.args.output.now))

pub returns-then-is_outside-clause-found : goal.returns-then-is_outside-clause-found
returns-then-is_outside-clause-found g c = λ honest.
    let old = c.args.listing.now in (
      [],
      outside_part c.args.part.now old.chosen.from old.chosen.to
          (c.is_outside.ensures.whole c.if-is_outside.true honest),
      told_none old (g.W.Write.contents c.args.output.now),
    )

pub returns-in_err-templates-clause-unread : goal.returns-in_err-templates-clause-unread
returns-in_err-templates-clause-unread g c = λ known.
    absurd (seen_twice c.is_outside.result (c.is_outside.ensures.known ∙ known) c.if-is_outside.false)

pub returns-in_err-templates-clause-some : goal.returns-in_err-templates-clause-some
returns-in_err-templates-clause-some g c =
    on_err c.from_residual.result _ _ c.from_residual.ensures.1
    (some_cut_none c.args.listing.now (g.W.Write.contents c.args.output.now))

pub returns-in_err-templates-clause-cause : goal.returns-in_err-templates-clause-cause
returns-in_err-templates-clause-cause g c =
    query_cause c.args.faults.now c.args.faults.now c.templates_of.new.faults c.in_err-templates.field-0.0
    c.from_residual.result refl c.in_err-templates.ensures.cause c.from_residual.ensures.1

pub returns-in_err-templates-clause-cut : goal.returns-in_err-templates-clause-cut
returns-in_err-templates-clause-cut g c = λ honest own has.
    let old = c.args.listing.now in
    let was = g.W.Write.contents c.args.output.now in
    let e = c.in_err-templates.field-0.0 in
    passed_on c.from_residual.result (Query e) (λ e. IsBlameless e × TellsFrontOf old was was own)
    c.from_residual.ensures.1
    (templates_blameless e has.0 (c.in_err-templates.ensures.given honest has.0 has.2), cut_none old was own)

pub returns-then-part-eq0-clause-all : goal.returns-then-part-eq0-clause-all
returns-then-part-eq0-clause-all g c = some_none c.args.listing.now (g.W.Write.contents c.args.output.now)

pub returns-then-part-eq0-clause-unread : goal.returns-then-part-eq0-clause-unread
returns-then-part-eq0-clause-unread g c = λ known.
    absurd (seen_twice c.is_outside.result (c.is_outside.ensures.known ∙ known) c.if-is_outside.false)

pub returns-then-part-eq0-clause-found : goal.returns-then-part-eq0-clause-found
returns-then-part-eq0-clause-found g c = λ honest.
    let old = c.args.listing.now in (
      [],
      empty_part c.args.part.now old.chosen.from old.chosen.to c.in_ok-templates.templates c.if-part-eq0.true
          (c.in_ok-templates.ensures.found honest),
      told_none old (g.W.Write.contents c.args.output.now),
    )

pub returns-clause-unread : goal.returns-clause-unread
returns-clause-unread g c = λ known.
    absurd (seen_twice c.is_outside.result (c.is_outside.ensures.known ∙ known) c.if-is_outside.false)

pub returns-clause-found : goal.returns-clause-found
returns-clause-found g c = λ honest.
    part_own c.args.part.now c.args.listing.now c.tell_messages.new.listing (g.W.Write.contents c.args.output.now)
    (g.W.Write.contents c.tell_messages.new.output) c.in_ok-templates.templates c.tell_messages.result
    (c.in_ok-templates.ensures.found honest) (c.tell_messages.ensures.found honest)
    (c.tell_messages.ensures.told honest)

pub returns-clause-cut : goal.returns-clause-cut
returns-clause-cut g c = λ honest own has.
    let part = c.args.part.now in
    let old = c.args.listing.now in
    let x = own_messages part old.chosen.from old.chosen.to c.in_ok-templates.templates own
    (omega (arith, c.if-part-eq0.false)) has (c.in_ok-templates.ensures.given honest has.0 has.2) in
    subst (λ (rs : List Placed). IfErr c.tell_messages.result (λ e. IsBlameless e
    × TellsFrontOf old (g.W.Write.contents c.args.output.now) (g.W.Write.contents c.tell_messages.new.output) rs))
    (sym x.2) (c.tell_messages.ensures.cut honest x.0 x.1)
