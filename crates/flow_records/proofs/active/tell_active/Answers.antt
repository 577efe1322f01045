use Rattle.std.proofs.Common.{sym, subst, List}
use Rattle.flow_codec.specs.Raw.{Placed}
use Rattle.flow_codec.specs.Templates.{AllTemplates}
use Rattle.flow_disk.proofs.Results.{passed_on}
use Rattle.flow_measure.specs.History.{AreAcceptedFrom}
use Rattle.std.specs.Prelude.{IfErr}
use Rattle.flow_records.specs.declared.refusal.RecordsRefusal.TheVariants.{Query}
use Rattle.flow_records.specs.Listing.{IsBlameless, TellsFrontOf}
use Rattle.flow_records.proofs.InMemory.{own_told}
use Rattle.flow_records.proofs.Telling.{cut_none, on_err, some_cut_none}
use Rattle.flow_records.proofs.active.tell_active.Goals as goal

pub returns-in_err-templates-clause-some : goal.returns-in_err-templates-clause-some
returns-in_err-templates-clause-some g c =
    on_err c.from_residual.result _ _ c.from_residual.ensures.1
    (some_cut_none c.args.listing.now (g.W.Write.contents c.args.output.now))

pub returns-in_err-templates-clause-cut : goal.returns-in_err-templates-clause-cut
returns-in_err-templates-clause-cut g c = λ own has.
    let old = c.args.listing.now in
    let was = g.W.Write.contents c.args.output.now in
    passed_on c.from_residual.result (Query c.in_err-templates.field-0.0)
    (λ e. IsBlameless e × TellsFrontOf old was was own) c.from_residual.ensures.1
    (c.in_err-templates.ensures.given has.0 has.2, cut_none old was own)

pub returns-clause-found : goal.returns-clause-found
returns-clause-found g c =
    own_told c.args.listing.now c.tell_after.new.listing (g.W.Write.contents c.args.output.now)
    (g.W.Write.contents c.tell_after.new.output) c.args.prefix.now c.args.messages.now c.in_ok-templates.templates
    c.tell_after.result c.in_ok-templates.ensures.found c.tell_after.ensures.found c.tell_after.ensures.told

pub returns-clause-cut : goal.returns-clause-cut
returns-clause-cut g c = λ own has.
    let old = c.args.listing.now in
    subst (λ (rs : List Placed). IfErr c.tell_after.result (λ e. IsBlameless e
    × TellsFrontOf old (g.W.Write.contents c.args.output.now) (g.W.Write.contents c.tell_after.new.output) rs))
    (sym has.5)
    (c.tell_after.ensures.cut has.1
    (subst (λ (t : AllTemplates). AreAcceptedFrom t has.1) (sym (c.in_ok-templates.ensures.given has.0 has.2)) has.3)
    has.4)
