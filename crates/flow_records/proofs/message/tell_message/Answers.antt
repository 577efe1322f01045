use Rattle.std.proofs.Common.{ℕ, ap, refl, subst}
use Rattle.flow_codec.specs.Raw.{under}
use Rattle.flow_report.specs.Telling.{Tells, TellsFront}
use Rattle.flow_disk.proofs.Results.{passed_on}
use Rattle.flow_records.specs.declared.refusal.RecordsRefusal.TheVariants.{Query, Text}
use Rattle.flow_records.specs.Holding.{held}
use Rattle.flow_records.specs.Listing.{IsBlameless, TellsFrontOf}
use Rattle.flow_records.specs.Records.{records_within}
use Rattle.flow_records.proofs.Telling.{cut_none, lines_taken, on_err, same_records, some_cut_none, some_cut_within}
use Rattle.flow_records.proofs.Telling.{walk_blameless, walk_quiet}
use Rattle.flow_records.proofs.message.tell_message.Goals as goal

pub returns-in_err-choose-clause-same : goal.returns-in_err-choose-clause-same
returns-in_err-choose-clause-same g c = record {
  format = refl;
  from = ap (λ (p : ℕ × ℕ). p.0) c.choose.ensures.span;
  to = ap (λ (p : ℕ × ℕ). p.1) c.choose.ensures.span;
}

pub returns-in_err-tell_chosen-clause-same : goal.returns-in_err-tell_chosen-clause-same
returns-in_err-tell_chosen-clause-same g c = record {
  format = c.tell_chosen.ensures.format;
  from = ap (λ (p : ℕ × ℕ). p.0) c.choose.ensures.span;
  to = ap (λ (p : ℕ × ℕ). p.1) c.choose.ensures.span;
}

pub returns-clause-same : goal.returns-clause-same
returns-clause-same g c = record {
  format = c.tell_chosen.ensures.format;
  from = ap (λ (p : ℕ × ℕ). p.0) c.choose.ensures.span;
  to = ap (λ (p : ℕ × ℕ). p.1) c.choose.ensures.span;
}

pub returns-in_err-choose-clause-some : goal.returns-in_err-choose-clause-some
returns-in_err-choose-clause-some g c =
    on_err c.from_residual.result _ _ c.from_residual.ensures.1
    (some_cut_none c.args.listing.now (g.W.Write.contents c.args.output.now))

pub returns-in_err-choose-clause-cut : goal.returns-in_err-choose-clause-cut
returns-in_err-choose-clause-cut g c = λ m after is.
    let e = c.in_err-choose.field-0.0 in
    let old = c.args.listing.now in
    let was = g.W.Write.contents c.args.output.now in
    let xs = records_within old.chosen.from old.chosen.to (under m.header m.records) in
    passed_on c.from_residual.result (Query e) (λ e. IsBlameless e × TellsFrontOf old was was xs)
    c.from_residual.ensures.1 (
      walk_blameless {X = ℕ} (λ _ _. ℕ) c.args.file c.args.at c.args.octets.now c.args.templates.now c.choose.new.templates after m e is
          c.in_err-choose.ensures.walked,
      cut_none old was xs,
    )

pub returns-in_err-choose-clause-quiet : goal.returns-in_err-choose-clause-quiet
returns-in_err-choose-clause-quiet g c =
    let e = c.in_err-choose.field-0.0 in
    passed_on c.from_residual.result (Query e) _ c.from_residual.ensures.1
    (walk_quiet {X = ℕ} (λ _ _. ℕ) c.args.file c.args.at c.args.octets.now c.args.templates.now c.choose.new.templates e
    c.in_err-choose.ensures.walked)

pub returns-clause-found : goal.returns-clause-found
returns-clause-found g c =
    let old = c.args.listing.now in
    let x = c.in_ok-choose.ensures.walked in
    let m = x.0 in
    let xs = records_within old.chosen.from old.chosen.to (under m.header m.records) in
    let told = rw (c.as_slice-records.ensures.value, c.as_slice-octets.ensures.value) at c.in_ok-tell_chosen.ensures.told in (
      m,
      x.1,
      subst (Tells (g.W.Write.contents c.args.output.now) old.lines.held (g.W.Write.contents c.tell_chosen.new.output)
          c.tell_chosen.new.lines.held) (lines_taken old.lines.line (held c.choose.new.chosen) xs x.2) told,
    )

pub returns-in_err-tell_chosen-clause-some : goal.returns-in_err-tell_chosen-clause-some
returns-in_err-tell_chosen-clause-some g c =
    let old = c.args.listing.now in
    let was = g.W.Write.contents c.args.output.now in
    let next = g.W.Write.contents c.tell_chosen.new.output in
    let x = c.in_ok-choose.ensures.walked in
    let records = under (x.0).header (x.0).records in
    let front = rw (c.as_slice-records.ensures.value, c.as_slice-octets.ensures.value) at c.in_err-tell_chosen.ensures.front in
    on_err c.from_residual-in_err-tell_chosen.result _ _ c.from_residual-in_err-tell_chosen.ensures.1
    (some_cut_within old was next records
    (subst (TellsFront was old.lines.held next) (lines_taken old.lines.line (held c.choose.new.chosen)
    (records_within old.chosen.from old.chosen.to records) x.2) front))

pub returns-in_err-tell_chosen-clause-cut : goal.returns-in_err-tell_chosen-clause-cut
returns-in_err-tell_chosen-clause-cut g c = λ m after is.
    let old = c.args.listing.now in
    let was = g.W.Write.contents c.args.output.now in
    let next = g.W.Write.contents c.tell_chosen.new.output in
    let from = old.chosen.from in
    let to = old.chosen.to in
    let e = c.in_err-tell_chosen.field-0.0 in
    let x = c.in_ok-choose.ensures.walked in
    let own = records_within from to (under (x.0).header (x.0).records) in
    let xs = records_within from to (under m.header m.records) in
    let front = rw (c.as_slice-records.ensures.value, c.as_slice-octets.ensures.value) at c.in_err-tell_chosen.ensures.front in
    let told = subst (TellsFront was old.lines.held next)
    (lines_taken old.lines.line (held c.choose.new.chosen) own x.2) front in
    passed_on c.from_residual-in_err-tell_chosen.result (Text e) (λ e. IsBlameless e × TellsFrontOf old was next xs)
    c.from_residual-in_err-tell_chosen.ensures.1 (
      tt,
      subst (TellsFrontOf old was next)
          (same_records from to c.args.octets.now c.args.templates.now c.choose.new.templates after (x.0) m x.1 is) told,
    )
