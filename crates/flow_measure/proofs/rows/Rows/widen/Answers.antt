use Rattle.std.proofs.Common.{◌≡◌, ◌<◌, sym, ap, subst, ◌∙◌}
use Rattle.std.specs.FinMap.{entries}
use Rattle.std.specs.List.{AllByRecursion}
use Rattle.flow_measure.specs.Sums.{AllFit, IsRefused, widened, with_entries}
use Rattle.flow_measure.proofs.Merging.{refused_by, sound_entries, with_empty}
use Rattle.flow_measure.proofs.SumLaws.{widened_sums}
use Rattle.flow_measure.proofs.rows.Rows.widen.Goals as goal

pub add_all-requires : goal.add_all-requires
add_all-requires c =
    let own = c.args.self.now in
    let listed : c.as_slice.result.now ≡ entries own.sums = c.as_slice.ensures.value ∙ c.in_ok-entries.ensures.list in
    subst (AllByRecursion (λ e. 0 < e.1.flows)) (sym listed)
    (sound_entries own.width own.sums c.in_ok-entries.ensures.sound)

pub returns-in_err-add_all-clause-made : goal.returns-in_err-add_all-clause-made
returns-in_err-add_all-clause-made c =
    let listed = c.as_slice.ensures.value ∙ c.in_ok-entries.ensures.list in
    let whole = ap (with_entries c.as_slice.result.now) c.new-rows.ensures
    ∙ with_empty c.args.wide c.args.self.now c.as_slice.result.now listed in
    refused_by c.from_residual-in_err-add_all.result c.in_err-add_all.field-0.0 (widened c.args.wide c.args.self.now) _
    c.from_residual-in_err-add_all.ensures.1
    (subst (IsRefused c.in_err-add_all.field-0.0) whole c.in_err-add_all.ensures)

pub returns-clause-made : goal.returns-clause-made
returns-clause-made c =
    let listed = c.as_slice.ensures.value ∙ c.in_ok-entries.ensures.list in
    let whole = ap (with_entries c.as_slice.result.now) c.new-rows.ensures
    ∙ with_empty c.args.wide c.args.self.now c.as_slice.result.now listed in
    let h = c.in_ok-add_all.ensures in
    (subst AllFit whole h.0, h.1 ∙ whole)

pub returns-clause-sums : goal.returns-clause-sums
returns-clause-sums c =
    let listed = c.as_slice.ensures.value ∙ c.in_ok-entries.ensures.list in
    let whole = ap (with_entries c.as_slice.result.now) c.new-rows.ensures
    ∙ with_empty c.args.wide c.args.self.now c.as_slice.result.now listed in
    let h = c.in_ok-add_all.ensures in
    widened_sums c.args.self.now c.add_all.new.self c.args.wide c.in_ok-entries.ensures.positive c.requires.multiple
    (h.1 ∙ whole)
