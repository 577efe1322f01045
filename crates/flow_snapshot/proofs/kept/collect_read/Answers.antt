use Rattle.std.proofs.Common.{arith, refl}
use Rattle.flow_snapshot.specs.Files.{segment_of}
use Rattle.flow_snapshot.specs.Found.{kept_file}
use Rattle.flow_snapshot.proofs.Asking.{templates_blameless}
use Rattle.flow_snapshot.proofs.ByFile.{empty_part, none_appended, none_given, part_appended, part_right}
use Rattle.flow_snapshot.proofs.KeptFlows.{answered_err}
use Rattle.flow_snapshot.proofs.kept.collect_read.Goals as goal

pub returns-in_err-templates-clause-given : goal.returns-in_err-templates-clause-given
returns-in_err-templates-clause-given g c = λ honest own has.
    answered_err _ c.from_residual.result _ c.from_residual.ensures.1
    (templates_blameless c.in_err-templates.field-0.0 has.0 (c.in_err-templates.ensures.given honest has.0 has.2))

pub returns-then-part-eq0-clause-found : goal.returns-then-part-eq0-clause-found
returns-then-part-eq0-clause-found g c = λ honest.
    let part = c.args.part.now in
    let old = c.args.flows.now.items in
    none_appended c.args.from c.args.to (kept_file (segment_of part)) old old
    (empty_part part c.args.from c.args.to c.in_ok-templates.templates c.if-part-eq0.true
    (c.in_ok-templates.ensures.found honest)) refl

pub returns-then-part-eq0-clause-given : goal.returns-then-part-eq0-clause-given
returns-then-part-eq0-clause-given g c = λ honest own has.
    let part = c.args.part.now in
    let old = c.args.flows.now.items in
    none_given c.args.from c.args.to (kept_file (segment_of part)) old old own
    (empty_part part c.args.from c.args.to c.in_ok-templates.templates c.if-part-eq0.true
    (c.in_ok-templates.ensures.found honest)) refl has

pub returns-clause-found : goal.returns-clause-found
returns-clause-found g c = λ honest.
    part_appended c.args.part.now c.args.from c.args.to c.in_ok-templates.templates c.collect_flows.new.templates
    c.args.flows.now.items c.collect_flows.new.flows.items c.collect_flows.result (c.in_ok-templates.ensures.found honest)
    (c.collect_flows.ensures.found honest) (c.collect_flows.ensures.given honest)

pub returns-clause-given : goal.returns-clause-given
returns-clause-given g c = λ honest own has.
    part_right c.args.part.now c.args.from c.args.to c.in_ok-templates.templates c.collect_flows.new.templates
    c.args.flows.now.items c.collect_flows.new.flows.items own c.collect_flows.result
    (omega (arith, c.if-part-eq0.false)) has (c.in_ok-templates.ensures.given honest has.0 has.2)
    (c.collect_flows.ensures.given honest)
