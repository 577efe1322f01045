use Rattle.std.proofs.Common.{◌≡◌, [], refl, sym, ap, subst, ◌∙◌}
use Rattle.flow_codec.specs.Templates.{AllTemplates}
use Rattle.flow_measure.specs.History.{flows_in, templates_from}
use Rattle.flow_measure.specs.Sums.{table_of}
use Rattle.flow_segment.specs.PartFlows.{greatest_time, ArePartMessages}
use Rattle.flow_segment.specs.Segment.{part_octets}
use Rattle.std.specs.Prelude.{Ok, Err}
use Rattle.flow_measure.specs.Sums.{Table}
use Rattle.flow_segment.specs.PartFlows.{with_flows, AreAdded}
use Rattle.flow_refusals.specs.Printed.{sum_of_read}
use Rattle.flow_refusals.specs.declared.sum_refusal.SumRefusal.TheVariants.{Fault}
use Rattle.flow_archive.specs.Sources.{IsMerged, IsNotTakenUp, IsSegmentRefusal, IsSegmentSum, IsTakenUp}
use Rattle.flow_archive.proofs.SourceSums.{err_is, messages_refused, messages_there, not_added, not_restated}
use Rattle.flow_archive.proofs.SourceSums.{passed_on, prefix_refused, restated_there, segment_added}
use Rattle.flow_archive.proofs.sources.add_segment.Goals as goal

pub returns-in_err-templates-clause-given : goal.returns-in_err-templates-clause-given
returns-in_err-templates-clause-given g c = λ h e p carry prefix end count at segment.
    let S = g.S.SealedFile in
    let file = c.args.part.now in
    let there = restated_there (S.octets file.reader) file.prefix e p carry prefix at segment in
    not_restated (templates_from [] segment.prefix) (table_of c.args.rows.now.width (flows_in segment.messages))
    (greatest_time segment.messages) c.args.rows.now _ c.in_err-templates.field-0.0 c.from_residual.result
    (c.in_err-templates.ensures.given h (templates_from [] segment.prefix) there)
    (err_is c.from_residual.result (sum_of_read c.in_err-templates.field-0.0) c.from_residual.ensures.1)

pub returns-in_err-templates-clause-found : goal.returns-in_err-templates-clause-found
returns-in_err-templates-clause-found g c = λ h.
    let S = g.S.SealedFile in
    let file = c.args.part.now in
    prefix_refused (part_octets 0 file.prefix (S.octets file.reader))
    (part_octets file.prefix file.length (S.octets file.reader)) (S.number file.reader) file.prefix file.length
    file.messages _ c.args.rows.now c.in_err-templates.field-0.0 c.from_residual.result
    (c.in_err-templates.ensures.told h)
    (err_is c.from_residual.result (sum_of_read c.in_err-templates.field-0.0) c.from_residual.ensures.1)

pub returns-in-Ok-clause-found : goal.returns-in-Ok-clause-found
returns-in-Ok-clause-found g c = λ h.
    let S = g.S.SealedFile in
    let file = c.args.part.now in
    let prefix = part_octets 0 file.prefix (S.octets file.reader) in
    let octets = part_octets file.prefix file.length (S.octets file.reader) in
    let start : c.new.result.1 ≡ c.args.rows.now = ap (λ (t : Table × Table). t.1) c.new.ensures ∙ c.replace.ensures.value
    in
    subst (λ (t : Table). IsTakenUp (IsSegmentSum t.width prefix octets file.messages) t c.keep.result c.in-Ok.time) start
    (segment_added prefix octets file.messages c.in_ok-templates.templates c.add_flows.new.templates c.new.result.1
    c.keep.result c.in-Ok.time (c.in_ok-templates.ensures.found h) (c.in-Ok.ensures.found h)
    (λ messages are. subst (λ (t : Table). AreAdded c.in_ok-templates.templates c.new.result.1 messages (Ok c.in-Ok.time)
    c.add_flows.new.templates t) (sym c.keep.ensures) (c.in-Ok.ensures.given h messages are)) (c.in-Ok.ensures.time h))

pub returns-in-Ok-clause-given : goal.returns-in-Ok-clause-given
returns-in-Ok-clause-given g c = λ h e p carry prefix end count at segment.
    let S = g.S.SealedFile in
    let file = c.args.part.now in
    let there = restated_there (S.octets file.reader) file.prefix e p carry prefix at segment in
    let is = c.in_ok-templates.ensures.given h (templates_from [] segment.prefix) there in
    let messages = subst (λ (x : AllTemplates).
    ArePartMessages (part_octets file.prefix file.length (S.octets file.reader)) x file.messages segment.messages)
    (sym is) (messages_there (S.octets file.reader) file.prefix file.length file.messages e p carry prefix end count at
    segment) in
    let start : c.new.result.1 ≡ c.args.rows.now = ap (λ (t : Table × Table). t.1) c.new.ensures ∙ c.replace.ensures.value
    in (
      c.keep.ensures ∙ (c.in-Ok.ensures.given h segment.messages messages).1
          ∙ ap (with_flows (flows_in segment.messages)) start,
      c.in-Ok.ensures.time h segment.messages messages,
    )

pub returns-clause-cause : goal.returns-clause-cause
returns-clause-cause g c =
    passed_on Fault Fault c.in-Err.error c.in-Err.error _ _ _ (Err c.in-Err.error) c.in-Err.ensures.cause
    c.in_ok-templates.ensures.cause.done refl (λ is. is) (λ is. is)

pub returns-clause-found : goal.returns-clause-found
returns-clause-found g c = λ h.
    let S = g.S.SealedFile in
    let file = c.args.part.now in
    let prefix = part_octets 0 file.prefix (S.octets file.reader) in
    let octets = part_octets file.prefix file.length (S.octets file.reader) in
    let start : c.new.result.1 ≡ c.args.rows.now = ap (λ (t : Table × Table). t.1) c.new.ensures ∙ c.replace.ensures.value
    in
    let refuses = IsSegmentRefusal prefix octets (S.number file.reader) file.prefix file.length file.messages in
    subst (λ (t : Table). IsNotTakenUp (IsSegmentSum t.width prefix octets file.messages) refuses t c.in-Err.error)
    start
    (messages_refused prefix octets (S.number file.reader) file.prefix file.length file.messages (λ _. Unit {0})
    c.new.result.1 c.in_ok-templates.templates c.add_flows.new.templates c.add_flows.new.adding.rows.1 c.in-Err.error
    (c.in_ok-templates.ensures.found h) (c.in-Err.ensures.told h) (c.in-Err.ensures.given h))

pub returns-clause-given : goal.returns-clause-given
returns-clause-given g c = λ h e p carry prefix end count at segment.
    let S = g.S.SealedFile in
    let file = c.args.part.now in
    let there = restated_there (S.octets file.reader) file.prefix e p carry prefix at segment in
    let is = c.in_ok-templates.ensures.given h (templates_from [] segment.prefix) there in
    let messages = subst (λ (x : AllTemplates).
    ArePartMessages (part_octets file.prefix file.length (S.octets file.reader)) x file.messages segment.messages)
    (sym is) (messages_there (S.octets file.reader) file.prefix file.length file.messages e p carry prefix end count at
    segment) in
    let start : c.new.result.1 ≡ c.args.rows.now = ap (λ (t : Table × Table). t.1) c.new.ensures ∙ c.replace.ensures.value
    in
    let flows = flows_in segment.messages in
    let time = greatest_time segment.messages in
    subst (λ (t : Table). IsMerged (table_of t.width flows) time t c.take_back.result (Err c.in-Err.error)) start
    (not_added c.in_ok-templates.templates c.add_flows.new.templates segment.messages c.new.result.1
    c.add_flows.new.adding.rows.1 c.take_back.result time c.in-Err.error
    (c.in-Err.ensures.given h segment.messages messages))
