use Rattle.std.proofs.Common.{length, refl, sym, ◌∙◌}
use Rattle.std.proofs.lemmas.Result.{err_from_is_err_and}
use Rattle.flow_codec.specs.Working.{current}
use Rattle.flow_codec.specs.Unread.{unread_at}
use Rattle.flow_codec.proofs.UnreadLoop.{HasMet, starts as begins, passes, meets, is_all}
use Rattle.flow_codec.proofs.ReplacedLoop.{starts as none_yet, goes_on as so_many, is_all as all_met}
use Rattle.flow_codec.proofs.SetLoop.{starts, goes_on, ends, stops, is_done, some_left, none_left}
use Rattle.flow_codec.proofs.walk.sets_of.Goals as goal
use Rattle.flow_codec.proofs.walk.sets_of.Goals.{then-is_unread, else-is_unread}

pub sets-init : goal.sets-init
sets-init g c = (
  c.requires.changes,
  starts g.S.RecordSink.holds g.S.RecordSink.refuses c.args.header.now c.args.sink.now c.args.end
      c.args.header.now.domain c.args.octets.now _
      (current c.args.header.now.domain c.args.before.now c.args.changed.now) c.requires.end refl,
  begins c.args.end c.args.header.now.domain (length c.args.octets.now) _
      (current c.args.header.now.domain c.args.before.now c.args.changed.now) c.args.octets.now refl refl,
  none_yet c.args.end c.args.header.now.domain (length c.args.octets.now) _
      (current c.args.header.now.domain c.args.before.now c.args.changed.now) c.args.octets.now refl refl,
  refl,
)

pub returns-in_err-id-clause-exact : goal.returns-in_err-id-clause-exact
returns-in_err-id-clause-exact g c =
    let p = err_from_is_err_and c.from_residual.result c.from_residual.ensures.1 in
    let some = some_left c.sets.rest.now c.is_empty.result c.is_empty.ensures c.sets-test.true in
    rw (p.1, p.2) (ends g.S.RecordSink.holds g.S.RecordSink.refuses c.args.header.now c.args.sink.now c.args.end
    c.args.header.now.domain c.args.octets.now _ c.sets.sink
    (current c.args.header.now.domain c.args.before.now c.sets.changed) c.sets.rest.now
    c.sets.invariant.1 some c.in_err-id.field-0.0 c.in_err-id.ensures.exact)

pub returns-in_err-is_unread-clause-exact : goal.returns-in_err-is_unread-clause-exact
returns-in_err-is_unread-clause-exact g c =
    let p = err_from_is_err_and c.from_residual-in_err-is_unread.result c.from_residual-in_err-is_unread.ensures.1 in
    let some = some_left c.sets.rest.now c.is_empty.result c.is_empty.ensures c.sets-test.true in
    rw (p.1, p.2) (stops g.S.RecordSink.holds g.S.RecordSink.refuses c.args.header.now c.args.sink.now c.args.end
    c.args.header.now.domain c.args.octets.now _ c.sets.sink
    (current c.args.header.now.domain c.args.before.now c.sets.changed) c.sets.rest.now
    c.sets.invariant.1 some c.in_ok-id.id c.in_ok-id.content.now c.in_ok-id.after.now c.in_ok-id.ensures.exact
    c.in_ok-id.ensures.len c.in_err-is_unread.field-0.0 c.in_err-is_unread.ensures.exact)

pub sets-preserved : goal.sets-preserved
sets-preserved g c =
    let some = some_left c.sets.rest.now c.is_empty.result c.is_empty.ensures c.sets-test.true in
    let given = c.in_ok-is_unread.ensures.exact in
    let met : HasMet c.args.end c.args.header.now.domain (length c.args.octets.now) (unread_at
    (length c.args.octets.now) c.args.end c.args.header.now.domain
    (current c.args.header.now.domain c.args.before.now c.args.changed.now) c.args.octets.now) c.if-is_unread.unread
    (current c.args.header.now.domain c.args.before.now c.content_of.new.changed) c.in_ok-id.after.now =
    elim c.if-is_unread.branch [
      | then-is_unread w ↦ rw w.unread-is (meets c.args.end c.args.header.now.domain (length c.args.octets.now)
          _ c.sets.unread
          (current c.args.header.now.domain c.args.before.now c.sets.changed) c.sets.rest.now
          c.sets.invariant.2 c.in_ok-id.id c.in_ok-id.content.now c.in_ok-id.after.now
          c.in_ok-id.ensures.exact c.in_ok-id.ensures.len given.0
          (current c.args.header.now.domain c.args.before.now c.content_of.new.changed) given.1
          (sym w.if-is_unread.true ∙ c.in_ok-is_unread.ensures.unread) _ _ refl refl)
      | else-is_unread w ↦ rw w.unread-is (passes c.args.end c.args.header.now.domain (length c.args.octets.now)
          _ c.sets.unread
          (current c.args.header.now.domain c.args.before.now c.sets.changed) c.sets.rest.now
          c.sets.invariant.2 c.in_ok-id.id c.in_ok-id.content.now c.in_ok-id.after.now
          c.in_ok-id.ensures.exact c.in_ok-id.ensures.len given.0
          (current c.args.header.now.domain c.args.before.now c.content_of.new.changed) given.1
          (sym w.if-is_unread.false ∙ c.in_ok-is_unread.ensures.unread))
    ] in (
      c.in_ok-is_unread.ensures.changes,
      goes_on g.S.RecordSink.holds g.S.RecordSink.refuses c.args.header.now c.args.sink.now c.args.end
          c.args.header.now.domain c.args.octets.now _ c.sets.sink
          (current c.args.header.now.domain c.args.before.now c.sets.changed) c.sets.rest.now
          c.sets.invariant.1 some c.in_ok-id.id c.in_ok-id.content.now c.in_ok-id.after.now
          c.in_ok-id.ensures.exact
          c.in_ok-id.ensures.len c.content_of.new.sink
          (current c.args.header.now.domain c.args.before.now c.content_of.new.changed)
          given,
      met,
      so_many c.args.end c.args.header.now.domain (length c.args.octets.now) _ c.sets.replaced
          (current c.args.header.now.domain c.args.before.now c.sets.changed) c.sets.rest.now
          c.sets.invariant.3 c.in_ok-id.id c.in_ok-id.content.now c.in_ok-id.after.now
          c.in_ok-id.ensures.exact c.in_ok-id.ensures.len given.0
          (current c.args.header.now.domain c.args.before.now c.content_of.new.changed) given.1
          c.in_ok-is_unread.more c.in_ok-is_unread.ensures.replaced c.in_ok-is_unread.ensures.few,
      c.content_of.ensures.kept ∙ c.sets.invariant.4,
    )

pub returns-clause-exact : goal.returns-clause-exact
returns-clause-exact g c =
    is_done g.S.RecordSink.holds g.S.RecordSink.refuses c.args.header.now c.args.sink.now c.args.end
    c.args.header.now.domain c.args.octets.now _ c.sets.sink
    (current c.args.header.now.domain c.args.before.now c.sets.changed) c.sets.rest.now
    c.sets.invariant.1 (none_left c.sets.rest.now c.is_empty.result c.is_empty.ensures c.sets-test.false)

pub returns-clause-unread : goal.returns-clause-unread
returns-clause-unread g c =
    is_all c.args.end c.args.header.now.domain (length c.args.octets.now) _ c.sets.unread
    (current c.args.header.now.domain c.args.before.now c.sets.changed) c.sets.rest.now
    c.sets.invariant.2 (none_left c.sets.rest.now c.is_empty.result c.is_empty.ensures c.sets-test.false)

pub returns-clause-replaced : goal.returns-clause-replaced
returns-clause-replaced g c =
    all_met c.args.end c.args.header.now.domain (length c.args.octets.now) _ c.sets.replaced
    (current c.args.header.now.domain c.args.before.now c.sets.changed) c.sets.rest.now
    c.sets.invariant.3 (none_left c.sets.rest.now c.is_empty.result c.is_empty.ensures c.sets-test.false)
