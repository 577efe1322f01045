use Rattle.std.proofs.Common.{ap, ◌∙◌}
use Rattle.std.proofs.lemmas.Result.{err_from_is_err_and}
use Rattle.flow_codec.specs.Working.{current}
use Rattle.flow_codec.specs.Unread.{counted}
use Rattle.flow_codec.proofs.UnreadLoop.{of_message}
use Rattle.flow_codec.proofs.ReplacedLoop.{of_message as replaced_of_message}
use Rattle.flow_codec.proofs.Walking.{header_fails, sets_stop, limits_fail, message_is}
use Rattle.flow_codec.proofs.walk.divided.Goals as goal

pub returns-in_err-header-clause-exact : goal.returns-in_err-header-clause-exact
returns-in_err-header-clause-exact g c =
    let p = err_from_is_err_and c.from_residual.result c.from_residual.ensures.1 in
    rw (p.1, p.2) (header_fails c.args.templates.now c.args.octets.now c.in_err-header.field-0.0
    c.in_err-header.ensures.exact)

pub returns-in_err-unread-clause-exact : goal.returns-in_err-unread-clause-exact
returns-in_err-unread-clause-exact g c =
    let p = err_from_is_err_and c.from_residual-in_err-unread.result c.from_residual-in_err-unread.ensures.1 in
    rw (p.1, p.2) (sets_stop c.args.templates.now c.args.octets.now c.in_ok-header.header c.in_ok-header.rest.now
    c.in_ok-header.ensures.exact g.S.RecordSink.holds g.S.RecordSink.refuses c.args.sink.now c.sets_of.new.sink
    c.in_ok-header.ensures.len c.in_err-unread.field-0.0 (rw c.requires at c.in_err-unread.ensures.exact))

pub returns-in_err-keep_limits-clause-exact : goal.returns-in_err-keep_limits-clause-exact
returns-in_err-keep_limits-clause-exact g c =
    let p = err_from_is_err_and c.from_residual-in_err-keep_limits.result c.from_residual-in_err-keep_limits.ensures.1
    in
    let s = rw c.requires at c.in_ok-unread.ensures.exact in
    rw (p.1, p.2) (limits_fail c.args.templates.now c.args.octets.now c.in_ok-header.header c.in_ok-header.rest.now
    c.in_ok-header.ensures.exact s.0
    (current c.in_ok-header.header.domain c.args.templates.now c.sets_of.new.changed) s.1
    c.in_err-keep_limits.field-0.0 (c.in_err-keep_limits.ensures s.0))

pub returns-clause-exact : goal.returns-clause-exact
returns-clause-exact g c =
    let s = rw c.requires at c.in_ok-unread.ensures.exact in (
      s.0,
      message_is c.args.templates.now c.args.octets.now c.in_ok-header.header c.in_ok-header.rest.now
          c.in_ok-header.ensures.exact s.0
          (current c.in_ok-header.header.domain c.args.templates.now c.sets_of.new.changed) s.1
          (c.in_ok-keep_limits.ensures s.0),
      s.2.0,
    )

pub returns-clause-unread : goal.returns-clause-unread
returns-clause-unread g c =
    rw c.requires at c.in_ok-unread.ensures.unread ∙ ap counted (of_message c.args.templates.now c.args.octets.now
    c.in_ok-header.header c.in_ok-header.rest.now c.in_ok-header.ensures.exact)

pub returns-clause-replaced : goal.returns-clause-replaced
returns-clause-replaced g c =
    rw c.requires at c.in_ok-unread.ensures.replaced ∙ replaced_of_message c.args.templates.now c.args.octets.now
    c.in_ok-header.header c.in_ok-header.rest.now c.in_ok-header.ensures.exact
