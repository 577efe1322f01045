use Rattle.std.proofs.Common.{sym, subst}
use Rattle.indexmap.specs.IndexMap.{set_value_at}
use Rattle.std.proofs.lemmas.Result.{on_ok_weaker, on_err_weaker}
use Rattle.flow_codec.specs.Templates.{AreTemplatesInForce, definitions_of}
use Rattle.flow_codec.specs.Working.{changed_in}
use Rattle.flow_codec.proofs.InPlace.{is_here, set_same, set_changed, made_or_not}
use Rattle.flow_codec.proofs.Limits.{put-size}
use Rattle.flow_codec.proofs.templates.Templates.take_in.Goals as goal

pub make-requires-clause-size : goal.make-requires-clause-size
make-requires-clause-size c =
    let d = c.args.domain in
    let all = c.args.self.now in
    let force : AreTemplatesInForce all = subst AreTemplatesInForce c.self.view_is c.self.invariant.0 in
    rw (is_here d c.self.inside.domains.entries all c.self.view_is c.in-Some.place c.index_mut.result.now
    c.in-Some.ensures.index c.in-Some.ensures.value c.index_mut.ensures.value)
    (put-size d all force.once c.args.changed.now.left (changed_in (definitions_of d all) c.args.changed.now)
    c.requires.in_force)

pub returns-in-Some-clause-ok : goal.returns-in-Some-clause-ok
returns-in-Some-clause-ok c =
    let d = c.args.domain in
    let all = c.args.self.now in
    let here = is_here d c.self.inside.domains.entries all c.self.view_is c.in-Some.place c.index_mut.result.now
    c.in-Some.ensures.index c.in-Some.ensures.value c.index_mut.ensures.value in
    let next = changed_in (definitions_of d all) c.args.changed.now in
    on_ok_weaker c.make.result (λ is.
    set_changed d c.self.inside.domains.entries all c.self.view_is c.in-Some.place c.index_mut.result.now
    c.in-Some.ensures.index c.in-Some.ensures.value c.index_mut.ensures.value c.args.changed.now.left c.make.new.self
    next c.if-changed.false (c.if-is_empty.ensures (definitions_of d all) c.requires.over) (rw here at is))
    c.make.ensures.ok

pub returns-in-Some-clause-err : goal.returns-in-Some-clause-err
returns-in-Some-clause-err c =
    let d = c.args.domain in
    let all = c.args.self.now in
    on_err_weaker c.make.result (λ is.
    set_same d c.self.inside.domains.entries all c.self.view_is c.in-Some.place c.index_mut.result.now
    c.in-Some.ensures.index c.in-Some.ensures.value c.index_mut.ensures.value c.make.new.self is)
    c.make.ensures.err

pub invariant_of-self : goal.invariant_of-self
invariant_of-self c =
    let d = c.args.domain in
    let all = c.args.self.now in
    let es = c.self.inside.domains.entries in
    let here = is_here d es all c.self.view_is c.in-Some.place c.index_mut.result.now
    c.in-Some.ensures.index c.in-Some.ensures.value c.index_mut.ensures.value in
    let force : AreTemplatesInForce all = subst AreTemplatesInForce c.self.view_is c.self.invariant.0 in
    let next = changed_in (definitions_of d all) c.args.changed.now in
    let new = set_value_at es c.in-Some.place c.make.new.self in (
      made_or_not c.make.result (AreTemplatesInForce new)
          (on_ok_weaker c.make.result (λ is. subst AreTemplatesInForce (sym (set_changed d es all c.self.view_is
          c.in-Some.place c.index_mut.result.now
          c.in-Some.ensures.index c.in-Some.ensures.value c.index_mut.ensures.value c.args.changed.now.left c.make.new.self
          next c.if-changed.false (c.if-is_empty.ensures (definitions_of d all) c.requires.over) (rw here at is)))
          c.requires.in_force) c.make.ensures.ok)
          (on_err_weaker c.make.result (λ is. subst AreTemplatesInForce (sym (set_same d es all c.self.view_is
          c.in-Some.place c.index_mut.result.now
          c.in-Some.ensures.index c.in-Some.ensures.value c.index_mut.ensures.value c.make.new.self is)) force)
          c.make.ensures.err),
      c.self.invariant.1,
    )
