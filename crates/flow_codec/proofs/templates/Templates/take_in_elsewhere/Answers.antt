use Rattle.std.proofs.Common.{◌≡◌, sym, ap, subst, ◌∙◌}
use Rattle.flow_codec.specs.declared.templates.DomainTemplates.{DomainTemplates}
use Rattle.flow_codec.specs.Templates.{AreTemplatesInForce, definitions_of}
use Rattle.flow_codec.specs.Working.{changed_in, put_back}
use Rattle.flow_codec.proofs.Limits.{put-size}
use Rattle.flow_codec.proofs.PuttingBack.{changed_back, same_back}
use Rattle.flow_codec.proofs.templates.Templates.take_in_elsewhere.Goals as goal

pub make-requires-clause-size : goal.make-requires-clause-size
make-requires-clause-size c =
    let d = c.args.domain in
    let all = c.args.self.now in
    let force : AreTemplatesInForce all = subst AreTemplatesInForce c.self.view_is c.self.invariant.0 in
    let is = c.taken_out-here.ensures.here ∙ ap (definitions_of d) (c.reserve.ensures.entries ∙ c.self.view_is) in
    rw is (put-size d all force.once c.args.changed.now.left
    (changed_in (definitions_of d all) c.args.changed.now) c.requires.in_force)

pub returns-in-Ok-clause-ok : goal.returns-in-Ok-clause-ok
returns-in-Ok-clause-ok c =
    let d = c.args.domain in
    let all = c.args.self.now in
    let force : AreTemplatesInForce all = subst AreTemplatesInForce c.self.view_is c.self.invariant.0 in
    let same : c.reserve.new.self.entries ≡ all = c.reserve.ensures.entries ∙ c.self.view_is in
    let is : c.taken_out-here.result ≡ definitions_of d all = c.taken_out-here.ensures.here
    ∙ ap (definitions_of d) same in
    changed_back d all force c.taken_out-here.new.domains.entries c.put_back.new.domains.entries
    (rw same at c.taken_out-here.ensures.place) c.args.changed.now.left
    (changed_in (definitions_of d all) c.args.changed.now)
    (λ once. c.put_back.ensures once
    ∙ ap (λ (g : DomainTemplates). put_back d c.args.changed.now.left g c.taken_out-here.new.domains.entries)
    (c.in-Ok.ensures.ok ∙ ap (λ (g : DomainTemplates). changed_in g c.args.changed.now) is))

pub returns-in-Err-clause-err : goal.returns-in-Err-clause-err
returns-in-Err-clause-err c =
    let d = c.args.domain in
    let all = c.args.self.now in
    let force : AreTemplatesInForce all = subst AreTemplatesInForce c.self.view_is c.self.invariant.0 in
    let same : c.reserve.new.self.entries ≡ all = c.reserve.ensures.entries ∙ c.self.view_is in
    let is : c.make.new.self ≡ definitions_of d all = c.in-Err.ensures.err ∙ c.taken_out-here.ensures.here
    ∙ ap (definitions_of d) same in
    same_back d all force c.taken_out-here.new.domains.entries c.put_back-in-Err.new.domains.entries
    (rw same at c.taken_out-here.ensures.place) c.make.new.self is c.put_back-in-Err.ensures

pub invariant_of-self-in-Ok : goal.invariant_of-self-in-Ok
invariant_of-self-in-Ok c =
    let d = c.args.domain in
    let all = c.args.self.now in
    let force : AreTemplatesInForce all = subst AreTemplatesInForce c.self.view_is c.self.invariant.0 in
    let same : c.reserve.new.self.entries ≡ all = c.reserve.ensures.entries ∙ c.self.view_is in
    let is : c.taken_out-here.result ≡ definitions_of d all = c.taken_out-here.ensures.here
    ∙ ap (definitions_of d) same in
    let back = changed_back d all force c.taken_out-here.new.domains.entries c.put_back.new.domains.entries
    (rw same at c.taken_out-here.ensures.place) c.args.changed.now.left
    (changed_in (definitions_of d all) c.args.changed.now)
    (λ once. c.put_back.ensures once
    ∙ ap (λ (g : DomainTemplates). put_back d c.args.changed.now.left g c.taken_out-here.new.domains.entries)
    (c.in-Ok.ensures.ok ∙ ap (λ (g : DomainTemplates). changed_in g c.args.changed.now) is)) in
    (subst AreTemplatesInForce (sym back) c.requires.in_force, c.self.invariant.1)

pub invariant_of-self-in-Err : goal.invariant_of-self-in-Err
invariant_of-self-in-Err c =
    let d = c.args.domain in
    let all = c.args.self.now in
    let force : AreTemplatesInForce all = subst AreTemplatesInForce c.self.view_is c.self.invariant.0 in
    let same : c.reserve.new.self.entries ≡ all = c.reserve.ensures.entries ∙ c.self.view_is in
    let is : c.make.new.self ≡ definitions_of d all = c.in-Err.ensures.err ∙ c.taken_out-here.ensures.here
    ∙ ap (definitions_of d) same in
    let back = same_back d all force c.taken_out-here.new.domains.entries c.put_back-in-Err.new.domains.entries
    (rw same at c.taken_out-here.ensures.place) c.make.new.self is c.put_back-in-Err.ensures in
    (subst AreTemplatesInForce (sym back) force, c.self.invariant.1)
