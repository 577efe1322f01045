use Rattle.std.proofs.Common.{◌≡◌, ℕ, Bool, sym, ap, ◌∙◌}
use Rattle.std.specs.Prelude.{◌||◌}
use Rattle.std.proofs.lemmas.Result.{on_ok_weaker}
use Rattle.flow_codec.specs.declared.kind.TemplateKind.{TemplateKind}
use Rattle.flow_codec.specs.declared.templates.DomainTemplates.{DomainTemplates}
use Rattle.flow_codec.specs.declared.templates.TemplateRecord.{TemplateRecord}
use Rattle.flow_codec.specs.Templates.{AllTemplates, applied, changed, definitions_of, is_empty, IsOnce}
use Rattle.flow_codec.specs.Working.{changed_in, put_back}
use Rattle.flow_codec.proofs.PuttingBack.{applied_put_back}
use Rattle.flow_codec.proofs.working.step_in.Goals as goal

-- a step of the domain's definitions on their own is one in their place among all
step_put_back : (d : ℕ) (all : AllTemplates) (kind : TemplateKind) (change : TemplateRecord)
    (here new : DomainTemplates) (left after : Bool) → IsOnce all → new ≡ changed kind change here
    → after ≡ (left || is_empty here)
    → put_back d after new all ≡ applied d kind change (put_back d left here all)
step_put_back d all kind change here new left after once made is =
    ap (λ (l : Bool). put_back d l new all) is
    ∙ ap (λ (g : DomainTemplates). put_back d (left || is_empty here) g all) made
    ∙ sym (applied_put_back d all once kind change left here)

pub returns-in-Some-clause-applied : goal.returns-in-Some-clause-applied
returns-in-Some-clause-applied c =
    let d = c.args.domain in
    let before = c.args.before.now in
    let now = c.in-Some.now in
    on_ok_weaker c.step.result (λ made. rw c.in-Some.is
    (step_put_back d before c.args.kind c.args.change (changed_in (definitions_of d before) now)
    (changed_in (definitions_of d before) c.step.new.self) now.left c.step.new.self.left
    c.are_in_force.ensures.once (rw c.requires.here at made) (rw c.requires.here at c.step.ensures.left)))
    c.step.ensures.changed
