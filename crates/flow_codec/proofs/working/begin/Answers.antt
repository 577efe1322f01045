use Rattle.std.proofs.Common.{◌≡◌, Bool, false, ap, ◌∙◌}
use Rattle.flow_codec.specs.declared.templates.DomainTemplates.{DomainTemplates}
use Rattle.flow_codec.specs.Templates.{definitions_of}
use Rattle.flow_codec.specs.Working.{changed_in, put_back}
use Rattle.flow_codec.proofs.PuttingBack.{unchanged}
use Rattle.flow_codec.proofs.working.begin.Goals as goal

pub returns-in-None-clause-same : goal.returns-in-None-clause-same
returns-in-None-clause-same c =
    let d = c.args.domain in
    let before = c.args.before.now in
    let base = definitions_of d before in
    let now = c.new.result in
    let same : changed_in base now ≡ base = rw c.requires.here at c.new.ensures.same in
    rw c.in-None.is
    (ap (λ (l : Bool). put_back d l (changed_in base now) before) c.new.ensures.left
    ∙ ap (λ (g : DomainTemplates). put_back d false g before) same
    ∙ unchanged d before c.are_in_force.ensures)
