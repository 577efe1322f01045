use Rattle.std.proofs.Common.{ℕ, List, ◌∙◌, sym, ap}
use Rattle.flow_codec.specs.Prefix.{prefix_octets}
use Rattle.flow_segment.specs.Carry.{prefix_of}
use Rattle.flow_segment.proofs.Carrying.{if_ok, same_prefix}
use Rattle.flow_segment.proofs.carry.Carry.prefix.Goals as goal

pub returns-clause-octets : goal.returns-clause-octets
returns-clause-octets c =
    let inside = c.self.inside in
    let all = sym (same_prefix inside.time inside.due.entries inside.templates) ∙ ap prefix_of c.self.view_is in
    if_ok c.write_templates.result _ _
    (λ x e. e ∙ ap (λ (due : List (ℕ × ℕ)). prefix_octets inside.time due inside.templates)
    (c.as_slice.ensures.value ∙ c.in_ok-due.ensures) ∙ all) c.write_templates.ensures
