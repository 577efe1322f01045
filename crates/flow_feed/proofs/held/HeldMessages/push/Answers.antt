use Rattle.std.proofs.Common.{ap, ◌∙◌, ◌++◌, ◌∷◌, [], List, ℕ}
use Rattle.flow_feed.proofs.Cuts.{pushed_cut, pushed_ends}
use Rattle.flow_feed.proofs.held.HeldMessages.push.Goals as goal

pub invariant_of-self-2 : goal.invariant_of-self-2
invariant_of-self-2 c =
    let octets = c.self.inside.octets.items in
    let ends = c.self.inside.ends.items in
    let message = c.args.message.now in
    pushed_ends octets ends message c.extend_from_slice.new.self.items c.push_reserved.new.self.items c.len.result
    c.self.invariant
    (c.in_ok-extend_from_slice.ensures.items ∙ ap (λ (l : List ℕ). l ++ message) c.make_room.ensures.octets)
    (c.push_reserved.ensures.items ∙ ap (λ (l : List ℕ). l ++ c.len.result ∷ []) c.make_room.ensures.ends)
    (c.len.ensures ∙ c.extend_from_slice.new.self.ok.0)

pub returns-clause-held : goal.returns-clause-held
returns-clause-held c =
    let octets = c.self.inside.octets.items in
    let ends = c.self.inside.ends.items in
    let message = c.args.message.now in
    pushed_cut octets ends message c.extend_from_slice.new.self.items c.push_reserved.new.self.items c.len.result
    c.self.invariant
    (c.in_ok-extend_from_slice.ensures.items ∙ ap (λ (l : List ℕ). l ++ message) c.make_room.ensures.octets)
    (c.push_reserved.ensures.items ∙ ap (λ (l : List ℕ). l ++ c.len.result ∷ []) c.make_room.ensures.ends)
    (c.len.ensures ∙ c.extend_from_slice.new.self.ok.0)
    ∙ ap (λ (l : List (List ℕ)). l ++ message ∷ []) c.self.view_is
