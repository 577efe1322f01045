use Rattle.std.proofs.Common.{sym, ap, ◌∙◌, length}
use Rattle.flow_feed.proofs.Cuts.{cut_long}
use Rattle.flow_feed.proofs.held.HeldMessages.len.Goals as goal

pub returns : goal.returns
returns c =
    let held = c.self.inside in
    c.len.ensures ∙ held.ends.ok.0 ∙ sym (cut_long 0 held.octets.items held.ends.items) ∙ ap length c.self.view_is
