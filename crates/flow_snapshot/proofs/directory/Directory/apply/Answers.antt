use Rattle.std.proofs.Common.{◌∙◌, IsTrue, sym, subst}
use Rattle.flow_snapshot.specs.ShelfSeen.{ShelfSeen}
use Rattle.flow_snapshot.proofs.Sharing.{on_err, on_ok}
use Rattle.flow_snapshot.proofs.directory.Directory.apply.Goals as goal

pub returns-clause-honest : goal.returns-clause-honest
returns-clause-honest g c = on_ok c.apply.result _ _ (λ h was here. h c.self.inside.width c.self.inside.wide
    (subst (λ (x : ShelfSeen). IsTrue x.honest) (sym c.self.view_is) was) here) c.apply.ensures.honest

pub returns-clause-kept : goal.returns-clause-kept
returns-clause-kept g c = on_err c.apply.result _ _ (λ h. h c.self.inside.width c.self.inside.wide ∙ c.self.view_is)
    c.apply.ensures.kept
