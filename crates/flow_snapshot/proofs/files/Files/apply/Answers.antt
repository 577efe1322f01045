use Rattle.std.proofs.Common.{ap, sym, subst, ◌∙◌, IsTrue}
use Rattle.std.specs.List.{list_all}
use Rattle.flow_model.specs.Changes.{applied}
use Rattle.flow_snapshot.specs.Directories.{sight_of}
use Rattle.flow_snapshot.specs.Files.{is_honest, is_honest_sum, rollup_of, segment_of, shared}
use Rattle.flow_snapshot.specs.Steps.{change_of, has_honest}
use Rattle.flow_snapshot.proofs.Sharing.{shared_rest, shared_then, still_honest_merged, still_honest_rolled}
use Rattle.flow_snapshot.proofs.files.Files.apply.Goals as goal

pub returns-in_ok-push-in-Installed-clause-applied : goal.returns-in_ok-push-in-Installed-clause-applied
returns-in_ok-push-in-Installed-clause-applied g c = λ width wide.
    let before = (sight_of width wide c.args.self.now).shelf in
    let more = shared_then rollup_of _ _ c.in_ok-try_clone-in-Installed.field-0 c.in-Installed.part c.in_ok-push-in-Installed.ensures.items
    c.in_ok-try_clone-in-Installed.ensures in
    let rest = shared_rest (segment_of {files = g.S.SealedFile}) c.in-Installed.count _ _ c.drop_front.ensures in
    (λ i. record before { rolled = more i; sealed = rest i })
    ∙ ap (λ step. applied before (change_of step)) (sym c.in-Installed.is)

pub returns-in_ok-push-in-Merged-clause-applied : goal.returns-in_ok-push-in-Merged-clause-applied
returns-in_ok-push-in-Merged-clause-applied g c = λ width wide.
    let before = (sight_of width wide c.args.self.now).shelf in
    let more = shared_then rollup_of _ _ c.in_ok-try_clone-in-Merged.field-0 c.in-Merged.part c.in_ok-push-in-Merged.ensures.items
    c.in_ok-try_clone-in-Merged.ensures in
    let rest = shared_rest rollup_of c.in-Merged.count _ _ c.drop_front-in-Merged.ensures in
    (λ i. record before { merged = more i; rolled = rest i })
    ∙ ap (λ step. applied before (change_of step)) (sym c.in-Merged.is)

pub returns-in_ok-push-in-Installed-clause-honest : goal.returns-in_ok-push-in-Installed-clause-honest
returns-in_ok-push-in-Installed-clause-honest g c = λ width wide h here.
    still_honest_rolled is_honest_sum (is_honest {files = g.S.SealedFile})
    (list_all is_honest_sum (shared c.args.self.now.merged.items)) c.args.self.now.rolled.items _
    c.args.self.now.sealed.items _ c.in_ok-try_clone-in-Installed.field-0 c.in-Installed.part c.in-Installed.count
    c.in_ok-push-in-Installed.ensures.items c.in_ok-try_clone-in-Installed.ensures c.drop_front.ensures h
    (subst (λ step. IsTrue (has_honest step)) c.in-Installed.is here)

pub returns-in_ok-push-in-Merged-clause-honest : goal.returns-in_ok-push-in-Merged-clause-honest
returns-in_ok-push-in-Merged-clause-honest g c = λ width wide h here.
    still_honest_merged is_honest_sum
    (list_all (is_honest {files = g.S.SealedFile}) (shared c.args.self.now.sealed.items)) c.args.self.now.merged.items _
    c.args.self.now.rolled.items _ c.in_ok-try_clone-in-Merged.field-0 c.in-Merged.part c.in-Merged.count
    c.in_ok-push-in-Merged.ensures.items c.in_ok-try_clone-in-Merged.ensures c.drop_front-in-Merged.ensures h
    (subst (λ step. IsTrue (has_honest step)) c.in-Merged.is here)
