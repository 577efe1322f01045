use Rattle.std.proofs.Common.{◌≡◌, ℕ, IfOk, List, map, ◌∙◌, ap, subst}
use Rattle.flow_snapshot.specs.Directories.{sight_of}
use Rattle.flow_snapshot.proofs.Sharing.{messages_same}
use Rattle.flow_archive.specs.Frozen.{shelf_with, unshared}
use Rattle.flow_archive.proofs.Marking.{if_ok}
use Rattle.flow_archive.proofs.Sharing.{same_honest, same_shelf}
use Rattle.flow_archive.proofs.frozen.shared_files.Goals as goal

pub returns-clause-shelf : goal.returns-clause-shelf
returns-clause-shelf g c =
    let result = c.listed-2.result in
    let prefix = c.args.prefix.now in
    let messages = c.args.messages.now.items in
    let slice = c.as_slice.result.now in
    let copies = c.in_ok-clone-2.field-0.items in
    let files : map unshared slice ≡ map unshared c.args.files.now.items =
    ap (map unshared) c.as_slice.ensures.value ∙ c.in_ok-share_all.ensures in
    let active : copies ≡ messages = messages_same _ _ (c.in_ok-clone-2.ensures.cases).0 in
    let shelf : (width wide : ℕ) → shelf_with width wide slice prefix copies
    ≡ shelf_with width wide c.args.files.now.items prefix messages = λ width wide.
    same_shelf width wide slice c.args.files.now.items prefix copies files
    ∙ ap (shelf_with width wide c.args.files.now.items prefix) active in
    if_ok result _ _ (λ list told width wide. told width wide ∙ shelf width wide)
    (subst (λ (l : List ℕ). IfOk result (λ list. (width wide : ℕ) → (sight_of width wide list).shelf
    ≡ shelf_with width wide slice l copies)) c.in_ok-clone.ensures.cases c.listed-2.ensures.shelf)

pub returns-clause-honest : goal.returns-clause-honest
returns-clause-honest g c all =
    let slice = c.as_slice.result.now in
    let files : map unshared slice ≡ map unshared c.args.files.now.items =
    ap (map unshared) c.as_slice.ensures.value ∙ c.in_ok-share_all.ensures in
    c.listed-2.ensures.honest (same_honest slice c.args.files.now.items files all)
