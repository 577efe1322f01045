use Rattle.std.proofs.Common.{◌≡◌, ◌∙◌, ◌-◌, ℕ, List, ap, drop, length, subst, sym, take}
use Rattle.std.specs.Borrow.{Bor}
use Rattle.std.specs.List.{AllZip}
use Rattle.std.proofs.Math.Seq.{take-length}
use Rattle.std.proofs.lemmas.List.{drop-map, length-drop}
use Rattle.flow_several.proofs.Opened.{paths_of}
use Rattle.flow_several.specs.Folders.{Path}
use Rattle.flow_program.specs.SideBySide.{IsOpened}
use Rattle.flow_program.proofs.Ahead.{opened_ahead}
use Rattle.flow_program.proofs.side_by_side.Checks.open_more.Goals as goal

pub returns-then-place-most-eq0-clause-ahead : goal.returns-then-place-most-eq0-clause-ahead
returns-then-place-most-eq0-clause-ahead g c = λ files ahead.
    let opens = g.O.Opener.opens in
    let refuses = g.O.Opener.refuses in
    let opened = c.open_first.result.items in
    let folders = c.args.folders.now in
    let place = c.args.place in
    let left : paths_of (take (length folders - place) (drop place folders)) ≡ drop place (paths_of folders) =
    ap (λ (k : ℕ). paths_of (take k (drop place folders))) (sym (length-drop place folders))
    ∙ ap (λ (words : List (Bor Path)). paths_of words) (take-length (drop place folders))
    ∙ sym (drop-map (λ (word : Bor Path). word.now) place folders) in
    opened_ahead g.D.Disk opens refuses files c.of.result.answers.items c.of.result.left.items opened
    c.of.ensures.answers c.of.ensures.left (drop place (paths_of folders))
    (subst (λ (paths : List Path). AllZip (IsOpened opens refuses) (take (length opened) paths) opened) left
    c.open_first.ensures.opened)
