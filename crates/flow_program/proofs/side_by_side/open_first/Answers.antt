use Rattle.std.proofs.Common.{ap, arith, length, refl, subst, sym, take, ◌+◌}
use Rattle.std.specs.List.{All, AllZip}
use Rattle.std.proofs.lemmas.List.{length_push}
use Rattle.std.proofs.lemmas.List.Elements.{All-push}
use Rattle.std.proofs.lemmas.Result.{MatchResult-from_both}
use Rattle.flow_several.proofs.Opened.{opened_more, paths_of}
use Rattle.flow_program.specs.SideBySide.{IsOpened, MayBeChecked}
use Rattle.flow_program.proofs.Ahead.{opened_first}
use Rattle.flow_program.proofs.side_by_side.open_first.Goals as goal

pub loop-folder-preserved : goal.loop-folder-preserved
loop-folder-preserved g c =
    let is = IsOpened g.O.Opener.opens g.O.Opener.refuses in
    let at = c.loop-folder in
    let words = take c.min.result c.args.folders.now in
    let longer = c.in-Ok.ensures.items in
    record {
      count = omega (arith, at.invariant.count, ap length longer, length_push at.opened.items c.open.result);
      opened = subst (AllZip is (take (at.folder-index + 1) (paths_of words))) (sym longer)
          (opened_more is words at.folder-index c.loop-folder-test.true (at.folder-index + 1) at.opened.items
          c.open.result refl at.invariant.opened
          (MatchResult-from_both c.open.result _ _ c.open.ensures.opened c.open.ensures.refused));
      thawed = subst (All (MayBeChecked g.D.Disk)) (sym longer)
          (All-push (MayBeChecked g.D.Disk) at.opened.items c.open.result at.invariant.thawed c.open.ensures.thawed);
    }

pub returns-after-loop-folder-clause-opened : goal.returns-after-loop-folder-clause-opened
returns-after-loop-folder-clause-opened g c =
    let at = c.loop-folder in
    opened_first (IsOpened g.O.Opener.opens g.O.Opener.refuses) c.args.folders.now
    (take c.min.result c.args.folders.now) c.min.result at.folder-index at.opened.items refl
    (omega (arith, c.loop-folder-test.false, at.auto.folder-index-end)) at.invariant.count at.invariant.opened

pub returns-in_default-clause-opened : goal.returns-in_default-clause-opened
returns-in_default-clause-opened g c =
    let is = IsOpened g.O.Opener.opens g.O.Opener.refuses in
    let at = c.loop-folder in
    subst (λ opened. AllZip is (take (length opened) (paths_of c.args.folders.now)) opened)
    (sym c.in_default.ensures.items)
    (opened_first is c.args.folders.now (take c.min.result c.args.folders.now) c.min.result at.folder-index
    at.opened.items refl (omega (arith, c.loop-folder-test.true)) at.invariant.count at.invariant.opened)
