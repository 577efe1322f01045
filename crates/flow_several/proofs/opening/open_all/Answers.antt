use Rattle.std.proofs.Common.{◌≡◌, ◌+◌, ℕ, false, ap, sym, subst, refl, take}
use Rattle.std.specs.List.{All, AllZip}
use Rattle.std.proofs.lemmas.List.Elements.{All-push}
use Rattle.flow_several.specs.Folders.{IsFirstUnopened}
use Rattle.flow_several.proofs.Opened.{first_unopened, opened_more, paths_of}
use Rattle.flow_several.proofs.opening.open_all.Goals as goal

pub returns-in-Err-clause-refused : goal.returns-in-Err-clause-refused
returns-in-Err-clause-refused g c =
    let opens = g.O.Opener.opens in
    let at = c.loop-folder in
    subst (λ (k : ℕ). IsFirstUnopened opens g.O.Opener.refuses (paths_of c.args.folders.now) (k + 1) c.in-Err.error)
    (sym at.invariant.place)
    (first_unopened opens c.args.folders.now at.folder-index c.loop-folder-test.true g.O.Opener.refuses at.disks.items
    c.in-Err.error at.invariant.opened c.in-Err.ensures.refused)

pub loop-folder-preserved : goal.loop-folder-preserved
loop-folder-preserved g c =
    let opens = g.O.Opener.opens in
    let at = c.loop-folder in
    let longer = c.in_ok-push-in-Ok.ensures.items in
    record {
      place = ap (λ (k : ℕ). k + 1) at.invariant.place;
      opened = subst (λ ys. AllZip opens (take (at.folder-index + 1) (paths_of c.args.folders.now)) ys) (sym longer)
          (opened_more opens c.args.folders.now at.folder-index c.loop-folder-test.true (at.folder-index + 1)
          at.disks.items c.in-Ok.disk refl at.invariant.opened c.in-Ok.ensures.opened);
      thawed = subst (All (λ disk. (n : ℕ) → (g.D.Disk.marks disk n).frozen ≡ false)) (sym longer)
          (All-push (λ disk. (n : ℕ) → (g.D.Disk.marks disk n).frozen ≡ false) at.disks.items c.in-Ok.disk
          at.invariant.thawed c.in-Ok.ensures.thawed);
    }
