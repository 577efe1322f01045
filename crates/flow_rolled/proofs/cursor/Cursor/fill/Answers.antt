use Rattle.std.proofs.Common.{◌≡◌, ◌∙◌, ap, subst, sym, arith}
use Rattle.std.specs.Prelude.{IsTrue}
use Rattle.flow_disk.specs.Window.{IsOn}
use Rattle.flow_rolled.specs.Stored.{Rollup}
use Rattle.flow_rolled.proofs.Pieces.{on_part}
use Rattle.flow_rolled.proofs.cursor.Cursor.fill.Goals as goal

pub returns-clause-on : goal.returns-clause-on
returns-clause-on g c =
    let part = c.part.inside in
    let old = c.args.self.now.window in
    let new = c.fill.new.self in
    let fill = c.fill.ensures in
    let end : old.end ≡ part.length = c.requires ∙ sym (ap (λ (p : Rollup). p.length) c.part.view_is) in
    subst (λ (p : Rollup). IsTrue p.honest → IsOn p.octets old → IsOn p.octets new) c.part.view_is
    (λ honest. on_part (g.S.SealedFile.octets part.reader) part.length old new (omega (arith, fill.within.0, end))
    (omega (arith, fill.within.1, fill.filled.end, end)) (fill.on honest))
