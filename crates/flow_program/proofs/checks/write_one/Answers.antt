use Rattle.std.proofs.Common.{inl, refl, subst, sym}
use Rattle.std.proofs.KnownBytes.{Keeps-refl}
use Rattle.std.specs.Io.KnownBytes.{Appends}
use Rattle.std.specs.Prelude.{Ok}
use Rattle.flow_program.specs.Checks.{Outcome}
use Rattle.flow_program.specs.SideBySide.{IsReportedAs}
use Rattle.flow_program.proofs.checks.write_one.Goals as goal

pub returns-in-Ok-write_patiently-clause-done : goal.returns-in-Ok-write_patiently-clause-done
returns-in-Ok-write_patiently-clause-done g c =
    let old = g.W.Write.contents c.args.output.now in
    let new = g.W.Write.contents c.write_patiently.new.output in
    let found = c.in-Ok.ensures.lines in (
      Ok found.0,
      subst (λ (o : Outcome). IsReportedAs o (Ok found.0)) (sym found.1) (inl refl),
      refl,
      subst (Appends old new) found.2 (rw c.as_slice.ensures.value at c.in-Ok-write_patiently.ensures.all),
      Keeps-refl (g.E.Write.contents c.args.errors.now),
    )
