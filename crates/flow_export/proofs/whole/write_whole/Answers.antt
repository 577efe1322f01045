use Rattle.std.proofs.Common.{inl, inr}
use Rattle.std.proofs.KnownBytes.{Keeps-refl}
use Rattle.flow_export.proofs.Written.{on_err_always}
use Rattle.flow_export.proofs.whole.write_whole.Goals as goal

pub returns-then-not-is_whole-clause-part : goal.returns-then-not-is_whole-clause-part
returns-then-not-is_whole-clause-part g c = inl (Keeps-refl (g.W.Write.contents c.args.output.now))

pub returns-in_err-write_patiently-clause-part : goal.returns-in_err-write_patiently-clause-part
returns-in_err-write_patiently-clause-part g c =
    on_err_always c.from_residual.result _ (inr (c.is_whole.ensures.whole c.if-not-is_whole.false))
