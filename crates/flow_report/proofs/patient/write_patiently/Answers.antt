use Rattle.std.proofs.Common.{arith, ◌≡◌, ◌≤◌, ◌+◌, ◌-◌, length, take, drop, sym, subst, length-drop, take_all}
use Rattle.std.specs.Io.KnownBytes.{Appends}
use Rattle.std.proofs.KnownBytes.{Appends-trans}
use Rattle.std.proofs.Math.Seq.{take-add}
use Rattle.flow_report.proofs.patient.write_patiently.Goals as goal

pub loop-at-preserved : goal.loop-at-preserved
loop-at-preserved g c =
    let at = c.loop-at.at in
    let n = c.in_ok-taken.taken in
    let bytes = c.args.octets.now in
    let rest : length (drop at bytes) ≡ length bytes - at = length-drop at bytes in
    let whole : take (length bytes - at) (drop at bytes) ≡ drop at bytes = take_all _ _ (omega arith) in
    let some = rw whole at c.in_ok-taken.ensures.written in
    let most : n ≤ length (drop at bytes) = some.0 in
    let fits : at + n ≤ length bytes = omega arith in
    let both = Appends-trans _ _ _ _ _ c.loop-at.invariant.1 some.1 in (
      fits,
      subst (λ bs. Appends (g.W.Write.contents c.args.output.now) (g.W.Write.contents c.write_some.new.output) bs)
          (sym (take-add at n bytes)) both,
    )
