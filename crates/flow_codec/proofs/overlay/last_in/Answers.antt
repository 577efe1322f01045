use Rattle.std.proofs.Common.{◌≡◌, true, false, refl, arith}
use Rattle.std.specs.Prelude.{nat_eq}
use Rattle.std.proofs.lemmas.Bool.Decides.{nat_tests}
use Rattle.flow_codec.proofs.OverlayLaws.{last_take}
use Rattle.flow_codec.proofs.overlay.last_in.Goals.{then-key-id, else-key-id}
use Rattle.flow_codec.proofs.overlay.last_in.Goals as goal

pub loop-key-preserved : goal.loop-key-preserved
loop-key-preserved c =
    let item = c.loop-key-item.result in
    let more = last_take c.args.id c.args.log.now c.loop-key.key-index item c.loop-key-test.true c.loop-key-item.is in
    elim c.if-key-id.branch [
      | then-key-id w ↦
          let test : nat_eq item.0 c.args.id ≡ true = grind (arith, nat_tests) in
          rw (w.last-is, more, test) refl
      | else-key-id w ↦
          let test : nat_eq item.0 c.args.id ≡ false = grind (arith, nat_tests) in
          rw (w.last-is, more, test) c.loop-key.invariant
    ]
