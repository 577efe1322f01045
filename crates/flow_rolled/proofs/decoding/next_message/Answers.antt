use Rattle.std.proofs.Common.{◌≡◌, Bool, true, false, subst, sym, ◌∙◌}
use Rattle.flow_rolled.specs.Messages.{Follows}
use Rattle.flow_rolled.specs.Reading.{data_of}
use Rattle.flow_rolled.proofs.SameParts.{same_part}
use Rattle.flow_rolled.proofs.Breaking.{stands_part}
use Rattle.flow_rolled.proofs.decoding.next_message.Goals as goal

clash : (x : Bool) → x ≡ true → x ≡ false → ⊥
clash x e f = cc

pub returns-in_default-clause-stuck : goal.returns-in_default-clause-stuck
returns-in_default-clause-stuck c = λ b stands p more follows e.
    let none = rw c.in_default.is at c.in_ok-message.ensures.none in
    none p more (stands_part c.args.width c.args.before b p stands follows) e

pub returns-then-not-follows-clause-stuck : goal.returns-then-not-follows-clause-stuck
returns-then-not-follows-clause-stuck c = λ b stands p more follows e.
    let w = c.args.width in
    let m = data_of c.in-Some.message in
    let found = rw c.in-Some.is at c.in_ok-message.ensures.found in
    let part = rw c.in-Some.is at c.in_ok-message.ensures.part in
    let same = (same_part w m p c.in-Some.rest.now more c.ranges.width.fits part
    (stands_part w c.args.before b p stands follows) (sym found ∙ e)).0 in
    let now : c.follows.result ≡ true = c.follows.ensures.all b w stands (subst (Follows w b) (sym same) follows) in
    clash c.follows.result now c.if-not-follows.true
