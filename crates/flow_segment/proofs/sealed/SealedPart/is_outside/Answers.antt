use Rattle.std.proofs.Common.{◌≡◌, sym, ◌∙◌}
use Rattle.flow_segment.specs.Segment.{part_octets}
use Rattle.flow_segment.proofs.Sure.{found_again}
use Rattle.flow_segment.proofs.sealed.SealedPart.is_outside.Goals as goal

pub returns-in-Some-clause-whole : goal.returns-in-Some-clause-whole
returns-in-Some-clause-whole g c out h =
    let S = g.S.SealedFile in
    let p = c.args.self.now in
    let span = c.in-Some.span in (
      span,
      found_again span (part_octets 0 p.prefix (S.octets p.reader)) (part_octets p.prefix p.length (S.octets p.reader))
          p.messages (p.spanned h span c.in-Some.is),
      sym c.is_outside.ensures ∙ out,
    )
