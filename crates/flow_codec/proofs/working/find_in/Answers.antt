use Rattle.std.proofs.Common.{refl}
use Rattle.flow_codec.specs.Templates.{definitions_of}
use Rattle.flow_codec.specs.Working.{changed_in}
use Rattle.flow_codec.proofs.PuttingBack.{put_found}
use Rattle.flow_codec.proofs.working.find_in.Goals as goal

pub returns-in-Some : goal.returns-in-Some
returns-in-Some c = rw (
  c.find.ensures,
  c.requires.here,
  c.in-Some.is,
  put_found c.args.domain c.args.before.now c.are_in_force.ensures.once c.in-Some.changed.left
      (changed_in (definitions_of c.args.domain c.args.before.now) c.in-Some.changed),
) refl
