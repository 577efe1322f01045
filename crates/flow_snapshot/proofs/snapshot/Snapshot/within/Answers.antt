use Rattle.std.proofs.Common.{subst}
use Rattle.flow_snapshot.specs.Directories.{sight_of}
use Rattle.flow_snapshot.specs.ShelfSeen.{ShelfSeen}
use Rattle.flow_snapshot.specs.Spans.{IsSightWithin}
use Rattle.flow_snapshot.proofs.snapshot.Snapshot.within.Goals as goal

pub returns : goal.returns
returns g c =
    let inside = c.self.inside in
    subst (λ (x : ShelfSeen). IsSightWithin c.args.from c.args.to x
    (sight_of inside.width inside.wide c.in_ok-within.field-0)) c.self.view_is c.in_ok-within.ensures
