use Rattle.std.proofs.Common.{◌≡◌, map, refl, subst, sym, MutBor, Option, Some, None}
use Rattle.flow_commands.specs.Feeding.{octets_given, AreFed}
use Rattle.flow_commands.proofs.RollEnds.{end_added}
use Rattle.flow_commands.proofs.side_by_side.feed_beside.Goals as goal

pub returns-clause-rolled : goal.returns-clause-rolled
returns-clause-rolled g c =
    end_added g.D.Disk g.J.Naming.opening g.K.Keeping.asked _ _ _ _ c.add.ensures.none c.add.ensures.risen
    c.add.ensures.later c.join-unread.ensures.first

pub returns-clause-fed : goal.returns-clause-fed
returns-clause-fed g c = by c.args.input refl
  where
    Fed : Option (MutBor g.row.R.Denot) → Type 0
    Fed input = AreFed g.D.Disk g.H.File.Read.remaining g.J.Naming.opening c.args.plan
        (octets_given g.R.Read.remaining input) (map g.S.AsStr.text c.args.paths.now) c.join-unread.result.1.items

    by : (input : Option (MutBor g.row.R.Denot)) → c.args.input ≡ input → Fed c.args.input
    by None is = subst Fed (sym is) (rw is at c.join-unread.ensures.second.1)
    by (Some x) is = subst Fed (sym is) (rw is at c.join-unread.ensures.second.1)
