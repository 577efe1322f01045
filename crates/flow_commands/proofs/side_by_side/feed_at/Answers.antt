use Rattle.std.proofs.Common.{rules, ◌≡◌, ◌≢◌, ◌∙◌, Some, ap, codes, refl}
use Rattle.std.specs.List.{slice_get}
use Rattle.std.proofs.lemmas.Option.{slice_get_read}
use Rattle.flow_commands.proofs.side_by_side.feed_at.Goals as goal

pub returns-then-eq : goal.returns-then-eq
returns-then-eq g c = λ path at.
    let one = c.index-paths-i.result in
    let here : slice_get c.args.paths.now c.args.i ≡ Some one =
    slice_get_read c.args.paths.now _ c.args.i one refl c.requires c.index-paths-i.is in
    let same : path ≡ one = cc (at, here) in
    let input : g.S.AsStr.text one ≡ codes "-" = search rules in
    record { input = λ _. refl; file = λ apart. absurd (apart (ap g.S.AsStr.text same ∙ input)) }

pub returns : goal.returns
returns g c = λ path at.
    let one = c.index-paths-i.result in
    let here : slice_get c.args.paths.now c.args.i ≡ Some one =
    slice_get_read c.args.paths.now _ c.args.i one refl c.requires c.index-paths-i.is in
    let same : one ≡ path = cc (at, here) in
    let apart : g.S.AsStr.text one ≢ codes "-" = search rules in
    record { input = λ is. absurd (apart (ap g.S.AsStr.text same ∙ is)); file = λ _. c.feed_path.ensures }
