use Rattle.std.proofs.Common.{◌≡◌, ◌∙◌, ℕ, List, Some, None, ap, sym}
use Rattle.std.specs.Borrow.{Bor}
use Rattle.std.specs.Prelude.{map}
use Rattle.flow_program.proofs.FeedGiven.{feeds, given, not_given}
use Rattle.flow_program.proofs.archives.feed_files.Goals as goal

pub returns-then-has_input-clause-asked : goal.returns-then-has_input-clause-asked
returns-then-has_input-clause-asked g c =
    let input = g.R.Read.remaining c.args.input.now in
    let files_are : map (λ (path : Bor (List ℕ)). path.now) c.as_slice-paths.result.now ≡ c.args.files.now =
    ap (λ (paths : List (Bor (List ℕ))). map (λ (path : Bor (List ℕ)). path.now) paths) c.as_slice-paths.ensures.value
    ∙ c.files.view_is in
    feeds c.args.plan input (Some input) _ c.args.files.now (g.W.Write.contents c.args.output.now)
    (g.W.Write.contents c.feed_in.new.output) c.feed_in.result
    (given c.args.files.now input (sym c.has_input.ensures ∙ c.if-has_input.true)) files_are c.feed_in.ensures.asked

pub returns-clause-asked : goal.returns-clause-asked
returns-clause-asked g c =
    let input = g.R.Read.remaining c.args.input.now in
    let files_are : map (λ (path : Bor (List ℕ)). path.now) c.as_slice-paths.result.now ≡ c.args.files.now =
    ap (λ (paths : List (Bor (List ℕ))). map (λ (path : Bor (List ℕ)). path.now) paths) c.as_slice-paths.ensures.value
    ∙ c.files.view_is in
    feeds c.args.plan input None _ c.args.files.now (g.W.Write.contents c.args.output.now)
    (g.W.Write.contents c.feed_in-2.new.output) c.feed_in-2.result
    (not_given c.args.files.now input (sym c.has_input.ensures ∙ c.if-has_input.false)) files_are
    c.feed_in-2.ensures.asked
