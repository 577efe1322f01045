use Rattle.std.proofs.Common.{◌≡◌, ◌∙◌, ◌+◌, ◌++◌, ◌∷◌, [], List, Option, ℕ, ap, sym, subst, get_or, take, drop}
use Rattle.std.proofs.lemmas.List.{take_more, take-append-drop}
use Rattle.flow_feed.specs.declared.batch.Fed.{Fed}
use Rattle.flow_feed.specs.declared.batch.FeedStop.{FeedStop}
use Rattle.flow_commands.proofs.Lines.{line_refused, one_more, no_fed, IsUnderWay}
use Rattle.flow_commands.proofs.feeding.tell_files.Goals as goal

pub returns-in_err-tell_file-clause-told : goal.returns-in_err-tell_file-clause-told
returns-in_err-tell_file-clause-told g c =
    let known = g.W.Write.contents in
    let at = c.loop-fed in
    let feds = c.args.feds.now in
    let fed = get_or feds at.fed-index no_fed in
    let taken : take (at.fed-index + 1) feds ≡ take at.fed-index feds ++ fed ∷ [] =
    take_more feds at.fed-index no_fed c.loop-fed-test.true in
    line_refused (known c.args.output.now) (known at.output) (known c.tell_file.new.output)
    (take at.fed-index feds) at.count at.first at.invariant.0 fed (c.in_err-tell_file.field-0).0
    (drop (at.fed-index + 1) feds) feds c.args.refused c.from_residual.result c.from_residual.ensures.1
    (sym (take-append-drop (at.fed-index + 1) feds)
    ∙ ap (λ (l : List Fed). l ++ drop (at.fed-index + 1) feds) taken)
    c.in_err-tell_file.ensures

pub loop-fed-preserved : goal.loop-fed-preserved
loop-fed-preserved g c =
    let known = g.W.Write.contents in
    let at = c.loop-fed in
    let feds = c.args.feds.now in
    let fed = get_or feds at.fed-index no_fed in
    let taken : take (at.fed-index + 1) feds ≡ take at.fed-index feds ++ fed ∷ [] =
    take_more feds at.fed-index no_fed c.loop-fed-test.true in
    let more = one_more (known c.args.output.now) (known at.output) (known c.tell_file.new.output)
    (take at.fed-index feds) at.count at.first at.invariant.0 fed c.in_ok-tell_file.ensures in
    let before = known c.args.output.now in
    let after = known c.tell_file.new.output in (
      subst (λ (l : List Fed). IsUnderWay before after l (at.count + 1) c.or-first.result) (sym taken)
          (subst (λ (first : Option FeedStop). IsUnderWay before after (take at.fed-index feds ++ fed ∷ []) (at.count + 1) first)
          (sym c.or-first.ensures) more),
      ap (λ (n : ℕ). n + 1) at.invariant.1,
    )
