use Rattle.std.proofs.Common.{inl, inr, List, length, refl, subst}
use Rattle.std.proofs.KnownBytes.{Keeps-refl}
use Rattle.flow_feed.specs.declared.batch.Fed.{Fed}
use Rattle.flow_commands.specs.Feeding.{TellsFiles}
use Rattle.flow_commands.proofs.Lines.{start_refused}
use Rattle.flow_commands.proofs.feeding.feed_files.Goals as goal

pub returns-in-Err-clause-fed : goal.returns-in-Err-clause-fed
returns-in-Err-clause-fed g c =
    start_refused (g.W.Write.contents c.args.output.now) c.args.feds.items (length c.args.paths.now) c.requires.room

pub returns-in-Err-clause-asked : goal.returns-in-Err-clause-asked
returns-in-Err-clause-asked g c = inr (refl, Keeps-refl (g.W.Write.contents c.args.output.now))

pub returns-clause-asked : goal.returns-clause-asked
returns-clause-asked g c =
    let feeding = c.feed_beside-feds in
    let old = g.W.Write.contents c.args.output.now in
    let new = g.W.Write.contents c.tell_files.new.output in
    inl (
      feeding.result.0.items,
      feeding.result.1,
      record {
        fed = feeding.ensures.fed;
        rounds = feeding.ensures.rolled.rounds;
        rolled = feeding.ensures.rolled.rolled;
      },
      subst (λ (feds : List Fed). TellsFiles feds feeding.result.1 old new c.tell_files.result)
          c.as_slice-2.ensures.value c.tell_files.ensures.told,
    )
