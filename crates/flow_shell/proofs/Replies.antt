-- What lines are answered.
use Rattle.std.proofs.Common.{◌≡◌, ℕ, List, Bool, Option, Some, sym, subst}
use Rattle.std.specs.Prelude.{IsTrue, Result, Ok, Err, OnOk}
use Rattle.flow_measure.specs.History.{History}
use Rattle.flow_model.specs.Changes.{Change}
use Rattle.flow_model.specs.Shelf.{Shelf}
use Rattle.flow_shared.specs.Meaning.{HasView}
use Rattle.flow_commands.specs.declared.archive_refusal.ArchiveRefusal.{ArchiveRefusal}
use Rattle.flow_feed.specs.declared.batch.Fed.{Fed}
use Rattle.flow_shell.specs.declared.asked.Query.{Query}
use Rattle.flow_shell.specs.declared.losses.FeedCounts.{FeedCounts}
use Rattle.flow_shell.specs.declared.asked.ShellRequest.{ShellRequest}
use Rattle.flow_shell.specs.declared.asked.ShellRequest.TheVariants.{Ask}
use Rattle.flow_shell.specs.Answers.{query_lines}
use Rattle.flow_shell.specs.Replies.{IsAnswered, IsReply}
use Rattle.flow_shell.specs.Written.{IsAnswer}

-- a request that is a query
pub query_replied : (said : ℕ → Fed → Type 0) (had : FeedCounts → Type 0) (honest : Bool) (opening : Shelf) (width : ℕ) (steps : List Change)
    (query : Query) (request : Option ShellRequest) (old new : Option (List ℕ)) (r : Result (Unit {0}) ArchiveRefusal)
    → request ≡ Some (Ask query)
    → (IsTrue honest → (h : History) → HasView opening h
    → OnOk r (IsAnswer (query_lines query width opening h steps) old new))
    → OnOk r (IsReply said had (IsAnswered honest opening width steps) request old new)
query_replied said had honest opening width steps query request old new (Err e) is answered = tt
query_replied said had honest opening width steps query request old new (Ok done) is answered =
    subst (λ (q : Option ShellRequest). IsReply said had (IsAnswered honest opening width steps) q old new) (sym is)
    (λ true_one h has. answered true_one h has)
