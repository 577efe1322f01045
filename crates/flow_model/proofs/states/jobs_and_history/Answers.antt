use Rattle.flow_model.proofs.Replacing.{hands_after, holds_replaced}
use Rattle.flow_model.proofs.ReplacedHistory.{history_replaced, sources_hold}
use Rattle.flow_model.proofs.Sourcing.{job_more, job_none}
use Rattle.flow_model.proofs.states.jobs_and_history.Goals as goal

pub returns-clause-hands_on : goal.returns-clause-hands_on
returns-clause-hands_on c = λ s carry kind count file table valid hands few is.
    hands_after s carry valid hands kind count few file table is

pub returns-clause-history : goal.returns-clause-history
returns-clause-history c = λ s carry h image kind count file valid hands stand has few is.
    history_replaced s carry h valid hands image stand has kind count file few is

pub returns-clause-holds : goal.returns-clause-holds
returns-clause-holds c = λ s carry kind count file table image valid hands few is staged holds.
    holds_replaced s carry valid hands kind count few file table image is staged holds

pub returns-clause-sums : goal.returns-clause-sums
returns-clause-sums c = λ s carry h image kind count table valid hands stand has few is.
    sources_hold s carry h valid hands image stand has kind count few table is

pub returns-clause-none : goal.returns-clause-none
returns-clause-none c = λ kind m. job_none kind m

pub returns-clause-more : goal.returns-clause-more
returns-clause-more c = λ kind m parts part sums one is source. job_more kind m parts part sums one is source
