use Rattle.flow_model.proofs.Following.{all_counted, history_follows, merge_by_messages, starts, view_follows}
use Rattle.flow_model.proofs.shelves.views_follow.Goals as goal

pub returns-clause-counts : goal.returns-clause-counts
returns-clause-counts c = λ s h hist is. all_counted s h hist is

pub returns-clause-history : goal.returns-clause-history
returns-clause-history c = λ s h x hist is allowed. history_follows s h x hist is allowed

pub returns-clause-view : goal.returns-clause-view
returns-clause-view c = λ s h x hist is allowed. view_follows s h x hist is allowed

pub returns-clause-start : goal.returns-clause-start
returns-clause-start c = λ width wide positive also multiple. starts width wide positive also multiple

pub returns-clause-merged : goal.returns-clause-merged
returns-clause-merged c = λ s h k hist is. merge_by_messages s h k hist is
