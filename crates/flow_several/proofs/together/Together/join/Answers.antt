use Rattle.std.proofs.Common.{◌≢◌, ◌++◌, [], ◌∷◌}
use Rattle.flow_disk.proofs.Results.{passed_on}
use Rattle.flow_refusals.specs.declared.read_refusal.ReadRefusal.TheVariants as query
use Rattle.flow_several.specs.declared.error.TogetherError.TheVariants.{Query}
use Rattle.flow_several.specs.Together.{AreSumsOf, IsJoiningRefused}
use Rattle.flow_several.proofs.Adding.{err_matched, joined_quiet, joined_refused, joined_views}
use Rattle.flow_several.proofs.together.Together.join.Goals as goal

pub returns-in_err-sums-clause-views : goal.returns-in_err-sums-clause-views
returns-in_err-sums-clause-views c = λ v one vs are.
    err_matched c.from_residual.result (c.in_err-sums.field-0).0 (λ all. AreSumsOf all.sums (vs ++ v ∷ []))
    (IsJoiningRefused vs v) c.from_residual.ensures.1
    (joined_refused c.args.self.sums c.args.more.sums (c.in_err-sums.field-0).0 v one vs are c.in_err-sums.ensures)

pub returns-clause-views : goal.returns-clause-views
returns-clause-views c = λ v one vs are.
    joined_views c.args.self.sums c.args.more.sums c.in_ok-sums.sums v one vs are c.in_ok-sums.ensures

pub returns-in_err-sums-clause-quiet : goal.returns-in_err-sums-clause-quiet
returns-in_err-sums-clause-quiet c =
    passed_on c.from_residual.result (c.in_err-sums.field-0).0 (λ e. e ≢ Query query.Fault) c.from_residual.ensures.1
    (joined_quiet c.args.self.sums c.args.more.sums (c.in_err-sums.field-0).0 c.in_err-sums.ensures)
