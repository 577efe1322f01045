use Rattle.std.proofs.Common.{◌≡◌, ◌*◌, List, length, None, subst, ⊎_elim}
use Rattle.std.specs.List.{AllByRecursion}
use Rattle.flow_rolled.specs.Messages.{RolledMessage, AllFollow}
use Rattle.flow_rolled.proofs.Breaking.{all_parts}
use Rattle.flow_rolled.proofs.Complete.{parts_are}
use Rattle.flow_rolled.proofs.PartsLaws.{all_few, all_own, all_times, once, only_parts, opened}
use Rattle.flow_rolled.proofs.laws.messages_of_rows.Goals as goal

pub returns-clause-joined : goal.returns-clause-joined
returns-clause-joined c = λ width time rows small order. (parts_are width time rows small order).same

pub returns-clause-few : goal.returns-clause-few
returns-clause-few c = λ width time rows small order.
    all_few width _ (all_parts width None _ tt (parts_are width time rows small order).follow)

pub returns-clause-own : goal.returns-clause-own
returns-clause-own c = λ width time rows small order.
    all_own width _ (all_parts width None _ tt (parts_are width time rows small order).follow)

pub returns-clause-time : goal.returns-clause-time
returns-clause-time c = λ time rows. all_times (2 * length rows) time None rows

pub returns-clause-opened : goal.returns-clause-opened
returns-clause-opened c = λ width time rows before more p small order is some.
    let follow = (parts_are width time rows small order).follow in
    let times = all_times (2 * length rows) time None rows in
    ⊎_elim (λ there. there) (λ none. absurd none)
    (opened width time None before more p (subst (AllFollow width None) is follow)
    (subst (λ (ps : List RolledMessage). AllByRecursion (λ q. q.time ≡ time) ps) is times) some)

pub returns-clause-once : goal.returns-clause-once
returns-clause-once c = λ width time rows before more p small order is none.
    let follow = (parts_are width time rows small order).follow in
    (once width None before more p (subst (AllFollow width None) is follow) none).1

pub returns-clause-follow : goal.returns-clause-follow
returns-clause-follow c = λ width time rows small order.
    let are = parts_are width time rows small order in (are.follow, are.ends)

pub returns-clause-only : goal.returns-clause-only
returns-clause-only c = λ width time parts all ends times. only_parts width time parts all ends times
