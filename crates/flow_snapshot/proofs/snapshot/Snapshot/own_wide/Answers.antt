use Rattle.std.proofs.Common.{ap, subst, sym, ◌∙◌, ℕ}
use Rattle.std.specs.Prelude.{IsTrue, ◌&&◌}
use Rattle.std.specs.List.{list_all, AllZip}
use Rattle.flow_measure.specs.Sums.{AllFit, Table}
use Rattle.flow_snapshot.specs.Directories.{sight_of}
use Rattle.flow_snapshot.specs.Files.{is_honest, is_honest_sum, shared}
use Rattle.flow_snapshot.specs.Shares.{own, summed, AreWide, HaveSums, IsFileSum}
use Rattle.flow_snapshot.specs.ShelfSeen.{ShelfSeen}
use Rattle.flow_snapshot.specs.Totals.{with_maps}
use Rattle.flow_snapshot.proofs.Adding.{made_err}
use Rattle.flow_snapshot.proofs.Sharing.{first_of_two}
use Rattle.flow_snapshot.proofs.Dealing.{wide_fit, wide_whole}
use Rattle.flow_snapshot.proofs.snapshot.Snapshot.own_wide.Goals as goal

pub returns-in_err-turn-clause-given : goal.returns-in_err-turn-clause-given
returns-in_err-turn-clause-given g c = λ honest wide are.
    let inside = c.self.inside in
    let files = inside.files in
    let s = (sight_of inside.width inside.wide files).shelf in
    let seen = subst (λ (x : ShelfSeen). IsTrue x.honest) (sym c.self.view_is) honest in
    let merged = list_all is_honest_sum (shared files.merged.items) in
    let rolled = list_all is_honest_sum (shared files.rolled.items) in
    let sealed = list_all (is_honest {files = g.S.SealedFile}) (shared files.sealed.items) in
    let sums = first_of_two merged rolled (first_of_two (merged && rolled) sealed seen) in
    let here = subst (λ (x : ShelfSeen). AreWide x.shelf wide) (sym c.self.view_is) are in
    let start = c.new-wide.result in
    let none = c.new-wide.ensures in
    let each = subst (λ (w : ℕ). AllZip (IsFileSum w) s.merged wide) (sym (ap (λ (t : Table). t.width) none)) here in
    let given = rw c.as_slice-merged.ensures.value at c.in_err-turn.ensures.given in
    made_err _ c.args.first (AllFit (with_maps (own c.args.workers c.args.worker 0 wide) start))
    (AllFit (summed s.wide wide)) c.from_residual.result c.in_err-turn.field-0.0
    (wide_fit s c.args.workers c.args.worker wide start none) c.from_residual.ensures.1 (given sums wide each)

pub returns-clause-found : goal.returns-clause-found
returns-clause-found g c = λ honest.
    let inside = c.self.inside in
    let files = inside.files in
    let s = (sight_of inside.width inside.wide files).shelf in
    let seen = subst (λ (x : ShelfSeen). IsTrue x.honest) (sym c.self.view_is) honest in
    let merged = list_all is_honest_sum (shared files.merged.items) in
    let rolled = list_all is_honest_sum (shared files.rolled.items) in
    let sealed = list_all (is_honest {files = g.S.SealedFile}) (shared files.sealed.items) in
    let sums = first_of_two merged rolled (first_of_two (merged && rolled) sealed seen) in
    let found = (rw c.as_slice-merged.ensures.value at c.in_ok-turn.ensures.found) sums in
    let own_parts = own c.args.workers c.args.worker 0 s.merged in
    subst (λ (x : ShelfSeen). HaveSums (IsFileSum x.shelf.wide) (own c.args.workers c.args.worker 0 x.shelf.merged))
    c.self.view_is (subst (λ (w : ℕ). HaveSums (IsFileSum w) own_parts)
    (ap (λ (t : Table). t.width) c.new-wide.ensures) found)

pub returns-clause-given : goal.returns-clause-given
returns-clause-given g c = λ honest wide are.
    let inside = c.self.inside in
    let files = inside.files in
    let s = (sight_of inside.width inside.wide files).shelf in
    let seen = subst (λ (x : ShelfSeen). IsTrue x.honest) (sym c.self.view_is) honest in
    let merged = list_all is_honest_sum (shared files.merged.items) in
    let rolled = list_all is_honest_sum (shared files.rolled.items) in
    let sealed = list_all (is_honest {files = g.S.SealedFile}) (shared files.sealed.items) in
    let sums = first_of_two merged rolled (first_of_two (merged && rolled) sealed seen) in
    let here = subst (λ (x : ShelfSeen). AreWide x.shelf wide) (sym c.self.view_is) are in
    let start = c.new-wide.result in
    let none = c.new-wide.ensures in
    let each = subst (λ (w : ℕ). AllZip (IsFileSum w) s.merged wide) (sym (ap (λ (t : Table). t.width) none)) here in
    let given = rw c.as_slice-merged.ensures.value at c.in_ok-turn.ensures.given in
    given sums wide each ∙ wide_whole s c.args.workers c.args.worker wide start none
    ∙ ap (λ (x : ShelfSeen). summed x.shelf.wide (own c.args.workers c.args.worker 0 wide)) c.self.view_is
