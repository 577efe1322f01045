use Rattle.std.proofs.Common.{◌≡◌, List, subst, sym, ap, ◌∙◌}
use Rattle.std.specs.Prelude.{IsTrue, ◌&&◌}
use Rattle.std.specs.List.{list_all}
use Rattle.flow_codec.specs.Templates.{AllTemplates}
use Rattle.flow_measure.specs.History.{flows_in, Accepted}
use Rattle.flow_measure.specs.Query.{narrow_table_in}
use Rattle.flow_measure.specs.Sums.{AllFit, Table}
use Rattle.flow_measure.specs.View.{View}
use Rattle.flow_segment.specs.PartFlows.{with_flows}
use Rattle.flow_snapshot.specs.Directories.{sight_of}
use Rattle.flow_snapshot.specs.Files.{is_honest, is_honest_sum, shared}
use Rattle.flow_model.specs.Views.{AreKept, IsReadIn}
use Rattle.flow_snapshot.specs.ShelfSeen.{ShelfSeen}
use Rattle.flow_model.specs.Views.{AreRolled, AreRolledInto, IsViewOf}
use Rattle.flow_snapshot.proofs.Adding.{made_err}
use Rattle.flow_snapshot.proofs.Sharing.{first_of_two, second_of_two}
use Rattle.flow_snapshot.proofs.Totalling.{narrow_is, rolled_fits}
use Rattle.flow_snapshot.proofs.Whole.{narrow_read}
use Rattle.flow_snapshot.proofs.snapshot.Snapshot.narrow_rows.Goals as goal

pub returns-in_err-add_rolled-clause-given : goal.returns-in_err-add_rolled-clause-given
returns-in_err-add_rolled-clause-given g c = λ honest v is.
    let inside = c.self.inside in
    let files = inside.files in
    let s = (sight_of inside.width inside.wide files).shelf in
    let here = subst (λ (x : ShelfSeen). IsViewOf x.shelf v) (sym c.self.view_is) is in
    let seen = subst (λ (x : ShelfSeen). IsTrue x.honest) (sym c.self.view_is) honest in
    let merged = list_all is_honest_sum (shared files.merged.items) in
    let rolled = list_all is_honest_sum (shared files.rolled.items) in
    let sealed = list_all (is_honest {files = g.S.SealedFile}) (shared files.sealed.items) in
    let sums = second_of_two merged rolled (first_of_two (merged && rolled) sealed seen) in
    let start = c.new-rows.result in
    let none = c.new-rows.ensures in
    let width = ap (λ (t : Table). t.width) none in
    let are = subst (λ w. AreRolled w s.rolled v.rolled) (sym width) here.rolled in
    let given = rw c.as_slice-rolled.ensures.value at c.in_err-add_rolled.ensures.given in
    made_err _ c.args.first _ (AllFit (narrow_table_in v)) c.from_residual.result
    c.in_err-add_rolled.field-0.0 (rolled_fits s v here start none) c.from_residual.ensures.1
    (given sums v.rolled are)

pub returns-in_err-add_kept-clause-given : goal.returns-in_err-add_kept-clause-given
returns-in_err-add_kept-clause-given g c = λ honest v is.
    let inside = c.self.inside in
    let files = inside.files in
    let s = (sight_of inside.width inside.wide files).shelf in
    let here = subst (λ (x : ShelfSeen). IsViewOf x.shelf v) (sym c.self.view_is) is in
    let seen = subst (λ (x : ShelfSeen). IsTrue x.honest) (sym c.self.view_is) honest in
    let merged = list_all is_honest_sum (shared files.merged.items) in
    let rolled = list_all is_honest_sum (shared files.rolled.items) in
    let sealed = list_all (is_honest {files = g.S.SealedFile}) (shared files.sealed.items) in
    let sums = second_of_two merged rolled (first_of_two (merged && rolled) sealed seen) in
    let start = c.new-rows.result in
    let none = c.new-rows.ensures in
    let width = ap (λ (t : Table). t.width) none in
    let are = subst (λ w. AreRolled w s.rolled v.rolled) (sym width) here.rolled in
    let given = rw c.as_slice-rolled.ensures.value at c.in_ok-add_rolled.ensures.given in
    let rolled_in = given sums v.rolled are in
    made_err _ c.args.first _ (AllFit (narrow_table_in v)) c.from_residual-in_err-add_kept.result
    c.in_err-add_kept.field-0.0
    (λ fit. subst AllFit (sym (narrow_is s v here start none) ∙ ap (with_flows (flows_in v.kept)) (sym rolled_in)) fit)
    c.from_residual-in_err-add_kept.ensures.1 (c.in_err-add_kept.ensures.given honest v is)

pub returns-clause-found : goal.returns-clause-found
returns-clause-found g c = λ honest wide into.
    let inside = c.self.inside in
    let files = inside.files in
    let s = (sight_of inside.width inside.wide files).shelf in
    let seen = subst (λ (x : ShelfSeen). IsTrue x.honest) (sym c.self.view_is) honest in
    let merged = list_all is_honest_sum (shared files.merged.items) in
    let rolled = list_all is_honest_sum (shared files.rolled.items) in
    let sealed = list_all (is_honest {files = g.S.SealedFile}) (shared files.sealed.items) in
    let sums = second_of_two merged rolled (first_of_two (merged && rolled) sealed seen) in
    let start = c.new-rows.result in
    let none = c.new-rows.ensures in
    let found = (rw c.as_slice-rolled.ensures.value at c.in_ok-add_rolled.ensures.found) sums in
    let given = rw c.as_slice-rolled.ensures.value at c.in_ok-add_rolled.ensures.given in
    let are = subst (λ w. AreRolled w s.rolled found.0) (ap (λ (t : Table). t.width) none) found.1 in
    let rows = c.add_kept.new.rows in
    let kept = subst (λ (x : ShelfSeen). (t : AllTemplates) × (kept : List Accepted) × AreKept x.shelf t kept
    × (rows ≡ with_flows (flows_in kept) c.add_rolled.new.rows)) (sym c.self.view_is)
    (c.in_ok-add_kept.ensures.found honest) in
    let here = subst (λ (x : ShelfSeen). AreRolledInto x.shelf.wide x.shelf.merged wide) (sym c.self.view_is) into in
    subst (λ (x : ShelfSeen). (v : View) × IsReadIn x.shelf v × (v.merged ≡ wide) × (rows ≡ narrow_table_in v))
    c.self.view_is
    (narrow_read s wide start c.add_rolled.new.rows rows here none (found.0, are) (given sums found.0 found.1) kept)

pub returns-clause-given : goal.returns-clause-given
returns-clause-given g c = λ honest v is.
    let inside = c.self.inside in
    let files = inside.files in
    let s = (sight_of inside.width inside.wide files).shelf in
    let here = subst (λ (x : ShelfSeen). IsViewOf x.shelf v) (sym c.self.view_is) is in
    let seen = subst (λ (x : ShelfSeen). IsTrue x.honest) (sym c.self.view_is) honest in
    let merged = list_all is_honest_sum (shared files.merged.items) in
    let rolled = list_all is_honest_sum (shared files.rolled.items) in
    let sealed = list_all (is_honest {files = g.S.SealedFile}) (shared files.sealed.items) in
    let sums = second_of_two merged rolled (first_of_two (merged && rolled) sealed seen) in
    let start = c.new-rows.result in
    let none = c.new-rows.ensures in
    let width = ap (λ (t : Table). t.width) none in
    let are = subst (λ w. AreRolled w s.rolled v.rolled) (sym width) here.rolled in
    let given = rw c.as_slice-rolled.ensures.value at c.in_ok-add_rolled.ensures.given in
    c.in_ok-add_kept.ensures.given honest v is ∙ ap (with_flows (flows_in v.kept)) (given sums v.rolled are)
    ∙ narrow_is s v here start none
