use Rattle.std.proofs.Common.{◌≡◌, subst, sym, ap, ◌∙◌}
use Rattle.std.specs.Prelude.{IsTrue, ◌&&◌}
use Rattle.std.specs.List.{list_all}
use Rattle.std.specs.FinMap.{FinMap}
use Rattle.flow_measure.specs.declared.rows.Sums.{Sums}
use Rattle.flow_measure.specs.Sums.{key_cmp, AllFit, Table}
use Rattle.flow_snapshot.specs.Directories.{sight_of}
use Rattle.flow_snapshot.specs.Files.{is_honest, is_honest_sum, shared}
use Rattle.flow_snapshot.specs.ShelfSeen.{ShelfSeen}
use Rattle.flow_snapshot.specs.Totals.{wide_table_in, with_maps}
use Rattle.flow_model.specs.Views.{AreRolled, AreRolledInto, IsViewOf}
use Rattle.flow_snapshot.proofs.Adding.{made_err}
use Rattle.flow_snapshot.proofs.Sharing.{first_of_two}
use Rattle.flow_snapshot.proofs.Totalling.{wide_is}
use Rattle.flow_snapshot.proofs.Whole.{wide_read}
use Rattle.flow_snapshot.proofs.snapshot.Snapshot.wide_rows.Goals as goal

pub returns-in_err-add_rolled-clause-given : goal.returns-in_err-add_rolled-clause-given
returns-in_err-add_rolled-clause-given g c = λ honest v is.
    let inside = c.self.inside in
    let files = inside.files in
    let s = (sight_of inside.width inside.wide files).shelf in
    let here = subst (λ (x : ShelfSeen). IsViewOf x.shelf v) (sym c.self.view_is) is in
    let merged = list_all is_honest_sum (shared files.merged.items) in
    let rolled = list_all is_honest_sum (shared files.rolled.items) in
    let sealed = list_all (is_honest {files = g.S.SealedFile}) (shared files.sealed.items) in
    let sums = first_of_two merged rolled (first_of_two (merged && rolled) sealed
    (subst (λ (x : ShelfSeen). IsTrue x.honest) (sym c.self.view_is) honest)) in
    let start = c.new-rows.result in
    let are = subst (λ w. AreRolled w s.merged here.merged.0) (sym (ap (λ (t : Table). t.width) c.new-rows.ensures))
    here.merged.1 in
    let given = rw c.as_slice-merged.ensures.value at c.in_err-add_rolled.ensures.given in
    made_err _ c.args.first (AllFit (with_maps here.merged.0 start)) (AllFit (wide_table_in v)) c.from_residual.result
    c.in_err-add_rolled.field-0.0 (λ fit. subst AllFit (sym (wide_is s v here start c.new-rows.ensures)) fit)
    c.from_residual.ensures.1 (given sums here.merged.0 are)

pub returns-clause-found : goal.returns-clause-found
returns-clause-found g c = λ honest.
    let inside = c.self.inside in
    let files = inside.files in
    let s = (sight_of inside.width inside.wide files).shelf in
    let seen = subst (λ (x : ShelfSeen). IsTrue x.honest) (sym c.self.view_is) honest in
    let merged = list_all is_honest_sum (shared files.merged.items) in
    let rolled = list_all is_honest_sum (shared files.rolled.items) in
    let sealed = list_all (is_honest {files = g.S.SealedFile}) (shared files.sealed.items) in
    let sums = first_of_two merged rolled (first_of_two (merged && rolled) sealed seen) in
    let start = c.new-rows.result in
    let none = c.new-rows.ensures in
    let found = (rw c.as_slice-merged.ensures.value at c.in_ok-add_rolled.ensures.found) sums in
    let given = rw c.as_slice-merged.ensures.value at c.in_ok-add_rolled.ensures.given in
    let are = subst (λ w. AreRolled w s.merged found.0) (ap (λ (t : Table). t.width) none) found.1 in
    let rows = c.add_rolled.new.rows in
    subst (λ (x : ShelfSeen). (sums : FinMap key_cmp Sums) × AreRolledInto x.shelf.wide x.shelf.merged sums
    × (rows ≡ record { width = x.shelf.wide; sums = sums })) c.self.view_is
    (wide_read s start rows none (found.0, are) (given sums found.0 found.1))

pub returns-clause-given : goal.returns-clause-given
returns-clause-given g c = λ honest v is.
    let inside = c.self.inside in
    let files = inside.files in
    let s = (sight_of inside.width inside.wide files).shelf in
    let here = subst (λ (x : ShelfSeen). IsViewOf x.shelf v) (sym c.self.view_is) is in
    let merged = list_all is_honest_sum (shared files.merged.items) in
    let rolled = list_all is_honest_sum (shared files.rolled.items) in
    let sealed = list_all (is_honest {files = g.S.SealedFile}) (shared files.sealed.items) in
    let sums = first_of_two merged rolled (first_of_two (merged && rolled) sealed
    (subst (λ (x : ShelfSeen). IsTrue x.honest) (sym c.self.view_is) honest)) in
    let are = subst (λ w. AreRolled w s.merged here.merged.0) (sym (ap (λ (t : Table). t.width) c.new-rows.ensures))
    here.merged.1 in
    let given = rw c.as_slice-merged.ensures.value at c.in_ok-add_rolled.ensures.given in
    given sums here.merged.0 are ∙ wide_is s v here c.new-rows.result c.new-rows.ensures
