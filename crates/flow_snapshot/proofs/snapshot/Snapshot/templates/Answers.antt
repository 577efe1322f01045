use Rattle.std.proofs.Common.{◌∙◌, subst, sym}
use Rattle.std.specs.Prelude.{IfOk, IsTrue, ◌&&◌}
use Rattle.std.specs.List.{list_all}
use Rattle.flow_segment.specs.Prefix.{IsRestated}
use Rattle.flow_snapshot.specs.Files.{is_honest_sum, shared}
use Rattle.flow_model.specs.Views.{first_prefix}
use Rattle.flow_snapshot.specs.ShelfSeen.{ShelfSeen}
use Rattle.flow_model.specs.Views.{AreRestated}
use Rattle.flow_snapshot.proofs.Asking.{active_templates, first_item, first_templates, no_item, templates_blameless}
use Rattle.flow_snapshot.proofs.KeptFlows.{answered_err}
use Rattle.flow_snapshot.proofs.Whole.{active_found, first_found}
use Rattle.flow_snapshot.proofs.snapshot.Snapshot.templates.Goals as goal

pub returns-in_err-templates_of-in-Some-clause-given : goal.returns-in_err-templates_of-in-Some-clause-given
returns-in_err-templates_of-in-Some-clause-given g c = λ honest before restated.
    let files = c.self.inside.files in
    let sums = list_all is_honest_sum (shared files.merged.items) && list_all is_honest_sum
    (shared files.rolled.items) in
    let first = first_item c.deref.result.now c.in-Some.part.now c.in-Some.ensures.value in
    let right = first_templates files.sealed.items first.0 c.in-Some.part.now c.deref-in-Some.result.now sums before
    files.prefix (sym c.deref.ensures.value ∙ first.1) c.deref-in-Some.ensures
    (subst (λ (x : ShelfSeen). IsTrue x.honest) (sym c.self.view_is) honest)
    (subst (λ (x : ShelfSeen). AreRestated before x.shelf.sealed x.shelf.prefix) (sym c.self.view_is) restated) in
    answered_err _ c.from_residual.result _ c.from_residual.ensures.1
    (templates_blameless c.in_err-templates_of-in-Some.field-0.0 before
    (c.in_err-templates_of-in-Some.ensures.given right.0 before right.1))

pub returns-in_ok-templates_of-in-Some-clause-given : goal.returns-in_ok-templates_of-in-Some-clause-given
returns-in_ok-templates_of-in-Some-clause-given g c = λ honest before restated.
    let files = c.self.inside.files in
    let sums = list_all is_honest_sum (shared files.merged.items) && list_all is_honest_sum
    (shared files.rolled.items) in
    let first = first_item c.deref.result.now c.in-Some.part.now c.in-Some.ensures.value in
    let right = first_templates files.sealed.items first.0 c.in-Some.part.now c.deref-in-Some.result.now sums before
    files.prefix (sym c.deref.ensures.value ∙ first.1) c.deref-in-Some.ensures
    (subst (λ (x : ShelfSeen). IsTrue x.honest) (sym c.self.view_is) honest)
    (subst (λ (x : ShelfSeen). AreRestated before x.shelf.sealed x.shelf.prefix) (sym c.self.view_is) restated) in
    c.in_ok-templates_of-in-Some.ensures.given right.0 before right.1

pub returns-in_ok-templates_of-in-Some-clause-found : goal.returns-in_ok-templates_of-in-Some-clause-found
returns-in_ok-templates_of-in-Some-clause-found g c = λ honest.
    let files = c.self.inside.files in
    let sums = list_all is_honest_sum (shared files.merged.items) && list_all is_honest_sum
    (shared files.rolled.items) in
    let first = first_item c.deref.result.now c.in-Some.part.now c.in-Some.ensures.value in
    let templates = c.in_ok-templates_of-in-Some.field-0 in
    subst (λ (x : ShelfSeen). IsRestated (first_prefix x.shelf.sealed x.shelf.prefix) templates) c.self.view_is
    (first_found files.sealed.items first.0 c.in-Some.part.now c.deref-in-Some.result.now sums files.prefix templates
    (sym c.deref.ensures.value ∙ first.1) c.deref-in-Some.ensures
    (subst (λ (x : ShelfSeen). IsTrue x.honest) (sym c.self.view_is) honest) c.in_ok-templates_of-in-Some.ensures.found)

pub returns-in-None-clause-found : goal.returns-in-None-clause-found
returns-in-None-clause-found g c = λ honest.
    let files = c.self.inside.files in
    let none = sym c.deref.ensures.value ∙ no_item c.deref.result.now c.in-None.ensures.value in
    let found = rw c.as_slice.ensures at c.restated.ensures.found in
    subst (λ (x : ShelfSeen). IfOk c.restated.result (λ t. IsRestated (first_prefix x.shelf.sealed x.shelf.prefix) t))
    c.self.view_is (active_found files.sealed.items files.prefix c.restated.result none found)

pub returns-in-None-clause-given : goal.returns-in-None-clause-given
returns-in-None-clause-given g c = λ honest before restated.
    let files = c.self.inside.files in
    let none = sym c.deref.ensures.value ∙ no_item c.deref.result.now c.in-None.ensures.value in
    let given = rw c.as_slice.ensures at c.restated.ensures.given in
    given before (active_templates files.sealed.items before files.prefix none
    (subst (λ (x : ShelfSeen). AreRestated before x.shelf.sealed x.shelf.prefix) (sym c.self.view_is) restated))
