use Rattle.std.proofs.Common.{◌≡◌, List, subst, sym}
use Rattle.std.specs.Prelude.{IsTrue, OnOk, ◌&&◌}
use Rattle.std.specs.List.{list_all}
use Rattle.flow_codec.specs.Templates.{AllTemplates}
use Rattle.flow_measure.specs.History.{flows_in, Accepted}
use Rattle.flow_measure.specs.Sums.{AllFit}
use Rattle.flow_segment.specs.PartFlows.{with_flows}
use Rattle.flow_segment.specs.Prefix.{IsRestated}
use Rattle.flow_snapshot.specs.Directories.{sight_of}
use Rattle.flow_snapshot.specs.Files.{is_honest, is_honest_sum, shared}
use Rattle.flow_model.specs.Views.{first_prefix, AreKept}
use Rattle.flow_snapshot.specs.ShelfSeen.{ShelfSeen}
use Rattle.flow_model.specs.Views.{IsViewOf}
use Rattle.flow_snapshot.proofs.Adding.{made_blameless, made_err}
use Rattle.flow_snapshot.proofs.Asking.{honest_sealed}
use Rattle.flow_snapshot.proofs.Sharing.{second_of_two}
use Rattle.flow_snapshot.proofs.Whole.{kept_summed}
use Rattle.flow_snapshot.proofs.Totalling.{active_first, halves, kept_added, sealed_first, sealed_fits}
use Rattle.flow_snapshot.proofs.snapshot.Snapshot.add_kept.Goals as goal

pub returns-in_err-templates-clause-given : goal.returns-in_err-templates-clause-given
returns-in_err-templates-clause-given g c = λ honest v is.
    made_blameless _ c.args.first (AllFit (with_flows (flows_in v.kept) c.args.rows.now))
    c.from_residual.result c.in_err-templates.field-0.0 c.from_residual.ensures.1
    (c.in_err-templates.ensures.given honest v.templates is.prefixes)

pub returns-in_err-add_sealed-clause-given : goal.returns-in_err-add_sealed-clause-given
returns-in_err-add_sealed-clause-given g c = λ honest v is.
    let inside = c.self.inside in
    let files = inside.files in
    let s = (sight_of inside.width inside.wide files).shelf in
    let here = subst (λ (x : ShelfSeen). IsViewOf x.shelf v) (sym c.self.view_is) is in
    let sums = list_all is_honest_sum (shared files.merged.items) && list_all is_honest_sum
    (shared files.rolled.items) in
    let all = honest_sealed sums (list_all (is_honest {files = g.S.SealedFile}) (shared files.sealed.items))
    (subst (λ (x : ShelfSeen). IsTrue x.honest) (sym c.self.view_is) honest) in
    let start = c.in_ok-templates.ensures.given honest v.templates is.prefixes in
    let given = rw c.as_slice-sealed.ensures.value at c.in_err-add_sealed.ensures.given in
    let h = halves s v here in
    made_err _ c.args.first (AllFit (with_flows (flows_in h.own) c.args.rows.now))
    (AllFit (with_flows (flows_in v.kept) c.args.rows.now)) c.from_residual-in_err-add_sealed.result
    c.in_err-add_sealed.field-0.0 (sealed_fits s v here c.args.rows.now)
    c.from_residual-in_err-add_sealed.ensures.1
    (given all h.own (sealed_first s v here c.in_ok-templates.templates start) h.octets)

pub returns-clause-found : goal.returns-clause-found
returns-clause-found g c = λ honest.
    let inside = c.self.inside in
    let files = inside.files in
    let s = (sight_of inside.width inside.wide files).shelf in
    let seen = subst (λ (x : ShelfSeen). IsTrue x.honest) (sym c.self.view_is) honest in
    let merged = list_all is_honest_sum (shared files.merged.items) in
    let rolled = list_all is_honest_sum (shared files.rolled.items) in
    let sealed = list_all (is_honest {files = g.S.SealedFile}) (shared files.sealed.items) in
    let all = second_of_two (merged && rolled) sealed seen in
    let restated = subst (λ (x : ShelfSeen).
    IsRestated (first_prefix x.shelf.sealed x.shelf.prefix) c.in_ok-templates.templates)
    (sym c.self.view_is) (c.in_ok-templates.ensures.found honest) in
    let found = (rw c.as_slice-sealed.ensures.value at c.in_ok-add_sealed.ensures.found) all in
    let given = rw c.as_slice-sealed.ensures.value at c.in_ok-add_sealed.ensures.given in
    let active = rw c.as_slice-active.ensures.value at c.add_active.ensures.found in
    let added = rw c.as_slice-active.ensures.value at c.add_active.ensures.given in
    subst (λ (x : ShelfSeen). OnOk c.add_active.result ((t : AllTemplates) × (kept : List Accepted)
    × AreKept x.shelf t kept × (c.add_active.new.rows ≡ with_flows (flows_in kept) c.args.rows.now))) c.self.view_is
    (kept_summed s c.in_ok-templates.templates c.add_sealed.new.templates restated found c.add_active.new.templates
    c.args.rows.now c.add_sealed.new.rows c.add_active.new.rows c.args.first
    (λ list. AllFit (with_flows (flows_in list) c.add_sealed.new.rows)) c.add_active.result
    (given all found.0 found.1 found.2) active added)

pub returns-clause-given : goal.returns-clause-given
returns-clause-given g c = λ honest v is.
    let inside = c.self.inside in
    let files = inside.files in
    let s = (sight_of inside.width inside.wide files).shelf in
    let here = subst (λ (x : ShelfSeen). IsViewOf x.shelf v) (sym c.self.view_is) is in
    let sums = list_all is_honest_sum (shared files.merged.items) && list_all is_honest_sum
    (shared files.rolled.items) in
    let all = honest_sealed sums (list_all (is_honest {files = g.S.SealedFile}) (shared files.sealed.items))
    (subst (λ (x : ShelfSeen). IsTrue x.honest) (sym c.self.view_is) honest) in
    let start = c.in_ok-templates.ensures.given honest v.templates is.prefixes in
    let given = rw c.as_slice-sealed.ensures.value at c.in_ok-add_sealed.ensures.given in
    let h = halves s v here in
    let right = given all h.own (sealed_first s v here c.in_ok-templates.templates start) h.octets in
    let active = rw c.as_slice-active.ensures.value at c.add_active.ensures.given in
    kept_added s v here c.args.rows.now _ c.add_sealed.new.rows c.add_active.new.rows c.args.first c.add_active.result
    right.1 (active h.rest (active_first s v here c.in_ok-templates.templates c.add_sealed.new.templates start right.0)
    h.others)
