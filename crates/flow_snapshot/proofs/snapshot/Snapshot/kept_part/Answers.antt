use Rattle.std.proofs.Common.{◌≡◌, ◌∙◌, ◌≤◌, length, sym, subst, arith}
use Rattle.std.specs.Prelude.{slice_get, IsTrue, Some, ◌&&◌}
use Rattle.std.specs.List.{list_all}
use Rattle.std.proofs.lemmas.List.{length-map}
use Rattle.std.specs.Arc.{arc_value}
use Rattle.flow_snapshot.specs.Directories.{sight_of}
use Rattle.flow_snapshot.specs.Files.{is_honest, is_honest_sum, segment_of, shared}
use Rattle.flow_snapshot.specs.Found.{kept_by_file, kept_file}
use Rattle.flow_snapshot.specs.ShelfSeen.{ShelfSeen}
use Rattle.flow_snapshot.proofs.Asking.{honest_sealed}
use Rattle.flow_snapshot.proofs.ByFile.{active_file, active_there, honest_there, segment_found}
use Rattle.flow_snapshot.proofs.snapshot.Snapshot.kept_part.Goals as goal

pub returns-in-Some-clause-file : goal.returns-in-Some-clause-file
returns-in-Some-clause-file g c =
    let files = c.self.inside.files in
    let look = rw c.deref.ensures.value at c.in-Some.ensures.lookup in
    let part = c.deref-in-Some.result.now in
    subst (λ (x : ShelfSeen). slice_get (kept_by_file x.shelf) c.args.at ≡ Some (kept_file (segment_of part)))
    c.self.view_is
    (segment_found files.sealed.items c.args.at c.in-Some.part.now part look.3.0 look.1 c.deref-in-Some.ensures
    (active_file files.prefix files.active.items))

pub returns-in-Some-clause-honest : goal.returns-in-Some-clause-honest
returns-in-Some-clause-honest g c = λ honest.
    let files = c.self.inside.files in
    let sums = list_all is_honest_sum (shared files.merged.items) && list_all is_honest_sum
    (shared files.rolled.items) in
    let all = honest_sealed sums (list_all (is_honest {files = g.S.SealedFile}) (shared files.sealed.items))
    (subst (λ (x : ShelfSeen). IsTrue x.honest) (sym c.self.view_is) honest) in
    let look = rw c.deref.ensures.value at c.in-Some.ensures.lookup in
    let part = c.deref-in-Some.result.now in
    honest_there files.sealed.items c.args.at c.in-Some.part.now part look.3.0 look.1 c.deref-in-Some.ensures all

pub returns-in-None-clause-file : goal.returns-in-None-clause-file
returns-in-None-clause-file g c =
    let inside = c.self.inside in
    let files = inside.files in
    let s = (sight_of inside.width inside.wide files).shelf in
    let most = subst (λ (x : ShelfSeen). c.args.at ≤ length x.shelf.sealed) (sym c.self.view_is) c.requires in
    let look = rw c.deref.ensures.value at c.in-None.ensures.lookup in
    let count = length-map (shared files.sealed.items) (segment_of {files = g.S.SealedFile})
    ∙ length-map files.sealed.items arc_value in
    let here : slice_get (kept_by_file s) c.args.at ≡ Some (active_file s.prefix s.active) =
    active_there s.sealed (active_file s.prefix s.active) c.args.at (omega (arith, look.3, count)) most in
    let there =
    subst (λ (x : ShelfSeen). slice_get (kept_by_file x.shelf) c.args.at ≡ Some (active_file s.prefix s.active))
    c.self.view_is here in
    rw (c.as_slice-prefix.ensures, c.as_slice.ensures.value) there
