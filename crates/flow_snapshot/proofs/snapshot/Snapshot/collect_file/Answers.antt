use Rattle.std.proofs.Common.{◌≡◌, ◌∙◌, ◌≤◌, length, sym, subst, arith}
use Rattle.std.specs.Prelude.{slice_get, IsTrue, OnOk, Some, ◌&&◌}
use Rattle.std.specs.List.{list_all}
use Rattle.std.proofs.lemmas.List.{length-map}
use Rattle.std.specs.Arc.{arc_value}
use Rattle.flow_snapshot.specs.Directories.{sight_of}
use Rattle.flow_snapshot.specs.Files.{is_honest, is_honest_sum, segment_of, shared}
use Rattle.flow_snapshot.specs.Found.{kept_by_file, AppendsOwnFlows, HaveOwnFlows, KeptFile}
use Rattle.flow_snapshot.specs.ShelfSeen.{ShelfSeen}
use Rattle.flow_snapshot.proofs.Asking.{honest_sealed}
use Rattle.flow_snapshot.proofs.ByFile.{active_file, at_the_end, honest_there, own_file}
use Rattle.flow_snapshot.proofs.snapshot.Snapshot.collect_file.Goals as goal

pub returns-in-Some-clause-found : goal.returns-in-Some-clause-found
returns-in-Some-clause-found g c = λ honest file there.
    let files = c.self.inside.files in
    let sums = list_all is_honest_sum (shared files.merged.items) && list_all is_honest_sum
    (shared files.rolled.items) in
    let all = honest_sealed sums (list_all (is_honest {files = g.S.SealedFile}) (shared files.sealed.items))
    (subst (λ (x : ShelfSeen). IsTrue x.honest) (sym c.self.view_is) honest) in
    let here = subst (λ (x : ShelfSeen). slice_get (kept_by_file x.shelf) c.args.at ≡ Some file) (sym c.self.view_is)
    there in
    let look = rw c.deref.ensures.value at c.in-Some.ensures.lookup in
    let part = c.deref-in-Some.result.now in
    let own = own_file files.sealed.items c.args.at c.in-Some.part.now part look.3.0 look.1 c.deref-in-Some.ensures
    (active_file files.prefix files.active.items) file here in
    let good = honest_there files.sealed.items c.args.at c.in-Some.part.now part look.3.0 look.1
    c.deref-in-Some.ensures all in
    subst (λ (f : KeptFile). OnOk c.collect_segment.result (AppendsOwnFlows c.args.from c.args.to f c.args.flows.now.items
    c.collect_segment.new.flows.items)) (sym own) (c.collect_segment.ensures.found good)

pub returns-in-Some-clause-given : goal.returns-in-Some-clause-given
returns-in-Some-clause-given g c = λ honest file there own has.
    let files = c.self.inside.files in
    let sums = list_all is_honest_sum (shared files.merged.items) && list_all is_honest_sum
    (shared files.rolled.items) in
    let all = honest_sealed sums (list_all (is_honest {files = g.S.SealedFile}) (shared files.sealed.items))
    (subst (λ (x : ShelfSeen). IsTrue x.honest) (sym c.self.view_is) honest) in
    let here = subst (λ (x : ShelfSeen). slice_get (kept_by_file x.shelf) c.args.at ≡ Some file) (sym c.self.view_is)
    there in
    let look = rw c.deref.ensures.value at c.in-Some.ensures.lookup in
    let part = c.deref-in-Some.result.now in
    let same = own_file files.sealed.items c.args.at c.in-Some.part.now part look.3.0 look.1 c.deref-in-Some.ensures
    (active_file files.prefix files.active.items) file here in
    let good = honest_there files.sealed.items c.args.at c.in-Some.part.now part look.3.0 look.1
    c.deref-in-Some.ensures all in
    c.collect_segment.ensures.given good own
    (subst (λ (f : KeptFile). HaveOwnFlows c.args.from c.args.to f own) same has)

pub returns-in-None-clause-found : goal.returns-in-None-clause-found
returns-in-None-clause-found g c = λ honest file there.
    let inside = c.self.inside in
    let files = inside.files in
    let s = (sight_of inside.width inside.wide files).shelf in
    let here = subst (λ (x : ShelfSeen). slice_get (kept_by_file x.shelf) c.args.at ≡ Some file) (sym c.self.view_is)
    there in
    let most = subst (λ (x : ShelfSeen). c.args.at ≤ length x.shelf.sealed) (sym c.self.view_is) c.requires in
    let look = rw c.deref.ensures.value at c.in-None.ensures.lookup in
    let count = length-map (shared files.sealed.items) (segment_of {files = g.S.SealedFile})
    ∙ length-map files.sealed.items arc_value in
    let same = at_the_end s.sealed (active_file s.prefix s.active) c.args.at file (omega (arith, look.3, count)) most
    here in
    subst (λ (f : KeptFile). OnOk c.collect_active.result (AppendsOwnFlows c.args.from c.args.to f c.args.flows.now.items
    c.collect_active.new.flows.items)) (sym same)
    (rw (c.as_slice-prefix.ensures, c.as_slice.ensures.value) at c.collect_active.ensures.found)

pub returns-in-None-clause-given : goal.returns-in-None-clause-given
returns-in-None-clause-given g c = λ honest file there own has.
    let inside = c.self.inside in
    let files = inside.files in
    let s = (sight_of inside.width inside.wide files).shelf in
    let here = subst (λ (x : ShelfSeen). slice_get (kept_by_file x.shelf) c.args.at ≡ Some file) (sym c.self.view_is)
    there in
    let most = subst (λ (x : ShelfSeen). c.args.at ≤ length x.shelf.sealed) (sym c.self.view_is) c.requires in
    let look = rw c.deref.ensures.value at c.in-None.ensures.lookup in
    let count = length-map (shared files.sealed.items) (segment_of {files = g.S.SealedFile})
    ∙ length-map files.sealed.items arc_value in
    let same = at_the_end s.sealed (active_file s.prefix s.active) c.args.at file (omega (arith, look.3, count)) most
    here in
    (rw (c.as_slice-prefix.ensures, c.as_slice.ensures.value) at c.collect_active.ensures.given) own
    (subst (λ (f : KeptFile). HaveOwnFlows c.args.from c.args.to f own) same has)
