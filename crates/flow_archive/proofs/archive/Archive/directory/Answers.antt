use Rattle.std.proofs.Common.{◌≡◌, true, Bool, IsTrue, refl, sym, ◌∙◌, ap, subst}
use Rattle.flow_manifest.specs.Following.{front_of}
use Rattle.flow_measure.specs.View.{view_of}
use Rattle.flow_model.specs.Changes.{counts_of}
use Rattle.flow_model.specs.Shelf.{Shelf}
use Rattle.flow_snapshot.specs.ShelfSeen.{ShelfSeen}
use Rattle.flow_model.specs.Views.{IsViewOf}
use Rattle.flow_model.specs.State.{State}
use Rattle.flow_archive.specs.Frozen.{shelf_with, AreHeldAs}
use Rattle.flow_archive.specs.Seen.{state_in, IsArchive, Seen}
use Rattle.flow_archive.specs.UnderWay.{under_way_in, HasOwnFiles, IsUnderWay}
use Rattle.flow_archive.proofs.Directing.{once_shared, same_archive, same_state, shared_archive}
use Rattle.flow_archive.proofs.Owning.{honest_all}
use Rattle.flow_archive.proofs.Sharing.{own_shared}
use Rattle.flow_archive.proofs.Shelving.{shelf_is}
use Rattle.flow_archive.proofs.Working.{goes_on}
use Rattle.flow_archive.proofs.Inside.{state_of, work_of}
use Rattle.flow_archive.proofs.archive.Archive.directory.Goals as goal

pub invariant_of-self : goal.invariant_of-self
invariant_of-self g c =
    let D = g.D.Disk in
    let inside = c.self.inside in
    let m = inside.slots.current in
    let work = work_of inside in
    let new = c.shared_files.new.files.items in
    let old = inside.files.items in
    let s : State = state_in work inside.shared m old inside.prefix inside.messages.items in
    let whole = subst (λ (x : State). IsArchive D.honest D.marks D.held inside.disk inside.slots inside.active inside.end inside.total
    inside.carry new x inside.closed × IsUnderWay D.honest D.marks D.held inside.disk x work inside.closed
    × HasOwnFiles true new work)
    (sym (same_state work true m new old inside.prefix inside.messages.items c.shared_files.ensures.same)) (
      same_archive D.honest D.marks D.held inside.disk inside.slots inside.active inside.end inside.total inside.carry new
          old (once_shared s) inside.closed c.shared_files.ensures.same
          (shared_archive D.honest D.marks D.held inside.disk inside.slots inside.active inside.end inside.total
          inside.carry old s inside.closed c.self.invariant.0),
      goes_on s s.active true D.honest D.marks D.held inside.disk inside.disk inside.closed inside.closed refl (λ is. is)
          (λ _ n is. refl) (λ _ h n is. refl) work (c.self.invariant.1),
      own_shared inside.shared new old work c.self.invariant.2,
    ) in
    (whole.0, whole.1, whole.2, c.self.invariant.3)

pub invariant_of-self-2 : goal.invariant_of-self-2
invariant_of-self-2 g c =
    let D = g.D.Disk in
    let inside = c.self.inside in
    let m = inside.slots.current in
    let work = work_of inside in
    let new = c.shared_files.new.files.items in
    let old = inside.files.items in
    let s : State = state_in work inside.shared m old inside.prefix inside.messages.items in
    let whole = subst (λ (x : State). IsArchive D.honest D.marks D.held inside.disk inside.slots inside.active inside.end inside.total
    inside.carry new x inside.closed × IsUnderWay D.honest D.marks D.held inside.disk x work inside.closed
    × HasOwnFiles true new work)
    (sym (same_state work true m new old inside.prefix inside.messages.items c.shared_files.ensures.same)) (
      same_archive D.honest D.marks D.held inside.disk inside.slots inside.active inside.end inside.total inside.carry new
          old (once_shared s) inside.closed c.shared_files.ensures.same
          (shared_archive D.honest D.marks D.held inside.disk inside.slots inside.active inside.end inside.total
          inside.carry old s inside.closed c.self.invariant.0),
      goes_on s s.active true D.honest D.marks D.held inside.disk inside.disk inside.closed inside.closed refl (λ is. is)
          (λ _ n is. refl) (λ _ h n is. refl) work (c.self.invariant.1),
      own_shared inside.shared new old work c.self.invariant.2,
    ) in
    (whole.0, whole.1, whole.2, c.self.invariant.3)

pub returns-in_err-files-clause-state : goal.returns-in_err-files-clause-state
returns-in_err-files-clause-state g c =
    let inside = c.self.inside in
    rw (← c.self.view_is) (same_state (under_way_in inside.next inside.job inside.waiting.items) true inside.slots.current
    c.shared_files.new.files.items inside.files.items inside.prefix inside.messages.items c.shared_files.ensures.same)

pub returns-clause-state : goal.returns-clause-state
returns-clause-state g c =
    let inside = c.self.inside in
    rw (← c.self.view_is) (same_state (under_way_in inside.next inside.job inside.waiting.items) true inside.slots.current
    c.shared_files.new.files.items inside.files.items inside.prefix inside.messages.items c.shared_files.ensures.same)

pub returns-clause-active : goal.returns-clause-active
returns-clause-active g c =
    let inside = c.self.inside in
    let m = inside.slots.current in
    let shelf : c.new.result.shelf ≡ shelf_with m.width m.wide inside.files.items inside.prefix inside.messages.items =
    ap (λ (x : ShelfSeen). x.shelf) c.new.ensures ∙ c.in_ok-files.ensures.shelf m.width m.wide in
    rw (← c.self.view_is) (record {
      width = ap (λ (x : Shelf). x.width) shelf;
      wide = ap (λ (x : Shelf). x.wide) shelf;
      prefix = ap (λ (x : Shelf). x.prefix) shelf;
      active = ap (λ (x : Shelf). x.active) shelf;
    })

pub returns-clause-every : goal.returns-clause-every
returns-clause-every g c =
    let D = g.D.Disk in
    let inside = c.self.inside in
    let m = inside.slots.current in
    let shelf : c.new.result.shelf ≡ shelf_with m.width m.wide inside.files.items inside.prefix inside.messages.items =
    ap (λ (x : ShelfSeen). x.shelf) c.new.ensures ∙ c.in_ok-files.ensures.shelf m.width m.wide in
    rw (← c.self.view_is) (shelf
    ∙ shelf_is (D.honest inside.disk) (state_of inside) inside.files.items (c.self.invariant.0).files_are refl)

pub returns-clause-shown : goal.returns-clause-shown
returns-clause-shown g c h =
    let D = g.D.Disk in
    let inside = c.self.inside in
    let m = inside.slots.current in
    let held = (c.self.invariant.0).files_are in
    let honest : IsTrue (D.honest inside.disk) = subst (λ (x : Seen g.row.D.Denot). IsTrue (D.honest x.disk)) (sym c.self.view_is) h in (
      returns-clause-every g c,
      ap (λ (x : ShelfSeen). x.honest) c.new.ensures
          ∙ c.in_ok-files.ensures.honest (honest_all (front_of m) inside.files.items
          (subst (λ (b : Bool). AreHeldAs b (front_of m) inside.files.items) honest held)) m.width m.wide,
    )

pub returns-clause-history : goal.returns-clause-history
returns-clause-history g c h history has =
    subst (λ (x : Shelf). IsViewOf x (view_of history (counts_of x))) (sym (returns-clause-every g c)) has.view
