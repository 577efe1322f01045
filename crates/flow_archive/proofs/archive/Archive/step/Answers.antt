use Rattle.std.proofs.Common.{◌≡◌, ◌-◌, ℕ, Bool, true, List, length, refl, sym, ◌∙◌, ap, subst, arith, rules, vec_len}
use Rattle.flow_manifest.specs.Following.{front_of, messages_of}
use Rattle.flow_snapshot.specs.Steps.{change_of}
use Rattle.flow_model.specs.State.{State}
use Rattle.flow_archive.specs.Marks.{HasMark, HasMarkAmong, IsMarkedAmong}
use Rattle.flow_archive.specs.Frozen.{AreHeldAs}
use Rattle.flow_archive.specs.Seen.{state_in, IsArchive, Seen}
use Rattle.flow_archive.specs.UnderWay.{under_way_in, HasOwnFiles, IsUnderWay}
use Rattle.flow_archive.proofs.Changed.{before_active, counted_in_front, told_is}
use Rattle.flow_archive.proofs.Directing.{once_shared, same_archive, same_state, shared_archive}
use Rattle.flow_archive.proofs.Marking.{among, as_marked, if_ok}
use Rattle.flow_archive.proofs.Owning.{as_many, honest_all}
use Rattle.flow_archive.proofs.Sharing.{own_shared}
use Rattle.flow_archive.proofs.Shelving.{shelf_is}
use Rattle.flow_archive.proofs.Working.{goes_on}
use Rattle.flow_archive.proofs.Inside.{state_of, work_of}
use Rattle.flow_archive.proofs.archive.Archive.step.Goals as goal

pub named-requires : goal.named-requires
named-requires g c =
    let D = g.D.Disk in
    let inside = c.self.inside in
    let s = state_of inside in
    let counted = (c.self.invariant.0).counted in
    let len : vec_len inside.messages ≡ length inside.messages.items = search rules in
    let before : inside.total - c.len.result ≡ messages_of s.manifest.entries =
    omega (arith, counted.total_is, c.len.ensures, len) in
    let has : HasMark s c.args.mark =
    subst (λ (x : Seen g.row.D.Denot). HasMark x.state c.args.mark) (sym c.self.view_is) c.requires in
    subst (λ (l : List (List ℕ)). HasMarkAmong inside.files.items (inside.total - c.len.result) l c.args.mark)
    (sym c.as_slice-messages.ensures.value) (among (D.honest inside.disk) s inside.files.items
    (inside.total - c.len.result) c.args.mark counted.valid (c.self.invariant.0).files_are before has)

pub invariant_of-self : goal.invariant_of-self
invariant_of-self g c =
    let D = g.D.Disk in
    let inside = c.self.inside in
    let m = inside.slots.current in
    let work = work_of inside in
    let new = c.named.new.files.items in
    let old = inside.files.items in
    let s : State = state_in work inside.shared m old inside.prefix inside.messages.items in
    let whole = subst (λ (x : State). IsArchive D.honest D.marks D.held inside.disk inside.slots inside.active inside.end inside.total
    inside.carry new x inside.closed × IsUnderWay D.honest D.marks D.held inside.disk x work inside.closed
    × HasOwnFiles true new work)
    (sym (same_state work true m new old inside.prefix inside.messages.items c.named.ensures.same)) (
      same_archive D.honest D.marks D.held inside.disk inside.slots inside.active inside.end inside.total inside.carry new
          old (once_shared s) inside.closed c.named.ensures.same
          (shared_archive D.honest D.marks D.held inside.disk inside.slots inside.active inside.end inside.total
          inside.carry old s inside.closed c.self.invariant.0),
      goes_on s s.active true D.honest D.marks D.held inside.disk inside.disk inside.closed inside.closed refl (λ is. is)
          (λ _ n is. refl) (λ _ h n is. refl) work (c.self.invariant.1),
      own_shared inside.shared new old work c.self.invariant.2,
    ) in
    (whole.0, whole.1, whole.2, c.self.invariant.3)

pub returns-clause-state : goal.returns-clause-state
returns-clause-state g c =
    let inside = c.self.inside in
    rw (← c.self.view_is) (same_state (under_way_in inside.next inside.job inside.waiting.items) true inside.slots.current
    c.named.new.files.items inside.files.items inside.prefix inside.messages.items c.named.ensures.same)

pub returns-clause-marked : goal.returns-clause-marked
returns-clause-marked g c =
    let D = g.D.Disk in
    let inside = c.self.inside in
    let s = state_of inside in
    let counted = (c.self.invariant.0).counted in
    let n = inside.total - c.len.result in
    let len : vec_len inside.messages ≡ length inside.messages.items = search rules in
    let before : n ≡ messages_of s.manifest.entries = omega (arith, counted.total_is, c.len.ensures, len) in
    let has : HasMark s c.args.mark =
    subst (λ (x : Seen g.row.D.Denot). HasMark x.state c.args.mark) (sym c.self.view_is) c.requires in
    rw (← c.self.view_is) (if_ok c.named.result _ _ (λ step told.
    as_marked (D.honest inside.disk) s inside.files.items n c.args.mark (change_of step) counted.valid
    (c.self.invariant.0).files_are before has
    (subst (λ (l : List (List ℕ)). IsMarkedAmong inside.files.items inside.prefix n l c.args.mark (change_of step))
    c.as_slice-messages.ensures.value told)) c.named.ensures.step)

pub returns-clause-told : goal.returns-clause-told
returns-clause-told g c =
    let D = g.D.Disk in
    let inside = c.self.inside in
    let s = state_of inside in
    let m = inside.slots.current in
    let counted = (c.self.invariant.0).counted in
    let held = (c.self.invariant.0).files_are in
    let n = inside.total - c.len.result in
    let len : vec_len inside.messages ≡ length inside.messages.items = search rules in
    let before : n ≡ messages_of s.manifest.entries = omega (arith, counted.total_is, c.len.ensures, len) in
    rw (← c.self.view_is) (λ shelf change later mark_is is.
    let shelf_of = shelf_is (D.honest inside.disk) s inside.files.items held refl in
    if_ok c.named.result _ _ (λ step told.
    told_is inside.files.items inside.prefix n inside.messages.items m.width m.wide c.args.mark (change_of step) shelf
    change later
    (subst (λ (l : List (List ℕ)). IsMarkedAmong inside.files.items inside.prefix n l c.args.mark (change_of step))
    c.as_slice-messages.ensures.value told) mark_is (shelf_of ∙ is)
    (before ∙ counted_in_front s inside.files.items counted.valid
    (as_many (D.honest inside.disk) (front_of m) inside.files.items held) refl ∙ ap before_active (sym shelf_of)))
    c.named.ensures.step)

pub returns-clause-honest : goal.returns-clause-honest
returns-clause-honest g c =
    let inside = c.self.inside in
    let m = inside.slots.current in
    let held = (c.self.invariant.0).files_are in
    rw (← c.self.view_is) (λ h. c.named.ensures.honest (honest_all (front_of m) inside.files.items
    (subst (λ (b : Bool). AreHeldAs b (front_of m) inside.files.items) h held)))
