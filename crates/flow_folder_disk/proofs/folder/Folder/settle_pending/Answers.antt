use Rattle.std.proofs.Common.{◌≡◌, IsTrue, IsSome, Some, refl, sym, ◌∙◌, subst}
use Rattle.std.proofs.Common.{ℕ}
use Rattle.std.specs.Ordering.{nat_cmp}
use Rattle.std.specs.BTreeMap.{get}
use Rattle.flow_pending.specs.Tracked.{IsChangeable, IsTracked, Settles}
use Rattle.flow_folder_disk.proofs.Inserting.{known_written, pending_written}
use Rattle.flow_folder_disk.proofs.Writing.{leaves_settled}
use Rattle.flow_folder_disk.proofs.folder.Folder.settle_pending.Goals as goal

pub invariant_of-self : goal.invariant_of-self
invariant_of-self g c = record {
  known = λ h.
      let k : IsTrue (g.S.Directory.honest c.args.self.now.system) = sym c.sync.ensures.honest ∙ h in
      let some : get nat_cmp c.args.self.now.pending c.args.file ≡ Some c.in-Some.pending.now = sym
      c.in-Some.ensures.value in
      known_written (g.S.Directory.files c.args.self.now.system) (g.S.Directory.files c.sync.new.dir)
      c.args.self.now.pending (c.get_mut.follows.lender c.sync.new.self) c.args.self.now.names_pending
      c.args.self.now.names_lost c.args.file c.in-Some.pending.now c.sync.new.self (c.args.self.now.known k) some
      ((c.get_mut.follows.holds c.sync.new.self).3 (subst (λ o. IsSome o) (sym some) refl))
      (c.sync.ensures.others k) c.sync.ensures.file (c.sync.ensures.changeable k) (c.sync.ensures.tracked k);
}

pub returns-in-Some-clause-leaves : goal.returns-in-Some-clause-leaves
returns-in-Some-clause-leaves g c h =
    leaves_settled g.S.Directory.files g.S.Directory.moment g.S.Directory.left_since c.args.self.now.system
    c.sync.new.dir c.in-Some.pending.now.file c.args.file
    ((c.args.self.now.known h).each c.args.file c.in-Some.pending.now (sym c.in-Some.ensures.value)).number_is
    (c.sync.ensures.others h) (c.sync.ensures.time h)

pub returns-in-Some-clause-settles : goal.returns-in-Some-clause-settles
returns-in-Some-clause-settles g c h = subst (λ k. Settles (g.S.Directory.files c.args.self.now.system k)
    (g.S.Directory.files c.sync.new.dir k) c.sync.result)
    ((c.args.self.now.known h).each c.args.file c.in-Some.pending.now (sym c.in-Some.ensures.value)).number_is
    (c.sync.ensures.settles h)

pub sync-requires-clause-changeable : goal.sync-requires-clause-changeable
sync-requires-clause-changeable g c h = subst (λ (k : ℕ). IsChangeable (g.S.Directory.files c.args.self.now.system k))
    (sym ((c.args.self.now.known h).each c.args.file c.in-Some.pending.now (sym c.in-Some.ensures.value)).number_is)
    ((c.args.self.now.known h).each c.args.file c.in-Some.pending.now (sym c.in-Some.ensures.value)).changeable

pub sync-requires-clause-tracked : goal.sync-requires-clause-tracked
sync-requires-clause-tracked g c h =
    subst (λ (k : ℕ). IsTracked (g.S.Directory.files c.args.self.now.system k) c.in-Some.pending.now)
    (sym ((c.args.self.now.known h).each c.args.file c.in-Some.pending.now (sym c.in-Some.ensures.value)).number_is)
    ((c.args.self.now.known h).each c.args.file c.in-Some.pending.now (sym c.in-Some.ensures.value)).tracked

pub returns-in-Some-clause-honest : goal.returns-in-Some-clause-honest
returns-in-Some-clause-honest g c = c.sync.ensures.honest

pub returns-in-Some-clause-pending : goal.returns-in-Some-clause-pending
returns-in-Some-clause-pending g c =
    let some : get nat_cmp c.args.self.now.pending c.args.file ≡ Some c.in-Some.pending.now = sym
    c.in-Some.ensures.value in
    pending_written c.args.self.now.pending (c.get_mut.follows.lender c.sync.new.self) c.args.file
    c.in-Some.pending.now c.sync.new.self some
    ((c.get_mut.follows.holds c.sync.new.self).3 (subst (λ o. IsSome o) (sym some) refl))

pub returns-in-Some-clause-lost : goal.returns-in-Some-clause-lost
returns-in-Some-clause-lost g c = refl

pub returns-in-Some-clause-names : goal.returns-in-Some-clause-names
returns-in-Some-clause-names g c = refl

pub returns-in-None-clause-names : goal.returns-in-None-clause-names
returns-in-None-clause-names g c = refl

pub returns-in-None-clause-honest : goal.returns-in-None-clause-honest
returns-in-None-clause-honest g c = refl

pub returns-in-None-clause-lost : goal.returns-in-None-clause-lost
returns-in-None-clause-lost g c = refl
