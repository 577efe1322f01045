use Rattle.std.proofs.Common.{◌≡◌, IsTrue, IsSome, Some, refl, sym, ◌∙◌, subst}
use Rattle.std.proofs.Common.{ℕ, ◌≤◌, false, length, OnOk}
use Rattle.std.specs.Ordering.{nat_cmp}
use Rattle.std.specs.BTreeMap.{get}
use Rattle.flow_pending.specs.Tracked.{IsChangeable, IsTracked}
use Rattle.flow_disk.specs.Files.{Writes, while_writing}
use Rattle.flow_disk.specs.Moments.{Covers}
use Rattle.flow_directory.specs.File.{held_of}
use Rattle.flow_folder_disk.proofs.Inserting.{known_written, pending_written}
use Rattle.flow_folder_disk.proofs.Writing.{leaves_written}
use Rattle.flow_folder_disk.proofs.folder.Folder.write_pending.Goals as goal

pub invariant_of-self : goal.invariant_of-self
invariant_of-self g c = record {
  known = λ h.
      let k : IsTrue (g.S.Directory.honest c.args.self.now.system) = sym c.write.ensures.honest ∙ h in
      let some : get nat_cmp c.args.self.now.pending c.args.file ≡ Some c.in-Some.pending.now = sym
      c.in-Some.ensures.value in
      known_written (g.S.Directory.files c.args.self.now.system) (g.S.Directory.files c.write.new.dir)
      c.args.self.now.pending (c.get_mut.follows.lender c.write.new.self) c.args.self.now.names_pending
      c.args.self.now.names_lost c.args.file c.in-Some.pending.now c.write.new.self (c.args.self.now.known k) some
      ((c.get_mut.follows.holds c.write.new.self).3 (subst (λ o. IsSome o) (sym some) refl))
      (c.write.ensures.others k) c.write.ensures.file (c.write.ensures.changeable k) (c.write.ensures.tracked k);
}

pub returns-in-Some-clause-leaves : goal.returns-in-Some-clause-leaves
returns-in-Some-clause-leaves g c h =
    leaves_written g.S.Directory.files g.S.Directory.moment g.S.Directory.left_since c.args.self.now.system
    c.write.new.dir c.in-Some.pending.now.file c.args.file
    ((c.args.self.now.known h).each c.args.file c.in-Some.pending.now (sym c.in-Some.ensures.value)).number_is
    (c.write.ensures.others h) c.args.at c.args.octets.now (c.write.ensures.time h)

pub write-requires-clause-within : goal.write-requires-clause-within
write-requires-clause-within g c h = subst
    (λ (k : ℕ). c.args.at ≤ length (g.S.Directory.files c.args.self.now.system k).held.reads)
    (sym ((c.args.self.now.known h).each c.args.file c.in-Some.pending.now (sym c.in-Some.ensures.value)).number_is)
    (c.requires.within h)

pub write-requires-clause-changeable : goal.write-requires-clause-changeable
write-requires-clause-changeable g c h = subst (λ (k : ℕ). IsChangeable (g.S.Directory.files c.args.self.now.system k))
    (sym ((c.args.self.now.known h).each c.args.file c.in-Some.pending.now (sym c.in-Some.ensures.value)).number_is)
    ((c.args.self.now.known h).each c.args.file c.in-Some.pending.now (sym c.in-Some.ensures.value)).changeable

pub write-requires-clause-tracked : goal.write-requires-clause-tracked
write-requires-clause-tracked g c h =
    subst (λ (k : ℕ). IsTracked (g.S.Directory.files c.args.self.now.system k) c.in-Some.pending.now)
    (sym ((c.args.self.now.known h).each c.args.file c.in-Some.pending.now (sym c.in-Some.ensures.value)).number_is)
    ((c.args.self.now.known h).each c.args.file c.in-Some.pending.now (sym c.in-Some.ensures.value)).tracked

pub returns-in-Some-clause-honest : goal.returns-in-Some-clause-honest
returns-in-Some-clause-honest g c = c.write.ensures.honest

pub returns-in-Some-clause-pending : goal.returns-in-Some-clause-pending
returns-in-Some-clause-pending g c =
    let some : get nat_cmp c.args.self.now.pending c.args.file ≡ Some c.in-Some.pending.now = sym
    c.in-Some.ensures.value in
    pending_written c.args.self.now.pending (c.get_mut.follows.lender c.write.new.self) c.args.file
    c.in-Some.pending.now c.write.new.self some
    ((c.get_mut.follows.holds c.write.new.self).3 (subst (λ o. IsSome o) (sym some) refl))

pub returns-in-Some-clause-lost : goal.returns-in-Some-clause-lost
returns-in-Some-clause-lost g c = refl

pub returns-in-Some-clause-held : goal.returns-in-Some-clause-held
returns-in-Some-clause-held g c h =
    subst (λ (k : ℕ). Writes (held_of (g.S.Directory.files c.args.self.now.system))
    (held_of (g.S.Directory.files c.write.new.dir)) k
    c.args.at c.args.octets.now c.write.result)
    ((c.args.self.now.known h).each c.args.file c.in-Some.pending.now (sym c.in-Some.ensures.value)).number_is
    (c.write.ensures.held h)

pub returns-in-Some-clause-lent : goal.returns-in-Some-clause-lent
returns-in-Some-clause-lent g c h free = subst (λ (k : ℕ). (g.S.Directory.files c.write.new.dir k).lent ≡ false)
    ((c.args.self.now.known h).each c.args.file c.in-Some.pending.now (sym c.in-Some.ensures.value)).number_is
    (c.write.ensures.changeable h).free

pub returns-in-Some-clause-covered : goal.returns-in-Some-clause-covered
returns-in-Some-clause-covered g c h =
    subst (λ (k : ℕ). OnOk c.write.result (Covers (g.S.Directory.moment c.args.self.now.system)
    (g.S.Directory.left_since c.write.new.dir)
    (while_writing (held_of (g.S.Directory.files c.args.self.now.system)) k c.args.at c.args.octets.now)))
    ((c.args.self.now.known h).each c.args.file c.in-Some.pending.now (sym c.in-Some.ensures.value)).number_is
    (c.write.ensures.covered h)

pub returns-in-None-clause-honest : goal.returns-in-None-clause-honest
returns-in-None-clause-honest g c = refl

pub returns-in-None-clause-lost : goal.returns-in-None-clause-lost
returns-in-None-clause-lost g c = refl

pub returns-in-None-clause-lent : goal.returns-in-None-clause-lent
returns-in-None-clause-lent g c h free = free
