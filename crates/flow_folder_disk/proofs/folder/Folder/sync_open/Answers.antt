use Rattle.std.proofs.Common.{IsTrue, sym, ◌∙◌}
use Rattle.std.specs.Ordering.{nat_cmp}
use Rattle.std.specs.BTreeMap.{get}
use Rattle.flow_directory.specs.File.{held_of}
use Rattle.flow_folder_disk.proofs.Knowing.{known_one, known_same}
use Rattle.flow_folder_disk.proofs.Leaving.{honest_then, leaves_one, leaves_stays, leaves_then, seen_same}
use Rattle.flow_folder_disk.proofs.Synced.{synced_open, synced_seen}
use Rattle.flow_folder_disk.proofs.folder.Folder.sync_open.Goals as goal

pub invariant_of-self-in-Err-1 : goal.invariant_of-self-in-Err-1
invariant_of-self-in-Err-1 g c = record {
  known = λ h.
      let k : IsTrue (g.S.Directory.honest c.args.self.now.system) = sym c.sync.ensures.honest ∙ h in
      known_one (g.S.Directory.files c.args.self.now.system) (g.S.Directory.files c.sync.new.self)
      (λ n. get nat_cmp c.args.self.now.pending n) c.args.self.now.names_pending
      c.args.self.now.names_lost c.args.file (c.args.self.now.known k) c.requires.absent (c.sync.ensures.others k)
      (c.sync.ensures.synced k).parts.dirty_entry (c.sync.ensures.synced k).parts.lost_entry;
}

pub returns-in-Ok-clause-synced : goal.returns-in-Ok-clause-synced
returns-in-Ok-clause-synced g c h =
    let k : IsTrue (g.S.Directory.honest c.sync.new.self) = honest_then (g.S.Directory.honest c.args.self.now.system)
    (g.S.Directory.honest c.sync.new.self) c.sync.ensures.honest h in
    synced_seen (g.S.Directory.files c.args.self.now.system c.args.file)
    (g.S.Directory.files c.sync.new.self c.args.file) (g.S.Directory.files c.close.new.self c.args.file) tt _
    (synced_open (g.S.Directory.files c.args.self.now.system c.args.file)
    (g.S.Directory.files c.sync.new.self c.args.file) _ (c.in-Ok.ensures.synced h) (c.requires.sure h))
    (seen_same (g.S.Directory.files c.sync.new.self c.args.file) (g.S.Directory.files c.close.new.self c.args.file)
    (c.close.ensures.files k c.args.file))

pub returns-in-Ok-clause-leaves : goal.returns-in-Ok-clause-leaves
returns-in-Ok-clause-leaves g c h =
    let k : IsTrue (g.S.Directory.honest c.sync.new.self) = honest_then (g.S.Directory.honest c.args.self.now.system)
    (g.S.Directory.honest c.sync.new.self) c.sync.ensures.honest h in
    leaves_then g.S.Directory.files g.S.Directory.moment g.S.Directory.left_since c.args.self.now.system c.sync.new.self
    c.close.new.self c.args.file
    (leaves_one g.S.Directory.files g.S.Directory.moment g.S.Directory.left_since c.args.self.now.system c.sync.new.self
    c.args.file (held_of (g.S.Directory.files c.args.self.now.system)) (c.sync.ensures.others h)
    (c.sync.ensures.time h))
    (c.sync.ensures.synced h).within
    (leaves_stays g.S.Directory.files g.S.Directory.moment g.S.Directory.left_since c.sync.new.self c.close.new.self
    c.args.file (c.close.ensures.files k) (c.close.ensures.time k))

pub invariant_of-self : goal.invariant_of-self
invariant_of-self g c = record {
  known = λ h.
      let files = g.S.Directory.files in
      let now = c.args.self.now in
      let synced : IsTrue (g.S.Directory.honest c.sync.new.self) = sym c.close.ensures.honest ∙ h in
      let k : IsTrue (g.S.Directory.honest now.system) = sym c.sync.ensures.honest ∙ synced in
      known_same (files c.sync.new.self) (files c.close.new.self) (λ n. get nat_cmp now.pending n) now.names_pending
      now.names_lost
      (known_one (files now.system) (files c.sync.new.self) (λ n. get nat_cmp now.pending n) now.names_pending
      now.names_lost c.args.file (now.known k) c.requires.absent (c.sync.ensures.others k)
      (c.sync.ensures.synced k).parts.dirty_entry (c.sync.ensures.synced k).parts.lost_entry)
      (c.close.ensures.files synced);
}
