use Rattle.std.proofs.Common.{IsTrue, ap, sym, ◌∙◌}
use Rattle.std.specs.Ordering.{nat_cmp}
use Rattle.std.specs.BTreeMap.{get}
use Rattle.flow_directory.specs.File.{File}
use Rattle.flow_folder_disk.proofs.Knowing.{known_same}
use Rattle.flow_folder_disk.proofs.Leaving.{leaves_stays}
use Rattle.flow_folder_disk.proofs.Writing.{leaves_cut}
use Rattle.flow_folder_disk.proofs.folder.Folder.cut_pending.Goals as goal

pub invariant_of-self : goal.invariant_of-self
invariant_of-self g c = record {
  known = λ h.
      let k : IsTrue (g.S.Directory.honest c.args.self.now.system) = sym c.length.ensures.honest ∙ h in
      known_same (g.S.Directory.files c.args.self.now.system) (g.S.Directory.files c.length.new.self)
      (λ n. get nat_cmp c.args.self.now.pending n)
      c.args.self.now.names_pending c.args.self.now.names_lost (c.args.self.now.known k) (c.length.ensures.files k);
}

pub returns-clause-leaves : goal.returns-clause-leaves
returns-clause-leaves g c h =
    let S = g.S.Directory in
    let s0 = c.args.self.now.system in
    let s1 = c.length.new.self in
    let s2 = c.truncate_pending.new.self.system in
    let file = c.args.file in
    leaves_cut S.files S.moment S.left_since s0 s1 s2 file
    (leaves_stays S.files S.moment S.left_since s0 s1 file (c.length.ensures.files h) (c.length.ensures.time h))
    (ap (λ (f : File). f.held) (c.length.ensures.files h file)) c.args.count
    (c.truncate_pending.ensures.leaves (c.length.ensures.honest ∙ h))
