use Rattle.flow_folder_disk.proofs.Inserting.{known_inserted}
use Rattle.flow_folder_disk.proofs.folder.Folder.keep.Goals as goal

pub invariant_of-self : goal.invariant_of-self
invariant_of-self g c = record {
  known = λ h. known_inserted (g.S.Directory.files c.args.self.now.system) c.args.self.now.pending c.insert.new.self
      c.args.self.now.names_pending c.args.self.now.names_lost c.args.file c.args.begun c.insert.result
      (c.args.self.now.known h) (c.requires h) c.insert.ensures.updates c.insert.ensures.err;
}
