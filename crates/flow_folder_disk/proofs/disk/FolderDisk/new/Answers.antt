use Rattle.std.proofs.Common.{◌∙◌}
use Rattle.flow_folder_disk.specs.Table.{marks_in}
use Rattle.flow_folder_disk.specs.Marking.{frozen_of}
use Rattle.flow_folder_disk.proofs.disk.FolderDisk.new.Goals as goal

pub returns-clause-thawed : goal.returns-clause-thawed
returns-clause-thawed g c = λ n.
    frozen_of (g.S.Directory.honest c.new-folder.result.system) (marks_in c.new-table.result n)
    (g.S.Directory.files c.new-folder.result.system n) ∙ c.new-table.ensures.frozen n
