use Rattle.flow_folder_disk.specs.Table.{marks_in}
use Rattle.flow_folder_disk.proofs.Listed.{added_more}
use Rattle.flow_folder_disk.proofs.reported.Table.add_all.Goals as goal

pub loop-file-preserved : goal.loop-file-preserved
loop-file-preserved c n =
    added_more c.args.numbers.now c.loop-file.numbers c.add.new.numbers c.args.files.now c.loop-file.file-index n
    (marks_in c.args.self.now n).listed c.loop-file-test.true (c.loop-file.invariant n) (c.in_ok-add.ensures n)
