use Rattle.flow_folder_disk.proofs.Listed.{inserted_more}
use Rattle.flow_folder_disk.proofs.reporting.numbers_of.Goals as goal

pub loop-file-preserved : goal.loop-file-preserved
loop-file-preserved c n =
    inserted_more c.loop-file.numbers c.insert.new.self c.args.list.now c.loop-file.file-index n c.loop-file-test.true
    (c.loop-file.invariant n) c.in_ok-insert.ensures.updates
