use Rattle.flow_model.specs.Shelved.{shelf_of}
use Rattle.flow_commands.proofs.feeding.feed_on.Given as goal

-- the start that is made
abbrev pub ghosts-feed_files : goal.ghosts-feed_files
ghosts-feed_files g a =
    record {
      book = a.opened.seen.book;
      opening = shelf_of a.archive.state;
      honest = g.D.Disk.honest a.archive.disk;
    }
