use Rattle.flow_model.specs.Shelved.{shelf_of}
use Rattle.flow_shell.proofs.shell.serve_disk.Given as goal

-- the start that is made
abbrev pub ghosts-serve_archive : goal.ghosts-serve_archive
ghosts-serve_archive g a =
    record {
      book = a.opened.seen.book;
      opening = shelf_of a.archive.state;
      honest = g.D.Disk.honest a.archive.disk;
    }
