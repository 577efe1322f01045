use Rattle.std.proofs.Common.{true}
use Rattle.flow_model.specs.Shelved.{shelf_of}
use Rattle.flow_checks.proofs.sharing.tried.Given as goal

-- the start that is made
abbrev pub ghosts-share : goal.ghosts-share
ghosts-share g a =
    record { book = a.opened.seen.book; opening = shelf_of a.archive.state; honest = true }
