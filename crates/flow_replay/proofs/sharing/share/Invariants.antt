use Rattle.std.proofs.Common.{true}
use Rattle.flow_model.specs.Shelved.{shelf_of}
use Rattle.flow_replay.proofs.sharing.share.Given as goal

-- the start that is made
abbrev pub ghosts-answer_all : goal.ghosts-answer_all
ghosts-answer_all g a =
    record { book = a.opened.seen.book; opening = shelf_of a.archive.state; honest = true }
