use Rattle.flow_commands.specs.Plans.{IsPlanned}
use Rattle.flow_commands.proofs.feeding.feed_files.Given as goal

-- what the bell may keep
abbrev pub ghosts-feed_beside : goal.ghosts-feed_beside
ghosts-feed_beside g a = record { asked = IsPlanned a.plan }
