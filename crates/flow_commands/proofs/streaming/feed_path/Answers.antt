use Rattle.std.proofs.Common.{inl, inr}
use Rattle.flow_commands.proofs.streaming.feed_path.Goals as goal

pub returns-in-Ok : goal.returns-in-Ok
returns-in-Ok g c = inl (c.in-Ok.file, g.H.File.Read.remaining c.feed_named.new.input, c.feed_named.ensures)

pub returns-in-Err : goal.returns-in-Err
returns-in-Err g c = inr c.unopened.ensures.some
