use Rattle.flow_commands.proofs.streaming.feed_named.Goals as goal

pub returns : goal.returns
returns g c = (c.stream_by-streamed.result.collected.refused, c.stream_by-streamed.ensures)
