use Rattle.flow_commands.proofs.streaming.stream.Goals as goal

pub returns : goal.returns
returns g c = record {
  old = c.new-appender.result;
  new = c.take_input-collected.new.appender;
  whole = c.new-appender.ensures;
  taken = rw c.new-input.ensures at c.take_input-collected.ensures;
}
