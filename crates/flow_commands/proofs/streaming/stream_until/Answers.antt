use Rattle.flow_commands.proofs.streaming.stream_until.Goals as goal

pub returns : goal.returns
returns g c = record {
  old = c.new-appender.result;
  new = c.take_until-collected.new.appender;
  whole = c.new-appender.ensures;
  taken = c.take_until-collected.ensures;
}
