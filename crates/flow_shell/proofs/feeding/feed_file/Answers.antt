use Rattle.flow_shell.proofs.feeding.feed_file.Goals as goal

pub returns : goal.returns
returns g c = (
  c.take_input-collected.result.refused,
  record {
    old = c.new-appender.result;
    new = c.take_input-collected.new.appender;
    whole = c.new-appender.ensures;
    taken = c.take_input-collected.ensures;
  },
)
