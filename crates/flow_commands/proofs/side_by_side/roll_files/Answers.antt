use Rattle.flow_commands.proofs.side_by_side.roll_files.Goals as goal

pub returns-in-Ok : goal.returns-in-Ok
returns-in-Ok g c =
    let rounds = c.in-Ok.ensures.rounds in record {
      rounds = rounds.0;
      rolled = record { made = rounds.1.made; done = rounds.1.done; refused = tt };
      unread = rw c.new-faults.ensures at c.in-Ok.ensures.unread;
    }

pub returns-in-Err : goal.returns-in-Err
returns-in-Err g c =
    let rounds = c.in-Err.ensures.rounds in record {
      rounds = rounds.0;
      rolled = record { made = rounds.1.made; done = tt; refused = rounds.1.refused };
      unread = rw c.new-faults.ensures at c.in-Err.ensures.unread;
    }
