use Rattle.std.proofs.Common.{inl}
use Rattle.flow_shell.proofs.shell.serve_reader.Goals as goal

pub returns-clause-served : goal.returns-clause-served
returns-clause-served g c =
    let beside = c.serve_beside-status in
    inl (record {
      status = beside.result.0;
      answered = beside.ensures.unanswered;
      refused = beside.result.1;
      rolled = beside.ensures.rolled;
      ended = c.ended.ensures.value;
    })
