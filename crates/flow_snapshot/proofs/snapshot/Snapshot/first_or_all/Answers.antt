use Rattle.flow_snapshot.proofs.Dealt.{refused_read}
use Rattle.flow_snapshot.proofs.Joining.{refused_answer, refused_worker}
use Rattle.flow_snapshot.proofs.snapshot.Snapshot.first_or_all.Goals as goal

pub returns-in-Some-clause-given : goal.returns-in-Some-clause-given
returns-in-Some-clause-given g c = λ honest wide narrow are_wide are_narrow.
    refused_worker c.args.self.now c.args.shares.items c.in-Some.n c.args.first c.swap_remove.result c.answer_of.result
    (rw c.as_slice.ensures.value at c.in-Some.ensures) c.swap_remove.ensures.value c.requires.shares
    c.answer_of.ensures.answer honest wide narrow are_wide are_narrow

pub returns-in-Some-clause-found : goal.returns-in-Some-clause-found
returns-in-Some-clause-found g c = λ honest. refused_read _ c.answer_of.result (refused_answer c.args.shares.items
    c.in-Some.n c.swap_remove.result c.answer_of.result (rw c.as_slice.ensures.value at c.in-Some.ensures)
    c.swap_remove.ensures.value c.answer_of.ensures.answer)
