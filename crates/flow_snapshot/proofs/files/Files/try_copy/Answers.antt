use Rattle.flow_snapshot.proofs.Sharing.{messages_same, same_sight, shared_same}
use Rattle.flow_snapshot.proofs.files.Files.try_copy.Goals as goal

pub returns : goal.returns
returns g c = λ width wide. same_sight (record {
  merged = c.in_ok-clone.field-0;
  rolled = c.in_ok-clone-2.field-0;
  sealed = c.in_ok-clone-3.field-0;
  prefix = c.in_ok-clone-4.field-0;
  active = c.in_ok-clone-5.field-0;
}) c.args.self.now (shared_same _ _ (c.in_ok-clone.ensures.cases).0)
    (shared_same _ _ (c.in_ok-clone-2.ensures.cases).0) (shared_same _ _ (c.in_ok-clone-3.ensures.cases).0)
    c.in_ok-clone-4.ensures.cases (messages_same _ _ (c.in_ok-clone-5.ensures.cases).0) width wide
