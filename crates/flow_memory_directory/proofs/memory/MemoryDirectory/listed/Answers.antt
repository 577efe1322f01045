use Rattle.std.proofs.Common.{inl, inr, ⊎_elim, arith}
use Rattle.std.proofs.lemmas.Bool.{cases_lt}
use Rattle.flow_memory_directory.proofs.AllFiles.{linked_within}
use Rattle.flow_memory_directory.proofs.memory.MemoryDirectory.listed.Goals as goal

pub places-preserved : goal.places-preserved
places-preserved c n = (
  λ is. ⊎_elim (λ before. let both = (c.places.invariant n).0 before in (omega (arith, both.0), both.1))
      (λ both. (omega (arith, both.0), both.1)) ((c.in_ok-list_node.ensures n).0 is),
  λ both. ⊎_elim (λ lt. (c.in_ok-list_node.ensures n).1 (inl ((c.places.invariant n).1 (lt, both.1))))
      (λ ge. (c.in_ok-list_node.ensures n).1 (inr (omega (arith, ge, both.0), both.1))) (cases_lt n c.places.place),
)

pub returns : goal.returns
returns c n = (
  λ is. ((c.places.invariant n).0 is).1,
  λ linked. (c.places.invariant n).1
      (omega (arith, linked_within c.args.self.now n linked, c.args.self.now.nodes.ok.0), linked),
)
