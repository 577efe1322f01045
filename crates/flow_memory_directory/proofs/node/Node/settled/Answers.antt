use Rattle.std.proofs.Common.{rules, ◌≡◌, ◌<◌, ◌∙◌, ℕ, List, length, get_or, sym, ap, subst}
use Rattle.flow_memory_directory.proofs.node.Node.settled.Goals as goal

pub invariant_of-result-clause-kept : goal.invariant_of-result-clause-kept
invariant_of-result-clause-kept c named =
    let memory : c.in_ok-memory.memory.items ≡ c.args.octets.now = search rules in
    let blocks : c.in_ok-blocks.blocks.items ≡ c.args.octets.now = search rules in
    let same = blocks ∙ sym memory in
    record {
      within = λ place lt clean. subst (λ (l : List ℕ). place < length l) (sym same) lt;
      same = λ place lt clean. ap (λ (l : List ℕ). get_or l place 0) same;
      end_is = λ clean. sym (ap (λ (l : List ℕ). length l) memory);
    }
