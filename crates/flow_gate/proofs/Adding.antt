-- A batch that is placed and then opened.
use Rattle.std.proofs.Common.{◌≡◌, inl, ℕ, ◌+◌, List, [], take, ◌∙◌, subst, arith}
use Rattle.flow_gate.specs.Gate.{IsClosedAt, IsGated, octet_sum}
use Rattle.flow_gate.specs.Steps.{KeepsLists, MayAdd, Adds}
use Rattle.flow_gate.proofs.Rows.{shorter}

front_shorter : (end : ℕ) (before after : List ℕ) → KeepsLists end before after → take end after ≡ take end before
front_shorter end before after kept = shorter end (end + 2) after before (omega arith) kept.front

-- lists that are kept may be added to later
pub kept_may_add : (end : ℕ) (messages : List (List ℕ)) (a b : List ℕ) → KeepsLists end a b → MayAdd end messages a b
kept_may_add end messages a b kept =
    record { front = front_shorter end a b kept; lists = λ from list gated ends. inl (kept.lists from list gated ends) }

pub kept_then_may_add : (end : ℕ) (messages : List (List ℕ)) (a b c : List ℕ) → KeepsLists end a b
    → MayAdd end messages b c → MayAdd end messages a c
kept_then_may_add end messages a b c kept opens = record {
  front = opens.front ∙ front_shorter end a b kept;
  lists = λ from list gated ends. opens.lists from list (kept.lists from list gated ends) ends;
}

pub kept_then_adds : (end : ℕ) (messages : List (List ℕ)) (a b c : List ℕ) → KeepsLists end a b → Adds end messages b c
    → Adds end messages a c
kept_then_adds end messages a b c kept opens = record {
  front = opens.front ∙ front_shorter end a b kept;
  lists = λ from list gated ends. opens.lists from list (kept.lists from list gated ends) ends;
}

-- the closed gate after the batch, where the next one goes
pub closed_behind : (end : ℕ) (messages : List (List ℕ)) (before after : List ℕ) → IsClosedAt before end
    → Adds end messages before after → IsClosedAt after (end + octet_sum messages)
closed_behind end messages before after closed adds =
    let here : IsGated before end [] =
    record { row = tt; closed = subst (λ (p : ℕ). IsClosedAt before p) (omega arith) closed } in
    let gated = adds.lists end [] here (omega arith) in
    gated.closed
