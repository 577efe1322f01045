-- What placing a batch and opening its gate make of the octets of a file.
use Rattle.std.specs.Prelude.{◌≡◌, ◌⊎◌, ℕ, ◌+◌, List, [], ◌∷◌, ◌++◌, map, take, drop}
use Rattle.std.specs.Borrow.{Bor}
use Rattle.std.specs.List.{concat}
use Rattle.flow_disk.specs.Disk.{put_at}
use Rattle.flow_gate.specs.Gate.{IsGated, IsPlaced, octet_sum}

-- the octets of each message
abbrev pub slices : List (Bor (List ℕ)) → List (List ℕ)
slices messages = map (λ (message : Bor (List ℕ)). message.now) messages

-- the messages from the third octet of the first one on, written after the gate at `end`
abbrev pub put_behind : List ℕ → ℕ → List (List ℕ) → List ℕ
put_behind octets end messages = put_at octets (end + 2) (drop 2 (concat messages))

-- and then the trailer
abbrev pub put_batch : List ℕ → ℕ → List (List ℕ) → List ℕ
put_batch octets end messages = put_at octets (end + 2) (drop 2 (concat messages) ++ 0 ∷ 0 ∷ [])

-- The octets up to the gate at `end`, and the gate, are as they were, and so is each list that ends there.
pub record KeepsLists (end : ℕ) (before after : List ℕ) : Type 0 where
  pub front : take (end + 2) after ≡ take (end + 2) before
  pub lists : (from : ℕ) (list : List (List ℕ)) → IsGated before from list → from + octet_sum list ≡ end
      → IsGated after from list

-- The same, and the messages are placed at the gate.
pub record Places (end : ℕ) (messages : List (List ℕ)) (before after : List ℕ) : Type 0 where
  pub kept : KeepsLists end before after
  pub placed : IsPlaced after end messages

-- Each list that ended at `end` is as it was, or has all these messages more.
pub record MayAdd (end : ℕ) (messages : List (List ℕ)) (before after : List ℕ) : Type 0 where
  pub front : take end after ≡ take end before
  pub lists : (from : ℕ) (list : List (List ℕ)) → IsGated before from list → from + octet_sum list ≡ end
      → IsGated after from list ⊎ IsGated after from (list ++ messages)

-- Each list that ended at `end` has all these messages more.
pub record Adds (end : ℕ) (messages : List (List ℕ)) (before after : List ℕ) : Type 0 where
  pub front : take end after ≡ take end before
  pub lists : (from : ℕ) (list : List (List ℕ)) → IsGated before from list → from + octet_sum list ≡ end
      → IsGated after from (list ++ messages)
