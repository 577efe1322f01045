use Rattle.std.proofs.Common.{◌≡◌, ℕ, ◌-◌, List, [], ◌∷◌, length, drop, take, arith, replicate}
use Rattle.std.proofs.lemmas.List.{append-nil, drop_all, length-drop, take-replicate}
use Rattle.flow_elements.proofs.value.padded.Goals as goal

pub returns : goal.returns
returns c =
    let n = length c.args.octets.now in
    let zeros : List ℕ = 0 ∷ 0 ∷ 0 ∷ 0 ∷ 0 ∷ 0 ∷ 0 ∷ 0 ∷ [] in
    let none : drop (8 - (8 - n)) (drop (8 - n) zeros) ≡ [] =
    drop_all (8 - (8 - n)) (drop (8 - n) zeros) (omega (arith, length-drop (8 - n) zeros)) in
    let front : take (8 - n) zeros ≡ replicate (8 - n) 0 = take-replicate (8 - n) 8 0 (omega arith) in
    rw (c.copy_from_slice.ensures.after, none, append-nil c.args.octets.now, front) at c.from_be_bytes.ensures
