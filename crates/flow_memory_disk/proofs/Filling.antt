-- One octet more of a file that a stop fills.
use Rattle.std.proofs.Common.{◌≡◌, ℕ, ◌+◌, ◌<◌, Bool, true, false, List, [], ◌∷◌, ◌++◌, length, take, drop, get_or, set}
use Rattle.std.proofs.Common.{sym, ◌∙◌, ap, arith, add-one, drop-cons, if◌then◌else◌}
use Rattle.std.proofs.lemmas.List.{append_assoc, take_more, take_more_set, drop-set-lt}
use Rattle.flow_memory_disk.specs.Stopped.{is_settled, next, filled}

module _ (fast : ℕ) (touched : List (ℕ × ℕ)) (octets reads now : List ℕ) (place used : ℕ) (lt : place < length reads)
    (long : length now ≡ length reads) (behind : drop place now ≡ drop place reads) where
  here_now : drop place now ≡ get_or now place 0 ∷ drop (place + 1) now
  here_now = rw (add-one, drop-cons now place 0 (omega arith))

  here : drop place reads ≡ get_or reads place 0 ∷ drop (place + 1) reads
  here = rw (add-one, drop-cons reads place 0 lt)

  pub behind_on : drop (place + 1) now ≡ drop (place + 1) reads
  behind_on = cc (here_now, here)

  same : get_or now place 0 ≡ get_or reads place 0
  same = cc (here_now, here)

  pub stays : is_settled fast touched place ≡ true
      → take (place + 1) now ++ filled fast touched octets (place + 1) used
      (drop (place + 1) reads) ≡ take place now ++ filled fast touched octets place used (drop place reads)
  stays kept =
      let rest = filled fast touched octets (place + 1) used (drop (place + 1) reads) in
      ap (λ (l : List ℕ). l ++ rest) (take_more now place 0 (omega arith)
      ∙ ap (λ (x : ℕ). take place now ++ x ∷ []) same)
      ∙ append_assoc (take place now) (get_or reads place 0 ∷ []) rest
      ∙ sym (ap (λ (l : List ℕ). take place now ++ filled fast touched octets place used l) here
      ∙ ap (λ (b : Bool). take place now ++
      (if b then get_or reads place 0 ∷ rest else get_or octets used 0 ∷ filled fast touched octets (place + 1)
      (next octets used) (drop (place + 1) reads))) kept)

  pub changes : is_settled fast touched place ≡ false
      → take (place + 1) (set now place (get_or octets used 0)) ++ filled fast touched octets (place + 1)
      (next octets used) (drop (place + 1) reads)
      ≡ take place now ++ filled fast touched octets place used (drop place reads)
  changes loose =
      let rest = filled fast touched octets (place + 1) (next octets used) (drop (place + 1) reads) in
      ap (λ (l : List ℕ). l ++ rest) (take_more_set now place (get_or octets used 0) (omega arith))
      ∙ append_assoc (take place now) (get_or octets used 0 ∷ []) rest
      ∙ sym (ap (λ (l : List ℕ). take place now ++ filled fast touched octets place used l) here
      ∙ ap (λ (b : Bool). take place now ++
      (if b then get_or reads place 0 ∷ filled fast touched octets (place + 1) used
      (drop (place + 1) reads) else get_or octets used 0 ∷ rest)) loose)

  pub behind_changed : (octet : ℕ) → drop (place + 1) (set now place octet) ≡ drop (place + 1) reads
  behind_changed octet = drop-set-lt (place + 1) now place octet (omega arith) ∙ behind_on
