-- Laws of a part that is read piece by piece.
use Rattle.std.proofs.Common.{◌≡◌, ℕ, ◌+◌, List, ◌++◌, length, take, drop, refl, sym, ap, ◌∙◌, length-append}
use Rattle.std.proofs.lemmas.List.{drop-drop, drop-take, drop_at}
use Rattle.flow_disk.specs.Window.{Window, IsOn}

-- after some of the octets ahead
pub passed_on : (octets front : List ℕ) (old new : Window) → IsOn octets old → old.ahead ≡ front ++ new.ahead
    → new.place ≡ old.place + length front → IsOn octets new
passed_on octets front old new on is at =
    let xs = drop old.place octets in
    let size : length old.ahead ≡ length front + length new.ahead =
    ap (λ (l : List ℕ). length l) is ∙ length-append front new.ahead in
    sym (drop_at front new.ahead (length front) refl)
    ∙ ap (drop (length front)) (sym is ∙ on ∙ ap (λ (n : ℕ). take n xs) size)
    ∙ drop-take (length front) (length new.ahead) xs
    ∙ ap (take (length new.ahead)) (drop-drop (length front) old.place octets ∙ ap (λ (n : ℕ). drop n octets) (sym at))
