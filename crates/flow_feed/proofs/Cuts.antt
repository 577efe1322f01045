-- Messages in one piece of memory.
use Rattle.std.proofs.Common.{◌≡◌, ℕ, suc, ◌+◌, ◌-◌, ◌≤◌, ◌<◌, List, [], ◌∷◌, ◌++◌, length, take, drop, get_or}
use Rattle.std.proofs.Common.{refl, sym, ◌∙◌, ap, subst, arith, length-drop, length-append}
use Rattle.std.proofs.lemmas.List.{drop_all, drop_more, drop-append-le, take_all, take-append-le}
use Rattle.std.specs.Prelude.{slice_range}
use Rattle.flow_feed.specs.Held.{cut_at, AreEnds}

-- ---- ends

pub ends_within : (start : ℕ) (ends : List ℕ) (last : ℕ) → AreEnds start ends last → start ≤ last
ends_within start [] last is = omega (arith, is)
ends_within start (end ∷ ends) last (first, others) =
    let more = ends_within end ends last others in omega (arith, first, more)

-- the end of a message after the others
pub ends_pushed : (start : ℕ) (ends : List ℕ) (last end : ℕ) → AreEnds start ends last → last ≤ end
    → AreEnds start (ends ++ end ∷ []) end
ends_pushed start [] last end is later = (omega (arith, is, later), refl)
ends_pushed start (first ∷ ends) last end (ordered, others) later =
    (ordered, ends_pushed first ends last end others later)

-- ---- the messages

pub cut_long : (start : ℕ) (octets ends : List ℕ) → length (cut_at start octets ends) ≡ length ends
cut_long start octets [] = refl
cut_long start octets (end ∷ ends) = ap suc (cut_long end octets ends)

-- octets are where they were when others come after them
range_kept : (xs ys : List ℕ) (start end : ℕ) → start ≤ end → end ≤ length xs
    → slice_range (xs ++ ys) start end ≡ slice_range xs start end
range_kept xs ys start end ordered within =
    let left = length-drop start xs in
    ap (λ (l : List ℕ). take (end - start) l) (drop-append-le start xs ys (omega (arith, ordered, within)))
    ∙ take-append-le (end - start) (drop start xs) ys (omega (arith, ordered, within, left))

-- octets that come after others
range_new : (xs ys : List ℕ) (start end : ℕ) → start ≡ length xs → end ≡ length xs + length ys
    → slice_range (xs ++ ys) start end ≡ ys
range_new xs ys start end first last =
    ap (λ (l : List ℕ). take (end - start) l)
    (drop-append-le start xs ys (omega (arith, first)) ∙ ap (λ (l : List ℕ). l ++ ys)
    (drop_all start xs (omega (arith, first))))
    ∙ take_all (end - start) ys (omega (arith, first, last))

-- a message after the others
pub cut_pushed : (start : ℕ) (octets message ends : List ℕ) (end : ℕ) → AreEnds start ends (length octets)
    → end ≡ length octets + length message
    → cut_at start (octets ++ message) (ends ++ end ∷ []) ≡ cut_at start octets ends ++ message ∷ []
cut_pushed start octets message [] end is last =
    ap (λ (l : List ℕ). l ∷ []) (range_new octets message start end is last)
cut_pushed start octets message (first ∷ ends) end (ordered, others) last =
    rw (range_kept octets message start first ordered (ends_within first ends (length octets) others))
    (ap (λ (l : List (List ℕ)). slice_range octets start first ∷ l)
    (cut_pushed first octets message ends end others last))

-- the first of the messages that are left
pub cut_more : (start : ℕ) (octets ends : List ℕ) (i : ℕ) → i < length ends
    → cut_at start octets (drop i ends)
    ≡ slice_range octets start (get_or ends i 0) ∷ cut_at (get_or ends i 0) octets (drop (i + 1) ends)
cut_more start octets ends i more = ap (λ (l : List ℕ). cut_at start octets l) (drop_more ends i 0 more)

pub ends_more : (start : ℕ) (ends : List ℕ) (last i : ℕ) → i < length ends → AreEnds start (drop i ends) last
    → (start ≤ get_or ends i 0) × AreEnds (get_or ends i 0) (drop (i + 1) ends) last
ends_more start ends last i more are = rw (drop_more ends i 0 more) at are

-- ---- a message more, where the octets and the ends are these

module _ (octets ends message new more : List ℕ) (end : ℕ) (are : AreEnds 0 ends (length octets))
    (grown : new ≡ octets ++ message) (longer : more ≡ ends ++ end ∷ []) (last : end ≡ length new) where
  long : end ≡ length octets + length message
  long = last ∙ ap length grown ∙ length-append octets message

  pub pushed_ends : AreEnds 0 more (length new)
  pushed_ends =
      subst (λ (l : List ℕ). AreEnds 0 l (length new)) (sym longer)
      (subst (λ (n : ℕ). AreEnds 0 (ends ++ end ∷ []) n) last
      (ends_pushed 0 ends (length octets) end are (let is = long in omega (arith, is))))

  pub pushed_cut : cut_at 0 new more ≡ cut_at 0 octets ends ++ message ∷ []
  pushed_cut = rw (grown, longer) (cut_pushed 0 octets message ends end are long)
