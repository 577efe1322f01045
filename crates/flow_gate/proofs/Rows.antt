-- Gated lists in octets that begin alike.
use Rattle.std.proofs.Common.{refl, ◌≡◌, ℕ, ◌+◌, ◌≤◌, ◌<◌, List, [], ◌∷◌, ◌++◌, length, get_or, take, drop, sym, ◌∙◌}
use Rattle.std.proofs.Common.{ap, subst, arith}
use Rattle.std.proofs.lemmas.List.{take-take, drop-take, drop-drop, take-append-drop, length-take, get_or-take}
use Rattle.std.specs.List.{concat}
use Rattle.flow_gate.specs.Gate.{IsWhole, StandsAt, StandInRow, IsClosedAt, IsGated, octet_sum}

pub shorter : (few many : ℕ) (a b : List ℕ) → few ≤ many → take many a ≡ take many b → take few a ≡ take few b
shorter few many a b le same = sym (take-take few many a le) ∙ ap (λ (l : List ℕ). take few l) same
    ∙ take-take few many b le

pub same_octet : (bound place : ℕ) (a b : List ℕ) → place < bound → take bound a ≡ take bound b
    → get_or a place 0 ≡ get_or b place 0
same_octet bound place a b lt same = sym (get_or-take bound a place 0 lt) ∙ ap (λ (l : List ℕ). get_or l place 0) same
    ∙ get_or-take bound b place 0 lt

pub stands_front : (bound place : ℕ) (a b part : List ℕ) → place + length part ≤ bound → take bound a ≡ take bound b
    → StandsAt a place part → StandsAt b place part
stands_front bound place a b part le same stands =
    sym (drop-take place (length part) b)
    ∙ ap (λ (l : List ℕ). drop place l) (sym (shorter (place + length part) bound a b le same))
    ∙ drop-take place (length part) a ∙ stands

pub row_front : (bound place : ℕ) (a b : List ℕ) (list : List (List ℕ)) → place + octet_sum list ≤ bound
    → take bound a ≡ take bound b → StandInRow a place list → StandInRow b place list
row_front bound place a b [] le same row = row
row_front bound place a b (message ∷ list) le same row = (
  row.0,
  stands_front bound place a b message (omega arith) same row.1,
  row_front bound (place + length message) a b list (omega arith) same row.2,
)

pub closed_front : (place : ℕ) (a b : List ℕ) → take (place + 2) a ≡ take (place + 2) b → place + 2 ≤ length b
    → IsClosedAt a place → IsClosedAt b place
closed_front place a b same room closed = record {
  room = room;
  zero_octet = sym (same_octet (place + 2) place a b (omega arith) same) ∙ closed.zero_octet;
  shut = λ ten. closed.shut (same_octet (place + 2) (place + 1) a b (omega arith) same ∙ ten);
}

pub gated_at : (end from : ℕ) (a b : List ℕ) (list : List (List ℕ)) → take end a ≡ take end b → IsClosedAt b end
    → from + octet_sum list ≡ end → IsGated a from list → IsGated b from list
gated_at end from a b list same closed ends gated = record {
  row = row_front end from a b list (omega arith) same gated.row;
  closed = subst (λ (p : ℕ). IsClosedAt b p) (sym ends) closed;
}

pub gated_front : (end from : ℕ) (a b : List ℕ) (list : List (List ℕ)) → take (end + 2) a ≡ take (end + 2) b
    → end + 2 ≤ length b → from + octet_sum list ≡ end → IsGated a from list → IsGated b from list
gated_front end from a b list same room ends gated =
    gated_at end from a b list (shorter end (end + 2) a b (omega arith) same)
    (closed_front end a b same room (subst (λ (p : ℕ). IsClosedAt a p) ends gated.closed)) ends gated

pub octet_sum-push : (list : List (List ℕ)) (message : List ℕ)
    → octet_sum (list ++ message ∷ []) ≡ octet_sum list + length message
octet_sum-push [] message = omega arith
octet_sum-push (first ∷ list) message = omega (arith, octet_sum-push list message)

pub row_push : (octets : List ℕ) (place : ℕ) (list : List (List ℕ)) (message : List ℕ) → StandInRow octets place list
    → IsWhole message → StandsAt octets (place + octet_sum list) message
    → StandInRow octets place (list ++ message ∷ [])
row_push octets place [] message row whole stands =
    (whole, subst (λ (p : ℕ). StandsAt octets p message) (omega arith) stands, tt)
row_push octets place (first ∷ list) message row whole stands = (
  row.0,
  row.1,
  row_push octets (place + length first) list message row.2 whole
      (subst (λ (p : ℕ). StandsAt octets p message) (omega arith) stands),
)

-- two rows, one after the other
pub row_join : (octets : List ℕ) (place : ℕ) (list more : List (List ℕ)) → StandInRow octets place list
    → StandInRow octets (place + octet_sum list) more → StandInRow octets place (list ++ more)
row_join octets place [] more row rest = subst (λ (p : ℕ). StandInRow octets p more) (omega arith) rest
row_join octets place (first ∷ list) more row rest = (
  row.0,
  row.1,
  row_join octets (place + length first) list more row.2
      (subst (λ (p : ℕ). StandInRow octets p more) (omega arith) rest),
)

pub octet_sum-append : (list more : List (List ℕ)) → octet_sum (list ++ more) ≡ octet_sum list + octet_sum more
octet_sum-append [] more = omega arith
octet_sum-append (first ∷ list) more = omega (arith, octet_sum-append list more)

-- a list with more messages
pub gated_join : (end from : ℕ) (a b : List ℕ) (list more : List (List ℕ)) → take end a ≡ take end b
    → from + octet_sum list ≡ end → IsGated a from list
    → IsGated b end more → IsGated b from (list ++ more)
gated_join end from a b list more same ends gated rest = record {
  row = row_join b from list more (row_front end from a b list (omega arith) same gated.row)
      (subst (λ (p : ℕ). StandInRow b p more) (sym ends) rest.row);
  closed = subst (λ (p : ℕ). IsClosedAt b p) (omega (arith, ends, octet_sum-append list more)) rest.closed;
}

-- a row in a file that is cut after it
pub row_in_cut : (octets : List ℕ) (place count : ℕ) (list : List (List ℕ)) → place + octet_sum list ≤ count
    → StandInRow octets place list → StandInRow (take count octets) place list
row_in_cut octets place count list le row =
    row_front count place octets (take count octets) list le (sym (take-take count count octets (omega arith))) row

pub gated_in_cut : (octets : List ℕ) (place count : ℕ) (list : List (List ℕ)) → place + octet_sum list + 2 ≤ count
    → IsGated octets place list → IsGated (take count octets) place list
gated_in_cut octets place count list le gated = record {
  row = row_in_cut octets place count list (omega arith) gated.row;
  closed = closed_front (place + octet_sum list) octets (take count octets)
      (sym (take-take (place + octet_sum list + 2) count octets le))
      (omega (arith, gated.closed.room, le, length-take count octets)) gated.closed;
}

take_sum : (few more : ℕ) (octets : List ℕ) → take (few + more) octets ≡ take few octets ++ take more (drop few octets)
take_sum few more octets =
    let within : few ≤ few + more = omega arith in
    sym (take-append-drop few (take (few + more) octets))
    ∙ ap (λ l. l ++ drop few (take (few + more) octets)) (take-take few (few + more) octets within)
    ∙ ap (λ l. take few octets ++ l) (drop-take few more octets)

-- a row is its messages' octets
pub row_octets : (octets : List ℕ) (place : ℕ) (list : List (List ℕ)) → StandInRow octets place list
    → take (octet_sum list) (drop place octets) ≡ concat list
row_octets octets place [] row = refl
row_octets octets place (message ∷ list) row =
    take_sum (length message) (octet_sum list) (drop place octets)
    ∙ ap (λ l. l ++ take (octet_sum list) (drop (length message) (drop place octets))) row.1
    ∙ ap (λ l. message ++ take (octet_sum list) l) (drop-drop (length message) place octets)
    ∙ ap (λ l. message ++ l) (row_octets octets (place + length message) list row.2)

-- a row, parted
pub row_first : (octets : List ℕ) (place : ℕ) (list more : List (List ℕ)) → StandInRow octets place (list ++ more)
    → StandInRow octets place list
row_first octets place [] more row = tt
row_first octets place (first ∷ list) more row = (row.0, row.1, row_first octets (place + length first) list more row.2)

pub row_rest : (octets : List ℕ) (place : ℕ) (list more : List (List ℕ)) → StandInRow octets place (list ++ more)
    → StandInRow octets (place + octet_sum list) more
row_rest octets place [] more row = subst (λ (p : ℕ). StandInRow octets p more) (omega arith) row
row_rest octets place (first ∷ list) more row =
    subst (λ (p : ℕ). StandInRow octets p more) (omega arith) (row_rest octets (place + length first) list more row.2)
