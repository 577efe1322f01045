-- Accepted messages, one list after another, and what prefixes restate.
use Rattle.std.proofs.Common.{◌≡◌, ℕ, zero, suc, List, [], ◌∷◌, ◌++◌, length, take, drop, refl, sym, ap, subst, ◌∙◌}
use Rattle.std.proofs.Common.{append-nil, append_assoc, arith, inl}
use Rattle.std.specs.List.{AllByRecursion}
use Rattle.std.proofs.lemmas.List.{take-map, drop-map}
use Rattle.std.proofs.Math.Seq.{take-append_seam, drop-append_seam, take-add}
use Rattle.std.proofs.lemmas.List.{length-append}
use Rattle.flow_codec.specs.Templates.{AllTemplates}
use Rattle.flow_codec.specs.Message.{joined}
use Rattle.flow_codec.specs.Cutting.{IsCutOff}
use Rattle.flow_codec.proofs.Dividing.{one_division}
use Rattle.flow_codec.proofs.RestatingAll.{message_cut}
use Rattle.flow_measure.specs.History.{Accepted, AreAcceptedFrom, read_from, templates_from}
use Rattle.flow_measure.proofs.Histories.{read_again}
use Rattle.flow_segment.specs.Carry.{Carry, IsCarry, carry_from, carry_of, no_carry, carry_with, octets_of, prefix_of}
use Rattle.flow_segment.specs.Carry.{restated}
use Rattle.flow_segment.specs.Prefix.{AreRead, IsRestated}
use Rattle.flow_segment.proofs.Carrying.{carries, is_read_back}
use Rattle.flow_model.specs.Shelf.{Segment, messages_in}
use Rattle.flow_model.specs.Views.{AreRestated}
use Rattle.flow_model.specs.Changes.{CallsFor}

pub templates_then : (before : AllTemplates) (xs ys : List Accepted)
    → templates_from before (xs ++ ys) ≡ templates_from (templates_from before xs) ys
templates_then before [] ys = refl
templates_then before (x ∷ xs) ys = templates_then x.after xs ys

pub accepted_then : (before : AllTemplates) (xs ys : List Accepted) → AreAcceptedFrom before xs
    → AreAcceptedFrom (templates_from before xs) ys → AreAcceptedFrom before (xs ++ ys)
accepted_then before [] ys h k = k
accepted_then before (x ∷ xs) ys h k = (h.0, accepted_then x.after xs ys h.1 k)

pub accepted_first : (before : AllTemplates) (n : ℕ) (xs : List Accepted) → AreAcceptedFrom before xs
    → AreAcceptedFrom before (take n xs)
accepted_first before zero xs h = tt
accepted_first before (suc n) [] h = tt
accepted_first before (suc n) (x ∷ xs) h = (h.0, accepted_first x.after n xs h.1)

pub accepted_rest : (before : AllTemplates) (n : ℕ) (xs : List Accepted) → AreAcceptedFrom before xs
    → AreAcceptedFrom (templates_from before (take n xs)) (drop n xs)
accepted_rest before zero xs h = h
accepted_rest before (suc n) [] h = tt
accepted_rest before (suc n) (x ∷ xs) h = accepted_rest x.after n xs h.1

-- accepted messages are those that are read from their octets
pub read_as : (before : AllTemplates) (xs : List Accepted) (os : List (List ℕ)) → AreAcceptedFrom before xs
    → octets_of xs ≡ os → read_from before os ≡ xs
read_as before xs os h is = ap (read_from before) (sym is) ∙ read_again before xs h

-- messages that fill the same octets, read from nothing
pub read_once : (octets : List ℕ) (xs ys : List Accepted) → AreRead octets [] xs [] → AreRead octets [] ys [] → xs ≡ ys
read_once octets xs ys h k =
    let one = one_division 0 0 (octets_of xs) (octets_of ys) [] [] (h.divided).each (k.divided).each
    (sym (h.divided).whole ∙ (k.divided).whole) (inl refl) (inl refl) in
    sym (read_as [] xs (octets_of xs) h.accepted refl) ∙ read_as [] ys (octets_of xs) k.accepted one.0

pub one_restated : (octets : List ℕ) (s t : AllTemplates) → IsRestated octets s → IsRestated octets t → s ≡ t
one_restated octets s t (xs, read, none, is) (ys, also, nor, has) =
    is ∙ ap (templates_from []) (read_once octets xs ys read also) ∙ sym has

-- ---- the chain of prefixes

pub first_restated : (gs : List Segment) (active : List ℕ) (s t : AllTemplates) → AreRestated s gs active
    → AreRestated t gs active → s ≡ t
first_restated [] active s t h k = one_restated active s t h k
first_restated (g ∷ gs) active s t h k = one_restated g.prefix s t h.0 k.0

-- the messages of the first segment
pub own_first : (g : Segment) (gs : List Segment) (tail : List (List ℕ)) (kept : List Accepted)
    → octets_of kept ≡ messages_in (g ∷ gs) ++ tail
    → (octets_of (take (length g.messages) kept) ≡ g.messages)
    × (octets_of (drop (length g.messages) kept) ≡ messages_in gs ++ tail)
own_first g gs tail kept is =
    let flat : octets_of kept ≡ g.messages ++ (messages_in gs ++ tail) =
    is ∙ append_assoc g.messages (messages_in gs) tail in (
      sym (take-map (λ (a : Accepted). a.octets) (length g.messages) kept) ∙ ap (take (length g.messages)) flat
          ∙ take-append_seam g.messages (messages_in gs ++ tail),
      sym (drop-map (λ (a : Accepted). a.octets) (length g.messages) kept) ∙ ap (drop (length g.messages)) flat
          ∙ drop-append_seam g.messages (messages_in gs ++ tail),
    )

-- the templates after the messages of a segment
pub behind_own : (before : AllTemplates) (g : Segment) (gs : List Segment) (tail : List (List ℕ)) (kept : List Accepted)
    → AreAcceptedFrom before kept → octets_of kept ≡ messages_in (g ∷ gs) ++ tail
    → templates_from before (read_from before g.messages)
    ≡ templates_from before (take (length g.messages) kept)
behind_own before g gs tail kept h is =
    ap (templates_from before) (read_as before (take (length g.messages) kept) g.messages
    (accepted_first before (length g.messages) kept h) (own_first g gs tail kept is).0)

pub restated_behind : (k : ℕ) (before : AllTemplates) (gs : List Segment) (active : List ℕ) (tail : List (List ℕ))
    (kept : List Accepted) → AreAcceptedFrom before kept → octets_of kept ≡ messages_in gs ++ tail
    → AreRestated before gs active
    → AreRestated (templates_from before (take (length (messages_in (take k gs))) kept)) (drop k gs) active
restated_behind zero before gs active tail kept h is r = r
restated_behind (suc k) before [] active tail kept h is r = r
restated_behind (suc k) before (g ∷ gs) active tail kept h is r =
    let n = length g.messages in
    let m = length (messages_in (take k gs)) in
    let own = own_first g gs tail kept is in
    let here = behind_own before g gs tail kept h is in
    let next = subst (λ (t : AllTemplates). AreRestated t gs active) here r.1 in
    let more = restated_behind k (templates_from before (take n kept)) gs active tail (drop n kept)
    (accepted_rest before n kept h) own.1 next in
    let far : templates_from (templates_from before (take n kept)) (take m (drop n kept))
    ≡ templates_from before (take (length (g.messages ++ messages_in (take k gs))) kept) =
    sym (templates_then before (take n kept) (take m (drop n kept)))
    ∙ ap (templates_from before) (sym (take-add n m kept)
    ∙ ap (λ (i : ℕ). take i kept) (sym (length-append g.messages (messages_in (take k gs))))) in
    subst (λ (t : AllTemplates). AreRestated t (drop k gs) active) far more

-- ---- the prefix that a segment determines

pub carried : (c : Carry) (xs : List Accepted) → IsCarry c → AreAcceptedFrom c.templates xs
    → IsCarry (carry_from c xs) × ((carry_from c xs).templates ≡ templates_from c.templates xs)
carried c [] h is = (h, refl)
carried c (x ∷ xs) h is = carried (carry_with c x) xs (carries c x h is.0) is.1

none_carried : IsCarry (no_carry 0)
none_carried = record {
  templates = record { once = tt; domains = tt; count = omega arith };
  domains = tt;
  due = refl;
  numbers = tt;
  time = omega arith;
}

pub all_cut : (before : AllTemplates) (xs : List Accepted) → AreAcceptedFrom before xs
    → AllByRecursion IsCutOff (octets_of xs)
all_cut before [] h = tt
all_cut before (x ∷ xs) h = (message_cut x.octets before x.message x.after h.0.0, all_cut x.after xs h.1)

pub prefix_restates : (c : Carry) → IsCarry c → IsRestated (prefix_of c) c.templates
prefix_restates c h =
    let back = is_read_back c h in (
      restated c,
      record {
        divided = record {
          whole = sym (append-nil (joined (octets_of (restated c))) ∙ ap joined back.octets);
          each = all_cut [] (restated c) back.accepted;
        };
        accepted = back.accepted;
      },
      back.none,
      sym back.templates,
    )

pub called_for : (before : AllTemplates) (g : Segment) (next : List ℕ) → IsRestated g.prefix before → CallsFor g next
    → IsRestated next (templates_from before (read_from before g.messages))
called_for before g next (xs, read, none, is) calls =
    let same : xs ≡ calls.restated = read_once g.prefix xs calls.restated read calls.read in
    let there : before ≡ templates_from [] calls.restated = is ∙ ap (templates_from []) same in
    let accepted : AreAcceptedFrom before calls.own =
    subst (λ (t : AllTemplates). AreAcceptedFrom t calls.own) (sym there) calls.accepted in
    let own = read_as before calls.own g.messages accepted calls.octets in
    let all = accepted_then [] calls.restated calls.own (calls.read).accepted calls.accepted in
    let carry = carried (no_carry 0) (calls.restated ++ calls.own) none_carried all in
    let after : (carry_of (calls.restated ++ calls.own)).templates
    ≡ templates_from before (read_from before g.messages) =
    carry.1 ∙ templates_then [] calls.restated calls.own
    ∙ ap (λ (t : AllTemplates). templates_from t calls.own) (sym there) ∙ ap (templates_from before) (sym own) in
    subst (λ (p : List ℕ). IsRestated p (templates_from before (read_from before g.messages))) (sym calls.is)
    (subst (IsRestated (prefix_of (carry_of (calls.restated ++ calls.own)))) after
    (prefix_restates (carry_of (calls.restated ++ calls.own)) carry.0))

-- a segment more at the end
pub restated_then : (before : AllTemplates) (gs : List Segment) (active : List ℕ) (g : Segment) (next : List ℕ)
    → g.prefix ≡ active → CallsFor g next → AreRestated before gs active → AreRestated before (gs ++ g ∷ []) next
restated_then before [] active g next same calls r =
    let here : IsRestated g.prefix before = subst (λ (p : List ℕ). IsRestated p before) (sym same) r in
    (here, called_for before g next here calls)
restated_then before (x ∷ xs) active g next same calls r =
    (r.0, restated_then (templates_from before (read_from before x.messages)) xs active g next same calls r.1)
