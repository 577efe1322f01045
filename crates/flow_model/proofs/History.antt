-- What the events of an archive mean.
use Rattle.std.proofs.Common.{◌≡◌, ℕ, ◌-◌, ◌≤◌, List, [], ◌∷◌, ◌++◌, length, take, refl, sym}
use Rattle.std.proofs.Common.{ap, subst, ◌∙◌, append_assoc, arith, Option, Some, None}
use Rattle.std.proofs.lemmas.List.{length-append}
use Rattle.std.proofs.Math.Seq.{take-append_seam}
use Rattle.flow_codec.specs.Templates.{AllTemplates}
use Rattle.flow_manifest.specs.declared.manifest.Kind.{Kind}
use Rattle.flow_manifest.specs.declared.manifest.Kind.TheVariants.{Wide, Rolled, Sealed, Active}
use Rattle.flow_manifest.specs.declared.manifest.Entry.{Entry}
use Rattle.flow_manifest.specs.declared.manifest.Manifest.{Manifest}
use Rattle.flow_manifest.specs.Manifest.{IsValidManifest}
use Rattle.flow_manifest.specs.Following.{active_entry, active_of, front_of, sealed_entry}
use Rattle.flow_measure.specs.History.{Accepted, AreAcceptedFrom, History}
use Rattle.flow_measure.specs.View.{view_of}
use Rattle.flow_segment.specs.Carry.{Carry, carry_from, carry_of, no_carry, octets_of, prefix_of}
use Rattle.flow_model.specs.Shelf.{Segment, Shelf}
use Rattle.flow_model.specs.Views.{IsViewOf}
use Rattle.flow_model.specs.Changes.{CallsFor, added, applied, sealed, counts_of, history_after, Allows, Change}
use Rattle.flow_model.proofs.Following.{history_follows, view_follows}
use Rattle.flow_model.specs.State.{Part, State, appended, end_of, after_seal}
use Rattle.flow_model.specs.Chain.{ArePartsBehind, HandsOn, IsSegment, IsSegmentBehind}
use Rattle.flow_model.specs.Shelved.{HasHistory, active_shelf, segment_of, shelf_of, shelved, shelved_first}
use Rattle.flow_model.proofs.Viewing.{handed_on}

-- ---- messages more

added_first : (more : List (List ℕ)) (kind : Kind) (e : Entry) (p : Part) (s : Shelf)
    → shelved_first kind e p (applied s (added more)) ≡ applied (shelved_first kind e p s) (added more)
added_first more Wide e p s = refl
added_first more Rolled e p s = refl
added_first more Sealed e p s = refl
added_first more Active e p s = refl

added_last : (more : List (List ℕ)) (es : List Entry) (ps : List Part) (s : Shelf)
    → shelved es ps (applied s (added more)) ≡ applied (shelved es ps s) (added more)
added_last more [] ps s = refl
added_last more (e ∷ es) [] s = refl
added_last more (e ∷ es) (p ∷ ps) s =
    ap (λ (x : Shelf). shelved_first e.kind e p x) (added_last more es ps s)
    ∙ added_first more e.kind e p (shelved es ps s)

pub appended_shelf : (s : State) (more : List (List ℕ))
    → shelf_of (appended s more) ≡ applied (shelf_of s) (added more)
appended_shelf s more = added_last more (front_of s.manifest) s.parts (active_shelf s)

pub append_follows : (s : State) (c : Carry) (more : List Accepted) (h : History) → IsValidManifest s.manifest
    → HandsOn s c → AreAcceptedFrom c.templates more → HasHistory s h
    → HasHistory (appended s (octets_of more)) (history_after h (added (octets_of more)))
append_follows s c more h valid hands accepted has =
    let v = view_of h (counts_of (shelf_of s)) in
    let allowed : Allows (shelf_of s) v (added (octets_of more)) = (
      more,
      refl,
      subst (λ (t : AllTemplates). AreAcceptedFrom t more) (sym (handed_on s c v valid hands has.view)) accepted,
    ) in
    let same = added_last (octets_of more) (front_of s.manifest) s.parts (active_shelf s) in
    record {
      history = history_follows (shelf_of s) h (added (octets_of more)) has.history has.view allowed;
      view = subst (λ (x : Shelf). IsViewOf x (view_of (history_after h (added (octets_of more))) (counts_of x)))
          (sym same) (view_follows (shelf_of s) h (added (octets_of more)) has.history has.view allowed);
    }

-- ---- a seal

closed_first : (g : Segment) (next : List ℕ) (kind : Kind) (e : Entry) (p : Part) (s : Shelf)
    → shelved_first kind e p (applied s (sealed g next)) ≡ applied (shelved_first kind e p s) (sealed g next)
closed_first g next Wide e p s = refl
closed_first g next Rolled e p s = refl
closed_first g next Sealed e p s = refl
closed_first g next Active e p s = refl

pub sealed_last : (g : Segment) (next : List ℕ) (es : List Entry) (ps : List Part) (s : Shelf)
    → shelved es ps (applied s (sealed g next)) ≡ applied (shelved es ps s) (sealed g next)
sealed_last g next [] ps s = refl
sealed_last g next (e ∷ es) [] s = refl
sealed_last g next (e ∷ es) (p ∷ ps) s =
    ap (λ (x : Shelf). shelved_first e.kind e p x) (sealed_last g next es ps s)
    ∙ closed_first g next e.kind e p (shelved es ps s)

-- a file put before the others leaves the active segment
active_first : (kind : Kind) (e : Entry) (p : Part) (s : Shelf)
    → ((shelved_first kind e p s).prefix ≡ s.prefix) × ((shelved_first kind e p s).active ≡ s.active)
active_first Wide e p s = (refl, refl)
active_first Rolled e p s = (refl, refl)
active_first Sealed e p s = (refl, refl)
active_first Active e p s = (refl, refl)

active_last : (es : List Entry) (ps : List Part) (s : Shelf)
    → ((shelved es ps s).prefix ≡ s.prefix) × ((shelved es ps s).active ≡ s.active)
active_last [] ps s = (refl, refl)
active_last (e ∷ es) [] s = (refl, refl)
active_last (e ∷ es) (p ∷ ps) s =
    let first = active_first e.kind e p (shelved es ps s) in
    let more = active_last es ps s in
    (first.0 ∙ more.0, first.1 ∙ more.1)

-- one file more after as many entries as parts
shelved_then : (m : Manifest) (before after : Option Carry) (es : List Entry) (ps : List Part) (e : Entry) (p : Part)
    (s : Shelf) → ArePartsBehind m before es ps after
    → shelved (es ++ e ∷ []) (ps ++ p ∷ []) s ≡ shelved es ps (shelved_first e.kind e p s)
shelved_then m before after [] [] e p s h = refl
shelved_then m before after [] (q ∷ ps) e p s never = absurd never
shelved_then m before after (x ∷ es) [] e p s never = absurd never
shelved_then m before after (x ∷ es) (q ∷ ps) e p s (between, first, more) =
    ap (λ (y : Shelf). shelved_first x.kind x q y) (shelved_then m between after es ps e p s more)

front_then : (m : Manifest) (e a : Entry) (xs : List Entry)
    → take (length (xs ++ e ∷ a ∷ []) - 1) (xs ++ e ∷ a ∷ []) ≡ xs ++ e ∷ []
front_then m e a xs =
    let longer : xs ++ e ∷ a ∷ [] ≡ (xs ++ e ∷ []) ++ a ∷ [] = sym (append_assoc xs (e ∷ []) (a ∷ [])) in
    let count : length (xs ++ e ∷ a ∷ []) - 1 ≡ length (xs ++ e ∷ []) =
    ap (λ (ys : List Entry). length ys - 1) longer
    ∙ ap (λ (n : ℕ). n - 1) (length-append (xs ++ e ∷ []) (a ∷ []))
    ∙ omega arith in
    ap (λ (n : ℕ). take n (xs ++ e ∷ a ∷ [])) count ∙ ap (take (length (xs ++ e ∷ []))) longer
    ∙ take-append_seam (xs ++ e ∷ []) (a ∷ [])

-- once there is a message, the time before it plays no part
timeless : (time : ℕ) (prefix messages : List Accepted) → 1 ≤ length (prefix ++ messages)
    → carry_from (no_carry time) (prefix ++ messages) ≡ carry_of (prefix ++ messages)
timeless time [] [] some = absurd (omega (arith, some))
timeless time [] (a ∷ more) some = refl
timeless time (a ∷ prefix) messages some = refl

some_more : (xs ys : List Accepted) → 1 ≤ length (octets_of ys) → 1 ≤ length (xs ++ ys)
some_more [] [] n = absurd (omega (arith, n))
some_more [] (y ∷ ys) n = omega arith
some_more (x ∷ xs) ys n = omega arith

calls : (p : Part) (c : Carry) (e : Entry) → IsSegment p c → 1 ≤ length p.messages
    → CallsFor (segment_of e p) (prefix_of c)
calls p c e g some =
    let more : 1 ≤ length (g.prefix ++ g.messages) =
    some_more g.prefix g.messages (subst (λ (os : List (List ℕ)). 1 ≤ length os) (sym g.octets) some) in
    record {
      restated = g.prefix;
      own = g.messages;
      read = g.front;
      octets = g.octets;
      accepted = g.accepted;
      is = ap prefix_of (g.hands_on ∙ timeless g.time g.prefix g.messages more);
    }

abbrev carry_given : Carry → Option Carry → Carry
carry_given own None = own
carry_given own (Some c) = c

active_calls : (s : State) (c : Carry) (before : Option Carry) (e : Entry) → IsSegmentBehind before s.active (Some c)
    → 1 ≤ length s.active.messages → CallsFor (segment_of e s.active) (prefix_of c)
active_calls s c before e (own, called, g, is) some =
    subst (λ (x : Carry). CallsFor (segment_of e s.active) (prefix_of x)) (sym (ap (carry_given own) is))
    (calls s.active own e g some)

pub seal_follows : (s : State) (c : Carry) (h : History) → IsValidManifest s.manifest → HandsOn s c
    → 1 ≤ length s.active.messages → HasHistory s h → HasHistory (after_seal s (prefix_of c)) h
seal_follows s c h valid hands some has =
    let entry = sealed_entry (active_of s.manifest) (end_of s) (length s.active.messages) in
    let g = segment_of entry s.active in
    let next = prefix_of c in
    let change : Change = sealed g next in
    let last = active_last (front_of s.manifest) s.parts (active_shelf s) in
    let allowed : Allows (shelf_of s) (view_of h (counts_of (shelf_of s))) change = (
      sym last.0,
      sym last.1,
      some,
      active_calls s c hands.sealed entry hands.active some,
    ) in
    let front : front_of (after_seal s next).manifest ≡ front_of s.manifest ++ entry ∷ [] =
    front_then s.manifest entry (active_entry s.next (length next)) (front_of s.manifest) in
    let same : shelf_of (after_seal s next) ≡ applied (shelf_of s) change =
    ap (λ (es : List Entry). shelved es (s.parts ++ s.active ∷ []) (active_shelf (after_seal s next))) front
    ∙ shelved_then s.manifest None hands.sealed (front_of s.manifest) s.parts entry s.active
    (active_shelf (after_seal s next)) hands.parts
    ∙ sealed_last g next (front_of s.manifest) s.parts (active_shelf s) in
    record {
      history = has.history;
      view = subst (λ (x : Shelf). IsViewOf x (view_of h (counts_of x))) (sym same)
          (view_follows (shelf_of s) h change has.history has.view allowed);
    }
