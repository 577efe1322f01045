-- The plan of fields of fixed lengths, one field after the other.
use Rattle.std.proofs.Common.{◌≡◌, ℕ, ◌+◌, ◌<◌, ◌≤◌, Bool, true, false, cond, eqb, List, [], ◌∷◌, length, drop}
use Rattle.std.proofs.Common.{get_or, zero-add, add-zero, Option, Some, None, refl, sym, ap, ◌∙◌, add_assoc, drop-cons}
use Rattle.std.proofs.Common.{add-one, arith}
use Rattle.std.specs.Prelude.{option_map, sum_by, if◌then◌else◌}
use Rattle.std.specs.Option.{option_or}
use Rattle.std.proofs.lemmas.Bool.{ne_eqb, lt-ltb}
use Rattle.std.proofs.lemmas.List.{drop_all}
use Rattle.std.proofs.lemmas.List.Sums.{sum_by-cons}
use Rattle.flow_elements.specs.declared.element.ElementId.{ElementId}
use Rattle.flow_codec.specs.declared.plan.Role.{Role}
use Rattle.flow_codec.specs.declared.plan.Role.TheVariants.{Octets, Packets, Protocol, Seconds, Milliseconds}
use Rattle.flow_codec.specs.declared.plan.Place.{Place}
use Rattle.flow_codec.specs.declared.plan.Places.{Places}
use Rattle.flow_codec.specs.declared.plan.Plan.{Plan}
use Rattle.flow_codec.specs.declared.plan.Way.TheVariants.{ByPlaces, BySteps}
use Rattle.flow_codec.specs.Layout.{least_length}
use Rattle.flow_codec.specs.Plan.{role_of, counts_as, behind, place_of, places_of, no_places}
use Rattle.flow_codec.specs.Plan.{steps_of}
use Rattle.flow_codec.specs.Plan.{with_place, noted, are_fixed, plan_of}
use Rattle.flow_codec.proofs.RoleLaws.{every, counts_in, counts_is}

-- ---- the places that are known

abbrev known : Places → Role → Option Place
known places Octets = places.octets
known places Packets = places.packets
known places Protocol = places.protocol
known places Seconds = places.seconds
known places Milliseconds = places.milliseconds

first : (a : Option Place) (place : Place) (rest : Option Place)
    → option_or a (Some place) ≡ option_or (option_or a (Some place)) rest
first None place rest = refl
first (Some x) place rest = refl

module _ (places : Places) (place : Place) (rest : Option Place) where
  Kept : Role → Role → Type 0
  Kept r role = option_or (known places role) (cond (counts_in role (Some r) place.len) (Some place) rest)
      ≡ option_or (known (noted (Some r) place places) role) rest

  taken : (r : Role) → known (with_place r place places) r ≡ option_or (known places r) (Some place) → (b : Bool)
      → option_or (known places r) (cond b (Some place) rest)
      ≡ option_or (known (cond b (with_place r place places) places) r) rest
  taken r e true = first (known places r) place rest ∙ ap (λ k. option_or k rest) (sym e)
  taken r e false = refl

  left : (r role : Role) → known (with_place r place places) role ≡ known places role → (b : Bool)
      → option_or (known places role) rest
      ≡ option_or (known (cond b (with_place r place places) places) role) rest
  left r role e true = ap (λ k. option_or k rest) (sym e)
  left r role e false = refl

  kept : (r role : Role) → Kept r role
  unfolding Kept
  kept Octets role =
      let other = left Octets in
      every (Kept Octets) (taken Octets refl _) (other Packets refl _) (other Protocol refl _) (other Seconds refl _)
      (other Milliseconds refl _) role
  kept Packets role =
      let other = left Packets in
      every (Kept Packets) (other Octets refl _) (taken Packets refl _) (other Protocol refl _) (other Seconds refl _)
      (other Milliseconds refl _) role
  kept Protocol role =
      let other = left Protocol in
      every (Kept Protocol) (other Octets refl _) (other Packets refl _) (taken Protocol refl _) (other Seconds refl _)
      (other Milliseconds refl _) role
  kept Seconds role =
      let other = left Seconds in
      every (Kept Seconds) (other Octets refl _) (other Packets refl _) (other Protocol refl _) (taken Seconds refl _)
      (other Milliseconds refl _) role
  kept Milliseconds role =
      let other = left Milliseconds in
      every (Kept Milliseconds) (other Octets refl _) (other Packets refl _) (other Protocol refl _)
      (other Seconds refl _) (taken Milliseconds refl _) role

  kept-or-none : (role : Role) (r : Option Role)
      → option_or (known places role) (cond (counts_in role r place.len) (Some place) rest)
      ≡ option_or (known (noted r place places) role) rest
  unfolding Kept
  kept-or-none role None = refl
  kept-or-none role (Some r) = kept r role

or-none : (place : Option Place) → option_or place None ≡ place
or-none None = refl
or-none (Some place) = refl

behind-again : (a b : ℕ) (place : Option Place)
    → option_map (behind (a + b)) place ≡ option_map (behind a) (option_map (behind b) place)
behind-again a b None = refl
behind-again a b (Some place) =
    ap (λ (n : ℕ). Some (record { at = n; len = place.len })) (add_assoc a b place.at)

behind-none : (place : Option Place) → option_map (behind 0) place ≡ place
behind-none None = refl
behind-none (Some place) = ap (λ (n : ℕ). Some (record { at = n; len = place.len })) (omega arith)

behind-cond : (b : Bool) (at len : ℕ) (rest : Option Place)
    → option_map (behind at) (cond b (Some (record { at = 0; len = len })) (option_map (behind len) rest))
    ≡ cond b (Some (record { at = at; len = len })) (option_map (behind (at + len)) rest)
behind-cond true at len rest = ap (λ (n : ℕ). Some (record { at = n; len = len })) (omega arith)
behind-cond false at len rest = sym (behind-again at len rest)

-- the place of a role, with those found before these fields
abbrev whole : Places → ℕ → List (ElementId × ℕ) → Role → Option Place
whole places at fields role = option_or (known places role) (option_map (behind at) (place_of role fields))

next_place : (places : Places) (at : ℕ) (f : ElementId × ℕ) (fs : List (ElementId × ℕ)) (role : Role)
    → whole places at (f ∷ fs) role
    ≡ whole (noted (role_of f.0) (record { at = at; len = f.1 }) places) (at + f.1) fs role
unfolding place_of
next_place places at f fs role =
    let place : Place = record { at = at; len = f.1 } in
    let rest = option_map (behind (at + f.1)) (place_of role fs) in
    ap (option_or (known places role)) (behind-cond (counts_as role f) at f.1 (place_of role fs)
    ∙ ap (λ (b : Bool). cond b (Some place) rest) (counts_is role f.1 f.0))
    ∙ kept-or-none places place rest role (role_of f.0)

-- ---- the plan, with what is known before these fields

abbrev all_places : Places → ℕ → List (ElementId × ℕ) → Places
all_places places at fields = record {
  octets = whole places at fields Octets;
  packets = whole places at fields Packets;
  protocol = whole places at fields Protocol;
  seconds = whole places at fields Seconds;
  milliseconds = whole places at fields Milliseconds;
}

abbrev plan_by : ℕ → Places → Plan
plan_by smallest places = record { smallest = smallest; way = ByPlaces places }

abbrev pub plan_from : Places → ℕ → List (ElementId × ℕ) → Option Plan
plan_from places at fields =
    if are_fixed fields then Some
    (plan_by (at + sum_by (λ f. least_length f.1) fields) (all_places places at fields)) else None

pub from_start : (fs : List (ElementId × ℕ))
    → plan_from no_places 0 fs ≡ (if are_fixed fs then Some (plan_of fs) else None)
from_start fs = by (are_fixed fs) (sum_by (λ f. least_length f.1) fs)
  where
    by : (b : Bool) (smallest : ℕ) → cond b (Some (plan_by (0 + smallest) (all_places no_places 0 fs))) None
        ≡ cond b (Some (record {
          smallest = smallest;
          way = cond b (ByPlaces (places_of fs)) (BySteps (steps_of fs));
        })) None
    by true smallest = simp (behind-none, zero-add)
    by false smallest = refl

module _ (places : Places) (at : ℕ) (f : ElementId × ℕ) (fs : List (ElementId × ℕ)) where
  stops : f.1 ≡ 65535 → plan_from places at (f ∷ fs) ≡ None
  stops is = rw is refl

  passes : f.1 < 65535 → plan_from places at (f ∷ fs)
      ≡ plan_from (noted (role_of f.0) (record { at = at; len = f.1 }) places) (at + f.1) fs
  passes less =
      let short : eqb f.1 65535 ≡ false = ne_eqb f.1 65535 (λ e. absurd (omega (arith, e, less))) in
      let one : least_length f.1 ≡ f.1 = rw short refl in
      let sum : at + sum_by (λ g. least_length g.1) (f ∷ fs) ≡ (at + f.1) + sum_by (λ g. least_length g.1) fs =
      omega (arith, sum_by-cons (λ (g : ElementId × ℕ). least_length g.1) f fs, one) in
      let fixed : are_fixed (f ∷ fs) ≡ are_fixed fs = rw (lt-ltb f.1 65535 less) refl in
      rw (
        fixed,
        sum,
        next_place places at f fs Octets,
        next_place places at f fs Packets,
        next_place places at f fs Protocol,
        next_place places at f fs Seconds,
        next_place places at f fs Milliseconds,
      ) refl

module _ (fs : List (ElementId × ℕ)) (i : ℕ) (d : ElementId × ℕ) (places : Places) (at : ℕ) (plan : Option Plan)
    (so_far : plan_from places at (drop i fs) ≡ plan) where
  split : i < length fs → drop i fs ≡ get_or fs i d ∷ drop (i + 1) fs
  split lt = rw add-one (drop-cons fs i d lt)

  pub is_variable : i < length fs → (get_or fs i d).1 ≡ 65535 → None ≡ plan
  is_variable lt is =
      sym (ap (plan_from places at) (split lt) ∙ stops places at (get_or fs i d) (drop (i + 1) fs) is) ∙ so_far

  pub goes_on : i < length fs → (get_or fs i d).1 < 65535
      → plan_from (noted (role_of (get_or fs i d).0) (record { at = at; len = (get_or fs i d).1 }) places)
      (at + (get_or fs i d).1) (drop (i + 1) fs) ≡ plan
  goes_on lt less =
      sym (ap (plan_from places at) (split lt) ∙ passes places at (get_or fs i d) (drop (i + 1) fs) less) ∙ so_far

  pub is_done : length fs ≤ i → Some (plan_by at places) ≡ plan
  unfolding place_of
  is_done le =
      let last : plan_from places at [] ≡ Some (plan_by at places) =
      simp (or-none, add-zero) in
      sym (ap (plan_from places at) (drop_all i fs le) ∙ last) ∙ so_far
