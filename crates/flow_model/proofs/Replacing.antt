-- The state after an install: its shelf, what is passed on, and what a disk holds.
use Rattle.std.proofs.Common.{◌≡◌, ℕ, ◌+◌, ◌<◌, ◌≤◌, List, [], ◌∷◌, ◌++◌, length, take, drop, refl, sym, ap, subst, ◌∙◌}
use Rattle.std.proofs.Common.{arith, Option, Some, None}
use Rattle.flow_manifest.specs.declared.following.JobKind.{JobKind}
use Rattle.flow_manifest.specs.declared.following.JobKind.TheVariants.{Roll, Merge}
use Rattle.flow_manifest.specs.declared.manifest.Entry.{Entry}
use Rattle.flow_manifest.specs.declared.manifest.Manifest.{Manifest}
use Rattle.flow_manifest.specs.Manifest.{IsValidManifest, rank}
use Rattle.flow_manifest.specs.Following.{count_before, count_of, front_of, made_entry, made_of, source_of, sources_of}
use Rattle.flow_manifest.proofs.EntryLists.{all_by}
use Rattle.flow_measure.specs.Sums.{Table}
use Rattle.flow_rolled.specs.Rollup.{IsRollup}
use Rattle.flow_segment.specs.Carry.{Carry}
use Rattle.flow_model.specs.Shelf.{Shelf}
use Rattle.flow_model.specs.State.{Part, StagedFile, State}
use Rattle.flow_model.specs.Jobs.{IsStagedAt, replaced, staged_of, width_made}
use Rattle.flow_model.specs.Chain.{ArePartsBehind, HandsOn, IsPartBehind}
use Rattle.flow_model.specs.Shelved.{active_shelf, shelf_of, shelved, shelved_first}
use Rattle.flow_model.specs.Standing.{HoldsFiles, IsActiveAt, IsRolledAt, PartsStand, StandsAs}
use Rattle.flow_model.proofs.Installing.{all_pass, all_widths, behind_join, behind_left, freed, same_length}
use Rattle.flow_model.proofs.Installing.{shelved_join}
use Rattle.flow_model.proofs.SourcePlaces.{in_three, low, front_installed, active_installed, messages_installed}
use Rattle.flow_model.proofs.SourcePlaces.{first_same, sources_same}

-- ---- the state after an install

stand_apart : (image : ℕ → List ℕ) (es fs : List Entry) (ps qs : List Part) → length es ≡ length ps
    → PartsStand image (es ++ fs) (ps ++ qs) → PartsStand image es ps × PartsStand image fs qs
stand_apart image [] fs [] qs same h = (tt, h)
stand_apart image [] fs (p ∷ ps) qs same h = absurd (omega (arith, same))
stand_apart image (e ∷ es) fs [] qs same h = absurd (omega (arith, same))
stand_apart image (e ∷ es) fs (p ∷ ps) qs same (one, more) =
    let rest = stand_apart image es fs ps qs (omega (arith, same)) more in
    ((one, rest.0), rest.1)

source_low : (kind : JobKind) → rank (source_of kind) ≤ 2
source_low Roll = omega arith
source_low Merge = omega arith

made_behind : (m : Manifest) (kind : JobKind) (octets : List ℕ) (table : Table)
    → IsRollup (width_made kind m) octets table
    → IsPartBehind m (made_of kind) None (record { front = octets; messages = [] }) None
made_behind m Roll octets table is = ((table, is), refl)
made_behind m Merge octets table is = ((table, is), refl)

module _ (s : State) (c : Carry) (valid : IsValidManifest s.manifest) (hands : HandsOn s c) (kind : JobKind) (count : ℕ)
    (few : count ≤ count_of (source_of kind) s.manifest.entries) (file : StagedFile) where
  abbrev m : Manifest
  m = s.manifest

  abbrev n : ℕ
  n = count_before (source_of kind) m.entries

  abbrev e1 : List Entry
  e1 = take n (front_of m)

  abbrev e2 : List Entry
  e2 = take count (drop n (front_of m))

  abbrev e3 : List Entry
  e3 = drop (n + count) (front_of m)

  abbrev p1 : List Part
  p1 = take n s.parts

  abbrev p2 : List Part
  p2 = take count (drop n s.parts)

  abbrev p3 : List Part
  p3 = drop (n + count) s.parts

  abbrev made : Entry
  made = made_entry kind (staged_of file) (sources_of kind count m.entries)

  abbrev pub part : Part
  part = record { front = file.octets; messages = [] }

  same : length (front_of m) ≡ length s.parts
  same = same_length m None hands.sealed (front_of m) s.parts hands.parts

  same_1 : length e1 ≡ length p1
  same_1 = first_same m valid kind count few s.parts same

  pub same_2 : length e2 ≡ length p2
  same_2 = sources_same m valid kind count few s.parts same

  -- the shelf
  pub now_shelf : shelf_of s ≡ shelved e1 p1 (shelved e2 p2 (shelved e3 p3 (active_shelf s)))
  now_shelf =
      ap (λ (es : List Entry). shelved es s.parts (active_shelf s)) (in_three n count (front_of m))
      ∙ ap (λ (ps : List Part). shelved (e1 ++ (e2 ++ e3)) ps (active_shelf s)) (in_three n count s.parts)
      ∙ shelved_join e1 (e2 ++ e3) p1 (p2 ++ p3) (active_shelf s) same_1
      ∙ ap (λ (x : Shelf). shelved e1 p1 x) (shelved_join e2 e3 p2 p3 (active_shelf s) same_2)

  pub then_shelf : shelf_of (replaced s kind count file)
      ≡ shelved e1 p1 (shelved_first (made_of kind) made part (shelved e3 p3 (active_shelf s)))
  then_shelf =
      ap (λ (es : List Entry). shelved es (p1 ++ part ∷ p3) (active_shelf s))
      (front_installed m valid kind count few file s.next)
      ∙ shelved_join e1 (made ∷ e3) p1 (part ∷ p3) (active_shelf s) same_1

  -- what is passed on
  in_pieces : ArePartsBehind m None (e1 ++ (e2 ++ e3)) (p1 ++ (p2 ++ p3)) hands.sealed
  in_pieces = subst (λ (es : List Entry). ArePartsBehind m None es (p1 ++ (p2 ++ p3)) hands.sealed)
      (in_three n count (front_of m))
      (subst (λ (ps : List Part). ArePartsBehind m None (front_of m) ps hands.sealed) (in_three n count s.parts)
      hands.parts)

  pub hands_after : (table : Table) → IsRollup (width_made kind m) file.octets table
      → HandsOn (replaced s kind count file) c
  hands_after table is =
      let first = behind_left m None hands.sealed e1 (e2 ++ e3) p1 (p2 ++ p3) same_1 in_pieces in
      let second = behind_left m first.0 hands.sealed e2 e3 p2 p3 same_2 first.2 in
      let free = freed m second.0 hands.sealed e3 p3 s.active (Some c) second.2 in
      let none : first.0 ≡ None = all_pass m None first.0 e1 p1
      (all_by (λ e. rank e.kind < rank (source_of kind)) (λ e. rank e.kind < 2)
      (λ e lt. omega (arith, lt, source_low kind)) e1 (low m valid kind count few)) first.1 in
      let front : ArePartsBehind m None e1 p1 None =
      subst (λ (x : Option Carry). ArePartsBehind m None e1 p1 x) none first.1 in
      let together : ArePartsBehind m None (e1 ++ made ∷ e3) (p1 ++ part ∷ p3) free.sealed =
      behind_join m None None free.sealed e1 (made ∷ e3) p1 (part ∷ p3) front
      (None, made_behind m kind file.octets table is, free.parts) in
      record {
        sealed = free.sealed;
        parts = all_widths m (replaced s kind count file).manifest None free.sealed
            (front_of (replaced s kind count file).manifest) (p1 ++ part ∷ p3) refl refl
            (subst (λ (es : List Entry). ArePartsBehind m None es (p1 ++ part ∷ p3) free.sealed)
            (sym (front_installed m valid kind count few file s.next)) together);
        active = free.active_is hands.active;
      }

  pub sources_stand : (image : ℕ → List ℕ) → PartsStand image (front_of m) s.parts → PartsStand image e2 p2
  sources_stand image stand =
      let pieces : PartsStand image (e1 ++ (e2 ++ e3)) (p1 ++ (p2 ++ p3)) =
      subst (λ (es : List Entry). PartsStand image es (p1 ++ (p2 ++ p3))) (in_three n count (front_of m))
      (subst (λ (ps : List Part). PartsStand image (front_of m) ps) (in_three n count s.parts) stand) in
      (stand_apart image e2 e3 p2 p3 same_2 (stand_apart image e1 (e2 ++ e3) p1 (p2 ++ p3) same_1 pieces).1).0

-- ---- what a disk holds

stand_join : (image : ℕ → List ℕ) (es fs : List Entry) (ps qs : List Part) → PartsStand image es ps
    → PartsStand image fs qs → PartsStand image (es ++ fs) (ps ++ qs)
stand_join image [] fs [] qs here there = there
stand_join image [] fs (p ∷ ps) qs never there = absurd never
stand_join image (e ∷ es) fs [] qs never there = absurd never
stand_join image (e ∷ es) fs (p ∷ ps) qs (one, more) there = (one, stand_join image es fs ps qs more there)

made_stands : (kind : JobKind) (octets : List ℕ) (e : Entry) (p : Part) → IsRolledAt octets e p
    → StandsAs (made_of kind) octets e p
made_stands Roll octets e p is = is
made_stands Merge octets e p is = is

pub holds_replaced : (s : State) (c : Carry) (valid : IsValidManifest s.manifest) (hands : HandsOn s c) (kind : JobKind)
    (count : ℕ) (few : count ≤ count_of (source_of kind) s.manifest.entries) (file : StagedFile) (table : Table)
    (image : ℕ → List ℕ) → IsRollup (width_made kind s.manifest) file.octets table → IsStagedAt (image file.file) file
    → HoldsFiles image s → HoldsFiles image (replaced s kind count file)
holds_replaced s c valid hands kind count few file table image is staged holds =
    let n = count_before (source_of kind) s.manifest.entries in
    let all = front_of s.manifest in
    let entry = made_entry kind (staged_of file) (sources_of kind count s.manifest.entries) in
    let one : Part = record { front = file.octets; messages = [] } in
    let even = same_length s.manifest None hands.sealed all s.parts hands.parts in
    let pieces : PartsStand image (take n all ++ (take count (drop n all) ++ drop (n + count) all))
    (take n s.parts ++ (take count (drop n s.parts) ++ drop (n + count) s.parts)) =
    subst (λ (es : List Entry). PartsStand image es (take n s.parts ++ (take count (drop n s.parts) ++
    drop (n + count) s.parts))) (in_three n count all)
    (subst (λ (ps : List Part). PartsStand image all ps) (in_three n count s.parts) holds.parts) in
    let first = stand_apart image (take n all) (take count (drop n all) ++ drop (n + count) all) (take n s.parts)
    (take count (drop n s.parts) ++ drop (n + count) s.parts)
    (first_same s.manifest valid kind count few s.parts even) pieces in
    let second = stand_apart image (take count (drop n all)) (drop (n + count) all) (take count (drop n s.parts))
    (drop (n + count) s.parts) (sources_same s.manifest valid kind count few s.parts even) first.1 in
    let made : IsRolledAt (image file.file) entry one =
    record { long = staged.long; front = staged.front; messages = refl } in
    record {
      parts = subst (λ (es : List Entry). PartsStand image es (take n s.parts ++ one ∷ drop (n + count) s.parts))
          (sym (front_installed s.manifest valid kind count few file s.next))
          (stand_join image (take n all) (entry ∷ drop (n + count) all) (take n s.parts)
          (one ∷ drop (n + count) s.parts) first.0
          (made_stands kind (image file.file) entry one made, second.1));
      active = subst (λ (e : Entry). IsActiveAt (image e.file) e s.active)
          (sym (active_installed s.manifest valid kind count few file s.next)) holds.active;
      within = record {
        limit = (holds.within).limit;
        all =
            omega (
              arith,
              messages_installed s.manifest valid kind count few file s.next,
              (holds.within).all,
            );
      };
      chained = (c, hands_after s c valid hands kind count few file table is);
    }
