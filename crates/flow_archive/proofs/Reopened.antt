-- An archive as an opening has found it.
use Rattle.std.proofs.Common.{◌≡◌, ℕ, ◌-◌, ◌<◌, Bool, false, IsTrue, List, [], ◌∷◌, length, take, refl, sym, ◌∙◌, ap}
use Rattle.std.proofs.Common.{subst, arith}
use Rattle.std.specs.List.{AllByRecursion}
use Rattle.std.proofs.lemmas.List.{length-take, length-take-le, take_all}
use Rattle.flow_disk.specs.Disk.{Held, Marks}
use Rattle.flow_manifest.specs.declared.manifest.Entry.{Entry}
use Rattle.flow_manifest.specs.declared.manifest.Kind.{Kind}
use Rattle.flow_manifest.specs.declared.manifest.Kind.TheVariants.{Wide, Rolled, Sealed, Active}
use Rattle.flow_manifest.specs.declared.slots.Slots.{Slots}
use Rattle.flow_manifest.specs.declared.manifest.Manifest.{Manifest}
use Rattle.flow_manifest.specs.Following.{front_of}
use Rattle.flow_manifest.specs.Manifest.{HasShape, IsValidManifest, rank}
use Rattle.flow_manifest.proofs.EntryLists.{all_by}
use Rattle.flow_manifest.proofs.ValidEntries.{are_entries, IsOther}
use Rattle.flow_segment.specs.Carry.{Carry}
use Rattle.flow_model.specs.State.{Part, State, at_rest}
use Rattle.flow_model.specs.Chain.{HandsOn}
use Rattle.flow_recover.specs.Kept.{AreFilesOf, IsCounted}
use Rattle.flow_recover.specs.Opening.{FrozenStand, IsRecovered}
use Rattle.flow_measure.specs.declared.span.PartSpan.{PartSpan}
use Rattle.flow_archive.proofs.Spanned.{all_spans}
use Rattle.flow_model.specs.Standing.{IsKnown, IsRolledAt, StandsAs, StandsFor}
use Rattle.flow_archive.specs.Frozen.{all_frozen, counted_of, octets_in, AreHeldAs, Frozen, HaveSpans, MayBeFrozen}
use Rattle.flow_archive.specs.Parts.{part_at, parts_at}
use Rattle.flow_archive.specs.UnderWay.{none_under_way}
use Rattle.flow_archive.specs.Seen.{IsArchive, state_in}
use Rattle.flow_archive.proofs.Parting.{one_sealed}

-- a file is taken for the part that it holds
one_part : (kind : Kind) (octets : List ℕ) (e : Entry) (p : Part) → StandsAs kind octets e p
    → part_at kind e octets ≡ p
one_part Wide octets e p is = ap (λ (l : List ℕ). record { front = l; messages = [] }) is.front
    ∙ ap (λ (l : List (List ℕ)). record { front = p.front; messages = l }) (sym is.messages)
one_part Rolled octets e p is = ap (λ (l : List ℕ). record { front = l; messages = [] }) is.front
    ∙ ap (λ (l : List (List ℕ)). record { front = p.front; messages = l }) (sym is.messages)
one_part Sealed octets e p is = one_sealed octets e p is
one_part Active octets e p is = absurd is

pub frozen_parts : {S : Type 0} (octets : S → List ℕ) (entries : List Entry) (parts : List Part) (files : List S)
    → FrozenStand octets entries parts files → parts_at octets entries files ≡ parts
frozen_parts octets [] [] [] is = refl
frozen_parts octets [] [] (x ∷ files) is = absurd is
frozen_parts octets [] (p ∷ parts) files is = absurd is
frozen_parts octets (e ∷ entries) [] files is = absurd is
frozen_parts octets (e ∷ entries) (p ∷ parts) [] is = absurd is
frozen_parts octets (e ∷ entries) (p ∷ parts) (x ∷ files) is =
    ap (λ (q : Part). q ∷ parts_at octets entries files) (one_part e.kind (octets x) e p is.0)
    ∙ ap (λ (l : List Part). p ∷ l) (frozen_parts octets entries parts files is.1)

-- ---- what counts of their octets

twice : (n : ℕ) (octets : List ℕ) → take n (take n octets) ≡ take n octets
twice n octets = take_all n (take n octets) (omega (arith, length-take n octets))

counted_twice : (kind : Kind) (n : ℕ) (octets : List ℕ)
    → counted_of kind n (counted_of kind n octets) ≡ counted_of kind n octets
counted_twice Wide n octets = twice n octets
counted_twice Rolled n octets = twice n octets
counted_twice Sealed n octets = refl
counted_twice Active n octets = refl

rolled_counted : (octets : List ℕ) (e : Entry) (p : Part) → IsRolledAt octets e p
    → IsRolledAt (take e.length octets) e p
rolled_counted octets e p is = record {
  long = omega (arith, length-take-le e.length octets is.long);
  front = twice e.length octets ∙ is.front;
  messages = is.messages;
}

one_counted : (kind : Kind) (octets : List ℕ) (e : Entry) (p : Part) → StandsAs kind octets e p
    → StandsAs kind (counted_of kind e.length octets) e p
one_counted Wide octets e p is = rolled_counted octets e p is
one_counted Rolled octets e p is = rolled_counted octets e p is
one_counted Sealed octets e p is = is
one_counted Active octets e p is = absurd is

all_stand : {S : Type 0} (is_honest : S → Bool) (octets : S → List ℕ) (entries : List Entry) (parts : List Part)
    (files : List S) → FrozenStand octets entries parts files
    → FrozenStand octets_in entries parts (all_frozen is_honest octets entries files)
all_stand is_honest octets [] [] [] is = tt
all_stand is_honest octets [] [] (x ∷ files) is = absurd is
all_stand is_honest octets [] (p ∷ parts) files is = absurd is
all_stand is_honest octets (e ∷ entries) [] files is = absurd is
all_stand is_honest octets (e ∷ entries) (p ∷ parts) [] is = absurd is
all_stand is_honest octets (e ∷ entries) (p ∷ parts) (x ∷ files) is =
    (one_counted e.kind (octets x) e p is.0, all_stand is_honest octets entries parts files is.1)

all_held : {S : Type 0} (number size : S → ℕ) (is_honest : S → Bool) (octets : S → List ℕ) (honest : Bool)
    (entries : List Entry) (files : List S) → AreFilesOf number size is_honest honest entries files
    → AreHeldAs honest entries (all_frozen is_honest octets entries files)
all_held number size is_honest octets honest [] [] are = tt
all_held number size is_honest octets honest [] (x ∷ files) are = absurd are
all_held number size is_honest octets honest (e ∷ entries) [] are = absurd are
all_held number size is_honest octets honest (e ∷ entries) (x ∷ files) are = (
  record {
    entry_is = refl;
    honest_is = are.0.honest_is;
    counted = counted_twice e.kind e.length (octets x);
  },
  all_held number size is_honest octets honest entries files are.1,
)

-- the entries before the active one may be those of frozen files
may_be : (limit next : ℕ) (kind : Kind) (e : Entry) → HasShape limit kind e → rank kind < 3 → MayBeFrozen kind e
may_be limit next Wide e shape below = shape.0
may_be limit next Rolled e shape below = shape.0
may_be limit next Sealed e shape below = omega (arith, shape.1)
may_be limit next Active e shape below = absurd (omega (arith, below))

pub front_frozen : (m : Manifest) → IsValidManifest m → AllByRecursion (λ e. MayBeFrozen e.kind e) (front_of m)
front_frozen m valid = all_by (IsOther m) (λ e. MayBeFrozen e.kind e)
    (λ e one. may_be m.limit m.next e.kind e one.entry.shape one.kind) (front_of m) (are_entries m valid).front

-- and are so many
pub front_is : (m : Manifest) (slice : List Entry) (n : ℕ) → slice ≡ m.entries → n ≡ length (front_of m)
    → take n slice ≡ front_of m
front_is m slice n is count =
    ap (take n) is
    ∙ ap (λ (k : ℕ). take k m.entries) (omega (arith, count, length-take (length m.entries - 1) m.entries))

module _ {D S : Type 0} (honest : D → Bool) (marks : D → ℕ → Marks) (held : D → ℕ → Held) (octets : S → List ℕ)
    (number size : S → ℕ) (is_honest : S → Bool) (reads : ℕ → List ℕ) (disk : D) (slots : Slots) (last : Entry)
    (end total : ℕ) (active : Part) (carry : Carry) (frozen : List S) (spans : List PartSpan) where
  abbrev pub Found : Type 0
  Found = IsRecovered honest marks held octets number size is_honest reads disk slots last end total active carry frozen
      spans

  -- its files, and what the archive is taken for
  abbrev pub found_files : List Frozen
  found_files = all_frozen is_honest octets (front_of slots.current) frozen

  abbrev pub found_state : State
  found_state = state_in (none_under_way slots.current.next) false slots.current found_files active.front active.messages

  stand : (found : Found) → IsTrue (honest disk)
      → FrozenStand octets_in (front_of slots.current) found.parts found_files
  stand found h = all_stand is_honest octets (front_of slots.current) found.parts frozen (found.frozen_stand h)

  parts_same : (found : Found) → IsTrue (honest disk)
      → parts_at octets_in (front_of slots.current) found_files ≡ found.parts
  parts_same found h = frozen_parts octets_in (front_of slots.current) found.parts found_files (stand found h)

  state_same : (found : Found) → IsTrue (honest disk) → found_state ≡ at_rest slots.current found.parts active
  state_same found h = ap (λ (l : List Part). at_rest slots.current l active) (parts_same found h)

  pub found_archive : Found
      → IsArchive honest marks held disk slots last end total carry found_files found_state false
  found_archive found =
      let was = found.counted in
      let counted : IsCounted found_state last end total = record {
        valid = was.valid;
        next = was.next;
        active_entry_is = was.active_entry_is;
        end_is = was.end_is;
        long = was.long;
        total_is = was.total_is;
        within = record { limit = was.within.limit; all = was.within.all };
      } in
      record {
        counted = counted;
        files_are = all_held number size is_honest octets (honest disk) (front_of slots.current) frozen found.files;
        stand = λ h. subst (λ (l : List Part). FrozenStand octets_in (front_of slots.current) l found_files)
            (sym (parts_same found h)) (stand found h);
        still_open = λ _. record {
          kept = record {
            counted = counted;
            ready = found.ready;
            known = λ h image is.
                subst (λ (x : State). IsKnown slots x image) (sym (state_same found h)) (found.known h image is);
          };
          segment = found.segment;
          hands_on = λ h. subst (λ (x : State). HandsOn x carry) (sym (state_same found h)) (found.hands_on h);
          frozen = found.are_frozen;
        };
      }

  -- what was read represents it
  pub found_read : Found → IsTrue (honest disk) → StandsFor reads found_state
  found_read found h = subst (λ (x : State). StandsFor reads x) (sym (state_same found h)) (found.read h)

  -- and the spans of its files are known
  pub found_spans : Found → HaveSpans slots.current found_files spans
  found_spans found =
      all_spans number size is_honest octets (honest disk) reads slots.current (front_of slots.current) found.parts
      frozen spans found.files (λ h. (found.read h).files.parts) found.frozen_stand found.spanned
