-- What an opening's phases make of what images represent.
use Rattle.std.proofs.Common.{◌≡◌, ◌≢◌, ◌⊎◌, inl, inr, ⊎_elim, IsTrue, ℕ, zero, suc, ◌+◌, ◌<◌, ◌≤◌, ◌==◌, Bool, true}
use Rattle.std.proofs.Common.{false, List, [], ◌∷◌, ◌++◌, length, take, get_or, refl, sym, ◌∙◌, ap, subst, arith}
use Rattle.std.proofs.Common.{eq-eqb}
use Rattle.std.specs.Prelude.{◌||◌}
use Rattle.std.proofs.lemmas.Bool.{eqb-true, or_cases}
use Rattle.std.specs.List.{AllByRecursion, list_any}
use Rattle.flow_disk.specs.Disk.{AllImages, Held, InFile, IsDiskImage}
use Rattle.flow_gate.proofs.Exact.{one_list, one_row}
use Rattle.flow_gate.proofs.Rows.{gated_front}
use Rattle.flow_manifest.specs.declared.manifest.Kind.{Kind}
use Rattle.flow_manifest.specs.declared.manifest.Kind.TheVariants.{Wide, Rolled, Sealed, Active}
use Rattle.flow_manifest.specs.declared.manifest.Entry.{Entry}
use Rattle.flow_manifest.specs.declared.manifest.Manifest.{Manifest}
use Rattle.flow_manifest.specs.declared.slots.Slot.{Slot}
use Rattle.flow_manifest.specs.declared.slots.Slot.TheVariants.{First, Second}
use Rattle.flow_manifest.specs.declared.slots.Slots.{Slots}
use Rattle.flow_manifest.specs.Manifest.{IsValidManifest, HaveOwnFiles}
use Rattle.flow_manifest.specs.Slots.{file_of, other, reads_of, AreSlots}
use Rattle.flow_manifest.proofs.Swaps.{same_slots}
use Rattle.flow_manifest.proofs.OneInForce.{one_in_force}
use Rattle.flow_segment.specs.Steps.{KeepsFront}
use Rattle.flow_model.specs.State.{at_rest, Part, State, end_of, reopened}
use Rattle.flow_manifest.specs.Following.{active_of, front_of, no_entry}
use Rattle.flow_model.specs.Standing.{StandsForEither, IsActiveAt, StandsAs, PartsStand, HoldsFiles, StandsFor}
use Rattle.flow_model.specs.Standing.{IsKnown, is_file_of, SameNamed}
use Rattle.flow_manifest.specs.declared.error.OpenError.{OpenError}
use Rattle.flow_manifest.specs.declared.error.OpenError.TheVariants.{Damaged, Format, Entries, Cut, NoArchive, Fault}
use Rattle.flow_manifest.specs.declared.error.OpenError.TheVariants.{OutOfMemory}
use Rattle.flow_recover.specs.Kept.{AreFilesOf, IsFileOf}
use Rattle.flow_recover.specs.Opening.{FilesStand, FrozenStand, IsDeviceOrMemory, IsRead, StandsForNone}
use Rattle.flow_segment.specs.Carry.{Carry}
use Rattle.flow_manifest.proofs.ValidEntries.{split, IsOther, AreEntries, are_entries}
use Rattle.flow_manifest.proofs.EntryLists.{all_by}
use Rattle.flow_model.proofs.Stand.{all_first, all_last, own_first, slot_below, parts_along, files_same, valid_of}
use Rattle.flow_model.proofs.Stand.{cutting, keeps_shorter}

pub keeps_same : (count : ℕ) (a : List ℕ) → KeepsFront count a a
keeps_same count a = record { front = refl; long = omega arith }

pub keeps_then : (count : ℕ) (a b c : List ℕ) → KeepsFront count a b → KeepsFront count b c → KeepsFront count a c
keeps_then count a b c first second = record {
  front = second.front ∙ first.front;
  long = omega
      (arith, first.long, second.long);
}

-- ---- one state

pub one_part : (kind : Kind) (octets : List ℕ) (e : Entry) (p q : Part) → StandsAs kind octets e p
    → StandsAs kind octets e q → p ≡ q
one_part Wide octets e p q a b =
    ap (λ (l : List ℕ). record { front = l; messages = p.messages }) (sym a.front ∙ b.front) ∙ ap (λ (l : List
    (List ℕ)). record { front = q.front; messages = l }) (a.messages ∙ sym b.messages)
one_part Rolled octets e p q a b =
    ap (λ (l : List ℕ). record { front = l; messages = p.messages }) (sym a.front ∙ b.front) ∙ ap (λ (l : List
    (List ℕ)). record { front = q.front; messages = l }) (a.messages ∙ sym b.messages)
one_part Sealed octets e p q a b =
    ap (λ (l : List ℕ). record { front = l; messages = p.messages }) (sym a.front ∙ b.front)
    ∙ ap (λ (l : List (List ℕ)). record { front = q.front; messages = l })
    (one_row octets e.prefix p.messages q.messages a.row b.row (omega (arith, a.count, b.count)))
one_part Active octets e p q a b = absurd a

one_parts : (image : ℕ → List ℕ) (entries : List Entry) (ps qs : List Part) → PartsStand image entries ps
    → PartsStand image entries qs → ps ≡ qs
one_parts image [] [] [] a b = refl
one_parts image [] [] (q ∷ qs) a b = absurd b
one_parts image [] (p ∷ ps) qs a b = absurd a
one_parts image (e ∷ entries) [] qs a b = absurd a
one_parts image (e ∷ entries) (p ∷ ps) [] a b = absurd b
one_parts image (e ∷ entries) (p ∷ ps) (q ∷ qs) a b =
    ap (λ (x : Part). x ∷ ps) (one_part e.kind (image e.file) e p q a.0 b.0) ∙ ap (λ (l : List Part). q ∷ l)
    (one_parts image entries ps qs a.1 b.1)

pub one_active : (octets : List ℕ) (e : Entry) (p q : Part) → IsActiveAt octets e p → IsActiveAt octets e q → p ≡ q
one_active octets e p q a b =
    ap (λ (l : List ℕ). record { front = l; messages = p.messages }) (sym a.front ∙ b.front)
    ∙ ap (λ (l : List (List ℕ)). record { front = q.front; messages = l })
    (one_list octets e.prefix p.messages q.messages a.gated b.gated)

-- of one manifest files hold one state
pub same_held : (image : ℕ → List ℕ) (s t : State) → s.manifest ≡ t.manifest → FilesStand image s → FilesStand image t
    → reopened s ≡ reopened t
same_held image s t same a b =
    let b_parts = subst (λ (m : Manifest). PartsStand image (front_of m) t.parts) (sym same) b.parts in
    let b_active = subst (λ (m : Manifest). IsActiveAt (image (active_of m).file) (active_of m) t.active)
    (sym same) b.active in
    let parts = one_parts image (front_of s.manifest) s.parts t.parts a.parts b_parts in
    let active = one_active (image (active_of s.manifest).file)
    (active_of s.manifest) s.active t.active a.active b_active in
    ap (λ (m : Manifest). at_rest m s.parts s.active) same ∙ ap (λ (l : List Part). at_rest t.manifest l s.active) parts
    ∙ ap (λ (p : Part). at_rest t.manifest t.parts p) active

pub files_stand : (image : ℕ → List ℕ) (s : State) → HoldsFiles image s → FilesStand image s
files_stand image s files = record { parts = files.parts; active = files.active; within = files.within }

pub one_state : (image : ℕ → List ℕ) (s t : State) → StandsFor image s → StandsFor image t → s ≡ t
one_state image s t a b = a.at_rest ∙ same_held image s t (one_in_force image s.manifest t.manifest a.force b.force)
    (files_stand image s a.files) (files_stand image t b.files) ∙ sym b.at_rest

-- ---- images that agree with what is known

-- all that a manifest names, and the slots
pub agreed : (slots : Slots) (s : State) (a b : ℕ → List ℕ) → AreSlots slots a → slots.current ≡ s.manifest
    → HoldsFiles a s → ((slot : Slot) → b (file_of slot) ≡ a (file_of slot))
    → AllByRecursion (λ e. b e.file ≡ a e.file) s.manifest.entries → IsKnown slots s b
agreed slots s a b are current files slot each =
    let holds = are.current in
    let valid : IsValidManifest s.manifest = subst IsValidManifest current holds.body.valid in
    let entries = subst (AllByRecursion (λ e. b e.file ≡ a e.file)) (split s.manifest valid) each in
    record {
      slots_are = same_slots slots a b are (slot slots.current_slot) (slot (other slots.current_slot));
      current = current;
      files = files_same s a b files (all_last (λ e. b e.file ≡ a e.file) (front_of s.manifest)
          (active_of s.manifest) entries) (all_first (λ e. b e.file ≡ a e.file) (front_of s.manifest)
          (active_of s.manifest) entries);
    }

-- an image with the same octets represents the same state
pub same_reads : (s : State) (a b : ℕ → List ℕ) → ((n : ℕ) → b n ≡ a n) → StandsFor a s → StandsFor b s
same_reads s a b same stands =
    let slots = stands.force.0 in
    let known = agreed slots s a b stands.force.2 stands.force.1 stands.files (λ slot. same (file_of slot))
    (all_same s.manifest.entries) in
    record { force = (slots, stands.force.1, known.slots_are); files = known.files; at_rest = stands.at_rest }
  where
    all_same : (entries : List Entry) → AllByRecursion (λ e. b e.file ≡ a e.file) entries
    all_same [] = tt
    all_same (e ∷ entries) = (same e.file, all_same entries)

stand_same : (s : State) (a b : ℕ → List ℕ) → ((n : ℕ) → b n ≡ a n) → FilesStand a s → FilesStand b s
stand_same s a b same stand = record {
  parts = parts_along a b (λ e. b e.file ≡ a e.file) (λ e p is at. subst (λ (l : List ℕ). StandsAs e.kind l e p)
      (sym is) at) (front_of s.manifest) s.parts (all_same (front_of s.manifest)) stand.parts;
  active = subst (λ (l : List ℕ). IsActiveAt l (active_of s.manifest) s.active) (sym (same
      (active_of s.manifest).file)) stand.active;
  within = stand.within;
}
  where
    all_same : (entries : List Entry) → AllByRecursion (λ e. b e.file ≡ a e.file) entries
    all_same [] = tt
    all_same (e ∷ entries) = (same e.file, all_same entries)

or_right : (a b : Bool) → b ≡ true → (a || b) ≡ true
or_right true b is = refl
or_right false b is = is

or_left : (a b : Bool) → a ≡ true → (a || b) ≡ true
or_left true b is = refl
or_left false b is = absurd (cc)

every_more : (x : Entry) (few all : List Entry) → AllByRecursion (λ e. list_any
    (λ y. y.file == e.file) all ≡ true) few → AllByRecursion (λ e. list_any (λ y. y.file == e.file)
    (x ∷ all) ≡ true) few
every_more x [] all is = tt
every_more x (e ∷ few) all is = (
  or_right (x.file == e.file) (list_any
      (λ y. y.file == e.file) all) is.0,
  every_more x few all is.1,
)

every_listed : (entries : List Entry) → AllByRecursion (λ e. list_any (λ y. y.file == e.file) entries ≡ true) entries
every_listed [] = tt
every_listed (x ∷ entries) = (
  or_left (x.file == x.file) (list_any (λ y. y.file == x.file) entries)
      (eq-eqb x.file x.file refl),
  every_more x entries entries (every_listed entries),
)

pub slot_named : (m : Manifest) (slot : Slot) → is_file_of m (file_of slot) ≡ true
slot_named m First = or_left (1 == 1 || 1 == 2) (list_any (λ e. e.file == 1) m.entries) (or_left (1 == 1) (1 == 2) refl)
slot_named m Second = or_left (2 == 1 || 2 == 2) (list_any (λ e. e.file == 2) m.entries) (or_right (2 == 1)
    (2 == 2) refl)

pub entries_named : (m : Manifest) → AllByRecursion (λ e. is_file_of m e.file ≡ true) m.entries
entries_named m = all_by (λ e. list_any (λ y. y.file == e.file) m.entries ≡ true) (λ e. is_file_of m e.file ≡ true)
    (λ e is. or_right (e.file == 1 || e.file == 2) (list_any (λ y. y.file == e.file) m.entries) is) m.entries
    (every_listed m.entries)

-- what holds of the slots and of each entry's file holds of each file that is named
named_in : (P : ℕ → Type 0) (entries : List Entry) (n : ℕ) → AllByRecursion (λ e. P e.file) entries
    → list_any (λ e. e.file == n) entries ≡ true → P n
named_in P [] n all is = absurd (cc)
named_in P (e ∷ entries) n all is = ⊎_elim (λ same. subst P (eqb-true e.file n same) all.0)
    (λ more. named_in P entries n all.1 more) (or_cases (e.file == n) (list_any (λ x. x.file == n) entries) is)

pub named_all : (m : Manifest) (P : ℕ → Type 0) → ((slot : Slot) → P (file_of slot))
    → AllByRecursion (λ e. P e.file) m.entries → (n : ℕ) → is_file_of m n ≡ true → P n
named_all m P slot all n is = ⊎_elim
    (λ one. ⊎_elim (λ first. subst P (sym (eqb-true n 1 first)) (slot First))
    (λ second. subst P (sym (eqb-true n 2 second)) (slot Second)) (or_cases (n == 1) (n == 2) one))
    (λ entry. named_in P m.entries n all entry)
    (or_cases (n == 1 || n == 2) (list_any (λ e. e.file == n) m.entries) is)

pub files_along : (s : State) (a b : ℕ → List ℕ) → ((n : ℕ) → b n ≡ a n) → HoldsFiles a s → HoldsFiles b s
files_along s a b same files =
    let stand = stand_same s a b same (files_stand a s files) in
    record { parts = stand.parts; active = stand.active; within = stand.within; chained = files.chained }

-- files that the manifest doesn't name are removed
pub removing : (slots : Slots) (s : State) (a b : ℕ → List ℕ) → IsKnown slots s a → SameNamed s.manifest a b
    → IsKnown slots s b
removing slots s a b known same = agreed slots s a b known.slots_are known.current known.files (λ slot. same
    (file_of slot) (slot_named s.manifest slot))
    (all_by (λ e. is_file_of s.manifest e.file ≡ true) (λ e. b e.file ≡ a e.file)
    (λ e named. same e.file named) s.manifest.entries (entries_named s.manifest))

-- and play no part
pub unnamed_same : (a b : ℕ → List ℕ) (s : State) → SameNamed s.manifest a b → StandsFor a s → StandsFor b s
unnamed_same a b s same stands =
    let slots = stands.force.0 in
    let was : IsKnown slots s a = record { slots_are = stands.force.2; current = stands.force.1; files = stands.files }
    in
    let known = removing slots s a b was same in
    record { force = (slots, stands.force.1, known.slots_are); files = known.files; at_rest = stands.at_rest }

-- the active file is cut after its trailer
pub trimming : (slots : Slots) (s : State) (file end : ℕ) (a b : ℕ → List ℕ) → (active_of s.manifest).file ≡ file
    → end_of s ≡ end → IsKnown slots s a → InFile file (KeepsFront (end + 2)) a b → IsKnown slots s b
trimming slots s file end a b file_is end_is known step = record {
  slots_are = same_slots slots a b known.slots_are (step.others (file_of slots.current_slot) (λ is. omega
      (arith, is, above, slot_below slots.current_slot)))
      (step.others (file_of (other slots.current_slot)) (λ is. omega (
        arith,
        is,
        above,
        slot_below
            (other slots.current_slot),
      )));
  current = known.current;
  files = record {
    parts = parts_along a b (IsOther s.manifest) (λ e p one is. subst (λ (l : List ℕ). StandsAs e.kind l e p) (sym
        (step.others e.file (λ same. one.apart (same ∙ sym file_is)))) is)
        (front_of s.manifest) s.parts are.front known.files.parts;
    active = subst (λ (n : ℕ). IsActiveAt (b n) (active_of s.manifest) s.active) (sym file_is) (record {
      front = keeps_shorter (active_of s.manifest).prefix (end + 2) (a file) (b file) (omega
          (arith, end_is)) step.here ∙ was.front;
      gated = gated_front end (active_of s.manifest).prefix (a file) (b file) s.active.messages (sym step.here.front)
          (omega (arith, step.here.long, was.gated.closed.room, end_is)) end_is was.gated;
    });
    within = known.files.within;
    chained = known.files.chained;
  };
}
  where
    are : AreEntries s.manifest
    are = are_entries s.manifest (valid_of slots s a known)

    above : 3 ≤ file
    above = omega (arith, are.active.file_from, file_is)

    was : IsActiveAt (a file) (active_of s.manifest) s.active
    was = subst (λ (n : ℕ). IsActiveAt (a n) (active_of s.manifest) s.active) file_is known.files.active

-- ---- entries by their place

pub all_at : (P : Entry → Type 0) (xs : List Entry) (i : ℕ) → AllByRecursion P xs → i < length xs → P
    (get_or xs i no_entry)
all_at P [] i is lt = absurd (omega (arith, lt))
all_at P (x ∷ xs) zero is lt = is.0
all_at P (x ∷ xs) (suc i) is lt = all_at P xs i is.1 (omega (arith, lt))

-- no other file has the name of the one at a place
pub own_at : (xs : List Entry) (i : ℕ) → HaveOwnFiles xs → i < length xs → AllByRecursion (λ e. (e.file ≢
    (get_or xs i no_entry).file) ⊎ (e.length ≤ (get_or xs i no_entry).length)) xs
own_at [] i own lt = tt
own_at (x ∷ xs) zero own lt = (
  inr (omega arith),
  all_by (λ e. e.file ≢ x.file) (λ e. (e.file ≢ x.file) ⊎
      (e.length ≤ x.length)) (λ e differs. inl differs) xs own.0,
)
own_at (x ∷ xs) (suc i) own lt =
    let there = all_at (λ e. e.file ≢ x.file) xs i own.0 (omega (arith, lt)) in
    (inl (λ same. there (sym same)), own_at xs i own.1 (omega (arith, lt)))

-- the file of an entry before the active one is cut to what counts of it
pub cutting_one : (slots : Slots) (s : State) (i : ℕ) (a b : ℕ → List ℕ) → i < length (front_of s.manifest)
    → HaveOwnFiles (front_of s.manifest) → IsKnown slots s a
    → InFile (get_or (front_of s.manifest) i no_entry).file (KeepsFront (get_or
    (front_of s.manifest) i no_entry).length) a b → IsKnown slots s b
cutting_one slots s i a b lt own known step =
    let are = are_entries s.manifest (valid_of slots s a known) in
    let e = get_or (front_of s.manifest) i no_entry in
    let other = all_at (IsOther s.manifest) (front_of s.manifest) i are.front lt in
    cutting slots s e.file e.length a b other.entry.file_from other.apart (own_at
    (front_of s.manifest) i own lt) known step

pub own_before : (xs : List Entry) (i : ℕ) → HaveOwnFiles xs → i < length xs → AllByRecursion (λ e. e.file ≢
    (get_or xs i no_entry).file) (take i xs)
own_before [] i own lt = absurd (omega (arith, lt))
own_before (x ∷ xs) zero own lt = tt
own_before (x ∷ xs) (suc i) own lt =
    let there = all_at (λ e. e.file ≢ x.file) xs i own.0 (omega (arith, lt)) in
    (λ same. there (sym same), own_before xs i own.1 (omega (arith, lt)))

pub own_front : (m : Manifest) → IsValidManifest m → HaveOwnFiles (front_of m)
own_front m valid = own_first (front_of m) (active_of m) (subst HaveOwnFiles (split m valid) valid.files)

pub part_long : (kind : Kind) (octets : List ℕ) (e : Entry) (p : Part) → StandsAs kind octets e p
    → e.length ≤ length octets
part_long Wide octets e p is = is.long
part_long Rolled octets e p is = is.long
part_long Sealed octets e p is = is.long
part_long Active octets e p is = absurd is

pub parts_long : (image : ℕ → List ℕ) (entries : List Entry) (parts : List Part) → PartsStand image entries parts
    → AllByRecursion (λ e. e.length ≤ length (image e.file)) entries
parts_long image [] parts is = tt
parts_long image (e ∷ entries) [] is = absurd is
parts_long image (e ∷ entries) (p ∷ parts) is = (
  part_long e.kind
      (image e.file) e p is.0,
  parts_long image entries parts is.1,
)

pub bool_cases : (b : Bool) → (b ≡ true) ⊎ (b ≡ false)
bool_cases true = inl refl
bool_cases false = inr refl

-- a file that isn't named is that of no entry
pub not_named : (m : Manifest) (n : ℕ) → is_file_of m n ≡ false → AllByRecursion (λ e. e.file ≢ n) m.entries
not_named m n unnamed = all_by (λ e. is_file_of m e.file ≡ true) (λ e. e.file ≢ n) (λ e named same. let there = ap
    (is_file_of m) same in absurd (cc)) m.entries (entries_named m)

pub active_named : (m : Manifest) → IsValidManifest m → is_file_of m (active_of m).file ≡ true
active_named m valid = all_last (λ e. is_file_of m e.file ≡ true) (front_of m) (active_of m) (subst (AllByRecursion
    (λ e. is_file_of m e.file ≡ true)) (split m valid) (entries_named m))

-- ---- frozen files

abbrev pub no_part : Part
no_part = record { front = []; messages = [] }

pub frozen_push : {S : Type 0} (octets : S → List ℕ) (e : Entry) (p : Part) (x : S) → StandsAs e.kind (octets x) e p →
    (entries : List Entry) (parts : List Part) (frozen : List S)
    → FrozenStand octets entries parts frozen → FrozenStand octets (entries ++ e ∷ []) (parts ++ p ∷ [])
    (frozen ++ x ∷ [])
frozen_push octets e p x at [] [] [] is = (at, tt)
frozen_push octets e p x at [] [] (y ∷ frozen) is = absurd is
frozen_push octets e p x at [] (q ∷ parts) frozen is = absurd is
frozen_push octets e p x at (f ∷ entries) [] frozen is = absurd is
frozen_push octets e p x at (f ∷ entries) (q ∷ parts) [] is = absurd is
frozen_push octets e p x at (f ∷ entries) (q ∷ parts) (y ∷ frozen) is =
    (is.0, frozen_push octets e p x at entries parts frozen is.1)

pub files_push : {S : Type 0} (number size : S → ℕ) (is_honest : S → Bool) (honest : Bool) (e : Entry) (x : S)
    → IsFileOf number size is_honest honest e x → (entries : List Entry) (files : List S)
    → AreFilesOf number size is_honest honest entries files
    → AreFilesOf number size is_honest honest (entries ++ e ∷ []) (files ++ x ∷ [])
files_push number size is_honest honest e x at [] [] is = (at, tt)
files_push number size is_honest honest e x at [] (y ∷ files) is = absurd is
files_push number size is_honest honest e x at (f ∷ entries) [] is = absurd is
files_push number size is_honest honest e x at (f ∷ entries) (y ∷ files) is =
    (is.0, files_push number size is_honest honest e x at entries files is.1)

pub parts_count : (image : ℕ → List ℕ) (entries : List Entry) (parts : List Part) → PartsStand image entries parts
    → length entries ≡ length parts
parts_count image [] [] is = refl
parts_count image [] (p ∷ parts) is = absurd is
parts_count image (e ∷ entries) [] is = absurd is
parts_count image (e ∷ entries) (p ∷ parts) is = omega (arith, parts_count image entries parts is.1)

pub part_is : (image : ℕ → List ℕ) (entries : List Entry) (parts : List Part) (i : ℕ)
    → PartsStand image entries parts → i < length entries
    → StandsAs (get_or entries i no_entry).kind (image (get_or entries i no_entry).file) (get_or entries i no_entry)
    (get_or parts i no_part)
part_is image [] parts i is lt = absurd (omega (arith, lt))
part_is image (e ∷ entries) [] i is lt = absurd is
part_is image (e ∷ entries) (p ∷ parts) zero is lt = is.0
part_is image (e ∷ entries) (p ∷ parts) (suc i) is lt = part_is image entries parts i is.1 (omega (arith, lt))

-- ---- refusals

-- a refusal that no state with this manifest explains, over slots that hold it
pub told_of_files : (slots : Slots) (before reads : ℕ → List ℕ) (e : OpenError) → ((n : ℕ) → reads n ≡ before n)
    → AreSlots slots reads
    → ((s : State) → s.manifest ≡ slots.current → HoldsFiles reads s → IsDeviceOrMemory e) → IsDeviceOrMemory e
    ⊎ StandsForNone before
told_of_files slots before reads Fault same are refused = inl (inl refl)
told_of_files slots before reads OutOfMemory same are refused = inl (inr refl)
told_of_files slots before reads (Damaged file at) same are refused = inr
    (λ s stands. let there = same_reads s before reads same stands in
    ⊎_elim (λ is. absurd (cc)) (λ is. absurd (cc)) (refused s (one_in_force reads s.manifest slots.current there.force
    (slots, refl, are)) there.files))
told_of_files slots before reads (Format file) same are refused = inr
    (λ s stands. let there = same_reads s before reads same stands in
    ⊎_elim (λ is. absurd (cc)) (λ is. absurd (cc)) (refused s (one_in_force reads s.manifest slots.current there.force
    (slots, refl, are)) there.files))
told_of_files slots before reads (Entries file) same are refused = inr
    (λ s stands. let there = same_reads s before reads same stands in
    ⊎_elim (λ is. absurd (cc)) (λ is. absurd (cc)) (refused s (one_in_force reads s.manifest slots.current there.force
    (slots, refl, are)) there.files))
told_of_files slots before reads (Cut file) same are refused = inr
    (λ s stands. let there = same_reads s before reads same stands in
    ⊎_elim (λ is. absurd (cc)) (λ is. absurd (cc)) (refused s (one_in_force reads s.manifest slots.current there.force
    (slots, refl, are)) there.files))
told_of_files slots before reads NoArchive same are refused = inr
    (λ s stands. let there = same_reads s before reads same stands in
    ⊎_elim (λ is. absurd (cc)) (λ is. absurd (cc)) (refused s (one_in_force reads s.manifest slots.current there.force
    (slots, refl, are)) there.files))

-- parts that are known on an honest disk, and some on any other one
pub chosen : (honest : Bool) (P : List Part → Type 0) → (IsTrue honest → (parts : List Part) × P parts) →
    (parts : List Part) × (IsTrue honest → P parts)
chosen false P found = ([], λ h. absurd (cc))
chosen true P found = let is = found refl in (is.0, λ h. is.1)

-- what is known of an image that represents one of two states is that one
pub is_either : (image : ℕ → List ℕ) (slots : Slots) (a b s : State) → s ≡ reopened s → IsKnown slots s image
    → StandsForEither a b image → (s ≡ a) ⊎ (s ≡ b)
is_either image slots a b s rest known (inl is) = inl (one_state image s a (record {
  force =
      (slots, known.current, known.slots_are);
  files = known.files;
  at_rest = rest;
}) is)
is_either image slots a b s rest known (inr is) = inr (one_state image s b (record {
  force =
      (slots, known.current, known.slots_are);
  files = known.files;
  at_rest = rest;
}) is)

pub either_known : (image : ℕ → List ℕ) (slots : Slots) (a b s : State) → s ≡ reopened s → (s ≡ a) ⊎ (s ≡ b)
    → IsKnown slots s image → StandsForEither a b image
either_known image slots a b s rest (inl is) known = inl (subst (StandsFor image) is (record {
  force =
      (slots, known.current, known.slots_are);
  files = known.files;
  at_rest = rest;
}))
either_known image slots a b s rest (inr is) known = inr (subst (StandsFor image) is (record {
  force =
      (slots, known.current, known.slots_are);
  files = known.files;
  at_rest = rest;
}))

-- where each image represented one of two states, what was read is one of them
pub known_either : (before files : ℕ → Held) (slots : Slots) (a b t : State) (carry : Carry) → t ≡ reopened t
    → IsRead files (reads_of before) slots t carry → IsDiskImage files (reads_of files)
    → AllImages files (IsDiskImage before) → AllImages before (StandsForEither a b)
    → (t ≡ a) ⊎ (t ≡ b)
known_either before files slots a b t carry rest read now narrows all =
    is_either (reads_of files) slots a b t rest (read.known (reads_of files) now) (all (reads_of files) (narrows
    (reads_of files) now))
