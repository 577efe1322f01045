-- An archive after an install: a file of sums in place of its sources.
use Rattle.std.proofs.Common.{◌≡◌, ◌≢◌, inr, inl, ⊎_elim, ℕ, ◌+◌, ◌<◌, ◌≤◌, Bool, true, false, IsTrue, List, [], ◌∷◌}
use Rattle.std.proofs.Common.{◌++◌, length, map, take, drop, refl, sym, ◌∙◌, ap, subst, arith, length-append, Err}
use Rattle.std.proofs.Common.{Option, None, Some}
use Rattle.std.specs.Prelude.{replicate, IfSome}
use Rattle.std.specs.List.{AllByRecursion}
use Rattle.std.proofs.lemmas.List.{length-replicate, length-take-le, map-append, take_all}
use Rattle.flow_disk.specs.Disk.{Held, Marks, AllImages}
use Rattle.flow_manifest.specs.declared.following.JobKind.{JobKind}
use Rattle.flow_manifest.specs.declared.following.JobKind.TheVariants.{Merge, Roll}
use Rattle.flow_manifest.specs.declared.manifest.Entry.{Entry}
use Rattle.flow_manifest.specs.declared.manifest.Manifest.{Manifest}
use Rattle.flow_manifest.specs.declared.slots.Slot.{Slot}
use Rattle.flow_manifest.specs.declared.slots.Slot.TheVariants.{First, Second}
use Rattle.flow_manifest.specs.declared.slots.Slots.{Slots}
use Rattle.flow_manifest.specs.Manifest.{HaveOwnFiles, IsEntry, IsValidManifest}
use Rattle.flow_manifest.specs.Following.{count_before, count_of, front_of, made_entry, made_of, source_of, sources_of}
use Rattle.flow_manifest.specs.Slots.{file_of, other}
use Rattle.flow_manifest.proofs.EntryLists.{all_both, all_drop, all_join, all_left, all_take, own_apart, own_right}
use Rattle.flow_manifest.proofs.EntryLists.{AreApart}
use Rattle.flow_manifest.proofs.ValidEntries.{are_entries}
use Rattle.flow_segment.specs.Carry.{Carry}
use Rattle.flow_model.specs.State.{Part, StagedFile, State}
use Rattle.flow_model.specs.Chain.{HandsOn}
use Rattle.flow_model.specs.Jobs.{replaced, replaced_parts, staged_of}
use Rattle.flow_recover.specs.Kept.{IsCounted, IsReadyFor}
use Rattle.flow_recover.specs.Opening.{FrozenStand}
use Rattle.flow_model.specs.Standing.{IsKnown, IsRolledAt, StandsAs}
use Rattle.flow_model.proofs.SourcePlaces.{active_installed, front_installed, messages_installed, sources_are}
use Rattle.flow_archive.specs.Frozen.{counted_of, octets_in, AreHeldAs, Frozen, IsHeldAs}
use Rattle.flow_archive.specs.Parts.{part_at, parts_at}
use Rattle.flow_archive.specs.Seen.{AreFrozen, IsArchive, state_in}
use Rattle.flow_archive.specs.declared.refusal.ArchiveError.{ArchiveError}
use Rattle.flow_archive.specs.declared.refusal.ArchiveError.TheVariants.{Message, OutOfMemory, NumbersSpent, NotEmpty}
use Rattle.flow_archive.specs.declared.refusal.ArchiveError.TheVariants.{Fault, NoRoom, ManifestFull, NothingToSeal}
use Rattle.flow_archive.specs.declared.refusal.ArchiveError.TheVariants.{Closed, Damaged, SourceFault, RollBusy, NoRoll}
use Rattle.flow_archive.specs.declared.refusal.ArchiveError.TheVariants.{RollCount, RollNotDone, Pinned}
use Rattle.flow_archive.specs.declared.refusal.ArchiveError.TheVariants.{NothingToRetire}
use Rattle.flow_archive.specs.Installing.{cut_in, IsNotInstalled, MayInstall}
use Rattle.flow_archive.specs.JobAnswers.{cut_moved, AnswersInstall, IsInstalled, IsJobFile}
use Rattle.flow_archive.specs.UnderWay.{job_in, numbers_of, staged_file, staged_in, under_way_in, IsRunningJob}
use Rattle.flow_archive.specs.UnderWay.{IsStaged, IsUnderWay, IsUnnamed, IsWaiting, FrozenStaged, RunningJob, UnderWay}
use Rattle.flow_archive.proofs.Owning.{as_many}
use Rattle.flow_archive.proofs.Ready.{which_slot}
use Rattle.flow_archive.proofs.Stand.{frozen_too, slot_below}
use Rattle.flow_archive.proofs.Written.{told}
use Rattle.flow_archive.specs.UnderWay as files
use Rattle.flow_archive.proofs.FilePieces.{parts_join, parts_take, parts_drop, frozen_join, frozen_take, frozen_drop}
use Rattle.flow_archive.proofs.FilePieces.{held_join, held_take, held_drop, held_numbers, held_all, in_three}

-- ---- the file of a job

part_made : (kind : JobKind) (e : Entry) (octets : List ℕ) → counted_of (made_of kind) e.length octets ≡ octets
    → part_at (made_of kind) e octets ≡ record { front = octets; messages = [] }
part_made Roll e octets is = ap (λ (l : List ℕ). record { front = l; messages = [] }) is
part_made Merge e octets is = ap (λ (l : List ℕ). record { front = l; messages = [] }) is

made_stands : (kind : JobKind) (e : Entry) (octets front : List ℕ) → e.length ≡ length front → octets ≡ front
    → StandsAs (made_of kind) octets e (record { front = front; messages = [] })
made_stands kind e octets front long is = by_kind kind
  where
    same : length octets ≡ length front
    same = ap (λ (l : List ℕ). length l) is

    at : IsRolledAt octets e (record { front = front; messages = [] })
    at = record {
      long = omega (arith, long, same);
      front = take_all e.length octets (omega (arith, long, same)) ∙ is;
      messages = refl;
    }

    by_kind : (kind : JobKind) → StandsAs (made_of kind) octets e (record { front = front; messages = [] })
    by_kind Roll = at
    by_kind Merge = at

-- ---- the slots

pub ready_swapped : (old new : ℕ → Marks) (active next end : ℕ) (slot : Slot) → 3 ≤ active → 3 ≤ next
    → IsReadyFor old active next end → ((n : ℕ) → n ≢ file_of (other slot) → new n ≡ old n)
    → 1 ≤ (new (file_of (other slot))).size → (new (file_of (other slot))).settled ≡ true
    → (new (file_of (other slot))).frozen ≡ false → IsReadyFor new active next end
ready_swapped old new active next end slot from above ready others room settled thawed = record {
  slot_room = which_slot (λ n. 1 ≤ (new n).size) slot
      (subst (λ (k : Marks). 1 ≤ k.size) (sym same) (ready.slot_room slot)) room;
  slot_settled = which_slot (λ n. (new n).settled ≡ true) slot
      (ap (λ (k : Marks). k.settled) same ∙ ready.slot_settled slot) settled;
  slot_thawed = which_slot (λ n. (new n).frozen ≡ false) slot
      (ap (λ (k : Marks). k.frozen) same ∙ ready.slot_thawed slot) thawed;
  room = subst (λ (k : Marks). end + 2 ≤ k.size) (sym here) ready.room;
  settled = ap (λ (k : Marks). k.settled) here ∙ ready.settled;
  thawed = λ n which. ⊎_elim
      (λ is. ap (λ (k : Marks). k.frozen) (others n (λ at. omega (arith, at, is, from, slot_below (other slot))))
      ∙ ready.thawed n (inl is))
      (λ le. ap (λ (k : Marks). k.frozen) (others n (λ at. omega (arith, at, le, above, slot_below (other slot))))
      ∙ ready.thawed n (inr le))
      which;
}
  where
    apart_slots : (slot : Slot) → file_of slot ≢ file_of (other slot)
    apart_slots First is = omega (arith, is)
    apart_slots Second is = omega (arith, is)

    same : new (file_of slot) ≡ old (file_of slot)
    same = others (file_of slot) (apart_slots slot)

    here : new active ≡ old active
    here = others active (λ is. omega (arith, is, from, slot_below (other slot)))

-- ---- names

-- no file of one list is one of the other
flipped_one : (e : Entry) (xs ys : List Entry) → AllByRecursion (λ o. o.file ≢ e.file) ys → AreApart xs ys
    → AreApart ys xs → AreApart ys (e ∷ xs)
flipped_one e xs [] all apart is = tt
flipped_one e xs (y ∷ ys) all apart is =
    (((λ same. all.0 (sym same)), is.0), flipped_one e xs ys all.1 (tails xs apart) is.1)
  where
    tails : (xs : List Entry) → AreApart xs (y ∷ ys) → AreApart xs ys
    tails [] apart = tt
    tails (x ∷ xs) apart = (apart.0.1, tails xs apart.1)

none_apart : (ys : List Entry) → AreApart ys []
none_apart [] = tt
none_apart (y ∷ ys) = (tt, none_apart ys)

flipped : (xs ys : List Entry) → AreApart xs ys → AreApart ys xs
flipped [] ys apart = none_apart ys
flipped (x ∷ xs) ys apart = flipped_one x xs ys apart.0 apart.1 (flipped xs ys apart.1)

-- sources, taken out of the entries
module _ (xs sources ys : List Entry) (made : Entry) (own : HaveOwnFiles (xs ++ (sources ++ ys)))
    (unnamed : AllByRecursion (λ e. e.file ≢ made.file) sources) where
  pub freed : AllByRecursion (λ e. AllByRecursion (λ o. o.file ≢ e.file) (xs ++ made ∷ ys)) sources
  freed =
      let front = apart_left xs (own_apart xs (sources ++ ys) own) in
      let back = own_apart sources ys (own_right xs (sources ++ ys) own) in
      all_both (λ e. AllByRecursion (λ o. o.file ≢ e.file) xs) (λ e. AllByRecursion (λ o. o.file ≢ e.file) (made ∷ ys))
      (λ e. AllByRecursion (λ o. o.file ≢ e.file) (xs ++ made ∷ ys))
      (λ e before behind. all_join (λ o. o.file ≢ e.file) xs (made ∷ ys) before behind) sources
      (flipped xs sources front)
      (all_both (λ e. e.file ≢ made.file) (λ e. AllByRecursion (λ o. o.file ≢ e.file) ys)
      (λ e. AllByRecursion (λ o. o.file ≢ e.file) (made ∷ ys))
      (λ e apart behind. ((λ same. apart (sym same)), behind)) sources unnamed back)
    where
      apart_left : (xs : List Entry) → AreApart xs (sources ++ ys) → AreApart xs sources
      apart_left [] apart = tt
      apart_left (x ∷ xs) apart =
          (all_left (λ o. o.file ≢ x.file) sources ys apart.0, apart_left xs apart.1)

-- ---- the archive

module _ {D : Type 0} (honest : D → Bool) (marks : D → ℕ → Marks) (held : D → ℕ → Held) (work : UnderWay) (shared : Bool)
    (d d1 : D) (slots : Slots) (last : Entry) (end total : ℕ) (carry : Carry) (files : List Frozen) (front : List ℕ)
    (messages : List (List ℕ)) (kind : JobKind) (count : ℕ) (f : FrozenStaged) (part : Frozen) where
  abbrev s : State
  s = state_in work shared slots.current files front messages

  abbrev m : Manifest
  m = slots.current

  abbrev place : ℕ
  place = count_before (source_of kind) m.entries

  abbrev file : StagedFile
  file = staged_file f

  abbrev pub after : State
  after = replaced s kind count file

  abbrev pub made : Entry
  made = made_entry kind (staged_of file) (sources_of kind count m.entries)

  abbrev pub after_slots : Slots
  after_slots = record { current = after.manifest; current_slot = other slots.current_slot; other_open = true }

  abbrev pub moved : List Frozen
  moved = take count (drop place files)

  abbrev pub then_files : List Frozen
  then_files = take place files ++ part ∷ drop (place + count) files

  abbrev pub then_work : UnderWay
  then_work = under_way_in work.next None (work.waiting ++ moved)

  abbrev pub then_state : State
  then_state = state_in then_work shared after.manifest then_files front messages

  abbrev all : List Entry
  all = front_of m

  abbrev pub with_octets : List ℕ → State
  with_octets octets = record after { parts = replaced_parts kind count octets m.entries s.parts }

  module _ (valid : IsValidManifest m) (few : count ≤ count_of (source_of kind) m.entries)
      (are_held : AreHeldAs (honest d) all files) (part_held : IsHeldAs (honest d) made part) where
    front_is : front_of after.manifest ≡ take place all ++ made ∷ drop (place + count) all
    front_is = front_installed m valid kind count few file work.next

    long : length (take place files) ≡ length (take place all)
    long = as_many (honest d) (take place all) (take place files) (held_take (honest d) place all files are_held)

    parts_are : then_state.parts ≡ replaced_parts kind count part.octets m.entries s.parts
    parts_are =
        ap (λ (l : List Entry). parts_at octets_in l then_files) front_is
        ∙ parts_join octets_in (take place all) (made ∷ drop (place + count) all) (take place files)
        (part ∷ drop (place + count) files) long
        ∙ ap (λ (l : List Part). l ++ parts_at octets_in (made ∷ drop (place + count) all)
        (part ∷ drop (place + count) files)) (parts_take octets_in place all files)
        ∙ ap (λ (p : Part). take place s.parts ++ p ∷ parts_at octets_in (drop (place + count) all)
        (drop (place + count) files)) (part_made kind made part.octets part_held.counted)
        ∙ ap (λ (l : List Part). take place s.parts ++ record { front = part.octets; messages = [] } ∷ l)
        (parts_drop octets_in (place + count) all files)

    waiting_are : then_state.waiting ≡ after.waiting
    waiting_are =
        map-append (λ (x : Frozen). x.entry.file) work.waiting moved
        ∙ ap (λ (l : List ℕ). numbers_of work.waiting ++ l)
        (held_numbers (honest d) (take count (drop place all)) moved
        (held_take (honest d) count (drop place all) (drop place files)
        (held_drop (honest d) place all files are_held))
        ∙ ap (λ (l : List Entry). map (λ (e : Entry). e.file) l) (sym (sources_are m valid kind count few)))

    pub then_is : then_state ≡ with_octets part.octets
    then_is = ap (λ (l : List Part). record after { parts = l; waiting = then_state.waiting }) parts_are
        ∙ ap (λ (w : List ℕ). record (with_octets part.octets) { waiting = w }) waiting_are

    pub same_state : part.octets ≡ f.octets → then_state ≡ after
    same_state is = then_is ∙ ap with_octets is

    pub archive_installed : (closed : Bool) → IsArchive honest marks held d slots last end total carry files s closed
        → closed ≡ false → honest d1 ≡ honest d → IsValidManifest after.manifest
        → ((n : ℕ) → n ≢ file_of (other slots.current_slot) → marks d1 n ≡ marks d n)
        → 1 ≤ (marks d1 (file_of (other slots.current_slot))).size
        → (marks d1 (file_of (other slots.current_slot))).settled ≡ true
        → (marks d1 (file_of (other slots.current_slot))).frozen ≡ false → (marks d1 f.file).frozen ≡ true
        → (IsTrue (honest d) → AllImages (held d1) (IsKnown after_slots after))
        → (IsTrue (honest d) → part.octets ≡ f.octets)
        → ((h : IsTrue (honest d)) → HandsOn after carry)
        → IsArchive honest marks held d1 after_slots last end total carry then_files then_state closed
    archive_installed closed archive was honest_too now_valid others room settled thawed frozen known octets_is hands =
        let counted = archive.counted in
        let still = archive.still_open was in
        let are = are_entries m valid in
        let active_is = active_installed m valid kind count few file work.next in
        let total_too = messages_installed m valid kind count few file work.next in
        let at = ap (λ (e : Entry). e.file) counted.active_entry_is in
        let now : IsCounted then_state last end total = record {
          valid = now_valid;
          next = omega arith;
          active_entry_is = counted.active_entry_is ∙ sym active_is;
          end_is = omega (arith, counted.end_is, ap (λ (e : Entry). e.prefix) active_is);
          long = counted.long;
          total_is = omega (arith, counted.total_is, total_too);
          within = record { limit = counted.within.limit; all = omega (arith, counted.within.all, total_too) };
        } in
        let back = λ (h1 : IsTrue (honest d1)). subst IsTrue honest_too h1 in
        let same = λ (h : IsTrue (honest d)). same_state (octets_is h) in
        let not_slot : (n : ℕ) → 3 ≤ n → marks d1 n ≡ marks d n = λ n from. others n
        (λ is. omega (arith, is, from, slot_below (other slots.current_slot))) in
        let all_frozen = frozen_too m (marks d) (marks d1) valid (λ n from below apart. not_slot n from) still.frozen in
        record {
          counted = now;
          files_are = subst (λ (h : Bool). AreHeldAs h (front_of after.manifest) then_files) (sym honest_too)
              (subst (λ (l : List Entry). AreHeldAs (honest d) l then_files) (sym front_is)
              (held_join (honest d) (take place all) (made ∷ drop (place + count) all) (take place files)
              (part ∷ drop (place + count) files) (held_take (honest d) place all files are_held)
              (part_held, held_drop (honest d) (place + count) all files are_held)));
          stand = λ h1.
              let h = back h1 in
              let stands = archive.stand h in
              subst (λ (l : List Entry). FrozenStand octets_in l then_state.parts then_files) (sym front_is)
              (subst (λ (l : List Part). FrozenStand octets_in (take place all ++ made ∷ drop (place + count) all) l
              then_files) (sym (ap (λ (x : State). x.parts) (same h)))
              (frozen_join octets_in (take place all) (made ∷ drop (place + count) all) (take place s.parts)
              (record { front = f.octets; messages = [] } ∷ drop (place + count) s.parts) (take place files)
              (part ∷ drop (place + count) files) (frozen_take octets_in place all s.parts files stands) (
                made_stands kind made part.octets f.octets refl (octets_is h),
                frozen_drop octets_in (place + count) all s.parts files stands,
              )));
          still_open = λ _. record {
            kept = record {
              counted = now;
              ready = ready_swapped (marks d) (marks d1) last.file work.next end slots.current_slot
                  (omega (arith, at, are.active.file_from))
                  (omega (arith, are.active.file_from, are.active.file_below, counted.next)) still.kept.ready others room
                  settled thawed;
              known = λ h1 image is. subst (λ (x : State). IsKnown after_slots x image) (sym (same (back h1)))
                  (known (back h1) image is);
            };
            segment = still.segment;
            hands_on = λ h1. subst (λ (x : State). HandsOn x carry) (sym (same (back h1))) (hands (back h1));
            frozen = subst (AreFrozen (marks d1)) (sym front_is)
                (all_join (λ e. (marks d1 e.file).frozen ≡ true) (take place all) (made ∷ drop (place + count) all)
                (all_take (λ e. (marks d1 e.file).frozen ≡ true) place all all_frozen)
                (frozen, all_drop (λ e. (marks d1 e.file).frozen ≡ true) (place + count) all all_frozen));
          };
        }

    -- what is under way

    abbrev entries_then : List Entry
    entries_then = after.manifest.entries

    waiting_still : (closed : Bool) → ((n : ℕ) → 3 ≤ n → marks d1 n ≡ marks d n) → (xs : List Frozen)
        → AllByRecursion (λ x. x.entry.file ≢ f.file) xs → AllByRecursion (IsWaiting (marks d) s closed) xs
        → AllByRecursion (IsWaiting (marks d1) then_state closed) xs
    waiting_still closed others [] apart all_wait = tt
    waiting_still closed others (x ∷ xs) apart all_wait =
        let unnamed = all_wait.0.unnamed in (
          record {
            unnamed = record {
              from = unnamed.from;
              below = unnamed.below;
              apart = all_join (λ e. e.file ≢ x.entry.file) (take place m.entries)
                  (made ∷ drop (place + count) m.entries)
                  (all_take (λ e. e.file ≢ x.entry.file) place m.entries unnamed.apart) (
                    (λ same. apart.0 (sym same)),
                    all_drop (λ e. e.file ≢ x.entry.file) (place + count) m.entries unnamed.apart,
                  );
            };
            frozen = λ is. ap (λ (k : Marks). k.frozen) (others x.entry.file unnamed.from) ∙ all_wait.0.frozen is;
          },
          waiting_still closed others xs apart.1 all_wait.1,
        )

    -- a source waits from now on
    record IsFreed (n : ℕ) : Type 0 where
      pub from : 3 ≤ n
      pub below : n < work.next
      pub apart : AllByRecursion (λ o. o.file ≢ n) entries_then
      pub frozen : (marks d1 n).frozen ≡ true

    waiting_now : (closed : Bool) (xs : List Frozen) → AllByRecursion (λ x. IsFreed x.entry.file) xs
        → AllByRecursion (IsWaiting (marks d1) then_state closed) xs
    waiting_now closed [] all_freed = tt
    waiting_now closed (x ∷ xs) all_freed = (
      record {
        unnamed = record { from = all_freed.0.from; below = all_freed.0.below; apart = all_freed.0.apart };
        frozen = λ is. all_freed.0.frozen;
      },
      waiting_now closed xs all_freed.1,
    )

    waiting_join : (closed : Bool) (xs ys : List Frozen) → AllByRecursion (IsWaiting (marks d1) then_state closed) xs
        → AllByRecursion (IsWaiting (marks d1) then_state closed) ys
        → AllByRecursion (IsWaiting (marks d1) then_state closed) (xs ++ ys)
    waiting_join closed [] ys here there = there
    waiting_join closed (x ∷ xs) ys here there = (here.0, waiting_join closed xs ys here.1 there)

    sources_freed : m.next ≤ work.next → AllByRecursion (λ e. e.file ≢ f.file) m.entries
        → AreFrozen (marks d1) all → AllByRecursion (λ e. IsFreed e.file) (take count (drop place all))
    sources_freed far unnamed frozen =
        let own = subst HaveOwnFiles (in_three place count m.entries) valid.files in
        let here : sources_of kind count m.entries ≡ take count (drop place all) = sources_are m valid kind count few in
        let are_freed = freed (take place m.entries) (sources_of kind count m.entries)
        (drop (place + count) m.entries) made own
        (all_take (λ e. e.file ≢ f.file) count (drop place m.entries)
        (all_drop (λ e. e.file ≢ f.file) place m.entries unnamed)) in
        let each = all_take (IsEntry m.limit m.next) count (drop place m.entries)
        (all_drop (IsEntry m.limit m.next) place m.entries valid.each) in
        let still_frozen = all_take (λ e. (marks d1 e.file).frozen ≡ true) count (drop place all)
        (all_drop (λ e. (marks d1 e.file).frozen ≡ true) place all frozen) in
        let both = all_both (IsEntry m.limit m.next) (λ e. AllByRecursion (λ o. o.file ≢ e.file) entries_then)
        (λ e. IsEntry m.limit m.next e × AllByRecursion (λ o. o.file ≢ e.file) entries_then)
        (λ e one apart. (one, apart)) (sources_of kind count m.entries) each are_freed in
        all_both (λ e. IsEntry m.limit m.next e × AllByRecursion (λ o. o.file ≢ e.file) entries_then)
        (λ e. (marks d1 e.file).frozen ≡ true) (λ e. IsFreed e.file)
        (λ e one frozen_one. record {
          from = one.0.file_from;
          below = omega (arith, one.0.file_below, far);
          apart = one.1;
          frozen = frozen_one;
        }) (take count (drop place all))
        (subst (AllByRecursion (λ e. IsEntry m.limit m.next e
        × AllByRecursion (λ o. o.file ≢ e.file) entries_then)) here both) still_frozen

    pub work_installed : (closed : Bool) → IsArchive honest marks held d slots last end total carry files s closed
        → closed ≡ false → ((n : ℕ) → n ≢ file_of (other slots.current_slot) → marks d1 n ≡ marks d n)
        → IsUnnamed s f.file → AllByRecursion (λ x. x.entry.file ≢ f.file) work.waiting
        → AllByRecursion (IsWaiting (marks d) s closed) work.waiting
        → IsUnderWay honest marks held d1 then_state then_work closed
    work_installed closed archive was others unnamed apart waiting =
        let not_slot : (n : ℕ) → 3 ≤ n → marks d1 n ≡ marks d n = λ n from. others n
        (λ is. omega (arith, is, from, slot_below (other slots.current_slot))) in
        let still = archive.still_open was in
        let all_frozen = frozen_too m (marks d) (marks d1) valid (λ n from below no. not_slot n from) still.frozen in
        record {
          job = tt;
          on_disk = λ _. tt;
          waiting = waiting_join closed work.waiting moved (waiting_still closed not_slot work.waiting apart waiting)
              (waiting_now closed moved
              (held_all (honest d) IsFreed (take count (drop place all)) moved
              (held_take (honest d) count (drop place all) (drop place files)
              (held_drop (honest d) place all files are_held))
              (sources_freed archive.counted.next unnamed.apart all_frozen)));
        }

-- ---- what is answered

may_staged : (honest : Bool) (s : State) (r : RunningJob) (f : Option FrozenStaged) → IsRunningJob honest s r
    → IfSome f (IsStaged honest s r) → s.manifest.next ≤ s.next → IfSome f (MayInstall s.manifest s.next r)
may_staged honest s r None is staged far = tt
may_staged honest s r (Some f) is staged far = record {
  some = is.some;
  few = is.few;
  generation = staged.generation;
  from = staged.unnamed.from;
  below = staged.unnamed.below;
  unnamed = staged.unnamed.apart;
  later = far;
}

pub may_install : (honest : Bool) (s : State) (job : Option RunningJob) → IfSome job (IsRunningJob honest s)
    → s.manifest.next ≤ s.next → IfSome job (λ r. IfSome r.staged (MayInstall s.manifest s.next r))
may_install honest s None is far = tt
may_install honest s (Some r) is far = may_staged honest s r r.staged is is.staged far

pub some_made : (r : RunningJob) (f : FrozenStaged) → r.staged ≡ Some f → staged_in r.staged ≢ None
some_made r f is none =
    let never : Some (staged_file f) ≡ None = sym (ap staged_in is) ∙ none in absurd (cc)

pub not_installed : (honest closed : Bool) (s : State) (job : Option RunningJob) (e : ArchiveError) → closed ≡ false
    → s.job ≡ job_in job → IsNotInstalled job e → AnswersInstall honest closed s (Err e) s
not_installed honest closed s job NoRoll still same is = (still, same ∙ ap job_in is, refl)
not_installed honest closed s job RollNotDone still same (r, is, none) =
    (still, (told r, same ∙ ap job_in is, ap staged_in none), refl)
not_installed honest closed s job OutOfMemory still same (r, f, is, some) =
    (still, (told r, same ∙ ap job_in is, some_made r f some), refl)
not_installed honest closed s job (Message fault) still same is = absurd is
not_installed honest closed s job NumbersSpent still same is = absurd is
not_installed honest closed s job NotEmpty still same is = absurd is
not_installed honest closed s job (Damaged n at) still same is = absurd is
not_installed honest closed s job SourceFault still same is = absurd is
not_installed honest closed s job Fault still same is = absurd is
not_installed honest closed s job NoRoom still same is = absurd is
not_installed honest closed s job ManifestFull still same is = absurd is
not_installed honest closed s job NothingToSeal still same is = absurd is
not_installed honest closed s job RollBusy still same is = absurd is
not_installed honest closed s job RollCount still same is = absurd is
not_installed honest closed s job Pinned still same is = absurd is
not_installed honest closed s job NothingToRetire still same is = absurd is
not_installed honest closed s job Closed still same is = absurd is

pub is_installed : (honest : Bool) (s : State) (r : RunningJob) (f : FrozenStaged) (job : Option RunningJob) → job ≡ Some r
    → s.job ≡ job_in job → r.staged ≡ Some f → 1 ≤ r.sources
    → r.sources ≤ count_of (source_of r.kind) s.manifest.entries → (octets : List ℕ)
    → (IsTrue honest → IsJobFile s (told r) f.octets × (octets ≡ f.octets)) → (then : State)
    → then ≡ record (replaced s r.kind r.sources (staged_file f)) {
      parts = replaced_parts r.kind r.sources octets s.manifest.entries s.parts;
    } → IsInstalled honest s then
is_installed honest s r f job is same staged some few octets made then then_is = (
  told r,
  same ∙ ap job_in is,
  (staged_file f, octets, ap staged_in staged, (some, few), made, then_is),
)

pub cut_is : (kind : JobKind) (then : State) → cut_in kind then.manifest ≡ cut_moved kind then
cut_is Roll then = refl
cut_is Merge then = refl

-- ---- its octets

pub made_long : {S : Type 0} (number size : S → ℕ) (honest : S → Bool) (octets : S → List ℕ) (x : S)
    → length (files.frozen_staged number size honest octets x).octets ≡ size x
made_long number size honest octets x = length-take-le (size x) (octets x ++ replicate (size x) 0)
    (omega (arith, length-append (octets x) (replicate (size x) 0), length-replicate {A = ℕ} (size x) 0))
