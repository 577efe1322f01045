-- What events make of an archive's numbers, and of the marks of its files.
use Rattle.std.proofs.Common.{◌≡◌, ◌≢◌, inr, ⊎_elim, ℕ, ◌+◌, ◌<◌, ◌≤◌, ◌^◌, true, false, List, []}
use Rattle.std.proofs.Common.{◌∷◌, ◌++◌, length, sym, ◌∙◌, ap, subst, arith, length-append}
use Rattle.std.specs.List.{All}
use Rattle.std.proofs.lemmas.List.Elements.{All-head}
use Rattle.std.proofs.lemmas.List.Sums.{sum_by-append, sum_by-cons}
use Rattle.flow_disk.specs.Disk.{Marks}
use Rattle.flow_gate.specs.Gate.{IsWhole, octet_sum}
use Rattle.flow_gate.proofs.Rows.{octet_sum-append}
use Rattle.flow_manifest.specs.declared.manifest.Entry.{Entry}
use Rattle.flow_manifest.specs.declared.slots.Slot.{Slot}
use Rattle.flow_manifest.specs.declared.slots.Slot.TheVariants.{First, Second}
use Rattle.flow_manifest.specs.Manifest.{IsValidManifest}
use Rattle.flow_manifest.specs.Following.{active_of, front_of, sealed_entry, active_entry, messages_of}
use Rattle.flow_manifest.specs.Slots.{file_of, other}
use Rattle.flow_manifest.proofs.ValidEntries.{all_sum}
use Rattle.flow_manifest.proofs.ManifestAfterSeal.{next_active}
use Rattle.flow_model.specs.State.{State, appended, end_of, after_seal}
use Rattle.flow_recover.specs.Kept.{IsCounted, IsReadyFor}
use Rattle.flow_model.specs.Standing.{IsWithinLimits}
use Rattle.flow_archive.specs.Sealing.{SealsMarks}
use Rattle.flow_archive.proofs.Stand.{slot_below}

-- a batch has 16 octets at least
pub some_octets : (messages : List (List ℕ)) → All IsWhole messages → 1 ≤ length messages → 16 ≤ octet_sum messages
some_octets [] all some = absurd (omega (arith, some))
some_octets (m ∷ messages) all some =
    let whole : IsWhole m = All-head IsWhole m messages all in omega (arith, whole.long)

pub within_more : (s : State) (last : Entry) (end total : ℕ) (more : List (List ℕ)) → IsCounted s last end total
    → end + octet_sum more ≤ last.prefix + s.manifest.limit → total + length more < 2 ^ 48
    → IsWithinLimits (appended s more)
within_more s last end total more counted fits few = record {
  limit = omega (
    arith,
    octet_sum-append s.active.messages more,
    fits,
    counted.end_is,
    ap (λ (e : Entry). e.prefix) counted.active_entry_is,
  );
  all = omega (arith, length-append s.active.messages more, few, counted.total_is);
}

pub counted_more : (s : State) (last : Entry) (end total : ℕ) (more : List (List ℕ)) → IsCounted s last end total
    → end + octet_sum more ≤ last.prefix + s.manifest.limit → total + length more < 2 ^ 48 → 16 ≤ octet_sum more
    → IsCounted (appended s more) last (end + octet_sum more) (total + length more)
counted_more s last end total more counted fits few some = record {
  valid = counted.valid;
  next = counted.next;
  active_entry_is = counted.active_entry_is;
  end_is = omega (arith, octet_sum-append s.active.messages more, counted.end_is);
  long = λ any. omega (arith, some, counted.end_is, ap (λ (e : Entry). e.prefix) counted.active_entry_is);
  total_is = omega (arith, length-append s.active.messages more, counted.total_is);
  within = within_more s last end total more counted fits few;
}

pub ready_more : (old new : ℕ → Marks) (active next end more : ℕ) → 3 ≤ active → active < next
    → IsReadyFor old active next end → ((n : ℕ) → n ≢ active → new n ≡ old n) → end + more + 2 ≤ (new active).size
    → (new active).settled ≡ true → (new active).frozen ≡ false → IsReadyFor new active next (end + more)
ready_more old new active next end more from below ready others room settled thawed = record {
  slot_room = λ slot. subst (λ (k : Marks). 1 ≤ k.size) (sym (others (file_of slot) (apart slot))) (ready.slot_room
      slot);
  slot_settled = λ slot. ap (λ (k : Marks). k.settled) (others (file_of slot) (apart slot)) ∙ ready.slot_settled slot;
  slot_thawed = λ slot. ap (λ (k : Marks). k.frozen) (others (file_of slot) (apart slot)) ∙ ready.slot_thawed slot;
  room = room;
  settled = settled;
  thawed = λ n which. ⊎_elim
      (λ same. ap (λ (k : ℕ). (new k).frozen) same ∙ thawed)
      (λ le. ap (λ (k : Marks). k.frozen) (others n (λ is. omega (arith, is, le, below))) ∙ ready.thawed n (inr le))
      which;
}
  where
    apart : (slot : Slot) → file_of slot ≢ active
    apart slot is = omega (arith, is, slot_below slot, from)

pub which_slot : (P : ℕ → Type 0) (slot : Slot) → P (file_of slot) → P (file_of (other slot)) → (any : Slot)
    → P (file_of any)
which_slot P First one two First = one
which_slot P First one two Second = two
which_slot P Second one two First = two
which_slot P Second one two Second = one

-- after a seal
pub counted_moved : (s : State) (last : Entry) (end total : ℕ) (prefix : List ℕ) → IsCounted s last end total
    → IsValidManifest (after_seal s prefix).manifest
    → IsCounted (after_seal s prefix) (active_entry s.next (length prefix)) (length prefix) total
counted_moved s last end total prefix counted valid = record {
  valid = valid;
  next = omega arith;
  active_entry_is = sym fresh_is;
  end_is = omega (arith, ap (λ (e : Entry). e.prefix) fresh_is);
  long = λ some. omega (arith, some);
  total_is = omega (arith, sums, counted.total_is);
  within = record { limit = omega arith; all = omega (arith, sums, counted.within.all) };
}
  where
    sealed : Entry
    sealed = sealed_entry (active_of s.manifest) (end_of s) (length s.active.messages)

    fresh : Entry
    fresh = active_entry s.next (length prefix)

    fresh_is : active_of (after_seal s prefix).manifest ≡ fresh
    fresh_is = next_active s.manifest counted.valid (end_of s) (length s.active.messages) s.next (length prefix)

    sums : messages_of (front_of s.manifest ++ sealed ∷ fresh ∷ [])
        ≡ messages_of s.manifest.entries + length s.active.messages
    sums = omega (
      arith,
      sum_by-append (λ (e : Entry). e.messages) (front_of s.manifest) (sealed ∷ fresh ∷ []),
      sum_by-cons (λ (e : Entry). e.messages) sealed (fresh ∷ []),
      sum_by-cons (λ (e : Entry). e.messages) fresh [],
      all_sum s.manifest counted.valid,
    )

pub ready_moved : (old new : ℕ → Marks) (active next end : ℕ) (slot : Slot) (prefix : ℕ) → 3 ≤ active → active < next
    → IsReadyFor old active next end → SealsMarks old new active next (file_of (other slot)) prefix
    → IsReadyFor new next (next + 1) prefix
ready_moved old new active next end slot prefix from below ready moved = record {
  slot_room = which_slot (λ n. 1 ≤ (new n).size) slot
      (subst (λ (k : Marks). 1 ≤ k.size) (sym same) (ready.slot_room slot)) moved.slot_room;
  slot_settled = which_slot (λ n. (new n).settled ≡ true) slot
      (ap (λ (k : Marks). k.settled) same ∙ ready.slot_settled slot) moved.slot_settled;
  slot_thawed = which_slot (λ n. (new n).frozen ≡ false) slot
      (ap (λ (k : Marks). k.frozen) same ∙ ready.slot_thawed slot) moved.slot_thawed;
  room = moved.next_room;
  settled = moved.next_settled;
  thawed = λ n which. ⊎_elim
      (λ here. ap (λ (k : ℕ). (new k).frozen) here ∙ moved.next_thawed)
      (λ le. ap (λ (k : Marks). k.frozen) (moved.others n (λ is. omega (arith, is, le, below))
      (λ is. omega (arith, is, le)) (λ is. omega (arith, is, le, slot_below (other slot), from, below)))
      ∙ ready.thawed n (inr (omega (arith, le))))
      which;
}
  where
    apart_slots : (slot : Slot) → file_of slot ≢ file_of (other slot)
    apart_slots First is = omega (arith, is)
    apart_slots Second is = omega (arith, is)

    same : new (file_of slot) ≡ old (file_of slot)
    same = moved.others (file_of slot) (λ is. omega (arith, is, slot_below slot, from))
        (λ is. omega (arith, is, slot_below slot, from, below)) (apart_slots slot)
