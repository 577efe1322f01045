-- An archive of which something differs that no image shows.
use Rattle.std.proofs.Common.{◌≡◌, ℕ, Bool, true, IsTrue, List, map, sym, ap, subst}
use Rattle.std.specs.Prelude.{Option}
use Rattle.flow_disk.specs.Disk.{Held, Marks}
use Rattle.flow_manifest.specs.declared.manifest.Entry.{Entry}
use Rattle.flow_manifest.specs.declared.manifest.Manifest.{Manifest}
use Rattle.flow_manifest.specs.declared.slots.Slots.{Slots}
use Rattle.flow_manifest.specs.Following.{front_of}
use Rattle.flow_segment.specs.Carry.{Carry}
use Rattle.flow_model.specs.State.{at_rest, Job, Part, State}
use Rattle.flow_model.specs.Chain.{HandsOn}
use Rattle.flow_recover.specs.Kept.{IsCounted}
use Rattle.flow_model.specs.Standing.{IsKnown}
use Rattle.flow_archive.specs.Frozen.{unshared, AreHeldAs, Frozen}
use Rattle.flow_archive.specs.Seen.{state_in, IsArchive}
use Rattle.flow_archive.specs.UnderWay.{UnderWay, job_in, numbers_of}
use Rattle.flow_archive.proofs.Sharing.{same_held, same_parts, same_stand}

-- ---- where nothing differs but what is under way, and whether it is shared

abbrev pub beside : State → Option Job → List ℕ → Bool → State
beside s job waiting shared = record s { job = job; waiting = waiting; shared = shared }

module _ (s : State) (job : Option Job) (waiting : List ℕ) (shared : Bool) where
  abbrev now : State
  now = beside s job waiting shared

  counted_too : (last : Entry) (end total : ℕ) → IsCounted s last end total → IsCounted now last end total
  counted_too last end total was = record {
    valid = was.valid;
    next = was.next;
    active_entry_is = was.active_entry_is;
    end_is = was.end_is;
    long = was.long;
    total_is = was.total_is;
    within = record { limit = was.within.limit; all = was.within.all };
  }

  hands_too : (carry : Carry) → HandsOn s carry → HandsOn now carry
  hands_too carry hands = record { sealed = hands.sealed; parts = hands.parts; active = hands.active }

  known_too : (slots : Slots) (image : ℕ → List ℕ) → IsKnown slots s image → IsKnown slots now image
  known_too slots image known = record {
    slots_are = known.slots_are;
    current = known.current;
    files = record {
      parts = known.files.parts;
      active = known.files.active;
      within = record { limit = known.files.within.limit; all = known.files.within.all };
      chained = (known.files.chained.0, hands_too known.files.chained.0 known.files.chained.1);
    };
  }

  pub beside_archive : {D : Type 0} (honest : D → Bool) (marks : D → ℕ → Marks) (held : D → ℕ → Held) (d : D)
      (slots : Slots) (last : Entry) (end total : ℕ) (carry : Carry) (files : List Frozen) (closed : Bool)
      → IsArchive honest marks held d slots last end total carry files s closed
      → IsArchive honest marks held d slots last end total carry files now closed
  beside_archive honest marks held d slots last end total carry files closed was = record {
    counted = counted_too last end total was.counted;
    files_are = was.files_are;
    stand = was.stand;
    still_open = λ is.
        let still = was.still_open is in record {
          kept = record {
            counted = counted_too last end total still.kept.counted;
            ready = still.kept.ready;
            known = λ h image left. known_too slots image (still.kept.known h image left);
          };
          segment = still.segment;
          hands_on = λ h. hands_too carry (still.hands_on h);
          frozen = still.frozen;
        };
  }

abbrev pub once_shared : State → State
once_shared s = record s { shared = true }

pub shared_archive : {D : Type 0} (honest : D → Bool) (marks : D → ℕ → Marks) (held : D → ℕ → Held) (d : D)
    (slots : Slots) (last : Entry) (end total : ℕ) (carry : Carry) (files : List Frozen) (s : State) (closed : Bool)
    → IsArchive honest marks held d slots last end total carry files s closed
    → IsArchive honest marks held d slots last end total carry files (once_shared s) closed
shared_archive honest marks held d slots last end total carry files s closed =
    beside_archive s s.job s.waiting true honest marks held d slots last end total carry files closed

-- whoever has its files too
pub same_state : (work : UnderWay) (shared : Bool) (m : Manifest) (new old : List Frozen) (prefix : List ℕ)
    (messages : List (List ℕ)) → map unshared new ≡ map unshared old
    → state_in work shared m new prefix messages ≡ state_in work shared m old prefix messages
same_state work shared m new old prefix messages same =
    ap (λ (l : List Part). record (at_rest m l (record { front = prefix; messages = messages })) {
      next = work.next;
      job = job_in work.job;
      waiting = numbers_of work.waiting;
      shared = shared;
    }) (same_parts (front_of m) new old same)

pub same_archive : {D : Type 0} (honest : D → Bool) (marks : D → ℕ → Marks) (held : D → ℕ → Held) (d : D)
    (slots : Slots) (last : Entry) (end total : ℕ) (carry : Carry) (new old : List Frozen) (s : State) (closed : Bool)
    → map unshared new ≡ map unshared old → IsArchive honest marks held d slots last end total carry old s closed
    → IsArchive honest marks held d slots last end total carry new s closed
same_archive honest marks held d slots last end total carry new old s closed same was = record {
  counted = was.counted;
  files_are = same_held (honest d) (front_of s.manifest) new old same was.files_are;
  stand = λ h. same_stand (front_of s.manifest) s.parts new old same (was.stand h);
  still_open = was.still_open;
}

-- after a fault
pub failed_archive : {D : Type 0} (honest : D → Bool) (marks : D → ℕ → Marks) (held : D → ℕ → Held) (d d1 : D)
    (slots : Slots) (last : Entry) (end total : ℕ) (carry behind : Carry) (files : List Frozen) (s : State)
    (closed : Bool) → IsArchive honest marks held d slots last end total carry files s closed → honest d1 ≡ honest d
    → IsArchive honest marks held d1 slots last end total behind files s true
failed_archive honest marks held d d1 slots last end total carry behind files s closed was same = record {
  counted = was.counted;
  files_are = subst (λ (b : Bool). AreHeldAs b (front_of s.manifest) files) (sym same) was.files_are;
  stand = λ h. was.stand (subst IsTrue same h);
  still_open = λ is. absurd (cc);
}
