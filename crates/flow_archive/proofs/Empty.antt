-- An archive without messages.
use Rattle.std.proofs.Common.{◌≡◌, ℕ, ◌≤◌, Bool, false, IsTrue, List, [], ◌∷◌, refl}
use Rattle.std.proofs.Common.{sym, subst, arith}
use Rattle.std.specs.Prelude.{None}
use Rattle.flow_disk.specs.Disk.{Held, Marks, AllImages}
use Rattle.flow_gate.specs.Gate.{IsGated}
use Rattle.flow_manifest.specs.Following.{active_entry}
use Rattle.flow_manifest.specs.Manifest.{IsInRange, IsValidManifest, head_of}
use Rattle.flow_manifest.specs.Slots.{AreSlots}
use Rattle.flow_segment.specs.Carry.{no_carry}
use Rattle.flow_model.specs.State.{empty_state, first_manifest}
use Rattle.flow_model.specs.Chain.{HandsOn, IsSegment}
use Rattle.flow_recover.specs.Kept.{IsCounted, IsReadyFor}
use Rattle.flow_model.specs.Standing.{HoldsFiles, IsKnown}
use Rattle.flow_archive.specs.Beginning.{first_slots}
use Rattle.flow_archive.specs.Seen.{IsArchive}
use Rattle.flow_archive.proofs.SealSwap.{empty_list}

pub first_valid : (generation width wide limit : ℕ) → generation ≤ 1
    → IsInRange (head_of (first_manifest 1 width wide limit)) → IsValidManifest (first_manifest generation width wide
    limit)
first_valid generation width wide limit small ranges = record {
  fits = record {
    generation = omega (arith, small);
    width = omega (arith, ranges.wide_from, ranges.wide_to);
    wide = omega (arith, ranges.wide_to);
    limit = omega (arith, ranges.limit_to);
    next = omega arith;
    rolled = omega arith;
    second = omega arith;
    count = omega arith;
  };
  ranges = record {
    width_from = ranges.width_from;
    wide_from = ranges.wide_from;
    wide_to = ranges.wide_to;
    wide_multiple = ranges.wide_multiple;
    limit_from = ranges.limit_from;
    limit_to = ranges.limit_to;
    count_from = omega arith;
    count_to = omega arith;
  };
  order = refl;
  files = (tt, tt);
  each = (
    record {
      fits = record { prefix = omega arith; file = omega arith; octets = omega arith; messages = omega arith };
      file_from = omega arith;
      file_below = omega arith;
      shape = (refl, refl);
    },
    tt,
  );
  wide = refl;
  cut = refl;
  all = omega arith;
}

-- what no messages pass on
pub no_segment : IsSegment (record { front = []; messages = [] }) (no_carry 0)
no_segment = record {
  prefix = [];
  messages = [];
  front = record { divided = record { whole = refl; each = tt }; accepted = tt };
  restated = tt;
  octets = refl;
  accepted = tt;
  time = 0;
  small = omega arith;
  hands_on = refl;
}

pub empty_hands_on : (width wide limit : ℕ) → HandsOn (empty_state width wide limit) (no_carry 0)
empty_hands_on width wide limit =
    record { sealed = None; parts = refl; active = (no_carry 0, tt, no_segment, refl) }

pub counted_empty : (width wide limit : ℕ) → IsValidManifest (first_manifest 1 width wide limit)
    → IsCounted (empty_state width wide limit) (active_entry 3 0) 0 0
counted_empty width wide limit valid = record {
  valid = valid;
  next = omega arith;
  active_entry_is = refl;
  end_is = refl;
  long = λ some. absurd (omega (arith, some));
  total_is = refl;
  within = record { limit = omega arith; all = omega arith };
}

-- the file of its segment is the closed gate alone
pub holds_empty : (width wide limit : ℕ) (image : ℕ → List ℕ) → image 3 ≡ 0 ∷ 0 ∷ []
    → HoldsFiles image (empty_state width wide limit)
holds_empty width wide limit image is = record {
  parts = tt;
  active = record {
    front = refl;
    gated = subst (λ (l : List ℕ). IsGated l 0 []) (sym is) (empty_list []);
  };
  within = record { limit = omega arith; all = omega arith };
  chained = (no_carry 0, empty_hands_on width wide limit);
}

pub known_empty : (width wide limit : ℕ) (image : ℕ → List ℕ) → image 3 ≡ 0 ∷ 0 ∷ []
    → AreSlots (first_slots width wide limit) image
    → IsKnown (first_slots width wide limit) (empty_state width wide limit) image
known_empty width wide limit image is slots =
    record { slots_are = slots; current = refl; files = holds_empty width wide limit image is }

pub empty_archive : {D : Type 0} (honest : D → Bool) (marks : D → ℕ → Marks) (held : D → ℕ → Held) (d : D)
    (width wide limit : ℕ) → IsValidManifest (first_manifest 1 width wide limit)
    → IsReadyFor (marks d) 3 4 0
    → (IsTrue (honest d)
    → AllImages (held d) (IsKnown (first_slots width wide limit) (empty_state width wide limit)))
    → IsArchive honest marks held d (first_slots width wide limit) (active_entry 3 0) 0 0 (no_carry 0) []
    (empty_state width wide limit) false
empty_archive honest marks held d width wide limit valid ready known = record {
  counted = counted_empty width wide limit valid;
  files_are = tt;
  stand = λ _. tt;
  still_open = λ _. record {
    kept = record { counted = counted_empty width wide limit valid; ready = ready; known = known };
    segment = no_segment;
    hands_on = λ _. empty_hands_on width wide limit;
    frozen = tt;
  };
}
