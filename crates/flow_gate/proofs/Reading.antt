-- What is in octets that were read from a place on is in the file, after that place.
use Rattle.std.proofs.Common.{◌≡◌, inl, inr, ⊎_elim, ℕ, ◌+◌, ◌<◌, ◌≤◌, List, [], ◌∷◌, length, get_or, take, drop, refl}
use Rattle.std.proofs.Common.{sym, ◌∙◌, ap, subst, arith, length-drop}
use Rattle.std.proofs.lemmas.List.{get_or-drop, drop-drop}
use Rattle.std.proofs.lemmas.List.Elements.{All-nil, All-cons}
use Rattle.std.specs.List.{All}
use Rattle.std.specs.Prelude.{Result, Ok, Err, IfOk, IfErr}
use Rattle.flow_disk.specs.declared.disk.Disk.{Ghosts}
use Rattle.flow_disk.specs.Disk.{Held, IsImage, IsDiskImage, Stays}
use Rattle.flow_disk.specs.Moments.{Elapses}
use Rattle.flow_disk.specs.Calls.{LeavesOnly}
use Rattle.flow_disk.proofs.Moments.{started, goes_on}
use Rattle.flow_gate.specs.declared.tail.Tail.{Tail}
use Rattle.flow_refusals.specs.declared.read_refusal.ReadRefusal.{ReadRefusal}
use Rattle.flow_refusals.specs.declared.read_refusal.ReadRefusal.TheVariants.{Damaged, Fault, OutOfMemory}
use Rattle.flow_gate.specs.Scan.{IsTail, IsTold, IsTailRead, IsToldRead, IsGiven, IsRefused, IsNamed, texts}
use Rattle.flow_gate.proofs.Exact.{one_list, never_both, one_place}
use Rattle.flow_gate.specs.Gate.{IsWhole, IsClosedAt, IsFaultyAt, StandsAt, StandInRow, IsGated, IsDamaged}
use Rattle.flow_gate.specs.Gate.{length_field, octet_sum}

module _ (octets : List ℕ) (from : ℕ) where
  octet : (place far : ℕ) → far ≡ from + place → get_or (drop from octets) place 0 ≡ get_or octets far 0
  octet place far is = get_or-drop from octets place 0 ∙ ap (λ (n : ℕ). get_or octets n 0) (sym is)

  closed_behind : (place : ℕ) → IsClosedAt (drop from octets) place → IsClosedAt octets (from + place)
  closed_behind place closed = record {
    room = omega (arith, closed.room, length-drop from octets);
    zero_octet = sym (octet place (from + place) refl) ∙ closed.zero_octet;
    shut = λ ten. closed.shut (octet (place + 1) (from + place + 1) (omega arith) ∙ ten);
  }

  stands_behind : (place : ℕ) (part : List ℕ) → StandsAt (drop from octets) place part
      → StandsAt octets (from + place) part
  stands_behind place part stands = ap (λ l. take (length part) l) (sym (drop-drop place from octets)) ∙ stands

  row_behind : (place : ℕ) (list : List (List ℕ)) → StandInRow (drop from octets) place list
      → StandInRow octets (from + place) list
  row_behind place [] row = row
  row_behind place (message ∷ list) row = (
    row.0,
    stands_behind place message row.1,
    subst (λ (p : ℕ). StandInRow octets p list) (omega arith) (row_behind (place + length message) list row.2),
  )

  field_behind : (place : ℕ) → length_field (drop from octets) place ≡ length_field octets (from + place)
  field_behind place = omega (
    arith,
    octet (place + 2) (from + place + 2) (omega arith),
    octet (place + 3) (from + place + 3) (omega arith),
  )

  faulty_behind : (place : ℕ) → IsFaultyAt (drop from octets) place → IsFaultyAt octets (from + place)
  faulty_behind place (inl short) = inl (omega (arith, short, length-drop from octets))
  faulty_behind place (inr (inl high)) = inr (inl (λ zero. high (octet place (from + place) refl ∙ zero)))
  faulty_behind place (inr (inr cut)) = inr (inr (
    sym (octet (place + 1) (from + place + 1) (omega arith)) ∙ cut.0,
    ⊎_elim (λ few. inl (omega (arith, few, field_behind place)))
        (λ over. inr (omega (arith, over, field_behind place, length-drop from octets))) cut.1,
  ))

  pub gated_behind : (list : List (List ℕ)) → IsGated (drop from octets) 0 list → IsGated octets from list
  gated_behind list gated = record {
    row = subst (λ (p : ℕ). StandInRow octets p list) (omega arith) (row_behind 0 list gated.row);
    closed = subst (λ (p : ℕ). IsClosedAt octets p) (omega arith) (closed_behind (0 + octet_sum list) gated.closed);
  }

  pub damaged_behind : (place at : ℕ) → at ≡ from + place → from ≤ length octets → IsDamaged (drop from octets) 0 place
      → IsDamaged octets from at
  damaged_behind place at is within damaged = record {
    list = damaged.list;
    row = subst (λ (p : ℕ). StandInRow octets p damaged.list) (omega arith) (row_behind 0 damaged.list damaged.row);
    place = omega (arith, is, damaged.place);
    fits = λ some. omega (arith, is, damaged.fits some, length-drop from octets, within);
    fault = subst (λ (p : ℕ). IsFaultyAt octets p) (sym is) (faulty_behind place damaged.fault);
  }

-- there is nothing past the end
pub damaged_past : (octets : List ℕ) (from : ℕ) → length octets < from → IsDamaged octets from from
damaged_past octets from past =
    record {
      list = [];
      row = tt;
      place = omega arith;
      fits = λ some. absurd (some refl);
      fault =
          inl (omega (arith, past));
    }

-- each message of a row is whole
pub whole_row : (octets : List ℕ) (place : ℕ) (list : List (List ℕ)) → StandInRow octets place list → All IsWhole list
whole_row octets place [] row = All-nil IsWhole
whole_row octets place (message ∷ list) row =
    All-cons IsWhole message list row.0 (whole_row octets (place + length message) list row.2)

-- a scan that read the rest of the file
module _ (reads octets : List ℕ) (file from : ℕ) (rest : octets ≡ drop from reads) (within : from ≤ length reads) where
  pub found_in : (result : Result Tail ReadRefusal)
      → IfOk result (λ tail. IsTailRead octets from tail.end tail.messages.items)
      → IfOk result (λ tail. IsTail reads from tail.end tail.messages.items)
  found_in (Ok tail) is =
      record {
        gated = gated_behind reads from (texts tail.messages.items)
            (subst (λ l. IsGated l 0 (texts tail.messages.items)) rest is.gated);
        ends = is.ends;
      }
  found_in (Err e) is = tt

  told_of : (e : ReadRefusal) → IsToldRead octets file from e → IsTold reads file from e
  told_of (Damaged of at) is =
      (is.0, damaged_behind reads from is.1 at is.2 within (subst (λ l. IsDamaged l 0 is.1) rest is.3))
  told_of Fault is = tt
  told_of OutOfMemory is = tt

  pub told_in : (result : Result Tail ReadRefusal) → IfErr result (λ e. IsToldRead octets file from e)
      → IfErr result (λ e. IsTold reads file from e)
  told_in (Ok tail) is = tt
  told_in (Err e) is = told_of e is

-- a list that is there is given, and no other
given_of : (reads : List ℕ) (file from : ℕ) (list : List (List ℕ)) → IsGated reads from list → (e : ReadRefusal)
    → IsTold reads file from e → IsGiven list from (Err e)
given_of reads file from list gated (Damaged of at) is = never_both reads from at list gated is.1
given_of reads file from list gated Fault is = tt
given_of reads file from list gated OutOfMemory is = tt

pub given_in : (reads : List ℕ) (file from : ℕ) (list : List (List ℕ)) → IsGated reads from list
    → (result : Result Tail ReadRefusal)
    → IfOk result (λ tail. IsTail reads from tail.end tail.messages.items)
    → IfErr result (λ e. IsTold reads file from e) → IsGiven list from result
given_in reads file from list gated (Ok tail) found told =
    let same = one_list reads from (texts tail.messages.items) list found.gated gated in
    (same, found.ends ∙ ap (λ l. from + octet_sum l) same)
given_in reads file from list gated (Err e) found told = given_of reads file from list gated e told

-- damage is reported at its place
refused_of : (reads : List ℕ) (file from place : ℕ) → IsDamaged reads from place → (e : ReadRefusal)
    → IsTold reads file from e → IsRefused file place (Err e)
refused_of reads file from place damaged (Damaged of at) is = (is.0, one_place reads from at place is.1 damaged)
refused_of reads file from place damaged Fault is = tt
refused_of reads file from place damaged OutOfMemory is = tt

pub refused_in : (reads : List ℕ) (file from place : ℕ) → IsDamaged reads from place
    → (result : Result Tail ReadRefusal)
    → IfOk result (λ tail. IsTail reads from tail.end tail.messages.items)
    → IfErr result (λ e. IsTold reads file from e) → IsRefused file place result
refused_in reads file from place damaged (Ok tail) found told =
    absurd (never_both reads from place (texts tail.messages.items) found.gated damaged)
refused_in reads file from place damaged (Err e) found told = refused_of reads file from place damaged e told

pub whole_in : (octets : List ℕ) (from : ℕ) (result : Result Tail ReadRefusal)
    → IfOk result (λ tail. IsTailRead octets from tail.end tail.messages.items)
    → IfOk result (λ tail. All IsWhole (texts tail.messages.items))
whole_in octets from (Ok tail) is = let gated = is.gated in whole_row octets 0 (texts tail.messages.items) gated.row
whole_in octets from (Err e) is = tt

-- two looks at the disk
module _ {D S X : Type 0} (g : Ghosts D S X) (start mid : D)
    (only_now : (image : ℕ → List ℕ) → g.left_since start (g.moment start) image → IsDiskImage (g.held start) image)
    (first : Elapses (g.moment start) (g.moment mid) (g.left_since start) (g.left_since mid) (g.held start)) where
  pub looked : LeavesOnly g start mid (IsDiskImage (g.held start))
  looked = goes_on g start start mid (IsDiskImage (g.held start)) (g.held start)
      (started g start (IsDiskImage (g.held start)) only_now) first (λ image is. is)

  pub looked_again : (new : D) → Stays (g.held start) (g.held mid)
      → Elapses (g.moment mid) (g.moment new) (g.left_since mid) (g.left_since new) (g.held mid)
      → LeavesOnly g start new (IsDiskImage (g.held start))
  looked_again new same second =
      goes_on g start mid new (IsDiskImage (g.held start)) (g.held mid) looked second
      (λ image is n. subst (λ (f : Held). IsImage f (image n)) (same n) (is n))

named_of : (octets : List ℕ) (file from : ℕ) (e : ReadRefusal) → IsToldRead octets file from e → IsNamed file from e
named_of octets file from (Damaged of at) is = (is.0, omega (arith, is.2))
named_of octets file from Fault is = tt
named_of octets file from OutOfMemory is = tt

pub named_in : (octets : List ℕ) (file from : ℕ) (result : Result Tail ReadRefusal)
    → IfErr result (λ e. IsToldRead octets file from e) → IfErr result (λ e. IsNamed file from e)
named_in octets file from (Ok tail) is = tt
named_in octets file from (Err e) is = named_of octets file from e is
