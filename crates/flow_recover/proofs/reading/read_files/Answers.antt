use Rattle.std.proofs.Common.{◌≡◌, inr, ℕ, ◌+◌, ◌-◌, ◌≤◌, IsTrue, List, [], ◌∷◌, length, take, refl, sym, ap, subst}
use Rattle.std.proofs.Common.{arith, rules, vec_len, Vec, None, Option, map}
use Rattle.std.specs.List.{All}
use Rattle.std.specs.declared.alloc.Global.{Global}
use Rattle.std.proofs.lemmas.List.{length-map}
use Rattle.std.proofs.lemmas.List.Elements.{All-get_or}
use Rattle.flow_disk.specs.Disk.{Held}
use Rattle.flow_disk.proofs.Results.{passed_on}
use Rattle.flow_gate.specs.Gate.{IsWhole, octet_sum}
use Rattle.flow_manifest.specs.declared.manifest.Entry.{Entry}
use Rattle.flow_manifest.specs.declared.manifest.Manifest.{Manifest}
use Rattle.flow_manifest.specs.Following.{active_of, front_of, messages_of}
use Rattle.flow_manifest.specs.Slots.{reads_of}
use Rattle.flow_segment.specs.Carry.{Carry}
use Rattle.flow_model.specs.State.{Part, State, at_rest}
use Rattle.flow_recover.specs.Reading.{part_of}
use Rattle.flow_model.specs.Chain.{ArePartsBehind, HandsOn, IsCalledFor, IsSegment}
use Rattle.flow_recover.specs.Reading.{IsHeldBehind, IsOnlyRead}
use Rattle.flow_model.specs.Standing.{PartsStand, IsActiveAt, IsWithinLimits, HoldsFiles}
use Rattle.flow_recover.specs.Opening.{IsDeviceOrMemory}
use Rattle.flow_recover.proofs.Behind.{called_along, called_for, is_called, one_chain}
use Rattle.flow_recover.proofs.OnlyReading.{then}
use Rattle.flow_recover.proofs.Recovering.{one_active}
use Rattle.flow_recover.proofs.reading.read_files.Given.{Over}
use Rattle.flow_recover.proofs.reading.read_files.Goals.{After-read_active, In_ok-active, In-Some}
use Rattle.flow_recover.proofs.reading.read_files.Goals as goal

some_whole : (l : List (List ℕ)) → All IsWhole l → 1 ≤ length l → 16 ≤ octet_sum l
some_whole [] all some = absurd (omega (arith, some))
some_whole (m ∷ l) all some =
    let whole : IsWhole m = All-get_or IsWhole (m ∷ l) 0 [] (omega arith) all in omega (arith, whole.long)

counts : (ms : Vec (Vec ℕ Global) Global) → vec_len ms ≡ length (map (λ (v : Vec ℕ Global). v.items) ms.items)
counts ms = let long : vec_len ms ≡ length ms.items = search rules in
    omega (arith, length-map ms.items (λ (v : Vec ℕ Global). v.items))

-- the files of a state, said of the manifest that is read
held_of : {image : ℕ → List ℕ} {s : State} {m : Manifest} → s.manifest ≡ m → HoldsFiles image s
    → HoldsFiles image (record s { manifest = m })
held_of {image} {s} {m} man files = subst (λ (k : Manifest). HoldsFiles image (record s { manifest = k })) man files

-- ---- what was read
module _ (g : Over) (c : After-read_active g) where
  ran : IsOnlyRead g.D.Disk c.args.disk.now c.read_active.new.disk
  ran = let call = c.read_active.ensures in
      then g.D.Disk c.args.disk.now c.read_entries.new.disk c.read_active.new.disk
      c.read_entries.ensures.keeps (record {
        honest = call.honest;
        settled = call.settled;
        frozen = call.frozen;
        listed = call.listed;
        slots = call.slots;
        held = call.held;
        any_moment = call.any_moment;
      })

module _ (g : Over) (c : In_ok-active g) (h : IsTrue (g.D.Disk.honest c.args.disk.now)) where
  active : IsActiveAt (g.D.Disk.held c.args.disk.now (active_of c.args.manifest.now).file).reads
      (active_of c.args.manifest.now) (part_of c.in_ok-active.active)
  active = let p = part_of c.in_ok-active.active in
      subst (λ (x : Entry). IsActiveAt (g.D.Disk.held c.args.disk.now x.file).reads x p) c.requires.active_entry
      (subst (λ (f : Held). IsActiveAt f.reads c.args.active_entry p) (c.read_entries.ensures.keeps.held h
      c.args.active_entry.file)
      (c.in_ok-active.ensures.found (subst IsTrue (sym c.read_entries.ensures.keeps.honest) h)))

  same : {s : State} → s.manifest ≡ c.args.manifest.now → HoldsFiles (reads_of (g.D.Disk.held c.args.disk.now)) s
      → s.active ≡ part_of c.in_ok-active.active
  same man files = one_active _ _ _ _ (held_of man files).active active

  parts : (ps : List Part) × (after : Option Carry)
      × PartsStand (reads_of (g.D.Disk.held c.args.disk.now)) (front_of c.args.manifest.now) ps
      × ArePartsBehind c.args.manifest.now None (front_of c.args.manifest.now) ps after
      × IsHeldBehind after c.in_ok-called.called
  parts = rw (ap (λ (l : List Entry). take (length l - 1) l) c.as_slice-entries.ensures)
      at (c.in_ok-called.ensures.found h)

module _ (g : Over) (c : In-Some g) where
  total : c.in-Some.total ≡ messages_of c.args.manifest.now.entries + length (part_of c.in_ok-active.active).messages
  total = let counts = counts c.in_ok-active.active.messages in
      omega (arith, c.in-Some.ensures.found.0, ap messages_of c.as_slice-entries.ensures)

  within : (parts : List Part) → IsWithinLimits (at_rest c.args.manifest.now parts (part_of c.in_ok-active.active))
  within parts = record {
    limit = omega (arith, c.if-end-limit.false, c.from.ensures, c.from-2.ensures, c.in_ok-active.ensures.ends.0);
    all = omega (arith, total, c.in-Some.ensures.found.1);
  }

-- ---- the disk
pub returns-in_err-active-clause-keeps : goal.returns-in_err-active-clause-keeps
returns-in_err-active-clause-keeps g c = ran g (goal.at.returns-in_err-active-clause-keeps g c).After-read_active

pub returns-in_err-carry-clause-keeps : goal.returns-in_err-carry-clause-keeps
returns-in_err-carry-clause-keeps g c = ran g (goal.at.returns-in_err-carry-clause-keeps g c).After-read_active

pub returns-then-end-limit-clause-keeps : goal.returns-then-end-limit-clause-keeps
returns-then-end-limit-clause-keeps g c = ran g (goal.at.returns-then-end-limit-clause-keeps g c).After-read_active

pub returns-in_default-clause-keeps : goal.returns-in_default-clause-keeps
returns-in_default-clause-keeps g c = ran g (goal.at.returns-in_default-clause-keeps g c).After-read_active

pub returns-clause-keeps : goal.returns-clause-keeps
returns-clause-keeps g c = ran g (goal.at.returns-clause-keeps g c).After-read_active

-- ---- refusals
pub returns-in_err-called-clause-refused : goal.returns-in_err-called-clause-refused
returns-in_err-called-clause-refused g c h s man files =
    let slice = ap (λ (l : List Entry). take (length l - 1) l) c.as_slice-entries.ensures in
    let held = held_of man files in
    let hands = held.chained.1 in
    passed_on c.from_residual.result (c.in_err-called.field-0).0 IsDeviceOrMemory c.from_residual.ensures.1
    (c.in_err-called.ensures.refused h s.parts hands.sealed (rw slice held.parts) (rw slice hands.parts))

pub returns-in_err-carry-clause-refused : goal.returns-in_err-carry-clause-refused
returns-in_err-carry-clause-refused g c h s man files =
    let at = (goal.at.returns-in_err-carry-clause-refused g c).In_ok-active in
    let m = c.args.manifest.now in
    let front = (part_of c.in_ok-active.active).front in
    let read = parts g at h in
    let held = held_of man files in
    let hands = held.chained.1 in
    let calls = one_chain m (reads_of (g.D.Disk.held c.args.disk.now)) (front_of m) read.0 s.parts None None read.1
    hands.sealed tt read.2 held.parts read.3 hands.parts in
    let own = hands.active in
    passed_on c.from_residual-in_err-carry.result (c.in_err-carry.field-0).0 IsDeviceOrMemory
    c.from_residual-in_err-carry.ensures.1
    (inr (c.in_err-carry.ensures.refused own.0
    (is_called read.1 c.in_ok-called.called front read.4
    (called_along read.1 hands.sealed front calls
    (subst (λ (p : Part). IsCalledFor hands.sealed p.front) (same g at h man files) own.1)))
    (subst (λ (p : Part). IsSegment p own.0) (same g at h man files) own.2)))

pub returns-then-end-limit-clause-refused : goal.returns-then-end-limit-clause-refused
returns-then-end-limit-clause-refused g c h s man files =
    let same = same g (goal.at.returns-then-end-limit-clause-refused g c).In_ok-active h man files in
    let within = (held_of man files).within in
    absurd (omega (arith, c.in_ok-active.ensures.ends.0, ap (λ (p : Part). octet_sum p.messages) same))

pub returns-in_default-clause-refused : goal.returns-in_default-clause-refused
returns-in_default-clause-refused g c h s man files =
    let same = same g (goal.at.returns-in_default-clause-refused g c).In_ok-active h man files in
    let within = (held_of man files).within in
    let counts = counts c.in_ok-active.active.messages in
    let all = ap messages_of c.as_slice-entries.ensures in
    absurd (omega (arith, c.in_default.ensures.none, ap (λ (p : Part). length p.messages) same))

-- ---- what is Ok
pub returns-clause-counted : goal.returns-clause-counted
returns-clause-counted g c = λ parts.
    let at = (goal.at.returns-clause-counted g c).In-Some in
    let whole = some_whole (part_of c.in_ok-active.active).messages c.in_ok-active.ensures.whole in
    record {
      valid = c.requires.valid;
      next = omega arith;
      active_entry_is = c.requires.active_entry;
      end_is = omega (arith, c.in_ok-active.ensures.ends.0, ap (λ (x : Entry). x.prefix) c.requires.active_entry);
      long = λ some. omega (arith, whole some, c.in_ok-active.ensures.ends.0);
      total_is = total g at;
      within = within g at parts;
    }

pub returns-clause-found : goal.returns-clause-found
returns-clause-found g c h =
    let at = goal.at.returns-clause-found g c in
    let p = part_of c.in_ok-active.active in
    let carry = c.in_ok-carry.carry in
    let read = parts g at.In_ok-active h in
    let segment = c.in_ok-carry.ensures.found in
    let hands : HandsOn (at_rest c.args.manifest.now read.0 p) carry = record {
      sealed = read.1;
      parts = read.3;
      active = (carry, called_for read.1 c.in_ok-called.called p.front read.4 segment.0, segment.1, refl);
    } in (
      read.0,
      record {
        parts = read.2;
        active = active g at.In_ok-active h;
        within = within g at.In-Some read.0;
        chained = (carry, hands);
      },
      hands,
    )

pub returns-clause-spanned : goal.returns-clause-spanned
returns-clause-spanned g c h =
    (rw (ap (λ (l : List Entry). take (length l - 1) l) c.as_slice-entries.ensures)
    at c.in_ok-called.ensures.spanned) h c.new-spans.ensures.items
