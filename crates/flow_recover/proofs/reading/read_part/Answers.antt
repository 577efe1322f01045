use Rattle.std.proofs.Common.{◌≡◌, ◌≤◌, ℕ, IsTrue, List, length, take, sym, ap, subst, arith, length-take}
use Rattle.std.proofs.Common.{Option, Some, Vec}
use Rattle.std.specs.declared.alloc.Global.{Global}
use Rattle.std.proofs.lemmas.List.{take-take}
use Rattle.flow_disk.specs.Disk.{Held}
use Rattle.flow_disk.proofs.Results.{passed_on}
use Rattle.flow_manifest.specs.declared.manifest.Entry.{Entry}
use Rattle.flow_manifest.specs.declared.manifest.Kind.{Kind}
use Rattle.flow_manifest.specs.declared.manifest.Manifest.{Manifest}
use Rattle.flow_model.proofs.Stand.{part_cut}
use Rattle.flow_model.specs.Chain.{IsSegment}
use Rattle.flow_model.specs.Standing.{IsSealedAt, StandsAs}
use Rattle.flow_model.specs.State.{Part}
use Rattle.flow_rolled.specs.Rollup.{IsRollup}
use Rattle.flow_rolled.specs.Spans.{HasSpan}
use Rattle.flow_segment.specs.Carry.{Carry, prefix_of}
use Rattle.flow_segment.specs.Spans.{IsOwnSpan}
use Rattle.flow_recover.specs.Opening.{IsDeviceOrMemory}
use Rattle.flow_recover.specs.Reading.{IsCalled}
use Rattle.flow_recover.proofs.Behind.{is_called, rolled_kept, rolled_there, sealed_kept, sealed_there, wide_kept}
use Rattle.flow_recover.proofs.Behind.{wide_there, IsKeptAs}
use Rattle.flow_recover.proofs.OnlyReading.{measured, then}
use Rattle.flow_recover.proofs.Spanning.{first_two, spanned_rolled, spanned_sealed, spanned_wide}
use Rattle.flow_recover.proofs.reading.read_part.Goals as goal

-- ---- an entry's octets, and all that its file reads as

-- as many octets as the entry says
whole_of : (n : ℕ) (reads : List ℕ) → n ≤ length reads → length (take n reads) ≡ n
whole_of n reads within = omega (arith, length-take n reads, within)

stands_whole : (kind : Kind) (reads : List ℕ) (e : Entry) (p : Part) → StandsAs kind (take e.length reads) e p
    → StandsAs kind reads e p
stands_whole kind reads e p = part_cut kind e.length (take e.length reads) reads e p (omega arith) (record {
  front = sym (take-take e.length e.length reads (omega arith));
  long = omega (arith, length-take e.length reads);
})

stands_own : (kind : Kind) (reads : List ℕ) (e : Entry) (p : Part) → StandsAs kind reads e p
    → StandsAs kind (take e.length reads) e p
stands_own kind reads e p = part_cut kind e.length reads (take e.length reads) e p (omega arith) (record {
  front = take-take e.length e.length reads (omega arith);
  long = omega (arith, length-take e.length reads);
})

kept_whole : (m : Manifest) (kind : Kind) (reads : List ℕ) (e : Entry) (before : Option Carry)
    (next : Option (Vec ℕ Global)) → IsKeptAs m kind (take e.length reads) e before next
    → IsKeptAs m kind reads e before next
kept_whole m kind reads e before next is = (is.0, is.1, stands_whole kind reads e is.0 is.2, is.3, is.4)

-- ---- the disk

pub returns-in_err-size-clause-keeps : goal.returns-in_err-size-clause-keeps
returns-in_err-size-clause-keeps g c =
    let d0 = c.args.disk.now in
    let call = c.length.ensures in
    measured g.D.Disk d0 c.length.new.self c.args.entry.file c.requires.file
    (λ h image left. g.met.D.Disk.only_now d0 image h left) call.honest call.marks call.settled call.frozen call.listed
    call.held call.time

pub returns-then-entry-size-clause-keeps : goal.returns-then-entry-size-clause-keeps
returns-then-entry-size-clause-keeps g c =
    let d0 = c.args.disk.now in
    let call = c.length.ensures in
    measured g.D.Disk d0 c.length.new.self c.args.entry.file c.requires.file
    (λ h image left. g.met.D.Disk.only_now d0 image h left) call.honest call.marks call.settled call.frozen call.listed
    call.held call.time

pub returns-in-Active-clause-keeps : goal.returns-in-Active-clause-keeps
returns-in-Active-clause-keeps g c =
    let d0 = c.args.disk.now in
    let call = c.length.ensures in
    measured g.D.Disk d0 c.length.new.self c.args.entry.file c.requires.file
    (λ h image left. g.met.D.Disk.only_now d0 image h left) call.honest call.marks call.settled call.frozen call.listed
    call.held call.time

pub returns-in_err-span-in-Wide-clause-keeps : goal.returns-in_err-span-in-Wide-clause-keeps
returns-in_err-span-in-Wide-clause-keeps g c =
    let d0 = c.args.disk.now in
    let call = c.length.ensures in
    let looked = measured g.D.Disk d0 c.length.new.self c.args.entry.file c.requires.file
    (λ h image left. g.met.D.Disk.only_now d0 image h left) call.honest call.marks call.settled call.frozen call.listed
    call.held call.time in
    then g.D.Disk d0 c.length.new.self c.read_sums.new.disk looked c.read_sums.ensures.keeps

pub returns-in_ok-span-in-Wide-clause-keeps : goal.returns-in_ok-span-in-Wide-clause-keeps
returns-in_ok-span-in-Wide-clause-keeps g c =
    let d0 = c.args.disk.now in
    let call = c.length.ensures in
    let looked = measured g.D.Disk d0 c.length.new.self c.args.entry.file c.requires.file
    (λ h image left. g.met.D.Disk.only_now d0 image h left) call.honest call.marks call.settled call.frozen call.listed
    call.held call.time in
    then g.D.Disk d0 c.length.new.self c.read_sums.new.disk looked c.read_sums.ensures.keeps

pub returns-in_err-span-in-Rolled-clause-keeps : goal.returns-in_err-span-in-Rolled-clause-keeps
returns-in_err-span-in-Rolled-clause-keeps g c =
    let d0 = c.args.disk.now in
    let call = c.length.ensures in
    let looked = measured g.D.Disk d0 c.length.new.self c.args.entry.file c.requires.file
    (λ h image left. g.met.D.Disk.only_now d0 image h left) call.honest call.marks call.settled call.frozen call.listed
    call.held call.time in
    then g.D.Disk d0 c.length.new.self c.read_sums-in-Rolled.new.disk looked c.read_sums-in-Rolled.ensures.keeps

pub returns-in_ok-span-in-Rolled-clause-keeps : goal.returns-in_ok-span-in-Rolled-clause-keeps
returns-in_ok-span-in-Rolled-clause-keeps g c =
    let d0 = c.args.disk.now in
    let call = c.length.ensures in
    let looked = measured g.D.Disk d0 c.length.new.self c.args.entry.file c.requires.file
    (λ h image left. g.met.D.Disk.only_now d0 image h left) call.honest call.marks call.settled call.frozen call.listed
    call.held call.time in
    then g.D.Disk d0 c.length.new.self c.read_sums-in-Rolled.new.disk looked c.read_sums-in-Rolled.ensures.keeps

pub returns-in_err-next-in-Sealed-clause-keeps : goal.returns-in_err-next-in-Sealed-clause-keeps
returns-in_err-next-in-Sealed-clause-keeps g c =
    let d0 = c.args.disk.now in
    let call = c.length.ensures in
    let looked = measured g.D.Disk d0 c.length.new.self c.args.entry.file c.requires.file
    (λ h image left. g.met.D.Disk.only_now d0 image h left) call.honest call.marks call.settled call.frozen call.listed
    call.held call.time in
    then g.D.Disk d0 c.length.new.self c.read_sealed.new.disk looked c.read_sealed.ensures.keeps

pub returns-in_ok-next-in-Sealed-clause-keeps : goal.returns-in_ok-next-in-Sealed-clause-keeps
returns-in_ok-next-in-Sealed-clause-keeps g c =
    let d0 = c.args.disk.now in
    let call = c.length.ensures in
    let looked = measured g.D.Disk d0 c.length.new.self c.args.entry.file c.requires.file
    (λ h image left. g.met.D.Disk.only_now d0 image h left) call.honest call.marks call.settled call.frozen call.listed
    call.held call.time in
    then g.D.Disk d0 c.length.new.self c.read_sealed.new.disk looked c.read_sealed.ensures.keeps

-- ---- files of sums

pub returns-in_ok-span-in-Wide-clause-found : goal.returns-in_ok-span-in-Wide-clause-found
returns-in_ok-span-in-Wide-clause-found g c h before calls =
    let D = g.D.Disk in
    let d0 = c.args.disk.now in
    let m = c.args.manifest.now in
    let e = c.args.entry in
    let h1 = subst IsTrue (sym c.length.ensures.honest) h in
    let reads = (D.held d0 e.file).reads in
    let octets = take e.length reads in
    let whole : length octets ≡ e.length = whole_of e.length reads
    (omega (
      arith,
      c.if-entry-size.false,
      c.in_ok-size.ensures.count,
      g.met.D.Disk.has_size c.length.new.self e.file h1,
      ap (λ (f : Held). length f.reads) (c.length.ensures.held h e.file),
    )) in
    let has : HasSpan (record { width = m.wide; span = c.in_ok-span-in-Wide.span }) octets =
    subst (λ (f : Held). HasSpan (record { width = m.wide; span = c.in_ok-span-in-Wide.span }) (take e.length f.reads))
    (c.length.ensures.held h e.file) (c.in_ok-span-in-Wide.ensures.found h1) in
    kept_whole m e.kind reads e before c.args.called
    (wide_kept m octets e e.kind before c.args.called c.in-Wide.is whole (first_two has) calls)

pub returns-in_ok-span-in-Wide-clause-spanned : goal.returns-in_ok-span-in-Wide-clause-spanned
returns-in_ok-span-in-Wide-clause-spanned g c h p stands =
    let D = g.D.Disk in
    let d0 = c.args.disk.now in
    let m = c.args.manifest.now in
    let e = c.args.entry in
    let h1 = subst IsTrue (sym c.length.ensures.honest) h in
    let reads = (D.held d0 e.file).reads in
    let octets = take e.length reads in
    let whole : length octets ≡ e.length = whole_of e.length reads
    (omega (
      arith,
      c.if-entry-size.false,
      c.in_ok-size.ensures.count,
      g.met.D.Disk.has_size c.length.new.self e.file h1,
      ap (λ (f : Held). length f.reads) (c.length.ensures.held h e.file),
    )) in
    let has : HasSpan (record { width = m.wide; span = c.in_ok-span-in-Wide.span }) octets =
    subst (λ (f : Held). HasSpan (record { width = m.wide; span = c.in_ok-span-in-Wide.span }) (take e.length f.reads))
    (c.length.ensures.held h e.file) (c.in_ok-span-in-Wide.ensures.found h1) in
    spanned_wide m octets e e.kind c.in_ok-span-in-Wide.span c.in-Wide.is whole has p
    (stands_own e.kind reads e p stands)

pub returns-in_err-span-in-Wide-clause-refused : goal.returns-in_err-span-in-Wide-clause-refused
returns-in_err-span-in-Wide-clause-refused g c h before calls p after stands behind =
    let D = g.D.Disk in
    let d0 = c.args.disk.now in
    let m = c.args.manifest.now in
    let e = c.args.entry in
    let h1 = subst IsTrue (sym c.length.ensures.honest) h in
    let reads = (D.held d0 e.file).reads in
    let octets = take e.length reads in
    let whole : length octets ≡ e.length = whole_of e.length reads
    (omega (
      arith,
      c.if-entry-size.false,
      c.in_ok-size.ensures.count,
      g.met.D.Disk.has_size c.length.new.self e.file h1,
      ap (λ (f : Held). length f.reads) (c.length.ensures.held h e.file),
    )) in
    let there = wide_there m octets e e.kind before after p c.in-Wide.is whole (stands_own e.kind reads e p stands)
    behind in
    passed_on c.from_residual-in_err-span-in-Wide.result (c.in_err-span-in-Wide.field-0).0 IsDeviceOrMemory
    c.from_residual-in_err-span-in-Wide.ensures.1
    (c.in_err-span-in-Wide.ensures.refused h1 there.0
    (subst (λ (f : Held). IsRollup m.wide (take e.length f.reads) there.0)
    (sym (c.length.ensures.held h e.file)) there.1))

pub returns-in_ok-span-in-Rolled-clause-found : goal.returns-in_ok-span-in-Rolled-clause-found
returns-in_ok-span-in-Rolled-clause-found g c h before calls =
    let D = g.D.Disk in
    let d0 = c.args.disk.now in
    let m = c.args.manifest.now in
    let e = c.args.entry in
    let h1 = subst IsTrue (sym c.length.ensures.honest) h in
    let reads = (D.held d0 e.file).reads in
    let octets = take e.length reads in
    let whole : length octets ≡ e.length = whole_of e.length reads
    (omega (
      arith,
      c.if-entry-size.false,
      c.in_ok-size.ensures.count,
      g.met.D.Disk.has_size c.length.new.self e.file h1,
      ap (λ (f : Held). length f.reads) (c.length.ensures.held h e.file),
    )) in
    let has : HasSpan (record { width = m.width; span = c.in_ok-span-in-Rolled.span }) octets =
    subst (λ (f : Held). HasSpan (record { width = m.width; span = c.in_ok-span-in-Rolled.span })
    (take e.length f.reads))
    (c.length.ensures.held h e.file) (c.in_ok-span-in-Rolled.ensures.found h1) in
    kept_whole m e.kind reads e before c.args.called
    (rolled_kept m octets e e.kind before c.args.called c.in-Rolled.is whole (first_two has) calls)

pub returns-in_ok-span-in-Rolled-clause-spanned : goal.returns-in_ok-span-in-Rolled-clause-spanned
returns-in_ok-span-in-Rolled-clause-spanned g c h p stands =
    let D = g.D.Disk in
    let d0 = c.args.disk.now in
    let m = c.args.manifest.now in
    let e = c.args.entry in
    let h1 = subst IsTrue (sym c.length.ensures.honest) h in
    let reads = (D.held d0 e.file).reads in
    let octets = take e.length reads in
    let whole : length octets ≡ e.length = whole_of e.length reads
    (omega (
      arith,
      c.if-entry-size.false,
      c.in_ok-size.ensures.count,
      g.met.D.Disk.has_size c.length.new.self e.file h1,
      ap (λ (f : Held). length f.reads) (c.length.ensures.held h e.file),
    )) in
    let has : HasSpan (record { width = m.width; span = c.in_ok-span-in-Rolled.span }) octets =
    subst (λ (f : Held). HasSpan (record { width = m.width; span = c.in_ok-span-in-Rolled.span })
    (take e.length f.reads))
    (c.length.ensures.held h e.file) (c.in_ok-span-in-Rolled.ensures.found h1) in
    spanned_rolled m octets e e.kind c.in_ok-span-in-Rolled.span c.in-Rolled.is whole has p
    (stands_own e.kind reads e p stands)

pub returns-in_err-span-in-Rolled-clause-refused : goal.returns-in_err-span-in-Rolled-clause-refused
returns-in_err-span-in-Rolled-clause-refused g c h before calls p after stands behind =
    let D = g.D.Disk in
    let d0 = c.args.disk.now in
    let m = c.args.manifest.now in
    let e = c.args.entry in
    let h1 = subst IsTrue (sym c.length.ensures.honest) h in
    let reads = (D.held d0 e.file).reads in
    let octets = take e.length reads in
    let whole : length octets ≡ e.length = whole_of e.length reads
    (omega (
      arith,
      c.if-entry-size.false,
      c.in_ok-size.ensures.count,
      g.met.D.Disk.has_size c.length.new.self e.file h1,
      ap (λ (f : Held). length f.reads) (c.length.ensures.held h e.file),
    )) in
    let there = rolled_there m octets e e.kind before after p c.in-Rolled.is whole (stands_own e.kind reads e p stands)
    behind in
    passed_on c.from_residual-in_err-span-in-Rolled.result (c.in_err-span-in-Rolled.field-0).0 IsDeviceOrMemory
    c.from_residual-in_err-span-in-Rolled.ensures.1
    (c.in_err-span-in-Rolled.ensures.refused h1 there.0
    (subst (λ (f : Held). IsRollup m.width (take e.length f.reads) there.0)
    (sym (c.length.ensures.held h e.file)) there.1))

-- ---- a sealed segment

pub returns-in_ok-next-in-Sealed-clause-found : goal.returns-in_ok-next-in-Sealed-clause-found
returns-in_ok-next-in-Sealed-clause-found g c h before calls =
    let D = g.D.Disk in
    let d0 = c.args.disk.now in
    let m = c.args.manifest.now in
    let e = c.args.entry in
    let h1 = subst IsTrue (sym c.length.ensures.honest) h in
    let reads = (D.held d0 e.file).reads in
    let octets = take e.length reads in
    let next = c.in_ok-next-in-Sealed.next in
    let span = c.in_ok-next-in-Sealed.span in
    let is = subst (λ (f : Held). (p : Part) × (carry : Carry) × IsSealedAt (take e.length f.reads) e p
    × IsCalled c.args.called p.front × IsSegment p carry × IsOwnSpan p.front p.messages span
    × (next.items ≡ prefix_of carry)) (c.length.ensures.held h e.file) (c.in_ok-next-in-Sealed.ensures.found h1) in
    kept_whole m e.kind reads e before (Some next)
    (sealed_kept m octets e e.kind before c.args.called next c.in-Sealed.is calls (is.0, is.1, is.2, is.3, is.4, is.6))

pub returns-in_ok-next-in-Sealed-clause-spanned : goal.returns-in_ok-next-in-Sealed-clause-spanned
returns-in_ok-next-in-Sealed-clause-spanned g c h p stands =
    let D = g.D.Disk in
    let d0 = c.args.disk.now in
    let m = c.args.manifest.now in
    let e = c.args.entry in
    let h1 = subst IsTrue (sym c.length.ensures.honest) h in
    let reads = (D.held d0 e.file).reads in
    let octets = take e.length reads in
    let next = c.in_ok-next-in-Sealed.next in
    let span = c.in_ok-next-in-Sealed.span in
    let is = subst (λ (f : Held). (p : Part) × (carry : Carry) × IsSealedAt (take e.length f.reads) e p
    × IsCalled c.args.called p.front × IsSegment p carry × IsOwnSpan p.front p.messages span
    × (next.items ≡ prefix_of carry)) (c.length.ensures.held h e.file) (c.in_ok-next-in-Sealed.ensures.found h1) in
    spanned_sealed m octets e e.kind span is.0 c.in-Sealed.is is.2 is.5 p (stands_own e.kind reads e p stands)

pub returns-in_err-next-in-Sealed-clause-refused : goal.returns-in_err-next-in-Sealed-clause-refused
returns-in_err-next-in-Sealed-clause-refused g c h before calls p after stands behind =
    let D = g.D.Disk in
    let d0 = c.args.disk.now in
    let m = c.args.manifest.now in
    let e = c.args.entry in
    let h1 = subst IsTrue (sym c.length.ensures.honest) h in
    let reads = (D.held d0 e.file).reads in
    let octets = take e.length reads in
    let there = sealed_there m octets e e.kind before after p c.in-Sealed.is (stands_own e.kind reads e p stands)
    behind in
    passed_on c.from_residual-in_err-next-in-Sealed.result (c.in_err-next-in-Sealed.field-0).0 IsDeviceOrMemory
    c.from_residual-in_err-next-in-Sealed.ensures.1
    (c.in_err-next-in-Sealed.ensures.refused h1 p there.1.0
    (subst (λ (f : Held). IsSealedAt (take e.length f.reads) e p) (sym (c.length.ensures.held h e.file)) there.0)
    (is_called before c.args.called p.front calls there.1.1) there.1.2)

-- ---- an active entry, which no file before the active one has

pub returns-in-Active-clause-refused : goal.returns-in-Active-clause-refused
returns-in-Active-clause-refused g c h before calls p after stands behind =
    let e = c.args.entry in
    absurd (subst (λ (k : Kind). StandsAs k (g.D.Disk.held c.args.disk.now e.file).reads e p) c.in-Active.is stands)
