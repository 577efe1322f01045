use Rattle.std.proofs.Common.{◌≡◌, ◌≤◌, IsTrue, ℕ, List, [], length, drop, take, refl, ◌∙◌, ap, subst, sym}
use Rattle.std.proofs.Common.{arith, Some, length-take, Option, None}
use Rattle.std.specs.Prelude.{is_some}
use Rattle.std.proofs.lemmas.List.{take-take}
use Rattle.flow_codec.specs.Fault.{IsOctets}
use Rattle.flow_disk.specs.Disk.{Held}
use Rattle.flow_disk.proofs.Results.{passed_on}
use Rattle.flow_measure.specs.declared.span.PartSpan.{PartSpan}
use Rattle.flow_segment.specs.Carry.{octets_of}
use Rattle.flow_segment.specs.Prefix.{AreRead}
use Rattle.flow_segment.specs.Spans.{all_noted}
use Rattle.flow_model.specs.State.{Part}
use Rattle.flow_recover.specs.Opening.{IsDeviceOrMemory}
use Rattle.flow_recover.specs.Reading.{IsCalled, IsRestatement}
use Rattle.flow_recover.proofs.Behind.{sealed_at, sealed_behind, sealed_count, segment_read}
use Rattle.flow_recover.proofs.OnlyReading.{then, unread}
use Rattle.flow_recover.proofs.Spanning.{segment_span}
use Rattle.flow_recover.proofs.chaining.take_sealed.Goals as goal

-- what a prefix reads as is that of the entry's octets
prefix_in : (n whole : ℕ) (reads : List ℕ) → n ≤ whole → take n reads ≡ take n (take whole reads)
prefix_in n whole reads within = sym (take-take n whole reads within)

whole_of : (n : ℕ) (reads : List ℕ) → n ≤ length reads → length (take n reads) ≡ n
whole_of n reads within = omega (arith, length-take n reads, within)

some_noted : (span : Option PartSpan) (first : PartSpan) → is_some span ≡ is_some (Some first) → span ≡ None → ⊥
some_noted span first some none = absurd cc

-- ---- the disk

pub returns-then-from-entry-clause-keeps : goal.returns-then-from-entry-clause-keeps
returns-then-from-entry-clause-keeps g c =
    let d0 = c.args.disk.now in
    unread g.D.Disk d0 (λ h image left. g.met.D.Disk.only_now d0 image h left)

pub returns-in_err-count-clause-keeps : goal.returns-in_err-count-clause-keeps
returns-in_err-count-clause-keeps g c = then g.D.Disk c.args.disk.now c.take_prefix.new.disk c.take_pieces.new.disk
    c.take_prefix.ensures.keeps c.take_pieces.ensures.keeps

pub returns-then-count-entry-clause-keeps : goal.returns-then-count-entry-clause-keeps
returns-then-count-entry-clause-keeps g c = then g.D.Disk c.args.disk.now c.take_prefix.new.disk
    c.take_pieces.new.disk c.take_prefix.ensures.keeps c.take_pieces.ensures.keeps

pub returns-clause-keeps : goal.returns-clause-keeps
returns-clause-keeps g c = then g.D.Disk c.args.disk.now c.take_prefix.new.disk c.take_pieces.new.disk
    c.take_prefix.ensures.keeps c.take_pieces.ensures.keeps

-- ---- what is found

pub returns-clause-found : goal.returns-clause-found
returns-clause-found g c h =
    let D = g.D.Disk in
    let d0 = c.args.disk.now in
    let e = c.args.entry in
    let reads = (D.held d0 e.file).reads in
    let octets = take e.length reads in
    let fits : e.prefix ≤ e.length = omega (arith, c.if-from-entry.false, c.from.ensures) in
    let whole : length octets ≡ e.length = whole_of e.length reads
    (omega (arith, c.requires.room, g.met.D.Disk.has_size d0 e.file h)) in
    let front = c.take_prefix.new.carry in
    let own = c.in_ok-take_prefix.ensures.found h in
    let pre = prefix_in e.prefix e.length reads fits in
    let restated : IsRestatement (take e.prefix octets) front =
    subst (λ (l : List ℕ). IsRestatement l front) pre own.0 in
    let found = c.in_ok-count.ensures.found (subst IsTrue (sym c.take_prefix.ensures.keeps.honest) h) in
    let read : AreRead (drop e.prefix octets) front.templates found.0 [] =
    subst (λ (f : Held). AreRead (drop e.prefix (take e.length f.reads)) front.templates found.0 [])
    (c.take_prefix.ensures.keeps.held h e.file) found.1 in
    let p : Part = record { front = take e.prefix octets; messages = octets_of found.0 } in
    let noted = found.4 ∙ ap (λ (s : PartSpan). all_noted found.0 (Some s)) c.none.ensures in (
      p,
      sealed_at octets e front.templates found.0 whole fits read (found.3 ∙ c.if-count-entry.false),
      subst (IsCalled c.args.called.now) pre own.1,
      segment_read p front c.take_pieces.new.carry found.0 restated refl read.accepted found.2,
      segment_span p front found.0 c.in-Some.span c.take_pieces.new.span (subst IsOctets pre own.2) found.5 restated
          read.accepted refl c.in-Some.is noted,
    )

-- starts were noted
pub unreachable-requires : goal.unreachable-requires
unreachable-requires g c = some_noted c.take_pieces.new.span c.none.result c.in_ok-count.ensures.noting c.in_default.is

pub returns-then-from-entry-clause-refused : goal.returns-then-from-entry-clause-refused
returns-then-from-entry-clause-refused g c h p whole at called own =
    absurd (omega (arith, c.if-from-entry.true, c.from.ensures, at.count))

pub returns-in_err-take_prefix-clause-refused : goal.returns-in_err-take_prefix-clause-refused
returns-in_err-take_prefix-clause-refused g c h p whole at called own =
    let e = c.args.entry in
    let reads = (g.D.Disk.held c.args.disk.now e.file).reads in
    let same : p.front ≡ take e.prefix reads =
    sym (prefix_in e.prefix e.length reads (omega (arith, at.count)) ∙ at.front) in
    passed_on c.from_residual.result (c.in_err-take_prefix.field-0).0 IsDeviceOrMemory c.from_residual.ensures.1
    (c.in_err-take_prefix.ensures.refused h own.prefix
    (subst (λ (l : List ℕ). AreRead l [] own.prefix []) same own.front) own.restated
    (subst (IsCalled c.args.called.now) same called))

pub returns-in_err-count-clause-refused : goal.returns-in_err-count-clause-refused
returns-in_err-count-clause-refused g c h p whole at called own =
    let D = g.D.Disk in
    let d0 = c.args.disk.now in
    let e = c.args.entry in
    let reads = (D.held d0 e.file).reads in
    let octets = take e.length reads in
    let long : length octets ≡ e.length = whole_of e.length reads
    (omega (arith, c.requires.room, g.met.D.Disk.has_size d0 e.file h)) in
    let front = c.take_prefix.new.carry in
    let restated : IsRestatement (take e.prefix octets) front = subst (λ (l : List ℕ). IsRestatement l front)
    (prefix_in e.prefix e.length reads (omega (arith, at.count))) (c.in_ok-take_prefix.ensures.found h).0 in
    passed_on c.from_residual-in_err-count.result (c.in_err-count.field-0).0 IsDeviceOrMemory
    c.from_residual-in_err-count.ensures.1
    (c.in_err-count.ensures.refused (subst IsTrue (sym c.take_prefix.ensures.keeps.honest) h) own.messages
    (subst (λ (f : Held). AreRead (drop e.prefix (take e.length f.reads)) front.templates own.messages [])
    (sym (c.take_prefix.ensures.keeps.held h e.file))
    (sealed_behind octets e p front whole long restated at own)))

pub returns-then-count-entry-clause-refused : goal.returns-then-count-entry-clause-refused
returns-then-count-entry-clause-refused g c h p whole at called own =
    let D = g.D.Disk in
    let d0 = c.args.disk.now in
    let e = c.args.entry in
    let reads = (D.held d0 e.file).reads in
    let octets = take e.length reads in
    let long : length octets ≡ e.length = whole_of e.length reads
    (omega (arith, c.requires.room, g.met.D.Disk.has_size d0 e.file h)) in
    let front = c.take_prefix.new.carry in
    let found = c.in_ok-count.ensures.found (subst IsTrue (sym c.take_prefix.ensures.keeps.honest) h) in
    let read : AreRead (drop e.prefix octets) front.templates found.0 [] =
    subst (λ (f : Held). AreRead (drop e.prefix (take e.length f.reads)) front.templates found.0 [])
    (c.take_prefix.ensures.keeps.held h e.file) found.1 in
    absurd (c.if-count-entry.true (sym found.3
    ∙ sealed_count octets e p front.templates found.0 long (omega (arith, at.count)) read at))
