use Rattle.std.proofs.Common.{◌≡◌, ◌+◌, ◌<◌, ◌≤◌, IsTrue, List, [], ◌∷◌, ◌++◌, length, get_or, take, refl, sym, ◌∙◌}
use Rattle.std.proofs.Common.{subst, arith, None}
use Rattle.std.proofs.lemmas.List.{take_more, take_all}
use Rattle.flow_disk.specs.Disk.{Held}
use Rattle.flow_disk.proofs.Results.{passed_on}
use Rattle.flow_manifest.specs.declared.manifest.Entry.{Entry}
use Rattle.flow_manifest.specs.Following.{no_entry}
use Rattle.flow_manifest.specs.Slots.{reads_of}
use Rattle.flow_model.specs.Chain.{ArePartsBehind}
use Rattle.flow_model.specs.Standing.{StandsAs, PartsStand}
use Rattle.flow_model.specs.State.{Part}
use Rattle.flow_recover.specs.Opening.{IsDeviceOrMemory}
use Rattle.flow_recover.specs.Spans.{AreSpansOf, IsSpanOf}
use Rattle.flow_recover.proofs.OnlyReading.{then, unread}
use Rattle.flow_recover.proofs.Spanning.{spans_push}
use Rattle.flow_recover.proofs.Behind.{behind_push, next_part}
use Rattle.flow_model.proofs.Stand.{parts_push}
use Rattle.flow_recover.proofs.Recovering.{all_at}
use Rattle.flow_recover.proofs.reading.read_entries.Goals as goal

pub entries-init : goal.entries-init
entries-init g c =
    let D = g.D.Disk in
    let d0 = c.args.disk.now in
    record {
      keeps = unread D d0 (λ h image left. g.met.D.Disk.only_now d0 image h left);
      faults = refl;
      found = λ h. ([], None, tt, refl, tt);
      spanned = λ h none. subst (AreSpansOf (reads_of (D.held d0)) c.args.manifest.now []) (sym none) tt;
    }

pub read_part-requires-clause-file : goal.read_part-requires-clause-file
read_part-requires-clause-file g c =
    all_at (λ (x : Entry). 3 ≤ x.file) c.args.entries.now c.entries.entry-index c.requires.files c.entries-test.true

pub returns-in_err-read-clause-keeps : goal.returns-in_err-read-clause-keeps
returns-in_err-read-clause-keeps g c =
    then g.D.Disk c.args.disk.now c.entries.disk c.read_part.new.disk c.entries.invariant.keeps
    c.read_part.ensures.keeps

pub returns-in_err-read-clause-refused : goal.returns-in_err-read-clause-refused
returns-in_err-read-clause-refused g c h parts after stand behind =
    let D = g.D.Disk in
    let d0 = c.args.disk.now in
    let i = c.entries.entry-index in
    let was = c.entries.invariant in
    let es = c.args.entries.now in
    let e = get_or es i no_entry in
    let h1 = subst IsTrue (sym was.keeps.honest) h in
    let own = was.found h in
    let next = next_part c.args.manifest.now (reads_of (D.held d0)) es parts own.0 i None None own.1 after
    tt stand behind own.2 own.3 c.entries-test.true in
    passed_on c.from_residual.result (c.in_err-read.field-0).0 IsDeviceOrMemory c.from_residual.ensures.1
    (c.in_err-read.ensures.refused h1 own.1 own.4 next.part next.after
    (subst (λ (f : Held). StandsAs e.kind f.reads e next.part) (sym (was.keeps.held h e.file)) next.stands) next.behind)

pub entries-preserved : goal.entries-preserved
entries-preserved g c =
    let D = g.D.Disk in
    let d0 = c.args.disk.now in
    let d1 = c.entries.disk in
    let d2 = c.read_part.new.disk in
    let i = c.entries.entry-index in
    let was = c.entries.invariant in
    let m = c.args.manifest.now in
    let es = c.args.entries.now in
    let e = get_or es i no_entry in
    let lt : i < length es = c.entries-test.true in
    let taken : take (i + 1) es ≡ take i es ++ e ∷ [] = take_more es i no_entry lt in
    record {
      keeps = then D d0 d1 d2 was.keeps c.read_part.ensures.keeps;
      faults = c.in_ok-read.ensures.cause.done ∙ was.faults;
      found = λ h. let h1 = subst IsTrue (sym was.keeps.honest) h in
          let before = was.found h in
          let one = c.in_ok-read.ensures.found h1 before.1 before.4 in (
            before.0 ++ one.0 ∷ [],
            one.1,
            subst (λ (l : List Entry). PartsStand (reads_of (D.held d0)) l (before.0 ++ one.0 ∷ [])) (sym taken)
                (parts_push (reads_of (D.held d0)) e one.0 (subst (λ (f : Held). StandsAs e.kind f.reads e one.0)
                (was.keeps.held h e.file) one.2) (take i es) before.0 before.2),
            subst (λ (l : List Entry). ArePartsBehind m None l (before.0 ++ one.0 ∷ []) one.1) (sym taken)
                (behind_push m e one.0 before.1 one.1 one.3 (take i es) before.0 None before.3),
            one.4,
          );
      spanned = λ h none. let h1 = subst IsTrue (sym was.keeps.honest) h in
          let reads = reads_of (D.held d0) in
          let own : (p : Part) → StandsAs e.kind (reads e.file) e p → IsSpanOf m e.kind p c.in_ok-read.read.span =
          λ p stands. c.in_ok-read.ensures.spanned h1 p
          (subst (λ (f : Held). StandsAs e.kind f.reads e p) (sym (was.keeps.held h e.file)) stands) in
          subst (λ (l : List Entry). AreSpansOf reads m l c.push.new.self.items) (sym taken)
          (subst (AreSpansOf reads m (take i es ++ e ∷ [])) (sym c.in_ok-push.ensures.items)
          (spans_push reads m e c.in_ok-read.read.span own (take i es) c.entries.spans.items (was.spanned h none)));
    }

pub returns-in_err-push-clause-keeps : goal.returns-in_err-push-clause-keeps
returns-in_err-push-clause-keeps g c =
    then g.D.Disk c.args.disk.now c.entries.disk c.read_part.new.disk c.entries.invariant.keeps
    c.read_part.ensures.keeps

pub returns-clause-spanned : goal.returns-clause-spanned
returns-clause-spanned g c h none =
    let whole = take_all c.entries.entry-index c.args.entries.now (omega arith) in
    subst (λ (l : List Entry). AreSpansOf (reads_of (g.D.Disk.held c.args.disk.now)) c.args.manifest.now l
    c.entries.spans.items) whole (c.entries.invariant.spanned h none)

pub returns-clause-found : goal.returns-clause-found
returns-clause-found g c h =
    let D = g.D.Disk in
    let d0 = c.args.disk.now in
    let all = c.entries.invariant.found h in
    let whole = take_all c.entries.entry-index c.args.entries.now (omega arith) in (
      all.0,
      all.1,
      subst (λ (l : List Entry). PartsStand (reads_of (D.held d0)) l all.0) whole all.2,
      subst (λ (l : List Entry). ArePartsBehind c.args.manifest.now None l all.0 all.1) whole all.3,
      all.4,
    )
