use Rattle.std.proofs.Common.{◌≡◌, inr, ℕ, true, false, List, [], ◌∷◌, length, refl, sym, ◌∙◌, ap, subst, arith, rules}
use Rattle.std.proofs.Common.{vec_len}
use Rattle.std.specs.Prelude.{◌==◌}
use Rattle.std.proofs.lemmas.Bool.{eqb-true}
use Rattle.std.specs.List.{AllByRecursion}
use Rattle.flow_segment.proofs.Making.{begun, changed_by}
use Rattle.flow_model.specs.State.{State}
use Rattle.flow_archive.specs.declared.refusal.ArchiveError.TheVariants as refusal
use Rattle.flow_archive.specs.Frozen.{Frozen}
use Rattle.flow_archive.specs.UnderWay.{numbers_of, IsUnnamed, IsWaiting}
use Rattle.flow_archive.proofs.Removing.{closed_now, is_shared_too, removed, removed_run, state_of, Holds}
use Rattle.flow_archive.proofs.Stand.{stands_for}
use Rattle.flow_archive.proofs.Stepping.{acknowledged, failed_either, refused}
use Rattle.flow_archive.proofs.archive.Archive.retire.Goals as goal

nothing_left : {X : Type 0} (l : List X) (count : ℕ) → count ≡ length l → true ≡ (count == 0) → l ≡ []
nothing_left [] count len is = refl
nothing_left (x ∷ l) count len is = absurd (omega (arith, len, eqb-true count 0 (sym is)))

pub returns-then-is_empty-clause-answers : goal.returns-then-is_empty-clause-answers
returns-then-is_empty-clause-answers g c =
    let inside = c.self.inside in
    let len : vec_len inside.waiting ≡ length inside.waiting.items = search rules in
    let none : inside.waiting.items ≡ [] = nothing_left inside.waiting.items (vec_len inside.waiting)
    len c.if-is_empty.ensures in
    rw (← c.self.view_is) (c.if-self.false, ap numbers_of none, refl)

pub returns-then-is_empty-clause-step : goal.returns-then-is_empty-clause-step
returns-then-is_empty-clause-step g c =
    let D = g.D.Disk in
    let inside = c.self.inside in
    rw (← c.self.view_is) (refused D _ _ _ refusal.NothingToRetire refl (λ is. cc)
    (λ h image left. g.met.D.Disk.only_now inside.disk image h left)
    (λ h still image is. stands_for inside.slots _ image (((c.self.invariant.0).still_open still).kept.known h image is)))

pub invariant_of-self : goal.invariant_of-self
invariant_of-self g c =
    let D = g.D.Disk in
    let S = g.D.Sealed.SealedFile in
    let inside = c.self.inside in
    let d = inside.disk in
    let n = S.number c.in-Ok.file in
    let was = subst (Holds D.honest D.marks D.held inside.slots inside.active inside.end inside.total inside.carry
    inside.files.items inside.prefix inside.messages.items inside.next inside.job inside.shared d inside.closed)
    c.take_oldest-oldest.ensures.items (c.self.invariant.0, c.self.invariant.1, c.self.invariant.2) in
    let whole = removed D.honest D.marks D.held inside.slots inside.active inside.end inside.total inside.carry inside.files.items
    inside.prefix inside.messages.items inside.next inside.job inside.shared d c.retire.new.self inside.closed
    c.take_oldest-oldest.result c.take_oldest-oldest.new.files.items n was (sym c.in-Ok.ensures.done)
    c.retire.ensures.honest c.retire.ensures.marks.others (λ h. (c.retire.ensures.held h).others)
    (λ h. g.met.D.Disk.reads_image d n h) in
    (whole.0, whole.1, whole.2, c.self.invariant.3)

pub invariant_of-self-in-Err-retire : goal.invariant_of-self-in-Err-retire
invariant_of-self-in-Err-retire g c =
    let D = g.D.Disk in
    let S = g.D.Sealed.SealedFile in
    let inside = c.self.inside in
    let d = inside.disk in
    let n = S.number c.in-Ok.file in
    let rest = c.take_oldest-oldest.new.files.items in
    let was = subst (Holds D.honest D.marks D.held inside.slots inside.active inside.end inside.total inside.carry
    inside.files.items inside.prefix inside.messages.items inside.next inside.job inside.shared d inside.closed)
    c.take_oldest-oldest.ensures.items (c.self.invariant.0, c.self.invariant.1, c.self.invariant.2) in
    let whole = closed_now D.honest D.marks D.held inside.slots inside.active inside.end inside.total inside.carry inside.files.items
    inside.prefix inside.messages.items inside.next inside.job inside.shared c.retire.new.self inside.closed rest
    (removed D.honest D.marks D.held inside.slots inside.active inside.end inside.total inside.carry inside.files.items
    inside.prefix inside.messages.items inside.next inside.job inside.shared d c.retire.new.self inside.closed
    c.take_oldest-oldest.result rest n was (sym c.in-Ok.ensures.done) c.retire.ensures.honest
    c.retire.ensures.marks.others (λ h. (c.retire.ensures.held h).others) (λ h. g.met.D.Disk.reads_image d n h)) in
    (whole.0, whole.1, whole.2, λ is. absurd (cc))

pub returns-in-Ok-retire-clause-answers : goal.returns-in-Ok-retire-clause-answers
returns-in-Ok-retire-clause-answers g c =
    let rest = c.take_oldest-oldest.new.files.items in
    rw (← c.self.view_is) (
      c.if-self.false,
      (
        numbers_of rest,
        ap numbers_of c.take_oldest-oldest.ensures.items
            ∙ ap (λ (k : ℕ). k ∷ numbers_of rest) (sym c.number-number.ensures),
        refl,
      ),
    )

pub returns-in-Ok-retire-clause-step : goal.returns-in-Ok-retire-clause-step
returns-in-Ok-retire-clause-step g c =
    let D = g.D.Disk in
    let S = g.D.Sealed.SealedFile in
    let inside = c.self.inside in
    let d = inside.disk in
    let d1 = c.retire.new.self in
    let n = S.number c.in-Ok.file in
    let f = c.take_oldest-oldest.result in
    let rest = c.take_oldest-oldest.new.files.items in
    let s : State = state_of D.honest D.marks D.held inside.slots inside.active inside.end inside.total inside.carry
    inside.files.items inside.prefix inside.messages.items inside.next inside.job inside.shared inside.waiting.items in
    let all : AllByRecursion (IsWaiting (D.marks d) s inside.closed) (f ∷ rest) =
    subst (AllByRecursion (IsWaiting (D.marks d) s inside.closed)) c.take_oldest-oldest.ensures.items
    (c.self.invariant.1).waiting in
    let unnamed : IsUnnamed s n = subst (IsUnnamed s) (sym c.in-Ok.ensures.done) all.0.unnamed in
    let known = ((c.self.invariant.0).still_open c.if-self.false).kept.known in
    rw (← c.self.view_is) (acknowledged D _ _ _ _ c.retire.ensures.honest
    (λ h.
    let at_all = g.met.D.Disk.reads_image d n h in
    let none = begun h at_all (λ image. g.met.D.Disk.only_now d image h) in
    let run = (changed_by _ none c.retire.ensures.honest
    c.retire.ensures.time (λ t. (c.retire.ensures.held t).others)).run in
    removed_run D.honest D.marks D.held d d1 s n unnamed c.retire.ensures.honest c.retire.ensures.marks.others
    (λ t. (c.retire.ensures.held t).others) (λ t. g.met.D.Disk.reads_image d n t) D inside.slots
    _ (known h) run)
    (λ h. (f.entry.file, (numbers_of rest, ap numbers_of c.take_oldest-oldest.ensures.items, refl)))
    c.if-self.false c.if-self.false
    (λ h1 image left. stands_for inside.slots _ image
    (((invariant_of-self g c).0.still_open c.if-self.false).kept.known h1 image
    (g.met.D.Disk.only_now d1 image h1 left))))

pub returns-in-Err-retire-clause-answers : goal.returns-in-Err-retire-clause-answers
returns-in-Err-retire-clause-answers g c =
    let rest = c.take_oldest-oldest.new.files.items in
    rw (← c.self.view_is) (
      c.if-self.false,
      (
        c.take_oldest-oldest.result.entry.file,
        (numbers_of rest, ap numbers_of c.take_oldest-oldest.ensures.items, refl),
      ),
    )

pub returns-in-Err-retire-clause-step : goal.returns-in-Err-retire-clause-step
returns-in-Err-retire-clause-step g c =
    let D = g.D.Disk in
    let S = g.D.Sealed.SealedFile in
    let inside = c.self.inside in
    let d = inside.disk in
    let d1 = c.retire.new.self in
    let n = S.number c.in-Ok.file in
    let f = c.take_oldest-oldest.result in
    let rest = c.take_oldest-oldest.new.files.items in
    let s : State = state_of D.honest D.marks D.held inside.slots inside.active inside.end inside.total inside.carry
    inside.files.items inside.prefix inside.messages.items inside.next inside.job inside.shared inside.waiting.items in
    let all : AllByRecursion (IsWaiting (D.marks d) s inside.closed) (f ∷ rest) =
    subst (AllByRecursion (IsWaiting (D.marks d) s inside.closed)) c.take_oldest-oldest.ensures.items
    (c.self.invariant.1).waiting in
    let unnamed : IsUnnamed s n = subst (IsUnnamed s) (sym c.in-Ok.ensures.done) all.0.unnamed in
    let known = ((c.self.invariant.0).still_open c.if-self.false).kept.known in
    rw (← c.self.view_is) (failed_either D _ _ _ c.retire.ensures.honest
    (λ h.
    let at_all = g.met.D.Disk.reads_image d n h in
    let none = begun h at_all (λ image. g.met.D.Disk.only_now d image h) in
    let run = (changed_by _ none c.retire.ensures.honest
    c.retire.ensures.time (λ t. (c.retire.ensures.held t).others)).run in
    removed_run D.honest D.marks D.held d d1 s n unnamed c.retire.ensures.honest c.retire.ensures.marks.others
    (λ t. (c.retire.ensures.held t).others) (λ t. g.met.D.Disk.reads_image d n t) D inside.slots
    _ (known h) run)
    (inr (f.entry.file, (numbers_of rest, ap numbers_of c.take_oldest-oldest.ensures.items, refl))) refl c.if-self.false)

pub returns-in-Err-clause-answers : goal.returns-in-Err-clause-answers
returns-in-Err-clause-answers g c =
    let D = g.D.Disk in
    let inside = c.self.inside in
    let f = c.take_oldest-oldest.result in
    let rest = c.take_oldest-oldest.new.files.items in
    let is : inside.waiting.items ≡ f ∷ rest = c.take_oldest-oldest.ensures.items in
    let back : c.put_back.new.files.items ≡ inside.waiting.items =
    c.put_back.ensures ∙ ap (λ (x : Frozen). x ∷ rest) c.in-Err.ensures.refused.0 ∙ sym is in
    let S : List Frozen → State = state_of D.honest D.marks D.held inside.slots inside.active inside.end inside.total
    inside.carry inside.files.items inside.prefix inside.messages.items inside.next inside.job inside.shared in
    rw (← c.self.view_is) (
      c.if-self.false,
      (λ none. omega (arith, ap (λ (l : List ℕ). length l) (sym (ap numbers_of is) ∙ none))),
      is_shared_too inside.shared f.shared c.in-Err.ensures.refused.1 (λ not.
          let alone = (c.self.invariant.2).waiting not in
          (subst (AllByRecursion (λ (x : Frozen). x.shared ≡ false)) is alone).0),
      ap S back,
    )

pub returns-in-Err-clause-step : goal.returns-in-Err-clause-step
returns-in-Err-clause-step g c =
    let D = g.D.Disk in
    let inside = c.self.inside in
    let f = c.take_oldest-oldest.result in
    let rest = c.take_oldest-oldest.new.files.items in
    let back : c.put_back.new.files.items ≡ inside.waiting.items =
    c.put_back.ensures ∙ ap (λ (x : Frozen). x ∷ rest) c.in-Err.ensures.refused.0
    ∙ sym c.take_oldest-oldest.ensures.items in
    let S : List Frozen → State = state_of D.honest D.marks D.held inside.slots inside.active inside.end inside.total
    inside.carry inside.files.items inside.prefix inside.messages.items inside.next inside.job inside.shared in
    rw (← c.self.view_is) (refused D _ _ _ refusal.Pinned
    (ap (λ (l : List Frozen). record { disk = inside.disk; state = S l; closed = inside.closed }) back) (λ is. cc)
    (λ h image left. g.met.D.Disk.only_now inside.disk image h left)
    (λ h still image is. stands_for inside.slots _ image (((c.self.invariant.0).still_open still).kept.known h image is)))

pub invariant_of-self-in-Err : goal.invariant_of-self-in-Err
invariant_of-self-in-Err g c =
    let rest = c.take_oldest-oldest.new.files.items in
    let back : c.put_back.new.files.items ≡ c.self.inside.waiting.items =
    c.put_back.ensures ∙ ap (λ (x : Frozen). x ∷ rest) c.in-Err.ensures.refused.0
    ∙ sym c.take_oldest-oldest.ensures.items in
    rw back c.self.invariant
