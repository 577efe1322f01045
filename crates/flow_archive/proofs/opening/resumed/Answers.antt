use Rattle.std.proofs.Common.{◌≡◌, ℕ, ◌+◌, false, List, [], length, take, refl, sym, ◌∙◌, ap, subst, rules, vec_len}
use Rattle.std.specs.List.{AllByRecursion}
use Rattle.std.specs.Prelude.{None}
use Rattle.flow_manifest.specs.declared.manifest.Entry.{Entry}
use Rattle.flow_gate.specs.Gate.{octet_sum}
use Rattle.flow_manifest.specs.Following.{active_of, front_of}
use Rattle.flow_model.specs.State.{State}
use Rattle.flow_recover.specs.Reading.{part_of}
use Rattle.flow_model.specs.Standing.{IsKnown, StandsFor}
use Rattle.flow_archive.specs.Frozen.{all_frozen, Frozen, HaveSpans, MayBeFrozen}
use Rattle.flow_archive.specs.Seen.{IsArchive, state_in}
use Rattle.flow_archive.specs.UnderWay.{under_way_in, HasOwnFiles, IsUnderWay}
use Rattle.flow_archive.proofs.Reopened.{found_archive, found_read, found_spans, front_frozen, front_is}
use Rattle.flow_archive.proofs.Sharing.{own_found}
use Rattle.flow_archive.proofs.Stand.{stands_for}
use Rattle.flow_archive.proofs.Working.{nothing_under_way}
use Rattle.flow_archive.proofs.opening.resumed.Goals.{After-new}
use Rattle.flow_archive.proofs.opening.resumed.Goals as goal

pub kept_of-requires-clause-entries : goal.kept_of-requires-clause-entries
kept_of-requires-clause-entries g c =
    let found = c.args.found in
    let len : vec_len found.parts ≡ length found.parts.items = search rules in
    let front : take c.len.result c.as_slice.result.now ≡ front_of found.slots.current =
    front_is found.slots.current c.as_slice.result.now c.len.result c.as_slice.ensures
    (c.len.ensures ∙ len ∙ (c.requires.1).all) in
    subst (AllByRecursion (λ (e : Entry). MayBeFrozen e.kind e)) (sym front)
    (front_frozen found.slots.current (c.requires.1).counted.valid)

pub kept_of-requires-clause-spans : goal.kept_of-requires-clause-spans
kept_of-requires-clause-spans g c =
    let D = g.D.Disk in
    let S = g.D.Sealed.SealedFile in
    let found = c.args.found in
    let m = found.slots.current in
    let len : vec_len found.parts ≡ length found.parts.items = search rules in
    let front : take c.len.result c.as_slice.result.now ≡ front_of m =
    front_is m c.as_slice.result.now c.len.result c.as_slice.ensures (c.len.ensures ∙ len ∙ (c.requires.1).all) in
    subst (HaveSpans m (all_frozen S.honest S.octets (take c.len.result c.as_slice.result.now) found.parts.items))
    (sym c.as_slice-spans.ensures.value)
    (subst (λ (l : List Entry). HaveSpans m (all_frozen S.honest S.octets l found.parts.items) found.spans.items)
    (sym front) (found_spans D.honest D.marks D.held S.octets S.number S.size S.honest c.requires.0 c.args.disk
    found.slots found.active_entry found.end found.total (part_of found.active) found.carry found.parts.items
    found.spans.items c.requires.1))

pub invariant_of-result : goal.invariant_of-result
invariant_of-result g c =
    let D = g.D.Disk in
    let S = g.D.Sealed.SealedFile in
    let found = c.args.found in
    let len : vec_len found.parts ≡ length found.parts.items = search rules in
    let front : take c.len.result c.as_slice.result.now ≡ front_of found.slots.current =
    front_is found.slots.current c.as_slice.result.now c.len.result c.as_slice.ensures
    (c.len.ensures ∙ len ∙ (c.requires.1).all) in
    let files : c.in-Ok.kept.files.items ≡ all_frozen S.honest S.octets (front_of found.slots.current) found.parts.items =
    c.in-Ok.ensures.files ∙ ap (λ (l : List Entry). all_frozen S.honest S.octets l found.parts.items) front in
    let T : List Frozen → List ℕ → List (List ℕ) → List Frozen → State = λ f p ms w.
    state_in (under_way_in found.slots.current.next None w) false found.slots.current f p ms in
    let P : List Frozen → List ℕ → List (List ℕ) → List Frozen → Type 0 = λ f p ms w. IsArchive D.honest D.marks D.held c.args.disk
    found.slots found.active_entry found.end found.total found.carry f (T f p ms w) false
    × IsUnderWay D.honest D.marks D.held c.args.disk (T f p ms w) (under_way_in found.slots.current.next None w) false
    × HasOwnFiles false f (under_way_in found.slots.current.next None w) in
    let whole = subst (λ (l : List Frozen). P l c.in-Ok.kept.prefix c.in-Ok.kept.messages.items c.new.result.items) (sym files)
    (subst (λ (l : List ℕ). P (all_frozen S.honest S.octets (front_of found.slots.current) found.parts.items) l
    c.in-Ok.kept.messages.items c.new.result.items) (sym c.in-Ok.ensures.prefix)
    (subst (λ (l : List (List ℕ)). P (all_frozen S.honest S.octets (front_of found.slots.current) found.parts.items)
    found.active.prefix.items l c.new.result.items) (sym c.in-Ok.ensures.messages)
    (subst (λ (l : List Frozen). P (all_frozen S.honest S.octets (front_of found.slots.current) found.parts.items)
    found.active.prefix.items (part_of found.active).messages l) (sym c.new.ensures.items) (
      found_archive D.honest D.marks D.held S.octets S.number S.size S.honest c.requires.0 c.args.disk found.slots
          found.active_entry found.end found.total (part_of found.active) found.carry found.parts.items
          found.spans.items c.requires.1,
      nothing_under_way D.honest D.marks D.held c.args.disk _ found.slots.current.next false,
      own_found S.honest S.octets (front_of found.slots.current) found.parts.items false found.slots.current.next,
    )))) in
    (whole.0, whole.1, whole.2, λ _. tt)

pub returns-clause-read : goal.returns-clause-read
returns-clause-read g c reads is h =
    let D = g.D.Disk in
    let S = g.D.Sealed.SealedFile in
    let found = c.args.found in
    let len : vec_len found.parts ≡ length found.parts.items = search rules in
    let front : take c.len.result c.as_slice.result.now ≡ front_of found.slots.current =
    front_is found.slots.current c.as_slice.result.now c.len.result c.as_slice.ensures
    (c.len.ensures ∙ len ∙ (c.requires.1).all) in
    let files : c.in-Ok.kept.files.items ≡ all_frozen S.honest S.octets (front_of found.slots.current) found.parts.items =
    c.in-Ok.ensures.files ∙ ap (λ (l : List Entry). all_frozen S.honest S.octets l found.parts.items) front in
    let T : List Frozen → List ℕ → List (List ℕ) → List Frozen → State = λ f p ms w.
    state_in (under_way_in found.slots.current.next None w) false found.slots.current f p ms in
    let P : List Frozen → List ℕ → List (List ℕ) → List Frozen → Type 0 = λ f p ms w. StandsFor reads
    (T f p ms w) in
    subst (λ (l : List Frozen). P l c.in-Ok.kept.prefix c.in-Ok.kept.messages.items c.new.result.items) (sym files)
    (subst (λ (l : List ℕ). P (all_frozen S.honest S.octets (front_of found.slots.current) found.parts.items) l
    c.in-Ok.kept.messages.items c.new.result.items) (sym c.in-Ok.ensures.prefix)
    (subst (λ (l : List (List ℕ)). P (all_frozen S.honest S.octets (front_of found.slots.current) found.parts.items)
    found.active.prefix.items l c.new.result.items) (sym c.in-Ok.ensures.messages)
    (subst (λ (l : List Frozen). P (all_frozen S.honest S.octets (front_of found.slots.current) found.parts.items)
    found.active.prefix.items (part_of found.active).messages l) (sym c.new.ensures.items)
    (found_read D.honest D.marks D.held S.octets S.number S.size S.honest reads c.args.disk found.slots
    found.active_entry
    found.end found.total (part_of found.active) found.carry found.parts.items found.spans.items is h))))

pub returns-clause-stands : goal.returns-clause-stands
returns-clause-stands g c h image is =
    let found = c.args.found in
    let kept = c.in-Ok.kept in
    let T : List Frozen → State = λ w. state_in (under_way_in found.slots.current.next None w) false found.slots.current
    kept.files.items kept.prefix kept.messages.items in
    let still = (invariant_of-result g (goal.at.returns-clause-stands g c).After-new).0.still_open refl in
    subst (λ (w : List Frozen). IsKnown found.slots (T w) image → StandsFor image (T w)) (sym c.new.ensures.items)
    (λ known. stands_for found.slots (T []) image known) (still.kept.known h image is)

pub returns-clause-counted : goal.returns-clause-counted
returns-clause-counted g c =
    let found = c.args.found in
    let end_at : List (List ℕ) → ℕ = λ messages. (active_of found.slots.current).prefix + octet_sum messages in
    (refl, ap end_at c.in-Ok.ensures.messages ∙ sym (c.requires.1).counted.end_is)
