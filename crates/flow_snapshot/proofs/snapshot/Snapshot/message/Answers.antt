use Rattle.std.proofs.Common.{◌≡◌, ◌<◌, ◌+◌, ◌-◌, ◌≤◌, None, Some, inl, length, suc, subst, sym, ap, ◌∙◌, arith}
use Rattle.std.specs.Prelude.{IsTrue, ◌&&◌}
use Rattle.std.specs.List.{list_all}
use Rattle.std.proofs.lemmas.Bool.{ltb-true, ltb-false}
use Rattle.std.proofs.lemmas.Option.{slice_get-get_or, slice_get_past}
use Rattle.flow_snapshot.specs.Directories.{sight_of}
use Rattle.flow_snapshot.specs.Files.{is_honest, is_honest_sum, shared}
use Rattle.flow_model.specs.Shelf.{cut_of, messages_in}
use Rattle.flow_snapshot.specs.Found.{IsMessageAt}
use Rattle.flow_snapshot.specs.ShelfSeen.{ShelfSeen}
use Rattle.flow_snapshot.specs.Answered.{octets_in}
use Rattle.flow_model.specs.Views.{IsViewOf}
use Rattle.flow_snapshot.proofs.Asking.{honest_sealed}
use Rattle.flow_snapshot.proofs.KeptFlows.{answered_err}
use Rattle.flow_snapshot.proofs.Places.{in_active, in_sealed, sealed_cut}
use Rattle.flow_snapshot.proofs.Standing.{active_at, none_at, sealed_at}
use Rattle.flow_snapshot.proofs.snapshot.Snapshot.message.Goals as goal

pub returns-in_err-sealed_message-clause-given : goal.returns-in_err-sealed_message-clause-given
returns-in_err-sealed_message-clause-given g c = λ honest v is.
    let inside = c.self.inside in
    let files = inside.files in
    let s = (sight_of inside.width inside.wide files).shelf in
    let here = subst (λ (x : ShelfSeen). IsViewOf x.shelf v) (sym c.self.view_is) is in
    let sums = list_all is_honest_sum (shared files.merged.items) && list_all is_honest_sum
    (shared files.rolled.items) in
    let all = honest_sealed sums (list_all (is_honest {files = g.S.SealedFile}) (shared files.sealed.items))
    (subst (λ (x : ShelfSeen). IsTrue x.honest) (sym c.self.view_is) honest) in
    let given = rw c.as_slice-sealed.ensures.value at c.in_err-sealed_message.ensures.given in
    answered_err _ c.from_residual.result _ c.from_residual.ensures.1 (given all (sealed_cut s v here c.args.n))

pub returns-then-place-count-clause-given : goal.returns-then-place-count-clause-given
returns-then-place-count-clause-given g c = λ honest v is.
    let inside = c.self.inside in
    let files = inside.files in
    let s = (sight_of inside.width inside.wide files).shelf in
    let here = subst (λ (x : ShelfSeen). IsViewOf x.shelf v) (sym c.self.view_is) is in
    let sums = list_all is_honest_sum (shared files.merged.items) && list_all is_honest_sum
    (shared files.rolled.items) in
    let all = honest_sealed sums (list_all (is_honest {files = g.S.SealedFile}) (shared files.sealed.items))
    (subst (λ (x : ShelfSeen). IsTrue x.honest) (sym c.self.view_is) honest) in
    let cut : cut_of s ≡ c.cut-cut.result = ap (λ (x : ShelfSeen). cut_of x.shelf) c.self.view_is
    ∙ omega (arith, c.cut-cut.ensures, c.if-n-cut.false, c.ranges.n.fits) in
    let place = c.args.n - c.cut-cut.result - 1 in
    let count = rw c.as_slice-sealed.ensures.value at c.sealed_count-count.ensures in
    let within : place < length (messages_in s.sealed) = omega (arith, count, c.if-place-count.true) in
    let given = rw c.as_slice-sealed.ensures.value at c.in_ok-sealed_message.ensures.given in
    given all (sealed_cut s v here c.args.n)
    ∙ in_sealed s v here c.args.n place (omega (arith, cut, c.if-n-cut.false)) (omega (arith, cut)) within

pub returns-in_ok-from_slice-in-Some-clause-given : goal.returns-in_ok-from_slice-in-Some-clause-given
returns-in_ok-from_slice-in-Some-clause-given g c = λ honest v is.
    let inside = c.self.inside in
    let files = inside.files in
    let s = (sight_of inside.width inside.wide files).shelf in
    let here = subst (λ (x : ShelfSeen). IsViewOf x.shelf v) (sym c.self.view_is) is in
    let cut : cut_of s ≡ c.cut-cut.result = ap (λ (x : ShelfSeen). cut_of x.shelf) c.self.view_is
    ∙ omega (arith, c.cut-cut.ensures, c.if-n-cut.false, c.ranges.n.fits) in
    let place = c.args.n - c.cut-cut.result - 1 in
    let count = rw c.as_slice-sealed.ensures.value at c.sealed_count-count.ensures in
    let full : length (messages_in s.sealed) ≡ c.sealed_count-count.result =
    omega (arith, count, c.if-place-count.false, c.if-n-cut.false, c.ranges.n.fits) in
    let past : length (messages_in s.sealed) ≤ place = omega (arith, full, c.if-place-count.false) in
    let i = place - length (messages_in s.sealed) in
    let found = rw (sym full, c.deref.ensures.value) at c.in-Some.ensures.lookup in
    ap Some (c.in_ok-from_slice-in-Some.ensures.items ∙ c.as_slice.ensures ∙ found.1)
    ∙ sym (slice_get-get_or s.active i c.in-Some.message.now (ltb-true i (length s.active) (sym found.0)))
    ∙ in_active s v here c.args.n place (omega (arith, cut, c.if-n-cut.false)) (omega (arith, cut)) past

pub returns-in-None-clause-given : goal.returns-in-None-clause-given
returns-in-None-clause-given g c = λ honest v is.
    let inside = c.self.inside in
    let files = inside.files in
    let s = (sight_of inside.width inside.wide files).shelf in
    let here = subst (λ (x : ShelfSeen). IsViewOf x.shelf v) (sym c.self.view_is) is in
    let cut : cut_of s ≡ c.cut-cut.result = ap (λ (x : ShelfSeen). cut_of x.shelf) c.self.view_is
    ∙ omega (arith, c.cut-cut.ensures, c.if-n-cut.false, c.ranges.n.fits) in
    let place = c.args.n - c.cut-cut.result - 1 in
    let count = rw c.as_slice-sealed.ensures.value at c.sealed_count-count.ensures in
    let full : length (messages_in s.sealed) ≡ c.sealed_count-count.result =
    omega (arith, count, c.if-place-count.false, c.if-n-cut.false, c.ranges.n.fits) in
    let past : length (messages_in s.sealed) ≤ place = omega (arith, full, c.if-place-count.false) in
    let i = place - length (messages_in s.sealed) in
    let found = rw (sym full, c.deref.ensures.value) at c.in-None.ensures.lookup in
    sym (slice_get_past s.active i (ltb-false i (length s.active) (sym found.0)))
    ∙ in_active s v here c.args.n place (omega (arith, cut, c.if-n-cut.false)) (omega (arith, cut)) past

pub returns-then-n-cut-clause-found : goal.returns-then-n-cut-clause-found
returns-then-n-cut-clause-found g c = λ honest. inl (omega (arith, c.cut-cut.ensures, c.if-n-cut.true))

pub returns-then-place-count-clause-found : goal.returns-then-place-count-clause-found
returns-then-place-count-clause-found g c = λ honest.
    let inside = c.self.inside in
    let files = inside.files in
    let s = (sight_of inside.width inside.wide files).shelf in
    let sums = list_all is_honest_sum (shared files.merged.items) && list_all is_honest_sum
    (shared files.rolled.items) in
    let all = honest_sealed sums (list_all (is_honest {files = g.S.SealedFile}) (shared files.sealed.items))
    (subst (λ (x : ShelfSeen). IsTrue x.honest) (sym c.self.view_is) honest) in
    let cut : cut_of s ≡ c.cut-cut.result = ap (λ (x : ShelfSeen). cut_of x.shelf) c.self.view_is
    ∙ omega (arith, c.cut-cut.ensures, c.if-n-cut.false, c.ranges.n.fits) in
    let place = c.args.n - c.cut-cut.result - 1 in
    let count = rw c.as_slice-sealed.ensures.value at c.sealed_count-count.ensures in
    let within : place < length (messages_in s.sealed) = omega (arith, count, c.if-place-count.true) in
    let found = (rw c.as_slice-sealed.ensures.value at c.in_ok-sealed_message.ensures.found) all in
    subst (λ (x : ShelfSeen). IsMessageAt x.shelf c.args.n (octets_in c.in_ok-sealed_message.field-0)) c.self.view_is
    (sealed_at s c.args.n place (octets_in c.in_ok-sealed_message.field-0)
    (omega (arith, cut, c.if-n-cut.false)) within found)

pub returns-in_ok-from_slice-in-Some-clause-found : goal.returns-in_ok-from_slice-in-Some-clause-found
returns-in_ok-from_slice-in-Some-clause-found g c = λ honest.
    let inside = c.self.inside in
    let files = inside.files in
    let s = (sight_of inside.width inside.wide files).shelf in
    let cut : cut_of s ≡ c.cut-cut.result = ap (λ (x : ShelfSeen). cut_of x.shelf) c.self.view_is
    ∙ omega (arith, c.cut-cut.ensures, c.if-n-cut.false, c.ranges.n.fits) in
    let place = c.args.n - c.cut-cut.result - 1 in
    let count = rw c.as_slice-sealed.ensures.value at c.sealed_count-count.ensures in
    let full : length (messages_in s.sealed) ≡ c.sealed_count-count.result =
    omega (arith, count, c.if-place-count.false, c.if-n-cut.false, c.ranges.n.fits) in
    let i = place - length (messages_in s.sealed) in
    let at : c.args.n ≡ suc (cut_of s + length (messages_in s.sealed) + i) =
    omega (arith, cut, full, c.if-n-cut.false, c.if-place-count.false) in
    let found = rw (sym full, c.deref.ensures.value) at c.in-Some.ensures.lookup in
    let message = c.in_ok-from_slice-in-Some.field-0.items in
    subst (λ (x : ShelfSeen). IsMessageAt x.shelf c.args.n (Some message)) c.self.view_is
    (active_at s c.args.n i message at
    (slice_get-get_or s.active i c.in-Some.message.now (ltb-true i (length s.active) (sym found.0))
    ∙ sym (ap Some (c.in_ok-from_slice-in-Some.ensures.items ∙ c.as_slice.ensures ∙ found.1))))

pub returns-in-None-clause-found : goal.returns-in-None-clause-found
returns-in-None-clause-found g c = λ honest.
    let inside = c.self.inside in
    let files = inside.files in
    let s = (sight_of inside.width inside.wide files).shelf in
    let cut : cut_of s ≡ c.cut-cut.result = ap (λ (x : ShelfSeen). cut_of x.shelf) c.self.view_is
    ∙ omega (arith, c.cut-cut.ensures, c.if-n-cut.false, c.ranges.n.fits) in
    let place = c.args.n - c.cut-cut.result - 1 in
    let count = rw c.as_slice-sealed.ensures.value at c.sealed_count-count.ensures in
    let full : length (messages_in s.sealed) ≡ c.sealed_count-count.result =
    omega (arith, count, c.if-place-count.false, c.if-n-cut.false, c.ranges.n.fits) in
    let i = place - length (messages_in s.sealed) in
    let at : c.args.n ≡ suc (cut_of s + length (messages_in s.sealed) + i) =
    omega (arith, cut, full, c.if-n-cut.false, c.if-place-count.false) in
    let found = rw (sym full, c.deref.ensures.value) at c.in-None.ensures.lookup in
    subst (λ (x : ShelfSeen). IsMessageAt x.shelf c.args.n None) c.self.view_is
    (none_at s c.args.n i at (ltb-false i (length s.active) (sym found.0)))
