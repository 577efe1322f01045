use Rattle.std.proofs.Common.{ap, length, refl, subst, sym, ◌∙◌, ℕ}
use Rattle.std.specs.Prelude.{IsTrue, ◌&&◌, ◌==◌}
use Rattle.std.specs.List.{list_all, AllZip}
use Rattle.flow_measure.specs.Sums.{AllFit, Table}
use Rattle.flow_snapshot.specs.Directories.{sight_of}
use Rattle.flow_snapshot.specs.Files.{is_honest, is_honest_sum, rollup_of, segment_of, shared}
use Rattle.flow_snapshot.specs.Shares.{added_if, own, summed, turn_after, AreNarrow, IsFileSum, IsNarrowRead, IsOwnSum}
use Rattle.flow_snapshot.specs.Shares.{IsSegmentSum}
use Rattle.flow_snapshot.specs.ShelfSeen.{ShelfSeen}
use Rattle.flow_snapshot.specs.Totals.{with_maps}
use Rattle.flow_snapshot.proofs.Adding.{made_err}
use Rattle.flow_snapshot.proofs.Sharing.{first_of_two, second_of_two}
use Rattle.flow_snapshot.proofs.Dealing.{all_of_them_fit, more_fit, narrow_done, rolled_fit, shared_length}
use Rattle.flow_snapshot.proofs.Dealt.{own_narrow_read}
use Rattle.flow_snapshot.proofs.snapshot.Snapshot.own_narrow.Goals as goal

pub returns-in_err-turn-clause-given : goal.returns-in_err-turn-clause-given
returns-in_err-turn-clause-given g c = λ honest narrow are.
    let inside = c.self.inside in
    let files = inside.files in
    let s = (sight_of inside.width inside.wide files).shelf in
    let seen = subst (λ (x : ShelfSeen). IsTrue x.honest) (sym c.self.view_is) honest in
    let merged = list_all is_honest_sum (shared files.merged.items) in
    let rolled = list_all is_honest_sum (shared files.rolled.items) in
    let sealed = list_all (is_honest {files = g.S.SealedFile}) (shared files.sealed.items) in
    let here = subst (λ (x : ShelfSeen). AreNarrow x.shelf narrow) (sym c.self.view_is) are in
    let start = c.new-rows.result in
    let none = c.new-rows.ensures in
    let of_rolled = second_of_two merged rolled (first_of_two (merged && rolled) sealed seen) in
    let each = subst (λ (w : ℕ). AllZip (IsFileSum w) s.rolled here.rolled) (sym (ap (λ (t : Table). t.width) none))
    here.of_rolled in
    let given = rw c.as_slice-rolled.ensures.value at c.in_err-turn.ensures.given in
    made_err _ c.args.first (AllFit (with_maps (own c.args.workers c.args.worker c.args.turn here.rolled) start))
    (AllFit (summed s.width narrow)) c.from_residual.result c.in_err-turn.field-0.0
    (rolled_fit s c.args.workers c.args.worker c.args.turn narrow here start none _ _ refl refl)
    c.from_residual.ensures.1 (given of_rolled here.rolled each)

pub returns-in_err-turn-2-clause-given : goal.returns-in_err-turn-2-clause-given
returns-in_err-turn-2-clause-given g c = λ honest narrow are.
    let inside = c.self.inside in
    let files = inside.files in
    let s = (sight_of inside.width inside.wide files).shelf in
    let seen = subst (λ (x : ShelfSeen). IsTrue x.honest) (sym c.self.view_is) honest in
    let merged = list_all is_honest_sum (shared files.merged.items) in
    let rolled = list_all is_honest_sum (shared files.rolled.items) in
    let sealed = list_all (is_honest {files = g.S.SealedFile}) (shared files.sealed.items) in
    let here = subst (λ (x : ShelfSeen). AreNarrow x.shelf narrow) (sym c.self.view_is) are in
    let start = c.new-rows.result in
    let none = c.new-rows.ensures in
    let of_rolled = second_of_two merged rolled (first_of_two (merged && rolled) sealed seen) in
    let each = subst (λ (w : ℕ). AllZip (IsFileSum w) s.rolled here.rolled) (sym (ap (λ (t : Table). t.width) none))
    here.of_rolled in
    let given1 = rw c.as_slice-rolled.ensures.value at c.in_ok-turn.ensures.given in
    let r1 = given1 of_rolled here.rolled each in
    let w1 = ap (λ (t : Table). t.width) r1 ∙ ap (λ (t : Table). t.width) none in
    let t1 = c.in_ok-turn.turn in
    let first_is = c.in_ok-turn.ensures.turn.0
    ∙ ap (λ (n : ℕ). turn_after c.args.workers n c.args.turn) (ap length c.as_slice-rolled.ensures.value
    ∙ sym (shared_length rollup_of files.rolled.items)) in
    let of_sealed = second_of_two (merged && rolled) sealed seen in
    let each2 = subst (λ (w : ℕ). AllZip (IsSegmentSum w) s.sealed here.sealed) (sym w1) here.of_sealed in
    let given = rw c.as_slice-sealed.ensures.value at c.in_err-turn-2.ensures.given in
    made_err _ c.args.first
    (AllFit (with_maps (own c.args.workers c.args.worker t1 here.sealed) c.add_own_files.new.rows))
    (AllFit (summed s.width narrow)) c.from_residual-in_err-turn-2.result c.in_err-turn-2.field-0.0
    (more_fit s c.args.workers c.args.worker c.args.turn narrow here start none t1 _ first_is refl
    c.add_own_files.new.rows _ start r1 refl)
    c.from_residual-in_err-turn-2.ensures.1 (given of_sealed here.sealed each2)

pub returns-in_err-add_own_active-clause-given : goal.returns-in_err-add_own_active-clause-given
returns-in_err-add_own_active-clause-given g c = λ honest narrow are.
    let inside = c.self.inside in
    let files = inside.files in
    let s = (sight_of inside.width inside.wide files).shelf in
    let seen = subst (λ (x : ShelfSeen). IsTrue x.honest) (sym c.self.view_is) honest in
    let merged = list_all is_honest_sum (shared files.merged.items) in
    let rolled = list_all is_honest_sum (shared files.rolled.items) in
    let sealed = list_all (is_honest {files = g.S.SealedFile}) (shared files.sealed.items) in
    let here = subst (λ (x : ShelfSeen). AreNarrow x.shelf narrow) (sym c.self.view_is) are in
    let start = c.new-rows.result in
    let none = c.new-rows.ensures in
    let of_rolled = second_of_two merged rolled (first_of_two (merged && rolled) sealed seen) in
    let each = subst (λ (w : ℕ). AllZip (IsFileSum w) s.rolled here.rolled) (sym (ap (λ (t : Table). t.width) none))
    here.of_rolled in
    let given1 = rw c.as_slice-rolled.ensures.value at c.in_ok-turn.ensures.given in
    let r1 = given1 of_rolled here.rolled each in
    let w1 = ap (λ (t : Table). t.width) r1 ∙ ap (λ (t : Table). t.width) none in
    let t1 = c.in_ok-turn.turn in
    let first_is = c.in_ok-turn.ensures.turn.0
    ∙ ap (λ (n : ℕ). turn_after c.args.workers n c.args.turn) (ap length c.as_slice-rolled.ensures.value
    ∙ sym (shared_length rollup_of files.rolled.items)) in
    let of_sealed = second_of_two (merged && rolled) sealed seen in
    let each2 = subst (λ (w : ℕ). AllZip (IsSegmentSum w) s.sealed here.sealed) (sym w1) here.of_sealed in
    let given2 = rw c.as_slice-sealed.ensures.value at c.in_ok-turn-2.ensures.given in
    let r2 = given2 of_sealed here.sealed each2 in
    let w2 = ap (λ (t : Table). t.width) r2 ∙ w1 in
    let second_is = c.in_ok-turn-2.ensures.turn.0
    ∙ ap (λ (n : ℕ). turn_after c.args.workers n t1) (ap length c.as_slice-sealed.ensures.value
    ∙ sym (shared_length (segment_of {files = g.S.SealedFile}) files.sealed.items)) in
    let last = subst (λ (w : ℕ). IsOwnSum w s.prefix s.active here.active) (sym w2) here.of_active in
    let t2 = c.in_ok-turn-2.turn in
    let given = rw (c.as_slice-prefix.ensures, c.as_slice-active.ensures.value)
    at c.in_err-add_own_active.ensures.given in
    made_err _ c.args.first (AllFit (added_if (t2 == c.args.worker) here.active c.add_own_segments.new.rows))
    (AllFit (summed s.width narrow)) c.from_residual-in_err-add_own_active.result c.in_err-add_own_active.field-0.0
    (all_of_them_fit s c.args.workers c.args.worker c.args.turn narrow here start none t1 t2 first_is second_is
    c.add_own_files.new.rows c.add_own_segments.new.rows start r1 r2)
    c.from_residual-in_err-add_own_active.ensures.1 (given here.active last)

pub returns-clause-found : goal.returns-clause-found
returns-clause-found g c = λ honest.
    let inside = c.self.inside in
    let files = inside.files in
    let s = (sight_of inside.width inside.wide files).shelf in
    let seen = subst (λ (x : ShelfSeen). IsTrue x.honest) (sym c.self.view_is) honest in
    let merged = list_all is_honest_sum (shared files.merged.items) in
    let rolled = list_all is_honest_sum (shared files.rolled.items) in
    let sealed = list_all (is_honest {files = g.S.SealedFile}) (shared files.sealed.items) in
    let of_rolled = second_of_two merged rolled (first_of_two (merged && rolled) sealed seen) in
    let of_sealed = second_of_two (merged && rolled) sealed seen in
    let t1 = c.in_ok-turn.turn in
    let t2 = c.in_ok-turn-2.turn in
    let first_is = c.in_ok-turn.ensures.turn.0
    ∙ ap (λ (n : ℕ). turn_after c.args.workers n c.args.turn) (ap length c.as_slice-rolled.ensures.value
    ∙ sym (shared_length rollup_of files.rolled.items)) in
    let second_is = c.in_ok-turn-2.ensures.turn.0
    ∙ ap (λ (n : ℕ). turn_after c.args.workers n t1) (ap length c.as_slice-sealed.ensures.value
    ∙ sym (shared_length (segment_of {files = g.S.SealedFile}) files.sealed.items)) in
    let w0 = ap (λ (t : Table). t.width) c.new-rows.ensures in
    let w1 = c.in_ok-turn.ensures.width ∙ w0 in
    let w2 = c.in_ok-turn-2.ensures.width ∙ w1 in
    let rolled_sums = (rw c.as_slice-rolled.ensures.value at c.in_ok-turn.ensures.found) of_rolled in
    let sealed_sums = (rw c.as_slice-sealed.ensures.value at c.in_ok-turn-2.ensures.found) of_sealed in
    let active_sums = rw (c.as_slice-prefix.ensures, c.as_slice-active.ensures.value)
    at c.in_ok-add_own_active.ensures.found in
    subst (λ (x : ShelfSeen). IsNarrowRead x.shelf c.args.workers c.args.worker c.args.turn) c.self.view_is
    (own_narrow_read s c.args.workers c.args.worker c.args.turn t1 t2 _ _ _ first_is second_is w0 w1 w2 rolled_sums
    sealed_sums active_sums)

pub returns-clause-given : goal.returns-clause-given
returns-clause-given g c = λ honest narrow are.
    let inside = c.self.inside in
    let files = inside.files in
    let s = (sight_of inside.width inside.wide files).shelf in
    let seen = subst (λ (x : ShelfSeen). IsTrue x.honest) (sym c.self.view_is) honest in
    let merged = list_all is_honest_sum (shared files.merged.items) in
    let rolled = list_all is_honest_sum (shared files.rolled.items) in
    let sealed = list_all (is_honest {files = g.S.SealedFile}) (shared files.sealed.items) in
    let here = subst (λ (x : ShelfSeen). AreNarrow x.shelf narrow) (sym c.self.view_is) are in
    let start = c.new-rows.result in
    let none = c.new-rows.ensures in
    let of_rolled = second_of_two merged rolled (first_of_two (merged && rolled) sealed seen) in
    let each = subst (λ (w : ℕ). AllZip (IsFileSum w) s.rolled here.rolled) (sym (ap (λ (t : Table). t.width) none))
    here.of_rolled in
    let given1 = rw c.as_slice-rolled.ensures.value at c.in_ok-turn.ensures.given in
    let r1 = given1 of_rolled here.rolled each in
    let w1 = ap (λ (t : Table). t.width) r1 ∙ ap (λ (t : Table). t.width) none in
    let t1 = c.in_ok-turn.turn in
    let first_is = c.in_ok-turn.ensures.turn.0
    ∙ ap (λ (n : ℕ). turn_after c.args.workers n c.args.turn) (ap length c.as_slice-rolled.ensures.value
    ∙ sym (shared_length rollup_of files.rolled.items)) in
    let of_sealed = second_of_two (merged && rolled) sealed seen in
    let each2 = subst (λ (w : ℕ). AllZip (IsSegmentSum w) s.sealed here.sealed) (sym w1) here.of_sealed in
    let given2 = rw c.as_slice-sealed.ensures.value at c.in_ok-turn-2.ensures.given in
    let r2 = given2 of_sealed here.sealed each2 in
    let w2 = ap (λ (t : Table). t.width) r2 ∙ w1 in
    let second_is = c.in_ok-turn-2.ensures.turn.0
    ∙ ap (λ (n : ℕ). turn_after c.args.workers n t1) (ap length c.as_slice-sealed.ensures.value
    ∙ sym (shared_length (segment_of {files = g.S.SealedFile}) files.sealed.items)) in
    let last = subst (λ (w : ℕ). IsOwnSum w s.prefix s.active here.active) (sym w2) here.of_active in
    let t2 = c.in_ok-turn-2.turn in
    let given = rw (c.as_slice-prefix.ensures, c.as_slice-active.ensures.value)
    at c.in_ok-add_own_active.ensures.given in
    narrow_done s c.args.workers c.args.worker c.args.turn narrow here start none t1 t2 first_is second_is
    c.add_own_files.new.rows c.add_own_segments.new.rows c.add_own_active.new.rows r1 r2 (given here.active last)
    ∙ ap (λ (x : ShelfSeen). summed x.shelf.width (own c.args.workers c.args.worker c.args.turn narrow)) c.self.view_is
