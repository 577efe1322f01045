-- Openings that are stopped, and the one that answers Ok.
use Rattle.std.proofs.Common.{◌≡◌, ◌⊎◌, ⊎_elim, ℕ, zero, suc, ◌+◌, ◌*◌, ◌/◌, ◌<◌, ◌≤◌, false, IsTrue, List, [], ◌∷◌, ◌++◌}
use Rattle.std.proofs.Common.{take, drop, Result, Ok, Err, IfOk, refl, sym, ◌∙◌, ap, subst, arith}
use Rattle.std.proofs.Math.Nat.{mul-mod_left}
use Rattle.flow_disk.specs.declared.disk.Disk.{Ghosts}
use Rattle.flow_disk.specs.Disk.{AllImages, IsDiskImage}
use Rattle.flow_model.specs.Changes.{new_history}
use Rattle.flow_model.specs.Shelved.{HasHistory}
use Rattle.flow_model.specs.State.{State, empty_state, reopened}
use Rattle.flow_model.specs.Standing.{StandsFor, StandsForEither}
use Rattle.flow_model.proofs.Following.{starts}
use Rattle.flow_archive.specs.declared.event.Answer.{Answer}
use Rattle.flow_archive.specs.declared.event.Event.{Event}
use Rattle.flow_archive.specs.declared.refusal.ArchiveError.{ArchiveError}
use Rattle.flow_archive.specs.declared.refusal.Refused.{Refused}
use Rattle.flow_archive.specs.Beginning.{disk_of, widest}
use Rattle.flow_archive.specs.Runs.{IsRun}
use Rattle.flow_archive.specs.Seen.{Seen}
use Rattle.flow_headline.specs.Front.{IsPrefix}
use Rattle.flow_headline.specs.Openings.{AreStoppedOpenings, IsLeftBy, IsLeftOfRun, IsOpening, IsReady}
use Rattle.flow_headline.proofs.Fronts.{IsStanding}
use Rattle.flow_headline.proofs.Growing.{sound_of}
use Rattle.flow_headline.proofs.JobFiles.{no_job_made}
use Rattle.flow_headline.proofs.TwoStates.{AreTwo, prefix_from, two_left}

positive : (width : ℕ) → 1 ≤ width → width ≤ 86400 → 0 < 86400 / width * width
positive width from to = grind arith

-- the history of a new archive
pub empty_history : (width limit : ℕ) → 1 ≤ width → width ≤ 86400
    → HasHistory (empty_state width (widest width) limit) (new_history width (widest width))
empty_history width limit from to =
    let new = starts width (widest width) from (positive width from to) (mul-mod_left (86400 / width) width) in
    record { history = new.0; view = new.1 }

-- two facts on what was answered
pub both_ok : {T E : Type 0} (result : Result T E) (P Q R : T → Type 0) → ((x : T) → P x → Q x → R x) → IfOk result P
    → IfOk result Q → IfOk result R
both_ok (Ok x) P Q R each is also = each x is also
both_ok (Err e) P Q R each is also = is

-- the one item after so many
one_item : {X : Type 0} (n : ℕ) (xs : List X) → drop n (take (suc n) xs) ≡ take 1 (drop n xs)
one_item zero xs = refl
one_item (suc n) [] = refl
one_item (suc n) (x ∷ xs) = one_item n xs

item_after : {X : Type 0} (n : ℕ) (xs : List X) → drop n (take (n + 1) xs) ≡ take 1 (drop n xs)
item_after n xs =
    let same : n + 1 ≡ suc n = omega arith in
    ap (λ (m : ℕ). drop n (take m xs)) same ∙ one_item n xs

module _ {D S X : Type 0} (g : Ghosts D S X) where
  -- an archive that was opened
  pub ready_of : {E : Type 0} (result : Result (Seen D) (Refused D E)) (disk : D)
      → g.honest (disk_of result) ≡ g.honest disk → IsTrue (g.honest disk)
      → IfOk result (λ a. (a.closed ≡ false) × (a.state ≡ reopened a.state))
      → IfOk result (λ a. AllImages (g.held a.disk) (λ image. StandsFor image a.state))
      → IfOk result (λ a. IsReady g a)
  ready_of (Ok a) disk same h opened stands = record {
    honest = subst IsTrue (sym same) h;
    still_open = opened.0;
    no_job = ap (λ (s : State). s.job) opened.1;
    stands = λ image is. subst (StandsFor image) opened.1 (stands image is);
  }
  ready_of (Err e) disk same h opened stands = tt

  -- an archive that was made in a state in which nothing is under way
  pub made_ready : {E : Type 0} (result : Result (Seen D) (Refused D E)) (disk : D) (s : State)
      → g.honest (disk_of result) ≡ g.honest disk → IsTrue (g.honest disk)
      → IfOk result (λ a. (a.state ≡ s) × (a.closed ≡ false))
      → IfOk result (λ a. AllImages (g.held a.disk) (λ image. StandsFor image s)) → s ≡ reopened s
      → IfOk result (λ a. IsReady g a)
  made_ready (Ok a) disk s same h made stands rest = record {
    honest = subst IsTrue (sym same) h;
    still_open = made.1;
    no_job = ap (λ (x : State). x.job) (made.0 ∙ rest);
    stands = λ image is. subst (StandsFor image) (rest ∙ ap reopened (sym made.0)) (stands image is);
  }
  made_ready (Err e) disk s same h made stands rest = tt

  -- a disk that was left is honest
  honest_left : (first left : D) (openings : List D) → AreStoppedOpenings g first openings left
      → IsTrue (g.honest first) → IsTrue (g.honest left)
  honest_left first left [] is h = subst (λ (d : D). IsTrue (g.honest d)) (sym is) h
  honest_left first left (after ∷ others) (next, opening, stop, rest) h = honest_left next left others rest stop.honest

  pub honest_of_run : (old early late : Seen D) (events : List Event) (answers : List (Result Answer ArchiveError))
      (begun : ℕ) (left : D) → IsLeftOfRun g old events answers begun early late left → IsTrue (g.honest left)
  honest_of_run old early late events answers begun left run =
      honest_left run.first left run.openings run.opened ((run.stopped).stop).honest

  kept : (first left : D) (openings : List D) (s t : State) → AreStoppedOpenings g first openings left
      → AllImages (g.held first) (StandsForEither s t) → AllImages (g.held left) (StandsForEither s t)
  kept first left [] s t is here =
      subst (λ (d : D). AllImages (g.held d) (StandsForEither s t)) (sym is) here
  kept first left (after ∷ others) s t (next, opening, stop, rest) here =
      kept next left others s t rest (λ image is. (opening s t here).each image (stop.images image is))

  -- one opening more is stopped
  one_more_stop : (first left after next : D) (openings : List D) → AreStoppedOpenings g first openings left
      → IsOpening g left after → IsLeftBy g left after next
      → AreStoppedOpenings g first (openings ++ after ∷ []) next
  one_more_stop first left after next [] is opening stop =
      subst (λ (d : D). AreStoppedOpenings g d (after ∷ []) next) is (next, opening, stop, refl)
  one_more_stop first left after next (one ∷ openings) (then, early, stopped, rest) opening stop =
      (then, early, stopped, one_more_stop then left after next openings rest opening stop)

  pub stopped_again : (old early late : Seen D) (events : List Event) (answers : List (Result Answer ArchiveError))
      (begun : ℕ) (left after next : D) → IsLeftOfRun g old events answers begun early late left
      → IsOpening g left after → IsLeftBy g left after next
      → IsLeftOfRun g old events answers begun early late next
  stopped_again old early late events answers begun left after next run opening stop = record {
    ready = run.ready;
    first = run.first;
    stopped = run.stopped;
    openings = run.openings ++ after ∷ [];
    opened = one_more_stop run.first left after next run.openings run.opened opening stop;
  }

  module _ (some : (d : D) → IsTrue (g.honest d) → (image : ℕ → List ℕ) × g.left_since d (g.moment d) image)
      (earlier : (d : D) (t : ℕ) (image : ℕ → List ℕ) → IsTrue (g.honest d) → t ≤ g.moment d
      → g.left_since d (g.moment d) image → g.left_since d t image)
      (only_now : (d : D) (image : ℕ → List ℕ) → IsTrue (g.honest d) → g.left_since d (g.moment d) image
      → IsDiskImage (g.held d) image) where
    pub two_of_run : (old early late : Seen D) (events : List Event) (answers : List (Result Answer ArchiveError))
        (begun : ℕ) (left : D) → IsLeftOfRun g old events answers begun early late left
        → AreTwo begun old.state (take (suc begun) events) (take (suc begun) answers) (IsDiskImage (g.held left))
    two_of_run old early late events answers begun left run =
        let ready = run.ready in
        let stop = run.stopped in
        let here : IsStanding g old = record {
          images = λ image now. ready.stands image (only_now old.disk image ready.honest now);
          some = some old.disk ready.honest;
        } in
        let under_way = subst (λ (es : List Event). IsRun g early es (take 1 (drop begun answers)) late)
        (item_after begun events)
        (subst (λ (rs : List (Result Answer ArchiveError)). IsRun g early (drop begun (take (begun + 1) events)) rs late)
        (item_after begun answers) stop.under_way) in
        let two = two_left g some earlier begun old early late events answers stop.before under_way ready.honest
        ready.still_open here (no_job_made old.state ready.no_job) in
        record {
          one = two.one;
          two = two.two;
          first = two.first;
          second = two.second;
          either = kept run.first left run.openings (reopened two.one) (reopened two.two) run.opened
              (λ image is. two.either image (stop.stop.images image is));
        }

-- what an opening finds of two such states
pub found_of : (begun : ℕ) (s found : State) (events : List Event) (answers : List (Result Answer ArchiveError))
    (image : ℕ → List ℕ) (Left : (ℕ → List ℕ) → Type 0)
    → (two : AreTwo begun s (take (suc begun) events) (take (suc begun) answers) Left) → StandsFor image found
    → (found ≡ reopened two.one) ⊎ (found ≡ reopened two.two)
    → IsPrefix s (take (begun + 1) events) (take (begun + 1) answers) begun found
found_of begun s found events answers image Left two stands which =
    let next : suc begun ≡ begun + 1 = omega arith in
    let es = take (suc begun) events in
    let rs = take (suc begun) answers in
    subst (λ (n : ℕ). IsPrefix s (take n events) (take n answers) begun found) next
    (⊎_elim
    (λ is. subst (IsPrefix s es rs begun) (sym is) (prefix_from begun s es rs two.one
    (sound_of image two.one (subst (StandsFor image) is stands)) two.first))
    (λ is. subst (IsPrefix s es rs begun) (sym is) (prefix_from begun s es rs two.two
    (sound_of image two.two (subst (StandsFor image) is stands)) two.second))
    which)
