-- Runs whose answers are heard.
use Rattle.std.proofs.Common.{ℕ, zero, suc, ◌≤◌, true, List, [], ◌∷◌, ◌++◌, take, drop, Result, refl}
use Rattle.std.proofs.Common.{subst, arith}
use Rattle.flow_disk.specs.declared.disk.Disk.{Ghosts}
use Rattle.flow_archive.specs.declared.event.Answer.{Answer}
use Rattle.flow_archive.specs.declared.event.Event.{Event}
use Rattle.flow_archive.specs.declared.refusal.ArchiveError.{ArchiveError}
use Rattle.flow_archive.specs.Answers.{Answers, Takes}
use Rattle.flow_archive.specs.Runs.{IsRun}
use Rattle.flow_archive.specs.Seen.{IsStep, Seen}
use Rattle.flow_headline.specs.Front.{AreMoments}
use Rattle.flow_headline.specs.Heard.{AreHeard, HasHeard, Heard, answers_of, moment_in}

-- one answer more
pub one_more_heard : {D L : Type 0} (hears : L → Seen D → Result Answer ArchiveError → L → Type 0) (old mid : L)
    (heard : List (Heard D L)) (h : Heard D L) → HasHeard hears old heard mid
    → hears mid h.archive h.answer h.listener → HasHeard hears old (heard ++ h ∷ []) h.listener
one_more_heard hears old mid [] h so_far is =
    (subst (λ l. hears l h.archive h.answer h.listener) so_far is, refl)
one_more_heard hears old mid (k ∷ heard) h so_far is =
    (so_far.0, one_more_heard hears k.listener mid heard h so_far.1 is)

module _ {D S X L : Type 0} (g : Ghosts D S X) where
  -- one event more
  pub heard_more : (old : Seen D) (events : List Event) (heard : List (Heard D L)) (mid : Seen D) (e : Event)
      (h : Heard D L) → AreHeard g old events heard mid
      → Answers (g.honest mid.disk) mid.closed mid.state e h.answer h.archive.state
      → IsStep g mid h.archive (Takes true mid.state e) h.answer
      → AreHeard g old (events ++ e ∷ []) (heard ++ h ∷ []) h.archive
  heard_more old [] [] mid e h run told step = (
    subst (λ (s : Seen D). Answers (g.honest s.disk) s.closed s.state e h.answer h.archive.state) run told,
    subst (λ (s : Seen D). IsStep g s h.archive (Takes true s.state e) h.answer) run step,
    refl,
  )
  heard_more old [] (k ∷ heard) mid e h run told step = absurd run
  heard_more old (f ∷ events) [] mid e h run told step = absurd run
  heard_more old (f ∷ events) (k ∷ heard) mid e h run told step =
      (run.0, run.1, heard_more k.archive events heard mid e h run.2 told step)

  run_before : (i : ℕ) (old : Seen D) (events : List Event) (heard : List (Heard D L)) (new : Seen D)
      → AreHeard g old events heard new
      → IsRun g old (take i events) (take i (answers_of heard)) (moment_in old heard i)
  run_before zero old events heard new run = refl
  run_before (suc i) old [] [] new run = refl
  run_before (suc i) old [] (h ∷ heard) new run = absurd run
  run_before (suc i) old (e ∷ events) [] new run = absurd run
  run_before (suc i) old (e ∷ events) (h ∷ heard) new run =
      (h.archive, run.0, run.1, run_before i h.archive events heard new run.2)

  run_between : (i j : ℕ) (old : Seen D) (events : List Event) (heard : List (Heard D L)) (new : Seen D) → i ≤ j
      → AreHeard g old events heard new
      → IsRun g (moment_in old heard i) (drop i (take j events)) (drop i (take j (answers_of heard)))
      (moment_in old heard j)
  run_between zero j old events heard new le run = run_before j old events heard new run
  run_between (suc i) zero old events heard new le run = absurd (omega (arith, le))
  run_between (suc i) (suc j) old [] [] new le run = refl
  run_between (suc i) (suc j) old [] (h ∷ heard) new le run = absurd run
  run_between (suc i) (suc j) old (e ∷ events) [] new le run = absurd run
  run_between (suc i) (suc j) old (e ∷ events) (h ∷ heard) new le run =
      run_between i j h.archive events heard new (omega (arith, le)) run.2

  run_after : (i : ℕ) (old : Seen D) (events : List Event) (heard : List (Heard D L)) (new : Seen D)
      → AreHeard g old events heard new
      → IsRun g (moment_in old heard i) (drop i events) (drop i (answers_of heard)) new
  run_after zero old [] [] new run = run
  run_after zero old [] (h ∷ heard) new run = absurd run
  run_after zero old (e ∷ events) [] new run = absurd run
  run_after zero old (e ∷ events) (h ∷ heard) new run =
      (h.archive, run.0, run.1, run_after 0 h.archive events heard new run.2)
  run_after (suc i) old [] [] new run = run
  run_after (suc i) old [] (h ∷ heard) new run = absurd run
  run_after (suc i) old (e ∷ events) [] new run = absurd run
  run_after (suc i) old (e ∷ events) (h ∷ heard) new run = run_after i h.archive events heard new run.2

  pub moments_heard : (old : Seen D) (events : List Event) (heard : List (Heard D L)) (new : Seen D)
      → AreHeard g old events heard new → AreMoments g old new events (answers_of heard) (moment_in old heard)
  moments_heard old events heard new run = record {
    before = λ i. run_before i old events heard new run;
    between = λ i j le. run_between i j old events heard new le run;
    after = λ i. run_after i old events heard new run;
  }
