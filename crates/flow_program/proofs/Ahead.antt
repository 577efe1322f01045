-- Archives whose folders are opened ahead of their turn.
use Rattle.std.proofs.Common.{◌≡◌, ◌∙◌, ℕ, ◌+◌, ◌<◌, ◌≤◌, Bool, List, [], ◌∷◌, length, take, drop, get_or, Vec}
use Rattle.std.proofs.Common.{inl, inr, refl, sym, ap, subst, arith}
use Rattle.std.specs.Borrow.{Bor}
use Rattle.std.specs.List.{AllZip}
use Rattle.std.specs.Prelude.{Result, Ok, Err, IfOk}
use Rattle.std.specs.declared.alloc.AllocError.{AllocError}
use Rattle.std.proofs.Math.ListN.{get_or-map}
use Rattle.std.proofs.lemmas.List.{drop_more, length-map, length-take, take-map, take-take}
use Rattle.std.proofs.lemmas.Result.{IfOk-at_ok}
use Rattle.flow_commands.specs.declared.archive_refusal.ArchiveRefusal.{ArchiveRefusal}
use Rattle.flow_disk.specs.declared.disk.Disk.{Ghosts}
use Rattle.flow_folder.specs.declared.system.FolderError.{FolderError}
use Rattle.flow_several.proofs.Opened.{no_path, paths_of}
use Rattle.flow_several.specs.Folders.{Path}
use Rattle.flow_several.specs.SideBySide.{Awaits, IsNext}
use Rattle.flow_several.proofs.Taking.{of_none}
use Rattle.flow_program.specs.Checks.{IsOutcome, Outcome}
use Rattle.flow_program.specs.SideBySide.{outcome_of, AreAhead, IsAnswerOf, IsOpened}

module _ {D S X : Type 0} (g : Ghosts D S X) (opens : Path → D → Type 0) (refuses : Path → FolderError → Type 0)
    (files : Bool) where
  -- ---- one folder

  pub outcome_is : (path : Path) (folder : Result D FolderError) (o : Outcome) → IsOpened opens refuses path folder
      → IsAnswerOf g files folder o → IsOutcome g opens refuses files path o
  outcome_is path (Ok d) (Ok text) is (lines, cause, told) = (lines, (d, is, cause, told))
  outcome_is path (Ok d) (Err e) is (cause, told) = inr (d, is, cause, told)
  outcome_is path (Err why) o refused is =
      subst (IsOutcome g opens refuses files path) (sym is) (inl (why, refused, refl))

  module _ {A : Type 0} (answers : List (Result (Vec ℕ A) ArchiveRefusal)) (left : List (Result D FolderError)) where
    -- ---- several of them

    -- none was asked
    pub opened_ahead : (opened : List (Result D FolderError)) → answers ≡ [] → left ≡ opened → (folders : List Path)
        → AllZip (IsOpened opens refuses) (take (length opened) folders) opened
        → AreAhead g opens refuses files answers left folders
    opened_ahead opened none all folders each =
        (opened, each, of_none (λ folder answer. IsAnswerOf g files folder (outcome_of answer)) answers left opened none all)

    pub none_ahead : answers ≡ [] → left ≡ [] → (folders : List Path) → AreAhead g opens refuses files answers left folders
    none_ahead none empty folders = opened_ahead [] none empty folders tt

    -- the next one
    module _ (old : List (Result (Vec ℕ A) ArchiveRefusal)) (before : List (Result D FolderError))
        (asked : Result (Result (Vec ℕ A) ArchiveRefusal) AllocError) (answer : Result (Vec ℕ A) ArchiveRefusal)
        (is_answer : asked ≡ Ok answer) (next : IfOk asked (λ x. (all : List (Result D FolderError))
        → Awaits (λ folder answer. IsAnswerOf g files folder (outcome_of answer)) old before all
        → IsNext (λ folder answer. IsAnswerOf g files folder (outcome_of answer)) answers left all x))
        (path : Path) (later : List Path) (ahead : AreAhead g opens refuses files old before (path ∷ later)) where
      pub next_ahead : IsOutcome g opens refuses files path (outcome_of answer)
          × AreAhead g opens refuses files answers left later
      next_ahead =
          let (all, opened, waits) = ahead in
          let (own, rest, whole, is, more) = IfOk-at_ok (λ x. (all : List (Result D FolderError))
          → Awaits (λ folder answer. IsAnswerOf g files folder (outcome_of answer)) old before all
          → IsNext (λ folder answer. IsAnswerOf g files folder (outcome_of answer)) answers left all x) is_answer next
          all waits in
          let both : AllZip (IsOpened opens refuses) (take (length (own ∷ rest)) (path ∷ later)) (own ∷ rest) =
          subst (λ (all : List (Result D FolderError)). AllZip (IsOpened opens refuses)
          (take (length all) (path ∷ later)) all) whole opened in
          (outcome_is path own (outcome_of answer) both.0 is, (rest, both.1, more))

-- those that were opened of the first of some folders
pub opened_first : {D : Type 0} (is : Path → D → Type 0) (words some : List (Bor Path)) (most n : ℕ) (opened : List D)
    → some ≡ take most words → n ≤ length some → length opened ≡ n → AllZip is (take n (paths_of some)) opened
    → AllZip is (take (length opened) (paths_of words)) opened
opened_first is words some most n opened first within count each =
    let fits : n ≤ most = omega (arith, within, ap length first, length-take most words) in
    let whole : take n (paths_of some) ≡ take (length opened) (paths_of words) =
    ap (λ (ws : List (Bor Path)). take n (paths_of ws)) first
    ∙ ap (take n) (sym (take-map (λ (w : Bor Path). w.now) most words))
    ∙ take-take n most (paths_of words) fits
    ∙ ap (λ (k : ℕ). take k (paths_of words)) (sym count) in
    subst (λ (ps : List Path). AllZip is ps opened) whole each

-- the folder whose turn it is
pub turn_is : (words : List (Bor Path)) (n : ℕ) → n < length words
    → drop n (paths_of words) ≡ (get_or words n no_path).now ∷ drop (n + 1) (paths_of words)
turn_is words n within =
    let inside : n < length (paths_of words) =
    subst (λ (k : ℕ). n < k) (sym (length-map words (λ (w : Bor Path). w.now))) within in
    drop_more (paths_of words) n [] inside
    ∙ ap (λ (path : Path). path ∷ drop (n + 1) (paths_of words)) (get_or-map (λ (w : Bor Path). w.now) words n no_path)
