-- How rolling beside those who append ends.
use Rattle.std.proofs.Common.{inl, inr, ◌≡◌, ◌∷◌, ℕ, List, length, map, ap, sym, subst, ◌∙◌}
use Rattle.std.proofs.lemmas.List.{length-map}
use Rattle.std.specs.Prelude.{Result, Ok, Err, IsErrAnd}
use Rattle.std.specs.List.{AllByRecursion}
use Rattle.flow_archive.specs.declared.refusal.ArchiveError.{ArchiveError}
use Rattle.flow_disk.specs.declared.disk.Disk.{Ghosts}
use Rattle.flow_model.specs.Shelf.{Shelf}
use Rattle.flow_turns.specs.declared.turn.Turn.{Turn}
use Rattle.flow_turns.specs.declared.turn.Turn.TheVariants.{Idle}
use Rattle.flow_roller.specs.Asked.{Asked}
use Rattle.flow_roller.specs.Rolling.{IsRound, IsTurnRefused, RollsBeside, Round}

-- a turn was refused
pub stopped : {D S X R : Type 0} (g : Ghosts D S X) (opening : Shelf) (asked : Asked → Type 0) (rounds : List Round)
    (e : ArchiveError) (result : Result R ArchiveError) → IsErrAnd result (λ x. x ≡ e)
    → AllByRecursion (IsRound g opening asked) rounds → IsTurnRefused g opening asked e
    → RollsBeside g opening asked rounds result
stopped g opening asked rounds e (Ok x) is made turn = absurd is
stopped g opening asked rounds e (Err x) is made turn = record {
  made = made;
  done = tt;
  refused = subst (IsTurnRefused g opening asked) (sym is) turn;
}

-- the last turn of the newest round had nothing to do
pub idle : {D S X R : Type 0} (g : Ghosts D S X) (opening : Shelf) (asked : Asked → Type 0) (round : Round)
    (rounds : List Round) (r : R) → round.last ≡ Idle → IsRound g opening asked round
    → AllByRecursion (IsRound g opening asked) rounds
    → RollsBeside {R = R} g opening asked (round ∷ rounds) (Ok r)
idle g opening asked round rounds r is one made = record {
  made = (one, made);
  done = inl (
    map (λ (round : Round). round.last) rounds,
    ap (λ (t : Turn). t ∷ map (λ (round : Round). round.last) rounds) is,
  );
  refused = tt;
}

-- as many rounds were made as are made at most
pub most : {D S X R : Type 0} (g : Ghosts D S X) (opening : Shelf) (asked : Asked → Type 0) (rounds : List Round)
    (r : R) → length rounds ≡ 18446744073709551615 → AllByRecursion (IsRound g opening asked) rounds
    → RollsBeside {R = R} g opening asked rounds (Ok r)
most g opening asked rounds r is made = record {
  made = made;
  done = inr (length-map rounds (λ (round : Round). round.last) ∙ is);
  refused = tt;
}
