-- A part of a file that is read piece by piece.
use Rattle.std.specs.Prelude.{◌≡◌, ◌⊎◌, ℕ, ◌+◌, ◌≤◌, List, [], length, take, drop, Result, OnOk, OnErr}

-- the octets that were passed last, those that were read and are ahead, the place of the first of these in the file,
-- and the part's end
pub record Window : Type 0 where
  pub held : List ℕ
  pub ahead : List ℕ
  pub place : ℕ
  pub end : ℕ

-- with these octets ahead
abbrev pub fed : Window → List ℕ → Window
fed w ahead = record { held = []; ahead = ahead; place = w.place; end = w.end }

-- after so many of those ahead
abbrev pub passed : Window → ℕ → Window
passed w count = record { held = take count w.ahead; ahead = drop count w.ahead; place = w.place + count; end = w.end }

-- so many octets are ahead, or all up to the part's end
abbrev pub IsReady : ℕ → Window → Type 0
IsReady most w = (w.place + length w.ahead ≡ w.end) ⊎ (most ≤ length w.ahead)

-- the octets ahead are those of the file
abbrev pub IsOn : List ℕ → Window → Type 0
IsOn octets w = w.ahead ≡ take (length w.ahead) (drop w.place octets)

-- Where it was, after Ok with so many octets ahead; after a refusal as it was.
pub record IsFilled {T E : Type 0} (most : ℕ) (old new : Window) (result : Result T E) : Type 0 where
  pub place : new.place ≡ old.place
  pub end : new.end ≡ old.end
  pub ready : OnOk result (IsReady most new)
  pub kept : OnErr result (new ≡ old)
