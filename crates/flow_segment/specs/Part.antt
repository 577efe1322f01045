-- Reading the messages of a part, some octets ahead.
use Rattle.std.specs.Prelude.{◌≡◌, ⊤, ℕ, ◌+◌, ◌-◌, ◌<◌, ◌≤◌, Bool, true, false, List, [], ◌∷◌, ◌++◌, length, take}
use Rattle.std.specs.Prelude.{drop, Result, Ok, Err}
use Rattle.flow_disk.specs.Window.{Window, fed}
use Rattle.flow_refusals.specs.declared.read_refusal.ReadRefusal.{ReadRefusal}
use Rattle.flow_refusals.specs.declared.read_refusal.ReadRefusal.TheVariants.{Damaged, Fault, OutOfMemory}
use Rattle.flow_codec.specs.declared.file.FileError.{FileError}
use Rattle.flow_codec.specs.Cutting.{IsCutOff, IsFileFault}

-- a step over octets that are ready
abbrev pub IsHeld : ℕ → Window → Result Bool ReadRefusal → Window → Type 0
IsHeld file old (Ok true) new = IsCutOff new.held × (old.ahead ≡ new.held ++ new.ahead)
    × (new.place ≡ old.place + length new.held) × (new.end ≡ old.end)
IsHeld file old (Ok false) new = (old.place ≡ old.end) × (new ≡ fed old old.ahead)
IsHeld file old (Err (Damaged f at)) new =
    (f ≡ file) × (at ≡ old.place) × ((fault : FileError) × IsFileFault old.place old.ahead fault)
    × (new ≡ fed old old.ahead)
IsHeld file old (Err e) new = ⊥

-- How far a step goes, whatever the octets: by those of a message, at most to the part's end.
abbrev pub Moves : Window → Result Bool ReadRefusal → Window → Type 0
Moves old (Ok true) new =
    (16 ≤ length new.held) × (length new.held < 65536) × (new.place ≡ old.place + length new.held)
    × (new.place ≤ new.end)
Moves old (Ok false) new = (old.place ≡ old.end) × (new.place ≡ old.place)
Moves old (Err e) new = new.place ≡ old.place

-- What is held after a step, whatever the octets: nothing at the part's end or where the octets are no message, and
-- after another refusal what was held.
abbrev pub Holds : Window → Result Bool ReadRefusal → Window → Type 0
Holds old (Ok true) new = ⊤
Holds old (Ok false) new = new.held ≡ []
Holds old (Err (Damaged f at)) new = new.held ≡ []
Holds old (Err Fault) new = new.held ≡ old.held
Holds old (Err OutOfMemory) new = new.held ≡ old.held

-- the octets of the part from the next message on
abbrev pub rest_of : List ℕ → Window → List ℕ
rest_of octets c = take (c.end - c.place) (drop c.place octets)

-- A step over a file with these octets: the next message is held, or the part is at its end, or it is damaged at this
-- place, or a read failed.
abbrev pub IsPartStep : List ℕ → ℕ → Window → Result Bool ReadRefusal → Window → Type 0
IsPartStep octets file old (Ok true) new =
    IsCutOff new.held × (rest_of octets old ≡ new.held ++ rest_of octets new) × (new.end ≡ old.end)
IsPartStep octets file old (Ok false) new = (rest_of octets old ≡ []) × (new.place ≡ old.place) × (new.end ≡ old.end)
IsPartStep octets file old (Err (Damaged f at)) new =
    (f ≡ file) × (at ≡ old.place) × ((fault : FileError) × IsFileFault old.place (rest_of octets old) fault)
    × (new.place ≡ old.place) × (new.end ≡ old.end)
IsPartStep octets file old (Err Fault) new = new ≡ old
IsPartStep octets file old (Err OutOfMemory) new = new ≡ old

-- what a reader gives from here on to the part's end, over a file with these octets
abbrev pub Gives : List ℕ → ℕ → Window → List (List ℕ) → Window → Type 0
Gives octets file c [] last = IsPartStep octets file c (Ok false) last
Gives octets file c (m ∷ ms) last = (next : Window) × IsPartStep octets file c (Ok true) next × (next.held ≡ m)
    × Gives octets file next ms last
