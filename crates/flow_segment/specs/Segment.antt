-- A sealed segment's part of its file, and the messages that are read from it.
use Rattle.std.specs.Prelude.{◌≡◌, ◌≢◌, ◌⊎◌, ⊤, ℕ, ◌+◌, ◌-◌, ◌<◌, ◌≤◌, Bool, List, [], ◌++◌, length, take}
use Rattle.std.specs.Prelude.{drop, Vec}
use Rattle.std.specs.Prelude.{Option, Some, None, Result, Ok, Err}
use Rattle.std.specs.declared.alloc.Global.{Global}
use Rattle.flow_disk.specs.Window.{Window}
use Rattle.flow_refusals.specs.declared.read_refusal.ReadRefusal.{ReadRefusal}
use Rattle.flow_refusals.specs.declared.read_refusal.ReadRefusal.TheVariants.{Damaged, Fault, OutOfMemory}
use Rattle.flow_gate.specs.Scan.{texts}
use Rattle.flow_codec.specs.declared.file.FileError.{FileError}
use Rattle.flow_codec.specs.Message.{joined}
use Rattle.flow_codec.specs.Cutting.{IsCutOff, IsDivided, IsFileFault}
use Rattle.flow_segment.specs.Part.{rest_of}

-- How far a reader has come: the place of the next message, the part's end, and, if the disk is honest, the octets of
-- the file between them.
pub record Reading : Type 0 where
  pub file : ℕ
  pub honest : Bool
  pub rest : List ℕ
  pub place : ℕ
  pub end : ℕ

abbrev pub reading : ℕ → Bool → List ℕ → Window → Reading
reading file honest octets c =
    record { file = file; honest = honest; rest = rest_of octets c; place = c.place; end = c.end }

-- On an honest disk: the next message, or none at the part's end; or the place where the octets are no message.
abbrev pub IsNext : Reading → Result (Option (Vec ℕ Global)) ReadRefusal → Reading → Type 0
IsNext old (Ok (Some message)) new = IsCutOff message.items × (old.rest ≡ message.items ++ new.rest)
IsNext old (Ok None) new = old.rest ≡ []
IsNext old (Err (Damaged file at)) new =
    (file ≡ old.file) × (at ≡ old.place) × ((fault : FileError) × IsFileFault old.place old.rest fault)
IsNext old (Err Fault) new = ⊤
IsNext old (Err OutOfMemory) new = ⊤

-- On every disk: a message more, or all as it was.
abbrev pub GoesOn : Reading → Result (Option (Vec ℕ Global)) ReadRefusal → Reading → Type 0
GoesOn old (Ok (Some message)) new =
    (16 ≤ length message.items) × (length message.items < 65536) × (new.place ≡ old.place + length message.items)
    × (new.place ≤ new.end) × (new.end ≡ old.end) × (new.file ≡ old.file) × (new.honest ≡ old.honest)
GoesOn old (Ok None) new = (old.place ≡ old.end) × (new ≡ old)
GoesOn old (Err e) new = new ≡ old

-- ---- the messages of a part

-- the octets of a file's part
abbrev pub part_octets : ℕ → ℕ → List ℕ → List ℕ
part_octets prefix end octets = take (end - prefix) (drop prefix octets)

-- messages that fill octets, so many
pub record AreMessagesOf (octets : List ℕ) (count : ℕ) (messages : List (List ℕ)) : Type 0 where
  pub divided : IsDivided octets messages []
  pub all : length messages ≡ count

-- Why a part isn't so many messages: after some of them none begins at this place, or there is another count of them.
abbrev pub IsToldOf : List ℕ → ℕ → ℕ → ℕ → ℕ → ReadRefusal → Type 0
IsToldOf octets number prefix end count (Damaged file at) =
    (file ≡ number) × (messages : List (List ℕ)) × (rest : List ℕ) × IsDivided octets messages rest
    × (((at ≡ prefix + length (joined messages)) × ((fault : FileError) × IsFileFault at rest fault))
    ⊎ ((at ≡ end) × (rest ≡ []) × (length messages ≢ count)))
IsToldOf octets number prefix end count Fault = ⊤
IsToldOf octets number prefix end count OutOfMemory = ⊤

-- These messages are given, unless a read fails or memory runs out.
abbrev pub AreGiven : List (List ℕ) → Result (Vec (Vec ℕ Global) Global) ReadRefusal → Type 0
AreGiven list (Ok messages) = texts messages.items ≡ list
AreGiven list (Err (Damaged file at)) = ⊥
AreGiven list (Err Fault) = ⊤
AreGiven list (Err OutOfMemory) = ⊤
