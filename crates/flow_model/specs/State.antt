-- What an archive is: its manifest, what its files hold, and what it is about to do.
use Rattle.std.specs.Prelude.{ℕ, ◌+◌, Bool, false, List, [], ◌∷◌, ◌++◌, length, Option, None}
use Rattle.flow_gate.specs.Gate.{octet_sum}
use Rattle.flow_manifest.specs.declared.following.JobKind.{JobKind}
use Rattle.flow_manifest.specs.declared.manifest.Manifest.{Manifest}
use Rattle.flow_manifest.specs.Following.{active_of, active_entry, next_manifest}

-- One file of an archive: the octets before its messages (`front`), and the messages. The `front` of a segment is its
-- prefix; a rolled or wide file has no messages, and is all `front`.
pub record Part : Type 0 where
  pub front : List ℕ
  pub messages : List (List ℕ)

-- a file that a job has made, and that no manifest names yet
pub record StagedFile : Type 0 where
  pub file : ℕ
  pub octets : List ℕ

-- A job sums so many files, the oldest ones of its kind: how many of them have been read, and what it has made of them.
pub record Job : Type 0 where
  pub kind : JobKind
  pub sources : ℕ
  pub read : ℕ
  pub staged : Option StagedFile

-- The manifest in force, the files that it names in their order, and the active one, which it names last. The number of
-- the next new file is past the one that the manifest names where a job has staged a file. Files that wait for their
-- removal aren't named any more, the oldest first. An archive is shared once a directory of it was taken.
pub record State : Type 0 where
  pub manifest : Manifest
  pub parts : List Part
  pub active : Part
  pub next : ℕ
  pub job : Option Job
  pub waiting : List ℕ
  pub shared : Bool

-- what is left of it on a disk
abbrev pub reopened : State → State
reopened s = record s { next = s.manifest.next; job = None; waiting = []; shared = false }

-- a state with nothing under way
abbrev pub at_rest : Manifest → List Part → Part → State
at_rest m parts active = record {
  manifest = m;
  parts = parts;
  active = active;
  next = m.next;
  job = None;
  waiting = [];
  shared = false;
}

-- the end of the active segment's messages, where its closed gate is
abbrev pub end_of : State → ℕ
end_of s = (active_of s.manifest).prefix + octet_sum s.active.messages

-- ---- events

-- these messages appended to the active segment
abbrev pub appended : State → List (List ℕ) → State
appended s more = record s { active = record { front = s.active.front; messages = s.active.messages ++ more } }

-- the active segment sealed, and a new one with this prefix
abbrev pub after_seal : State → List ℕ → State
after_seal s prefix =
    record s {
      manifest = next_manifest s.manifest (end_of s) (length s.active.messages) s.next (length prefix);
      parts = s.parts ++ s.active ∷ [];
      active = record { front = prefix; messages = [] };
      next = s.next + 1;
    }

-- ---- a new archive

-- an active segment without prefix, in file 3, and nothing else
abbrev pub first_manifest : ℕ → ℕ → ℕ → ℕ → Manifest
first_manifest generation width wide limit = record {
  generation = generation;
  width = width;
  wide = wide;
  limit = limit;
  next = 4;
  rolled = 0;
  second = 0;
  entries = active_entry 3 0 ∷ [];
}

abbrev pub empty_state : ℕ → ℕ → ℕ → State
empty_state width wide limit = record {
  manifest = first_manifest 1 width wide limit;
  parts = [];
  active = record { front = []; messages = [] };
  next = 4;
  job = None;
  waiting = [];
  shared = false;
}
