-- The manifests that follow a valid one.
use Rattle.std.specs.Prelude.{ℕ, ◌+◌, ◌-◌, ◌==◌, nat_lt, List, [], ◌∷◌, ◌++◌, length, take, drop, get_or}
use Rattle.std.specs.List.{count_by, sum_by}
use Rattle.flow_manifest.specs.declared.manifest.Kind.{Kind}
use Rattle.flow_manifest.specs.declared.manifest.Kind.TheVariants.{Wide, Rolled, Sealed, Active}
use Rattle.flow_manifest.specs.declared.manifest.Entry.{Entry}
use Rattle.flow_manifest.specs.declared.manifest.Manifest.{Manifest}
use Rattle.flow_manifest.specs.declared.following.JobKind.{JobKind}
use Rattle.flow_manifest.specs.declared.following.JobKind.TheVariants.{Roll, Merge}
use Rattle.flow_manifest.specs.declared.following.Staged.{Staged}
use Rattle.flow_manifest.specs.Manifest.{rank}

-- how many messages entries represent
abbrev pub messages_of : List Entry → ℕ
messages_of entries = sum_by (λ e. e.messages) entries

-- ---- a seal

-- what is read where there is no entry
abbrev pub no_entry : Entry
no_entry = record { kind = Wide; prefix = 0; file = 0; length = 0; messages = 0 }

-- the last entry, which is that of the active segment
abbrev pub active_of : Manifest → Entry
active_of m = get_or m.entries (length m.entries - 1) no_entry

-- and those before it
abbrev pub front_of : Manifest → List Entry
front_of m = take (length m.entries - 1) m.entries

-- the active segment once it is sealed, with so many octets and messages
abbrev pub sealed_entry : Entry → ℕ → ℕ → Entry
sealed_entry active end count =
    record { kind = Sealed; prefix = active.prefix; file = active.file; length = end; messages = count }

-- a new active segment
abbrev pub active_entry : ℕ → ℕ → Entry
active_entry file prefix = record { kind = Active; prefix = prefix; file = file; length = 0; messages = 0 }

-- The active segment is sealed, and a new file is the active one. The number after that file's is the next one.
abbrev pub next_manifest : Manifest → ℕ → ℕ → ℕ → ℕ → Manifest
next_manifest m end count file prefix =
    record m {
      generation = m.generation + 1;
      next = file + 1;
      entries = front_of m ++ sealed_entry (active_of m) end count ∷ active_entry file prefix ∷ [];
    }

-- ---- an install

-- what a job sums: a roll sealed segments, a merge rolled files
abbrev pub source_of : JobKind → Kind
source_of Roll = Sealed
source_of Merge = Rolled

-- and what it makes of them
abbrev pub made_of : JobKind → Kind
made_of Roll = Rolled
made_of Merge = Wide

-- how many entries are of a kind
abbrev pub count_of : Kind → List Entry → ℕ
count_of kind entries = count_by (λ e. rank e.kind == rank kind) entries

-- how many come before those of a kind
abbrev pub count_before : Kind → List Entry → ℕ
count_before kind entries = count_by (λ e. nat_lt (rank e.kind) (rank kind)) entries

-- the sources of a job: so many of its kind, the oldest
abbrev pub sources_of : JobKind → ℕ → List Entry → List Entry
sources_of job count entries = take count (drop (count_before (source_of job) entries) entries)

-- the entry of the file that a job has made of its sources, with the count of their messages
abbrev pub made_entry : JobKind → Staged → List Entry → Entry
made_entry job staged sources =
    record {
      kind = made_of job;
      prefix = 0;
      file = staged.file;
      length = staged.length;
      messages = messages_of sources;
    }

-- it takes the place of its sources
abbrev pub installed_entries : JobKind → ℕ → Staged → List Entry → List Entry
installed_entries job count staged entries =
    take (count_before (source_of job) entries) entries ++
    made_entry job staged (sources_of job count entries) ∷
    drop (count_before (source_of job) entries + count) entries

-- a roll adds the messages of its sources to the cut,
abbrev pub cut_by : JobKind → ℕ → ℕ
cut_by Roll messages = messages
cut_by Merge messages = 0

-- and a merge to the second cut
abbrev pub second_cut_by : JobKind → ℕ → ℕ
second_cut_by Roll messages = 0
second_cut_by Merge messages = messages

-- The file that a job has made is installed for so many sources, and the next file's number is named.
abbrev pub installed_manifest : Manifest → JobKind → ℕ → Staged → ℕ → Manifest
installed_manifest m job count staged next =
    record m {
      generation = m.generation + 1;
      next = next;
      rolled = m.rolled + cut_by job (messages_of (sources_of job count m.entries));
      second = m.second + second_cut_by job (messages_of (sources_of job count m.entries));
      entries = installed_entries job count staged m.entries;
    }
