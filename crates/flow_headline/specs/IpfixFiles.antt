-- What an archive's files are to others: IPFIX Files (RFC 5655).
use Rattle.std.specs.Prelude.{ℕ, List, [], ◌∷◌, ◌++◌, map, take}
use Rattle.flow_codec.specs.Cutting.{IsDivided}
use Rattle.flow_codec.specs.File.{IsFile}
use Rattle.flow_codec.specs.Templates.{AllTemplates}
use Rattle.flow_manifest.specs.declared.manifest.Entry.{Entry}
use Rattle.flow_manifest.specs.declared.manifest.Kind.{Kind}
use Rattle.flow_manifest.specs.declared.manifest.Kind.TheVariants.{Wide, Rolled, Sealed, Active}
use Rattle.flow_manifest.specs.declared.manifest.Manifest.{Manifest}
use Rattle.flow_manifest.specs.Following.{active_of, front_of}
use Rattle.flow_measure.specs.History.{read_from, templates_of}
use Rattle.flow_measure.specs.Sums.{Table}
use Rattle.flow_rolled.specs.AsFile.{messages_of}
use Rattle.flow_rolled.specs.Rollup.{IsRollup, table_messages}
use Rattle.flow_segment.specs.Prefix.{HaveNoRecords}
use Rattle.flow_model.specs.Standing.{StandsFor}
use Rattle.flow_model.specs.State.{Part, State, end_of}

-- The octets are an IPFIX File of these messages and no others: each is cut off by its Length, and is what is read of
-- it after those before it.
pub record IsIpfixFile (octets : List ℕ) (messages : List (List ℕ)) : Type 0 where
  pub divided : IsDivided octets messages []
  pub file : IsFile octets (map (λ a. a.message) (read_from [] messages)) (templates_of (read_from [] messages))

-- of the messages that a segment's prefix is divided into, which have no data records, and then of its own
pub record IsSegmentFile (octets : List ℕ) (part : Part) : Type 0 where
  pub prefix : List (List ℕ)
  pub divided : IsDivided part.front prefix []
  pub restated : HaveNoRecords (read_from [] prefix)
  pub file : IsIpfixFile octets (prefix ++ part.messages)

-- of the messages of a table of sums
pub record IsSumsFile (width : ℕ) (octets : List ℕ) : Type 0 where
  pub table : Table
  pub rollup : IsRollup width octets table
  pub after : AllTemplates
  pub file : IsFile octets (messages_of table.width (table_messages table rollup.time)) after

-- by the kind of a file's entry
abbrev pub IsFileAs : Manifest → Kind → List ℕ → Part → Type 0
IsFileAs m Wide octets part = IsSumsFile m.wide octets
IsFileAs m Rolled octets part = IsSumsFile m.width octets
IsFileAs m Sealed octets part = IsSegmentFile octets part
IsFileAs m Active octets part = ⊥

-- Each of these files is one: its first octets, as many as its entry says.
abbrev pub AreFilesAs : Manifest → (ℕ → List ℕ) → List Entry → List Part → Type 0
AreFilesAs m image [] [] = Unit {0}
AreFilesAs m image [] (part ∷ parts) = ⊥
AreFilesAs m image (entry ∷ entries) [] = ⊥
AreFilesAs m image (entry ∷ entries) (part ∷ parts) =
    IsFileAs m entry.kind (take entry.length (image entry.file)) part × AreFilesAs m image entries parts

-- Where an image represents a state, each file before the active one is an IPFIX File, and the active one is up to the
-- end of its messages.
abbrev pub FilesAreIpfix : Type 0
FilesAreIpfix = (image : ℕ → List ℕ) (s : State) → StandsFor image s
    → AreFilesAs s.manifest image (front_of s.manifest) s.parts
    × IsSegmentFile (take (end_of s) (image (active_of s.manifest).file)) s.active
