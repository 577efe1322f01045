-- When the flows of an archive's files start.
use Rattle.std.specs.Prelude.{ℕ, List, [], ◌∷◌}
use Rattle.flow_manifest.specs.declared.manifest.Kind.{Kind}
use Rattle.flow_manifest.specs.declared.manifest.Kind.TheVariants.{Wide, Rolled, Sealed, Active}
use Rattle.flow_manifest.specs.declared.manifest.Entry.{Entry}
use Rattle.flow_manifest.specs.declared.manifest.Manifest.{Manifest}
use Rattle.flow_measure.specs.declared.span.PartSpan.{PartSpan}
use Rattle.flow_rolled.specs.Spans.{HasSpan}
use Rattle.flow_segment.specs.Spans.{IsOwnSpan}
use Rattle.flow_model.specs.Standing.{StandsAs}
use Rattle.flow_model.specs.State.{Part}

-- The span of a file before the active one: of a segment, or of the intervals that a file of sums has.
abbrev pub IsSpanOf : Manifest → Kind → Part → PartSpan → Type 0
IsSpanOf m Wide part span = HasSpan (record { width = m.wide; span = span }) part.front
IsSpanOf m Rolled part span = HasSpan (record { width = m.width; span = span }) part.front
IsSpanOf m Sealed part span = IsOwnSpan part.front part.messages span
IsSpanOf m Active part span = ⊥

-- one for each of these files, as an image holds them
abbrev pub AreSpansOf : (ℕ → List ℕ) → Manifest → List Entry → List PartSpan → Type 0
AreSpansOf image m [] [] = Unit {0}
AreSpansOf image m [] (span ∷ spans) = ⊥
AreSpansOf image m (entry ∷ entries) [] = ⊥
AreSpansOf image m (entry ∷ entries) (span ∷ spans) =
    ((part : Part) → StandsAs entry.kind (image entry.file) entry part → IsSpanOf m entry.kind part span)
    × AreSpansOf image m entries spans
