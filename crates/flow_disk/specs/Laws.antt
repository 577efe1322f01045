-- Laws that hold of every honest disk, whatever the device.
use Rattle.std.specs.Prelude.{◌≡◌, ℕ, ◌<◌, ◌≤◌, false, IsTrue, List, [], ◌∷◌, length, take, get_or}
use Rattle.flow_disk.specs.Disk.{Held, IsImage, ComesOf, touched_at, loosened_at, put_at}
use Rattle.flow_disk.specs.declared.disk.Disk.{Ghosts}
use Rattle.flow_disk.specs.Calls.{LeavesOnly}
use Rattle.flow_disk.specs.Moments.{Elapses, Covers}

-- Two runs compose: where a stop in the first leaves what one step makes, and a stop in the second what another step
-- makes, a stop in both together leaves what the first step makes, or both in turn.
abbrev pub RunsCompose : {D S X : Type 0} → Ghosts D S X
    → (first second whole : (ℕ → List ℕ) → (ℕ → List ℕ) → Type 0) → Type 0
RunsCompose {D} g first second whole = (old middle new : D) → IsTrue (g.honest middle)
    → LeavesOnly g old middle (ComesOf (g.held old) first)
    → LeavesOnly g middle new (ComesOf (g.held middle) second)
    → ((a b : ℕ → List ℕ) → first a b → whole a b)
    → ((a b c : ℕ → List ℕ) → first a b → second b c → whole a c)
    → LeavesOnly g old new (ComesOf (g.held old) whole)

-- A call inside which a stop leaves only the images from before is among the moments too.
abbrev pub QuietCallsCovered : {D S X : Type 0} → Ghosts D S X → Type 0
QuietCallsCovered {D} g = (old new : D) → IsTrue (g.honest old)
    → Elapses (g.moment old) (g.moment new) (g.left_since old) (g.left_since new) (g.held old)
    → Covers (g.moment old) (g.left_since new) (g.held old)

-- a file with one image, what it reads as
pub record IsAlone (file : Held) : Type 0 where
  pub reads : IsImage file file.reads
  pub alone : (image : List ℕ) → IsImage file image → image ≡ file.reads

-- Such a file is fast to its end.
abbrev pub AloneIsFast : Type 0
AloneIsFast = (file : Held) → IsAlone file → (file.fast ≡ length file.reads) × (file.loose ≡ false)

-- Below the place of a write, what a stop leaves is what it could leave before.
abbrev pub WriteKeepsFront : Type 0
WriteKeepsFront = (file : Held) (at count bound : ℕ) (reads image : List ℕ) → bound ≤ at → bound ≤ file.fast
    → file.fast ≤ length file.last
    → IsImage (touched_at file at count reads) image → (before : List ℕ) × IsImage file before
    × (take bound before ≡ take bound image)

-- The same below a cut.
abbrev pub CutKeepsFront : Type 0
CutKeepsFront = (file : Held) (count bound : ℕ) (reads image : List ℕ) → bound ≤ count → bound ≤ file.fast
    → file.fast ≤ length file.last
    → IsImage (loosened_at file count reads) image → (before : List ℕ) × IsImage file before
    × (take bound before ≡ take bound image)

-- A write of one octet into a file with one image leaves that image with some octet at the place.
abbrev pub OneOctetDiffers : Type 0
OneOctetDiffers = (file : Held) (at : ℕ) (reads image : List ℕ) → IsAlone file → at < length file.reads
    → IsImage (touched_at file at 1 reads) image → image ≡ put_at file.reads at (get_or image at 0 ∷ [])
