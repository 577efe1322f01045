-- What a stop leaves while a batch is placed.
use Rattle.std.proofs.Common.{◌≡◌, ◌≢◌, ℕ, ◌+◌, ◌≤◌, IsTrue, Ok, List, length, take, refl, sym, ◌∙◌, subst, arith}
use Rattle.std.proofs.lemmas.List.{length-take-le}
use Rattle.flow_disk.specs.declared.disk.Disk.{Ghosts}
use Rattle.flow_disk.specs.Disk.{Held, IsImage, IsDiskImage, AllImages, ComesOf, InFile, changed, touched_at}
use Rattle.flow_disk.specs.Disk.{put_at}
use Rattle.flow_disk.specs.Moments.{Passes}
use Rattle.flow_disk.specs.Files.{Writes, Syncs, while_writing}
use Rattle.flow_disk.specs.Calls.{LeavesOnly}
use Rattle.flow_disk.proofs.Images.{IsBehind, same_front, least_image, behind_same, behind_then, behind_touched}
use Rattle.flow_disk.proofs.Images.{settled_one}
use Rattle.flow_disk.proofs.Calls.{comes, starts, changes, stays}
use Rattle.flow_gate.specs.Gate.{IsClosedAt, IsPlaced}
use Rattle.flow_gate.specs.Steps.{KeepsLists, Places}
use Rattle.flow_gate.proofs.Rows.{gated_front}

-- in each image there is room for the closed gate
pub gate_within : (file : Held) (end : ℕ) → file.fast ≤ length file.last
    → ((image : List ℕ) → IsImage file image → IsClosedAt image end) → end + 2 ≤ file.fast
gate_within file end whole gated =
    let closed = gated (take file.fast file.last) (least_image file whole) in
    omega (arith, closed.room, length-take-le file.fast file.last whole)

keeps : (end : ℕ) (before after : List ℕ) → take (end + 2) before ≡ take (end + 2) after → end + 2 ≤ length after
    → KeepsLists end before after
keeps end before after same long =
    record {
      front = sym same;
      lists =
          λ from list gated ends. gated_front end from before after list same long ends gated;
    }

-- an image of a file of which only octets after a closed gate were touched
kept : (old new : Held) (end : ℕ) → end + 2 ≤ old.fast → old.fast ≤ length old.last → IsBehind (end + 2) old new
    → (image : List ℕ) → IsImage new image → (before : List ℕ) × IsImage old before × KeepsLists end before image
kept old new end room whole behind image is =
    let found = same_front (end + 2) old new behind room whole image is in
    (found.0, found.1, keeps end found.0 image found.2 (omega (arith, is.long, behind.fast)))

-- the calls of `place_batch`, one after the other
module _ {D S X : Type 0} (g : Ghosts D S X) (start : D) (file end : ℕ) where
  -- a disk on which only octets after the gate differ from the start
  pub record IsUnderWay (now : D) : Type 0 where
    pub honest : IsTrue (g.honest now)
    pub room : end + 2 ≤ (g.held start file).fast
    pub whole : (g.held start file).fast ≤ length (g.held start file).last
    pub behind : IsBehind (end + 2) (g.held start file) (g.held now file)
    pub others : (n : ℕ) → n ≢ file → g.held now n ≡ g.held start n
    pub moments : LeavesOnly g start now (ComesOf (g.held start) (InFile file (KeepsLists end)))

  pub begins : IsTrue (g.honest start) → (g.held start file).fast ≤ length (g.held start file).last
      → ((image : List ℕ) → IsImage (g.held start file) image → IsClosedAt image end)
      → ((image : ℕ → List ℕ) → g.left_since start (g.moment start) image → IsDiskImage (g.held start) image)
      → IsUnderWay start
  begins h whole gated only =
      let room = gate_within (g.held start file) end whole gated in
      record {
        honest = h;
        room = room;
        whole = whole;
        behind = behind_same (end + 2) (g.held start file) room;
        others = λ n differs. refl;
        moments = starts g start file (KeepsLists end) only
            (λ a is. keeps end a a refl (let closed = gated a is in closed.room));
      }

module _ {D S X : Type 0} {g : Ghosts D S X} {start : D} {file end : ℕ} where
  -- what a stop leaves inside a write after the gate
  pub inside : {mid new : D} (at count : ℕ) (reads : List ℕ) → IsUnderWay g start file end mid → end + 2 ≤ at
      → (IsTrue (g.honest mid) → Passes g.moment g.left_since mid new
      (changed (g.held mid) file (touched_at (g.held mid file) at count reads)))
      → LeavesOnly g start new (ComesOf (g.held start) (InFile file (KeepsLists end)))
  inside {mid} {new} at count reads so_far le time =
      let to = touched_at (g.held mid file) at count reads in
      let fast = so_far.behind in
      let behind = behind_then (end + 2) (g.held start file) (g.held mid file) to so_far.behind
      (behind_touched (end + 2) at count (g.held mid file) to le fast.fast refl) in
      changes g start mid new file (KeepsLists end) to so_far.moments so_far.others (time so_far.honest)
      (kept (g.held start file) to end so_far.room so_far.whole behind)

  -- when octets after the gate are written
  pub writes_behind : {T E : Type 0} {x : T} {mid new : D} (at : ℕ) (octets : List ℕ)
      → IsUnderWay g start file end mid → end + 2 ≤ at → g.honest new ≡ g.honest mid
      → (IsTrue (g.honest mid) → Writes {T = T} {E = E} (g.held mid) (g.held new) file at octets (Ok x))
      → (IsTrue (g.honest mid) → Passes g.moment g.left_since mid new (while_writing (g.held mid) file at octets))
      → IsUnderWay g start file end new
  writes_behind {mid = mid} {new = new} at octets so_far le same wrote time =
      let to = touched_at (g.held mid file) at (length octets) (put_at (g.held mid file).reads at octets) in
      let fast = so_far.behind in
      let behind = behind_then (end + 2) (g.held start file) (g.held mid file) to so_far.behind
      (behind_touched (end + 2) at (length octets) (g.held mid file) to le fast.fast refl) in
      let made = wrote so_far.honest in
      record {
        honest = subst IsTrue (sym same) so_far.honest;
        room = so_far.room;
        whole = so_far.whole;
        behind = subst (λ (f : Held). IsBehind (end + 2) (g.held start file) f) (sym made.done) behind;
        others = λ n differs. made.others n differs ∙ so_far.others n differs;
        moments = inside at (length octets) _ so_far le time;
      }

  -- what a stop leaves inside the sync
  pub syncs : {mid new : D} → IsUnderWay g start file end mid
      → (IsTrue (g.honest mid) → Passes g.moment g.left_since mid new (g.held mid))
      → LeavesOnly g start new (ComesOf (g.held start) (InFile file (KeepsLists end)))
  syncs {mid} {new} so_far time =
      stays g start mid new file (KeepsLists end) so_far.moments so_far.others (time so_far.honest)
      (kept (g.held start file) (g.held mid file) end so_far.room so_far.whole so_far.behind)

  -- and once it is settled
  pub settles : {T E : Type 0} {x : T} {mid new : D} (messages : List (List ℕ)) → IsUnderWay g start file end mid
      → IsImage (g.held mid file) (g.held mid file).reads
      → (IsTrue (g.honest mid) → Syncs {T = T} {E = E} (g.held mid) (g.held new) file (Ok x))
      → IsPlaced (g.held mid file).reads end messages
      → AllImages (g.held new) (ComesOf (g.held start) (InFile file (Places end messages)))
  settles {mid = mid} {new = new} messages so_far reads settled placed =
      comes (g.held start) (g.held new) file (Places end messages)
      (λ n differs. (settled so_far.honest).others n differs
      ∙ so_far.others n differs) here
    where
      here : (b : List ℕ) → IsImage (g.held new file) b → (a : List ℕ) × IsImage (g.held start file) a
          × Places end messages a b
      here b is =
          let found = kept (g.held start file) (g.held mid file) end so_far.room so_far.whole so_far.behind
          (g.held mid file).reads reads in
          let same = settled_one (g.held mid file).reads b
          (subst (λ (f : Held). IsImage f b) (settled so_far.honest).done is) in (
            found.0,
            found.1,
            subst (λ l. Places end messages found.0 l) (sym same)
                (record { kept = found.2; placed = placed }),
          )
