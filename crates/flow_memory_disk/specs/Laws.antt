-- What the fields of a memory disk keep true of every file.
use Rattle.std.specs.Prelude.{◌≡◌, ℕ, ◌≤◌, ◌^◌, Bool, true, false, List, [], ◌∷◌, length, reverse, if◌then◌else◌, ◌==◌}
use Rattle.std.proofs.Common.{refl, sym, ◌∙◌, ap, subst, arith, lit≤}
use Rattle.flow_disk.specs.Disk.{Held, Marks, IsImage, settled_at}
use Rattle.flow_memory_disk.specs.declared.disk.MemoryDisk.{MemoryDisk}
use Rattle.flow_memory_disk.specs.declared.stored.StoredFile.{StoredFile}
use Rattle.flow_memory_disk.specs.Calls.{held_of}
use Rattle.flow_memory_disk.specs.Stored.{looked, held_in, marks_in, unwritten}
use Rattle.flow_memory_disk.specs.Memory.{story_in, story_of}
use Rattle.flow_memory_disk.specs.Sound.{settled_one}

-- How two views of a file agree.
size_looked : (files : List StoredFile) (n : ℕ)
    → (looked marks_in unwritten files n).size ≡ length (looked held_in (settled_at []) files n).reads
size_looked [] n = refl
size_looked (file ∷ files) n =
    elim (file.number == n) as
    (λ (b : Bool). (if b then marks_in file else looked marks_in unwritten files n).size ≡ length
    (if b then held_in file else looked held_in (settled_at []) files n).reads) [
      | true ↦ refl
      | false ↦ size_looked files n
    ]

file_fits : (file : StoredFile) → length file.octets.items ≤ 2 ^ 62
file_fits file = omega (arith, file.octets_fit, file.limit, file.octets.ok.0)

limit_looked : (files : List StoredFile) (n : ℕ) → (looked marks_in unwritten files n).size ≤ 2 ^ 62
limit_looked [] n = lit≤ tt
limit_looked (file ∷ files) n =
    elim (file.number == n) as
    (λ (b : Bool). (if b then marks_in file else looked marks_in unwritten files n).size ≤ 2 ^ 62) [
      | true ↦ file_fits file
      | false ↦ limit_looked files n
    ]

settled_file : (file : StoredFile) → file.settled ≡ true → held_in file ≡ settled_at file.octets.items
settled_file file is =
    ap (λ (l : List ℕ). record {
      reads = file.octets.items;
      last = l;
      fast = file.fast;
      touched =
          reverse file.touched.items;
      loose = file.loose;
    }) (file.settled_octets is)
    ∙ ap (λ (k : ℕ). record {
      reads = file.octets.items;
      last = file.octets.items;
      fast = k;
      touched =
          reverse file.touched.items;
      loose = file.loose;
    }) (file.settled_fast is)
    ∙ ap (λ (l : List (ℕ × ℕ)). record {
      reads = file.octets.items;
      last = file.octets.items;
      fast =
          length file.octets.items;
      touched = reverse l;
      loose = file.loose;
    }) (file.settled_touched is)
    ∙ ap (λ (b : Bool). record {
      reads = file.octets.items;
      last = file.octets.items;
      fast =
          length file.octets.items;
      touched = [];
      loose = b;
    }) (file.settled_end is)

settled_looked : (files : List StoredFile) (n : ℕ) → (looked marks_in unwritten files n).settled ≡ true
    → looked held_in (settled_at []) files n ≡ settled_at (looked held_in (settled_at []) files n).reads
settled_looked [] n = λ is. refl
settled_looked (file ∷ files) n =
    elim (file.number == n) as
    (λ (b : Bool). (if b then marks_in file else looked marks_in unwritten files n).settled ≡ true
    → (if b then held_in file else looked held_in (settled_at []) files n) ≡ settled_at
    (if b then held_in file else looked held_in (settled_at []) files n).reads) [
      | true ↦ settled_file file
      | false ↦ settled_looked files n
    ]

-- the stored files hold what the story says
pub held_is : (disk : MemoryDisk) (n : ℕ)
    → held_of (story_of disk) n ≡ looked held_in (settled_at []) disk.files.items n
unfolding story_in
held_is disk n = sym (disk.replays n)

pub marks_are : (disk : MemoryDisk) (n : ℕ) → (story_of disk).marks n ≡ looked marks_in unwritten disk.files.items n
unfolding story_in
marks_are disk n = refl

pub size_is : (disk : MemoryDisk) (n : ℕ) → ((story_of disk).marks n).size ≡ length (held_of (story_of disk) n).reads
size_is disk n = ap (λ (m : Marks). m.size) (marks_are disk n) ∙ size_looked disk.files.items n
    ∙ sym (ap (λ (h : Held). length h.reads) (held_is disk n))

pub limit : (disk : MemoryDisk) (n : ℕ) → ((story_of disk).marks n).size ≤ 2 ^ 62
limit disk n = subst (λ (m : Marks). m.size ≤ 2 ^ 62) (sym (marks_are disk n)) (limit_looked disk.files.items n)

pub settled_alone : (disk : MemoryDisk) (n : ℕ) (image : List ℕ) → ((story_of disk).marks n).settled ≡ true
    → IsImage (held_of (story_of disk) n) image → image ≡ (held_of (story_of disk) n).reads
settled_alone disk n image is_settled is =
    let held = held_is disk n in
    let same = settled_looked disk.files.items n (sym (ap (λ (m : Marks). m.settled) (marks_are disk n))
    ∙ is_settled) in
    settled_one _ image (subst (λ (h : Held). IsImage h image) (held ∙ same) is) ∙ sym (ap (λ (h : Held). h.reads) held)
