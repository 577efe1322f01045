-- What a directory in memory keeps of every file.
use Rattle.std.specs.Prelude.{◌≡◌, ℕ, zero, suc, ◌<◌, ◌≤◌, ◌^◌, true, false, List, [], ◌∷◌, length}
use Rattle.std.proofs.Common.{refl, sym, ◌∙◌, ap, subst, arith, lit≤, ⊎_elim}
use Rattle.std.proofs.lemmas.Bool.{false≢true, cases_lt}
use Rattle.std.proofs.lemmas.List.{get_or_past}
use Rattle.flow_disk.specs.Disk.{Held, IsImage, IsDiskImage}
use Rattle.flow_directory.specs.File.{octet, size, entry, File, held_of, IsClean, IsNamed, IsUnsure}
use Rattle.flow_memory_directory.specs.declared.mark.Mark.{Mark}
use Rattle.flow_memory_directory.specs.declared.mark.Mark.TheVariants.{Clean, Dirty, Lost}
use Rattle.flow_memory_directory.specs.declared.memory.MemoryDirectory.{MemoryDirectory}
use Rattle.flow_memory_directory.specs.declared.node.Node.{Node}
use Rattle.flow_memory_directory.specs.Bound.{bound, reading}
use Rattle.flow_memory_directory.specs.Laws.{now_counts, now_alone}
use Rattle.flow_memory_directory.specs.Marks.{is_dirty, is_lost, IsQuiet}
use Rattle.flow_memory_directory.specs.Memory.{deeds_of, files_of, moment_of, left_of}
use Rattle.flow_memory_directory.specs.Nodes.{looked, octets_in, file_in, no_file}

-- what holds of each node, and of none, holds of each file
looked_has : (P : File → Type 0) (h : Held) → ((node : Node) → P (file_in h node)) → P (no_file h)
    → (nodes : List Node) (n : ℕ) → P (looked (file_in h) (no_file h) nodes n)
looked_has P h each none [] n = none
looked_has P h each none (node ∷ nodes) zero = each node
looked_has P h each none (node ∷ nodes) (suc n) = looked_has P h each none nodes n

held_looked : (h : Held) (nodes : List Node) (n : ℕ)
    → (looked (file_in h) (no_file h) nodes n).held ≡ reading h (looked octets_in [] nodes n)
held_looked h [] n = refl
held_looked h (node ∷ nodes) zero = refl
held_looked h (node ∷ nodes) (suc n) = held_looked h nodes n

pub absent : (d : MemoryDirectory) (n : ℕ) → (files_of d n).linked ≡ false → (files_of d n).held.reads ≡ []
absent d n = looked_has (λ f. f.linked ≡ false → f.held.reads ≡ []) (bound (deeds_of d) n) (λ node. node.absent)
    (λ is. refl) d.nodes.items n

-- a mark that isn't clean
no_octets : (octets : List ℕ) → octets ≡ [] → 0 < length octets → ⊥
no_octets octets none some = omega (arith, ap (λ (l : List ℕ). length l) none, some)

named_node : (h : Held) (node : Node) → 0 < length node.octets.items → IsNamed (file_in h node)
named_node h node some = by_entry node.entry refl
  where
    by_entry : (m : Mark) → node.entry ≡ m → (is_dirty node.entry ≡ false) × (is_lost node.entry ≡ false)
    by_entry Clean is = (ap is_dirty is, ap is_lost is)
    by_entry Dirty is = absurd (no_octets node.octets.items
        (node.unnamed (λ clean. false≢true (ap is_dirty (sym clean ∙ is)))) some)
    by_entry Lost is = absurd (no_octets node.octets.items
        (node.unnamed (λ clean. false≢true (ap is_lost (sym clean ∙ is)))) some)

pub named : (d : MemoryDirectory) (n : ℕ) → 0 < length (files_of d n).held.reads → IsNamed (files_of d n)
named d n = looked_has (λ f. 0 < length f.held.reads → IsNamed f) (bound (deeds_of d) n)
    (named_node (bound (deeds_of d) n)) (λ some. (refl, refl)) d.nodes.items n

quiet_clean : (h : Held) (node : Node) → IsQuiet node.marks.items node.size → IsClean (file_in h node)
quiet_clean h node quiet (octet place) content = (ap is_dirty (quiet.octets place), ap is_lost (quiet.octets place))
quiet_clean h node quiet size content = (ap is_dirty quiet.size_is, ap is_lost quiet.size_is)
quiet_clean h node quiet entry content = absurd content

pub read_only_clean : (d : MemoryDirectory) (n : ℕ) → (files_of d n).read_only ≡ true → IsClean (files_of d n)
read_only_clean d n = looked_has (λ f. f.read_only ≡ true → IsClean f) (bound (deeds_of d) n)
    (λ node is. quiet_clean (bound (deeds_of d) n) node (node.sealed is)) (λ is. absurd (false≢true is)) d.nodes.items n

pub absent_clean : (d : MemoryDirectory) (n : ℕ) → (files_of d n).linked ≡ false → IsClean (files_of d n)
absent_clean d n = looked_has (λ f. f.linked ≡ false → IsClean f) (bound (deeds_of d) n)
    (λ node is. quiet_clean (bound (deeds_of d) n) node (node.absent_quiet is)) (λ is part content. (refl, refl))
    d.nodes.items n

pub lent_clean : (d : MemoryDirectory) (n : ℕ) → (files_of d n).lent ≡ true → IsClean (files_of d n)
lent_clean d n = looked_has (λ f. f.lent ≡ true → IsClean f) (bound (deeds_of d) n)
    (λ node is. quiet_clean (bound (deeds_of d) n) node (node.lent_quiet is)) (λ is. absurd (false≢true is))
    d.nodes.items n

within_node : (h : Held) (node : Node) (place : ℕ) → IsUnsure (file_in h node) (octet place)
    → place < length node.octets.items
within_node h node place unsure = ⊎_elim (λ lt. lt) (λ past. absurd (clean past)) (cases_lt place (length node.octets.items))
  where
    clean : length node.octets.items ≤ place → ⊥
    clean past =
        let is = get_or_past node.marks.items place Clean
        (omega (arith, past, node.count, node.marks.ok.0, node.octets.ok.0)) in
        ⊎_elim (λ d. false≢true (sym (ap is_dirty is) ∙ d)) (λ l. false≢true (sym (ap is_lost is) ∙ l)) unsure

pub within : (d : MemoryDirectory) (n place : ℕ) → IsUnsure (files_of d n) (octet place)
    → place < length (files_of d n).held.reads
within d n place = looked_has (λ f. IsUnsure f (octet place) → place < length f.held.reads) (bound (deeds_of d) n)
    (λ node. within_node (bound (deeds_of d) n) node place)
    (λ unsure. absurd (⊎_elim (λ d. false≢true d) (λ l. false≢true l) unsure)) d.nodes.items n

pub within_limit : (d : MemoryDirectory) (n : ℕ) → length (files_of d n).held.reads ≤ 2 ^ 62
within_limit d n = looked_has (λ f. length f.held.reads ≤ 2 ^ 62) (bound (deeds_of d) n)
    (λ node. omega (arith, node.limit, node.octets.ok.0)) (lit≤ tt) d.nodes.items n

to_read : (h : Held) (r octets : List ℕ) → IsImage h octets → IsImage (reading h r) octets
to_read h r octets is = record { long = is.long; end = is.end; same = is.same }

of_read : (h : Held) (r octets : List ℕ) → IsImage (reading h r) octets → IsImage h octets
of_read h r octets is = record { long = is.long; end = is.end; same = is.same }

pub reads_image : (d : MemoryDirectory) (n : ℕ) → IsImage (files_of d n).held (files_of d n).held.reads
reads_image d n =
    let h = bound (deeds_of d) n in
    let o = looked octets_in [] d.nodes.items n in
    subst (λ (x : Held). IsImage x x.reads) (sym (held_looked h d.nodes.items n)) (to_read h o o (d.sound n).memory)

pub fast_within : (d : MemoryDirectory) (n : ℕ) → (files_of d n).held.fast ≤ length (files_of d n).held.last
fast_within d n = subst (λ (x : Held). x.fast ≤ length x.last)
    (sym (held_looked (bound (deeds_of d) n) d.nodes.items n)) (d.sound n).within

pub fast_whole : (d : MemoryDirectory) (n : ℕ) → (files_of d n).held.loose ≡ false
    → length (files_of d n).held.last ≡ (files_of d n).held.fast
fast_whole d n = subst (λ (x : Held). x.loose ≡ false → length x.last ≡ x.fast)
    (sym (held_looked (bound (deeds_of d) n) d.nodes.items n)) (d.sound n).whole

pub counts_now : (d : MemoryDirectory) (t : ℕ) (image : ℕ → List ℕ) → t ≤ moment_of d
    → IsDiskImage (held_of (files_of d)) image → left_of d t image
counts_now d t image le is = now_counts (deeds_of d) t image le
    (λ n. of_read (bound (deeds_of d) n) (looked octets_in [] d.nodes.items n) (image n)
    (subst (λ (x : Held). IsImage x (image n)) (held_looked (bound (deeds_of d) n) d.nodes.items n) (is n)))

pub only_now : (d : MemoryDirectory) (image : ℕ → List ℕ) → left_of d (moment_of d) image
    → IsDiskImage (held_of (files_of d)) image
only_now d image left n =
    subst (λ (x : Held). IsImage x (image n)) (sym (held_looked (bound (deeds_of d) n) d.nodes.items n))
    (to_read (bound (deeds_of d) n) (looked octets_in [] d.nodes.items n) (image n)
    (now_alone (deeds_of d) image left n))
