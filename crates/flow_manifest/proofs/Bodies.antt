-- The octets of a manifest are those of no other manifest.
use Rattle.std.proofs.Common.{◌≡◌, ℕ, zero, suc, ◌*◌, ◌^◌, ◌<◌, List, [], ◌∷◌, ◌++◌, length, refl, sym, ap, subst, ◌∙◌}
use Rattle.std.proofs.Common.{arith, length-append}
use Rattle.std.specs.List.{flat_map, AllByRecursion}
use Rattle.std.specs.Int.{w16, w32, w64, to_be_bytes}
use Rattle.std.proofs.lemmas.List.Concat.{flat_map-cons}
use Rattle.flow_manifest.specs.declared.manifest.Kind.{Kind}
use Rattle.flow_manifest.specs.declared.manifest.Kind.TheVariants.{Wide, Rolled, Sealed, Active}
use Rattle.flow_manifest.specs.declared.manifest.Entry.{Entry}
use Rattle.flow_manifest.specs.declared.manifest.Manifest.{Manifest}
use Rattle.flow_manifest.specs.declared.head.Head.{Head}
use Rattle.flow_manifest.specs.Manifest.{FitsEntry, IsSaid, IsEntry, IsValidManifest, IsBody, Format, format_number}
use Rattle.flow_manifest.specs.Manifest.{head_of, head_octets, kind_number, entry_octets}
use Rattle.flow_manifest.proofs.Numbers.{wide32, wide64, same_number}
use Rattle.flow_manifest.proofs.Heads.{same_head, same_format, format_fits, format_of}

-- ---- kinds

kind_at : ℕ → Kind
kind_at zero = Rolled
kind_at (suc zero) = Rolled
kind_at (suc (suc zero)) = Sealed
kind_at (suc (suc (suc zero))) = Active
kind_at (suc (suc (suc (suc n)))) = Wide

kind_again : (kind : Kind) → kind_at (kind_number kind) ≡ kind
unfolding kind_at
kind_again Wide = refl
kind_again Rolled = refl
kind_again Sealed = refl
kind_again Active = refl

same_kind : (a b : Kind) → kind_number a ≡ kind_number b → a ≡ b
same_kind a b e = sym (kind_again a) ∙ ap kind_at e ∙ kind_again b

pub kind_fits : (kind : Kind) → kind_number kind < 2 ^ 32
kind_fits Wide = omega arith
kind_fits Rolled = omega arith
kind_fits Sealed = omega arith
kind_fits Active = omega arith

-- ---- entries

pub entries_fit : (limit next : ℕ) (entries : List Entry) → AllByRecursion (IsEntry limit next) entries
    → AllByRecursion FitsEntry entries
entries_fit limit next [] all = tt
entries_fit limit next (e ∷ es) all = ((all.0).fits, entries_fit limit next es all.1)

pub all_more : (P : Entry → Type 0) (entries : List Entry) (entry : Entry) → AllByRecursion P entries → P entry
    → AllByRecursion P (entries ++ entry ∷ [])
all_more P [] entry all one = (one, tt)
all_more P (e ∷ es) entry all one = (all.0, all_more P es entry all.1 one)

abbrev entry_with : Kind → ℕ → ℕ → ℕ → ℕ → Entry
entry_with kind prefix file len messages =
    record { kind = kind; prefix = prefix; file = file; length = len; messages = messages }

abbrev from_messages : Entry → List ℕ → List ℕ
from_messages e rest = to_be_bytes w64 e.messages ++ rest

abbrev from_length : Entry → List ℕ → List ℕ
from_length e rest = to_be_bytes w64 e.length ++ from_messages e rest

abbrev from_file : Entry → List ℕ → List ℕ
from_file e rest = to_be_bytes w64 e.file ++ from_length e rest

abbrev from_prefix : Entry → List ℕ → List ℕ
from_prefix e rest = to_be_bytes w32 e.prefix ++ from_file e rest

same_entry : (e f : Entry) (xs ys : List ℕ) → FitsEntry e → FitsEntry f → entry_octets e ++ xs ≡ entry_octets f ++ ys
    → (e ≡ f) × (xs ≡ ys)
same_entry e f xs ys fits_e fits_f is =
    let kind = same_number w32 (2 ^ 32) wide32 (kind_number e.kind) (kind_number f.kind) (from_prefix e xs)
    (from_prefix f ys) (kind_fits e.kind) (kind_fits f.kind) is in
    let prefix = same_number w32 (2 ^ 32) wide32 e.prefix f.prefix (from_file e xs)
    (from_file f ys) fits_e.prefix fits_f.prefix kind.1 in
    let file = same_number w64 (2 ^ 64) wide64 e.file f.file (from_length e xs)
    (from_length f ys) fits_e.file fits_f.file prefix.1 in
    let len = same_number w64 (2 ^ 64) wide64 e.length f.length (from_messages e xs)
    (from_messages f ys) fits_e.octets fits_f.octets file.1 in
    let messages = same_number w64 (2 ^ 64) wide64 e.messages f.messages xs ys fits_e.messages fits_f.messages len.1 in
    let kind_same = same_kind e.kind f.kind kind.0 in
    let same : entry_with e.kind e.prefix e.file e.length e.messages ≡ entry_with f.kind f.prefix f.file f.length
    f.messages = rw (kind_same, prefix.0, file.0, len.0, messages.0) refl in
    (same, messages.1)

pub entry_long : (e : Entry) → length (entry_octets e) ≡ 32
entry_long e = refl

pub entries_long : (entries : List Entry) → length (flat_map entry_octets entries) ≡ 32 * length entries
entries_long [] = refl
entries_long (e ∷ es) = ap length (flat_map-cons entry_octets e es)
    ∙ length-append (entry_octets e) (flat_map entry_octets es) ∙ omega (arith, entries_long es)

pub same_entries : (es fs : List Entry) → AllByRecursion FitsEntry es → AllByRecursion FitsEntry fs
    → flat_map entry_octets es ≡ flat_map entry_octets fs → es ≡ fs
same_entries [] [] fits_e fits_f is = refl
same_entries [] (f ∷ fs) fits_e fits_f is = absurd (omega (arith, ap length is, entries_long [], entries_long (f ∷ fs)))
same_entries (e ∷ es) [] fits_e fits_f is = absurd (omega (arith, ap length is, entries_long [], entries_long (e ∷ es)))
same_entries (e ∷ es) (f ∷ fs) fits_e fits_f is =
    let first = same_entry e f (flat_map entry_octets es) (flat_map entry_octets fs) fits_e.0 fits_f.0
    (sym (flat_map-cons entry_octets e es) ∙ is ∙ flat_map-cons entry_octets f fs) in
    let others = same_entries es fs fits_e.1 fits_f.1 first.1 in
    cc

-- ---- manifests

abbrev manifest_with : ℕ → ℕ → ℕ → ℕ → ℕ → ℕ → ℕ → List Entry → Manifest
manifest_with generation width wide limit next rolled second entries =
    record {
      generation = generation;
      width = width;
      wide = wide;
      limit = limit;
      next = next;
      rolled = rolled;
      second =
          second;
      entries = entries;
    }

-- a manifest is its head and its entries
pub same_manifest : (m n : Manifest) → head_of m ≡ head_of n → m.entries ≡ n.entries → m ≡ n
same_manifest m n head entries =
    let generation : m.generation ≡ n.generation = ap (λ (h : Head). h.generation) head in
    let width : m.width ≡ n.width = ap (λ (h : Head). h.width) head in
    let wide : m.wide ≡ n.wide = ap (λ (h : Head). h.wide) head in
    let limit : m.limit ≡ n.limit = ap (λ (h : Head). h.limit) head in
    let next : m.next ≡ n.next = ap (λ (h : Head). h.next) head in
    let rolled : m.rolled ≡ n.rolled = ap (λ (h : Head). h.rolled) head in
    let second : m.second ≡ n.second = ap (λ (h : Head). h.second) head in
    let same : manifest_with m.generation m.width m.wide m.limit m.next m.rolled m.second m.entries ≡ manifest_with
    n.generation n.width n.wide n.limit n.next n.rolled n.second n.entries =
    rw (generation, width, wide, limit, next, rolled, second, entries) refl in
    same

-- manifests with one head and one row of entry octets are one
pub same_valid : (m n : Manifest) → IsValidManifest m → AllByRecursion FitsEntry n.entries → head_of m ≡ head_of n
    → flat_map entry_octets m.entries ≡ flat_map entry_octets n.entries → m ≡ n
same_valid m n valid fit head octets =
    same_manifest m n head
    (same_entries m.entries n.entries (entries_fit m.limit m.next m.entries valid.each) fit octets)

-- the octets of a body after the number of a format
pub record IsBehind (format : Format) (octets : List ℕ) (m : Manifest) : Type 0 where
  pub said : IsSaid format (head_of m)
  pub is : octets ≡ head_octets format (head_of m) ++ flat_map entry_octets m.entries

pub body_behind : (format : Format) (octets rest : List ℕ) (m : Manifest)
    → octets ≡ to_be_bytes w16 (format_number format) ++ rest → IsBody octets m → IsBehind format rest m
body_behind format octets rest m begins body =
    let numbers = format_of body.format (format_number format) rest
    (head_octets body.format (head_of m) ++ flat_map entry_octets m.entries) (format_fits format) (sym begins
    ∙ body.is) in
    let one = same_format format body.format numbers.0 in
    subst (λ (f : Format). IsBehind f rest m) (sym one) (record { said = body.said; is = numbers.1 })

pub one_manifest : (octets : List ℕ) (m n : Manifest) → IsBody octets m → IsBody octets n → m ≡ n
one_manifest octets m n p q =
    let behind = body_behind p.format octets
    (head_octets p.format (head_of m) ++ flat_map entry_octets m.entries) n p.is q in
    let parts = same_head p.format (head_of m) (head_of n) (flat_map entry_octets m.entries)
    (flat_map entry_octets n.entries) (p.valid).fits (q.valid).fits p.said behind.said behind.is in
    same_valid m n p.valid (entries_fit n.limit n.next n.entries (q.valid).each) parts.0 parts.1
