-- What reading a body has found.
use Rattle.std.proofs.Common.{◌≡◌, ℕ, ◌*◌, ◌≤◌, ◌<◌, ◌⊎◌, inl, inr, ⊎_elim, List, [], ◌∷◌, ◌++◌, length, drop, Result}
use Rattle.std.proofs.Common.{Ok, Err, IfOk, IfErr, refl, sym, ap, subst, ◌∙◌, arith, append_assoc}
use Rattle.std.specs.Prelude.{IsErrAnd}
use Rattle.std.specs.List.{flat_map}
use Rattle.std.specs.Int.{w16, to_be_bytes}
use Rattle.std.proofs.lemmas.List.Concat.{flat_map-cons, flat_map-append}
use Rattle.std.proofs.lemmas.List.{drop_at, append-nil}
use Rattle.flow_manifest.specs.declared.manifest.Entry.{Entry}
use Rattle.flow_manifest.specs.declared.manifest.Manifest.{Manifest}
use Rattle.flow_manifest.specs.declared.error.ManifestError.{ManifestError}
use Rattle.flow_manifest.specs.declared.error.ManifestError.TheVariants as error
use Rattle.flow_manifest.specs.declared.head.Head.{Head}
use Rattle.flow_manifest.specs.Manifest.{FitsHead, IsSaid, IsValidManifest, IsBody, Format, format_number, head_of}
use Rattle.flow_manifest.specs.Manifest.{head_octets, head_length, entry_octets}
use Rattle.flow_manifest.specs.Fault.{IsFault, IsFaultBehind, IsDecoded}
use Rattle.flow_manifest.proofs.Bodies.{entry_long, entries_long, one_manifest}
use Rattle.flow_manifest.proofs.Faults.{never_both, one_fault}

-- ---- entries

-- octets of entries that have any begin with those of one
pub first_entry : (entries : List Entry) (octets : List ℕ) → flat_map entry_octets entries ≡ octets → 1 ≤ length octets
    → (first : Entry) × (others : List Entry) × (entry_octets first ++ flat_map entry_octets others ≡ octets)
first_entry [] octets is some = absurd (omega (arith, ap length is, entries_long []))
first_entry (e ∷ es) octets is some = (e, es, sym (flat_map-cons entry_octets e es) ∙ is)

-- the octets after one entry in octets of entries are octets of entries
pub others_left : (whole rest after : List ℕ) (entry : Entry) → rest ≡ entry_octets entry ++ after
    → ((all : List Entry) → flat_map entry_octets all ≡ whole
    → (left : List Entry) × (flat_map entry_octets left ≡ rest))
    → (all : List Entry) → flat_map entry_octets all ≡ whole
    → (left : List Entry) × (flat_map entry_octets left ≡ after)
others_left whole rest after entry is so_far all all_is =
    let left = so_far all all_is in
    let first = first_entry left.0 rest left.1 (omega (arith, ap length is)) in (
      first.1,
      sym (drop_at (entry_octets first.0) (flat_map entry_octets first.1) 32 (entry_long first.0))
          ∙ ap (drop 32) (first.2 ∙ is) ∙ drop_at (entry_octets entry) after 32 (entry_long entry),
    )

pub one_more_read : (entries : List Entry) (entry : Entry) (rest after whole : List ℕ)
    → flat_map entry_octets entries ++ rest ≡ whole → rest ≡ entry_octets entry ++ after
    → flat_map entry_octets (entries ++ entry ∷ []) ++ after ≡ whole
one_more_read entries entry rest after whole so_far is =
    ap (λ (octets : List ℕ). octets ++ after) (flat_map-append entry_octets entries (entry ∷ [])
    ∙ ap (λ (octets : List ℕ). flat_map entry_octets entries ++ octets) (flat_map-cons entry_octets entry []
    ∙ append-nil (entry_octets entry)))
    ∙ append_assoc (flat_map entry_octets entries) (entry_octets entry) after
    ∙ ap (λ (octets : List ℕ). flat_map entry_octets entries ++ octets) (sym is) ∙ so_far

-- ---- the body

-- what is found after a head
abbrev pub IsFoundBehind : Head → List ℕ → Result Manifest ManifestError → Type 0
IsFoundBehind head rest (Ok m) = IsValidManifest m × (head_of m ≡ head) × (flat_map entry_octets m.entries ≡ rest)
IsFoundBehind head rest (Err e) = (e ≡ error.OutOfMemory) ⊎ IsFaultBehind head rest e

-- what is found of a whole body
pub record IsAnswer (octets : List ℕ) (result : Result Manifest ManifestError) : Type 0 where
  pub found : IfOk result (λ m. IsBody octets m)
  pub fault : IfErr result (λ e. (e ≡ error.OutOfMemory) ⊎ IsFault octets e)
  pub only : (m : Manifest) → IsBody octets m → IsDecoded result m
  pub refused : (d : ManifestError) → IsFault octets d → IsErrAnd result (λ e. (e ≡ error.OutOfMemory) ⊎ (e ≡ d))

pub answer_ok : (octets : List ℕ) (m : Manifest) → IsBody octets m → IsAnswer octets (Ok m)
answer_ok octets m body =
    record {
      found = body;
      fault = tt;
      only = λ n other. one_manifest octets m n body other;
      refused =
          λ d is. absurd (never_both octets m d body is);
    }

pub answer_fault : (octets : List ℕ) (e : ManifestError) → (e ≡ error.OutOfMemory) ⊎ IsFault octets e
    → IsAnswer octets (Err e)
answer_fault octets e is = record {
  found = tt;
  fault = is;
  only = λ m body. ⊎_elim (λ memory. memory) (λ fault. absurd (never_both octets m e body fault)) is;
  refused = λ d other. ⊎_elim (λ memory. inl memory) (λ fault. inr (one_fault octets e d fault other)) is;
}

pub answer : (format : Format) (octets behind rest : List ℕ) (head : Head) (result : Result Manifest ManifestError)
    → octets ≡ to_be_bytes w16 (format_number format) ++ behind → behind ≡ head_octets format head ++ rest
    → FitsHead head → IsSaid format head → IsFoundBehind head rest result → IsAnswer octets result
answer format octets behind rest head (Ok m) begins is fits said found =
    let whole : octets ≡ to_be_bytes w16 (format_number format) ++ head_octets format
    (head_of m) ++ flat_map entry_octets m.entries =
    begins ∙ ap (λ (o : List ℕ). to_be_bytes w16 (format_number format) ++ o) (is
    ∙ ap (λ (h : Head). head_octets format h ++ rest) (sym found.1)
    ∙ ap (λ (o : List ℕ). head_octets format (head_of m) ++ o) (sym found.2)) in
    answer_ok octets m (record {
      valid = found.0;
      format = format;
      said = subst (IsSaid format) (sym found.1) said;
      is = whole;
    })
answer format octets behind rest head (Err e) begins is fits said found =
    answer_fault octets e
    (⊎_elim (λ memory. inl memory)
    (λ fault. inr (inr (inr (
      format,
      behind,
      begins,
      inr (
        head,
        rest,
        begins ∙ ap (λ (o : List ℕ). to_be_bytes w16 (format_number format) ++ o) is,
        fits,
        said,
        fault,
      ),
    )))) found)

-- what the two clauses of a call say
pub found_behind : (head : Head) (rest : List ℕ) (result : Result Manifest ManifestError)
    → IfOk result (λ m. IsValidManifest m × (head_of m ≡ head) × (flat_map entry_octets m.entries ≡ rest))
    → IfErr result (λ e. (e ≡ error.OutOfMemory) ⊎ IsFaultBehind head rest e) → IsFoundBehind head rest result
found_behind head rest (Ok m) found fault = found
found_behind head rest (Err e) found fault = fault

-- fewer octets than the head has
pub answer_short : (format : Format) (number : ℕ) (octets behind : List ℕ) → octets ≡ to_be_bytes w16 number ++ behind
    → number ≡ format_number format → length octets < head_length format → IsAnswer octets (Err error.Cut)
answer_short format number octets behind begins known short =
    answer_fault octets error.Cut
    (inr (inr (inr (
      format,
      behind,
      begins ∙ ap (λ (n : ℕ). to_be_bytes w16 n ++ behind) known,
      inl (short, refl),
    ))))

-- how many entries have these octets
pub counted : (entries : List Entry) (octets : List ℕ) (count : ℕ) → flat_map entry_octets entries ≡ octets
    → length octets ≡ 32 * count → length entries ≡ count
counted entries octets count is len = omega (arith, ap length is, entries_long entries)

pub known_format : (format : Format) (number : ℕ) (octets behind : List ℕ) → octets ≡ to_be_bytes w16 number ++ behind
    → number ≡ format_number format → octets ≡ to_be_bytes w16 (format_number format) ++ behind
known_format format number octets behind begins known = begins ∙ ap (λ (n : ℕ). to_be_bytes w16 n ++ behind) known
