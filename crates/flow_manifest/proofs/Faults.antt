-- Octets have one first fault at most, and none where they are a body.
use Rattle.std.proofs.Common.{◌≡◌, ℕ, ◌*◌, ◌+◌, ◌^◌, ◌≤◌, ⊎_elim, List, ◌++◌, length, sym, ap, subst, ◌∙◌, arith}
use Rattle.std.proofs.Common.{length-append, append_assoc}
use Rattle.std.specs.List.{flat_map}
use Rattle.std.specs.Int.{w16, to_be_bytes}
use Rattle.flow_manifest.specs.declared.manifest.Manifest.{Manifest}
use Rattle.flow_manifest.specs.declared.error.ManifestError.{ManifestError}
use Rattle.flow_manifest.specs.declared.head.Head.{Head}
use Rattle.flow_manifest.specs.Manifest.{IsInRange, IsValidManifest, IsBody, Format, format_number, head_of}
use Rattle.flow_manifest.specs.Manifest.{head_octets, head_length, entry_octets}
use Rattle.flow_manifest.specs.Fault.{IsFault, IsFaultIn, IsFaultBehind}
use Rattle.flow_manifest.proofs.Numbers.{wide16, same_number}
use Rattle.flow_manifest.proofs.Heads.{same_head, same_format, format_fits, format_of, head_long}
use Rattle.flow_manifest.proofs.Bodies.{entries_long, body_behind}

-- octets that begin with a number are two at least
pub two_long : (number : ℕ) (octets rest : List ℕ) → octets ≡ to_be_bytes w16 number ++ rest → 2 ≤ length octets
two_long number octets rest e = omega (arith, ap length e)

-- octets with a whole head have its length
pub whole_head : (format : Format) (head : Head) (octets rest : List ℕ)
    → octets ≡ to_be_bytes w16 (format_number format) ++ head_octets format head ++ rest
    → length octets ≡ head_length format + length rest
whole_head format head octets rest e =
    let regrouped : octets ≡ (to_be_bytes w16 (format_number format) ++ head_octets format head) ++ rest = e
    ∙ sym (append_assoc (to_be_bytes w16 (format_number format)) (head_octets format head) rest) in
    ap length regrouped ∙ length-append (to_be_bytes w16 (format_number format) ++ head_octets format head) rest
    ∙ ap (λ (n : ℕ). n + length rest) (head_long format head)

-- ---- a body has no fault

not_behind : (head : Head) (rest : List ℕ) (fault : ManifestError) (m : Manifest) → IsValidManifest m
    → head ≡ head_of m → rest ≡ flat_map entry_octets m.entries → IsFaultBehind head rest fault → ⊥
not_behind head rest fault m valid head_is rest_is is = ⊎_elim
    (λ ranges. ranges.0 (subst IsInRange (sym head_is) valid.ranges))
    (λ others. ⊎_elim
    (λ cut. cut.1 (ap length rest_is ∙ entries_long m.entries ∙ ap (λ (h : Head). 32 * h.count) (sym head_is)))
    (λ none. none.2 m valid (sym head_is) (sym rest_is))
    others)
    is

pub never_both : (octets : List ℕ) (m : Manifest) (fault : ManifestError) → IsBody octets m → IsFault octets fault → ⊥
never_both octets m fault body is = ⊎_elim
    (λ short. omega (
      arith,
      short.0,
      two_long (format_number body.format) octets
          (head_octets body.format (head_of m) ++ flat_map entry_octets m.entries) body.is,
    ))
    (λ others. ⊎_elim
    (λ unknown. unknown.4 body.format
    (format_of body.format unknown.0 unknown.1
    (head_octets body.format (head_of m) ++ flat_map entry_octets m.entries) unknown.3 (sym unknown.2 ∙ body.is)).0)
    (λ known. inside known.0 known.1 known.2 known.3)
    others)
    is
  where
    inside : (format : Format) (rest : List ℕ) → octets ≡ to_be_bytes w16 (format_number format) ++ rest
        → IsFaultIn format octets fault → ⊥
    inside format rest begins is =
        let behind = body_behind format octets rest m begins body in
        let whole : octets ≡ to_be_bytes w16 (format_number format) ++ head_octets format
        (head_of m) ++ flat_map entry_octets m.entries = begins
        ∙ ap (λ (r : List ℕ). to_be_bytes w16 (format_number format) ++ r) behind.is in
        ⊎_elim
        (λ short. omega (arith, short.0, whole_head format (head_of m) octets (flat_map entry_octets m.entries) whole))
        (λ far.
        let numbers = same_number w16 (2 ^ 16) wide16 (format_number format) (format_number format)
        (head_octets format far.0 ++ far.1) (head_octets format (head_of m) ++ flat_map entry_octets m.entries)
        (format_fits format) (format_fits format) (sym far.2 ∙ whole) in
        let parts = same_head format far.0 (head_of m) far.1 (flat_map entry_octets m.entries) far.3
        (body.valid).fits far.4 behind.said numbers.1 in
        not_behind far.0 far.1 fault m body.valid parts.0 parts.1 far.5)
        is

-- ---- one fault

one_behind : (head : Head) (rest : List ℕ) (d e : ManifestError) → IsFaultBehind head rest d
    → IsFaultBehind head rest e → d ≡ e
one_behind head rest d e p q = ⊎_elim
    (λ a. ⊎_elim (λ b. a.1 ∙ sym b.1) (λ o. ⊎_elim (λ b. absurd (a.0 b.0)) (λ b. absurd (a.0 b.0)) o) q)
    (λ o. ⊎_elim
    (λ a. ⊎_elim (λ b. absurd (b.0 a.0)) (λ o. ⊎_elim (λ b. a.2 ∙ sym b.2) (λ b. absurd (a.1 b.1)) o) q)
    (λ a. ⊎_elim (λ b. absurd (b.0 a.0)) (λ o. ⊎_elim (λ b. absurd (b.1 a.1)) (λ b. a.3 ∙ sym b.3) o) q)
    o)
    p

one_in : (format : Format) (octets : List ℕ) (d e : ManifestError) → IsFaultIn format octets d
    → IsFaultIn format octets e → d ≡ e
one_in format octets d e p q = ⊎_elim
    (λ a. ⊎_elim (λ b. a.1 ∙ sym b.1) (λ b. absurd (omega (arith, a.0, whole_head format b.0 octets b.1 b.2))) q)
    (λ a. ⊎_elim
    (λ b. absurd (omega (arith, b.0, whole_head format a.0 octets a.1 a.2)))
    (λ b.
    let numbers = same_number w16 (2 ^ 16) wide16 (format_number format) (format_number format)
    (head_octets format a.0 ++ a.1) (head_octets format b.0 ++ b.1) (format_fits format) (format_fits format)
    (sym a.2 ∙ b.2) in
    let parts = same_head format a.0 b.0 a.1 b.1 a.3 b.3 a.4 b.4 numbers.1 in
    one_behind b.0 b.1 d e
    (subst (λ (h : Head). IsFaultBehind h b.1 d) parts.0
    (subst (λ (r : List ℕ). IsFaultBehind a.0 r d) parts.1 a.5)) b.5)
    q)
    p

pub one_fault : (octets : List ℕ) (d e : ManifestError) → IsFault octets d → IsFault octets e → d ≡ e
one_fault octets d e p q = ⊎_elim
    (λ a. ⊎_elim (λ b. a.1
    ∙ sym b.1) (λ o. ⊎_elim (λ b. absurd (omega (arith, a.0, two_long b.0 octets b.1 b.2)))
    (λ b. absurd (omega (arith, a.0, two_long (format_number b.0) octets b.1 b.2))) o) q)
    (λ o. ⊎_elim
    (λ a. ⊎_elim (λ b. absurd (omega (arith, b.0, two_long a.0 octets a.1 a.2)))
    (λ o. ⊎_elim (λ b. a.5 ∙ sym b.5) (λ b. absurd (a.4 b.0 (format_of b.0 a.0 a.1 b.1 a.3 (sym a.2 ∙ b.2)).0)) o)
    q)
    (λ a. ⊎_elim (λ b. absurd (omega (arith, b.0, two_long (format_number a.0) octets a.1 a.2))) (λ o. ⊎_elim
    (λ b. absurd (b.4 a.0 (format_of a.0 b.0 b.1 a.1 b.3 (sym b.2 ∙ a.2)).0))
    (λ b. known a.0 b.0 a.1 b.1 a.2 b.2 a.3 b.3) o) q)
    o)
    p
  where
    known : (f g : Format) (xs ys : List ℕ) → octets ≡ to_be_bytes w16 (format_number f) ++ xs
        → octets ≡ to_be_bytes w16 (format_number g) ++ ys → IsFaultIn f octets d → IsFaultIn g octets e → d ≡ e
    known f g xs ys at_f at_g a b =
        let one = same_format f g
        (same_number w16 (2 ^ 16) wide16 (format_number f) (format_number g) xs ys (format_fits f) (format_fits g)
        (sym at_f ∙ at_g)).0 in
        one_in g octets d e (subst (λ (k : Format). IsFaultIn k octets d) one a) b
