-- What frozen files are taken for.
use Rattle.std.proofs.Common.{◌≡◌, ℕ, zero, suc, ◌+◌, ◌-◌, ◌≤◌, List, [], ◌∷◌, ◌++◌, length, take, drop, refl, sym, ◌∙◌}
use Rattle.std.proofs.Common.{ap, arith}
use Rattle.std.proofs.lemmas.List.{drop-drop, drop-take, take-take}
use Rattle.flow_codec.specs.Cutting.{length_of}
use Rattle.flow_gate.specs.Gate.{IsWhole, StandInRow, octet_sum}
use Rattle.flow_manifest.specs.declared.manifest.Kind.TheVariants.{Sealed}
use Rattle.flow_manifest.specs.declared.manifest.Entry.{Entry}
use Rattle.flow_segment.specs.Segment.{part_octets}
use Rattle.flow_snapshot.specs.Files.{cut_into}
use Rattle.flow_model.specs.State.{Part}
use Rattle.flow_recover.specs.Opening.{FrozenStand}
use Rattle.flow_model.specs.Standing.{IsSealedAt, StandsAs}
use Rattle.flow_archive.specs.Parts.{part_at, parts_at}

pub parts_at_push : {S : Type 0} (octets : S → List ℕ) (e : Entry) (x : S) (entries : List Entry) (files : List S)
    → length files ≡ length entries → parts_at octets (entries ++ e ∷ []) (files ++ x ∷ [])
    ≡ parts_at octets entries files ++ part_at e.kind e (octets x) ∷ []
parts_at_push octets e x [] [] long = refl
parts_at_push octets e x [] (y ∷ files) long = absurd (omega (arith, long))
parts_at_push octets e x (f ∷ entries) [] long = absurd (omega (arith, long))
parts_at_push octets e x (f ∷ entries) (y ∷ files) long =
    ap (λ (l : List Part). part_at f.kind f (octets y) ∷ l) (parts_at_push octets e x entries files (omega (
      arith,
      long,
    )))

pub parts_many : {S : Type 0} (octets : S → List ℕ) (entries : List Entry) (files : List S)
    → length files ≡ length entries → length (parts_at octets entries files) ≡ length entries
parts_many octets [] [] long = refl
parts_many octets [] (y ∷ files) long = absurd (omega (arith, long))
parts_many octets (f ∷ entries) [] long = absurd (omega (arith, long))
parts_many octets (f ∷ entries) (y ∷ files) long = omega (arith, parts_many octets entries files (omega (arith, long)))

pub frozen_push : {S : Type 0} (octets : S → List ℕ) (e : Entry) (p : Part) (x : S) → StandsAs e.kind (octets x) e p
    → (entries : List Entry) (parts : List Part) (files : List S) → FrozenStand octets entries parts files
    → FrozenStand octets (entries ++ e ∷ []) (parts ++ p ∷ []) (files ++ x ∷ [])
frozen_push octets e p x at [] [] [] is = (at, tt)
frozen_push octets e p x at [] [] (y ∷ files) is = absurd is
frozen_push octets e p x at [] (q ∷ parts) files is = absurd is
frozen_push octets e p x at (f ∷ entries) [] files is = absurd is
frozen_push octets e p x at (f ∷ entries) (q ∷ parts) [] is = absurd is
frozen_push octets e p x at (f ∷ entries) (q ∷ parts) (y ∷ files) is =
    (is.0, frozen_push octets e p x at entries parts files is.1)

-- ---- the messages of a sealed segment

field_front : (n : ℕ) (octets : List ℕ) → length_of (take (suc (suc (suc (suc n)))) octets) ≡ length_of octets
field_front n [] = refl
field_front n (a ∷ []) = refl
field_front n (a ∷ b ∷ []) = refl
field_front n (a ∷ b ∷ c ∷ []) = refl
field_front n (a ∷ b ∷ c ∷ d ∷ octets) = refl

whole_field : (message : List ℕ) → IsWhole message → length_of message ≡ length message
whole_field [] whole = absurd (omega (arith, whole.long))
whole_field (a ∷ []) whole = absurd (omega (arith, whole.long))
whole_field (a ∷ b ∷ []) whole = absurd (omega (arith, whole.long))
whole_field (a ∷ b ∷ c ∷ []) whole = absurd (omega (arith, whole.long))
whole_field (a ∷ b ∷ c ∷ d ∷ rest) whole = omega (arith, whole.counted)

field_of : (n : ℕ) (octets message : List ℕ) → 4 ≤ n → take n octets ≡ message → IsWhole message
    → length_of octets ≡ length message
field_of zero octets message four is whole = absurd (omega (arith, four))
field_of (suc zero) octets message four is whole = absurd (omega (arith, four))
field_of (suc (suc zero)) octets message four is whole = absurd (omega (arith, four))
field_of (suc (suc (suc zero))) octets message four is whole = absurd (omega (arith, four))
field_of (suc (suc (suc (suc n)))) octets message four is whole =
    sym (field_front n octets) ∙ ap length_of is ∙ whole_field message whole

cut_row : (octets : List ℕ) (place : ℕ) (list : List (List ℕ)) → StandInRow octets place list
    → cut_into (length list) (take (octet_sum list) (drop place octets)) ≡ list
cut_row octets place [] row = refl
cut_row octets place (message ∷ []) row =
    ap (λ (o : List ℕ). o ∷ []) (ap (λ (n : ℕ). take n (drop place octets)) (omega arith) ∙ row.1)
cut_row octets place (message ∷ next ∷ list) row =
    let rest = drop place octets in
    let more = octet_sum (next ∷ list) in
    let here = take (length message + more) rest in
    let front : take (length message) here ≡ message =
    take-take (length message) (length message + more) rest (omega arith) ∙ row.1 in
    let field : length_of here ≡ length message =
    field_of (length message) here message (omega (arith, row.0.long)) front row.0 in
    ap (λ (n : ℕ). take n here ∷ cut_into (length (next ∷ list)) (drop n here)) field
    ∙ ap (λ (o : List ℕ). o ∷ cut_into (length (next ∷ list)) (drop (length message) here)) front
    ∙ ap (λ (o : List ℕ). message ∷ cut_into (length (next ∷ list)) o)
    (drop-take (length message) more rest
    ∙ ap (take more) (drop-drop (length message) place octets))
    ∙ ap (λ (l : List (List ℕ)). message ∷ l) (cut_row octets (place + length message) (next ∷ list) row.2)

-- a sealed file is taken for the segment that it holds
pub one_sealed : (octets : List ℕ) (e : Entry) (p : Part) → IsSealedAt octets e p → part_at Sealed e octets ≡ p
one_sealed octets e p is =
    let whole : part_octets 0 e.prefix octets ≡ p.front = ap (λ (n : ℕ). take n octets) (omega arith) ∙ is.front in
    let size : octet_sum p.messages ≡ e.length - e.prefix = omega (arith, is.count) in
    let cut : cut_into e.messages (part_octets e.prefix e.length octets) ≡ p.messages =
    ap (λ (n : ℕ). cut_into e.messages (take n (drop e.prefix octets))) (sym size)
    ∙ ap (λ (n : ℕ). cut_into n (take (octet_sum p.messages) (drop e.prefix octets))) (sym is.messages)
    ∙ cut_row octets e.prefix p.messages is.row in
    ap (λ (l : List ℕ). let x : Part = record {
      front = l;
      messages = cut_into e.messages (part_octets e.prefix e.length octets);
    } in x) whole
    ∙ ap (λ (l : List (List ℕ)). let x : Part = record { front = p.front; messages = l } in x) cut
