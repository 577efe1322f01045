-- The text of the messages that are written of a span, message by message and file by file.
use Rattle.std.proofs.Common.{◌≡◌, ◌∙◌, ◌<◌, ◌≤◌, ℕ, zero, suc, ◌+◌, List, [], ◌∷◌, ◌++◌, length, take, drop, refl, sym, ap}
use Rattle.std.proofs.Common.{Bool, true, false, Option, subst, append-nil, arith, get_or, inl, inr}
use Rattle.std.specs.Prelude.{◌||◌, ◌&&◌, ◌-◌, if◌then◌else◌, filter, min, nat_le, Err}
use Rattle.std.specs.Io.KnownBytes.{Appends}
use Rattle.std.specs.List.{list_any}
use Rattle.std.proofs.KnownBytes.{Appends-nil, Appends-trans}
use Rattle.std.proofs.lemmas.Bool.{cases_lt, le-leb, lt-leb}
use Rattle.std.proofs.lemmas.List.{length-map, length-take, length-take-le, map-append, take-append-drop, take-map, take_all}
use Rattle.std.proofs.lemmas.List.Elements.{filter-append}
use Rattle.flow_codec.specs.Cutting.{IsCutOff}
use Rattle.flow_codec.specs.Message.{in_fields, joined, IsAccepted}
use Rattle.flow_codec.specs.Raw.{RawMessage}
use Rattle.flow_codec.specs.Templates.{AllTemplates}
use Rattle.flow_codec.proofs.RestatingAll.{message_cut}
use Rattle.flow_measure.specs.Flows.{flows_of}
use Rattle.flow_measure.specs.History.{templates_from, Accepted, AreAcceptedFrom}
use Rattle.flow_model.proofs.Accepting.{accepted_first, accepted_then, read_as, templates_then}
use Rattle.flow_refusals.specs.declared.read_refusal.ReadRefusal.{ReadRefusal}
use Rattle.flow_report.specs.Writing.{AppendsFront}
use Rattle.flow_segment.specs.Carry.{carry_from, octets_of, Carry}
use Rattle.flow_segment.specs.PartFlows.{IsWalkedInto}
use Rattle.flow_segment.proofs.Batches.{templates_carried}
use Rattle.flow_snapshot.specs.Answered.{IsNoDamage}
use Rattle.flow_export.specs.Span.{holds_templates, is_of_span, starts_within, text_between}
use Rattle.flow_export.proofs.Choosing.{drop_both, dropped, first_ones, joined_then, none_is_prefix, prefix_after}
use Rattle.flow_export.proofs.Choosing.{prefix_of_more, take_both}
use Rattle.flow_export.proofs.FindingSpans.{next_taken, walk_blameless}
use Rattle.flow_export.proofs.Passed.{next_accepted}

module _ (from to : ℕ) where
  -- those of a list after the first ones, so many
  abbrev pub text_after : ℕ → List Accepted → List ℕ
  text_after skip list = joined (octets_of (filter (is_of_span from to) (drop skip list)))

  abbrev chosen : ℕ → List Accepted → List Accepted
  chosen skip list = filter (is_of_span from to) (drop skip list)

  pub after_both : (skip : ℕ) (xs ys : List Accepted)
      → text_after skip (xs ++ ys) ≡ text_after skip xs ++ text_after (skip - length xs) ys
  after_both skip xs ys =
      ap (λ (l : List Accepted). joined (octets_of (filter (is_of_span from to) l))) (drop_both skip xs ys)
      ∙ ap (λ (l : List Accepted). joined (octets_of l))
      (filter-append (is_of_span from to) (drop skip xs) (drop (skip - length xs) ys))
      ∙ ap joined (map-append (λ (a : Accepted). a.octets) (chosen skip xs) (chosen (skip - length xs) ys))
      ∙ joined_then (octets_of (chosen skip xs)) (octets_of (chosen (skip - length xs) ys))

  none_dropped : (n : ℕ) → text_after n [] ≡ []
  none_dropped zero = refl
  none_dropped (suc n) = refl

  -- of two lists
  pub between_both : (skip end : ℕ) (xs ys : List Accepted) → text_between from to skip end (xs ++ ys)
      ≡ text_between from to skip end xs ++ text_between from to (skip - length xs) (end - length xs) ys
  between_both skip end xs ys =
      ap (text_after skip) (take_both end xs ys)
      ∙ after_both skip (take end xs) (take (end - length xs) ys)
      ∙ ap (λ (t : List ℕ). text_between from to skip end xs ++ t) later
    where
      later : text_after (skip - length (take end xs)) (take (end - length xs) ys)
          ≡ text_after (skip - length xs) (take (end - length xs) ys)
      later = elim (cases_lt end (length xs)) [
        | inl few ↦
            let none : end - length xs ≡ 0 = omega (arith, few) in
            ap (λ (n : ℕ). text_after (skip - length (take end xs)) (take n ys)) none
            ∙ none_dropped (skip - length (take end xs)) ∙ sym (none_dropped (skip - length xs))
            ∙ ap (λ (n : ℕ). text_after (skip - length xs) (take n ys)) (sym none)
        | inr all ↦
            ap (λ (l : List Accepted). text_after (skip - length l) (take (end - length xs) ys)) (take_all end xs all)
      ]

  two_parts : (skip end n own_skip own_end : ℕ) (xs ys : List Accepted) → length xs ≡ n → own_skip ≡ skip - n
      → own_end ≡ end - n → text_between from to skip end xs ++ text_between from to own_skip own_end ys
      ≡ text_between from to skip end (xs ++ ys)
  two_parts skip end n own_skip own_end xs ys count first last =
      let skips : own_skip ≡ skip - length xs = omega (arith, count, first) in
      let ends : own_end ≡ end - length xs = omega (arith, count, last) in
      ap (λ (k : ℕ). text_between from to skip end xs ++ text_between from to k own_end ys) skips
      ∙ ap (λ (k : ℕ). text_between from to skip end xs ++ text_between from to (skip - length xs) k ys) ends
      ∙ sym (between_both skip end xs ys)

  -- of the messages of files, one file more
  pub between_more : (skip end n own_skip own_end : ℕ) (xs ys : List Accepted) (a b c : Option (List ℕ))
      → length xs ≡ n → own_skip ≡ skip - n → own_end ≡ end - n → Appends a b (text_between from to skip end xs)
      → Appends b c (text_between from to own_skip own_end ys)
      → Appends a c (text_between from to skip end (xs ++ ys))
  between_more skip end n own_skip own_end xs ys a b c count first last before more =
      subst (Appends a c) (two_parts skip end n own_skip own_end xs ys count first last)
      (Appends-trans a b c (text_between from to skip end xs) (text_between from to own_skip own_end ys) before more)

  -- it is cut
  pub between_cut : (skip end n own_skip own_end : ℕ) (xs ys rest all : List Accepted) (a b c : Option (List ℕ))
      → length xs ≡ n → own_skip ≡ skip - n → own_end ≡ end - n → (xs ++ ys) ++ rest ≡ all
      → Appends a b (text_between from to skip end xs)
      → AppendsFront b c (text_between from to own_skip own_end ys)
      → AppendsFront a c (text_between from to skip end all)
  between_cut skip end n own_skip own_end xs ys rest all a b c count first last is before more =
      let own = text_between from to own_skip own_end ys in
      let later = text_between from to (skip - length (xs ++ ys)) (end - length (xs ++ ys)) rest in
      let whole : (text_between from to skip end xs ++ own) ++ later ≡ text_between from to skip end all =
      ap (λ (t : List ℕ). t ++ later) (two_parts skip end n own_skip own_end xs ys count first last)
      ∙ sym (between_both skip end (xs ++ ys) rest) ∙ ap (text_between from to skip end) is in
      subst (AppendsFront a c) whole
      (prefix_of_more a c (text_between from to skip end xs ++ own) later
      (prefix_after a b c (text_between from to skip end xs) own before more))

  -- where none are asked for
  pub none_after_skip : (skip end : ℕ) (list : List Accepted) → length list ≤ skip
      → text_between from to skip end list ≡ []
  none_after_skip skip end list few =
      let taken = length-take end list in
      ap (λ (l : List Accepted). joined (octets_of (filter (is_of_span from to) l)))
      (dropped skip (take end list) (omega (arith, few, taken)))

  pub none_before_end : (skip end : ℕ) (list : List Accepted) → end ≡ 0 → text_between from to skip end list ≡ []
  none_before_end skip end list none = ap (λ (n : ℕ). text_between from to skip n list) none ∙ none_dropped skip

  -- one message more
  pub after_more : (skip : ℕ) (xs : List Accepted) (a : Accepted) → text_after skip (xs ++ a ∷ [])
      ≡ text_after skip xs ++ (if nat_le skip (length xs) && is_of_span from to a then a.octets else [])
  after_more skip xs a = after_both skip xs (a ∷ []) ∙ ap (λ (t : List ℕ). text_after skip xs ++ t) own
    where
      alone : (b : Bool) → joined (octets_of (if b then a ∷ [] else [])) ≡ (if b then a.octets else [])
      alone true = append-nil a.octets
      alone false = refl

      own : text_after (skip - length xs) (a ∷ [])
          ≡ (if nat_le skip (length xs) && is_of_span from to a then a.octets else [])
      own = elim (cases_lt (length xs) skip) [
        | inl before ↦
            let some : skip - length xs ≡ suc (skip - length xs - 1) = omega (arith, before) in
            let no : nat_le skip (length xs) ≡ false = lt-leb skip (length xs) before in
            ap (λ (n : ℕ). text_after n (a ∷ [])) some ∙ none_dropped (skip - length xs - 1)
            ∙ sym (ap (λ (b : Bool). if b && is_of_span from to a then a.octets else []) no)
        | inr here ↦
            let none : skip - length xs ≡ 0 = omega (arith, here) in
            let yes : nat_le skip (length xs) ≡ true = le-leb skip (length xs) here in
            ap (λ (n : ℕ). text_after n (a ∷ [])) none ∙ alone (is_of_span from to a)
            ∙ sym (ap (λ (b : Bool). if b && is_of_span from to a then a.octets else []) yes)
      ]

  -- ---- messages that were read and written so far

  -- These octets are messages, accepted after such templates, and their text is written.
  abbrev pub IsWrittenSoFar : ℕ → List (List ℕ) → AllTemplates → AllTemplates → Option (List ℕ) → Option (List ℕ)
      → Type 0
  IsWrittenSoFar skip octets before now old new =
      (done : List Accepted) × (octets_of done ≡ octets) × AreAcceptedFrom before done
      × (now ≡ templates_from before done) × Appends old new (text_after skip done)

  pub none_so_far : (skip : ℕ) (t : AllTemplates) (output : Option (List ℕ)) → IsWrittenSoFar skip [] t t output output
  none_so_far skip t output =
      ([], refl, tt, refl, subst (Appends output output) (sym (none_dropped skip)) (Appends-nil output))

  module _ (skip i : ℕ) (os : List (List ℕ)) (x y : List ℕ) (within : i < length os) (is : x ≡ get_or os i x)
      (same : y ≡ x) (t now next : AllTemplates) (a b c : Option (List ℕ))
      (so_far : IsWrittenSoFar skip (take i os) t now a b) (m : RawMessage) (accepted : IsAccepted y now m next)
      (has write : Bool) (found : has ≡ list_any (starts_within from to) (flows_of (in_fields m)))
      (writes : write ≡ (nat_le skip i && (has || holds_templates y))) where
    abbrev one : Accepted
    one = record { octets = y; message = m; after = next }

    abbrev done : List Accepted
    done = so_far.0

    abbrev piece : List ℕ
    piece = if write then y else []

    count : length done ≡ i
    count =
        sym (length-map done (λ (x : Accepted). x.octets)) ∙ ap length so_far.1
        ∙ length-take-le i os (omega (arith, within))

    text_is : text_after skip (done ++ one ∷ []) ≡ text_after skip done ++ piece
    text_is =
        after_more skip done one
        ∙ ap (λ (n : ℕ). text_after skip done ++ (if nat_le skip n && is_of_span from to one then y else [])) count
        ∙ ap (λ (h : Bool). text_after skip done ++ (if nat_le skip i && (h || holds_templates y) then y else []))
        (sym found)
        ∙ ap (λ (w : Bool). text_after skip done ++ (if w then y else [])) (sym writes)

    octets_are : octets_of (done ++ one ∷ []) ≡ take (i + 1) os
    octets_are =
        map-append (λ (x : Accepted). x.octets) done (one ∷ []) ∙ ap (λ (l : List (List ℕ)). l ++ y ∷ []) so_far.1
        ∙ sym (next_taken from to os i x y within is same)

    all_accepted : AreAcceptedFrom t (done ++ one ∷ [])
    all_accepted =
        accepted_then t done (one ∷ []) so_far.2
        (subst (λ (s : AllTemplates). IsAccepted y s m next) so_far.3 accepted, tt)

    -- with this one
    pub one_written : Appends b c (if write then y else []) → IsWrittenSoFar skip (take (i + 1) os) t next a c
    one_written more = (
      done ++ one ∷ [],
      octets_are,
      all_accepted,
      sym (templates_then t done (one ∷ [])),
      subst (Appends a c) (sym text_is) (Appends-trans a b c (text_after skip done) piece so_far.4 more),
    )

    -- it is cut
    pub one_part : (list : List Accepted) → AreAcceptedFrom t list → octets_of list ≡ os
        → AppendsFront b c (if write then y else []) → AppendsFront a c (text_after skip list)
    one_part list all octets more =
        let first : done ++ one ∷ [] ≡ take (i + 1) list =
        sym (read_as t (done ++ one ∷ []) (take (i + 1) os) all_accepted octets_are)
        ∙ read_as t (take (i + 1) list) (take (i + 1) os) (accepted_first t (i + 1) list all)
        (sym (take-map (λ (x : Accepted). x.octets) (i + 1) list) ∙ ap (take (i + 1)) octets) in
        let rest = drop (i + 1) list in
        let n = skip - length (take (i + 1) list) in
        let whole : (text_after skip done ++ piece) ++ text_after n rest ≡ text_after skip list =
        ap (λ (o : List ℕ). o ++ text_after n rest) (sym text_is ∙ ap (text_after skip) first)
        ∙ sym (after_both skip (take (i + 1) list) rest) ∙ ap (text_after skip) (take-append-drop (i + 1) list) in
        subst (AppendsFront a c) whole
        (prefix_of_more a c (text_after skip done ++ piece) (text_after n rest)
        (prefix_after a b c (text_after skip done) piece so_far.4 more))

  -- those so far are the first ones of these
  module _ (skip i : ℕ) (os : List (List ℕ)) (t now : AllTemplates) (a b : Option (List ℕ))
      (so_far : IsWrittenSoFar skip (take i os) t now a b) (list : List Accepted) (all : AreAcceptedFrom t list)
      (octets : octets_of list ≡ os) where
    first_are : so_far.0 ≡ take i list
    first_are =
        sym (read_as t so_far.0 (take i os) so_far.2 so_far.1)
        ∙ read_as t (take i list) (take i os) (accepted_first t i list all)
        (sym (take-map (λ (x : Accepted). x.octets) i list) ∙ ap (take i) octets)

    -- the next one isn't refused by damage
    pub next_blameless : {Y : Type 0} (takes : Y → RawMessage → Type 0) (more : List (List ℕ)) (y : List ℕ)
        (next : AllTemplates) (file at : ℕ) (e : ReadRefusal) → drop i os ≡ y ∷ more
        → IsWalkedInto takes file at y now next (Err e) → IsNoDamage e
    next_blameless takes more y next file at e here walked =
        let xs = so_far.0 in
        let before : Carry = record { templates = t; due = []; time = 0 } in
        let one = next_accepted before (carry_from before xs) os more i y list here (xs, so_far.1, so_far.2, refl) all
        octets in
        let moved : (carry_from before xs).templates ≡ now = templates_carried before xs ∙ sym so_far.3 in
        let under : IsAccepted y now (one.0).message (one.0).after =
        subst (λ (s : AllTemplates). IsAccepted y s (one.0).message (one.0).after) moved one.2 in
        walk_blameless takes file at y now next (one.0).after (one.0).message e under walked

    -- what was written is a prefix of their text
    pub so_far_part : AppendsFront a b (text_after skip list)
    so_far_part =
        let n = skip - length (take i list) in
        let rest = text_after n (drop i list) in
        let whole : text_after skip so_far.0 ++ rest ≡ text_after skip list =
        ap (λ (l : List Accepted). text_after skip l ++ rest) first_are
        ∙ sym (after_both skip (take i list) (drop i list)) ∙ ap (text_after skip) (take-append-drop i list) in
        subst (AppendsFront a b) whole
        (prefix_after a b b (text_after skip so_far.0) rest so_far.4 (none_is_prefix b rest))

    -- all of them
    pub all_so_far : length os ≤ i → Appends a b (text_after skip list)
    all_so_far end =
        let count = length-map list (λ (x : Accepted). x.octets) in
        let many = ap length octets in
        subst (λ (l : List Accepted). Appends a b (text_after skip l))
        (first_are ∙ take_all i list (omega (arith, end, count, many))) so_far.4

-- a message that was accepted is whole
pub accepted_cut : (octets : List ℕ) (before after : AllTemplates) (m : RawMessage) → IsAccepted octets before m after
    → IsCutOff octets
accepted_cut octets before after m is = message_cut octets before m after is.0

-- the first ones, so many
pub first_octets : (end n : ℕ) (os : List (List ℕ)) (list : List Accepted) → octets_of list ≡ os → n ≡ min end (length os)
    → octets_of (take end list) ≡ take n os
first_octets end n os list is few =
    sym (take-map (λ (x : Accepted). x.octets) end list) ∙ ap (take end) is ∙ sym (first_ones end (length os) n os refl few)

pub nothing_written : (output : Option (List ℕ)) (text : List ℕ) → text ≡ [] → Appends output output text
nothing_written output text none = subst (Appends output output) (sym none) (Appends-nil output)

-- of no messages
pub nothing_before : (from to skip end : ℕ) (output : Option (List ℕ))
    → Appends output output (text_between from to skip end [])
nothing_before from to skip end output =
    nothing_written output (text_between from to skip end []) (none_after_skip from to skip end [] (omega arith))
