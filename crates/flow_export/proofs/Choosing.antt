-- Messages of files, chosen by their places, and written one file after the other.
use Rattle.std.proofs.Common.{◌≡◌, ◌∙◌, ◌≤◌, ◌<◌, ℕ, zero, suc, ◌+◌, ◌-◌, List, [], ◌∷◌, ◌++◌, Option, Some, length}
use Rattle.std.proofs.Common.{None, take}
use Rattle.std.proofs.Common.{drop, get_or, map, refl, sym, ap, ap₂, subst, append-nil, append_assoc, arith}
use Rattle.std.specs.Prelude.{min, slice_get}
use Rattle.std.specs.Io.KnownBytes.{Appends, Keeps}
use Rattle.std.proofs.KnownBytes.{Appends-nil, Appends-trans}
use Rattle.std.proofs.lemmas.List.{length-append, length-drop, take-append-drop, take_more}
use Rattle.std.proofs.lemmas.List.Concat.{flat_map-append}
use Rattle.std.proofs.lemmas.Option.{slice_get-get_or}
use Rattle.flow_codec.specs.Message.{joined}
use Rattle.flow_model.specs.Shelf.{kept_of, messages_in, Segment, Shelf}
use Rattle.flow_report.specs.Writing.{AppendsFront}
use Rattle.flow_snapshot.specs.Found.{kept_by_file, kept_file, KeptFile}
use Rattle.flow_export.specs.Export.{asked_count, messages_of}

-- ---- lists

pub drop_both : {A : Type 0} (n : ℕ) (xs ys : List A)
    → drop n (xs ++ ys) ≡ drop n xs ++ drop (n - length xs) ys
drop_both zero xs ys =
    let none : 0 ≡ 0 - length xs = omega arith in ap (λ (k : ℕ). xs ++ drop k ys) none
drop_both (suc n) [] ys =
    let same : suc n ≡ suc n - 0 = omega arith in ap (λ (k : ℕ). drop k ys) same
drop_both (suc n) (x ∷ xs) ys =
    let same : n - length xs ≡ suc n - suc (length xs) = omega arith in
    drop_both n xs ys ∙ ap (λ (k : ℕ). drop n xs ++ drop k ys) same

pub take_both : {A : Type 0} (n : ℕ) (xs ys : List A)
    → take n (xs ++ ys) ≡ take n xs ++ take (n - length xs) ys
take_both zero xs ys =
    let none : 0 ≡ 0 - length xs = omega arith in ap (λ (k : ℕ). take k ys) none
take_both (suc n) [] ys =
    let same : suc n ≡ suc n - 0 = omega arith in ap (λ (k : ℕ). take k ys) same
take_both {A} (suc n) (x ∷ xs) ys =
    let same : n - length xs ≡ suc n - suc (length xs) = omega arith in
    ap (λ (zs : List A). x ∷ zs) (take_both n xs ys ∙ ap (λ (k : ℕ). take n xs ++ take k ys) same)

pub chosen_more : {A : Type 0} (most skip : ℕ) (xs ys : List A) → take most (drop skip (xs ++ ys))
    ≡ take most (drop skip xs) ++ take (most - length (drop skip xs)) (drop (skip - length xs) ys)
chosen_more most skip xs ys =
    ap (take most) (drop_both skip xs ys) ∙ take_both most (drop skip xs) (drop (skip - length xs) ys)

pub joined_then : (xs ys : List (List ℕ)) → joined (xs ++ ys) ≡ joined xs ++ joined ys
joined_then xs ys = flat_map-append (λ (r : List ℕ). r) xs ys

-- ---- what was written

take_after : (a b : List ℕ) (n k : ℕ) → n ≡ length a + k → take n (a ++ b) ≡ a ++ take k b
take_after [] b n k is =
    let same : n ≡ k = omega (arith, is) in
    ap (λ (m : ℕ). take m b) same
take_after (x ∷ xs) b zero k is = absurd (omega (arith, is))
take_after (x ∷ xs) b (suc n) k is = ap (λ (l : List ℕ). x ∷ l) (take_after xs b n k (omega (arith, is)))

take_within : (a b : List ℕ) (n : ℕ) → n ≤ length a → take n (a ++ b) ≡ take n a
take_within a b zero most = refl
take_within [] b (suc n) most = absurd (omega (arith, most))
take_within (x ∷ xs) b (suc n) most = ap (λ (l : List ℕ). x ∷ l) (take_within xs b n (omega (arith, most)))

-- a prefix of what comes after what was written
pub prefix_after : (a b c : Option (List ℕ)) (text more : List ℕ) → Appends a b text → AppendsFront b c more
    → AppendsFront a c (text ++ more)
prefix_after a b c text more written (n, most, front) =
    let long = length-append text more in (
      length text + n,
      omega (arith, most, long),
      subst (Appends a c) (sym (take_after text more (length text + n) n refl))
          (Appends-trans a b c text (take n more) written front),
    )

-- a prefix of a text is one of what goes on from it
pub prefix_of_more : (a b : Option (List ℕ)) (text more : List ℕ) → AppendsFront a b text → AppendsFront a b (text ++ more)
prefix_of_more a b text more (n, most, front) =
    let long = length-append text more in (
      n,
      omega (arith, most, long),
      subst (Appends a b) (sym (take_within text more n most)) front,
    )

pub none_is_prefix : (output : Option (List ℕ)) (text : List ℕ) → AppendsFront output output text
none_is_prefix output text = (0, omega arith, Appends-nil output)

kept_as_it_was : (a b : Option (List ℕ)) → Keeps a b → Appends a b []
kept_as_it_was None b kept = tt
kept_as_it_was (Some x) None kept = absurd kept
kept_as_it_was (Some x) (Some y) kept = kept ∙ sym (append-nil x)

pub kept_is_prefix : (a b : Option (List ℕ)) (text : List ℕ) → Keeps a b → AppendsFront a b text
kept_is_prefix a b text kept = (0, omega arith, kept_as_it_was a b kept)

-- ---- files, one after the other

pub messages_then : (files : List KeptFile) (file : KeptFile)
    → messages_of (files ++ file ∷ []) ≡ messages_of files ++ file.messages
messages_then files file =
    flat_map-append (λ (f : KeptFile). f.messages) files (file ∷ [])
    ∙ ap (λ (ms : List (List ℕ)). messages_of files ++ ms) (append-nil file.messages)

abbrev pub none_at : KeptFile
none_at = record { prefix = []; messages = [] }

pub same_of : {A : Type 0} (a b : A) → Some a ≡ Some b → a ≡ b
same_of a b is = cc

pub file_more : (files : List KeptFile) (i : ℕ) (file : KeptFile) → i < length files
    → slice_get files i ≡ Some file → messages_of (take (i + 1) files) ≡ messages_of (take i files) ++ file.messages
file_more files i file within is =
    let own = get_or files i none_at in
    let same : own ≡ file = same_of own file (sym (slice_get-get_or files i none_at within) ∙ is) in
    ap messages_of (take_more files i none_at within) ∙ messages_then (take i files) own
    ∙ ap (λ (f : KeptFile). messages_of (take i files) ++ f.messages) same

-- all messages of a shelf's files are those that are kept
kept_then : (gs : List Segment) (active : KeptFile)
    → messages_of (map kept_file gs ++ active ∷ []) ≡ messages_in gs ++ active.messages
kept_then [] active = append-nil active.messages
kept_then (g ∷ gs) active =
    ap (λ (ms : List (List ℕ)). g.messages ++ ms) (kept_then gs active)
    ∙ sym (append_assoc g.messages (messages_in gs) active.messages)

pub all_kept : (s : Shelf) → messages_of (kept_by_file s) ≡ kept_of s
all_kept s = kept_then s.sealed (record { prefix = s.prefix; messages = s.active })

-- ---- the messages that are written of files

-- how many are left to be passed over, and to be written, after these messages
pub skip_more : (skip : ℕ) (ms m : List (List ℕ)) (now next : ℕ) → now ≡ skip - length ms → next ≡ now - length m
    → next ≡ skip - length (ms ++ m)
skip_more skip ms m now next is then = let long = length-append ms m in omega (arith, is, then, long)

pub left_more : (most skip now left next : ℕ) (ms m : List (List ℕ)) → now ≡ skip - length ms
    → left ≡ most - length (drop skip ms) → next ≡ left - asked_count now left (length m)
    → next ≡ most - length (drop skip (ms ++ m))
left_more most skip now left next ms m at is then =
    let parts = ap length (drop_both skip ms m) ∙ length-append (drop skip ms) (drop (skip - length ms) m) in
    let own = length-drop (skip - length ms) m in
    omega (arith, at, is, then, parts, own)

pub written_more : (most skip now left : ℕ) (ms m : List (List ℕ)) (a b c : Option (List ℕ))
    → now ≡ skip - length ms → left ≡ most - length (drop skip ms)
    → Appends a b (joined (take most (drop skip ms))) → Appends b c (joined (take left (drop now m)))
    → Appends a c (joined (take most (drop skip (ms ++ m))))
written_more most skip now left ms m a b c at is before more =
    let front = take most (drop skip ms) in
    let own = take left (drop now m) in
    let same : front ++ own ≡ take most (drop skip (ms ++ m)) =
    ap₂ (λ (l : ℕ) (n : ℕ). front ++ take l (drop n m)) is at ∙ sym (chosen_more most skip ms m) in
    subst (Appends a c) (sym (joined_then front own) ∙ ap joined same)
    (Appends-trans a b c (joined front) (joined own) before more)

-- what was written of the first files is a prefix of all that is to be written
pub cut_in_all : (most skip now left : ℕ) (ms m rest : List (List ℕ)) (a b c : Option (List ℕ))
    → now ≡ skip - length ms → left ≡ most - length (drop skip ms)
    → Appends a b (joined (take most (drop skip ms))) → AppendsFront b c (joined (take left (drop now m)))
    → AppendsFront a c (joined (take most (drop skip ((ms ++ m) ++ rest))))
cut_in_all most skip now left ms m rest a b c at is before more =
    let front = take most (drop skip ms) in
    let own = take left (drop now m) in
    let later = take (most - length (drop skip (ms ++ m))) (drop (skip - length (ms ++ m)) rest) in
    let same : front ++ own ≡ take most (drop skip (ms ++ m)) =
    ap₂ (λ (l : ℕ) (n : ℕ). front ++ take l (drop n m)) is at ∙ sym (chosen_more most skip ms m) in
    let all : joined (front ++ own) ++ joined later ≡ joined (take most (drop skip ((ms ++ m) ++ rest))) =
    sym (joined_then (front ++ own) later) ∙ ap (λ (xs : List (List ℕ)). joined (xs ++ later)) same
    ∙ ap joined (sym (chosen_more most skip (ms ++ m) rest)) in
    subst (AppendsFront a c) all
    (prefix_of_more a c (joined (front ++ own)) (joined later)
    (subst (AppendsFront a c) (sym (joined_then front own))
    (prefix_after a b c (joined front) (joined own) before more)))

-- the files up to one, that one, and those after it
pub parted_after : (files : List KeptFile) (i : ℕ) (file : KeptFile) → i < length files → slice_get files i ≡ Some file
    → messages_of files ≡ (messages_of (take i files) ++ file.messages) ++ messages_of (drop (i + 1) files)
parted_after files i file within is =
    ap messages_of (sym (take-append-drop (i + 1) files))
    ∙ flat_map-append (λ (f : KeptFile). f.messages) (take (i + 1) files) (drop (i + 1) files)
    ∙ ap (λ (ms : List (List ℕ)). ms ++ messages_of (drop (i + 1) files)) (file_more files i file within is)

-- ---- where no messages are chosen

pub dropped : {A : Type 0} (n : ℕ) (xs : List A) → length xs ≤ n → drop n xs ≡ []
dropped zero [] few = refl
dropped zero (x ∷ xs) few = absurd (omega (arith, few))
dropped (suc n) [] few = refl
dropped (suc n) (x ∷ xs) few = dropped n xs (omega (arith, few))

abbrev no_messages : List (List ℕ)
no_messages = []

taken_none : (n : ℕ) → take n no_messages ≡ no_messages
taken_none zero = refl
taken_none (suc n) = refl

pub none_after : (most skip : ℕ) (ms : List (List ℕ)) → length ms ≤ skip → take most (drop skip ms) ≡ []
none_after most skip ms few = ap (take most) (dropped skip ms few) ∙ taken_none most

pub none_left : (most skip : ℕ) → most ≡ most - length (drop skip no_messages)
none_left most skip = let none = ap length (dropped skip no_messages (omega arith)) in omega (arith, none)

pub none_asked : (most skip : ℕ) (ms : List (List ℕ)) → most ≡ 0 → take most (drop skip ms) ≡ []
none_asked most skip ms none = ap (λ (n : ℕ). take n (drop skip ms)) none

pub none_written : (output : Option (List ℕ)) (chosen : List (List ℕ)) → chosen ≡ []
    → Appends output output (joined chosen)
none_written output chosen none =
    subst (λ (ms : List (List ℕ)). Appends output output (joined ms)) (sym none) (Appends-nil output)

-- the file that is found at a place
pub found_there : (files : List KeptFile) (i : ℕ) (file own : KeptFile) → slice_get files i ≡ Some own
    → slice_get files i ≡ Some file → own ≡ file
found_there files i file own is there = same_of own file (sym is ∙ there)

pub same_count : (files : List KeptFile) (i : ℕ) (one other : KeptFile) → slice_get files i ≡ Some one
    → slice_get files i ≡ Some other → length one.messages ≡ length other.messages
same_count files i one other is there = ap (λ (f : KeptFile). length f.messages) (found_there files i other one is there)

-- ---- messages of a list, by the places of the first and of the one after the last

take_min : {A : Type 0} (n : ℕ) (xs : List A) → take (min n (length xs)) xs ≡ take n xs
take_min zero xs = let none : min 0 (length xs) ≡ 0 = omega arith in ap (λ (k : ℕ). take k xs) none
take_min (suc n) [] = let none : min (suc n) 0 ≡ 0 = omega arith in ap (λ (k : ℕ). take k []) none
take_min {A} (suc n) (x ∷ xs) =
    let more : min (suc n) (suc (length xs)) ≡ suc (min n (length xs)) = omega arith in
    ap (λ (k : ℕ). take k (x ∷ xs)) more ∙ ap (λ (ys : List A). x ∷ ys) (take_min n xs)

drop_min : {A : Type 0} (n : ℕ) (xs : List A) → drop (min n (length xs)) xs ≡ drop n xs
drop_min zero xs = let none : min 0 (length xs) ≡ 0 = omega arith in ap (λ (k : ℕ). drop k xs) none
drop_min (suc n) [] = let none : min (suc n) 0 ≡ 0 = omega arith in ap (λ (k : ℕ). drop k []) none
drop_min (suc n) (x ∷ xs) =
    let more : min (suc n) (suc (length xs)) ≡ suc (min n (length xs)) = omega arith in
    ap (λ (k : ℕ). drop k (x ∷ xs)) more ∙ drop_min n xs

pub chosen_is : (most skip from end count : ℕ) (xs : List (List ℕ)) → count ≡ length xs → from ≡ min skip count
    → end ≡ from + min most (count - from) → take (end - from) (drop from xs) ≡ take most (drop skip xs)
chosen_is most skip from end count xs is first last =
    let long = length-drop from xs in
    let many : end - from ≡ min most (length (drop from xs)) = omega (arith, is, first, last, long) in
    let start : from ≡ min skip (length xs) = omega (arith, is, first) in
    ap (λ (k : ℕ). take k (drop from xs)) many ∙ take_min most (drop from xs)
    ∙ ap (λ (k : ℕ). take most (drop k xs)) start ∙ ap (take most) (drop_min skip xs)

pub chosen_count : (most skip from end count : ℕ) (xs : List (List ℕ)) → count ≡ length xs → from ≡ min skip count
    → end ≡ from + min most (count - from) → end - from ≡ asked_count skip most (length xs)
chosen_count most skip from end count xs is first last = omega (arith, is, first, last)

pub first_ones : (count most n : ℕ) (xs : List (List ℕ)) → most ≡ length xs → n ≡ min count most
    → take n xs ≡ take count xs
first_ones count most n xs is few =
    let same : n ≡ min count (length xs) = omega (arith, is, few) in
    ap (λ (k : ℕ). take k xs) same ∙ take_min count xs

-- one message more
pub joined_more : (chosen : List (List ℕ)) (i : ℕ) (item octets : List ℕ) (a b c : Option (List ℕ)) → i < length chosen
    → item ≡ get_or chosen i item → octets ≡ item → Appends a b (joined (take i chosen)) → Appends b c octets
    → Appends a c (joined (take (i + 1) chosen))
joined_more chosen i item octets a b c within is same before more =
    let own : take (i + 1) chosen ≡ take i chosen ++ octets ∷ [] =
    take_more chosen i item within
    ∙ ap (λ (x : List ℕ). take i chosen ++ x ∷ []) (sym is ∙ sym same) in
    subst (Appends a c) (sym (ap joined own ∙ joined_then (take i chosen) (octets ∷ [])
    ∙ ap (λ (o : List ℕ). joined (take i chosen) ++ o) (append-nil octets)))
    (Appends-trans a b c (joined (take i chosen)) octets before more)

-- it is cut
pub joined_cut : (chosen : List (List ℕ)) (i : ℕ) (item octets : List ℕ) (a b c : Option (List ℕ)) → i < length chosen
    → item ≡ get_or chosen i item → octets ≡ item → Appends a b (joined (take i chosen)) → AppendsFront b c octets
    → AppendsFront a c (joined chosen)
joined_cut chosen i item octets a b c within is same before more =
    let rest = drop (i + 1) chosen in
    let own : take (i + 1) chosen ≡ take i chosen ++ octets ∷ [] =
    take_more chosen i item within
    ∙ ap (λ (x : List ℕ). take i chosen ++ x ∷ []) (sym is ∙ sym same) in
    let text : (joined (take i chosen) ++ octets) ++ joined rest ≡ joined chosen =
    ap (λ (o : List ℕ). (joined (take i chosen) ++ o) ++ joined rest) (sym (append-nil octets))
    ∙ ap (λ (o : List ℕ). o ++ joined rest) (sym (joined_then (take i chosen) (octets ∷ [])) ∙ ap joined (sym own))
    ∙ sym (joined_then (take (i + 1) chosen) rest) ∙ ap joined (take-append-drop (i + 1) chosen) in
    subst (AppendsFront a c) text
    (prefix_of_more a c (joined (take i chosen) ++ octets) (joined rest)
    (prefix_after a b c (joined (take i chosen)) octets before more))

-- ---- one file more

module _ (files : List KeptFile) (at : ℕ) (file : KeptFile) (within : at < length files)
    (there : slice_get files at ≡ Some file) where
  abbrev before : List (List ℕ)
  before = messages_of (take at files)

  pub skip_file : (skip now next count : ℕ) → now ≡ skip - length (messages_of (take at files))
      → count ≡ length file.messages → next ≡ now - count
      → next ≡ skip - length (messages_of (take (at + 1) files))
  skip_file skip now next count is many then =
      subst (λ (ms : List (List ℕ)). next ≡ skip - length ms) (sym (file_more files at file within there))
      (skip_more skip before file.messages now next is (then ∙ ap (λ (k : ℕ). now - k) many))

  pub left_file : (most skip now left written : ℕ) → now ≡ skip - length (messages_of (take at files))
      → left ≡ most - length (drop skip (messages_of (take at files)))
      → written ≡ asked_count now left (length file.messages)
      → left - written ≡ most - length (drop skip (messages_of (take (at + 1) files)))
  left_file most skip now left written is rest many =
      subst (λ (ms : List (List ℕ)). left - written ≡ most - length (drop skip ms))
      (sym (file_more files at file within there))
      (left_more most skip now left (left - written) before file.messages is rest (ap (λ (k : ℕ). left - k) many))

  pub written_file : (most skip now left : ℕ) (a b c : Option (List ℕ))
      → now ≡ skip - length (messages_of (take at files))
      → left ≡ most - length (drop skip (messages_of (take at files)))
      → Appends a b (joined (take most (drop skip (messages_of (take at files)))))
      → Appends b c (joined (take left (drop now file.messages)))
      → Appends a c (joined (take most (drop skip (messages_of (take (at + 1) files)))))
  written_file most skip now left a b c is rest so_far more =
      subst (λ (ms : List (List ℕ)). Appends a c (joined (take most (drop skip ms))))
      (sym (file_more files at file within there))
      (written_more most skip now left before file.messages a b c is rest so_far more)

  pub cut_file : (most skip now left : ℕ) (a b c : Option (List ℕ))
      → now ≡ skip - length (messages_of (take at files))
      → left ≡ most - length (drop skip (messages_of (take at files)))
      → Appends a b (joined (take most (drop skip (messages_of (take at files)))))
      → AppendsFront b c (joined (take left (drop now file.messages)))
      → AppendsFront a c (joined (take most (drop skip (messages_of files))))
  cut_file most skip now left a b c is rest so_far more =
      subst (λ (ms : List (List ℕ)). AppendsFront a c (joined (take most (drop skip ms))))
      (sym (parted_after files at file within there))
      (cut_in_all most skip now left before file.messages (messages_of (drop (at + 1) files)) a b c is rest so_far more)
