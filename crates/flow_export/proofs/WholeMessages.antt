-- Messages that are whole by their own headers, and prefixes of such ones.
use Rattle.std.proofs.Common.{◌≡◌, ◌∙◌, ◌≤◌, ◌<◌, ℕ, zero, suc, ◌+◌, ◌-◌, List, [], ◌∷◌, ◌++◌, Option, Some, length, take}
use Rattle.std.proofs.Common.{◌⊎◌, drop, inl, inr}
use Rattle.std.proofs.Common.{get_or, refl, sym, ap, ap₂, subst, append-nil, arith}
use Rattle.std.specs.Prelude.{min, slice_get}
use Rattle.std.specs.List.{AllByRecursion}
use Rattle.std.specs.Io.KnownBytes.{Appends, Keeps}
use Rattle.std.proofs.KnownBytes.{Appends-nil, Appends-trans}
use Rattle.std.proofs.lemmas.List.{length-append, length-drop, length-take, take_more}
use Rattle.flow_codec.specs.Cutting.{IsCutOff}
use Rattle.flow_codec.specs.Message.{joined}
use Rattle.flow_report.specs.Writing.{AppendsFront}
use Rattle.flow_snapshot.specs.Found.{KeptFile}
use Rattle.flow_export.specs.Export.{asked_count, messages_of, AreMessages, Writes, WritesSome}
use Rattle.flow_export.proofs.Choosing.{file_more, joined_then, none_is_prefix, parted_after, prefix_after}
use Rattle.flow_export.proofs.Choosing.{kept_is_prefix, prefix_of_more}

-- ---- messages of a list

pub all_then : {A : Type 0} (P : A → Type 0) (xs ys : List A) → AllByRecursion P xs → AllByRecursion P ys
    → AllByRecursion P (xs ++ ys)
all_then P [] ys all more = more
all_then P (x ∷ xs) ys all more = (all.0, all_then P xs ys all.1 more)

all_first : (n : ℕ) (xs : List (List ℕ)) → AllByRecursion IsCutOff xs → AllByRecursion IsCutOff (take n xs)
all_first zero xs all = tt
all_first (suc n) [] all = tt
all_first (suc n) (x ∷ xs) all = (all.0, all_first n xs all.1)

all_later : (n : ℕ) (xs : List (List ℕ)) → AllByRecursion IsCutOff xs → AllByRecursion IsCutOff (drop n xs)
all_later zero xs all = all
all_later (suc n) [] all = tt
all_later (suc n) (x ∷ xs) all = all_later n xs all.1

all_at : (i : ℕ) (xs : List (List ℕ)) (x : List ℕ) → i < length xs → AllByRecursion IsCutOff xs → IsCutOff (get_or xs i x)
all_at i [] x within all = absurd (omega (arith, within))
all_at zero (y ∷ ys) x within all = all.0
all_at (suc i) (y ∷ ys) x within all = all_at i ys x (omega (arith, within)) all.1

-- one of those that were chosen
pub chosen_whole : (from count i : ℕ) (xs : List (List ℕ)) (item octets : List ℕ) → i < length (take count (drop from xs))
    → item ≡ get_or (take count (drop from xs)) i item → octets ≡ item → AllByRecursion IsCutOff xs → IsCutOff octets
chosen_whole from count i xs item octets within is same all =
    let chosen = take count (drop from xs) in
    subst IsCutOff (sym (same ∙ is)) (all_at i chosen item within (all_first count (drop from xs) (all_later from xs all)))

pub whole_more : (chosen : List (List ℕ)) (i : ℕ) (item octets : List ℕ) → i < length chosen
    → item ≡ get_or chosen i item → octets ≡ item → AllByRecursion IsCutOff (take i chosen) → IsCutOff octets
    → AllByRecursion IsCutOff (take (i + 1) chosen)
whole_more chosen i item octets within is same all whole =
    let own : take (i + 1) chosen ≡ take i chosen ++ octets ∷ [] =
    take_more chosen i item within
    ∙ ap (λ (x : List ℕ). take i chosen ++ x ∷ []) (sym is ∙ sym same) in
    subst (AllByRecursion IsCutOff) (sym own) (all_then IsCutOff (take i chosen) (octets ∷ []) all (whole, tt))

-- ---- so many messages

-- one of a header alone
abbrev bare : List ℕ
bare = 0 ∷ 10 ∷ 0 ∷ 16 ∷ 0 ∷ 0 ∷ 0 ∷ 0 ∷ 0 ∷ 0 ∷ 0 ∷ 0 ∷ 0 ∷ 0 ∷ 0 ∷ 0 ∷ []

bare_whole : IsCutOff bare
bare_whole = record { long = omega arith; version = refl; len = refl }

bares : ℕ → List (List ℕ)
bares zero = []
bares (suc n) = bare ∷ bares n

bares_whole : (n : ℕ) → AllByRecursion IsCutOff (bares n)
unfolding bares
bares_whole zero = tt
bares_whole (suc n) = (bare_whole, bares_whole n)

bares_count : (n : ℕ) → length (bares n) ≡ n
unfolding bares
bares_count zero = refl
bares_count (suc n) = ap suc (bares_count n)

pub some_messages : (n : ℕ) → (text : List ℕ) × AreMessages n text
some_messages n = (joined (bares n), (bares n, bares_whole n, bares_count n, refl))

no_messages_more : AreMessages 0 []
no_messages_more = ([], tt, refl, refl)

pub joined_both : (ms ns : List (List ℕ)) (x y : List ℕ) → x ≡ joined ms → y ≡ joined ns → x ++ y ≡ joined (ms ++ ns)
joined_both ms ns x y text other = ap₂ (λ (s : List ℕ) (t : List ℕ). s ++ t) text other ∙ sym (joined_then ms ns)

messages_both : (a b n : ℕ) (x y : List ℕ) → a + b ≡ n → AreMessages a x → AreMessages b y → AreMessages n (x ++ y)
messages_both a b n x y is (ms, whole, many, text) (ns, more, few, other) =
    let long = length-append ms ns in (
      ms ++ ns,
      all_then IsCutOff ms ns whole more,
      omega (arith, is, many, few, long),
      joined_both ms ns x y text other,
    )

pub written_both : (a b n : ℕ) (old mid new : Option (List ℕ)) → a + b ≡ n → Writes (AreMessages a) old mid
    → Writes (AreMessages b) mid new → Writes (AreMessages n) old new
written_both a b n old mid new is (x, first, one) (y, second, two) =
    (x ++ y, messages_both a b n x y is first second, Appends-trans old mid new x y one two)

-- a prefix of so many messages is one of more
pub part_of_more : (a n : ℕ) (old new : Option (List ℕ)) → a ≤ n → WritesSome (AreMessages a) old new
    → WritesSome (AreMessages n) old new
part_of_more a n old new few (text, are, some) =
    let more = some_messages (n - a) in (
      text ++ more.0,
      messages_both a (n - a) n text more.0 (omega (arith, few)) are more.1,
      prefix_of_more old new text more.0 some,
    )

pub part_after : (a b n : ℕ) (old mid new : Option (List ℕ)) → a + b ≤ n → Writes (AreMessages a) old mid
    → WritesSome (AreMessages b) mid new → WritesSome (AreMessages n) old new
part_after a b n old mid new few (x, first, one) (y, second, two) =
    part_of_more (a + b) n old new few
    (x ++ y, messages_both a b (a + b) x y refl first second, prefix_after old mid new x y one two)

pub none_of_them : (n : ℕ) (output : Option (List ℕ)) → WritesSome (AreMessages n) output output
none_of_them n output = let text = some_messages n in (text.0, text.1, none_is_prefix output text.0)

pub none_whole : (n : ℕ) (output : Option (List ℕ)) → n ≡ 0 → Writes (AreMessages n) output output
none_whole n output none =
    subst (λ (k : ℕ). Writes (AreMessages k) output output) (sym none) ([], no_messages_more, Appends-nil output)

-- a message that is whole was cut, or nothing of it was written
pub one_cut : (octets : List ℕ) (old new : Option (List ℕ)) → Keeps old new ⊎ IsCutOff octets → AppendsFront old new octets
    → WritesSome (AreMessages 1) old new
one_cut octets old new (inl kept) some =
    let text = some_messages 1 in (text.0, text.1, kept_is_prefix old new text.0 kept)
one_cut octets old new (inr whole) some =
    (octets, (octets ∷ [], (whole, tt), refl, sym (append-nil octets)), some)

-- ---- the messages of a file, from one place on and up to another

pub all_written : (most skip from end count : ℕ) (xs : List (List ℕ)) (old new : Option (List ℕ)) → count ≡ length xs
    → from ≡ min skip count → end ≡ from + min most (count - from)
    → AllByRecursion IsCutOff (take (end - from) (drop from xs))
    → Appends old new (joined (take (end - from) (drop from xs)))
    → Writes (AreMessages (asked_count skip most (length xs))) old new
all_written most skip from end count xs old new is first last whole all =
    let chosen = take (end - from) (drop from xs) in
    let taken = length-take (end - from) (drop from xs) in
    let left = length-drop from xs in
    (joined chosen, (chosen, whole, omega (arith, is, first, last, taken, left), refl), all)

pub first_written : (chosen : List (List ℕ)) (i : ℕ) (old new : Option (List ℕ)) → i < length chosen
    → AllByRecursion IsCutOff (take i chosen) → Appends old new (joined (take i chosen)) → Writes (AreMessages i) old new
first_written chosen i old new within whole all =
    let taken = length-take i chosen in
    (joined (take i chosen), (take i chosen, whole, omega (arith, within, taken), refl), all)

pub next_within : (most skip from end count i : ℕ) (xs : List (List ℕ)) → count ≡ length xs → from ≡ min skip count
    → end ≡ from + min most (count - from) → i < length (take (end - from) (drop from xs))
    → i + 1 ≤ asked_count skip most (length xs)
next_within most skip from end count i xs is first last within =
    let taken = length-take (end - from) (drop from xs) in
    let left = length-drop from xs in
    omega (arith, is, first, last, within, taken, left)

-- ---- how many of the messages of files

pub count_more : (most skip now left : ℕ) (ms m : List (List ℕ)) → now ≡ skip - length ms
    → left ≡ most - length (drop skip ms)
    → asked_count skip most (length ms) + asked_count now left (length m) ≡ asked_count skip most (length (ms ++ m))
count_more most skip now left ms m at is =
    let long = length-append ms m in
    let own = length-drop skip ms in
    omega (arith, at, is, long, own)

pub count_in_all : (most skip now left : ℕ) (ms m rest : List (List ℕ)) → now ≡ skip - length ms
    → left ≡ most - length (drop skip ms)
    → asked_count skip most (length ms) + asked_count now left (length m)
    ≤ asked_count skip most (length ((ms ++ m) ++ rest))
count_in_all most skip now left ms m rest at is =
    let long = length-append ms m in
    let all = length-append (ms ++ m) rest in
    let own = length-drop skip ms in
    omega (arith, at, is, long, all, own)

-- one file more
module _ (files : List KeptFile) (at : ℕ) (file : KeptFile) (within : at < length files)
    (there : slice_get files at ≡ Some file) (most skip now left : ℕ) (a b c : Option (List ℕ))
    (skipped : now ≡ skip - length (messages_of (take at files)))
    (rest : left ≡ most - length (drop skip (messages_of (take at files))))
    (so_far : Writes (AreMessages (asked_count skip most (length (messages_of (take at files))))) a b) where
  abbrev before : List (List ℕ)
  before = messages_of (take at files)

  pub whole_file : Writes (AreMessages (asked_count now left (length file.messages))) b c
      → Writes (AreMessages (asked_count skip most (length (messages_of (take (at + 1) files))))) a c
  whole_file more =
      subst (λ (ms : List (List ℕ)). Writes (AreMessages (asked_count skip most (length ms))) a c)
      (sym (file_more files at file within there))
      (written_both (asked_count skip most (length before)) (asked_count now left (length file.messages))
      (asked_count skip most (length (before ++ file.messages))) a b c
      (count_more most skip now left before file.messages skipped rest) so_far more)

  pub part_file : WritesSome (AreMessages (asked_count now left (length file.messages))) b c
      → WritesSome (AreMessages (asked_count skip most (length (messages_of files)))) a c
  part_file more =
      let later = messages_of (drop (at + 1) files) in
      subst (λ (ms : List (List ℕ)). WritesSome (AreMessages (asked_count skip most (length ms))) a c)
      (sym (parted_after files at file within there))
      (part_after (asked_count skip most (length before)) (asked_count now left (length file.messages))
      (asked_count skip most (length ((before ++ file.messages) ++ later))) a b c
      (count_in_all most skip now left before file.messages later skipped rest) so_far more)
