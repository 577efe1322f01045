-- Whether sums of a view meet a span, found part by part.
use Rattle.std.proofs.Common.{◌≡◌, ◌∙◌, ◌<◌, ◌≤◌, ℕ, zero, suc, ◌+◌, ◌*◌, List, [], ◌∷◌, ◌++◌, length, take, refl, sym, ap}
use Rattle.std.proofs.Common.{Bool, true, false, Option, Some, None, cond, subst, arith, inl, inr, length-append}
use Rattle.std.specs.Prelude.{◌||◌, ◌==◌, ◌-◌, ◌%◌, is_some}
use Rattle.std.specs.FinMap.{FinMap, entries}
use Rattle.std.specs.List.{flat_map, list_any, AllZip}
use Rattle.std.proofs.lemmas.Bool.{cases_lt, eq-eqb, ne_eqb}
use Rattle.std.proofs.lemmas.List.{take-append-le, take_all}
use Rattle.std.proofs.lemmas.List.Folds.{list_any-append}
use Rattle.std.proofs.lemmas.Nat.{mod-mul-add}
use Rattle.flow_measure.specs.declared.rows.Key.{Key}
use Rattle.flow_measure.specs.declared.rows.Sums.{Sums}
use Rattle.flow_measure.specs.Sums.{gathered, is_key, key_cmp, Table}
use Rattle.flow_measure.specs.View.{gathered_all, View}
use Rattle.flow_measure.proofs.Gathering.{get-gathered, joined, one, sum_at, sum_at-append}
use Rattle.flow_measure.proofs.Gathering.{sum_at-entries}
use Rattle.flow_measure.proofs.Keys.{is_key-refl, same_key}
use Rattle.flow_model.specs.Shelf.{Shelf}
use Rattle.flow_model.specs.Views.{IsViewOf}
use Rattle.flow_snapshot.specs.declared.shares.PartSums.{PartSums}
use Rattle.flow_snapshot.specs.Shares.{narrow_turn, next_turn, own, summed, turn_after}
use Rattle.flow_snapshot.proofs.ViewParts.{parts_of, PartsOf}
use Rattle.flow_export.specs.Span.{has_row, meets, meets_sums}
use Rattle.flow_export.proofs.FindingSpans.{either, neither}
use Rattle.flow_export.proofs.Spanning.{both_false}

-- ---- keys of gathered sums

some_joined : (a b : Option Sums) → is_some (joined a b) ≡ (is_some a || is_some b)
some_joined None b = refl
some_joined (Some a) None = refl
some_joined (Some a) (Some b) = refl

some_cond : (b : Bool) (s : Sums) → is_some (cond b (Some s) None) ≡ b
some_cond true s = refl
some_cond false s = refl

-- whether a list has a key
abbrev has_key : Key → List (Key × Sums) → Bool
has_key q es = list_any (λ e. is_key q e.0) es

key_found : (q : Key) (es : List (Key × Sums)) → is_some (sum_at q es) ≡ has_key q es
key_found q [] = refl
key_found q (e ∷ es) =
    ap is_some (sum_at-append q (e ∷ []) es) ∙ some_joined (sum_at q (e ∷ [])) (sum_at q es)
    ∙ ap (λ (b : Bool). b || is_some (sum_at q es)) (ap is_some (one q e.0 e.1) ∙ some_cond (is_key q e.0) e.1)
    ∙ ap (λ (b : Bool). is_key q e.0 || b) (key_found q es)

module _ (test : Key → Bool) where
  abbrev passes : List (Key × Sums) → Bool
  passes es = list_any (λ e. test e.0) es

  key_of_pass : (es : List (Key × Sums)) → passes es ≡ true → (q : Key) × (test q ≡ true) × (has_key q es ≡ true)
  key_of_pass [] is = absurd cc
  key_of_pass (e ∷ es) is = by (test e.0) refl is (key_of_pass es)
    where
      by : (b : Bool) → test e.0 ≡ b → (b || passes es) ≡ true
          → (passes es ≡ true → (q : Key) × (test q ≡ true) × (has_key q es ≡ true))
          → (q : Key) × (test q ≡ true) × (has_key q (e ∷ es) ≡ true)
      by true here is later =
          (e.0, here, ap (λ (b : Bool). b || has_key e.0 es) (is_key-refl e.0))
      by false here is later =
          let more = later is in (more.0, more.1, either (is_key more.0 e.0) (has_key more.0 es) more.2)

  pass_of_key : (q : Key) (es : List (Key × Sums)) → test q ≡ true → has_key q es ≡ true → passes es ≡ true
  pass_of_key q [] is has = absurd cc
  pass_of_key q (e ∷ es) is has = by (is_key q e.0) refl has (pass_of_key q es is)
    where
      by : (b : Bool) → is_key q e.0 ≡ b → (b || has_key q es) ≡ true → (has_key q es ≡ true → passes es ≡ true)
          → passes (e ∷ es) ≡ true
      by true here has later = ap (λ (b : Bool). b || passes es) (sym (ap test (same_key q e.0 here)) ∙ is)
      by false here has later = either (test e.0) (passes es) (later has)

  as_bool : (a b : Bool) → (a ≡ true → b ≡ true) → (b ≡ true → a ≡ true) → a ≡ b
  as_bool true b there back = sym (there refl)
  as_bool false true there back = back refl
  as_bool false false there back = refl

  same_keys : (es fs : List (Key × Sums)) → ((q : Key) → sum_at q es ≡ sum_at q fs) → passes es ≡ passes fs
  same_keys es fs same = as_bool (passes es) (passes fs) (across es fs same) (across fs es (λ q. sym (same q)))
    where
      across : (xs ys : List (Key × Sums)) → ((q : Key) → sum_at q xs ≡ sum_at q ys) → passes xs ≡ true
          → passes ys ≡ true
      across xs ys alike is =
          let key = key_of_pass xs is in
          pass_of_key key.0 ys key.1
          (sym (key_found key.0 ys) ∙ ap is_some (sym (alike key.0)) ∙ key_found key.0 xs ∙ key.2)

  pub passes_gathered : (es : List (Key × Sums)) → passes (entries (gathered es)) ≡ passes es
  passes_gathered es =
      same_keys (entries (gathered es)) es (λ q. sum_at-entries (gathered es) q ∙ get-gathered es q)

  passes_all : (maps : List (FinMap key_cmp Sums))
      → passes (flat_map entries maps) ≡ list_any (λ (m : FinMap key_cmp Sums). passes (entries m)) maps
  passes_all [] = refl
  passes_all (m ∷ maps) =
      list_any-append (λ (e : Key × Sums). test e.0) (entries m) (flat_map entries maps)
      ∙ ap (λ (b : Bool). passes (entries m) || b) (passes_all maps)

-- sums of parts, added, have a row where one of these has
row_of_all : (from to width : ℕ) (maps : List (FinMap key_cmp Sums))
    → has_row from to width (gathered_all maps) ≡ list_any (has_row from to width) maps
row_of_all from to width maps =
    passes_gathered (meets from to width) (flat_map entries maps) ∙ passes_all (meets from to width) maps

-- ---- one worker's own

or_more : (a b c : Bool) → (a || (b || c)) ≡ ((a || b) || c)
or_more true b c = refl
or_more false b c = refl

module _ (workers : ℕ) where
  turn_is : (turn : ℕ) → suc turn < workers → next_turn workers turn ≡ suc turn
  turn_is turn within =
      let same : turn + 1 ≡ 0 * workers + suc turn = omega arith in
      ap (λ (n : ℕ). n % workers) same ∙ mod-mul-add 0 workers (suc turn) within

  after_is : (n turn : ℕ) → turn + n < workers → turn_after workers n turn ≡ turn + n
  after_is zero turn within = omega arith
  after_is (suc n) turn within =
      let more : suc turn + n ≡ turn + suc n = omega arith in
      ap (turn_after workers n) (turn_is turn (omega (arith, within)))
      ∙ after_is n (suc turn) (omega (arith, within)) ∙ more

  module _ {A : Type 0} (k : ℕ) where
    next_own : (turn : ℕ) (xs : List A) → suc turn + length xs ≤ workers
        → own workers k (next_turn workers turn) xs ≡ own workers k (suc turn) xs
    next_own turn [] within = refl
    next_own turn (x ∷ xs) within =
        ap (λ (t : ℕ). own workers k t (x ∷ xs)) (turn_is turn (omega (arith, within)))

    none_own : (turn : ℕ) (xs : List A) → turn + length xs ≤ workers → k < turn → own workers k turn xs ≡ []
    none_own turn [] within before = refl
    none_own turn (x ∷ xs) within before =
        let not : (turn == k) ≡ false = ne_eqb turn k (λ e. omega (arith, e, before)) in
        ap (λ (b : Bool). cond b (x ∷ own workers k (next_turn workers turn) xs)
        (own workers k (next_turn workers turn) xs)) not
        ∙ next_own turn xs (omega (arith, within)) ∙ none_own (suc turn) xs (omega (arith, within)) (omega (arith, before))

    abbrev no_parts : List A
    no_parts = []

    take_none : (n : ℕ) → take n no_parts ≡ no_parts
    take_none zero = refl
    take_none (suc n) = refl

    -- of the parts up to a place the last one is the worker's own
    one_own : (test : A → Bool) (turn : ℕ) (xs : List A) → turn + length xs ≤ workers
        → list_any test (take (suc k - turn) xs)
        ≡ (list_any test (take (k - turn) xs) || list_any test (own workers k turn xs))
    one_own test turn [] within =
        ap (list_any test) (take_none (suc k - turn))
        ∙ sym (ap (λ (l : List A). list_any test l || false) (take_none (k - turn)))
    one_own test turn (x ∷ xs) within = elim (cases_lt turn k) [
      | inl before ↦
          let some : suc k - turn ≡ suc (suc k - suc turn) = omega (arith, before) in
          let less : k - turn ≡ suc (k - suc turn) = omega (arith, before) in
          let not : (turn == k) ≡ false = ne_eqb turn k (λ e. omega (arith, e, before)) in
          let rest = own workers k (next_turn workers turn) xs in
          let later : own workers k turn (x ∷ xs) ≡ own workers k (suc turn) xs =
          ap (λ (b : Bool). cond b (x ∷ rest) rest) not ∙ next_own turn xs (omega (arith, within)) in
          ap (λ (n : ℕ). list_any test (take n (x ∷ xs))) some
          ∙ ap (λ (b : Bool). test x || b) (one_own test (suc turn) xs (omega (arith, within)))
          ∙ or_more (test x) (list_any test (take (k - suc turn) xs)) (list_any test (own workers k (suc turn) xs))
          ∙ ap (λ (n : ℕ). list_any test (take n (x ∷ xs)) || list_any test (own workers k (suc turn) xs)) (sym less)
          ∙ ap (λ (l : List A). list_any test (take (k - turn) (x ∷ xs)) || list_any test l) (sym later)
      | inr from_on ↦ elim (cases_lt k turn) [
        | inl past ↦
            let none : suc k - turn ≡ 0 = omega (arith, past) in
            let nor : k - turn ≡ 0 = omega (arith, past) in
            ap (λ (n : ℕ). list_any test (take n (x ∷ xs))) none
            ∙ sym (ap (λ (n : ℕ). list_any test (take n (x ∷ xs)) || list_any test (own workers k turn (x ∷ xs))) nor
            ∙ ap (list_any test) (none_own turn (x ∷ xs) within past))
        | inr up_to ↦
            let here : turn ≡ k = omega (arith, from_on, up_to) in
            let one : suc k - turn ≡ 1 = omega (arith, here) in
            let none : k - turn ≡ 0 = omega (arith, here) in
            let rest = own workers k (next_turn workers turn) xs in
            let mine : own workers k turn (x ∷ xs) ≡ x ∷ [] =
            ap (λ (b : Bool). cond b (x ∷ rest) rest) (eq-eqb turn k here)
            ∙ ap (λ (l : List A). x ∷ l) (next_own turn xs (omega (arith, within))
            ∙ none_own (suc turn) xs (omega (arith, within)) (omega (arith, here))) in
            ap (λ (n : ℕ). list_any test (take n (x ∷ xs))) one
            ∙ sym (ap (λ (n : ℕ). list_any test (take n (x ∷ xs)) || list_any test (own workers k turn (x ∷ xs))) none
            ∙ ap (list_any test) mine)
      ]
    ]

any_taken : {A : Type 0} (test : A → Bool) (n : ℕ) (xs : List A) → list_any test (take n xs) ≡ true
    → list_any test xs ≡ true
any_taken test zero xs is = absurd cc
any_taken test (suc n) [] is = absurd cc
any_taken test (suc n) (x ∷ xs) is = by (test x) is (any_taken test n xs)
  where
    by : (b : Bool) → (b || list_any test (take n xs)) ≡ true
        → (list_any test (take n xs) ≡ true → list_any test xs ≡ true) → (b || list_any test xs) ≡ true
    by true is later = refl
    by false is later = later is

zip_length : {A B : Type 0} (P : A → B → Type 0) (xs : List A) (ys : List B) → AllZip P xs ys → length ys ≡ length xs
zip_length P [] [] h = refl
zip_length P [] (y ∷ ys) h = absurd h
zip_length P (x ∷ xs) [] h = absurd h
zip_length P (x ∷ xs) (y ∷ ys) h = ap suc (zip_length P xs ys h.1)

-- ---- the parts of a view

-- the first parts, so many, have no row of an interval that meets the span
pub record NoneMet (s : Shelf) (v : View) (view : IsViewOf s v) (from to k : ℕ) : Type 0 where
  pub wide : list_any (has_row from to s.wide) (take k (parts_of s v view).wide) ≡ false
  pub narrow : list_any (has_row from to s.width) (take (k - length s.merged) (parts_of s v view).narrow) ≡ false

pub none_met : (s : Shelf) (v : View) (view : IsViewOf s v) (from to : ℕ) → NoneMet s v view from to 0
none_met s v view from to =
    let none : 0 - length s.merged ≡ 0 = omega arith in record {
      wide = refl;
      narrow = ap (λ (n : ℕ). list_any (has_row from to s.width) (take n (parts_of s v view).narrow)) none;
    }

module _ (s : Shelf) (v : View) (view : IsViewOf s v) (from to workers : ℕ)
    (enough : length s.merged + (length s.rolled + (length s.sealed + 1)) ≤ workers) where
  abbrev p : PartsOf s v
  p = parts_of s v view

  abbrev wide_row : FinMap key_cmp Sums → Bool
  wide_row = has_row from to s.wide

  abbrev row : FinMap key_cmp Sums → Bool
  row = has_row from to s.width

  abbrev others : List (FinMap key_cmp Sums)
  others = (p.are_narrow).sealed ++ (p.are_narrow).active ∷ []

  wide_count : length p.wide ≡ length s.merged
  wide_count = zip_length _ s.merged p.wide p.are_wide

  rolled_count : length (p.are_narrow).rolled ≡ length s.rolled
  rolled_count = zip_length _ s.rolled (p.are_narrow).rolled (p.are_narrow).of_rolled

  narrow_count : length p.narrow ≡ length s.rolled + (length s.sealed + 1)
  narrow_count =
      ap length (p.are_narrow).all ∙ length-append (p.are_narrow).rolled others
      ∙ ap (λ (n : ℕ). length (p.are_narrow).rolled + n)
      (length-append (p.are_narrow).sealed ((p.are_narrow).active ∷ []))
      ∙ (let sealed = zip_length _ s.sealed (p.are_narrow).sealed (p.are_narrow).of_sealed in
      omega (arith, rolled_count, sealed))

  turn : narrow_turn s workers ≡ length s.merged
  turn =
      let same : 0 + length s.merged ≡ length s.merged = omega arith in
      after_is workers (length s.merged) 0 (omega (arith, enough)) ∙ same

  is_met : (wide narrow : Bool) → has_row from to s.wide v.merged ≡ wide
      → list_any (has_row from to s.width) v.rolled ≡ narrow → meets_sums from to v ≡ (wide || narrow)
  is_met wide narrow one two =
      ap (λ (w : ℕ). has_row from to w v.merged || list_any (has_row from to v.width) v.rolled) view.wide
      ∙ ap (λ (w : ℕ). has_row from to s.wide v.merged || list_any (has_row from to w) v.rolled) view.width
      ∙ ap (λ (b : Bool). b || list_any (has_row from to s.width) v.rolled) one ∙ ap (λ (b : Bool). wide || b) two

  merged_is : has_row from to s.wide v.merged ≡ list_any wide_row p.wide
  merged_is = ap (λ (t : Table). has_row from to s.wide t.sums) (sym p.wide_is) ∙ row_of_all from to s.wide p.wide

  -- the first of the others are those of rolled files
  first_narrow : (n : ℕ) → n ≤ length s.rolled → take n p.narrow ≡ take n v.rolled
  first_narrow n few =
      ap (take n) (p.are_narrow).all
      ∙ take-append-le n (p.are_narrow).rolled others (omega (arith, few, rolled_count))

  module _ (k : ℕ) (sums : PartSums) (within : k < length s.merged + length s.rolled)
      (wide : sums.wide ≡ summed s.wide (own workers k 0 (parts_of s v view).wide))
      (narrow : sums.narrow ≡ summed s.width (own workers k (narrow_turn s workers) (parts_of s v view).narrow)) where
    wide_own : has_row from to (sums.wide).width (sums.wide).sums ≡ list_any wide_row (own workers k 0 p.wide)
    wide_own =
        ap (λ (t : Table). has_row from to t.width t.sums) wide ∙ row_of_all from to s.wide (own workers k 0 p.wide)

    narrow_own : has_row from to (sums.narrow).width (sums.narrow).sums
        ≡ list_any row (own workers k (length s.merged) p.narrow)
    narrow_own =
        ap (λ (t : Table). has_row from to t.width t.sums) narrow
        ∙ row_of_all from to s.width (own workers k (narrow_turn s workers) p.narrow)
        ∙ ap (λ (t : ℕ). list_any row (own workers k t p.narrow)) turn

    wide_next : list_any wide_row (take (suc k) p.wide)
        ≡ (list_any wide_row (take k p.wide) || list_any wide_row (own workers k 0 p.wide))
    wide_next =
        let more : suc k ≡ suc k - 0 = omega arith in
        let less : k - 0 ≡ k = omega arith in
        ap (λ (n : ℕ). list_any wide_row (take n p.wide)) more
        ∙ one_own workers k wide_row 0 p.wide (omega (arith, enough, wide_count))
        ∙ ap (λ (n : ℕ). list_any wide_row (take n p.wide) || list_any wide_row (own workers k 0 p.wide)) less

    narrow_next : list_any row (take (suc k - length s.merged) p.narrow)
        ≡ (list_any row (take (k - length s.merged) p.narrow)
        || list_any row (own workers k (length s.merged) p.narrow))
    narrow_next = one_own workers k row (length s.merged) p.narrow (omega (arith, enough, narrow_count))

    -- whether this part has one
    abbrev wide_has : Bool
    wide_has = has_row from to (sums.wide).width (sums.wide).sums

    abbrev narrow_has : Bool
    narrow_has = has_row from to (sums.narrow).width (sums.narrow).sums

    pub one_not : (has_row from to (sums.wide).width (sums.wide).sums
        || has_row from to (sums.narrow).width (sums.narrow).sums) ≡ false → NoneMet s v view from to k
        → NoneMet s v view from to (k + 1)
    one_not neither_has none =
        let more : k + 1 ≡ suc k = omega arith in
        let each = both_false wide_has narrow_has neither_has in
        subst (NoneMet s v view from to) (sym more) (record {
          wide = wide_next
              ∙ neither (list_any wide_row (take k p.wide)) (list_any wide_row (own workers k 0 p.wide)) none.wide
              (sym wide_own ∙ each.0);
          narrow = narrow_next
              ∙ neither (list_any row (take (k - length s.merged) p.narrow))
              (list_any row (own workers k (length s.merged) p.narrow)) none.narrow (sym narrow_own ∙ each.1);
        })

    wide_met : has_row from to (sums.wide).width (sums.wide).sums ≡ true → true ≡ meets_sums from to v
    wide_met is =
        let first : list_any wide_row (take (suc k) p.wide) ≡ true =
        wide_next
        ∙ either (list_any wide_row (take k p.wide)) (list_any wide_row (own workers k 0 p.wide)) (sym wide_own ∙ is) in
        sym (is_met true (list_any row v.rolled) (merged_is ∙ any_taken wide_row (suc k) p.wide first) refl)

    narrow_met : has_row from to (sums.narrow).width (sums.narrow).sums ≡ true → true ≡ meets_sums from to v
    narrow_met is =
        let first : list_any row (take (suc k - length s.merged) p.narrow) ≡ true =
        narrow_next
        ∙ either (list_any row (take (k - length s.merged) p.narrow))
        (list_any row (own workers k (length s.merged) p.narrow)) (sym narrow_own ∙ is) in
        let n = suc k - length s.merged in
        let rolled : list_any row v.rolled ≡ true =
        any_taken row n v.rolled (sym (ap (list_any row) (first_narrow n (omega (arith, within)))) ∙ first) in
        sym (is_met (has_row from to s.wide v.merged) true refl rolled
        ∙ either (has_row from to s.wide v.merged) true refl)

    pub one_met : (has_row from to (sums.wide).width (sums.wide).sums
        || has_row from to (sums.narrow).width (sums.narrow).sums) ≡ true → true ≡ meets_sums from to v
    one_met either_has = by wide_has refl either_has
      where
        by : (b : Bool) → wide_has ≡ b → (b || narrow_has) ≡ true → true ≡ meets_sums from to v
        by true here is = wide_met here
        by false here is = narrow_met is

  -- no part has one
  pub all_not : (k : ℕ) → k ≡ length s.merged + length s.rolled → NoneMet s v view from to k
      → false ≡ meets_sums from to v
  all_not k all none =
      let n = k - length s.merged in
      let many : n ≡ length s.rolled = omega (arith, all) in
      let rolled : take n v.rolled ≡ v.rolled =
      take_all n v.rolled (omega (arith, many, rolled_count)) in
      sym (is_met false false
      (merged_is ∙ ap (list_any wide_row) (sym (take_all k p.wide (omega (arith, all, wide_count)))) ∙ none.wide)
      (ap (list_any row) (sym (first_narrow n (omega (arith, many)) ∙ rolled)) ∙ none.narrow))
