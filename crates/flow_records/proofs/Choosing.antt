-- The records of a message that are held.
use Rattle.std.proofs.Common.{◌≡◌, ℕ, ◌+◌, ◌<◌, ◌≤◌, List, [], ◌∷◌, ◌++◌, length, drop, get_or, refl, sym, ap, ◌∙◌}
use Rattle.std.proofs.Common.{add-one, drop-cons, Bool, true, false, subst, take, min, append-nil, append_assoc, arith}
use Rattle.std.proofs.Common.{length-append, length-drop}
use Rattle.std.specs.Prelude.{map, sum_by}
use Rattle.std.specs.List.{flat_map}
use Rattle.std.proofs.lemmas.List.{drop_all, take_all, take_min, drop_min, take-append-le, drop-append-le, map-append}
use Rattle.std.proofs.lemmas.List.Sums.{sum_by-cons, sum_by_push}
use Rattle.std.proofs.lemmas.List.Elements.{filter-append}
use Rattle.flow_codec.specs.declared.message.Header.{Header}
use Rattle.flow_codec.specs.Raw.{raw, under, Placed, RawRecord, Took}
use Rattle.flow_columns.specs.Lines.{line_text, Line}
use Rattle.flow_report.specs.Records.{Started}
use Rattle.flow_records.specs.declared.chosen.ChosenRecord.{ChosenRecord}
use Rattle.flow_records.specs.declared.chosen.ChosenRecords.{ChosenRecords}
use Rattle.flow_records.specs.Holding.{held, held_in, AreWhole, HasTaken}
use Rattle.flow_records.specs.Records.{is_chosen, line_of, lines_of, records_within, started}

-- ---- records within a span

pub within_less : (from to : ℕ) (xs : List Placed) (x : Placed) → is_chosen from to x ≡ false
    → records_within from to (xs ++ x ∷ []) ≡ records_within from to xs
within_less from to xs x not =
    filter-append (is_chosen from to) xs (x ∷ [])
    ∙ ap (λ (ys : List Placed). records_within from to xs ++ ys) (rw not refl)
    ∙ append-nil (records_within from to xs)

pub within_more : (from to : ℕ) (xs : List Placed) (x : Placed) → is_chosen from to x ≡ true
    → records_within from to (xs ++ x ∷ []) ≡ records_within from to xs ++ x ∷ []
within_more from to xs x is =
    filter-append (is_chosen from to) xs (x ∷ [])
    ∙ ap (λ (ys : List Placed). records_within from to xs ++ ys) (rw is refl)

module _ (start old : ChosenRecords) (taken : List Placed) (x : Placed) where
  chosen_so : (b : Bool) → old.from ≡ start.from → old.to ≡ start.to → is_chosen old.from old.to x ≡ b
      → is_chosen start.from start.to x ≡ b
  chosen_so b f t is =
      subst (λ (n : ℕ). is_chosen n start.to x ≡ b) f (subst (λ (n : ℕ). is_chosen old.from n x ≡ b) t is)

  -- a record that isn't chosen
  pub taken_less : is_chosen old.from old.to x ≡ false → HasTaken start taken old
      → HasTaken start (taken ++ x ∷ []) old
  taken_less not (f, t, h) = (
    f,
    t,
    λ whole.
        let was = h whole in (
          was.0,
          was.1 ∙ ap (λ (ys : List Placed). held start ++ map started ys)
              (sym (within_less start.from start.to taken x (chosen_so false f t not))),
        ),
  )

records_more : (rs : List ChosenRecord) (octets more : List ℕ) (r : ChosenRecord)
    → sum_by (λ x. x.len) rs ≡ length octets → r.len ≡ length more
    → held_in (rs ++ r ∷ []) (octets ++ more)
    ≡ held_in rs octets ++ (r.start, (r.header, raw r.id r.definition more)) ∷ []
records_more [] [] more r whole own =
    let all : take r.len more ≡ more = rw own (take_all (length more) more (omega arith)) in
    ap (λ (l : List ℕ). (r.start, (r.header, raw r.id r.definition l)) ∷ []) all
records_more [] (x ∷ xs) more r whole own = absurd (omega (arith, whole))
records_more (q ∷ rs) octets more r whole own =
    let sum : sum_by (λ x. x.len) (q ∷ rs) ≡ q.len + sum_by (λ x. x.len) rs = sum_by-cons (λ x. x.len) q rs in
    let fits : q.len ≤ length octets = omega (arith, sum, whole) in
    let left : sum_by (λ x. x.len) rs ≡ length (drop q.len octets) =
    omega (arith, sum, whole, length-drop q.len octets) in
    let first : take q.len (octets ++ more) ≡ take q.len octets = take-append-le q.len octets more fits in
    let rest : drop q.len (octets ++ more) ≡ drop q.len octets ++ more = drop-append-le q.len octets more fits in
    let one : List ℕ → Started = λ l. (q.start, (q.header, raw q.id q.definition l)) in
    ap (λ (l : List ℕ). one l ∷ held_in (rs ++ r ∷ []) (drop q.len (octets ++ more))) first
    ∙ ap (λ (l : List ℕ). one (take q.len octets) ∷ held_in (rs ++ r ∷ []) l) rest
    ∙ ap (λ (l : List Started). one (take q.len octets) ∷ l) (records_more rs (drop q.len octets) more r left own)

-- a record that is chosen
pub taken_more : (start old new : ChosenRecords) (taken : List Placed) (x : Placed) (r : ChosenRecord) (more : List ℕ)
    → is_chosen old.from old.to x ≡ true → r.len ≡ length more
    → (r.start, (r.header, raw r.id r.definition more)) ≡ started x
    → new.records.items ≡ old.records.items ++ r ∷ [] → new.octets.items ≡ old.octets.items ++ more
    → new.from ≡ old.from → new.to ≡ old.to → HasTaken start taken old → HasTaken start (taken ++ x ∷ []) new
taken_more start old new taken x r more is own one records octets nf nt (f, t, h) = (
  nf ∙ f,
  nt ∙ t,
  λ whole.
      let was = h whole in
      let sum : sum_by (λ x. x.len) new.records.items ≡ sum_by (λ x. x.len) old.records.items + r.len =
      ap (sum_by (λ x. x.len)) records ∙ sum_by_push (λ x. x.len) old.records.items r in
      let size : length new.octets.items ≡ length old.octets.items + length more =
      ap length octets ∙ length-append old.octets.items more in
      let within = within_more start.from start.to taken x (chosen_so start old taken x true f t is) in
      let list = records_within start.from start.to taken in
      let now : held new ≡ held old ++ started x ∷ [] =
      (λ i. held_in (records i) (octets i)) ∙ records_more old.records.items old.octets.items more r was.0 own
      ∙ ap (λ (s : Started). held old ++ s ∷ []) one in (
        omega (arith, was.0, sum, size, own),
        now ∙ ap (λ (l : List Started). l ++ started x ∷ []) was.1
            ∙ append_assoc (held start) (map started list) (started x ∷ [])
            ∙ ap (λ (l : List Started). held start ++ l) (sym (map-append started list (x ∷ [])))
            ∙ ap (λ (ys : List Placed). held start ++ map started ys) (sym within),
      ),
)

-- ---- one message

-- what held nothing holds the records that it took
pub held_are : (header : Header) (records : List RawRecord) (old new : ChosenRecords) → old.records.items ≡ []
    → old.octets.items ≡ [] → Took HasTaken header old records new
    → held new ≡ map started (records_within old.from old.to (under header records))
held_are header records old new none empty took =
    let nothing : held old ≡ [] = λ i. held_in (none i) (empty i) in
    let same : HasTaken old [] old = (refl, refl, λ whole. (whole, sym (append-nil (held old)))) in
    let whole : AreWhole old = ap (sum_by (λ r. r.len)) none ∙ sym (ap length empty) in
    (((took old [] same).2) whole).1
    ∙ ap (λ (l : List Started). l ++ map started (records_within old.from old.to (under header records))) nothing

-- ---- their lines

abbrev pub held_text : Line → List ChosenRecord → List ℕ → List ℕ
held_text format rs octets = flat_map (line_text format) (held_in rs octets)

pub lines_held : (format : Line) (xs : List Placed)
    → flat_map (line_text format) (map started xs) ≡ lines_of format xs
lines_held format [] = refl
lines_held format (x ∷ xs) = ap (λ (l : List ℕ). line_of format x ++ l) (lines_held format xs)

pub next_record : (format : Line) (rs : List ChosenRecord) (i : ℕ) (r : ChosenRecord)
    (octets front back : List ℕ) → i < length rs → r ≡ get_or rs i r
    → front ≡ take (min r.len (length octets)) octets → back ≡ drop (min r.len (length octets)) octets
    → held_text format (drop i rs) octets
    ≡ line_text format (r.start, (r.header, raw r.id r.definition front)) ++ held_text format (drop (i + 1) rs) back
next_record format rs i r octets front back lt is one two =
    let split : drop i rs ≡ get_or rs i r ∷ drop (i + 1) rs = rw add-one (drop-cons rs i r lt) in
    let same : drop i rs ≡ r ∷ drop (i + 1) rs = split ∙ ap (λ (x : ChosenRecord). x ∷ drop (i + 1) rs) (sym is) in
    let line : List ℕ → List ℕ = λ l. line_text format (r.start, (r.header, raw r.id r.definition l)) in
    ap (λ (l : List ChosenRecord). held_text format l octets) same
    ∙ ap (λ (l : List ℕ). line l ++ held_text format (drop (i + 1) rs) (drop r.len octets))
    (sym (one ∙ take_min r.len octets))
    ∙ ap (λ (l : List ℕ). line front ++ held_text format (drop (i + 1) rs) l) (sym (two ∙ drop_min r.len octets))

pub no_record : (format : Line) (rs : List ChosenRecord) (i : ℕ) (octets : List ℕ) → length rs ≤ i
    → held_text format (drop i rs) octets ≡ []
no_record format rs i octets le = let none : drop i rs ≡ [] = drop_all i rs le in rw none refl
