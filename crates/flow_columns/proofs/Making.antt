-- The parts of a record's line.
use Rattle.std.proofs.Common.{◌≡◌, ℕ, ◌+◌, ◌<◌, List, [], ◌∷◌, ◌++◌, length, drop, get_or, refl, sym, ap, ◌∙◌}
use Rattle.std.proofs.Common.{◌≤◌, add-one, append-nil, append_assoc, drop-cons, Bool, true, false, Some, None}
use Rattle.std.proofs.lemmas.List.{drop_all}
use Rattle.std.proofs.Common.{arith, length-append}
use Rattle.std.specs.Prelude.{find, map, option_map, Option, Result, Ok, Err, IsErrAnd, OnErr, if◌then◌else◌}
use Rattle.std.specs.Io.KnownBytes.{Appends}
use Rattle.std.specs.List.{flat_map, join_with_byte}
use Rattle.flow_elements.specs.declared.element.ElementId.{ElementId}
use Rattle.flow_codec.specs.declared.message.Field.{Field}
use Rattle.flow_codec.specs.Fields.{fields_in, value_of}
use Rattle.flow_report.specs.declared.format.Times.{Times}
use Rattle.flow_report.specs.Records.{Started}
use Rattle.flow_columns.specs.declared.column.Column.{Column}
use Rattle.flow_columns.specs.Lines.{after_comma, cell_or_none, field_of, is_same, shown}
use Rattle.flow_report.specs.Telling.{TellsFront}
use Rattle.flow_report.specs.Writing.{AppendsFront}
use Rattle.flow_report.proofs.Joining.{front_told, stops_more}

-- the next field of a record
pub next_field : (fs : List (ElementId × ℕ)) (i : ℕ) (d : ElementId × ℕ) (octets : List ℕ) → i < length fs
    → fields_in (drop i fs) octets ≡ record {
      id = (get_or fs i d).0;
      octets =
          (value_of (get_or fs i d).1 octets).0;
    } ∷ fields_in (drop (i + 1) fs) (value_of (get_or fs i d).1 octets).1
unfolding fields_in
next_field fs i d octets lt = let split : drop i fs ≡ get_or fs i d ∷ drop (i + 1) fs =
    rw add-one (drop-cons fs i d lt) in rw split refl

module _ (id : ElementId) (fs : List (ElementId × ℕ)) (i : ℕ) (d : ElementId × ℕ) (octets : List ℕ) (lt : i < length fs)
  where
    abbrev here : Field
    here = record { id = (get_or fs i d).0; octets = (value_of (get_or fs i d).1 octets).0 }

    abbrev later : List Field
    later = fields_in (drop (i + 1) fs) (value_of (get_or fs i d).1 octets).1

    field_is : (same : Bool) → is_same (get_or fs i d).0 id ≡ same
        → field_of id (fields_in (drop i fs) octets) ≡ (if same then Some here.octets else field_of id later)
    field_is true is =
        ap (field_of id) (next_field fs i d octets lt)
        ∙ ap (λ (b : Bool). option_map (λ f. f.octets) (if b then Some here else find (λ f. is_same f.id id) later)) is
    field_is false is =
        ap (field_of id) (next_field fs i d octets lt)
        ∙ ap (λ (b : Bool). option_map (λ f. f.octets) (if b then Some here else find (λ f. is_same f.id id) later)) is

    -- a field of another element
    pub field_passed : (rest : List ℕ) (same : Bool) → rest ≡ (value_of (get_or fs i d).1 octets).1
        → same ≡ is_same (get_or fs i d).0 id → same ≡ false
        → field_of id (fields_in (drop (i + 1) fs) rest) ≡ field_of id (fields_in (drop i fs) octets)
    field_passed rest same after is other =
        ap (λ (l : List ℕ). field_of id (fields_in (drop (i + 1) fs) l)) after ∙ sym (field_is false (sym is ∙ other))

    -- one of this element
    pub field_found : (value : List ℕ) (same : Bool) → value ≡ (value_of (get_or fs i d).1 octets).0
        → same ≡ is_same (get_or fs i d).0 id → same ≡ true → Some value ≡ field_of id (fields_in (drop i fs) octets)
    field_found value same its is so = ap Some its ∙ sym (field_is true (sym is ∙ so))

pub no_field : (id : ElementId) (fs : List (ElementId × ℕ)) (i : ℕ) (octets : List ℕ) → length fs ≤ i
    → None ≡ field_of id (fields_in (drop i fs) octets)
unfolding fields_in
no_field id fs i octets le = let none : drop i fs ≡ [] = drop_all i fs le in rw none refl

-- a value more after a comma
pub cell_more : (text mid new cell rest target : List ℕ) → mid ≡ text ++ 44 ∷ [] → new ≡ mid ++ cell
    → text ++ ((44 ∷ cell) ++ rest) ≡ target → new ++ rest ≡ target
cell_more text mid new cell rest target comma value same =
    ap (λ (t : List ℕ). t ++ rest) (value ∙ ap (λ (t : List ℕ). t ++ cell) comma)
    ∙ append_assoc (text ++ 44 ∷ []) cell rest ∙ append_assoc text (44 ∷ []) (cell ++ rest) ∙ same

-- values with commas between them are the first one, and each other after a comma
pub cells_joined : (times : Times) (s : Started) (column : Option Column) (columns : List (Option Column))
    → join_with_byte 44 (map (cell_or_none times s) (column ∷ columns))
    ≡ cell_or_none times s column ++ flat_map (after_comma times s) columns
cells_joined times s column [] = sym (append-nil (cell_or_none times s column))
cells_joined times s column (next ∷ others) =
    ap (λ (t : List ℕ). cell_or_none times s column ++ 44 ∷ t) (cells_joined times s next others)

-- ---- the end of a line

none_there : (old cells mid : List ℕ) → mid ≡ old ++ cells → length mid ≡ length old → cells ≡ []
none_there old [] mid is same = refl
none_there old (x ∷ xs) mid is same = absurd (omega (arith, ap length is, length-append old (x ∷ xs), same))

some_there : (old cells mid : List ℕ) → mid ≡ old ++ cells → (length mid ≡ length old → ⊥) → shown cells ≡ cells
some_there old [] mid is other = absurd (other (ap length (is ∙ append-nil old)))
some_there old (x ∷ xs) mid is other = refl

pub empty_line : (old cells mid quoted new : List ℕ) → mid ≡ old ++ cells → length mid ≡ length old
    → quoted ≡ mid ++ 34 ∷ 34 ∷ [] → new ≡ quoted ++ 10 ∷ [] → new ≡ old ++ (shown cells ++ 10 ∷ [])
empty_line old cells mid quoted new is same quotes end =
    let none : cells ≡ [] = none_there old cells mid is same in
    end
    ∙ ap (λ (t : List ℕ). t ++ 10 ∷ []) (quotes
    ∙ ap (λ (t : List ℕ). t ++ 34 ∷ 34 ∷ []) (is ∙ ap (λ (t : List ℕ). old ++ t) none ∙ append-nil old))
    ∙ append_assoc old (34 ∷ 34 ∷ []) (10 ∷ []) ∙ ap (λ (t : List ℕ). old ++ (shown t ++ 10 ∷ [])) (sym none)

pub whole_line : (old cells mid new : List ℕ) → mid ≡ old ++ cells → (length mid ≡ length old → ⊥)
    → new ≡ mid ++ 10 ∷ [] → new ≡ old ++ (shown cells ++ 10 ∷ [])
whole_line old cells mid new is other end =
    end ∙ ap (λ (t : List ℕ). t ++ 10 ∷ []) is ∙ append_assoc old cells (10 ∷ [])
    ∙ ap (λ (t : List ℕ). old ++ (t ++ 10 ∷ [])) (sym (some_there old cells mid is other))

-- ---- what is written where a line isn't taken

pub on_err : {X E : Type 0} (r : Result X E) (e : E) (P : Type 0) → IsErrAnd r (λ x. x ≡ e) → P → OnErr r P
on_err (Ok x) e P is p = absurd is
on_err (Err x) e P is p = p

-- all that was held was written before
pub all_before : (a b : Option (List ℕ)) (held line : List ℕ) → Appends a b held → TellsFront a held b line
all_before a b held line all = (line, record { written = held; parts = refl; grown = all })

-- a prefix of it was
pub cut_before : (a b : Option (List ℕ)) (held line : List ℕ) → AppendsFront a b held → TellsFront a held b line
cut_before a b held line cut = stops_more a b held [] line (front_told a b held cut)
