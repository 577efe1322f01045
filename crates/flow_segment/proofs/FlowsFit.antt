-- The counts of a message's flows are read from octets, so they fit their types.
use Rattle.std.proofs.Common.{ℕ, zero, suc, ◌+◌, ◌-◌, ◌<◌, ◌^◌, inl, inr, Bool, true, false, cond}
use Rattle.std.proofs.Common.{List, [], ◌∷◌, ◌++◌, length, get_or, take, drop, replicate, map, Option, Some, None}
use Rattle.std.proofs.Common.{sym, subst, arith}
use Rattle.std.specs.Prelude.{◌==◌, IfSome, nat_lt, option_map, unwrap_or, find}
use Rattle.std.specs.Int.{w16, w64, from_be_bytes, to_be_bytes}
use Rattle.std.specs.List.{AllByRecursion, cons_option, filter_map}
use Rattle.std.proofs.lemmas.Bool.{cases_lt}
use Rattle.flow_elements.specs.declared.element.ElementId.{ElementId}
use Rattle.flow_elements.specs.Values.{number_of}
use Rattle.flow_codec.specs.declared.message.Field.{Field}
use Rattle.flow_codec.specs.declared.message.Header.{Header}
use Rattle.flow_codec.specs.declared.plan.Role.{Role}
use Rattle.flow_codec.specs.declared.plan.Role.TheVariants.{Octets, Packets}
use Rattle.flow_codec.specs.Fault.{IsOctets}
use Rattle.flow_codec.specs.Fields.{counted_of, fields_in, value_of}
use Rattle.flow_codec.specs.Layout.{Layout}
use Rattle.flow_codec.specs.Message.{content, header_octets, in_fields, interpreted, joined, set_octets, AreRecords}
use Rattle.flow_codec.specs.Message.{AreSets, Division, IsData, IsMessage, IsSet}
use Rattle.flow_codec.specs.Plan.{counting, is_counted, element_of, role_of, values_of}
use Rattle.flow_codec.specs.Raw.{RawMessage, RawRecord}
use Rattle.flow_codec.specs.Templates.{AllTemplates, definition_of, definitions_of}
use Rattle.flow_codec.proofs.SetLaws.{all_octets, by_kind}
use Rattle.flow_measure.specs.declared.flow.Flow.{Flow}
use Rattle.flow_measure.specs.Flows.{flow_from, flow_of_record, flows_of, number_in, FlowFits}
use Rattle.flow_measure.specs.History.{Accepted, AreAcceptedFrom, flows_in}
use Rattle.flow_measure.proofs.SinkSteps.{fit_both}

-- ---- octets

abbrev pub AreBytes : List ℕ → Type 0
AreBytes octets = AllByRecursion (λ n. n < 256) octets

pub of_index : (xs : List ℕ) → IsOctets xs → AreBytes xs
of_index [] h = tt
of_index (x ∷ xs) h = (h 0, of_index xs (λ i. h (suc i)))

pub by_index : (xs : List ℕ) → AreBytes xs → (i : ℕ) → get_or xs i 0 < 256
by_index [] h i = omega arith
by_index (x ∷ xs) h zero = h.0
by_index (x ∷ xs) h (suc i) = by_index xs h.1 i

pub parted : (xs ys : List ℕ) → AreBytes (xs ++ ys) → AreBytes xs × AreBytes ys
parted [] ys h = (tt, h)
parted (x ∷ xs) ys h = let more = parted xs ys h.1 in ((h.0, more.0), more.1)

both : (xs ys : List ℕ) → AreBytes xs → AreBytes ys → AreBytes (xs ++ ys)
both [] ys h k = k
both (x ∷ xs) ys h k = (h.0, both xs ys h.1 k)

zeros : (n : ℕ) → AreBytes (replicate n 0)
zeros zero = tt
zeros (suc n) = (omega arith, zeros n)

some_taken : (n : ℕ) (xs : List ℕ) → AreBytes xs → AreBytes (take n xs)
some_taken zero xs h = tt
some_taken (suc n) [] h = tt
some_taken (suc n) (x ∷ xs) h = (h.0, some_taken n xs h.1)

some_left : (n : ℕ) (xs : List ℕ) → AreBytes xs → AreBytes (drop n xs)
some_left zero xs h = h
some_left (suc n) [] h = tt
some_left (suc n) (x ∷ xs) h = some_left n xs h.1

-- eight octets are a number below 2^64
eight : (xs : List ℕ) → ((i : ℕ) → get_or xs i 0 < 256) → from_be_bytes w64 xs < 2 ^ 64
eight xs h = omega (arith, h 0, h 1, h 2, h 3, h 4, h 5, h 6, h 7)

number_small : (xs : List ℕ) → AreBytes xs → number_of xs < 2 ^ 64
number_small xs h = let zero_octets = replicate (8 - length xs) 0 in
    eight (zero_octets ++ xs) (by_index (zero_octets ++ xs) (both zero_octets xs (zeros (8 - length xs)) h))

-- ---- fields

-- both lists of a value and what comes after it
abbrev AreTwo : List ℕ × List ℕ → Type 0
AreTwo two = AreBytes two.0 × AreBytes two.1

either : (c : Bool) (a b : List ℕ × List ℕ) → AreTwo a → AreTwo b → AreTwo (cond c a b)
either true a b h k = h
either false a b h k = k

in_two : (n : ℕ) (xs : List ℕ) → AreBytes xs → AreTwo (take n xs, drop n xs)
in_two n xs h = (some_taken n xs h, some_left n xs h)

counted_octets : (xs : List ℕ) → AreBytes xs → AreTwo (counted_of xs)
counted_octets [] h = (tt, tt)
counted_octets (n ∷ rest) h =
    let size = from_be_bytes w16 (take 2 rest) in
    let more = drop 2 rest in
    either (nat_lt n 255) (take n rest, drop n rest) (take size more, drop size more) (in_two n rest h.1)
    (in_two size more (some_left 2 rest h.1))

value_octets : (len : ℕ) (xs : List ℕ) → AreBytes xs → AreTwo (value_of len xs)
value_octets len xs h =
    either (len == 65535) (counted_of xs) (take len xs, drop len xs) (counted_octets xs h) (in_two len xs h)

field_octets : (fs : List (ElementId × ℕ)) (xs : List ℕ) → AreBytes xs
    → AllByRecursion (λ x. AreBytes x.octets) (fields_in fs xs)
unfolding fields_in
field_octets [] xs h = tt
field_octets (f ∷ fs) xs h = let value = value_octets f.1 xs h in
    (value.0, field_octets fs (value_of f.1 xs).1 value.1)

abbrev AreValues : List (Role × List ℕ) → Type 0
AreValues values = AllByRecursion (λ v. AreBytes v.1) values

values_both : (xs ys : List (Role × List ℕ)) → AreValues xs → AreValues ys → AreValues (xs ++ ys)
values_both [] ys h k = k
values_both (x ∷ xs) ys h k = (h.0, values_both xs ys h.1 k)

counting_octets : (role : Option Role) (value : List ℕ) → AreBytes value → AreValues (counting role value)
counting_octets None value h = tt
counting_octets (Some role) value h = elim (is_counted role (length value)) as (λ c.
    AreValues (cond c ((role, value) ∷ []) [])) [ true ↦ (h, tt) | false ↦ tt ]

value_list : (fields : List Field) → AllByRecursion (λ x. AreBytes x.octets) fields → AreValues (values_of fields)
value_list [] h = tt
value_list (x ∷ xs) h = values_both (counting (role_of x.id) x.octets) (values_of xs)
    (counting_octets (role_of x.id) x.octets h.0) (value_list xs h.1)

number_found : (role : Role) (values : List (Role × List ℕ)) → AreValues values
    → unwrap_or (number_in role values) 0 < 2 ^ 64
number_found role [] h = omega arith
number_found role (v ∷ vs) h = elim (element_of v.0 == element_of role) as (λ c.
    unwrap_or (option_map (λ w. number_of w.1) (cond c (Some v)
    (find (λ w. element_of w.0 == element_of role) vs))) 0 < 2 ^ 64) [
      | true ↦ number_small v.1 h.0
      | false ↦ number_found role vs h.1
    ]

flow_fits : (header : Header) (fields : List Field) → AllByRecursion (λ x. AreBytes x.octets) fields
    → FlowFits (flow_from header (values_of fields))
flow_fits header fields h = let values = value_list fields h in
    (number_found Octets (values_of fields) values, number_found Packets (values_of fields) values)

-- ---- records

one_fits : (header : Header) (r : RawRecord) → AreBytes r.octets
    → IfSome (flow_of_record header (interpreted r)) FlowFits
one_fits header r h = elim r.layout.options as (λ c.
    IfSome (cond c None (Some (flow_from header (values_of (fields_in r.layout.fields r.octets))))) FlowFits) [
      | true ↦ tt
      | false ↦ flow_fits header (fields_in r.layout.fields r.octets) (field_octets r.layout.fields r.octets h)
    ]

one_more : (f : Option Flow) (fs : List Flow) → IfSome f FlowFits → AllByRecursion FlowFits fs
    → AllByRecursion FlowFits (cons_option f fs)
one_more None fs h k = k
one_more (Some f) fs h k = (h, k)

abbrev AreRaw : List RawRecord → Type 0
AreRaw records = AllByRecursion (λ r. AreBytes r.octets) records

records_fit : (header : Header) (records : List RawRecord) → AreRaw records
    → AllByRecursion FlowFits (filter_map (flow_of_record header) (map interpreted records))
records_fit header [] h = tt
records_fit header (r ∷ rs) h = one_more (flow_of_record header (interpreted r))
    (filter_map (flow_of_record header) (map interpreted rs)) (one_fits header r h.0) (records_fit header rs h.1)

record_octets : (id : ℕ) (layout : Layout) (rs : List (List ℕ)) (xs : List RawRecord) → AreRecords id layout rs xs
    → AreBytes (joined rs) → AreRaw xs
record_octets id layout [] [] h k = tt
record_octets id layout [] (x ∷ xs) h k = absurd h
record_octets id layout (r ∷ rs) [] h k = absurd h
record_octets id layout (r ∷ rs) (x ∷ xs) h k = let two = parted r (joined rs) k in
    (subst (λ (q : RawRecord). AreBytes q.octets) (sym h.1) two.0, record_octets id layout rs xs h.3 two.1)

-- ---- Sets

data_octets : (id : ℕ) (definition : Option Layout) (set : Division) (xs : List RawRecord) → IsData id definition set xs
    → AreBytes (content set) → AreRaw xs
data_octets id None set xs h k = subst AreRaw (sym h.1) tt
data_octets id (Some layout) set xs h k =
    record_octets id layout set.records xs h.0 (parted (joined set.records) set.rest k).0

in_set : (domain : ℕ) (before : AllTemplates) (set : Division) (xs : List RawRecord) (after : AllTemplates)
    → IsSet domain before set xs after → AreBytes (content set) → AreRaw xs
in_set domain before set xs after h k = elim (by_kind set.id) [
  | inl kind ↦ subst AreRaw (sym (h.templates kind.0 kind.1).0) tt
  | inr none ↦ elim (cases_lt set.id 256) [
    | inl small ↦ subst AreRaw (sym (h.other none.0 none.1 small).0) tt
    | inr large ↦ data_octets set.id (definition_of set.id (definitions_of domain before)) set xs
        (h.«data» large).0 k
  ]
]

raw_both : (xs ys : List RawRecord) → AreRaw xs → AreRaw ys → AreRaw (xs ++ ys)
raw_both [] ys h k = k
raw_both (x ∷ xs) ys h k = (h.0, raw_both xs ys h.1 k)

in_sets : (domain : ℕ) (before : AllTemplates) (sets : List Division) (xs : List RawRecord) (after : AllTemplates)
    → AreSets domain before sets xs after → AreBytes (all_octets sets) → AreRaw xs
in_sets domain before [] xs after h k = subst AreRaw (sym h.0) tt
in_sets domain before (s ∷ ss) xs after h k =
    let two = parted (set_octets s) (all_octets ss) k in
    let body = parted (to_be_bytes w16 s.id ++ to_be_bytes w16 (4 + length (content s))) (content s) two.0 in
    subst AreRaw (sym h.5) (raw_both h.0 h.1 (in_set domain before s h.0 h.2 h.3 body.1)
    (in_sets domain h.2 ss h.1 after h.4 two.1))

-- ---- messages

pub message_fits : (octets : List ℕ) (before : AllTemplates) (message : RawMessage) (after : AllTemplates)
    → IsOctets octets → IsMessage octets before message after → AllByRecursion FlowFits (flows_of (in_fields message))
message_fits octets before message after are h =
    let front = header_octets message.header in
    let all : AreBytes ((front ++ all_octets h.sets) ++ []) = subst AreBytes h.parts (of_index octets are) in
    let sets = (parted front (all_octets h.sets) (parted (front ++ all_octets h.sets) [] all).0).1 in
    records_fit message.header message.records
    (in_sets message.header.domain before h.sets message.records after h.hold sets)

pub messages_fit : (before : AllTemplates) (messages : List Accepted) → AreAcceptedFrom before messages
    → AllByRecursion (λ a. IsOctets a.octets) messages → AllByRecursion FlowFits (flows_in messages)
messages_fit before [] h are = tt
messages_fit before (a ∷ more) h are = fit_both (flows_of (in_fields a.message)) (flows_in more)
    (message_fits a.octets before a.message a.after are.0 h.0.0) (messages_fit a.after more h.1 are.1)
