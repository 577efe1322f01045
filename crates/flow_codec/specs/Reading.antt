-- Reading octets from left to right, with the first fault that is met.
use Rattle.std.specs.Prelude.{◌≡◌, ℕ, zero, suc, List, [], ◌∷◌, ◌++◌, length, take, drop, Option, Some, None, Result}
use Rattle.std.specs.Prelude.{Ok, Err, nat_lt, ◌==◌, ◌||◌, ◌&&◌, ◌-◌, ◌<◌, if◌then◌else◌, Bool}
use Rattle.std.specs.Int.{Width, w16, w32, byte_len, from_be_bytes}
use Rattle.flow_elements.specs.declared.element.ElementId.{ElementId}
use Rattle.flow_codec.specs.declared.error.MessageError.{MessageError}
use Rattle.flow_codec.specs.declared.error.MessageError.TheVariants.{Short, Version, Length, SetLength, TemplateCut}
use Rattle.flow_codec.specs.declared.error.MessageError.TheVariants.{TemplateId, ScopeCount, RecordCut, TemplatesFull}
use Rattle.flow_codec.specs.declared.error.MessageError.TheVariants.{DomainsFull, OutOfMemory}
use Rattle.flow_codec.specs.declared.sink.WalkError.{WalkError}
use Rattle.flow_codec.specs.declared.sink.WalkError.TheVariants.{Message, Sink}
use Rattle.flow_codec.specs.declared.kind.TemplateKind.{TemplateKind}
use Rattle.flow_codec.specs.declared.kind.TemplateKind.TheVariants.{Plain, Options}
use Rattle.flow_codec.specs.declared.templates.TemplateRecord.{TemplateRecord}
use Rattle.flow_codec.specs.declared.templates.TemplateRecord.TheVariants.{Define, Withdraw, WithdrawAll}
use Rattle.flow_codec.specs.declared.message.Header.{Header}
use Rattle.flow_codec.specs.Layout.{Layout, smallest, set_id, is_options}
use Rattle.flow_codec.specs.Raw.{RawRecord, RawMessage, Placed, raw, under, Took}
use Rattle.flow_codec.specs.Templates.{AllTemplates, applied, definition_of, definitions_of, domain_size}

infixl 10 ◌>>=◌
abbrev pub ◌>>=◌ : {A B : Type 0} → Result A MessageError → (A → Result B MessageError) → Result B MessageError
(Ok x) >>= f = f x
(Err e) >>= f = Err e

-- ---- what a function answers, compared with what reading gives

-- This fault is the one that reading meets, unless memory ran out.
abbrev pub Fails : {Y : Type 0} → MessageError → Result Y MessageError → Type 0
Fails OutOfMemory read = Unit {0}
Fails Short read = read ≡ Err Short
Fails Version read = read ≡ Err Version
Fails Length read = read ≡ Err Length
Fails (SetLength at) read = read ≡ Err (SetLength at)
Fails (TemplateCut at) read = read ≡ Err (TemplateCut at)
Fails (TemplateId at) read = read ≡ Err (TemplateId at)
Fails (ScopeCount at) read = read ≡ Err (ScopeCount at)
Fails (RecordCut at) read = read ≡ Err (RecordCut at)
Fails (TemplatesFull domain) read = read ≡ Err (TemplatesFull domain)
Fails DomainsFull read = read ≡ Err DomainsFull

-- What a function returned, seen by view, is what reading gives, unless memory ran out.
abbrev pub Gives : {X Y : Type 0} → (X → Y) → Result X MessageError → Result Y MessageError → Type 0
Gives view (Ok x) read = read ≡ Ok (view x)
Gives view (Err e) read = Fails e read

-- A sink refused a record, after it took fewer than `most` records of this message.
abbrev pub IsRefused : {S E : Type 0} → (S → List Placed → S → Type 0) → (S → List Placed → Placed → E → Type 0)
    → Header → S → ℕ → E → Type 0
IsRefused {S} holds refuses header old most e =
    (front : List RawRecord) × (r : RawRecord) × (length front < most)
    × ((start : S) (taken : List Placed) → holds start taken old
    → refuses start (taken ++ under header front) (header, r) e)

-- A function that hands the records to a sink: the sink took those that reading gives, or refused one.
abbrev pub Feeds : {X Y E : Type 0} → (List RawRecord → Type 0) → (E → Type 0) → (X → Y) → Result X (WalkError E)
    → Result (List RawRecord × Y) MessageError → Type 0
Feeds took refused view (Ok x) read = (records : List RawRecord) × (read ≡ Ok (records, view x)) × took records
Feeds took refused view (Err (Message e)) read = Fails e read
Feeds took refused view (Err (Sink e)) read = refused e

abbrev pub FeedsAlone : {X E : Type 0} → (List RawRecord → Type 0) → (E → Type 0) → Result X (WalkError E)
    → Result (List RawRecord) MessageError → Type 0
FeedsAlone took refused (Ok x) read = (records : List RawRecord) × (read ≡ Ok records) × took records
FeedsAlone took refused (Err (Message e)) read = Fails e read
FeedsAlone took refused (Err (Sink e)) read = refused e

-- The call answered, seen by view, the header of the message that reading gives and the templates after it, and the
-- sink took its records.
abbrev pub IsWalked : {S X E : Type 0} → (S → List Placed → S → Type 0) → (Header → E → Type 0)
    → (X → Header × AllTemplates) → S → S → Result X (WalkError E) → Result (RawMessage × AllTemplates) MessageError
    → Type 0
IsWalked holds refused view old new (Ok x) read =
    (records : List RawRecord) × (read ≡ Ok (record { header = (view x).0; records = records }, (view x).1))
    × Took holds (view x).0 old records new
IsWalked holds refused view old new (Err (Message e)) read = Fails e read
IsWalked holds refused view old new (Err (Sink e)) read = (header : Header) × refused header e

-- ---- numbers

-- A number is a value and the octets after it; `cut` is the fault where the octets end first.
abbrev pub number_at : MessageError → Width → List ℕ → Result (ℕ × List ℕ) MessageError
number_at cut w octets =
    if nat_lt (length octets) (byte_len w) then Err cut else Ok (
      from_be_bytes w (take (byte_len w) octets),
      drop (byte_len w) octets,
    )

-- ---- data records

-- a field of fixed length in the record at `at`
abbrev pub octets_at : ℕ → ℕ → List ℕ → Result (List ℕ × List ℕ) MessageError
octets_at at len octets =
    if nat_lt (length octets) len then Err (RecordCut at) else Ok (take len octets, drop len octets)

-- what reading gives, with more octets before those that it read
abbrev pub behind : List ℕ → Result (List ℕ × List ℕ) MessageError → Result (List ℕ × List ℕ) MessageError
behind front read = read >>= λ x. Ok (front ++ x.0, x.1)

-- a field of variable length with its length octets: one, or 255 and two more
unfoldable pub counted_at : ℕ → List ℕ → Result (List ℕ × List ℕ) MessageError
counted_at at [] = Err (RecordCut at)
counted_at at (n ∷ rest) = if nat_lt n 255 then behind (n ∷ []) (octets_at at n rest) else do
  len ← number_at (RecordCut at) w16 rest
  behind (n ∷ take 2 rest) (octets_at at len.0 len.1)

-- all octets of one field in the record at `at`, and the octets after it
abbrev pub field_at : ℕ → ℕ → List ℕ → Result (List ℕ × List ℕ) MessageError
field_at at len octets = if len == 65535 then counted_at at octets else octets_at at len octets

-- the octets of the whole record at `at`, and the octets after it
unfoldable pub extent_at : ℕ → List (ElementId × ℕ) → List ℕ → Result (List ℕ × List ℕ) MessageError
extent_at at [] octets = Ok ([], octets)
extent_at at (f ∷ fs) octets = do
  first ← field_at at f.1 octets
  behind first.0 (extent_at at fs first.1)

-- The records of a Set that ends at `end`: while the smallest one fits there is another, and what is left is padding.
unfoldable pub records_at : ℕ → ℕ → ℕ → Layout → List ℕ → Result (List RawRecord) MessageError
records_at zero end id layout octets = Ok []
records_at (suc n) end id layout octets = if nat_lt (length octets) (smallest layout) then Ok [] else do
  whole ← extent_at (end - length octets) layout.fields octets
  others ← records_at n end id layout whole.1
  Ok (raw id layout whole.0 ∷ others)

unfoldable pub records_of : ℕ → ℕ → Layout → List ℕ → Result (List RawRecord) MessageError
records_of end id layout octets = if smallest layout ==
    0 then Ok [] else records_at (length octets) end id layout octets

-- ---- template records

-- after an element's number and its Field Length: an enterprise number where the Enterprise bit is set
abbrev pub element_at : ℕ → ℕ → ℕ → List ℕ → Result ((ElementId × ℕ) × List ℕ) MessageError
element_at at number len octets =
    if nat_lt number 32768 then Ok ((record { enterprise = None; number = number }, len), octets) else do
      enterprise ← number_at (TemplateCut at) w32 octets
      Ok ((record { enterprise = Some enterprise.0; number = number - 32768 }, len), enterprise.1)

unfoldable pub specifier_at : ℕ → List ℕ → Result ((ElementId × ℕ) × List ℕ) MessageError
specifier_at at octets = do
  number ← number_at (TemplateCut at) w16 octets
  len ← number_at (TemplateCut at) w16 number.1
  element_at at number.0 len.0 len.1

unfoldable pub specifiers_at : ℕ → ℕ → List ℕ → Result (List (ElementId × ℕ) × List ℕ) MessageError
specifiers_at at zero octets = Ok ([], octets)
specifiers_at at (suc n) octets = do
  first ← specifier_at at octets
  others ← specifiers_at at n first.1
  Ok (first.0 ∷ others.0, others.1)

-- a Scope Field Count, which Options Templates alone have
abbrev pub scope_at : TemplateKind → ℕ → ℕ → List ℕ → Result (ℕ × List ℕ) MessageError
scope_at Plain at count octets = Ok (0, octets)
scope_at Options at count octets = number_at (TemplateCut at) w16 octets >>= λ scope. if scope.0 ==
    0 || nat_lt count scope.0 then Err (ScopeCount at) else Ok scope

-- a definition, after its ID and its Field Count
abbrev pub definition_at : TemplateKind → ℕ → ℕ → ℕ → List ℕ → Result (TemplateRecord × List ℕ) MessageError
definition_at kind at id count octets = do
  scope ← scope_at kind at count octets
  fields ← specifiers_at at count scope.1
  Ok (Define id (record { options = is_options kind; scope = scope.0; fields = fields.0 }), fields.1)

-- a template record, after its ID and its Field Count
abbrev pub change_at : TemplateKind → ℕ → ℕ → ℕ → List ℕ → Result (TemplateRecord × List ℕ) MessageError
change_at kind at id count octets =
    if id == set_id kind && count == 0 then Ok (WithdrawAll, octets) else
    if nat_lt id 256 then Err (TemplateId at) else
    if count == 0 then Ok (Withdraw id, octets) else definition_at kind at id count octets

-- the template record at `at`, and the octets after it
unfoldable pub template_at : TemplateKind → ℕ → List ℕ → Result (TemplateRecord × List ℕ) MessageError
template_at kind at octets = do
  id ← number_at (TemplateCut at) w16 octets
  count ← number_at (TemplateCut at) w16 id.1
  change_at kind at id.0 count.0 count.1

-- A Set of template records ends where fewer than 4 octets are left, or before an ID of 0.
abbrev pub is_ended : List ℕ → Bool
is_ended octets = nat_lt (length octets) 4 || (from_be_bytes w16 (take 2 octets) == 0)

unfoldable pub templates_at : ℕ → ℕ → ℕ → TemplateKind → AllTemplates → List ℕ → Result AllTemplates MessageError
templates_at zero end domain kind all octets = Ok all
templates_at (suc n) end domain kind all octets = if is_ended octets then Ok all else do
  change ← template_at kind (end - length octets) octets
  templates_at n end domain kind (applied domain kind change.0 all) change.1

-- ---- Sets

unfoldable pub data_at : ℕ → ℕ → Option Layout → List ℕ → Result (List RawRecord) MessageError
data_at end id None octets = Ok []
data_at end id (Some layout) octets = records_of end id layout octets

-- the kind of template records in a Set of this ID
abbrev pub kind_of : ℕ → Option TemplateKind
kind_of id = if id == 2 then Some Plain else if id == 3 then Some Options else None

-- the data records of a Set that ends at `end` and has this ID, which isn't that of template records
abbrev pub other_at : ℕ → ℕ → ℕ → AllTemplates → List ℕ → Result (List RawRecord × AllTemplates) MessageError
other_at end domain id all octets =
    if nat_lt id 256 then Ok ([], all) else (data_at end id (definition_of id (definitions_of domain all)) octets >>=
    λ records. Ok (records, all))

abbrev pub content_by : Option TemplateKind → ℕ → ℕ → ℕ → AllTemplates → List ℕ
    → Result (List RawRecord × AllTemplates) MessageError
content_by (Some kind) end domain id all octets = templates_at (length octets) end domain kind all octets >>=
    λ after. Ok ([], after)
content_by None end domain id all octets = other_at end domain id all octets

unfoldable pub content_at : ℕ → ℕ → ℕ → AllTemplates → List ℕ → Result (List RawRecord × AllTemplates) MessageError
content_at end domain id all octets = content_by (kind_of id) end domain id all octets

-- the Set at `at`: its ID, its content, and the octets after it
unfoldable pub set_at : ℕ → List ℕ → Result (ℕ × List ℕ × List ℕ) MessageError
set_at at octets = do
  id ← number_at (SetLength at) w16 octets
  len ← number_at (SetLength at) w16 id.1
  if nat_lt len.0 4 || nat_lt (length octets) len.0 then Err (SetLength at) else Ok (
    id.0,
    take (len.0 - 4) len.1,
    drop (len.0 - 4) len.1,
  )

unfoldable pub sets_at : ℕ → ℕ → ℕ → AllTemplates → List ℕ → Result (List RawRecord × AllTemplates) MessageError
sets_at zero end domain all octets = Ok ([], all)
sets_at (suc n) end domain all octets = if length octets == 0 then Ok ([], all) else do
  set ← set_at (end - length octets) octets
  first ← content_at (end - length set.2) domain set.0 all set.1
  others ← sets_at n end domain first.1 set.2
  Ok (first.0 ++ others.0, others.1)

-- ---- the message

-- the header after its Length, which has to count all octets
abbrev pub behind_length : List ℕ → ℕ → List ℕ → Result (Header × List ℕ) MessageError
behind_length octets len rest = if len == length octets then (do
  time ← number_at Short w32 rest
  sequence ← number_at Short w32 time.1
  domain ← number_at Short w32 sequence.1
  Ok (record { length = len; time = time.0; sequence = sequence.0; domain = domain.0 }, domain.1)) else Err Length

abbrev pub behind_version : List ℕ → ℕ → List ℕ → Result (Header × List ℕ) MessageError
behind_version octets version rest = if version ==
    10 then (number_at Short w16 rest >>= λ len. behind_length octets len.0 len.1) else Err Version

unfoldable pub header_at : List ℕ → Result (Header × List ℕ) MessageError
header_at octets = if nat_lt (length octets) 16 then Err Short else do
  version ← number_at Short w16 octets
  behind_version octets version.0 version.1

-- a message whose templates keep to their limits
abbrev pub limited : RawMessage → AllTemplates → Result (RawMessage × AllTemplates) MessageError
limited message after =
    if nat_lt 60000 (domain_size (definitions_of message.header.domain after)) then Err
    (TemplatesFull message.header.domain) else
    if nat_lt 64 (length after) then Err DomainsFull else Ok (message, after)

-- the whole message without its limits, and the templates after it
unfoldable pub division_at : AllTemplates → List ℕ → Result (RawMessage × AllTemplates) MessageError
division_at before octets = do
  header ← header_at octets
  sets ← sets_at (length header.1) (length octets) header.0.domain before header.1
  Ok (record { header = header.0; records = sets.0 }, sets.1)

unfoldable pub message_at : AllTemplates → List ℕ → Result (RawMessage × AllTemplates) MessageError
message_at before octets = division_at before octets >>= λ x. limited x.0 x.1
