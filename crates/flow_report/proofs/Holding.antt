-- What is held of a message and of its records.
use Rattle.std.proofs.Common.{◌≡◌, ℕ, ◌+◌, ◌<◌, ◌≤◌, ◌^◌, List, [], ◌∷◌, ◌++◌, length, drop, get_or, refl, sym, ap, ◌∙◌}
use Rattle.std.proofs.Common.{drop-cons, add-one, Bool, true, false, subst, Some, None, Ok, Err, ◌⊎◌, ⊎_elim}
use Rattle.std.proofs.Common.{take, min, append_assoc, length-append, length-drop, arith}
use Rattle.std.specs.Prelude.{map, sum_by}
use Rattle.std.specs.List.{flat_map}
use Rattle.std.proofs.lemmas.List.{append-nil, drop_all, take_all, take_min, drop_min, take-append-le, drop-append-le}
use Rattle.std.proofs.lemmas.List.{map-append}
use Rattle.std.proofs.lemmas.List.Sums.{sum_by-cons, sum_by_push}
use Rattle.flow_elements.specs.declared.element.ElementId.{ElementId}
use Rattle.flow_codec.specs.declared.message.Header.{Header}
use Rattle.flow_codec.specs.declared.stream.StreamError.{StreamError}
use Rattle.flow_codec.specs.declared.stream.StreamError.TheVariants.{File as FileStopped, Read as ReadStopped}
use Rattle.flow_codec.specs.declared.stream.StreamError.TheVariants.{NumbersSpent as CountStopped}
use Rattle.flow_codec.specs.Fields.{value_of, fields_in}
use Rattle.flow_codec.specs.Raw.{RawRecord, RawMessage, Placed, raw, under}
use Rattle.flow_codec.specs.Stream.{Progress, IsStep}
use Rattle.flow_codec.specs.Templates.{AllTemplates}
use Rattle.flow_codec.specs.Message.{IsAccepted}
use Rattle.flow_codec.specs.Fault.{IsFault}
use Rattle.flow_codec.specs.declared.error.MessageError.{MessageError}
use Rattle.flow_codec.specs.declared.error.MessageError.TheVariants as message
use Rattle.flow_report.specs.declared.dumping.HeldRecord.{HeldRecord}
use Rattle.flow_report.specs.declared.dumping.HeldRecords.{HeldRecords}
use Rattle.flow_report.specs.declared.dumping.HeldMessage.{HeldMessage}
use Rattle.flow_report.specs.declared.refusal.Refusal.TheVariants.{Message}
use Rattle.flow_report.specs.Refusals.{stream_refusal, message_refusal}
use Rattle.flow_report.specs.Lines.{field_text, start_text, record_line, message_line, message_text}
use Rattle.flow_report.specs.Dump.{records_in, message_of, AreWhole, HasTaken, IsNext}

abbrev pub fields_text : List (ElementId × ℕ) → List ℕ → List ℕ
fields_text fs octets = flat_map field_text (fields_in fs octets)

abbrev pub records_text : List HeldRecord → List ℕ → List ℕ
records_text rs octets = flat_map record_line (records_in rs octets)

-- ---- the steps of the loops

pub next_field : (fs : List (ElementId × ℕ)) (i : ℕ) (d : ElementId × ℕ) (octets : List ℕ) → i < length fs
    → fields_text (drop i fs) octets ≡ field_text (record {
      id = (get_or fs i d).0;
      octets =
          (value_of (get_or fs i d).1 octets).0;
    }) ++ fields_text (drop (i + 1) fs) (value_of (get_or fs i d).1 octets).1
unfolding fields_in
next_field fs i d octets lt = let split : drop i fs ≡ get_or fs i d ∷ drop (i + 1) fs =
    rw add-one (drop-cons fs i d lt) in rw split refl

pub no_field : (fs : List (ElementId × ℕ)) (i : ℕ) (octets : List ℕ) → length fs ≤ i
    → fields_text (drop i fs) octets ≡ []
unfolding fields_in
no_field fs i octets le = let none : drop i fs ≡ [] = drop_all i fs le in rw none refl

pub next_record : (rs : List HeldRecord) (i : ℕ) (r : HeldRecord) (octets front back : List ℕ) → i < length rs
    → r ≡ get_or rs i r → front ≡ take (min r.len (length octets)) octets
    → back ≡ drop (min r.len (length octets)) octets
    → records_text (drop i rs) octets ≡ record_line (raw r.id r.definition front) ++ records_text (drop (i + 1) rs) back
next_record rs i r octets front back lt is one two =
    let split : drop i rs ≡ get_or rs i r ∷ drop (i + 1) rs = rw add-one (drop-cons rs i r lt) in
    let same : drop i rs ≡ r ∷ drop (i + 1) rs = split
    ∙ ap (λ (x : HeldRecord). x ∷ drop (i + 1) rs) (sym is) in
    ap (λ (l : List HeldRecord). records_text l octets) same
    ∙ ap (λ (l : List ℕ). record_line (raw r.id r.definition l) ++ records_text (drop (i + 1) rs) (drop r.len octets))
    (sym (one ∙ take_min r.len octets))
    ∙ ap (λ (l : List ℕ). record_line (raw r.id r.definition front) ++ records_text (drop (i + 1) rs) l)
    (sym (two ∙ drop_min r.len octets))

pub no_record : (rs : List HeldRecord) (i : ℕ) (octets : List ℕ) → length rs ≤ i → records_text (drop i rs) octets ≡ []
no_record rs i octets le = let none : drop i rs ≡ [] = drop_all i rs le in rw none refl

-- ---- a record more

records_more : (rs : List HeldRecord) (octets more : List ℕ) (r : HeldRecord) → sum_by (λ x. x.len) rs ≡ length octets
    → r.len ≡ length more
    → records_in (rs ++ r ∷ []) (octets ++ more) ≡ records_in rs octets ++ raw r.id r.definition more ∷ []
records_more [] [] more r whole own =
    let all : take r.len more ≡ more = rw own (take_all (length more) more (omega arith)) in
    ap (λ (l : List ℕ). raw r.id r.definition l ∷ []) all
records_more [] (x ∷ xs) more r whole own = absurd (omega (arith, whole))
records_more (q ∷ rs) octets more r whole own =
    let sum : sum_by (λ x. x.len) (q ∷ rs) ≡ q.len + sum_by (λ x. x.len) rs = sum_by-cons (λ x. x.len) q rs in
    let fits : q.len ≤ length octets = omega (arith, sum, whole) in
    let left : sum_by (λ x. x.len) rs ≡ length (drop q.len octets) =
    omega (arith, sum, whole, length-drop q.len octets) in
    let first : take q.len (octets ++ more) ≡ take q.len octets = take-append-le q.len octets more fits in
    let rest : drop q.len (octets ++ more) ≡ drop q.len octets ++ more = drop-append-le q.len octets more fits in
    ap (λ (l : List ℕ). raw q.id q.definition l ∷ records_in (rs ++ r ∷ []) (drop q.len (octets ++ more))) first
    ∙ ap (λ (l : List ℕ). raw q.id q.definition (take q.len octets) ∷ records_in (rs ++ r ∷ []) l) rest
    ∙ ap (λ (l : List RawRecord). raw q.id q.definition (take q.len octets) ∷ l)
    (records_more rs (drop q.len octets) more r left own)

pub taken_more : (start old new : HeldRecords) (taken : List Placed) (header : Header) (r : HeldRecord)
    (more : List ℕ) → r.len ≡ length more
    → new.records.items ≡ old.records.items ++ r ∷ []
    → new.octets.items ≡ old.octets.items ++ more → HasTaken start taken old
    → HasTaken start (taken ++ (header, raw r.id r.definition more) ∷ []) new
taken_more start old new taken header r more own records octets before whole =
    let was = before whole in
    let sum : sum_by (λ x. x.len) new.records.items ≡ sum_by (λ x. x.len) old.records.items + r.len =
    ap (sum_by (λ x. x.len)) records ∙ sum_by_push (λ x. x.len) old.records.items r in
    let size : length new.octets.items ≡ length old.octets.items + length more =
    ap length octets ∙ length-append old.octets.items more in
    let one : records_in new.records.items new.octets.items
    ≡ records_in old.records.items old.octets.items ++ raw r.id r.definition more ∷ [] =
    (λ i. records_in (records i) (octets i)) ∙ records_more old.records.items old.octets.items more r was.0 own in (
      omega (arith, was.0, sum, size, own),
      one ∙ ap (λ (l : List RawRecord). l ++ raw r.id r.definition more ∷ []) was.1
          ∙ append_assoc (records_in start.records.items start.octets.items) (map (λ x. x.1) taken)
          (raw r.id r.definition more ∷ [])
          ∙ ap (λ (l : List RawRecord). records_in start.records.items start.octets.items ++ l)
          (sym (map-append (λ (x : Placed). x.1) taken ((header, raw r.id r.definition more) ∷ []))),
    )

-- ---- the next message

unplaced : (header : Header) (records : List RawRecord) → map (λ (x : Placed). x.1) (under header records) ≡ records
unplaced header [] = refl
unplaced header (r ∷ rs) = ap (λ (t : List RawRecord). r ∷ t) (unplaced header rs)

-- a sink that held nothing holds the records that it took
pub held_are : (header : Header) (records : List RawRecord) (old new : HeldRecords) → old.records.items ≡ []
    → old.octets.items ≡ []
    → ((before : List Placed) → HasTaken old before old → HasTaken old (before ++ under header records) new)
    → records_in new.records.items new.octets.items ≡ records
held_are header records old new none empty took =
    let same : HasTaken old [] old = λ whole. (
      whole,
      sym (append-nil (records_in old.records.items old.octets.items)),
    ) in
    let whole : AreWhole old = ap (sum_by (λ r. r.len)) none ∙ sym (ap length empty) in
    (took [] same whole).1
    ∙ ap (λ (l : List RawRecord). l ++ map (λ (x : Placed). x.1) (under header records))
    ((λ i. records_in (none i) (empty i)))
    ∙ unplaced header records

pub stops : (old new : Progress) (before after : AllTemplates) (e : StreamError) → IsStep old (Err e) new
    → old.stopped ≡ None → IsNext old before (Err (stream_refusal e)) new after
stops old new before after (FileStopped fault) step fresh = ⊎_elim (λ s. absurd (cc (s, fresh))) (λ s. s.1) step.0
stops old new before after (ReadStopped failed) step fresh = tt
stops old new before after CountStopped step fresh = ⊎_elim (λ s. absurd (cc (s, fresh))) (λ s. s.1) step.0

-- ---- the parts of a line, and of a message's lines

pub record_parts : (r : RawRecord)
    → record_line r ≡ (start_text r.layout.options r.id ++ fields_text r.layout.fields r.octets) ++ 10 ∷ []
unfolding record_line
record_parts r = refl

pub message_parts : (m : RawMessage) → message_text m ≡ message_line m.header ++ flat_map record_line m.records
unfolding message_text
message_parts m = refl

pub accepted_next : (old new : Progress) (before after : AllTemplates) (header : Header) (records : List RawRecord)
    (octets : List ℕ) (held : HeldMessage) (b : Bool) → IsStep old (Ok b) new → b ≡ true
    → octets ≡ new.message → held.header ≡ header
    → records_in held.held.records.items held.held.octets.items ≡ records
    → IsAccepted octets before (record { header = header; records = records }) after
    → IsNext old before (Ok (Some held)) new after
accepted_next old new before after header records octets held false step is same head all accepted = absurd (cc (is))
accepted_next old new before after header records octets held true step is same head all accepted =
    let message : message_of held ≡ record { header = header; records = records } =
    ap (λ (h : Header). record {
      header = h;
      records = records_in held.held.records.items held.held.octets.items;
    }) head
    ∙ ap (λ (rs : List RawRecord). record { header = header; records = rs }) all in
    let now : IsAccepted new.message before (message_of held) after =
    subst (λ (o : List ℕ). IsAccepted o before (message_of held) after) same
    (subst (λ (m : RawMessage). IsAccepted octets before m after) (sym message) accepted) in
    (new.message, step.2, now, step.3, step.4, step.5, step.6, step.1)

refused_next : (old new : Progress) (before after : AllTemplates) (fault : MessageError) (number : ℕ) (octets : List ℕ)
    (b : Bool) → IsStep old (Ok b) new → b ≡ true
    → octets ≡ new.message → IsFault octets before fault → number ≡ new.count
    → IsNext old before (Err (Message fault number)) new after
refused_next old new before after fault number octets false step is same faulty counted = absurd (cc (is))
refused_next old new before after fault number octets true step is same faulty counted = (
  new.message,
  step.2,
  subst (λ (o : List ℕ). IsFault o before fault) same faulty,
  step.3,
  counted
      ∙ step.4,
  subst (λ (n : ℕ). n < 2 ^ 48) (sym counted) step.5,
)

module _ (old new : Progress) (before after : AllTemplates) (number : ℕ) (octets : List ℕ) (b : Bool)
    (step : IsStep old (Ok b) new) (is : b ≡ true) (same : octets ≡ new.message) (counted : number ≡ new.count) where
  -- a fault other than OutOfMemory
  proper : (fault : MessageError) → (fault ≡ message.OutOfMemory → ⊥) → (fault ≡ message.OutOfMemory)
      ⊎ IsFault octets before fault → IsNext old before (Err (Message fault number)) new after
  proper fault not h = ⊎_elim (λ e. absurd (not e))
      (λ f. refused_next old new before after fault number octets b step is same f counted) h

  pub refused_by : (fault : MessageError) → (fault ≡ message.OutOfMemory) ⊎ IsFault octets before fault
      → IsNext old before (Err (message_refusal fault number)) new after
  refused_by message.OutOfMemory h = tt
  refused_by message.Short h = proper message.Short (λ e. cc (e)) h
  refused_by message.Version h = proper message.Version (λ e. cc (e)) h
  refused_by message.Length h = proper message.Length (λ e. cc (e)) h
  refused_by (message.SetLength at) h = proper (message.SetLength at) (λ e. cc (e)) h
  refused_by (message.TemplateCut at) h = proper (message.TemplateCut at) (λ e. cc (e)) h
  refused_by (message.TemplateId at) h = proper (message.TemplateId at) (λ e. cc (e)) h
  refused_by (message.ScopeCount at) h = proper (message.ScopeCount at) (λ e. cc (e)) h
  refused_by (message.RecordCut at) h = proper (message.RecordCut at) (λ e. cc (e)) h
  refused_by (message.TemplatesFull domain) h = proper (message.TemplatesFull domain) (λ e. cc (e)) h
  refused_by message.DomainsFull h = proper message.DomainsFull (λ e. cc (e)) h
