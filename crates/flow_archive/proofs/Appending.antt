-- How a history goes on.
use Rattle.std.proofs.Common.{◌≡◌, ℕ, ◌<◌, ◌≤◌, ◌+◌, ◌^◌, ◌-◌, List, [], ◌∷◌, ◌++◌, length, refl, sym, ap, ◌∙◌}
use Rattle.std.proofs.Common.{subst, append-nil, length-append, arith, inl, inr, ◌⊎◌}
use Rattle.std.specs.Prelude.{Result, Ok, Err, IfErr, IsErrAnd, ◌==◌, if◌then◌else◌}
use Rattle.std.specs.Prelude.{Bool}
use Rattle.std.proofs.Math.Nat.{mod_self}
use Rattle.std.proofs.lemmas.Bool.{eq-eqb}
use Rattle.std.specs.List.{AllByRecursion}
use Rattle.std.proofs.lemmas.List.{length-map}
use Rattle.flow_codec.specs.declared.error.MessageError.{MessageError}
use Rattle.flow_codec.specs.declared.error.MessageError.TheVariants as message
use Rattle.flow_codec.specs.declared.message.Header.{Header}
use Rattle.flow_codec.specs.Fault.{IsFault}
use Rattle.flow_codec.specs.Message.{IsAccepted}
use Rattle.flow_codec.specs.Raw.{RawMessage, RawRecord, Placed, under}
use Rattle.flow_codec.specs.Reading.{IsRefused as IsRecordRefused}
use Rattle.flow_codec.specs.Templates.{AllTemplates}
use Rattle.flow_codec.specs.Walk.{IsWalkedBy}
use Rattle.flow_codec.proofs.Sizes.{few_records, short_enough}
use Rattle.flow_measure.specs.declared.error.SumError.{SumError}
use Rattle.flow_measure.specs.declared.error.SumError.TheVariants as sum
use Rattle.flow_measure.specs.declared.rows.Row.{Row}
use Rattle.flow_measure.specs.declared.sinks.Totals.{Totals}
use Rattle.flow_measure.specs.Flows.{flows_of_records, FlowFits}
use Rattle.flow_measure.specs.History.{Accepted, AreAcceptedFrom, History, IsHistory, flows_in, read_from}
use Rattle.flow_measure.specs.History.{templates_from, templates_of}
use Rattle.flow_measure.specs.Query.{totals_between}
use Rattle.flow_measure.specs.Sinks.{TookFlows, RefuseFlow}
use Rattle.flow_measure.specs.Sums.{Table, AreSums, empty_table, merged}
use Rattle.flow_measure.specs.Sums.{rows_between, table_of}
use Rattle.flow_measure.proofs.FewFlows.{few_fit}
use Rattle.flow_measure.proofs.Histories.{accepted_then, after_then, flows_then, read_behind}
use Rattle.flow_measure.proofs.SinkSteps.{fit_both, flows_few, none_summed, nothing_taken}
use Rattle.flow_measure.proofs.SumLaws.{merged-table_of}
use Rattle.flow_archive.specs.Plain.{history_of, no_messages, IsKept, IsAppended, IsRefusal, fault_refusal}

-- what the sink of sums holds, and what it refuses
abbrev pub Holds : Totals → List Placed → Totals → Type 0
Holds start taken now = TookFlows start.rows taken now.rows

abbrev pub Refuses : Totals → List Placed → Placed → SumError → Type 0
Refuses start taken x e = RefuseFlow start.rows taken x e

-- before the first message
pub begun : (messages : List (List ℕ)) (here : AllTemplates) (rows : Table) (width : ℕ) → messages ≡ [] → here ≡ []
    → rows ≡ empty_table width → 1 ≤ width → IsKept messages here rows
begun messages here rows width e f g positive = rw (e, f, g) (none_kept width positive)
  where
    none_kept : (w : ℕ) → 1 ≤ w → IsKept [] [] (empty_table w)
    none_kept w positive =
        record {
          read = refl;
          accepted = tt;
          numbers = omega arith;
          templates = refl;
          width = omega (arith, positive);
          sums = sym (none_summed w);
          few = omega arith;
          fit = tt;
        }

-- the same of copies
pub copied : (messages : List (List ℕ)) (here copy : AllTemplates) (rows sums : Table) → IsKept messages here rows
    → copy ≡ here → sums ≡ rows → IsKept messages copy sums
copied messages here copy rows sums k e f = rw (e, f) k

pub err_of : {X E : Type 0} (r : Result X E) (e : E) (P : E → Type 0) → IsErrAnd r (λ x. x ≡ e) → P e → IfErr r P
err_of (Ok x) e P h p = tt
err_of (Err x) e P h p = subst P (sym h) p

module _ (messages : List (List ℕ)) (here : AllTemplates) (t0 : Totals) (k : IsKept messages here t0.rows)
    (octets : List ℕ) where
  abbrev pub all : List Accepted
  all = read_from [] messages

  module _ (m : RawMessage) (after : AllTemplates) (is : IsAccepted octets here m after) where
    abbrev pub one : Accepted
    one = record { octets = octets; message = m; after = after }

    there : IsAccepted octets (templates_of all) m after
    there = subst (λ (t : AllTemplates). IsAccepted octets t m after) k.templates is

    more : read_from [] (messages ++ octets ∷ []) ≡ all ++ one ∷ []
    more = read_behind [] messages one k.read there

    longer : length (read_from [] (messages ++ octets ∷ [])) ≡ length all + 1
    longer = ap length more ∙ length-append all (one ∷ [])

    pub spent : length messages ≡ 2 ^ 48 - 1
        → (length all ≡ 2 ^ 48 - 1)
        × ((x : RawMessage) × (next : AllTemplates) × IsAccepted octets (templates_of all) x next)
    spent n = (omega (arith, n, k.read), (m, after, there))

  pub kept_then : (after : AllTemplates) (t1 : Totals) (header : Header) → length messages < 2 ^ 48 - 1
      → IsWalkedBy Holds octets here after t0 t1 header → IsKept (messages ++ octets ∷ []) after t1.rows
  kept_then after t1 header room walked =
      let m : RawMessage = record { header = header; records = walked.0 } in
      let is : IsAccepted octets here m after = walked.1 in
      let read = more m after is in
      let took = walked.2 t0 [] (nothing_taken t0.rows) in
      let flows : flows_in (read_from [] (messages ++ octets ∷ [])) ≡ flows_in all
      ++ flows_of_records (under header walked.0) = ap flows_in read ∙ flows_then all (one m after is) in
      let len = ap length flows ∙ length-append (flows_in all) (flows_of_records (under header walked.0)) in
      let few = flows_few (under header walked.0) in
      let records = few_records octets here m after is.0 in
      let short = short_enough octets here m after is.0 in
      let size = length-append messages (octets ∷ []) in
      let sums : AreSums t1.rows (flows_in all ++ flows_of_records (under header walked.0)) =
      took.1 (flows_in all) k.sums in
      record {
        read = omega (arith, longer m after is, k.read, size);
        accepted = subst (AreAcceptedFrom []) (sym read)
            (accepted_then [] all (one m after is) k.accepted (there m after is));
        numbers = omega (arith, room, size);
        templates = sym (ap (templates_from []) read ∙ after_then [] all (one m after is));
        width = subst (λ (w : ℕ). 0 < w) (sym took.0) k.width;
        sums = subst (AreSums t1.rows) (sym flows) sums;
        few = omega (
          arith,
          len,
          few,
          length-map {B = Placed} walked.0 (λ (r : RawRecord). (header, r)),
          records,
          short.1,
          k.few,
          size,
        );
        fit = subst (AllByRecursion FlowFits) (sym flows)
            (fit_both (flows_in all) (flows_of_records (under header walked.0)) k.fit took.2);
      }

  pub appended : (after : AllTemplates) (t1 : Totals) (header : Header)
      → IsWalkedBy Holds octets here after t0 t1 header
      → IsAppended (length messages + 1) octets (history_of t0.rows.width messages)
      (history_of t1.rows.width (messages ++ octets ∷ []))
  appended after t1 header walked =
      let m : RawMessage = record { header = header; records = walked.0 } in
      let is : IsAccepted octets here m after = walked.1 in
      let took = walked.2 t0 [] (nothing_taken t0.rows) in (
        one m after is,
        refl,
        there m after is,
        ap (λ (w : ℕ). history_of w (messages ++ octets ∷ [])) took.0
            ∙ ap (λ (xs : List Accepted). record (no_messages t0.rows.width) { all = xs }) (more m after is),
        omega (arith, longer m after is, k.read),
      )

  -- so few flows never pass a sum's type
  pub never_spent : (header : Header) → length octets < 65536
      → IsRecordRefused Holds Refuses header t0 (length octets) sum.SumSpent → ⊥
  never_spent header short h =
      let front = h.0 in
      let r = h.1 in
      let refused = h.3 t0 [] (nothing_taken t0.rows) in
      let taken = under header front ++ (header, r) ∷ [] in
      let len = length-append (flows_in all) (flows_of_records taken) in
      let few = flows_few taken in
      let some = length-append (under header front) ((header, r) ∷ []) in
      refused.0 (flows_in all) k.sums
      (few_fit t0.rows.width (flows_in all ++ flows_of_records taken)
      (fit_both (flows_in all) (flows_of_records taken) k.fit refused.1)
      (omega (
        arith,
        len,
        few,
        some,
        length-map {B = Placed} front (λ (x : RawRecord). (header, x)),
        h.2,
        short,
        k.few,
        k.numbers,
      )))

  -- the refusal of a message's first fault
  pub faulty : (width : ℕ) (fault : MessageError) → (fault ≡ message.OutOfMemory) ⊎ IsFault octets here fault
      → IsRefusal (fault_refusal fault) octets (history_of width messages)
  faulty width fault (inl none) =
      subst (λ (e : MessageError). IsRefusal (fault_refusal e) octets (history_of width messages)) (sym none) tt
  faulty width fault (inr is) = by fault (subst (λ (t : AllTemplates). IsFault octets t fault) k.templates is)
    where
      by : (e : MessageError) → IsFault octets (templates_of all) e
          → IsRefusal (fault_refusal e) octets (history_of width messages)
      by message.OutOfMemory h = tt
      by message.Short h = h
      by message.Version h = h
      by message.Length h = h
      by (message.SetLength at) h = h
      by (message.TemplateCut at) h = h
      by (message.TemplateId at) h = h
      by (message.ScopeCount at) h = h
      by (message.RecordCut at) h = h
      by (message.TemplatesFull domain) h = h
      by message.DomainsFull h = h

-- ---- what always holds

pub is_history : (messages : List (List ℕ)) (here : AllTemplates) (rows : Table) → IsKept messages here rows
    → IsHistory (history_of rows.width messages)
is_history messages here rows k =
    record {
      accepted = k.accepted;
      second = omega arith;
      cut = omega arith;
      width = k.width;
      wide = k.width;
      multiple = mod_self rows.width;
    }

-- a history with an accepted message after it is one
pub goes_on : (position : ℕ) (octets : List ℕ) (old new : History) → IsAppended position octets old new → IsHistory old
    → IsHistory new
goes_on position octets old new (a, e, is, same, at) h = subst IsHistory (sym same) (record {
  accepted = accepted_then [] old.all a h.accepted
      (subst (λ (o : List ℕ). IsAccepted o (templates_of old.all) a.message a.after) (sym e) is);
  second = h.second;
  cut = omega (arith, h.cut, length-append old.all (a ∷ []));
  width = h.width;
  wide = h.wide;
  multiple = h.multiple;
})

-- the sums of all flows answer the history's query
pub totals_same : (from to : ℕ) (messages : List (List ℕ)) (here : AllTemplates) (rows : Table)
    → IsKept messages here rows → rows_between from to rows ≡ totals_between from to (history_of rows.width messages)
totals_same from to messages here rows k =
    let flows = flows_in (read_from [] messages) in
    ap (rows_between from to) (k.sums ∙ ap (table_of rows.width) (sym (append-nil flows))
    ∙ sym (merged-table_of rows.width flows []))
    ∙ sym (one_width (rows_between from to (merged (table_of rows.width flows) (table_of rows.width []))) _
    rows.width)
  where
    one_width : (xs ys : List Row) (w : ℕ) → (if w == w then xs else ys) ≡ xs
    one_width xs ys w = ap (λ (b : Bool). if b then xs else ys) (eq-eqb w w refl)
