-- One record more, for what takes flows.
use Rattle.std.proofs.Common.{suc, ◌≤◌, length, Option, Some, None, arith, ◌≡◌, ℕ, true, false, List, [], ◌∷◌, ◌++◌}
use Rattle.std.proofs.Common.{map, refl, sym, ap, subst, ◌∙◌, append_assoc}
use Rattle.std.specs.List.{filter_map, cons_option, AllByRecursion}
use Rattle.std.specs.Prelude.{Result, Ok, Err, IfErr, IsErrAnd}
use Rattle.std.proofs.lemmas.List.{append-nil}
use Rattle.std.proofs.lemmas.List.Elements.{filter_map-append}
use Rattle.flow_codec.specs.declared.message.Header.{Header}
use Rattle.flow_codec.specs.Fields.{fields_in}
use Rattle.flow_codec.specs.Layout.{Layout}
use Rattle.flow_codec.specs.Plan.{values_of}
use Rattle.flow_codec.specs.Raw.{Placed, RawRecord, RawMessage, raw, under}
use Rattle.flow_codec.specs.Message.{interpreted, in_fields}
use Rattle.flow_measure.specs.declared.error.SumError.{SumError}
use Rattle.flow_measure.specs.declared.flow.Flow.{Flow}
use Rattle.flow_measure.specs.Flows.{flow_of, flow_of_record, flow_from, flows_of, flows_of_records, FlowFits}
use Rattle.flow_measure.specs.Sums.{Table, AreSums, IsRefused, table_of, with_flow}
use Rattle.flow_measure.specs.Sums.{empty_table, sums_by, gathered}
use Rattle.flow_measure.specs.Sinks.{TookFlows, RefuseFlow}
use Rattle.flow_measure.proofs.SumLaws.{with_flow-table_of}

module _ (taken : List Placed) (header : Header) (id : ℕ) (layout : Layout) (octets : List ℕ) where
  -- a record of a Template is one flow more
  pub one_more : layout.options ≡ false
      → flows_of_records (taken ++ (header, raw id layout octets) ∷ []) ≡ flows_of_records taken
      ++ flow_from header (values_of (fields_in layout.fields octets)) ∷ []
  one_more is = filter_map-append flow_of taken ((header, raw id layout octets) ∷ []) ∙ rw is refl

  -- one of an Options Template is none
  pub none_more : layout.options ≡ true
      → flows_of_records (taken ++ (header, raw id layout octets) ∷ []) ≡ flows_of_records taken
  none_more is =
      filter_map-append flow_of taken ((header, raw id layout octets) ∷ [])
      ∙ rw is (append-nil (flows_of_records taken))

-- sums of flows and of one more after them
pub more_sums : (start old new : Table) (flows more : List Flow) (f : Flow) (all : List Flow) → all ≡ more ++ f ∷ []
    → (AreSums start flows → AreSums old (flows ++ more))
    → ((gs : List Flow) → AreSums old gs → AreSums new (gs ++ f ∷ [])) → AreSums start flows
    → AreSums new (flows ++ all)
more_sums start old new flows more f all e before step h =
    subst (AreSums new) (append_assoc flows more (f ∷ [])
    ∙ ap (λ gs. flows ++ gs) (sym e)) (step (flows ++ more) (before h))

-- where one flow more is refused, the sums of all are refused
pub refused_sums : (e : SumError) (start old : Table) (flows more : List Flow) (f : Flow) (all : List Flow)
    → all ≡ more ++ f ∷ [] → old.width ≡ start.width → (AreSums start flows → AreSums old (flows ++ more))
    → IsRefused e (with_flow f old) → AreSums start flows → IsRefused e (table_of start.width (flows ++ all))
refused_sums e start old flows more f all is width before refused h =
    let whole : flows ++ all ≡ (flows ++ more) ++ f ∷ [] =
    ap (λ gs. flows ++ gs) is ∙ sym (append_assoc flows more (f ∷ [])) in
    let same : with_flow f old ≡ table_of start.width (flows ++ all) =
    ap (with_flow f) (before h) ∙ with_flow-table_of old.width (flows ++ more) f
    ∙ ap (λ w. table_of w ((flows ++ more) ++ f ∷ [])) width ∙ ap (table_of start.width) (sym whole) in
    subst (IsRefused e) same refused

pub on_error : {X : Type 0} (r : Result X SumError) (e : SumError) (P : SumError → Type 0) → IsErrAnd r (λ x. x ≡ e)
    → P e → IfErr r P
on_error (Ok x) e P h p = tt
on_error (Err x) e P h p = subst P (sym h) p

-- the flows of a message in octets are those of the same message in fields
either_way : (header : Header) (records : List RawRecord)
    → filter_map (flow_of_record header) (map interpreted records) ≡ flows_of_records (under header records)
either_way header [] = refl
either_way header (r ∷ rs) = rw (either_way header rs) refl

pub flows-in_fields : (m : RawMessage) → flows_of (in_fields m) ≡ flows_of_records (under m.header m.records)
flows-in_fields m = either_way m.header m.records

pub flows_few : (taken : List Placed) → length (flows_of_records taken) ≤ length taken
flows_few [] = omega arith
flows_few (x ∷ xs) = let more = flows_few xs in by (flow_of x) more
  where
    by : (o : Option Flow) → length (flows_of_records xs) ≤ length xs
        → length (cons_option o (flows_of_records xs)) ≤ suc (length xs)
    by None more = omega (arith, more)
    by (Some f) more = omega (arith, more)

pub fit_both : (fs gs : List Flow) → AllByRecursion FlowFits fs → AllByRecursion FlowFits gs
    → AllByRecursion FlowFits (fs ++ gs)
fit_both [] gs a b = b
fit_both (f ∷ fs) gs a b = (a.0, fit_both fs gs a.1 b)

pub all_fit : (more all : List Flow) (f : Flow) → all ≡ more ++ f ∷ [] → AllByRecursion FlowFits more → FlowFits f
    → AllByRecursion FlowFits all
all_fit more all f e h k = subst (AllByRecursion FlowFits) (sym e) (fit_both more (f ∷ []) h (k, tt))

-- ---- the rows that take flows

pub nothing_taken : (t : Table) → TookFlows t [] t
nothing_taken t = (refl, λ flows h. subst (AreSums t) (sym (append-nil flows)) h, tt)

pub none_summed : (width : ℕ) → table_of width [] ≡ empty_table width
unfolding sums_by gathered
none_summed width = refl

module _ (start old : Table) (taken : List Placed) (x : Placed) (f : Flow)
    (more : flows_of_records (taken ++ x ∷ []) ≡ flows_of_records taken ++ f ∷ []) (fits : FlowFits f)
    (took : TookFlows start taken old) where
  abbrev all : List Flow
  all = flows_of_records (taken ++ x ∷ [])

  -- one flow more
  pub takes_one : (new : Table) → new ≡ with_flow f old
      → ((gs : List Flow) → AreSums old gs → AreSums new (gs ++ f ∷ []))
      → TookFlows start (taken ++ x ∷ []) new
  takes_one new is step = (
    ap (λ (t : Table). t.width) is ∙ took.0,
    λ flows sums. more_sums start old new flows (flows_of_records taken) f all more (took.1 flows) step sums,
    all_fit (flows_of_records taken) all f more took.2 fits,
  )

  -- where it is refused, the sums of all are refused
  pub refuses_one : (e : SumError) → IsRefused e (with_flow f old) → RefuseFlow start taken x e
  refuses_one e refused = (
    λ flows sums. refused_sums e start old flows (flows_of_records taken) f all more took.0 (took.1 flows) refused sums,
    all_fit (flows_of_records taken) all f more took.2 fits,
  )
