-- One record more, for what takes the records of a part.
use Rattle.std.proofs.Common.{◌≡◌, ℕ, Bool, true, false, List, [], ◌∷◌, ◌++◌, refl, sym, ap, subst, ◌∙◌}
use Rattle.std.proofs.Common.{append_assoc, append-nil}
use Rattle.std.specs.Prelude.{nat_le, nat_lt, ◌&&◌}
use Rattle.std.specs.List.{AllByRecursion}
use Rattle.std.specs.FinMap.{entries}
use Rattle.std.proofs.lemmas.List.Concat.{flat_map-append}
use Rattle.std.proofs.lemmas.List.Elements.{filter-append, filter_map-append}
use Rattle.flow_codec.specs.Message.{in_fields}
use Rattle.flow_codec.specs.Raw.{under, Placed}
use Rattle.flow_measure.specs.declared.error.SumError.{SumError}
use Rattle.flow_measure.specs.declared.error.SumError.TheVariants.{SumSpent, OutOfMemory}
use Rattle.flow_measure.specs.declared.flow.Flow.{Flow}
use Rattle.flow_measure.specs.Flows.{flow_of, flows_of, flows_of_records, FlowFits}
use Rattle.flow_measure.specs.History.{Accepted, flows_in}
use Rattle.flow_measure.specs.Sums.{Table, key_of, counted, gathered, sums_by, with_flow, AllFit, IsRefused}
use Rattle.flow_measure.proofs.Fitting.{front_fits}
use Rattle.flow_measure.proofs.Gathering.{gathered-again, gathered-both, gathered-entries}
use Rattle.flow_measure.proofs.SinkSteps.{all_fit, flows-in_fields}
use Rattle.flow_measure.proofs.SumLaws.{with_flow-table_of}
use Rattle.flow_segment.specs.PartFlows.{flows_within, records_in, with_flows, HasAdded, TookAll}

-- ---- sums with flows added

pub with_one : (start : Table) (fs : List Flow) (f : Flow)
    → with_flow f (with_flows fs start) ≡ with_flows (fs ++ f ∷ []) start
with_one start fs f =
    let es = entries start.sums in
    let gs = entries (sums_by start.width fs) in
    let one = (key_of start.width f, counted f) ∷ [] in
    ap (λ m. let t : Table = record { width = start.width; sums = m } in t)
    (gathered-again (es ++ gs) one ∙ ap gathered (append_assoc es gs one) ∙ sym (gathered-both es (gs ++ one))
    ∙ ap (λ m. gathered (entries m ++ entries (gathered (gs ++ one)))) (gathered-entries start.sums)
    ∙ ap (λ (t : Table). gathered (es ++ entries t.sums)) (with_flow-table_of start.width fs f))

-- sums with fewer flows fit
fewer_fit : (start : Table) (fs : List Flow) (f : Flow) → AllFit (with_flows (fs ++ f ∷ []) start)
    → AllFit (with_flows fs start)
fewer_fit start fs f fit =
    let t = with_flows fs start in
    let one = (key_of start.width f, counted f) ∷ [] in
    subst (λ m. AllFit (record { width = start.width; sums = m })) (gathered-entries t.sums)
    (front_fits start.width start.width (entries t.sums) one (subst AllFit (sym (with_one start fs f)) fit))

module _ (start : Table) (taken : List Placed) (x : Placed) where
  abbrev all : List Flow
  all = flows_of_records (taken ++ x ∷ [])

  -- a record without a flow
  pub skips : all ≡ flows_of_records taken → (now : Table) (spent : Bool) → HasAdded start taken now spent
      → HasAdded start (taken ++ x ∷ []) now spent
  skips same now false h = (
    h.0 ∙ ap (λ (fs : List Flow). with_flows fs start) (sym same),
    subst (AllByRecursion FlowFits) (sym same) h.1,
  )
  skips same now true h = (
    λ fit. h.0 (subst (λ (fs : List Flow). AllFit (with_flows fs start)) same fit),
    subst (AllByRecursion FlowFits) (sym same) h.1,
  )

  module _ (f : Flow) (more : all ≡ flows_of_records taken ++ f ∷ []) (fits : FlowFits f) where
    pub adds : (old new : Table) (spent : Bool) → spent ≡ false → new ≡ with_flow f old → HasAdded start taken old spent
        → HasAdded start (taken ++ x ∷ []) new spent
    adds old new false is e h = (
      e ∙ ap (with_flow f) h.0 ∙ with_one start (flows_of_records taken) f
          ∙ ap (λ (fs : List Flow). with_flows fs start) (sym more),
      all_fit (flows_of_records taken) all f more h.1 fits,
    )
    adds old new true is e h = absurd cc

    -- the first flow with which a sum would pass its type
    pub passes : (old : Table) (spent : Bool) (e : SumError) → spent ≡ false → e ≡ SumSpent
        → IsRefused e (with_flow f old) → HasAdded start taken old spent → HasAdded start (taken ++ x ∷ []) old true
    passes old false SumSpent is same refused h = (
      λ fit. refused (subst AllFit (ap (λ (fs : List Flow). with_flows fs start) more
          ∙ sym (with_one start (flows_of_records taken) f) ∙ ap (with_flow f) (sym h.0)) fit),
      all_fit (flows_of_records taken) all f more h.1 fits,
    )
    passes old false OutOfMemory is same refused h = absurd cc
    passes old true e is same refused h = absurd cc

    -- a flow after it
    pub stays : (old : Table) (spent : Bool) → spent ≡ true → HasAdded start taken old spent
        → HasAdded start (taken ++ x ∷ []) old spent
    stays old true is h = (
      λ fit. h.0 (fewer_fit start (flows_of_records taken) f
          (subst (λ (fs : List Flow). AllFit (with_flows fs start)) more fit)),
      all_fit (flows_of_records taken) all f more h.1 fits,
    )
    stays old false is h = absurd cc

-- ---- chosen flows

within_more : (from to : ℕ) (fs all : List Flow) (f : Flow) → all ≡ fs ++ f ∷ []
    → (nat_le from f.start && nat_lt f.start to) ≡ true → flows_within from to all ≡ flows_within from to fs ++ f ∷ []
within_more from to fs all f more within =
    ap (flows_within from to) more
    ∙ filter-append (λ (f : Flow). nat_le from f.start && nat_lt f.start to) fs (f ∷ [])
    ∙ ap (λ (gs : List Flow). flows_within from to fs ++ gs) (rw within refl)

within_less : (from to : ℕ) (fs all : List Flow) (f : Flow) → all ≡ fs ++ f ∷ []
    → (nat_le from f.start && nat_lt f.start to) ≡ false → flows_within from to all ≡ flows_within from to fs
within_less from to fs all f more without =
    ap (flows_within from to) more
    ∙ filter-append (λ (f : Flow). nat_le from f.start && nat_lt f.start to) fs (f ∷ [])
    ∙ ap (λ (gs : List Flow). flows_within from to fs ++ gs) (rw without refl)
    ∙ append-nil (flows_within from to fs)

-- a flow that starts within
pub chosen_more : (from to now_from now_to : ℕ) (start old new : List Flow) (taken : List Placed) (x : Placed)
    (f : Flow)
    → flows_of_records (taken ++ x ∷ []) ≡ flows_of_records taken ++ f ∷ [] → now_from ≡ from → now_to ≡ to
    → old ≡ start ++ flows_within from to (flows_of_records taken)
    → (nat_le now_from f.start && nat_lt f.start now_to) ≡ true → new ≡ old ++ f ∷ []
    → new ≡ start ++ flows_within from to (flows_of_records (taken ++ x ∷ []))
chosen_more from to now_from now_to start old new taken x f more a b h within pushed =
    let is = within_more from to (flows_of_records taken) (flows_of_records (taken ++ x ∷ [])) f more
    (subst (λ n. (nat_le n f.start && nat_lt f.start to) ≡ true) a
    (subst (λ n. (nat_le now_from f.start && nat_lt f.start n) ≡ true) b within)) in
    pushed ∙ ap (λ (fs : List Flow). fs ++ f ∷ []) h
    ∙ append_assoc start (flows_within from to (flows_of_records taken)) (f ∷ [])
    ∙ ap (λ (fs : List Flow). start ++ fs) (sym is)

-- another flow
pub chosen_less : (from to now_from now_to : ℕ) (start old : List Flow) (taken : List Placed) (x : Placed) (f : Flow)
    → flows_of_records (taken ++ x ∷ []) ≡ flows_of_records taken ++ f ∷ [] → now_from ≡ from → now_to ≡ to
    → old ≡ start ++ flows_within from to (flows_of_records taken)
    → (nat_le now_from f.start && nat_lt f.start now_to) ≡ false
    → old ≡ start ++ flows_within from to (flows_of_records (taken ++ x ∷ []))
chosen_less from to now_from now_to start old taken x f more a b h without =
    let is = within_less from to (flows_of_records taken) (flows_of_records (taken ++ x ∷ [])) f more
    (subst (λ n. (nat_le n f.start && nat_lt f.start to) ≡ false) a
    (subst (λ n. (nat_le now_from f.start && nat_lt f.start n) ≡ false) b without)) in
    h ∙ ap (λ (fs : List Flow). start ++ fs) (sym is)

-- ---- records of messages

pub took_then : {S : Type 0} (holds : S → List Placed → S → Type 0) (old mid new : S) (xs ys : List Placed)
    → TookAll holds old xs mid → TookAll holds mid ys new → TookAll holds old (xs ++ ys) new
took_then holds old mid new xs ys h k = λ start before is.
    subst (λ (t : List Placed). holds start t new) (append_assoc before xs ys)
    (k start (before ++ xs) (h start before is))

pub records_then : (messages : List Accepted) (a : Accepted)
    → records_in (messages ++ a ∷ []) ≡ records_in messages ++ under a.message.header a.message.records
records_then messages a =
    flat_map-append (λ (x : Accepted). under x.message.header x.message.records) messages (a ∷ [])
    ∙ ap (λ (t : List Placed). records_in messages ++ t) (append-nil (under a.message.header a.message.records))

-- the flows of messages are those of their records
pub flows_in_records : (messages : List Accepted) → flows_of_records (records_in messages) ≡ flows_in messages
flows_in_records [] = refl
flows_in_records (a ∷ more) =
    filter_map-append flow_of (under a.message.header a.message.records) (records_in more)
    ∙ ap (λ (fs : List Flow). fs ++ flows_of_records (records_in more)) (sym (flows-in_fields a.message))
    ∙ ap (λ (fs : List Flow). flows_of (in_fields a.message) ++ fs) (flows_in_records more)
