-- How the sums of a run over a File go on.
use Rattle.std.proofs.Common.{◌≡◌, ℕ, suc, ◌*◌, ◌<◌, ◌≤◌, ◌+◌, ◌^◌, ◌%◌, ◌-◌, List, [], ◌∷◌, ◌++◌, length, Option}
use Rattle.std.proofs.Common.{None}
use Rattle.std.proofs.Common.{Some, IfSome, refl, sym, ap, ◌∙◌, subst, append-nil, length-append, arith, inl, inr, ◌⊎◌}
use Rattle.std.specs.Prelude.{Result, Ok, Err, true, false, ⊤, IfErr, IsErrAnd}
use Rattle.std.specs.Io.KnownBytes.{Keeps}
use Rattle.std.specs.List.{AllByRecursion, cons_option}
use Rattle.std.proofs.lemmas.List.{length-map}
use Rattle.std.proofs.lemmas.List.Concat.{flat_map-append}
use Rattle.flow_codec.specs.declared.file.FileError.{FileError}
use Rattle.flow_codec.specs.declared.error.MessageError.{MessageError}
use Rattle.flow_codec.specs.declared.error.MessageError.TheVariants as message
use Rattle.flow_codec.specs.declared.sink.WalkError.{WalkError}
use Rattle.flow_codec.specs.declared.sink.WalkError.TheVariants as walk
use Rattle.flow_codec.specs.declared.stream.StreamError.{StreamError}
use Rattle.flow_codec.specs.declared.stream.StreamError.TheVariants as stream
use Rattle.flow_codec.specs.declared.message.Header.{Header}
use Rattle.flow_codec.specs.Raw.{RawMessage, RawRecord, Placed, under}
use Rattle.flow_codec.specs.Templates.{AllTemplates}
use Rattle.flow_codec.specs.Message.{IsAccepted, in_fields}
use Rattle.flow_codec.specs.Fault.{IsFault}
use Rattle.flow_codec.specs.Stream.{ReaderState, Progress, progress, IsStep, IsStop, IsMessageNext}
use Rattle.flow_codec.specs.Stream.{StopsWithin}
use Rattle.flow_codec.specs.declared.patient.ReadFailed.{ReadFailed}
use Rattle.flow_codec.specs.File.{AcceptedFront, whole, broken, refused}
use Rattle.flow_codec.specs.Walk.{IsWalkedBy, IsStopped}
use Rattle.flow_measure.specs.declared.sinks.Totals.{Totals}
use Rattle.flow_report.specs.declared.lacking.CountedTotals.{CountedTotals}
use Rattle.flow_measure.specs.declared.error.SumError.{SumError}
use Rattle.flow_measure.specs.declared.error.SumError.TheVariants as sum
use Rattle.flow_measure.specs.declared.flow.Flow.{Flow}
use Rattle.flow_measure.specs.Flows.{flows_of_records, flow_of, flows_of, FlowFits}
use Rattle.flow_measure.specs.Sums.{Table, AreSums, IsRefused as SumRefused, empty_table, sums_by, gathered, table_of}
use Rattle.flow_measure.proofs.SinkSteps.{flows-in_fields}
use Rattle.flow_measure.proofs.FewFlows.{few_fit}
use Rattle.flow_codec.proofs.Sizes.{few_records, short_enough}
use Rattle.flow_report.specs.declared.refusal.Refusal.{Refusal}
use Rattle.flow_report.specs.declared.refusal.Refusal.TheVariants as refusal
use Rattle.flow_report.specs.Refusals.{refusal_of, message_refusal, stream_refusal, IsOfInput}
use Rattle.flow_report.specs.declared.format.Format.{Format}
use Rattle.flow_report.specs.Measure.{flows_of_all, HasSums, IsRefusedBy, KeepsOrFront}
use Rattle.flow_codec.proofs.Following.{Follows, follows_none, follows_more, follows_end, follows_broken}
use Rattle.flow_codec.proofs.Following.{follows_refused}
use Rattle.flow_report.specs.Fronts.{IsSpentFront, IsReadFront}
use Rattle.flow_report.proofs.Reached.{IsShort, spent_at, read_up}

-- the sums of the messages that a reader gave
pub record HasSummed (width : ℕ) (old : Option (List ℕ)) (reader : Progress) (here : AllTemplates)
    (totals : Totals) : Type 0 where
  pub messages : List RawMessage
  pub run : Follows old reader.rest reader.at messages here
  pub counted : reader.count ≡ length messages
  pub going : reader.stopped ≡ None
  pub across : totals.rows.width ≡ width
  pub sums : AreSums totals.rows (flows_of_all messages)
  pub few : length (flows_of_all messages) ≤ 65536 * reader.count
  pub fit : AllByRecursion FlowFits (flows_of_all messages)

pub flows_then : (messages : List RawMessage) (m : RawMessage)
    → flows_of_all (messages ++ m ∷ []) ≡ flows_of_all messages ++ flows_of_records (under m.header m.records)
flows_then messages m =
    flat_map-append (λ x. flows_of (in_fields x)) messages (m ∷ [])
    ∙ ap (λ (t : List Flow). flows_of_all messages ++ t) (append-nil (flows_of (in_fields m)) ∙ flows-in_fields m)

-- at the File's end these are the sums of all
pub summed : (width : ℕ) (old : Option (List ℕ)) (reader next : Progress) (here : AllTemplates) (totals : Totals)
    → HasSummed width old reader here totals → IsStep reader (Ok false) next
    → IfSome old (λ octets. HasSums width octets totals.rows)
summed width old reader next here totals h step =
    with_front old (follows_end old reader next h.messages here h.run step)
  where
    with_front : (o : Option (List ℕ)) → IfSome o (λ octets. AcceptedFront octets h.messages here whole)
        → IfSome o (λ octets. HasSums width octets totals.rows)
    with_front None f = tt
    with_front (Some octets) f =
        (h.messages, here, f, h.sums ∙ ap (λ (w : ℕ). table_of w (flows_of_all h.messages)) h.across)

none_summed : (width : ℕ) → table_of width [] ≡ empty_table width
unfolding sums_by gathered
none_summed width = refl

-- before the first message
pub begun : (width : ℕ) (old : Option (List ℕ)) (reader : Progress) (here : AllTemplates) (totals : Totals)
    → reader ≡ record { rest = old; message = []; count = 0; at = 0; stopped = None } → here ≡ []
    → totals.rows ≡ empty_table width → HasSummed width old reader here totals
begun width old reader here totals is none empty =
    subst (λ (r : Progress). HasSummed width old r here totals) (sym is) (record {
      messages = [];
      run = subst (λ (t : AllTemplates). Follows old old 0 [] t) (sym none) (follows_none old);
      counted = refl;
      going = refl;
      across = ap (λ (t : Table). t.width) empty;
      sums = empty ∙ sym (none_summed width) ∙ ap (λ (w : ℕ). table_of w []) (sym (ap (λ (t : Table). t.width) empty));
      few = omega arith;
      fit = tt;
    })

-- what the sink of sums holds
abbrev pub Holds : Totals → List Placed → Totals → Type 0
Holds start taken now = (now.rows.width ≡ start.rows.width) × ((flows : List Flow) → AreSums start.rows flows
    → AreSums now.rows (flows ++ flows_of_records taken)) × AllByRecursion FlowFits (flows_of_records taken)

-- what the sink that counts records too holds
abbrev pub CountedHolds : CountedTotals → List Placed → CountedTotals → Type 0
CountedHolds start taken now =
    Holds start.totals taken now.totals × (now.records ≡ (start.records + length taken) % 2 ^ 32)

nothing_taken : (t : Totals) → Holds t [] t
nothing_taken t = (refl, λ flows h. subst (AreSums t.rows) (sym (append-nil flows)) h, tt)

flows_few : (taken : List Placed) → length (flows_of_records taken) ≤ length taken
flows_few [] = omega arith
flows_few (x ∷ xs) = let more = flows_few xs in by (flow_of x) more
  where
    by : (o : Option Flow) → length (flows_of_records xs) ≤ length xs
        → length (cons_option o (flows_of_records xs)) ≤ suc (length xs)
    by None more = omega (arith, more)
    by (Some f) more = omega (arith, more)

fit_both : (fs gs : List Flow) → AllByRecursion FlowFits fs → AllByRecursion FlowFits gs
    → AllByRecursion FlowFits (fs ++ gs)
fit_both [] gs a b = b
fit_both (f ∷ fs) gs a b = (a.0, fit_both fs gs a.1 b)

none_counted : (n : ℕ) → n ≡ 0 → n ≡ (n + 0) % 2 ^ 32
none_counted n none = subst (λ (k : ℕ). k ≡ (k + 0) % 2 ^ 32) (sym none) refl

-- one message more
pub stepped : (width : ℕ) (old : Option (List ℕ)) (r0 r1 : Progress) (h0 h1 : AllTemplates) (c0 c1 : CountedTotals)
    (header : Header) (octets : List ℕ)
    → HasSummed width old r0 h0 c0.totals → c0.records ≡ 0 → IsStep r0 (Ok true) r1 → octets ≡ r1.message
    → (walked : IsWalkedBy CountedHolds octets h0 h1 c0 c1 header)
    → HasSummed width old r1 h1 c1.totals × (c1.records ≡ length walked.0)
    × IsAccepted r1.message h0 (record { header = header; records = walked.0 }) h1
stepped width old r0 r1 h0 h1 c0 c1 header octets s none step is walked =
    let m : RawMessage = record { header = header; records = walked.0 } in
    let accepted : IsAccepted r1.message h0 m h1 = subst (λ (o : List ℕ). IsAccepted o h0 m h1) is walked.1 in
    let both = walked.2 c0 [] (nothing_taken c0.totals, none_counted c0.records none) in
    let took = both.0 in
    let more = flows_then s.messages m in
    let len = ap length more ∙ length-append (flows_of_all s.messages) (flows_of_records (under header walked.0)) in
    let few = flows_few (under header walked.0) in
    let records = few_records r1.message h0 m h1 accepted.0 in
    let short = short_enough r1.message h0 m h1 accepted.0 in
    let count = length-map {B = Placed} walked.0 (λ (r : RawRecord). (header, r)) in (
      record {
        messages = s.messages ++ m ∷ [];
        run = follows_more old r0 r1 s.messages h0 h1 m s.run step accepted;
        counted = omega (arith, s.counted, step.4, length-append s.messages (m ∷ []));
        going = step.1;
        across = took.0 ∙ s.across;
        sums = subst (AreSums c1.totals.rows) (sym more) (took.1 (flows_of_all s.messages) s.sums);
        few = omega (arith, len, few, count, records, short.1, s.few, step.4);
        fit = subst (AllByRecursion FlowFits) (sym more)
            (fit_both (flows_of_all s.messages) (flows_of_records (under header walked.0)) s.fit took.2);
      },
      both.1 ∙ small (c0.records + length (under header walked.0)) (length walked.0) (omega (arith, none, count))
          (omega (arith, records, short.1)),
      accepted,
    )
  where
    -- a count below 2^32 is itself
    small : (n k : ℕ) → n ≡ k → k < 2 ^ 32 → n % 2 ^ 32 ≡ k
    small n k same less = omega (arith, same, less)

-- nothing is said where memory or a reader failed
pub always : (old : Option (List ℕ)) → IfSome old (λ octets. ⊤)
always None = tt
always (Some octets) = tt

-- a refusal by this fault, of the message of this number
abbrev IsRefusedAt : MessageError → ℕ → List ℕ → Type 0
IsRefusedAt fault number octets = (messages : List RawMessage) × (after : AllTemplates)
    × AcceptedFront octets messages after (refused fault) × (number ≡ length messages + 1)

as_message : (fault : MessageError) (number : ℕ) (octets : List ℕ) (left : Option (List ℕ)) → IsRefusedAt fault number
    octets
    → IsRefusedBy octets left (message_refusal fault number)
as_message message.OutOfMemory number octets left h = tt
as_message message.Short number octets left h = h
as_message message.Version number octets left h = h
as_message message.Length number octets left h = h
as_message (message.SetLength at) number octets left h = h
as_message (message.TemplateCut at) number octets left h = h
as_message (message.TemplateId at) number octets left h = h
as_message (message.ScopeCount at) number octets left h = h
as_message (message.RecordCut at) number octets left h = h
as_message (message.TemplatesFull domain) number octets left h = h
as_message message.DomainsFull number octets left h = h

-- what the sink of sums refuses
abbrev pub Refuses : Totals → List Placed → Placed → SumError → Type 0
Refuses start taken x e =
    ((flows : List Flow) → AreSums start.rows flows
    → SumRefused e (table_of start.rows.width (flows ++ flows_of_records (taken ++ x ∷ []))))
    × AllByRecursion FlowFits (flows_of_records (taken ++ x ∷ []))

-- what the sink that counts records too refuses
abbrev pub CountedRefuses : CountedTotals → List Placed → Placed → SumError → Type 0
CountedRefuses start taken x e = Refuses start.totals taken x e

-- a message at which the run stops
pub stopped_at : (width : ℕ) (old left : Option (List ℕ)) (r0 r1 : Progress) (h0 : AllTemplates) (c0 : CountedTotals)
    (octets : List ℕ) (stop : WalkError SumError)
    → HasSummed width old r0 h0 c0.totals → c0.records ≡ 0 → IsStep r0 (Ok true) r1 → octets ≡ r1.message → length octets < 65536
    → IsStopped CountedHolds CountedRefuses octets h0 c0 stop
    → IfSome old (λ file. IsRefusedBy file left (refusal_of stop r1.count))
stopped_at width old left r0 r1 h0 c0 octets (walk.Sink sum.OutOfMemory) s none step is short h = always old
stopped_at width old left r0 r1 h0 c0 octets (walk.Sink sum.SumSpent) s none step is short h =
    let front = (h.1).0 in
    let r = (h.1).1 in
    let refused = (h.1).3 c0 [] (nothing_taken c0.totals, none_counted c0.records none) in
    let taken = under h.0 front ++ (h.0, r) ∷ [] in
    let whole = flows_of_all s.messages ++ flows_of_records taken in
    let len = length-append (flows_of_all s.messages) (flows_of_records taken) in
    let few = flows_few taken in
    let some = length-append (under h.0 front) ((h.0, r) ∷ []) in
    absurd (refused.0 (flows_of_all s.messages) s.sums
    (few_fit c0.totals.rows.width whole (fit_both (flows_of_all s.messages) (flows_of_records taken) s.fit refused.1)
    (omega (
      arith,
      len,
      few,
      some,
      length-map {B = Placed} front (λ (x : RawRecord). (h.0, x)),
      (h.1).2,
      short,
      s.few,
      step.4,
      step.5,
    ))))
stopped_at width old left r0 r1 h0 c0 octets (walk.Message fault) s zero step is short (inl none) =
    subst (λ (e : MessageError). IfSome old (λ file. IsRefusedBy file left (message_refusal e r1.count))) (sym none)
    (always old)
stopped_at width old left r0 r1 h0 c0 octets (walk.Message fault) s zero step is short (inr faulty) =
    with_front old (follows_refused old r0 r1 s.messages h0 fault s.run step
    (subst (λ (o : List ℕ). IsFault o h0 fault) is faulty))
  where
    number : r1.count ≡ length s.messages + 1
    number = omega (arith, step.4, s.counted)

    with_front : (o : Option (List ℕ)) → IfSome o (λ file. AcceptedFront file s.messages h0 (refused fault))
        → IfSome o (λ file. IsRefusedBy file left (message_refusal fault r1.count))
    with_front None f = tt
    with_front (Some file) f = as_message fault r1.count file left (s.messages, h0, f, number)

-- where it stops since a read failed
pub short_at : (old new : ReaderState) (left unread : Option (List ℕ)) (e : StreamError) → old.stopped ≡ None
    → StopsWithin old left e new unread → (failed : ReadFailed) → e ≡ stream.Read failed
    → IsShort (progress old left) new.ahead unread
short_at old new left unread e fresh within failed is =
    (subst (λ (r : StreamError). StopsWithin old left r new unread) is within) fresh

-- the reader stops
pub ended_by : (width : ℕ) (old left : Option (List ℕ)) (ahead : List ℕ) (r0 r1 : Progress) (h0 : AllTemplates)
    (t0 : Totals) (e : StreamError)
    → HasSummed width old r0 h0 t0 → IsStep r0 (Err e) r1
    → ((failed : ReadFailed) → e ≡ stream.Read failed → IsShort r0 ahead left)
    → IfSome old (λ file. IsRefusedBy file left (stream_refusal e))
ended_by width old left ahead r0 r1 h0 t0 e s step short = by e step short
  where
    broke : (o : Option (List ℕ)) (fault : FileError)
        → IfSome o (λ file. AcceptedFront file s.messages h0 (broken fault))
        → IfSome o (λ file. IsRefusedBy file left (stream_refusal (stream.File fault)))
    broke None fault f = tt
    broke (Some file) fault f = (s.messages, h0, f)

    spent : (o : Option (List ℕ)) → IfSome o (λ file. IsSpentFront file s.messages)
        → IfSome o (λ file. IsRefusedBy file left (stream_refusal stream.NumbersSpent))
    spent None f = tt
    spent (Some file) f = (s.messages, f)

    full : (r0.stopped ≡ Some stream.NumbersSpent)
        ⊎ ((r0.stopped ≡ None) × IsStop r0.count r0.at r0.rest stream.NumbersSpent)
        → (r0.count ≡ 2 ^ 48 - 1) × IsMessageNext r0.rest
    full (inl was) = let none = sym s.going ∙ was in absurd cc
    full (inr h) = h.1

    all : (o : Option (List ℕ)) (failed : ReadFailed) → IfSome o (λ file. IsReadFront file left s.messages)
        → IfSome o (λ file. IsRefusedBy file left (stream_refusal (stream.Read failed)))
    all None failed f = tt
    all (Some file) failed f = (s.messages, f)

    by : (e : StreamError) → IsStep r0 (Err e) r1
        → ((failed : ReadFailed) → e ≡ stream.Read failed → IsShort r0 ahead left)
        → IfSome old (λ file. IsRefusedBy file left (stream_refusal e))
    by (stream.File fault) step short = broke old fault
        (follows_broken old r0 r1 s.messages h0 fault s.going s.run step)
    by (stream.Read failed) step short =
        let ahead_is = short failed refl in
        all old failed (read_up old r0.rest left r0.at s.messages h0 ahead s.run ahead_is.0 ahead_is.1)
    by stream.NumbersSpent step short = let h = full step.0 in
        spent old (spent_at old r0.rest r0.at s.messages h0 s.run (sym s.counted ∙ h.0) h.1)

pub err_of : {X : Type 0} (r : Result X Refusal) (e : Refusal) (P : Refusal → Type 0) → IsErrAnd r (λ x. x ≡ e) → P e
    → IfErr r P
err_of (Ok x) e P h p = tt
err_of (Err x) e P h p = subst P (sym h) p

pub of_input : (e : StreamError) → IsOfInput (stream_refusal e)
of_input (stream.File fault) = tt
of_input (stream.Read failed) = tt
of_input stream.NumbersSpent = tt

-- a refusal before anything is written keeps what the writer held
pub kept : (format : Format) (width : ℕ) (input old new : Option (List ℕ)) (e : Refusal) → IsOfInput e → Keeps old new
    → KeepsOrFront format width input old new e
kept format width input old new (refusal.Message fault number) is keeps = keeps
kept format width input old new (refusal.File fault) is keeps = keeps
kept format width input old new refusal.OutOfMemory is keeps = keeps
kept format width input old new refusal.SumSpent is keeps = keeps
kept format width input old new refusal.NumbersSpent is keeps = keeps
kept format width input old new (refusal.Read failed) is keeps = keeps
kept format width input old new (refusal.Write failed) is keeps = absurd is
