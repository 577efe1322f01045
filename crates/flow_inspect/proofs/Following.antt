-- How the reports of a run over a File go on.
use Rattle.std.proofs.Common.{◌≡◌, ℕ, ◌<◌, ◌+◌, ◌^◌, ◌-◌, Bool, List, [], ◌∷◌, ◌++◌, length, Option, None, Some}
use Rattle.std.proofs.Common.{append_assoc, IfSome, refl, sym, ap, ap₂, ◌∙◌, subst, length-append, arith, inl, inr, ◌⊎◌}
use Rattle.std.specs.Prelude.{Ok, Err, true, false, ⊤, min, cond, count_by, fold, take, slice_get}
use Rattle.std.specs.declared.convert.Infallible.{Infallible}
use Rattle.std.proofs.Math.Nat.{min-eq_left}
use Rattle.std.proofs.lemmas.List.{append-nil, take_more}
use Rattle.std.proofs.lemmas.List.Sums.{count_by-le-length, fold-append}
use Rattle.std.proofs.lemmas.List.Concat.{flat_map-append}
use Rattle.std.specs.List.{flat_map}
use Rattle.std.proofs.lemmas.Option.{get_or_from_slice_get, slice_get_within}
use Rattle.flow_codec.specs.declared.file.FileError.{FileError}
use Rattle.flow_codec.specs.declared.error.MessageError.{MessageError}
use Rattle.flow_codec.specs.declared.error.MessageError.TheVariants as message
use Rattle.flow_codec.specs.declared.sink.WalkError.{WalkError}
use Rattle.flow_codec.specs.declared.sink.WalkError.TheVariants as walk
use Rattle.flow_codec.specs.declared.stream.StreamError.{StreamError}
use Rattle.flow_codec.specs.declared.stream.StreamError.TheVariants as stream
use Rattle.flow_codec.specs.declared.message.Header.{Header}
use Rattle.flow_codec.specs.declared.walk.UnreadSets.{UnreadSets}
use Rattle.flow_codec.specs.declared.walk.Walked.{Walked}
use Rattle.flow_codec.specs.declared.patient.ReadFailed.{ReadFailed}
use Rattle.flow_codec.specs.Raw.{RawMessage, RawRecord, Placed, under}
use Rattle.flow_codec.specs.Templates.{AllTemplates}
use Rattle.flow_codec.specs.Message.{IsAccepted, joined}
use Rattle.flow_codec.specs.Cutting.{IsCutOff}
use Rattle.flow_codec.specs.Replaced.{replaced_of}
use Rattle.flow_codec.specs.Unread.{counted, unread_of}
use Rattle.flow_codec.specs.Fault.{IsFault}
use Rattle.std.specs.Io.KnownBytes.{Consumes, IsAtEnd}
use Rattle.flow_codec.specs.Stream.{Progress, IsStep, IsStop, IsMessageNext}
use Rattle.flow_codec.specs.File.{AcceptedFront, broken, refused}
use Rattle.flow_codec.specs.Walk.{IsWalkedBy, IsStopped}
use Rattle.flow_codec.proofs.Following.{Follows, follows_none, follows_more, follows_broken}
use Rattle.flow_codec.proofs.Following.{follows_refused}
use Rattle.flow_codec.proofs.Sizes.{few_records, short_enough}
use Rattle.flow_report.specs.Refusals.{message_refusal, stream_refusal}
use Rattle.flow_report.specs.Measure.{IsRefusedBy}
use Rattle.flow_report.specs.Fronts.{IsSpentFront, IsReadFront}
use Rattle.flow_report.proofs.Reached.{IsShort, spent_at, read_up}
use Rattle.flow_inspect.specs.declared.counting.RecordCounts.{RecordCounts}
use Rattle.flow_inspect.specs.declared.reporting.DomainReport.{DomainReport}
use Rattle.flow_inspect.specs.declared.lasting.Lasted.{Lasted}
use Rattle.flow_inspect.specs.declared.span.Span.{Span}
use Rattle.flow_inspect.specs.declared.tally.Tally.{Tally}
use Rattle.flow_inspect.specs.Lasting.{lasted_after, lastings_of, none_lasted}
use Rattle.flow_codec.specs.Caveats.{is_sampled, is_uncounted}
use Rattle.flow_measure.specs.Caveats.{is_placed}
use Rattle.flow_inspect.specs.Counting.{HasCounted, HasRisen, Inspected, counts_of, is_flow, is_option, starts_of}
use Rattle.flow_inspect.specs.Counting.{walked_of, widened}
use Rattle.flow_report.specs.declared.format.Format.{Format}
use Rattle.flow_inspect.specs.Reports.{domains_text, entries_after, heading_of, report_in, reports_of, whole_of}
use Rattle.flow_inspect.specs.Reports.{with_tally}
use Rattle.flow_inspect.specs.Inspect.{AreInspected, AreOf, HasReports, IsNoted, walk_refusal}

-- The messages that a reader gave, in these octets each. Where it began with known octets, `start`, these begin with
-- them, and it has the others left.
pub record Sees (start left : Option (List ℕ)) (messages : List Inspected) (here : AllTemplates) : Type 0 where
  pub parts : List (List ℕ)
  pub each : AreInspected [] parts messages here
  pub divided : IfSome start (λ octets. (rest : List ℕ) × (left ≡ Some rest) × (octets ≡ joined parts ++ rest))

sees_none : (start : Option (List ℕ)) → Sees start start [] []
sees_none start = record { parts = []; each = refl; divided = from start }
  where
    from : (o : Option (List ℕ)) → IfSome o (λ octets. (rest : List ℕ) × (o ≡ Some rest) × (octets ≡ rest))
    from None = tt
    from (Some octets) = (octets, refl, refl)

inspected_more : (before here next : AllTemplates) (parts : List (List ℕ)) (part : List ℕ) (ms : List Inspected)
    (m : Inspected) → AreInspected before parts ms here → IsCutOff part → IsAccepted part here m.message next
    → IsNoted here part m → AreInspected before (parts ++ part ∷ []) (ms ++ m ∷ []) next
inspected_more before here next [] part [] m same cut accepted noted =
    subst (λ (t : AllTemplates). AreInspected t (part ∷ []) (m ∷ []) next) same (next, cut, accepted, noted, refl)
inspected_more before here next [] part (n ∷ ns) m none cut accepted noted = absurd none
inspected_more before here next (p ∷ ps) part [] m none cut accepted noted = absurd none
inspected_more before here next (p ∷ ps) part (n ∷ ns) m (mid, out, first, own, others) cut accepted noted =
    (mid, out, first, own, inspected_more mid here next ps part ns m others cut accepted noted)

-- one part more of known octets
divided_more : (start left after : Option (List ℕ)) (parts : List (List ℕ)) (part : List ℕ)
    → IfSome start (λ octets. (rest : List ℕ) × (left ≡ Some rest) × (octets ≡ joined parts ++ rest))
    → Consumes left after part
    → IfSome start (λ octets. (rest : List ℕ) × (after ≡ Some rest) × (octets ≡ joined (parts ++ part ∷ []) ++ rest))
divided_more None left after parts part so_far took = tt
divided_more (Some octets) left None parts part (rest, is, divided) took =
    absurd (subst (λ (o : Option (List ℕ)). Consumes o None part) is took)
divided_more (Some octets) left (Some more) parts part (rest, is, divided) took =
    let here : rest ≡ part ++ more = subst (λ (o : Option (List ℕ)). Consumes o (Some more) part) is took in
    let joint : joined (parts ++ part ∷ []) ≡ joined parts ++ part =
    flat_map-append (λ (r : List ℕ). r) parts (part ∷ [])
    ∙ ap (λ (xs : List ℕ). joined parts ++ xs) (append-nil part) in (
      more,
      refl,
      divided ∙ ap (λ (xs : List ℕ). joined parts ++ xs) here ∙ sym (append_assoc (joined parts) part more)
          ∙ ap (λ (xs : List ℕ). xs ++ more) (sym joint),
    )

sees_more : (start : Option (List ℕ)) (old new : Progress) (messages : List Inspected) (here next : AllTemplates)
    (m : Inspected) → Sees start old.rest messages here → IsStep old (Ok true) new
    → IsAccepted new.message here m.message next → IsNoted here new.message m
    → Sees start new.rest (messages ++ m ∷ []) next
sees_more start old new messages here next m so_far step accepted noted = record {
  parts = so_far.parts ++ new.message ∷ [];
  each = inspected_more [] here next so_far.parts new.message messages m so_far.each step.2 accepted noted;
  divided = divided_more start old.rest new.rest so_far.parts new.message so_far.divided step.3;
}

-- what is counted of the messages that a reader gave
pub record HasInspected (old : Option (List ℕ)) (reader : Progress) (here : AllTemplates)
    (entries : List (ℕ × DomainReport)) : Type 0 where
  pub plain : List RawMessage
  pub run : Follows old reader.rest reader.at plain here
  pub messages : List Inspected
  pub seen : Sees old reader.rest messages here
  pub counted : reader.count ≡ length plain
  pub going : reader.stopped ≡ None
  pub entries_are : entries ≡ reports_of messages

-- before the first message
pub begun : (old : Option (List ℕ)) (reader : Progress) (here : AllTemplates) (entries : List (ℕ × DomainReport))
    → reader ≡ record { rest = old; message = []; count = 0; at = 0; stopped = None } → here ≡ [] → entries ≡ []
    → HasInspected old reader here entries
begun old reader here entries is none empty =
    subst (λ (r : Progress). HasInspected old r here entries) (sym is) (record {
      plain = [];
      run = subst (λ (t : AllTemplates). Follows old old 0 [] t) (sym none) (follows_none old);
      messages = [];
      seen = subst (λ (t : AllTemplates). Sees old old [] t) (sym none) (sees_none old);
      counted = refl;
      going = refl;
      entries_are = empty;
    })

-- ---- the records of a message

count_under : (p : RawRecord → Bool) (header : Header) (records : List RawRecord)
    → count_by (λ (x : Placed). p x.1) (under header records) ≡ count_by p records
count_under p header records = from 0 records
  where
    from : (a : ℕ) (rs : List RawRecord)
        → fold (λ (n : ℕ) (x : Placed). n + cond (p x.1) 1 0) a (under header rs)
        ≡ fold (λ (n : ℕ) (r : RawRecord). n + cond (p r) 1 0) a rs
    from a [] = refl
    from a (r ∷ rs) = from (a + cond (p r) 1 0) rs

-- before its first record
abbrev pub nothing : RecordCounts
nothing = record {
  records = 0;
  options = 0;
  starts = None;
  lasted = none_lasted;
  placed = 0;
  uncounted = 0;
  sampled = 0;
}

pub counts_are : (m : RawMessage) (now : RecordCounts) → length m.records < 65536
    → HasCounted nothing (under m.header m.records) now → now ≡ counts_of m
counts_are m now few h =
    alike now (counts_of m) (of_kind is_flow now.records h.0) (of_kind is_option now.options h.1) h.2 h.3
    (of_kind is_placed now.placed h.4) (of_kind is_uncounted now.uncounted h.5) (of_kind is_sampled now.sampled h.6)
  where
    of_kind : (p : RawRecord → Bool) (last : ℕ) → HasRisen p 0 (under m.header m.records) last
        → last ≡ count_by p m.records
    of_kind p last is =
        let le = count_by-le-length p m.records in
        let same = count_under p m.header m.records in
        is ∙ ap (λ (n : ℕ). min n (2 ^ 32 - 1)) (omega (arith, same))
        ∙ min-eq_left (omega (arith, le, few))

    of_seven : ℕ → ℕ → Option Span → Lasted → ℕ → ℕ → ℕ → RecordCounts
    of_seven x y s l p u n = record {
      records = x;
      options = y;
      starts = s;
      lasted = l;
      placed = p;
      uncounted = u;
      sampled = n;
    }

    alike : (a b : RecordCounts) → a.records ≡ b.records → a.options ≡ b.options → a.starts ≡ b.starts
        → a.lasted ≡ b.lasted → a.placed ≡ b.placed → a.uncounted ≡ b.uncounted → a.sampled ≡ b.sampled → a ≡ b
    alike a b records options starts lasted placed uncounted sampled =
        ap₂ (λ (x y : ℕ). of_seven x y a.starts a.lasted a.placed a.uncounted a.sampled) records options
        ∙ ap₂ (λ (s : Option Span) (l : Lasted).
        of_seven b.records b.options s l a.placed a.uncounted a.sampled) starts lasted
        ∙ ap₂ (λ (p u : ℕ). of_seven b.records b.options b.starts b.lasted p u a.sampled) placed uncounted
        ∙ ap (λ (n : ℕ). of_seven b.records b.options b.starts b.lasted b.placed b.uncounted n) sampled

-- one message more
pub stepped : (old : Option (List ℕ)) (r0 r1 : Progress) (h0 h1 : AllTemplates)
    (before after : List (ℕ × DomainReport)) (now : RecordCounts) (walked : Walked) (octets : List ℕ)
    → HasInspected old r0 h0 before → IsStep r0 (Ok true) r1 → octets ≡ r1.message
    → IsWalkedBy HasCounted octets h0 h1 nothing now walked.header → walked.unread ≡ counted (unread_of h0 octets)
    → walked.replaced ≡ replaced_of h0 octets
    → after ≡ entries_after before walked now → HasInspected old r1 h1 after
stepped old r0 r1 h0 h1 before after now walked octets s step is found unread replaced grown =
    let m : RawMessage = record { header = walked.header; records = found.0 } in
    let whole : Inspected = record {
      message = m;
      unread = unread_of h0 r1.message;
      replaced = replaced_of h0 r1.message;
    } in
    let accepted : IsAccepted r1.message h0 m h1 = subst (λ (o : List ℕ). IsAccepted o h0 m h1) is found.1 in
    let took = found.2 nothing [] (refl, refl, refl, refl, refl, refl, refl) in
    let records = few_records r1.message h0 m h1 accepted.0 in
    let short = short_enough r1.message h0 m h1 accepted.0 in
    let counts = counts_are m now (omega (arith, records, short.1)) took in
    let walked_is : walked ≡ walked_of whole = ap₂ (λ (u : UnreadSets) (n : ℕ). of_three walked.header u n)
    (unread ∙ ap (λ (o : List ℕ). counted (unread_of h0 o)) is)
    (replaced ∙ ap (replaced_of h0) is) in
    record {
      plain = s.plain ++ m ∷ [];
      run = follows_more old r0 r1 s.plain h0 h1 m s.run step accepted;
      messages = s.messages ++ whole ∷ [];
      seen = sees_more old r0 r1 s.messages h0 h1 whole s.seen step accepted (refl, refl);
      counted = omega (arith, s.counted, step.4, length-append s.plain (m ∷ []));
      going = step.1;
      entries_are =
          grown ∙ ap (λ (w : Walked). entries_after before w now) walked_is
          ∙ ap₂ (λ (es : List (ℕ × DomainReport)) (c : RecordCounts). entries_after es (walked_of whole) c)
          s.entries_are counts
          ∙ sym (fold-append (λ (es : List (ℕ × DomainReport)) (x : Inspected).
          entries_after es (walked_of x) (counts_of x.message)) [] s.messages (whole ∷ []));
    }
  where
    of_three : Header → UnreadSets → ℕ → Walked
    of_three header unread replaced = record { header = header; unread = unread; replaced = replaced }

-- at the File's end this is counted of all
pub ended : (old : Option (List ℕ)) (reader next : Progress) (here : AllTemplates) (entries : List (ℕ × DomainReport))
    → HasInspected old reader here entries → IsStep reader (Ok false) next
    → (octets : List ℕ) × AreOf old octets × HasReports octets entries
ended old reader next here entries h step = (
  joined h.seen.parts,
  all old h.seen.divided,
  (h.messages, (h.seen.parts, here, refl, h.seen.each), h.entries_are),
)
  where
    all : (o : Option (List ℕ))
        → IfSome o (λ octets. (rest : List ℕ) × (reader.rest ≡ Some rest) × (octets ≡ joined h.seen.parts ++ rest))
        → AreOf o (joined h.seen.parts)
    all None divided = tt
    all (Some octets) (rest, left, divided) =
        let none : rest ≡ [] = subst (λ (o : Option (List ℕ)). IsAtEnd o) left step.3 in
        sym (divided ∙ ap (λ (xs : List ℕ). joined h.seen.parts ++ xs) none ∙ append-nil (joined h.seen.parts))

-- the line of one domain more
pub one_line_more : (format : Format) (file : Option ℕ) (entries : List (ℕ × DomainReport)) (i : ℕ)
    (e : ℕ × DomainReport) → slice_get entries i ≡ Some e
    → domains_text format file (take (i + 1) entries)
    ≡ domains_text format file (take i entries) ++ report_in format file e
one_line_more format file entries i e is =
    let names = heading_of format.layout file in
    let before = flat_map (report_in format file) (take i entries) in
    ap (domains_text format file) (take_more entries i e (slice_get_within entries i e is)
    ∙ ap (λ (x : ℕ × DomainReport). take i entries ++ x ∷ []) (get_or_from_slice_get entries i e e is))
    ∙ ap (λ (l : List ℕ). names ++ l) (flat_map-append (report_in format file) (take i entries) (e ∷ [])
    ∙ ap (λ (l : List ℕ). before ++ l) (append-nil (report_in format file e)))
    ∙ sym (append_assoc names before (report_in format file e))

-- one domain more in the whole
pub one_domain_more : (entries : List (ℕ × DomainReport)) (i : ℕ) (e : ℕ × DomainReport) → slice_get entries i ≡ Some e
    → whole_of (take (i + 1) entries) ≡ Some (with_tally (whole_of (take i entries)) e.1.tally)
one_domain_more entries i e is =
    ap whole_of (take_more entries i e (slice_get_within entries i e is)
    ∙ ap (λ (x : ℕ × DomainReport). take i entries ++ x ∷ []) (get_or_from_slice_get entries i e e is))
    ∙ fold-append (λ (whole : Option Tally) (x : ℕ × DomainReport). Some (with_tally whole x.1.tally)) None
    (take i entries) (e ∷ [])

-- ---- refusals

pub always : (old : Option (List ℕ)) → IfSome old (λ octets. ⊤)
always None = tt
always (Some octets) = tt

-- a refusal by this fault, of the message of this number
abbrev IsRefusedAt : MessageError → ℕ → List ℕ → Type 0
IsRefusedAt fault number octets = (messages : List RawMessage) × (after : AllTemplates)
    × AcceptedFront octets messages after (refused fault) × (number ≡ length messages + 1)

as_message : (fault : MessageError) (number : ℕ) (octets : List ℕ) (left : Option (List ℕ)) → IsRefusedAt fault number
    octets
    → IsRefusedBy octets left (message_refusal fault number)
as_message message.OutOfMemory number octets left h = tt
as_message message.Short number octets left h = h
as_message message.Version number octets left h = h
as_message message.Length number octets left h = h
as_message (message.SetLength at) number octets left h = h
as_message (message.TemplateCut at) number octets left h = h
as_message (message.TemplateId at) number octets left h = h
as_message (message.ScopeCount at) number octets left h = h
as_message (message.RecordCut at) number octets left h = h
as_message (message.TemplatesFull domain) number octets left h = h
as_message message.DomainsFull number octets left h = h

-- a message at which the run stops
pub stopped_at : {S : Type 0} (holds : S → List Placed → S → Type 0)
    (refuses : S → List Placed → Placed → Infallible → Type 0) (old left : Option (List ℕ)) (r0 r1 : Progress)
    (h0 : AllTemplates) (entries : List (ℕ × DomainReport)) (start : S) (octets : List ℕ) (stop : WalkError Infallible)
    → HasInspected old r0 h0 entries → IsStep r0 (Ok true) r1 → octets ≡ r1.message
    → IsStopped holds refuses octets h0 start stop
    → IfSome old (λ file. IsRefusedBy file left (walk_refusal stop r1.count))
stopped_at holds refuses old left r0 r1 h0 entries start octets (walk.Sink never) s step is h = always old
stopped_at holds refuses old left r0 r1 h0 entries start octets (walk.Message fault) s step is (inl none) =
    subst (λ (e : MessageError). IfSome old (λ file. IsRefusedBy file left (message_refusal e r1.count))) (sym none)
    (always old)
stopped_at holds refuses old left r0 r1 h0 entries start octets (walk.Message fault) s step is (inr faulty) =
    with_front old (follows_refused old r0 r1 s.plain h0 fault s.run step
    (subst (λ (o : List ℕ). IsFault o h0 fault) is faulty))
  where
    number : r1.count ≡ length s.plain + 1
    number = omega (arith, step.4, s.counted)

    with_front : (o : Option (List ℕ)) → IfSome o (λ file. AcceptedFront file s.plain h0 (refused fault))
        → IfSome o (λ file. IsRefusedBy file left (message_refusal fault r1.count))
    with_front None f = tt
    with_front (Some file) f = as_message fault r1.count file left (s.plain, h0, f, number)

-- the reader stops
pub ended_by : (old left : Option (List ℕ)) (ahead : List ℕ) (r0 r1 : Progress) (h0 : AllTemplates)
    (entries : List (ℕ × DomainReport)) (e : StreamError)
    → HasInspected old r0 h0 entries → IsStep r0 (Err e) r1
    → ((failed : ReadFailed) → e ≡ stream.Read failed → IsShort r0 ahead left)
    → IfSome old (λ file. IsRefusedBy file left (stream_refusal e))
ended_by old left ahead r0 r1 h0 entries e s step short = by e step short
  where
    broke : (o : Option (List ℕ)) (fault : FileError)
        → IfSome o (λ file. AcceptedFront file s.plain h0 (broken fault))
        → IfSome o (λ file. IsRefusedBy file left (stream_refusal (stream.File fault)))
    broke None fault f = tt
    broke (Some file) fault f = (s.plain, h0, f)

    spent : (o : Option (List ℕ)) → IfSome o (λ file. IsSpentFront file s.plain)
        → IfSome o (λ file. IsRefusedBy file left (stream_refusal stream.NumbersSpent))
    spent None f = tt
    spent (Some file) f = (s.plain, f)

    full : (r0.stopped ≡ Some stream.NumbersSpent)
        ⊎ ((r0.stopped ≡ None) × IsStop r0.count r0.at r0.rest stream.NumbersSpent)
        → (r0.count ≡ 2 ^ 48 - 1) × IsMessageNext r0.rest
    full (inl was) = let none = sym s.going ∙ was in absurd cc
    full (inr h) = h.1

    all : (o : Option (List ℕ)) (failed : ReadFailed) → IfSome o (λ file. IsReadFront file left s.plain)
        → IfSome o (λ file. IsRefusedBy file left (stream_refusal (stream.Read failed)))
    all None failed f = tt
    all (Some file) failed f = (s.plain, f)

    by : (e : StreamError) → IsStep r0 (Err e) r1
        → ((failed : ReadFailed) → e ≡ stream.Read failed → IsShort r0 ahead left)
        → IfSome old (λ file. IsRefusedBy file left (stream_refusal e))
    by (stream.File fault) step short = broke old fault
        (follows_broken old r0 r1 s.plain h0 fault s.going s.run step)
    by (stream.Read failed) step short =
        let ahead_is = short failed refl in
        all old failed (read_up old r0.rest left r0.at s.plain h0 ahead s.run ahead_is.0 ahead_is.1)
    by stream.NumbersSpent step short = let h = full step.0 in
        spent old (spent_at old r0.rest r0.at s.plain h0 s.run (sym s.counted ∙ h.0) h.1)
