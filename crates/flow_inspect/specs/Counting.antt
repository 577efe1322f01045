-- The data records of messages, by the kind of their definition, when their flows start, and how these are summed.
use Rattle.std.specs.Prelude.{◌≡◌, ◌+◌, ◌-◌, ◌^◌, ℕ, min, max, Bool, not, List, Option, Some, None, count_by, fold, map}
use Rattle.flow_codec.specs.declared.walk.Walked.{Walked}
use Rattle.flow_codec.specs.Raw.{Placed, RawRecord, RawMessage, under}
use Rattle.flow_codec.specs.Message.{Division}
use Rattle.flow_codec.specs.Unread.{counted}
use Rattle.flow_measure.specs.Flows.{flows_of_records}
use Rattle.flow_inspect.specs.declared.counting.RecordCounts.{RecordCounts}
use Rattle.flow_inspect.specs.declared.span.Span.{Span}
use Rattle.flow_codec.specs.Caveats.{is_sampled, is_uncounted}
use Rattle.flow_measure.specs.Caveats.{is_placed}
use Rattle.flow_inspect.specs.Lasting.{lasted_after, lastings_of, none_lasted}

-- a record of a Template, and one of an Options Template
abbrev pub is_option : RawRecord → Bool
is_option r = r.layout.options

abbrev pub is_flow : RawRecord → Bool
is_flow r = not (is_option r)

-- ---- times

-- the least and the greatest of some times and one more
abbrev pub widened : Option Span → ℕ → Option Span
widened None time = Some (record { first = time; last = time })
widened (Some span) time = Some (record { first = min span.first time; last = max span.last time })

-- the least and the greatest of times; nothing where there is none
abbrev pub span_of : List ℕ → Option Span
span_of times = fold widened None times

-- the least and the greatest of two spans
abbrev pub hull : Option Span → Option Span → Option Span
hull None more = more
hull (Some span) None = Some span
hull (Some span) (Some more) = Some (record { first = min span.first more.first; last = max span.last more.last })

-- when the flows of these records start, in their order
abbrev pub starts_of : List Placed → List ℕ
starts_of taken = map (λ flow. flow.start) (flows_of_records taken)

-- ---- counts

-- a count has risen by those of these records that hold; it stops at 2^32 - 1
abbrev pub HasRisen : (RawRecord → Bool) → ℕ → List Placed → ℕ → Type 0
HasRisen test start taken now = now ≡ min (start + count_by (λ x. test x.1) taken) (2 ^ 32 - 1)

-- The counts have risen by these records. The span has widened by the starts of their flows, and how long these last is
-- counted.
abbrev pub HasCounted : RecordCounts → List Placed → RecordCounts → Type 0
HasCounted start taken now =
    HasRisen is_flow start.records taken now.records
    × HasRisen is_option start.options taken now.options
    × (now.starts ≡ fold widened start.starts (starts_of taken))
    × (now.lasted ≡ fold lasted_after start.lasted (lastings_of taken))
    × HasRisen is_placed start.placed taken now.placed
    × HasRisen is_uncounted start.uncounted taken now.uncounted
    × HasRisen is_sampled start.sampled taken now.sampled

-- a message, beside its data Sets without a definition in force, and how many of its template records replace a
-- definition
pub record Inspected : Type 0 where
  pub message : RawMessage
  pub unread : List Division
  pub replaced : ℕ

-- its header, how many such Sets it has, and how many such template records
abbrev pub walked_of : Inspected → Walked
walked_of m = record { header = m.message.header; unread = counted m.unread; replaced = m.replaced }

-- the data records of a message
abbrev pub counts_of : RawMessage → RecordCounts
counts_of m = record {
  records = count_by is_flow m.records;
  options = count_by is_option m.records;
  starts = span_of (starts_of (under m.header m.records));
  lasted = fold lasted_after none_lasted (lastings_of (under m.header m.records));
  placed = count_by is_placed m.records;
  uncounted = count_by is_uncounted m.records;
  sampled = count_by is_sampled m.records;
}
