-- What is counted of each Observation Domain and of the whole File, and the lines of that.
use Rattle.std.specs.Prelude.{ℕ, ◌+◌, ◌-◌, ◌%◌, ◌^◌, min, max, nat_eq, nat_lt, nat_le, ◌&&◌, Bool, List, [], ◌∷◌}
use Rattle.std.specs.Prelude.{◌++◌, Option, Some, None, option_map, if◌then◌else◌, codes, filter, fold, length}
use Rattle.std.specs.List.{flat_map}
use Rattle.std.specs.Fmt.{decimal}
use Rattle.std.specs.Map.{lookup}
use Rattle.indexmap.specs.IndexMap.{insert_entry}
use Rattle.flow_codec.specs.declared.message.Header.{Header}
use Rattle.flow_codec.specs.declared.walk.Walked.{Walked}
use Rattle.flow_report.specs.declared.format.Format.{Format}
use Rattle.flow_report.specs.declared.format.Layout.{Layout}
use Rattle.flow_report.specs.declared.format.Layout.TheVariants.{Lines, Csv, Json}
use Rattle.flow_report.specs.declared.format.Times.{Times}
use Rattle.flow_report.specs.Formats.{Named, heading, line_in, number_or_none, opening, second_text, separator}
use Rattle.flow_report.specs.Formats.{time_or_none, value_in}
use Rattle.flow_report.specs.Formats.Value.{Number, Time}
use Rattle.flow_inspect.specs.declared.counting.RecordCounts.{RecordCounts}
use Rattle.flow_inspect.specs.declared.reporting.DomainReport.{DomainReport}
use Rattle.flow_inspect.specs.declared.span.Span.{Span}
use Rattle.flow_inspect.specs.declared.tally.Tally.{Tally}
use Rattle.flow_inspect.specs.declared.lasting.Lasted.{Lasted}
use Rattle.flow_inspect.specs.Lasting.{both_lasted}
use Rattle.flow_inspect.specs.Counting.{Inspected, counts_of, hull, walked_of}

-- counts stop at 2^64 - 1
abbrev pub plus : ℕ → ℕ → ℕ
plus count more = min (count + more) (2 ^ 64 - 1)

-- The Sequence Number that is due after a message: its own, and one more for each of its data records, modulo 2^32.
abbrev pub due_after : Header → RecordCounts → ℕ
due_after header counts = ((header.sequence + counts.records) % 2 ^ 32 + counts.options) % 2 ^ 32

-- how far a Sequence Number is past the due one, modulo 2^32
abbrev pub distance : ℕ → ℕ → ℕ
distance due sequence = (sequence + (2 ^ 32 - due)) % 2 ^ 32

-- it is past it, by less than half of all numbers
abbrev pub is_past : ℕ → Bool
is_past n = nat_lt 0 n && nat_lt n (2 ^ 31)

-- it is before it
abbrev pub is_before : ℕ → Bool
is_before n = nat_le (2 ^ 31) n

-- a domain's first message
abbrev pub begun : Walked → RecordCounts → DomainReport
begun walked counts = record {
  tally = record {
    messages = 1;
    records = counts.records;
    options = counts.options;
    unread = walked.unread.sets;
    unread_octets = walked.unread.octets;
    replaced = walked.replaced;
    gaps = 0;
    missing = 0;
    backwards = 0;
    first = walked.header.time;
    last = walked.header.time;
    starts = counts.starts;
    lasted = counts.lasted;
    placed = counts.placed;
    uncounted = counts.uncounted;
    sampled = counts.sampled;
  };
  due = due_after walked.header counts;
}

-- one message more, which is so far past the due number
abbrev pub tally_after : Tally → ℕ → Walked → RecordCounts → Tally
tally_after tally far walked counts = record {
  messages = plus tally.messages 1;
  records = plus tally.records counts.records;
  options = plus tally.options counts.options;
  unread = plus tally.unread walked.unread.sets;
  unread_octets = plus tally.unread_octets walked.unread.octets;
  replaced = plus tally.replaced walked.replaced;
  gaps = if is_past far then plus tally.gaps 1 else tally.gaps;
  missing = if is_past far then plus tally.missing far else tally.missing;
  backwards = if is_before far then plus tally.backwards 1 else tally.backwards;
  first = min tally.first walked.header.time;
  last = max tally.last walked.header.time;
  starts = hull tally.starts counts.starts;
  lasted = both_lasted tally.lasted counts.lasted;
  placed = plus tally.placed counts.placed;
  uncounted = plus tally.uncounted counts.uncounted;
  sampled = plus tally.sampled counts.sampled;
}

abbrev pub continued : DomainReport → Walked → RecordCounts → DomainReport
continued report walked counts = record {
  tally = tally_after report.tally (distance report.due walked.header.sequence) walked counts;
  due = due_after walked.header counts;
}

abbrev pub report_after : Option DomainReport → Walked → RecordCounts → DomainReport
report_after None walked counts = begun walked counts
report_after (Some report) walked counts = continued report walked counts

-- ---- of all domains

-- A message counts for its own domain alone. Domains are in the order of their first messages.
abbrev pub entries_after : List (ℕ × DomainReport) → Walked → RecordCounts → List (ℕ × DomainReport)
entries_after entries walked counts =
    insert_entry nat_eq entries walked.header.domain
    (report_after (lookup (nat_eq walked.header.domain) entries) walked counts)

abbrev pub reports_of : List Inspected → List (ℕ × DomainReport)
reports_of messages = fold (λ entries m. entries_after entries (walked_of m) (counts_of m.message)) [] messages

-- ---- of one domain

-- the messages of a domain
abbrev pub own : ℕ → List Inspected → List Inspected
own domain messages = filter (λ m. nat_eq domain m.message.header.domain) messages

-- what is counted of messages of one domain, one after the other; nothing where there is none
abbrev pub report_of : List Inspected → Option DomainReport
report_of messages = fold (λ report m. Some (report_after report (walked_of m) (counts_of m.message))) None messages

-- ---- of the whole File

-- what is counted of two parts of a File, together
abbrev pub together : Tally → Tally → Tally
together a b = record {
  messages = plus a.messages b.messages;
  records = plus a.records b.records;
  options = plus a.options b.options;
  unread = plus a.unread b.unread;
  unread_octets = plus a.unread_octets b.unread_octets;
  replaced = plus a.replaced b.replaced;
  gaps = plus a.gaps b.gaps;
  missing = plus a.missing b.missing;
  backwards = plus a.backwards b.backwards;
  first = min a.first b.first;
  last = max a.last b.last;
  starts = hull a.starts b.starts;
  lasted = both_lasted a.lasted b.lasted;
  placed = plus a.placed b.placed;
  uncounted = plus a.uncounted b.uncounted;
  sampled = plus a.sampled b.sampled;
}

abbrev pub with_tally : Option Tally → Tally → Tally
with_tally None tally = tally
with_tally (Some whole) tally = together whole tally

-- what is counted of all domains; nothing where there is no message
abbrev pub whole_of : List (ℕ × DomainReport) → Option Tally
whole_of entries = fold (λ whole e. Some (with_tally whole e.1.tally)) None entries

-- ---- lines

-- how many messages and data records, how many data Sets without a definition in force and octets of these, and how
-- many definitions were replaced
unfoldable pub counts_text : Tally → List ℕ
counts_text tally =
    codes " messages" ++ 32 ∷ decimal tally.messages ++ codes " records" ++ 32 ∷ decimal tally.records
    ++ codes " options" ++ 32 ∷ decimal tally.options ++ codes " unread" ++ 32 ∷ decimal tally.unread
    ++ 32 ∷ decimal tally.unread_octets ++ codes " replaced" ++ 32 ∷ decimal tally.replaced

-- how the Sequence Numbers follow
unfoldable pub sequence_text : Tally → List ℕ
sequence_text tally =
    codes " gaps" ++ 32 ∷ decimal tally.gaps ++ codes " missing" ++ 32 ∷ decimal tally.missing
    ++ codes " backwards" ++ 32 ∷ decimal tally.backwards

-- when the flows start
unfoldable pub starts_text : Times → Option Span → List ℕ
starts_text times None = codes " starts - -"
starts_text times (Some span) =
    codes " starts" ++ 32 ∷ second_text times span.first ++ 32 ∷ second_text times span.last

-- how long the flows last
abbrev pub longest_text : Option ℕ → List ℕ
longest_text None = codes " longest -"
longest_text (Some seconds) = codes " longest" ++ 32 ∷ decimal seconds

unfoldable pub lasted_text : Lasted → List ℕ
lasted_text lasted = longest_text lasted.longest ++ codes " long" ++ 32 ∷ decimal lasted.long

-- how many flows may have other sums than their exporter means
unfoldable pub caveats_text : Tally → List ℕ
caveats_text tally =
    codes " placed" ++ 32 ∷ decimal tally.placed ++ codes " uncounted" ++ 32 ∷ decimal tally.uncounted
    ++ codes " sampled" ++ 32 ∷ decimal tally.sampled

-- messages N records N options N unread SETS OCTETS replaced N gaps N missing N backwards N from TIME to TIME starts
-- FIRST LAST longest SECONDS long N placed N uncounted N sampled N, with a line feed
unfoldable pub tally_text : Times → Tally → List ℕ
tally_text times tally =
    counts_text tally ++ sequence_text tally ++ codes " from" ++ 32 ∷ second_text times tally.first
    ++ codes " to" ++ 32 ∷ second_text times tally.last ++ starts_text times tally.starts ++ lasted_text tally.lasted
    ++ caveats_text tally ++ 10 ∷ []

-- domain DOMAIN, and what is counted of it
unfoldable pub report_line : Times → ℕ × DomainReport → List ℕ
report_line times e = codes "domain" ++ 32 ∷ decimal e.0 ++ tally_text times e.1.tally

-- the same values with their names
abbrev pub report_values : ℕ × DomainReport → List Named
report_values e =
    let t = e.1.tally in
    (codes "domain", Number e.0) ∷ (codes "messages", Number t.messages) ∷ (codes "records", Number t.records)
    ∷ (codes "options", Number t.options) ∷ (codes "unread_sets", Number t.unread)
    ∷ (codes "unread_octets", Number t.unread_octets) ∷ (codes "replaced", Number t.replaced)
    ∷ (codes "gaps", Number t.gaps) ∷ (codes "missing", Number t.missing) ∷ (codes "backwards", Number t.backwards)
    ∷ (codes "from", Time t.first)
    ∷ (codes "to", Time t.last)
    ∷ (codes "first", time_or_none (option_map (λ span. span.first) t.starts))
    ∷ (codes "last", time_or_none (option_map (λ span. span.last) t.starts))
    ∷ (codes "longest", number_or_none t.lasted.longest) ∷ (codes "long", Number t.lasted.long)
    ∷ (codes "placed", Number t.placed) ∷ (codes "uncounted", Number t.uncounted)
    ∷ (codes "sampled", Number t.sampled) ∷ []

abbrev pub report_names : List (List ℕ)
report_names =
    codes "domain" ∷ codes "messages" ∷ codes "records" ∷ codes "options" ∷ codes "unread_sets" ∷ codes "unread_octets"
    ∷ codes "replaced" ∷ codes "gaps" ∷ codes "missing" ∷ codes "backwards" ∷ codes "from" ∷ codes "to"
    ∷ codes "first" ∷ codes "last" ∷ codes "longest" ∷ codes "long" ∷ codes "placed" ∷ codes "uncounted"
    ∷ codes "sampled" ∷ []

-- all domains N, and what is counted of all together
unfoldable pub whole_line : Times → ℕ → Option Tally → List ℕ
whole_line times domains None =
    codes "all domains 0 messages 0 records 0 options 0 unread 0 0 replaced 0 gaps 0 missing 0 backwards 0"
    ++ codes " from - to - starts - - longest - long 0 placed 0 uncounted 0 sampled 0\n"
whole_line times domains (Some whole) = codes "all domains" ++ 32 ∷ decimal domains ++ tally_text times whole

-- ---- of a File with a number

-- what a line in words begins with where its File has a number: file N
abbrev pub file_words : Option ℕ → List ℕ
file_words None = []
file_words (Some number) = codes "file" ++ 32 ∷ decimal number ++ 32 ∷ []

-- the first value of such a line, with its name
abbrev pub file_values : Option ℕ → List Named
file_values None = []
file_values (Some number) = (codes "file", Number number) ∷ []

-- what a line of values begins with, before the first one of its domain
abbrev pub beginning_of : Format → Option ℕ → List ℕ
beginning_of format None = opening format.layout
beginning_of format (Some number) =
    opening format.layout ++ value_in format (codes "file", Number number) ++ separator format.layout ∷ []

-- what is before all lines; where Files have numbers, before those of the first alone
abbrev pub heading_of : Layout → Option ℕ → List ℕ
heading_of layout None = heading layout report_names
heading_of layout (Some number) = if nat_eq number 1 then heading layout (codes "file" ∷ report_names) else []

-- ---- in a format

-- the line of a domain in a format
abbrev pub report_by : Layout → Format → Option ℕ → ℕ × DomainReport → List ℕ
report_by Lines format file e = file_words file ++ report_line format.times e
report_by Csv format file e = line_in format (file_values file ++ report_values e)
report_by Json format file e = line_in format (file_values file ++ report_values e)

unfoldable pub report_in : Format → Option ℕ → ℕ × DomainReport → List ℕ
report_in format file e = report_by format.layout format file e

-- the line of the whole File, which is in words alone
abbrev pub whole_by : Layout → Times → Option ℕ → List (ℕ × DomainReport) → List ℕ
whole_by Lines times file entries = file_words file ++ whole_line times (length entries) (whole_of entries)
whole_by Csv times file entries = []
whole_by Json times file entries = []

unfoldable pub whole_in : Format → Option ℕ → List (ℕ × DomainReport) → List ℕ
whole_in format file entries = whole_by format.layout format.times file entries

-- what is before all lines, and the lines of the domains
abbrev pub domains_text : Format → Option ℕ → List (ℕ × DomainReport) → List ℕ
domains_text format file entries = heading_of format.layout file ++ flat_map (report_in format file) entries

abbrev pub reports_text : Format → Option ℕ → List (ℕ × DomainReport) → List ℕ
reports_text format file entries = domains_text format file entries ++ whole_in format file entries
