-- What is counted of a domain depends on its own messages alone.
use Rattle.std.proofs.Common.{◌≡◌, ℕ, Bool, List, [], ◌∷◌, Option, Some, refl, sym, ap, ◌∙◌, eqb-true, eq-eqb}
use Rattle.std.specs.Prelude.{true, false, cond, fold, nat_eq, if◌then◌else◌}
use Rattle.std.specs.Map.{lookup}
use Rattle.indexmap.specs.IndexMap.{insert_entry}
use Rattle.flow_codec.specs.declared.walk.Walked.{Walked}
use Rattle.flow_report.proofs.Losing.{lookup_after}
use Rattle.flow_inspect.specs.declared.counting.RecordCounts.{RecordCounts}
use Rattle.flow_inspect.specs.declared.reporting.DomainReport.{DomainReport}
use Rattle.flow_inspect.specs.Counting.{Inspected, counts_of, walked_of}
use Rattle.flow_inspect.specs.Reports.{entries_after, own, report_after, report_of, reports_of}

-- from any entries on
from_here : (d : ℕ) (es : List (ℕ × DomainReport)) (messages : List Inspected)
    → lookup (nat_eq d) (fold (λ (x : List (ℕ × DomainReport)) (m : Inspected). entries_after x
    (walked_of m) (counts_of m.message)) es messages)
    ≡ fold (λ (r : Option DomainReport) (m : Inspected). Some (report_after r (walked_of m) (counts_of m.message)))
    (lookup (nat_eq d) es) (own d messages)
from_here d es [] = refl
from_here d es (m ∷ ms) = from_here d (entries_after es walked counts) ms ∙ by (nat_eq d domain) refl
  where
    domain : ℕ
    domain = m.message.header.domain

    walked : Walked
    walked = walked_of m

    counts : RecordCounts
    counts = counts_of m.message

    here : Option DomainReport
    here = lookup (nat_eq d) es

    goes_on : Option DomainReport → List Inspected → Option DomainReport
    goes_on r messages =
        fold (λ (r : Option DomainReport) (m : Inspected). Some (report_after r (walked_of m) (counts_of m.message))) r
        messages

    found : lookup (nat_eq d) (entries_after es walked counts)
        ≡ cond (nat_eq d domain) (Some (report_after (lookup (nat_eq domain) es) walked counts)) here
    found = lookup_after d domain (report_after (lookup (nat_eq domain) es) walked counts) es

    by : (b : Bool) → nat_eq d domain ≡ b → goes_on (lookup (nat_eq d) (entries_after es walked counts)) (own d ms)
        ≡ goes_on here (cond (nat_eq d domain) (m ∷ own d ms) (own d ms))
    by true s =
        ap (λ (r : Option DomainReport). goes_on r (own d ms))
        (found ∙ ap (λ (b : Bool). cond b (Some (report_after (lookup (nat_eq domain) es) walked counts)) here) s
        ∙ ap (λ (n : ℕ). Some (report_after (lookup (nat_eq n) es) walked counts)) (sym (eqb-true d domain s)))
        ∙ sym (ap (λ (b : Bool). goes_on here (cond b (m ∷ own d ms) (own d ms))) s)
    by false s =
        ap (λ (r : Option DomainReport). goes_on r (own d ms))
        (found ∙ ap (λ (b : Bool). cond b (Some (report_after (lookup (nat_eq domain) es) walked counts)) here) s)
        ∙ sym (ap (λ (b : Bool). goes_on here (cond b (m ∷ own d ms) (own d ms))) s)

pub alone : (d : ℕ) (messages : List Inspected)
    → lookup (nat_eq d) (reports_of messages) ≡ report_of (own d messages)
alone d messages = from_here d [] messages
