use Rattle.std.proofs.Common.{◌≡◌, ◌∙◌, ℕ, List, [], ◌∷◌, ◌++◌, codes, append_assoc, ap, sym, refl, Option, Some, None}
use Rattle.std.specs.List.{join_with_byte}
use Rattle.std.specs.Prelude.{option_map, map}
use Rattle.flow_report.specs.declared.format.Format.{Format}
use Rattle.flow_report.specs.Formats.{closing, line_in, number_or_none, opening, separator, time_or_none, value_in}
use Rattle.flow_report.specs.Formats.Value.{Number, Time}
use Rattle.flow_report.proofs.LineMade.{line_made}
use Rattle.flow_inspect.specs.declared.reporting.DomainReport.{DomainReport}
use Rattle.flow_inspect.specs.Reports.{beginning_of, file_values, report_values}
use Rattle.flow_inspect.proofs.reporting.push_values.Goals as goal

-- what is between two values goes with the first of them
apart : (s : ℕ) (front last z : List ℕ) → front ++ s ∷ last ++ z ≡ front ++ s ∷ [] ++ last ++ z
apart s front last z = ap (λ (l : List ℕ). l ++ z) (sym (append_assoc front (s ∷ []) last))

-- a text with one value more, with two, and with the last three
one_more : (s : ℕ) (now old held v : List ℕ) → now ≡ old ++ v ++ s ∷ [] → old ≡ held → now ≡ held ++ v ++ s ∷ []
one_more s now old held v is was = is ∙ ap (λ (l : List ℕ). l ++ v ++ s ∷ []) was

two_more : (s : ℕ) (now old held v w : List ℕ) → now ≡ old ++ v ++ s ∷ w ++ s ∷ [] → old ≡ held
    → now ≡ held ++ v ++ s ∷ [] ++ w ++ s ∷ []
two_more s now old held v w is was =
    is ∙ ap (λ (l : List ℕ). l ++ v ++ s ∷ w ++ s ∷ []) was ∙ apart s (held ++ v) w (s ∷ [])

three_last : (s : ℕ) (now old held v w x z : List ℕ) → now ≡ old ++ v ++ s ∷ w ++ s ∷ x ++ z → old ≡ held
    → now ≡ held ++ v ++ s ∷ [] ++ w ++ s ∷ [] ++ x ++ z
three_last s now old held v w x z is was =
    is ∙ ap (λ (l : List ℕ). l ++ v ++ s ∷ w ++ s ∷ x ++ z) was ∙ apart s (held ++ v ++ s ∷ w) x z
    ∙ ap (λ (l : List ℕ). l ++ x ++ z) (apart s (held ++ v) w (s ∷ []))

-- the values of a domain after the beginning of their line
begun : (format : Format) (file : Option ℕ) (e : ℕ × DomainReport)
    → beginning_of format file ++ join_with_byte (separator format.layout) (map (value_in format) (report_values e))
    ++ closing format.layout ≡ line_in format (file_values file ++ report_values e)
begun format None e = refl
begun format (Some number) e =
    let first = value_in format (codes "file", Number number) in
    let values = join_with_byte (separator format.layout) (map (value_in format) (report_values e)) in
    ap (λ (l : List ℕ). l ++ closing format.layout)
    (append_assoc (opening format.layout ++ first) (separator format.layout ∷ []) values
    ∙ append_assoc (opening format.layout) first (separator format.layout ∷ values))

pub returns : goal.returns
returns c =
    let f = c.args.format in
    let t = c.args.report.now.tally in
    let s = separator f.layout in
    let z = closing f.layout in
    let domain = value_in f (codes "domain", Number c.args.domain) in
    let messages = value_in f (codes "messages", Number t.messages) in
    let records = value_in f (codes "records", Number t.records) in
    let options = value_in f (codes "options", Number t.options) in
    let sets = value_in f (codes "unread_sets", Number t.unread) in
    let octets = value_in f (codes "unread_octets", Number t.unread_octets) in
    let replaced = value_in f (codes "replaced", Number t.replaced) in
    let gaps = value_in f (codes "gaps", Number t.gaps) in
    let missing = value_in f (codes "missing", Number t.missing) in
    let backwards = value_in f (codes "backwards", Number t.backwards) in
    let from = value_in f (codes "from", Time t.first) in
    let to = value_in f (codes "to", Time t.last) in
    let first = value_in f (codes "first", time_or_none (option_map (λ span. span.first) t.starts)) in
    let last = value_in f (codes "last", time_or_none (option_map (λ span. span.last) t.starts)) in
    let longest = value_in f (codes "longest", number_or_none t.lasted.longest) in
    let long = value_in f (codes "long", Number t.lasted.long) in
    let placed = value_in f (codes "placed", Number t.placed) in
    let uncounted = value_in f (codes "uncounted", Number t.uncounted) in
    let sampled = value_in f (codes "sampled", Number t.sampled) in
    let p0 = c.in_ok-reserve.ensures.items ∙ c.in_ok-push_beginning.ensures in
    let p1 = one_more s _ _ _ domain c.put_value.ensures.text p0 in
    let p2 = one_more s _ _ _ messages c.put_value-2.ensures.text p1 in
    let p3 = one_more s _ _ _ records c.put_value-3.ensures.text p2 in
    let p4 = one_more s _ _ _ options c.put_value-4.ensures.text p3 in
    let p5 = one_more s _ _ _ sets c.put_value-5.ensures.text p4 in
    let p6 = one_more s _ _ _ octets c.put_value-6.ensures.text p5 in
    let p7 = one_more s _ _ _ replaced c.put_value-7.ensures.text p6 in
    let p8 = one_more s _ _ _ gaps c.put_value-8.ensures.text p7 in
    let p9 = one_more s _ _ _ missing c.put_value-9.ensures.text p8 in
    let p10 = one_more s _ _ _ backwards c.put_value-10.ensures.text p9 in
    let p11 = one_more s _ _ _ from c.put_time.ensures.text p10 in
    let p12 = one_more s _ _ _ to c.put_time-2.ensures.text p11 in
    let p13 = two_more s _ _ _ first last c.in_ok-push_start_values.ensures p12 in
    let p14 = two_more s _ _ _ longest long c.in_ok-push_lasting_values.ensures p13 in
    three_last s _ _ _ placed uncounted sampled z c.in_ok-push_caveat_values.ensures p14
    ∙ line_made s c.args.text.now.items (beginning_of f c.args.file) z
    (domain ∷ messages ∷ records ∷ options ∷ sets ∷ octets ∷ replaced ∷ gaps ∷ missing ∷ backwards ∷ from ∷ to ∷ first
    ∷ last ∷ longest ∷ long ∷ placed ∷ uncounted ∷ []) sampled
    ∙ ap (λ (l : List ℕ). c.args.text.now.items ++ l) (begun f c.args.file (c.args.domain, c.args.report.now))
