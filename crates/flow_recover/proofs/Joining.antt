-- Messages of octets that are read piece by piece.
use Rattle.std.proofs.Common.{◌≡◌, ◌∙◌, ℕ, ◌+◌, ◌-◌, ◌<◌, ◌≤◌, List, [], ◌∷◌, ◌++◌, length, take, drop, refl, sym, ap}
use Rattle.std.specs.Prelude.{is_some}
use Rattle.std.proofs.Common.{Option, Some, None, ⊎_elim, subst, arith, append_assoc}
use Rattle.std.proofs.lemmas.Bool.{cases_lt}
use Rattle.std.specs.List.{AllByRecursion}
use Rattle.std.proofs.lemmas.List.{drop-append-le, drop-take, length-append, length-drop, length-take-le}
use Rattle.std.proofs.lemmas.List.{nil_from_length}
use Rattle.std.proofs.lemmas.List.{map-append}
use Rattle.std.proofs.Math.Seq.{take-append_seam}
use Rattle.std.proofs.lemmas.List.{take-append-drop, take-append-le, take-take, take_all}
use Rattle.flow_codec.specs.declared.file.FileError.{FileError}
use Rattle.flow_codec.specs.Cutting.{length_of, IsCutOff, IsFileFault}
use Rattle.flow_codec.specs.Fault.{IsOctets}
use Rattle.flow_codec.specs.Message.{joined, IsAccepted}
use Rattle.flow_codec.specs.Templates.{AllTemplates}
use Rattle.flow_codec.proofs.Dividing.{length_of-append, no_message, one_message}
use Rattle.flow_codec.proofs.FaultLaws as accepted
use Rattle.flow_measure.specs.declared.span.PartSpan.{PartSpan}
use Rattle.flow_measure.specs.History.{Accepted, AreAcceptedFrom, templates_from}
use Rattle.flow_segment.specs.Carry.{Carry, carry_from, octets_of}
use Rattle.flow_segment.specs.Prefix.{AreRead}
use Rattle.flow_segment.specs.Spans.{all_noted}
use Rattle.flow_segment.proofs.NotingStarts.{all_after}
use Rattle.flow_segment.proofs.Restating.{Behind}
use Rattle.flow_segment.proofs.Sure.{all_joined_octets, both_octets}
use Rattle.flow_recover.specs.declared.segments.Section.{Section}
use Rattle.flow_recover.specs.declared.segments.Taken.{Taken}
use Rattle.flow_recover.specs.Reading.{AreOf, AreTaken}
use Rattle.flow_recover.proofs.Accepting.{carry_join, carry_templates, next_of, read_more, IsSoFar}

-- ---- octets after those that are read

pub taken_more : (section : Section) (octets later : List ℕ) (old new : Carry) (start span : Option PartSpan)
    (taken : Taken) → AreTaken section octets old new start span taken
    → AreTaken section (octets ++ later) old new start span taken
taken_more section octets later old new start span taken (within, ms, read, kind, carry, count, noted, bytes) = (
  omega (arith, within, length-append octets later),
  ms,
  subst (λ (l : List ℕ). AreRead (octets ++ later) old.templates ms l)
      (sym (drop-append-le taken.octets octets later within))
      (read_more octets later (drop taken.octets octets) old.templates ms read),
  kind,
  carry,
  count,
  noted,
  bytes,
)

-- as far as the octets go
pub all_taken : (section : Section) (octets : List ℕ) (old new : Carry) (start span : Option PartSpan) (taken : Taken)
    → length octets ≤ taken.octets → AreTaken section octets old new start span taken
    → (messages : List Accepted) × AreRead octets old.templates messages [] × AreOf section messages
    × (new ≡ carry_from old messages) × (length messages ≡ taken.messages) × (span ≡ all_noted messages start)
all_taken section octets old new start span taken all (within, ms, read, kind, carry, count, noted, bytes) = (
  ms,
  subst (λ (l : List ℕ). AreRead octets old.templates ms l)
      (nil_from_length (drop taken.octets octets) (omega (arith, length-drop taken.octets octets, all))) read,
  kind,
  carry,
  count,
  noted,
)

-- Where other messages fill the octets, no fault comes after those that are taken in.
pub no_fault_after : (section : Section) (octets : List ℕ) (old new : Carry) (start span : Option PartSpan)
    (taken : Taken) (place : ℕ) (others : List Accepted) (fault : FileError) → taken.octets < length octets
    → AreTaken section octets old new start span taken → AreRead octets old.templates others [] → AreOf section others
    → IsFileFault place (drop taken.octets octets) fault → ⊥
no_fault_after section octets old new start span taken place others fault below
    (within, ms, read, mine, carry, counted, noted, bytes) other kind bad =
    let left = drop taken.octets octets in
    ⊎_elim (λ none. omega (arith, below, length-drop taken.octets octets, ap (λ (l : List ℕ). length l) none))
    (λ there. no_message place there.message.octets there.more fault there.cut
    (subst (λ (l : List ℕ). IsFileFault place l fault) there.parts bad))
    (next_of section octets left old.templates ms others read other kind)

-- ---- more messages after those that are read

joined_join : (xs ys : List Accepted)
    → joined (octets_of (xs ++ ys)) ≡ joined (octets_of xs) ++ joined (octets_of ys)
joined_join [] ys = refl
joined_join (x ∷ xs) ys =
    ap (λ (l : List ℕ). x.octets ++ l) (joined_join xs ys)
    ∙ sym (append_assoc x.octets (joined (octets_of xs)) (joined (octets_of ys)))

cut_join : (xs ys : List Accepted) → AllByRecursion IsCutOff (octets_of xs) → AllByRecursion IsCutOff (octets_of ys)
    → AllByRecursion IsCutOff (octets_of (xs ++ ys))
cut_join [] ys h k = k
cut_join (x ∷ xs) ys h k = (h.0, cut_join xs ys h.1 k)

accepted_join : (before : AllTemplates) (xs ys : List Accepted) → AreAcceptedFrom before xs
    → AreAcceptedFrom (templates_from before xs) ys → AreAcceptedFrom before (xs ++ ys)
accepted_join before [] ys h k = k
accepted_join before (x ∷ xs) ys h k = (h.0, accepted_join x.after xs ys h.1 k)

templates_join : (before : AllTemplates) (xs ys : List Accepted)
    → templates_from before (xs ++ ys) ≡ templates_from (templates_from before xs) ys
templates_join before [] ys = refl
templates_join before (x ∷ xs) ys = templates_join x.after xs ys

kind_join : (section : Section) (xs ys : List Accepted) → AreOf section xs → AreOf section ys
    → AreOf section (xs ++ ys)
kind_join section [] ys h k = k
kind_join section (x ∷ xs) ys h k = (h.0, kind_join section xs ys h.1 k)

octets_then : (xs ms : List Accepted) → IsOctets (joined (octets_of xs)) → IsOctets (joined (octets_of ms))
    → IsOctets (joined (octets_of (xs ++ ms)))
octets_then xs ms had bytes =
    subst (λ (l : List (List ℕ)). IsOctets (joined l)) (sym (map-append (λ (x : Accepted). x.octets) xs ms))
    (all_joined_octets (octets_of xs) (octets_of ms) had bytes)

-- the messages that the rest begins with are more of them
pub so_far_then : (section : Section) (octets rest : List ℕ) (old now new : Carry) (start span noted : Option PartSpan)
    (count from at : ℕ) (taken : Taken)
    → (was : Behind (IsSoFar section old now count start span) octets from old.templates now.templates at rest)
    → IsOctets (joined (octets_of was.messages)) → AreTaken section rest now new span noted taken
    → (read : Behind (IsSoFar section old new (count + taken.messages) start noted) octets from old.templates
    new.templates (at + taken.octets) (drop taken.octets rest)) × IsOctets (joined (octets_of read.messages))
so_far_then section octets rest old now new start span noted count from at taken was had
    (within, ms, read, kind, carry, count_is, noted_is, bytes) =
    let xs = was.messages in
    let left = drop taken.octets rest in (
      record {
        messages = xs ++ ms;
        read = record {
          divided = record {
            whole = was.read.divided.whole
                ∙ ap (λ (l : List ℕ). joined (octets_of xs) ++ l) read.divided.whole
                ∙ sym (append_assoc (joined (octets_of xs)) (joined (octets_of ms)) left)
                ∙ ap (λ (l : List ℕ). l ++ left) (sym (joined_join xs ms));
            each = cut_join xs ms was.read.divided.each read.divided.each;
          };
          accepted = accepted_join old.templates xs ms was.read.accepted
              (subst (λ (t : AllTemplates). AreAcceptedFrom t ms) was.same read.accepted);
        };
        kind = record {
          kind = kind_join section xs ms was.kind.kind kind;
          carry = carry ∙ ap (λ (k : Carry). carry_from k ms) was.kind.carry ∙ sym (carry_join old xs ms);
          count_is = omega (arith, length-append xs ms, was.kind.count_is, count_is);
          noted = noted_is ∙ ap (all_noted ms) was.kind.noted ∙ all_after xs ms start;
        };
        same = ap (λ (k : Carry). k.templates) carry ∙ carry_templates now ms
            ∙ ap (λ (t : AllTemplates). templates_from t ms) was.same ∙ sym (templates_join old.templates xs ms);
        at =
            (let all : length rest ≡ length (joined (octets_of ms)) + length left =
            ap length read.divided.whole ∙ length-append (joined (octets_of ms)) left in
            let both : length (joined (octets_of (xs ++ ms)))
            ≡ length (joined (octets_of xs)) + length (joined (octets_of ms)) =
            ap length (joined_join xs ms) ∙ length-append (joined (octets_of xs)) (joined (octets_of ms)) in
            let place : at ≡ from + length (joined (octets_of xs)) = was.at in
            omega (arith, all, both, place, length-drop taken.octets rest, within));
      },
      octets_then xs ms had bytes,
    )

-- octets of messages, which are below 256
pub filled_octets : (octets rest : List ℕ) (before : AllTemplates) (ms : List Accepted) → AreRead octets before ms rest
    → IsOctets octets → IsOctets (joined (octets_of ms))
filled_octets octets rest before ms read bytes =
    let own = joined (octets_of ms) in
    subst IsOctets (ap (take (length own)) read.divided.whole ∙ take-append_seam own rest)
    (both_octets (length own) octets bytes).0

-- Other messages that fill the octets go on in the rest.
pub others_left : (octets rest : List ℕ) (before : AllTemplates) (ms others : List Accepted)
    → AreRead octets before ms rest → AreRead octets before others []
    → (more : List Accepted) × AreRead rest (templates_from before ms) more []
others_left octets rest before [] others read other =
    (others, subst (λ (l : List ℕ). AreRead l before others []) read.divided.whole other)
others_left octets rest before (m ∷ ms) [] read other =
    let none : length (m.octets ++ (joined (octets_of ms) ++ rest)) ≡ 0 = ap (λ (l : List ℕ). length l) (sym
    (append_assoc m.octets (joined (octets_of ms)) rest) ∙ sym read.divided.whole ∙ other.divided.whole) in
    absurd (omega (arith, none, read.divided.each.0.long, length-append m.octets (joined (octets_of ms) ++ rest)))
others_left octets rest before (m ∷ ms) (a ∷ others) read other =
    let whole : m.octets ++ (joined (octets_of ms) ++ rest) ≡ a.octets ++ (joined (octets_of others) ++ []) =
    sym (append_assoc m.octets (joined (octets_of ms)) rest) ∙ sym read.divided.whole ∙ other.divided.whole
    ∙ append_assoc a.octets (joined (octets_of others)) [] in
    let heads = one_message m.octets a.octets (joined (octets_of ms) ++ rest) (joined
    (octets_of others) ++ []) read.divided.each.0 other.divided.each.0 whole in
    let there : IsAccepted m.octets before a.message a.after = subst (λ
    (l : List ℕ). IsAccepted l before a.message a.after) (sym heads.0) other.accepted.0 in
    let after : m.after ≡ a.after = accepted.one_state before m.octets m.message a.message m.after a.after
    read.accepted.0 there in
    others_left (joined (octets_of ms) ++ rest) rest m.after ms others
    (record { divided = record { whole = refl; each = read.divided.each.1 }; accepted = read.accepted.1 })
    (record {
      divided = record { whole = heads.1; each = other.divided.each.1 };
      accepted = subst (λ (ts : AllTemplates). AreAcceptedFrom ts others) (sym after) other.accepted.1;
    })

-- ---- a piece of a file

-- the octets of a piece are those that the rest of the file begins with
pub piece_of : (reads : List ℕ) (whole at count : ℕ) → at ≤ whole → count ≤ whole - at
    → take count (drop at reads) ≡ take count (drop at (take whole reads))
piece_of reads whole at count within few =
    sym (ap (take count) (ap (λ (n : ℕ). drop at (take n reads)) (omega (arith, within))
    ∙ drop-take at (whole - at) reads) ∙ take-take count (whole - at) (drop at reads) few)

first_fits : (count : ℕ) (rest first more : List ℕ) → count ≤ length rest → (count < length rest → 65536 ≤ count)
    → length_of (take count rest) < 65536 → IsCutOff first → rest ≡ first ++ more → length first ≤ count
first_fits count rest first more within room field cut parts =
    let total : length rest ≡ length first + length more = ap length parts ∙ length-append first more in
    let size : length (take count rest) ≡ count = length-take-le count rest within in
    ⊎_elim (λ lt. let large = room lt in
    let own : length_of rest ≡ length_of (take count rest) =
    ap length_of (sym (take-append-drop count rest))
    ∙ length_of-append (take count rest) (drop count rest) (omega (arith, size, large)) in
    let first_is : length_of rest ≡ length_of first = ap length_of parts ∙ length_of-append first more cut.long in
    omega (arith, own, first_is, cut.len, field, large))
    (λ all. omega (arith, all, total)) (cases_lt count (length rest))

-- A piece that has room for each message, or is the rest, begins with one where the rest is messages.
pub some_taken : (place count : ℕ) (rest : List ℕ) (before : AllTemplates) (others : List Accepted) (fault : FileError)
    → 0 < count → count ≤ length rest → (count < length rest → 65536 ≤ count)
    → length_of (take count rest) < 65536
    → AreRead rest before others [] → IsFileFault place (take count rest) fault → ⊥
some_taken place count rest before [] fault some within room field read bad =
    absurd (omega (arith, some, within, ap (λ (l : List ℕ). length l) read.divided.whole))
some_taken place count rest before (a ∷ others) fault some within room field read bad =
    let more : List ℕ = joined (octets_of others) ++ [] in
    let cut : IsCutOff a.octets = read.divided.each.0 in
    let parts : rest ≡ a.octets ++ more = read.divided.whole ∙ append_assoc a.octets (joined (octets_of others)) [] in
    let n = length a.octets in
    let fits : n ≤ count = first_fits count rest a.octets more within room field cut parts in
    let first : take n (take count rest) ≡ a.octets =
    take-take n count rest fits ∙ ap (take n) parts ∙ take-append-le n a.octets more (omega arith)
    ∙ take_all n a.octets (omega arith) in
    let piece : take count rest ≡ a.octets ++ drop n (take count rest) =
    sym (take-append-drop n (take count rest)) ∙ ap (λ (l : List ℕ). l ++ drop n (take count rest)) first in
    no_message place a.octets (drop n (take count rest)) fault cut
    (subst (λ (l : List ℕ). IsFileFault place l fault) piece bad)

-- Where a span was given, one is given after it.
pub still_noting : (ms : List Accepted) (start span : Option PartSpan) → span ≡ all_noted ms start
    → is_some span ≡ is_some start
still_noting ms None span same = ap is_some same
still_noting ms (Some s) span same = ap is_some same
