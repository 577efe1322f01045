-- Files one after the other: what is read of them is what they are.
use Rattle.std.proofs.Common.{◌≡◌, ℕ, zero, suc, ◌+◌, ◌<◌, ◌≤◌, List, [], ◌∷◌, ◌++◌, length, get_or, take, drop, refl}
use Rattle.std.proofs.Common.{sym, ◌∙◌, ap, subst, arith, append_assoc, Option, Some, None, Vec}
use Rattle.std.specs.declared.alloc.Global.{Global}
use Rattle.std.specs.List.{AllByRecursion}
use Rattle.std.proofs.lemmas.List.{append-nil, drop-drop, length-append, length-drop, nil_from_length}
use Rattle.std.proofs.lemmas.List.{take-append-drop, take_all}
use Rattle.std.proofs.Math.Seq.{drop-append_seam, take-append_seam}
use Rattle.flow_codec.specs.Cutting.{IsCutOff}
use Rattle.flow_codec.specs.Message.{joined}
use Rattle.flow_codec.specs.Templates.{AllTemplates}
use Rattle.flow_codec.proofs.RestatingAll.{message_cut}
use Rattle.flow_gate.specs.Gate.{IsWhole, StandInRow, octet_sum}
use Rattle.flow_gate.proofs.Exact.{one_row}
use Rattle.flow_manifest.specs.declared.manifest.Kind.{Kind}
use Rattle.flow_manifest.specs.declared.manifest.Kind.TheVariants.{Wide, Rolled, Sealed, Active}
use Rattle.flow_manifest.specs.declared.manifest.Entry.{Entry}
use Rattle.flow_manifest.specs.declared.manifest.Manifest.{Manifest}
use Rattle.flow_manifest.specs.Following.{no_entry}
use Rattle.flow_measure.specs.History.{Accepted, AreAcceptedFrom, read_from, templates_from}
use Rattle.flow_measure.specs.Sums.{Table}
use Rattle.flow_rolled.specs.Rollup.{IsRollup}
use Rattle.flow_segment.specs.Carry.{Carry, carry_from, no_carry, octets_of, prefix_of}
use Rattle.flow_segment.specs.Prefix.{AreRead}
use Rattle.flow_model.proofs.Accepting.{read_as, read_once}
use Rattle.flow_model.specs.State.{Part}
use Rattle.flow_model.specs.Chain.{ArePartsBehind, IsCalledFor, IsPartBehind, IsSegment}
use Rattle.flow_recover.specs.Reading.{IsHeldBehind, IsCalled, IsRestatement}
use Rattle.flow_model.specs.Standing.{IsRolledAt, IsSealedAt, PartsStand, StandsAs}
use Rattle.flow_recover.proofs.Accepting.{carry_join, carry_templates}
use Rattle.flow_recover.proofs.Recovering.{one_part}

-- ---- messages in a row

whole_of : (octets : List ℕ) → IsCutOff octets → IsWhole octets
whole_of [] cut = absurd (omega (arith, cut.long))
whole_of (a ∷ []) cut = absurd (omega (arith, cut.long))
whole_of (a ∷ b ∷ []) cut = absurd (omega (arith, cut.long))
whole_of (a ∷ b ∷ c ∷ []) cut = absurd (omega (arith, cut.long))
whole_of (a ∷ b ∷ c ∷ d ∷ rest) cut = record {
  long = cut.long;
  high = omega (arith, cut.version);
  low = omega (arith, cut.version);
  counted = omega (arith, cut.len);
}

each_cut : (before : AllTemplates) (xs : List Accepted) → AreAcceptedFrom before xs
    → AllByRecursion IsCutOff (octets_of xs)
each_cut before [] h = tt
each_cut before (x ∷ xs) h = (message_cut x.octets before x.message x.after h.0.0, each_cut x.after xs h.1)

in_row : (octets : List ℕ) (place : ℕ) (ms : List (List ℕ)) (more : List ℕ) → drop place octets ≡ joined ms ++ more
    → AllByRecursion IsCutOff ms → StandInRow octets place ms
in_row octets place [] more is each = tt
in_row octets place (m ∷ ms) more is each =
    let flat : drop place octets ≡ m ++ (joined ms ++ more) = is ∙ append_assoc m (joined ms) more in (
      whole_of m each.0,
      ap (take (length m)) flat ∙ take-append_seam m (joined ms ++ more),
      in_row octets (place + length m) ms more
          (sym (drop-drop (length m) place octets) ∙ ap (drop (length m)) flat
          ∙ drop-append_seam m (joined ms ++ more)) each.1,
    )

sum_joined : (ms : List (List ℕ)) → length (joined ms) ≡ octet_sum ms
sum_joined [] = refl
sum_joined (m ∷ ms) = omega (arith, length-append m (joined ms), sum_joined ms)

row_joined : (octets : List ℕ) (place : ℕ) (ms : List (List ℕ)) → StandInRow octets place ms
    → place + octet_sum ms ≡ length octets → drop place octets ≡ joined ms ++ []
row_joined octets place [] row ends =
    nil_from_length (drop place octets) (omega (arith, ends, length-drop place octets))
row_joined octets place (m ∷ ms) row ends =
    sym (take-append-drop (length m) (drop place octets))
    ∙ ap (λ (l : List ℕ). l ++ drop (length m) (drop place octets)) row.1
    ∙ ap (λ (l : List ℕ). m ++ l) (drop-drop (length m) place octets
    ∙ row_joined octets (place + length m) ms row.2 (omega (arith, ends)))
    ∙ sym (append_assoc m (joined ms) [])

count_of : (xs : List Accepted) → length (octets_of xs) ≡ length xs
count_of [] = refl
count_of (x ∷ xs) = omega (arith, count_of xs)

-- ---- a sealed segment

-- messages that fill the octets after a prefix
pub sealed_at : (octets : List ℕ) (e : Entry) (before : AllTemplates) (ms : List Accepted)
    → length octets ≡ e.length → e.prefix ≤ e.length
    → AreRead (drop e.prefix octets) before ms [] → length ms ≡ e.messages
    → IsSealedAt octets e (record { front = take e.prefix octets; messages = octets_of ms })
sealed_at octets e before ms whole fits read count = record {
  long = omega (arith, whole);
  front = refl;
  row = in_row octets e.prefix (octets_of ms) [] read.divided.whole read.divided.each;
  count =
      (let size : length (drop e.prefix octets) ≡ length (joined (octets_of ms)) =
      ap (λ (l : List ℕ). length l) (read.divided.whole ∙ append-nil (joined (octets_of ms))) in
      omega (arith, size, whole, fits, length-drop e.prefix octets, sum_joined (octets_of ms)));
  messages = count_of ms ∙ count;
}

-- where the octets are a sealed segment they are as many as its entry says
pub sealed_count : (octets : List ℕ) (e : Entry) (p : Part) (before : AllTemplates) (ms : List Accepted)
    → length octets ≡ e.length → e.prefix ≤ e.length
    → AreRead (drop e.prefix octets) before ms [] → IsSealedAt octets e p → length ms ≡ e.messages
sealed_count octets e p before ms whole fits read at =
    let row = in_row octets e.prefix (octets_of ms) [] read.divided.whole read.divided.each in
    let size : length (drop e.prefix octets) ≡ length (joined (octets_of ms)) =
    ap (λ (l : List ℕ). length l) (read.divided.whole ∙ append-nil (joined (octets_of ms))) in
    let same : octets_of ms ≡ p.messages = one_row octets e.prefix (octets_of ms) p.messages row at.row
    (omega (arith, size, whole, fits, length-drop e.prefix octets, sum_joined (octets_of ms), at.count)) in
    sym (count_of ms) ∙ ap (λ (l : List (List ℕ)). length l) same ∙ at.messages

-- and a segment's messages fill the octets after its prefix
pub sealed_read : (octets : List ℕ) (e : Entry) (p : Part) (before : AllTemplates) (ms : List Accepted)
    → length octets ≡ e.length → IsSealedAt octets e p → octets_of ms ≡ p.messages → AreAcceptedFrom before ms
    → AreRead (drop e.prefix octets) before ms []
sealed_read octets e p before ms whole at own accepted = record {
  divided = record {
    whole = row_joined octets e.prefix (octets_of ms)
        (subst (StandInRow octets e.prefix) (sym own) at.row)
        (omega (arith, whole, at.count, ap octet_sum own));
    each = each_cut before ms accepted;
  };
  accepted = accepted;
}

-- ---- a rolled or wide file

abbrev rolled_part : List ℕ → Part
rolled_part octets = record { front = octets; messages = [] }

rolled_at : (octets : List ℕ) (e : Entry) → length octets ≡ e.length → IsRolledAt octets e (rolled_part octets)
rolled_at octets e whole = record {
  long = omega (arith, whole);
  front = take_all e.length octets (omega (arith, whole));
  messages = refl;
}

-- ---- a segment

-- what a prefix leaves
pub restated_templates : (octets : List ℕ) (carry : Carry) (ms : List Accepted) → IsRestatement octets carry
    → AreRead octets [] ms [] → carry.templates ≡ templates_from [] ms
restated_templates octets carry ms is read =
    ap (λ (k : Carry). k.templates) is.3 ∙ carry_templates (no_carry 0) is.0
    ∙ ap (templates_from []) (read_once octets is.0 ms is.1 read)

pub segment_read : (p : Part) (front carry : Carry) (ms : List Accepted) → IsRestatement p.front front
    → octets_of ms ≡ p.messages → AreAcceptedFrom front.templates ms → carry ≡ carry_from front ms
    → IsSegment p carry
segment_read p front carry ms is octets accepted carried = record {
  prefix = is.0;
  messages = ms;
  front = is.1;
  restated = is.2;
  octets = octets;
  accepted = subst (λ (t : AllTemplates). AreAcceptedFrom t ms)
      (ap (λ (k : Carry). k.templates) is.3 ∙ carry_templates (no_carry 0) is.0) accepted;
  time = 0;
  small = omega arith;
  hands_on = carried ∙ ap (λ (k : Carry). carry_from k ms) is.3 ∙ sym (carry_join (no_carry 0) is.0 ms);
}

-- a segment's messages are read after the templates of its prefix
pub sealed_behind : (octets : List ℕ) (e : Entry) (p : Part) (front carry : Carry) → length octets ≡ e.length
    → IsRestatement (take e.prefix octets) front → IsSealedAt octets e p → (g : IsSegment p carry)
    → AreRead (drop e.prefix octets) front.templates g.messages []
sealed_behind octets e p front carry whole is at g =
    let read : AreRead (take e.prefix octets) [] g.prefix [] =
    subst (λ (l : List ℕ). AreRead l [] g.prefix []) (sym at.front) g.front in
    let same = restated_templates (take e.prefix octets) front g.prefix is read in
    sealed_read octets e p front.templates g.messages whole at g.octets
    (subst (λ (t : AllTemplates). AreAcceptedFrom t g.messages) (sym same) g.accepted)

-- ---- the prefix that the next segment must have

pub called_for : (before : Option Carry) (called : Option (Vec ℕ Global)) (front : List ℕ) → IsHeldBehind before called
    → IsCalled called front → IsCalledFor before front
called_for None None front calls is = tt
called_for None (Some v) front calls is = absurd calls
called_for (Some c) None front calls is = absurd calls
called_for (Some c) (Some v) front calls is = is ∙ calls

pub is_called : (before : Option Carry) (called : Option (Vec ℕ Global)) (front : List ℕ) → IsHeldBehind before called
    → IsCalledFor before front → IsCalled called front
is_called None None front calls is = tt
is_called None (Some v) front calls is = absurd calls
is_called (Some c) None front calls is = absurd calls
is_called (Some c) (Some v) front calls is = is ∙ sym calls

pub called_some : (called : Option (Vec ℕ Global)) (v : Vec ℕ Global) (front : List ℕ) → called ≡ Some v
    → front ≡ v.items → IsCalled called front
called_some called v front is same = subst (λ (b : Option (Vec ℕ Global)). IsCalled b front) (sym is) same

-- ---- what is kept of a file

-- what is answered of a file: the part that it holds, and the prefix that the next segment must have
abbrev pub IsKeptAs : Manifest → Kind → List ℕ → Entry → Option Carry → Option (Vec ℕ Global) → Type 0
IsKeptAs m kind octets e before next = (p : Part) × (after : Option Carry) × StandsAs kind octets e p
    × IsPartBehind m kind before p after × IsHeldBehind after next

pub wide_kept : (m : Manifest) (octets : List ℕ) (e : Entry) (kind : Kind) (before : Option Carry)
    (called : Option (Vec ℕ Global))
    → kind ≡ Wide → length octets ≡ e.length → (table : Table) × IsRollup m.wide octets table → IsHeldBehind before called
    → IsKeptAs m kind octets e before called
wide_kept m octets e kind before called is whole roll calls =
    subst (λ (k : Kind). IsKeptAs m k octets e before called) (sym is)
    (rolled_part octets, before, rolled_at octets e whole, (roll, refl), calls)

pub rolled_kept : (m : Manifest) (octets : List ℕ) (e : Entry) (kind : Kind) (before : Option Carry)
    (called : Option (Vec ℕ Global))
    → kind ≡ Rolled → length octets ≡ e.length → (table : Table) × IsRollup m.width octets table
    → IsHeldBehind before called → IsKeptAs m kind octets e before called
rolled_kept m octets e kind before called is whole roll calls =
    subst (λ (k : Kind). IsKeptAs m k octets e before called) (sym is)
    (rolled_part octets, before, rolled_at octets e whole, (roll, refl), calls)

pub sealed_kept : (m : Manifest) (octets : List ℕ) (e : Entry) (kind : Kind) (before : Option Carry)
    (called : Option (Vec ℕ Global)) (next : Vec ℕ Global) → kind ≡ Sealed → IsHeldBehind before called
    → (p : Part) × (carry : Carry) × IsSealedAt octets e p × IsCalled called p.front × IsSegment p carry
    × (next.items ≡ prefix_of carry)
    → IsKeptAs m kind octets e before (Some next)
sealed_kept m octets e kind before called next is calls (p, carry, at, called_is, g, told) =
    subst (λ (k : Kind). IsKeptAs m k octets e before (Some next)) (sym is)
    (p, Some carry, at, (carry, called_for before called p.front calls called_is, g, refl), told)

-- a part's table is that of all the file's octets
table_there : (width : ℕ) (octets : List ℕ) (e : Entry) (p : Part) → length octets ≡ e.length → IsRolledAt octets e p
    → (table : Table) × IsRollup width p.front table → (table : Table) × IsRollup width octets table
table_there width octets e p whole at roll = (
  roll.0,
  subst (λ (l : List ℕ). IsRollup width l roll.0) (sym at.front ∙ take_all e.length octets (omega (arith, whole)))
      roll.1,
)

pub wide_there : (m : Manifest) (octets : List ℕ) (e : Entry) (kind : Kind) (before after : Option Carry) (p : Part)
    → kind ≡ Wide → length octets ≡ e.length → StandsAs kind octets e p → IsPartBehind m kind before p after
    → (table : Table) × IsRollup m.wide octets table
wide_there m octets e Wide before after p is whole stands behind =
    table_there m.wide octets e p whole stands behind.0
wide_there m octets e Rolled before after p is whole stands behind = absurd (cc)
wide_there m octets e Sealed before after p is whole stands behind = absurd (cc)
wide_there m octets e Active before after p is whole stands behind = absurd stands

pub rolled_there : (m : Manifest) (octets : List ℕ) (e : Entry) (kind : Kind) (before after : Option Carry) (p : Part)
    → kind ≡ Rolled → length octets ≡ e.length → StandsAs kind octets e p → IsPartBehind m kind before p after
    → (table : Table) × IsRollup m.width octets table
rolled_there m octets e Rolled before after p is whole stands behind =
    table_there m.width octets e p whole stands behind.0
rolled_there m octets e Wide before after p is whole stands behind = absurd (cc)
rolled_there m octets e Sealed before after p is whole stands behind = absurd (cc)
rolled_there m octets e Active before after p is whole stands behind = absurd stands

pub sealed_there : (m : Manifest) (octets : List ℕ) (e : Entry) (kind : Kind) (before after : Option Carry) (p : Part)
    → kind ≡ Sealed → StandsAs kind octets e p → IsPartBehind m kind before p after
    → IsSealedAt octets e p × ((carry : Carry) × IsCalledFor before p.front × IsSegment p carry)
sealed_there m octets e Sealed before after p is stands (carry, calls, g, same) = (stands, (carry, calls, g))
sealed_there m octets e Wide before after p is stands behind = absurd (cc)
sealed_there m octets e Rolled before after p is stands behind = absurd (cc)
sealed_there m octets e Active before after p is stands behind = absurd stands

-- ---- one of each

-- carries that determine one prefix
abbrev pub CallTheSame : Option Carry → Option Carry → Type 0
CallTheSame None None = Unit {0}
CallTheSame None (Some d) = ⊥
CallTheSame (Some c) None = ⊥
CallTheSame (Some c) (Some d) = prefix_of c ≡ prefix_of d

whichever_time : (xs : List Accepted) (s t : ℕ)
    → prefix_of (carry_from (no_carry s) xs) ≡ prefix_of (carry_from (no_carry t) xs)
whichever_time [] s t = refl
whichever_time (x ∷ xs) s t = refl

pub one_carry : (p : Part) (c d : Carry) → IsSegment p c → IsSegment p d → prefix_of c ≡ prefix_of d
one_carry p c d g h =
    let front : g.prefix ≡ h.prefix = read_once p.front g.prefix h.prefix g.front h.front in
    let own : g.messages ≡ h.messages =
    sym (read_as (templates_from [] g.prefix) g.messages p.messages g.accepted g.octets)
    ∙ ap (λ (xs : List Accepted). read_from (templates_from [] xs) p.messages) front
    ∙ read_as (templates_from [] h.prefix) h.messages p.messages h.accepted h.octets in
    let all : g.prefix ++ g.messages ≡ h.prefix ++ h.messages =
    ap (λ (xs : List Accepted). xs ++ g.messages) front ∙ ap (λ (xs : List Accepted). h.prefix ++ xs) own in
    ap (λ (k : Carry). prefix_of k) g.hands_on ∙ whichever_time (g.prefix ++ g.messages) g.time h.time
    ∙ ap (λ (xs : List Accepted). prefix_of (carry_from (no_carry h.time) xs)) all
    ∙ sym (ap (λ (k : Carry). prefix_of k) h.hands_on)

pub called_along : (c d : Option Carry) (front : List ℕ) → CallTheSame c d → IsCalledFor d front → IsCalledFor c front
called_along None None front same is = tt
called_along None (Some d) front same is = absurd same
called_along (Some c) None front same is = absurd same
called_along (Some c) (Some d) front same is = is ∙ sym same

calls_of : (a b c d : Option Carry) → a ≡ c → b ≡ d → CallTheSame c d → CallTheSame a b
calls_of a b c d is was same =
    subst (λ (x : Option Carry). CallTheSame x b) (sym is)
    (subst (λ (x : Option Carry). CallTheSame c x) (sym was) same)

one_behind : (m : Manifest) (kind : Kind) (octets : List ℕ) (e : Entry) (c d a b : Option Carry) (p q : Part)
    → CallTheSame c d → StandsAs kind octets e p → StandsAs kind octets e q → IsPartBehind m kind c p a
    → IsPartBehind m kind d q b → CallTheSame a b
one_behind m Wide octets e c d a b p q same at there is was = calls_of a b c d is.1 was.1 same
one_behind m Rolled octets e c d a b p q same at there is was = calls_of a b c d is.1 was.1 same
one_behind m Sealed octets e c d a b p q same at there (own, calls, g, is) (other, called, h, was) =
    let one : p ≡ q = one_part Sealed octets e p q at there in
    calls_of a b (Some own) (Some other) is was
    (one_carry q own other (subst (λ (x : Part). IsSegment x own) one g) h)
one_behind m Active octets e c d a b p q same at there is was = absurd at

-- the same after another carry that determines that prefix
along : (m : Manifest) (kind : Kind) (c d : Option Carry) (p : Part) (after : Option Carry) → CallTheSame c d
    → IsPartBehind m kind d p after → (next : Option Carry) × IsPartBehind m kind c p next
along m Wide c d p after same is = (c, (is.0, refl))
along m Rolled c d p after same is = (c, (is.0, refl))
along m Sealed c d p after same (own, calls, g, is) = (after, (own, called_along c d p.front same calls, g, is))
along m Active c d p after same is = absurd is

-- the next file of an archive that is read up to it
pub record IsNextPart (m : Manifest) (octets : List ℕ) (e : Entry) (now : Option Carry) : Type 0 where
  pub part : Part
  pub after : Option Carry
  pub stands : StandsAs e.kind octets e part
  pub behind : IsPartBehind m e.kind now part after

pub next_part : (m : Manifest) (image : ℕ → List ℕ) (es : List Entry) (qs ps : List Part) (i : ℕ)
    (c d now after : Option Carry) → CallTheSame c d → PartsStand image es qs → ArePartsBehind m d es qs after
    → PartsStand image (take i es) ps → ArePartsBehind m c (take i es) ps now → i < length es
    → IsNextPart m (image (get_or es i no_entry).file) (get_or es i no_entry) now
next_part m image [] qs ps i c d now after same stand behind was is lt = absurd (omega (arith, lt))
next_part m image (e ∷ es) [] ps i c d now after same stand behind was is lt = absurd stand
next_part m image (e ∷ es) (q ∷ qs) [] zero c d now after same stand behind was is lt =
    let n = along m e.kind c d q behind.0 same behind.1 in
    record {
      part = q;
      after = n.0;
      stands = stand.0;
      behind = subst (λ (x : Option Carry). IsPartBehind m e.kind x q n.0) (sym is) n.1;
    }
next_part m image (e ∷ es) (q ∷ qs) (p ∷ ps) zero c d now after same stand behind was is lt = absurd was
next_part m image (e ∷ es) (q ∷ qs) [] (suc i) c d now after same stand behind was is lt = absurd was
next_part m image (e ∷ es) (q ∷ qs) (p ∷ ps) (suc i) c d now after same stand behind was is lt =
    next_part m image es qs ps i is.0 behind.0 now after
    (one_behind m e.kind (image e.file) e c d is.0 behind.0 p q same was.0 stand.0 is.1 behind.1)
    stand.1 behind.2 was.1 is.2 (omega (arith, lt))

pub one_chain : (m : Manifest) (image : ℕ → List ℕ) (es : List Entry) (ps qs : List Part) (c d a b : Option Carry)
    → CallTheSame c d → PartsStand image es ps → PartsStand image es qs → ArePartsBehind m c es ps a
    → ArePartsBehind m d es qs b → CallTheSame a b
one_chain m image [] [] [] c d a b same at there is was = calls_of a b c d is was same
one_chain m image [] [] (q ∷ qs) c d a b same at there is was = absurd there
one_chain m image [] (p ∷ ps) qs c d a b same at there is was = absurd at
one_chain m image (e ∷ es) [] qs c d a b same at there is was = absurd at
one_chain m image (e ∷ es) (p ∷ ps) [] c d a b same at there is was = absurd there
one_chain m image (e ∷ es) (p ∷ ps) (q ∷ qs) c d a b same at there is was =
    one_chain m image es ps qs is.0 was.0 a b
    (one_behind m e.kind (image e.file) e c d is.0 was.0 p q same at.0 there.0 is.1 was.1) at.1 there.1 is.2 was.2

-- one file more
pub behind_push : (m : Manifest) (e : Entry) (p : Part) (mid after : Option Carry)
    → IsPartBehind m e.kind mid p after → (es : List Entry) (ps : List Part) (c : Option Carry)
    → ArePartsBehind m c es ps mid → ArePartsBehind m c (es ++ e ∷ []) (ps ++ p ∷ []) after
behind_push m e p mid after at [] [] c is =
    (after, subst (λ (x : Option Carry). IsPartBehind m e.kind x p after) is at, refl)
behind_push m e p mid after at [] (q ∷ ps) c is = absurd is
behind_push m e p mid after at (x ∷ es) [] c is = absurd is
behind_push m e p mid after at (x ∷ es) (q ∷ ps) c is = (is.0, is.1, behind_push m e p mid after at es ps is.0 is.2)
