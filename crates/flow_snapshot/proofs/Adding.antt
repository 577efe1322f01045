-- Sums of rolled files and of kept messages, added one after the other.
use Rattle.std.proofs.Common.{◌≡◌, ℕ, Bool, true, false, ◌+◌, ◌<◌, ◌^◌, List, [], ◌∷◌, ◌++◌}
use Rattle.std.proofs.Common.{length, map, drop, Option, Some, None, refl, sym, ap, subst, ◌∙◌, append-nil}
use Rattle.std.proofs.Common.{append_assoc, get_or}
use Rattle.std.specs.Prelude.{IsTrue, IfSome, Result, Ok, Err, IsErrAnd}
use Rattle.std.specs.List.{flat_map, list_all}
use Rattle.std.specs.FinMap.{FinMap, entries, get}
use Rattle.std.specs.Arc.{arc_value}
use Rattle.std.specs.declared.sync.Arc.{Arc}
use Rattle.std.proofs.lemmas.List.{drop-map}
use Rattle.std.proofs.lemmas.List.Concat.{flat_map-append}
use Rattle.flow_codec.specs.Message.{IsAccepted}
use Rattle.flow_codec.specs.Raw.{under, Placed, Took}
use Rattle.flow_codec.specs.Templates.{AllTemplates}
use Rattle.flow_disk.specs.declared.sealed.SealedFile.{Ghosts}
use Rattle.flow_measure.specs.declared.flow.Flow.{Flow}
use Rattle.flow_measure.specs.declared.rows.Key.{Key}
use Rattle.flow_measure.specs.declared.rows.Sums.{Sums}
use Rattle.flow_measure.specs.History.{Accepted, AreAcceptedFrom, flows_in, templates_from}
use Rattle.flow_measure.specs.Sums.{key_cmp, gathered, merged, sums_by, with_entries, AllFit, AreSound}
use Rattle.flow_measure.specs.Sums.{empty_table, IsKeyBy, Table}
use Rattle.flow_measure.specs.View.{gathered_all}
use Rattle.flow_measure.proofs.Fitting.{front_fits}
use Rattle.flow_measure.proofs.Gathering.{entries_of_none, gathered-again, gathered-both, gathered-entries}
use Rattle.flow_measure.proofs.Merging.{with_own}
use Rattle.flow_measure.proofs.SinkSteps.{none_summed}
use Rattle.flow_measure.proofs.ViewLaws.{both_sums, flows-append}
use Rattle.flow_refusals.specs.declared.sum_refusal.SumRefusal.{SumRefusal}
use Rattle.flow_refusals.specs.declared.sum_refusal.SumRefusal.TheVariants as sum
use Rattle.flow_rolled.specs.Rollup.{IsRollup}
use Rattle.flow_rolled.specs.Rows.{IsTableEntry, IsTable}
use Rattle.flow_rolled.specs.Stored as stored
use Rattle.flow_rolled.specs.Stored.{IsAdded, IsNotAdded}
use Rattle.flow_rolled.proofs.Breaking.{one_table}
use Rattle.flow_segment.specs.declared.sinks.Adding.{Adding}
use Rattle.flow_segment.specs.PartFlows.{records_in, with_flows, AreAdded, ArePartMessages, HasAdded}
use Rattle.flow_segment.specs.Segment.{part_octets}
use Rattle.flow_segment.specs.declared.sealed.SealedPart.{SealedPart}
use Rattle.flow_segment.proofs.Taking.{flows_in_records}
use Rattle.flow_refusals.specs.declared.read_refusal.ReadRefusal.{ReadRefusal}
use Rattle.flow_refusals.specs.declared.read_refusal.ReadRefusal.TheVariants.{Damaged, Fault, OutOfMemory}
use Rattle.flow_snapshot.specs.Files.{is_honest, is_honest_sum, rollup_of, segment_of, shared}
use Rattle.flow_model.specs.Shelf.{Rollup}
use Rattle.flow_snapshot.specs.Answered.{IsNoDamage}
use Rattle.flow_snapshot.specs.Totals.{told_of_file, with_maps, IsMade, IsTotalsRefusal}
use Rattle.flow_model.specs.Views.{AreRolled}
use Rattle.flow_snapshot.proofs.KeptFlows.{message_told, next_item, taken_next, Next, NextPart, Taken}
use Rattle.flow_snapshot.proofs.Sharing.{all_rest, first_of_two}

-- ---- tables

pub with_nothing : (t : Table) → with_flows [] t ≡ t
with_nothing t = λ i. record {
  width = t.width;
  sums = (ap (λ (e : Table). gathered (entries t.sums ++ entries e.sums)) (none_summed t.width)
      ∙ ap (λ es. gathered (entries t.sums ++ es)) entries_of_none ∙ ap gathered (append-nil (entries t.sums))
      ∙ gathered-entries t.sums) i;
}

pub gathered-behind : (m : FinMap key_cmp Sums) (fs : List (Key × Sums))
    → gathered (entries m ++ fs) ≡ gathered (entries m ++ entries (gathered fs))
gathered-behind m fs =
    sym (gathered-both (entries m) fs)
    ∙ ap (λ (x : FinMap key_cmp Sums). gathered (entries x ++ entries (gathered fs))) (gathered-entries m)

-- flows, added after others
pub flows_both : (t : Table) (fs gs : List Flow) → with_flows gs (with_flows fs t) ≡ with_flows (fs ++ gs) t
flows_both t fs gs =
    let es = entries t.sums in
    let xs = entries (sums_by t.width fs) in
    let ys = entries (sums_by t.width gs) in
    λ i. record {
      width = t.width;
      sums = (gathered-again (es ++ xs) ys ∙ ap gathered (append_assoc es xs ys) ∙ gathered-behind t.sums (xs ++ ys)
          ∙ ap (λ (m : FinMap key_cmp Sums). gathered (es ++ entries m)) (both_sums t.width fs gs)) i;
    }

same_table : (t : Table) → record { width = t.width; sums = gathered (entries t.sums) } ≡ t
same_table t = λ i. record { width = t.width; sums = gathered-entries t.sums i }

-- what fits with more flows fits with fewer
pub fewer_flows_fit : (t : Table) (fs gs : List Flow) → AllFit (with_flows (fs ++ gs) t) → AllFit (with_flows fs t)
fewer_flows_fit t fs gs fit =
    let front = with_flows fs t in
    subst AllFit (same_table front) (front_fits t.width t.width (entries front.sums)
    (entries (sums_by t.width gs)) (subst AllFit (sym (flows_both t fs gs)) fit))

pub without_flows_fit : (t : Table) (fs : List Flow) → AllFit (with_flows fs t) → AllFit t
without_flows_fit t fs fit = subst AllFit (with_nothing t) (fewer_flows_fit t [] fs fit)

-- sums of one map more
pub one_map_more : (maps : List (FinMap key_cmp Sums)) (m : FinMap key_cmp Sums) (t : Table)
    → merged (with_maps maps t) (record { width = t.width; sums = m }) ≡ with_maps (maps ++ m ∷ []) t
one_map_more maps m t =
    let es = entries t.sums in
    λ i. record {
      width = t.width;
      sums = (gathered-again (es ++ flat_map entries maps) (entries m)
          ∙ ap gathered (append_assoc es (flat_map entries maps) (entries m))
          ∙ ap (λ xs. gathered (es ++ (flat_map entries maps ++ xs))) (sym (append-nil (entries m)))
          ∙ ap (λ xs. gathered (es ++ xs)) (sym (flat_map-append entries maps (m ∷ [])))) i;
    }

pub fewer_maps_fit : (maps more : List (FinMap key_cmp Sums)) (t : Table) → AllFit (with_maps (maps ++ more) t)
    → AllFit (with_maps maps t)
fewer_maps_fit maps more t fit =
    let es = entries t.sums in
    let all : with_maps (maps ++ more) t
    ≡ record { width = t.width; sums = gathered ((es ++ flat_map entries maps) ++ flat_map entries more) } =
    λ i. record {
      width = t.width;
      sums = (ap (λ xs. gathered (es ++ xs)) (flat_map-append entries maps more)
          ∙ ap gathered (sym (append_assoc es (flat_map entries maps) (flat_map entries more)))) i;
    } in
    front_fits t.width t.width (es ++ flat_map entries maps) (flat_map entries more) (subst AllFit all fit)

pub no_maps : (t : Table) → t ≡ with_maps [] t
no_maps t = λ i. record {
  width = t.width;
  sums = sym (ap gathered (append-nil (entries t.sums)) ∙ gathered-entries t.sums) i;
}

pub only_maps : (width : ℕ) (maps : List (FinMap key_cmp Sums))
    → with_maps maps (empty_table width) ≡ record { width = width; sums = gathered_all maps }
only_maps width maps = λ i. record {
  width = width;
  sums = gathered (entries_of_none i ++ flat_map entries maps);
}

-- ---- a rolled file

table_sound : (width : ℕ) (m : FinMap key_cmp Sums) → IsTable (record { width = width; sums = m }) → AreSound width m
table_sound width m valid key = by (get m key) (valid key)
  where
    by : (o : Option Sums) → IfSome o (IsTableEntry width key) → IfSome o (λ s. IsKeyBy width key × (0 < s.flows))
    by None h = tt
    by (Some s) h = (
      record { aligned = h.aligned; start = h.start; domain = h.domain; protocol = h.protocol },
      h.counted,
    )

module _ (width : ℕ) (small : width < 2 ^ 32) (octets : List ℕ) (m : FinMap key_cmp Sums)
    (is : IsRollup width octets (record { width = width; sums = m })) (old : Table) (same : old.width ≡ width) where
  abbrev own_table : Table
  own_table = record { width = width; sums = m }

  own_entries : with_entries (entries m) old ≡ merged old own_table
  own_entries = with_own old own_table (entries m) same refl (table_sound width m is.valid)

  pub file_added : (new : Table) → IsAdded width octets old new → new ≡ merged old own_table
  file_added new a =
      a.sums
      ∙ ap (λ (t : Table). with_entries (entries t.sums) old)
      (one_table width small octets a.table own_table a.rollup is)
      ∙ own_entries

  pub file_not_added : (first : ℕ) (part : stored.Rollup) (e : SumRefusal) → part.octets ≡ octets
      → IsNotAdded part width old e → IsTotalsRefusal first (AllFit (merged old own_table)) (told_of_file first e)
  file_not_added first part (sum.Damaged file at) here h =
      absurd ((h.1).none own_table (subst (λ (os : List ℕ). IsRollup width os own_table) (sym here) is))
  file_not_added first part sum.SumSpent here h = (
    refl,
    refl,
    λ fit. h own_table (subst (λ (os : List ℕ). IsRollup width os own_table) (sym here) is)
        (subst AllFit (sym own_entries) fit),
  )
  file_not_added first part sum.Fault here h = tt
  file_not_added first part sum.OutOfMemory here h = tt

-- ---- rolled files

-- Some of these maps were added, and others are left, of these files.
pub record Summed (old : Table) (maps : List (FinMap key_cmp Sums)) (left : List Rollup) (now : Table) : Type 0 where
  pub front : List (FinMap key_cmp Sums)
  pub rest : List (FinMap key_cmp Sums)
  pub whole : maps ≡ front ++ rest
  pub others : AreRolled old.width left rest
  pub is : now ≡ with_maps front old

-- the next file's sums
pub record NextSums (old : Table) (maps : List (FinMap key_cmp Sums)) (octets : List ℕ) (left : List Rollup)
    (now : Table) : Type 0 where
  pub front : List (FinMap key_cmp Sums)
  pub own : FinMap key_cmp Sums
  pub rest : List (FinMap key_cmp Sums)
  pub whole : maps ≡ (front ++ own ∷ []) ++ rest
  pub rollup : IsRollup old.width octets (record { width = old.width; sums = own })
  pub others : AreRolled old.width left rest
  pub is : now ≡ with_maps front old

pub next_sums : (old : Table) (maps : List (FinMap key_cmp Sums)) (r : Rollup) (left : List Rollup) (now : Table)
    → Summed old maps (r ∷ left) now → NextSums old maps r.octets left now
next_sums old maps r left now s = by s.rest s.whole s.others
  where
    by : (rest : List (FinMap key_cmp Sums)) → maps ≡ s.front ++ rest → AreRolled old.width (r ∷ left) rest
        → NextSums old maps r.octets left now
    by [] whole others = absurd others
    by (m ∷ more) whole others = record {
      front = s.front;
      own = m;
      rest = more;
      whole = whole ∙ sym (append_assoc s.front (m ∷ []) more);
      rollup = others.0;
      others = others.1;
      is = s.is;
    }

pub summed_next : (old : Table) (maps : List (FinMap key_cmp Sums)) (octets : List ℕ) (left : List Rollup)
    (now new : Table) (n : NextSums old maps octets left now)
    → new ≡ merged now (record { width = old.width; sums = n.own }) → Summed old maps left new
summed_next old maps octets left now new n is = record {
  front = n.front ++ n.own ∷ [];
  rest = n.rest;
  whole = n.whole;
  others = n.others;
  is = is ∙ ap (λ (t : Table). merged t (record { width = old.width; sums = n.own })) n.is
      ∙ one_map_more n.front n.own old;
}

-- where the next sums don't fit, all don't
pub next_fits : (old : Table) (maps : List (FinMap key_cmp Sums)) (octets : List ℕ) (left : List Rollup)
    (now : Table) (n : NextSums old maps octets left now) → AllFit (with_maps maps old)
    → AllFit (merged now (record { width = old.width; sums = n.own }))
next_fits old maps octets left now n fit =
    subst AllFit (sym (ap (λ (t : Table). merged t (record { width = old.width; sums = n.own })) n.is
    ∙ one_map_more n.front n.own old))
    (fewer_maps_fit (n.front ++ n.own ∷ []) n.rest old
    (subst (λ (ms : List (FinMap key_cmp Sums)). AllFit (with_maps ms old)) n.whole fit))

no_rolled : (width : ℕ) (rest : List (FinMap key_cmp Sums)) → AreRolled width [] rest → rest ≡ []
no_rolled width [] h = refl
no_rolled width (m ∷ ms) h = absurd h

pub all_summed : (old : Table) (maps : List (FinMap key_cmp Sums)) (left : List Rollup) (now : Table) → left ≡ []
    → Summed old maps left now → now ≡ with_maps maps old
all_summed old maps left now none s =
    s.is
    ∙ ap (λ (ms : List (FinMap key_cmp Sums)). with_maps ms old) (sym (s.whole
    ∙ ap (λ (ms : List (FinMap key_cmp Sums)). s.front ++ ms)
    (no_rolled old.width s.rest (subst (λ (rs : List Rollup). AreRolled old.width rs s.rest) none s.others))
    ∙ append-nil s.front))

-- ---- refusals

-- a refusal, passed on to what is made of more
pub made_err : {Y : Type 0} (Q : Y → Type 0) (first : ℕ) (fit all : Type 0) (r : Result Y ReadRefusal)
    (e : ReadRefusal) → (all → fit) → IsErrAnd r (λ x. x ≡ e) → IsTotalsRefusal first fit e → IsMade first all Q r
made_err Q first fit all (Ok y) e fewer is h = absurd is
made_err Q first fit all (Err x) e fewer is h = subst (IsTotalsRefusal first all) (sym is) (by e h)
  where
    by : (e : ReadRefusal) → IsTotalsRefusal first fit e → IsTotalsRefusal first all e
    by (Damaged file at) h = (h.0, h.1, λ w. h.2 (fewer w))
    by Fault h = tt
    by OutOfMemory h = tt

pub made_blameless : {Y : Type 0} (Q : Y → Type 0) (first : ℕ) (all : Type 0) (r : Result Y ReadRefusal)
    (e : ReadRefusal) → IsErrAnd r (λ x. x ≡ e) → IsNoDamage e → IsMade first all Q r
made_blameless Q first all (Ok y) e is h = absurd is
made_blameless Q first all (Err x) e is h = subst (IsTotalsRefusal first all) (sym is) (by e h)
  where
    by : (e : ReadRefusal) → IsNoDamage e → IsTotalsRefusal first all e
    by (Damaged file at) h = absurd h
    by Fault h = tt
    by OutOfMemory h = tt

pub part_not_added : (X : Type 0) (before after : AllTemplates) (old new : Table) (messages : List Accepted) (first : ℕ)
    (e : SumRefusal) → AreAdded {X = X} before old messages (Err e) after new
    → IsTotalsRefusal first (AllFit (with_flows (flows_in messages) old)) (told_of_file first e)
part_not_added X before after old new messages first (sum.Damaged file at) h = absurd h
part_not_added X before after old new messages first sum.SumSpent h = (refl, refl, h.0)
part_not_added X before after old new messages first sum.Fault h = tt
part_not_added X before after old new messages first sum.OutOfMemory h = tt

-- ---- a rolled file among others

pub record NextFile (old : Table) (maps : List (FinMap key_cmp Sums)) (part : stored.Rollup) (left : List Rollup)
    (now : Table) : Type 0 where
  pub next : NextSums old maps part.octets left now
  pub honest : IsTrue part.honest

pub next_file : {Z : Type 0} (old now : Table) (maps : List (FinMap key_cmp Sums)) (parts : List (Arc stored.Rollup Z))
    (i : ℕ) (item : Arc stored.Rollup Z) (part : stored.Rollup) → i < length parts → item ≡ get_or parts i item
    → part ≡ arc_value item → IsTrue (list_all is_honest_sum (shared parts))
    → Summed old maps (map rollup_of (shared (drop i parts))) now
    → NextFile old maps part (map rollup_of (shared (drop (i + 1) parts))) now
next_file old now maps parts i item part within is same honest s =
    let rest = shared (drop (i + 1) parts) in
    let parted : shared (drop i parts) ≡ part ∷ rest =
    ap shared (next_item parts i item item within is refl)
    ∙ ap (λ (p : stored.Rollup). p ∷ rest) (sym same) in
    let all : IsTrue (list_all is_honest_sum (part ∷ rest)) =
    subst (λ (ps : List stored.Rollup). IsTrue (list_all is_honest_sum ps))
    (drop-map arc_value i parts ∙ parted) (all_rest is_honest_sum i (shared parts) honest) in
    record {
      next = next_sums old maps (rollup_of part) (map rollup_of rest) now
          (subst (λ (ps : List stored.Rollup). Summed old maps (map rollup_of ps) now) parted s);
      honest = first_of_two part.honest (list_all is_honest_sum rest) all;
    }

own_rollup : (old now : Table) (maps : List (FinMap key_cmp Sums)) (octets : List ℕ) (left : List Rollup)
    (n : NextSums old maps octets left now) → IsRollup now.width octets (record { width = now.width; sums = n.own })
own_rollup old now maps octets left n =
    subst (λ (w : ℕ). IsRollup w octets (record { width = w; sums = n.own }))
    (sym (ap (λ (t : Table). t.width) n.is)) n.rollup

pub file_step : (old now new : Table) (maps : List (FinMap key_cmp Sums)) (octets : List ℕ) (left : List Rollup)
    (n : NextSums old maps octets left now)
    → ((sums : FinMap key_cmp Sums) → IsRollup now.width octets (record { width = now.width; sums = sums })
    → new ≡ merged now (record { width = now.width; sums = sums }))
    → Summed old maps left new
file_step old now new maps octets left n given =
    summed_next old maps octets left now new n (given n.own (own_rollup old now maps octets left n))

pub file_err : {Y : Type 0} (Q : Y → Type 0) (old now : Table) (maps : List (FinMap key_cmp Sums)) (octets : List ℕ)
    (left : List Rollup) (n : NextSums old maps octets left now) (first : ℕ) (r : Result Y ReadRefusal)
    (e : ReadRefusal)
    → IsErrAnd r (λ x. x ≡ e)
    → ((sums : FinMap key_cmp Sums) → IsRollup now.width octets (record { width = now.width; sums = sums })
    → IsTotalsRefusal first (AllFit (merged now (record { width = now.width; sums = sums }))) e)
    → IsMade first (AllFit (with_maps maps old)) Q r
file_err Q old now maps octets left n first r e is given =
    made_err Q first (AllFit (merged now (record { width = now.width; sums = n.own }))) (AllFit (with_maps maps old)) r
    e
    (next_fits old maps octets left now n) is (given n.own (own_rollup old now maps octets left n))

-- ---- sealed segments

abbrev pub HasSums : Table → Table → List Accepted → Type 0
HasSums old now messages = now ≡ with_flows (flows_in messages) old

pub more_sums : (old rows : Table) (front own : List Accepted) → rows ≡ with_flows (flows_in front) old
    → with_flows (flows_in own) rows ≡ with_flows (flows_in (front ++ own)) old
more_sums old rows front own was =
    ap (with_flows (flows_in own)) was ∙ flows_both old (flows_in front) (flows_in own)
    ∙ ap (λ (fs : List Flow). with_flows fs old) (sym (flows-append front own))

next_flows_fit : (old rows : Table) (messages front own rest : List Accepted) → messages ≡ (front ++ own) ++ rest
    → rows ≡ with_flows (flows_in front) old → AllFit (with_flows (flows_in messages) old)
    → AllFit (with_flows (flows_in own) rows)
next_flows_fit old rows messages front own rest whole was fit =
    subst AllFit (sym (more_sums old rows front own was))
    (fewer_flows_fit old (flows_in (front ++ own)) (flows_in rest)
    (subst (λ (fs : List Flow). AllFit (with_flows fs old)) (ap flows_in whole ∙ flows-append (front ++ own) rest) fit))

pub sums_step : {F X : Type 0} {files : Ghosts F X} (old rows more : Table) (before templates after : AllTemplates)
    (messages : List Accepted) (left : List (List ℕ)) (part : SealedPart F X files)
    → NextPart (HasSums old rows) before messages left templates part → 0 < part.messages
    → (IsTrue (is_honest part) → (own : List Accepted)
    → ArePartMessages (part_octets part.prefix part.length (files.octets part.reader)) templates part.messages own
    → (after ≡ templates_from templates own) × (more ≡ with_flows (flows_in own) rows))
    → Taken (HasSums old more) before messages left after
sums_step {F} {X} {files} old rows more before templates after messages left part p some given =
    let n = p.next in
    let right = given p.honest n.own (p.are some) in
    taken_next (HasSums old rows) (HasSums old more) before messages (segment_of part).messages left templates after n
    right.0 (right.1 ∙ more_sums old rows n.front n.own n.has)

pub sums_err : {F X Y : Type 0} {files : Ghosts F X} (old rows : Table) (Q : Y → Type 0)
    (before templates : AllTemplates) (messages : List Accepted) (left : List (List ℕ)) (part : SealedPart F X files)
    (first : ℕ) (r : Result Y ReadRefusal) (e : ReadRefusal)
    → NextPart (HasSums old rows) before messages left templates part → 0 < part.messages → IsErrAnd r (λ x. x ≡ e)
    → (IsTrue (is_honest part) → (own : List Accepted)
    → ArePartMessages (part_octets part.prefix part.length (files.octets part.reader)) templates part.messages own
    → IsTotalsRefusal first (AllFit (with_flows (flows_in own) rows)) e)
    → IsMade first (AllFit (with_flows (flows_in messages) old)) Q r
sums_err old rows Q before templates messages left part first r e p some is given =
    let n = p.next in
    made_err Q first (AllFit (with_flows (flows_in n.own) rows))
    (AllFit (with_flows (flows_in messages) old)) r e
    (next_flows_fit old rows messages n.front n.own n.rest n.whole n.has) is (given p.honest n.own (p.are some))

-- ---- messages in memory

abbrev pub adding_holds : Adding Table → List Placed → Adding Table → Type 0
adding_holds start taken now = HasAdded start.rows taken now.rows now.spent

abbrev pub HasAddedFlows : Table → Adding Table → List Accepted → Type 0
HasAddedFlows old sink messages = HasAdded old (records_in messages) sink.rows sink.spent

pub nothing_added : (old : Table) (sink : Adding Table) → sink.rows ≡ old → sink.spent ≡ false → HasAddedFlows old sink []
nothing_added old sink rows spent =
    subst (λ (b : Bool). HasAdded old [] sink.rows b) (sym spent) (rows ∙ sym (with_nothing old), tt)

pub adding_step : (old : Table) (before templates after : AllTemplates) (list : List Accepted) (sink new : Adding Table)
    (here : List ℕ) (left : List (List ℕ)) → AreAcceptedFrom before list
    → Taken (HasAddedFlows old sink) before list (here ∷ left) templates
    → ((a : Accepted) → a.octets ≡ here → IsAccepted here templates a.message a.after
    → (after ≡ a.after) × Took adding_holds a.message.header sink a.message.records new)
    → Taken (HasAddedFlows old new) before list left after
adding_step old before templates after list sink new here left accepted t told =
    by (message_told (HasAddedFlows old sink)
    (λ a. (after ≡ a.after) × Took adding_holds a.message.header sink a.message.records new) before templates list here
    left accepted t told)
  where
    by : (a : Accepted) × (n : Next (HasAddedFlows old sink) before list (here ∷ []) left templates)
        × (n.own ≡ a ∷ []) × ((after ≡ a.after) × Took adding_holds a.message.header sink a.message.records new)
        → Taken (HasAddedFlows old new) before list left after
    by (a, n, own, right) =
        let start : Adding Table = record { rows = old; spent = false } in
        let took = right.1 start (records_in n.front) n.has in
        let records : records_in n.front ++ under a.message.header a.message.records ≡ records_in (n.front ++ n.own) =
        ap (λ (rs : List Placed). records_in n.front ++ rs)
        (sym (append-nil (under a.message.header a.message.records)))
        ∙ ap (λ (ms : List Accepted). records_in n.front ++ records_in ms) (sym own)
        ∙ sym (flat_map-append (λ (x : Accepted). under x.message.header x.message.records) n.front n.own) in
        taken_next (HasAddedFlows old sink) (HasAddedFlows old new) before list (here ∷ []) left templates after n
        (right.0 ∙ ap (templates_from templates) (sym own))
        (subst (λ (rs : List Placed). HasAdded old rs new.rows new.spent) records took)

pub added_all : (old now : Table) (messages : List Accepted) (spent : Bool) → spent ≡ false
    → HasAdded old (records_in messages) now spent → now ≡ with_flows (flows_in messages) old
added_all old now messages false is h = h.0 ∙ ap (λ (fs : List Flow). with_flows fs old) (flows_in_records messages)
added_all old now messages true is h = absurd cc

pub spent_all : (old now : Table) (messages : List Accepted) (spent : Bool) → spent ≡ true
    → HasAdded old (records_in messages) now spent → AllFit (with_flows (flows_in messages) old) → ⊥
spent_all old now messages true is h fit =
    h.0 (subst (λ (fs : List Flow). AllFit (with_flows fs old)) (sym (flows_in_records messages)) fit)
spent_all old now messages false is h fit = absurd cc

-- ---- flows that aren't added

-- they would pass their types, or a read failed, or memory ran out
pub part_spent : (first : ℕ) (before after : AllTemplates) (old rows new : Table) (messages : List Accepted)
    (e : SumRefusal) → old ≡ rows → AreAdded {X = ℕ} before old messages (Err e) after new
    → IsTotalsRefusal first (AllFit (with_flows (flows_in messages) rows)) (told_of_file first e)
part_spent first before after old rows new messages (sum.Damaged file at) is never = absurd never
part_spent first before after old rows new messages sum.SumSpent is spent =
    (refl, refl, subst (λ (t : Table). AllFit (with_flows (flows_in messages) t) → ⊥) is spent.0)
part_spent first before after old rows new messages sum.Fault is given = tt
part_spent first before after old rows new messages sum.OutOfMemory is given = tt
