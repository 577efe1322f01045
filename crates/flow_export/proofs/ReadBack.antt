-- What is exported of the files of a view is read back: the templates in force, and then the messages.
use Rattle.std.proofs.Common.{◌≡◌, ◌∙◌, ◌<◌, ◌≤◌, ◌⊎◌, inl, inr, ℕ, zero, suc, ◌+◌, List, [], ◌∷◌, ◌++◌, Some, length}
use Rattle.std.proofs.Common.{map, take}
use Rattle.std.proofs.Common.{drop, get_or, refl, sym, ap, subst, append-nil, arith}
use Rattle.std.specs.Prelude.{slice_get}
use Rattle.std.proofs.lemmas.List.{drop-map, drop_more, map-append, take-append-drop, take-append-le}
use Rattle.std.proofs.lemmas.List.{take-map}
use Rattle.std.proofs.lemmas.List.Concat.{flat_map-append}
use Rattle.std.proofs.lemmas.Option.{slice_get-get_or}
use Rattle.std.proofs.Math.Seq.{drop-append_seam, take-add}
use Rattle.flow_codec.specs.Message.{joined}
use Rattle.flow_codec.specs.Raw.{under, RawRecord}
use Rattle.flow_measure.specs.declared.flow.Flow.{Flow}
use Rattle.flow_measure.specs.Flows.{flows_of_records}
use Rattle.flow_codec.specs.Templates.{AllTemplates}
use Rattle.flow_measure.specs.History.{flows_in, templates_from, Accepted, AreAcceptedFrom}
use Rattle.flow_measure.specs.View.{View}
use Rattle.flow_measure.proofs.SinkSteps.{flows-in_fields}
use Rattle.flow_measure.proofs.ViewLaws.{flows-append}
use Rattle.flow_segment.specs.Carry.{carry_from, carry_of, no_carry, octets_of, prefix_of, restated, Carry, IsCarry}
use Rattle.flow_segment.specs.Prefix.{HaveNoRecords, IsRestated}
use Rattle.flow_segment.proofs.Batches.{carried_then, templates_carried}
use Rattle.flow_segment.proofs.Carrying.{is_read_back}
use Rattle.flow_model.specs.Shelf.{kept_of, messages_in, Segment, Shelf}
use Rattle.flow_model.specs.Views.{AreRestated, IsViewOf}
use Rattle.flow_model.proofs.Accepting.{accepted_first, accepted_rest, accepted_then, all_cut, carried, read_as}
use Rattle.flow_model.proofs.Accepting.{read_once, restated_behind, templates_then}
use Rattle.flow_snapshot.proofs.ByFile.{files_count}
use Rattle.flow_snapshot.specs.Found.{kept_by_file, kept_file, KeptFile}
use Rattle.flow_export.specs.Export.{messages_of, IsCarryBefore, IsExportOf, IsFileOfMessage, IsReadAs, PassesOn}
use Rattle.flow_export.proofs.Choosing.{all_kept, joined_then, none_at, same_of}

-- ---- the file at a place

pub own_and_more : (files : List KeptFile) (i : ℕ) (own : KeptFile) → i < length files → slice_get files i ≡ Some own
    → drop i files ≡ own ∷ drop (i + 1) files
own_and_more files i own within there =
    drop_more files i none_at within
    ∙ ap (λ (f : KeptFile). f ∷ drop (i + 1) files)
    (same_of (get_or files i none_at) own (sym (slice_get-get_or files i none_at within) ∙ there))

pub own_restated : (t : AllTemplates) (gs : List Segment) (active own : KeptFile) (i : ℕ)
    → slice_get (map kept_file gs ++ active ∷ []) i ≡ Some own → AreRestated t (drop i gs) active.prefix
    → IsRestated own.prefix t
own_restated t [] active own zero there r =
    subst (λ (f : KeptFile). IsRestated f.prefix t) (same_of active own there) r
own_restated t [] active own (suc i) there r = absurd cc
own_restated t (g ∷ gs) active own zero there r =
    subst (λ (f : KeptFile). IsRestated f.prefix t) (same_of (kept_file g) own there) r.0
own_restated t (g ∷ gs) active own (suc i) there r = own_restated t gs active own i there r

pub before_it : (gs : List Segment) (active : KeptFile) (i : ℕ) → i ≤ length gs
    → messages_of (take i (map kept_file gs ++ active ∷ [])) ≡ messages_in (take i gs)
before_it gs active zero most = refl
before_it [] active (suc i) most = absurd (omega (arith, most))
before_it (g ∷ gs) active (suc i) most =
    ap (λ (ms : List (List ℕ)). g.messages ++ ms) (before_it gs active i (omega (arith, most)))

pub files_parted : (files : List KeptFile) (i : ℕ)
    → messages_of files ≡ messages_of (take i files) ++ messages_of (drop i files)
files_parted files i =
    ap messages_of (sym (take-append-drop i files))
    ∙ flat_map-append (λ (f : KeptFile). f.messages) (take i files) (drop i files)

none_after : (files : List KeptFile) (i : ℕ) → i ≡ length files → drop i files ≡ []
none_after [] zero is = refl
none_after [] (suc i) is = absurd (omega (arith, is))
none_after (f ∷ files) zero is = absurd (omega (arith, is))
none_after (f ∷ files) (suc i) is = none_after files i (omega (arith, is))

-- the first messages of a file, also where more come after it
first_own : (own rest : List (List ℕ)) (first : ℕ) → (first < length own) ⊎ (rest ≡ [])
    → take first (own ++ rest) ≡ take first own
first_own own rest first (inl few) = take-append-le first own rest (omega (arith, few))
first_own own rest first (inr none) =
    ap (λ (ms : List (List ℕ)). take first (own ++ ms)) none ∙ ap (take first) (append-nil own)

few_or_last : (files : List KeptFile) (own : KeptFile) (first i skip : ℕ) → IsFileOfMessage files skip i first
    → slice_get files i ≡ Some own
    → (first < length own.messages) ⊎ (messages_of (drop (i + 1) files) ≡ [])
few_or_last files own first i skip place there = by place.has
  where
    by : ((f : KeptFile) → slice_get files i ≡ Some f → first < length f.messages) ⊎ (i + 1 ≡ length files)
        → (first < length own.messages) ⊎ (messages_of (drop (i + 1) files) ≡ [])
    by (inl few) = inl (few own there)
    by (inr last) = inr (ap messages_of (none_after files (i + 1) last))

-- ---- what is passed on

none_carried : IsCarry (no_carry 0)
none_carried = record {
  templates = record { once = tt; domains = tt; count = omega arith };
  domains = tt;
  due = refl;
  numbers = tt;
  time = omega arith;
}

-- under the templates that its prefix restates, a file passes on those after its first messages
passed_templates : (own : KeptFile) (first : ℕ) (carry : Carry) (t : AllTemplates) (list : List Accepted)
    → PassesOn own first carry → IsRestated own.prefix t → AreAcceptedFrom t list
    → octets_of list ≡ take first own.messages → (carry.templates ≡ templates_from t list) × IsCarry carry
passed_templates own first carry t list (begun, (ms, read, is), (taken, octets, accepted, then)) (xs, also, none, t_is)
    all same =
    let one : ms ≡ xs = read_once own.prefix ms xs read also in
    let start : begun.templates ≡ t =
    ap (λ (c : Carry). c.templates) is ∙ templates_carried (no_carry 0) ms ∙ ap (templates_from []) one ∙ sym t_is in
    let under : AreAcceptedFrom t taken = subst (λ (s : AllTemplates). AreAcceptedFrom s taken) start accepted in
    let lists : taken ≡ list =
    sym (read_as t taken (take first own.messages) under octets)
    ∙ read_as t list (take first own.messages) all same in
    let moved : carry.templates ≡ templates_from t list =
    ap (λ (c : Carry). c.templates) then ∙ templates_carried begun taken
    ∙ ap (λ (s : AllTemplates). templates_from s taken) start ∙ ap (templates_from t) lists in
    let whole : carry ≡ carry_of (ms ++ taken) =
    then ∙ ap (λ (c : Carry). carry_from c taken) is ∙ sym (carried_then (no_carry 0) ms taken) in
    let from_nothing : AreAcceptedFrom (templates_from [] ms) taken =
    subst (λ (s : AllTemplates). AreAcceptedFrom s taken)
    (ap (λ (c : Carry). c.templates) is ∙ templates_carried (no_carry 0) ms) accepted in
    let good = carried (no_carry 0) (ms ++ taken) none_carried (accepted_then [] ms taken read.accepted from_nothing) in
    (moved, subst IsCarry (sym whole) good.0)

module _ (s : Shelf) (v : View) (view : IsViewOf s v) where
  pub all_octets : octets_of v.kept ≡ messages_of (kept_by_file s)
  all_octets = view.kept ∙ sym (all_kept s)

  in_force : (skip : ℕ) (carry : Carry) → IsCarryBefore (kept_by_file s) skip carry
      → (carry.templates ≡ templates_from v.templates (take skip v.kept)) × IsCarry carry
  in_force skip carry (at, first, own, place, there, passes) =
      let files = kept_by_file s in
      let active : KeptFile = record { prefix = s.prefix; messages = s.active } in
      let count = files_count s in
      let inside = place.within in
      let n = length (messages_of (take at files)) in
      let within : at ≤ length s.sealed = omega (arith, count, inside) in
      let t = templates_from v.templates (take n v.kept) in
      let before : messages_of (take at files) ≡ messages_in (take at s.sealed) = before_it s.sealed active at within in
      let chain = restated_behind at v.templates s.sealed s.prefix s.active v.kept view.accepted view.kept view.prefixes in
      let restates : AreRestated t (drop at s.sealed) s.prefix =
      subst (λ (k : ℕ). AreRestated (templates_from v.templates (take k v.kept)) (drop at s.sealed) s.prefix)
      (sym (ap length before)) chain in
      let prefix : IsRestated own.prefix t = own_restated t s.sealed active own at there restates in
      let rest = messages_of (drop (at + 1) files) in
      let tail : octets_of (drop n v.kept) ≡ own.messages ++ rest =
      sym (drop-map (λ (a : Accepted). a.octets) n v.kept) ∙ ap (drop n) (all_octets ∙ files_parted files at)
      ∙ drop-append_seam (messages_of (take at files)) (messages_of (drop at files))
      ∙ ap messages_of (own_and_more files at own place.within there) in
      let few = few_or_last files own first at skip place there in
      let list = take first (drop n v.kept) in
      let octets : octets_of list ≡ take first own.messages =
      sym (take-map (λ (a : Accepted). a.octets) first (drop n v.kept)) ∙ ap (take first) tail
      ∙ first_own own.messages rest first few in
      let accepted = accepted_first t first (drop n v.kept) (accepted_rest v.templates n v.kept view.accepted) in
      let passed = passed_templates own first carry t list passes prefix accepted octets in
      let same : take skip v.kept ≡ take n v.kept ++ list =
      ap (λ (k : ℕ). take k v.kept) place.place ∙ take-add n first v.kept in (
        passed.0 ∙ sym (templates_then v.templates (take n v.kept) list)
            ∙ ap (templates_from v.templates) (sym same),
        passed.1,
      )

  no_flows_of : (front : List Accepted) → HaveNoRecords front → flows_in front ≡ []
  no_flows_of [] none = refl
  no_flows_of (a ∷ front) none =
      ap (λ (fs : List Flow). fs ++ flows_in front)
      (flows-in_fields a.message ∙ ap (λ (rs : List RawRecord). flows_of_records (under a.message.header rs)) none.0)
      ∙ no_flows_of front none.1

  -- messages that are accepted after those before a place, after what restates the templates there
  pub read_with : (skip : ℕ) (messages : List Accepted) (carry : Carry) (text : List ℕ)
      → IsCarryBefore (kept_by_file s) skip carry
      → AreAcceptedFrom (templates_from v.templates (take skip v.kept)) messages
      → text ≡ prefix_of carry ++ joined (octets_of messages)
      → IsReadAs text (templates_from v.templates (take skip v.kept)) messages
  read_with skip messages carry text before later is =
      let known = in_force skip carry before in
      let back = is_read_back carry known.1 in
      let front = restated carry in
      let t = templates_from v.templates (take skip v.kept) in
      let led : templates_from [] front ≡ t = back.templates ∙ known.0 in
      let all : AreAcceptedFrom [] (front ++ messages) =
      accepted_then [] front messages back.accepted
      (subst (λ (x : AllTemplates). AreAcceptedFrom x messages) (sym led) later) in
      let whole : text ≡ joined (octets_of (front ++ messages)) =
      is ∙ ap (λ (ms : List (List ℕ)). joined ms ++ joined (octets_of messages)) (sym back.octets)
      ∙ sym (joined_then (octets_of front) (octets_of messages))
      ∙ ap joined (sym (map-append (λ (a : Accepted). a.octets) front messages)) in
      record {
        prefix = front;
        read = record {
          divided = record {
            whole = whole ∙ sym (append-nil (joined (octets_of (front ++ messages))));
            each = all_cut [] (front ++ messages) all;
          };
          accepted = all;
        };
        none = back.none;
        in_force = led;
        flows = flows-append front messages
            ∙ ap (λ (fs : List Flow). fs ++ flows_in messages) (no_flows_of front back.none);
      }

  -- an export of the files of a view
  pub read_back : (skip most : ℕ) (text : List ℕ) → IsExportOf s skip most text
      → IsReadAs text (templates_from v.templates (take skip v.kept)) (take most (drop skip v.kept))
  read_back skip most text (carry, before, is) =
      let messages = take most (drop skip v.kept) in
      let t = templates_from v.templates (take skip v.kept) in
      let later : AreAcceptedFrom t messages =
      accepted_first t most (drop skip v.kept) (accepted_rest v.templates skip v.kept view.accepted) in
      let own : octets_of messages ≡ take most (drop skip (kept_of s)) =
      sym (take-map (λ (a : Accepted). a.octets) most (drop skip v.kept))
      ∙ ap (take most) (sym (drop-map (λ (a : Accepted). a.octets) skip v.kept) ∙ ap (drop skip) view.kept) in
      read_with skip messages carry text before later
      (is ∙ ap (λ (ms : List (List ℕ)). prefix_of carry ++ joined ms) (sym own))
