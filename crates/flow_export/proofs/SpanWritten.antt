-- The File of a span: the templates, and the messages after them.
use Rattle.std.proofs.Common.{◌≡◌, ◌∙◌, ℕ, suc, ◌+◌, List, [], ◌∷◌, ◌++◌, length, take, drop, refl, sym, ap, subst}
use Rattle.std.proofs.Common.{Option, Some, append-nil, arith, inl, inr, length-append, false, Bool, true, ◌⊎◌}
use Rattle.std.specs.Prelude.{◌&&◌, ◌||◌, filter, if◌then◌else◌, Err, Ok, OnErr, OnOk, Result}
use Rattle.std.specs.Io.KnownBytes.{Appends, Keeps}
use Rattle.std.specs.List.{list_any}
use Rattle.std.proofs.KnownBytes.{Appends-nil, Appends-trans}
use Rattle.std.proofs.lemmas.List.{length-map, take_all}
use Rattle.flow_codec.specs.Cutting.{IsCutOff}
use Rattle.flow_codec.specs.Message.{in_fields, joined, IsAccepted}
use Rattle.flow_codec.specs.Raw.{RawMessage}
use Rattle.flow_codec.specs.Templates.{AllTemplates}
use Rattle.flow_measure.specs.Flows.{flows_of}
use Rattle.flow_measure.specs.History.{Accepted}
use Rattle.flow_measure.specs.View.{View}
use Rattle.flow_model.specs.Shelf.{messages_in, Shelf}
use Rattle.flow_model.specs.Views.{IsViewOf}
use Rattle.flow_report.specs.Writing.{AppendsFront}
use Rattle.flow_segment.specs.Carry.{octets_of, prefix_of, Carry, IsCarry}
use Rattle.flow_snapshot.proofs.ByFile.{active_file, active_there}
use Rattle.flow_snapshot.specs.Found.{kept_by_file}
use Rattle.flow_export.specs.declared.finding.Found.{Found}
use Rattle.flow_export.specs.declared.refusal.ExportRefusal.{ExportRefusal}
use Rattle.flow_export.specs.declared.refusal.ExportRefusal.TheVariants as refusal
use Rattle.flow_export.specs.Export.{AreTemplates, AreTemplatesAfter, IsCarryBefore, Writes}
use Rattle.flow_export.specs.Export.{messages_of, WritesOrNot, WritesSome, WritesUpTo}
use Rattle.flow_export.specs.Span.{before_first, has_flow, holds_templates, is_of_span, span_messages, starts_within}
use Rattle.flow_export.specs.Span.{text_between, up_to_last, AreSpanMessages, IsFound, IsMessageOfSpan, IsSomeSpanExport}
use Rattle.flow_export.specs.Span.{IsSpanExportOf, IsWholeOfSpan}
use Rattle.flow_export.proofs.Between.{span_is}
use Rattle.flow_export.proofs.Choosing.{kept_is_prefix, none_is_prefix, prefix_after, prefix_of_more}
use Rattle.flow_export.proofs.ReadBack.{before_it}
use Rattle.flow_export.proofs.Viewed.{last_file}
use Rattle.flow_export.proofs.WholeMessages.{all_then, joined_both}
use Rattle.flow_export.proofs.Written.{prefix_up_to}

or_up_to : (are also : List ℕ → Type 0) (old new : Option (List ℕ)) → ((text : List ℕ) → are text → also text)
    → (e : ExportRefusal) → WritesOrNot are old new e → WritesUpTo also old new e
or_up_to are also old new also_are (refusal.Query e) kept = inl kept
or_up_to are also old new also_are (refusal.Write failed) (text, is, some) = (text, also_are text is, some)

-- ---- whole messages of a span, however many

module _ (from to : ℕ) where
  none_of_span : AreSpanMessages from to []
  none_of_span = ([], tt, refl)

  both : (x y : List ℕ) → AreSpanMessages from to x → AreSpanMessages from to y → AreSpanMessages from to (x ++ y)
  both x y (ms, are, text) (ns, also, other) =
      (ms ++ ns, all_then (IsWholeOfSpan from to) ms ns are also, joined_both ms ns x y text other)

  pub some_then : (old mid new : Option (List ℕ)) → Writes (AreSpanMessages from to) old mid
      → Writes (AreSpanMessages from to) mid new → Writes (AreSpanMessages from to) old new
  some_then old mid new (x, are, one) (y, also, two) =
      (x ++ y, both x y are also, Appends-trans old mid new x y one two)

  pub part_then : (old mid new : Option (List ℕ)) → Writes (AreSpanMessages from to) old mid
      → WritesSome (AreSpanMessages from to) mid new → WritesSome (AreSpanMessages from to) old new
  part_then old mid new (x, are, one) (y, also, two) =
      (x ++ y, both x y are also, prefix_after old mid new x y one two)

  pub none_of_some : (output : Option (List ℕ)) → Writes (AreSpanMessages from to) output output
  none_of_some output = ([], none_of_span, Appends-nil output)

  pub no_part : (output : Option (List ℕ)) → WritesSome (AreSpanMessages from to) output output
  no_part output = ([], none_of_span, none_is_prefix output [])

  -- all that was written so far is a prefix too
  pub part_so_far : (old new : Option (List ℕ)) → Writes (AreSpanMessages from to) old new
      → WritesSome (AreSpanMessages from to) old new
  part_so_far old new so_far = part_then old new new so_far (no_part new)

  -- ---- one of them

  one_of_span : (octets : List ℕ) → IsCutOff octets → IsMessageOfSpan from to octets → AreSpanMessages from to octets
  one_of_span octets whole is = (octets ∷ [], ((whole, is), tt), sym (append-nil octets))

  pub one_whole : {X E : Type 0} (r : Result X E) (octets : List ℕ) (old new : Option (List ℕ))
      → IsMessageOfSpan from to octets → OnOk r (IsCutOff octets) → OnOk r (Appends old new octets)
      → OnOk r (Writes (AreSpanMessages from to) old new)
  one_whole (Ok x) octets old new is whole all = (octets, one_of_span octets whole is, all)
  one_whole (Err e) octets old new is whole all = tt

  pub one_part : {X E : Type 0} (r : Result X E) (octets : List ℕ) (old new : Option (List ℕ))
      → IsMessageOfSpan from to octets → OnErr r (Keeps old new ⊎ IsCutOff octets)
      → OnErr r (AppendsFront old new octets) → OnErr r (WritesSome (AreSpanMessages from to) old new)
  one_part (Ok x) octets old new is part some = tt
  one_part (Err e) octets old new is (inl kept) some = ([], none_of_span, kept_is_prefix old new [] kept)
  one_part (Err e) octets old new is (inr whole) some = (octets, one_of_span octets whole is, some)

  -- one that is chosen, where it is known whether it has a flow of the span
  pub chosen_of_span : (octets : List ℕ) (before after : AllTemplates) (m : RawMessage) → IsAccepted octets before m after
      → (late has chosen : Bool) → has ≡ list_any (starts_within from to) (flows_of (in_fields m))
      → chosen ≡ (late && (has || holds_templates octets)) → chosen ≡ true → IsMessageOfSpan from to octets
  chosen_of_span octets before after m accepted late true chosen found writes is =
      inr (before, record { octets = octets; message = m; after = after }, refl, accepted, sym found)
  chosen_of_span octets before after m accepted true false chosen found writes is = inl (sym writes ∙ is)
  chosen_of_span octets before after m accepted false false chosen found writes is =
      absurd cc

  -- ---- after the templates

  templates_alone : (text : List ℕ) → AreTemplates text → IsSomeSpanExport from to text
  templates_alone text (carry, is, same) = (carry, [], is, none_of_span, same ∙ sym (append-nil (prefix_of carry)))

  pub templates_exported : (old new : Option (List ℕ)) → Writes AreTemplates old new
      → Writes (IsSomeSpanExport from to) old new
  templates_exported old new (text, are, all) = (text, templates_alone text are, all)

  pub templates_part : (old new : Option (List ℕ)) (e : ExportRefusal) → WritesOrNot AreTemplates old new e
      → WritesUpTo (IsSomeSpanExport from to) old new e
  templates_part old new e part = or_up_to AreTemplates (IsSomeSpanExport from to) old new templates_alone e part

  pub restated_part : (carry : Carry) (old new : Option (List ℕ)) → IsCarry carry → (e : ExportRefusal)
      → WritesOrNot (λ text. text ≡ prefix_of carry) old new e → WritesUpTo (IsSomeSpanExport from to) old new e
  restated_part carry old new is e part =
      or_up_to (λ text. text ≡ prefix_of carry) (IsSomeSpanExport from to) old new
      (λ text same. templates_alone text (carry, is, same)) e part

  module _ (carry : Carry) (old mid new : Option (List ℕ)) (first : Appends old mid (prefix_of carry)) where
    pub some_exported : IsCarry carry → Writes (AreSpanMessages from to) mid new
        → Writes (IsSomeSpanExport from to) old new
    some_exported is (more, are, all) = (
      prefix_of carry ++ more,
      (carry, more, is, are, refl),
      Appends-trans old mid new (prefix_of carry) more first all,
    )

    pub part_exported : IsCarry carry → WritesSome (AreSpanMessages from to) mid new → (e : ExportRefusal)
        → WritesUpTo (IsSomeSpanExport from to) old new e
    part_exported is (more, are, some) e =
        prefix_up_to (IsSomeSpanExport from to) old new (prefix_of carry ++ more) (carry, more, is, are, refl)
        (prefix_after old mid new (prefix_of carry) more first some) e

-- ---- the messages of a span

module _ (s : Shelf) (v : View) (from to : ℕ) (found : Found) (is : IsFound from to v.kept (Some found)) where
  abbrev text : List ℕ
  text = text_between from to found.before found.upto v.kept

  text_is : text ≡ joined (octets_of (span_messages from to v.kept))
  text_is =
      ap (λ (n : ℕ). text_between from to n found.upto v.kept) is.1
      ∙ ap (λ (n : ℕ). text_between from to (before_first from to v.kept) n v.kept) is.2
      ∙ ap (λ (l : List Accepted). joined (octets_of l)) (sym (span_is from to v.kept))

  module _ (carry : Carry) (before : IsCarryBefore (kept_by_file s) found.before carry) where
    own_text : IsSpanExportOf s v from to (prefix_of carry ++ text)
    own_text = (
      carry,
      subst (λ (n : ℕ). IsCarryBefore (kept_by_file s) n carry) is.1 before,
      ap (λ (t : List ℕ). prefix_of carry ++ t) text_is,
    )

    pub span_cut : (old new : Option (List ℕ)) (e : ExportRefusal)
        → WritesOrNot (λ text. text ≡ prefix_of carry) old new e → WritesUpTo (IsSpanExportOf s v from to) old new e
    span_cut old new (refusal.Query e) kept = inl kept
    span_cut old new (refusal.Write failed) (t, same, some) = (
      prefix_of carry ++ text,
      own_text,
      prefix_of_more old new (prefix_of carry) text (subst (AppendsFront old new) same some),
    )

    module _ (old mid new : Option (List ℕ)) (first : Appends old mid (prefix_of carry)) where
      pub span_written : Appends mid new (text_between from to found.before found.upto v.kept)
          → Writes (IsSpanExportOf s v from to) old new
      span_written more =
          (prefix_of carry ++ text, own_text, Appends-trans old mid new (prefix_of carry) text first more)

      pub span_part : AppendsFront mid new (text_between from to found.before found.upto v.kept) → (e : ExportRefusal)
          → WritesUpTo (IsSpanExportOf s v from to) old new e
      span_part more e =
          prefix_up_to (IsSpanExportOf s v from to) old new (prefix_of carry ++ text) own_text
          (prefix_after old mid new (prefix_of carry) text first more) e

-- ---- no message has a flow of the span

module _ (s : Shelf) (v : View) (view : IsViewOf s v) (from to : ℕ)
    (none : list_any (has_flow from to) v.kept ≡ false) where
  none_first : (xs : List Accepted) → list_any (has_flow from to) xs ≡ false → before_first from to xs ≡ length xs
  none_first [] is = refl
  none_first (x ∷ xs) is = by (has_flow from to x) is (none_first xs)
    where
      by : (b : Bool) → (b || list_any (has_flow from to) xs) ≡ false
          → (list_any (has_flow from to) xs ≡ false → before_first from to xs ≡ length xs)
          → (if b then 0 else suc (before_first from to xs)) ≡ suc (length xs)
      by true is others = absurd cc
      by false is others = ap suc (others is)

  all_dropped : (xs : List Accepted) → drop (length xs) xs ≡ []
  all_dropped [] = refl
  all_dropped (x ∷ xs) = all_dropped xs

  no_messages : span_messages from to v.kept ≡ []
  no_messages =
      ap (λ (n : ℕ). filter (is_of_span from to) (up_to_last from to (drop n v.kept))) (none_first v.kept none)
      ∙ ap (λ (l : List Accepted). filter (is_of_span from to) (up_to_last from to l)) (all_dropped v.kept)

  after_all : (text : List ℕ) → AreTemplatesAfter s text → IsSpanExportOf s v from to text
  after_all text (carry, passes, same) =
      let last = length s.sealed in
      let active = active_file s.prefix s.active in
      let sealed : messages_of (take last (kept_by_file s)) ≡ messages_in s.sealed =
      before_it s.sealed active last (omega arith)
      ∙ ap messages_in (take_all last s.sealed (omega arith)) in
      let place : before_first from to v.kept
      ≡ length (messages_of (take last (kept_by_file s))) + length s.active =
      none_first v.kept none ∙ sym (length-map v.kept (λ (a : Accepted). a.octets)) ∙ ap length view.kept
      ∙ length-append (messages_in s.sealed) s.active
      ∙ ap (λ (ms : List (List ℕ)). length ms + length s.active) (sym sealed) in (
        carry,
        (
          last,
          length s.active,
          active,
          last_file s (before_first from to v.kept) (length s.active) last refl place,
          active_there s.sealed active last (omega arith) (omega arith),
          passes,
        ),
        same ∙ sym (append-nil (prefix_of carry))
            ∙ ap (λ (l : List Accepted). prefix_of carry ++ joined (octets_of l)) (sym no_messages),
      )

  pub none_exported : (old new : Option (List ℕ)) → Writes (AreTemplatesAfter s) old new
      → Writes (IsSpanExportOf s v from to) old new
  none_exported old new (text, are, all) = (text, after_all text are, all)

  pub none_cut : (old new : Option (List ℕ)) (e : ExportRefusal) → WritesOrNot (AreTemplatesAfter s) old new e
      → WritesUpTo (IsSpanExportOf s v from to) old new e
  none_cut old new e part = or_up_to (AreTemplatesAfter s) (IsSpanExportOf s v from to) old new after_all e part

-- ---- one message

pub text_if : (chosen : Bool) (octets : List ℕ) → chosen ≡ true → octets ≡ (if chosen then octets else [])
text_if chosen octets is = sym (ap (λ (b : Bool). if b then octets else []) is)

pub no_text : (chosen : Bool) (octets : List ℕ) → chosen ≡ false → [] ≡ (if chosen then octets else [])
no_text chosen octets is = sym (ap (λ (b : Bool). if b then octets else []) is)
