-- What was written, and what was not.
use Rattle.std.proofs.Common.{◌≡◌, ◌≢◌, inl, inr, ℕ, List, ◌++◌, Option, refl, ap, subst}
use Rattle.std.proofs.Common.{take}
use Rattle.std.proofs.Common.{drop, arith}
use Rattle.std.specs.Prelude.{Result, Ok, Err, IfErr, OnErr}
use Rattle.std.specs.Io.KnownBytes.{Appends}
use Rattle.std.proofs.KnownBytes.{Appends-trans}
use Rattle.flow_codec.specs.Message.{joined}
use Rattle.flow_disk.specs.Cause.{HasCause}
use Rattle.flow_model.specs.Shelf.{kept_of, Shelf}
use Rattle.flow_report.specs.Writing.{AppendsFront}
use Rattle.flow_segment.specs.Carry.{prefix_of, Carry, IsCarry}
use Rattle.flow_snapshot.specs.Found.{kept_by_file}
use Rattle.flow_export.specs.declared.refusal.ExportRefusal.{ExportRefusal}
use Rattle.flow_export.specs.declared.refusal.ExportRefusal.TheVariants as refusal
use Rattle.flow_export.specs.Export.{messages_of, AreMessages, IsCarryBefore, IsExport, IsExportOf, Writes, WritesOrNot}
use Rattle.flow_export.specs.Export.{WritesSome, WritesUpTo}
use Rattle.flow_export.proofs.Choosing.{all_kept, prefix_after, prefix_of_more}
use Rattle.flow_export.proofs.WholeMessages.{some_messages}

pub on_err_always : {X E : Type 0} (r : Result X E) (P : Type 0) → P → OnErr r P
on_err_always (Ok x) P holds = tt
on_err_always (Err e) P holds = holds

pub some_of : {X E : Type 0} (r : Result X E) (P : Type 0) (Q : E → Type 0) → (P → (e : E) → Q e) → OnErr r P
    → IfErr r Q
some_of (Ok x) P Q each is = tt
some_of (Err e) P Q each is = each is e

-- a refusal that is no failed read, where none was counted
pub quiet_cause : {X E : Type 0} (fault : E) (old new : ℕ) (r : Result X E) → new ≡ old → IfErr r (λ e. e ≢ fault)
    → HasCause fault old new r
quiet_cause fault old new (Ok x) same quiet =
    record { later = omega (arith, same); done = same; risen = λ is. absurd cc; other = tt }
quiet_cause fault old new (Err e) same quiet = record {
  later = omega (arith, same);
  done = tt;
  risen = λ is. absurd (quiet (let this : e ≡ fault = cc in this));
  other = λ _. same;
}

pub or_weaker : (are also : List ℕ → Type 0) (old new : Option (List ℕ)) → ((text : List ℕ) → are text → also text)
    → (e : ExportRefusal) → WritesOrNot are old new e → WritesOrNot also old new e
or_weaker are also old new also_are (refusal.Query e) kept = kept
or_weaker are also old new also_are (refusal.Write failed) (text, is, some) = (text, also_are text is, some)

-- a prefix of it was written, and then something failed
pub prefix_up_to : (are : List ℕ → Type 0) (old new : Option (List ℕ)) (text : List ℕ) → are text
    → AppendsFront old new text → (e : ExportRefusal) → WritesUpTo are old new e
prefix_up_to are old new text is some (refusal.Query e) = inr (text, is, some)
prefix_up_to are old new text is some (refusal.Write failed) = (text, is, some)

-- ---- the templates, and messages after them

module _ (carry : Carry) (old mid new : Option (List ℕ)) (first : Appends old mid (prefix_of carry)) where
  pub exported : (n : ℕ) → IsCarry carry → Writes (AreMessages n) mid new → Writes (IsExport n) old new
  exported n is (more, are, all) =
      (prefix_of carry ++ more, (carry, more, is, are, refl), Appends-trans old mid new (prefix_of carry) more first all)

  pub exported_part : (n : ℕ) → IsCarry carry → WritesSome (AreMessages n) mid new → (e : ExportRefusal)
      → WritesUpTo (IsExport n) old new e
  exported_part n is (more, are, some) e =
      prefix_up_to (IsExport n) old new (prefix_of carry ++ more) (carry, more, is, are, refl)
      (prefix_after old mid new (prefix_of carry) more first some) e

  -- just those that are asked for
  module _ (s : Shelf) (skip most : ℕ) (before : IsCarryBefore (kept_by_file s) skip carry) where
    abbrev chosen : List ℕ
    chosen = joined (take most (drop skip (messages_of (kept_by_file s))))

    is_export : IsExportOf s skip most (prefix_of carry ++ chosen)
    is_export = (
      carry,
      before,
      ap (λ (ms : List (List ℕ)). prefix_of carry ++ joined (take most (drop skip ms))) (all_kept s),
    )

    pub all_exported : Appends mid new chosen → Writes (IsExportOf s skip most) old new
    all_exported more =
        (prefix_of carry ++ chosen, is_export, Appends-trans old mid new (prefix_of carry) chosen first more)

    pub some_exported : AppendsFront mid new chosen → (e : ExportRefusal) → WritesUpTo (IsExportOf s skip most) old new e
    some_exported more e =
        prefix_up_to (IsExportOf s skip most) old new (prefix_of carry ++ chosen) is_export
        (prefix_after old mid new (prefix_of carry) chosen first more) e

-- the templates alone, or a prefix of them
pub templates_cut : (n : ℕ) (carry : Carry) (old new : Option (List ℕ)) → IsCarry carry → (e : ExportRefusal)
    → WritesOrNot (λ text. text ≡ prefix_of carry) old new e → WritesUpTo (IsExport n) old new e
templates_cut n carry old new is (refusal.Query e) kept = inl kept
templates_cut n carry old new is (refusal.Write failed) (text, same, some) =
    let more = some_messages n in (
      prefix_of carry ++ more.0,
      (carry, more.0, is, more.1, refl),
      prefix_of_more old new (prefix_of carry) more.0 (subst (AppendsFront old new) same some),
    )

pub messages_cut : (carry : Carry) (s : Shelf) (skip most : ℕ) (old new : Option (List ℕ))
    → IsCarryBefore (kept_by_file s) skip carry → (e : ExportRefusal)
    → WritesOrNot (λ text. text ≡ prefix_of carry) old new e → WritesUpTo (IsExportOf s skip most) old new e
messages_cut carry s skip most old new before (refusal.Query e) kept = inl kept
messages_cut carry s skip most old new before (refusal.Write failed) (text, same, some) =
    let later = joined (take most (drop skip (kept_of s))) in (
      prefix_of carry ++ later,
      (carry, before, refl),
      prefix_of_more old new (prefix_of carry) later (subst (AppendsFront old new) same some),
    )
