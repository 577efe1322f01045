-- The files of a view, each by itself.
use Rattle.std.proofs.Common.{◌≡◌, ◌<◌, ◌≤◌, ℕ, ◌+◌, ◌-◌, List, [], length, take, drop, Some, sym, ap, subst, ◌∙◌}
use Rattle.std.proofs.Common.{arith, inl, inr}
use Rattle.std.specs.Prelude.{slice_get, IfOk, Result, Ok, Err}
use Rattle.std.specs.List.{AllByRecursion}
use Rattle.std.proofs.lemmas.List.{length-append}
use Rattle.flow_codec.specs.Cutting.{IsCutOff}
use Rattle.flow_codec.specs.Templates.{AllTemplates}
use Rattle.flow_measure.specs.History.{Accepted, AreAcceptedFrom}
use Rattle.flow_measure.specs.Query.{flows_in_view}
use Rattle.flow_measure.specs.View.{View}
use Rattle.flow_segment.specs.Carry.{octets_of, Carry}
use Rattle.flow_segment.specs.Prefix.{IsRestated}
use Rattle.flow_model.specs.Shelf.{Shelf}
use Rattle.flow_model.specs.Views.{IsViewOf}
use Rattle.flow_model.proofs.Accepting.{all_cut}
use Rattle.flow_snapshot.specs.Found.{kept_by_file, KeptFile}
use Rattle.flow_snapshot.proofs.ByFile.{active_file, active_there, files_count, flows_at, view_flows}
use Rattle.flow_export.specs.Export.{asked_count, messages_of, IsCarryBefore, IsFileOfMessage, PassesOn}
use Rattle.flow_export.proofs.Choosing.{file_more, found_there, none_after, same_of}

-- its messages are accepted after the templates that its own prefix restates
pub record IsOwnFile (file : KeptFile) : Type 0 where
  pub before : AllTemplates
  pub messages : List Accepted
  pub restated : IsRestated file.prefix before
  pub accepted : AreAcceptedFrom before messages
  pub octets : octets_of messages ≡ file.messages

pub own_file : (s : Shelf) (v : View) (i : ℕ) (file : KeptFile) → IsViewOf s v
    → slice_get (kept_by_file s) i ≡ Some file → IsOwnFile file
own_file s v i file is there =
    let own = flows_at 0 0 (kept_by_file s) (flows_in_view 0 0 v) i file (view_flows 0 0 s v is) there in
    let has = own.1 in record {
      before = has.0;
      messages = has.1;
      restated = has.2;
      accepted = has.3;
      octets = has.4;
    }

pub own_cut_off : (file : KeptFile) → IsOwnFile file → AllByRecursion IsCutOff file.messages
own_cut_off file own = subst (AllByRecursion IsCutOff) own.octets (all_cut own.before own.messages own.accepted)

-- ---- the file that has a message

pub passed_file : (files : List KeptFile) (skip left count i : ℕ) (file : KeptFile) → i < length files
    → slice_get files i ≡ Some file → count ≡ length file.messages → count ≤ left
    → skip ≡ length (messages_of (take i files)) + left
    → skip ≡ length (messages_of (take (i + 1) files)) + (left - count)
passed_file files skip left count i file within there is least place =
    let more = ap length (file_more files i file within there)
    ∙ length-append (messages_of (take i files)) file.messages in
    omega (arith, is, least, place, more)

pub file_there : (s : Shelf) (skip left count i : ℕ) (file : KeptFile) → i < length s.sealed
    → slice_get (kept_by_file s) i ≡ Some file → count ≡ length file.messages → left < count
    → skip ≡ length (messages_of (take i (kept_by_file s))) + left
    → IsFileOfMessage (kept_by_file s) skip i left
file_there s skip left count i file within there is few place =
    let all = files_count s in
    let long : left < length file.messages = omega (arith, is, few) in record {
      within = omega (arith, within, all);
      place = place;
      has = inl (λ own found. subst (λ (f : KeptFile). left < length f.messages)
          (same_of file own (sym there ∙ found)) long);
    }

pub last_file : (s : Shelf) (skip left i : ℕ) → i ≡ length s.sealed
    → skip ≡ length (messages_of (take i (kept_by_file s))) + left → IsFileOfMessage (kept_by_file s) skip i left
last_file s skip left i is place =
    let all = files_count s in record {
      within = omega (arith, is, all);
      place = place;
      has = inr (omega (arith, is, all));
    }

-- ---- the active segment

pub last_is : (s : Shelf) (last : ℕ) (file : KeptFile) → last ≡ length s.sealed
    → slice_get (kept_by_file s) last ≡ Some file → file ≡ active_file s.prefix s.active
last_is s last file is there =
    let active = active_file s.prefix s.active in
    found_there (kept_by_file s) last active file there
    (active_there s.sealed active last (omega (arith, is)) (omega (arith, is)))

pub last_passes : (s : Shelf) (last count : ℕ) (one two : KeptFile) (carry : Carry) → last ≡ length s.sealed
    → slice_get (kept_by_file s) last ≡ Some one → slice_get (kept_by_file s) last ≡ Some two
    → count ≡ length one.messages → PassesOn two count carry
    → PassesOn (record { prefix = s.prefix; messages = s.active }) (length s.active) carry
last_passes s last count one two carry is there again many passes =
    subst (λ (f : KeptFile). PassesOn f (length s.active) carry) (last_is s last two is again)
    (subst (λ (n : ℕ). PassesOn two n carry)
    (many ∙ ap (λ (f : KeptFile). length f.messages) (last_is s last one is there)) passes)

-- ---- a file that has none of the messages that are asked for

pub no_more : (s : Shelf) (i : ℕ) (one file : KeptFile) (most skip count : ℕ) → slice_get (kept_by_file s) i ≡ Some one
    → slice_get (kept_by_file s) i ≡ Some file → count ≡ length one.messages → count ≤ skip
    → take most (drop skip file.messages) ≡ []
no_more s i one file most skip count is there many few =
    let same = ap (λ (f : KeptFile). length f.messages) (found_there (kept_by_file s) i file one is there) in
    none_after most skip file.messages (omega (arith, same, many, few))

pub none_asked_for : (s : Shelf) (i : ℕ) (one file : KeptFile) (most skip count : ℕ)
    → slice_get (kept_by_file s) i ≡ Some one → slice_get (kept_by_file s) i ≡ Some file → count ≡ length one.messages
    → count ≤ skip → asked_count skip most (length file.messages) ≡ 0
none_asked_for s i one file most skip count is there many few =
    let same = ap (λ (f : KeptFile). length f.messages) (found_there (kept_by_file s) i file one is there) in
    omega (arith, same, many, few)

pub carry_found : {E : Type 0} (files : List KeptFile) (skip at first : ℕ) (file : KeptFile) (r : Result Carry E)
    → IsFileOfMessage files skip at first → slice_get files at ≡ Some file → IfOk r (PassesOn file first)
    → IfOk r (IsCarryBefore files skip)
carry_found files skip at first file (Ok carry) is there passes = (at, first, file, is, there, passes)
carry_found files skip at first file (Err e) is there passes = tt
