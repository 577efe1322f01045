-- Folders, opened one after the other.
use Rattle.std.proofs.Common.{◌≡◌, ◌∙◌, ◌<◌, ◌+◌, ℕ, List, [], ◌∷◌, ◌++◌, length, map, take, drop, get_or}
use Rattle.std.proofs.Common.{length-append, suc, refl, sym, ap, subst, arith, Option}
use Rattle.std.proofs.KnownBytes.{Appends-nil, Keeps-refl}
use Rattle.std.specs.Borrow.{Bor}
use Rattle.std.specs.List.{AllZip}
use Rattle.std.proofs.Math.ListN.{get_or-map}
use Rattle.std.proofs.lemmas.List.{drop_more, length-map, length-take-le, take-append-drop, take_more}
use Rattle.flow_folder.specs.declared.system.FolderError.{FolderError}
use Rattle.flow_several.proofs.OneByOne.{zip_then}
use Rattle.flow_report.specs.declared.format.Format.{Format}
use Rattle.flow_several.specs.declared.refusal.SeveralRefusal.{SeveralRefusal}
use Rattle.flow_several.specs.declared.refusal.SeveralRefusal.TheVariants.{OutOfMemory}
use Rattle.flow_several.specs.declared.asking.Question.{Question}
use Rattle.flow_several.specs.declared.asking.Wanted.{Wanted}
use Rattle.flow_several.specs.declared.asking.Wanted.TheVariants.{Totals, TotalsOfEach, FlowsOfEach}
use Rattle.flow_several.specs.declared.folders_refusal.FoldersRefusal.{FoldersRefusal}
use Rattle.flow_several.specs.declared.folders_refusal.FoldersRefusal.TheVariants.{Folder, Several}
use Rattle.flow_several.specs.Folders.{AreUnopened, IsFirstUnopened, KeepsOrRows, Path}
use Rattle.flow_several.specs.Questions.{AnswersSomeRows, WritesSomeWanted}

abbrev pub no_path : Bor Path
no_path = record { ref_ptr = (0, 0); now = [] }

abbrev pub paths_of : List (Bor Path) → List Path
paths_of words = map (λ word. word.now) words

module _ {D : Type 0} (opens : Path → D → Type 0) (words : List (Bor Path)) where
  -- the folder at a place
  module _ (n : ℕ) (within : n < length words) where
    is_within : n < length (paths_of words)
    is_within = subst (λ (k : ℕ). n < k) (sym (length-map words (λ (w : Bor Path). w.now))) within

    here : (get_or words n no_path).now ≡ get_or (paths_of words) n []
    here = sym (get_or-map (λ (w : Bor Path). w.now) words n no_path)

    pub opened_more : (m : ℕ) (disks : List D) (d : D) → m ≡ n + 1 → AllZip opens (take n (paths_of words)) disks
        → opens (get_or words n no_path).now d → AllZip opens (take m (paths_of words)) (disks ++ d ∷ [])
    opened_more m disks d next each own =
        let longer : take m (paths_of words) ≡ take n (paths_of words) ++ (get_or words n no_path).now ∷ [] =
        ap (λ (k : ℕ). take k (paths_of words)) next ∙ take_more (paths_of words) n [] is_within
        ∙ ap (λ (x : Path). take n (paths_of words) ++ x ∷ []) (sym here) in
        subst (λ (xs : List Path). AllZip opens xs (disks ++ d ∷ [])) (sym longer)
        (zip_then opens (take n (paths_of words)) disks (get_or words n no_path).now d each own)

    pub first_unopened : (refuses : Path → FolderError → Type 0) (disks : List D) (e : FolderError)
        → AllZip opens (take n (paths_of words)) disks → refuses (get_or words n no_path).now e
        → IsFirstUnopened opens refuses (paths_of words) (n + 1) e
    first_unopened refuses disks e each why = record {
      before = take n (paths_of words);
      own = (get_or words n no_path).now;
      after = drop (n + 1) (paths_of words);
      disks = disks;
      all = sym (take-append-drop n (paths_of words))
          ∙ ap (λ (ys : List Path). take n (paths_of words) ++ ys) (drop_more (paths_of words) n [] is_within)
          ∙ ap (λ (x : Path). take n (paths_of words) ++ x ∷ drop (n + 1) (paths_of words)) (sym here);
      place = ap (λ (k : ℕ). k + 1) (sym (length-take-le n (paths_of words) (omega (arith, is_within))));
      opened = each;
      refused = why;
    }

-- memory ran out before any archive was asked
memory_kept : (wanted : Wanted) (format : Format) (from to : ℕ) (known : Option (List ℕ))
    → WritesSomeWanted wanted format from to known known OutOfMemory
memory_kept Totals format from to known = Keeps-refl known
memory_kept TotalsOfEach format from to known = ([], Appends-nil known)
memory_kept FlowsOfEach format from to known = Keeps-refl known

-- nothing is written where not all folders are open
pub unopened_kept : {D : Type 0} (opens : Path → D → Type 0) (refuses : Path → FolderError → Type 0)
    (folders : List Path) (q : Question) (count : ℕ) (known : Option (List ℕ)) → length folders ≡ count
    → (e : FoldersRefusal) → AreUnopened opens refuses folders e → KeepsOrRows q count known known e
unopened_kept opens refuses folders q count known is (Folder number e) first = (
  omega (arith, first.place),
  omega (arith, first.place, ap length first.all, length-append first.before (first.own ∷ first.after), is),
  Keeps-refl known,
)
unopened_kept opens refuses folders q count known is (Several e) memory =
    subst (λ (e : SeveralRefusal). AnswersSomeRows q known known e) (sym memory)
    (memory_kept q.wanted q.format q.from q.to known)

same_length : {A B : Type 0} (P : A → B → Type 0) (xs : List A) (ys : List B) → AllZip P xs ys → length ys ≡ length xs
same_length P [] [] each = refl
same_length P [] (y ∷ ys) each = absurd each
same_length P (x ∷ xs) [] each = absurd each
same_length P (x ∷ xs) (y ∷ ys) each = ap suc (same_length P xs ys each.1)

-- as many disks as folders
pub counted : {D : Type 0} (opens : Path → D → Type 0) (words : List (Bor Path)) (disks : List D)
    → AllZip opens (paths_of words) disks → length disks ≡ length words
counted opens words disks each =
    same_length opens (paths_of words) disks each ∙ length-map words (λ (w : Bor Path). w.now)
