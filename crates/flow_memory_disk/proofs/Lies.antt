-- The marks of a disk that lies of one file's length.
use Rattle.std.proofs.Common.{◌≡◌, ◌≢◌, ℕ, Bool, true, false, sym, ◌∙◌, ap, subst, refl, OnOk}
use Rattle.std.specs.Prelude.{Option, Some, None, Result, Ok, Err, unwrap_or, max}
use Rattle.flow_disk.specs.Disk.{Marks, Changes, Stays}
use Rattle.flow_disk.specs.Files.{Marked, MarkedByWrite}
use Rattle.flow_memory_disk.specs.declared.lie.Lie.{Lie}
use Rattle.flow_memory_disk.specs.Lying.{told_of, told, resized}

-- A lie changes nothing but a length.
pub same_size : (said : Option ℕ) (marks : Marks) → (resized said marks).size ≡ unwrap_or said marks.size
same_size None marks = refl
same_size (Some count) marks = refl

pub same_settled : (said : Option ℕ) (marks : Marks) → (resized said marks).settled ≡ marks.settled
same_settled None marks = refl
same_settled (Some count) marks = refl

pub same_frozen : (said : Option ℕ) (marks : Marks) → (resized said marks).frozen ≡ marks.frozen
same_frozen None marks = refl
same_frozen (Some count) marks = refl

pub same_listed : (said : Option ℕ) (marks : Marks) → (resized said marks).listed ≡ marks.listed
same_listed None marks = refl
same_listed (Some count) marks = refl

pub elsewhere : (old new : Lie) (was now : ℕ → Marks) (n : ℕ) → told_of new n ≡ told_of old n → now n ≡ was n
    → told new now n ≡ told old was n
elsewhere old new was now n said same = ap (λ (o : Option ℕ). resized o (now n)) said ∙ ap (resized (told_of old n)) same

-- a call on a file without a lie about its length
pub marked_truly : {T E : Type 0} (lie : Lie) (was now : ℕ → Marks) (file : ℕ) (made : Marks) (still : Bool)
    (result : Result T E) → told_of lie file ≡ None → Marked was now file made still result
    → Marked (told lie was) (told lie now) file made still result
marked_truly lie was now file made still (Ok v) none is = record {
  done = ap (λ (o : Option ℕ). resized o (now file)) none ∙ is.done;
  frozen = tt;
  others = λ n differs. elsewhere lie lie was now n refl (is.others n differs);
}
marked_truly lie was now file made still (Err e) none is = record {
  done = tt;
  frozen = same_frozen (told_of lie file) (now file) ∙ is.frozen;
  others = λ n differs. elsewhere lie lie was now n refl (is.others n differs);
}

-- a call after which this length is answered of its file
pub marked_falsely : {T E : Type 0} (old new : Lie) (was now : ℕ → Marks) (file said size real : ℕ)
    (result : Result T E) → OnOk result (told_of new file ≡ Some said) → said ≡ size
    → ((n : ℕ) → n ≢ file → told_of new n ≡ told_of old n) → MarkedByWrite was now file real result
    → MarkedByWrite (told old was) (told new now) file size result
marked_falsely old new was now file said size real (Ok v) here same others is = record {
  done = ap (λ (o : Option ℕ). resized o (now file)) here
      ∙ ap (resized (Some said)) is.done
      ∙ ap (λ (k : ℕ). record { size = k; settled = false; frozen = false; listed = true }) same;
  frozen = tt;
  others = λ n differs. elsewhere old new was now n (others n differs) (is.others n differs);
}
marked_falsely old new was now file said size real (Err e) here same others is = record {
  done = tt;
  frozen = same_frozen (told_of new file) (now file) ∙ is.frozen;
  others = λ n differs. elsewhere old new was now n (others n differs) (is.others n differs);
}

pub larger : (said : Option ℕ) (marks : Marks) (count end : ℕ) → said ≡ Some count
    → max count end ≡ max (resized said marks).size end
larger said marks count end is = sym (ap (λ (o : Option ℕ). max (resized o marks).size end) is)

pub written_truly : {T E : Type 0} (lie : Lie) (was now : ℕ → Marks) (file end : ℕ) (result : Result T E)
    → told_of lie file ≡ None → MarkedByWrite was now file (max (was file).size end) result
    → MarkedByWrite (told lie was) (told lie now) file (max (told lie was file).size end) result
written_truly lie was now file end result none is =
    marked_truly lie was now file
    (record { size = max (told lie was file).size end; settled = false; frozen = false; listed = true })
    false result none
    (subst (λ (o : Option ℕ). MarkedByWrite was now file (max (resized o (was file)).size end) result) (sym none) is)
