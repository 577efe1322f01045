-- A call that is made on its stored file and recorded.
use Rattle.std.proofs.Common.{◌≡◌, ◌≢◌, ⊎_elim, ℕ, Bool, true, List, [], ◌∷◌, ◌++◌, length, arith, get_or, set, refl}
use Rattle.std.proofs.Common.{sym, ◌∙◌, ap, eq-eqb, if◌then◌else◌, ◌==◌}
use Rattle.std.proofs.lemmas.List.{length-set, get_or-set_same, get_or-set_other}
use Rattle.std.proofs.lemmas.Bool.{cases_eq, ne_eqb}
use Rattle.flow_disk.specs.Disk.{Held, Marks, changed, settled_at}
use Rattle.flow_disk.proofs.Images.{changed_here, changed_there}
use Rattle.flow_memory_disk.specs.declared.stored.StoredFile.{StoredFile}
use Rattle.flow_memory_disk.specs.Calls.{Call, made, after, file_of_call, replayed, marks_made, told, frozen_in}
use Rattle.flow_memory_disk.specs.Stored.{looked, held_in, first_in, marks_in, room_in, unwritten, IsPlace}
use Rattle.flow_memory_disk.specs.Stored.{IsNamedAfter}
use Rattle.flow_memory_disk.proofs.Named.{named_set, fits_set}
use Rattle.flow_memory_disk.specs.declared.record.Record.{Record}
use Rattle.flow_memory_disk.specs.Record.{calls_of}
use Rattle.flow_memory_disk.specs.Memory.{story_in}
use Rattle.flow_memory_disk.proofs.Looked.{looked_place, looked_set, looked_kept, number_there}
use Rattle.flow_memory_disk.proofs.Stories.{same_story}

pub replayed_push : (n : ℕ) (h : Held) (calls : List Call) (call : Call)
    → replayed n h (calls ++ call ∷ []) ≡ after n (replayed n h calls) call
replayed_push n h [] call = refl
replayed_push n h (first ∷ calls) call = replayed_push n (after n h first) calls call

pub after_here : (n : ℕ) (h : Held) (call : Call) → n ≡ file_of_call call → after n h call ≡ made h call
after_here n h call is = ap (λ (b : Bool). if b then made h call else h) (eq-eqb n (file_of_call call) is)

pub after_there : (n : ℕ) (h : Held) (call : Call) → n ≢ file_of_call call → after n h call ≡ h
after_there n h call differs = ap (λ (b : Bool). if b then made h call else h) (ne_eqb n (file_of_call call) differs)

-- what the stored files hold is what the record makes of them
abbrev pub Replays : List StoredFile → List Call → Type 0
Replays files calls = (n : ℕ)
    → looked held_in (settled_at []) files n ≡ replayed n (settled_at (looked first_in [] files n)) calls

-- `to` is what this call made of the file `was` at a place
pub record IsMadeBy (files : List StoredFile) (i : ℕ) (was to : StoredFile) (call : Call) : Type 0 where
  pub place : IsPlace files (file_of_call call) i
  pub stood : was ≡ get_or files i was
  pub number : to.number ≡ was.number
  pub held : held_in to ≡ made (held_in was) call
  pub first : first_in to ≡ first_in was
  pub room : room_in to ≡ room_in was
  pub marks : marks_in to ≡ marks_made (marks_in was) call

module _ (files : List StoredFile) (i : ℕ) (was to : StoredFile) (call : Call) (is : IsMadeBy files i was to call) where
  same_number : to.number ≡ file_of_call call
  same_number = number_there files (file_of_call call) i was to is.place is.stood is.number

  stood_there : {A : Type 0} (view : StoredFile → A) (none : A) → looked view none files (file_of_call call) ≡ view was
  stood_there view none = looked_place view none files (file_of_call call) i was is.place ∙ ap view (sym is.stood)

  pub base_stays : (n : ℕ) → looked first_in [] (set files i to) n ≡ looked first_in [] files n
  base_stays n = looked_set first_in [] files (file_of_call call) i to is.place same_number n
      ∙ ⊎_elim
      (λ same. ap (changed (looked first_in [] files) (file_of_call call) (first_in to)) same
      ∙ changed_here (looked first_in [] files) (file_of_call call) (first_in to) ∙ is.first
      ∙ sym (stood_there first_in []) ∙ ap (looked first_in [] files) (sym same))
      (λ differs. changed_there (looked first_in [] files) (file_of_call call) (first_in to) n differs)
      (cases_eq n (file_of_call call))

  pub replays_on : (calls : List Call) → Replays files calls → Replays (set files i to) (calls ++ call ∷ [])
  replays_on calls replays n = looked_set held_in (settled_at []) files (file_of_call call) i to is.place same_number n
      ∙ ⊎_elim
      (λ same. ap (changed (looked held_in (settled_at []) files) (file_of_call call) (held_in to)) same
      ∙ changed_here (looked held_in (settled_at []) files) (file_of_call call) (held_in to) ∙ is.held
      ∙ ap (λ (h : Held). made h call) (sym (stood_there held_in (settled_at []))
      ∙ ap (looked held_in (settled_at []) files) (sym same) ∙ replays n)
      ∙ sym (after_here n (replayed n (settled_at (looked first_in [] files n)) calls) call same))
      (λ differs. changed_there (looked held_in (settled_at []) files) (file_of_call call) (held_in to) n differs
      ∙ replays n ∙ sym (after_there n (replayed n (settled_at (looked first_in [] files n)) calls) call differs))
      (cases_eq n (file_of_call call))
      ∙ sym (replayed_push n (settled_at (looked first_in [] files n)) calls call)
      ∙ ap (λ (octets : List ℕ). replayed n (settled_at octets) (calls ++ call ∷ [])) (sym (base_stays n))

  pub fits_on : (fit : ℕ × ℕ) → ((n : ℕ) → looked room_in fit files n ≡ fit)
      → (n : ℕ) → looked room_in fit (set files i to) n ≡ fit
  fits_on fit = fits_set files (file_of_call call) i was to fit is.place is.stood is.number is.room

  pub named_on : (old : List StoredFile) → IsNamedAfter old files (file_of_call call)
      → IsNamedAfter old (set files i to) (file_of_call call)
  named_on old = named_set old files (file_of_call call) i was to is.place is.stood is.number

  pub marks_told : (n : ℕ)
      → looked marks_in unwritten (set files i to) n ≡ changed (looked marks_in unwritten files) (file_of_call call)
      (marks_made (looked marks_in unwritten files (file_of_call call)) call) n
  marks_told n = looked_set marks_in unwritten files (file_of_call call) i to is.place same_number n
      ∙ ap (λ (m : Marks). changed (looked marks_in unwritten files) (file_of_call call) m n) (is.marks
      ∙ ap (λ (m : Marks). marks_made m call) (sym (stood_there marks_in unwritten)))

  pub story_told : (log new : Record)
      → calls_of new.deeds.items new.octets.items ≡ calls_of log.deeds.items log.octets.items ++ call ∷ []
      → story_in (set files i to) new ≡ told (story_in files log) call
  unfolding story_in
  story_told log new calls = same_story _ _ base_stays calls marks_told

pub size_there : (files : List StoredFile) (log : Record) (n i : ℕ) (was : StoredFile) → IsPlace files n i
    → was ≡ get_or files i was → ((story_in files log).marks n).size ≡ length was.octets.items
unfolding story_in
size_there files log n i was place stood =
    ap (λ (m : Marks). m.size) (looked_place marks_in unwritten files n i was place ∙ ap marks_in (sym stood))

pub place_stays : (files : List StoredFile) (n i : ℕ) (to : StoredFile) → IsPlace files n i → to.number ≡ n
    → IsPlace (set files i to) n i
place_stays files n i to place number = record {
  within = omega (arith, place.within, length-set files i to);
  here = λ d. ap (λ (f : StoredFile). f.number == n) (get_or-set_same files i to d place.within)
      ∙ eq-eqb to.number n number;
  before = λ k d less. ap (λ (f : StoredFile). f.number ==
      n) (get_or-set_other files i k to d (λ same. absurd (omega (arith, less, same)))) ∙ place.before k d less;
}

pub no_files : (log : Record) → calls_of log.deeds.items log.octets.items ≡ []
    → story_in [] log ≡ record { base = λ n. []; calls = []; marks = λ n. unwritten }
unfolding story_in
no_files log none = same_story _ _ (λ n. refl) none (λ n. refl)

-- a file that only its frozen mark changed
pub record IsKept (files : List StoredFile) (n i : ℕ) (was to : StoredFile) : Type 0 where
  pub place : IsPlace files n i
  pub stood : was ≡ get_or files i was
  pub number : to.number ≡ was.number
  pub held : held_in to ≡ held_in was
  pub first : first_in to ≡ first_in was
  pub room : room_in to ≡ room_in was

module _ (files : List StoredFile) (n i : ℕ) (was to : StoredFile) (is : IsKept files n i was to) where
  pub base_kept : (m : ℕ) → looked first_in [] (set files i to) m ≡ looked first_in [] files m
  base_kept m = looked_kept first_in [] files n i was to is.place is.stood is.number is.first m

  pub replays_kept : (calls : List Call) → Replays files calls → Replays (set files i to) calls
  replays_kept calls replays m =
      looked_kept held_in (settled_at []) files n i was to is.place is.stood is.number is.held m ∙ replays m
      ∙ ap (λ (octets : List ℕ). replayed m (settled_at octets) calls) (sym (base_kept m))

  pub fits_kept : (fit : ℕ × ℕ) → ((m : ℕ) → looked room_in fit files m ≡ fit)
      → (m : ℕ) → looked room_in fit (set files i to) m ≡ fit
  fits_kept fit = fits_set files n i was to fit is.place is.stood is.number is.room

  pub named_kept : (old : List StoredFile) → IsNamedAfter old files n → IsNamedAfter old (set files i to) n
  named_kept old = named_set old files n i was to is.place is.stood is.number

  pub story_kept : (log : Record) → marks_in to ≡ marks_in was → story_in (set files i to) log ≡ story_in files log
  unfolding story_in
  story_kept log marks =
      same_story _ _ base_kept refl (looked_kept marks_in unwritten files n i was to is.place is.stood is.number marks)

  pub story_frozen : (log : Record)
      → marks_in to ≡ record {
        size = length was.octets.items;
        settled = was.settled;
        frozen = true;
        listed =
            was.listed;
      } → story_in (set files i to) log ≡ frozen_in (story_in files log) n
  unfolding story_in
  story_frozen log marks =
      same_story _ _ base_kept refl
      (λ m. looked_set marks_in unwritten files n i to is.place
      (number_there files n i was to is.place is.stood is.number) m
      ∙ ap (λ (k : Marks). changed (looked marks_in unwritten files) n k m) (marks
      ∙ sym (ap (λ (k : Marks). record { size = k.size; settled = k.settled; frozen = true; listed = k.listed })
      (looked_place marks_in unwritten files n i was is.place ∙ ap marks_in (sym is.stood)))))
