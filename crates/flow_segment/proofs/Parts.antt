-- Steps over a part of a file.
use Rattle.std.proofs.Common.{◌≡◌, ℕ, ◌+◌, ◌-◌, ◌<◌, ◌≤◌, ◌^◌, List, [], ◌∷◌, ◌++◌, length, take, drop, refl, sym, ap}
use Rattle.std.proofs.Common.{subst, ◌∙◌, append_assoc, arith, inl, inr, ◌⊎◌}
use Rattle.std.proofs.lemmas.List.{length-append, length-take-le, take-append-drop, drop-drop, drop_at}
use Rattle.std.proofs.lemmas.List.{drop-take, take-take, append-nil}
use Rattle.std.specs.Prelude.{Bool, true, false, Result, Ok, Err}
use Rattle.std.proofs.lemmas.List.{nil_from_length, length-take}
use Rattle.std.proofs.lemmas.Grind.{common_steps}
use Rattle.flow_disk.proofs.WindowLaws.{passed_on}
use Rattle.flow_disk.specs.Window.{Window, IsOn, IsReady, passed}
use Rattle.flow_refusals.specs.declared.read_refusal.ReadRefusal.{ReadRefusal}
use Rattle.flow_refusals.specs.declared.read_refusal.ReadRefusal.TheVariants.{Damaged, Fault, OutOfMemory}
use Rattle.flow_codec.specs.declared.file.FileError.{FileError}
use Rattle.flow_codec.specs.Cutting.{IsCutOff, IsFileFault, IsHeaderRefused, length_of}
use Rattle.std.specs.List.{AllByRecursion}
use Rattle.std.proofs.lemmas.List.Concat.{flat_map-cons}
use Rattle.flow_codec.specs.Message.{joined}
use Rattle.flow_codec.proofs.Dividing.{version_of-append, length_of-append, one_division}
use Rattle.flow_segment.specs.Part.{rest_of, Holds, IsHeld, IsPartStep, Gives}

-- a message that is cut off the octets ahead
pub held_next : (w mid new : Window) (octets : List ℕ) (n file : ℕ) → mid ≡ passed w 0 → new ≡ passed mid n
    → octets ≡ mid.ahead → (n ≤ length octets) × IsCutOff (take n octets)
    → IsHeld file w (Ok true) new
held_next w mid new octets n file none some is found =
    let held : new.held ≡ take n octets = ap (λ (v : Window). v.held) some ∙ ap (take n) (sym is) in (
      subst IsCutOff (sym held) found.1,
      sym (ap (λ (v : Window). v.ahead) none) ∙ sym (take-append-drop n mid.ahead)
          ∙ ap (λ (v : Window). v.held ++ v.ahead) (sym some),
      omega (
        arith,
        ap (λ (v : Window). v.place) some,
        ap (λ (v : Window). v.place) none,
        ap (λ (l : List ℕ). length l) held,
        length-take-le n octets found.0,
      ),
      ap (λ (v : Window). v.end) some ∙ ap (λ (v : Window). v.end) none,
    )

-- the part's octets after those ahead
pub split_rest : (octets : List ℕ) (c : Window) → IsOn octets c → c.place + length c.ahead ≤ c.end
    → (more : List ℕ) × (rest_of octets c ≡ c.ahead ++ more)
split_rest octets c on within =
    let rest = rest_of octets c in
    let n = length c.ahead in (
      drop n rest,
      sym (take-append-drop n rest)
          ∙ ap (λ (t : List ℕ). t ++ drop n rest)
          (take-take n (c.end - c.place) (drop c.place octets) (omega (arith, within)) ∙ sym on),
    )

-- the next message, held
pub held_on : (octets : List ℕ) (mid new : Window) → IsOn octets mid → mid.place + length mid.ahead ≤ mid.end
    → mid.ahead ≡ new.held ++ new.ahead → new.place ≡ mid.place + length new.held → new.end ≡ mid.end
    → IsOn octets new × (rest_of octets mid ≡ new.held ++ rest_of octets new)
held_on octets mid new on within parts place end =
    let m = length new.held in
    let xs = drop mid.place octets in
    let size : length mid.ahead ≡ m + length new.ahead = ap length parts ∙ length-append new.held new.ahead in
    let there : drop new.place octets ≡ drop m xs = ap (λ (n : ℕ). drop n octets) (omega (arith, place))
    ∙ sym (drop-drop m mid.place octets) in
    let split = split_rest octets mid on within in
    let whole : rest_of octets mid ≡ new.held ++ (new.ahead ++ split.0) =
    split.1 ∙ ap (λ (t : List ℕ). t ++ split.0) parts ∙ append_assoc new.held new.ahead split.0 in
    let count : mid.end - mid.place ≡ m + (new.end - new.place) = omega (arith, within, size, place, end) in
    let behind : rest_of octets new ≡ new.ahead ++ split.0 =
    ap (take (new.end - new.place)) there ∙ sym (drop-take m (new.end - new.place) xs)
    ∙ ap (λ (n : ℕ). drop m (take n xs)) (sym count) ∙ ap (drop m) whole
    ∙ drop_at new.held (new.ahead ++ split.0) m refl in
    (passed_on octets new.held mid new on parts place, whole ∙ ap (λ (t : List ℕ). new.held ++ t) (sym behind))

-- ---- a fault

fault_more : (at : ℕ) (ahead more : List ℕ) (fault : FileError) → (more ≡ []) ⊎ (65535 ≤ length ahead)
    → length_of ahead < 2 ^ 16 → IsFileFault at ahead fault → IsFileFault at (ahead ++ more) fault
fault_more at ahead more fault (inl none) field bad =
    subst (λ (t : List ℕ). IsFileFault at t fault) (sym (append-nil ahead)
    ∙ ap (λ (t : List ℕ). ahead ++ t) (sym none)) bad
fault_more at ahead more fault (inr long) field (inl short) = absurd (omega (arith, long, short.1))
fault_more at ahead more fault (inr long) field (inr (inl refused)) =
    inr (inl (omega (arith, refused.0, length-append ahead more), by refused.1))
  where
    by : IsHeaderRefused at ahead fault → IsHeaderRefused at (ahead ++ more) fault
    by (inl other) = inl (λ same. other.0 (sym (version_of-append ahead more refused.0) ∙ same), other.1)
    by (inr low) = inr (
      version_of-append ahead more refused.0
          ∙ low.0,
      subst (λ (n : ℕ). n < 16) (sym (length_of-append ahead more refused.0)) low.1,
      low.2,
    )
fault_more at ahead more fault (inr long) field (inr (inr cut)) = absurd (omega (arith, long, field, cut.3))

fault_on : (octets : List ℕ) (c : Window) (fault : FileError) → IsOn octets c → IsReady 65535 c
    → c.place + length c.ahead ≤ c.end → length_of c.ahead < 2 ^ 16 → IsFileFault c.place c.ahead fault
    → IsFileFault c.place (rest_of octets c) fault
fault_on octets c fault on ready within field bad =
    let rest = rest_of octets c in
    let n = length c.ahead in
    let split = split_rest octets c on within in
    let gone : (split.0 ≡ []) ⊎ (65535 ≤ n) = by split.0 split.1 ready in
    subst (λ (t : List ℕ). IsFileFault c.place t fault) (sym split.1)
    (fault_more c.place c.ahead split.0 fault gone field bad)
  where
    by : (more : List ℕ) → rest_of octets c ≡ c.ahead ++ more → IsReady 65535 c → (more ≡ []) ⊎ (65535 ≤ length c.ahead)
    by more e (inl whole) =
        let most : length (rest_of octets c) ≤ c.end - c.place =
        omega (arith, length-take (c.end - c.place) (drop c.place octets)) in
        inl (nil_from_length more (omega (arith, ap length e, length-append c.ahead more, whole, most)))
    by more e (inr long) = inr long

-- a step over octets that are those of the file
pub part_step : (octets : List ℕ) (file : ℕ) (mid new : Window) (result : Result Bool ReadRefusal) → IsOn octets mid
    → IsReady 65535 mid → mid.place + length mid.ahead ≤ mid.end → length_of mid.ahead < 2 ^ 16
    → IsHeld file mid result new → IsOn octets new × IsPartStep octets file mid result new
part_step octets file mid new (Ok true) on ready within field h =
    let t = held_on octets mid new on within h.1 h.2 h.3 in
    (t.0, (h.0, t.1, h.3))
part_step octets file mid new (Ok false) on ready within field h =
    let zero : mid.end - mid.place ≡ 0 = omega (arith, h.0) in
    let none : rest_of octets mid ≡ [] = ap (λ (n : ℕ). take n (drop mid.place octets)) zero in
    (subst (IsOn octets) (sym h.1) on, (none, ap (λ (c : Window). c.place) h.1, ap (λ (c : Window). c.end) h.1))
part_step octets file mid new (Err (Damaged f at)) on ready within field h =
    let bad = h.2 in (
      subst (IsOn octets) (sym h.3) on,
      (
        h.0,
        h.1,
        (bad.0, fault_on octets mid bad.0 on ready within field bad.1),
        ap
            (λ (c : Window). c.place) h.3,
        ap (λ (c : Window). c.end) h.3,
      ),
    )
part_step octets file mid new (Err Fault) on ready within field h = absurd h
part_step octets file mid new (Err OutOfMemory) on ready within field h = absurd h

same_step : (octets : List ℕ) (file : ℕ) (old mid new : Window) (result : Result Bool ReadRefusal)
    → rest_of octets mid ≡ rest_of octets old → mid.place ≡ old.place → mid.end ≡ old.end → IsHeld file mid result new
    → IsPartStep octets file mid result new → IsPartStep octets file old result new
same_step octets file old mid new (Ok true) rest place end held h = (h.0, sym rest ∙ h.1, h.2 ∙ end)
same_step octets file old mid new (Ok false) rest place end held h = (sym rest ∙ h.0, h.1 ∙ place, h.2 ∙ end)
same_step octets file old mid new (Err (Damaged f at)) rest place end held h = (
  h.0,
  h.1 ∙ place,
  (
    h.2.0,
    subst (λ (n : ℕ). IsFileFault n (rest_of octets old) h.2.0) place
        (subst (λ (t : List ℕ). IsFileFault mid.place t h.2.0) rest h.2.1),
  ),
  h.3 ∙ place,
  h.4 ∙ end,
)
same_step octets file old mid new (Err Fault) rest place end held h = absurd held
same_step octets file old mid new (Err OutOfMemory) rest place end held h = absurd held

-- a piece that was read
pub fed_on : (octets items : List ℕ) (n at place : ℕ) → items ≡ take n (drop at octets) → at ≡ place
    → items ≡ take (length items) (drop place octets)
fed_on octets items n at place read is = grind (arith, common_steps)

-- a step after octets were read, where there were too few
pub filled_step : (octets : List ℕ) (file number : ℕ) (old mid new : Window) (result : Result Bool ReadRefusal)
    → mid.place ≡ old.place → mid.end ≡ old.end → IsOn octets mid → number ≡ file → IsReady 65535 mid
    → mid.place + length mid.ahead ≤ mid.end → length_of mid.ahead < 2 ^ 16 → IsHeld number mid result new
    → IsOn octets new × IsPartStep octets file old result new
filled_step octets file number old mid new result place end on is ready within field h =
    let held : IsHeld file mid result new = subst (λ (k : ℕ). IsHeld k mid result new) is h in
    let rest : rest_of octets mid ≡ rest_of octets old =
    ap (λ (n : ℕ). take (n - mid.place) (drop mid.place octets)) end
    ∙ ap (λ (p : ℕ). take (old.end - p) (drop p octets)) place in
    let t = part_step octets file mid new result on ready within field held in
    (t.0, same_step octets file old mid new result rest place end held t.1)

-- what is held after a step over octets that are ready
pub held_holds : (file : ℕ) (was old new : Window) (result : Result Bool ReadRefusal) → IsHeld file old result new
    → Holds was result new
held_holds file was old new (Ok true) h = tt
held_holds file was old new (Ok false) h = ap (λ (c : Window). c.held) h.1
held_holds file was old new (Err (Damaged f at)) h = ap (λ (c : Window). c.held) h.3
held_holds file was old new (Err Fault) h = absurd h
held_holds file was old new (Err OutOfMemory) h = absurd h

-- ---- what is given to the end

divides : (octets : List ℕ) (file : ℕ) (c last : Window) (ms : List (List ℕ)) → Gives octets file c ms last
    → AllByRecursion IsCutOff ms × (rest_of octets c ≡ joined ms)
divides octets file c last [] h = (tt, h.0)
divides octets file c last (m ∷ ms) h =
    let more = divides octets file h.0 last ms h.3 in
    let step = h.1 in (
      (subst IsCutOff h.2 step.0, more.0),
      step.1 ∙ ap (λ (t : List ℕ). t ++ rest_of octets h.0) h.2 ∙ ap (λ (t : List ℕ). m ++ t) more.1
          ∙ sym (flat_map-cons (λ r. r) m ms),
    )

-- What a reader gives to the end are the messages of the part.
pub gives_all : (octets : List ℕ) (file : ℕ) (c last : Window) (ms parts : List (List ℕ))
    → Gives octets file c ms last → rest_of octets c ≡ joined parts → AllByRecursion IsCutOff parts → ms ≡ parts
gives_all octets file c last ms parts h whole cut =
    let d = divides octets file c last ms h in
    (one_division 0 0 parts ms [] [] cut d.0 (append-nil (joined parts) ∙ sym whole ∙ d.1
    ∙ sym (append-nil (joined ms))) (inl refl) (inl refl)).0
