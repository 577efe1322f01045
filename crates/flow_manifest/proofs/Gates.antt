-- What a stop leaves of a slot while its gate is written, and while its body is.
use Rattle.std.proofs.Common.{◌≡◌, ◌≢◌, inl, inr, ⊎_elim, ℕ, ◌+◌, ◌≤◌, Bool, true, false, List, [], ◌∷◌, ◌++◌, length}
use Rattle.std.proofs.Common.{get_or, take, drop, refl, sym, ◌∙◌, ap, subst, arith, length-append}
use Rattle.std.proofs.lemmas.List.{drop_more, take_at, drop_at, length-take-le, length-take, get_or-take}
use Rattle.std.proofs.lemmas.Bool.{cases_eq}
use Rattle.flow_disk.specs.declared.disk.Disk.{Ghosts}
use Rattle.flow_disk.specs.Disk.{Held, IsImage, IsDiskImage, AllImages, ComesOf, InFile, changed, touched_at}
use Rattle.flow_disk.specs.Disk.{loosened_at, settled_at, put_at}
use Rattle.flow_disk.specs.Moments.{Elapses}
use Rattle.flow_disk.specs.Calls.{LeavesOnly}
use Rattle.flow_disk.specs.Laws.{IsAlone}
use Rattle.flow_disk.proofs.Images.{IsBehind, same_front, behind_touched, behind_cut, behind_then, settled_fast}
use Rattle.flow_disk.proofs.Images.{one_octet, settled_one}
use Rattle.flow_disk.proofs.Calls.{comes, starts, changes, stays}
use Rattle.flow_disk.proofs.Moments.{by, advance, arrive}
use Rattle.flow_manifest.specs.Slots.{IsOpen, IsClosed, HasGate, HasSomeGate, SetsGate, MayClose, Closes, KeepsGate}
use Rattle.flow_manifest.specs.Slots.{HasBody, IsPrepared, MayOpen}

-- ---- octets

pub put_gate : (octets : List ℕ) (gate : ℕ) → put_at octets 0 (gate ∷ []) ≡ gate ∷ drop 1 octets
put_gate octets gate = refl

-- octets with a gate are the gate and the octets after it
pub gate_and_rest : (octets : List ℕ) → 1 ≤ length octets → octets ≡ get_or octets 0 0 ∷ drop 1 octets
gate_and_rest octets some = drop_more octets 0 0 some

pub has_gate : (before after : List ℕ) → HasSomeGate before after → 1 ≤ length after
has_gate before after is = omega (arith, ap length is)

pub may_open : (before after : List ℕ) → HasSomeGate before after → MayOpen before after
may_open before after is = ⊎_elim
    (λ shown. inr (is ∙ ap (λ (gate : ℕ). gate ∷ drop 1 before) shown))
    (λ shut. inl (record { gate = has_gate before after is; shut = shut }))
    (cases_eq (get_or after 0 0) 165)

pub may_close : (reads before after : List ℕ) → before ≡ reads → 1 ≤ length reads → IsOpen reads
    → HasSomeGate before after → MayClose before after
may_close reads before after one some was is = ⊎_elim
    (λ shown. inl (is ∙ ap (λ (gate : ℕ). gate ∷ drop 1 before) (shown ∙ sym was)
    ∙ ap (λ (l : List ℕ). get_or reads 0 0 ∷ drop 1 l) one ∙ sym (gate_and_rest reads some) ∙ sym one))
    (λ shut. inr (record { gate = has_gate before after is; shut = shut }))
    (cases_eq (get_or after 0 0) 165)

-- ---- a step in one file, in other words

module _ {D S X : Type 0} (g : Ghosts D S X) (old new : D) (file : ℕ) (Q R : List ℕ → List ℕ → Type 0)
    (weaker : (before after : List ℕ) → IsImage (g.held old file) before → Q before after → R before after) where
  in_words : (image : ℕ → List ℕ) → ComesOf (g.held old) (InFile file Q) image
      → ComesOf (g.held old) (InFile file R) image
  in_words image came = (
    came.0,
    came.1,
    record {
      others = (came.2).others;
      here =
          weaker (came.0 file) (image file) (came.1 file) (came.2).here;
    },
  )

  pub run_in_words : LeavesOnly g old new (ComesOf (g.held old) (InFile file Q))
      → LeavesOnly g old new (ComesOf (g.held old) (InFile file R))
  run_in_words run = by g old new (ComesOf (g.held old) (InFile file Q))
      (ComesOf (g.held old) (InFile file R)) run in_words

  pub after_in_words : AllImages (g.held new) (ComesOf (g.held old) (InFile file Q))
      → AllImages (g.held new) (ComesOf (g.held old) (InFile file R))
  after_in_words after image is = in_words image (after image is)

-- ---- the gate's write, and the sync after it

module _ {D S X : Type 0} (g : Ghosts D S X) (start : D) (file : ℕ)
    (one : IsAlone (g.held start file)) (some : 1 ≤ length (g.held start file).reads) where
  here : (reads image : List ℕ) → IsImage (touched_at (g.held start file) 0 1 reads) image
      → (a : List ℕ) × IsImage (g.held start file) a × HasSomeGate a image
  here reads image is = (
    (g.held start file).reads,
    one.reads,
    one_octet (g.held start file) 0 reads image one some is
        ∙ put_gate (g.held start file).reads (get_or image 0 0),
  )

  pub gate_write : ((image : ℕ → List ℕ) → g.left_since start (g.moment start) image → IsDiskImage (g.held start) image)
      → (new : D) (reads : List ℕ)
      → Elapses (g.moment start) (g.moment new) (g.left_since start) (g.left_since new)
      (changed (g.held start) file (touched_at (g.held start file) 0 1 reads))
      → LeavesOnly g start new (ComesOf (g.held start) (InFile file HasSomeGate))
  gate_write only_now new reads time =
      changes g start start new file HasSomeGate (touched_at (g.held start file) 0 1 reads)
      (starts g start file HasSomeGate only_now
      (λ a is. subst (λ (l : List ℕ). HasSomeGate l l) (sym (one.alone a is))
      (gate_and_rest (g.held start file).reads some)))
      (λ n differs. refl) time (here reads)

  pub gate_sync : (mid new : D) (reads : List ℕ)
      → LeavesOnly g start mid (ComesOf (g.held start) (InFile file HasSomeGate))
      → g.held mid file ≡ touched_at (g.held start file) 0 1 reads
      → ((n : ℕ) → n ≢ file → g.held mid n ≡ g.held start n)
      → Elapses (g.moment mid) (g.moment new) (g.left_since mid) (g.left_since new) (g.held mid)
      → LeavesOnly g start new (ComesOf (g.held start) (InFile file HasSomeGate))
  gate_sync mid new reads so_far wrote others time =
      stays g start mid new file HasSomeGate so_far others time
      (λ b is. here reads b (subst (λ (f : Held). IsImage f b) wrote is))

  -- both calls
  pub gate_run : ((image : ℕ → List ℕ) → g.left_since start (g.moment start) image → IsDiskImage (g.held start) image)
      → (mid new : D) (before reads : List ℕ)
      → Elapses (g.moment start) (g.moment mid) (g.left_since start) (g.left_since mid)
      (changed (g.held start) file (touched_at (g.held start file) 0 1 before))
      → g.held mid file ≡ touched_at (g.held start file) 0 1 reads
      → ((n : ℕ) → n ≢ file → g.held mid n ≡ g.held start n)
      → Elapses (g.moment mid) (g.moment new) (g.left_since mid) (g.left_since new) (g.held mid)
      → LeavesOnly g start new (ComesOf (g.held start) (InFile file HasSomeGate))
  gate_run only_now mid new before reads written wrote others settled =
      gate_sync mid new reads (gate_write only_now mid before written) wrote others settled

  pub gate_after : (gate : ℕ) (mid new : D)
      → g.held mid file ≡ touched_at (g.held start file) 0 1 (put_at (g.held start file).reads 0 (gate ∷ []))
      → ((n : ℕ) → n ≢ file → g.held mid n ≡ g.held start n)
      → g.held new file ≡ settled_at (g.held mid file).reads → ((n : ℕ) → n ≢ file → g.held new n ≡ g.held mid n)
      → AllImages (g.held new) (ComesOf (g.held start) (InFile file (SetsGate gate)))
  gate_after gate mid new wrote others settled others_now =
      comes (g.held start) (g.held new) file (SetsGate gate) (λ n differs. others_now n differs ∙ others n differs)
      (λ b is. (
        (g.held start file).reads,
        one.reads,
        settled_one (g.held mid file).reads b (subst (λ (f : Held). IsImage f b) settled is)
            ∙ ap (λ (f : Held). f.reads) wrote ∙ put_gate (g.held start file).reads gate,
      ))

-- ---- the body's write, the cut after it, and the sync

-- what is read after the write and the cut
pub body_read : (octets body : List ℕ) (count : ℕ) → 1 ≤ length octets → count ≡ 1 + length body
    → take count (put_at octets 1 body) ≡ take 1 octets ++ body
body_read octets body count some is =
    take_at (take 1 octets ++ body) (drop (1 + length body) octets) count
    (omega (arith, length-append (take 1 octets) body, length-take-le 1 octets some, is))

module _ {D S X : Type 0} (g : Ghosts D S X) (start : D) (file : ℕ)
    (one : IsAlone (g.held start file)) (some : 1 ≤ length (g.held start file).reads)
    (within : (g.held start file).fast ≤ length (g.held start file).last) where
  fast : 1 ≤ (g.held start file).fast
  fast = omega (arith, settled_fast (g.held start file) one, some)

  front : (now : Held) → IsBehind 1 (g.held start file) now → (image : List ℕ) → IsImage now image
      → (a : List ℕ) × IsImage (g.held start file) a × KeepsGate a image
  front now behind image is = let found = same_front 1 (g.held start file) now behind fast within image is in
      (found.0, found.1, sym found.2)

  behind_write : (count : ℕ) (now : Held) → now ≡ touched_at (g.held start file) 1 count now.reads
      → IsBehind 1 (g.held start file) now
  behind_write count now is = behind_touched 1 1 count (g.held start file) now (omega arith) fast is

  pub body_write : ((image : ℕ → List ℕ) → g.left_since start (g.moment start) image → IsDiskImage (g.held start) image)
      → (new : D) (count : ℕ) (reads : List ℕ)
      → Elapses (g.moment start) (g.moment new) (g.left_since start) (g.left_since new)
      (changed (g.held start) file (touched_at (g.held start file) 1 count reads))
      → LeavesOnly g start new (ComesOf (g.held start) (InFile file KeepsGate))
  body_write only_now new count reads time =
      changes g start start new file KeepsGate (touched_at (g.held start file) 1 count reads)
      (starts g start file KeepsGate only_now (λ a is. refl))
      (λ n differs. refl) time
      (front (touched_at (g.held start file) 1 count reads)
      (behind_write count (touched_at (g.held start file) 1 count reads) refl))

  pub body_cut : (mid new : D) (count place : ℕ) (written reads : List ℕ) → 1 ≤ place
      → LeavesOnly g start mid (ComesOf (g.held start) (InFile file KeepsGate))
      → g.held mid file ≡ touched_at (g.held start file) 1 count written
      → ((n : ℕ) → n ≢ file → g.held mid n ≡ g.held start n)
      → Elapses (g.moment mid) (g.moment new) (g.left_since mid) (g.left_since new)
      (changed (g.held mid) file (loosened_at (g.held mid file) place reads))
      → LeavesOnly g start new (ComesOf (g.held start) (InFile file KeepsGate))
  body_cut mid new count place written reads le so_far wrote others time =
      changes g start mid new file KeepsGate
      (loosened_at (g.held mid file) place reads) so_far others time
      (front (loosened_at (g.held mid file) place reads) (behind_cut_of mid count place written reads le wrote))
    where
      behind_cut_of : (mid : D) (count place : ℕ) (written reads : List ℕ) → 1 ≤ place
          → g.held mid file ≡ touched_at (g.held start file) 1 count written
          → IsBehind 1 (g.held start file) (loosened_at (g.held mid file) place reads)
      behind_cut_of mid count place written reads le wrote =
          behind_then 1 (g.held start file) (g.held mid file) (loosened_at (g.held mid file) place reads)
          (behind_write count (g.held mid file) (wrote
          ∙ ap (λ (l : List ℕ). touched_at (g.held start file) 1 count l) (sym (ap (λ (f : Held). f.reads) wrote))))
          (behind_cut 1 place (g.held mid file) (loosened_at (g.held mid file) place reads) le
          (omega (arith, fast, ap (λ (f : Held). f.fast) wrote)) refl)

  pub body_sync : (mid cut new : D) (count place : ℕ) (written reads : List ℕ) → 1 ≤ place
      → LeavesOnly g start cut (ComesOf (g.held start) (InFile file KeepsGate))
      → g.held mid file ≡ touched_at (g.held start file) 1 count written
      → g.held cut file ≡ loosened_at (g.held mid file) place reads
      → ((n : ℕ) → n ≢ file → g.held cut n ≡ g.held start n)
      → Elapses (g.moment cut) (g.moment new) (g.left_since cut) (g.left_since new) (g.held cut)
      → LeavesOnly g start new (ComesOf (g.held start) (InFile file KeepsGate))
  body_sync mid cut new count place written reads le so_far wrote was_cut others time =
      stays g start cut new file KeepsGate so_far others time (front (g.held cut file) behind)
    where
      behind : IsBehind 1 (g.held start file) (g.held cut file)
      behind = behind_then 1 (g.held start file) (g.held mid file) (g.held cut file)
          (behind_write count (g.held mid file) (wrote
          ∙ ap (λ (l : List ℕ). touched_at (g.held start file) 1 count l) (sym (ap (λ (f : Held). f.reads) wrote))))
          (behind_cut 1 place (g.held mid file) (g.held cut file) le
          (omega (arith, fast, ap (λ (f : Held). f.fast) wrote))
          (was_cut ∙ ap (λ (l : List ℕ). loosened_at (g.held mid file) place l)
          (sym (ap (λ (f : Held). f.reads) was_cut))))

  -- all three calls
  pub body_run : ((image : ℕ → List ℕ) → g.left_since start (g.moment start) image → IsDiskImage (g.held start) image)
      → (mid cut new : D) (count place : ℕ) (before written whole reads : List ℕ) → 1 ≤ place
      → Elapses (g.moment start) (g.moment mid) (g.left_since start) (g.left_since mid)
      (changed (g.held start) file (touched_at (g.held start file) 1 count before))
      → g.held mid file ≡ touched_at (g.held start file) 1 count written
      → ((n : ℕ) → n ≢ file → g.held mid n ≡ g.held start n)
      → Elapses (g.moment mid) (g.moment cut) (g.left_since mid) (g.left_since cut)
      (changed (g.held mid) file (loosened_at (g.held mid file) place whole))
      → g.held cut file ≡ loosened_at (g.held mid file) place reads → ((n : ℕ) → n ≢ file → g.held cut n ≡ g.held mid n)
      → Elapses (g.moment cut) (g.moment new) (g.left_since cut) (g.left_since new) (g.held cut)
      → LeavesOnly g start new (ComesOf (g.held start) (InFile file KeepsGate))
  body_run only_now mid cut new count place before written whole reads le writing wrote others cutting was_cut
      others_then settling =
      body_sync mid cut new count place written reads le
      (body_cut mid cut count place written whole le
      (body_write only_now mid count before writing) wrote others cutting)
      wrote was_cut (λ n differs. others_then n differs ∙ others n differs) settling

  pub body_after : (mid cut new : D) (body : List ℕ) (place : ℕ) → place ≡ 1 + length body
      → g.held mid file ≡ touched_at (g.held start file) 1 (length body) (put_at (g.held start file).reads 1 body)
      → g.held cut file ≡ loosened_at (g.held mid file) place (take place (g.held mid file).reads)
      → ((n : ℕ) → n ≢ file → g.held cut n ≡ g.held start n)
      → g.held new file ≡ settled_at (g.held cut file).reads → ((n : ℕ) → n ≢ file → g.held new n ≡ g.held cut n)
      → AllImages (g.held new) (ComesOf (g.held start) (InFile file (HasBody body)))
  body_after mid cut new body place place_is wrote was_cut others settled others_now =
      comes (g.held start) (g.held new) file (HasBody body) (λ n differs. others_now n differs
      ∙ others n differs) (λ b is. ((g.held start file).reads, one.reads, read b is))
    where
      read : (b : List ℕ) → IsImage (g.held new file) b → b ≡ take 1 (g.held start file).reads ++ body
      read b is = settled_one (g.held cut file).reads b (subst (λ (f : Held). IsImage f b) settled is)
          ∙ ap (λ (f : Held). f.reads) was_cut
          ∙ ap (λ (f : Held). take place f.reads) wrote ∙ body_read (g.held start file).reads body place some place_is

-- ---- both together

-- a slot that was closed where it was open is closed
pub closed_after : (was_open : Bool) (before after : List ℕ) → HasGate was_open before → Closes was_open before after
    → IsClosed after
closed_after false before after gate is = subst IsClosed (sym is) gate
closed_after true before after gate is =
    record {
      gate = omega (arith, ap length is);
      shut = λ shown. let none : 0 ≡ 165 =
          sym (ap (λ (l : List ℕ). get_or l 0 0) is) ∙ shown in absurd (omega arith);
    }

-- a closed gate that stays is closed
pub closed_still : (before after : List ℕ) → IsClosed before → KeepsGate before after → IsClosed after
closed_still before after closed same = record { gate = long; shut = λ shown. closed.shut (sym same_gate ∙ shown) }
  where
    long : 1 ≤ length after
    long = omega (arith, length-take-le 1 before closed.gate, ap length same, length-take 1 after)

    same_gate : get_or after 0 0 ≡ get_or before 0 0
    same_gate = sym (get_or-take 1 after 0 0 (omega arith)) ∙ ap (λ (l : List ℕ). get_or l 0 0) same
        ∙ get_or-take 1 before 0 0 (omega arith)

-- a body after a closed gate
pub prepared : (body first before after : List ℕ) → IsClosed before → HasBody body before after
    → IsPrepared body first after
prepared body first before after closed is =
    record {
      closed = closed_still before after closed keeps;
      behind = ap (drop 1) is
          ∙ drop_at (take 1 before) body 1 (length-take-le 1 before closed.gate);
    }
  where
    keeps : KeepsGate before after
    keeps = ap (λ (l : List ℕ). take 1 l) is ∙ take_at (take 1 before) body 1 (length-take-le 1 before closed.gate)

-- ---- a slot closed, and a body written after the gate

module _ {D S X : Type 0} (g : Ghosts D S X) (old mid new : D) (file : ℕ) (was_open : Bool)
    (alone : (image : List ℕ) → IsImage (g.held old file) image
    → image ≡ (g.held old file).reads) (gate : HasGate was_open (g.held old file).reads)
    (closed : AllImages (g.held mid) (ComesOf (g.held old) (InFile file (Closes was_open)))) where
  shut : (before middle : ℕ → List ℕ) → IsDiskImage (g.held old) before → InFile file (Closes was_open) before middle
      → IsClosed (middle file)
  shut before middle is step =
      closed_after was_open (before file) (middle file)
      (subst (HasGate was_open) (sym (alone (before file) (is file))) gate) step.here

  pub closed_then_body : LeavesOnly g old mid (ComesOf (g.held old) (InFile file MayClose))
      → LeavesOnly g mid new (ComesOf (g.held mid) (InFile file KeepsGate))
      → LeavesOnly g old new (ComesOf (g.held old) (InFile file MayClose))
  closed_then_body first second =
      advance g old mid new (ComesOf (g.held old) (InFile file MayClose))
      (ComesOf (g.held old) (InFile file (Closes was_open))) (InFile file KeepsGate)
      first closed second
      (λ a b from step. (
        from.0,
        from.1,
        record {
          others = λ n differs. step.others n differs ∙ (from.2).others n differs;
          here = inr (closed_still (a file) (b file) (shut from.0 a from.1 from.2) step.here);
        },
      ))

  pub body_behind_closed : (body : List ℕ) → AllImages (g.held new) (ComesOf (g.held mid) (InFile file (HasBody body)))
      → AllImages (g.held new) (ComesOf (g.held old) (InFile file (IsPrepared body)))
  body_behind_closed body after =
      arrive g mid new (ComesOf (g.held old) (InFile file (Closes was_open)))
      (ComesOf (g.held old) (InFile file (IsPrepared body))) (InFile file (HasBody body))
      closed after
      (λ a b from step. (
        from.0,
        from.1,
        record {
          others = λ n differs. step.others n differs ∙ (from.2).others n differs;
          here = prepared body (from.0 file) (a file) (b file) (shut from.0 a from.1 from.2) step.here;
        },
      ))
