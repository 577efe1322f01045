-- A file of one image whose gate is opened.
use Rattle.std.proofs.Common.{◌≡◌, ◌≢◌, inl, inr, ⊎_elim, ℕ, ◌+◌, List, [], ◌∷◌, get_or, set, take, refl, sym, ◌∙◌, ap}
use Rattle.std.proofs.Common.{subst, arith, length-set}
use Rattle.std.proofs.lemmas.List.{take-set-le, get_or-set_same, get_or-set_other}
use Rattle.std.proofs.lemmas.Bool.{cases_eq}
use Rattle.flow_disk.specs.declared.disk.Disk.{Ghosts}
use Rattle.flow_disk.specs.Disk.{Held, IsImage, IsDiskImage, ComesOf, InFile, changed, touched_at, settled_at, put_at}
use Rattle.flow_disk.specs.Moments.{Elapses}
use Rattle.flow_disk.specs.Calls.{LeavesOnly}
use Rattle.flow_disk.proofs.Calls.{starts, changes, stays}
use Rattle.flow_disk.specs.Laws.{IsAlone}
use Rattle.flow_disk.proofs.Images.{one_octet, set_is_put, settled_one}
use Rattle.flow_gate.specs.Gate.{IsClosedAt, IsGated, IsPlaced, opened}
use Rattle.flow_gate.specs.Steps.{MayAdd, Adds}
use Rattle.flow_gate.proofs.Rows.{gated_at, gated_join}

module _ (before : List ℕ) (end octet : ℕ) (messages : List (List ℕ)) (placed : IsPlaced before end messages) where
  abbrev after : List ℕ
  after = set before (end + 1) octet

  same_front : take end before ≡ take end after
  same_front = sym (take-set-le end before (end + 1) octet (omega arith))

  still_closed : octet ≢ 10 → IsClosedAt after end
  still_closed shut = record {
    room = omega (arith, placed.closed.room, length-set before (end + 1) octet);
    zero_octet = get_or-set_other before (end + 1) end octet 0 (omega arith) ∙ placed.closed.zero_octet;
    shut = λ ten. shut (sym (get_or-set_same before (end + 1) octet 0 (omega (arith, placed.closed.room))) ∙ ten);
  }

  is_put : after ≡ put_at before (end + 1) (octet ∷ [])
  is_put = set_is_put before (end + 1) octet (omega (arith, placed.closed.room))

  now_open : octet ≡ 10 → IsGated after end messages
  now_open ten = subst (λ (l : List ℕ). IsGated l end messages)
      (sym (is_put ∙ ap (λ (n : ℕ). put_at before (end + 1) (n ∷ [])) ten)) placed.once_open

  -- whatever octet is at the gate
  may_add_set : MayAdd end messages before after
  may_add_set = record {
    front = sym same_front;
    lists = λ from list gated ends. ⊎_elim
        (λ ten. inr (gated_join end from before after list messages same_front ends gated (now_open ten)))
        (λ shut. inl (gated_at end from before after list same_front (still_closed shut) ends gated))
        (cases_eq octet 10);
  }

  pub may_add : MayAdd end messages before (put_at before (end + 1) (octet ∷ []))
  may_add = subst (λ l. MayAdd end messages before l) is_put may_add_set

  adds_set : octet ≡ 10 → Adds end messages before after
  adds_set ten = record {
    front = sym same_front;
    lists = λ from list gated ends. gated_join end from before after list messages same_front ends gated (now_open ten);
  }

pub adds : (before : List ℕ) (end : ℕ) (messages : List (List ℕ)) → IsPlaced before end messages
    → Adds end messages before (opened before end)
adds before end messages placed =
    subst (λ l. Adds end messages before l) (is_put before end 10 messages placed)
    (adds_set before end 10 messages placed refl)

pub may_add_same : (end : ℕ) (messages : List (List ℕ)) (octets : List ℕ) → MayAdd end messages octets octets
may_add_same end messages octets = record { front = refl; lists = λ from list gated ends. inl gated }

-- on a file with one image
module _ (file : Held) (end : ℕ) (messages : List (List ℕ)) (alone : IsAlone file)
    (placed : IsPlaced file.reads end messages) where
  -- while the gate is written
  pub while_opened : (reads : List ℕ) (image : List ℕ) → IsImage (touched_at file (end + 1) 1 reads) image
      → (before : List ℕ) × IsImage file before × MayAdd end messages before image
  while_opened reads image is = (
    file.reads,
    alone.reads,
    subst (λ l. MayAdd end messages file.reads l)
        (sym (one_octet file (end + 1) reads image alone (omega (arith, placed.closed.room)) is))
        (may_add file.reads end (get_or image (end + 1) 0) messages placed),
  )

  -- once it is settled
  pub once_opened : (now : Held) → now ≡ settled_at (opened file.reads end) → (image : List ℕ) → IsImage now image
      → (before : List ℕ) × IsImage file before × Adds end messages before image
  once_opened now settled image is = (
    file.reads,
    alone.reads,
    subst (λ l. Adds end messages file.reads l)
        (sym (settled_one (opened file.reads end) image (subst (λ (f : Held). IsImage f image) settled is)))
        (adds file.reads end messages placed),
  )

-- the calls of `open_gate`, one after the other
module _ {D S X : Type 0} (g : Ghosts D S X) (start : D) (file end : ℕ) (messages : List (List ℕ))
    (alone : IsAlone (g.held start file)) (placed : IsPlaced (g.held start file).reads end messages)
    (only_now : (image : ℕ → List ℕ) → g.left_since start (g.moment start) image → IsDiskImage (g.held start) image)
  where
    abbrev Opens : D → Type 0
    Opens now = LeavesOnly g start now (ComesOf (g.held start) (InFile file (MayAdd end messages)))

    pub inside_write : (mid : D) (reads : List ℕ)
        → Elapses (g.moment start) (g.moment mid) (g.left_since start) (g.left_since mid)
        (changed (g.held start) file (touched_at (g.held start file) (end + 1) 1 reads)) → Opens mid
    inside_write mid reads time =
        changes g start start mid file (MayAdd end messages)
        (touched_at (g.held start file) (end + 1) 1 reads)
        (starts g start file (MayAdd end messages) only_now (λ a is. may_add_same end messages a))
        (λ n differs. refl) time (while_opened (g.held start file) end messages alone placed reads)

    pub inside_sync : (mid new : D) (reads : List ℕ) → Opens mid
        → g.held mid file ≡ touched_at (g.held start file) (end + 1) 1 reads
        → ((n : ℕ) → n ≢ file → g.held mid n ≡ g.held start n)
        → Elapses (g.moment mid) (g.moment new) (g.left_since mid) (g.left_since new) (g.held mid) → Opens new
    inside_sync mid new reads so_far wrote others time =
        stays g start mid new file (MayAdd end messages) so_far others time
        (λ image is. while_opened (g.held start file) end messages alone placed reads image
        (subst (λ (f : Held). IsImage f image) wrote is))
