use Rattle.std.proofs.Common.{◌≡◌, ℕ, ◌<◌, true, List, ◌∷◌, refl, sym, subst, IsTrue, arith}
use Rattle.flow_disk.specs.Disk.{Held, IsImage, AllImages}
use Rattle.flow_disk.proofs.Results.{on_ok_by}
use Rattle.flow_manifest.specs.declared.manifest.Manifest.{Manifest}
use Rattle.flow_manifest.specs.declared.slots.Slot.TheVariants.{First}
use Rattle.flow_manifest.specs.declared.slots.Slots.{Slots}
use Rattle.flow_manifest.specs.Manifest.{IsValidManifest, manifest_octets, format_2}
use Rattle.flow_manifest.specs.Slots.{open_gate, Holds, AreSlots}
use Rattle.flow_manifest.proofs.creating.create_slots.Goals as goal

-- a file holds only this
abbrev IsOnly : Held → List ℕ → Type 0
IsOnly file wanted = (octets : List ℕ) → IsImage file octets → octets ≡ wanted

written : (octets body : List ℕ) (m : Manifest) → IsValidManifest m → body ≡ manifest_octets m
    → octets ≡ open_gate ∷ body → Holds octets m
written octets body m valid is now =
    subst (λ (l : List ℕ). Holds l m) (sym now)
    (record { gate = refl; body = record { valid = valid; format = format_2; said = tt; is = is } })

abbrev created_slots : Manifest → Slots
created_slots m = record { current = m; current_slot = First; other_open = true }

created : (files : ℕ → Held) (m n : Manifest) (first older : List ℕ) → IsValidManifest m → IsValidManifest n
    → n.generation < m.generation → first ≡ manifest_octets m → older ≡ manifest_octets n
    → IsOnly (files 2) (open_gate ∷ older) → IsOnly (files 1) (open_gate ∷ first)
    → AllImages files (AreSlots (created_slots m))
created files m n first older valid valid_older lt is_first is_older two one image is = record {
  current = written (image 1) first m valid is_first (one (image 1) (is 1));
  beside = (n, written (image 2) older n valid_older is_older (two (image 2) (is 2)), lt);
}

pub returns-clause-told : goal.returns-clause-told
returns-clause-told g c h m n valid valid_older lt is_first is_older =
    let D = g.D.Disk in
    let new = c.write_slot-2.new.disk in
    let first = c.args.first.now in
    let older = c.args.older.now in
    let h1 = subst IsTrue (sym c.write_slot.ensures.call.honest) h in
    let two : IsOnly (D.held new 2) (open_gate ∷ older) =
    λ octets is. c.in_ok-write_slot.ensures.after h octets
    (subst (λ (f : Held). IsImage f octets) (c.write_slot-2.ensures.call.other_files h1 2
    (λ same. absurd (omega arith))) is) in
    on_ok_by c.write_slot-2.result (IsOnly (D.held new 1) (open_gate ∷ first))
    (AllImages (D.held new) (AreSlots (created_slots m)))
    (created (D.held new) m n first older valid valid_older lt is_first is_older two)
    (c.write_slot-2.ensures.after h1)
