use Rattle.std.proofs.Common.{◌≡◌, ◌≢◌, ⊎_elim, ℕ, false, IsTrue, [], ◌∷◌, sym, ◌∙◌, ap, subst, arith}
use Rattle.std.proofs.lemmas.Bool.{cases_eq}
use Rattle.flow_disk.specs.Disk.{Held, Marks, IsImage}
use Rattle.flow_manifest.specs.declared.slots.Slot.{Slot}
use Rattle.flow_manifest.specs.declared.slots.Slot.TheVariants.{First, Second}
use Rattle.flow_manifest.specs.Slots.{file_of}
use Rattle.flow_model.specs.State.{first_manifest}
use Rattle.flow_archive.proofs.Empty.{known_empty}
use Rattle.flow_archive.proofs.creating.make_files.Goals as goal

thawed_one : (old new : ℕ → Marks) (file : ℕ) → ((n : ℕ) → n ≢ file → new n ≡ old n) → (new file).frozen ≡ false
    → ((n : ℕ) → (old n).frozen ≡ false) → (n : ℕ) → (new n).frozen ≡ false
thawed_one old new file others here all n = ⊎_elim (λ same. ap (λ (k : ℕ). (new k).frozen) same ∙ here)
    (λ other. ap (λ (k : Marks). k.frozen) (others n other) ∙ all n) (cases_eq n file)

thawed_slots : (old new : ℕ → Marks) → ((n : ℕ) → n ≢ 1 → n ≢ 2 → new n ≡ old n)
    → ((slot : Slot) → (new (file_of slot)).frozen ≡ false) → ((n : ℕ) → (old n).frozen ≡ false) → (n : ℕ)
    → (new n).frozen ≡ false
thawed_slots old new others here all n = ⊎_elim (λ one. ap (λ (k : ℕ). (new k).frozen) one ∙ here First)
    (λ not_one. ⊎_elim (λ two. ap (λ (k : ℕ). (new k).frozen) two ∙ here Second)
    (λ not_two. ap (λ (k : Marks). k.frozen) (others n not_one not_two) ∙ all n) (cases_eq n 2)) (cases_eq n 1)

pub returns-in_err-make_segment-clause-thawed : goal.returns-in_err-make_segment-clause-thawed
returns-in_err-make_segment-clause-thawed g c n =
    let D = g.D.Disk in
    thawed_one (D.marks c.args.disk.now) (D.marks c.make_segment.new.disk) 3 c.make_segment.ensures.call.other_marks
    c.make_segment.ensures.call.thawed c.requires.thawed n

pub returns-in_err-create_slots-clause-thawed : goal.returns-in_err-create_slots-clause-thawed
returns-in_err-create_slots-clause-thawed g c n =
    let D = g.D.Disk in
    let before = thawed_one (D.marks c.args.disk.now) (D.marks c.make_segment.new.disk) 3
    c.make_segment.ensures.call.other_marks c.make_segment.ensures.call.thawed c.requires.thawed in
    thawed_slots (D.marks c.make_segment.new.disk) (D.marks c.create_slots.new.disk) c.create_slots.ensures.other_marks
    c.create_slots.ensures.thawed before n

pub returns-clause-thawed : goal.returns-clause-thawed
returns-clause-thawed g c n =
    let D = g.D.Disk in
    let before = thawed_one (D.marks c.args.disk.now) (D.marks c.make_segment.new.disk) 3
    c.make_segment.ensures.call.other_marks c.make_segment.ensures.call.thawed c.requires.thawed in
    thawed_slots (D.marks c.make_segment.new.disk) (D.marks c.create_slots.new.disk) c.create_slots.ensures.other_marks
    c.create_slots.ensures.thawed before n

pub returns-clause-ready : goal.returns-clause-ready
returns-clause-ready g c =
    let D = g.D.Disk in
    let d1 = c.make_segment.new.disk in
    let d2 = c.create_slots.new.disk in
    let before = thawed_one (D.marks c.args.disk.now) (D.marks d1) 3
    c.make_segment.ensures.call.other_marks c.make_segment.ensures.call.thawed c.requires.thawed in
    let thawed = thawed_slots (D.marks d1) (D.marks d2) c.create_slots.ensures.other_marks
    c.create_slots.ensures.thawed before in
    let same : D.marks d2 3 ≡ D.marks d1 3 =
    c.create_slots.ensures.other_marks 3 (λ is. omega (arith, is)) (λ is. omega (arith, is)) in
    record {
      slot_room = c.in_ok-create_slots.ensures.room;
      slot_settled = c.in_ok-create_slots.ensures.settled;
      slot_thawed = c.create_slots.ensures.thawed;
      room = omega (arith, ap (λ (k : Marks). k.size) same, c.in_ok-make_segment.ensures.call.size);
      settled = ap (λ (k : Marks). k.settled) same ∙ c.in_ok-make_segment.ensures.call.settled;
      thawed = λ n which. thawed n;
    }

pub returns-clause-known : goal.returns-clause-known
returns-clause-known g c h width wide limit valid valid_older first_is older_is image is =
    let D = g.D.Disk in
    let d1 = c.make_segment.new.disk in
    let d2 = c.create_slots.new.disk in
    let h1 = subst IsTrue (sym c.make_segment.ensures.call.honest) h in
    let held : D.held d2 3 ≡ D.held d1 3 =
    c.create_slots.ensures.other_files h1 3 (λ is. omega (arith, is)) (λ is. omega (arith, is)) in
    let three : image 3 ≡ 0 ∷ 0 ∷ [] =
    g.met.D.Disk.settled_alone d1 3 (image 3) h1 c.in_ok-make_segment.ensures.call.settled
    (subst (λ (f : Held). IsImage f (image 3)) held (is 3)) ∙ c.in_ok-make_segment.ensures.octets h in
    known_empty width wide limit image three
    (c.in_ok-create_slots.ensures.told h1 (first_manifest 1 width wide limit) (first_manifest 0 width wide limit) valid
    valid_older (omega arith) first_is older_is image is)
