-- What events make of a history.
use Rattle.std.proofs.Common.{◌≡◌, ◌≢◌, ℕ, ◌≤◌, Bool, true, List, [], ◌∷◌, ◌++◌, length, refl, sym, ◌∙◌, ap, subst, arith}
use Rattle.flow_manifest.specs.declared.following.JobKind.{JobKind}
use Rattle.flow_manifest.specs.declared.following.JobKind.TheVariants.{Roll, Merge}
use Rattle.flow_manifest.specs.Following.{count_of, front_of, messages_of, source_of, sources_of}
use Rattle.flow_manifest.specs.Manifest.{IsValidManifest}
use Rattle.flow_measure.specs.History.{History}
use Rattle.flow_rolled.specs.Rollup.{IsRollup}
use Rattle.flow_segment.specs.Carry.{Carry, octets_of, prefix_of}
use Rattle.flow_model.specs.Changes.{added, history_after, installed, merged}
use Rattle.flow_model.specs.Jobs.{history_made, replaced, replaced_parts, table_made, width_made}
use Rattle.flow_model.specs.State.{Job, Part, StagedFile, State, appended, after_seal, reopened}
use Rattle.flow_model.specs.Chain.{HandsOn, IsSegment}
use Rattle.flow_model.specs.Shelved.{HasHistory}
use Rattle.flow_model.specs.Standing.{PartsStand, StandsFor}
use Rattle.flow_model.proofs.History.{append_follows, seal_follows}
use Rattle.flow_model.proofs.ReplacedHistory.{history_replaced, sources_hold}
use Rattle.flow_archive.specs.Answers.{AreAccepted, IsSealed, MaySeal}
use Rattle.flow_archive.specs.JobAnswers.{IsJobFile}
use Rattle.flow_archive.proofs.Shelves.{made_rollup, with_octets}

-- ---- a state that an image represents

pub record IsSound (s : State) : Type 0 where
  pub valid : IsValidManifest s.manifest
  pub carry : Carry
  pub hands : HandsOn s carry
  pub image : ℕ → List ℕ
  pub stand : PartsStand image (front_of s.manifest) s.parts

pub sound_of : (image : ℕ → List ℕ) (s : State) → StandsFor image (reopened s) → IsSound s
sound_of image s stands =
    let chained = stands.files.chained in
    record {
      valid = subst IsValidManifest stands.force.1 stands.force.2.current.body.valid;
      carry = chained.0;
      hands = record { sealed = chained.1.sealed; parts = chained.1.parts; active = chained.1.active };
      image = image;
      stand = stands.files.parts;
    }

hands_as : (s : State) (c own : Carry) → HandsOn s c → IsSegment s.active own → HandsOn s own
hands_as s c own hands segment = record {
  sealed = hands.sealed;
  parts = hands.parts;
  active = (own, hands.active.1, segment, refl);
}

-- ---- events

pub append_means : (s behind : State) (messages : List (List ℕ)) (h : History) → IsSound s → AreAccepted s messages
    → behind ≡ appended s messages → HasHistory s h → HasHistory behind (history_after h (added messages))
append_means s behind messages h sound (own, new, segment, taken) is has =
    let more = taken.0 in
    let hands = hands_as s sound.carry own sound.hands segment in
    subst (λ (t : State). HasHistory t (history_after h (added messages))) (sym is)
    (subst (λ (x : List (List ℕ)). HasHistory (appended s x) (history_after h (added x))) taken.1
    (append_follows s own more h sound.valid hands taken.2 has))

some_there : (xs : List (List ℕ)) → xs ≢ [] → 1 ≤ length xs
some_there [] some = absurd (some refl)
some_there (x ∷ xs) some = omega arith

pub seal_means : (s behind : State) (h : History) → IsSound s → MaySeal s → IsSealed true s behind → HasHistory s h
    → HasHistory behind h
seal_means s behind h sound may (own, sealed, segment, same, is) has =
    let hands = hands_as s sound.carry own sound.hands segment in
    let moved : behind ≡ after_seal s (prefix_of own) =
    is ∙ ap (λ (p : Part). record (after_seal s (prefix_of own)) { parts = s.parts ++ p ∷ [] }) (same refl) in
    subst (λ (t : State). HasHistory t h) (sym moved)
    (seal_follows s own h sound.valid hands (some_there s.active.messages may.some) has)

pub install_means : (s behind : State) (job : Job) (file : StagedFile) (octets : List ℕ) (h : History) → IsSound s
    → job.sources ≤ count_of (source_of job.kind) s.manifest.entries → IsJobFile s job file.octets → octets ≡ file.octets
    → behind ≡ with_octets s job.kind job.sources file octets → HasHistory s h
    → HasHistory behind
    (history_made job.kind (messages_of (sources_of job.kind job.sources s.manifest.entries)) h)
install_means s behind job file octets h sound few means same is has =
    let moved : behind ≡ replaced s job.kind job.sources file =
    is ∙ ap (with_octets s job.kind job.sources file) same in
    let messages = messages_of (sources_of job.kind job.sources s.manifest.entries) in
    let table = sources_hold s sound.carry h sound.valid sound.hands sound.image sound.stand has job.kind job.sources
    few means.0 means.2 in
    let rollup : IsRollup (width_made job.kind s.manifest) file.octets (table_made job.kind s.manifest messages h) =
    subst (IsRollup (width_made job.kind s.manifest) file.octets) table means.1 in
    subst (λ (t : State). HasHistory t (history_made job.kind messages h)) (sym moved)
    (history_replaced s sound.carry h sound.valid sound.hands sound.image sound.stand has job.kind job.sources file few
    rollup)
