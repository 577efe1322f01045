-- Files, and octets that are accepted to their end.
use Rattle.std.proofs.Common.{inl, inr, ℕ, ◌+◌, List, [], ◌∷◌, ◌++◌, length, refl, sym, ap, ◌∙◌}
use Rattle.std.specs.List.{AllByRecursion}
use Rattle.std.proofs.lemmas.List.{append-nil}
use Rattle.flow_codec.specs.declared.file.FileError.{FileError}
use Rattle.flow_codec.specs.Raw.{RawMessage}
use Rattle.flow_codec.specs.Templates.{AllTemplates}
use Rattle.flow_codec.specs.Message.{joined}
use Rattle.flow_codec.specs.Cutting.{IsCutOff, IsDivided}
use Rattle.flow_codec.specs.File.{AreMessages, IsFile, AreAccepted, AcceptedFront, whole, broken}
use Rattle.flow_codec.proofs.Dividing.{none_has_no_fault, last_anywhere, has_one_division}

accepted_are : (before : AllTemplates) (parts : List (List ℕ)) (messages : List RawMessage) (after : AllTemplates)
    → AreAccepted before parts messages after → AreMessages before parts messages after
accepted_are before [] [] after same = same
accepted_are before [] (m ∷ ms) after h = h
accepted_are before (o ∷ os) [] after h = h
accepted_are before (o ∷ os) (m ∷ ms) after (next, cut, accepted, more) =
    (next, cut, accepted.0, accepted_are next os ms after more)

accepted_cut : (before : AllTemplates) (parts : List (List ℕ)) (messages : List RawMessage) (after : AllTemplates)
    → AreAccepted before parts messages after → AllByRecursion IsCutOff parts
accepted_cut before [] ms after h = tt
accepted_cut before (o ∷ os) [] after h = absurd h
accepted_cut before (o ∷ os) (m ∷ ms) after (next, cut, accepted, more) = (cut, accepted_cut next os ms after more)

messages_cut : (before : AllTemplates) (parts : List (List ℕ)) (messages : List RawMessage) (after : AllTemplates)
    → AreMessages before parts messages after → AllByRecursion IsCutOff parts
messages_cut before [] ms after h = tt
messages_cut before (o ∷ os) [] after h = absurd h
messages_cut before (o ∷ os) (m ∷ ms) after (next, cut, is, more) = (cut, messages_cut next os ms after more)

pub whole_is_file : (octets : List ℕ) (messages : List RawMessage) (after : AllTemplates)
    → AcceptedFront octets messages after whole → IsFile octets messages after
whole_is_file octets messages after front = record {
  parts = front.parts;
  whole = front.divided ∙ ap (λ (xs : List ℕ). joined front.parts ++ xs) front.end ∙ append-nil (joined front.parts);
  each = accepted_are [] front.parts messages after front.accepted;
}

pub file_unbroken : (octets : List ℕ) (messages others : List RawMessage) (after then : AllTemplates)
    (fault : FileError) → IsFile octets messages after → AcceptedFront octets others then (broken fault) → ⊥
file_unbroken octets messages others after then fault file front =
    let one = has_one_division octets in
    let mine : IsDivided octets file.parts [] = record {
      whole = file.whole ∙ sym (append-nil (joined file.parts));
      each = messages_cut [] file.parts messages after file.each;
    } in
    let theirs : IsDivided octets front.parts front.rest = record {
      whole = front.divided;
      each = accepted_cut [] front.parts others then front.accepted;
    } in
    let none = one.alone file.parts [] mine (inl refl) in
    let size = length (joined front.parts) in
    let last = last_anywhere (0 + size) size front.rest (inr (fault, front.end)) in
    let left = one.alone front.parts front.rest theirs last in
    none_has_no_fault (0 + size) front.rest fault (left.1 ∙ sym none.1) front.end
