-- The data Sets of a message without a definition in force, by reading and by its Sets.
use Rattle.std.proofs.Common.{◌≡◌, ℕ, zero, suc, ◌+◌, ◌-◌, ◌≤◌, List, [], ◌∷◌, ◌++◌, length, refl, ap, subst, ◌∙◌}
use Rattle.std.proofs.Common.{append_assoc, arith}
use Rattle.std.proofs.lemmas.List.{append-nil, length-append}
use Rattle.std.proofs.lemmas.List.Concat.{flat_map-cons}
use Rattle.flow_codec.specs.Raw.{RawRecord, RawMessage}
use Rattle.flow_codec.specs.Templates.{AllTemplates}
use Rattle.flow_codec.specs.Message.{header_octets, Division, content, set_octets, AreSets, IsMessage}
use Rattle.flow_codec.specs.Reading.{set_at}
use Rattle.flow_codec.specs.Unread.{unread_in, unread_at, unread_of, AreUnread}
use Rattle.flow_codec.proofs.SetLaws.{all_octets, set_again, content_again}
use Rattle.flow_codec.proofs.MessageLaws.{header_again}
use Rattle.flow_codec.proofs.UnreadLoop.{of_message}

of_sets : (n end domain : ℕ) (here : AllTemplates) (sets : List Division) (records : List RawRecord)
    (next : AllTemplates) → AreSets domain here sets records next → length (all_octets sets) ≤ n
    → AreUnread domain here sets (unread_at n end domain here (all_octets sets))
unfolding unread_at set_at
of_sets zero end domain here [] records next h le = refl
of_sets (suc n) end domain here [] records next h le = refl
of_sets zero end domain here (s ∷ ss) records next h le =
    let whole = flat_map-cons set_octets s ss in
    let len : length (all_octets (s ∷ ss)) ≡ length (set_octets s) + length (all_octets ss) =
    ap length whole ∙ length-append (set_octets s) (all_octets ss) in
    absurd (omega (arith, len))
of_sets (suc n) end domain here (s ∷ ss) records next h le =
    let rest = all_octets ss in
    let octets = set_octets s ++ rest in
    let whole : all_octets (s ∷ ss) ≡ octets = flat_map-cons set_octets s ss in
    let len : length (all_octets (s ∷ ss)) ≡ length (set_octets s) + length rest = ap length whole
    ∙ length-append (set_octets s) rest in
    let first = set_again (end - length octets) s.id (content s) rest (h.3).id (h.3).fits in
    let second = content_again (end - length rest) domain here s h.0 h.2 h.3 in
    let one : unread_at (suc n) end domain here octets ≡ unread_in domain here s.id (content s)
    ++ unread_at n end domain h.2 rest = rw (first, second) refl in (
      h.0,
      h.2,
      unread_at n end domain h.2 rest,
      h.3,
      of_sets n end domain h.2 ss h.1 next h.4 (omega (arith, len)),
      ap (unread_at (suc n) end domain here) whole ∙ one,
    )

pub are_unread : (octets : List ℕ) (before after : AllTemplates) (m : RawMessage) (h : IsMessage octets before m after)
    → AreUnread m.header.domain before h.sets (unread_of before octets)
are_unread octets before after m h =
    let rest = all_octets h.sets in
    let parts : octets ≡ header_octets m.header ++ rest = h.parts ∙ append_assoc (header_octets m.header) rest []
    ∙ ap (λ (t : List ℕ). header_octets m.header ++ t) (append-nil rest) in
    let header = header_again m.header rest octets h.fits parts h.len in
    subst (λ (unread : List Division). AreUnread m.header.domain before h.sets unread)
    (of_message before octets m.header rest header)
    (of_sets (length rest) (length octets) m.header.domain before h.sets m.records after h.hold (omega arith))
