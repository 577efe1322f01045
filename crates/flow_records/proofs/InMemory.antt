-- Lines of the records of messages in memory.
use Rattle.std.proofs.Common.{◌≡◌, ◌∙◌, ℕ, ◌+◌, ◌<◌, List, [], ◌∷◌, ◌++◌, length, take, get_or, refl, sym, ap, subst}
use Rattle.std.proofs.Common.{append-nil}
use Rattle.std.specs.Prelude.{Option, Result, Ok, Err, OnOk}
use Rattle.flow_codec.specs.Message.{IsAccepted}
use Rattle.flow_codec.specs.Raw.{under, Placed, RawMessage}
use Rattle.flow_codec.specs.Templates.{AllTemplates}
use Rattle.flow_codec.proofs.FaultLaws.{one_state}
use Rattle.flow_measure.specs.History.{templates_from, Accepted, AreAcceptedFrom}
use Rattle.flow_segment.specs.Carry.{octets_of}
use Rattle.flow_segment.specs.PartFlows.{records_in}
use Rattle.flow_segment.specs.Prefix.{IsRestated}
use Rattle.flow_snapshot.specs.Found.{AreAccepted}
use Rattle.flow_snapshot.proofs.Finding.{message_behind, AreBehind}
use Rattle.flow_snapshot.proofs.KeptFlows.{message_told, taken_next, Next, Taken}
use Rattle.flow_records.specs.declared.listing.Listing.{Listing}
use Rattle.flow_records.specs.declared.refusal.RecordsRefusal.{RecordsRefusal}
use Rattle.flow_records.specs.Listing.{IsBlameless, StaysSo, TellsFrontOf, TellsOf, TellsOwn}
use Rattle.flow_records.specs.Records.{records_within}
use Rattle.flow_records.proofs.Within.{messages_within}
use Rattle.flow_records.proofs.Telling.{cut_longer, same_records, same_within, told_cut, told_more, IsFound}

-- the lines of these messages' records came
abbrev pub HasLines : Listing → Option (List ℕ) → Option (List ℕ) → Listing → List Accepted → Type 0
HasLines old was now mid messages =
    TellsOf old was now mid (records_within old.chosen.from old.chosen.to (records_in messages))

-- the next message was accepted
pub next_behind : (mid new : Listing) (now next : Option (List ℕ)) (before templates after : AllTemplates)
    (list : List (List ℕ)) (i : ℕ) (item here : List ℕ) → i < length list → item ≡ get_or list i item → here ≡ item
    → AreBehind before (take i list) templates → IsFound mid now next new here templates after
    → AreBehind before (take (i + 1) list) after
next_behind mid new now next before templates after list i item here within is same behind (m, accepted, told) =
    message_behind before templates after list i item here within is same behind
    (record { octets = here; message = m; after = after }, refl, accepted)
    (λ a octets has. one_state templates here m a.message after a.after accepted has)

-- messages that are accepted, and the lines of their records
pub own_told : {X : Type 0} (old new : Listing) (was now : Option (List ℕ)) (prefix : List ℕ) (messages : List (List ℕ))
    (before : AllTemplates) (r : Result X RecordsRefusal) → IsRestated prefix before
    → OnOk r (AreAccepted before messages)
    → ((list : List Accepted) → AreAcceptedFrom before list → octets_of list ≡ messages
    → OnOk r (TellsOf old was now new (records_within old.chosen.from old.chosen.to (records_in list))))
    → OnOk r (TellsOwn old was now new (record { prefix = prefix; messages = messages }))
own_told old new was now prefix messages before (Ok x) restated (list, accepted, is) told = (
  records_within old.chosen.from old.chosen.to (records_in list),
  (before, list, restated, accepted, is, refl),
  told list accepted is,
)
own_told old new was now prefix messages before (Err e) restated found told = tt

alone_in : (from to : ℕ) (own : List Accepted) (a : Accepted) → own ≡ a ∷ []
    → records_within from to (records_in own) ≡ records_within from to (under a.message.header a.message.records)
alone_in from to own a is =
    ap (λ (ms : List Accepted). records_within from to (records_in ms)) is
    ∙ ap (records_within from to) (append-nil (under a.message.header a.message.records))

module _ (old mid : Listing) (was now : Option (List ℕ)) (before templates : AllTemplates) (list : List Accepted)
    (here : List ℕ) (left : List (List ℕ)) (accepted : AreAcceptedFrom before list)
    (taken : Taken (HasLines old was now mid) before list (here ∷ left) templates) (same : StaysSo old mid) where
  abbrev within : List Accepted → List Placed
  within messages = records_within old.chosen.from old.chosen.to (records_in messages)

  abbrev own_of : Accepted → List Placed
  own_of a = under a.message.header a.message.records

  module _ (next : Option (List ℕ)) where
    -- the next message more
    pub after_more : (new : Listing) (after : AllTemplates) → IsFound mid now next new here templates after
        → Taken (HasLines old was next new) before list left after
    after_more new after (m, is, told) =
        by (message_told (HasLines old was now mid)
        (λ a. (after ≡ a.after)
        × TellsOf mid now next new (records_within mid.chosen.from mid.chosen.to (own_of a))) before templates list here
        left accepted taken each)
      where
        each : (a : Accepted) → a.octets ≡ here → IsAccepted here templates a.message a.after → (after ≡ a.after)
            × TellsOf mid now next new (records_within mid.chosen.from mid.chosen.to (own_of a))
        each a octets has = (
          one_state templates here m a.message after a.after is has,
          subst (TellsOf mid now next new)
              (same_records mid.chosen.from mid.chosen.to here templates after a.after m a.message is has) told,
        )

        by : (a : Accepted) × (n : Next (HasLines old was now mid) before list (here ∷ []) left templates)
            × (n.own ≡ a ∷ []) × ((after ≡ a.after)
            × TellsOf mid now next new (records_within mid.chosen.from mid.chosen.to (own_of a)))
            → Taken (HasLines old was next new) before list left after
        by (a, n, own, (moved, lines)) =
            taken_next (HasLines old was now mid) (HasLines old was next new) before list (here ∷ []) left templates
            after n (moved ∙ ap (templates_from templates) (sym own))
            (subst (TellsOf old was next new) (sym (messages_within old.chosen.from old.chosen.to n.front n.own))
            (told_more old mid new was now next (within n.front) (within n.own) same n.has
            (subst (TellsOf mid now next new)
            (same_within old mid (own_of a) same
            ∙ sym (alone_in old.chosen.from old.chosen.to n.own a own)) lines)))

    -- a prefix of the next message's lines
    pub after_cut : (e : RecordsRefusal)
        → ((m : RawMessage) (after : AllTemplates) → IsAccepted here templates m after → IsBlameless e
        × TellsFrontOf mid now next (records_within mid.chosen.from mid.chosen.to (under m.header m.records)))
        → IsBlameless e × TellsFrontOf old was next (within list)
    after_cut e told =
        by (message_told (HasLines old was now mid)
        (λ a. IsBlameless e
        × TellsFrontOf mid now next (records_within mid.chosen.from mid.chosen.to (own_of a))) before templates list here
        left accepted taken (λ a octets has. told a.message a.after has))
      where
        by : (a : Accepted) × (n : Next (HasLines old was now mid) before list (here ∷ []) left templates)
            × (n.own ≡ a ∷ []) × (IsBlameless e
            × TellsFrontOf mid now next (records_within mid.chosen.from mid.chosen.to (own_of a)))
            → IsBlameless e × TellsFrontOf old was next (within list)
        by (a, n, own, (blameless, front)) =
            let from = old.chosen.from in
            let to = old.chosen.to in
            let parted : within list ≡ (within n.front ++ within n.own) ++ within n.rest =
            ap within n.whole ∙ messages_within from to (n.front ++ n.own) n.rest
            ∙ ap (λ (l : List Placed). l ++ within n.rest) (messages_within from to n.front n.own) in (
              blameless,
              subst (TellsFrontOf old was next) (sym parted)
                  (cut_longer old was next (within n.front ++ within n.own) (within n.rest)
                  (told_cut old mid mid was now next (within n.front) (within n.own) same n.has
                  (subst (TellsFrontOf mid now next)
                  (same_within old mid (own_of a) same ∙ sym (alone_in from to n.own a own)) front))),
            )
