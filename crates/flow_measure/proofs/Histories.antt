-- Messages accepted, and read, one after the other.
use Rattle.std.proofs.Common.{◌≡◌, ℕ, suc, List, [], ◌∷◌, ◌++◌, length, map, refl, ap, ◌∙◌, append-nil, arith}
use Rattle.std.specs.Prelude.{Result, Ok, Err}
use Rattle.std.proofs.lemmas.List.Concat.{flat_map-append}
use Rattle.flow_codec.specs.declared.error.MessageError.{MessageError}
use Rattle.flow_codec.specs.Message.{in_fields, IsAccepted}
use Rattle.flow_codec.specs.Raw.{RawMessage, under}
use Rattle.flow_codec.specs.Reading.{message_at}
use Rattle.flow_codec.specs.Templates.{AllTemplates}
use Rattle.flow_codec.proofs.MessageLaws.{message_again}
use Rattle.flow_measure.specs.declared.flow.Flow.{Flow}
use Rattle.flow_measure.specs.Flows.{flows_of, flows_of_records}
use Rattle.flow_measure.specs.History.{Accepted, AreAcceptedFrom, flows_in, followed_by, read_from, templates_from}
use Rattle.flow_measure.proofs.SinkSteps.{flows-in_fields}

-- a message after those that were all read is read after them
pub read_then : (before : AllTemplates) (os : List (List ℕ)) (o : List ℕ) (m : RawMessage) (after : AllTemplates)
    → length (read_from before os) ≡ length os
    → message_at (templates_from before (read_from before os)) o ≡ Ok (m, after)
    → read_from before (os ++ o ∷ []) ≡ read_from before os ++ record { octets = o; message = m; after = after } ∷ []
read_then before [] o m after n e = ap (followed_by o (λ (t : AllTemplates). read_from t [])) e
read_then before (p ∷ ps) o m after n e = by (message_at before p) (λ t. read_then t ps o m after) n e
  where
    by : (r : Result (RawMessage × AllTemplates) MessageError)
        → ((t : AllTemplates) → length (read_from t ps) ≡ length ps
        → message_at (templates_from t (read_from t ps)) o ≡ Ok (m, after)
        → read_from t (ps ++ o ∷ []) ≡ read_from t ps ++ record { octets = o; message = m; after = after } ∷ [])
        → length (followed_by p (λ t. read_from t ps) r) ≡ suc (length ps)
        → message_at (templates_from before (followed_by p (λ t. read_from t ps) r)) o ≡ Ok (m, after)
        → followed_by p (λ t. read_from t (ps ++ o ∷ [])) r ≡ followed_by p (λ t. read_from t ps) r
        ++ record { octets = o; message = m; after = after } ∷ []
    by (Ok x) more n e =
        ap (λ (t : List Accepted). record { octets = p; message = x.0; after = x.1 } ∷ t)
        (more x.1 (omega (arith, n)) e)
    by (Err f) more n e = absurd (omega (arith, n))

-- the same of an accepted message
pub read_behind : (before : AllTemplates) (os : List (List ℕ)) (a : Accepted)
    → length (read_from before os) ≡ length os
    → IsAccepted a.octets (templates_from before (read_from before os)) a.message a.after
    → read_from before (os ++ a.octets ∷ []) ≡ read_from before os ++ a ∷ []
read_behind before os a n is = read_then before os a.octets a.message a.after n
    (message_again (templates_from before (read_from before os)) a.octets a.message a.after is)

-- accepted messages are read from their octets
pub read_again : (before : AllTemplates) (xs : List Accepted) → AreAcceptedFrom before xs
    → read_from before (map (λ (a : Accepted). a.octets) xs) ≡ xs
read_again before [] h = refl
read_again before (x ∷ xs) h =
    ap (followed_by x.octets (λ t. read_from t (map (λ (a : Accepted). a.octets) xs)))
    (message_again before x.octets x.message x.after h.0)
    ∙ ap (λ (t : List Accepted). x ∷ t) (read_again x.after xs h.1)

pub accepted_then : (before : AllTemplates) (xs : List Accepted) (a : Accepted) → AreAcceptedFrom before xs
    → IsAccepted a.octets (templates_from before xs) a.message a.after → AreAcceptedFrom before (xs ++ a ∷ [])
accepted_then before [] a h is = (is, tt)
accepted_then before (x ∷ xs) a h is = (h.0, accepted_then x.after xs a h.1 is)

pub after_then : (before : AllTemplates) (xs : List Accepted) (a : Accepted)
    → templates_from before (xs ++ a ∷ []) ≡ a.after
after_then before [] a = refl
after_then before (x ∷ xs) a = after_then x.after xs a

pub flows_then : (xs : List Accepted) (a : Accepted)
    → flows_in (xs ++ a ∷ []) ≡ flows_in xs ++ flows_of_records (under a.message.header a.message.records)
flows_then xs a =
    flat_map-append (λ (x : Accepted). flows_of (in_fields x.message)) xs (a ∷ [])
    ∙ ap (λ (t : List Flow). flows_in xs ++ t) (append-nil (flows_of (in_fields a.message))
    ∙ flows-in_fields a.message)
