-- A sink of fields holds the message in fields.
use Rattle.std.proofs.Common.{◌≡◌, ℕ, List, [], ◌∷◌, ◌++◌, ◌⊎◌, inl, inr, refl, sym, ap, subst, ◌∙◌}
use Rattle.std.specs.Prelude.{map}
use Rattle.flow_codec.specs.declared.error.MessageError.{MessageError}
use Rattle.flow_codec.specs.declared.error.MessageError.TheVariants.{OutOfMemory}
use Rattle.flow_codec.specs.declared.sink.WalkError.{WalkError}
use Rattle.flow_codec.specs.declared.sink.WalkError.TheVariants.{Message, Sink}
use Rattle.flow_codec.specs.declared.message.Header.{Header}
use Rattle.flow_codec.specs.declared.message.DataRecord.{DataRecord}
use Rattle.flow_codec.specs.Templates.{AllTemplates}
use Rattle.flow_codec.specs.Raw.{RawRecord, Placed, under}
use Rattle.flow_codec.specs.Message.{interpreted}
use Rattle.flow_codec.specs.Fault.{IsFault}
use Rattle.flow_codec.specs.Walk.{IsStopped, IsFaultOf}

under_header : (header : Header) (raws : List RawRecord)
    → map (λ x. interpreted x.1) (under header raws) ≡ map interpreted raws
under_header header [] = refl
under_header header (r ∷ rs) = ap (λ (xs : List DataRecord). interpreted r ∷ xs) (under_header header rs)

pub records_are : (header : Header) (raws : List RawRecord) (first items : List DataRecord) → first ≡ []
    → items ≡ first ++ map (λ x. interpreted x.1) (under header raws) → items ≡ map interpreted raws
records_are header raws first items none e = e
    ∙ ap (λ (xs : List DataRecord). xs ++ map (λ x. interpreted x.1) (under header raws)) none
    ∙ under_header header raws

pub has_fault_of : {S E : Type 0} (holds : S → List Placed → S → Type 0) (refuses : S → List Placed → Placed → E
    → Type 0) (octets : List ℕ) (before : AllTemplates) (old : S) (w : WalkError E) (e : MessageError)
    → IsFaultOf w e → IsStopped holds refuses octets before old w → (e ≡ OutOfMemory) ⊎ IsFault octets before e
has_fault_of holds refuses octets before old (Message d) e is (inl none) = inl (is ∙ none)
has_fault_of holds refuses octets before old (Message d) e is (inr fault) =
    inr (subst (IsFault octets before) (sym is) fault)
has_fault_of holds refuses octets before old (Sink d) e is h = inl is
