-- The messages before the place that a reader of a File reached.
use Rattle.std.proofs.Common.{◌≡◌, ℕ, ◌-◌, ◌^◌, List, [], length, Option, None, Some, IfSome, refl, sym, subst}
use Rattle.std.proofs.Common.{append-nil, append_assoc, ◌++◌, ◌⊎◌, inl, inr, ap, ◌∙◌, arith}
use Rattle.flow_codec.specs.Raw.{RawMessage}
use Rattle.flow_codec.specs.Templates.{AllTemplates}
use Rattle.std.specs.Io.KnownBytes.{Keeps, prepend_known}
use Rattle.flow_codec.specs.declared.file.FileError.TheVariants.{Cut}
use Rattle.flow_codec.specs.Cutting.{IsFileFault}
use Rattle.flow_codec.specs.File.{AcceptedFront, whole, broken}
use Rattle.flow_codec.specs.Message.{joined}
use Rattle.flow_codec.specs.Stream.{ReaderState, Progress, progress, IsMessageNext, IsUnfinished}
use Rattle.flow_codec.proofs.Following.{Follows}
use Rattle.flow_report.specs.Fronts.{IsFront, IsSpentFront, IsReadFront}

-- a reader that was made now
pub opened : (reader : ReaderState) (input : Option (List ℕ))
    → reader ≡ record { ahead = []; message = []; count = 0; at = 0; stopped = None }
    → progress reader input ≡ record { rest = input; message = []; count = 0; at = 0; stopped = None }
opened reader None is = ap (λ (r : ReaderState). progress r None) is
opened reader (Some octets) is = ap (λ (r : ReaderState). progress r (Some octets)) is

-- a reader has these octets, and its input these left, where reading failed: there is no whole message in them
abbrev pub IsShort : Progress → List ℕ → Option (List ℕ) → Type 0
IsShort reader ahead unread = Keeps reader.rest (prepend_known ahead unread) × IsUnfinished reader.at ahead

pub reached : (input left : Option (List ℕ)) (at : ℕ) (messages : List RawMessage) (here : AllTemplates)
    → Follows input left at messages here → IfSome input (λ octets. IsFront octets messages)
reached None left at messages here so_far = tt
reached (Some octets) left at messages here (rest, is, run) = (
  joined run.parts,
  rest,
  run.divided,
  here,
  record {
    parts = run.parts;
    rest = [];
    divided =
        sym (append-nil (joined run.parts));
    accepted = run.accepted;
    end = refl;
  },
)

pub spent_at : (input left : Option (List ℕ)) (at : ℕ) (messages : List RawMessage) (here : AllTemplates)
    → Follows input left at messages here → length messages ≡ 2 ^ 48 - 1 → IsMessageNext left
    → IfSome input (λ octets. IsSpentFront octets messages)
spent_at None left at messages here so_far count next = tt
spent_at (Some octets) left at messages here (rest, is, run) count next = (
  count,
  joined run.parts,
  rest,
  run.divided,
  subst IsMessageNext is next,
  here,
  record {
    parts = run.parts;
    rest = [];
    divided = sym (append-nil (joined run.parts));
    accepted = run.accepted;
    end =
        refl;
  },
)

-- the messages after which reading failed are all the whole messages in the octets that were read
pub read_up : (input left unread : Option (List ℕ)) (at : ℕ) (messages : List RawMessage) (here : AllTemplates)
    (ahead : List ℕ) → Follows input left at messages here → Keeps left (prepend_known ahead unread)
    → IsUnfinished at ahead → IfSome input (λ octets. IsReadFront octets unread messages)
read_up None left unread at messages here ahead so_far kept short = tt
read_up (Some octets) left None at messages here ahead (rest, is, run) kept short =
    absurd (subst (λ (o : Option (List ℕ)). Keeps o None) is kept)
read_up (Some octets) left (Some more) at messages here ahead (rest, is, run) kept short = (
  joined run.parts ++ ahead,
  here,
  run.divided ∙ ap (λ (l : List ℕ). joined run.parts ++ l) (sym same)
      ∙ sym (append_assoc (joined run.parts) ahead more),
  ends short,
)
  where
    same : ahead ++ more ≡ rest
    same = subst (λ (o : Option (List ℕ)). Keeps o (Some (ahead ++ more))) is kept

    read : List ℕ
    read = joined run.parts ++ ahead

    ends : IsUnfinished at ahead → AcceptedFront read messages here whole
        ⊎ ((place : ℕ) × AcceptedFront read messages here (broken (Cut place)))
    ends (inl none) = inl (record {
      parts = run.parts;
      rest = ahead;
      divided = refl;
      accepted = run.accepted;
      end = none;
    })
    ends (inr cut) = inr (
      at,
      record {
        parts = run.parts;
        rest = ahead;
        divided = refl;
        accepted = run.accepted;
        end = subst (λ (n : ℕ). IsFileFault n ahead (Cut at)) (run.place ∙ omega arith) cut;
      },
    )
