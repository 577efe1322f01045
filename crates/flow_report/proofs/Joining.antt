-- How text goes to a writer, piece after piece.
use Rattle.std.proofs.Common.{◌≡◌, ℕ, List, [], ◌++◌, length, take, drop, Option, refl, sym, ap, ◌∙◌, subst}
use Rattle.std.proofs.Common.{append_assoc, append-nil, length-append, arith}
use Rattle.std.proofs.lemmas.List.{take-append-drop, take_at}
use Rattle.std.specs.Io.KnownBytes.{Appends}
use Rattle.std.proofs.KnownBytes.{Appends-nil, Appends-trans}
use Rattle.flow_report.specs.Writing.{AppendsFront}
use Rattle.flow_report.specs.Telling.{Tells, TellsFront}

-- the text that comes is held
pub holds_more : (known : Option (List ℕ)) (held text new : List ℕ) → new ≡ held ++ text
    → Tells known held known new text
holds_more known held text new e = record { written = []; parts = sym e; grown = Appends-nil known }

pub none_told : (known : Option (List ℕ)) (held text : List ℕ) → TellsFront known held known text
none_told known held text = (held ++ text, record { written = []; parts = refl; grown = Appends-nil known })

pub tells_then : (a b c : Option (List ℕ)) (held mid left x y : List ℕ) → Tells a held b mid x → Tells b mid c left y
    → Tells a held c left (x ++ y)
tells_then a b c held mid left x y p q = record {
  written = p.written ++ q.written;
  parts =
      sym (append_assoc held x y) ∙ ap (λ (t : List ℕ). t ++ y) p.parts ∙ append_assoc p.written mid y
      ∙ ap (λ (t : List ℕ). p.written ++ t) q.parts ∙ sym (append_assoc p.written q.written left);
  grown = Appends-trans a b c p.written q.written p.grown q.grown;
}

pub stops_then : (a b c : Option (List ℕ)) (held mid x y : List ℕ) → Tells a held b mid x → TellsFront b mid c y
    → TellsFront a held c (x ++ y)
stops_then a b c held mid x y p q = (q.0, tells_then a b c held mid q.0 x y p q.1)

-- a prefix of text is one of more text
pub stops_more : (a b : Option (List ℕ)) (held x y : List ℕ) → TellsFront a held b x → TellsFront a held b (x ++ y)
stops_more a b held x y p =
    let parts : held ++ (x ++ y) ≡ p.1.written ++ (p.0 ++ y) = sym (append_assoc held x y)
    ∙ ap (λ (t : List ℕ). t ++ y) p.1.parts ∙ append_assoc p.1.written p.0 y in
    (p.0 ++ y, record { written = p.1.written; parts = parts; grown = p.1.grown })

-- a prefix of the text held is written
pub front_told : (a b : Option (List ℕ)) (held : List ℕ) → AppendsFront a b held → TellsFront a held b []
front_told a b held p = (
  drop p.0 held,
  record {
    written = take p.0 held;
    parts = append-nil held
        ∙ sym (take-append-drop p.0 held);
    grown = p.2;
  },
)

-- more is held, and then something is written
pub stops_after : (a b : Option (List ℕ)) (held text new : List ℕ) → new ≡ held ++ text → TellsFront a new b []
    → TellsFront a held b text
stops_after a b held text new e p =
    subst (λ (t : List ℕ). TellsFront a held b t) (append-nil text)
    (stops_then a a b held new text [] (holds_more a held text new e) p)

-- all text since nothing was held is written, once nothing is held again
pub all_written : (a b : Option (List ℕ)) (left text : List ℕ) → Tells a [] b left text → left ≡ [] → Appends a b text
all_written a b left text p none = let same : text ≡ p.written = p.parts ∙ ap (λ (t : List ℕ). p.written ++ t) none
    ∙ append-nil p.written in subst (λ (t : List ℕ). Appends a b t) (sym same) p.grown

pub front_written : (a b : Option (List ℕ)) (text : List ℕ) → TellsFront a [] b text → AppendsFront a b text
front_written a b text p =
    let parts : text ≡ p.1.written ++ p.0 = p.1.parts in
    let same : take (length p.1.written) text ≡ p.1.written = ap (λ (t : List ℕ). take (length p.1.written) t) parts
    ∙ take_at p.1.written p.0 (length p.1.written) refl in (
      length p.1.written,
      omega (arith, ap length parts, length-append p.1.written p.0),
      subst (λ (t : List ℕ). Appends a b t) (sym same) p.1.grown,
    )

-- with what was held before
pub with_held : (a b : Option (List ℕ)) (held left text : List ℕ) → Tells a held b left text
    → Tells a [] b left (held ++ text)
with_held a b held left text told =
    tells_then a a b [] held left held text (holds_more a [] held held refl) told

pub with_held_cut : (a b : Option (List ℕ)) (held text : List ℕ) → TellsFront a held b text
    → AppendsFront a b (held ++ text)
with_held_cut a b held text told =
    front_written a b (held ++ text) (stops_then a a b [] held held text (holds_more a [] held held refl) told)

-- what is held in the end is written too
pub ends : (a b c : Option (List ℕ)) (held text : List ℕ) → Tells a [] b held text → Appends b c held → Appends a c text
ends a b c held text p rest =
    subst (λ (t : List ℕ). Appends a c t) (sym p.parts) (Appends-trans a b c p.written held p.grown rest)

pub ends_cut : (a b c : Option (List ℕ)) (held text : List ℕ) → Tells a [] b held text → AppendsFront b c held
    → AppendsFront a c text
ends_cut a b c held text p rest =
    front_written a c text (subst (λ (t : List ℕ). TellsFront a [] c t) (append-nil text)
    (stops_then a b c [] held text [] p (front_told b c held rest)))

-- ---- text of many pieces

-- of this text a prefix has come, and the rest is still to come
pub record IsTelling (old : Option (List ℕ)) (held : List ℕ) (now : Option (List ℕ))
    (left text rest : List ℕ) : Type 0 where
  pub front : List ℕ
  pub told : Tells old held now left front
  pub parts : text ≡ front ++ rest

pub begins : (a : Option (List ℕ)) (held text : List ℕ) → IsTelling a held a held text text
begins a held text = record { front = []; told = holds_more a held [] held (sym (append-nil held)); parts = refl }

-- the text before the first piece is held
pub begins_after : (a : Option (List ℕ)) (held first text rest : List ℕ) → held ≡ first → text ≡ first ++ rest
    → IsTelling a [] a held text rest
begins_after a held first text rest e parts =
    record { front = first; told = holds_more a [] first held e; parts = parts }

pub goes_on : (a b c : Option (List ℕ)) (held mid left text x rest later : List ℕ) → IsTelling a held b mid text later
    → later ≡ x ++ rest → Tells b mid c left x → IsTelling a held c left text rest
goes_on a b c held mid left text x rest later p e q = record {
  front = p.front ++ x;
  told = tells_then a b c held mid left p.front x p.told q;
  parts = p.parts ∙ ap (λ (t : List ℕ). p.front ++ t) e ∙ sym (append_assoc p.front x rest);
}

pub is_told : (a b : Option (List ℕ)) (held left text later : List ℕ) → IsTelling a held b left text later → later ≡ []
    → Tells a held b left text
is_told a b held left text later p e =
    subst (λ (t : List ℕ). Tells a held b left t) (sym (p.parts ∙ ap (λ (t : List ℕ). p.front ++ t) e
    ∙ append-nil p.front)) p.told

pub is_cut : (a b c : Option (List ℕ)) (held mid text x rest later : List ℕ) → IsTelling a held b mid text later
    → later ≡ x ++ rest → TellsFront b mid c x → TellsFront a held c text
is_cut a b c held mid text x rest later p e q =
    let same : (p.front ++ x) ++ rest ≡ text = append_assoc p.front x rest ∙ ap (λ (t : List ℕ). p.front ++ t) (sym e)
    ∙ sym p.parts in
    subst (λ (t : List ℕ). TellsFront a held c t) same
    (stops_more a c held (p.front ++ x) rest (stops_then a b c held mid p.front x p.told q))
