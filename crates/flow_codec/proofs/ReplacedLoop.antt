-- The template records that replace a definition, of those of a Set and of Sets one after the other.
use Rattle.std.proofs.Common.{◌≡◌, ℕ, zero, suc, ◌+◌, ◌-◌, ◌<◌, ◌≤◌, Bool, true, false, List, length, Ok, refl, sym, ◌∙◌}
use Rattle.std.proofs.Common.{ap, arith}
use Rattle.std.proofs.lemmas.List.{nil_from_length}
use Rattle.flow_codec.specs.declared.kind.TemplateKind.{TemplateKind}
use Rattle.flow_codec.specs.declared.message.Header.{Header}
use Rattle.flow_codec.specs.declared.templates.TemplateRecord.{TemplateRecord}
use Rattle.flow_codec.specs.Raw.{RawRecord}
use Rattle.flow_codec.specs.Templates.{AllTemplates, applied}
use Rattle.flow_codec.specs.Reading.{is_ended, template_at, header_at, set_at, content_at}
use Rattle.flow_codec.specs.Replaced.{one_if, replaces, replacing_at, replacing_in, replaced_at, replaced_of}

one_at_most : (b : Bool) → one_if b ≤ 1
one_at_most true = omega arith
one_at_most false = omega arith

-- ---- the template records of a Set

module _ (end domain : ℕ) (kind : TemplateKind) (most total : ℕ) where
  -- So many were met so far, and reading goes on at `rest`, with enough steps left.
  pub record HasMet (count : ℕ) (all : AllTemplates) (rest : List ℕ) : Type 0 where
    pub within : count + length rest ≤ most
    pub steps : ℕ
    pub enough : length rest ≤ steps
    pub same : count + replacing_at steps end domain kind all rest ≡ total

  pub begins : (all : AllTemplates) (octets : List ℕ) → length octets ≡ most
      → replacing_at (length octets) end domain kind all octets ≡ total → HasMet 0 all octets
  begins all octets fits is =
      record { within = omega arith; steps = length octets; enough = omega arith; same = omega (arith, is) }

  module _ (count : ℕ) (all : AllTemplates) (rest : List ℕ) (h : HasMet count all rest) where
    pub meets : is_ended rest ≡ false → (change : TemplateRecord) (after : List ℕ)
        → template_at kind (end - length rest) rest ≡ Ok (change, after) → length after + 4 ≤ length rest
        → HasMet (count + one_if (replaces domain all change)) (applied domain kind change all) after
    unfolding replacing_at
    meets open_ change after is shorter =
        let some = step h.steps (omega (arith, h.enough)) in
        record {
          within = omega (arith, h.within, one_at_most (replaces domain all change));
          steps = h.steps - 1;
          enough = omega (arith, h.enough);
          same = omega (arith, h.same, some);
        }
      where
        step : (n : ℕ) → 0 < n
            → replacing_at n end domain kind all rest ≡ one_if (replaces domain all change)
            + replacing_at (n - 1) end domain kind (applied domain kind change all) after
        step zero lt = absurd (omega arith)
        step (suc n) lt = let k : suc n - 1 ≡ n = omega arith in rw (open_, is, k) refl

    pub is_total : is_ended rest ≡ true → count ≡ total
    unfolding replacing_at
    is_total closed = omega (arith, h.same, last h.steps)
      where
        last : (n : ℕ) → replacing_at n end domain kind all rest ≡ 0
        last zero = refl
        last (suc n) = rw closed refl

-- ---- Sets

module _ (end domain most total : ℕ) where
  pub record HasReplaced (count : ℕ) (all : AllTemplates) (rest : List ℕ) : Type 0 where
    pub within : count + length rest ≤ most
    pub steps : ℕ
    pub enough : length rest ≤ steps
    pub same : count + replaced_at steps end domain all rest ≡ total

  pub starts : (all : AllTemplates) (octets : List ℕ) → length octets ≡ most
      → replaced_at (length octets) end domain all octets ≡ total → HasReplaced 0 all octets
  starts all octets fits is =
      record { within = omega arith; steps = length octets; enough = omega arith; same = omega (arith, is) }

  module _ (count : ℕ) (all : AllTemplates) (rest : List ℕ) (h : HasReplaced count all rest) where
    pub goes_on : (id : ℕ) (content after : List ℕ) → set_at (end - length rest) rest ≡ Ok (id, content, after)
        → length content + length after + 4 ≡ length rest → (records : List RawRecord) (next : AllTemplates)
        → content_at (end - length after) domain id all content ≡ Ok (records, next) → (more : ℕ)
        → more ≡ replacing_in (end - length after) domain id all content → more ≤ length content
        → HasReplaced (count + more) next after
    unfolding replaced_at
    goes_on id content after is parts records next read more more_is few =
        let some = step h.steps (omega (arith, h.enough)) in
        record {
          within = omega (arith, h.within);
          steps = h.steps - 1;
          enough = omega (arith, h.enough);
          same = omega (arith, h.same, some, more_is);
        }
      where
        step : (n : ℕ) → 0 < n
            → replaced_at n end domain all rest ≡ replacing_in (end - length after) domain id all content
            + replaced_at (n - 1) end domain next after
        step zero lt = absurd (omega arith)
        step (suc n) lt = let k : suc n - 1 ≡ n = omega arith in rw (is, read, k) refl

    pub is_all : length rest ≡ 0 → count ≡ total
    unfolding replaced_at set_at
    is_all none = omega (arith, h.same, last h.steps)
      where
        last : (n : ℕ) → replaced_at n end domain all rest ≡ 0
        last zero = refl
        last (suc n) = rw (nil_from_length rest none) refl

-- those of a message are those of its Sets
pub of_message : (before : AllTemplates) (octets : List ℕ) (header : Header) (rest : List ℕ)
    → header_at octets ≡ Ok (header, rest)
    → replaced_at (length rest) (length octets) header.domain before rest ≡ replaced_of before octets
unfolding replaced_of
of_message before octets header rest is = rw is refl
