-- Templates as they are written.
use Rattle.std.proofs.Common.{◌≡◌, ℕ, ◌+◌, false, eqb, List, [], ◌∷◌, ◌++◌, length, sym, ap, subst, ◌∙◌, append_assoc}
use Rattle.std.proofs.Common.{arith}
use Rattle.std.specs.List.{flat_map, AllByRecursion}
use Rattle.std.specs.Int.{w16, w32, to_be_bytes}
use Rattle.std.proofs.lemmas.List.{append-nil, length-append}
use Rattle.std.proofs.lemmas.List.Concat.{flat_map-cons, flat_map-append}
use Rattle.flow_codec.specs.declared.kind.TemplateKind.{TemplateKind}
use Rattle.flow_codec.specs.declared.kind.TemplateKind.TheVariants.{Plain, Options}
use Rattle.flow_codec.specs.declared.templates.DomainTemplates.{DomainTemplates}
use Rattle.flow_codec.specs.Layout.{Layout, set_id}
use Rattle.flow_codec.specs.Templates.{AllTemplates, entries_size, IsEntry, IsDomain}
use Rattle.flow_codec.specs.Message.{set_octets, joined}
use Rattle.flow_codec.specs.Prefix.{defining_records, template_set, template_sets, prefix_message, prefix_messages}
use Rattle.flow_codec.specs.Prefix.{prefix_octets, due_in}
use Rattle.flow_codec.proofs.Restating.{records_size}

pub set_text : (kind : TemplateKind) (es : List (ℕ × Layout)) (n : ℕ) → AllByRecursion (IsEntry kind) es
    → eqb (length es) 0 ≡ false → n ≡ entries_size es
    → flat_map set_octets (template_set kind es) ≡ to_be_bytes w16 (set_id kind) ++
    (to_be_bytes w16 (4 + n) ++ joined (defining_records kind es))
set_text kind [] n h some e = absurd cc
set_text kind (x ∷ xs) n h some e =
    one (set_id kind) (defining_records kind (x ∷ xs)) (records_size kind (x ∷ xs) h ∙ sym e)
  where
    one : (id : ℕ) (rs : List (List ℕ)) → length (joined rs) ≡ n
        → flat_map set_octets (record { id = id; records = rs; rest = [] } ∷ []) ≡ to_be_bytes w16 id ++
        (to_be_bytes w16 (4 + n) ++ joined rs)
    one id rs size =
        let whole : joined rs ++ [] ≡ joined rs = append-nil (joined rs) in
        let P : List ℕ → List ℕ = λ t. to_be_bytes w16 id ++ (to_be_bytes w16 (4 + length t) ++ t) in
        flat_map-cons set_octets (record { id = id; records = rs; rest = [] }) [] ∙ append-nil (P (joined rs ++ []))
        ∙ ap P whole ∙ ap (λ (m : ℕ). to_be_bytes w16 id ++ (to_be_bytes w16 (4 + m) ++ joined rs)) size

pub set_long : (kind : TemplateKind) (es : List (ℕ × Layout)) (n : ℕ) → AllByRecursion (IsEntry kind) es
    → eqb (length es) 0 ≡ false → n ≡ entries_size es → 4 + n ≡ length (flat_map set_octets (template_set kind es))
set_long kind es n h some e =
    sym (ap length (set_text kind es n h some e) ∙ one (set_id kind) (joined (defining_records kind es))
    (records_size kind es h ∙ sym e))
  where
    one : (id : ℕ) (t : List ℕ) → length t ≡ n → length (to_be_bytes w16 id ++ (to_be_bytes w16 (4 + n) ++ t)) ≡ 4 + n
    one id t size = omega (arith, size)

pub set_put : (old a b c text tail : List ℕ) (id n : ℕ) → a ≡ old ++ to_be_bytes w16 id → b ≡ a ++ to_be_bytes w16 n
    → c ≡ b ++ tail → text ≡ to_be_bytes w16 id ++ (to_be_bytes w16 n ++ tail) → c ≡ old ++ text
set_put old a b c text tail id n e f g h = rw (g, f, e, h) (simp append_assoc)

pub message_put : (time due domain : ℕ) (here : DomainTemplates) (old a b c d e f g : List ℕ) (size : ℕ)
    → size ≡ length (flat_map set_octets (template_set Plain here.templates)) + length
    (flat_map set_octets (template_set Options here.options))
    → a ≡ old ++ to_be_bytes w16 10 → b ≡ a ++ to_be_bytes w16 (16 + size) → c ≡ b ++ to_be_bytes w32 time
    → d ≡ c ++ to_be_bytes w32 due → e ≡ d ++ to_be_bytes w32 domain
    → f ≡ e ++ flat_map set_octets (template_set Plain here.templates)
    → g ≡ f ++ flat_map set_octets (template_set Options here.options)
    → g ≡ old ++ prefix_message time due (domain, here)
message_put time due domain here old a b c d e f g size len e1 e2 e3 e4 e5 e6 e7 =
    let ts = flat_map set_octets (template_set Plain here.templates) in
    let os = flat_map set_octets (template_set Options here.options) in
    let both : flat_map set_octets (template_sets here) ≡ ts ++ os =
    flat_map-append set_octets (template_set Plain here.templates) (template_set Options here.options) in
    whole ts os (flat_map set_octets (template_sets here)) both (len ∙ sym (length-append ts os)
    ∙ ap length (sym both)) e6 e7
  where
    whole : (ts os all : List ℕ) → all ≡ ts ++ os → size ≡ length all → f ≡ e ++ ts → g ≡ f ++ os
        → g ≡ old ++ ((to_be_bytes w16 10 ++ to_be_bytes w16 (16 + length all) ++ to_be_bytes w32 time ++ to_be_bytes
        w32 due ++ to_be_bytes w32 domain) ++ all)
    whole ts os all both len e6 e7 = rw (e7, e6, e5, e4, e3, e2, e1, len, both) (simp append_assoc)

pub prefix_more : (time : ℕ) (due : List (ℕ × ℕ)) (e : ℕ × DomainTemplates) (es : AllTemplates)
    → prefix_octets time due (e ∷ es) ≡ prefix_message time (due_in due e.0) e ++ prefix_octets time due es
prefix_more time due e es =
    flat_map-cons (λ r. r) (prefix_message time (due_in due e.0) e) (prefix_messages time due es)

-- one domain more
pub domain_put : (time number : ℕ) (due : List (ℕ × ℕ)) (all rest left : AllTemplates) (e : ℕ × DomainTemplates)
    (old new : List ℕ) → rest ≡ e ∷ left → number ≡ due_in due e.0
    → (old ++ prefix_octets time due rest ≡ prefix_octets time due all) × AllByRecursion IsDomain rest
    → new ≡ old ++ prefix_message time number e
    → (new ++ prefix_octets time due left ≡ prefix_octets time due all) × AllByRecursion IsDomain left
domain_put time number due all rest left e old new next is (so_far, each) put =
    let message = prefix_message time (due_in due e.0) e in
    let more : old ++ (message ++ prefix_octets time due left) ≡ prefix_octets time due all =
    ap (λ (t : List ℕ). old ++ t) (sym (ap (prefix_octets time due) next ∙ prefix_more time due e left)) ∙ so_far in (
      rw (put, is) (append_assoc old message (prefix_octets time due left) ∙ more),
      (subst (AllByRecursion IsDomain) next each).1,
    )
