-- The messages that restate templates are accepted from none, and leave just these templates.
use Rattle.std.proofs.Common.{◌≡◌, ℕ, ◌+◌, ◌^◌, ◌<◌, ◌≤◌, true, List, [], ◌∷◌, ◌++◌, length, None, refl, sym, ap, subst}
use Rattle.std.proofs.Common.{◌∙◌, append_assoc, arith, inl, inr, ◌⊎◌}
use Rattle.std.specs.Prelude.{sum_by}
use Rattle.std.specs.List.{flat_map, AllByRecursion}
use Rattle.std.specs.Int.{w16, to_be_bytes}
use Rattle.std.proofs.lemmas.List.{append-nil, length-append}
use Rattle.std.proofs.lemmas.List.Concat.{flat_map-cons, length-flat_map, flat_map-append}
use Rattle.std.proofs.lemmas.List.Sums.{sum_by-cons}
use Rattle.flow_codec.specs.declared.kind.TemplateKind.{TemplateKind}
use Rattle.flow_codec.specs.declared.kind.TemplateKind.TheVariants.{Plain, Options}
use Rattle.flow_codec.specs.declared.templates.DomainTemplates.{DomainTemplates}
use Rattle.flow_codec.specs.declared.templates.TemplateRecord.TheVariants.{Define}
use Rattle.flow_codec.specs.Layout.{Layout, set_id, is_options, specifier, specifiers, specifier_size, definition_size}
use Rattle.flow_codec.specs.Templates.{AllTemplates, no_definitions, definitions_of, applied, template, entries_size}
use Rattle.flow_codec.specs.Templates.{domain_size, IsOnce, IsEntry, IsDomain}
use Rattle.flow_codec.specs.Raw.{RawRecord}
use Rattle.flow_codec.specs.Working.{put_back}
use Rattle.flow_codec.specs.Message.{AreTemplates, Division, set_octets, joined, IsSet, AreSets, header_octets}
use Rattle.flow_codec.specs.Message.{IsAccepted}
use Rattle.flow_codec.specs.Prefix.{defining_records, template_set, template_sets, prefix_header, prefix_message}
use Rattle.flow_codec.specs.Prefix.{prefix_read}
use Rattle.flow_codec.proofs.Entries.{without, found, lookup-insert, remove-absent}
use Rattle.flow_codec.proofs.KeyLaws.{in_two, none_in}
use Rattle.flow_codec.proofs.SlotLaws.{front-lacks, insert-absent}
use Rattle.flow_codec.proofs.PuttingBack.{applied_put_back}

-- ---- the octets of definitions

template_size : (kind : TemplateKind) (id : ℕ) (layout : Layout) → layout.options ≡ is_options kind
    → length (template kind (Define id layout)) ≡ definition_size layout
template_size Plain id layout e =
    let fields : length (specifiers layout.fields) ≡ sum_by specifier_size layout.fields =
    length-flat_map specifier layout.fields in
    rw e (omega (arith, fields))
template_size Options id layout e =
    let fields : length (specifiers layout.fields) ≡ sum_by specifier_size layout.fields =
    length-flat_map specifier layout.fields in
    rw e (omega (arith, fields))

joined_size : (t : List ℕ) (rs : List (List ℕ)) (m n : ℕ) → length t ≡ m → length (joined rs) ≡ n
    → length (joined (t ∷ rs)) ≡ m + n
joined_size t rs m n a b = ap length (flat_map-cons (λ r. r) t rs) ∙ length-append t (joined rs) ∙ rw (a, b) refl

pub records_size : (kind : TemplateKind) (es : List (ℕ × Layout)) → AllByRecursion (IsEntry kind) es
    → length (joined (defining_records kind es)) ≡ entries_size es
records_size kind [] h = refl
records_size kind (e ∷ es) h =
    joined_size (template kind (Define e.0 e.1)) (defining_records kind es) (definition_size e.1) (entries_size es)
    (template_size kind e.0 e.1 (h.0).layout.options) (records_size kind es h.1)
    ∙ sym (sum_by-cons (λ (x : ℕ × Layout). definition_size x.1) e es)

-- ---- definitions of a domain that had none, one after the other

module _ (d : ℕ) (front : AllTemplates) (once : IsOnce front) (new : found d front ≡ None) where
  abbrev with_here : List (ℕ × Layout) → List (ℕ × Layout) → AllTemplates
  with_here ts os = put_back d true (record { templates = ts; options = os }) front

  plain_run : (done es : List (ℕ × Layout)) → IsOnce (done ++ es) → AllByRecursion (IsEntry Plain) es
      → AreTemplates d Plain (with_here done []) (defining_records Plain es) (with_here (done ++ es) [])
  plain_run done [] o h = ap (λ (ts : List (ℕ × Layout)). with_here ts []) (append-nil done)
  plain_run done (e ∷ es) o h =
      let flat : (done ++ e ∷ []) ++ es ≡ done ++ e ∷ es = append_assoc done (e ∷ []) es in
      let more = plain_run (done ++ e ∷ []) es (subst IsOnce (sym flat) o) h.1 in
      let here : DomainTemplates = record { templates = done; options = [] } in
      let step : applied d Plain (Define e.0 e.1) (with_here done []) ≡ with_here (done ++ e ∷ []) [] =
      applied_put_back d front once Plain (Define e.0 e.1) true here
      ∙ ap (λ (ts : List (ℕ × Layout)). with_here ts []) (insert-absent done e.0 e.1 (front-lacks done e es o)) in (
        Define e.0 e.1,
        (h.0.id, h.0.layout),
        refl,
        subst
            (λ (s : AllTemplates). AreTemplates d Plain s (defining_records Plain es) (with_here (done ++ e ∷ es) []))
            (sym step) (subst (λ (ts : List (ℕ × Layout)). AreTemplates d Plain (with_here (done ++ e ∷ []) [])
            (defining_records Plain es) (with_here ts [])) flat more),
      )

  options_run : (ts done es : List (ℕ × Layout)) → IsOnce (ts ++ (done ++ es)) → IsOnce (done ++ es)
      → AllByRecursion (IsEntry Options) es
      → AreTemplates d Options (with_here ts done) (defining_records Options es) (with_here ts (done ++ es))
  options_run ts done [] all o h = ap (λ (os : List (ℕ × Layout)). with_here ts os) (append-nil done)
  options_run ts done (e ∷ es) all o h =
      let flat : (done ++ e ∷ []) ++ es ≡ done ++ e ∷ es = append_assoc done (e ∷ []) es in
      let more = options_run ts (done ++ e ∷ []) es
      (subst (λ (os : List (ℕ × Layout)). IsOnce (ts ++ os)) (sym flat) all) (subst IsOnce (sym flat) o) h.1 in
      let here : DomainTemplates = record { templates = ts; options = done } in
      let regrouped : ts ++ (done ++ e ∷ es) ≡ (ts ++ done) ++ e ∷ es = sym (append_assoc ts done (e ∷ es)) in
      let absent : found e.0 ts ≡ None =
      (none_in e.0 ts done (front-lacks (ts ++ done) e es (subst IsOnce regrouped all))).0 in
      let step : applied d Options (Define e.0 e.1) (with_here ts done) ≡ with_here ts (done ++ e ∷ []) =
      applied_put_back d front once Options (Define e.0 e.1) true here
      ∙ ap (λ (os : List (ℕ × Layout)). with_here (without e.0 ts) os)
      (insert-absent done e.0 e.1 (front-lacks done e es o))
      ∙ ap (λ (xs : List (ℕ × Layout)). with_here xs (done ++ e ∷ [])) (remove-absent e.0 ts absent) in (
        Define e.0 e.1,
        (h.0.id, h.0.layout),
        refl,
        subst
            (λ (s : AllTemplates). AreTemplates d Options s (defining_records Options es)
            (with_here ts (done ++ e ∷ es)))
            (sym step) (subst (λ (os : List (ℕ × Layout)). AreTemplates d Options (with_here ts (done ++ e ∷ []))
            (defining_records Options es) (with_here ts os)) flat more),
      )

-- ---- the Sets of a domain's definitions

own_kind : (a b : TemplateKind) → set_id a ≡ set_id b → a ≡ b
own_kind Plain Plain e = refl
own_kind Plain Options e = absurd (omega (arith, e))
own_kind Options Plain e = absurd (omega (arith, e))
own_kind Options Options e = refl

id_of : (kind : TemplateKind) → ((set_id kind ≡ 2) ⊎ (set_id kind ≡ 3)) × (set_id kind < 2 ^ 16) × (set_id kind < 256)
id_of Plain = (inl refl, omega arith, omega arith)
id_of Options = (inr refl, omega arith, omega arith)

-- a Set of these template records
is_set : (kind : TemplateKind) (d : ℕ) (before : AllTemplates) (rs : List (List ℕ)) (after : AllTemplates)
    → length (joined rs) ≤ 60000 → AreTemplates d kind before rs after
    → IsSet d before (record { id = set_id kind; records = rs; rest = [] }) [] after
is_set kind d before rs after short h = record {
  id = (id_of kind).1;
  fits = omega (arith, short, length-append (joined rs) []);
  templates = λ other e. (
    refl,
    subst (λ (k : TemplateKind). AreTemplates d k before rs after)
        (own_kind kind other e) h,
    inl (omega arith),
  );
  other = λ two three small. elim (id_of kind).0 [ inl e ↦ absurd (two e) | inr e ↦ absurd (three e) ];
  «data» = λ large. absurd (omega (arith, large, (id_of kind).2));
}

-- none or one
sets_of_kind : (kind : TemplateKind) (d : ℕ) (before : AllTemplates) (es : List (ℕ × Layout)) (after : AllTemplates)
    → AllByRecursion (IsEntry kind) es → entries_size es ≤ 60000
    → AreTemplates d kind before (defining_records kind es) after
    → AreSets d before (template_set kind es) [] after
sets_of_kind kind d before [] after all short h = (refl, h)
sets_of_kind kind d before (e ∷ es) after all short h = (
  [],
  [],
  after,
  is_set kind d before (defining_records kind (e ∷ es)) after
      (omega (arith, records_size kind (e ∷ es) all, short)) h,
  (refl, refl),
  refl,
)

sets_both : (d : ℕ) (a b c : AllTemplates) (ss ts : List Division) → AreSets d a ss [] b → AreSets d b ts [] c
    → AreSets d a (ss ++ ts) [] c
sets_both d a b c [] ts h k = subst (λ (x : AllTemplates). AreSets d x ts [] c) h.1 k
sets_both d a b c (s ∷ ss) ts h k =
    let parts = none_both h.0 h.1 (sym h.5) in (
      h.0,
      [],
      h.2,
      h.3,
      sets_both d h.2 b c ss ts (subst (λ (rs : List RawRecord). AreSets d h.2 ss rs b) parts.1 h.4)
          k,
      ap (λ (rs : List RawRecord). rs ++ []) (sym parts.0),
    )
  where
    none_both : (xs ys : List RawRecord) → xs ++ ys ≡ [] → (xs ≡ []) × (ys ≡ [])
    none_both [] ys e = (refl, e)
    none_both (x ∷ xs) ys e = absurd cc

set_size : (kind : TemplateKind) (es : List (ℕ × Layout)) → AllByRecursion (IsEntry kind) es
    → length (flat_map set_octets (template_set kind es)) ≤ 4 + entries_size es
set_size kind [] h = omega arith
set_size kind (e ∷ es) h =
    let rs = defining_records kind (e ∷ es) in
    one (set_id kind) rs (entries_size (e ∷ es)) (records_size kind (e ∷ es) h)
  where
    one : (id : ℕ) (rs : List (List ℕ)) (n : ℕ) → length (joined rs) ≡ n
        → length (flat_map set_octets (record { id = id; records = rs; rest = [] } ∷ [])) ≤ 4 + n
    one id rs n e =
        let c = joined rs ++ [] in
        let len : length c ≡ length (joined rs) + 0 = length-append (joined rs) [] in
        let all : flat_map set_octets (record { id = id; records = rs; rest = [] } ∷ []) ≡
        (to_be_bytes w16 id ++ to_be_bytes w16 (4 + length c) ++ c) ++ [] =
        flat_map-cons set_octets (record { id = id; records = rs; rest = [] }) [] in
        omega (
          arith,
          ap length all,
          length-append (to_be_bytes w16 id ++ to_be_bytes w16 (4 + length c) ++ c) [],
          len,
          e,
        )

-- ---- the message

module _ (time due : ℕ) (d : ℕ) (here : DomainTemplates) (front : AllTemplates) (once : IsOnce front)
    (new : found d front ≡ None) (is : IsDomain (d, here)) where
  abbrev entry : ℕ × DomainTemplates
  entry = (d, here)

  begun : put_back d true no_definitions front ≡ front
  begun = rw (remove-absent d front new, remove-absent d front new) refl

  ended : put_back d true here front ≡ front ++ entry ∷ []
  ended = rw (is.some, remove-absent d front new) (insert-absent front d here new)

  hold : AreSets d front (template_sets here) [] (front ++ entry ∷ [])
  hold =
      let two = in_two here is.definitions in
      let plain = plain_run d front once new [] here.templates two.first is.definitions.templates in
      let options = options_run d front once new here.templates [] here.options is.definitions.once two.second
      is.definitions.options in
      let middle : AllTemplates = put_back d true (record { templates = here.templates; options = [] }) front in
      let first = sets_of_kind Plain d front here.templates middle is.definitions.templates (omega (arith, is.size))
      (subst (λ (x : AllTemplates). AreTemplates d Plain x (defining_records Plain here.templates) middle) begun
      plain) in
      let second = sets_of_kind Options d middle here.options (front ++ entry ∷ []) is.definitions.options
      (omega (arith, is.size))
      (subst (λ (x : AllTemplates). AreTemplates d Options middle (defining_records Options here.options) x) ended
      options) in
      sets_both d front middle (front ++ entry ∷ []) (template_set Plain here.templates)
      (template_set Options here.options) first second

  text_size : length (flat_map set_octets (template_sets here)) ≤ 8 + domain_size here
  text_size =
      let plain = set_size Plain here.templates is.definitions.templates in
      let options = set_size Options here.options is.definitions.options in
      let parts = ap length (flat_map-append set_octets (template_set Plain here.templates)
      (template_set Options here.options))
      ∙ length-append (flat_map set_octets (template_set Plain here.templates))
      (flat_map set_octets (template_set Options here.options)) in
      omega (arith, plain, options, parts)

  message_size : length (prefix_message time due entry) ≡ 16 + length (flat_map set_octets (template_sets here))
  message_size = length-append (header_octets (prefix_header time due entry)) (flat_map set_octets (template_sets here))

  -- The message that restates the definitions of one more domain is accepted: it has no data records, and leaves them.
  pub restated : time < 2 ^ 32 → due < 2 ^ 32 → d < 2 ^ 32 → length front < 64
      → IsAccepted (prefix_message time due entry) front (prefix_read time due entry) (front ++ entry ∷ [])
  restated time_fits due_fits domain_fits room = (
    record {
      sets = template_sets here;
      parts = sym (append-nil (prefix_message time due entry));
      len = sym message_size;
      place = omega arith;
      fits = record {
        len = omega (arith, text_size, is.size);
        time = time_fits;
        sequence = due_fits;
        domain =
            domain_fits;
      };
      hold = hold;
    },
    record {
      size = subst (λ (x : DomainTemplates). domain_size x ≤ 60000) (sym there) is.size;
      domains = omega (arith, length-append front (entry ∷ []), room);
    },
  )
    where
      there : definitions_of d (front ++ entry ∷ []) ≡ here
      there = ap (definitions_of d) (sym (insert-absent front d here new)) ∙ rw (lookup-insert d front here) refl
