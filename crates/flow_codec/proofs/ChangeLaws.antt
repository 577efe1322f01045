-- What a template record changes of the definitions that are found, and what it leaves.
use Rattle.std.proofs.Common.{◌≡◌, ◌≢◌, ℕ, Bool, true, false, List, [], Option, Some, None, refl, sym, ap, ◌∙◌, inl}
use Rattle.std.proofs.Common.{inr, ◌⊎◌}
use Rattle.std.specs.Prelude.{nat_eq, not}
use Rattle.std.specs.Option.{option_or}
use Rattle.std.specs.List.{AllByRecursion}
use Rattle.std.proofs.lemmas.Bool.{ne_eqb}
use Rattle.flow_codec.specs.declared.kind.TemplateKind.{TemplateKind}
use Rattle.flow_codec.specs.declared.kind.TemplateKind.TheVariants.{Plain, Options}
use Rattle.flow_codec.specs.declared.templates.DomainTemplates.{DomainTemplates}
use Rattle.flow_codec.specs.declared.templates.TemplateRecord.{TemplateRecord}
use Rattle.flow_codec.specs.declared.templates.TemplateRecord.TheVariants.{Define, Withdraw, WithdrawAll}
use Rattle.flow_codec.specs.Layout.{Layout, is_options}
use Rattle.flow_codec.specs.Templates.{AllTemplates, definition_of, definitions_of, is_empty, is_own, unless_own}
use Rattle.flow_codec.specs.Templates.{changed, with_domain, applied, IsOnce, IsEntry, AreDefinitions}
use Rattle.flow_codec.proofs.Steps.{by_bool}
use Rattle.flow_codec.proofs.Entries.{found, without, with_entry, lookup-insert, lookup-remove, found-insert-other}
use Rattle.flow_codec.proofs.Entries.{found-remove-other, holds-found, lookup_append}
use Rattle.flow_codec.proofs.KeyLaws.{in_two}
use Rattle.flow_codec.proofs.PuttingBack.{none_is}

-- a definition that is found among those of a kind is of this kind
options_of : (kind : TemplateKind) (key : ℕ) (es : List (ℕ × Layout)) (layout : Layout)
    → AllByRecursion (IsEntry kind) es → found key es ≡ Some layout → is_own kind layout ≡ true
options_of kind key es layout h e = own kind ((holds-found key (IsEntry kind) es layout h e).layout.options)
  where
    own : (kind : TemplateKind) → layout.options ≡ is_options kind → is_own kind layout ≡ true
    own Plain o = rw o refl
    own Options o = o

not_other : (kind other : TemplateKind) (layout : Layout) → kind ≢ other → is_own kind layout ≡ true
    → is_own other layout ≡ false
not_other Plain Plain layout differ own = absurd (differ refl)
not_other Plain Options layout differ own = turned layout.options own
  where
    turned : (b : Bool) → not b ≡ true → b ≡ false
    turned true e = absurd cc
    turned false e = refl
not_other Options Plain layout differ own = rw own refl
not_other Options Options layout differ own = absurd (differ refl)

-- ---- the definitions of one domain

-- a definition is found
defined_here : (kind : TemplateKind) (id : ℕ) (layout : Layout) (here : DomainTemplates) → AreDefinitions here
    → definition_of id (changed kind (Define id layout) here) ≡ Some layout
defined_here Plain id layout here h = lookup_append id (with_entry here.templates id layout) (without id here.options)
    ∙ rw (lookup-insert id here.templates layout) refl
defined_here Options id layout here h =
    lookup_append id (without id here.templates) (with_entry here.options id layout)
    ∙ rw (lookup-remove id here.templates (in_two here h).first, lookup-insert id here.options layout) refl

-- other IDs are found as before
others_stay : (kind : TemplateKind) (id other : ℕ) (layout : Layout) (here : DomainTemplates) → nat_eq other id ≡ false
    → definition_of other (changed kind (Define id layout) here) ≡ definition_of other here
others_stay Plain id other layout here differ =
    lookup_append other (with_entry here.templates id layout) (without id here.options)
    ∙ rw (
      found-insert-other id other here.templates layout differ,
      found-remove-other id other here.options differ,
    ) (sym (lookup_append other here.templates here.options))
others_stay Options id other layout here differ =
    lookup_append other (without id here.templates) (with_entry here.options id layout)
    ∙ rw (
      found-remove-other id other here.templates differ,
      found-insert-other id other here.options layout differ,
    ) (sym (lookup_append other here.templates here.options))

left_alone : (kind : TemplateKind) (id other : ℕ) (here : DomainTemplates) → nat_eq other id ≡ false
    → definition_of other (changed kind (Withdraw id) here) ≡ definition_of other here
left_alone Plain id other here differ = lookup_append other (without id here.templates) here.options
    ∙ rw (found-remove-other id other here.templates differ) (sym (lookup_append other here.templates here.options))
left_alone Options id other here differ = lookup_append other here.templates (without id here.options)
    ∙ rw (found-remove-other id other here.options differ) (sym (lookup_append other here.templates here.options))

-- what two lists give of an ID, where those of the one kind are gone
unless_first : (first second : Option Layout) → ((layout : Layout) → first ≡ Some layout → is_own Plain layout ≡ true)
    → ((layout : Layout) → second ≡ Some layout → is_own Plain layout ≡ false) → (first ≡ None) ⊎ (second ≡ None)
    → second ≡ unless_own Plain (option_or first second)
unless_first None None own other apart = refl
unless_first None (Some l) own other apart = let e : is_own Plain l ≡ false = other l refl in rw e refl
unless_first (Some k) None own other apart = let e : is_own Plain k ≡ true = own k refl in rw e refl
unless_first (Some k) (Some l) own other (inl e) = absurd cc
unless_first (Some k) (Some l) own other (inr e) = absurd cc

unless_second : (first second : Option Layout)
    → ((layout : Layout) → first ≡ Some layout → is_own Options layout ≡ false)
    → ((layout : Layout) → second ≡ Some layout → is_own Options layout ≡ true) → (first ≡ None) ⊎ (second ≡ None)
    → option_or first None ≡ unless_own Options (option_or first second)
unless_second None None own other apart = refl
unless_second None (Some l) own other apart = let e : is_own Options l ≡ true = other l refl in rw e refl
unless_second (Some k) second own other apart = let e : is_own Options k ≡ false = own k refl in rw e refl

-- a withdrawal takes out a definition of its own kind, and leaves one of the other
withdrawn_here : (kind : TemplateKind) (id : ℕ) (here : DomainTemplates) → AreDefinitions here
    → definition_of id (changed kind (Withdraw id) here) ≡ unless_own kind (definition_of id here)
withdrawn_here Plain id here h =
    let two = in_two here h in
    let own : (layout : Layout) → found id here.templates ≡ Some layout → is_own Plain layout ≡ true =
    λ layout e. options_of Plain id here.templates layout h.templates e in
    let other : (layout : Layout) → found id here.options ≡ Some layout → is_own Plain layout ≡ false =
    λ layout e. not_other Options Plain layout kinds (options_of Options id here.options layout h.options e) in
    lookup_append id (without id here.templates) here.options
    ∙ rw (lookup-remove id here.templates two.first)
    (unless_first (found id here.templates) (found id here.options) own other (two.apart id))
    ∙ ap (unless_own Plain) (sym (lookup_append id here.templates here.options))
  where
    kinds : Options ≢ Plain
    kinds e = cc
withdrawn_here Options id here h =
    let two = in_two here h in
    let own : (layout : Layout) → found id here.options ≡ Some layout → is_own Options layout ≡ true =
    λ layout e. options_of Options id here.options layout h.options e in
    let other : (layout : Layout) → found id here.templates ≡ Some layout → is_own Options layout ≡ false =
    λ layout e. not_other Plain Options layout kinds (options_of Plain id here.templates layout h.templates e) in
    lookup_append id here.templates (without id here.options)
    ∙ rw (lookup-remove id here.options two.second)
    (unless_second (found id here.templates) (found id here.options) other own (two.apart id))
    ∙ ap (unless_own Options) (sym (lookup_append id here.templates here.options))
  where
    kinds : Plain ≢ Options
    kinds e = cc

all_withdrawn_here : (kind : TemplateKind) (id : ℕ) (here : DomainTemplates) → AreDefinitions here
    → definition_of id (changed kind WithdrawAll here) ≡ unless_own kind (definition_of id here)
all_withdrawn_here Plain id here h =
    let two = in_two here h in
    let own : (layout : Layout) → found id here.templates ≡ Some layout → is_own Plain layout ≡ true =
    λ layout e. options_of Plain id here.templates layout h.templates e in
    let other : (layout : Layout) → found id here.options ≡ Some layout → is_own Plain layout ≡ false =
    λ layout e. not_other Options Plain layout kinds (options_of Options id here.options layout h.options e) in
    unless_first (found id here.templates) (found id here.options) own other (two.apart id)
    ∙ ap (unless_own Plain) (sym (lookup_append id here.templates here.options))
  where
    kinds : Options ≢ Plain
    kinds e = cc
all_withdrawn_here Options id here h =
    let two = in_two here h in
    let own : (layout : Layout) → found id here.options ≡ Some layout → is_own Options layout ≡ true =
    λ layout e. options_of Options id here.options layout h.options e in
    let other : (layout : Layout) → found id here.templates ≡ Some layout → is_own Options layout ≡ false =
    λ layout e. not_other Plain Options layout kinds (options_of Plain id here.templates layout h.templates e) in
    lookup_append id here.templates []
    ∙ unless_second (found id here.templates) (found id here.options) other own (two.apart id)
    ∙ ap (unless_own Options) (sym (lookup_append id here.templates here.options))
  where
    kinds : Plain ≢ Options
    kinds e = cc

-- ---- all domains

-- the domain has what was put
own_domain : (domain : ℕ) (here : DomainTemplates) (all : AllTemplates) → IsOnce all
    → definitions_of domain (with_domain domain here all) ≡ here
own_domain domain here all once = elim (by_bool (is_empty here)) [
  | inl w ↦ rw (w, lookup-remove domain all once) (sym (none_is here w))
  | inr w ↦ rw (w, lookup-insert domain all here) refl
]

-- a template record leaves every other domain
pub other_domain : (domain other : ℕ) (kind : TemplateKind) (change : TemplateRecord) (all : AllTemplates)
    → other ≢ domain → definitions_of other (applied domain kind change all) ≡ definitions_of other all
other_domain domain other kind change all differ = by (changed kind change (definitions_of domain all))
  where
    apart : nat_eq other domain ≡ false
    apart = ne_eqb other domain differ

    by : (here : DomainTemplates) → definitions_of other (with_domain domain here all) ≡ definitions_of other all
    by here = elim (by_bool (is_empty here)) [
      | inl w ↦ rw (w, found-remove-other domain other all apart) refl
      | inr w ↦ rw (w, found-insert-other domain other all here apart) refl
    ]

applied_here : (domain id : ℕ) (kind : TemplateKind) (change : TemplateRecord) (all : AllTemplates) → IsOnce all
    → definition_of id (definitions_of domain (applied domain kind change all)) ≡ definition_of id
    (changed kind change (definitions_of domain all))
applied_here domain id kind change all once =
    ap (definition_of id) (own_domain domain (changed kind change (definitions_of domain all)) all once)

pub defined : (domain id : ℕ) (kind : TemplateKind) (layout : Layout) (all : AllTemplates) → IsOnce all
    → AreDefinitions (definitions_of domain all)
    → definition_of id (definitions_of domain (applied domain kind (Define id layout) all)) ≡ Some layout
defined domain id kind layout all once h = applied_here domain id kind (Define id layout) all once
    ∙ defined_here kind id layout (definitions_of domain all) h

pub withdrawn : (domain id : ℕ) (kind : TemplateKind) (all : AllTemplates) → IsOnce all
    → AreDefinitions (definitions_of domain all)
    → definition_of id (definitions_of domain (applied domain kind (Withdraw id) all)) ≡ unless_own kind
    (definition_of id (definitions_of domain all))
withdrawn domain id kind all once h = applied_here domain id kind (Withdraw id) all once
    ∙ withdrawn_here kind id (definitions_of domain all) h

pub all_withdrawn : (domain id : ℕ) (kind : TemplateKind) (all : AllTemplates) → IsOnce all
    → AreDefinitions (definitions_of domain all)
    → definition_of id (definitions_of domain (applied domain kind WithdrawAll all)) ≡ unless_own kind
    (definition_of id (definitions_of domain all))
all_withdrawn domain id kind all once h = applied_here domain id kind WithdrawAll all once
    ∙ all_withdrawn_here kind id (definitions_of domain all) h

pub not_defined : (domain id other : ℕ) (kind : TemplateKind) (layout : Layout) (all : AllTemplates) → IsOnce all
    → other ≢ id → definition_of other
    (definitions_of domain (applied domain kind (Define id layout) all)) ≡ definition_of other
    (definitions_of domain all)
not_defined domain id other kind layout all once differ = applied_here domain other kind (Define id layout) all once
    ∙ others_stay kind id other layout (definitions_of domain all) (ne_eqb other id differ)

pub not_withdrawn : (domain id other : ℕ) (kind : TemplateKind) (all : AllTemplates) → IsOnce all → other ≢ id
    → definition_of other (definitions_of domain (applied domain kind (Withdraw id) all)) ≡ definition_of other
    (definitions_of domain all)
not_withdrawn domain id other kind all once differ = applied_here domain other kind (Withdraw id) all once
    ∙ left_alone kind id other (definitions_of domain all) (ne_eqb other id differ)
