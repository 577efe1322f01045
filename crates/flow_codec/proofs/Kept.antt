-- What holds of the templates before an accepted message holds of those after it.
use Rattle.std.proofs.Common.{◌≡◌, ◌≢◌, ℕ, ◌≤◌, false, List, [], ◌∷◌, length, Option, Some, None, Ok, refl, sym, subst}
use Rattle.std.proofs.Common.{arith, inl, inr}
use Rattle.std.specs.Prelude.{nat_eq, unwrap_or}
use Rattle.std.specs.List.{AllByRecursion}
use Rattle.std.proofs.lemmas.Bool.{eqb-true, eqb-false, cases_lt}
use Rattle.flow_codec.specs.declared.kind.TemplateKind.{TemplateKind}
use Rattle.flow_codec.specs.declared.kind.TemplateKind.TheVariants.{Plain, Options}
use Rattle.flow_codec.specs.declared.templates.DomainTemplates.{DomainTemplates}
use Rattle.flow_codec.specs.declared.templates.TemplateRecord.{TemplateRecord}
use Rattle.flow_codec.specs.declared.templates.TemplateRecord.TheVariants.{Define, Withdraw, WithdrawAll}
use Rattle.flow_codec.specs.Templates.{AllTemplates, no_definitions, definitions_of, is_empty, changed, with_domain}
use Rattle.flow_codec.specs.Templates.{applied, IsTemplateRecord, domain_size, IsWithinTemplateLimits, IsOnce, IsEntry}
use Rattle.flow_codec.specs.Templates.{AreDefinitions, IsDomain, AreTemplatesInForce}
use Rattle.flow_codec.specs.Raw.{RawRecord, RawMessage}
use Rattle.flow_codec.specs.Reading.{sets_at, limited, division_at}
use Rattle.flow_codec.specs.Message.{AreTemplates, Division, IsSet, AreSets, IsAccepted}
use Rattle.flow_codec.proofs.Steps.{by_bool}
use Rattle.flow_codec.proofs.NumberLaws.{IsBytes}
use Rattle.flow_codec.proofs.Entries.{found, without, with_entry, once_insert, once_remove, holds-found}
use Rattle.flow_codec.proofs.KeyLaws.{apart_turned, both_once, apart_put, apart_left, in_two, all_left, all_put}
use Rattle.flow_codec.proofs.SetLaws.{by_kind, sets_take}
use Rattle.flow_codec.proofs.MessageLaws.{division_takes, limits_hold}

-- ---- the definitions of one domain

no_definitions_are : AreDefinitions no_definitions
no_definitions_are = record { once = tt; templates = tt; options = tt }

pub changed_are : (kind : TemplateKind) (change : TemplateRecord) (here : DomainTemplates)
    → IsTemplateRecord kind change → AreDefinitions here → AreDefinitions (changed kind change here)
changed_are Plain (Define id layout) here is h =
    let two = in_two here h in
    record {
      once = both_once (with_entry here.templates id layout) (without id here.options)
          (once_insert id here.templates layout two.first) (once_remove id here.options two.second)
          (apart_put id layout here.templates here.options two.second two.apart);
      templates = all_put (IsEntry Plain) id layout here.templates (record { id = is.0; layout = is.1 }) h.templates;
      options = all_left (IsEntry Options) id here.options h.options;
    }
changed_are Plain (Withdraw id) here is h =
    let two = in_two here h in
    record {
      once = both_once (without id here.templates) here.options (once_remove id here.templates two.first) two.second
          (apart_left id here.templates here.options two.apart);
      templates = all_left (IsEntry Plain) id here.templates h.templates;
      options = h.options;
    }
changed_are Plain WithdrawAll here is h = record { once = (in_two here h).second; templates = tt; options = h.options }
changed_are Options (Define id layout) here is h =
    let two = in_two here h in
    let apart = apart_put id layout here.options here.templates two.first
    (apart_turned here.templates here.options two.apart) in
    record {
      once = both_once (without id here.templates) (with_entry here.options id layout)
          (once_remove id here.templates two.first) (once_insert id here.options layout two.second)
          (apart_turned (with_entry here.options id layout) (without id here.templates) apart);
      templates = all_left (IsEntry Plain) id here.templates h.templates;
      options = all_put (IsEntry Options) id layout here.options (record { id = is.0; layout = is.1 }) h.options;
    }
changed_are Options (Withdraw id) here is h =
    let two = in_two here h in
    let apart = apart_turned (without id here.options) here.templates
    (apart_left id here.options here.templates (apart_turned here.templates here.options two.apart)) in
    record {
      once = both_once here.templates (without id here.options) two.first
          (once_remove id here.options two.second) apart;
      templates = h.templates;
      options = all_left (IsEntry Options) id here.options h.options;
    }
changed_are Options WithdrawAll here is h =
    record {
      once = both_once here.templates [] (in_two here h).first tt (λ key. inr refl);
      templates =
          h.templates;
      options = tt;
    }

-- ---- all domains, in the middle of a message

-- Only the message's own domain may pass its limit before the message ends.
pub record IsKept (domain : ℕ) (entry : ℕ × DomainTemplates) : Type 0 where
  pub some : is_empty entry.1 ≡ false
  pub definitions : AreDefinitions entry.1
  pub size : entry.0 ≢ domain → domain_size entry.1 ≤ 60000

pub record AreKept (domain : ℕ) (all : AllTemplates) : Type 0 where
  pub once : IsOnce all
  pub domains : AllByRecursion (IsKept domain) all

all_kept : (domain : ℕ) (all : AllTemplates) → AllByRecursion IsDomain all → AllByRecursion (IsKept domain) all
all_kept domain [] h = tt
all_kept domain (e ∷ es) h =
    (record { some = (h.0).some; definitions = (h.0).definitions; size = λ _. (h.0).size }, all_kept domain es h.1)

pub are_kept : (domain : ℕ) (all : AllTemplates) → AreTemplatesInForce all → AreKept domain all
are_kept domain all h = record { once = h.once; domains = all_kept domain all h.domains }

definitions_kept : (domain : ℕ) (all : AllTemplates) → AllByRecursion (IsKept domain) all
    → AllByRecursion (λ e. AreDefinitions e.1) all
definitions_kept domain [] h = tt
definitions_kept domain (e ∷ es) h = ((h.0).definitions, definitions_kept domain es h.1)

pub definitions_are : (domain own : ℕ) (all : AllTemplates) → AreKept own all
    → AreDefinitions (definitions_of domain all)
definitions_are domain own all h = by (found domain all) refl
  where
    by : (o : Option DomainTemplates) → found domain all ≡ o → AreDefinitions (unwrap_or o no_definitions)
    by None e = no_definitions_are
    by (Some here) e = holds-found domain (λ entry. AreDefinitions entry.1) all here
        (definitions_kept own all h.domains) e

pub with_domain_kept : (domain : ℕ) (here : DomainTemplates) (all : AllTemplates) → AreDefinitions here
    → AreKept domain all → AreKept domain (with_domain domain here all)
with_domain_kept domain here all is h = elim (by_bool (is_empty here)) [
  | inl w ↦ rw w (record {
    once = once_remove domain all h.once;
    domains =
        all_left (IsKept domain) domain all h.domains;
  })
  | inr w ↦
      let new : IsKept domain (domain, here) =
      record { some = w; definitions = is; size = λ other. absurd (other refl) } in
      rw w (record {
        once = once_insert domain all here h.once;
        domains =
            all_put (IsKept domain) domain here all new h.domains;
      })
]

pub applied_kept : (domain : ℕ) (kind : TemplateKind) (change : TemplateRecord) (all : AllTemplates)
    → IsTemplateRecord kind change → AreKept domain all → AreKept domain (applied domain kind change all)
applied_kept domain kind change all is h =
    let here = definitions_of domain all in
    with_domain_kept domain (changed kind change here) all
    (changed_are kind change here is (definitions_are domain domain all h)) h

pub templates_kept : (domain : ℕ) (kind : TemplateKind) (before : AllTemplates) (rs : List (List ℕ))
    (after : AllTemplates) → AreTemplates domain kind before rs after → AreKept domain before → AreKept domain after
templates_kept domain kind before [] after is h = subst (AreKept domain) (sym is) h
templates_kept domain kind before (r ∷ rs) after is h =
    templates_kept domain kind (applied domain kind is.0 before) rs after is.3
    (applied_kept domain kind is.0 before is.1 h)

set_kept : (domain : ℕ) (before : AllTemplates) (set : Division) (records : List RawRecord) (after : AllTemplates)
    → IsSet domain before set records after → AreKept domain before → AreKept domain after
set_kept domain before set records after is h = elim (by_kind set.id) [
  | inl k ↦ templates_kept domain k.0 before set.records after (is.templates k.0 k.1).1 h
  | inr k ↦ elim (cases_lt set.id 256) [
    | inl small ↦ subst (AreKept domain) (sym (is.other k.0 k.1 small).2) h
    | inr large ↦ subst (AreKept domain) (sym (is.«data» large).1) h
  ]
]

sets_kept : (domain : ℕ) (before : AllTemplates) (sets : List Division) (records : List RawRecord)
    (after : AllTemplates) → AreSets domain before sets records after → AreKept domain before → AreKept domain after
sets_kept domain before [] records after is h = subst (AreKept domain) (sym is.1) h
sets_kept domain before (s ∷ ss) records after is h =
    sets_kept domain is.2 ss is.1 after is.4 (set_kept domain before s is.0 is.2 is.3 h)

-- what reading Sets leaves
pub read_kept : (n end domain : ℕ) (before : AllTemplates) (octets : List ℕ) (x : List RawRecord × AllTemplates)
    → length octets ≤ n → IsBytes octets → AreKept domain before → sets_at n end domain before octets ≡ Ok x
    → AreKept domain x.1
read_kept n end domain before octets x le fits h e = let s = sets_take n end domain before octets x le fits e in
    sets_kept domain before s.0 x.0 x.1 s.2 h

-- ---- within the limits again

within_domains : (domain : ℕ) (all : AllTemplates) → IsOnce all → AllByRecursion (IsKept domain) all
    → domain_size (definitions_of domain all) ≤ 60000 → AllByRecursion IsDomain all
within_domains domain [] once h size = tt
within_domains domain (e ∷ es) once h size = elim (by_bool (nat_eq domain e.0)) [
  | inl w ↦
      let own : domain_size e.1 ≤ 60000 = rw w at size in
      let gone : found domain es ≡ None = subst (λ (k : ℕ). found k es ≡ None) (sym (eqb-true _ _ w)) once.0 in
      let none : domain_size (definitions_of domain es) ≤ 60000 = rw gone (omega arith) in (
        record { some = (h.0).some; definitions = (h.0).definitions; size = own },
        within_domains domain es once.1 h.1 none,
      )
  | inr w ↦
      let rest : domain_size (definitions_of domain es) ≤ 60000 = rw w at size in (
        record {
          some = (h.0).some;
          definitions = (h.0).definitions;
          size =
              (h.0).size (λ same. eqb-false _ _ w (sym same));
        },
        within_domains domain es once.1 h.1 rest,
      )
]

-- Templates that were kept, and that pass no limit, are in force.
pub in_force_again : (domain : ℕ) (all : AllTemplates) → AreKept domain all → IsWithinTemplateLimits domain all
    → AreTemplatesInForce all
in_force_again domain all h within =
    record { once = h.once; domains = within_domains domain all h.once h.domains within.size; count = within.domains }

pub in_force : (before : AllTemplates) (octets : List ℕ) (message : RawMessage) (after : AllTemplates)
    → AreTemplatesInForce before → IsAccepted octets before message after → AreTemplatesInForce after
in_force before octets message after h is =
    let domain = message.header.domain in
    in_force_again domain after
    (sets_kept domain before (is.0).sets message.records after (is.0).hold (are_kept domain before h)) is.1

-- the same of what reading gives
pub division_in_force : (before : AllTemplates) (octets : List ℕ) (x y : RawMessage × AllTemplates) → IsBytes octets
    → AreTemplatesInForce before → division_at before octets ≡ Ok x → limited x.0 x.1 ≡ Ok y → AreTemplatesInForce x.1
division_in_force before octets x y fits h e limits =
    in_force before octets x.0 x.1 h (division_takes before octets x fits e, (limits_hold x.0 x.1 y limits).0)
