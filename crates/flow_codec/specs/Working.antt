-- The templates in force while a message is read: those from before it, with its changes in its own domain.
use Rattle.std.specs.Prelude.{◌≡◌, ℕ, suc, ◌+◌, ◌*◌, ◌≤◌, ◌^◌, Bool, List, [], ◌∷◌, Option, Some, None, nat_eq, length}
use Rattle.std.specs.Prelude.{⊤}
use Rattle.std.specs.Prelude.{IfSome, unwrap_or, if◌then◌else◌}
use Rattle.std.specs.Box.{box_value}
use Rattle.std.specs.Global.{Box}
use Rattle.std.specs.HashMap.{HashMap, get}
use Rattle.std.specs.Map.{lookup}
use Rattle.std.specs.Option.{option_map, option_or}
use Rattle.indexmap.specs.IndexMap.{shift_remove_entry}
use Rattle.flow_codec.specs.declared.overlay.Overlay.{Overlay}
use Rattle.flow_codec.specs.declared.templates.DomainTemplates.{DomainTemplates}
use Rattle.flow_codec.specs.declared.working.Changed.{Changed}
use Rattle.flow_codec.specs.Layout.{Layout}
use Rattle.flow_codec.specs.Slots.{made, started}
use Rattle.flow_codec.specs.Entries.{IsOnce, entries_size}
use Rattle.flow_codec.specs.Templates.{AllTemplates, definitions_of, with_domain}

-- the domain's definitions in their place, or at the end where it was without any before one of the template records
abbrev pub put_back : ℕ → Bool → DomainTemplates → AllTemplates → AllTemplates
put_back domain left here all =
    if left then with_domain domain here (shift_remove_entry (nat_eq domain) all) else with_domain domain here all

-- ---- one list of definitions

-- the list with the changes of a message
abbrev pub overlaid : List (ℕ × Layout) → Overlay → List (ℕ × Layout)
overlaid base o = made (started o.cleared base) o.log

-- the last change of an ID
abbrev pub last_change : ℕ → List (ℕ × Option Layout) → Option (Option Layout)
last_change id [] = None
last_change id (change ∷ changes) =
    option_or (last_change id changes) (if nat_eq change.0 id then Some change.1 else None)

-- the place of the last change of an ID
abbrev pub last_place : ℕ → List (ℕ × Option Layout) → Option ℕ
last_place id [] = None
last_place id (change ∷ changes) =
    option_or (option_map suc (last_place id changes)) (if nat_eq change.0 id then Some 0 else None)

-- a map, where there is one, has the place of the last change of each ID
abbrev pub KnowsLast : {S : Type 0} → Option (Box (HashMap ℕ ℕ S)) → List (ℕ × Option Layout) → Type 0
KnowsLast own changes =
    IfSome own (λ map. (id : ℕ) → get nat_eq (box_value map) id ≡ last_place id changes)

-- What an overlay records of its changes is right: the last change of each ID, and the octets of all template records
-- after them.
pub record IsOver (base : List (ℕ × Layout)) (o : Overlay) : Type 0 where
  pub once : IsOnce (overlaid base o)
  pub found : (id : ℕ) → lookup (nat_eq id) (overlaid base o) ≡ unwrap_or (last_change id o.log)
      (lookup (nat_eq id) (started o.cleared base))
  pub own : KnowsLast o.own o.log
  pub size : o.size ≡ entries_size (overlaid base o)
  pub bound : o.size ≤ 2 ^ 64 + 2 ^ 20 * length o.log

-- ---- the message's own domain

abbrev pub changed_in : DomainTemplates → Changed → DomainTemplates
changed_in here c = record {
  templates = overlaid here.templates c.templates;
  options =
      overlaid here.options c.options;
}

abbrev pub current : ℕ → AllTemplates → Option Changed → AllTemplates
current domain before None = before
current domain before (Some c) = put_back domain c.left (changed_in (definitions_of domain before) c) before

pub record AreOver (here : DomainTemplates) (c : Changed) : Type 0 where
  pub templates : IsOver here.templates c.templates
  pub options : IsOver here.options c.options

abbrev pub AreChanges : ℕ → AllTemplates → Option Changed → Type 0
AreChanges domain before None = ⊤
AreChanges domain before (Some c) = AreOver (definitions_of domain before) c
