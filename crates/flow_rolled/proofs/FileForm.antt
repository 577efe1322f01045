-- A rolled file is an IPFIX File.
use Rattle.std.proofs.Common.{◌≡◌, ℕ, ◌+◌, ◌^◌, ◌<◌, Bool, true, false, inl, inr, List, [], ◌∷◌, ◌++◌, length, map}
use Rattle.std.proofs.Common.{Option, Some, None, refl, sym, ap, subst, ◌∙◌, arith}
use Rattle.std.specs.Prelude.{filter, nat_eq, unwrap_or}
use Rattle.std.specs.List.{flat_map, AllByRecursion}
use Rattle.std.proofs.lemmas.List.{append-nil}
use Rattle.flow_codec.specs.declared.kind.TemplateKind.{TemplateKind}
use Rattle.flow_codec.specs.declared.kind.TemplateKind.TheVariants.{Plain, Options}
use Rattle.flow_codec.specs.declared.templates.DomainTemplates.{DomainTemplates}
use Rattle.flow_codec.specs.declared.templates.TemplateRecord.TheVariants.{Define}
use Rattle.flow_codec.specs.Layout.{IsSpecifier, set_id, smallest}
use Rattle.flow_codec.specs.Raw.{IsWholeRecord}
use Rattle.flow_codec.specs.Templates.{AllTemplates, IsOnce, no_definitions, definition_of, definitions_of, applied}
use Rattle.flow_codec.specs.Templates.{template, IsTemplateRecord}
use Rattle.flow_codec.specs.Working.{put_back}
use Rattle.flow_codec.specs.Message.{AreTemplates, Division, IsData, IsSet, AreSets, IsMessage, joined, header_octets}
use Rattle.flow_codec.specs.Message.{set_octets}
use Rattle.flow_codec.proofs.Entries.{found, with_entry, remove-absent, lookup-insert, once_insert, found-insert-other}
use Rattle.flow_codec.proofs.PuttingBack.{applied_put_back, put_found}
use Rattle.flow_rolled.specs.declared.row.RolledRow.{RolledRow}
use Rattle.flow_rolled.specs.Octets.{sets_of, head_sets, message_octets, messages_octets, has_protocol, has_none, AreOf}
use Rattle.flow_rolled.specs.Octets.{IsRolledMessage}
use Rattle.flow_rolled.specs.Messages.{RolledMessage, RowsFollow, Follows, AllFollow}
use Rattle.flow_rolled.specs.Rows.{IsTable}
use Rattle.flow_rolled.specs.Rollup.{table_messages, rollup_octets}
use Rattle.flow_measure.specs.Sums.{Table}
use Rattle.flow_codec.specs.File.{AreMessages, IsFile}
use Rattle.flow_codec.proofs.Steps.{by_bool}
use Rattle.std.proofs.lemmas.Bool.{eqb-true}
use Rattle.flow_rolled.proofs.SoFar.{count_parted}
use Rattle.flow_rolled.proofs.Breaking.{Known, follows_part, file_parts}
use Rattle.flow_rolled.specs.AsFile.{field, with_protocol, without_protocol, distribution, in_domain, records_of}
use Rattle.flow_rolled.specs.AsFile.{message_of, messages_of}
use Rattle.flow_rolled.proofs.SameParts.{sets_long}
use Rattle.std.proofs.lemmas.Nat.{from_be_bytes-to_be_bytes_2}
use Rattle.flow_codec.specs.Cutting.{IsCutOff}
use Rattle.flow_rolled.proofs.RowRecords.{one_octet, value, id_of, layout_of, no_template, divisions, row_sets}
use Rattle.flow_rolled.proofs.RowRecords.{row_octets_of}

-- ---- the Sets of a head

spec : (number len : ℕ) → number < 32768 → len < 2 ^ 16 → IsSpecifier (field number len)
spec number len small short = record { number = small; len = short; enterprise = tt }

count_specs : AllByRecursion IsSpecifier (field 376 8 ∷ field 1 8 ∷ field 2 8 ∷ [])
count_specs = (
  spec 376 8 (omega arith) (omega arith),
  (
    spec 1 8 (omega arith) (omega arith),
    (spec 2 8 (omega arith) (omega arith), tt),
  ),
)

first_template : IsTemplateRecord Plain (Define 256 with_protocol)
first_template = (
  record { least_id = omega arith; below = omega arith },
  record {
    some = omega arith;
    count = omega arith;
    fields = (
      spec 152 8 (omega arith) (omega arith),
      (
        spec 153 8 (omega arith) (omega arith),
        (spec 4 1 (omega arith) (omega arith), count_specs),
      ),
    );
    options = refl;
    scope = refl;
  },
)

second_template : IsTemplateRecord Plain (Define 257 without_protocol)
second_template = (
  record { least_id = omega arith; below = omega arith },
  record {
    some = omega arith;
    count = omega arith;
    fields = (spec 152 8 (omega arith) (omega arith), (spec 153 8 (omega arith) (omega arith), count_specs));
    options = refl;
    scope = refl;
  },
)

options_template : IsTemplateRecord Options (Define 258 distribution)
options_template = (
  record { least_id = omega arith; below = omega arith },
  record {
    some = omega arith;
    count = omega arith;
    fields = (spec 145 2 (omega arith) (omega arith), (spec 384 1 (omega arith) (omega arith), tt));
    options = refl;
    scope = (omega arith, omega arith);
  },
)

abbrev plain_set : Division
plain_set = record {
  id = 2;
  records = template Plain (Define 256 with_protocol) ∷ template Plain (Define 257 without_protocol) ∷ [];
  rest = [];
}

abbrev options_set : Division
options_set = record { id = 3; records = template Options (Define 258 distribution) ∷ []; rest = [] }

abbrev flag_set : Division
flag_set = record { id = 258; records = (1 ∷ 0 ∷ 1 ∷ []) ∷ (1 ∷ 1 ∷ 1 ∷ []) ∷ []; rest = [] }

head_is : flat_map set_octets (plain_set ∷ options_set ∷ flag_set ∷ []) ≡ head_sets
head_is = refl

whole_flag : (a b c : ℕ) → IsWholeRecord distribution (a ∷ b ∷ c ∷ [])
whole_flag a b c = (
  value 145 (a ∷ b ∷ []) ∷ value 384 (c ∷ []) ∷ [],
  (
    a ∷ b ∷ [],
    c ∷ [],
    refl,
    refl,
    inl ((λ e. absurd (omega (arith, e))), refl, refl),
    (c ∷ [], [], refl, refl, one_octet c, refl),
  ),
)

own_kind : (a b : TemplateKind) → set_id a ≡ set_id b → a ≡ b
own_kind Plain Plain e = refl
own_kind Plain Options e = absurd (omega (arith, e))
own_kind Options Plain e = absurd (omega (arith, e))
own_kind Options Options e = refl

module _ (d : ℕ) (all : AllTemplates) (once : IsOnce all) (new : found d all ≡ None) where
  abbrev behind : DomainTemplates → AllTemplates
  behind here = put_back d true here all

  abbrev first_here : DomainTemplates
  first_here = record { templates = (256, with_protocol) ∷ []; options = [] }

  abbrev second_here : DomainTemplates
  second_here = record { templates = (256, with_protocol) ∷ (257, without_protocol) ∷ []; options = [] }

  begun : behind no_definitions ≡ all
  begun = rw (remove-absent d all new, remove-absent d all new) refl

  plain_run : AreTemplates d Plain all (template Plain (Define 256 with_protocol)
      ∷ template Plain (Define 257 without_protocol) ∷ []) (behind second_here)
  plain_run =
      let one : applied d Plain (Define 256 with_protocol) all ≡ behind first_here =
      ap (applied d Plain (Define 256 with_protocol)) (sym begun)
      ∙ applied_put_back d all once Plain (Define 256 with_protocol) true no_definitions in
      let two : applied d Plain (Define 257 without_protocol) (behind first_here) ≡ behind second_here =
      applied_put_back d all once Plain (Define 257 without_protocol) true first_here in (
        Define 256 with_protocol,
        first_template,
        refl,
        (
          Define 257 without_protocol,
          second_template,
          refl,
          sym (ap (applied d Plain (Define 257 without_protocol)) one ∙ two),
        ),
      )

  options_run : AreTemplates d Options (behind second_here) (template Options (Define 258 distribution) ∷ [])
      (behind in_domain)
  options_run = (
    Define 258 distribution,
    options_template,
    refl,
    sym (applied_put_back d all once Options (Define 258 distribution) true second_here),
  )

  plain_is : IsSet d all plain_set [] (behind second_here)
  plain_is = record {
    id = omega arith;
    fits = omega arith;
    templates = λ kind e. (
      refl,
      subst (λ k. AreTemplates d k all plain_set.records (behind second_here))
          (own_kind Plain kind e) plain_run,
      inl (omega arith),
    );
    other = λ two three small. absurd (two refl);
    «data» = λ large. absurd (omega (arith, large));
  }

  options_is : IsSet d (behind second_here) options_set [] (behind in_domain)
  options_is = record {
    id = omega arith;
    fits = omega arith;
    templates = λ kind e. (
      refl,
      subst (λ k. AreTemplates d k (behind second_here) options_set.records (behind in_domain))
          (own_kind Options kind e) options_run,
      inl (omega arith),
    );
    other = λ two three small. absurd (three refl);
    «data» = λ large. absurd (omega (arith, large));
  }

  flag_is : IsSet d (behind in_domain) flag_set (records_of 0 []) (behind in_domain)
  flag_is = record {
    id = omega arith;
    fits = omega arith;
    templates = λ kind e. absurd (no_template kind 258 (omega arith) e);
    other = λ two three small. absurd (omega (arith, small));
    «data» = λ large. (
      subst (λ here. IsData 258 (definition_of 258 here) flag_set (records_of 0 []))
          (sym (put_found d all once true in_domain))
          ((flag_some, refl, whole_flag 1 0 1, (flag_some, refl, whole_flag 1 1 1, tt)), inr flag_some),
      refl,
    );
  }
    where
      flag_some : 0 < smallest distribution
      flag_some = let e : smallest distribution ≡ 3 = refl in omega (arith, e)

  pub head_holds : AreSets d all (plain_set ∷ options_set ∷ flag_set ∷ []) (records_of 0 []) (behind in_domain)
  head_holds = (
    [],
    records_of 0 [],
    behind second_here,
    plain_is,
    (
      [],
      records_of 0 [],
      behind in_domain,
      options_is,
      (records_of 0 [], [], behind in_domain, flag_is, (refl, refl), refl),
      refl,
    ),
    refl,
  )

  pub head_leaves : behind in_domain ≡ with_entry all d in_domain
  head_leaves = rw (remove-absent d all new) refl

-- ---- messages

sets_in : ℕ → List RolledRow → List Division
sets_in w [] = plain_set ∷ options_set ∷ flag_set ∷ []
sets_in w (r ∷ rs) = divisions w 256 (filter has_protocol (r ∷ rs)) ++ divisions w 257 (filter has_none (r ∷ rs))

sets_are : (w : ℕ) (rows : List RolledRow) → flat_map set_octets (sets_in w rows) ≡ sets_of w rows
unfolding sets_in
sets_are w [] = head_is
sets_are w (r ∷ rs) = row_octets_of w (filter has_protocol (r ∷ rs)) (filter has_none (r ∷ rs))

part_size : (w : ℕ) (p : RolledMessage) → length (message_octets w p) ≡ 16 + length (sets_of w p.rows)
unfolding message_octets
part_size w p = omega arith

is_message : (w : ℕ) (p : RolledMessage) (before after : AllTemplates) → IsRolledMessage w p
    → AreSets p.domain before (sets_in w p.rows) (records_of w p.rows) after
    → IsMessage (message_octets w p) before (message_of w p) after
unfolding message_octets
is_message w p before after h hold = record {
  sets = sets_in w p.rows;
  parts = ap (λ (l : List ℕ). header_octets ((message_of w p).header) ++ l) (sym (sets_are w p.rows))
      ∙ sym (append-nil (header_octets ((message_of w p).header) ++ flat_map set_octets
      (sets_in w p.rows)));
  len = sym (part_size w p);
  place = omega arith;
  fits = record {
    len = let l = sets_long w p.domain p.rows h.rows in omega (arith, l);
    time = h.time;
    sequence = h.sequence;
    domain = h.domain;
  };
  hold = hold;
}

cut_off : (w : ℕ) (p : RolledMessage) → IsRolledMessage w p → IsCutOff (message_octets w p)
unfolding message_octets
cut_off w p h = record {
  long = omega arith;
  version = refl;
  len = from_be_bytes-to_be_bytes_2 (16 + length (sets_of w p.rows))
      (let l = sets_long w p.domain p.rows h.rows in omega (arith, l)) ∙ sym (part_size w p);
}

-- ---- one after the other

abbrev Above : Option RolledMessage → ℕ → Type 0
Above None q = Unit {0}
Above (Some b) q = b.domain < q

abbrev IsDefined : Option RolledMessage → AllTemplates → Type 0
IsDefined None all = Unit {0}
IsDefined (Some b) all = found b.domain all ≡ Some in_domain

-- the templates after a message: those of its domain, and none of later ones
record AreBehind (b : Option RolledMessage) (all : AllTemplates) : Type 0 where
  once : IsOnce all
  above : (q : ℕ) → Above b q → found q all ≡ None
  there : IsDefined b all

apart : (q d : ℕ) → d < q → nat_eq q d ≡ false
apart q d lt = elim (by_bool (nat_eq q d)) [
  | inl w ↦ let e = eqb-true q d w in absurd (omega (arith, e, lt))
  | inr w ↦ w
]

above_more : (b : Option RolledMessage) (d q : ℕ) → Above b d → d < q → Above b q
above_more None d q h lt = tt
above_more (Some b) d q h lt = omega (arith, h, lt)

-- a message's records, and the templates after it
record Step (w : ℕ) (p : RolledMessage) (all : AllTemplates) : Type 0 where
  after : AllTemplates
  hold : AreSets p.domain all (sets_in w p.rows) (records_of w p.rows) after
  behind : AreBehind (Some p) after

head_step : (w : ℕ) (b : Option RolledMessage) (p : RolledMessage) (all : AllTemplates) → AreBehind b all
    → Above b p.domain → p.rows ≡ []
    → Step w p all
unfolding sets_in
head_step w b p all h above none =
    let d = p.domain in
    let new = h.above d above in
    let holds = subst (AreSets d all (plain_set ∷ options_set ∷ flag_set ∷ []) (records_of w []))
    (head_leaves d all h.once new) (head_holds d all h.once new) in
    record {
      after = with_entry all d in_domain;
      hold = subst (λ rows. AreSets d all (sets_in w rows) (records_of w rows) (with_entry all d in_domain)) (sym none)
          holds;
      behind = record {
        once = once_insert d all in_domain h.once;
        above = λ q lt. found-insert-other d q all in_domain (apart q d lt) ∙ h.above q (above_more b d q above lt);
        there = lookup-insert d all in_domain;
      };
    }

rows_hold : (w d : ℕ) (all : AllTemplates) (rows : List RolledRow) → found d all ≡ Some in_domain → 0 < length rows
    → AreOf w d rows → AreSets d all (sets_in w rows) (records_of w rows) all
unfolding sets_in
rows_hold w d all [] there some h = absurd (omega (arith, some))
rows_hold w d all (r ∷ rs) there some h =
    let n = count_parted (r ∷ rs) in
    let few = h.few in
    row_sets w d all is (filter has_protocol (r ∷ rs)) (filter has_none (r ∷ rs)) (omega (arith, n, few))
    (omega (arith, n, few)) h.with h.without
  where
    is : (b : Bool) → definition_of (id_of b) (definitions_of d all) ≡ Some (layout_of b)
    is true = ap (λ o. definition_of 256 (unwrap_or o no_definitions)) there
    is false = ap (λ o. definition_of 257 (unwrap_or o no_definitions)) there

rows_step : (w : ℕ) (b p : RolledMessage) (all : AllTemplates) → AreBehind (Some b) all → RowsFollow w b p
    → IsRolledMessage w p
    → Step w p all
rows_step w b p all h follows part =
    let there : found p.domain all ≡ Some in_domain = ap (λ d. found d all) follows.domain ∙ h.there in
    record {
      after = all;
      hold = rows_hold w p.domain all p.rows there follows.some part.rows;
      behind = record {
        once = h.once;
        above = λ q lt. h.above q (let e = follows.domain in omega (arith, e, lt));
        there = there;
      };
    }

step : (w : ℕ) (b : Option RolledMessage) (p : RolledMessage) (all : AllTemplates) → AreBehind b all → Follows w b p
    → IsRolledMessage w p
    → Step w p all
step w None p all h follows part = head_step w None p all h tt follows.rows
step w (Some b) p all h (inl follows) part = head_step w (Some b) p all h follows.domain follows.head.rows
step w (Some b) p all h (inr follows) part = rows_step w b p all h follows part

run : (w : ℕ) (b : Option RolledMessage) (all : AllTemplates) (ps : List RolledMessage) → Known w b → AllFollow w b ps
    → AreBehind b all
    → (after : AllTemplates) × AreMessages all (map (message_octets w) ps) (messages_of w ps) after
run w b all [] known follow h = (all, refl)
run w b all (p ∷ ps) known follow h =
    let part = follows_part w b p known follow.0 in
    let now = step w b p all h follow.0 part in
    let more = run w (Some p) now.after ps part follow.1 now.behind in
    (more.0, (now.after, cut_off w p part, is_message w p all now.after part now.hold, more.1))

joined_parts : (w : ℕ) (ps : List RolledMessage) → messages_octets w ps ≡ joined (map (message_octets w) ps)
joined_parts w [] = refl
joined_parts w (p ∷ ps) = ap (λ (l : List ℕ). message_octets w p ++ l) (joined_parts w ps)

-- a rolled file is an IPFIX File
pub rolled_file : (t : Table) (time : ℕ) → IsTable t → time < 2 ^ 32
    → (after : AllTemplates) × IsFile (rollup_octets t time) (messages_of t.width (table_messages t time)) after
rolled_file t time valid small =
    let all = run t.width None [] (table_messages t time) tt (file_parts t time small valid).follow
    (record { once = tt; above = λ q h. refl; there = tt }) in (
      all.0,
      record {
        parts = map (message_octets t.width) (table_messages t time);
        whole = joined_parts t.width (table_messages t time);
        each = all.1;
      },
    )
