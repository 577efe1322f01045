-- The messages of rows in order follow one another, and have these rows.
use Rattle.std.proofs.Common.{◌≡◌, ◌≢◌, ℕ, zero, suc, ◌+◌, ◌*◌, ◌^◌, ◌≤◌, ◌<◌, ◌⊎◌, inl, inr, ⊎_elim, List, [], ◌∷◌}
use Rattle.std.proofs.Common.{◌++◌, length, drop, Option, Some, None, refl, sym, ap, subst, ◌∙◌, arith, length-append}
use Rattle.std.specs.List.{AllByRecursion}
use Rattle.flow_measure.specs.declared.rows.Key.{Key}
use Rattle.flow_rolled.specs.Rows.{AreRows}
use Rattle.flow_rolled.specs.Messages.{rows_within}
use Rattle.flow_rolled.specs.Messages.{RolledMessage, group, head, messages_from, messages_with, last_from, IsHead}
use Rattle.flow_rolled.specs.Messages.{RowsFollow, Follows, AllFollow, EndsWell}
use Rattle.flow_rolled.proofs.Grouping.{Row, Own, IsPast, Starts, domains_rise, rows_front, step_head}
use Rattle.flow_rolled.proofs.Grouping.{step_group, of_rows, again, decide, IsElsewhere}
use Rattle.flow_rolled.proofs.Fronts.{extra, extra_of, group_own, group_few, group_rest, group_ends, group_some}
use Rattle.flow_rolled.proofs.Fronts.{few_parts, one_time}

pub record AfterHead (w : ℕ) (b : RolledMessage) (rows : List Row) : Type 0 where
  pub none : b.rows ≡ []
  pub starts : Starts b.domain rows
  pub order : AreRows w None rows

pub record AfterRows (w : ℕ) (b : RolledMessage) (rows : List Row) : Type 0 where
  pub some : 0 < length b.rows
  pub own : Own b.domain b.rows
  pub order : AreRows w (last_from None b.rows) rows
  pub ends : (length b.rows ≡ 1000) ⊎ IsPast b.domain rows

-- these rows may follow this message
abbrev pub IsReady : ℕ → ℕ → Option RolledMessage → List Row → Type 0
IsReady w time None rows = AreRows w None rows
IsReady w time (Some b) rows = (b.time ≡ time) × (AfterHead w b rows ⊎ AfterRows w b rows)

abbrev spare : Option RolledMessage → ℕ
spare None = 0
spare (Some b) = extra b.rows

-- the messages follow, and are enough for all rows
abbrev AreAll : ℕ → Option RolledMessage → List Row → List RolledMessage → Type 0
AreAll n b rows ps = 2 * length rows ≤ n + spare b → EndsWell b ps × (rows_within ps ≡ rows)

abbrev AreGood : ℕ → ℕ → Option RolledMessage → List Row → List RolledMessage → Type 0
AreGood w n b rows ps = AllFollow w b ps × AreAll n b rows ps

last_of : (d : ℕ) (o : Option Row) (rows : List Row) → 0 < length rows → Own d rows
    → (l : Row) × (last_from o rows ≡ Some l) × (l.key.domain ≡ d)
last_of d o [] some own = absurd (omega (arith, some))
last_of d o (r ∷ []) some own = (r, refl, own.0)
last_of d o (r ∷ q ∷ rs) some own = last_of d (Some r) (q ∷ rs) (omega arith) own.1

good_head : (w n time : ℕ) (b : Option RolledMessage) (r : Row) (rs : List Row) → time < 2 ^ 32
    → IsElsewhere r.key.domain b
    → (IsHead (head time r.key.domain) → Follows w b (head time r.key.domain))
    → AreRows w None (r ∷ rs)
    → ((q : Option RolledMessage) (rows : List Row) → IsReady w time q rows
    → AreGood w n q rows (messages_from n time q rows))
    → spare b ≡ 0
    → AreGood w (suc n) b (r ∷ rs) (messages_from (suc n) time b (r ∷ rs))
good_head w n time b r rs small else follows order ih none =
    let p = head time r.key.domain in
    let is : IsHead p = record { rows = refl; sequence = refl; time = small; domain = (order.0).domain } in
    let next : AreGood w n (Some p) (r ∷ rs) (messages_from n time (Some p) (r ∷ rs)) =
    ih (Some p) (r ∷ rs) (refl, inl (record { none = refl; starts = refl; order = order })) in
    subst (AreGood w (suc n) b (r ∷ rs)) (sym (step_head n time r.key.domain b (r ∷ rs) refl else))
    ((follows is, next.0), λ enough. next.1 (omega (arith, enough, none)))

good_rows : (w n time : ℕ) (b : RolledMessage) (r : Row) (rs : List Row) → r.key.domain ≡ b.domain → b.time ≡ time
    → (length b.rows ≡ 0) ⊎ (length b.rows ≡ 1000)
    → AreRows w (last_from None b.rows) (r ∷ rs)
    → ((q : Option RolledMessage) (rows : List Row) → IsReady w time q rows
    → AreGood w n q rows (messages_from n time q rows))
    → AreGood w (suc n) (Some b) (r ∷ rs) (messages_from (suc n) time (Some b) (r ∷ rs))
good_rows w n time b r rs here now room order ih =
    let g = group 1000 b.domain (r ∷ rs) in
    let more = drop (length g) (r ∷ rs) in
    let p = of_rows time b g in
    let rest : g ++ more ≡ r ∷ rs = group_rest 1000 b.domain (r ∷ rs) in
    let parted = rows_front w (last_from None b.rows) g more
    (subst (AreRows w (last_from None b.rows)) (sym rest) order) in
    let some : 0 < length g = group_some 999 b.domain r rs here in
    let own : Own b.domain g = group_own 1000 b.domain (r ∷ rs) in
    let follows : RowsFollow w b p =
    record {
      time = sym now;
      room = room;
      sequence = refl;
      domain = refl;
      some = some;
      few =
          group_few 1000 b.domain (r ∷ rs);
      own = own;
      order = parted.0;
    } in
    let last : last_from (last_from None b.rows) g ≡ last_from None g = last_again (last_from None b.rows) g some in
    let after : AfterRows w p more =
    record {
      some = some;
      own = own;
      order = subst (λ o. AreRows w o more) last parted.1;
      ends =
          group_ends 1000 b.domain (r ∷ rs);
    } in
    let next : AreGood w n (Some p) more (messages_from n time (Some p) more) = ih (Some p) more (refl, inr after) in
    let shorter : length g + length more ≡ suc (length rs) = sym (length-append g more)
    ∙ ap (λ (l : List Row). length l) rest in
    let most_one = extra_of b.rows in
    subst (AreGood w (suc n) (Some b) (r ∷ rs)) (sym (step_group n time b (r ∷ rs) g more here refl refl)) (
      (inr follows, next.0),
      λ enough. let n = next.1 (omega (arith, enough, shorter, some, most_one)) in
          (n.0, ap (λ (l : List Row). g ++ l) n.1 ∙ rest),
    )
  where
    last_again : (o : Option Row) (rows : List Row) → 0 < length rows → last_from o rows ≡ last_from None rows
    last_again o [] h = absurd (omega (arith, h))
    last_again o (r ∷ rs) h = refl

-- after rows of one domain the first row of another is of a greater one, and begins its key
first_of_domain : (w : ℕ) (l r : Row) (rs : List Row) → AreRows w (Some l) (r ∷ rs) → r.key.domain ≢ l.key.domain
    → (l.key.domain < r.key.domain) × AreRows w None (r ∷ rs)
first_of_domain w l r rs h other = ⊎_elim
    (λ c. absurd (other (ap (λ (k : Key). k.domain) c.key)))
    (λ b. let rise = domains_rise l.key r.key b.order in (omega (arith, rise, other), (h.0, b.flows, h.2)))
    h.1

pub good : (w n time : ℕ) → time < 2 ^ 32 → (b : Option RolledMessage) (rows : List Row) → IsReady w time b rows
    → AreGood w n b rows (messages_from n time b rows)
unfolding messages_from
good w zero time small None [] ready = (tt, λ enough. (tt, refl))
good w zero time small None (r ∷ rs) ready = (tt, λ enough. absurd (omega (arith, enough)))
good w zero time small (Some b) [] ready = (tt, λ enough. (⊎_elim (λ h. absurd h.starts) (λ h. h.some) ready.1, refl))
good w zero time small (Some b) (r ∷ rs) ready =
    (tt, λ enough. absurd (let e = extra_of b.rows in omega (arith, enough, e)))
good w (suc n) time small None [] ready = (tt, λ enough. (tt, refl))
good w (suc n) time small (Some b) [] ready =
    (tt, λ enough. (⊎_elim (λ h. absurd h.starts) (λ h. h.some) ready.1, refl))
good w (suc n) time small None (r ∷ rs) ready =
    good_head w n time None r rs small tt (λ is. is) ready (good w n time small) refl
good w (suc n) time small (Some b) (r ∷ rs) ready = ⊎_elim
    (λ h. good_rows w n time b r rs h.starts ready.0 (inl (ap (λ (l : List Row). length l) h.none))
    (subst (λ (l : List Row). AreRows w (last_from None l) (r ∷ rs)) (sym h.none) h.order) (good w n time small))
    (λ h. ⊎_elim
    (λ same. good_rows w n time b r rs same ready.0
    (inr (⊎_elim (λ full. full) (λ past. absurd (past same)) h.ends)) h.order (good w n time small))
    (λ differs.
    let l = last_of b.domain None b.rows h.some h.own in
    let first = first_of_domain w l.0 r rs (subst (λ o. AreRows w o (r ∷ rs)) l.1 h.order) (λ e. differs (e ∙ l.2)) in
    let above : b.domain < r.key.domain = subst (λ d. d < r.key.domain) l.2 first.0 in
    good_head w n time (Some b) r rs small above
    (λ is. inl (record { head = is; time = sym ready.0; rows = h.some; domain = above })) first.1
    (good w n time small) (extra_none b.rows h.some))
    (decide r.key.domain b.domain))
    ready.1
  where
    extra_none : (rows : List Row) → 0 < length rows → extra rows ≡ 0
    extra_none [] h = absurd (omega (arith, h))
    extra_none (r ∷ rs) h = refl

-- ---- from the beginning

-- the messages of rows in order
pub record AreRolledMessages (w time : ℕ) (rows : List Row) (ps : List RolledMessage) : Type 0 where
  pub follow : AllFollow w None ps
  pub ends : EndsWell None ps
  pub same : rows_within ps ≡ rows

pub parts_are : (w time : ℕ) (rows : List Row) → time < 2 ^ 32 → AreRows w None rows
    → AreRolledMessages w time rows (messages_with time rows)
parts_are w time rows small order =
    let g = good w (2 * length rows) time small None rows order in
    let e = g.1 (omega arith) in
    record { follow = g.0; ends = e.0; same = e.1 }

times_of : (w : ℕ) (p : RolledMessage) (ps : List RolledMessage) → AllFollow w None (p ∷ ps)
    → AllByRecursion (λ q. q.time ≡ p.time) (p ∷ ps)
times_of w p ps all = (refl, one_time w p ps all.1)

-- what follows to a good end are the messages of its rows
pub whole_parts : (w : ℕ) (p : RolledMessage) (ps : List RolledMessage) → AllFollow w None (p ∷ ps)
    → EndsWell None (p ∷ ps)
    → messages_with p.time (rows_within (p ∷ ps)) ≡ p ∷ ps
whole_parts w p ps all ends =
    let few = few_parts w p ps all.1 ends in
    let none = (all.0).rows in
    let e = ap extra none in
    let l : length (rows_within (p ∷ ps)) ≡ length (rows_within ps) =
    ap (λ (x : List Row). length (x ++ rows_within ps)) none in
    again w (2 * length (rows_within (p ∷ ps))) p.time None (p ∷ ps) all ends (times_of w p ps all)
    (omega (arith, few, e, l))
