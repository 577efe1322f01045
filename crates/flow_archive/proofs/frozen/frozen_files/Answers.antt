use Rattle.std.proofs.Common.{◌≡◌, ℕ, ◌+◌, ◌++◌, List, [], ◌∷◌, drop, length, refl, sym, ◌∙◌, ap, subst, arith, rules}
use Rattle.std.proofs.Common.{vec_len}
use Rattle.std.proofs.lemmas.List.{append-nil}
use Rattle.std.specs.List.{AllByRecursion}
use Rattle.flow_manifest.specs.declared.manifest.Entry.{Entry}
use Rattle.flow_manifest.specs.Following.{no_entry}
use Rattle.flow_archive.specs.Frozen.{all_frozen, Frozen, MayBeFrozen}
use Rattle.flow_recover.specs.Kept.{AreFilesOf}
use Rattle.flow_archive.proofs.Owning.{grown, next_of, none_left}
use Rattle.flow_archive.proofs.frozen.frozen_files.Goals as goal

nothing_left : {X : Type 0} (l : List X) → length l ≡ 0 → l ≡ []
nothing_left [] is = refl
nothing_left (x ∷ l) is = absurd (omega (arith, is))

pub named-requires-clause-number : goal.named-requires-clause-number
named-requires-clause-number g c =
    let S = g.S.SealedFile in
    let entries = c.args.entries.now in
    let was = c.loop-file.invariant in
    let n = vec_len c.loop-file.frozen in
    let some = c.in-Some.ensures.steps in
    let at : c.len-in-loop-file.result ≡ n = c.len-in-loop-file.ensures in
    let files = subst (λ (xs : List g.row.S.Denot). AreFilesOf S.number S.size S.honest was.named.0 (drop n entries) xs)
    some.0 was.named.1 in
    let next = next_of S.number S.size S.honest S.octets was.named.0 entries n no_entry c.in-Some.file
    c.next.new.self.rest.items files was.shapes in
    rw at next.named.number_is

pub named-requires-clause-long : goal.named-requires-clause-long
named-requires-clause-long g c =
    let S = g.S.SealedFile in
    let entries = c.args.entries.now in
    let was = c.loop-file.invariant in
    let n = vec_len c.loop-file.frozen in
    let some = c.in-Some.ensures.steps in
    let at : c.len-in-loop-file.result ≡ n = c.len-in-loop-file.ensures in
    let files = subst (λ (xs : List g.row.S.Denot). AreFilesOf S.number S.size S.honest was.named.0 (drop n entries) xs)
    some.0 was.named.1 in
    let next = next_of S.number S.size S.honest S.octets was.named.0 entries n no_entry c.in-Some.file
    c.next.new.self.rest.items files was.shapes in
    rw at next.named.long

pub loop-file-preserved : goal.loop-file-preserved
loop-file-preserved g c =
    let S = g.S.SealedFile in
    let entries = c.args.entries.now in
    let was = c.loop-file.invariant in
    let n = vec_len c.loop-file.frozen in
    let some = c.in-Some.ensures.steps in
    let rest = c.next.new.self.rest.items in
    let at : c.len-in-loop-file.result ≡ n = c.len-in-loop-file.ensures in
    let count : vec_len c.push_reserved.new.self ≡ n + 1 = omega (arith, c.push_reserved.ensures.len) in
    let files = subst (λ (xs : List g.row.S.Denot). AreFilesOf S.number S.size S.honest was.named.0 (drop n entries) xs)
    some.0 was.named.1 in
    let next = next_of S.number S.size S.honest S.octets was.named.0 entries n no_entry c.in-Some.file rest files
    was.shapes in
    record {
      done = grown S.number S.size S.honest S.octets was.named.0 entries n (vec_len c.push_reserved.new.self) no_entry
          c.in-Some.file rest c.loop-file.frozen.items c.push_reserved.new.self.items _ c.named.result next
          c.push_reserved.ensures.items (rw (← at) c.named.ensures) count
          (subst (λ (xs : List g.row.S.Denot). c.loop-file.frozen.items
          ++ all_frozen S.honest S.octets (drop n entries) xs
          ≡ all_frozen S.honest S.octets entries c.args.files.items) some.0 was.done);
      named = (
        was.named.0,
        subst (λ (k : ℕ). AreFilesOf S.number S.size S.honest was.named.0 (drop k entries) rest) (sym count) next.others,
      );
      shapes = subst (λ (k : ℕ). AllByRecursion (λ (e : Entry). MayBeFrozen e.kind e) (drop k entries)) (sym count)
          next.shapes;
      room = omega (arith, was.room, ap length some.0, count, c.push_reserved.ensures.capacity);
    }

pub returns : goal.returns
returns g c =
    let S = g.S.SealedFile in
    let none : c.loop-file.file-iterator.rest.items ≡ [] = nothing_left c.loop-file.file-iterator.rest.items (search
    rules) in
    sym (append-nil c.loop-file.frozen.items)
    ∙ ap (λ (l : List Frozen). c.loop-file.frozen.items ++ l)
    (sym (none_left S.number S.size S.honest S.octets c.loop-file.invariant.named.0
    (drop (vec_len c.loop-file.frozen) c.args.entries.now)))
    ∙ ap (λ (l : List g.row.S.Denot). c.loop-file.frozen.items
    ++ all_frozen S.honest S.octets (drop (vec_len c.loop-file.frozen) c.args.entries.now) l) (sym none)
    ∙ c.loop-file.invariant.done
