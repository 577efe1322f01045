use Rattle.std.proofs.Common.{◌≤◌, length, inr, refl, ap, sym, ◌∙◌, arith, length-append, subst}
use Rattle.std.proofs.lemmas.Bool.{eqb-false}
use Rattle.std.specs.List.{flat_map, AllByRecursion}
use Rattle.flow_manifest.specs.Manifest.{entry_octets, FitsEntry}
use Rattle.flow_manifest.proofs.Decoded.{first_entry, others_left, one_more_read}
use Rattle.flow_manifest.proofs.Bodies.{entry_long, all_more}
use Rattle.flow_manifest.proofs.decoding.entries_of.Goals as goal

pub returns-in_default-clause-fault : goal.returns-in_default-clause-fault
returns-in_default-clause-fault c = inr (
  refl,
  λ entries is.
      let left = c.loop-rest.invariant.others entries is in
      let first = first_entry left.0 c.loop-rest.rest.now left.1 (omega (arith, c.loop-rest-test.true)) in
      c.in_default.ensures.other first.0 (flat_map entry_octets first.1) first.2,
)

pub loop-rest-preserved : goal.loop-rest-preserved
loop-rest-preserved c = record {
  fit = subst (AllByRecursion FitsEntry) (sym c.in_ok-push.ensures.items)
      (all_more FitsEntry c.loop-rest.entries.items c.in-Some.entry c.loop-rest.invariant.fit c.in-Some.ensures.fits);
  read = rw (c.in_ok-push.ensures.items)
      (one_more_read c.loop-rest.entries.items c.in-Some.entry c.loop-rest.rest.now c.in-Some.after.now
      c.args.octets.now c.loop-rest.invariant.read c.in-Some.ensures.found);
  others = others_left c.args.octets.now c.loop-rest.rest.now c.in-Some.after.now c.in-Some.entry
      c.in-Some.ensures.found c.loop-rest.invariant.others;
}

pub returns-then-not-is_empty-clause-fault : goal.returns-then-not-is_empty-clause-fault
returns-then-not-is_empty-clause-fault c = inr (
  refl,
  λ entries is.
      let some : 1 ≤ length c.loop-rest.rest.now = let differs =
      eqb-false (length c.loop-rest.rest.now) 0 (sym c.is_empty.ensures ∙ c.if-not-is_empty.true) in omega arith in
      let left = c.loop-rest.invariant.others entries is in
      let first = first_entry left.0 c.loop-rest.rest.now left.1 some in
      omega (
        arith,
        c.loop-rest-test.false,
        ap length first.2,
        length-append (entry_octets first.0) (flat_map entry_octets first.1),
        entry_long first.0,
      ),
)
