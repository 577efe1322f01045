use Rattle.std.proofs.Common.{ap, length, refl, subst, sym, ◌∙◌, ℕ, arith}
use Rattle.std.proofs.lemmas.List.{length_push}
use Rattle.std.proofs.lemmas.Iterator.Adapters.{YieldsList-from_vec}
use Rattle.std.proofs.lemmas.Iterator.Consumers.{YieldsList-end, YieldsList-turn}
use Rattle.flow_measure.specs.Sums.{empty_table}
use Rattle.flow_snapshot.specs.Shares.{AllPartsFit, IsOwnRead}
use Rattle.flow_snapshot.specs.ShelfSeen.{ShelfSeen}
use Rattle.flow_snapshot.proofs.Adding.{made_err}
use Rattle.flow_snapshot.proofs.Dealt.{all_read, joined_read, one_more_read}
use Rattle.flow_snapshot.proofs.Joining.{all_joined, join_any, none_joined, share_at, Joined}
use Rattle.flow_snapshot.proofs.snapshot.Snapshot.joined.Goals as goal

pub loop-share-init : goal.loop-share-init
loop-share-init g c = record {
  faults = refl;
  read = λ honest n none. absurd (omega (arith, none));
  joined = λ honest wide narrow are_wide are_narrow.
      none_joined c.args.self.now.shelf (length c.args.shares.items) wide narrow
      (record { narrow = c.new.result; wide = c.new-2.result })
      (c.new-2.ensures ∙ ap (λ (x : ShelfSeen). empty_table x.shelf.wide) c.self.view_is)
      (c.new.ensures ∙ ap (λ (x : ShelfSeen). empty_table x.shelf.width) c.self.view_is);
}

pub loop-share-preserved : goal.loop-share-preserved
loop-share-preserved g c =
    let self = c.args.self.now in
    let shares = c.args.shares.items in
    let n = length c.loop-share.yielded in
    let gives = c.into_iter-share-iterator.ensures.into_iter_gives in
    let turn = YieldsList-turn (YieldsList-from_vec {s = c.into_iter-share-iterator.result} shares gives.0
    (gives.1 ∙ c.args.shares.ok.0)) c.loop-share.yielded c.loop-share.share-iterator c.loop-share.yielded_by
    c.next.result c.next.new.self c.in-Some.share c.in-Some.is c.next.ensures.steps in
    let item = share_at c.args.first self shares n c.in-Some.share turn.0 turn.1 c.requires.shares in
    record {
      faults = c.in_ok-add_share.ensures.cause.done ∙ c.loop-share.invariant.faults;
      read = λ honest. one_more_read self.shelf (length shares) n _
          (length_push c.loop-share.yielded c.in-Some.share ∙ omega arith) (c.loop-share.invariant.read honest)
          (joined_read (IsOwnRead self.shelf (length shares) n) c.args.first c.loop-share.sums c.add_share.new.sums
          c.in-Some.share.sums _ c.in_ok-add_share.ensures.given (item.1.found honest));
      joined = λ honest wide narrow are_wide are_narrow.
          let made = item.1.given honest wide narrow are_wide are_narrow in
          subst (λ (k : ℕ). Joined self.shelf (length shares) k wide narrow c.add_share.new.sums)
          (sym (length_push c.loop-share.yielded c.in-Some.share))
          (join_any self.shelf (length shares) n c.args.first wide narrow c.loop-share.sums c.add_share.new.sums
          (c.loop-share.invariant.joined honest wide narrow are_wide are_narrow) c.in-Some.share.sums _ made
          c.in_ok-add_share.ensures.given);
    }

pub returns-in_err-add_share-clause-given : goal.returns-in_err-add_share-clause-given
returns-in_err-add_share-clause-given g c = λ honest wide narrow are_wide are_narrow.
    let self = c.args.self.now in
    let shares = c.args.shares.items in
    let n = length c.loop-share.yielded in
    let gives = c.into_iter-share-iterator.ensures.into_iter_gives in
    let turn = YieldsList-turn (YieldsList-from_vec {s = c.into_iter-share-iterator.result} shares gives.0
    (gives.1 ∙ c.args.shares.ok.0)) c.loop-share.yielded c.loop-share.share-iterator c.loop-share.yielded_by
    c.next.result c.next.new.self c.in-Some.share c.in-Some.is c.next.ensures.steps in
    let item = share_at c.args.first self shares n c.in-Some.share turn.0 turn.1 c.requires.shares in
    let made = item.1.given honest wide narrow are_wide are_narrow in
    made_err _ c.args.first (AllPartsFit self.shelf wide narrow) (AllPartsFit self.shelf wide narrow)
    c.from_residual.result c.in_err-add_share.field-0.0 (λ fit. fit) c.from_residual.ensures.1
    (join_any self.shelf (length shares) n c.args.first wide narrow c.loop-share.sums c.add_share.new.sums
    (c.loop-share.invariant.joined honest wide narrow are_wide are_narrow) c.in-Some.share.sums _ made
    c.in_err-add_share.ensures.given)

pub returns-clause-given : goal.returns-clause-given
returns-clause-given g c = λ honest wide narrow are_wide are_narrow.
    let shares = c.args.shares.items in
    let gives = c.into_iter-share-iterator.ensures.into_iter_gives in
    let end = YieldsList-end (YieldsList-from_vec {s = c.into_iter-share-iterator.result} shares gives.0
    (gives.1 ∙ c.args.shares.ok.0)) c.loop-share.yielded c.loop-share.share-iterator c.loop-share.yielded_by
    c.next.result c.next.new.self c.in-None.is c.next.ensures.steps in
    all_joined c.args.self.now.shelf (length shares) (length c.loop-share.yielded) wide narrow c.loop-share.sums
    c.requires.some (omega (arith, end.1)) (c.loop-share.invariant.joined honest wide narrow are_wide are_narrow)

pub returns-clause-found : goal.returns-clause-found
returns-clause-found g c = λ honest.
    let shares = c.args.shares.items in
    let gives = c.into_iter-share-iterator.ensures.into_iter_gives in
    let end = YieldsList-end (YieldsList-from_vec {s = c.into_iter-share-iterator.result} shares gives.0
    (gives.1 ∙ c.args.shares.ok.0)) c.loop-share.yielded c.loop-share.share-iterator c.loop-share.yielded_by
    c.next.result c.next.new.self c.in-None.is c.next.ensures.steps in
    all_read c.args.self.now.shelf (length shares) c.requires.some (λ n within.
    c.loop-share.invariant.read honest n (omega (arith, end.1, within)))
