-- Messages of a File, as they are read.
use Rattle.std.proofs.Common.{◌≡◌, ◌⊎◌, inl, inr, ℕ, ◌+◌, true, false, List, [], ◌∷◌, ◌++◌, length, Option, Some, None, Ok, Err}
use Rattle.std.proofs.Common.{refl, sym, ◌∙◌, ap, subst, append-nil, append_assoc, length-append, arith}
use Rattle.std.specs.Prelude.{All}
use Rattle.std.specs.Io.KnownBytes.{Consumes}
use Rattle.std.proofs.lemmas.List.Concat.{flat_map-append}
use Rattle.std.proofs.lemmas.List.Elements.{All-append, All-cons, All-nil}
use Rattle.flow_codec.specs.declared.stream.StreamError.{StreamError}
use Rattle.flow_codec.specs.declared.stream.StreamError.TheVariants as stream
use Rattle.flow_codec.specs.Cutting.{IsCutOff}
use Rattle.flow_codec.specs.Message.{joined}
use Rattle.flow_codec.specs.Stream.{Progress, IsFaultNext, IsStep, IsStop}
use Rattle.flow_feed.specs.declared.batch.FeedStop.TheVariants.{File, OutOfMemory}
use Rattle.flow_feed.specs.Feed.{AreRead, IsEnd}

-- from one to the other these messages were read, and reading goes on
pub record IsReading (old : Progress) (messages : List (List ℕ)) (new : Progress) : Type 0 where
  pub all : All IsCutOff messages
  pub front : Consumes old.rest new.rest (joined messages)
  pub still : new.stopped ≡ None
  pub at : new.at ≡ old.at + length (joined messages)
  pub count : new.count ≡ old.count + length messages

pub joined_then : (a b : List (List ℕ)) → joined (a ++ b) ≡ joined a ++ joined b
joined_then a b = flat_map-append (λ (r : List ℕ). r) a b

pub consumes_none : (known : Option (List ℕ)) → Consumes known known []
consumes_none None = tt
consumes_none (Some octets) = refl

pub consumes_then : (a b c : Option (List ℕ)) (x y : List ℕ) → Consumes a b x → Consumes b c y → Consumes a c (x ++ y)
consumes_then None b c x y p q = tt
consumes_then (Some xs) None c x y p q = absurd p
consumes_then (Some xs) (Some ys) None x y p q = absurd q
consumes_then (Some xs) (Some ys) (Some zs) x y p q =
    p ∙ ap (λ (l : List ℕ). x ++ l) q ∙ sym (append_assoc x y zs)

pub read_none : (p : Progress) → p.stopped ≡ None → IsReading p [] p
read_none p still = record {
  all = All-nil IsCutOff;
  front = consumes_none p.rest;
  still = still;
  at = omega arith;
  count = omega arith;
}

pub read_more : (old mid new : Progress) (messages : List (List ℕ)) → IsReading old messages mid
    → IsStep mid (Ok true) new → IsReading old (messages ++ new.message ∷ []) new
read_more old mid new messages so_far step =
    let one : joined (messages ++ new.message ∷ []) ≡ joined messages ++ new.message =
    joined_then messages (new.message ∷ [])
    ∙ ap (λ (l : List ℕ). joined messages ++ l) (append-nil new.message) in
    let long : length (joined (messages ++ new.message ∷ [])) ≡ length (joined messages) + length new.message =
    ap length one ∙ length-append (joined messages) new.message in
    let counted : length (messages ++ new.message ∷ []) ≡ length messages + 1 =
    length-append messages (new.message ∷ []) in
    record {
      all = All-append IsCutOff messages (new.message ∷ []) so_far.all
          (All-cons IsCutOff new.message [] step.2 (All-nil IsCutOff));
      front = subst (λ (l : List ℕ). Consumes old.rest new.rest l) (sym one)
          (consumes_then old.rest mid.rest new.rest (joined messages) new.message so_far.front step.3);
      still = step.1;
      at = let before = so_far.at in let after = step.6 in omega (arith, long);
      count = let before = so_far.count in let after = step.4 in omega (arith, counted);
    }

-- a message more, of which a copy is held
pub read_held : (old mid new : Progress) (messages held : List (List ℕ)) (message : List ℕ)
    → IsReading old messages mid → IsStep mid (Ok true) new → message ≡ new.message
    → held ≡ messages ++ message ∷ [] → IsReading old held new
read_held old mid new messages held message so_far step is are =
    subst (λ (l : List (List ℕ)). IsReading old l new)
    (sym (are ∙ ap (λ (m : List ℕ). messages ++ m ∷ []) is)) (read_more old mid new messages so_far step)

-- how many are held with it
pub counted_one : (messages held : List (List ℕ)) (message : List ℕ) (n : ℕ) → held ≡ messages ++ message ∷ []
    → length messages ≡ n → length held ≡ n + 1
counted_one messages held message n are counted =
    ap length are ∙ length-append messages (message ∷ []) ∙ ap (λ (k : ℕ). k + 1) counted

pub read_all : (old new : Progress) (messages : List (List ℕ)) → IsReading old messages new
    → AreRead old messages false None new
read_all old new messages so_far = record {
  all = so_far.all;
  rest = new.rest;
  front = so_far.front;
  refused = refl;
  more = λ is. (refl, so_far.still, so_far.at, so_far.count);
  ended = λ is. absurd (cc);
}

pub read_end : (old mid new : Progress) (messages : List (List ℕ)) → IsReading old messages mid
    → IsStep mid (Ok false) new → AreRead old messages true None new
read_end old mid new messages so_far step = record {
  all = so_far.all;
  rest = mid.rest;
  front = so_far.front;
  refused = refl;
  more = λ is. absurd (cc);
  ended = λ is. step.3;
}

stopped_at : (count at place : ℕ) (rest : Option (List ℕ)) (e : StreamError) → at ≡ place → IsStop count at rest e
    → IsEnd place (Some (File e)) rest
stopped_at count at place rest (stream.File fault) is stop =
    subst (λ (n : ℕ). IsFaultNext n rest fault) is stop
stopped_at count at place rest (stream.Read failed) is stop = tt
stopped_at count at place rest stream.NumbersSpent is stop = stop.1

pub read_stop : (old mid new : Progress) (messages : List (List ℕ)) (e : StreamError) → IsReading old messages mid
    → IsStep mid (Err e) new → AreRead old messages true (Some (File e)) new
read_stop old mid new messages e so_far step = record {
  all = so_far.all;
  rest = mid.rest;
  front = so_far.front;
  refused = refl;
  more = λ is. absurd (cc);
  ended = λ is. ends step.0;
}
  where
    ends : (mid.stopped ≡ Some e) ⊎ ((mid.stopped ≡ None) × IsStop mid.count mid.at mid.rest e)
        → IsEnd (old.at + length (joined messages)) (Some (File e)) mid.rest
    ends (inl before) = let still = so_far.still in absurd (cc)
    ends (inr now) = stopped_at mid.count mid.at (old.at + length (joined messages)) mid.rest e so_far.at now.1

pub read_unheld : (old mid new : Progress) (messages : List (List ℕ)) → IsReading old messages mid
    → AreRead old messages true (Some OutOfMemory) new
read_unheld old mid new messages so_far = record {
  all = so_far.all;
  rest = mid.rest;
  front = so_far.front;
  refused = refl;
  more = λ is. absurd (cc);
  ended = λ is. tt;
}
