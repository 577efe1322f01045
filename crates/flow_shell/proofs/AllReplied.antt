-- The lines of an input, answered one after the other.
use Rattle.std.proofs.Common.{inl, inr, ◌≡◌, ℕ, zero, suc, List, [], Bool, true, false, Option, Some, None, refl, sym, ◌∙◌, ap, subst}
use Rattle.std.specs.Prelude.{⊤, IfSome, IsTrue}
use Rattle.std.proofs.lemmas.List.{append-nil}
use mathlib.Core.List.{IsPrefix}
use Rattle.std.specs.Io.BufRead.{drop_through, first_piece}
use Rattle.std.specs.Io.KnownBytes.{IsAtEnd}
use Rattle.flow_model.specs.Changes.{Change}
use Rattle.flow_feed.specs.declared.batch.Fed.{Fed}
use Rattle.flow_shell.specs.declared.asked.Query.{Query}
use Rattle.flow_shell.specs.declared.losses.FeedCounts.{FeedCounts}
use Rattle.flow_shell.specs.declared.serving.End.{End}
use Rattle.flow_shell.specs.declared.serving.End.TheVariants as end
use Rattle.flow_shell.specs.Asked.{after_lines, IsNextLine}
use Rattle.flow_shell.specs.Replies.{AreAnswered, AreReplied, IsEndOf, IsLineReplied}

-- what is left after one line more
pub after_one : (n : ℕ) (octets : List ℕ) → after_lines (suc n) octets ≡ drop_through 10 (after_lines n octets)
after_one zero octets = refl
after_one (suc n) octets = after_one n (drop_through 10 octets)

-- Lines were answered, where it's known what the input has, and as many of it are left.
pub record Serving (said : ℕ → Fed → Type 0) (had : FeedCounts → Type 0)
    (answered : List Change → Query → Option (List ℕ) → Option (List ℕ) → Type 0) (first left : Option (List ℕ))
    (is_first is_read : Bool) (count : ℕ) (seen shown : List Change) (old new : Option (List ℕ)) : Type 0 where
  pub going : is_read ≡ is_first
  pub replied : IfSome first (λ octets. IsTrue is_first
      → AreReplied said had answered octets count seen shown old new × (left ≡ Some (after_lines count octets)))

-- none was answered
pub none_replied : (said : ℕ → Fed → Type 0) (had : FeedCounts → Type 0)
    (answered : List Change → Query → Option (List ℕ) → Option (List ℕ) → Type 0) (first : Option (List ℕ))
    (is_first : Bool) (seen : List Change) (old : Option (List ℕ))
    → Serving said had answered first first is_first is_first zero seen seen old old
none_replied said had answered first is_first seen old = record { going = refl; replied = by first }
  where
    by : (input : Option (List ℕ)) → IfSome input (λ octets. IsTrue is_first
        → AreReplied said had answered octets zero seen seen old old × (input ≡ Some (after_lines zero octets)))
    by None = tt
    by (Some octets) = λ is. ((refl, refl), refl)

-- the line at hand is the next one
next_line : (octets line : List ℕ) (input left : Option (List ℕ)) (n : ℕ) → input ≡ Some (after_lines n octets)
    → IsNextLine input left line
    → (line ≡ first_piece 10 (after_lines n octets)) × (left ≡ Some (after_lines (suc n) octets))
next_line octets line input left n is next = by (subst (λ (i : Option (List ℕ)). IsNextLine i left line) is next)
  where
    by : IsNextLine (Some (after_lines n octets)) left line
        → (line ≡ first_piece 10 (after_lines n octets)) × (left ≡ Some (after_lines (suc n) octets))
    by (some, this, rest) = (this, rest ∙ ap (λ (l : List ℕ). Some l) (sym (after_one n octets)))

-- one line more was answered
pub line_more : (said : ℕ → Fed → Type 0) (had : FeedCounts → Type 0)
    (answered : List Change → Query → Option (List ℕ) → Option (List ℕ) → Type 0) (first input left : Option (List ℕ))
    (is_first was is_read quits : Bool) (count next : ℕ) (seen before shown : List Change)
    (old mid new : Option (List ℕ)) (line : List ℕ)
    → Serving said had answered first input is_first was count seen before old mid → IsNextLine input left line
    → is_read ≡ was → IsPrefix before shown → quits ≡ false → next ≡ suc count
    → IsLineReplied said had (answered shown) line quits mid new
    → Serving said had answered first left is_first is_read next seen shown old new
line_more said had answered first input left is_first was is_read quits count next seen before shown old mid new line s
    is_next is_going later no_quit one_more this =
    record {
      going = is_going ∙ s.going;
      replied = subst (λ (n : ℕ). IfSome first (λ octets. IsTrue is_first
          → AreReplied said had answered octets n seen shown old new × (left ≡ Some (after_lines n octets))))
          (sym one_more) (by first s.replied);
    }
  where
    by : (known : Option (List ℕ)) → IfSome known (λ octets. IsTrue is_first
        → AreReplied said had answered octets count seen before old mid × (input ≡ Some (after_lines count octets)))
        → IfSome known (λ octets. IsTrue is_first
        → AreReplied said had answered octets (suc count) seen shown old new
        × (left ≡ Some (after_lines (suc count) octets)))
    by None h = tt
    by (Some octets) h = λ is.
        let so_far = h is in
        let now = next_line octets line input left count so_far.1 is_next in
        let piece = first_piece 10 (after_lines count octets) in
        let reply : IsLineReplied said had (answered shown) piece false mid new =
        subst (λ (l : List ℕ). IsLineReplied said had (answered shown) l false mid new) now.0
        (subst (λ (q : Bool). IsLineReplied said had (answered shown) line q mid new) no_quit this) in
        ((before, mid, so_far.0, later, reply), now.1)

-- how requests end where nothing is written after the last line
pub ended_so : (said : ℕ → Fed → Type 0) (had : FeedCounts → Type 0)
    (answered : List Change → Query → Option (List ℕ) → Option (List ℕ) → Type 0) (first input : Option (List ℕ))
    (is_first is_read : Bool) (count : ℕ) (seen shown : List Change) (old new : Option (List ℕ)) (how : End)
    → Serving said had answered first input is_first is_read count seen shown old new
    → ((octets : List ℕ) → IsTrue is_read → input ≡ Some (after_lines count octets)
    → IsEndOf how said had (answered shown) octets count new new)
    → IfSome first (λ octets. IsTrue is_first → AreAnswered said had answered octets how seen shown old new)
ended_so said had answered first input is_first is_read count seen shown old new how s end = by first s.replied
  where
    by : (known : Option (List ℕ)) → IfSome known (λ octets. IsTrue is_first
        → AreReplied said had answered octets count seen shown old new × (input ≡ Some (after_lines count octets)))
        → IfSome known (λ octets. IsTrue is_first → AreAnswered said had answered octets how seen shown old new)
    by None h = tt
    by (Some octets) h = λ is. record {
      count = count;
      before = shown;
      mid = new;
      replied = (h is).0;
      later = ([], append-nil shown);
      ended = end octets (subst (λ (b : Bool). IsTrue b) (sym s.going) is) (h is).1;
    }

-- at the end of the input
pub at_end : (octets : List ℕ) (input : Option (List ℕ)) (n : ℕ) → IsAtEnd input → input ≡ Some (after_lines n octets)
    → after_lines n octets ≡ []
at_end octets input n is left = subst (λ (i : Option (List ℕ)). IsAtEnd i) left is

-- how they end by `quit`
pub quit_so : (said : ℕ → Fed → Type 0) (had : FeedCounts → Type 0)
    (answered : List Change → Query → Option (List ℕ) → Option (List ℕ) → Type 0) (first input left : Option (List ℕ))
    (is_first was quits : Bool) (count : ℕ) (seen before shown : List Change) (old mid new : Option (List ℕ))
    (line : List ℕ) → Serving said had answered first input is_first was count seen before old mid
    → IsNextLine input left line → IsPrefix before shown → quits ≡ true
    → IsLineReplied said had (answered shown) line quits mid new
    → IfSome first (λ octets. IsTrue is_first → AreAnswered said had answered octets end.Quit seen shown old new)
quit_so said had answered first input left is_first was quits count seen before shown old mid new line s is_next later
    is_quit this = by first s.replied
  where
    by : (known : Option (List ℕ)) → IfSome known (λ octets. IsTrue is_first
        → AreReplied said had answered octets count seen before old mid × (input ≡ Some (after_lines count octets)))
        → IfSome known (λ octets. IsTrue is_first → AreAnswered said had answered octets end.Quit seen shown old new)
    by None h = tt
    by (Some octets) h = λ is.
        let now = next_line octets line input left count (h is).1 is_next in
        record {
          count = count;
          before = before;
          mid = mid;
          replied = (h is).0;
          later = later;
          ended = subst (λ (l : List ℕ). IsLineReplied said had (answered shown) l true mid new) now.0
              (subst (λ (q : Bool). IsLineReplied said had (answered shown) line q mid new) is_quit this);
        }
