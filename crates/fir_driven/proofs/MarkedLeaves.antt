-- Marked leaves that are listed one after another.
use Rattle.std.proofs.Common.{◌≡◌, ℕ, ◌+◌, ◌<◌, List, [], ◌∷◌, ◌++◌, Bool, true, false, not, ◌&&◌, ◌||◌, if◌then◌else◌, length, take, get_or, sym, ◌∙◌, nat_eq, arith}
use Rattle.std.proofs.lemmas.Bool.{eqb-true}
use Rattle.fir_meaning.specs.working.TermReads.{is_among}
use Rattle.fir_driven.specs.working.Covering.{flag_at}
use Rattle.fir_driven.specs.working.FlagChanges.{FlagsBecome}
use Rattle.fir_driven.specs.working.CoverWalks.{MovesMarked}
use Rattle.fir_driven.proofs.AmongLeaves.{among_more, among_push}
use Rattle.fir_driven.proofs.FlagSteps.{become_then}

mark_taken : (here among was : Bool) → (if here then false else (was && not among)) ≡ (was && not (among || here))
mark_taken here among was = grind arith

listed_here : (here among before mark : Bool) → (here ≡ true → (mark && not among) ≡ true)
    → ((before || (mark && among)) || here) ≡ (before || (mark && (among || here)))
listed_here here among before mark h = grind arith

passed_mark : (here among mark : Bool) → (here ≡ true → (mark && not among) ≡ false) → (mark && not among) ≡ (mark && not (among || here))
passed_mark here among mark h = grind arith

passed_here : (here among before mark : Bool) → (here ≡ true → (mark && not among) ≡ false)
    → (before || (mark && among)) ≡ (before || (mark && (among || here)))
passed_here here among before mark h = grind arith

module _ (a b : List Bool) (xs : List ℕ) (i d : ℕ) (f g : List ℕ) (lt : i < length xs) (moves : MovesMarked (take i xs) a b f g) where
  -- what is known of the leaf's mark, at a leaf that is the same
  mark_here : (value : Bool) → flag_at b (get_or xs i d) ≡ value → (x : ℕ) → x < length a → nat_eq (get_or xs i d) x ≡ true
      → (flag_at a x && not (is_among (take i xs) x)) ≡ value
  mark_here value is x within e = sym (moves.marks.each x within) ∙ rw (← eqb-true (get_or xs i d) x e) is

  -- the next leaf is marked
  pub moves_more : (c : List Bool) (h : List ℕ) → flag_at b (get_or xs i d) ≡ true
      → FlagsBecome b c (λ x was. if nat_eq (get_or xs i d) x then false else was) → h ≡ g ++ get_or xs i d ∷ []
      → MovesMarked (take (i + 1) xs) a c f h
  moves_more c h is q grown = record {
    marks = become_then a b c _ _ _ moves.marks q
        (λ x was. rw (among_more xs i d x lt) (mark_taken (nat_eq (get_or xs i d) x) (is_among (take i xs) x) was));
    listed = λ x within.
        rw (grown, among_push g (get_or xs i d) x, moves.listed x within, among_more xs i d x lt)
        (listed_here (nat_eq (get_or xs i d) x) (is_among (take i xs) x) (is_among f x) (flag_at a x) (mark_here true is x within));
  }

  -- or it is not
  pub moves_same : flag_at b (get_or xs i d) ≡ false → MovesMarked (take (i + 1) xs) a b f g
  moves_same is = record {
    marks = record {
      count = moves.marks.count;
      each = λ x within.
          moves.marks.each x within
          ∙ rw (among_more xs i d x lt) (passed_mark (nat_eq (get_or xs i d) x) (is_among (take i xs) x) (flag_at a x) (mark_here false is x within));
    };
    listed = λ x within.
        rw (moves.listed x within, among_more xs i d x lt)
        (passed_here (nat_eq (get_or xs i d) x) (is_among (take i xs) x) (is_among f x) (flag_at a x) (mark_here false is x within));
  }
