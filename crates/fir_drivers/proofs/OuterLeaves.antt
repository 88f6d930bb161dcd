-- Leaves that are declared outside a when, marked one after another and then listed.
use Rattle.std.proofs.Common.{◌≡◌, ℕ, ◌+◌, ◌<◌, ◌≤◌, List, [], Bool, true, false, not, ◌&&◌, ◌||◌, if◌then◌else◌, length, take, get_or, ◌∙◌, nat_eq}
use Rattle.std.proofs.Common.{nat_lt, arith}
use Rattle.std.proofs.lemmas.Bool.{eqb-true, lt-ltb, le-ltb}
use Rattle.fir_meaning.specs.working.TermReads.{is_among}
use Rattle.fir_driven.specs.working.Covering.{depth_in, flag_at}
use Rattle.fir_driven.specs.working.CoverWalks.{MovesMarked}
use Rattle.fir_driven.specs.working.FlagChanges.{FlagsBecome}
use Rattle.fir_driven.proofs.AmongLeaves.{among_more}
use Rattle.fir_driven.proofs.FlagSteps.{become_as, become_then}
use Rattle.fir_drivers.specs.working.TargetLists.{AreUnmarked, TakesOuter}

-- one more is declared outside
outer_here : (here among inner was : Bool) → (here ≡ true → inner ≡ false)
    → (if here then true else (was || (among && not inner))) ≡ (was || ((among || here) && not inner))
outer_here here among inner was h = grind arith

pub outer_more : (a b c : List Bool) (xs depths : List ℕ) (i d k : ℕ) → i < length xs
    → FlagsBecome a b (λ x was. was || (is_among (take i xs) x && not (nat_lt k (depth_in depths x)))) → depth_in depths (get_or xs i d) ≤ k
    → FlagsBecome b c (λ x was. if nat_eq (get_or xs i d) x then true else was)
    → FlagsBecome a c (λ x was. was || (is_among (take (i + 1) xs) x && not (nat_lt k (depth_in depths x))))
outer_more a b c xs depths i d k lt p out q =
    become_then a b c _ _ _ p q
    (λ x was. rw (among_more xs i d x lt) (outer_here (nat_eq (get_or xs i d) x) (is_among (take i xs) x) (nat_lt k (depth_in depths x)) was
    (λ e. let same : get_or xs i d ≡ x = eqb-true _ _ e in le-ltb k (depth_in depths x) (rw (← same) out))))

-- or it is not
inner_here : (here among inner was : Bool) → (here ≡ true → inner ≡ true) → (was || (among && not inner)) ≡ (was || ((among || here) && not inner))
inner_here here among inner was h = grind arith

pub outer_same : (a b : List Bool) (xs depths : List ℕ) (i d k : ℕ) → i < length xs
    → FlagsBecome a b (λ x was. was || (is_among (take i xs) x && not (nat_lt k (depth_in depths x)))) → k < depth_in depths (get_or xs i d)
    → FlagsBecome a b (λ x was. was || (is_among (take (i + 1) xs) x && not (nat_lt k (depth_in depths x))))
outer_same a b xs depths i d k lt p in_ =
    become_as a b _ _ p
    (λ x was. rw (among_more xs i d x lt) (inner_here (nat_eq (get_or xs i d) x) (is_among (take i xs) x) (nat_lt k (depth_in depths x)) was
    (λ e. let same : get_or xs i d ≡ x = eqb-true _ _ e in lt-ltb k (depth_in depths x) (rw (← same) in_))))

-- the marked ones are listed, and no mark is left
no_mark : (among inner was : Bool) → was ≡ false → ((was || (among && not inner)) && not among) ≡ false
no_mark among inner was h = grind arith

outer_listed : (among inner was : Bool) → was ≡ false → (false || ((was || (among && not inner)) && among)) ≡ (not inner && among)
outer_listed among inner was h = grind arith

pub takes_outer : (depths : List ℕ) (k : ℕ) (leaves outer : List ℕ) (marks marked after : List Bool) → AreUnmarked depths marks
    → FlagsBecome marks marked (λ x was. was || (is_among leaves x && not (nat_lt k (depth_in depths x)))) → MovesMarked leaves marked after [] outer
    → TakesOuter depths k leaves outer after
takes_outer depths k leaves outer marks marked after unmarked mark move = record {
  unmarked = record {
    count = move.marks.count ∙ mark.count ∙ unmarked.count;
    unmarked = λ x lt.
        let at_start : x < length marks = omega (arith, unmarked.count) in
        let at_marked : x < length marked = omega (arith, unmarked.count, mark.count) in
        rw (move.marks.each x at_marked, mark.each x at_start)
        (no_mark (is_among leaves x) (nat_lt k (depth_in depths x)) (flag_at marks x) (unmarked.unmarked x lt));
  };
  listed = λ x lt.
      let at_start : x < length marks = omega (arith, unmarked.count) in
      let at_marked : x < length marked = omega (arith, unmarked.count, mark.count) in
      rw (move.listed x at_marked, mark.each x at_start)
      (outer_listed (is_among leaves x) (nat_lt k (depth_in depths x)) (flag_at marks x) (unmarked.unmarked x lt));
}
