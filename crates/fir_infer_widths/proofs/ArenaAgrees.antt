-- The least widths that meet the bounds of an arena are those of its expressions under the least widths that meet its rules. For expressions have widths that
-- meet the bounds, and widths that meet the bounds are at least as wide as expressions are under them, so they meet the rules.
use Rattle.std.proofs.Common.{◌≡◌, ℕ, ◌≤◌, ◌<◌, List, min, nat_lt, if◌then◌else◌, Some, None, refl, ap, subst, inl, inr, ◌⊎◌, arith, le_trans, length}
use Rattle.std.specs.Prelude.{Option, slice_get}
use Rattle.std.proofs.lemmas.Bool.Decides.{nat_tests}
use Rattle.std.proofs.lemmas.Option.{slice_get_within}
use Rattle.fir_base.specs.Lists.{In}
use Rattle.fir_base.proofs.Elements.{get_in, number_of}
use Rattle.fir_bits.specs.working.Laws.{Monotone}
use Rattle.fir_meaning.specs.WidthExpressions.{Widths, Width, known, unknown, single, pair, greater, guarded, width_under, Rule, MeetsRules, IsLeastOf}
use Rattle.fir_meaning.proofs.LeastRules.{width_le, width_grows}
use Rattle.fir_least_widths.specs.declared.bound.Term.{Term}
use Rattle.fir_least_widths.specs.declared.bound.Term.TheVariants.{Known, Same, Single, Pair, Greater, Guarded}
use Rattle.fir_least_widths.specs.declared.bound.Bound.{Bound}
use Rattle.fir_least_widths.specs.working.Bounds.{term_width, Holds, MeetsBounds, IsLeast, TermWithin, BoundsWithin}
use Rattle.fir_infer_widths.specs.working.Numbered.{IsTermOf, Makes, Asks, AreBoundsOf, Agrees}
use Rattle.fir_width.specs.working.StandingWidths.{Has}

-- the width of the expression of each number
abbrev width_at : Option Width → Widths → ℕ
width_at None w = 0
width_at (Some e) w = width_under e w

abbrev widths_at : List Width → Widths → Widths
widths_at meant w = λ k. width_at (slice_get meant k) w

at_number : (meant : List Width) (w : Widths) (number : ℕ) (e : Width) → Has meant number e → widths_at meant w number ≡ width_under e w
at_number meant w number e h = ap (λ o. width_at o w) h

guarded_le : (c a : ℕ) → a ≤ 129 → (if nat_lt c 129 then min a 129 else 129) ≤ (if nat_lt c 129 then a else 129)
guarded_le c a h = grind (arith, nat_tests)

guarded_grows : (c d a b : ℕ) → c ≤ d → a ≤ b → a ≤ 129 → (if nat_lt c 129 then a else 129) ≤ (if nat_lt d 129 then min b 129 else 129)
guarded_grows c d a b p q r = grind (arith, nat_tests)

-- a term is no wider than its expression, where its numbers have the widths of the parts
made_le : (meant : List Width) (w : Widths) (e : Width) (t : Term) → IsTermOf meant e t → term_width t (widths_at meant w) ≤ width_under e w
made_le meant w (known n) t (m, is, same) = rw is (omega (arith, same))
made_le meant w (unknown k) t h = absurd h
made_le meant w (single op signed a n m) t (i, is, has) = rw (is, at_number meant w i a has) (omega arith)
made_le meant w (pair op signed a b) t (i, j, is, one, other) = rw (is, at_number meant w i a one, at_number meant w j b other) (omega arith)
made_le meant w (greater a b) t (i, j, is, one, other) = rw (is, at_number meant w i a one, at_number meant w j b other) (omega arith)
made_le meant w (guarded c a) t (i, j, is, one, other) =
    rw (is, at_number meant w i c one, at_number meant w j a other) (guarded_le (width_under c w) (width_under a w) (width_le a w))

-- the widths of expressions meet the bounds
expressions_meet : (meant : List Width) (rules : List Rule) (bounds : List Bound) (w : Widths) → AreBoundsOf meant rules bounds → MeetsRules rules w
    → MeetsBounds bounds (widths_at meant w)
expressions_meet meant rules bounds w are m = record { each = λ i b at. by b (are.only b (get_in bounds i b at)) }
  where
    by : (b : Bound) → Makes meant b ⊎ Asks meant rules b → Holds b (widths_at meant w)
    by b (inl made) =
        let own : widths_at meant w b.unknown ≡ width_under made.made w = at_number meant w b.unknown made.made made.has in
        omega (arith, own, made_le meant w made.made b.term made.term)
    by b (inr asks) =
        let own : widths_at meant w b.unknown ≡ min (w b.unknown) 129 = at_number meant w b.unknown (unknown b.unknown) asks.own in
        let gives : widths_at meant w asks.giver ≡ width_under asks.at_least w = at_number meant w asks.giver asks.at_least asks.gives in
        let less : width_under asks.at_least w ≤ w b.unknown = m.each (record { number = b.unknown; at_least = asks.at_least }) asks.rule in
        rw asks.term (omega (arith, own, gives, less))

-- widths that meet the bounds are at least as wide as expressions are under them
module _ (law : Monotone) (meant : List Width) (rules : List Rule) (bounds : List Bound) (u : Widths) (are : AreBoundsOf meant rules bounds) (m : MeetsBounds bounds u) where
  held : (b : Bound) (number : ℕ) (t : Term) → In bounds b → b.unknown ≡ number → b.term ≡ t → term_width t u ≤ u number
  held b number t at own is =
      let place = number_of bounds b at in
      subst (λ j. term_width t u ≤ u j) own (subst (λ s. term_width s u ≤ u b.unknown) is (m.each place.0 b place.1))

  under : (e : Width) (number : ℕ) → Has meant number e → width_under e u ≤ u number
  under (known n) number h =
      let made = are.made number (known n) h in
      let term = made.3 in
      omega (arith, held made.0 number (Known term.0) made.1 made.2 term.1, term.2)
  under (unknown k) number h = let own : number ≡ k = are.made number (unknown k) h in rw own (omega arith)
  under (single op signed a n m) number h =
      let made = are.made number (single op signed a n m) h in
      let term = made.3 in
      le_trans (law op signed (width_under a u) 0 n m (u term.0) 0 (under a term.0 term.2) (omega arith))
      (held made.0 number (Single op signed term.0 n m) made.1 made.2 term.1)
  under (pair op signed a b) number h =
      let made = are.made number (pair op signed a b) h in
      let term = made.3 in
      le_trans (law op signed (width_under a u) (width_under b u) 0 0 (u term.0) (u term.1) (under a term.0 term.3) (under b term.1 term.4))
      (held made.0 number (Pair op signed term.0 term.1) made.1 made.2 term.2)
  under (greater a b) number h =
      let made = are.made number (greater a b) h in
      let term = made.3 in
      let one : width_under a u ≤ u term.0 = under a term.0 term.3 in
      let other : width_under b u ≤ u term.1 = under b term.1 term.4 in
      omega (arith, width_le a u, width_le b u, held made.0 number (Greater term.0 term.1) made.1 made.2 term.2)
  under (guarded c a) number h =
      let made = are.made number (guarded c a) h in
      let term = made.3 in
      le_trans (guarded_grows (width_under c u) (u term.0) (width_under a u) (u term.1) (under c term.0 term.3) (under a term.1 term.4) (width_le a u))
      (held made.0 number (Guarded term.0 term.1) made.1 made.2 term.2)

  rules_met : MeetsRules rules u
  rules_met = record { each = λ r at. asked r at }
    where
      asked : (r : Rule) → In rules r → width_under r.at_least u ≤ u r.number
      asked r at =
          let a = are.asked r at in
          let holds : min (u a.giver) 129 ≤ u r.number = held (record { unknown = r.number; term = Same a.giver }) r.number (Same a.giver) a.bound refl refl in
          omega (arith, holds, under r.at_least a.giver a.gives, width_le r.at_least u)

pub arena_agrees : Monotone → (meant : List Width) (rules : List Rule) (bounds : List Bound) (u w : Widths) → AreBoundsOf meant rules bounds → IsLeast bounds u
    → IsLeastOf rules w → Agrees meant w u
arena_agrees law meant rules bounds u w are least least_of number e h =
    let above : u number ≤ widths_at meant w number = least.least (widths_at meant w) (expressions_meet meant rules bounds w are least_of.meets) number in
    let below : (k : ℕ) → w k ≤ u k = least_of.least u (rules_met law meant rules bounds u are least.meets) in
    omega (arith, above, at_number meant w number e h, width_grows law e w u below, under law meant rules bounds u are least.meets e number h)

-- all numbers of bounds have expressions
module _ (meant : List Width) where
  numbers_within : (e : Width) (t : Term) → IsTermOf meant e t → TermWithin t (length meant)
  numbers_within (known n) t (m, is, same) = rw is tt
  numbers_within (unknown k) t h = absurd h
  numbers_within (single op signed a n m) t (i, is, has) = rw is (slice_get_within meant i a has)
  numbers_within (pair op signed a b) t (i, j, is, one, other) = rw is (slice_get_within meant i a one, slice_get_within meant j b other)
  numbers_within (greater a b) t (i, j, is, one, other) = rw is (slice_get_within meant i a one, slice_get_within meant j b other)
  numbers_within (guarded c a) t (i, j, is, one, other) = rw is (slice_get_within meant i c one, slice_get_within meant j a other)

  unknown_within : (rules : List Rule) (b : Bound) → Makes meant b ⊎ Asks meant rules b → b.unknown < length meant
  unknown_within rules b (inl made) = slice_get_within meant b.unknown made.made made.has
  unknown_within rules b (inr asks) = slice_get_within meant b.unknown (unknown b.unknown) asks.own

  term_within : (rules : List Rule) (b : Bound) → Makes meant b ⊎ Asks meant rules b → TermWithin b.term (length meant)
  term_within rules b (inl made) = numbers_within made.made b.term made.term
  term_within rules b (inr asks) = rw asks.term (slice_get_within meant asks.giver asks.at_least asks.gives)

pub within : (meant : List Width) (rules : List Rule) (bounds : List Bound) → AreBoundsOf meant rules bounds → BoundsWithin bounds (length meant)
within meant rules bounds are = record {
  unknown = λ i b at. unknown_within meant rules b (are.only b (get_in bounds i b at));
  term = λ i b at. term_within meant rules b (are.only b (get_in bounds i b at));
}
