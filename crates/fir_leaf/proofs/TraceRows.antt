-- Worked runs over leaves, computed from texts: what circuits without a state show, tick by tick.
-- A run is computed from the numbers of all leaves at each tick; no leaf has a clock.
use Rattle.std.proofs.Common.{◌≡◌, ℕ, List, [], ◌∷◌, map, true, Option, None, refl, subst}
use Rattle.fir_meaning.specs.working.TermReads.{multiples}
use Rattle.fir_meaning.specs.working.Designs.{elaborated}
use Rattle.fir_meaning.specs.working.LeafCircuits.{LeafCircuit}
use Rattle.fir_meaning.specs.MemoryWords.{addresses}
use Rattle.fir_meaning.specs.working.LeafAllows.{Run}
use Rattle.fir_leaf.proofs.TextTrees as text
use Rattle.fir_leaf.proofs.RowTrees.{over_leaves}
use Rattle.fir_leaf.proofs.SmallCircuits.{shows, tick}
use Rattle.fir_leaf.proofs.SettledTests.{are_settled, run_by, shown_by}

abbrev no_clocks : LeafCircuit → List (Option ℕ)
no_clocks c = map (λ l. None) c.leaves

-- these inputs give these outputs, tick by tick
record Gives (c : LeafCircuit) (inputs outputs : List (List ℕ)) : Type 0 where
  run : Run c [] (map (tick []) inputs) (map (λ o. shows o []) outputs)

-- by the numbers of all leaves at each tick
by_numbers : {c : LeafCircuit} {inputs outputs : List (List ℕ)} (numbers : List (List ℕ))
    → are_settled c (no_clocks c) [] (map (tick []) inputs) numbers ≡ true
    → shown_by c (no_clocks c) [] (map (tick []) inputs) numbers ≡ map (λ o. shows o []) outputs
    → Gives c inputs outputs
by_numbers {c = c} {inputs = inputs} numbers settled shown = record {
  run = subst (Run c [] (map (tick []) inputs)) shown (run_by c (no_clocks c) [] (map (tick []) inputs) numbers settled);
}

-- o <= a, and in a when of c behind it o <= b; the inputs are a, b and c
last_wins_gives : Gives (over_leaves text.last_wins) ((1 ∷ 0 ∷ 0 ∷ []) ∷ (1 ∷ 0 ∷ 1 ∷ []) ∷ (0 ∷ 1 ∷ 1 ∷ []) ∷ []) ((1 ∷ []) ∷ (0 ∷ []) ∷ (1 ∷ []) ∷ [])
unfolding elaborated multiples addresses
last_wins_gives = by_numbers ((1 ∷ 0 ∷ 0 ∷ 1 ∷ []) ∷ (1 ∷ 0 ∷ 1 ∷ 0 ∷ []) ∷ (0 ∷ 1 ∷ 1 ∷ 1 ∷ []) ∷ []) refl refl

-- o <= a, and in a when of c a wire w <= not(a), a node n = w, and o <= n; the inputs are a and c. The wire is driven in both ticks
wire_in_a_when_gives : Gives (over_leaves text.wire_in_a_when) ((1 ∷ 0 ∷ []) ∷ (1 ∷ 1 ∷ []) ∷ []) ((1 ∷ []) ∷ (0 ∷ []) ∷ [])
unfolding elaborated multiples addresses
wire_in_a_when_gives = by_numbers ((1 ∷ 0 ∷ 1 ∷ 0 ∷ 0 ∷ []) ∷ (1 ∷ 1 ∷ 0 ∷ 0 ∷ 0 ∷ []) ∷ []) refl refl

-- o <= a is widened by its sign, and p <= o cut to the low bits
widened_and_cut_gives : Gives (over_leaves text.widened_and_cut) ((3 ∷ []) ∷ (2 ∷ []) ∷ []) ((15 ∷ 3 ∷ []) ∷ (14 ∷ 2 ∷ []) ∷ [])
unfolding elaborated multiples addresses
widened_and_cut_gives = by_numbers ((3 ∷ 15 ∷ 3 ∷ []) ∷ (2 ∷ 14 ∷ 2 ∷ []) ∷ []) refl refl

-- x goes out of an instance p into an instance q by a port that brings back whether it is 5
passed_back_gives : Gives (over_leaves text.passed_back) ((5 ∷ []) ∷ (6 ∷ []) ∷ []) ((5 ∷ 1 ∷ []) ∷ (6 ∷ 0 ∷ []) ∷ [])
unfolding elaborated multiples addresses
passed_back_gives = by_numbers ((5 ∷ 5 ∷ 1 ∷ 5 ∷ 5 ∷ 1 ∷ 1 ∷ 5 ∷ 1 ∷ 5 ∷ []) ∷ (6 ∷ 6 ∷ 0 ∷ 6 ∷ 6 ∷ 0 ∷ 0 ∷ 6 ∷ 0 ∷ 6 ∷ []) ∷ []) refl refl

-- o <- a takes the field b alone, and o.c is invalid
shared_field_gives : Gives (over_leaves text.shared_field) ((3 ∷ 9 ∷ []) ∷ []) ((9 ∷ 0 ∷ []) ∷ [])
unfolding elaborated multiples addresses
shared_field_gives = by_numbers ((3 ∷ 9 ∷ 9 ∷ 0 ∷ []) ∷ []) refl refl

-- w <= w, and behind it w <= a
overwritten_gives : Gives (over_leaves text.overwritten) ((1 ∷ []) ∷ []) ((1 ∷ []) ∷ [])
unfolding elaborated multiples addresses
overwritten_gives = by_numbers ((1 ∷ 1 ∷ 1 ∷ []) ∷ []) refl refl

-- o has 1, 2 and 3, then o[i] <= x, and p <= o[i]; the inputs are i and x. Of an index of 3 nothing is driven, and zero is read
indices_give : Gives (over_leaves text.indices) ((3 ∷ 15 ∷ []) ∷ (1 ∷ 15 ∷ []) ∷ []) ((1 ∷ 2 ∷ 3 ∷ 0 ∷ []) ∷ (1 ∷ 15 ∷ 3 ∷ 15 ∷ []) ∷ [])
unfolding elaborated multiples addresses
indices_give = by_numbers ((3 ∷ 15 ∷ 1 ∷ 2 ∷ 3 ∷ 0 ∷ []) ∷ (1 ∷ 15 ∷ 1 ∷ 15 ∷ 3 ∷ 15 ∷ []) ∷ []) refl refl
