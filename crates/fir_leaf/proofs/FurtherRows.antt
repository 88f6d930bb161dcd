-- Further circuits over their leaves, computed from their texts: what stands behind a vector, a wire in a when, signs and widths, and the lists of live
-- statements.
use Rattle.std.proofs.Common.{◌≡◌, [], ◌∷◌, Some, None, refl}
use Rattle.fir_bits.specs.declared.operators.PrimOp.TheVariants.{Not}
use Rattle.fir_meaning.specs.working.Terms.{Term, no_picks, no_terms, operation, read, term}
use Rattle.fir_meaning.specs.working.TermReads.{multiples}
use Rattle.fir_meaning.specs.working.LeafBlocks as over
use Rattle.fir_meaning.specs.working.Choices.{below, driving, lives_all}
use Rattle.fir_meaning.proofs.SmallTrees.{at}
use Rattle.fir_meaning.specs.working.Designs.{elaborated}
use Rattle.fir_leaf.proofs.TextTrees as text
use Rattle.fir_leaf.proofs.RowTrees.{over_leaves, stores, takes, statements, four, by_i}

-- o[i] <= x and p <= o[i], where x stands behind the three of o; the leaves are i, three of o, x, and p. An index of 3 reaches neither x nor what it holds
behind_is_not_reached : stores (over_leaves text.behind_vector) (3 ∷ 1 ∷ 2 ∷ 3 ∷ 15 ∷ 0 ∷ []) (0 ∷ 1 ∷ 2 ∷ 3 ∷ 4 ∷ 5 ∷ [])
    ≡ None ∷ None ∷ None ∷ None ∷ None ∷ Some 0 ∷ []
unfolding elaborated
behind_is_not_reached = refl

last_is_reached : stores (over_leaves text.behind_vector) (2 ∷ 1 ∷ 2 ∷ 3 ∷ 15 ∷ 3 ∷ []) (0 ∷ 1 ∷ 2 ∷ 3 ∷ 4 ∷ 5 ∷ [])
    ≡ None ∷ None ∷ None ∷ Some 15 ∷ None ∷ Some 3 ∷ []
unfolding elaborated
last_is_reached = refl

-- o <= a, and in a when of c a wire w <= not(a), a node n = w, and o <= n; the leaves are a, c, o, w and n
abbrev not_a : Term
not_a = operation Not (term (read 0 no_picks) no_terms) []

wire_in_a_when_leafed : (over_leaves text.wire_in_a_when).body
    ≡ statements
    (takes 6 5 2 0
    ∷ over.when (at 7 5) (read 1 no_picks) (statements (over.drive (at 9 7) 3 no_picks not_a ∷ takes 11 7 2 4 ∷ [])) over.done ∷ [])
unfolding elaborated
wire_in_a_when_leafed = refl

-- the wire does not depend on the when that stands round it
wire_stores_outside : stores (over_leaves text.wire_in_a_when) (1 ∷ 0 ∷ 1 ∷ 0 ∷ 0 ∷ []) (2 ∷ 3 ∷ []) ≡ Some 1 ∷ Some 0 ∷ []
unfolding elaborated
wire_stores_outside = refl

wire_stores_inside : stores (over_leaves text.wire_in_a_when) (1 ∷ 1 ∷ 0 ∷ 0 ∷ 0 ∷ []) (2 ∷ 3 ∷ []) ≡ Some 0 ∷ Some 0 ∷ []
unfolding elaborated
wire_stores_inside = refl

wire_stores_one : stores (over_leaves text.wire_in_a_when) (0 ∷ 0 ∷ 0 ∷ 1 ∷ 1 ∷ []) (2 ∷ 3 ∷ []) ≡ Some 0 ∷ Some 1 ∷ []
unfolding elaborated
wire_stores_one = refl

-- o <= a, where a is an SInt of two bits and o one of four, and p <= o, where p has two bits again; the leaves are a, o and p. -1 is widened by its sign, and
-- cut to the low bits
widened_minus_one : stores (over_leaves text.widened_and_cut) (3 ∷ 15 ∷ 3 ∷ []) (1 ∷ 2 ∷ []) ≡ Some 15 ∷ Some 3 ∷ []
unfolding elaborated
widened_minus_one = refl

widened_minus_two : stores (over_leaves text.widened_and_cut) (2 ∷ 14 ∷ 2 ∷ []) (1 ∷ 2 ∷ []) ≡ Some 14 ∷ Some 2 ∷ []
unfolding elaborated
widened_minus_two = refl

-- w <= w, and behind it w <= a, and o <= w; the leaves are a, o and w
overwritten_stores : stores (over_leaves text.overwritten) (1 ∷ 1 ∷ 1 ∷ []) (0 ∷ 1 ∷ 2 ∷ []) ≡ None ∷ Some 1 ∷ Some 1 ∷ []
unfolding elaborated
overwritten_stores = refl

-- what is live for a leaf: behind a when also what stands before it, and of a wire no when that stands round it
last_wins_lives : lives_all 0 3 (over_leaves text.last_wins).body 0
    ≡ driving (at 7 5) no_picks (read 0 no_picks) ∷ below (read 2 no_picks) (driving (at 9 7) no_picks (read 1 no_picks)) ∷ []
unfolding elaborated
last_wins_lives = refl

wire_lives : lives_all 1 3 (over_leaves text.wire_in_a_when).body 0 ≡ driving (at 9 7) no_picks not_a ∷ []
unfolding elaborated
wire_lives = refl

indices_lives : lives_all 0 3 (over_leaves text.indices).body 0
    ≡ driving (at 8 5) no_picks (four 8 13 2) ∷ driving (at 10 5) (by_i 10 7) (read 1 no_picks) ∷ []
unfolding elaborated multiples
indices_lives = refl

-- a connect behind that reaches the leaf in any case covers what stands before
covered_lives : lives_all 0 2 (over_leaves text.covered).body 0 ≡ driving (at 7 5) no_picks (read 1 no_picks) ∷ []
unfolding elaborated
covered_lives = refl
