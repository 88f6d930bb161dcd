-- Worked circuits over their leaves, computed from their texts: the last connect wins, a when keeps the connect before it, indices pick, flipped fields turn.
-- Each line of a text is named by its number, where the ports begin in line 3.
use Rattle.std.proofs.Common.{◌≡◌, [], ◌∷◌, map, Some, None, refl}
use Rattle.fir_meaning.specs.working.Terms.{no_picks, read, zeros}
use Rattle.fir_meaning.specs.working.LeafBlocks as over
use Rattle.fir_meaning.proofs.SmallTrees.{at}
use Rattle.fir_meaning.specs.working.Designs.{elaborated}
use Rattle.fir_leaf.proofs.TextTrees as text
use Rattle.fir_leaf.proofs.RowTrees.{over_leaves, stores, takes, statements, four, by_i}

-- o <= a, and in a when of c behind it o <= b; the leaves are a, b, c and o
last_wins_leafed : (over_leaves text.last_wins).body
    ≡ statements (takes 7 5 3 0 ∷ over.when (at 8 5) (read 2 no_picks) (statements (takes 9 7 3 1 ∷ [])) over.done ∷ [])
unfolding elaborated
last_wins_leafed = refl

last_wins_stores : map (λ values. stores (over_leaves text.last_wins) values (3 ∷ []))
    ((1 ∷ 0 ∷ 0 ∷ 1 ∷ []) ∷ (1 ∷ 0 ∷ 1 ∷ 0 ∷ []) ∷ (0 ∷ 1 ∷ 1 ∷ 1 ∷ []) ∷ [])
    ≡ (Some 1 ∷ []) ∷ (Some 0 ∷ []) ∷ (Some 1 ∷ []) ∷ []
unfolding elaborated
last_wins_stores = refl

-- o[0] <= 1, o[1] <= 2, o[2] <= 3, o[i] <= x, and p <= o[i]; the leaves are i, x, three of o, and p
indices_leafed : (over_leaves text.indices).body
    ≡ statements
    (over.drive (at 7 5) 2 no_picks (four 7 13 1)
    ∷ over.drive (at 8 5) 3 no_picks (four 8 13 2)
    ∷ over.drive (at 9 5) 4 no_picks (four 9 13 3)
    ∷ over.drive (at 10 5) 2 (by_i 10 7) (read 1 no_picks)
    ∷ over.drive (at 11 5) 5 no_picks (read 2 (by_i 11 12)) ∷ [])
unfolding elaborated
indices_leafed = refl

-- an index out of range drives nothing, and reads zero
index_out_of_range : stores (over_leaves text.indices) (3 ∷ 15 ∷ 1 ∷ 2 ∷ 3 ∷ 0 ∷ []) (2 ∷ 3 ∷ 4 ∷ 5 ∷ []) ≡ Some 1 ∷ Some 2 ∷ Some 3 ∷ Some 0 ∷ []
unfolding elaborated
index_out_of_range = refl

index_in_range : stores (over_leaves text.indices) (1 ∷ 15 ∷ 1 ∷ 15 ∷ 3 ∷ 15 ∷ []) (2 ∷ 3 ∷ 4 ∷ 5 ∷ []) ≡ Some 1 ∷ Some 15 ∷ Some 3 ∷ Some 15 ∷ []
unfolding elaborated
index_in_range = refl

-- a flipped field of the right side is driven by the left: y <= x, and the leaves are x.d, x.r, y.d and y.r
flipped_leafed : (over_leaves text.flipped).body ≡ statements (takes 5 5 2 0 ∷ takes 5 5 1 3 ∷ [])
unfolding elaborated
flipped_leafed = refl

flipped_stores : stores (over_leaves text.flipped) (9 ∷ 1 ∷ 9 ∷ 1 ∷ []) (0 ∷ 1 ∷ 2 ∷ 3 ∷ []) ≡ None ∷ Some 1 ∷ Some 9 ∷ None ∷ []
unfolding elaborated
flipped_stores = refl

-- a partial connect takes the fields that both have: o <- a, and o.c is invalid; the leaves are a.a, a.b, o.b and o.c
shared_field_leafed : (over_leaves text.shared_field).body ≡ statements (takes 5 5 2 1 ∷ over.drive (at 6 5) 3 no_picks zeros ∷ [])
unfolding elaborated
shared_field_leafed = refl

shared_field_stores : stores (over_leaves text.shared_field) (3 ∷ 9 ∷ 9 ∷ 0 ∷ []) (0 ∷ 1 ∷ 2 ∷ 3 ∷ []) ≡ None ∷ None ∷ Some 9 ∷ Some 0 ∷ []
unfolding elaborated
shared_field_stores = refl
