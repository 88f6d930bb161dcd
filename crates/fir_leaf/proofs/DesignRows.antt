-- Worked circuits of several modules, computed from their texts to what their leaf circuits store.
use Rattle.std.proofs.Common.{◌≡◌, [], ◌∷◌, Some, None, refl}
use Rattle.std.specs.Prelude.{codes}
use Rattle.fir_meaning.specs.working.Designs.{elaborated}
use Rattle.fir_leaf.proofs.TextTrees as text
use Rattle.fir_leaf.proofs.RowTrees.{over_leaves, paths_of, stores}

-- two instances of one module, joined by a port with a flipped field: what goes down the one field comes back up the other
leaves_of_chain : paths_of (over_leaves text.chain) ≡
    codes "x" ∷ codes "y" ∷ codes "seen" ∷ codes "p.up.d" ∷ codes "p.up.r" ∷ codes "p.down.d" ∷ codes "p.down.r" ∷ codes "q.up.d" ∷ codes "q.up.r"
    ∷ codes "q.down.d" ∷ codes "q.down.r" ∷ []
unfolding elaborated
leaves_of_chain = refl

-- in the order of the leaves: at 5 the answer is 1, at 6 it is 0; what is stored is what is settled, and nothing at the input
chain_gives :
    (stores (over_leaves text.chain) (5 ∷ 5 ∷ 1 ∷ 5 ∷ 1 ∷ 5 ∷ 1 ∷ 5 ∷ 1 ∷ 5 ∷ 1 ∷ []) (0 ∷ 1 ∷ 2 ∷ 3 ∷ 4 ∷ 5 ∷ 6 ∷ 7 ∷ 8 ∷ 9 ∷ 10 ∷ [])
    ≡ None ∷ Some 5 ∷ Some 1 ∷ Some 5 ∷ Some 1 ∷ Some 5 ∷ Some 1 ∷ Some 5 ∷ Some 1 ∷ Some 5 ∷ Some 1 ∷ [])
    × (stores (over_leaves text.chain) (6 ∷ 6 ∷ 0 ∷ 6 ∷ 0 ∷ 6 ∷ 0 ∷ 6 ∷ 0 ∷ 6 ∷ 0 ∷ []) (0 ∷ 1 ∷ 2 ∷ 3 ∷ 4 ∷ 5 ∷ 6 ∷ 7 ∷ 8 ∷ 9 ∷ 10 ∷ [])
    ≡ None ∷ Some 6 ∷ Some 0 ∷ Some 6 ∷ Some 0 ∷ Some 6 ∷ Some 0 ∷ Some 6 ∷ Some 0 ∷ Some 6 ∷ Some 0 ∷ [])
unfolding elaborated
chain_gives = (refl, refl)

-- an instance in a when that is not taken stores all the same, and what the when drives outside of it stays
leaves_in_when : paths_of (over_leaves text.instance_in_a_when) ≡ codes "a" ∷ codes "o" ∷ codes "b.i" ∷ codes "b.o" ∷ []
unfolding elaborated
leaves_in_when = refl

in_when_gives :
    (stores (over_leaves text.instance_in_a_when) (0 ∷ 0 ∷ 0 ∷ 1 ∷ []) (0 ∷ 1 ∷ 2 ∷ 3 ∷ []) ≡ None ∷ Some 0 ∷ Some 0 ∷ Some 1 ∷ [])
    × (stores (over_leaves text.instance_in_a_when) (1 ∷ 0 ∷ 1 ∷ 0 ∷ []) (0 ∷ 1 ∷ 2 ∷ 3 ∷ []) ≡ None ∷ Some 0 ∷ Some 1 ∷ Some 0 ∷ [])
unfolding elaborated
in_when_gives = (refl, refl)
