-- What the bounds of a module's nodes stand for: that of a term for what the term makes, and that of an index for what its expression makes.
use Rattle.std.specs.Prelude.{◌≡◌, ℕ, List, [], ◌∷◌, slice_get, Option, Some}
use Rattle.fir_meaning.specs.working.TermValues.{Holds}
use Rattle.fir_meaning.specs.working.Terms.{Picks, no_picks, pick}
use Rattle.fir_leaf.specs.declared.node.Node.{Node as LeafNode}
use Rattle.fir_leaf.specs.declared.node.Node.TheVariants as node
use Rattle.fir_leaf.specs.working.Nodes.{Entry, a_term, some_picks}
use Rattle.fir_net.specs.declared.node.Node.{Node}
use Rattle.fir_merge.specs.declared.bound.Bound.{Bound}
use Rattle.fir_merge.specs.declared.index.Index.{Index}
use Rattle.fir_merge.specs.working.Bounds.{StandsFor}
use Rattle.fir_merge.specs.working.Made.{made}
use Rattle.fir_merge.specs.working.NodeTerms.{IsBelow}

abbrev pub EntryStands : Holds → List Node → Bound → Entry → Type 0
EntryStands holds net b (a_term t) = StandsFor holds net b (made holds t)
EntryStands holds net b (some_picks no_picks) = Unit {0}
EntryStands holds net b (some_picks (pick ps p i n each)) = StandsFor holds net b (made holds i)

-- one by one
abbrev pub EntriesStand : Holds → List Node → List Bound → List Entry → Type 0
EntriesStand holds net [] [] = Unit {0}
EntriesStand holds net (b ∷ bs) (e ∷ es) = EntryStands holds net b e × EntriesStand holds net bs es
EntriesStand holds net _ _ = ⊥

-- leaves, or some of so many nodes
abbrev pub BoundsBelow : ℕ → List Bound → Type 0
BoundsBelow n [] = Unit {0}
BoundsBelow n (b ∷ bs) = IsBelow n b.read × BoundsBelow n bs

-- the indices up to one, the last first
abbrev pub IndicesStand : Holds → List Node → List Index → Picks → Type 0
IndicesStand holds net [] no_picks = Unit {0}
IndicesStand holds net (x ∷ xs) (pick ps p i n each) =
    StandsFor holds net x.bound (made holds i) × (x.length ≡ n) × (x.stride ≡ each) × IndicesStand holds net xs ps
IndicesStand holds net _ _ = ⊥

abbrev pub IndicesBelow : ℕ → List Index → Type 0
IndicesBelow n [] = Unit {0}
IndicesBelow n (x ∷ xs) = IsBelow n x.bound.read × IndicesBelow n xs

-- where the value of the node at a place is; an index has none
abbrev pub value_of : Option LeafNode → Option Bound → Bound → Bound
value_of (Some (node.Pick p)) b nothing = nothing
value_of (Some n) (Some b) nothing = b
value_of _ _ nothing = nothing

abbrev pub value_in : List LeafNode → List Bound → Bound → ℕ → Bound
value_in nodes bounds nothing place = value_of (slice_get nodes place) (slice_get bounds place) nothing
