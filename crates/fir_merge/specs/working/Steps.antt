-- The walk over the nodes of indices, from the last one on.
use Rattle.std.specs.Prelude.{◌≡◌, ℕ, ◌<◌, List, ◌∷◌, Option}
use Rattle.fir_leaf.specs.declared.node.Node.{Node as LeafNode}
use Rattle.fir_leaf.specs.working.Nodes.{entries, picks_at}
use Rattle.fir_meaning.specs.working.TermValues.{Holds}
use Rattle.fir_meaning.specs.working.Terms.{no_picks}
use Rattle.fir_driven.specs.working.Indices.{nodes_up_to}
use Rattle.fir_net.specs.declared.node.Node.{Node}
use Rattle.fir_merge.specs.declared.bound.Bound.{Bound}
use Rattle.fir_merge.specs.declared.index.Index.{Index}
use Rattle.fir_merge.specs.declared.index.Step.{Step}
use Rattle.fir_merge.specs.working.Entries.{BoundsBelow, EntriesStand, IndicesStand}
use Rattle.fir_merge.specs.working.NodeTerms.{IsBelow}

-- the last index, and an earlier place up to which the others stand
pub record IsStep (nodes : List LeafNode) (bounds : List Bound) (picks : Option ℕ) (s : Step) : Type 0 where
  pub below : (n : ℕ) → BoundsBelow n bounds → IsBelow n s.index.bound.read
  pub stand : (holds : Holds) (net : List Node) → EntriesStand holds net bounds (entries nodes) → (xs : List Index)
      → IndicesStand holds net xs (picks_at (entries nodes) s.before) → IndicesStand holds net (s.index ∷ xs) (picks_at (entries nodes) picks)
  pub earlier : nodes_up_to s.before < nodes_up_to picks

-- no index is there
abbrev pub IsNoStep : List LeafNode → List Bound → Option ℕ → Type 0
IsNoStep nodes bounds picks = (holds : Holds) (net : List Node) → EntriesStand holds net bounds (entries nodes) → picks_at (entries nodes) picks ≡ no_picks
