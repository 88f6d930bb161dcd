-- Statements that drive leaves: the pairs of a connect, and the leaves of `is invalid`.
use Rattle.std.specs.Prelude.{◌≡◌, ℕ, ◌<◌, ◌≤◌, List, [], ◌∷◌, map, length, Bool, true, false, ◌||◌, Option, Some, None, slice_index_or}
use Rattle.fir_ast.specs.declared.place.Place.{Place}
use Rattle.fir_ast.specs.Types.{DataType}
use Rattle.fir_meaning.specs.TypeLeaves.{leaf_count}
use Rattle.fir_leaf.specs.declared.node.Node.{Node}
use Rattle.fir_leaf.specs.declared.statement.LeafStmt.{LeafStmt}
use Rattle.fir_meaning.specs.working.LeafedBlocks.{Sides, driven, driven_where, term_at, invalid_block, invalid_leaf, pair_block, pairs_block}
use Rattle.fir_meaning.specs.working.LeafPairs.{LeafPair}
use Rattle.fir_leaf.specs.working.Nodes.{AllBelow, node_term}
use Rattle.fir_leaf.specs.working.NodeBlocks.{Emitted}
use Rattle.fir_meaning.specs.working.Targets as over
use Rattle.fir_meaning.specs.working.Terms.{Term, zeros}
use Rattle.fir_leaf_pairs.specs.declared.pairs.LeafPair.{LeafPair as PairOfCode}
use Rattle.fir_leaf_pairs.specs.declared.target.Target.{Target}
use Rattle.fir_leaf_pairs.specs.working.TargetNames.{Names}
use Rattle.fir_leaf_pairs.specs.working.PairNumbers.{AreWithin}
use Rattle.fir_leaf_pairs.specs.working.Pairing.{pair_seen}
use Rattle.fir_leaf_pairs.specs.working.Reads.{IsWithin}

-- the nodes at the places stand for these terms
pub record Stand (nodes : List Node) (ids : List ℕ) (ts : List Term) : Type 0 where
  pub within : AllBelow (length nodes) ids
  pub terms : map (node_term nodes) ids ≡ ts

pub record StandsFor (nodes : List Node) (id : ℕ) (t : Term) : Type 0 where
  pub within : id < length nodes
  pub term : node_term nodes id ≡ t

-- the code's target is this one, of so many leaves
pub record HasTarget (ts : List DataType) (nodes : List Node) (n : ℕ) (t : Target) (r : over.Target) : Type 0 where
  pub names : Names ts nodes t r
  pub room : IsWithin r.base n

-- the code has a target where the definitions have one, and it is that one
abbrev pub MayHaveTarget : List DataType → List Node → ℕ → Option Target → Option over.Target → Type 0
MayHaveTarget ts nodes n None None = Unit {0}
MayHaveTarget ts nodes n (Some t) (Some r) = HasTarget ts nodes n t r
MayHaveTarget ts nodes n _ _ = ⊥

-- both sides of a connect, of so many leaves each, without what the left one gives back
pub record HasSides (ts : List DataType) (nodes : List Node) (n m : ℕ) (one : Target) (other : Option Target) (ids : List ℕ) (sides : Sides) : Type 0 where
  pub left : HasTarget ts nodes n one sides.left
  pub right : MayHaveTarget ts nodes m other sides.right
  pub gives : Stand nodes ids sides.gives
  pub all : m ≤ length ids

-- what the left side gives, of so many leaves
pub record GivesBack (nodes : List Node) (n : ℕ) (ids : List ℕ) (sides : Sides) : Type 0 where
  pub gives : Stand nodes ids sides.gives_back
  pub all : n ≤ length ids

abbrev pub is_any_flipped : List LeafPair → Bool
is_any_flipped [] = false
is_any_flipped (p ∷ ps) = p.flip || is_any_flipped ps

-- a leaf of a target is driven
abbrev pub Drives : List LeafStmt → List LeafStmt → Place → Target → ℕ → ℕ → Type 0
Drives before after p t k id =
    (ts : List DataType) (nodes : List Node) (n : ℕ) (r : over.Target) (given : Term) → HasTarget ts nodes n t r → k < n → StandsFor nodes id given
    → Emitted nodes before after (driven p r k given)

-- a pair, and pairs in order
abbrev pub DrivesPair : List LeafStmt → List LeafStmt → Place → Target → Option Target → List ℕ → List ℕ → PairOfCode → Type 0
DrivesPair before after p left right gives gives_back pair =
    (ts : List DataType) (nodes : List Node) (n m : ℕ) (sides : Sides) → HasSides ts nodes n m left right gives sides
    → (pair.flip ≡ true → GivesBack nodes n gives_back sides) → pair.left < n → pair.right < m
    → Emitted nodes before after (pair_block p sides (pair_seen pair))

abbrev pub DrivesPairs : List LeafStmt → List LeafStmt → Place → Target → Option Target → List ℕ → List ℕ → List PairOfCode → Type 0
DrivesPairs before after p left right gives gives_back pairs =
    (ts : List DataType) (nodes : List Node) (n m : ℕ) (sides : Sides) → HasSides ts nodes n m left right gives sides
    → (is_any_flipped (map pair_seen pairs) ≡ true → GivesBack nodes n gives_back sides) → AreWithin n m (map pair_seen pairs)
    → Emitted nodes before after (pairs_block p sides (map pair_seen pairs))

-- a flipped pair
abbrev pub DrivesBack : List LeafStmt → List LeafStmt → Place → Option Target → List ℕ → PairOfCode → Type 0
DrivesBack before after p right gives_back pair =
    (ts : List DataType) (nodes : List Node) (n m : ℕ) (sides : Sides) → MayHaveTarget ts nodes m right sides.right → GivesBack nodes n gives_back sides
    → pair.left < n → pair.right < m → Emitted nodes before after (driven_where p sides.right pair.right (term_at sides.gives_back pair.left))

-- which leaves may be driven, by a table
abbrev pub sinks_in : List Bool → ℕ → Bool
sinks_in sinks x = slice_index_or sinks x false

abbrev pub DrivesZero : List LeafStmt → List LeafStmt → Place → Target → ℕ → ℕ → List Bool → Type 0
DrivesZero before after p t k zero_id sinks =
    (ts : List DataType) (nodes : List Node) (n : ℕ) (r : over.Target) → HasTarget ts nodes n t r → k < n → StandsFor nodes zero_id zeros
    → Emitted nodes before after (invalid_leaf (sinks_in sinks) p r.base r k)

abbrev pub DrivesZeros : List DataType → List LeafStmt → List LeafStmt → Place → Target → ℕ → List Bool → Type 0
DrivesZeros ts before after p t zero_id sinks =
    (nodes : List Node) (r : over.Target) → HasTarget ts nodes (leaf_count r.data_type) t r → StandsFor nodes zero_id zeros
    → Emitted nodes before after (invalid_block (sinks_in sinks) p r)
