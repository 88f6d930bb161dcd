-- The indices that lead to a leaf, as a walk over the nodes finds them: the last first, and each by the node at its place.
use Rattle.std.specs.Prelude.{◌≡◌, ℕ, ◌+◌, ◌<◌, List, [], ◌∷◌, flat_map, nat_lt, if◌then◌else◌, Option, Some, None}
use Rattle.fir_leaf.specs.declared.node.Node.{Node}
use Rattle.fir_leaf.specs.declared.node.Pick.{Pick}
use Rattle.fir_leaf.specs.working.Nodes.{entries, picks_at}
use Rattle.fir_meaning.specs.working.Terms.{Term, pick}
use Rattle.fir_meaning.specs.working.TermReads.{multiples}

-- a node counts on earlier ones alone
abbrev pub earlier : ℕ → Option ℕ → Option ℕ
earlier place None = None
earlier place (Some before) = if nat_lt before place then Some before else None

-- how many nodes there are up to the one at a place
abbrev pub nodes_up_to : Option ℕ → ℕ
nodes_up_to None = 0
nodes_up_to (Some place) = place + 1

-- the index at a node, of which what it counts on is an earlier one
pub record IsIndex (nodes : List Node) (picks : Option ℕ) (p : Pick) : Type 0 where
  pub index : Term
  pub is : picks_at (entries nodes) picks ≡ pick (picks_at (entries nodes) p.before) p.place index p.length p.stride
  pub earlier : nodes_up_to p.before < nodes_up_to picks

-- behind each leaf those of all elements
abbrev pub elements_behind : Pick → List ℕ → List ℕ
elements_behind p firsts = flat_map (λ first. multiples first p.length p.stride) firsts

-- the leaves behind indices, the last index first
abbrev pub leaves_behind : List Pick → List ℕ → List ℕ
leaves_behind [] firsts = firsts
leaves_behind (p ∷ ps) firsts = elements_behind p (leaves_behind ps firsts)
