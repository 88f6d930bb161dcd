-- The terms of what is not there, one for each leaf of its type.
use Rattle.std.specs.Prelude.{◌≡◌, ℕ, List, ◌++◌, map}
use Rattle.fir_ast.specs.Types.{DataType, Fields}
use Rattle.fir_meaning.specs.TypeLeaves.{TypeLeaf, element_leaves, field_leaves, type_leaves}
use Rattle.fir_leaf.specs.declared.node.Node.{Node}
use Rattle.fir_meaning.specs.FoundTypes.{absent_type}
use Rattle.fir_leaf.specs.working.Nodes.{Gives}
use Rattle.fir_meaning.specs.working.Terms.{Picks, Term, absent}

abbrev pub absent_leaf : Picks → TypeLeaf → Term
absent_leaf ps l = absent (absent_type l.ground_type) ps

abbrev pub absent_terms : Picks → DataType → List Term
absent_terms ps t = map (absent_leaf ps) (type_leaves t)

abbrev pub absent_field_terms : Picks → Fields → List Term
absent_field_terms ps fs = map (absent_leaf ps) (field_leaves fs)

-- of so many elements
abbrev pub absent_element_terms : Picks → ℕ → DataType → List Term
absent_element_terms ps n t = map (absent_leaf ps) (element_leaves 0 n (type_leaves t))

-- nodes for these terms have come
pub record Adds (old new : List Node) (before after : List ℕ) (ts : List Term) : Type 0 where
  pub more : List ℕ
  pub grown : after ≡ before ++ more
  pub gives : Gives old new more ts
