-- Expressions over the leaves of a module, by number (FIRRTL spec, "Expressions", "Sub-accesses").
-- The number of a leaf is its place among the leaves of all that the module declares. Behind dynamic indices a leaf is the one of the first elements and
-- the indices: each counts elements, and says how many leaves apart they are. A term has one leaf.
use Rattle.std.specs.Prelude.{ℕ, List, [], ◌∷◌}
use Rattle.fir_bits.specs.declared.operators.PrimOp.{PrimOp}
use Rattle.fir_bits.specs.declared.types.NumTy.{NumTy}
use Rattle.fir_ast.specs.declared.expressions.Literal.{Literal}
use Rattle.fir_ast.specs.declared.place.Place.{Place}

mutual
  pub data Term : Type 0 where
    -- what `is invalid` drives
    zeros : Term
    -- a leaf of an element of a vector that has none: zero, of its type
    absent : NumTy → Picks → Term
    literal : Literal → Term
    -- a leaf, or the one that the indices pick
    read : ℕ → Picks → Term
    operation : PrimOp → Terms → List ℕ → Term
    mux : Term → Term → Term → Term
    validif : Term → Term → Term

  -- the indices before it, where an index stands, the index, how many elements there are, and how many leaves each has
  pub data Picks : Type 0 where
    no_picks : Picks
    pick : Picks → Place → Term → ℕ → ℕ → Picks

  pub data Terms : Type 0 where
    no_terms : Terms
    term : Term → Terms → Terms

abbrev pub terms_of : List Term → Terms
terms_of [] = no_terms
terms_of (t ∷ ts) = term t (terms_of ts)
