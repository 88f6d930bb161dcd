-- Terms of a net: what a node stands for with all nodes below it, down to leaves. No term has a dynamic index.
use Rattle.std.specs.Prelude.{ℕ, max, List, [], ◌∷◌}
use Rattle.fir_bits.specs.working.Operators.{type_of}
use Rattle.fir_bits.specs.declared.operators.PrimOp.{PrimOp}
use Rattle.fir_bits.specs.declared.types.NumTy.{NumTy}
use Rattle.fir_bits.specs.declared.values.Num.{Num}
use Rattle.fir_meaning.specs.working.TermValues.{Holds}

mutual
  pub data NetTerm : Type 0 where
    value : Num → NetTerm
    leaf : ℕ → NetTerm
    -- with the type of its result
    operation : PrimOp → NetTerms → List ℕ → NumTy → NetTerm
    -- the condition, the value where it is 1, and the other
    mux : NetTerm → NetTerm → NetTerm → NumTy → NetTerm

  pub data NetTerms : Type 0 where
    no_terms : NetTerms
    term : NetTerm → NetTerms → NetTerms

-- by the type of each leaf
abbrev pub term_type : Holds → NetTerm → NumTy
term_type holds (value v) = type_of v
term_type holds (leaf x) = holds x
term_type holds (operation op ts ks t) = t
term_type holds (mux c a b t) = t

abbrev pub term_types : Holds → NetTerms → List NumTy
term_types holds no_terms = []
term_types holds (term t ts) = term_type holds t ∷ term_types holds ts

-- the greater width, and the signedness of the first
abbrev pub joined_type : NumTy → NumTy → NumTy
joined_type t u = record { signed = t.signed; width = max t.width u.width }

abbrev pub choice : Holds → NetTerm → NetTerm → NetTerm → NetTerm
choice holds c a b = mux c a b (joined_type (term_type holds a) (term_type holds b))
