-- The value of a term that has a type is of that type.
use Rattle.std.proofs.Common.{◌≡◌, ℕ, max, Bool, true, false, not, if◌then◌else◌, List, [], ◌∷◌, map, Ok, Err, refl, sym, ap}
use Rattle.fir_bits.specs.Forms.{form_of, takes}
use Rattle.fir_bits.specs.Operators.{outcome}
use Rattle.fir_bits.specs.working.Operators.{type_of}
use Rattle.fir_bits.specs.working.Types.{typed}
use Rattle.fir_bits.specs.declared.operators.PrimOp.{PrimOp}
use Rattle.fir_bits.specs.declared.types.NumTy.{NumTy}
use Rattle.fir_bits.specs.declared.types.OpFault.TheVariants.{Kinds, Over, Legality}
use Rattle.fir_bits.specs.declared.values.Num.{Num}
use Rattle.fir_meaning.specs.LeafTypes.{LeafType, number, number_type}
use Rattle.fir_meaning.specs.Values.{literal_type}
use Rattle.fir_meaning.specs.working.TermValues.{eval, eval_each}
use Rattle.fir_meaning.specs.working.Terms.{Term, Terms, zeros, absent, literal, read, operation, mux, validif, no_terms, term}
use Rattle.fir_leaf_types.specs.working.TypedTerms.{HasType, HaveTypes}
use Rattle.fir_connect.specs.working.LoweredLaws.{types_of}

-- a type that is given where three tests are passed
passed : (kinds narrow legal : Bool) (t u : NumTy)
    → (if not kinds then Err Kinds else if not narrow then Err Over else if not legal then Err Legality else Ok t) ≡ Ok u → t ≡ u
passed true true true t u e = cc
passed true true false t u e = cc
passed true false legal t u e = cc
passed false narrow legal t u e = cc

outcome_type : (op : PrimOp) (vs : List Num) (ks : List ℕ) (u : NumTy) → typed op (map type_of vs) ks ≡ Ok u → type_of (outcome op vs ks) ≡ u
outcome_type op [] ks u e = passed (takes (form_of op) [] ks) _ _ (type_of (outcome op [] ks)) u e
outcome_type op (a ∷ []) ks u e = passed (takes (form_of op) (type_of a ∷ []) ks) _ _ (type_of (outcome op (a ∷ []) ks)) u e
outcome_type op (a ∷ b ∷ vs) ks u e = passed (takes (form_of op) (type_of a ∷ type_of b ∷ map type_of vs) ks) _ _ (type_of (outcome op (a ∷ b ∷ vs) ks)) u e

module _ (held : ℕ → LeafType) (numbers : ℕ → ℕ) where
  mutual
    pub value_type : (t : Term) (u : NumTy) → HasType held t (number u) → type_of (eval (types_of held) numbers t) ≡ u
    value_type zeros u h = absurd h
    value_type (absent t ps) u h = sym h.0
    value_type (literal l) u h = let e : literal_type l ≡ u = cc in e
    value_type (read b ps) u h = ap number_type h.0
    value_type (operation op ts ks) u h =
        let e : h.1 ≡ u = cc in
        outcome_type op (eval_each (types_of held) numbers ts) ks u (rw (value_types ts h.0 h.2, ← e) h.3)
    value_type (mux c a b) u h =
        let e : record { signed = h.1.signed; width = max h.1.width h.2.width } ≡ u = cc in
        let first = value_type a h.1 h.3 in
        let second = value_type b h.2 h.4 in
        cc
    value_type (validif c a) u h = let e : h.1 ≡ u = cc in rw (← e) (value_type a h.1 h.2)

    pub value_types : (ts : Terms) (us : List NumTy) → HaveTypes held ts us → map type_of (eval_each (types_of held) numbers ts) ≡ us
    value_types no_terms [] h = refl
    value_types no_terms (u ∷ us) h = absurd h
    value_types (term t ts) [] h = absurd h
    value_types (term t ts) (u ∷ us) h = rw (value_type t u h.0, value_types ts us h.1) refl
