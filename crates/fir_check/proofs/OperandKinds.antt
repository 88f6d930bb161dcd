-- What a walk over the operands of an operation comes to: the kinds of those before, and then those of the rest.
use Rattle.std.proofs.Common.{◌≡◌, Bool, List, [], ◌∷◌, ◌++◌, Some, None, option_map, sym, refl, ap, ◌∙◌, append_assoc}
use Rattle.std.specs.Prelude.{Option}
use Rattle.std.proofs.lemmas.List.{append-nil}
use Rattle.fir_bits.specs.declared.types.NumTy.{NumTy}
use Rattle.fir_ast.specs.Types.{DataType}
use Rattle.fir_meaning.specs.Checked.{joined}
use Rattle.fir_meaning.specs.OperationTypes.{operand_kind, operand_kinds}

-- the kinds of the rest, behind those
abbrev pub kinds_behind : List NumTy → Option (List NumTy) → Option (List NumTy)
kinds_behind front = option_map (λ rest. front ++ rest)

pub kinds_first : (front : List NumTy) (all : Option (List NumTy)) → front ≡ [] → all ≡ kinds_behind front all
kinds_first front None none = refl
kinds_first front (Some ks) none = ap (λ (xs : List NumTy). Some (xs ++ ks)) (sym none)

one_more : (front : List NumTy) (k : NumTy) (rest : Option (List NumTy)) → kinds_behind front (joined (λ s ss. s ∷ ss) (Some k) rest) ≡ kinds_behind (front ++ k ∷ []) rest
one_more front k None = refl
one_more front k (Some ks) = ap (λ (xs : List NumTy). Some xs) (sym (append_assoc front (k ∷ []) ks))

module _ (resets : Bool) (all : Option (List NumTy)) (front : List NumTy) where
  pub kinds_next : (t : DataType) (ts : List DataType) (k : NumTy) → operand_kind resets t ≡ Some k → all ≡ kinds_behind front (operand_kinds resets (t ∷ ts))
      → all ≡ kinds_behind (front ++ k ∷ []) (operand_kinds resets ts)
  kinds_next t ts k is so_far =
      so_far ∙ ap (λ o. kinds_behind front (joined (λ s ss. s ∷ ss) o (operand_kinds resets ts))) is ∙ one_more front k (operand_kinds resets ts)

  pub kinds_none : (t : DataType) (ts : List DataType) → operand_kind resets t ≡ None → all ≡ kinds_behind front (operand_kinds resets (t ∷ ts)) → all ≡ None
  kinds_none t ts none so_far = so_far ∙ ap (λ o. kinds_behind front (joined (λ s ss. s ∷ ss) o (operand_kinds resets ts))) none

  pub kinds_done : all ≡ kinds_behind front (operand_kinds resets []) → all ≡ Some front
  kinds_done so_far = so_far ∙ ap (λ (xs : List NumTy). Some xs) (append-nil front)
