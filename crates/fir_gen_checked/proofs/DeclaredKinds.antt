-- What the circuit declares are ports and registers, each a clock or a UInt.
use Rattle.std.proofs.Common.{◌≡◌, ℕ, zero, suc, List, [], ◌∷◌, Bool, true, false, Some, sym, ap, ◌∙◌, inl, inr, ⊎_elim}
use Rattle.fir_base.specs.Lists.{In}
use Rattle.fir_base.proofs.Members.{in_either}
use Rattle.fir_ast.specs.declared.place.Place.{Place}
use Rattle.fir_ast.specs.Types.{DataType, uint, clock, reset}
use Rattle.fir_meaning.specs.Components.{Component, Declaration}
use Rattle.fir_meaning.specs.Components as component
use Rattle.fir_meaning.specs.ComponentTypes.{known_as}
use Rattle.fir_meaning.specs.TypeLeaves.{TypeLeaf, type_leaves}
use Rattle.fir_gen_checked.proofs.DeclaredRegisters.{behind_head, declared_behind, register_declared}

abbrev pub is_simple_type : DataType → Bool
is_simple_type clock = true
is_simple_type (uint width) = true
is_simple_type _ = false

abbrev pub is_simple : Component → Bool
is_simple (component.port d t) = is_simple_type t
is_simple (component.register t) = is_simple_type t
is_simple _ = false

pub no_instance : (c : Component) (name : List ℕ) → is_simple c ≡ true → c ≡ component.instance name → ⊥
no_instance c name simple e = let f : false ≡ true = ap is_simple (sym e) ∙ simple in cc

-- a leaf of such a type is no Reset
pub no_reset_leaf : (t : DataType) (l : TypeLeaf) → is_simple_type t ≡ true → In (type_leaves t) l → l.ground_type ≡ reset → ⊥
no_reset_leaf clock l simple (inl e) is = let f : clock ≡ reset = ap (λ (x : TypeLeaf). x.ground_type) e ∙ is in cc
no_reset_leaf clock l simple (inr m) is = m
no_reset_leaf (uint width) l simple (inl e) is = let f : uint width ≡ reset = ap (λ (x : TypeLeaf). x.ground_type) e ∙ is in cc
no_reset_leaf (uint width) l simple (inr m) is = m
no_reset_leaf _ l simple m is = absurd (cc)

-- the type of a declaration that is known alone
pub simple_known : (d : Declaration) (t : DataType) → is_simple d.component ≡ true → (known_as [] [] d).data_type ≡ Some t → is_simple_type t ≡ true
simple_known d t simple h = by d.component simple h
  where
    by : (c : Component) → is_simple c ≡ true → (known_as [] [] (record { named = d.named; component = c; depth = d.depth })).data_type ≡ Some t → is_simple_type t ≡ true
    by (component.port x u) s e = let same : u ≡ t = cc in ap is_simple_type (sym same) ∙ s
    by (component.register u) s e = let same : u ≡ t = cc in ap is_simple_type (sym same) ∙ s
    by _ s e = absurd (cc)

module _ (at : ℕ → ℕ → Place) where
  head_simple : (d : Declaration) → In (behind_head at).declared d → is_simple d.component ≡ true
  head_simple d (inl e) = ap (λ (x : Declaration). is_simple x.component) (sym e)
  head_simple d (inr (inl e)) = ap (λ (x : Declaration). is_simple x.component) (sym e)
  head_simple d (inr (inr (inl e))) = ap (λ (x : Declaration). is_simple x.component) (sym e)
  head_simple d (inr (inr (inr (inl e)))) = ap (λ (x : Declaration). is_simple x.component) (sym e)
  head_simple d (inr (inr (inr (inr m)))) = absurd m

  register_simple : (k : ℕ) (d : Declaration) → In (register_declared at k ∷ []) d → is_simple d.component ≡ true
  register_simple k d (inl e) = ap (λ (x : Declaration). is_simple x.component) (sym e)
  register_simple k d (inr m) = absurd m

  pub declared_simple : (j : ℕ) (d : Declaration) → In (declared_behind at j) d → is_simple d.component ≡ true
  declared_simple zero d m = ⊎_elim (head_simple d) (register_simple 0 d) (in_either (behind_head at).declared (register_declared at 0 ∷ []) d m)
  declared_simple (suc j) d m =
      ⊎_elim (declared_simple j d) (register_simple (suc j) d) (in_either (declared_behind at j) (register_declared at (suc j) ∷ []) d m)
