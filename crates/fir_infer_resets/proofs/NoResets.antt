-- An expression that is no reference has no Reset: a number, or an AsyncReset, or what has numbers alone.
use Rattle.std.proofs.Common.{◌≡◌, ℕ, zero, suc, ◌+◌, List, [], ◌∷◌, Bool, true, false, map, Option, None, refl, inl, inr, ⊎_elim, sym, ap, ◌∙◌, subst, arith}
use Rattle.std.proofs.lemmas.Bool.{eqb-true}
use Rattle.std.specs.Prelude.{◌||◌, ◌==◌}
use Rattle.fir_base.specs.Lists.{In}
use Rattle.fir_base.proofs.Members.{in_either, in_map_from}
use Rattle.fir_base.proofs.Tests.{both}
use Rattle.fir_bits.specs.declared.operators.PrimOp.{PrimOp}
use Rattle.fir_bits.specs.declared.operators.PrimOp.TheVariants.{AsAsyncReset}
use Rattle.fir_bits.specs.declared.types.NumTy.{NumTy}
use Rattle.fir_bits.specs.Forms.{first_type}
use Rattle.fir_bits.specs.Types.{signed_of}
use Rattle.fir_ast.specs.Types.{DataType, uint, sint, clock, reset, async_reset, bundle, vector, Fields, no_fields, field}
use Rattle.fir_ast.specs.Expressions.{Expression, reference, literal, operation, mux, validif}
use Rattle.fir_meaning.specs.LeafPaths.{named, element}
use Rattle.fir_meaning.specs.TypeLeaves.{TypeLeaf, under, element_leaves, type_leaves, field_leaves}
use Rattle.fir_meaning.specs.TypeKinds.{is_numeric, are_numeric, bare}
use Rattle.fir_meaning.specs.OperationTypes.{ground_of, result_of}
use Rattle.fir_meaning.specs.ExpressionTypes.{number_data_type}
use Rattle.fir_meaning.specs.TypedScopes.{TypedScope}
use Rattle.fir_meaning.specs.working.WellTyped.{HasType}
use Rattle.fir_types.proofs.BareTypes.{shown_numeric}
use Rattle.fir_meaning.specs.ResetItems.{is_reset}
use Rattle.fir_infer_resets.specs.working.Meets.{IsNoReference}
use Rattle.fir_infer_resets.proofs.ReferenceSides.{HasNoReset}

abbrev NoneIn : List TypeLeaf → Type 0
NoneIn ls = (l : TypeLeaf) → In ls l → is_reset l.ground_type ≡ false

one_ground : (t : DataType) → is_reset t ≡ false → NoneIn (record { path = []; flip = false; ground_type = t } ∷ [])
one_ground t h l (inl e) = ap (λ (x : TypeLeaf). is_reset x.ground_type) (sym e) ∙ h
one_ground t h l (inr f) = absurd f

number_none : (signed : Bool) (width : Option ℕ) → NoneIn (type_leaves (number_data_type signed width))
number_none true width = one_ground (sint width) refl
number_none false width = one_ground (uint width) refl

ground_none : (b : Bool) → NoneIn (type_leaves (ground_of b))
ground_none true = one_ground (sint None) refl
ground_none false = one_ground (uint None) refl

result_none : (op : PrimOp) (kinds : List NumTy) → NoneIn (type_leaves (result_of op kinds))
result_none AsAsyncReset kinds = one_ground async_reset refl
result_none op kinds = ground_none (signed_of op (first_type kinds).signed)

under_none : (f : Bool) (x : List ℕ) (ls : List TypeLeaf) → NoneIn ls → NoneIn (map (under f (named x)) ls)
under_none f x ls h l m = let r = in_map_from (under f (named x)) ls l m in ap (λ (y : TypeLeaf). is_reset y.ground_type) (sym r.2) ∙ h r.0 r.1

elements_none : (i n : ℕ) (ls : List TypeLeaf) → NoneIn ls → NoneIn (element_leaves i n ls)
elements_none i zero ls h l m = absurd m
elements_none i (suc n) ls h l m =
    ⊎_elim
    (λ (k : In (map (under false (element i)) ls) l).
    let r = in_map_from (under false (element i)) ls l k in ap (λ (y : TypeLeaf). is_reset y.ground_type) (sym r.2) ∙ h r.0 r.1)
    (λ (k : In (element_leaves (i + 1) n ls) l). elements_none (i + 1) n ls h l k)
    (in_either (map (under false (element i)) ls) (element_leaves (i + 1) n ls) l m)

some_numeric : (n : ℕ) (b : Bool) → (suc n == 0 || b) ≡ true → b ≡ true
some_numeric n b h = by (suc n == 0) refl h
  where
    by : (a : Bool) → (suc n == 0) ≡ a → (a || b) ≡ true → b ≡ true
    by true e k = let z : suc n ≡ 0 = eqb-true (suc n) 0 e in absurd (omega (arith, z))
    by false e k = k

mutual
  numeric_none : (t : DataType) → is_numeric t ≡ true → NoneIn (type_leaves t)
  numeric_none (uint w) h l m = one_ground (uint w) refl l m
  numeric_none (sint w) h l m = one_ground (sint w) refl l m
  numeric_none clock h l m = absurd (cc)
  numeric_none reset h l m = absurd (cc)
  numeric_none async_reset h l m = absurd (cc)
  numeric_none (bundle fs) h l m = fields_none fs h l m
  numeric_none (vector t zero) h l m = absurd m
  numeric_none (vector t (suc n)) h l m = elements_none 0 (suc n) (type_leaves t) (λ k i. numeric_none t (some_numeric n (is_numeric t) h) k i) l m

  fields_none : (fs : Fields) → are_numeric fs ≡ true → NoneIn (field_leaves fs)
  fields_none no_fields h l m = absurd m
  fields_none (field p f x b t rest) h l m =
      let tests = both (is_numeric t) (are_numeric rest) h in
      ⊎_elim
      (λ (k : In (map (under f (named x)) (type_leaves t)) l). under_none f x (type_leaves t) (λ z i. numeric_none t tests.0 z i) l k)
      (λ (k : In (field_leaves rest) l). fields_none rest tests.1 l k)
      (in_either (map (under f (named x)) (type_leaves t)) (field_leaves rest) l m)

of_type : (t u : DataType) → t ≡ u → NoneIn (type_leaves u) → HasNoReset t
of_type t u e h = record { none = subst (λ v. NoneIn (type_leaves v)) (sym e) h }

pub no_reset_in : (scope : TypedScope) (e : Expression) (t : DataType) → IsNoReference e → HasType scope e t → HasNoReset t
no_reset_in scope (reference p n ps) t other h = absurd other
no_reset_in scope (literal l) t other h = of_type t (number_data_type l.signed l.width) h (number_none l.signed l.width)
no_reset_in scope (operation p op es ks) t other h = of_type t (result_of op h.1) h.5 (result_none op h.1)
no_reset_in scope (mux p c a b) t other h = of_type t (bare h.1) h.11 (numeric_none (bare h.1) (shown_numeric true h.1 ∙ h.6))
no_reset_in scope (validif p c a) t other h = of_type t (bare h.1) h.6 (numeric_none (bare h.1) (shown_numeric true h.1 ∙ h.5))
