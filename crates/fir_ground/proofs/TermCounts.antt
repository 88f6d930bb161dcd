-- An expression has a term for each leaf of its type.
use Rattle.std.proofs.Common.{◌≡◌, ℕ, zero, suc, ◌+◌, ◌*◌, ◌≤◌, min, List, [], ◌∷◌, map, length, Bool, true, false, ◌&&◌, ◌==◌, Option, refl, sym, ap, ◌∙◌, arith, length-append}
use Rattle.std.proofs.lemmas.List.{length-map}
use Rattle.std.specs.Bool.{beq}
use Rattle.std.specs.Str.{bytes_eq}
use Rattle.fir_bits.specs.declared.operators.PrimOp.{PrimOp}
use Rattle.fir_bits.specs.declared.operators.PrimOp.TheVariants.{AsAsyncReset}
use Rattle.fir_bits.specs.declared.types.NumTy.{NumTy}
use Rattle.fir_ast.specs.Types.{DataType, bundle, vector, Fields, no_fields, field}
use Rattle.fir_ast.specs.Expressions.{Expression, reference, literal, operation, mux, validif}
use Rattle.fir_ast.specs.Statements.{SinkReference}
use Rattle.fir_meaning.specs.CostGroup.{cost_limit}
use Rattle.fir_meaning.specs.Equivalence.{same_ground, fields_alike, is_equivalent}
use Rattle.fir_meaning.specs.ExpressionTypes.{number_data_type}
use Rattle.fir_bits.specs.Forms.{first_type}
use Rattle.fir_bits.specs.Types.{signed_of}
use Rattle.fir_meaning.specs.OperationTypes.{ground_of, result_of}
use Rattle.fir_meaning.specs.TypeLeaves.{TypeLeaf, element_leaves, field_count, field_leaves, leaf_count, type_leaves}
use Rattle.fir_meaning.specs.TypedScopes.{TypedScope}
use Rattle.fir_meaning.specs.working.WellTyped.{HasType}
use Rattle.fir_types.proofs.BareTypes.{shown_leaf_count}
use Rattle.fir_meaning.specs.working.Leafed.{first_term, leaf_terms, muxes, target_of, target_terms, terms}
use Rattle.fir_meaning.specs.working.Targets.{Target, leaves_so_far}
use Rattle.fir_meaning.specs.working.Terms.{Term}
use Rattle.fir_meaning.specs.working.Terms as over
use Rattle.fir_leaf_pairs.proofs.PairNumbers.{both_true, same_number}
use Rattle.fir_ground.proofs.TargetRooms.{aims_sink}

elements_long : (i n k : ℕ) (ls : List TypeLeaf) → length ls ≡ k → length (element_leaves i n ls) ≡ n * k
elements_long i zero k ls e = let zeros : 0 * k ≡ 0 = omega arith in sym zeros
elements_long i (suc n) k ls e =
    let rest = elements_long (i + 1) n k ls e in
    let more : suc n * k ≡ k + n * k = omega arith in
    length-append (map _ ls) (element_leaves (i + 1) n ls) ∙ ap (λ x. x + length (element_leaves (i + 1) n ls)) (length-map ls _ ∙ e) ∙ ap (λ x. k + x) rest
    ∙ sym more

mutual
  pub leaves_long : (t : DataType) → length (type_leaves t) ≡ leaf_count t
  leaves_long (bundle fs) = field_leaves_long fs
  leaves_long (vector t n) = elements_long 0 n (leaf_count t) (type_leaves t) (leaves_long t)
  leaves_long _ = refl

  field_leaves_long : (fs : Fields) → length (field_leaves fs) ≡ field_count fs
  field_leaves_long no_fields = refl
  field_leaves_long (field p flip x b t rest) =
      length-append (map _ (type_leaves t)) (field_leaves rest) ∙ ap (λ n. n + length (field_leaves rest)) (length-map (type_leaves t) _ ∙ leaves_long t)
      ∙ ap (λ n. leaf_count t + n) (field_leaves_long rest)

leaf_terms_long : (r : Target) (k : ℕ) (ls : List TypeLeaf) → length (leaf_terms r k ls) ≡ length ls
leaf_terms_long r k [] = refl
leaf_terms_long r k (l ∷ ls) = ap suc (leaf_terms_long r (suc k) ls)

pub target_long : (r : Target) → length (target_terms r) ≡ leaf_count r.data_type
target_long r = leaf_terms_long r 0 (type_leaves r.data_type) ∙ leaves_long r.data_type

muxes_long : (c : Term) (xs ys : List Term) → length (muxes c xs ys) ≡ min (length xs) (length ys)
muxes_long c [] ys = omega arith
muxes_long c (x ∷ xs) [] = omega arith
muxes_long c (x ∷ xs) (y ∷ ys) = let h = muxes_long c xs ys in omega arith

mutual
  alike_count : (s t : DataType) → is_equivalent s t ≡ true → leaf_count s ≡ leaf_count t
  alike_count (bundle fs) (bundle gs) e = fields_alike_count fs gs e
  alike_count (bundle fs) _ e = absurd (cc)
  alike_count (vector t n) (vector u m) e =
      let both = both_true (n == m) (is_equivalent t u) e in
      ap (λ k. k * leaf_count t) (same_number n m both.0) ∙ ap (λ k. m * k) (alike_count t u both.1)
  alike_count (vector t n) _ e = absurd (cc)
  alike_count _ (bundle gs) e = absurd (cc)
  alike_count _ (vector u m) e = absurd (cc)
  alike_count _ _ e = refl

  fields_alike_count : (fs gs : Fields) → fields_alike same_ground fs gs ≡ true → field_count fs ≡ field_count gs
  fields_alike_count no_fields no_fields e = refl
  fields_alike_count (field p f x b t fs) (field q g y c u gs) e =
      let first = both_true (beq f g) (bytes_eq x y && (is_equivalent t u && fields_alike same_ground fs gs)) e in
      let second = both_true (bytes_eq x y) (is_equivalent t u && fields_alike same_ground fs gs) first.1 in
      let third = both_true (is_equivalent t u) (fields_alike same_ground fs gs) second.1 in
      ap (λ k. k + field_count fs) (alike_count t u third.0) ∙ ap (λ k. leaf_count u + k) (fields_alike_count fs gs third.1)
  fields_alike_count _ _ e = absurd (cc)

pub number_count : (signed : Bool) (width : Option ℕ) → leaf_count (number_data_type signed width) ≡ 1
number_count true width = refl
number_count false width = refl

ground_count : (signed : Bool) → leaf_count (ground_of signed) ≡ 1
ground_count true = refl
ground_count false = refl

operation_count : (op : PrimOp) (kinds : List NumTy) → leaf_count (result_of op kinds) ≡ 1
operation_count AsAsyncReset kinds = refl
operation_count op kinds = ground_count (signed_of op (first_type kinds).signed)

module _ (typed : TypedScope) (small : leaves_so_far typed ≤ cost_limit) where
  pub terms_long : (e : Expression) (t : DataType) → HasType typed e t → length (terms typed e) ≡ leaf_count t
  terms_long (reference p n ps) t h =
      let s : SinkReference = record { place = p; name = n; parts = ps } in
      target_long (target_of typed s) ∙ ap leaf_count ((aims_sink typed s h.1 small (h.0, h.2, h.3)).same ∙ sym h.4)
  terms_long (literal l) t h = sym (ap leaf_count h ∙ number_count l.signed l.width)
  terms_long (operation p op es ks) t h = sym (ap leaf_count h.5 ∙ operation_count op h.1)
  terms_long (mux p c a b) t h =
      let one = terms_long a h.1 h.4 in
      let other = terms_long b h.2 h.7 in
      let same = alike_count h.1 h.2 h.10 in
      let plain = ap leaf_count h.11 ∙ shown_leaf_count true h.1 in
      muxes_long (first_term (terms typed c)) (terms typed a) (terms typed b) ∙ omega arith
  terms_long (validif p c a) t h =
      length-map (terms typed a) (over.validif (first_term (terms typed c))) ∙ terms_long a h.1 h.3 ∙ sym (ap leaf_count h.6 ∙ shown_leaf_count true h.1)
