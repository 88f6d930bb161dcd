-- Each form of an expression, and each condition, with its spot: the code's spot shows what the rules of faults show there.
use Rattle.std.proofs.Common.{◌≡◌, ℕ, List, [], ◌∷◌, Bool, true, false, if◌then◌else◌, None, Bor, refl, sym, ap, ◌∙◌}
use Rattle.std.specs.Prelude.{◌||◌, codes}
use Rattle.fir_bits.specs.declared.operators.PrimOp.{PrimOp}
use Rattle.fir_bits.specs.OperatorWords.{operator_word}
use Rattle.fir_ast.specs.declared.place.Place.{Place}
use Rattle.fir_ast.specs.declared.expressions.Literal.{Literal}
use Rattle.fir_ast.specs.declared.expressions.Reference.{Reference}
use Rattle.fir_ast.specs.Types.{DataType, uint, sint, clock, reset, async_reset, bundle, vector}
use Rattle.fir_ast.specs.Expressions.{Expression, literal, operation, mux, validif, Expressions}
use Rattle.fir_ast.specs.working.Views.{sink_of}
use Rattle.fir_ast.specs.Circuits.{CircuitTree}
use Rattle.fir_meaning.specs.ExpressionPlaces.{place_of}
use Rattle.fir_meaning.specs.LeafPaths.{named}
use Rattle.fir_meaning.specs.TypeKinds.{bare}
use Rattle.fir_meaning.specs.WidthExpressions.{Width, Widths, known, width_under}
use Rattle.fir_meaning.specs.SizedTypes.{unsigned, signed, clock_scalar, reset_scalar, async_scalar, Sized, scalar, sized_bundle, sized_vector, bare_type}
use Rattle.fir_meaning.specs.SizedOperations.{width_in, first_sized, operation_width}
use Rattle.fir_meaning.specs.SizedScopes.{SizedScope, literal_width, sized_type, sized_types, sink_expression}
use Rattle.fir_meaning.specs.SizeFaults.{word_over}
use Rattle.fir_meaning.specs.OverFaults.{first_path}
use Rattle.fir_meaning.specs.LegalFaults.{operation_faults, condition_faults}
use Rattle.fir_types.specs.working.Seen.{found_type}
use Rattle.fir_width.specs.declared.side.Side.{Side}
use Rattle.fir_infer_widths.specs.declared.spot.Spot.TheVariants as code
use Rattle.fir_width.specs.working.FlatWidths.{flat}
use Rattle.fir_infer_widths.specs.working.Numbered.{Agrees}
use Rattle.fir_width.specs.working.StandingWidths.{Has, Stands}
use Rattle.fir_width.specs.working.Sides.{IsSide}
use Rattle.fir_infer_widths.specs.working.Spots.{of_expression, of_condition}
use Rattle.fir_infer_widths.specs.working.SpotFaults.{IsSpot, is_over, word_where, condition_at}
use Rattle.fir_width.proofs.StandingWidths.{stands_head}
use Rattle.fir_infer_widths.proofs.SideFaults.{side_over, side_any_over}

-- one word, told where something is over
word_told : (a b : Bool) (p : Place) (word : List ℕ) → a ≡ b → word_where a p word ≡ (if b then word_over p word ∷ [] else [])
word_told true b p word e = rw (← e) refl
word_told false b p word e = rw (← e) refl

or_none : (b : Bool) → b ≡ b || false
or_none true = refl
or_none false = refl

module _ (c : CircuitTree) (ts : List DataType) (meant : List Width) (scope : SizedScope) where
  pub reference_spot : (r : Bor Reference) (side : Side) → IsSide ts meant side (sized_type scope (sink_expression (sink_of r.now)))
      → IsSpot c ts meant (code.Reference r side) (of_expression scope (sink_expression (sink_of r.now)))
  reference_spot r side is = record {
    over = λ w u agrees.
        side_over meant w u agrees ts side (sized_type scope (sink_expression (sink_of r.now))) is (sink_of r.now).place
        (first_path (named (sink_of r.now).name ∷ []) (sink_of r.now).parts);
    legal = λ w u agrees. refl;
  }

  pub literal_spot : (l : Bor Literal) (number : ℕ) → Has meant number (known (literal_width l.now))
      → IsSpot c ts meant (code.Literal l number) (of_expression scope (literal l.now))
  literal_spot l number has = record {
    over = λ w u agrees.
        word_told (is_over (u number)) _ l.now.place (codes "literal")
        (ap is_over (agrees number (known (literal_width l.now)) has) ∙ or_none (is_over (width_under (known (literal_width l.now)) w)));
    legal = λ w u agrees. refl;
  }

  pub operation_spot : (p : Place) (op : PrimOp) (es : Expressions) (ks : Bor (List ℕ)) (operand number : ℕ)
      → Has meant operand (width_in (first_sized (sized_types scope es)))
      → Has meant number (operation_width op (sized_types scope es) ks.now)
      → IsSpot c ts meant (code.Operation p op ks operand number) (of_expression scope (operation p op es ks.now))
  operation_spot p op es ks operand number has_operand has =
      let result = operation_width op (sized_types scope es) ks.now in
      let first = width_in (first_sized (sized_types scope es)) in
      record {
        over = λ w u agrees.
            word_told (is_over (u number)) _ p (operator_word op) (ap is_over (agrees number result has) ∙ or_none (is_over (width_under result w)));
        legal = λ w u agrees. ap (λ (n : ℕ). operation_faults p op n ks.now) (agrees operand first has_operand);
      }

  pub mux_spot : (p : Place) (chooses a b : Expression) (side : Side) → IsSide ts meant side (sized_type scope (mux p chooses a b))
      → IsSpot c ts meant (code.Choice p true side) (of_expression scope (mux p chooses a b))
  mux_spot p chooses a b side is = record {
    over = λ w u agrees. word_told _ _ p (codes "mux") (side_any_over meant w u agrees ts side (sized_type scope (mux p chooses a b)) is);
    legal = λ w u agrees. refl;
  }

  pub validif_spot : (p : Place) (chooses a : Expression) (side : Side) → IsSide ts meant side (sized_type scope (validif p chooses a))
      → IsSpot c ts meant (code.Choice p false side) (of_expression scope (validif p chooses a))
  validif_spot p chooses a side is = record {
    over = λ w u agrees. word_told _ _ p (codes "validif") (side_any_over meant w u agrees ts side (sized_type scope (validif p chooses a)) is);
    legal = λ w u agrees. refl;
  }

-- what is no UInt shows nothing as a condition
not_uint : (w : Widths) (p : Place) (s : Sized) → (bare_type s ≡ uint None → ⊥) → condition_faults w p s ≡ []
not_uint w p (scalar unsigned v) h = absurd (h refl)
not_uint w p (scalar signed v) h = refl
not_uint w p (scalar clock_scalar v) h = refl
not_uint w p (scalar reset_scalar v) h = refl
not_uint w p (scalar async_scalar v) h = refl
not_uint w p (sized_bundle fs) h = refl
not_uint w p (sized_vector t n) h = refl

module _ (meant : List Width) (w u : Widths) (agrees : Agrees meant w u) (p : Place) (first : ℕ) where
  same_condition : (t : DataType) (s : Sized) → bare_type s ≡ bare t → Stands meant first (flat s) → condition_at p t (u first) ≡ condition_faults w p s
  same_condition (uint k) (scalar unsigned v) e h = rw (agrees first v (stands_head meant first v [] h)) refl
  same_condition (uint k) (scalar signed v) e h = cc
  same_condition (uint k) (scalar clock_scalar v) e h = cc
  same_condition (uint k) (scalar reset_scalar v) e h = cc
  same_condition (uint k) (scalar async_scalar v) e h = cc
  same_condition (uint k) (sized_bundle fs) e h = cc
  same_condition (uint k) (sized_vector t n) e h = cc
  same_condition (sint k) s e h = sym (not_uint w p s (λ same. (cc)))
  same_condition clock s e h = sym (not_uint w p s (λ same. (cc)))
  same_condition reset s e h = sym (not_uint w p s (λ same. (cc)))
  same_condition async_reset s e h = sym (not_uint w p s (λ same. (cc)))
  same_condition (bundle fs) s e h = sym (not_uint w p s (λ same. (cc)))
  same_condition (vector t n) s e h = sym (not_uint w p s (λ same. (cc)))

pub condition_spot : (c : CircuitTree) (ts : List DataType) (meant : List Width) (scope : SizedScope) (e : Expression) (side : Side)
    → IsSide ts meant side (sized_type scope e) → IsSpot c ts meant (code.Condition (place_of e) side) (of_condition scope e)
condition_spot c ts meant scope e side is = record {
  over = λ w u agrees. refl;
  legal = λ w u agrees. same_condition meant w u agrees (place_of e) side.first (found_type ts side.found) (sized_type scope e) is.shape is.stands;
}
