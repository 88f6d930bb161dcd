-- The first fault of a connect, from what is found of its two sides.
use Rattle.std.proofs.Common.{◌≡◌, List, Ok, Err, Result, Some, None, Option, refl, ap, ◌∙◌}
use Rattle.std.specs.Prelude.{option_map}
use Rattle.fir_base.specs.declared.refused.Refused.{Refused}
use Rattle.fir_ast.specs.declared.fault.FirFault.{FirFault}
use Rattle.fir_ast.specs.Types.{DataType}
use Rattle.fir_ast.specs.Expressions.{Expression, reference, literal, operation, mux, validif}
use Rattle.fir_ast.specs.Statements.{SinkReference}
use Rattle.fir_ast.specs.Faults.{Fault}
use Rattle.fir_meaning.specs.Checked.{shown_after}
use Rattle.fir_meaning.specs.Reaching.{Reached}
use Rattle.fir_meaning.specs.TypeGroup.{sides}
use Rattle.fir_meaning.specs.TypedScopes.{TypedScope}
use Rattle.fir_meaning.specs.ExpressionTypes.{expression_type, reached_by, reaching}
use Rattle.fir_types.specs.declared.reach.Reach.{Reach}
use Rattle.fir_types.specs.working.Judged.{Is, IsFirstOf}
use Rattle.fir_types.specs.working.Seen.{found_type, reached_as, sink_path}
use Rattle.fir_types.specs.working.Walked.{Judges}
use Rattle.fir_check.specs.declared.connects.Source.{Source}
use Rattle.fir_check.specs.working.Connected.{IsByReference, right_of}
use Rattle.fir_check.proofs.CheckedForms.{first_left, first_right, together_is}
use Rattle.fir_check.proofs.PartWalks.{reference_found}
use Rattle.fir_check.proofs.StatementFaults.{expression_fails, statement_clear, statement_fails}

module _ (typed : TypedScope) (s : SinkReference) (e : Expression) (own : Reached × DataType → List Fault) where
  pub left_fails : (r : Refused FirFault) → IsFirstOf (reaching typed s).shows r → IsFirstOf (shown_after (sides typed s e) own) r
  left_fails r h = expression_fails (sides typed s e) own r (first_left (reaching typed s).shows (expression_type typed e).shows r h)

  pub right_fails : (x : Option Reached) (r : Refused FirFault) → Is (reaching typed s) x → IsFirstOf (expression_type typed e).shows r
      → IsFirstOf (shown_after (sides typed s e) own) r
  right_fails x r is h = expression_fails (sides typed s e) own r (first_right (reaching typed s).shows (expression_type typed e).shows r is.none h)

  pub both_judged : (x : Reached) (t : DataType) {A : Type 0} (r : Result A (Refused FirFault)) → Is (reaching typed s) (Some x) → Is (expression_type typed e) (Some t)
      → Judges (own (x, t)) r → Judges (shown_after (sides typed s e) own) r
  both_judged x t (Ok v) left right h =
      statement_clear (sides typed s e) own (Some (x, t)) (together_is (λ y u. (y, u)) (reaching typed s) (expression_type typed e) x t left right) h
  both_judged x t (Err f) left right h =
      statement_fails (sides typed s e) own (Some (x, t)) f (together_is (λ y u. (y, u)) (reaching typed s) (expression_type typed e) x t left right) h

nothing : {A B : Type 0} (f : A → B) (x : Option A) → None ≡ option_map f x → x ≡ None
nothing f None h = refl
nothing f (Some x) h = absurd (cc)

-- what is reached of the right side is reached by a reference
pub by_reference : (ts : List DataType) (typed : TypedScope) (e : Expression) (right : Source) → reached_by typed e ≡ right_of ts e right → IsByReference e right.reach
by_reference ts typed (reference p n ps) right h = tt
by_reference ts typed (literal l) right h = nothing _ right.reach h
by_reference ts typed (operation p op es ks) right h = nothing _ right.reach h
by_reference ts typed (mux p c a b) right h = nothing _ right.reach h
by_reference ts typed (validif p c a) right h = nothing _ right.reach h

-- a right side that is a reference
pub source_reached : (ts : List DataType) (typed : TypedScope) (s : SinkReference) (o : Option Reach) (r : Reach) → o ≡ Some r
    → Is (reaching typed s) (option_map (reached_as ts (sink_path s)) o)
    → Is (expression_type typed (reference s.place s.name s.parts)) (Some (found_type ts r.found))
    × ((reaching typed s).has ≡ option_map (reached_as ts (sink_path s)) (Some r))
source_reached ts typed s o r same is =
    (reference_found ts typed s (sink_path s) o (Some r) same is, is.has ∙ ap (option_map (reached_as ts (sink_path s))) same)
