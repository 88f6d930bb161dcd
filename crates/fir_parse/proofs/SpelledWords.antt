-- A word of an operator, a direction or a rule of reading is read as that, and no other is.
use Rattle.std.proofs.Common.{◌≡◌, ℕ, List, [], ◌∷◌, Option, Some, codes, refl}
use Rattle.std.specs.List.{find}
use Rattle.std.specs.Option.{IfSome}
use Rattle.std.specs.Str.{bytes_eq}
use Rattle.fir_base.specs.declared.direction.Direction.{Direction}
use Rattle.fir_base.specs.declared.direction.Direction.TheVariants.{Input, Output}
use Rattle.fir_bits.specs.declared.operators.PrimOp.{PrimOp}
use Rattle.fir_bits.specs.declared.operators.PrimOp.TheVariants.{Add}
use Rattle.fir_bits.specs.OperatorWords.{operator_word}
use Rattle.fir_bits.specs.working.OperatorWords.{operators, operator_of}
use Rattle.fir_ast.specs.declared.statements.ReadUnderWrite.{ReadUnderWrite}
use Rattle.fir_ast.specs.declared.statements.ReadUnderWrite.TheVariants.{Old, New, Undefined}
use Rattle.fir_parse.specs.declared.words.Applied.TheVariants as applied
use Rattle.fir_parse.specs.StatementForms.{under_write_word}
use Rattle.fir_parse.specs.CircuitForms.{direction_word}
use Rattle.fir_parse.specs.working.Words.{applied_of, direction_of, under_write_of}
use Rattle.fir_parse.proofs.FormsFound.{by_word}

pub operator_read : (op : PrimOp) → applied_of (operator_word op) ≡ applied.Operator op
operator_read Add = refl
operator_read _ = refl

pub direction_read : (v : Direction) → direction_of (direction_word v) ≡ Some v
direction_read Input = refl
direction_read Output = refl

pub under_write_read : (u : ReadUnderWrite) → under_write_of (under_write_word u) ≡ Some u
under_write_read Old = refl
under_write_read New = refl
under_write_read Undefined = refl

-- a word is that of what it is read as
first_found : (w : List ℕ) (ops : List PrimOp) → IfSome (find (λ o. bytes_eq w (operator_word o)) ops) (λ op. w ≡ operator_word op)
first_found w [] = tt
first_found w (o ∷ ops) =
    let F : Option PrimOp → Type 0 = λ x. IfSome x (λ op. w ≡ operator_word op) in
    by_word F w (operator_word o) (Some o) (find (λ o. bytes_eq w (operator_word o)) ops) (λ e. e) (first_found w ops)

pub operator_found : (w : List ℕ) → IfSome (operator_of w) (λ op. w ≡ operator_word op)
operator_found w = first_found w operators

pub direction_found : (w : List ℕ) → IfSome (direction_of w) (λ v. w ≡ direction_word v)
direction_found w =
    let F : Option Direction → Type 0 = λ x. IfSome x (λ v. w ≡ direction_word v) in
    by_word F w (codes "input") _ _ (λ e. e) (by_word F w (codes "output") _ _ (λ e. e) tt)

pub under_write_found : (w : List ℕ) → IfSome (under_write_of w) (λ u. w ≡ under_write_word u)
under_write_found w =
    let F : Option ReadUnderWrite → Type 0 = λ x. IfSome x (λ u. w ≡ under_write_word u) in
    by_word F w (codes "old") _ _ (λ e. e) (by_word F w (codes "new") _ _ (λ e. e) (by_word F w (codes "undefined") _ _ (λ e. e) tt))
