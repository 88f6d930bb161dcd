use Rattle.std.proofs.Common.{◌≡◌, ◌≤◌, ℕ, List, [], ◌∷◌, length, refl, arith}
use Rattle.fir_bits.specs.declared.operators.PrimOp.{PrimOp}
use Rattle.fir_meaning.specs.SizedOperations.{operation_width}
use Rattle.fir_meaning.specs.SizedTypes.{Sized}
use Rattle.fir_meaning.specs.WidthExpressions.{Width}
use Rattle.fir_least_widths.specs.declared.bound.Term.TheVariants.{Known}
use Rattle.fir_width.specs.declared.side.Side.{Side}
use Rattle.fir_infer_widths.specs.working.Numbered.{IsTermOf}
use Rattle.fir_infer_widths.specs.working.Operands.{HaveWidths}
use Rattle.fir_infer_widths.proofs.forms.operation_term.Goals as goal

as_many : (meant : List Width) (sides : List Side) (ss : List Sized) → HaveWidths meant sides ss → length sides ≡ length ss
as_many meant [] [] h = refl
as_many meant (side ∷ sides) (s ∷ ss) h = let rest = as_many meant sides ss h.1 in omega arith
as_many meant [] (s ∷ ss) h = absurd h
as_many meant (side ∷ sides) [] h = absurd h

more_than_two : (meant : List Width) (op : PrimOp) (ks : List ℕ) (ss : List Sized) → 3 ≤ length ss → IsTermOf meant (operation_width op ss ks) (Known 0)
more_than_two meant op ks [] long = absurd (omega arith)
more_than_two meant op ks (a ∷ []) long = absurd (omega arith)
more_than_two meant op ks (a ∷ b ∷ []) long = absurd (omega arith)
more_than_two meant op ks (a ∷ b ∷ c ∷ ss) long = (0, refl, refl)

pub returns-in_default-2 : goal.returns-in_default-2
returns-in_default-2 c = λ meant ss have sign.
    let long = c.in_default.len_at_least in
    let same = as_many meant c.args.operands.now ss have in
    more_than_two meant c.args.op c.args.integers.now ss (omega arith)
