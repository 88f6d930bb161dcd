-- What the four nets of a division mean.
-- They are whether the divisor is zero, the divisor or else 1, the quotient or remainder, and that or else 0.
use Rattle.std.proofs.Common.{◌≡◌, ℕ, ◌<◌, ◌≤◌, ◌^◌, Bool, true, false, ◌==◌, if◌then◌else◌, List, [], refl, sym, ap, ◌∙◌, subst, arith}
use Rattle.std.specs.Prelude.{Option, Some, IsSome, unwrap_or}
use Rattle.std.specs.List.{AllByRecursion}
use Rattle.std.proofs.lemmas.Nat.{pow_pos}
use Rattle.fir_base.specs.Ticks.{Env}
use Rattle.fir_bits.specs.Values.{fitted}
use Rattle.fir_bits.specs.Operators.{flag, operation_value}
use Rattle.fir_bits.specs.Widths.{width_of}
use Rattle.fir_bits.proofs.Powers.{pow_le}
use Rattle.fir_bits.specs.declared.operators.PrimOp.{PrimOp}
use Rattle.fir_net.specs.working.Values.{at_width}
use Rattle.ver_ast.specs.Atoms.{net, constant}
use Rattle.ver_ast.specs.Nets.{SizedNet}
use Rattle.ver_ast.specs.declared.tree.BinaryOp.{BinaryOp}
use Rattle.ver_ast.specs.declared.tree.BinaryOp.TheVariants as binary
use Rattle.ver_ast.specs.declared.tree.SignedOp.{SignedOp}
use Rattle.ver_build.proofs.SideValues.{side_value}
use Rattle.ver_ast.specs.SoundSides as sides
use Rattle.ver_ast.specs.SoundSides.{IsSoundSide, binary_rule, signed_rule}
use Rattle.ver_build.specs.declared.held.Held.{Held}
use Rattle.ver_build.specs.declared.right_sides.Inner.{Inner}
use Rattle.ver_build.specs.working.Held.{whole_net}
use Rattle.ver_build.specs.working.Operands.{atom_at}
use Rattle.ver_build.specs.working.Texts.{division_width, zero_test, divisor, between, guarded, helper, division_inners}
use Rattle.ver_build.proofs.Standing.{Stands, FitsSource, DeclaresInners, FitsInners, RestInners, HaveValues, IsSoundInner}
use Rattle.ver_build.proofs.Fitted.{zero_env, zero_fits, held_as, holds_itself, holds_vector, whole_holds}
use Rattle.ver_build.proofs.OperandAtoms.{Gives, constant_gives, net_gives, atom_gives}
use Rattle.ver_build.proofs.RightSides.{Means, between_value, binary_side, choice_side, between_sound, between_is}
use Rattle.ver_build.proofs.OperatorValues.{IsOfKind, division, is_div, is_rem, operator_value, binary_operator, signed_operator, division_value}

-- a net that keeps its equation has the value of its right side
pub settled : (v : Option ℕ) (x n : ℕ) → v ≡ Some n → x ≡ unwrap_or v 0 → IsSome v × (x ≡ n)
settled v x n is e = (subst IsSome (sym is) refl, e ∙ ap (λ w. unwrap_or w 0) is)

module _ (nets : List SizedNet) (a b : Held) (is_a : Stands nets a) (is_b : Stands nets b) (o : PrimOp) (h : IsOfKind o division)
    (helpers : List (List ℕ)) (name : List ℕ) (r : ℕ) (some : 1 ≤ r) (narrow : r ≤ 128) where
  abbrev s : SignedOp
  s = signed_operator o

  abbrev p : BinaryOp
  p = binary_operator o

  abbrev w : ℕ
  w = division_width r a b

  abbrev zero : List ℕ
  zero = helper helpers 0

  abbrev by : List ℕ
  by = helper helpers 1

  abbrev value : List ℕ
  value = helper helpers 2

  abbrev made : List Inner
  made = division_inners s p r a b helpers name

  rules : (o : PrimOp) → IsOfKind o division
      → (signed_rule (signed_operator o) ≡ sides.arithmetic) × (binary_rule (binary_operator o) ≡ sides.arithmetic)
  rules o is_div = (refl, refl)
  rules o is_rem = (refl, refl)

  w_some : 1 ≤ w
  w_some = omega arith

  w_narrow : w ≤ 128
  w_narrow = let narrow_a = is_a.narrow in let narrow_b = is_b.narrow in omega arith

  module _ (declared : DeclaresInners nets made) where
    module _ (env : Env) (below_a : FitsSource env a.source) (below_b : FitsSource env b.source) where
      at_a : Gives nets env w (at_width (held_as env a) w) (atom_at w a)
      at_a = atom_gives nets env w a (held_as env a) (holds_itself nets env a is_a below_a) w_some w_narrow

      at_b : Gives nets env w (at_width (held_as env b) w) (atom_at w b)
      at_b = atom_gives nets env w b (held_as env b) (holds_itself nets env b is_b below_b) w_some w_narrow

      is_zero : Gives nets env 1 (env zero) (net zero)
      is_zero = net_gives nets env zero 1 (omega arith) declared.0

      divided_by : Gives nets env w (env by) (net by)
      divided_by = net_gives nets env by w w_some declared.1.0

      zero_means : Means nets env 1 (flag (at_width (held_as env b) w == 0)) (zero_test w b)
      zero_means =
          binary_side nets env 1 w w _ 0 (atom_at w b) (constant w 0) at_b (constant_gives nets env w 0 w_some w_narrow (pow_pos w)) _ binary.Eq
          (refl, refl) refl

      divisor_means : Means nets env w (if env zero == 1 then 1 else at_width (held_as env b) w) (divisor w zero b)
      divisor_means =
          let one = constant_gives nets env w 1 w_some w_narrow (omega (arith, pow_le 1 w w_some)) in
          choice_side nets env w (env zero) 1 _ (net zero) (constant w 1) (atom_at w b) is_zero one at_b

      value_sound : IsSoundSide nets [] w (between s p w a (net by))
      value_sound =
          let both = rules o h in
          let signed_rule_is = both.0 in
          let plain_rule_is = both.1 in
          between_sound nets env s p w w _ _ (atom_at w a) (net by) at_a divided_by (rw signed_rule_is (refl, refl)) (rw plain_rule_is (refl, refl))
          a.signed

      value_is : side_value nets env w (between s p w a (net by)) ≡ between_value a.signed s p w w (at_width (held_as env a) w) (env by)
      value_is = between_is nets env s p w w _ _ (atom_at w a) (net by) at_a divided_by a.signed

      guarded_means : env value < 2 ^ w → Means nets env r (if env zero == 1 then 0 else fitted a.signed w (env value) r)
          (guarded r zero (whole_net value a.signed w))
      guarded_means below =
          let left = whole_net value a.signed w in
          let there = whole_holds nets env value a.signed w w_some w_narrow declared.1.1.0 below in
          choice_side nets env r (env zero) 0 _ (net zero) (constant r 0) (atom_at r left) is_zero
          (constant_gives nets env r 0 some narrow (pow_pos r))
          (atom_gives nets env r left _ there some narrow)

    pub division_sound : AllByRecursion (IsSoundInner nets) made
    division_sound =
        let fits_a = zero_fits a.source in
        let fits_b = zero_fits b.source in (
          record { side = (zero_means zero_env fits_a fits_b).sound; some = omega arith; narrow = omega arith },
          (
            record { side = (divisor_means zero_env fits_a fits_b).sound; some = w_some; narrow = w_narrow },
            (
              record { side = value_sound zero_env fits_a fits_b; some = w_some; narrow = w_narrow },
              (record { side = (guarded_means zero_env fits_a fits_b (pow_pos w)).sound; some = some; narrow = narrow }, tt),
            ),
          ),
        )

    between_operator : (t : Bool) (w x y : ℕ) → between_value t s p w w x y ≡ operator_value t o w x y
    between_operator true w x y = refl
    between_operator false w x y = refl

    pub division_means : (env : Env) → FitsSource env a.source → FitsSource env b.source → (n m : ℕ) → a.signed ≡ b.signed
        → r ≡ width_of o a.signed a.width b.width n m → FitsInners env made → RestInners nets env made
        → HaveValues nets env made × (env name ≡ operation_value o r (held_as env a) (held_as env b) n m)
    division_means env below_a below_b n m same result fits rest =
        let A = held_as env a in
        let B = held_as env b in
        let vector_a = holds_vector nets env a A (holds_itself nets env a is_a below_a) in
        let vector_b = holds_vector nets env b B (holds_itself nets env b is_b below_b) in
        let test = flag (at_width B w == 0) in
        let known = division_value A B vector_a vector_b (sym same) n m o h r w result refl some in
        let first = settled _ (env zero) test (zero_means env below_a below_b).value rest.0 in
        let second = settled _ (env by) _ (divisor_means env below_a below_b).value rest.1.0 in
        let by_is : env by ≡ (if test == 1 then 1 else at_width B w) = second.1 ∙ ap (λ (z : ℕ). if z == 1 then 1 else at_width B w) first.1 in
        let third_is = value_is env below_a below_b ∙ between_operator a.signed w _ _ ∙ ap (operator_value a.signed o w (at_width A w)) by_is ∙ known.is in
        let third = settled _ (env value) known.number third_is rest.1.1.0 in
        let fourth = settled _ (env name) _ (guarded_means env below_a below_b fits.1.1.0).value rest.1.1.1.0 in (
          (first.0, (second.0, (third.0, (fourth.0, tt)))),
          fourth.1 ∙ ap (λ (z : ℕ). if z == 1 then 0 else fitted a.signed w (env value) r) first.1
              ∙ ap (λ (v : ℕ). if test == 1 then 0 else fitted a.signed w v r) third.1 ∙ known.guarded,
        )
