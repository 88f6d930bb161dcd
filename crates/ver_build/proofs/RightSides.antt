-- What right sides mean, from what their operands are.
-- A right side is sound where its operands are and have the widths that the operator asks for, and it has the operator's value.
use Rattle.std.proofs.Common.{◌≡◌, ℕ, Bool, true, false, ◌==◌, if◌then◌else◌, List, [], refl, sym, ap, ◌∙◌, subst}
use Rattle.std.specs.Prelude.{Option, Some}
use Rattle.fir_base.specs.Ticks.{Env}
use Rattle.fir_bits.specs.Integers.{reading, bits_of, shifted_down}
use Rattle.ver_ast.specs.declared.tree.Rhs.{Rhs}
use Rattle.ver_ast.specs.declared.tree.Rhs.TheVariants as rhs
use Rattle.ver_ast.specs.declared.tree.UnaryOp.{UnaryOp}
use Rattle.ver_ast.specs.declared.tree.BinaryOp.{BinaryOp}
use Rattle.ver_ast.specs.declared.tree.SignedOp.{SignedOp}
use Rattle.ver_ast.specs.Atoms.{AtomTree}
use Rattle.ver_ast.specs.Nets.{SizedNet}
use Rattle.ver_ast.specs.SideValues.{unary_value, binary_value, signed_value}
use Rattle.ver_build.proofs.SideValues.{side_value}
use Rattle.ver_ast.specs.SoundSides.{IsSoundSide, KeepsRule, KeepsUnary, binary_rule, signed_rule}
use Rattle.ver_build.proofs.OperandAtoms.{Gives}

-- which value an operator between operands of w bits gives, read as signed or not, for a target of r bits
abbrev pub between_value : Bool → SignedOp → BinaryOp → ℕ → ℕ → ℕ → ℕ → Option ℕ
between_value true s o r w x y = signed_value s w (reading true w x) (reading true w y)
between_value false s o r w x y = binary_value o r x y

module _ (nets : List SizedNet) (env : Env) where
  -- a sound right side of a net of w bits, with that value
  pub record Means (w n : ℕ) (r : Rhs) : Type 0 where
    pub sound : IsSoundSide nets [] w r
    pub value : side_value nets env w r ≡ Some n

  pub atom_side : (w n : ℕ) (a : AtomTree) → Gives nets env w n a → Means w n (rhs.Atom a)
  atom_side w n a is = record {
    sound = record { operands = (is.fits.operand, tt); widths = is.fits.wide };
    value = ap Some is.value;
  }

  pub unary_side : (w u n x : ℕ) (o : UnaryOp) (a : AtomTree) → KeepsUnary o w u → Gives nets env u x a → unary_value o u x ≡ n
      → Means w n (rhs.Unary o a)
  unary_side w u n x o a rule is value = record {
    sound = record { operands = (is.fits.operand, tt); widths = subst (KeepsUnary o w) (sym is.fits.wide) rule };
    value = let width = is.fits.wide in let same = is.value in rw (width, same) (ap Some value);
  }

  module _ (w u v x y : ℕ) (a b : AtomTree) (is_a : Gives nets env u x a) (is_b : Gives nets env v y b) where
    binary_sound : (o : BinaryOp) → KeepsRule (binary_rule o) w u v → IsSoundSide nets [] w (rhs.Binary a o b)
    binary_sound o rule = record {
      operands = (is_a.fits.operand, (is_b.fits.operand, tt));
      widths = let wide_a = is_a.fits.wide in let wide_b = is_b.fits.wide in rw (wide_a, wide_b) rule;
    }

    signed_sound : (s : SignedOp) → KeepsRule (signed_rule s) w u v → IsSoundSide nets [] w (rhs.Signed a s b)
    signed_sound s rule = record {
      operands = (is_a.fits.operand, (is_b.fits.operand, tt));
      widths = let wide_a = is_a.fits.wide in let wide_b = is_b.fits.wide in rw (wide_a, wide_b) rule;
    }

    binary_is : (o : BinaryOp) → side_value nets env w (rhs.Binary a o b) ≡ binary_value o w x y
    binary_is o = let same_a = is_a.value in let same_b = is_b.value in rw (same_a, same_b) refl

    signed_is : (s : SignedOp) → side_value nets env w (rhs.Signed a s b) ≡ signed_value s u (reading true u x) (reading true v y)
    signed_is s =
        let wide_a = is_a.fits.wide in
        let wide_b = is_b.fits.wide in
        let same_a = is_a.value in
        let same_b = is_b.value in
        rw (wide_a, wide_b, same_a, same_b) refl

    pub binary_side : (n : ℕ) (o : BinaryOp) → KeepsRule (binary_rule o) w u v → binary_value o w x y ≡ Some n → Means w n (rhs.Binary a o b)
    binary_side n o rule value = record { sound = binary_sound o rule; value = binary_is o ∙ value }

    pub shift_side : (n : ℕ) → u ≡ w → Some (bits_of w (shifted_down (reading true u x) y)) ≡ Some n → Means w n (rhs.SignedShift a b)
    shift_side n rule value = record {
      sound = record { operands = (is_a.fits.operand, (is_b.fits.operand, tt)); widths = is_a.fits.wide ∙ rule };
      value =
          let wide_a = is_a.fits.wide in
          let same_a = is_a.value in
          let same_b = is_b.value in
          rw (wide_a, same_a, same_b) value;
    }

  -- an operator between operands of w bits, read as signed or not, for a target of r bits
  module _ (s : SignedOp) (o : BinaryOp) (r w x y : ℕ) (a b : AtomTree) (is_a : Gives nets env w x a) (is_b : Gives nets env w y b) where
    pub between_sound : KeepsRule (signed_rule s) r w w → KeepsRule (binary_rule o) r w w → (t : Bool)
        → IsSoundSide nets [] r (if t then rhs.Signed a s b else rhs.Binary a o b)
    between_sound rule plain true = signed_sound r w w x y a b is_a is_b s rule
    between_sound rule plain false = binary_sound r w w x y a b is_a is_b o plain

    pub between_is : (t : Bool) → side_value nets env r (if t then rhs.Signed a s b else rhs.Binary a o b) ≡ between_value t s o r w x y
    between_is true = signed_is r w w x y a b is_a is_b s
    between_is false = binary_is r w w x y a b is_a is_b o

  pub choice_side : (w z x y : ℕ) (c a b : AtomTree) → Gives nets env 1 z c → Gives nets env w x a → Gives nets env w y b
      → Means w (if z == 1 then x else y) (rhs.Conditional c a b)
  choice_side w z x y c a b is_c is_a is_b = record {
    sound = record {
      operands = (is_c.fits.operand, (is_a.fits.operand, (is_b.fits.operand, tt)));
      widths = (is_c.fits.wide, is_a.fits.wide, is_b.fits.wide);
    };
    value = let same_c = is_c.value in let same_a = is_a.value in let same_b = is_b.value in rw (same_c, same_a, same_b) refl;
  }
