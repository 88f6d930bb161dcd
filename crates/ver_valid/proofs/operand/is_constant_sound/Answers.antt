use Rattle.std.proofs.Common.{◌≡◌, ℕ, ◌^◌, ◌<◌, ◌≤◌, ap, arith}
use Rattle.std.specs.Prelude.{Option, None}
use Rattle.fir_bits.proofs.Powers.{pow_le}
use Rattle.ver_ast.specs.AtomForms.{number_of}
use Rattle.ver_valid.proofs.operand.is_constant_sound.Goals as goal

-- a number that fits no type fits no width
none_fits : (o : Option ℕ) (w : ℕ) → o ≡ None → w ≤ 128 → number_of o < 2 ^ w → ⊥
none_fits o w e narrow h = let number = ap number_of e in let power = pow_le w 128 narrow in omega arith

pub returns-in-None : goal.returns-in-None
returns-in-None c = (λ f. absurd (cc), λ h. absurd (none_fits c.args.constant.number c.args.constant.width c.in-None.is h.0.1 h.1))
