-- Blocks, writes and words of arrays are judged by their parts.
use Rattle.std.proofs.Common.{◌≡◌, ℕ, List, refl, sym, subst}
use Rattle.std.specs.Prelude.{Result}
use Rattle.fir_base.specs.Lists.{In}
use Rattle.fir_base.specs.declared.refused.Refused.{Refused}
use Rattle.ver_ast.specs.declared.tree.Verilog.{Verilog}
use Rattle.ver_ast.specs.declared.tree.Always.{Always}
use Rattle.ver_ast.specs.declared.tree.Resetting.{Resetting}
use Rattle.ver_ast.specs.declared.tree.Write.{Write}
use Rattle.ver_ast.specs.declared.tree.Rhs.TheVariants as rhs
use Rattle.ver_ast.specs.Atoms.{AtomTree}
use Rattle.ver_ast.specs.Nets.{nets, regs, clocks, arrays}
use Rattle.ver_ast.specs.SoundSides.{HasWidth, IsSoundSide}
use Rattle.ver_ast.specs.Valid.{IsPlain, IsResetting, IsWrite}
use Rattle.ver_ast.proofs.Nets.{reg_is_net}
use Rattle.ver_valid.specs.declared.misfit.Misfit.{Misfit}
use Rattle.ver_valid.specs.declared.scope.Scope.{Scope}
use Rattle.ver_valid.specs.working.Judgement.{Denies, Judges}
use Rattle.ver_valid.specs.working.Scopes.{Tells, HasArray}
use Rattle.ver_valid.specs.working.Operands.{IsSoundConstant}
use Rattle.ver_valid.proofs.Judging.{denied_more, judged_same}
use Rattle.ver_valid.proofs.OperandForms.{narrow_net}

module _ (v : Verilog) where
  pub plain_form : (b : Always) (w : ℕ) (r : Result Unit (Refused Misfit)) → In (clocks v) b.clock
      → In (regs v) (b.target, w) × ((u : ℕ) → In (regs v) (b.target, u) → u ≡ w) → Judges r (HasWidth (nets v) w b.source) → Judges r (IsPlain v b)
  plain_form b w r clocked own h =
      judged_same r (HasWidth (nets v) w b.source) (IsPlain v b)
      (λ wide. record { clocked = clocked; width = w; register = own.0; wide = wide })
      (λ p. subst (λ (x : ℕ). HasWidth (nets v) x b.source) (own.1 p.width p.register) p.wide)
      h

  pub write_form : (name : List ℕ) (x : Write) (w u : ℕ) (r : Result Unit (Refused Misfit)) → x.array ≡ name
      → HasArray v name w × ((u : ℕ) → HasArray v name u → u ≡ w) → HasWidth (nets v) 1 x.condition → HasWidth (nets v) u x.index
      → Judges r (HasWidth (nets v) w x.source) → Judges r (IsWrite v name x)
  write_form name x w u r one own condition index h =
      let k = own.0 in
      judged_same r (HasWidth (nets v) w x.source) (IsWrite v name x)
      (λ wide. record {
        one_array = one;
        array = k.0;
        is_array = k.1;
        named = k.2;
        condition_wide = condition;
        index_sound = index.operand;
        source_wide = subst (λ (y : ℕ). HasWidth (nets v) y x.source) (sym k.3) wide;
      })
      (λ p. subst (λ (y : ℕ). HasWidth (nets v) y x.source) (own.1 p.array.width (p.array, p.is_array, p.named, refl)) p.source_wide)
      h

  pub no_write : (name : List ℕ) (x : Write) (e : Refused Misfit) → Denies e ((u : ℕ) × HasArray v name u) → Denies e (IsWrite v name x)
  no_write name x e d =
      denied_more e ((u : ℕ) × HasArray v name u) (IsWrite v name x) (λ p. (p.array.width, (p.array, p.is_array, p.named, refl))) d

  -- the array of a word
  pub no_word : (m : List ℕ) (a : AtomTree) (w : ℕ) (e : Refused Misfit) → Denies e ((u : ℕ) × HasArray v m u)
      → Denies e (IsSoundSide (nets v) (arrays v) w (rhs.Word m a))
  no_word m a w e d = denied_more e ((u : ℕ) × HasArray v m u) (IsSoundSide (nets v) (arrays v) w (rhs.Word m a)) (λ s. (w, s.widths)) d

  pub other_word : (m : List ℕ) (a : AtomTree) (w u : ℕ) (e : Refused Misfit) → ((x : ℕ) → HasArray v m x → x ≡ u) → Denies e (u ≡ w)
      → Denies e (IsSoundSide (nets v) (arrays v) w (rhs.Word m a))
  other_word m a w u e one d = denied_more e (u ≡ w) (IsSoundSide (nets v) (arrays v) w (rhs.Word m a)) (λ s. sym (one w s.widths)) d

  pub wide_reset : (b : Resetting) (u : ℕ) (e : Refused Misfit) → ((x : ℕ) → In (nets v) (b.reset, x) → x ≡ u) → Denies e (u ≡ 1) → Denies e (IsResetting v b)
  wide_reset b u e one d = denied_more e (u ≡ 1) (IsResetting v b) (λ r. sym (one 1 r.bit)) d

  -- the constant of a register fits a width that nets can have
  pub fitting_reset : (scope : Scope) → Tells scope v → (b : Resetting) → IsResetting v b → IsSoundConstant b.value
  fitting_reset scope t b r = (narrow_net scope v t b.target b.value.width (reg_is_net v (b.target, b.value.width) r.register), r.constant_fits)
