-- The bits that operands need are those that the rules ask, where the target of a truth has one bit.
use Rattle.std.proofs.Common.{◌≡◌, ℕ, [], ◌∷◌, Bool, true, false, refl, sym, ap}
use Rattle.std.specs.Prelude.{Some, nat_eq, not, ◌&&◌, if◌then◌else◌}
use Rattle.std.proofs.lemmas.Bool.{eq-eqb, eqb-true, not-false}
use Rattle.ver_ast.specs.declared.tree.UnaryOp.{UnaryOp}
use Rattle.ver_ast.specs.declared.tree.UnaryOp.TheVariants as unary
use Rattle.ver_ast.specs.SoundSides.{OperandRule, arithmetic, shift, comparison, KeepsRule, KeepsUnary}
use Rattle.ver_fault.specs.Faults.{VFault}
use Rattle.ver_check.specs.SideFaults.{first_needs, is_comparison, is_reduction, second_needs, unary_needs}
use Rattle.ver_check.proofs.OwnFaults.{IsMet, untested}

pub one_bit : (truth : Bool) (w : ℕ) (f : VFault) → (if truth && not (nat_eq w 1) then f ∷ [] else []) ≡ [] → truth ≡ true → w ≡ 1
one_bit true w f e h = eqb-true w 1 (not-false (nat_eq w 1) (untested (not (nat_eq w 1)) f e))
one_bit false w f e h = absurd (cc)

pub truth_none : (truth : Bool) (w : ℕ) (f : VFault) → (truth ≡ true → w ≡ 1) → (if truth && not (nat_eq w 1) then f ∷ [] else []) ≡ []
truth_none true w f h = ap (λ (b : Bool). if not b then f ∷ [] else []) (eq-eqb w 1 (h refl))
truth_none false w f h = refl

pub keeps_unary : (op : UnaryOp) (w u : ℕ) → IsMet (unary_needs op w) u → (is_reduction op ≡ true → w ≡ 1) → KeepsUnary op w u
keeps_unary unary.Not w u m one = m
keeps_unary unary.And w u m one = one refl
keeps_unary unary.Or w u m one = one refl
keeps_unary unary.Xor w u m one = one refl

pub unary_met : (op : UnaryOp) (w u : ℕ) → KeepsUnary op w u → IsMet (unary_needs op w) u × (is_reduction op ≡ true → w ≡ 1)
unary_met unary.Not w u k = (k, λ e. absurd (cc))
unary_met unary.And w u k = (tt, λ e. k)
unary_met unary.Or w u k = (tt, λ e. k)
unary_met unary.Xor w u k = (tt, λ e. k)

pub keeps_rule : (rule : OperandRule) (w u x : ℕ) → IsMet (first_needs rule w) u → IsMet (second_needs rule w (Some u)) x
    → (is_comparison rule ≡ true → w ≡ 1) → KeepsRule rule w u x
keeps_rule arithmetic w u x m n one = (m, n)
keeps_rule shift w u x m n one = m
keeps_rule comparison w u x m n one = (one refl, sym n)

pub rule_met : (rule : OperandRule) (w u x : ℕ) → KeepsRule rule w u x
    → IsMet (first_needs rule w) u × IsMet (second_needs rule w (Some u)) x × (is_comparison rule ≡ true → w ≡ 1)
rule_met arithmetic w u x k = (k.0, k.1, λ e. absurd (cc))
rule_met shift w u x k = (k, tt, λ e. absurd (cc))
rule_met comparison w u x k = (tt, sym k.1, λ e. k.0)
