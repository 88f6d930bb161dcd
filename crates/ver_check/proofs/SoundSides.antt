-- A right side that is sound beside its target has no fault, nor has a clock that a clock output shows.
use Rattle.std.proofs.Common.{◌≡◌, ℕ, List, [], ◌∷◌, Bool, true, refl, sym, ap, ◌∙◌, subst}
use Rattle.std.specs.Prelude.{Option, Some, None, drop, nat_eq, if◌then◌else◌}
use Rattle.std.proofs.lemmas.Bool.{and_from, eq-eqb}
use Rattle.ver_ast.specs.declared.place.VPlace.{VPlace}
use Rattle.ver_ast.specs.declared.tree.Verilog.{Verilog}
use Rattle.ver_ast.specs.declared.tree.Rhs.{Rhs}
use Rattle.ver_ast.specs.declared.tree.Rhs.TheVariants as rhs
use Rattle.ver_ast.specs.Atoms.{AtomTree, net, constant}
use Rattle.ver_ast.specs.AtomWidths.{atom_width}
use Rattle.ver_ast.specs.Grammar.{atom_tokens}
use Rattle.ver_ast.specs.Nets.{arrays, nets}
use Rattle.ver_ast.specs.SoundSides.{HasSideWidths, HasWidth, IsOperand, IsSoundSide, binary_rule, signed_rule}
use Rattle.ver_ast.specs.Valid.{IsClockSide}
use Rattle.ver_valid.specs.working.Scopes.{IsFine}
use Rattle.ver_check.specs.FaultForms.{kind_fault}
use Rattle.ver_check.specs.declared.kind.Kind.TheVariants as kind
use Rattle.ver_check.specs.Scopes.{Scope, kind_of, word_bits}
use Rattle.ver_places.specs.Places.{behind, place_at}
use Rattle.ver_check.specs.OperandFaults.{atom_bits, atom_faults, width_faults}
use Rattle.ver_check.specs.SideFaults.{clock_faults, clock_side_faults, first_needs, is_truth, second_needs, side_faults, signed_faults, truth_faults, unary_needs}
use Rattle.ver_check.specs.ItemFaults.{Before}
use Rattle.ver_check.proofs.OwnFaults.{IsMet, bits_named, met_width, none_of_both}
use Rattle.ver_check.proofs.SideWidths.{rule_met, truth_none, unary_met}
use Rattle.ver_check.proofs.SoundOperands.{sound_bits, sound_operand}
use Rattle.ver_check.proofs.Mirrors.{Mirrors, clock_is, word_is}

module _ (before : Before) (v : Verilog) (mirrors : Mirrors before v) (fine : IsFine v) where
  abbrev scope : Scope
  scope = before.scope

  pub none_at : (needed : Option ℕ) (a : AtomTree) (ps : List VPlace) → IsOperand (nets v) a → IsMet needed (atom_width (nets v) a)
      → atom_faults scope needed a ps ≡ []
  none_at needed a ps s m = sound_operand before v mirrors fine needed a ps s.sound m

  pub none_wide : (w : ℕ) (a : AtomTree) (ps : List VPlace) → HasWidth (nets v) w a → atom_faults scope (Some w) a ps ≡ []
  none_wide w a ps h = none_at (Some w) a ps h.operand h.wide

  none_signed : (needed : Option ℕ) (a : AtomTree) (ps : List VPlace) → IsOperand (nets v) a → IsMet needed (atom_width (nets v) a)
      → signed_faults scope needed a ps ≡ []
  none_signed needed a ps s m =
      none_of_both (width_faults needed (atom_bits scope a) (place_at 0 ps)) (atom_faults scope None a (drop 1 ps))
      (ap (λ (o : Option ℕ). width_faults needed o (place_at 0 ps)) (sound_bits before v mirrors fine a s.sound).bits
      ∙ met_width needed (atom_width (nets v) a) (place_at 0 ps) m)
      (none_at None a (drop 1 ps) s tt)

  -- the bits that the second operand needs, by those of the first
  met_second : (needs : Option ℕ → Option ℕ) (a : AtomTree) (x : ℕ) → IsOperand (nets v) a → IsMet (needs (Some (atom_width (nets v) a))) x
      → IsMet (needs (atom_bits scope a)) x
  met_second needs a x s m = subst (λ (o : Option ℕ). IsMet (needs o) x) (sym (sound_bits before v mirrors fine a s.sound).bits) m

  pub sound_side : (w : ℕ) (r : Rhs) (ps : List VPlace) → IsSoundSide (nets v) (arrays v) w r → side_faults scope w r ps ≡ []
  sound_side w (rhs.Atom a) ps s = none_at (Some w) a ps s.operands.0 s.widths
  sound_side w (rhs.Unary op a) ps s = none_at (unary_needs op w) a ps s.operands.0 (unary_met op w (atom_width (nets v) a) s.widths).0
  sound_side w (rhs.Binary a op b) ps s =
      let m = rule_met (binary_rule op) w (atom_width (nets v) a) (atom_width (nets v) b) s.widths in
      none_of_both _ _ (none_at (first_needs (binary_rule op) w) a ps s.operands.0 m.0)
      (none_at (second_needs (binary_rule op) w (atom_bits scope a)) b (behind (atom_tokens a) ps) s.operands.1.0
      (met_second (second_needs (binary_rule op) w) a (atom_width (nets v) b) s.operands.0 m.1))
  sound_side w (rhs.Signed a op b) ps s =
      let m = rule_met (signed_rule op) w (atom_width (nets v) a) (atom_width (nets v) b) s.widths in
      none_of_both _ _ (none_signed (first_needs (signed_rule op) w) a ps s.operands.0 m.0)
      (none_signed (second_needs (signed_rule op) w (atom_bits scope a)) b (behind (atom_tokens a) (drop 1 ps)) s.operands.1.0
      (met_second (second_needs (signed_rule op) w) a (atom_width (nets v) b) s.operands.0 m.1))
  sound_side w (rhs.SignedShift a b) ps s =
      none_of_both _ _ (none_signed (Some w) a ps s.operands.0 s.widths) (none_at None b (behind (atom_tokens a) (drop 1 ps)) s.operands.1.0 tt)
  sound_side w (rhs.Conditional c a b) ps s =
      none_of_both _ _
      (none_of_both _ _ (none_at (Some 1) c ps s.operands.0 s.widths.0) (none_at (Some w) a (behind (atom_tokens c) ps) s.operands.1.0 s.widths.1))
      (none_at (Some w) b (behind (atom_tokens a) (behind (atom_tokens c) ps)) s.operands.1.1.0 s.widths.2)
  sound_side w (rhs.Word m a) ps s =
      let word = word_is before v mirrors fine m w s.widths in
      none_of_both _ _
      (none_of_both _ _ (bits_named word_bits (place_at 0 ps) m (kind_of scope m) w word)
      (ap (λ (o : Option ℕ). width_faults (Some w) o (place_at 0 ps)) word ∙ met_width (Some w) w (place_at 0 ps) refl))
      (none_at None a (drop 2 ps) s.operands.0 tt)

  truth_one : (w : ℕ) (r : Rhs) → HasSideWidths (nets v) (arrays v) w r → is_truth r ≡ true → w ≡ 1
  truth_one w (rhs.Unary op a) h e = (unary_met op w (atom_width (nets v) a) h).1 e
  truth_one w (rhs.Binary a op b) h e = (rule_met (binary_rule op) w (atom_width (nets v) a) (atom_width (nets v) b) h).2 e
  truth_one w (rhs.Signed a op b) h e = (rule_met (signed_rule op) w (atom_width (nets v) a) (atom_width (nets v) b) h).2 e
  truth_one w (rhs.Atom a) h e = absurd (cc)
  truth_one w (rhs.SignedShift a b) h e = absurd (cc)
  truth_one w (rhs.Conditional c a b) h e = absurd (cc)
  truth_one w (rhs.Word m a) h e = absurd (cc)

  pub sound_truth : (w : ℕ) (r : Rhs) (p : VPlace) → IsSoundSide (nets v) (arrays v) w r → truth_faults w r p ≡ []
  sound_truth w r p s = truth_none (is_truth r) w _ (truth_one w r s.widths)

  pub sound_clock : (n : List ℕ) (p : VPlace) → kind_of scope n ≡ Some kind.ClockInput → clock_faults p n (kind_of scope n) ≡ []
  sound_clock n p e = ap (clock_faults p n) e

  pub sound_clock_side : (r : Rhs) (p : VPlace) → IsClockSide v r → clock_side_faults scope r p ≡ []
  sound_clock_side (rhs.Atom (net n)) p h = sound_clock n p (clock_is before v mirrors fine n h)
  sound_clock_side (rhs.Atom (constant w x)) p h =
      ap (λ (b : Bool). if b then [] else kind_fault p ∷ []) (and_from (nat_eq w 1) (nat_eq x 0) (eq-eqb w 1 h.0) (eq-eqb x 0 h.1))
  sound_clock_side _ p h = absurd h
