-- A right side without a fault is sound beside its target, and that of a clock output shows a clock.
use Rattle.std.proofs.Common.{◌≡◌, ℕ, List, [], true, refl, ap, ◌∙◌, subst}
use Rattle.std.specs.Prelude.{Option, Some, None, drop, nat_eq}
use Rattle.std.specs.List.{AllByRecursion}
use Rattle.std.proofs.lemmas.Bool.{and_parts, eqb-true}
use Rattle.ver_ast.specs.declared.place.VPlace.{VPlace}
use Rattle.ver_ast.specs.declared.tree.Verilog.{Verilog}
use Rattle.ver_ast.specs.declared.tree.Rhs.{Rhs}
use Rattle.ver_ast.specs.declared.tree.Rhs.TheVariants as rhs
use Rattle.ver_ast.specs.Atoms.{AtomTree, net, constant, bit_select, part_select, concat, repeat}
use Rattle.ver_ast.specs.AtomWidths.{atom_width}
use Rattle.ver_ast.specs.Grammar.{atom_tokens}
use Rattle.ver_ast.specs.Names.{rhs_atoms}
use Rattle.ver_ast.specs.Nets.{arrays, nets}
use Rattle.ver_ast.specs.SoundSides.{IsOperand, HasWidth, IsSoundSide, binary_rule, signed_rule}
use Rattle.ver_ast.specs.Valid.{IsClockSide}
use Rattle.ver_valid.specs.working.Scopes.{IsFine}
use Rattle.ver_check.specs.FaultForms.{kind_fault}
use Rattle.ver_check.specs.declared.kind.Kind.{Kind}
use Rattle.ver_check.specs.declared.kind.Kind.TheVariants as kind
use Rattle.ver_check.specs.Scopes.{Scope, is_clock_input, kind_of, word_bits, bits_of}
use Rattle.ver_places.specs.Places.{behind, place_at}
use Rattle.ver_check.specs.OperandFaults.{atom_bits, atom_faults, name_faults, width_faults}
use Rattle.ver_check.specs.SideFaults.{clock_faults, clock_side_faults, first_needs, is_truth, misplaced_atom, second_needs, side_faults, signed_faults, truth_faults, unary_needs}
use Rattle.ver_check.specs.ItemFaults.{Before}
use Rattle.ver_check.specs.working.Laws.{IsShallowAtom}
use Rattle.ver_check.proofs.Faultless.{first_empty, second_empty}
use Rattle.ver_check.proofs.OwnFaults.{IsMet, named_bits, tested, width_met}
use Rattle.ver_check.proofs.SideWidths.{keeps_rule, keeps_unary, one_bit}
use Rattle.ver_check.proofs.FaultlessOperands.{IsFound, faultless_operand}
use Rattle.ver_check.proofs.Mirrors.{Mirrors, bits_word, clock_in}
use Rattle.ver_check.proofs.Blocks.{none_misplaced}

is_clock : (k : Kind) → is_clock_input k ≡ true → k ≡ kind.ClockInput
is_clock kind.ClockInput e = refl
is_clock _ e = absurd (cc)

clock_kind : (p : VPlace) (n : List ℕ) (o : Option Kind) → clock_faults p n o ≡ [] → o ≡ Some kind.ClockInput
clock_kind p n None e = absurd (cc)
clock_kind p n (Some k) e = ap (λ (x : Kind). Some x) (is_clock k (tested (is_clock_input k) (kind_fault p) e))

module _ (before : Before) (v : Verilog) (mirrors : Mirrors before v) (fine : IsFine v) where
  abbrev scope : Scope
  scope = before.scope

  pub operand_of : (needed : Option ℕ) (a : AtomTree) → IsFound scope (nets v) needed a → IsShallowAtom a → IsOperand (nets v) a
  operand_of needed a f s = record { sound = f.sound; shallow = s }

  pub of_width : (w : ℕ) (a : AtomTree) (ps : List VPlace) → atom_faults scope (Some w) a ps ≡ [] → IsShallowAtom a → HasWidth (nets v) w a
  of_width w a ps e s =
      let f = faultless_operand before v mirrors fine (Some w) a ps e in
      record { operand = operand_of (Some w) a f s; wide = f.met }

  signed_found : (needed : Option ℕ) (a : AtomTree) (ps : List VPlace) → signed_faults scope needed a ps ≡ [] → IsFound scope (nets v) needed a
  signed_found needed a ps e =
      let f = faultless_operand before v mirrors fine None a (drop 1 ps) (second_empty _ _ e) in
      record {
        sound = f.sound;
        bits = f.bits;
        met =
            width_met needed (atom_width (nets v) a) (place_at 0 ps)
            (subst (λ (o : Option ℕ). width_faults needed o (place_at 0 ps) ≡ []) f.bits
            (first_empty (width_faults needed (atom_bits scope a) (place_at 0 ps)) (atom_faults scope None a (drop 1 ps)) e));
      }

  faultless_side : (w : ℕ) (r : Rhs) (ps : List VPlace) → (is_truth r ≡ true → w ≡ 1) → side_faults scope w r ps ≡ []
      → AllByRecursion IsShallowAtom (rhs_atoms r) → IsSoundSide (nets v) (arrays v) w r
  faultless_side w (rhs.Atom a) ps one e s =
      let f = faultless_operand before v mirrors fine (Some w) a ps e in
      record { operands = (operand_of (Some w) a f s.0, tt); widths = f.met }
  faultless_side w (rhs.Unary op a) ps one e s =
      let f = faultless_operand before v mirrors fine (unary_needs op w) a ps e in
      record { operands = (operand_of (unary_needs op w) a f s.0, tt); widths = keeps_unary op w (atom_width (nets v) a) f.met one }
  faultless_side w (rhs.Binary a op b) ps one e s =
      let needs = first_needs (binary_rule op) w in
      let f = faultless_operand before v mirrors fine needs a ps (first_empty _ _ e) in
      let more = second_needs (binary_rule op) w (atom_bits scope a) in
      let g = faultless_operand before v mirrors fine more b (behind (atom_tokens a) ps) (second_empty _ _ e) in
      record {
        operands = (operand_of needs a f s.0, (operand_of more b g s.1.0, tt));
        widths =
            keeps_rule (binary_rule op) w (atom_width (nets v) a) (atom_width (nets v) b) f.met
            (subst (λ (o : Option ℕ). IsMet (second_needs (binary_rule op) w o) (atom_width (nets v) b)) f.bits g.met) one;
      }
  faultless_side w (rhs.Signed a op b) ps one e s =
      let needs = first_needs (signed_rule op) w in
      let f = signed_found needs a ps (first_empty _ _ e) in
      let more = second_needs (signed_rule op) w (atom_bits scope a) in
      let g = signed_found more b (behind (atom_tokens a) (drop 1 ps)) (second_empty _ _ e) in
      record {
        operands = (operand_of needs a f s.0, (operand_of more b g s.1.0, tt));
        widths =
            keeps_rule (signed_rule op) w (atom_width (nets v) a) (atom_width (nets v) b) f.met
            (subst (λ (o : Option ℕ). IsMet (second_needs (signed_rule op) w o) (atom_width (nets v) b)) f.bits g.met) one;
      }
  faultless_side w (rhs.SignedShift a b) ps one e s =
      let f = signed_found (Some w) a ps (first_empty _ _ e) in
      let g = faultless_operand before v mirrors fine None b (behind (atom_tokens a) (drop 1 ps)) (second_empty _ _ e) in
      record { operands = (operand_of (Some w) a f s.0, (operand_of None b g s.1.0, tt)); widths = f.met }
  faultless_side w (rhs.Conditional c a b) ps one e s =
      let front = first_empty _ _ e in
      let f = faultless_operand before v mirrors fine (Some 1) c ps (first_empty _ _ front) in
      let g = faultless_operand before v mirrors fine (Some w) a (behind (atom_tokens c) ps) (second_empty _ _ front) in
      let h = faultless_operand before v mirrors fine (Some w) b (behind (atom_tokens a) (behind (atom_tokens c) ps)) (second_empty _ _ e) in
      record {
        operands = (operand_of (Some 1) c f s.0, (operand_of (Some w) a g s.1.0, (operand_of (Some w) b h s.1.1.0, tt)));
        widths = (f.met, g.met, h.met);
      }
  faultless_side w (rhs.Word m a) ps one e s =
      let front = first_empty _ _ e in
      let f = faultless_operand before v mirrors fine None a (drop 2 ps) (second_empty _ _ e) in
      let p = place_at 0 ps in
      let r = named_bits word_bits p m (kind_of scope m) (first_empty _ (width_faults (Some w) (bits_of word_bits scope m) p) front) in
      let wide : r.0 ≡ w =
      width_met (Some w) r.0 p
      (subst (λ (o : Option ℕ). width_faults (Some w) o p ≡ []) r.1 (second_empty (name_faults word_bits p m (kind_of scope m)) _ front)) in
      let k = bits_word before v mirrors fine m r.0 r.1 in
      record { operands = (operand_of None a f s.0, tt); widths = (k.0, k.1, k.2, k.3 ∙ wide) }

  pub faultless_rhs : (w : ℕ) (r : Rhs) (p : VPlace) (ps : List VPlace) → truth_faults w r p ≡ [] → side_faults scope w r ps ≡ []
      → AllByRecursion IsShallowAtom (rhs_atoms r) → IsSoundSide (nets v) (arrays v) w r
  faultless_rhs w r p ps truth e s = faultless_side w r ps (one_bit (is_truth r) w _ truth) e s

  pub faultless_clock : (p : VPlace) (n : List ℕ) → clock_faults p n (kind_of scope n) ≡ [] → kind_of scope n ≡ Some kind.ClockInput
  faultless_clock p n e = clock_kind p n (kind_of scope n) e

  misplaced : (a : AtomTree) (p : VPlace) → misplaced_atom scope a p ≡ [] → ⊥
  misplaced (net n) p e = none_misplaced p n (kind_of scope n) e
  misplaced (constant w x) p e = cc
  misplaced (bit_select n i) p e = none_misplaced p n (kind_of scope n) e
  misplaced (part_select n hi lo) p e = none_misplaced p n (kind_of scope n) e
  misplaced (concat a more) p e = cc
  misplaced (repeat count a) p e = cc

  pub faultless_clock_side : (r : Rhs) (p : VPlace) → clock_side_faults scope r p ≡ [] → IsClockSide v r
  faultless_clock_side (rhs.Atom (net n)) p e = clock_in before v mirrors fine n (faultless_clock p n e)
  faultless_clock_side (rhs.Atom (constant w x)) p e =
      let r = and_parts (nat_eq w 1) (nat_eq x 0) (tested _ (kind_fault p) e) in
      (eqb-true w 1 r.0, eqb-true x 0 r.1)
  faultless_clock_side (rhs.Atom (bit_select n i)) p e = none_misplaced p n (kind_of scope n) e
  faultless_clock_side (rhs.Atom (part_select n hi lo)) p e = none_misplaced p n (kind_of scope n) e
  faultless_clock_side (rhs.Atom (concat a more)) p e = cc
  faultless_clock_side (rhs.Atom (repeat count a)) p e = cc
  faultless_clock_side (rhs.Unary op a) p e = misplaced a p e
  faultless_clock_side (rhs.Binary a op b) p e = misplaced a p e
  faultless_clock_side (rhs.Signed a op b) p e = cc
  faultless_clock_side (rhs.SignedShift a b) p e = cc
  faultless_clock_side (rhs.Conditional c a b) p e = misplaced c p e
  faultless_clock_side (rhs.Word m a) p e = none_misplaced p m (kind_of scope m) e
