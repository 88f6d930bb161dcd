-- A sound operand that has as many bits as are needed has no fault.
use Rattle.std.proofs.Common.{◌≡◌, ℕ, zero, suc, ◌+◌, ◌-◌, ◌*◌, ◌≤◌, List, [], Bool, true, refl, ap, ◌∙◌, arith}
use Rattle.std.specs.Prelude.{Option, Some, None, drop, option_map, if◌then◌else◌}
use Rattle.std.proofs.lemmas.Bool.{le-ltb}
use Rattle.ver_ast.specs.declared.place.VPlace.{VPlace}
use Rattle.ver_ast.specs.declared.tree.Verilog.{Verilog}
use Rattle.ver_ast.specs.Atoms.{AtomTree, net, constant, bit_select, part_select, concat, repeat, AtomTrees, no_atoms, atom_before}
use Rattle.ver_ast.specs.AtomWidths.{atom_width, joined_width}
use Rattle.ver_ast.specs.Grammar.{atom_tokens}
use Rattle.ver_ast.specs.Nets.{SizedNet, nets, width_among}
use Rattle.ver_ast.specs.SoundSides.{IsSound, AreSound}
use Rattle.ver_valid.specs.working.Declarations.{IsNarrow}
use Rattle.ver_valid.specs.working.Scopes.{IsFine}
use Rattle.ver_valid.proofs.Fine.{fine_narrow, width_of_net}
use Rattle.ver_check.specs.Scopes.{Scope, kind_bits, kind_of, bits_of}
use Rattle.ver_places.specs.Places.{behind, place_at}
use Rattle.ver_check.specs.OperandFaults.{are_narrow, atom_bits, atom_faults, is_fit, is_within, joined_bits, joined_faults, net_faults, whole_faults}
use Rattle.ver_check.specs.ItemFaults.{Before}
use Rattle.ver_check.proofs.OwnFaults.{IsMet, bits_named, constant_fits, is_narrow_from, none_of_both, own_none, within_from}
use Rattle.ver_check.proofs.FaultlessOperands.{sum_is}
use Rattle.ver_check.proofs.Mirrors.{Mirrors, net_bits}

-- the bits that are found of an operand, and that there are some and not too many
pub record HasBits (scope : Scope) (ns : List SizedNet) (a : AtomTree) : Type 0 where
  pub bits : atom_bits scope a ≡ Some (atom_width ns a)
  pub narrow : IsNarrow (atom_width ns a)

more_copies : (c a : ℕ) → 1 ≤ c → 1 ≤ a → 1 ≤ c * a
more_copies zero a h k = absurd (omega arith)
more_copies (suc c) a h k = omega arith

module _ (before : Before) (v : Verilog) (mirrors : Mirrors before v) (fine : IsFine v) where
  abbrev scope : Scope
  scope = before.scope

  sound_net : (n : List ℕ) → 1 ≤ width_among (nets v) n → (bits_of kind_bits scope n ≡ Some (width_among (nets v) n)) × IsNarrow (width_among (nets v) n)
  sound_net n h =
      let m = width_of_net (nets v) n h in
      (net_bits before v mirrors fine n (width_among (nets v) n) m, fine_narrow v fine n (width_among (nets v) n) m)

  -- a net that has a range
  ranged_net : (n : List ℕ) → 2 ≤ width_among (nets v) n → (bits_of kind_bits scope n ≡ Some (width_among (nets v) n)) × IsNarrow (width_among (nets v) n)
  ranged_net n h = sound_net n (omega arith)

  named_net : (n : List ℕ) (p : VPlace) → bits_of kind_bits scope n ≡ Some (width_among (nets v) n) → net_faults scope n p ≡ []
  named_net n p e = bits_named kind_bits p n (kind_of scope n) (width_among (nets v) n) e

  mutual
    pub sound_bits : (a : AtomTree) → IsSound (nets v) a → HasBits scope (nets v) a
    sound_bits (net n) s = let r = sound_net n s in record { bits = r.0; narrow = r.1 }
    sound_bits (constant width value) s = record { bits = refl; narrow = (s.0, s.1) }
    sound_bits (bit_select n i) s =
        let r = ranged_net n s.0 in record { bits = ap (option_map (λ (w : ℕ). 1)) r.0; narrow = (omega arith, omega arith) }
    sound_bits (part_select n hi lo) s =
        let r = ranged_net n s.0 in
        let order = s.1 in let high = s.2 in let few = r.1.1 in
        record {
          bits =
              ap (λ (b : Bool). if b then None else option_map (λ (w : ℕ). hi + 1 - lo) (bits_of kind_bits scope n)) (le-ltb hi lo order)
              ∙ ap (option_map (λ (w : ℕ). hi + 1 - lo)) r.0;
          narrow = (omega arith, omega arith);
        }
    sound_bits (concat a more) s =
        let one = sound_bits a s.0 in
        let some = one.narrow.0 in
        record {
          bits = sum_is (atom_bits scope a) (joined_bits scope more) _ _ one.bits (joined_bits_are more s.1);
          narrow = (omega arith, s.2);
        }
    sound_bits (repeat count a) s =
        let one = sound_bits a s.0 in
        record {
          bits = ap (option_map (λ (w : ℕ). count * w)) one.bits;
          narrow = (more_copies count (atom_width (nets v) a) s.1 one.narrow.0, s.2);
        }

    joined_bits_are : (more : AtomTrees) → AreSound (nets v) more → joined_bits scope more ≡ Some (joined_width (nets v) more)
    joined_bits_are no_atoms s = refl
    joined_bits_are (atom_before a more) s =
        sum_is (atom_bits scope a) (joined_bits scope more) _ _ (sound_bits a s.0).bits (joined_bits_are more s.1)

  narrow_fit : (o : Option ℕ) (w : ℕ) → o ≡ Some w → IsNarrow w → are_narrow o ≡ true
  narrow_fit o w e n = ap are_narrow e ∙ is_narrow_from w n

  sound_fit : (a : AtomTree) → IsSound (nets v) a → is_fit scope a ≡ true
  sound_fit (net n) s = refl
  sound_fit (constant width value) s = constant_fits width value (s.0, s.1) s.2
  sound_fit (bit_select n i) s =
      let w = width_among (nets v) n in
      ap (λ (o : Option ℕ). is_within o i i) (ranged_net n s.0).0 ∙ within_from w i i s.0 (omega arith) s.1
  sound_fit (part_select n hi lo) s =
      ap (λ (o : Option ℕ). is_within o hi lo) (ranged_net n s.0).0 ∙ within_from (width_among (nets v) n) hi lo s.0 s.1 s.2
  sound_fit (concat a more) s = let r = sound_bits (concat a more) s in narrow_fit (atom_bits scope (concat a more)) _ r.bits r.narrow
  sound_fit (repeat count a) s = let r = sound_bits (repeat count a) s in narrow_fit (atom_bits scope (repeat count a)) _ r.bits r.narrow

  whole_none : (needed : Option ℕ) (a : AtomTree) (p : VPlace) → IsSound (nets v) a → IsMet needed (atom_width (nets v) a) → whole_faults scope needed a p ≡ []
  whole_none needed a p s m = own_none needed (atom_bits scope a) (is_fit scope a) p (atom_width (nets v) a) (sound_bits a s).bits (sound_fit a s) m

  mutual
    pub sound_operand : (needed : Option ℕ) (a : AtomTree) (ps : List VPlace) → IsSound (nets v) a → IsMet needed (atom_width (nets v) a)
        → atom_faults scope needed a ps ≡ []
    sound_operand needed (net n) ps s m =
        none_of_both _ _ (whole_none needed (net n) (place_at 0 ps) s m) (named_net n (place_at 0 ps) (sound_net n s).0)
    sound_operand needed (constant width value) ps s m = whole_none needed (constant width value) (place_at 0 ps) s m
    sound_operand needed (bit_select n i) ps s m =
        none_of_both _ _ (whole_none needed (bit_select n i) (place_at 0 ps) s m) (named_net n (place_at 0 ps) (ranged_net n s.0).0)
    sound_operand needed (part_select n hi lo) ps s m =
        none_of_both _ _ (whole_none needed (part_select n hi lo) (place_at 0 ps) s m) (named_net n (place_at 0 ps) (ranged_net n s.0).0)
    sound_operand needed (concat a more) ps s m =
        none_of_both _ _
        (none_of_both _ _ (whole_none needed (concat a more) (place_at 0 ps) s m) (sound_operand None a (drop 1 ps) s.0 tt))
        (sound_operands more (behind (atom_tokens a) (drop 1 ps)) s.1)
    sound_operand needed (repeat count a) ps s m =
        none_of_both _ _ (whole_none needed (repeat count a) (place_at 0 ps) s m) (sound_operand None a (drop 3 ps) s.0 tt)

    sound_operands : (more : AtomTrees) (ps : List VPlace) → AreSound (nets v) more → joined_faults scope more ps ≡ []
    sound_operands no_atoms ps s = refl
    sound_operands (atom_before a more) ps s =
        none_of_both _ _ (sound_operand None a ps s.0 tt) (sound_operands more (behind (atom_tokens a) ps) s.1)
