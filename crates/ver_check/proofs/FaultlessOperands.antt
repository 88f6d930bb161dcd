-- An operand without a fault is sound, and has as many bits as are needed.
use Rattle.std.proofs.Common.{◌≡◌, ℕ, zero, suc, ◌+◌, ◌-◌, ◌*◌, ◌≤◌, List, [], Bool, true, refl, sym, ap, ◌∙◌, subst, arith}
use Rattle.std.specs.Prelude.{Option, Some, None, drop, option_map, if◌then◌else◌}
use Rattle.std.proofs.lemmas.Bool.{le-ltb}
use Rattle.ver_ast.specs.declared.place.VPlace.{VPlace}
use Rattle.ver_ast.specs.declared.tree.Verilog.{Verilog}
use Rattle.ver_ast.specs.Atoms.{AtomTree, net, constant, bit_select, part_select, concat, repeat, AtomTrees, no_atoms, atom_before}
use Rattle.ver_ast.specs.AtomWidths.{atom_width, joined_width}
use Rattle.ver_ast.specs.Grammar.{atom_tokens}
use Rattle.ver_ast.specs.Nets.{SizedNet, nets, width_among}
use Rattle.ver_ast.specs.SoundSides.{IsSound, AreSound}
use Rattle.ver_valid.specs.working.Declarations.{IsNarrow}
use Rattle.ver_valid.specs.working.Scopes.{IsFine}
use Rattle.ver_valid.proofs.Fine.{fine_narrow, fine_width}
use Rattle.ver_check.specs.Scopes.{Scope, kind_bits, kind_of, bits_of}
use Rattle.ver_places.specs.Places.{behind, place_at}
use Rattle.ver_check.specs.OperandFaults.{are_narrow, atom_bits, atom_faults, is_within, joined_bits, joined_faults, net_faults, sum_of}
use Rattle.ver_check.specs.ItemFaults.{Before}
use Rattle.ver_check.proofs.Faultless.{first_empty, second_empty}
use Rattle.ver_check.proofs.OwnFaults.{IsMet, constant_is, named_bits, narrow_is, own_fit, own_met, within_is}
use Rattle.ver_check.proofs.Mirrors.{Mirrors, bits_net}

pub record IsFound (scope : Scope) (ns : List SizedNet) (needed : Option ℕ) (a : AtomTree) : Type 0 where
  pub sound : IsSound ns a
  pub bits : atom_bits scope a ≡ Some (atom_width ns a)
  pub met : IsMet needed (atom_width ns a)

pub record AreFound (scope : Scope) (ns : List SizedNet) (more : AtomTrees) : Type 0 where
  pub sound : AreSound ns more
  pub bits : joined_bits scope more ≡ Some (joined_width ns more)

pub sum_is : (a b : Option ℕ) (x y : ℕ) → a ≡ Some x → b ≡ Some y → sum_of a b ≡ Some (x + y)
sum_is a b x y e h = ap (λ (o : Option ℕ). sum_of o b) e ∙ ap (sum_of (Some x)) h

some_copies : (c a : ℕ) → 1 ≤ c * a → 1 ≤ c
some_copies zero a h = absurd (omega arith)
some_copies (suc c) a h = omega arith

module _ (before : Before) (v : Verilog) (mirrors : Mirrors before v) (fine : IsFine v) where
  abbrev scope : Scope
  scope = before.scope

  pub a_net : (n : List ℕ) (p : VPlace) → net_faults scope n p ≡ [] → (bits_of kind_bits scope n ≡ Some (width_among (nets v) n)) × IsNarrow (width_among (nets v) n)
  a_net n p e =
      let r = named_bits kind_bits p n (kind_of scope n) e in
      let m = bits_net before v mirrors fine n r.0 r.1 in
      let wide = fine_width v fine n r.0 m in
      (r.1 ∙ ap (λ (x : ℕ). Some x) (sym wide), subst IsNarrow (sym wide) (fine_narrow v fine n r.0 m))

  part_bits : (n : List ℕ) (hi lo : ℕ) → bits_of kind_bits scope n ≡ Some (width_among (nets v) n) → lo ≤ hi → atom_bits scope (part_select n hi lo) ≡ Some (hi + 1 - lo)
  part_bits n hi lo e order =
      ap (λ (b : Bool). if b then None else option_map (λ (w : ℕ). hi + 1 - lo) (bits_of kind_bits scope n)) (le-ltb hi lo order)
      ∙ ap (option_map (λ (w : ℕ). hi + 1 - lo)) e

  mutual
    pub faultless_operand : (needed : Option ℕ) (a : AtomTree) (ps : List VPlace) → atom_faults scope needed a ps ≡ [] → IsFound scope (nets v) needed a
    faultless_operand needed (net n) ps e =
        let r = a_net n (place_at 0 ps) (second_empty _ _ e) in
        record { sound = r.1.0; bits = r.0; met = own_met needed (bits_of kind_bits scope n) true (place_at 0 ps) (width_among (nets v) n) r.0 (first_empty _ (net_faults scope n (place_at 0 ps)) e) }
    faultless_operand needed (constant width value) ps e =
        let fit = constant_is width value (own_fit needed (Some width) _ (place_at 0 ps) e) in
        record { sound = (fit.0.0, fit.0.1, fit.1); bits = refl; met = own_met needed (Some width) _ (place_at 0 ps) width refl e }
    faultless_operand needed (bit_select n i) ps e =
        let r = a_net n (place_at 0 ps) (second_empty _ _ e) in
        let own = first_empty _ _ e in
        let bits : atom_bits scope (bit_select n i) ≡ Some 1 = ap (option_map (λ (w : ℕ). 1)) r.0 in
        let fit = within_is (width_among (nets v) n) i i (ap (λ (o : Option ℕ). is_within o i i) (sym r.0) ∙ own_fit needed _ _ _ own) in
        record { sound = (fit.0, fit.2); bits = bits; met = own_met needed _ _ _ 1 bits own }
    faultless_operand needed (part_select n hi lo) ps e =
        let r = a_net n (place_at 0 ps) (second_empty _ _ e) in
        let own = first_empty _ _ e in
        let fit = within_is (width_among (nets v) n) hi lo (ap (λ (o : Option ℕ). is_within o hi lo) (sym r.0) ∙ own_fit needed _ _ _ own) in
        let bits = part_bits n hi lo r.0 fit.1 in
        record { sound = (fit.0, fit.1, fit.2); bits = bits; met = own_met needed _ _ _ (hi + 1 - lo) bits own }
    faultless_operand needed (concat a more) ps e =
        let front = first_empty _ _ e in
        let one = faultless_operand None a (drop 1 ps) (second_empty _ _ front) in
        let two = faultless_operands more (behind (atom_tokens a) (drop 1 ps)) (second_empty _ _ e) in
        let own = first_empty _ _ front in
        let all = atom_width (nets v) a + joined_width (nets v) more in
        let bits : atom_bits scope (concat a more) ≡ Some all = sum_is (atom_bits scope a) (joined_bits scope more) _ _ one.bits two.bits in
        let fit = narrow_is all (ap are_narrow (sym bits) ∙ own_fit needed _ _ _ own) in
        record { sound = (one.sound, two.sound, fit.1); bits = bits; met = own_met needed _ _ _ all bits own }
    faultless_operand needed (repeat count a) ps e =
        let one = faultless_operand None a (drop 3 ps) (second_empty _ _ e) in
        let own = first_empty _ _ e in
        let all = count * atom_width (nets v) a in
        let bits : atom_bits scope (repeat count a) ≡ Some all = ap (option_map (λ (w : ℕ). count * w)) one.bits in
        let fit = narrow_is all (ap are_narrow (sym bits) ∙ own_fit needed _ _ _ own) in
        record { sound = (one.sound, some_copies count (atom_width (nets v) a) fit.0, fit.1); bits = bits; met = own_met needed _ _ _ all bits own }

    faultless_operands : (more : AtomTrees) (ps : List VPlace) → joined_faults scope more ps ≡ [] → AreFound scope (nets v) more
    faultless_operands no_atoms ps e = record { sound = tt; bits = refl }
    faultless_operands (atom_before a more) ps e =
        let one = faultless_operand None a ps (first_empty _ _ e) in
        let two = faultless_operands more (behind (atom_tokens a) ps) (second_empty _ _ e) in
        record { sound = (one.sound, two.sound); bits = sum_is (atom_bits scope a) (joined_bits scope more) _ _ one.bits two.bits }
