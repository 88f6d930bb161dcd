-- An operand without a fault has at most 128 bits.
use Rattle.std.proofs.Common.{◌≡◌, ℕ, ◌+◌, ◌-◌, ◌≤◌, List, [], ◌∷◌, ◌++◌, Bool, true, false, refl, arith}
use Rattle.std.specs.Prelude.{Option, Some, None, nat_lt, ◌&&◌, option_map, if◌then◌else◌}
use Rattle.std.proofs.lemmas.Bool.{ltb-true}
use Rattle.ver_ast.specs.declared.place.VPlace.{VPlace}
use Rattle.ver_ast.specs.Atoms.{AtomTree, net, constant, bit_select, part_select, concat, repeat}
use Rattle.ver_fault.specs.Faults.{VFault}
use Rattle.ver_check.specs.declared.kind.Kind.{Kind}
use Rattle.ver_check.specs.declared.kind.Kind.TheVariants.{ClockInput, ClockOutput, Input, Output, Wire, Register, Array}
use Rattle.ver_check.specs.Scopes.{Declaration, Scope, declaration_of, kind_bits, found_by, bits_of}
use Rattle.ver_places.specs.Places.{place_at}
use Rattle.ver_check.specs.OperandFaults.{are_narrow, is_fit, is_narrow, is_within, atom_bits, atom_faults, whole_faults, width_faults, unfit_faults}
use Rattle.ver_check.specs.working.Judged.{IsNeeded}
use Rattle.ver_check.specs.working.Known.{IsNarrowKind}

-- of lists that are empty beside each other both are
pub first_empty : (fs gs : List VFault) → fs ++ gs ≡ [] → fs ≡ []
first_empty [] gs e = refl
first_empty (f ∷ fs) gs e = absurd (cc)

pub second_empty : (fs gs : List VFault) → fs ++ gs ≡ [] → gs ≡ []
second_empty [] gs e = e
second_empty (f ∷ fs) gs e = absurd (cc)

fit_is : (b : Bool) (p : VPlace) → unfit_faults b p ≡ [] → b ≡ true
fit_is true p e = refl
fit_is false p e = absurd (cc)

whole_fit : (scope : Scope) (needed : Option ℕ) (a : AtomTree) (p : VPlace) → whole_faults scope needed a p ≡ [] → is_fit scope a ≡ true
whole_fit scope needed a p e = fit_is (is_fit scope a) p (second_empty (width_faults needed (atom_bits scope a) p) (unfit_faults (is_fit scope a) p) e)

both_true : (a b : Bool) → (a && b) ≡ true → b ≡ true
both_true true b e = e
both_true false b e = absurd (cc)

narrow_most : (w : ℕ) → is_narrow w ≡ true → w ≤ 128
narrow_most w e = let less = ltb-true w 129 (both_true (nat_lt 0 w) (nat_lt w 129) e) in omega arith

most_of : (o : Option ℕ) → are_narrow o ≡ true → IsNeeded o
most_of None e = tt
most_of (Some w) e = narrow_most w e

module _ (scope : Scope) (narrow : (n : List ℕ) (d : Declaration) → declaration_of scope n ≡ Some d → IsNarrowKind d.kind) where
  kind_most : (k : Kind) → IsNarrowKind k → IsNeeded (kind_bits k)
  kind_most ClockInput h = tt
  kind_most ClockOutput h = tt
  kind_most (Input w) h = h
  kind_most (Output w) h = h
  kind_most (Wire w) h = h
  kind_most (Register w) h = h
  kind_most (Array w) h = tt

  pub net_most : (n : List ℕ) → IsNeeded (bits_of kind_bits scope n)
  net_most n = by (declaration_of scope n) refl
    where
      by : (o : Option Declaration) → declaration_of scope n ≡ o → IsNeeded (found_by kind_bits (option_map (λ d. d.kind) o))
      by None e = tt
      by (Some d) e = kind_most d.kind (narrow n d e)

  one_most : (o : Option ℕ) → IsNeeded (option_map (λ (w : ℕ). 1) o)
  one_most None = tt
  one_most (Some w) = omega arith

  part_most : (o : Option ℕ) (hi lo : ℕ) → IsNeeded o → is_within o hi lo ≡ true
      → IsNeeded (if nat_lt hi lo then None else option_map (λ (w : ℕ). hi + 1 - lo) o)
  part_most None hi lo h e = by (nat_lt hi lo)
    where
      by : (b : Bool) → IsNeeded (if b then None else None)
      by true = tt
      by false = tt
  part_most (Some w) hi lo h e = by (nat_lt hi lo)
    where
      high : nat_lt hi w ≡ true
      high = both_true (nat_lt lo (hi + 1)) (nat_lt hi w) (both_true (nat_lt 1 w) (nat_lt lo (hi + 1) && nat_lt hi w) e)

      by : (b : Bool) → IsNeeded (if b then None else Some (hi + 1 - lo))
      by true = tt
      by false = let less = ltb-true hi w high in omega arith

  pub faultless_most : (needed : Option ℕ) (a : AtomTree) (ps : List VPlace) → atom_faults scope needed a ps ≡ [] → IsNeeded (atom_bits scope a)
  faultless_most needed (net n) ps e = net_most n
  faultless_most needed (constant width value) ps e = let fit = whole_fit scope needed (constant width value) (place_at 0 ps) e in narrow_most width (first_true (is_narrow width) _ fit)
    where
      first_true : (a b : Bool) → (a && b) ≡ true → a ≡ true
      first_true true b e = refl
      first_true false b e = absurd (cc)
  faultless_most needed (bit_select n i) ps e = one_most (bits_of kind_bits scope n)
  faultless_most needed (part_select n hi lo) ps e =
      part_most (bits_of kind_bits scope n) hi lo (net_most n) (whole_fit scope needed (part_select n hi lo) (place_at 0 ps) (first_empty _ _ e))
  faultless_most needed (concat a more) ps e =
      most_of (atom_bits scope (concat a more)) (whole_fit scope needed (concat a more) (place_at 0 ps) (first_empty _ _ (first_empty _ _ e)))
  faultless_most needed (repeat count a) ps e =
      most_of (atom_bits scope (repeat count a)) (whole_fit scope needed (repeat count a) (place_at 0 ps) (first_empty _ _ e))
