-- Of some places and others the first in the text is the first of the two firsts.
use Rattle.std.proofs.Common.{◌≡◌, List, [], ◌∷◌, ◌++◌, true, false, refl, arith, inl, inr, ⊎_elim}
use Rattle.std.proofs.lemmas.Bool.Decides.{nat_tests}
use Rattle.fir_base.specs.Lists.{In}
use Rattle.fir_base.proofs.Members.{in_either, in_left, in_right}
use Rattle.fir_ast.specs.declared.place.Place.{Place}
use Rattle.fir_meaning.specs.Lack.{is_before}
use Rattle.fir_leaf.specs.working.ClockFaults.{IsFirstPlace}

-- what is not before the second is not before the first, which is before that
not_before : (p q r : Place) → is_before q p ≡ true → is_before r p ≡ false → is_before r q ≡ false
not_before p q r e f = grind (arith, nat_tests)

-- nor is it before one that the second is not before
neither_before : (p q r : Place) → is_before q p ≡ false → is_before r q ≡ false → is_before r p ≡ false
neither_before p q r e f = grind (arith, nat_tests)

pub second_first : (p q : Place) (ps qs : List Place) → IsFirstPlace p ps → IsFirstPlace q qs → is_before q p ≡ true → IsFirstPlace q (ps ++ qs)
second_first p q ps qs h k e = record {
  among = in_right ps qs q k.among;
  none_before = λ r m.
      ⊎_elim
      (λ (n : In ps r). not_before p q r e (h.none_before r n))
      (λ (n : In qs r). k.none_before r n)
      (in_either ps qs r m);
}

pub first_first : (p q : Place) (ps qs : List Place) → IsFirstPlace p ps → IsFirstPlace q qs → is_before q p ≡ false → IsFirstPlace p (ps ++ qs)
first_first p q ps qs h k e = record {
  among = in_left ps qs p h.among;
  none_before = λ r m.
      ⊎_elim
      (λ (n : In ps r). h.none_before r n)
      (λ (n : In qs r). neither_before p q r e (k.none_before r n))
      (in_either ps qs r m);
}

irreflexive : (p : Place) → is_before p p ≡ false
irreflexive p = grind (arith, nat_tests)

pub one_first : (p : Place) → IsFirstPlace p (p ∷ [])
one_first p = record { among = inl refl; none_before = λ r m. alone r m }
  where
    alone : (r : Place) → In (p ∷ []) r → is_before r p ≡ false
    alone r (inl e) = rw (← e) (irreflexive p)
    alone r (inr n) = absurd n
