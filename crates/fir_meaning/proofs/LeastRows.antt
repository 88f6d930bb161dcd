-- Worked circuits: their least widths.
use Rattle.std.proofs.Common.{◌≡◌, ℕ, ◌+◌, ◌≤◌, [], ◌∷◌, true, ◌&&◌, nat_le, nat_eq, min, max, if◌then◌else◌, refl, inl, inr, ◌⊎◌, arith, subst}
use Rattle.std.proofs.lemmas.Bool.Decides.{nat_tests}
use Rattle.std.proofs.lemmas.Bool.{cases_eq}
use Rattle.fir_base.specs.Lists.{In}
use Rattle.fir_meaning.specs.WidthExpressions.{Widths, known, Rule, MeetsRules, IsLeastOf, width_under}
use Rattle.fir_meaning.specs.WidthRules.{rules, AreWidths}
use Rattle.fir_meaning.proofs.WidthRows.{growing, shared, empty}

-- without rules every unknown has width 0
pub no_rules : IsLeastOf [] (λ k. 0)
no_rules = record { meets = record { each = λ r f. absurd f }; least = λ v m k. omega arith }

-- one unknown that is at least as wide as a written width
abbrev pub only : ℕ → ℕ → Widths
only n width k = if nat_eq k n then min width 129 else 0

pub one_rule : (n width : ℕ) → IsLeastOf (record { number = n; at_least = known width } ∷ []) (only n width)
one_rule n width = record { meets = record { each = met }; least = least }
  where
    at_it : (k x : ℕ) → x ≤ (if nat_eq k k then x else 0)
    at_it k x = grind (arith, nat_tests)

    below : (k m x y : ℕ) → (k ≡ m → x ≤ y) → (if nat_eq k m then x else 0) ≤ y
    below k m x y h = grind (arith, nat_tests)

    met : (r : Rule) → In (record { number = n; at_least = known width } ∷ []) r → width_under r.at_least (only n width) ≤ only n width r.number
    met r (inl e) = subst (λ (x : Rule). width_under x.at_least (only n width) ≤ only n width x.number) e (at_it n (min width 129))
    met r (inr f) = absurd f

    least : (v : Widths) → MeetsRules (record { number = n; at_least = known width } ∷ []) v → (k : ℕ) → only n width k ≤ v k
    least v m k = below k n (min width 129) (v k) (λ e. rw e (m.each _ (inl refl)))

pub empty_widths : AreWidths empty (only 2 0)
empty_widths = one_rule 2 0

-- both ports of the shared module, and what reads them, have five bits
abbrev five : Widths
five k = if nat_eq k 0 then 5 else if nat_eq k 1 then 5 else if nat_eq k 4 then 5 else if nat_eq k 5 then 5 else 0

five_below : (v : Widths) → 5 ≤ v 0 → 5 ≤ v 1 → 5 ≤ v 4 → 5 ≤ v 5 → (k : ℕ) → five k ≤ v k
five_below v a b c d k = by (cases_eq k 0) (cases_eq k 1) (cases_eq k 4) (cases_eq k 5)
  where
    none : (k ≡ 0 → ⊥) → (k ≡ 1 → ⊥) → (k ≡ 4 → ⊥) → (k ≡ 5 → ⊥) → five k ≤ v k
    none p q r s = grind (arith, nat_tests)

    by : (k ≡ 0) ⊎ (k ≡ 0 → ⊥) → (k ≡ 1) ⊎ (k ≡ 1 → ⊥) → (k ≡ 4) ⊎ (k ≡ 4 → ⊥) → (k ≡ 5) ⊎ (k ≡ 5 → ⊥) → five k ≤ v k
    by (inl e) q r s = rw e a
    by (inr n) (inl e) r s = rw e b
    by (inr n) (inr m) (inl e) s = rw e c
    by (inr n) (inr m) (inr l) (inl e) = rw e d
    by (inr n) (inr m) (inr l) (inr o) = none n m l o

pub shared_widths : AreWidths shared five
shared_widths = record { meets = record { each = met }; least = λ v m. least v m }
  where
    met : (r : Rule) → In (rules shared) r → width_under r.at_least five ≤ five r.number
    met r (inl e) = subst (λ (x : Rule). width_under x.at_least five ≤ five x.number) e (omega arith)
    met r (inr (inl e)) = subst (λ (x : Rule). width_under x.at_least five ≤ five x.number) e (omega arith)
    met r (inr (inr (inl e))) = subst (λ (x : Rule). width_under x.at_least five ≤ five x.number) e (omega arith)
    met r (inr (inr (inr (inl e)))) = subst (λ (x : Rule). width_under x.at_least five ≤ five x.number) e (omega arith)
    met r (inr (inr (inr (inr (inl e))))) = subst (λ (x : Rule). width_under x.at_least five ≤ five x.number) e (omega arith)
    met r (inr (inr (inr (inr (inr f))))) = absurd f

    least : (v : Widths) → MeetsRules (rules shared) v → (k : ℕ) → five k ≤ v k
    least v m =
        let x : 5 ≤ v 0 = m.each _ (inr (inr (inl refl))) in
        let y : min (v 0) 129 ≤ v 1 = m.each _ (inl refl) in
        let o : min (v 1) 129 ≤ v 4 = m.each _ (inr (inr (inr (inl refl)))) in
        let p : min (v 1) 129 ≤ v 5 = m.each _ (inr (inr (inr (inr (inl refl))))) in
        five_below v x (omega arith) (omega arith) (omega arith)

-- the growing register is over
abbrev pub grown : Widths
grown k = if nat_eq k 2 then 129 else 0

over_at_least : (x : ℕ) → (if nat_le (min x 129) 128 && true && nat_le (max (min x 129) 1 + 1) 128 then max (min x 129) 1 + 1 else 129) ≤ x → 129 ≤ x
over_at_least x h = grind (arith, nat_tests)

pub growing_widths : AreWidths growing grown
growing_widths = record { meets = record { each = met }; least = least }
  where
    met : (r : Rule) → In (rules growing) r → width_under r.at_least grown ≤ grown r.number
    met r (inl e) = subst (λ (x : Rule). width_under x.at_least grown ≤ grown x.number) e (omega arith)
    met r (inr f) = absurd f

    least : (v : Widths) → MeetsRules (rules growing) v → (k : ℕ) → grown k ≤ v k
    least v m k = by (cases_eq k 2)
      where
        two : 129 ≤ v 2
        two = over_at_least (v 2) (m.each _ (inl refl))

        other : (k ≡ 2 → ⊥) → grown k ≤ v k
        other n = grind (arith, nat_tests)

        by : (k ≡ 2) ⊎ (k ≡ 2 → ⊥) → grown k ≤ v k
        by (inl e) = rw e two
        by (inr n) = other n
