-- Two lists with the same keys, of which no two are alike: where each element of the first has a twin in the second, with its key and its
-- value, both have the same values.
use Rattle.std.proofs.Common.{◌≡◌, List, [], ◌∷◌, map, refl, sym, ap, ◌∙◌, subst, inl, inr, ⊎_elim}
use Rattle.fir_base.specs.Lists.{In, Distinct}
use Rattle.fir_base.proofs.Members.{in_map}

module _ {A B K V : Type 0} (key : A → K) (twin_key : B → K) (value : A → V) (twin_value : B → V) where
  pub record HasTwin (ys : List B) (x : A) : Type 0 where
    pub twin : B
    pub among : In ys twin
    pub key_is : key x ≡ twin_key twin
    pub value_is : value x ≡ twin_value twin

  pub same_values : (xs : List A) (ys : List B) → map key xs ≡ map twin_key ys → Distinct (map key xs)
      → ((x : A) → In xs x → HasTwin ys x) → map value xs ≡ map twin_value ys
  same_values [] [] e d twins = refl
  same_values [] (y ∷ ys) e d twins = absurd (cc)
  same_values (x ∷ xs) [] e d twins = absurd (cc)
  same_values (x ∷ xs) (y ∷ ys) e d twins =
      ap (λ v. v ∷ map value xs) (first_value (twins x (inl refl)))
      ∙ ap (λ vs. twin_value y ∷ vs) (same_values xs ys rest d.1 (λ z m. later z m (twins z (inr m))))
    where
      first : key x ≡ twin_key y
      first = cc

      rest : map key xs ≡ map twin_key ys
      rest = cc

      first_value : HasTwin (y ∷ ys) x → value x ≡ twin_value y
      first_value t =
          ⊎_elim
          (λ (same : y ≡ t.twin). t.value_is ∙ ap twin_value (sym same))
          (λ (m : In ys t.twin).
          absurd
          (d.0 (subst (λ ks. In ks (key x)) (sym rest) (subst (In (map twin_key ys)) (sym t.key_is) (in_map twin_key ys t.twin m)))))
          t.among

      later : (z : A) → In xs z → HasTwin (y ∷ ys) z → HasTwin ys z
      later z m t =
          ⊎_elim
          (λ (same : y ≡ t.twin).
          absurd (d.0 (subst (In (map key xs)) (t.key_is ∙ ap twin_key (sym same) ∙ sym first) (in_map key xs z m))))
          (λ (n : In ys t.twin). record { twin = t.twin; among = n; key_is = t.key_is; value_is = t.value_is })
          t.among
