-- A name is driven before where it stands among those of the drivers.
use Rattle.std.proofs.Common.{◌≡◌, ℕ, List, [], ◌∷◌, Bool, true, false, if◌then◌else◌, refl, sym, ap, inl, inr, ⊎_elim, subst}
use Rattle.std.specs.Prelude.{Some, None}
use Rattle.std.specs.Str.{bytes_eq}
use Rattle.std.proofs.lemmas.Option.{none-some}
use Rattle.fir_base.specs.Lists.{In}
use Rattle.fir_base.proofs.SameNames.{name_apart, name_other}
use Rattle.ver_ast.specs.declared.place.VPlace.{VPlace}
use Rattle.ver_check.specs.ItemFaults.{Driver, driven_faults, driver_of}
use Rattle.ver_check.proofs.Mirrors.{driver_names}
use Rattle.ver_check.proofs.Undriven.{free_of}

driver_free : (ds : List Driver) (n : List ℕ) → driver_of ds n ≡ None → In (driver_names ds) n → ⊥
driver_free [] n e m = m
driver_free (d ∷ ds) n e m = by (bytes_eq n d.name) refl e (λ h i. driver_free ds n h i)
  where
    by : (b : Bool) → bytes_eq n d.name ≡ b → (if b then Some d else driver_of ds n) ≡ None
        → (driver_of ds n ≡ None → In (driver_names ds) n → ⊥) → ⊥
    by true s h rest = none-some d (sym h)
    by false s h rest = ⊎_elim (λ (i : d.name ≡ n). name_apart n d.name s (sym i)) (λ (i : In (driver_names ds) n). rest h i) m

free_driver : (ds : List Driver) (n : List ℕ) → (In (driver_names ds) n → ⊥) → driver_of ds n ≡ None
free_driver [] n h = refl
free_driver (d ∷ ds) n h = rw (name_other n d.name (λ s. h (inl (sym s)))) (free_driver ds n (λ m. h (inr m)))

module _ (ds : List Driver) (ns : List (List ℕ)) (same : driver_names ds ≡ ns) (n : List ℕ) (p : VPlace) where
  pub not_driven : driven_faults p n (driver_of ds n) ≡ [] → In ns n → ⊥
  not_driven e m = driver_free ds n (free_of p n (driver_of ds n) e) (subst (λ (xs : List (List ℕ)). In xs n) (sym same) m)

  pub none_driven : (In ns n → ⊥) → driven_faults p n (driver_of ds n) ≡ []
  none_driven h = ap (driven_faults p n) (free_driver ds n (λ m. h (subst (λ (xs : List (List ℕ)). In xs n) same m)))

-- of one name
pub only_target : (ns : List (List ℕ)) (t n : List ℕ) → (In ns t → ⊥) → In (t ∷ []) n → In ns n → ⊥
only_target ns t n h m k = ⊎_elim (λ (e : t ≡ n). h (subst (In ns) (sym e) k)) (λ (o : ⊥). o) m
