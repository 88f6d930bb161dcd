-- What depends on a leaf of a circuit is a leaf, and what has the path of a leaf is that leaf, where each has a path of its own.
use Rattle.std.proofs.Common.{◌≡◌, ℕ, ◌<◌, [], length, nat_lt, Bool, true, false, refl, sym, ap, ◌∙◌, subst}
use Rattle.std.proofs.lemmas.Bool.{ltb-true, ltb-false}
use Rattle.std.proofs.lemmas.List.{get_or_past}
use Rattle.fir_meaning.specs.working.CircuitDependence.{CircuitDepends}
use Rattle.fir_meaning.specs.working.Dependence.{RoleDepends}
use Rattle.fir_meaning.specs.working.LeafCircuits.{LeafCircuit}
use Rattle.fir_meaning.specs.working.LeafModules.{LeafDeclared, leaf_at, no_leaf}
use Rattle.fir_leaf.specs.working.SoundDesigns.{circuit_path}

-- whether a leaf is a sink decides on what it depends
pub either_way : {P : Type 0} → (b : Bool) → (b ≡ true → P) → (b ≡ false → P) → P
either_way true f g = f refl
either_way false f g = g refl

module _ (c : LeafCircuit) where
  none_past : (x : ℕ) → nat_lt x (length c.leaves) ≡ false → leaf_at c.leaves x ≡ no_leaf
  none_past x e = get_or_past c.leaves x no_leaf (ltb-false x (length c.leaves) e)

  pub depends_within : (x y : ℕ) → CircuitDepends c x y → x < length c.leaves
  depends_within x y h =
      either_way (nat_lt x (length c.leaves)) (ltb-true x (length c.leaves))
      (λ e. absurd (subst (λ (l : LeafDeclared). RoleDepends c.body l.depth x l.role y) (none_past x e) h))

  pub one_number : ((x y : ℕ) → x < length c.leaves → y < length c.leaves → circuit_path c x ≡ circuit_path c y → x ≡ y)
      → ((x : ℕ) → x < length c.leaves → circuit_path c x ≡ [] → ⊥) → (z y : ℕ) → y < length c.leaves → circuit_path c z ≡ circuit_path c y → z ≡ y
  one_number once named z y lt e =
      either_way (nat_lt z (length c.leaves)) (λ h. once z y (ltb-true z (length c.leaves) h) lt e)
      (λ h. absurd (named y lt (sym e ∙ ap (λ (l : LeafDeclared). l.path) (none_past z h))))
