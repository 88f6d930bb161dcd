-- What is looked up by a path is found where that path stands, and by a number alike.
use Rattle.std.proofs.Common.{◌≡◌, ℕ, ◌+◌, List, [], ◌∷◌, Bool, true, false, nat_eq, if◌then◌else◌, map, flat_map, filter, Option, Some, refl, sym, ap, ap₂, ◌∙◌, inl, inr, ⊎_elim}
use Rattle.std.proofs.lemmas.Bool.{cases_eq, eq-eqb, ne_eqb, false_from_ne_true}
use Rattle.std.proofs.lemmas.List.Folds.{flat_map-map}
use Rattle.fir_base.specs.Lists.{In}
use Rattle.fir_meaning.specs.LeafPaths.{LeafPath}
use Rattle.fir_meaning.specs.working.LeafStates.{look, place_in}
use Rattle.fir_meaning.specs.SamePaths.{same_path}
use Rattle.fir_leaf.proofs.FlatStores.{same_path_is, same_path_refl}
use Rattle.fir_meaning.specs.SourceValues.{look_on, place_on}

-- what the first element with a path gives
module _ {A B : Type 0} (path_of : A → LeafPath) (give : A → B) (none : B) where
  abbrev pub found : List A → LeafPath → B
  found [] x = none
  found (a ∷ others) x = if same_path (path_of a) x then give a else found others x

  -- where all with the path of an element give the same
  pub found_at : (xs : List A) (a : A) → In xs a → ((b : A) → In xs b → path_of b ≡ path_of a → give b ≡ give a)
      → found xs (path_of a) ≡ give a
  found_at [] a among same = absurd among
  found_at (b ∷ xs) a among same = go (same_path (path_of b) (path_of a)) refl among (λ m. found_at xs a m (λ z n. same z (inr n)))
    where
      go : (test : Bool) → same_path (path_of b) (path_of a) ≡ test → In (b ∷ xs) a → (In xs a → found xs (path_of a) ≡ give a)
          → (if test then give b else found xs (path_of a)) ≡ give a
      go true e m further = same b (inl refl) (same_path_is (path_of b) (path_of a) e)
      go false e (inl is) further =
          let other : same_path (path_of b) (path_of a) ≡ true =
          ap (λ z. same_path (path_of b) (path_of z)) (sym is) ∙ same_path_refl (path_of b) in
          cc
      go false e (inr m) further = further m

  pub found_none : (xs : List A) (x : LeafPath) → (In (map path_of xs) x → ⊥) → found xs x ≡ none
  found_none [] x absent = refl
  found_none (a ∷ xs) x absent =
      let other : same_path (path_of a) x ≡ false =
      false_from_ne_true (same_path (path_of a) x) (λ e. absent (inl (same_path_is (path_of a) x e))) in
      rw other (found_none xs x (λ m. absent (inr m)))

-- numbers are the same exactly where their paths are
module _ (path : ℕ → LeafPath) where
  pub same_test : (y x : ℕ) → (path y ≡ path x → y ≡ x) → nat_eq y x ≡ same_path (path y) (path x)
  same_test y x once =
      ⊎_elim (λ (e : y ≡ x). eq-eqb y x e ∙ sym (ap (λ z. same_path (path y) (path z)) (sym e) ∙ same_path_refl (path y)))
      (λ (ne : y ≡ x → ⊥).
      ne_eqb y x ne ∙ sym (false_from_ne_true (same_path (path y) (path x)) (λ e. ne (once (same_path_is (path y) (path x) e)))))
      (cases_eq y x)

  module _ (x : ℕ) where
    pub look_same : (ys vs : List ℕ) → ((y : ℕ) → In ys y → path y ≡ path x → y ≡ x)
        → look ys vs x ≡ look_on (map path ys) vs (path x)
    look_same [] vs once = refl
    look_same (y ∷ ys) [] once = refl
    look_same (y ∷ ys) (v ∷ vs) once =
        ap₂ (λ (test : Bool) (rest : ℕ). if test then v else rest) (same_test y x (once y (inl refl))) (look_same ys vs (λ z m. once z (inr m)))

    pub place_same : (ys : List ℕ) (k : ℕ) → ((y : ℕ) → In ys y → path y ≡ path x → y ≡ x)
        → place_in ys k x ≡ place_on (map path ys) k (path x)
    place_same [] k once = refl
    place_same (y ∷ ys) k once =
        ap₂ (λ (test : Bool) (rest : Option ℕ). if test then Some k else rest) (same_test y x (once y (inl refl)))
        (place_same ys (k + 1) (λ z m. once z (inr m)))

-- numbers of which the elements are these
module _ {A : Type 0} (get : ℕ → Option A) where
  pub mapped_same : {B : Type 0} → (f : ℕ → B) (g : A → B) (xs : List ℕ) (ps : List A) → map get xs ≡ map Some ps
      → ((x : ℕ) (p : A) → get x ≡ Some p → f x ≡ g p) → map f xs ≡ map g ps
  mapped_same f g [] [] e same = refl
  mapped_same f g [] (p ∷ ps) e same = cc
  mapped_same f g (x ∷ xs) [] e same = cc
  mapped_same f g (x ∷ xs) (p ∷ ps) e same =
      let here : get x ≡ Some p = cc in
      let rest : map get xs ≡ map Some ps = cc in
      ap₂ (λ b bs. b ∷ bs) (same x p here) (mapped_same f g xs ps rest same)

  pub flat_mapped_same : {B : Type 0} → (f : ℕ → List B) (g : A → List B) (xs : List ℕ) (ps : List A) → map get xs ≡ map Some ps
      → ((x : ℕ) (p : A) → get x ≡ Some p → f x ≡ g p) → flat_map f xs ≡ flat_map g ps
  flat_mapped_same f g xs ps e same =
      sym (flat_map-map (λ bs. bs) f xs) ∙ ap (flat_map (λ bs. bs)) (mapped_same f g xs ps e same) ∙ flat_map-map (λ bs. bs) g ps

  pub get_among : (xs : List ℕ) (ps : List A) → map get xs ≡ map Some ps → (x : ℕ) → In xs x → (p : A) × In ps p × (get x ≡ Some p)
  get_among [] ps e x among = absurd among
  get_among (y ∷ xs) [] e x among = cc
  get_among (y ∷ xs) (p ∷ ps) e x (inl is) = let here : get y ≡ Some p = cc in (p, inl refl, ap get (sym is) ∙ here)
  get_among (y ∷ xs) (p ∷ ps) e x (inr among) =
      let rest : map get xs ≡ map Some ps = cc in
      let r = get_among xs ps rest x among in (r.0, inr r.1, r.2)

pub in_filter : {A : Type 0} → (test : A → Bool) (xs : List A) (a : A) → In (filter test xs) a → In xs a
in_filter test [] a among = among
in_filter test (x ∷ xs) a among = go (test x) among (in_filter test xs a)
  where
    go : (is_so : Bool) → In (if is_so then x ∷ filter test xs else filter test xs) a → (In (filter test xs) a → In xs a) → In (x ∷ xs) a
    go true (inl e) further = inl e
    go true (inr m) further = inr (further m)
    go false m further = inr (further m)
