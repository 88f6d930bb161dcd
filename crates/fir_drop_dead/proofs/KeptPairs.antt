-- Items that are gone through beside their marks: the marked ones are those that are kept.
use Rattle.std.proofs.Common.{◌≡◌, List, [], ◌∷◌, ◌++◌, map, Bool, true, false, refl, ap, ap₂, ◌∙◌, sym}
use Rattle.std.proofs.lemmas.List.{map_push}
use Rattle.std.specs.List.{zip}
use Rattle.fir_drop_dead.specs.working.Numbers.{kept_of}
use denote.Ref.{Bor}

abbrev pub given : {A : Type 0} → A × Bor Bool → A × Bool
given p = (p.0, p.1.now)

abbrev pub kept_pairs : {A : Type 0} → List (A × Bool) → List A
kept_pairs [] = []
kept_pairs ((x, true) ∷ ps) = x ∷ kept_pairs ps
kept_pairs ((x, false) ∷ ps) = kept_pairs ps

pub pairs_zipped : {A : Type 0} → (ms : List Bool) (xs : List A) → kept_pairs (zip xs ms) ≡ kept_of ms xs
pairs_zipped [] [] = refl
pairs_zipped [] (x ∷ xs) = refl
pairs_zipped (m ∷ ms) [] = refl
pairs_zipped (true ∷ ms) (x ∷ xs) = ap (λ ys. x ∷ ys) (pairs_zipped ms xs)
pairs_zipped (false ∷ ms) (x ∷ xs) = pairs_zipped ms xs

-- one more pair
pub pairs_kept : {A : Type 0} → (ps : List (A × Bool)) (x : A) → kept_pairs (ps ++ (x, true) ∷ []) ≡ kept_pairs ps ++ x ∷ []
pairs_kept [] x = refl
pairs_kept ((y, true) ∷ ps) x = ap (λ ys. y ∷ ys) (pairs_kept ps x)
pairs_kept ((y, false) ∷ ps) x = pairs_kept ps x

pub pairs_left : {A : Type 0} → (ps : List (A × Bool)) (x : A) → kept_pairs (ps ++ (x, false) ∷ []) ≡ kept_pairs ps
pairs_left [] x = refl
pairs_left ((y, true) ∷ ps) x = ap (λ ys. y ∷ ys) (pairs_left ps x)
pairs_left ((y, false) ∷ ps) x = pairs_left ps x

module _ {A : Type 0} (f : A → A) (ys : List (A × Bor Bool)) (x : A) (b : Bor Bool) where
  pub one_kept : (done more : List A) → b.now ≡ true → done ≡ map f (kept_pairs (map given ys)) → (y : A) → y ≡ f x → more ≡ done ++ y ∷ []
      → more ≡ map f (kept_pairs (map given (ys ++ (x, b) ∷ [])))
  one_kept done more h so y is new =
      let ps = map given ys in
      let all : kept_pairs (map given (ys ++ (x, b) ∷ [])) ≡ kept_pairs ps ++ x ∷ [] =
      ap kept_pairs (map_push given ys (x, b)) ∙ ap (λ (c : Bool). kept_pairs (ps ++ (x, c) ∷ [])) h ∙ pairs_kept ps x in
      new ∙ ap₂ (λ xs z. xs ++ z ∷ []) so is ∙ sym (ap (map f) all ∙ map_push f (kept_pairs ps) x)

  pub one_left : (done : List A) → b.now ≡ false → done ≡ map f (kept_pairs (map given ys)) → done ≡ map f (kept_pairs (map given (ys ++ (x, b) ∷ [])))
  one_left done h so =
      let ps = map given ys in
      let all : kept_pairs (map given (ys ++ (x, b) ∷ [])) ≡ kept_pairs ps =
      ap kept_pairs (map_push given ys (x, b)) ∙ ap (λ (c : Bool). kept_pairs (ps ++ (x, c) ∷ [])) h ∙ pairs_left ps x in
      so ∙ sym (ap (map f) all)
