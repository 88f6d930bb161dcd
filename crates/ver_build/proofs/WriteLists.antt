-- What is built along the writes of an array, with one more.
use Rattle.std.proofs.Common.{◌≡◌, ℕ, zero, suc, ◌+◌, ◌<◌, ⊎_elim, List, [], ◌∷◌, ◌++◌, length, get_or, take, map, flat_map, refl, sym, ap, ◌∙◌, append_assoc, append-nil, arith, Option, Some, None, unwrap_or}
use Rattle.std.specs.Prelude.{slice_get}
use Rattle.std.proofs.lemmas.List.{take_more, length-take, map-append}
use Rattle.fir_base.specs.Lists.{In}
use Rattle.fir_base.proofs.Members.{in_either, in_left, in_right}
use Rattle.fir_net.specs.declared.array.ArrayWrite.{ArrayWrite}
use Rattle.ver_build.specs.declared.places.Guard.{Guard}
use Rattle.ver_build.specs.working.Places.{along_writes, guard_names}

module _ {B : Type 0} (f : ℕ → ArrayWrite → List B) where
  writes_push : (k : ℕ) (xs : List ArrayWrite) (x : ArrayWrite) → along_writes f k (xs ++ x ∷ []) ≡ along_writes f k xs ++ f (k + length xs) x
  writes_push k [] x = let e : k ≡ k + 0 = omega arith in append-nil (f k x) ∙ ap (λ j. f j x) e
  writes_push k (y ∷ xs) x =
      let e : k + 1 + length xs ≡ k + length (y ∷ xs) = omega arith in
      ap (λ (l : List B). f k y ++ l) (writes_push (k + 1) xs x ∙ ap (λ j. along_writes f (k + 1) xs ++ f j x) e)
      ∙ sym (append_assoc (f k y) (along_writes f (k + 1) xs) (f (k + length (y ∷ xs)) x))

  writes_more : (xs : List ArrayWrite) (i : ℕ) (x : ArrayWrite) → i < length xs → x ≡ get_or xs i x
      → along_writes f 0 (take (i + 1) xs) ≡ along_writes f 0 (take i xs) ++ f i x
  writes_more xs i x lt is =
      let long : 0 + length (take i xs) ≡ i = simp length-take (omega arith) in
      ap (along_writes f 0) (take_more xs i x lt ∙ ap (λ y. take i xs ++ y ∷ []) (sym is)) ∙ writes_push 0 (take i xs) x
      ∙ ap (λ j. along_writes f 0 (take i xs) ++ f j x) long

  -- a list that begins with s and goes on along the first i, and what is put behind it
  pub put_more_writes : (xs : List ArrayWrite) (i : ℕ) (x : ArrayWrite) (s before after : List B) → i < length xs → x ≡ get_or xs i x
      → before ≡ s ++ along_writes f 0 (take i xs) → after ≡ before ++ f i x → after ≡ s ++ along_writes f 0 (take (i + 1) xs)
  put_more_writes xs i x s before after lt is b a =
      a ∙ ap (λ (l : List B). l ++ f i x) b ∙ append_assoc s (along_writes f 0 (take i xs)) (f i x) ∙ ap (λ (l : List B). s ++ l) (sym (writes_more xs i x lt is))

-- the names of guards along the writes that have them
pub guards_along : (f : ℕ → Option Guard) (gs : List (Option Guard)) (ws : List ArrayWrite) (n : ℕ) → length gs ≡ length ws
    → ((j : ℕ) → f (n + j) ≡ unwrap_or (slice_get gs j) None) → along_writes (λ j w. guard_names (f j)) n ws ≡ flat_map guard_names gs
guards_along f [] [] n e same = refl
guards_along f [] (w ∷ ws) n e same = absurd (cc)
guards_along f (g ∷ gs) [] n e same = absurd (cc)
guards_along f (g ∷ gs) (w ∷ ws) n e same =
    let start : n + 0 ≡ n = omega arith in
    let here : f n ≡ g = ap f (sym start) ∙ same 0 in
    ap (λ (x : Option Guard). guard_names x ++ along_writes (λ j w. guard_names (f j)) (n + 1) ws) here
    ∙ ap (λ (l : List (List ℕ)). guard_names g ++ l)
    (guards_along f gs ws (n + 1) (omega (arith, e)) (λ j. let next : n + 1 + j ≡ n + suc j = omega arith in ap f next ∙ same (suc j)))

-- what is made of each part, and parts that are the same
pub writes_mapped : {B C : Type 0} → (g : B → C) (f : ℕ → ArrayWrite → List B) (h : ℕ → ArrayWrite → List C)
    → ((j : ℕ) (w : ArrayWrite) → map g (f j w) ≡ h j w) → (n : ℕ) (ws : List ArrayWrite) → map g (along_writes f n ws) ≡ along_writes h n ws
writes_mapped g f h same n [] = refl
writes_mapped {B} {C} g f h same n (w ∷ ws) =
    map-append g (f n w) (along_writes f (n + 1) ws) ∙ ap (λ (l : List C). l ++ map g (along_writes f (n + 1) ws)) (same n w)
    ∙ ap (λ (l : List C). h n w ++ l) (writes_mapped g f h same (n + 1) ws)

-- what is made of all is made of one of them, and the other way round
pub in_writes_from : {B : Type 0} → (f : ℕ → ArrayWrite → List B) (n : ℕ) (ws : List ArrayWrite) (y : B) → In (along_writes f n ws) y
    → (j : ℕ) × (w : ArrayWrite) × (slice_get ws j ≡ Some w) × In (f (n + j) w) y
in_writes_from f n [] y m = absurd m
in_writes_from f n (w ∷ ws) y m =
    ⊎_elim
    (λ (a : In (f n w) y). let e : n ≡ n + 0 = omega arith in (0, w, refl, rw (← e) a))
    (λ (b : In (along_writes f (n + 1) ws) y).
    let r = in_writes_from f (n + 1) ws y b in
    let e : n + 1 + r.0 ≡ n + suc r.0 = omega arith in
    (suc r.0, r.1, r.2, rw (← e) r.3))
    (in_either (f n w) (along_writes f (n + 1) ws) y m)

pub in_writes : {B : Type 0} → (f : ℕ → ArrayWrite → List B) (n : ℕ) (ws : List ArrayWrite) (j : ℕ) (w : ArrayWrite) (y : B) → slice_get ws j ≡ Some w
    → In (f (n + j) w) y → In (along_writes f n ws) y
in_writes f n [] j w y at m = absurd (cc)
in_writes f n (v ∷ ws) zero w y at m =
    let same : v ≡ w = cc in
    let e : n + 0 ≡ n = omega arith in
    in_left (f n v) (along_writes f (n + 1) ws) y (rw (same, ← e) m)
in_writes f n (v ∷ ws) (suc j) w y at m =
    let e : n + suc j ≡ n + 1 + j = omega arith in
    in_right (f n v) (along_writes f (n + 1) ws) y (in_writes f (n + 1) ws j w y at (rw (← e) m))
