-- Elements of a list that stand once.
use Rattle.std.proofs.Common.{◌≡◌, ℕ, zero, suc, ◌<◌, List, [], ◌∷◌, ◌++◌, map, length, slice_index_or, refl, sym, ap, subst, ◌⊎◌, inl, inr, arith}
use Rattle.fir_base.specs.Lists.{In, Distinct}
use Rattle.fir_base.proofs.Members.{in_left, in_map, in_map_from, in_right, in_either}
use Rattle.fir_leaf.proofs.OncePaths.{at_in}

-- they have one number
pub once_numbered : {A B : Type 0} (f : A → B) (xs : List A) (d : A) (j k : ℕ) → Distinct (map f xs) → j < length xs → k < length xs
    → f (slice_index_or xs j d) ≡ f (slice_index_or xs k d) → j ≡ k
once_numbered f [] d j k h lt less e = absurd (omega (arith, lt))
once_numbered f (x ∷ xs) d zero zero h lt less e = refl
once_numbered f (x ∷ xs) d zero (suc k) h lt less e =
    absurd (h.0 (subst (In (map f xs)) (sym e) (in_map f xs (slice_index_or xs k d) (at_in xs d k (omega (arith, less))))))
once_numbered f (x ∷ xs) d (suc j) zero h lt less e =
    absurd (h.0 (subst (In (map f xs)) e (in_map f xs (slice_index_or xs j d) (at_in xs d j (omega (arith, lt))))))
once_numbered f (x ∷ xs) d (suc j) (suc k) h lt less e =
    ap suc (once_numbered f xs d j k h.1 (omega (arith, lt)) (omega (arith, less)) e)

-- also where a function of them is told that tells them apart
pub distinct_mapped : {A B : Type 0} (f : A → B) → ((x y : A) → f x ≡ f y → x ≡ y) → (xs : List A) → Distinct xs
    → Distinct (map f xs)
distinct_mapped f tells [] h = tt
distinct_mapped f tells (x ∷ xs) h =
    (λ m. let from = in_map_from f xs (f x) m in h.0 (subst (In xs) (tells from.0 x from.2) from.1), distinct_mapped f tells xs h.1)

-- and without one of them
pub distinct_without : {A : Type 0} (xs : List A) (y : A) (ys : List A) → Distinct (xs ++ y ∷ ys) → Distinct (xs ++ ys)
distinct_without [] y ys h = h.1
distinct_without (x ∷ xs) y ys h = (
  λ m. h.0 (by (in_either xs ys x m)),
  distinct_without xs y ys h.1,
)
  where
    by : In xs x ⊎ In ys x → In (xs ++ y ∷ ys) x
    by (inl l) = in_left xs (y ∷ ys) x l
    by (inr r) = in_right xs (y ∷ ys) x (inr r)
