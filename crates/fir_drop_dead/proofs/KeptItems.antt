-- The marked items of a list under their new numbers: each is there, each comes from an item, and they keep their order.
use Rattle.std.proofs.Common.{◌≡◌, ℕ, zero, suc, ◌<◌, ◌≤◌, List, [], ◌∷◌, ◌++◌, length, map, take, Some, Bool, true, false, if◌then◌else◌, refl, ap, sym, ◌∙◌, subst, arith}
use Rattle.std.specs.Prelude.{slice_get}
use Rattle.fir_drop_dead.specs.working.Marks.{mark_at}
use Rattle.fir_drop_dead.specs.working.Numbers.{kept_of, number, place}

pub place_there : {A : Type 0} → (ms : List Bool) (xs : List A) (k : ℕ) → mark_at ms k ≡ true → slice_get (kept_of ms xs) (place ms k) ≡ slice_get xs k
place_there [] xs k h = cc
place_there (m ∷ ms) [] k h = refl
place_there (true ∷ ms) (x ∷ xs) zero h = refl
place_there (true ∷ ms) (x ∷ xs) (suc k) h = place_there ms xs k h
place_there (false ∷ ms) (x ∷ xs) zero h = cc
place_there (false ∷ ms) (x ∷ xs) (suc k) h = place_there ms xs k h

-- where a kept item comes from
pub record From {A : Type 0} (ms : List Bool) (xs : List A) (j : ℕ) (x : A) : Type 0 where
  pub old : ℕ
  pub at : slice_get xs old ≡ Some x
  pub marked : mark_at ms old ≡ true
  pub place : place ms old ≡ j
  pub number : number ms j ≡ old

pub kept_from : {A : Type 0} → (ms : List Bool) (xs : List A) (j : ℕ) (x : A) → slice_get (kept_of ms xs) j ≡ Some x → From ms xs j x
kept_from [] xs j x h = cc
kept_from (m ∷ ms) [] j x h = cc
kept_from (true ∷ ms) (y ∷ xs) zero x h = record { old = 0; at = h; marked = refl; place = refl; number = refl }
kept_from (true ∷ ms) (y ∷ xs) (suc j) x h =
    let r = kept_from ms xs j x h in
    record { old = suc r.old; at = r.at; marked = r.marked; place = ap suc r.place; number = ap suc r.number }
kept_from (false ∷ ms) (y ∷ xs) j x h =
    let r = kept_from ms xs j x h in
    record { old = suc r.old; at = r.at; marked = r.marked; place = r.place; number = ap suc r.number }

pub number_place : (ms : List Bool) (k : ℕ) → mark_at ms k ≡ true → number ms (place ms k) ≡ k
number_place [] k h = cc
number_place (true ∷ ms) zero h = refl
number_place (true ∷ ms) (suc k) h = ap suc (number_place ms k h)
number_place (false ∷ ms) zero h = cc
number_place (false ∷ ms) (suc k) h = ap suc (number_place ms k h)

pub place_once : (ms : List Bool) (j k : ℕ) → mark_at ms j ≡ true → mark_at ms k ≡ true → place ms j ≡ place ms k → j ≡ k
place_once ms j k h g e = sym (number_place ms j h) ∙ ap (number ms) e ∙ number_place ms k g

pub place_below : (ms : List Bool) (j k : ℕ) → j < k → mark_at ms j ≡ true → place ms j < place ms k
place_below [] j k lt h = cc
place_below (m ∷ ms) j zero lt h = absurd (omega arith)
place_below (true ∷ ms) zero (suc k) lt h = omega arith
place_below (true ∷ ms) (suc j) (suc k) lt h = let rest = place_below ms j k (omega arith) h in omega arith
place_below (false ∷ ms) zero (suc k) lt h = cc
place_below (false ∷ ms) (suc j) (suc k) lt h = place_below ms j k (omega arith) h

-- where all before an item are kept, it has its old number
pub place_first : (ms : List Bool) (k : ℕ) → ((j : ℕ) → j ≤ k → mark_at ms j ≡ true) → place ms k ≡ k
place_first [] k h = let none = h 0 (omega arith) in cc
place_first (m ∷ ms) zero h = refl
place_first (true ∷ ms) (suc k) h = ap suc (place_first ms k (λ j le. h (suc j) (omega arith)))
place_first (false ∷ ms) (suc k) h = let none = h 0 (omega arith) in cc

-- one more item
pub place_zero : (ms : List Bool) → place ms 0 ≡ 0
place_zero [] = refl
place_zero (m ∷ ms) = refl

pub place_next : (ms : List Bool) (k : ℕ) (b : Bool) → slice_get ms k ≡ Some b → place ms (suc k) ≡ (if b then suc (place ms k) else place ms k)
place_next [] k b h = cc
place_next (true ∷ ms) zero b h = let is : true ≡ b = cc in subst (λ (c : Bool). suc (place ms 0) ≡ (if c then 1 else 0)) is (ap suc (place_zero ms))
place_next (false ∷ ms) zero b h = let is : false ≡ b = cc in subst (λ (c : Bool). place ms 0 ≡ (if c then 1 else 0)) is (place_zero ms)
place_next (true ∷ ms) (suc k) b h = ap suc (place_next ms k b h) ∙ by b
  where
    by : (c : Bool) → suc (if c then suc (place ms k) else place ms k) ≡ (if c then suc (suc (place ms k)) else suc (place ms k))
    by true = refl
    by false = refl
place_next (false ∷ ms) (suc k) b h = place_next ms k b h

pub kept_push : {A : Type 0} → (ms : List Bool) (xs : List A) (x : A) → length ms ≡ length xs → kept_of (ms ++ true ∷ []) (xs ++ x ∷ []) ≡ kept_of ms xs ++ x ∷ []
kept_push [] [] x long = refl
kept_push [] (y ∷ xs) x long = absurd (omega arith)
kept_push (m ∷ ms) [] x long = absurd (omega arith)
kept_push (true ∷ ms) (y ∷ xs) x long = ap (λ ys. y ∷ ys) (kept_push ms xs x (omega arith))
kept_push (false ∷ ms) (y ∷ xs) x long = kept_push ms xs x (omega arith)

pub kept_skip : {A : Type 0} → (ms : List Bool) (xs : List A) (x : A) → length ms ≡ length xs → kept_of (ms ++ false ∷ []) (xs ++ x ∷ []) ≡ kept_of ms xs
kept_skip [] [] x long = refl
kept_skip [] (y ∷ xs) x long = absurd (omega arith)
kept_skip (m ∷ ms) [] x long = absurd (omega arith)
kept_skip (true ∷ ms) (y ∷ xs) x long = ap (λ ys. y ∷ ys) (kept_skip ms xs x (omega arith))
kept_skip (false ∷ ms) (y ∷ xs) x long = kept_skip ms xs x (omega arith)

-- items in a list that is mapped, and among the first ones
pub map_there : {A B : Type 0} → (f : A → B) (xs : List A) (k : ℕ) (x : A) → slice_get xs k ≡ Some x → slice_get (map f xs) k ≡ Some (f x)
map_there f [] k x h = cc
map_there f (y ∷ xs) zero x h = let same : y ≡ x = cc in ap (λ z. Some (f z)) same
map_there f (y ∷ xs) (suc k) x h = map_there f xs k x h

pub map_from : {A B : Type 0} → (f : A → B) (xs : List A) (k : ℕ) (y : B) → slice_get (map f xs) k ≡ Some y → (x : A) × (slice_get xs k ≡ Some x) × (f x ≡ y)
map_from f [] k y h = cc
map_from f (x ∷ xs) zero y h = (x, refl, cc)
map_from f (x ∷ xs) (suc k) y h = map_from f xs k y h

pub get_take : {A : Type 0} → (xs : List A) (n k : ℕ) → k < n → slice_get (take n xs) k ≡ slice_get xs k
get_take xs zero k lt = absurd (omega arith)
get_take [] (suc n) k lt = refl
get_take (x ∷ xs) (suc n) zero lt = refl
get_take (x ∷ xs) (suc n) (suc k) lt = get_take xs n k (omega arith)

pub place_past : (ms : List Bool) (k : ℕ) → length ms ≤ k → place ms k ≡ place ms (length ms)
place_past [] k h = refl
place_past (m ∷ ms) zero h = absurd (omega arith)
place_past (true ∷ ms) (suc k) h = ap suc (place_past ms k (omega arith))
place_past (false ∷ ms) (suc k) h = place_past ms k (omega arith)
