-- Of one name more than a set has, with numbers at their ends that follow each other, the set lacks one.
use Rattle.std.proofs.Common.{◌≡◌, ℕ, ◌+◌, ◌^◌, ◌<◌, ◌≤◌, List, [], ◌∷◌, ◌++◌, true, false, length, sym, ap, ◌∙◌, inl, inr, ⊎_elim, subst, arith}
use Rattle.std.specs.Prelude.{decimal}
use Rattle.std.specs.List.{list_any}
use Rattle.std.specs.BTreeSet.{BTreeSet}
use Rattle.std.specs.BTreeMap.{is_at}
use Rattle.std.specs.Cmp.Lexicographic.{slice_cmp}
use Rattle.std.specs.Ordering.{nat_cmp}
use Rattle.std.specs.Str.Parse.{digits_value}
use Rattle.std.proofs.lemmas.Bool.{or_cases, false_from_ne_true, cases_lt}
use Rattle.std.proofs.lemmas.Fmt.{decimal_is_IsNumeral_wide}
use Rattle.std.proofs.lemmas.Slice.Eq.{bytes_eq-Decides}
use Rattle.std.proofs.lemmas.Map.Text.{is_eq-slice_cmp}
use Rattle.fir_base.specs.Lists.{In}
use Rattle.fir_net_names.specs.working.NameSets.{has}
use Rattle.fir_net_names.proofs.Pigeons.{pigeons}

-- the numbers of the code have decimals of their own
pub decimal_exact : (i j : ℕ) → i < 2 ^ 128 → j < 2 ^ 128 → decimal i ≡ decimal j → i ≡ j
decimal_exact i j h k e =
    let a : digits_value 10 (decimal i) ≡ i = (decimal_is_IsNumeral_wide i (omega arith)).1 in
    let b : digits_value 10 (decimal j) ≡ j = (decimal_is_IsNumeral_wide j (omega arith)).1 in
    sym a ∙ ap (digits_value 10) e ∙ b

-- what stands behind one front
behind : (front xs ys : List ℕ) → front ++ xs ≡ front ++ ys → xs ≡ ys
behind [] xs ys e = e
behind (b ∷ front) xs ys e = let less : front ++ xs ≡ front ++ ys = cc in behind front xs ys less

pub numbered_apart : (front : List ℕ) (i j : ℕ) → i < 2 ^ 128 → j < 2 ^ 128 → front ++ decimal i ≡ front ++ decimal j → i ≡ j
numbered_apart front i j h k e = decimal_exact i j h k (behind front (decimal i) (decimal j) e)

-- what a set has is one of its keys
has_in : (keys : List (List ℕ)) (n : List ℕ) → list_any (is_at (slice_cmp nat_cmp n)) keys ≡ true → In keys n
has_in [] n h = absurd (cc)
has_in (k ∷ keys) n h =
    ⊎_elim
    (λ (e : is_at (slice_cmp nat_cmp n) k ≡ true). inl (sym ((bytes_eq-Decides n k).0 (sym (is_eq-slice_cmp n k) ∙ e))))
    (λ (o : list_any (is_at (slice_cmp nat_cmp n)) keys ≡ true). inr (has_in keys n o))
    (or_cases (is_at (slice_cmp nat_cmp n) k) (list_any (is_at (slice_cmp nat_cmp n)) keys) h)

-- as many as are taken one after the other, so many names the set has
pub as_many : (set : BTreeSet (List ℕ)) (front : List ℕ) (from n : ℕ) → from + n ≤ 2 ^ 128 → ((k : ℕ) → from ≤ k → k < from + n → has set (front ++ decimal k) ≡ true) → n ≤ length set.keys
as_many set front from n small taken =
    pigeons n (λ k. front ++ decimal (from + k)) set.keys
    (λ i j h k e. let same : from + i ≡ from + j = numbered_apart front (from + i) (from + j) (omega arith) (omega arith) e in omega arith)
    (λ k h. has_in set.keys (front ++ decimal (from + k)) (taken (from + k) (omega arith) (omega arith)))

-- one more that is taken
pub taken_more : (set : BTreeSet (List ℕ)) (front : List ℕ) (from n : ℕ) (name : List ℕ) → ((k : ℕ) → from ≤ k → k < n → has set (front ++ decimal k) ≡ true) → name ≡ front ++ decimal n → has set name ≡ true → (k : ℕ) → from ≤ k → k < n + 1 → has set (front ++ decimal k) ≡ true
taken_more set front from n name taken is here k low high =
    ⊎_elim
    (λ (h : k < n). taken k low h)
    (λ (h : n ≤ k). let e : n ≡ k = omega arith in subst (λ m. has set (front ++ decimal m) ≡ true) e (subst (λ m. has set m ≡ true) is here))
    (cases_lt k n)

-- behind as many as there are names, one is free
pub last_is_free : (set : BTreeSet (List ℕ)) (front : List ℕ) (from last : ℕ) → last ≡ from + length set.keys → last < 2 ^ 128 → ((k : ℕ) → from ≤ k → k < last → has set (front ++ decimal k) ≡ true) → has set (front ++ decimal last) ≡ false
last_is_free set front from last at small taken =
    false_from_ne_true (has set (front ++ decimal last)) (λ t.
    let each : (k : ℕ) → from ≤ k → k < from + (length set.keys + 1) → has set (front ++ decimal k) ≡ true = λ k low high.
    ⊎_elim (λ (h : k < last). taken k low h) (λ (h : last ≤ k). let e : last ≡ k = omega arith in subst (λ n. has set (front ++ decimal n) ≡ true) e t) (cases_lt k last) in
    let more : length set.keys + 1 ≤ length set.keys = as_many set front from (length set.keys + 1) (omega arith) each in
    omega arith)
