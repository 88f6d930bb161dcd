-- The names of a table: each by its number, all in the order of the table, and all in another order.
use Rattle.std.proofs.Common.{◌≡◌, ℕ, zero, suc, List, [], ◌∷◌, ◌++◌, map, refl, sym, ap, ◌∙◌, inl, inr, subst, arith}
use Rattle.std.specs.Prelude.{Option, Some, None}
use Rattle.fir_base.specs.Lists.{In, Distinct}
use Rattle.fir_net_names.specs.working.LeafNamed.{with_some, somes, name_at}

-- the names that there are, in one more entry
pub somes_more : (names : List (Option (List ℕ))) (name : List ℕ) → somes (names ++ Some name ∷ []) ≡ somes names ++ name ∷ []
somes_more [] name = refl
somes_more (None ∷ names) name = somes_more names name
somes_more (Some n ∷ names) name = ap (λ ns. n ∷ ns) (somes_more names name)

-- a name that may stand before others
in_behind : (o : Option (List ℕ)) (names : List (List ℕ)) (n : List ℕ) → In names n → In (with_some o names) n
in_behind None names n m = m
in_behind (Some x) names n m = inr m

distinct_behind : (o : Option (List ℕ)) (names : List (List ℕ)) → Distinct (with_some o names) → Distinct names
distinct_behind None names d = d
distinct_behind (Some x) names d = d.1

-- what a number has is among the names, and each of them is what some number has
pub in_table : (names : List (Option (List ℕ))) (k : ℕ) (n : List ℕ) → name_at names k ≡ Some n → In (somes names) n
in_table [] k n e = absurd (cc)
in_table (None ∷ names) zero n e = absurd (cc)
in_table (Some m ∷ names) zero n e = inl (cc)
in_table (o ∷ names) (suc k) n e = in_behind o (somes names) n (in_table names k n e)

pub table_number : (names : List (Option (List ℕ))) (n : List ℕ) → In (somes names) n → (k : ℕ) × (name_at names k ≡ Some n)
table_number [] n m = absurd m
table_number (None ∷ names) n m = let r = table_number names n m in (suc r.0, r.1)
table_number (Some x ∷ names) n (inl e) = (0, ap Some e)
table_number (Some x ∷ names) n (inr m) = let r = table_number names n m in (suc r.0, r.1)

-- a table in which no two numbers have one name
pub table_distinct : (names : List (Option (List ℕ))) → ((j k : ℕ) (n : List ℕ) → name_at names j ≡ Some n → name_at names k ≡ Some n → j ≡ k) → Distinct (somes names)
table_distinct [] h = tt
table_distinct (None ∷ names) h = table_distinct names (λ j k n a b. omega (arith, h (suc j) (suc k) n a b))
table_distinct (Some x ∷ names) h =
    (λ m. let r = table_number names x m in omega (arith, h 0 (suc r.0) x refl r.1), table_distinct names (λ j k n a b. omega (arith, h (suc j) (suc k) n a b)))

-- the same of the names that numbers have in an order
module _ (f : ℕ → Option (List ℕ)) where
  pub in_order : (ks : List ℕ) (k : ℕ) (n : List ℕ) → In ks k → f k ≡ Some n → In (somes (map f ks)) n
  in_order [] k n m e = absurd m
  in_order (j ∷ ks) k n (inl is) e = let here : f j ≡ Some n = ap f is ∙ e in rw here (inl refl)
  in_order (j ∷ ks) k n (inr m) e = in_behind (f j) (somes (map f ks)) n (in_order ks k n m e)

  pub order_number : (ks : List ℕ) (n : List ℕ) → In (somes (map f ks)) n → (k : ℕ) × In ks k × (f k ≡ Some n)
  order_number [] n m = absurd m
  order_number (j ∷ ks) n m = by (f j) refl m (order_number ks n)
    where
      by : (o : Option (List ℕ)) → f j ≡ o → In (with_some o (somes (map f ks))) n → (In (somes (map f ks)) n → (k : ℕ) × In ks k × (f k ≡ Some n)) → (k : ℕ) × In (j ∷ ks) k × (f k ≡ Some n)
      by None e m rest = let r = rest m in (r.0, inr r.1, r.2)
      by (Some x) e (inl is) rest = (j, inl refl, e ∙ ap Some is)
      by (Some x) e (inr m) rest = let r = rest m in (r.0, inr r.1, r.2)

  -- where none stands twice, each name is that of one number
  pub order_once : (ks : List ℕ) → Distinct (somes (map f ks)) → (j k : ℕ) (n : List ℕ) → In ks j → In ks k → f j ≡ Some n → f k ≡ Some n → j ≡ k
  order_once [] d j k n p q a b = absurd p
  order_once (i ∷ ks) d j k n (inl p) (inl q) a b = sym p ∙ q
  order_once (i ∷ ks) d j k n (inl p) (inr q) a b =
      let here : f i ≡ Some n = ap f p ∙ a in
      let once = subst (λ (o : Option (List ℕ)). Distinct (with_some o (somes (map f ks)))) here d in
      absurd (once.0 (in_order ks k n q b))
  order_once (i ∷ ks) d j k n (inr p) (inl q) a b =
      let here : f i ≡ Some n = ap f q ∙ b in
      let once = subst (λ (o : Option (List ℕ)). Distinct (with_some o (somes (map f ks)))) here d in
      absurd (once.0 (in_order ks j n p a))
  order_once (i ∷ ks) d j k n (inr p) (inr q) a b = order_once ks (distinct_behind (f i) (somes (map f ks)) d) j k n p q a b
