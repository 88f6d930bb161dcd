-- Walks from leaf to leaf by roles: a leaf has one root at most, and a walk to a root has fewer steps than there are leaves.
use Rattle.std.proofs.Common.{◌≡◌, ℕ, zero, suc, ◌+◌, ◌<◌, ◌≤◌, List, [], ◌∷◌, length, refl, sym, ap, ◌∙◌, subst, arith, Option, Some, None, Bool, true, false, eqb, inl, inr, ◌⊎◌}
use Rattle.std.specs.Prelude.{slice_get, ◌||◌}
use Rattle.std.specs.List.{AllByRecursion, IsDistinct, list_any}
use Rattle.std.proofs.lemmas.Bool.{cases_eq, eqb-true}
use Rattle.std.proofs.lemmas.Map.Keys.{IsDistinct-cons}
use Rattle.std.proofs.lemmas.Map.Steps.{length-le_from_distinct_below}
use Rattle.std.proofs.lemmas.Option.{same_Some, slice_get_within}
use Rattle.fir_whens.specs.declared.net_role.NetRole.{NetRole}
use Rattle.fir_whens.specs.declared.net_role.NetRole.TheVariants as code
use Rattle.fir_memory_clocks.specs.working.Marks.{Leads}
use Rattle.fir_memory_clocks.specs.working.RoleRoots.{HasRoot, given, leaf_given, next_at, outside}

role_there : (o : Option NetRole) (j : ℕ) → leaf_given o ≡ Some j → (r : NetRole) × (o ≡ Some r)
role_there None j e = cc
role_there (Some r) j e = (r, refl)

module _ (roles : List NetRole) where
  pub next_within : (k j : ℕ) → next_at roles k ≡ Some j → k < length roles
  next_within k j e = let r = role_there (slice_get roles k) j e in slice_get_within roles k r.0 r.1

  -- what comes from outside is given no leaf
  pub no_next : (k j : ℕ) → slice_get roles k ≡ Some code.Source → next_at roles k ≡ Some j → ⊥
  no_next k j out e =
      let none : next_at roles k ≡ None = ap leaf_given out in
      let never : Some j ≡ None = sym e ∙ none in
      cc

  -- after so many steps from a leaf stands its root
  abbrev pub HasWalk : ℕ → ℕ → ℕ → Type 0
  HasWalk zero k n = (slice_get roles k ≡ Some code.Source) × (k ≡ n)
  HasWalk (suc h) k n = (j : ℕ) × (next_at roles k ≡ Some j) × HasWalk h j n

  pub root_walks : (k n : ℕ) → HasRoot roles k n → (h : ℕ) × HasWalk h k n
  root_walks _ _ (outside k e) = (0, (e, refl))
  root_walks _ _ (given k j n e root) = let r = root_walks j n root in (suc r.0, (j, e, r.1))

  pub walk_root : (h k n : ℕ) → HasWalk h k n → HasRoot roles k n
  walk_root zero k n w = subst (HasRoot roles k) w.1 (outside k w.0)
  walk_root (suc h) k n w = given k w.0 n w.1 (walk_root h w.0 n w.2)

  one_walk : (g h k m n : ℕ) → HasWalk g k m → HasWalk h k n → (g ≡ h) × (m ≡ n)
  one_walk zero zero k m n v w = (refl, sym v.1 ∙ w.1)
  one_walk zero (suc h) k m n v w = absurd (no_next k w.0 v.0 w.1)
  one_walk (suc g) zero k m n v w = absurd (no_next k v.0 w.0 v.1)
  one_walk (suc g) (suc h) k m n v w =
      let next : v.0 ≡ w.0 = same_Some v.0 w.0 (sym v.1 ∙ w.1) in
      let r = one_walk g h w.0 m n (subst (λ x. HasWalk g x m) next v.2) w.2 in
      (ap suc r.0, r.1)

  pub one_root : (k m n : ℕ) → HasRoot roles k m → HasRoot roles k n → m ≡ n
  one_root k m n p q =
      let v = root_walks k m p in
      let w = root_walks k n q in
      (one_walk v.0 w.0 k m n v.1 w.1).1

  walk_within : (h k n : ℕ) → HasWalk h k n → k < length roles
  walk_within zero k n w = slice_get_within roles k code.Source w.0
  walk_within (suc h) k n w = next_within k w.0 w.1

  pub root_within : (k n : ℕ) → HasRoot roles k n → k < length roles
  root_within k n root = let w = root_walks k n root in walk_within w.0 k n w.1

  -- ---- a walk passes no leaf twice

  -- from that leaf on there is a walk of at most so many steps
  record Walks (h q : ℕ) : Type 0 where
    steps : ℕ
    number : ℕ
    few : steps ≤ h
    walk : HasWalk steps q number

  -- the leaves of a walk of so many steps, none of them twice
  record Leaves (h : ℕ) : Type 0 where
    leaves : List ℕ
    long : length leaves ≡ suc h
    distinct : IsDistinct eqb leaves
    each : AllByRecursion (Walks h) leaves

  member : (P : ℕ → Type 0) (xs : List ℕ) → AllByRecursion P xs → (q : ℕ) → list_any (eqb q) xs ≡ true → P q
  member P [] each q e = cc
  member P (x ∷ xs) each q e = by (eqb q x) refl (member P xs each.1 q) e
    where
      by : (b : Bool) → eqb q x ≡ b → (list_any (eqb q) xs ≡ true → P q) → (b || list_any (eqb q) xs) ≡ true → P q
      by true is rest e = subst P (sym (eqb-true q x is)) each.0
      by false is rest e = rest e

  more : (h : ℕ) (qs : List ℕ) → AllByRecursion (Walks h) qs → AllByRecursion (Walks (suc h)) qs
  more h [] each = tt
  more h (q ∷ qs) each =
      let w = each.0 in
      (record { steps = w.steps; number = w.number; few = let few = w.few in omega (arith, few); walk = w.walk }, more h qs each.1)

  apart : (h k n : ℕ) → HasWalk (suc h) k n → (qs : List ℕ) → AllByRecursion (Walks h) qs → AllByRecursion (λ q. eqb k q ≡ false) qs
  apart h k n w [] each = tt
  apart h k n w (q ∷ qs) each = (by (eqb k q) refl, apart h k n w qs each.1)
    where
      by : (b : Bool) → eqb k q ≡ b → b ≡ false
      by false is = refl
      by true is =
          let v = each.0 in
          let few = v.few in
          let same = (one_walk v.steps (suc h) k v.number n (subst (λ x. HasWalk v.steps x v.number) (sym (eqb-true k q is)) v.walk) w).0 in
          absurd (omega (arith, few, same))

  passed : (h k n : ℕ) → HasWalk h k n → Leaves h
  unfolding IsDistinct
  passed zero k n w = record {
    leaves = k ∷ [];
    long = refl;
    distinct = IsDistinct-cons eqb k [] tt tt;
    each = (record { steps = 0; number = n; few = omega arith; walk = w }, tt);
  }
  passed (suc h) k n w =
      let r = passed h w.0 n w.2 in
      record {
        leaves = k ∷ r.leaves;
        long = ap suc r.long;
        distinct = IsDistinct-cons eqb k r.leaves (apart h k n w r.leaves r.each) r.distinct;
        each = (record { steps = suc h; number = n; few = omega arith; walk = w }, more h r.leaves r.each);
      }

  few_steps : (h k n : ℕ) → HasWalk h k n → h < length roles
  few_steps h k n w =
      let r = passed h k n w in
      let long = r.long in
      let short =
      length-le_from_distinct_below r.leaves (length roles) r.distinct
      (λ q e. let v = member (Walks h) r.leaves r.each q e in walk_within v.steps q v.number v.walk) in
      omega (arith, long, short)

  -- ---- so many steps from one leaf to another

  pub leads_root : (x n y root : ℕ) → Leads roles x n y → HasRoot roles y root → HasRoot roles x root
  leads_root x zero y root lead h = subst (λ z. HasRoot roles z root) lead h
  leads_root x (suc n) y root lead h = leads_root x n lead.0 root lead.1 (given lead.0 y root lead.2 h)

  leads_back : (x n y h root : ℕ) → Leads roles x n y → HasWalk h x root → (g : ℕ) × (g + n ≡ h) × HasWalk g y root
  leads_back x zero y h root lead w = (h, omega arith, subst (λ z. HasWalk h z root) (sym lead) w)
  leads_back x (suc n) y h root lead w = let r = leads_back x n lead.0 h root lead.1 w in on r.0 r.1 r.2
    where
      on : (g : ℕ) → g + n ≡ h → HasWalk g lead.0 root → (f : ℕ) × (f + suc n ≡ h) × HasWalk f y root
      on zero sum v = absurd (no_next lead.0 y v.0 lead.2)
      on (suc g) sum v =
          let there : v.0 ≡ y = same_Some v.0 y (sym v.1 ∙ lead.2) in
          (g, omega (arith, sum), subst (λ z. HasWalk g z root) there v.2)

  pub root_back : (x n y root : ℕ) → Leads roles x n y → HasRoot roles x root → HasRoot roles y root
  root_back x n y root lead h =
      let w = root_walks x root h in
      let b = leads_back x n y w.0 root lead w.1 in
      walk_root b.0 y root b.2

  pub one_leads : (x n y z : ℕ) → Leads roles x n y → Leads roles x n z → y ≡ z
  one_leads x zero y z p q = p ∙ sym q
  one_leads x (suc n) y z p q =
      let before : p.0 ≡ q.0 = one_leads x n p.0 q.0 p.1 q.1 in
      same_Some y z (sym p.2 ∙ ap (next_at roles) before ∙ q.2)

  -- what a ring leads back to has no root
  pub no_ring : (x m n y root : ℕ) → Leads roles x m y → Leads roles x n y → m < n → HasRoot roles x root → ⊥
  no_ring x m n y root p q lt h =
      let w = root_walks x root h in
      let b = leads_back x m y w.0 root p w.1 in
      let c = leads_back x n y w.0 root q w.1 in
      let same = (one_walk b.0 c.0 y root root b.2 c.2).0 in
      let one = b.1 in
      let other = c.1 in
      omega (arith, lt, same, one, other)

  -- nor what goes on for so long
  pub no_long : (x n y root : ℕ) → Leads roles x n y → length roles ≤ n → HasRoot roles x root → ⊥
  no_long x n y root p le h =
      let w = root_walks x root h in
      let b = leads_back x n y w.0 root p w.1 in
      let sum = b.1 in
      let few = few_steps w.0 x root w.1 in
      omega (arith, le, sum, few)

  -- from each leaf on the way there is a next
  pub next_on_way : (x n y : ℕ) → Leads roles x n y → (i : ℕ) → i < n → (z : ℕ) → Leads roles x i z → (w : ℕ) × (next_at roles z ≡ Some w)
  next_on_way x zero y p i lt z q = absurd (omega (arith, lt))
  next_on_way x (suc n) y p i lt z q = by (cases_eq i n) (λ less. next_on_way x n p.0 p.1 i less z q)
    where
      by : (i ≡ n) ⊎ (i ≡ n → ⊥) → (i < n → (w : ℕ) × (next_at roles z ≡ Some w)) → (w : ℕ) × (next_at roles z ≡ Some w)
      by (inl e) earlier = (y, ap (next_at roles) (one_leads x n z p.0 (subst (λ j. Leads roles x j z) e q) p.1) ∙ p.2)
      by (inr other) earlier = earlier (omega (arith, lt, other))
