-- The registers with an asynchronous reset, leaf by leaf.
use Rattle.std.proofs.Common.{◌≡◌, ℕ, ◌+◌, ◌<◌, ◌≤◌, List, [], ◌∷◌, ◌++◌, None, Some, sym, ap, ◌∙◌, subst, refl, inl, inr, ◌⊎◌, arith}
use Rattle.std.specs.Prelude.{slice_get}
use Rattle.std.specs.List.{Contains}
use Rattle.std.specs.List.Sorted.{IsPermutation}
use Rattle.std.proofs.lemmas.Bool.{cases_lt}
use Rattle.std.proofs.lemmas.List.Elements.{All-push, Contains-append_left, Contains-push}
use Rattle.std.proofs.lemmas.List.Sorted.{All-permutation, Contains-permutation}
use Rattle.fir_base.proofs.Writes.{two_items}
use Rattle.fir_net.specs.declared.leaf.Leaf.{Leaf}
use Rattle.fir_net.specs.declared.net.FlatNet.{FlatNet}
use Rattle.fir_net.specs.declared.reads.Read.{Read}
use Rattle.fir_inits.specs.declared.registers.AsyncRegister.{AsyncRegister}
use Rattle.fir_inits.specs.working.AsyncInits.{async_init, AreAsync, HasInit}

pub permuted : (net : FlatNet) (n : ℕ) (xs ys : List AsyncRegister) → IsPermutation xs ys → AreAsync net n xs → AreAsync net n ys
permuted net n xs ys p a = record {
  only = All-permutation (λ (r : AsyncRegister). HasInit net r.leaf r.init) xs ys p a.only;
  all = λ k l init low at is. Contains-permutation xs ys (record { leaf = k; place = l.place; init = init }) p (a.all k l init low at is);
}

module _ (net : FlatNet) (n : ℕ) (xs : List AsyncRegister) (a : AreAsync net n xs) (l : Leaf) (at : slice_get net.leaves n ≡ Some l) where
  same_leaf : (k : ℕ) (m : Leaf) → k < n + 1 → n ≤ k → slice_get net.leaves k ≡ Some m → (k ≡ n) × (m ≡ l)
  same_leaf k m low le here = let same : k ≡ n = omega (arith, low, le) in (same, two_items net.leaves n m l (ap (slice_get net.leaves) (sym same) ∙ here) at)

  pub one_more : (init : Read) → async_init l.role ≡ Some init → AreAsync net (n + 1) (xs ++ record { leaf = n; place = l.place; init = init } ∷ [])
  one_more init is = record {
    only = All-push (λ (r : AsyncRegister). HasInit net r.leaf r.init) xs one a.only (record { leaf = l; at = at; is = is });
    all = λ k m r low here has. all k m r low here has (cases_lt k n);
  }
    where
      one : AsyncRegister
      one = record { leaf = n; place = l.place; init = init }

      all : (k : ℕ) (m : Leaf) (r : Read) → k < n + 1 → slice_get net.leaves k ≡ Some m → async_init m.role ≡ Some r → (k < n) ⊎ (n ≤ k) → Contains (xs ++ record { leaf = n; place = l.place; init = init } ∷ []) (record { leaf = k; place = m.place; init = r })
      all k m r low here has (inl less) = Contains-append_left xs (one ∷ []) (record { leaf = k; place = m.place; init = r }) (a.all k m r less here has)
      all k m r low here has (inr le) =
          let s = same_leaf k m low le here in
          let inits : Some init ≡ Some r = sym is ∙ ap (λ (x : Leaf). async_init x.role) (sym s.1) ∙ has in
          let same_init : init ≡ r = cc in
          let entry : record { leaf = n; place = l.place; init = init } ≡ record { leaf = k; place = m.place; init = r } = rw (s.0, s.1, same_init) refl in
          subst (Contains (xs ++ record { leaf = n; place = l.place; init = init } ∷ [])) entry (Contains-push xs one)

  pub none_more : async_init l.role ≡ None → AreAsync net (n + 1) xs
  none_more none = record {
    only = a.only;
    all = λ k m r low here has. all k m r low here has (cases_lt k n);
  }
    where
      all : (k : ℕ) (m : Leaf) (r : Read) → k < n + 1 → slice_get net.leaves k ≡ Some m → async_init m.role ≡ Some r → (k < n) ⊎ (n ≤ k) → Contains xs (record { leaf = k; place = m.place; init = r })
      all k m r low here has (inl less) = a.all k m r less here has
      all k m r low here has (inr le) = let s = same_leaf k m low le here in let no : None ≡ Some r = sym none ∙ ap (λ (x : Leaf). async_init x.role) (sym s.1) ∙ has in absurd (cc)
