-- Chains of clocks that come back never end, and what has a root ends.
use Rattle.std.proofs.Common.{◌≡◌, ℕ, zero, suc, ◌≤◌, List, [], ◌∷◌, ◌++◌, length, length-append, Option, Some, None, refl, ap, subst, arith, inl, inr}
use Rattle.fir_meaning.specs.working.Terms.{no_picks, read}
use Rattle.fir_meaning.specs.working.LeafCircuits.{LeafCircuit, role_of}
use Rattle.fir_leaf.specs.working.ClockRoots.{Follows, HasRoot, IsChain, IsEnd, NeverEnds}
use Rattle.fir_leaf.specs.working.RunLaws.{OneRootOf, RingNeverEnds, RootBefore}
use Rattle.fir_leaf.proofs.RootClocks.{gives_once, has_one_root, stops}

module _ (c : LeafCircuit) where
  chain_joined : (v w : List ℕ) (x y z : ℕ) → IsChain c x v y → IsChain c y w z → IsChain c x (v ++ w) z
  chain_joined [] w x y z a b = rw a b
  chain_joined (p ∷ v) w x y z a b = (a.0, a.1, chain_joined v w p y z a.2 b)

  follows : (n : ℕ) (w : List ℕ) (x z : ℕ) → IsChain c x w z → n ≤ length w → (y : ℕ) × Follows c x n y
  follows zero w x z a l = (x, record { walk = []; long = refl; chain = refl })
  follows (suc n) [] x z a l = absurd (omega (arith, l))
  follows (suc n) (p ∷ w) x z a l =
      let r = follows n w p z a.2 (omega (arith, l)) in
      (r.0, record { walk = p ∷ r.1.walk; long = ap suc r.1.long; chain = (a.0, a.1, r.1.chain) })

  -- so many rounds are at least so many steps
  record Rounds (x n : ℕ) : Type 0 where
    walk : List ℕ
    long : n ≤ length walk
    chain : IsChain c x walk x

  rounds : (x y : ℕ) (ys : List ℕ) → IsChain c x (y ∷ ys) x → (n : ℕ) → Rounds x n
  rounds x y ys a zero = record { walk = []; long = omega arith; chain = refl }
  rounds x y ys a (suc n) =
      let r = rounds x y ys a n in
      record {
        walk = (y ∷ ys) ++ r.walk;
        long = omega (arith, length-append ys r.walk, r.long);
        chain = chain_joined (y ∷ ys) r.walk x x x a r.chain;
      }

  -- no walk is longer than one that ends
  no_longer : (v w : List ℕ) (x y z : ℕ) (root : Option ℕ) → IsChain c x v y → IsEnd c y (role_of c y) root → IsChain c x w z → length w ≤ length v
  no_longer v [] x y z root a e b = omega arith
  no_longer [] (q ∷ w) x y z root a e b = absurd (stops c x q (role_of c x) root (rw a e) b.0)
  no_longer (p ∷ v) (q ∷ w) x y z root a e b =
      let one : read p no_picks ≡ read q no_picks = gives_once c x (role_of c x) (read p no_picks) (read q no_picks) a.0 b.0 in
      let same : q ≡ p = cc in
      omega (arith, no_longer v w p y z root a.2 e (subst (λ u. IsChain c u w z) same b.2))

pub ring_never_ends : RingNeverEnds
ring_never_ends c x y ys a n = let r = rounds c x y ys a n in follows c n r.walk x x r.chain r.long

-- what has a root, or none, ends
root_ends : (c : LeafCircuit) (x : ℕ) (root : Option ℕ) → HasRoot c x root → NeverEnds c x → ⊥
root_ends c x root h never =
    let r = never (suc (length h.walk)) in
    omega (arith, r.1.long, no_longer c h.walk r.1.walk x h.final r.0 root h.chain h.ends r.1.chain)

pub root_before : RootBefore
root_before c x y (Some z) g k h = record { walk = y ∷ h.walk; final = h.final; chain = (g, k, h.chain); ends = h.ends }
root_before c x y None g k (inl h) = inl (record { walk = y ∷ h.walk; final = h.final; chain = (g, k, h.chain); ends = h.ends })
root_before c x y None g k (inr never) = inr (λ n. longer n)
  where
    longer : (n : ℕ) → (z : ℕ) × Follows c x n z
    longer zero = (x, record { walk = []; long = refl; chain = refl })
    longer (suc n) = let r = never n in (r.0, record { walk = y ∷ r.1.walk; long = ap suc r.1.long; chain = (g, k, r.1.chain) })

pub one_root_of : OneRootOf
one_root_of c x (Some y) (Some z) h k = has_one_root c x (Some y) (Some z) h k
one_root_of c x (Some y) None h (inl k) = has_one_root c x (Some y) None h k
one_root_of c x (Some y) None h (inr k) = absurd (root_ends c x (Some y) h k)
one_root_of c x None (Some z) (inl h) k = has_one_root c x None (Some z) h k
one_root_of c x None (Some z) (inr h) k = absurd (root_ends c x (Some z) k h)
one_root_of c x None None h k = refl
