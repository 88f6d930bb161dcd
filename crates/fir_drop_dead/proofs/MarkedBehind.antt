-- Marks from the end of an order back: behind a place, all that is read by what is marked is marked.
use Rattle.std.proofs.Common.{◌≡◌, ℕ, suc, ◌<◌, ◌≤◌, List, length, Some, None, true, false, refl, ap, sym, ◌∙◌, subst, arith, ◌⊎◌, inl, inr, ⊎_elim}
use Rattle.std.specs.Prelude.{slice_get, Option}
use Rattle.std.proofs.lemmas.Bool.{cases_eq}
use Rattle.std.proofs.lemmas.Option.{slice_get_within}
use Rattle.fir_base.specs.Lists.{In}
use Rattle.fir_base.proofs.Elements.{number_of}
use Rattle.fir_base.proofs.Writes.{two_items}
use Rattle.fir_net.specs.declared.leaf.Leaf.{Leaf}
use Rattle.fir_net.specs.declared.leaf.Role.{Role}
use Rattle.fir_net.specs.declared.leaf.Role.TheVariants as role
use Rattle.fir_net.specs.declared.net.FlatNet.{FlatNet}
use Rattle.fir_net.specs.declared.reads.Read.{Read}
use Rattle.fir_net.specs.declared.reads.Read.TheVariants as read
use Rattle.fir_net.specs.working.Dependence.{leaf_reads, reads_of, role_reads}
use Rattle.fir_net.specs.working.IsNet.{IsNet}
use Rattle.fir_net.specs.working.IsOrder.{IsOrder}
use Rattle.fir_drop_dead.specs.working.IsLive.{IsNeeded, of_needed, whole_leaf_reads, whole_reads, whole_role_reads}
use Rattle.fir_drop_dead.specs.working.Marks.{Marked, has, marked_all}
use Rattle.fir_drop_dead.specs.working.Needed.{AreMarked, AreNeeded, is_root}
use Rattle.fir_drop_dead.proofs.MarkSteps.{all_cases, all_long, all_new, all_stay, of_marked, still_marked}
use Rattle.fir_drop_dead.proofs.NeededRoots.{HasRoots}
use Rattle.fir_drop_dead.proofs.WholeReads.{whole_reads_of}

module _ (net : FlatNet) where
  -- what a leaf or node reads is marked already, or it hangs on all of it at once
  abbrev Either : Marked → List Read → List Read → Type 0
  Either m whole_rs rs = AreMarked m whole_rs ⊎ ((r : Read) → In whole_rs r → In rs r)

  role_either : (m : Marked) (r : Role) → (is_root r ≡ true → AreMarked m (whole_role_reads r)) → Either m (whole_role_reads r) (role_reads r)
  role_either m role.Input h = inl (h refl)
  role_either m role.Clock h = inl (h refl)
  role_either m (role.Output r) h = inl (h refl)
  role_either m (role.Wire r) h = inr (λ v n. n)
  role_either m (role.Register r) h = inl (h refl)
  role_either m (role.Reading r) h = inr (λ v n. n)
  role_either m (role.Pipe p) h = inl (h refl)
  role_either m (role.ClockOutput c) h = inl (h refl)
  role_either m (role.ClockWire c) h = inr (λ v n. n)

  leaf_either : (m : Marked) → HasRoots net m → (k : ℕ) (o : Option Leaf) → slice_get net.leaves k ≡ o → Either m (whole_leaf_reads o) (leaf_reads o)
  leaf_either m is k None e = inr (λ v n. n)
  leaf_either m is k (Some l) e = role_either m l.role (is.root_reads k l e)

  reads_either : (m : Marked) → HasRoots net m → (v : Read) → Either m (whole_reads net v) (reads_of net v)
  reads_either m is (read.Leaf k) = leaf_either m is k (slice_get net.leaves k) refl
  reads_either m is (read.Node k) = inr (λ v n. n)

  pub record Behind (order : List Read) (i : ℕ) (m : Marked) : Type 0 where
    pub is : HasRoots net m
    pub closed : (p : ℕ) (v : Read) → i ≤ p → slice_get order p ≡ Some v → has m v ≡ true → AreMarked m (whole_reads net v)

  module _ (order : List Read) where
    pub behind_none : (m : Marked) → HasRoots net m → Behind order (length order) m
    behind_none m is = record { is = is; closed = λ p v past at h. absurd (omega (arith, slice_get_within order p v at, past)) }

    module _ (m : Marked) (i : ℕ) (v : Read) (at : slice_get order i ≡ Some v) (so : Behind order (suc i) m) where
      pub behind_skip : has m v ≡ false → Behind order i m
      behind_skip unset = record { is = so.is; closed = λ p u from is h. by p u from is h (cases_eq p i) }
        where
          by : (p : ℕ) (u : Read) → i ≤ p → slice_get order p ≡ Some u → has m u ≡ true → (p ≡ i) ⊎ (p ≡ i → ⊥) → AreMarked m (whole_reads net u)
          by p u from is h (inl e) =
              let same : u ≡ v = two_items order i u v (subst (λ (j : ℕ). slice_get order j ≡ Some u) e is) at in
              let none : has m u ≡ false = ap (has m) same ∙ unset in
              cc
          by p u from is h (inr n) = so.closed p u (omega (arith, n, from)) is h

      module _ (whole : IsNet net) (ordered : IsOrder net order) (marked : has m v ≡ true) where
        abbrev rs : List Read
        rs = whole_reads net v

        abbrev more : Marked
        more = marked_all rs m

        more_needed : (u : Read) → has more u ≡ true → IsNeeded net u
        more_needed u h =
            ⊎_elim (λ (o : has m u ≡ true). so.is.needed u o) (λ (n : In rs u). of_needed v u (so.is.needed v marked) n) (all_cases rs u m h)

        more_roots : HasRoots net more
        more_roots = record {
          long = all_long net rs m so.is.long;
          needed = more_needed;
          roots = λ k l is root. all_stay rs (read.Leaf k) m (so.is.roots k l is root);
          root_reads = λ k l is root. still_marked rs (whole_role_reads l.role) m (so.is.root_reads k l is root);
          writes = λ a w is among u n. all_stay rs u m (so.is.writes a w is among u n);
        }

        -- behind the place nothing is marked that was not
        old : (p : ℕ) (u : Read) → i < p → slice_get order p ≡ Some u → has more u ≡ true → has m u ≡ true
        old p u from is h =
            ⊎_elim (λ (o : has m u ≡ true). o) (λ (n : In rs u). ⊎_elim (λ (are : AreMarked m rs). are u n)
            (λ (all : (r : Read) → In rs r → In (reads_of net v) r).
            let place = number_of (reads_of net v) u (all u n) in
            let before = ordered.after i v u at (record { place = place.0; is = place.1 }) in
            let same : p ≡ before.0 = ordered.once p before.0 u is before.2 in
            absurd (omega (arith, same, from, before.1)))
            (reads_either m so.is v))
            (all_cases rs u m h)

        pub behind_more : Behind order i more
        behind_more = record { is = more_roots; closed = λ p u from is h. by p u from is h (cases_eq p i) }
          where
            by : (p : ℕ) (u : Read) → i ≤ p → slice_get order p ≡ Some u → has more u ≡ true → (p ≡ i) ⊎ (p ≡ i → ⊥) → AreMarked more (whole_reads net u)
            by p u from is h (inl e) =
                let same : u ≡ v = two_items order i u v (subst (λ (j : ℕ). slice_get order j ≡ Some u) e is) at in
                subst (λ (x : Read). AreMarked more (whole_reads net x)) (sym same) (all_new net rs m so.is.long (λ r n. whole_reads_of net whole v r n))
            by p u from is h (inr n) =
                still_marked rs (whole_reads net u) m (so.closed p u (omega (arith, n, from)) is (old p u (omega (arith, n, from)) is h))

    -- at the front of the order all is done
    pub behind_all : IsOrder net order → (m : Marked) → Behind order 0 m → AreNeeded net m
    behind_all ordered m so = record {
      leaves = so.is.long.leaves;
      nodes = so.is.long.nodes;
      needed = so.is.needed;
      roots = so.is.roots;
      writes = so.is.writes;
      closed = λ v h. let at = ordered.all v (of_marked net v m so.is.long h) in so.closed at.0 v (omega arith) at.1 h;
    }
