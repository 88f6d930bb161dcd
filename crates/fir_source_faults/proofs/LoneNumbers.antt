-- In a design without instances every leaf keeps its number: its statements, and what its roles read, are those of its module.
use Rattle.std.proofs.Common.{◌≡◌, ℕ, ◌+◌, List, [], ◌∷◌, ◌++◌, map, Bool, true, false, nat_lt, Option, Some, None, option_map, refl, ap, ap₂, arith}
use Rattle.std.proofs.lemmas.Bool.{ltb-true, ltb-false}
use Rattle.fir_meaning.specs.working.Dependence.{reads_if, reset_reads}
use Rattle.fir_meaning.specs.working.LeafBlocks.{joined}
use Rattle.fir_meaning.specs.working.LeafBlocks as over
use Rattle.fir_meaning.specs.working.LeafModules as role
use Rattle.fir_meaning.specs.working.LeafModules.{LeafModule, LeafReset, Need, Reading, Role}
use Rattle.fir_meaning.specs.working.TermReads.{reads}
use Rattle.fir_meaning.specs.working.Terms.{Term, zeros, absent, literal, read, operation, mux, validif, Picks, no_picks, pick, Terms, no_terms, term}
use Rattle.fir_meaning.specs.working.Designs.{Item, drive, when, instance, Items, done, then, block_of, statement_of}
use Rattle.fir_meaning.specs.working.FlatDesigns.{count, count_all, flat, flat_all}
use Rattle.fir_meaning.specs.working.Numberings.{Numbering, moved, moved_need, moved_picks, moved_reset, moved_role, moved_terms, number, numbering}
use Rattle.fir_leaf.proofs.MovedTerms.{number_own, number_port}
use Rattle.fir_design.proofs.HeldInstances.{all_held_in, held_in}
use Rattle.fir_source_faults.proofs.RoleReads.{role_reads}

abbrev mutual
  pub HasNoInstance : Item → Type 0
  HasNoInstance (drive p b ps t) = Unit {0}
  HasNoInstance (when p c a b) = HaveNoInstances a × HaveNoInstances b
  HasNoInstance (instance i d) = ⊥

  pub HaveNoInstances : Items → Type 0
  HaveNoInstances done = Unit {0}
  HaveNoInstances ((then) i is) = HasNoInstance i × HaveNoInstances is

-- where none is held
none_of_both : {A : Type 0} (xs ys : List A) → xs ++ ys ≡ [] → (xs ≡ []) × (ys ≡ [])
none_of_both [] ys e = (refl, e)
none_of_both (x ∷ xs) ys e = absurd (cc)

mutual
  no_instance : (k : ℕ) (i : Item) → held_in k (statement_of i) ≡ [] → HasNoInstance i
  no_instance k (drive p b ps t) e = tt
  no_instance k (when p c a b) e =
      let both = none_of_both (all_held_in (k + 1) (block_of a)) (all_held_in (k + 1) (block_of b)) e in
      (no_instances_in (k + 1) a both.0, no_instances_in (k + 1) b both.1)
  no_instance k (instance i d) e = absurd (cc)

  pub no_instances_in : (k : ℕ) (is : Items) → all_held_in k (block_of is) ≡ [] → HaveNoInstances is
  no_instances_in k done e = tt
  no_instances_in k ((then) i is) e =
      let both = none_of_both (held_in k (statement_of i)) (all_held_in k (block_of is)) e in
      (no_instance k i both.0, no_instances_in k is both.1)

-- no leaves are counted
mutual
  count_none : (i : Item) → HasNoInstance i → count i ≡ 0
  count_none (drive p b ps t) h = refl
  count_none (when p c a b) h = omega (arith, counts_none a h.0, counts_none b h.1)
  count_none (instance i d) h = absurd h

  pub counts_none : (is : Items) → HaveNoInstances is → count_all is ≡ 0
  counts_none done h = refl
  counts_none ((then) i is) h = omega (arith, count_none i h.0, counts_none is h.1)

-- the numbers of a module that stands alone
pub lone_number : (m : LeafModule) (x : ℕ) → number (numbering m 0 m.port_leaves) x ≡ x
lone_number m x = go (nat_lt x m.port_leaves) refl
  where
    go : (b : Bool) → nat_lt x m.port_leaves ≡ b → number (numbering m 0 m.port_leaves) x ≡ x
    go true e = omega (arith, number_port (numbering m 0 m.port_leaves) x (ltb-true x m.port_leaves e))
    go false e =
        let le = ltb-false x m.port_leaves e in omega (arith, le, number_own (numbering m 0 m.port_leaves) x le)

module _ (n : Numbering) (same : (x : ℕ) → number n x ≡ x) where
  mutual
    moved_same : (t : Term) → moved n t ≡ t
    moved_same zeros = refl
    moved_same (absent t ps) = ap (absent t) (picks_same ps)
    moved_same (literal l) = refl
    moved_same (read b ps) = ap₂ read (same b) (picks_same ps)
    moved_same (operation op ts ks) = ap (λ us. operation op us ks) (terms_same ts)
    moved_same (mux c a b) = rw (moved_same c, moved_same a, moved_same b) refl
    moved_same (validif c a) = ap₂ validif (moved_same c) (moved_same a)

    picks_same : (ps : Picks) → moved_picks n ps ≡ ps
    picks_same no_picks = refl
    picks_same (pick ps p i k each) = ap₂ (λ qs j. pick qs p j k each) (picks_same ps) (moved_same i)

    terms_same : (ts : Terms) → moved_terms n ts ≡ ts
    terms_same no_terms = refl
    terms_same (term t ts) = ap₂ term (moved_same t) (terms_same ts)

  mutual
    flat_same : (free : ℕ) (i : Item) → HasNoInstance i → flat n free i ≡ over.then (statement_of i) over.done
    flat_same free (drive p b ps t) h = rw (same b, picks_same ps, moved_same t) refl
    flat_same free (when p c a b) h = rw (moved_same c, body_same free a h.0, body_same (free + count_all a) b h.1) refl
    flat_same free (instance i d) h = absurd h

    -- statements without instances
    pub body_same : (free : ℕ) (is : Items) → HaveNoInstances is → flat_all n free is ≡ block_of is
    body_same free done h = refl
    body_same free ((then) i is) h = ap₂ joined (flat_same free i h.0) (body_same (free + count i) is h.1)

  if_same : (b : Bool) (c d i j : Term) → c ≡ d → i ≡ j
      → reads_if b (record { is_async = b; condition = c; init = i }) ≡ reads_if b (record { is_async = b; condition = d; init = j })
  if_same b c d i j e f = ap₂ (λ x y. reads_if b (record { is_async = b; condition = x; init = y })) e f

  reset_same : (r : Option LeafReset) → reset_reads (option_map (moved_reset n) r) ≡ reset_reads r
  reset_same None = refl
  reset_same (Some r) = if_same r.is_async (moved n r.condition) r.condition (moved n r.init) r.init (moved_same r.condition) (moved_same r.init)

  needs_same : (xs : List Need) → map (λ (x : Need). x.leaf) (map (moved_need n) xs) ≡ map (λ (x : Need). x.leaf) xs
  needs_same [] = refl
  needs_same (x ∷ xs) = ap₂ (λ y ys. y ∷ ys) (same x.leaf) (needs_same xs)

  -- what a role reads
  pub role_reads_same : (array : ℕ) (r : Role) → role_reads (moved_role n array r) ≡ role_reads r
  role_reads_same array role.source = refl
  role_reads_same array role.sink = refl
  role_reads_same array (role.computed t) = ap reads (moved_same t)
  role_reads_same array (role.register c r) = reset_same r
  role_reads_same array (role.reading r) = ap₂ (λ y ys. y ∷ ys) (same r.address) (needs_same r.needs)
  role_reads_same array (role.pipe r c u) = refl
