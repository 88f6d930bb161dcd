-- Where leaves depend on one another and inits read by number as they do by path, what an asynchronous init reaches is the same.
use Rattle.std.proofs.Common.{◌≡◌, ◌↔◌, ℕ, ◌<◌, List, [], ◌∷◌, map, length, Some, None, IsTrue, refl, sym, ap, ap₂, ◌∙◌, subst}
use Rattle.std.specs.List.{AllByRecursion}
use Rattle.fir_base.specs.Lists.{Distinct, In}
use Rattle.fir_base.proofs.Members.{in_map, in_map_from}
use Rattle.fir_ast.specs.Expressions.{Expression}
use Rattle.fir_ast.specs.Faults.{Fault}
use Rattle.fir_meaning.specs.LeafPaths.{LeafPath, path_text}
use Rattle.fir_meaning.specs.SourceCircuits.{PlacedLeaf, all_leaves, leaf_path}
use Rattle.fir_meaning.specs.SourceDependence.{IsDependenceWalk, from_main}
use Rattle.fir_meaning.specs.SourceDesigns.{SourceDesign}
use Rattle.fir_meaning.specs.SourceInits.{ShowsAsyncInit, init_fault, is_input_or_state}
use Rattle.fir_meaning.specs.SourceLoops.{StandsAt}
use Rattle.fir_meaning.specs.SourceReads as by_path
use Rattle.fir_meaning.specs.SourceRoles as sources
use Rattle.fir_meaning.specs.SourceRoles.{SourceReset, SourceRole}
use Rattle.fir_meaning.specs.TypedScopes.{TypedScope}
use Rattle.fir_meaning.specs.working.CircuitDependence as over
use Rattle.fir_meaning.specs.working.LeafCircuits.{LeafCircuit, role_of}
use Rattle.fir_meaning.specs.working.LeafModules as role
use Rattle.fir_meaning.specs.working.LeafModules.{LeafReset, Role}
use Rattle.fir_meaning.specs.working.LeafNames.{place_of_leaf}
use Rattle.fir_meaning.specs.working.TermReads.{reads}
use Rattle.fir_meaning.specs.working.Terms.{Term}
use Rattle.fir_leaf.specs.working.InitFaults as numbered
use Rattle.fir_leaf.specs.working.SoundDesigns.{circuit_path}
use Rattle.fir_design.proofs.InStep.{SameRoleBelow}
use Rattle.fir_source_faults.proofs.LoopWalks.{SameDependence, distinct_by_number, distinct_by_path, texts, walk_by_path}
use Rattle.fir_source_faults.proofs.RoleReads.{init_reads, path_inits}

-- a leaf of a tree beside one of a table, with what its init reads
pub record InitBeside (c : LeafCircuit) (x : ℕ) (p : PlacedLeaf) : Type 0 where
  pub path : circuit_path c x ≡ leaf_path p
  pub role : SameRoleBelow c p.at (role_of c x) p.leaf.role
  pub inits : map (circuit_path c) (init_reads (role_of c x)) ≡ from_main p.at (path_inits p.leaf.role)

pub record SameInitLeaves (c : LeafCircuit) (t : SourceDesign) : Type 0 where
  pub by_number : (x : ℕ) → x < length c.leaves → (p : PlacedLeaf) × In (all_leaves t) p × InitBeside c x p
  pub by_path : (p : PlacedLeaf) → In (all_leaves t) p → (x : ℕ) × (x < length c.leaves) × InitBeside c x p
  -- what has the path of a leaf is that leaf
  pub one_number : (z y : ℕ) → y < length c.leaves → circuit_path c z ≡ circuit_path c y → z ≡ y

-- a register with a reset in the tree, and in the table
record IsTreeRegister (q : SourceRole) (r : LeafReset) : Type 0 where
  scope : TypedScope
  clock : Expression
  reset : SourceReset
  within : LeafPath
  is : q ≡ sources.register scope clock (Some reset) within
  is_async : r.is_async ≡ reset.is_async

record IsTableRegister (r : Role) (reset : SourceReset) : Type 0 where
  clock : Term
  own : LeafReset
  is : r ≡ role.register clock (Some own)
  is_async : own.is_async ≡ reset.is_async

module _ (c : LeafCircuit) (at : LeafPath) where
  tree_register : (clock : Term) (r : LeafReset) (q : SourceRole) → SameRoleBelow c at (role.register clock (Some r)) q → IsTreeRegister q r
  tree_register clock r (sources.register scope e (Some reset) within) h =
      record { scope = scope; clock = e; reset = reset; within = within; is = refl; is_async = h.1.is_async }
  tree_register clock r (sources.register scope e None within) h = absurd h.1
  tree_register clock r _ h = absurd h

  table_register : (r : Role) (scope : TypedScope) (clock : Expression) (reset : SourceReset) (within : LeafPath)
      → SameRoleBelow c at r (sources.register scope clock (Some reset) within) → IsTableRegister r reset
  table_register (role.register k (Some own)) scope clock reset within h = record { clock = k; own = own; is = refl; is_async = h.1.is_async }
  table_register (role.register k None) scope clock reset within h = absurd h.1
  table_register _ scope clock reset within h = absurd h

  -- inputs and what shows state are so in both
  same_end : (r : Role) (q : SourceRole) → SameRoleBelow c at r q → numbered.ends_init r ≡ is_input_or_state q
  same_end role.source sources.source h = refl
  same_end role.sink sources.sink h = refl
  same_end (role.computed t) (sources.computed scope e p) h = refl
  same_end (role.register k r) (sources.register scope clock reset p) h = refl
  same_end (role.reading r) (sources.reading p) h = refl
  same_end (role.pipe r x u) (sources.pipe p clock kept) h = refl
  same_end _ _ h = absurd h

module _ (c : LeafCircuit) (t : SourceDesign) (s : SameDependence c t) (i : SameInitLeaves c t) where
  abbrev path : ℕ → LeafPath
  path = circuit_path c

  abbrev AreWithin : List ℕ → Type 0
  AreWithin = AllByRecursion (λ x. x < length c.leaves)

  -- from numbers to paths
  walk_within : (x : ℕ) (ys : List ℕ) (final : ℕ) → final < length c.leaves → over.IsWalk c x ys final → AreWithin (x ∷ ys)
  walk_within x [] final lt h = (subst (λ z. z < length c.leaves) (sym h) lt, tt)
  walk_within x (y ∷ ys) final lt h = (s.within x y h.0, walk_within y ys final lt h.1)

  shown_by_path : (f : Fault) → numbered.ShowsAsyncInit c f → ShowsAsyncInit t f
  shown_by_path f h =
      let within = walk_within h.first h.rest h.final h.final_within h.walk in
      let p = i.by_number h.leaf h.within in
      let q = i.by_number h.final h.final_within in
      let r = tree_register c p.0.at h.clock h.reset p.0.leaf.role (subst (λ z. SameRoleBelow c p.0.at z p.0.leaf.role) h.is_register p.2.role) in
      let read : map path (reads h.reset.init) ≡ from_main p.0.at (by_path.reads r.reset.scope r.reset.init r.within) =
      sym (ap (λ z. map path (init_reads z)) h.is_register) ∙ p.2.inits ∙ ap (λ z. from_main p.0.at (path_inits z)) r.is in
      record {
        leaf = p.0;
        among = p.1;
        scope = r.scope;
        clock = r.clock;
        reset = r.reset;
        within = r.within;
        is_register = r.is;
        is_async = subst IsTrue r.is_async h.is_async;
        first = path h.first;
        read = subst (λ ps. In ps (path h.first)) read (in_map path (reads h.reset.init) h.first h.read);
        rest = map path h.rest;
        final = q.0;
        walk =
            subst (IsDependenceWalk t (path h.first) (map path h.rest)) q.2.path (walk_by_path c t s h.first h.rest h.final within.1 h.walk);
        is_final = q.1;
        ends = subst IsTrue (same_end c q.0.at (role_of c h.final) q.0.leaf.role q.2.role) h.ends;
        distinct = distinct_by_path c t s (h.first ∷ h.rest) within h.distinct;
        place = place_of_leaf c h.leaf;
        stands = subst (λ z. StandsAt t z (place_of_leaf c h.leaf)) p.2.path (s.stands h.leaf h.within);
        is = h.is ∙ ap (init_fault (place_of_leaf c h.leaf)) (texts c t s (h.first ∷ h.rest));
      }

  -- from paths to numbers
  record Numbers (p : LeafPath) (qs : List LeafPath) : Type 0 where
    first : ℕ
    rest : List ℕ
    first_within : first < length c.leaves
    rest_within : AreWithin rest
    first_is : path first ≡ p
    rest_is : map path rest ≡ qs

  numbers_of : (p : LeafPath) (qs : List LeafPath) (final : ℕ) → final < length c.leaves → IsDependenceWalk t p qs (path final) → Numbers p qs
  numbers_of p [] final lt h = record { first = final; rest = []; first_within = lt; rest_within = tt; first_is = sym h; rest_is = refl }
  numbers_of p (q ∷ qs) final lt h =
      let x = s.numbered p q h.0 in
      let more = numbers_of q qs final lt h.1 in
      record {
        first = x.0;
        rest = more.first ∷ more.rest;
        first_within = x.1;
        rest_within = (more.first_within, more.rest_within);
        first_is = x.2;
        rest_is = ap₂ (λ y ys. y ∷ ys) more.first_is more.rest_is;
      }

  walk_by_number : (x : ℕ) (ys : List ℕ) (final : ℕ) → x < length c.leaves → AreWithin ys → final < length c.leaves
      → IsDependenceWalk t (path x) (map path ys) (path final) → over.IsWalk c x ys final
  walk_by_number x [] final lt within less h = s.once x final lt less h
  walk_by_number x (y ∷ ys) final lt within less h = (s.by_number x y lt within.0 h.0, walk_by_number y ys final within.0 within.1 less h.1)

  shown_by_number : (f : Fault) → ShowsAsyncInit t f → numbered.ShowsAsyncInit c f
  shown_by_number f h =
      let n = i.by_path h.leaf h.among in
      let m = i.by_path h.final h.is_final in
      let along : IsDependenceWalk t h.first h.rest (path m.0) = subst (IsDependenceWalk t h.first h.rest) (sym m.2.path) h.walk in
      let w = numbers_of h.first h.rest m.0 m.1 along in
      let all : h.first ∷ h.rest ≡ map path (w.first ∷ w.rest) = ap₂ (λ (q : LeafPath) qs. q ∷ qs) (sym w.first_is) (sym w.rest_is) in
      let walk : IsDependenceWalk t (path w.first) (map path w.rest) (path m.0) =
      subst (λ qs. IsDependenceWalk t (path w.first) qs (path m.0)) (sym w.rest_is)
      (subst (λ q. IsDependenceWalk t q h.rest (path m.0)) (sym w.first_is) along) in
      let r = table_register c h.leaf.at (role_of c n.0) h.scope h.clock h.reset h.within
      (subst (SameRoleBelow c h.leaf.at (role_of c n.0)) h.is_register n.2.role) in
      let read : map path (reads r.own.init) ≡ from_main h.leaf.at (by_path.reads h.reset.scope h.reset.init h.within) =
      sym (ap (λ z. map path (init_reads z)) r.is) ∙ n.2.inits ∙ ap (λ z. from_main h.leaf.at (path_inits z)) h.is_register in
      let from = in_map_from path (reads r.own.init) h.first (subst (λ ps. In ps h.first) (sym read) h.read) in
      let place : h.place ≡ place_of_leaf c n.0 = s.one_place n.0 h.place n.1 (subst (λ z. StandsAt t z h.place) (sym n.2.path) h.stands) in
      record {
        leaf = n.0;
        within = n.1;
        clock = r.clock;
        reset = r.own;
        is_register = r.is;
        is_async = subst IsTrue (sym r.is_async) h.is_async;
        first = w.first;
        rest = w.rest;
        final = m.0;
        read = subst (In (reads r.own.init)) (i.one_number from.0 w.first w.first_within (from.2 ∙ sym w.first_is)) from.1;
        walk = walk_by_number w.first w.rest m.0 w.first_within w.rest_within m.1 walk;
        final_within = m.1;
        ends = subst IsTrue (sym (same_end c h.final.at (role_of c m.0) h.final.leaf.role m.2.role)) h.ends;
        distinct = distinct_by_number c t s (w.first ∷ w.rest) (subst Distinct all h.distinct);
        is = h.is ∙ ap₂ init_fault place (ap (map path_text) all ∙ sym (texts c t s (w.first ∷ w.rest)));
      }

  pub same_inits : (f : Fault) → numbered.ShowsAsyncInit c f ↔ ShowsAsyncInit t f
  same_inits f = (shown_by_path f, shown_by_number f)
