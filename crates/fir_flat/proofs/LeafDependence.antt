-- A leaf of a flat net hangs on the leaves on which that of the circuit depends, and on no others.
use Rattle.std.proofs.Common.{◌≡◌, ◌↔◌, ⊎_elim, ℕ, ◌<◌, ◌≤◌, List, [], ◌∷◌, ◌++◌, length, Bool, true, false, Option, Some, None, option_map, refl, sym, ap, ◌∙◌, subst, inl, inr, ◌⊎◌, arith, append-nil}
use Rattle.std.specs.Prelude.{if◌then◌else◌, slice_get}
use Rattle.std.proofs.lemmas.Bool.{cases_lt}
use Rattle.std.proofs.lemmas.List.{get_or_past}
use Rattle.fir_base.specs.Lists.{In}
use Rattle.fir_base.proofs.Elements.{there}
use Rattle.fir_base.proofs.Members.{in_either, in_left, in_right}
use Rattle.fir_bits.specs.declared.types.NumTy.{NumTy}
use Rattle.fir_meaning.specs.working.Choices.{LiveReads}
use Rattle.fir_meaning.specs.working.CircuitDependence.{CircuitDepends}
use Rattle.fir_meaning.specs.working.Dependence.{RoleDepends, reading_reads, reads_if, reset_reads}
use Rattle.fir_meaning.specs.working.LeafCircuits.{LeafCircuit, role_of}
use Rattle.fir_meaning.specs.working.LeafModules.{LeafDeclared, LeafModule, LeafReset, Reading, depth_at, leaf_at, no_leaf}
use Rattle.fir_meaning.specs.LeafTypes.{LeafType, a_clock, number}
use Rattle.fir_meaning.specs.working.LeafModules as leafed
use Rattle.fir_meaning.specs.working.TermReads.{reads}
use Rattle.fir_meaning.specs.working.TermValues.{Holds}
use Rattle.fir_net.specs.declared.leaf.Leaf.{Leaf}
use Rattle.fir_net.specs.declared.leaf.Reset.{Reset}
use Rattle.fir_net.specs.declared.leaf.ResetKind.{ResetKind}
use Rattle.fir_net.specs.declared.leaf.ResetKind.TheVariants.{Asynchronous, Synchronous}
use Rattle.fir_net.specs.declared.leaf.Role.{Role}
use Rattle.fir_net.specs.declared.net.FlatNet.{FlatNet}
use Rattle.fir_net.specs.declared.node.Node.{Node}
use Rattle.fir_net.specs.declared.reads.Read.{Read}
use Rattle.fir_net.specs.declared.reads.Read.TheVariants as read
use Rattle.fir_net.specs.working.Dependence.{clock_reads, kind_reads, leaf_reads, reads_of, role_reads}
use Rattle.fir_net.specs.working.Dependence as in_net
use Rattle.fir_net.specs.working.IsNet.{IsNet}
use Rattle.fir_loop.specs.working.IsLoop.{HangsOn, HangsThrough}
use Rattle.fir_loop.proofs.NetReads.{reads_from}
use Rattle.fir_connect.specs.working.Drivers.{driver_of}
use Rattle.fir_connect.specs.working.Lowered.{lowered}
use Rattle.fir_connect.specs.working.NetReads.{each_read, net_reads}
use Rattle.fir_connect.specs.working.NetRoles.{NetReset, NetRole, computed, driven, net_reset, net_role, net_role_at, net_types, pipe, reading, register, source}
use Rattle.fir_connect.specs.working.NetTerms.{NetTerm, NetTerms, leaf, no_terms, term}
use Rattle.fir_connect.specs.working.RoleLaws.{ReadsTheSame, ResetReads}
use Rattle.fir_connect.proofs.RoleReading.{roles_read_the_same}
use Rattle.fir_merge.specs.working.NodeTerms.{read_terms, terms}
use Rattle.fir_connect.specs.working.CircuitModules.{as_module}
use Rattle.fir_flat.specs.working.FlatCircuits.{IsClockedBy, IsDrivenBy, IsFlatOf, IsResetOf, IsRoleOf, NamesClock, needs_term, reset_kept, stands_for}
use Rattle.fir_flat.proofs.NeedTerms.{needs_read}
use Rattle.fir_flat.proofs.ReachedLeaves.{hangs_is_read}

-- the terms on which a leaf hangs within a tick, by its role in a net
abbrev kept_terms : Bool → NetReset → NetTerms
kept_terms true r = term r.condition (term r.init no_terms)
kept_terms false r = no_terms

abbrev reset_terms : Option NetReset → NetTerms
reset_terms None = no_terms
reset_terms (Some r) = kept_terms r.is_async r

abbrev hanging : NetRole → NetTerms
hanging source = no_terms
hanging (driven d) = term d no_terms
hanging (computed d) = term d no_terms
hanging (register c reset d) = reset_terms reset
hanging (reading e) = term (leaf e.address) (term (needs_term e.needs) no_terms)
hanging (pipe e c u) = no_terms

-- what a leaf of the net reads stands for these, and the clock leaf that it reads is the one that they read
module _ (nodes : List Node) where
  abbrev stand_for : List Read → NetTerms
  stand_for rs = read_terms (terms nodes) rs

  -- of a register: a reset that is not asynchronous may be gone, and what is left stands for the reset and is of its kind
  abbrev IsKept : Option Reset → Option NetReset → Type 0
  IsKept None None = Unit {0}
  IsKept None (Some m) = m.is_async ≡ false
  IsKept (Some r) (Some m) =
      (r.kind ≡ (if m.is_async then Asynchronous else Synchronous)) × (stands_for nodes r.condition ≡ m.condition) × (stands_for nodes r.init ≡ m.init)
  IsKept (Some r) None = ⊥

  is_kept : (own : Option Reset) (m : Option NetReset) → IsResetOf nodes own (reset_kept m) → IsKept own m
  is_kept None None is = tt
  is_kept (Some r) None is = absurd is
  is_kept own (Some m) is = by own m.is_async is
    where
      by : (own : Option Reset) (b : Bool) → IsResetOf nodes own (if b then Some m else None) → IsKept own (Some (record { is_async = b; condition = m.condition; init = m.init }))
      by None false is = refl
      by None true is = absurd is
      by (Some r) false is = absurd is
      by (Some r) true is = is

  reset_stands : (own : Option Reset) (m : Option NetReset) → IsKept own m → stand_for (in_net.reset_reads own) ≡ reset_terms m
  reset_stands None None kept = refl
  reset_stands None (Some m) kept = ap (λ (b : Bool). kept_terms b m) (sym kept)
  reset_stands (Some r) (Some m) kept = ap (λ (k : ResetKind). stand_for (kind_reads k r.condition r.init)) kept.0 ∙ either m.is_async
    where
      either : (b : Bool) → stand_for (kind_reads (if b then Asynchronous else Synchronous) r.condition r.init) ≡ kept_terms b m
      either true = rw (kept.1, kept.2) refl
      either false = refl
  reset_stands (Some r) None kept = absurd kept

  driven_stands : (x : Role) (r : Read) → IsDrivenBy x r → stand_for (role_reads x) ≡ term (stands_for nodes r) no_terms
  driven_stands x r (inl e) = ap (λ (y : Role). stand_for (role_reads y)) e
  driven_stands x r (inr e) = ap (λ (y : Role). stand_for (role_reads y)) e

  clock_stands : (d : NetTerm) (o : Option ℕ) → NamesClock d o → each_read (stand_for (clock_reads o)) ≡ each_read (term d no_terms)
  clock_stands d None is = ap (λ e. each_read (term e no_terms)) (sym is.1)
  clock_stands d (Some y) is = ap (λ e. each_read (term e no_terms)) (sym is)

  clocked_stands : (x : Role) (o : Option ℕ) → IsClockedBy x o → stand_for (role_reads x) ≡ stand_for (clock_reads o)
  clocked_stands x o (inl e) = ap (λ (y : Role). stand_for (role_reads y)) e
  clocked_stands x o (inr e) = ap (λ (y : Role). stand_for (role_reads y)) e

  number_stands : (holds : Holds) (k : ℕ) (x : Role) (t : NumTy) (n : NetRole) → IsRoleOf nodes holds k x (number t) n
      → stand_for (role_reads x) ≡ hanging n
  number_stands holds k x t source is = ap (λ (y : Role). stand_for (role_reads y)) is
  number_stands holds k x t (driven d) is = driven_stands x is.0 is.1 ∙ ap (λ e. term e no_terms) is.2
  number_stands holds k x t (computed d) is = driven_stands x is.0 (inr is.1) ∙ ap (λ e. term e no_terms) is.2
  number_stands holds k x t (register c reset d) is =
      ap (λ (y : Role). stand_for (role_reads y)) is.3 ∙ reset_stands is.1 reset (is_kept is.1 reset is.5)
  number_stands holds k x t (reading e) is =
      ap (λ (y : Role). stand_for (role_reads y)) is.1
      ∙ ap (λ (r : Read). term (stands_for nodes r) (term (stands_for nodes is.0.enable) no_terms)) is.2.address
      ∙ ap (λ (d : NetTerm). term (leaf e.address) (term d no_terms)) is.2.enable
  number_stands holds k x t (pipe e c u) is = ap (λ (y : Role). stand_for (role_reads y)) is.1

  role_stands : (holds : Holds) (k : ℕ) (x : Role) (h : LeafType) (n : NetRole) → IsRoleOf nodes holds k x h n
      → each_read (stand_for (role_reads x)) ≡ each_read (hanging n)
  role_stands holds k x (number t) n is = ap each_read (number_stands holds k x t n is)
  role_stands holds k x a_clock source is = ap (λ (y : Role). each_read (stand_for (role_reads y))) is
  role_stands holds k x a_clock (driven d) is = ap each_read (clocked_stands x is.0 is.1) ∙ clock_stands d is.0 is.2
  role_stands holds k x a_clock (computed d) is = ap each_read (clocked_stands x is.0 (inr is.1)) ∙ clock_stands d is.0 is.2
  role_stands holds k x a_clock (register c reset d) is = absurd is
  role_stands holds k x a_clock (reading e) is = absurd is
  role_stands holds k x a_clock (pipe e c u) is = absurd is

-- and these read what the leaf of the circuit depends on
joined : (xs ys zs ws : List ℕ) (y : ℕ) → In xs y ↔ In zs y → In ys y ↔ In ws y → In (xs ++ ys) y ↔ In (zs ++ ws) y
joined xs ys zs ws y first second = (
  λ m. ⊎_elim (λ (n : In xs y). in_left zs ws y (first.0 n)) (λ (n : In ys y). in_right zs ws y (second.0 n)) (in_either xs ys y m),
  λ m. ⊎_elim (λ (n : In zs y). in_left xs ys y (first.1 n)) (λ (n : In ws y). in_right xs ys y (second.1 n)) (in_either zs ws y m),
)

-- a read of an array reads its address and what enables it
reading_read : (e : Reading) → each_read (hanging (reading e)) ≡ reading_reads e
reading_read e = ap (λ (xs : List ℕ). e.address ∷ xs) (append-nil (net_reads (needs_term e.needs)) ∙ needs_read e.needs)

module _ (m : LeafModule) (x y : ℕ) where
  lone_reads : (d : NetTerm) (P : Type 0) → In (net_reads d) y ↔ P → In (each_read (term d no_terms)) y ↔ P
  lone_reads d P same = rw (append-nil (net_reads d)) same

  kept_depends : (b : Bool) (r : LeafReset) (n : NetReset) → ResetReads (Some r) (Some n) → In (each_read (kept_terms b n)) y ↔ In (reads_if b r) y
  kept_depends true r n same = rw (append-nil (net_reads n.init)) (joined (net_reads n.condition) (net_reads n.init) _ _ y (same.0 y) (same.1 y))
  kept_depends false r n same = (λ i. i, λ i. i)

  reset_depends : (reset : Option LeafReset) → ResetReads reset (option_map (net_reset (net_types m)) reset)
      → In (each_read (reset_terms (option_map (net_reset (net_types m)) reset))) y ↔ In (reset_reads reset) y
  reset_depends None same = (λ i. i, λ i. i)
  reset_depends (Some r) same = kept_depends r.is_async r (net_reset (net_types m) r) same

  role_depends : (r : leafed.Role) → ReadsTheSame m x r (net_role (net_types m) (depth_at m x) m.body x r)
      → In (each_read (hanging (net_role (net_types m) (depth_at m x) m.body x r))) y ↔ RoleDepends m.body (depth_at m x) x r y
  role_depends leafed.source same = (λ i. i, λ i. i)
  role_depends leafed.sink same = lone_reads (driver_of (net_types m) (depth_at m x) false m.body x) (LiveReads (depth_at m x) x m.body y) (same y)
  role_depends (leafed.computed e) same = lone_reads (lowered (net_types m) e) (In (reads e) y) (same y)
  role_depends (leafed.register clock reset) same = reset_depends reset same.1
  role_depends (leafed.reading e) same =
      subst (λ (xs : List ℕ). In xs y ↔ In (reading_reads e) y) (sym (reading_read e)) (λ i. i, λ i. i)
  role_depends (leafed.pipe e clock under) same = (λ i. i, λ i. i)

module _ (c : LeafCircuit) (net : FlatNet) (whole : IsNet net) (flat : IsFlatOf c net) (x y : ℕ) where
  pub depends_within : CircuitDepends c x y → x < length c.leaves
  depends_within d = by (cases_lt x (length c.leaves))
    where
      by : (x < length c.leaves) ⊎ (length c.leaves ≤ x) → x < length c.leaves
      by (inl within) = within
      by (inr past) = absurd (subst (λ (l : LeafDeclared). RoleDepends c.body l.depth x l.role y) (get_or_past c.leaves x no_leaf past) d)

  hangs_within : HangsOn net x y → x < length net.leaves
  hangs_within h = by h.nodes h.through
    where
      by : (nodes : List ℕ) → HangsThrough net (read.Leaf x) nodes (read.Leaf y) → x < length net.leaves
      by [] r = reads_from net (read.Leaf x) (read.Leaf y) r
      by (n ∷ ns) r = reads_from net (read.Leaf x) (read.Node n) r.0

  -- both of a leaf that is there
  hangs_there : (l : Leaf) → slice_get net.leaves x ≡ Some l
      → In (each_read (stand_for net.nodes (reads_of net (read.Leaf x)))) y ↔ CircuitDepends c x y
  hangs_there l at =
      let stands : each_read (stand_for net.nodes (reads_of net (read.Leaf x))) ≡ each_read (hanging (net_role_at (as_module c) x)) =
      ap (λ (o : Option Leaf). each_read (stand_for net.nodes (leaf_reads o))) at
      ∙ role_stands net.nodes (net_types (as_module c)) x l.role (leaf_at c.leaves x).holds (net_role_at (as_module c) x) (flat.roles x l at)
      in
      subst (λ (xs : List ℕ). In xs y ↔ CircuitDepends c x y) (sym stands)
      (role_depends (as_module c) x y (role_of c x) (roles_read_the_same (as_module c) x))

  pub depends_the_same : HangsOn net x y ↔ CircuitDepends c x y
  depends_the_same = (
    λ h. let l = there net.leaves x (hangs_within h) in (hangs_there l.0 l.1).0 ((hangs_is_read net whole y (read.Leaf x)).0 (h.nodes, h.through)),
    λ d.
        let count = flat.count in
        let within = depends_within d in
        let l = there net.leaves x (omega (arith, count, within)) in
        let h = (hangs_is_read net whole y (read.Leaf x)).1 ((hangs_there l.0 l.1).1 d) in
        record { nodes = h.0; through = h.1 },
  )
