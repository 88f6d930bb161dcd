-- The roles of the leaves of a design's circuit: those of the main module's ports, and those that modules give to their other leaves, moved.
use Rattle.std.proofs.Common.{◌≡◌, ℕ, ◌<◌, ◌≤◌, List, [], Bool, true, false, nat_lt, length, slice_get, Some, refl, sym, ap, ◌∙◌, subst, inl, inr, ◌⊎◌, arith, length-append}
use Rattle.std.proofs.lemmas.Bool.{ltb-false, ltb-true}
use Rattle.std.proofs.lemmas.List.{length-take}
use Rattle.std.proofs.lemmas.Option.{same_Some}
use Rattle.fir_base.specs.Lists.{In}
use Rattle.fir_base.proofs.Elements.{get_in}
use Rattle.fir_ast.specs.Circuits.{CircuitTree}
use Rattle.fir_meaning.specs.ModuleScenes.{Scene}
use Rattle.fir_meaning.specs.SourceDesigns.{SourceDesign}
use Rattle.fir_meaning.specs.working.Designs.{IsDesignOf, Items, made_of}
use Rattle.fir_meaning.specs.working.Elaborated.{views}
use Rattle.fir_meaning.specs.working.FlatLeaves.{leaves_below}
use Rattle.fir_meaning.specs.working.Flattened.{flattened, port_leaves}
use Rattle.fir_meaning.specs.working.LeafCircuits.{role_of}
use Rattle.fir_meaning.specs.working.LeafedModules.{leafed_module, module_leaves}
use Rattle.fir_meaning.specs.working.LeafModules.{LeafDeclared, LeafModule, Role, computed, leaf_at, pipe, reading, register, role_at, sink, source}
use Rattle.fir_meaning.specs.working.Numberings.{Numbering, moved, moved_role, number, numbering}
use Rattle.fir_meaning.specs.working.Terms.{Term, absent, literal, mux, operation, read, validif, zeros}
use Rattle.fir_design.specs.working.MeaningLaws.{AreDesigns}
use Rattle.fir_design.proofs.FineScenes.{IsFineScene, fine_scene}
use Rattle.fir_design.proofs.NumberedScenes.{scene_numbered, view_at}
use Rattle.fir_design_faults.proofs.MovedReads.{same_picked}
use Rattle.fir_design_faults.proofs.SceneReads.{scene_reading}
use Rattle.fir_connect.specs.working.CircuitModules.{as_module}
use Rattle.fir_copies.specs.working.Copies.{Copy, copies_of}
use Rattle.fir_copies.proofs.PortRoles.{port_role_is}
use Rattle.fir_copies.proofs.TypedDesigns.{role_reads_own}
use Rattle.fir_copies.proofs.WholeCopies.{each_copy, each_inner, main_port}
use Rattle.fir_flat.specs.working.WholeRoles.{IsModuleWithin, IsRoleWithin}
use Rattle.fir_flatten.specs.working.FlatDesigns.{IsPortRole}
use Rattle.fir_flatten.specs.working.ClearClocks.{HasClockBehind, StandsBehind}
use Rattle.fir_flatten.proofs.PickedClocks.{role_behind}
use Rattle.fir_flatten.proofs.WithinCopies.{CopyWithin, below_within}
use Rattle.fir_flatten.proofs.WithinTerms.{role_within}

-- a leaf of the whole that some module declares, and that is no port there
record IsMoved (scenes : List Scene) (table : List LeafDeclared) (y : ℕ) : Type 0 where
  scene : Scene
  among : In scenes scene
  copy : Copy
  array : ℕ
  leaf : ℕ
  behind : (leafed_module scene).port_leaves ≤ leaf
  below : leaf < length (leafed_module scene).leaves
  stands : (z : ℕ) → z < length (leafed_module scene).leaves → number (numbering (leafed_module scene) copy.first copy.own) z < length table
  role : (leaf_at table y).role ≡ moved_role (numbering (leafed_module scene) copy.first copy.own) array (role_at (leafed_module scene) leaf)

never_source : (n : Numbering) (array : ℕ) (r : Role) → moved_role n array r ≡ source → ⊥
never_source n array source e = absurd (cc)
never_source n array sink e = absurd (cc)
never_source n array (computed t) e = absurd (cc)
never_source n array (register c r) e = absurd (cc)
never_source n array (reading r) e = absurd (cc)
never_source n array (pipe r c under) e = absurd (cc)

term_behind : (n : Numbering) (t : Term) → StandsBehind t → StandsBehind (moved n t)
term_behind n zeros h = tt
term_behind n (absent u ps) h = same_picked n ps ∙ h
term_behind n (literal l) h = tt
term_behind n (read b ps) h = tt
term_behind n (operation op ts ks) h = tt
term_behind n (mux c a b) h = tt
term_behind n (validif c a) h = tt

behind_moved : (n : Numbering) (array : ℕ) (r : Role) → HasClockBehind r → HasClockBehind (moved_role n array r)
behind_moved n array source h = tt
behind_moved n array sink h = tt
behind_moved n array (computed t) h = tt
behind_moved n array (register c r) h = term_behind n c h
behind_moved n array (reading r) h = tt
behind_moved n array (pipe r c under) h = tt

port_or : (r : Role) → (r ≡ source) ⊎ (r ≡ sink) → IsPortRole r
port_or r (inl e) = subst IsPortRole (sym e) tt
port_or r (inr e) = subst IsPortRole (sym e) tt

module _ (c : CircuitTree) (m : LeafModule) (is : Items) (t : SourceDesign) (a : AreDesigns c (made_of m is) t) (x : ℕ)
    (at : slice_get a.scenes x ≡ Some a.main) where
  fine : (s : Scene) → In a.scenes s → IsFineScene s
  fine s i = fine_scene c s a.names a.types (scene_numbered c a.scenes a.are s i)

  pub room : m.port_leaves ≤ length (flattened (made_of m is)).leaves
  room =
      let some = a.design.main.0 in
      omega (
        arith,
        some,
        length-append (port_leaves m) (leaves_below [] 0 0 m.port_leaves 0 (made_of m is)),
        length-take m.port_leaves m.leaves,
      )

  -- a leaf of the main module's ports
  port_is : (y : ℕ) → y < m.port_leaves → (role_of (flattened (made_of m is)) y ≡ source) ⊎ (role_of (flattened (made_of m is)) y ≡ sink)
  port_is y lt = by (port_role_is a.main y low)
    where
      low : y < (leafed_module a.main).port_leaves
      low = subst (λ (u : LeafModule). y < u.port_leaves) a.design.is.0 lt

      here : role_of (flattened (made_of m is)) y ≡ role_at (leafed_module a.main) y
      here = ap (λ (l : LeafDeclared). l.role) (main_port m is a.design.main.0 y lt) ∙ ap (λ (u : LeafModule). role_at u y) a.design.is.0

      by : (role_at (leafed_module a.main) y ≡ source) ⊎ (role_at (leafed_module a.main) y ≡ sink)
          → (role_of (flattened (made_of m is)) y ≡ source) ⊎ (role_of (flattened (made_of m is)) y ≡ sink)
      by (inl e) = inl (here ∙ e)
      by (inr e) = inr (here ∙ e)

  pub port_role : (y : ℕ) → y < m.port_leaves → IsPortRole (role_of (flattened (made_of m is)) y)
  port_role y lt = port_or (role_of (flattened (made_of m is)) y) (port_is y lt)

  -- and another one
  inner_moved : (y : ℕ) → m.port_leaves ≤ y → y < length (flattened (made_of m is)).leaves → IsMoved a.scenes (flattened (made_of m is)).leaves y
  inner_moved y le lt =
      let i = each_inner c m is t a x at y le lt in
      let s = each_copy c m is t a x at i.copy i.among in
      let w = leafed_module s.scene in
      let n = numbering w i.copy.first i.copy.own in
      let same : i.scene ≡ s.scene = same_Some i.scene s.scene (sym i.is ∙ s.is) in
      let own : w.port_leaves ≤ i.leaf = subst (λ (u : Scene). (leafed_module u).port_leaves ≤ i.leaf) same i.own in
      let within : i.leaf < length w.leaves = subst (λ (u : Scene). i.leaf < length (module_leaves u)) same i.within in
      let number_is : number n i.leaf ≡ y =
      subst (λ (u : Scene). number (numbering (leafed_module u) i.copy.first i.copy.own) i.leaf ≡ y) same i.number_is in
      record {
        scene = s.scene;
        among = get_in a.scenes i.copy.module_number s.scene s.is;
        copy = i.copy;
        array = i.copy.array;
        leaf = i.leaf;
        behind = own;
        below = within;
        stands = s.stands.within;
        role =
            ap (λ z. (leaf_at (flattened (made_of m is)).leaves z).role) (sym number_is)
            ∙ ap (λ (l : LeafDeclared). l.role) (s.placed i.leaf own within);
      }

  each_role : (P : Role → Type 0) → P source → P sink
      → ((y : ℕ) (i : IsMoved a.scenes (flattened (made_of m is)).leaves y)
      → P (moved_role (numbering (leafed_module i.scene) i.copy.first i.copy.own) i.array (role_at (leafed_module i.scene) i.leaf)))
      → (y : ℕ) → y < length (flattened (made_of m is)).leaves → P (role_of (flattened (made_of m is)) y)
  each_role P of_source of_sink of_moved y lt = by (nat_lt y m.port_leaves) refl
    where
      of_port : (role_of (flattened (made_of m is)) y ≡ source) ⊎ (role_of (flattened (made_of m is)) y ≡ sink) → P (role_of (flattened (made_of m is)) y)
      of_port (inl e) = subst P (sym e) of_source
      of_port (inr e) = subst P (sym e) of_sink

      by : (b : Bool) → nat_lt y m.port_leaves ≡ b → P (role_of (flattened (made_of m is)) y)
      by true e = of_port (port_is y (ltb-true y m.port_leaves e))
      by false e = let i = inner_moved y (ltb-false y m.port_leaves e) lt in subst P (sym i.role) (of_moved y i)

  pub inner_role : (y : ℕ) → m.port_leaves ≤ y → y < length (flattened (made_of m is)).leaves → role_of (flattened (made_of m is)) y ≡ source → ⊥
  inner_role y le lt e =
      let i = inner_moved y le lt in
      never_source (numbering (leafed_module i.scene) i.copy.first i.copy.own) i.array (role_at (leafed_module i.scene) i.leaf) (sym i.role ∙ e)

  pub roles_behind : (y : ℕ) → y < length (flattened (made_of m is)).leaves → HasClockBehind (role_of (flattened (made_of m is)) y)
  roles_behind =
      each_role HasClockBehind tt tt
      (λ y i. behind_moved (numbering (leafed_module i.scene) i.copy.first i.copy.own) i.array (role_at (leafed_module i.scene) i.leaf)
      (role_behind i.scene (fine i.scene i.among) i.leaf i.behind i.below))

  roles_within : (y : ℕ) → y < length (flattened (made_of m is)).leaves
      → IsRoleWithin (length (flattened (made_of m is)).leaves) (role_of (flattened (made_of m is)) y)
  roles_within =
      each_role (IsRoleWithin (length (flattened (made_of m is)).leaves)) tt tt
      (λ y i. role_within (numbering (leafed_module i.scene) i.copy.first i.copy.own) (leafed_module i.scene) refl (length (flattened (made_of m is)).leaves)
      i.stands i.array (role_at (leafed_module i.scene) i.leaf)
      (role_reads_own i.scene (fine i.scene i.among) i.leaf i.behind i.below))

  copies_within : (k : Copy) → In (copies_of x (made_of m is)) k → CopyWithin a.scenes (length (flattened (made_of m is)).leaves) k
  copies_within k i = let s = each_copy c m is t a x at k i in record { scene = s.scene; is = s.is; within = s.stands.within }

  pub whole_within : IsModuleWithin (as_module (flattened (made_of m is)))
  whole_within = record {
    body =
        below_within a.scenes (length (flattened (made_of m is)).leaves) (λ s i. scene_reading s (fine s i)) (made_of m is) x 0 m.port_leaves 0
        (subst (λ (u : LeafModule). IsDesignOf (views a.scenes) u (made_of m is)) (sym (view_at a.scenes x a.main at)) a.design.is) copies_within;
    roles = roles_within;
  }
