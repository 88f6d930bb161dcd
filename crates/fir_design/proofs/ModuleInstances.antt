-- The instances of a module's design as declarations of the module: each is one, no two are one, and a name tells which.
use Rattle.std.proofs.Common.{◌≡◌, ℕ, ◌≤◌, List, map, length, slice_get, Bool, true, false, nat_eq, Some, sym, ap, ◌∙◌, subst, arith, refl}
use Rattle.std.specs.Str.{bytes_eq}
use Rattle.std.proofs.lemmas.Bool.{eqb-true, eqb-false}
use Rattle.std.proofs.lemmas.Option.{same_Some}
use Rattle.std.proofs.lemmas.Simd.{map-map}
use Rattle.fir_base.specs.Lists.{Distinct, In}
use Rattle.fir_base.proofs.Elements.{beside, get_behind}
use Rattle.fir_base.proofs.Members.{in_map, in_map_from}
use Rattle.fir_base.proofs.SameNames.{name_other, name_same}
use Rattle.fir_ast.specs.Circuits.{ModuleTree}
use Rattle.fir_ast.specs.Statements.{PlacedName}
use Rattle.fir_meaning.specs.Components.{Declaration, Declarations}
use Rattle.fir_meaning.specs.TypeGroup.{scope_at}
use Rattle.fir_meaning.specs.TypedScopes.{Known, TypedScope}
use Rattle.fir_meaning.specs.Visibility.{declarations}
use Rattle.fir_meaning.specs.working.DesignPaths.{instance_name}
use Rattle.fir_meaning.specs.working.LeafBlocks.{HeldInstance}
use Rattle.fir_meaning.specs.ModuleScenes.{Scene, behind_all_ports}
use Rattle.fir_meaning.specs.working.LeafedModules.{leafed_module}
use Rattle.fir_design.proofs.DeclaredInstances.{IsDeclared, instance_within}
use Rattle.fir_design.proofs.DesignInstances.{Instance, held_of, own_of}
use Rattle.fir_design.proofs.FineScenes.{IsFineScene, whole_scope}
use Rattle.fir_design.proofs.HeldInstances.{Held, all_held_in}
use Rattle.fir_design.proofs.KnownDeclarations.{known_names}
use Rattle.fir_design.proofs.KnownLeaves.{one_known}
use Rattle.fir_design.proofs.ModuleRanks.{view_declared}
use Rattle.fir_design.proofs.OwnNames.{name_declared}

abbrev pub place_of : Instance → ℕ
place_of x = x.0.declaration

there_is : (modules : List ModuleTree) (start : TypedScope) (all : Declarations) (h : Held) (d : IsDeclared modules start all h)
    → slice_get all h.own.declaration ≡ Some (instance_within d.named d.module_name h.depth)
there_is modules start all h d =
    ap (slice_get all) d.declaration ∙ ap (λ (ds : Declarations). slice_get ds (length d.front)) (sym d.is)
    ∙ get_behind d.front d.more (instance_within d.named d.module_name h.depth)

module _ (s : Scene) (xs : List Instance) (are : map own_of xs ≡ map held_of (all_held_in 0 (leafed_module s).body)) where
  pub record IsDeclaredHere (x : Instance) : Type 0 where
    pub named : PlacedName
    pub module_name : List ℕ
    pub depth : ℕ
    pub there : slice_get (declarations s.own.inside) x.0.declaration ≡ Some (instance_within named module_name depth)
    pub behind_ports : length (behind_all_ports s.own.inside).declared ≤ x.0.declaration

  pub declared_here : (x : Instance) → In xs x → IsDeclaredHere x
  declared_here x i =
      let all = declarations s.own.inside in
      let helds = all_held_in 0 (leafed_module s).body in
      let h = in_map_from held_of helds x.0 (subst (λ (hs : List HeldInstance). In hs x.0) are (in_map own_of xs x i)) in
      let d = (view_declared s).each h.0 h.1 in
      let place : HeldInstance → ℕ = λ y. y.declaration in
      let same : h.0.own.declaration ≡ x.0.declaration = ap place h.2 in
      record {
        named = d.named;
        module_name = d.module_name;
        depth = h.0.depth;
        there =
            ap (slice_get all) (sym same) ∙ there_is s.own.modules (scope_at s.own.modules (behind_all_ports s.own.inside)) all h.0 d;
        behind_ports = omega (arith, (view_declared s).low h.0 h.1, same);
      }

  pub declared_once : Distinct (map place_of xs)
  declared_once =
      let place : HeldInstance → ℕ = λ y. y.declaration in
      let helds = all_held_in 0 (leafed_module s).body in
      let same : map (λ (h : Held). h.own.declaration) helds ≡ map place_of xs =
      sym (map-map place held_of helds) ∙ ap (map place) (sym are) ∙ map-map place own_of xs in
      subst Distinct same (view_declared s).once

  -- an instance is the declaration that it is by its number
  pub declared_as_instance : (k : ℕ) (d : Declaration) → slice_get (declarations s.own.inside) k ≡ Some d → (x : Instance) (i : In xs x)
      → x.0.declaration ≡ k
      → d ≡ instance_within (declared_here x i).named (declared_here x i).module_name (declared_here x i).depth
  declared_as_instance k d at x i e =
      let h = declared_here x i in
      same_Some d (instance_within h.named h.module_name h.depth)
      (sym at ∙ ap (slice_get (declarations s.own.inside)) (sym e) ∙ h.there)

  module _ (f : IsFineScene s) where
    one_number : (k j : ℕ) (d o : Declaration) → slice_get (declarations s.own.inside) k ≡ Some d → slice_get
        (declarations s.own.inside) j ≡ Some o
        → d.named.name ≡ o.named.name → k ≡ j
    one_number k j d o dk oj e =
        let all = declarations s.own.inside in
        let names = known_names s.own.modules all in
        let a = beside (λ (z : Known). z.name) (λ (z : Declaration). z.named.name) (whole_scope s) all names k d dk in
        let b = beside (λ (z : Known). z.name) (λ (z : Declaration). z.named.name) (whole_scope s) all names j o oj in
        one_known (whole_scope s) f.fine k j a.0 b.0 a.1 b.1 (a.2 ∙ e ∙ sym b.2)

    -- and by its name
    pub alike : (k : ℕ) (d : Declaration) → slice_get (declarations s.own.inside) k ≡ Some d → (x : Instance) → In xs x
        → nat_eq x.0.declaration k ≡ bytes_eq (instance_name (leafed_module s) x.0) d.named.name
    alike k d at x i = go (nat_eq x.0.declaration k) refl
      where
        h : IsDeclaredHere x
        h = declared_here x i

        own : Declaration
        own = instance_within h.named h.module_name h.depth

        name : instance_name (leafed_module s) x.0 ≡ h.named.name
        name = ap (λ (n : PlacedName). n.name) (name_declared (declarations s.own.inside) x.0.declaration own h.there)

        go : (b : Bool) → nat_eq x.0.declaration k ≡ b → b ≡ bytes_eq (instance_name (leafed_module s) x.0) d.named.name
        go true e =
            let same : d ≡ own = declared_as_instance k d at x i (eqb-true x.0.declaration k e) in
            let names : instance_name (leafed_module s) x.0 ≡ d.named.name = name ∙ ap (λ (z : Declaration). z.named.name) (sym same) in
            sym (ap (λ (z : List ℕ). bytes_eq z d.named.name) names ∙ name_same d.named.name)
        go false e =
            sym (name_other (instance_name (leafed_module s) x.0) d.named.name
            (λ q. absurd (eqb-false x.0.declaration k e (one_number x.0.declaration k own d h.there at (sym name ∙ q)))))
