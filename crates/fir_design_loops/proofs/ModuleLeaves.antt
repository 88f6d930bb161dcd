-- Each leaf of a module's tree that is no port has a number, at which its view reads what the tree reads by path.
use Rattle.std.proofs.Common.{◌≡◌, ℕ, ◌+◌, ◌<◌, ◌≤◌, List, [], ◌∷◌, ◌++◌, length, slice_get, Some, sym, ap, ◌∙◌, subst, arith, length-append}
use Rattle.std.proofs.lemmas.List.{get_or-append-add}
use Rattle.std.proofs.lemmas.Option.{get_or_from_slice_get, slice_get_within}
use Rattle.fir_base.specs.Lists.{In}
use Rattle.fir_base.proofs.Elements.{all_there}
use Rattle.fir_ast.specs.Circuits.{CircuitTree}
use Rattle.fir_meaning.specs.ModuleScenes.{Scene, behind_all_ports}
use Rattle.fir_meaning.specs.SizedDeclarations.{numbered_modules}
use Rattle.fir_meaning.specs.SourceCircuits.{port_leaves}
use Rattle.fir_meaning.specs.SourceRoles.{SourceLeaf, sources_in_block}
use Rattle.fir_meaning.specs.TypeGroup.{type_faults}
use Rattle.fir_meaning.specs.Visibility.{at_head}
use Rattle.fir_meaning.specs.working.LeafModules.{LeafArray, LeafDeclared, leaf_at, no_leaf, role_at}
use Rattle.fir_meaning.specs.working.LeafedModules.{leafed_module, leaves_in_block, leaves_of_ports, module_leaves}
use Rattle.fir_meaning.specs.working.NameGroups.{HasNames}
use Rattle.fir_leaf.specs.working.ModuleCircuits.{module_circuit}
use Rattle.fir_design.specs.working.SameRoles.{SameLeaves, ViewsHaveRoles}
use Rattle.fir_design.proofs.FineScenes.{fine_scene}
use Rattle.fir_design.proofs.ListsInStep.{AreInStep, step_at}
use Rattle.fir_design.proofs.PortsInStep.{ports_long}
use Rattle.fir_source_faults.specs.working.ReadsByPath.{ReadsByPath, path_in, paths_in}
use Rattle.fir_source_faults.proofs.BlockReads.{inner_read}
use Rattle.fir_source_faults.proofs.MemoryKinds.{SameLeafReads}
use Rattle.fir_source_faults.proofs.RoleReads.{init_reads, path_inits, path_reads, role_reads}
use Rattle.fir_design_faults.proofs.AllTerms.{RoleReads}
use Rattle.fir_design_faults.proofs.ReadRoles.{inner_roles_read}

pub record HasLeaf (s : Scene) (l : SourceLeaf) : Type 0 where
  pub number : ℕ
  pub own : (leafed_module s).port_leaves ≤ number
  pub inside : number < length (module_leaves s)
  pub path : path_in s number ≡ l.path
  pub sound : RoleReads (leafed_module s) (role_at (leafed_module s) number)
  pub reads : paths_in s (role_reads (role_at (leafed_module s) number)) ≡ path_reads l.role
  pub inits : paths_in s (init_reads (role_at (leafed_module s) number)) ≡ path_inits l.role

record SamePath (l : LeafDeclared) (t : SourceLeaf) : Type 0 where
  is : l.path ≡ t.path

-- behind lists as long as one another
paths_behind : (leaves : List LeafDeclared) (arrays : List LeafArray) (ls ms : List LeafDeclared) (ts us : List SourceLeaf) → length ls ≡ length ts
    → SameLeaves leaves arrays (ls ++ ms) (ts ++ us) → AreInStep SamePath ms us
paths_behind leaves arrays [] [] [] [] long h = tt
paths_behind leaves arrays [] [] [] (u ∷ us) long h = absurd h
paths_behind leaves arrays [] (m ∷ ms) [] [] long h = absurd h
paths_behind leaves arrays [] (m ∷ ms) [] (u ∷ us) long h = (record { is = h.0.0 }, paths_behind leaves arrays [] ms [] us long h.1)
paths_behind leaves arrays [] ms (t ∷ ts) us long h = absurd (omega (arith, long))
paths_behind leaves arrays (l ∷ ls) ms [] us long h = absurd (omega (arith, long))
paths_behind leaves arrays (l ∷ ls) ms (t ∷ ts) us long h = paths_behind leaves arrays ls ms ts us (omega (arith, long)) h.1

pub has_leaf : (c : CircuitTree) (s : Scene) (names : HasNames c) (types : type_faults c ≡ []) (i : In (numbered_modules c) s.own) → ViewsHaveRoles
    → ReadsByPath s → (k : ℕ) (l : SourceLeaf)
    → slice_get (sources_in_block s (behind_all_ports s.own.inside) s.own.inside.body) k ≡ Some l → HasLeaf s l
has_leaf c s names types i roles by k l get =
    let m = leafed_module s in
    let ports = leaves_of_ports s at_head s.own.inside.ports in
    let others = leaves_in_block s (behind_all_ports s.own.inside) s.own.inside.body in
    let sources = sources_in_block s (behind_all_ports s.own.inside) s.own.inside.body in
    let read = step_at (SameLeafReads s) others sources (inner_read c s names types i by) k l get in
    let paths = paths_behind m.leaves m.arrays ports others (port_leaves s) sources (ports_long (module_circuit m) s) (roles c s names types i).0 in
    let same = step_at SamePath others sources paths k l get in
    let at : (x : LeafDeclared) → slice_get others k ≡ Some x → leaf_at (module_leaves s) (length ports + k) ≡ x =
    λ x e. get_or-append-add ports others k no_leaf ∙ get_or_from_slice_get others k x no_leaf e in
    let here = at read.0 read.1 in
    record {
      number = length ports + k;
      own = omega arith;
      inside = omega (arith, length-append ports others, slice_get_within others k read.0 read.1);
      path = ap (λ (x : LeafDeclared). x.path) (at same.0 same.1) ∙ same.2.is;
      sound =
          subst (λ (x : LeafDeclared). RoleReads m x.role) (sym here)
          (all_there (λ (x : LeafDeclared). RoleReads m x.role) others (inner_roles_read s (fine_scene c s names types i)) k read.0 read.1);
      reads = ap (λ (x : LeafDeclared). paths_in s (role_reads x.role)) here ∙ read.2.reads;
      inits = ap (λ (x : LeafDeclared). paths_in s (init_reads x.role)) here ∙ read.2.inits;
    }
