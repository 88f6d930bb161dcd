-- The net that is put together is that of the design.
use Rattle.std.proofs.Common.{◌≡◌, ℕ, ◌^◌, ◌<◌, List, [], ◌∷◌, length, Some, false, refl, sym, ap, ◌∙◌, subst, arith, inl}
use Rattle.std.specs.Prelude.{slice_get}
use Rattle.fir_base.specs.Lists.{In}
use Rattle.fir_meaning.specs.ModuleScenes.{Scene}
use Rattle.fir_meaning.specs.working.LeafCircuits.{LeafCircuit, role_of}
use Rattle.fir_meaning.specs.working.LeafModules.{role_at, source}
use Rattle.fir_meaning.specs.working.LeafedModules.{leafed_module}
use Rattle.fir_connect.specs.working.CircuitModules.{as_module}
use Rattle.fir_connect.specs.working.NetRoles.{net_role_at, net_types}
use Rattle.fir_elaborate.specs.declared.elaborated.ModuleCopy.{ModuleCopy}
use Rattle.fir_memory_types.specs.working.TypedMemories.{AreMemoriesTyped}
use Rattle.fir_merge.specs.working.NodeTerms.{ReadBefore}
use Rattle.fir_whens.specs.declared.net_role.NetRole.{NetRole}
use Rattle.fir_whens.specs.working.StandingRoles.{RoleStands}
use Rattle.fir_flatten.specs.declared.design_arrays.DesignArray.{DesignArray}
use Rattle.fir_flatten.specs.declared.design_net.DesignLeaf.{DesignLeaf}
use Rattle.fir_flatten.specs.declared.design_net.DesignNet.{DesignNet}
use Rattle.fir_flatten.specs.declared.design_net.ModulePart.{ModulePart}
use Rattle.fir_flatten.specs.working.DesignArrays.{arrays_of}
use Rattle.fir_flatten.specs.working.DesignNets.{AreCopiesOf, ArePartsOf, IsDrivenAlike, IsNetOfDesign, MakesDesign, is_register}
use Rattle.fir_flatten.specs.working.PutModules.{Given, leaves_of, main_part, no_values, ports_of, put_copies}
use Rattle.fir_flatten.proofs.DesignArrays.{array_is, arrays_count}
use Rattle.fir_flatten.proofs.DesignLeaves.{leaf_is, leaves_count, main_is_part}
use Rattle.fir_flatten.proofs.DesignRoles.{Known, all_before, known_copy, roles_count, roles_stand}

-- what the net has
abbrev pub given_in : DesignNet → Given
given_in net = record { nodes = net.nodes.items; roles = net.roles.items }

module _ (parts : List ModulePart) (first : ModuleCopy) (others : List ModuleCopy) (net : DesignNet)
    (ports : net.port_leaves ≡ ports_of (main_part parts (first ∷ others))) (leaves : net.leaves.items ≡ leaves_of parts (first ∷ others))
    (values : given_in net ≡ put_copies parts (first ∷ others) (no_values (length net.leaves.items)))
    (arrays : net.arrays.items ≡ arrays_of parts (first ∷ others)) where
  abbrev copies : List ModuleCopy
  copies = first ∷ others

  makes : (scenes : List Scene) (main : Scene) (c : LeafCircuit) → ArePartsOf scenes parts → (are : AreCopiesOf scenes main c copies)
      → slice_get scenes first.module_number ≡ Some main
      → ((k : ModuleCopy) → In copies k → IsDrivenAlike scenes c k)
      → ((x : ℕ) → x < (leafed_module main).port_leaves → is_register (role_of c x) ≡ false)
      → ((x : ℕ) → x < (leafed_module main).port_leaves → role_at (leafed_module main) x ≡ source → role_of c x ≡ source)
      → ((s : Scene) → In scenes s → AreMemoriesTyped (leafed_module s).leaves (leafed_module s).arrays) → IsNetOfDesign c (leafed_module main).port_leaves net
  makes scenes main c are_parts are is_main alike no_registers inputs typed =
      let known : (k : ModuleCopy) → In copies k → Known scenes parts c k = λ k m. known_copy scenes parts c k are_parts (are.stand k m) in
      let count : length (leaves_of parts copies) ≡ length c.leaves = leaves_count scenes parts c main first others known is_main are.leaves in
      let long : length net.leaves.items ≡ length c.leaves = ap length leaves ∙ count in
      let small : length c.leaves < 2 ^ 64 = omega (arith, long, net.leaves.ok.0, net.leaves.ok.1, net.leaves.small) in
      let array_count : length net.arrays.items ≡ length c.arrays =
      ap length arrays ∙ arrays_count scenes parts c small typed copies known are.arrays in
      let few_arrays : length c.arrays < 2 ^ 64 = omega (arith, array_count, net.arrays.ok.0, net.arrays.ok.1, net.arrays.small) in
      let few : length net.nodes.items < 2 ^ 64 = omega (arith, net.nodes.ok.0, net.nodes.ok.1, net.nodes.small) in
      let last = put_copies parts copies (no_values (length c.leaves)) in
      let same : given_in net ≡ last = values ∙ ap (λ n. put_copies parts copies (no_values n)) long in
      let room : length last.nodes < 2 ^ 64 = subst (λ (v : Given). length v.nodes < 2 ^ 64) same few in
      let main_part_is = ap ports_of (known first (inl refl)).part_is in
      record {
        ports = ports ∙ main_part_is ∙ (main_is_part scenes parts c main first others known is_main).view.port_leaves;
        count = long;
        roles_count =
            ap (λ (v : Given). length v.roles) same ∙ roles_count scenes parts c small few_arrays typed main copies known are.given inputs room;
        leaves = λ x l e.
            leaf_is scenes parts c main first others known is_main are.leaves are.behind alike no_registers x l
            (subst (λ (ls : List DesignLeaf). slice_get ls x ≡ Some l) leaves e);
        roles =
            subst
            (λ (v : Given). (x : ℕ) (r : NetRole) → slice_get v.roles x ≡ Some r → RoleStands (net_types (as_module c)) v.nodes r (net_role_at (as_module c) x))
            (sym same) (roles_stand scenes parts c small few_arrays typed main copies known are.given inputs room);
        before =
            subst (λ (v : Given). ReadBefore 0 v.nodes) (sym same)
            (all_before scenes parts c small few_arrays typed main copies known are.given inputs room);
        array_count = array_count;
        arrays = λ x a m e f.
            array_is scenes parts c small typed copies known are.arrays x a m (subst (λ (ls : List DesignArray). slice_get ls x ≡ Some a) arrays e) f;
      }

pub makes_design : (parts : List ModulePart) (copies : List ModuleCopy) (net : DesignNet) → net.port_leaves ≡ ports_of (main_part parts copies)
    → net.leaves.items ≡ leaves_of parts copies → given_in net ≡ put_copies parts copies (no_values (length net.leaves.items))
    → net.arrays.items ≡ arrays_of parts copies → MakesDesign parts copies net
makes_design parts [] net ports leaves values arrays = λ scenes main c are_parts are alike no_registers inputs typed.
    let none = are.are in
    absurd (cc)
makes_design parts (k ∷ ks) net ports leaves values arrays = λ scenes main c are_parts are alike no_registers inputs typed.
    let same : k ≡ are.first = let is = are.are in cc in
    makes parts k ks net ports leaves values arrays scenes main c are_parts are
    (ap (λ (j : ModuleCopy). slice_get scenes j.module_number) same ∙ are.is_main) alike no_registers inputs typed
