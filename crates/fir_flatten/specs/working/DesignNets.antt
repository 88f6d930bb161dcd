-- The net of a whole design: the nets of its modules with their numbers moved, and what it is for the design's circuit (FIRRTL spec, "Instances").
use Rattle.std.specs.Prelude.{◌≡◌, ℕ, ◌+◌, ◌<◌, List, [], ◌∷◌, ◌++◌, flat_map, length, map, Bool, true, false, Option, Some, None, slice_get}
use Rattle.fir_base.specs.Lists.{In}
use Rattle.fir_ast.specs.declared.place.Place.{Place}
use Rattle.fir_driven.specs.working.DrivenFlags.{AreDriven}
use Rattle.fir_leaf_circuit.specs.working.Seen.{HasView, type_seen, writing_seen}
use Rattle.fir_leaf_types.specs.working.TypedModules.{held_in}
use Rattle.fir_memory_types.specs.working.TypedMemories.{AreMemoriesTyped}
use Rattle.fir_meaning.specs.LeafPaths.{path_text}
use Rattle.fir_meaning.specs.LeafTypes.{LeafType}
use Rattle.fir_meaning.specs.ModuleScenes.{Scene}
use Rattle.fir_meaning.specs.working.Designs.{module_of}
use Rattle.fir_meaning.specs.working.Elaborated.{views}
use Rattle.fir_meaning.specs.working.FlatDesigns.{inner_leaves}
use Rattle.fir_meaning.specs.working.Flattened.{port_leaves}
use Rattle.fir_meaning.specs.working.LeafCircuits.{LeafCircuit, role_of}
use Rattle.fir_meaning.specs.working.LeafModules.{LeafArray, LeafDeclared, LeafModule, Role, register, role_at, source}
use Rattle.fir_meaning.specs.working.LeafedModules.{leafed_module}
use Rattle.fir_meaning.specs.working.LeafNames.{path_of_leaf, place_of_leaf}
use Rattle.fir_meaning.specs.working.UndrivenChoices.{drives_any}
use Rattle.fir_connect.specs.working.CircuitModules.{as_module}
use Rattle.fir_connect.specs.working.NetReads.{net_reads}
use Rattle.fir_connect.specs.working.NetRoles.{NetReset, NetRole as RoleMeant, computed, driven, net_role_at, net_types}
use Rattle.fir_connect.specs.working.NetRoles as meant
use Rattle.fir_connect.specs.working.NetTerms.{NetTerm}
use Rattle.fir_copies.specs.working.CopyLaws.{IsGiven, StandsIn}
use Rattle.fir_elaborate.specs.declared.elaborated.ModuleCopy.{ModuleCopy}
use Rattle.fir_elaborate.specs.working.CopyArrays.{array_seen, arrays_of_copy}
use Rattle.fir_elaborate.specs.working.Elaborations.{copy_seen}
use Rattle.fir_merge.specs.working.NodeTerms.{ReadBefore}
use Rattle.fir_whens.specs.declared.net_role.NetRole.{NetRole}
use Rattle.fir_whens.specs.working.ModuleNets.{IsNetOf}
use Rattle.fir_whens.specs.working.StandingRoles.{RoleStands}
use Rattle.fir_flatten.specs.declared.design_arrays.DesignArray.{DesignArray}
use Rattle.fir_flatten.specs.declared.design_net.DesignLeaf.{DesignLeaf}
use Rattle.fir_flatten.specs.declared.design_net.DesignNet.{DesignNet}
use Rattle.fir_flatten.specs.declared.design_net.ModulePart.{ModulePart}

-- what the terms of a role read are leaves below a number
abbrev pub ReadsBelow : ℕ → NetTerm → Type 0
ReadsBelow n t = (y : ℕ) → In (net_reads t) y → y < n

abbrev pub ResetReadsBelow : ℕ → Option NetReset → Type 0
ResetReadsBelow n None = Unit {0}
ResetReadsBelow n (Some r) = ReadsBelow n r.condition × ReadsBelow n r.init

abbrev pub RoleReadsBelow : ℕ → RoleMeant → Type 0
RoleReadsBelow n (driven t) = ReadsBelow n t
RoleReadsBelow n (computed t) = ReadsBelow n t
RoleReadsBelow n (meant.register clock reset t) = ReadsBelow n clock × ResetReadsBelow n reset × ReadsBelow n t
RoleReadsBelow n _ = Unit {0}

-- a module of the definitions and what the code has of it
pub record IsPartOf (m : LeafModule) (p : ModulePart) : Type 0 where
  pub view : HasView p.part.now m
  pub is_net : IsNetOf m p.net.now
  pub before : ReadBefore 0 p.net.now.nodes
  pub reads : (x : ℕ) → x < length m.leaves → RoleReadsBelow (length m.leaves) (net_role_at m x)
  pub texts : p.texts.items ≡ map (λ (l : LeafDeclared). path_text l.path) m.leaves
  pub driven : AreDriven (length m.leaves) m.body p.driven.items
  pub array_texts : p.array_texts.items ≡ map (λ (a : LeafArray). path_text a.path) m.arrays

-- so it is with the modules of these scenes, by their numbers
pub record ArePartsOf (scenes : List Scene) (parts : List ModulePart) : Type 0 where
  pub count : length parts ≡ length scenes
  pub each : (x : ℕ) (s : Scene) (p : ModulePart) → slice_get scenes x ≡ Some s → slice_get parts x ≡ Some p → IsPartOf (leafed_module s) p

-- what a leaf is for the net, behind what stands before its path
pub record LeafSeen : Type 0 where
  pub path : List ℕ
  pub place : Place
  pub holds : LeafType

abbrev pub seen_behind : List ℕ → LeafDeclared → LeafSeen
seen_behind prefix l = record { path = prefix ++ path_text l.path; place = l.place; holds = l.holds }

abbrev pub module_of_copy : List Scene → ModuleCopy → LeafModule
module_of_copy scenes k = module_of (views scenes) k.module_number

abbrev pub leaves_of_copy : List Scene → ModuleCopy → List LeafSeen
leaves_of_copy scenes k = map (seen_behind k.prefix) (inner_leaves (module_of_copy scenes k))

-- the leaves that are no ports stand one copy behind the other, from a number on
abbrev pub AreBehind : List Scene → ℕ → List ModuleCopy → Type 0
AreBehind scenes free [] = Unit {0}
AreBehind scenes free (k ∷ ks) = (k.own ≡ free) × AreBehind scenes (free + length (inner_leaves (module_of_copy scenes k))) ks

-- the copies of the modules of a design, of which the main one is the first; and the leaves of its circuit
pub record AreCopiesOf (scenes : List Scene) (main : Scene) (c : LeafCircuit) (copies : List ModuleCopy) : Type 0 where
  pub first : ModuleCopy
  pub others : List ModuleCopy
  pub are : copies ≡ first ∷ others
  pub is_main : slice_get scenes first.module_number ≡ Some main
  pub from_first : first.first ≡ 0
  pub behind : AreBehind scenes (leafed_module main).port_leaves copies
  pub leaves : map (seen_behind []) c.leaves ≡ map (seen_behind []) (port_leaves (leafed_module main)) ++ flat_map (leaves_of_copy scenes) copies
  pub arrays : map array_seen c.arrays ≡ flat_map (arrays_of_copy scenes) copies
  pub stand : (k : ModuleCopy) → In copies k → StandsIn scenes c (copy_seen k)
  pub given : (y : ℕ) → y < length c.leaves → IsGiven scenes main (map copy_seen copies) y

abbrev pub is_register : Role → Bool
is_register (register clock reset) = true
is_register _ = false

-- a leaf of the net beside that of the circuit
pub record IsLeafOf (c : LeafCircuit) (x : ℕ) (l : DesignLeaf) : Type 0 where
  pub path : l.path ≡ path_of_leaf c x
  pub place : l.place ≡ place_of_leaf c x
  pub held : type_seen l.holds ≡ held_in (as_module c) x
  pub driven : is_register (role_of c x) ≡ true → l.is_driven ≡ drives_any x c.body

-- an array of the net beside that of the circuit
pub record IsDesignArray (a : DesignArray) (m : LeafArray) : Type 0 where
  pub path : a.path ≡ path_text m.path
  pub held : type_seen a.holds ≡ m.holds
  pub words : a.words ≡ m.words
  pub writings : map writing_seen a.writings ≡ m.writings

-- the net of the design of a circuit, of whose leaves so many are those of ports: each leaf has the role that the statements of all modules give it
pub record IsNetOfDesign (c : LeafCircuit) (port_count : ℕ) (net : DesignNet) : Type 0 where
  pub ports : net.port_leaves ≡ port_count
  pub count : length net.leaves.items ≡ length c.leaves
  pub roles_count : length net.roles.items ≡ length c.leaves
  pub leaves : (x : ℕ) (l : DesignLeaf) → slice_get net.leaves.items x ≡ Some l → IsLeafOf c x l
  pub roles : (x : ℕ) (r : NetRole) → slice_get net.roles.items x ≡ Some r
      → RoleStands (net_types (as_module c)) net.nodes.items r (net_role_at (as_module c) x)
  pub before : ReadBefore 0 net.nodes.items
  pub array_count : length net.arrays.items ≡ length c.arrays
  pub arrays : (n : ℕ) (a : DesignArray) (m : LeafArray) → slice_get net.arrays.items n ≡ Some a → slice_get c.arrays n ≡ Some m → IsDesignArray a m

-- so it is with the copies of a design, where the main module's ports are sources or sinks, and each register is driven in the whole where it is in its module
abbrev pub IsDrivenAlike : List Scene → LeafCircuit → ModuleCopy → Type 0
IsDrivenAlike scenes c k =
    (x : ℕ) → x < length (inner_leaves (module_of_copy scenes k)) → is_register (role_of c (k.own + x)) ≡ true
    → drives_any (k.own + x) c.body ≡ drives_any ((module_of_copy scenes k).port_leaves + x) (module_of_copy scenes k).body

-- the main module's inputs are inputs of the circuit, and each module has types of its memories
abbrev pub MakesDesign : List ModulePart → List ModuleCopy → DesignNet → Type 0
MakesDesign parts copies net =
    (scenes : List Scene) (main : Scene) (c : LeafCircuit) → ArePartsOf scenes parts → AreCopiesOf scenes main c copies
    → ((k : ModuleCopy) → In copies k → IsDrivenAlike scenes c k)
    → ((x : ℕ) → x < (leafed_module main).port_leaves → is_register (role_of c x) ≡ false)
    → ((x : ℕ) → x < (leafed_module main).port_leaves → role_at (leafed_module main) x ≡ source → role_of c x ≡ source)
    → ((s : Scene) → In scenes s → AreMemoriesTyped (leafed_module s).leaves (leafed_module s).arrays)
    → IsNetOfDesign c (leafed_module main).port_leaves net
