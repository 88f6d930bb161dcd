-- Which modules the tree of a circuit has (FIRRTL spec, "Circuits", "Modules", "Instances").
-- At its top stands the module with the circuit's name, and below each instance the module that the instance names. Only the ports of the main module take
-- values from outside: of all that stands within modules, an instance's ports among it, each leaf is given its value within.
use Rattle.std.specs.Prelude.{◌≡◌, List, map, Some}
use Rattle.fir_base.specs.Lists.{Distinct, In}
use Rattle.fir_ast.specs.Circuits.{CircuitTree, ModuleTree}
use Rattle.fir_meaning.specs.ComponentTypes.{find_module}
use Rattle.fir_meaning.specs.Elaborated.{AreScenes, IsSourceOf}
use Rattle.fir_meaning.specs.LeafPaths.{LeafPath}
use Rattle.fir_meaning.specs.ModuleScenes.{Scene}
use Rattle.fir_meaning.specs.SourceCircuits.{PlacedLeaf, leaves_of_design}
use Rattle.fir_meaning.specs.SourceDesigns.{InstanceOf, Instances, IsSourceDesignOf, SourceDesign, instances_of_block, made_of}
use Rattle.fir_meaning.specs.SourceRoles.{source}
use Rattle.fir_source_laws.specs.working.InstanceLaws.{design_named}

abbrev pub module_of : SourceDesign → ModuleTree
module_of (made_of s is) = s.own.inside

-- the tree below an instance is that of the module of the instance
pub record IsOfModule (c : CircuitTree) (scenes : List Scene) (is : Instances) (i : InstanceOf) : Type 0 where
  pub scene : Scene
  pub design : SourceDesign
  pub is_named : design_named is i.named.name ≡ Some design
  pub is_design : IsSourceDesignOf scenes scene design
  pub is_module : find_module c.modules i.other.name ≡ Some (module_of design)

-- where no name is that of two instances of a module
abbrev pub InstancesAreOfTheirModules : Type 0
InstancesAreOfTheirModules =
    (c : CircuitTree) (scenes : List Scene) (s : Scene) (is : Instances) (i : InstanceOf)
    → AreScenes c scenes → In scenes s → IsSourceDesignOf scenes s (made_of s is)
    → Distinct (map (λ (i : InstanceOf). i.named.name) (instances_of_block s.own.inside.body)) → In (instances_of_block s.own.inside.body) i
    → IsOfModule c scenes is i

abbrev pub MainIsOnTop : Type 0
MainIsOnTop = (c : CircuitTree) (t : SourceDesign) → IsSourceOf c t → find_module c.modules c.named.name ≡ Some (module_of t)

abbrev pub NothingInsideIsInput : Type 0
NothingInsideIsInput = (at : LeafPath) (d : SourceDesign) (p : PlacedLeaf) → In (leaves_of_design at d) p → p.leaf.role ≡ source → ⊥
