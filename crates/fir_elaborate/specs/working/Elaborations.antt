-- A walk through the instances of a design, from its main module on, as the code has it.
use Rattle.std.specs.Prelude.{◌≡◌, ℕ, ◌<◌, List, [], length, map, Some, slice_get}
use Rattle.fir_base.specs.Lists.{In}
use Rattle.fir_meaning.specs.working.Designs.{Design, module_of}
use Rattle.fir_meaning.specs.working.Flattened.{flattened}
use Rattle.fir_meaning.specs.working.LeafBlocks.{HeldInstance}
use Rattle.fir_meaning.specs.working.LeafModules.{LeafModule}
use Rattle.fir_leaf_circuit.specs.declared.leaf_module.LeafModule.{LeafModule as ModuleOfCode}
use Rattle.fir_leaf_circuit.specs.working.Seen.{HasView}
use Rattle.fir_copies.specs.working.Copies.{Copy, copies_of}
use Rattle.fir_elaborate.specs.declared.elaborated.Elaborated.{Elaborated}
use Rattle.fir_elaborate.specs.declared.elaborated.ModuleCopy.{ModuleCopy}
use Rattle.fir_elaborate.specs.working.CopyPaths.{paths_below, prefix_text}
use Rattle.fir_elaborate.specs.working.OrderedModules.{IsOrdered, instances_of}

abbrev pub copy_seen : ModuleCopy → Copy
copy_seen k = record { module_number = k.module_number; first = k.first; own = k.own; array = k.array }

-- a module of the code with the names of what it declares: it is that of the definitions, in order, and its instances are of modules that are there
pub record IsViewed (views : List LeafModule) (m : LeafModule) (part : ModuleOfCode) (ns : List (List ℕ)) : Type 0 where
  pub view : HasView part m
  pub names : ns ≡ map (λ n. n.name) m.declared
  pub ordered : IsOrdered m
  pub there : (i : HeldInstance) → In (instances_of m.body) i → i.module_number < length views

-- so it is with each
pub record AreViewed (views : List LeafModule) (parts : List ModuleOfCode) (names : List (List (List ℕ))) : Type 0 where
  pub count : length parts ≡ length views
  pub names_count : length names ≡ length views
  pub each : (x : ℕ) (part : ModuleOfCode) (ns : List (List ℕ)) → slice_get parts x ≡ Some part → slice_get names x ≡ Some ns
      → IsViewed views (module_of views x) part ns

-- the copies of the modules below the main one of that number, what stands before the paths of their leaves, and the words and the arrays of the state in
-- their order
pub record IsElaborated (main : ℕ) (d : Design) (e : Elaborated) : Type 0 where
  pub copies : map copy_seen e.copies.items ≡ copies_of main d
  pub prefixes : map (λ (k : ModuleCopy). k.prefix) e.copies.items ≡ map prefix_text (paths_below [] d)
  pub state : e.state.items ≡ (flattened d).words
  pub array_order : e.array_order.items ≡ (flattened d).array_order
