-- A module of a circuit with the circuit's widths, and with which of its Resets are asynchronous (FIRRTL spec, "Width Inference", "Reset Inference").
use Rattle.std.specs.Prelude.{◌≡◌, ◌↔◌, ℕ, Bool, true, Some, slice_get}
use Rattle.fir_ast.specs.Circuits.{CircuitTree}
use Rattle.fir_meaning.specs.LeafPaths.{LeafPath}
use Rattle.fir_meaning.specs.ResetItems.{End, leaf_item}
use Rattle.fir_meaning.specs.ResetWalks.{IsAsynchronous, IsLeafOf}
use Rattle.fir_meaning.specs.SizedDeclarations.{numbered_modules}
use Rattle.fir_meaning.specs.WidthRules.{AreWidths}
use Rattle.fir_meaning.specs.ModuleScenes.{Scene}

-- at the path of the module of that number stands a Reset that is asynchronous
pub record IsAsynchronousAt (c : CircuitTree) (module_number : ℕ) (path : LeafPath) : Type 0 where
  pub end : End
  pub leaf : IsLeafOf c end
  pub item : end.item ≡ leaf_item module_number path
  pub asynchronous : IsAsynchronous c end

abbrev pub AreResets : CircuitTree → ℕ → (LeafPath → Bool) → Type 0
AreResets c module_number is_async = (path : LeafPath) → (is_async path ≡ true) ↔ IsAsynchronousAt c module_number path

pub record IsSceneOf (c : CircuitTree) (module_number : ℕ) (s : Scene) : Type 0 where
  pub own : slice_get (numbered_modules c) module_number ≡ Some s.own
  pub widths : AreWidths c s.widths
  pub resets : AreResets c module_number s.is_async
