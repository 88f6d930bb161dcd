use Rattle.std.specs.Prelude.{◌≡◌, Some, slice_get}
use Rattle.fir_ast.specs.Circuits.{ModuleTree}
use Rattle.fir_ast.specs.working.Views.{circuit_of}
use Rattle.fir_leaf_text.specs.working.DeclaredNames.{names_in_module}
use Rattle.fir_leaf_text.proofs.AllTexts.{AreTextsSoFar}
use Rattle.fir_leaf_text.proofs.all_leaves.leaf_texts.Given as goal

abbrev pub invariant-loop-position : goal.invariant-loop-position
invariant-loop-position l =
    (m : ModuleTree) → slice_get (circuit_of l.circuit).modules l.module_number ≡ Some m → l.names ≡ names_in_module m
    → AreTextsSoFar (circuit_of l.circuit) l.module_number l.position l.texts.items
