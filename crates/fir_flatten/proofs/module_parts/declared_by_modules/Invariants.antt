use Rattle.std.proofs.Common.{◌≡◌, map, take}
use Rattle.fir_ast.specs.working.Views.{module_of}
use Rattle.fir_leaf_text.specs.working.DeclaredNames.{names_in_module}
use Rattle.fir_flatten.proofs.module_parts.declared_by_modules.Given as goal

abbrev pub invariant-loop-part : goal.invariant-loop-part
invariant-loop-part l = map (λ ns. ns.items) l.names.items ≡ map names_in_module (map module_of (take l.part-index l.part-items))
