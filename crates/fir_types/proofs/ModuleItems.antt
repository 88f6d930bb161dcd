-- The module of the tree that stands at a place of the code's list.
use Rattle.std.proofs.Common.{◌≡◌, ℕ, zero, suc, ◌+◌, ◌<◌, List, [], ◌∷◌, map, length, slice_get, Some, sym, ap, ◌∙◌, get_or, arith}
use Rattle.fir_ast.specs.declared.circuit.Circuit.{Circuit}
use Rattle.fir_ast.specs.declared.circuit.Module.{Module}
use Rattle.fir_ast.specs.working.Views.{circuit_of, module_of}

module_at : (xs : List Module) (i : ℕ) (x : Module) → i < length xs → x ≡ get_or xs i x → slice_get (map module_of xs) i ≡ Some (module_of x)
module_at [] i x within at = absurd (omega arith)
module_at (y ∷ xs) zero x within at = ap (λ z. Some (module_of z)) (sym at)
module_at (y ∷ xs) (suc i) x within at = module_at xs i x (omega arith) at

pub module_there : (c : Circuit) (items : List Module) (same : items ≡ c.modules.items) (i : ℕ) (m : Module) → i < length items → m ≡ get_or items i m
    → slice_get (circuit_of c).modules i ≡ Some (module_of m)
module_there c items same i m within at = sym (ap (λ xs. slice_get (map module_of xs) i) same) ∙ module_at items i m within at
