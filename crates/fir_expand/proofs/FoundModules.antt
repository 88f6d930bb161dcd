-- The module that a number or an instance is of.
use Rattle.std.proofs.Common.{◌≡◌, ℕ, List, slice_get, Some, sym, ap, ◌∙◌}
use Rattle.std.specs.Prelude.{option_map}
use Rattle.std.proofs.lemmas.Option.{same_Some, slice_get-map}
use Rattle.fir_base.proofs.Elements.{there}
use Rattle.fir_ast.specs.Statements.{PlacedName}
use Rattle.fir_ast.specs.Circuits.{ModuleTree, CircuitTree}
use Rattle.fir_meaning.specs.Mentions.{module_names}
use Rattle.fir_names.specs.working.ModuleOrder.{find_number}
use Rattle.fir_names.proofs.ModulesThere.{number_below, number_named}

-- the module of a name's number has that name
pub module_numbered : (c : CircuitTree) (name : List ℕ) (number : ℕ) → find_number (module_names c) name ≡ Some number
    → (m : ModuleTree) × (slice_get c.modules number ≡ Some m) × (m.named.name ≡ name)
module_numbered c name number is =
    let m = there c.modules number (number_below c name number is) in
    let n = number_named (module_names c) name number is in
    let same : m.0.named ≡ n.0 =
    same_Some m.0.named n.0
    (ap (option_map (λ (x : ModuleTree). x.named)) (sym m.1) ∙ sym (slice_get-map (λ (x : ModuleTree). x.named) c.modules number) ∙ n.1) in
    (m.0, m.1, ap (λ (x : PlacedName). x.name) same ∙ n.2)
