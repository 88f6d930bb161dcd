-- Modules that instances name: by their numbers, and whether they are there.
use Rattle.std.proofs.Common.{◌≡◌, ℕ, List, [], ◌∷◌, Some, None, is_some, true, false, unwrap_or, refl, sym, ap, ◌∙◌}
use Rattle.std.specs.Prelude.{Option}
use Rattle.fir_ast.specs.Statements.{PlacedName}
use Rattle.fir_meaning.specs.Components.{find_name}
use Rattle.fir_meaning.specs.NameGroups.{missing_faults, unknown_name}
use Rattle.fir_names.specs.working.ModuleOrder.{find_number}
use Rattle.fir_names.specs.working.Numbered.{number_of}
use Rattle.fir_resolve.proofs.NumberedModules.{has_number}

pub number_is : (modules : List PlacedName) (name : List ℕ) (k : ℕ) → Some k ≡ find_number modules name → k ≡ number_of modules name
number_is modules name k is = ap (λ o. unwrap_or o 0) is

not_missing : (o : Option PlacedName) (m : PlacedName) → is_some o ≡ true → missing_faults o m ≡ []
not_missing None m there = absurd (cc)
not_missing (Some x) m there = refl

is_missing : (o : Option PlacedName) (m : PlacedName) → is_some o ≡ false → missing_faults o m ≡ unknown_name m.place m.name ∷ []
is_missing None m absent = refl
is_missing (Some x) m absent = absurd (cc)

pub module_there : (modules : List PlacedName) (m : PlacedName) (k : ℕ) → Some k ≡ find_number modules m.name
    → missing_faults (find_name modules m.name) m ≡ []
module_there modules m k is = not_missing (find_name modules m.name) m (sym (has_number modules m.name) ∙ ap is_some (sym is))

pub module_absent : (modules : List PlacedName) (m : PlacedName) → None ≡ find_number modules m.name
    → missing_faults (find_name modules m.name) m ≡ unknown_name m.place m.name ∷ []
module_absent modules m is = is_missing (find_name modules m.name) m (sym (has_number modules m.name) ∙ ap is_some (sym is))
