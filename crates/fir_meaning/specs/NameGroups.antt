-- The faults of names, over the whole language: E08 and E09 in one group, in the order of the text; E10; and E11, of which any may be told
-- (FIRRTL spec, "Circuits", "Namespaces", "Instances").
use Rattle.std.specs.Prelude.{◌≡◌, ℕ, List, [], ◌∷◌, ◌++◌, flat_map, codes, Option, Some, None}
use Rattle.fir_ast.specs.declared.place.Place.{Place}
use Rattle.fir_ast.specs.Texts.{place_text, separated}
use Rattle.fir_ast.specs.Statements.{PlacedName}
use Rattle.fir_ast.specs.Circuits.{CircuitTree}
use Rattle.fir_ast.specs.Faults.{Fault, E08, E09, E10, E11}
use Rattle.fir_pass.specs.Groups.{Group, in_order, any_of}
use Rattle.fir_meaning.specs.Components.{Declaration, find, find_name}
use Rattle.fir_meaning.specs.Mentions.{Mention, declares, uses, instantiates, circuit_mentions, module_names}
use Rattle.fir_meaning.specs.Hierarchy.{IsClosedWalk}

abbrev pub unknown_name : Place → List ℕ → Fault
unknown_name p name = record { code = E08; place = p; evidence = codes "unknown " ++ name }

abbrev pub twice : Place → List ℕ → Place → Fault
twice p name first = record { code = E09; place = p; evidence = codes "twice " ++ name ++ codes " " ++ place_text first }

abbrev pub no_module : Place → List ℕ → Fault
no_module p name = record { code = E10; place = p; evidence = codes "no module " ++ name }

abbrev pub recursive : Place → List (List ℕ) → Fault
recursive p walk = record { code = E11; place = p; evidence = codes "recursive " ++ separated (codes " > ") walk }

abbrev pub second_faults : Option PlacedName → PlacedName → List Fault
second_faults None n = []
second_faults (Some first) n = twice n.place n.name first.place ∷ []

abbrev pub hidden_faults : Option Declaration → Place → List ℕ → List Fault
hidden_faults None p name = unknown_name p name ∷ []
hidden_faults (Some d) p name = []

abbrev pub missing_faults : Option PlacedName → PlacedName → List Fault
missing_faults None m = unknown_name m.place m.name ∷ []
missing_faults (Some found) m = []

abbrev pub mention_faults : Mention → List Fault
mention_faults (declares before n) = second_faults (find_name before n.name) n
mention_faults (uses visible p name) = hidden_faults (find visible name) p name
mention_faults (instantiates modules m) = missing_faults (find_name modules m.name) m

abbrev pub faults_in : List Mention → List Fault
faults_in = flat_map mention_faults

abbrev pub absent_faults : Option PlacedName → PlacedName → List Fault
absent_faults None n = no_module n.place n.name ∷ []
absent_faults (Some found) n = []

-- E10, where no module has the circuit's name
abbrev pub no_main_faults : CircuitTree → List Fault
no_main_faults c = absent_faults (find_name (module_names c) c.named.name) c.named

abbrev pub IsRecursive : CircuitTree → Fault → Type 0
IsRecursive c f =
    (first : List ℕ) × (between : List (List ℕ)) × (p : Place) × IsClosedWalk c.modules first between p × (f ≡ recursive p (first ∷ between ++ first ∷ []))

abbrev pub name_group : CircuitTree → Group
name_group c = in_order (faults_in (circuit_mentions c))

abbrev pub main_group : CircuitTree → Group
main_group c = in_order (no_main_faults c)

abbrev pub hierarchy_group : CircuitTree → Group
hierarchy_group c = any_of (IsRecursive c)
