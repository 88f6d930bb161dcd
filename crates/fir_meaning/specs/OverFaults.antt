-- E19, a leaf or an expression that is over 128 bits, a choice of this project (FIRRTL spec, "Width Inference"), under an assignment.
-- A leaf counts at its declaration, and that of an instance at the instance too. A reference is over by its own leaf alone.
use Rattle.std.specs.Prelude.{ℕ, List, [], ◌∷◌, ◌++◌, flat_map, Bool, false, ◌||◌, nat_lt, if◌then◌else◌, codes}
use Rattle.fir_bits.specs.OperatorWords.{operator_word}
use Rattle.fir_ast.specs.declared.place.Place.{Place}
use Rattle.fir_ast.specs.Expressions.{Expression, reference, literal, operation, mux, validif, Parts, no_parts, subfield, subindex, subaccess}
use Rattle.fir_ast.specs.Statements.{PlacedName}
use Rattle.fir_ast.specs.Circuits.{ModuleTree, CircuitTree}
use Rattle.fir_ast.specs.Faults.{Fault}
use Rattle.fir_meaning.specs.LeafPaths.{LeafPath, named, element}
use Rattle.fir_meaning.specs.Components.{Component, memory}
use Rattle.fir_meaning.specs.WidthExpressions.{Widths, width_under}
use Rattle.fir_meaning.specs.SizedTypes.{Sized}
use Rattle.fir_meaning.specs.SizedLeaves.{SizedLeaf, sized_leaves}
use Rattle.fir_meaning.specs.SizedScopes.{SizedScope, sized_type}
use Rattle.fir_meaning.specs.SizedMemories.{sized_array, ports_or_array}
use Rattle.fir_meaning.specs.SizeFaults.{word_over, leaf_over}
use Rattle.fir_meaning.specs.WidthWalk.{FaultRule, shown_in_circuit}

abbrev pub is_leaf_over : Widths → SizedLeaf → Bool
is_leaf_over w l = nat_lt 128 (width_under l.width w)

-- each leaf of what the path leads to that is over
abbrev pub leaves_over : Widths → Place → LeafPath → Sized → List Fault
leaves_over w p path t = flat_map (λ l. if is_leaf_over w l then leaf_over p (path ++ l.path) ∷ [] else []) (sized_leaves t)

abbrev pub with_leaves : Component → Sized → Sized
with_leaves (memory parts) t = ports_or_array t (sized_array parts)
with_leaves c t = t

abbrev pub component_over : Widths → ModuleTree → PlacedName → Component → Sized → List Fault
component_over w m n c t = leaves_over w n.place (named n.name ∷ []) (with_leaves c t)

-- the first path that a reference names, also into a vector of length 0
abbrev pub first_path : LeafPath → Parts → LeafPath
first_path path no_parts = path
first_path path (subfield first p x rest) = first_path (path ++ named x ∷ []) rest
first_path path (subindex first p i rest) = first_path (path ++ element i ∷ []) rest
first_path path (subaccess first e rest) = first_path (path ++ element 0 ∷ []) rest

abbrev pub has_over : Widths → List SizedLeaf → Bool
has_over w [] = false
has_over w (l ∷ ls) = is_leaf_over w l || has_over w ls

-- told once, whichever leaf it is
abbrev pub form_over : Widths → Place → List ℕ → Sized → List Fault
form_over w p word t = if has_over w (sized_leaves t) then word_over p word ∷ [] else []

abbrev pub expression_over : Widths → SizedScope → Expression → List Fault
expression_over w scope (reference p n ps) = leaves_over w p (first_path (named n ∷ []) ps) (sized_type scope (reference p n ps))
expression_over w scope (literal l) = form_over w l.place (codes "literal") (sized_type scope (literal l))
expression_over w scope (operation p op es ks) = form_over w p (operator_word op) (sized_type scope (operation p op es ks))
expression_over w scope (mux p c a b) = form_over w p (codes "mux") (sized_type scope (mux p c a b))
expression_over w scope (validif p c a) = form_over w p (codes "validif") (sized_type scope (validif p c a))

abbrev pub over_rule : Widths → FaultRule
over_rule w = record { of_component = component_over w; of_expression = expression_over w; of_condition = λ scope e. [] }

abbrev pub over_faults : CircuitTree → Widths → List Fault
over_faults c w = shown_in_circuit (over_rule w) c
