-- E20, an input leaf of the main module without a width; E21, integers or widths that an operation may not have, or a literal that does not fit; E22, a
-- condition of another width than 1 (FIRRTL spec, "Width Inference", "Primitive Operations", "Literals", "Conditionals"), under an assignment.
use Rattle.std.specs.Prelude.{ℕ, List, [], ◌∷◌, flat_map, Bool, ◌==◌, if◌then◌else◌, Option, Some, None, slice_index}
use Rattle.std.specs.Str.{bytes_eq}
use Rattle.fir_bits.specs.declared.operators.PrimOp.{PrimOp}
use Rattle.fir_bits.specs.Types.{is_legal}
use Rattle.fir_bits.specs.Literals.{holds_number}
use Rattle.fir_ast.specs.declared.place.Place.{Place}
use Rattle.fir_ast.specs.declared.expressions.Literal.{Literal}
use Rattle.fir_ast.specs.Expressions.{Expression, literal, operation}
use Rattle.fir_ast.specs.Statements.{PlacedName}
use Rattle.fir_ast.specs.Circuits.{ModuleTree, CircuitTree}
use Rattle.fir_ast.specs.Faults.{Fault}
use Rattle.fir_meaning.specs.LeafPaths.{LeafPath, named}
use Rattle.fir_meaning.specs.TypeLeaves.{turned}
use Rattle.fir_meaning.specs.Components.{Component, port}
use Rattle.fir_meaning.specs.ComponentTypes.{is_input}
use Rattle.fir_meaning.specs.ExpressionPlaces.{place_of}
use Rattle.fir_meaning.specs.WidthExpressions.{Width, unknown, Widths, width_under}
use Rattle.fir_meaning.specs.SizedTypes.{unsigned, Sized, scalar}
use Rattle.fir_meaning.specs.SizedLeaves.{sized_leaves}
use Rattle.fir_meaning.specs.SizedOperations.{width_in, first_sized}
use Rattle.fir_meaning.specs.SizedScopes.{SizedScope, sized_type, sized_types}
use Rattle.fir_meaning.specs.SizeFaults.{no_port_width, wrong_integers, wrong_literal, wrong_condition}
use Rattle.fir_meaning.specs.WidthWalk.{FaultRule, shown_in_circuit}

-- only a UInt or SInt leaf has an unknown width
abbrev pub unwritten : Place → LeafPath → Width → List Fault
unwritten p path (unknown k) = no_port_width p path ∷ []
unwritten p path _ = []

-- a flipped leaf of an output is an input
abbrev pub unwritten_inputs : PlacedName → Bool → Sized → List Fault
unwritten_inputs n inward t =
    flat_map (λ l. if turned inward l.flip then unwritten n.place (named n.name ∷ l.path) l.width else []) (sized_leaves t)

abbrev pub port_faults : CircuitTree → ModuleTree → PlacedName → Component → Sized → List Fault
port_faults c m n (port d t) sized = if bytes_eq m.named.name c.named.name then unwritten_inputs n (is_input d) sized else []
port_faults c m n _ sized = []

abbrev pub written_literal_faults : Literal → Option ℕ → List Fault
written_literal_faults l None = []
written_literal_faults l (Some width) =
    if holds_number l.signed width l.negative l.magnitude then [] else wrong_literal l.place width l.negative l.magnitude ∷ []

-- of an operation whose first operand has that width
abbrev pub operation_faults : Place → PrimOp → ℕ → List ℕ → List Fault
operation_faults p op width ks = if is_legal op width (slice_index ks 0) (slice_index ks 1) then [] else wrong_integers p op (width ∷ ks) ∷ []

abbrev pub form_faults : Widths → SizedScope → Expression → List Fault
form_faults w scope (literal l) = written_literal_faults l l.width
form_faults w scope (operation p op es ks) = operation_faults p op (width_under (width_in (first_sized (sized_types scope es))) w) ks
form_faults w scope _ = []

-- a reset that is no UInt has no width
abbrev pub condition_faults : Widths → Place → Sized → List Fault
condition_faults w p (scalar unsigned width) = if width_under width w == 1 then [] else wrong_condition p (width_under width w) ∷ []
condition_faults w p _ = []

abbrev pub legal_rule : CircuitTree → Widths → FaultRule
legal_rule c w = record {
  of_component = port_faults c;
  of_expression = form_faults w;
  of_condition = λ scope e. condition_faults w (place_of e) (sized_type scope e);
}

abbrev pub legal_faults : CircuitTree → Widths → List Fault
legal_faults c w = shown_in_circuit (legal_rule c w) c
