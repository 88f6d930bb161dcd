-- Which faults the code's spots show, where each number has a width.
use Rattle.std.specs.Prelude.{◌≡◌, ℕ, List, [], ◌∷◌, ◌++◌, flat_map, Bool, true, false, ◌==◌, ◌||◌, nat_lt, if◌then◌else◌, None, codes}
use Rattle.fir_bits.specs.OperatorWords.{operator_word}
use Rattle.fir_ast.specs.declared.place.Place.{Place}
use Rattle.fir_ast.specs.Types.{DataType, uint, sint}
use Rattle.fir_ast.specs.Statements.{PlacedName, SinkReference}
use Rattle.fir_ast.specs.working.Views.{named_of, sink_of}
use Rattle.fir_ast.specs.working.TypeViews.{type_of}
use Rattle.fir_ast.specs.Circuits.{CircuitTree}
use Rattle.fir_ast.specs.Faults.{Fault}
use Rattle.fir_meaning.specs.LeafPaths.{LeafPath, named}
use Rattle.fir_meaning.specs.TypeLeaves.{turned}
use Rattle.fir_meaning.specs.ComponentTypes.{is_input}
use Rattle.fir_meaning.specs.WidthExpressions.{Width, Widths}
use Rattle.fir_meaning.specs.SizedTypes.{numbered}
use Rattle.fir_meaning.specs.SizeFaults.{word_over, leaf_over, no_port_width, wrong_condition}
use Rattle.fir_meaning.specs.OverFaults.{first_path, leaves_over, over_rule}
use Rattle.fir_meaning.specs.LegalFaults.{written_literal_faults, operation_faults, legal_rule}
use Rattle.fir_types.specs.working.Seen.{found_type}
use Rattle.fir_width.specs.declared.side.Side.{Side}
use Rattle.fir_infer_widths.specs.declared.spot.Spot.{Spot as SpotOfCode}
use Rattle.fir_infer_widths.specs.declared.spot.Spot.TheVariants as code
use Rattle.fir_infer_widths.specs.working.Numbered.{Agrees}
use Rattle.fir_infer_widths.specs.working.NumberedLeaves.{NumberedLeaf, numbered_leaves}
use Rattle.fir_infer_widths.specs.working.Spots.{Spot, shown_by}

abbrev pub is_over : ℕ → Bool
is_over width = nat_lt 128 width

abbrev pub leaves_of_side : List DataType → Side → List NumberedLeaf
leaves_of_side ts side = numbered_leaves side.first (found_type ts side.found)

-- each leaf of what the path leads to that is over
abbrev pub numbers_over : Widths → Place → LeafPath → List NumberedLeaf → List Fault
numbers_over u p path ls = flat_map (λ l. if is_over (u l.number) then leaf_over p (path ++ l.path) ∷ [] else []) ls

abbrev pub is_any_over : Widths → List NumberedLeaf → Bool
is_any_over u [] = false
is_any_over u (l ∷ ls) = is_over (u l.number) || is_any_over u ls

-- an operator, a mux, a validif or a literal, told by its word
abbrev pub word_where : Bool → Place → List ℕ → List Fault
word_where true p word = word_over p word ∷ []
word_where false p word = []

abbrev pub choice_word : Bool → List ℕ
choice_word true = codes "mux"
choice_word false = codes "validif"

abbrev pub named_over : Widths → PlacedName → List NumberedLeaf → List Fault
named_over u n ls = numbers_over u n.place (named n.name ∷ []) ls

abbrev pub sink_over : Widths → SinkReference → List NumberedLeaf → List Fault
sink_over u s ls = numbers_over u s.place (first_path (named s.name ∷ []) s.parts) ls

-- a type that is written, and has no numbers
abbrev pub written_over : PlacedName → DataType → List Fault
written_over n t = leaves_over (λ k. 0) n.place (named n.name ∷ []) (numbered None t)

abbrev pub over_at : List DataType → Widths → SpotOfCode → List Fault
over_at ts u (code.Declared n side) = named_over u (named_of n.now) (leaves_of_side ts side)
over_at ts u (code.Port d n side) = named_over u (named_of n.now) (leaves_of_side ts side)
over_at ts u (code.Array n t) = written_over (named_of n.now) (type_of t.now)
over_at ts u (code.Reference r side) = sink_over u (sink_of r.now) (leaves_of_side ts side)
over_at ts u (code.Literal l number) = word_where (is_over (u number)) l.now.place (codes "literal")
over_at ts u (code.Operation p op ks operand number) = word_where (is_over (u number)) p (operator_word op)
over_at ts u (code.Choice p is_mux side) = word_where (is_any_over u (leaves_of_side ts side)) p (choice_word is_mux)
over_at ts u (code.Condition p side) = []

-- a port's leaf that is an input and has no width
abbrev pub unwritten_leaf : PlacedName → LeafPath → DataType → List Fault
unwritten_leaf n path (uint None) = no_port_width n.place (named n.name ∷ path) ∷ []
unwritten_leaf n path (sint None) = no_port_width n.place (named n.name ∷ path) ∷ []
unwritten_leaf n path t = []

abbrev pub unwritten_in : PlacedName → Bool → List NumberedLeaf → List Fault
unwritten_in n inward ls = flat_map (λ l. if turned inward l.flip then unwritten_leaf n l.path l.ground_type else []) ls

abbrev pub condition_at : Place → DataType → ℕ → List Fault
condition_at p (uint w) width = if width == 1 then [] else wrong_condition p width ∷ []
condition_at p t width = []

abbrev pub legal_at : List DataType → Widths → SpotOfCode → List Fault
legal_at ts u (code.Port d n side) = unwritten_in (named_of n.now) (is_input d) (leaves_of_side ts side)
legal_at ts u (code.Literal l number) = written_literal_faults l.now l.now.width
legal_at ts u (code.Operation p op ks operand number) = operation_faults p op (u operand) ks.now
legal_at ts u (code.Condition p side) = condition_at p (found_type ts side.found) (u side.first)
legal_at ts u spot = []

-- it shows what the rules of faults show at a spot of the circuit
pub record IsSpot (c : CircuitTree) (ts : List DataType) (meant : List Width) (own : SpotOfCode) (spot : Spot) : Type 0 where
  pub over : (w u : Widths) → Agrees meant w u → over_at ts u own ≡ shown_by (over_rule w) spot
  pub legal : (w u : Widths) → Agrees meant w u → legal_at ts u own ≡ shown_by (legal_rule c w) spot

-- spot by spot
abbrev pub AreSpots : CircuitTree → List DataType → List Width → List SpotOfCode → List Spot → Type 0
AreSpots c ts meant [] [] = Unit {0}
AreSpots c ts meant (own ∷ owns) (spot ∷ spots) = IsSpot c ts meant own spot × AreSpots c ts meant owns spots
AreSpots c ts meant _ _ = ⊥

-- these spots have come
pub record Spotted (c : CircuitTree) (ts : List DataType) (meant : List Width) (old new : List SpotOfCode) (spots : List Spot) : Type 0 where
  pub more : List SpotOfCode
  pub grown : new ≡ old ++ more
  pub are : AreSpots c ts meant more spots
