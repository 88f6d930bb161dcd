-- What a module costs without its instances' modules, as three sums: over the notes of its expressions, over the types of what it declares, and over its
-- statements.
use Rattle.std.specs.Prelude.{ℕ, ◌+◌, ◌*◌, max, List, [], ◌∷◌, map, Some, None}
use Rattle.fir_ast.specs.Statements.{Statement, instance, memory, when, Block, done, then}
use Rattle.fir_ast.specs.Circuits.{ModuleTree}
use Rattle.fir_meaning.specs.TypeLeaves.{leaf_count}
use Rattle.fir_meaning.specs.Visibility.{declarations}
use Rattle.fir_meaning.specs.ComponentTypes.{typed_scope}
use Rattle.fir_meaning.specs.TypedScopes.{TypedScope}
use Rattle.fir_types.specs.working.Notes.{LeafRange, Note, of_expression, of_reference, Pick}
use Rattle.fir_types.specs.working.ModuleNotes.{module_notes}
use Rattle.fir_meaning.specs.Costs.{leaves_where, memory_words_of, sum_of}

-- how many elements dynamic indices may pick
abbrev pub picked : List Pick → ℕ
picked [] = 1
picked (p ∷ ps) = max 1 p.length * picked ps

abbrev pub leaves_of_range : LeafRange → ℕ
leaves_of_range r = leaf_count r.data_type * picked r.picks

abbrev pub leaves_noted : Note → ℕ
leaves_noted (of_expression t) = leaves_where t
leaves_noted (of_reference None) = 0
leaves_noted (of_reference (Some r)) = leaves_of_range r

-- the leaves of all that is known
abbrev pub leaves_known : TypedScope → ℕ
leaves_known scope = sum_of (map (λ k. leaves_where k.data_type) scope)

-- what a statement costs without its expressions and what it declares
abbrev mutual
  pub plain_cost : Statement → ℕ
  plain_cost (instance p n other) = 1
  plain_cost (memory p n parts) = memory_words_of parts
  plain_cost (when p c a b) = 1 + plain_cost_of_block a + plain_cost_of_block b
  plain_cost _ = 0

  pub plain_cost_of_block : Block → ℕ
  plain_cost_of_block done = 0
  plain_cost_of_block ((then) s b) = plain_cost s + plain_cost_of_block b

abbrev pub sum_of_module : List ModuleTree → ModuleTree → ℕ
sum_of_module modules m =
    sum_of (map leaves_noted (module_notes modules m)) + leaves_known (typed_scope modules (declarations m)) + plain_cost_of_block m.body
