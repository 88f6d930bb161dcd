-- A connect over leaves beside the drives of a connect of the text.
use Rattle.std.proofs.Common.{◌≡◌, ℕ, ◌<◌, List, [], ◌∷◌, ◌++◌, Bool, true, false, if◌then◌else◌, length, Some, refl, sym, ap, ap₂, ◌∙◌}
use Rattle.fir_ast.specs.declared.place.Place.{Place}
use Rattle.fir_ast.specs.Expressions.{Expression}
use Rattle.fir_ast.specs.Statements.{SinkReference, Statement}
use Rattle.fir_ast.specs.Types.{DataType}
use Rattle.fir_meaning.specs.ConnectPairs.{Pair}
use Rattle.fir_meaning.specs.working.LeafBlocks as over
use Rattle.fir_meaning.specs.working.LeafPairs.{LeafPair}
use Rattle.fir_meaning.specs.working.Leafed.{target_of}
use Rattle.fir_meaning.specs.working.LeafedBlocks.{Sides, connect_block, driven_where, pair_block, pairs_block, sides, term_at}
use Rattle.fir_meaning.specs.FoundTypes.{type_where}
use Rattle.fir_meaning.specs.ModuleScenes.{Scene, scope_before}
use Rattle.fir_meaning.specs.working.LeafedModules.{module_leaves}
use Rattle.fir_meaning.specs.Reaching.{Reached}
use Rattle.fir_meaning.specs.SizedScopes.{sink_expression}
use Rattle.fir_meaning.specs.SourceDrives.{connect_drives, pair_drive, pair_drives, side, type_here}
use Rattle.fir_meaning.specs.TreeValues.{TypesByPath, ValuesByPath}
use Rattle.fir_meaning.specs.TypeLeaves.{type_leaves}
use Rattle.fir_meaning.specs.TypedScopes.{TypedScope}
use Rattle.fir_meaning.specs.Visibility.{Before}
use Rattle.fir_meaning.specs.Visits.{Branch, Visit, visit}
use Rattle.fir_meaning.specs.working.WellTyped.{ConnectIsLegal, HasType, Reaches}
use Rattle.fir_meaning.proofs.FoundTypes.{found_type}
use Rattle.fir_leaf.specs.working.LeafLaws.{Begins}
use Rattle.fir_leaf.proofs.LeafValues.{reaches_stands}
use Rattle.fir_leaf.proofs.PairsByNumber.{ArePairs, IsPair}
use Rattle.fir_source_faults.specs.working.ReadsByPath.{ReadsByPath, scope_of_module}
use Rattle.fir_source_faults.proofs.DrivePieces.{Beside, both_beside, idle}
use Rattle.fir_source_faults.proofs.SidePieces.{expression_driven, side_reads, sink_driven}

-- the type of a target is that of what its reference reaches
any_types : TypesByPath
any_types path = record { signed = false; width = 0 }

any_values : ValuesByPath
any_values path = 0

pub target_type : (scope whole : TypedScope) → Begins scope whole → (sink : SinkReference) (r : Reached) → Reaches scope sink r
    → (target_of scope sink).data_type ≡ r.data_type
target_type scope whole begins sink r h = (reaches_stands scope whole any_types any_values begins sink r h).data_type

-- and of the reference as an expression
pub sink_has_type : (scope : TypedScope) (sink : SinkReference) (r : Reached) → Reaches scope sink r → HasType scope (sink_expression sink) r.data_type
sink_has_type scope sink r h = (h.0, r, h.1, h.2, refl)

pub found_here : (scope : TypedScope) (e : Expression) (t : DataType) → HasType scope e t → type_here scope e ≡ t
found_here scope e t h = ap (λ c. type_where c.has) (found_type scope e t h)

module _ (s : Scene) (depth x : ℕ) (reading : ReadsByPath s) (lt : x < length (module_leaves s)) (under : List Branch) (k : ℕ) (before : Before)
    (own : List Bool) (statement : Statement) (begins : Begins (scope_before s before) (scope_of_module s)) where
  abbrev here : Visit
  here = visit own before under statement

  abbrev scope : TypedScope
  scope = scope_before s before

  module _ (p : Place) (sink : SinkReference) (e : Expression) (left : Reached) (t : DataType) (reaches : Reaches (scope_before s before) sink left)
      (has : HasType (scope_before s before) e t) where
    abbrev both : Sides
    both = sides scope sink e

    pair_beside : (way : List Bool) (n : LeafPair) (pair : Pair) → IsPair (type_leaves left.data_type) (type_leaves t) n pair
        → Beside s depth x under k way (pair_block p (sides scope sink e) n)
        (pair_drive s here way p (sink_expression sink) e pair ∷ [])
    pair_beside way n pair w = by n.flip pair.left.flip w.flip
      where
        by : (a b : Bool) → a ≡ b
            → Beside s depth x under k way
            (if a
            then driven_where p both.right n.right (term_at both.gives_back n.left)
            else driven_where p (Some both.left) n.left (term_at both.gives n.right))
            ((if b
            then record {
              way = way;
              place = p;
              under = under;
              driven = side scope e pair.right.path;
              given = side scope (sink_expression sink) pair.left.path;
            }
            else record {
              way = way;
              place = p;
              under = under;
              driven = side scope (sink_expression sink) pair.left.path;
              given = side scope e pair.right.path;
            }) ∷ [])
        by true true h =
            expression_driven s depth x reading lt under k way p scope begins e t n.right pair.right (term_at both.gives_back n.left)
            (side scope (sink_expression sink) pair.left.path) has w.right
            (reading.expression scope (sink_expression sink) left.data_type n.left pair.left begins (sink_has_type scope sink left reaches) w.left
            ∙ sym (side_reads scope (sink_expression sink) pair.left.path))
        by false false h =
            sink_driven s depth x reading lt under k way p scope begins sink left n.left pair.left (term_at both.gives n.right)
            (side scope e pair.right.path) reaches w.left
            (reading.expression scope e t n.right pair.right begins has w.right ∙ sym (side_reads scope e pair.right.path))
        by true false h = absurd (cc)
        by false true h = absurd (cc)

    pairs_beside : (way : List Bool) (ns : List LeafPair) (qs : List Pair) → ArePairs (IsPair (type_leaves left.data_type) (type_leaves t)) ns qs
        → Beside s depth x under k way (pairs_block p (sides scope sink e) ns) (pair_drives s here way p (sink_expression sink) e qs)
    pairs_beside way [] [] h = idle s depth x under k way over.done [] (λ f. refl) (λ f. refl) refl refl
    pairs_beside way [] (q ∷ qs) h = absurd h
    pairs_beside way (n ∷ ns) [] h = absurd h
    pairs_beside way (n ∷ ns) (q ∷ qs) h =
        both_beside s depth x under k way (pair_block p (sides scope sink e) n) (pairs_block p (sides scope sink e) ns)
        (pair_drive s here (way ++ false ∷ []) p (sink_expression sink) e q ∷ []) (pair_drives s here (way ++ true ∷ []) p (sink_expression sink) e qs)
        (pair_beside (way ++ false ∷ []) n q h.0) (pairs_beside (way ++ true ∷ []) ns qs h.1)

  pub connect_beside : (fits : DataType → DataType → Bool) (numbers_of : DataType → DataType → List LeafPair) (pairs_of : DataType → DataType → List Pair)
      → ((t u : DataType) → fits t u ≡ true → ArePairs (IsPair (type_leaves t) (type_leaves u)) (numbers_of t u) (pairs_of t u)) → (p : Place)
      (sink : SinkReference) (e : Expression) → ConnectIsLegal fits pairs_of (scope_before s before) sink e
      → Beside s depth x under k own (connect_block numbers_of (scope_before s before) p sink e)
      (connect_drives s (visit own before under statement) pairs_of p (sink_expression sink) e)
  connect_beside fits numbers_of pairs_of alike p sink e h =
      let by_number : numbers_of (target_of scope sink).data_type (type_here scope e) ≡ numbers_of h.0.data_type h.1 =
      ap₂ numbers_of (target_type scope (scope_of_module s) begins sink h.0 h.2) (found_here scope e h.1 h.3) in
      let by_path : pairs_of (type_here scope (sink_expression sink)) (type_here scope e) ≡ pairs_of h.0.data_type h.1 =
      ap₂ pairs_of (found_here scope (sink_expression sink) h.0.data_type (sink_has_type scope sink h.0 h.2)) (found_here scope e h.1 h.3) in
      rw (by_number, by_path)
      (pairs_beside p sink e h.0 h.1 h.2 h.3 own (numbers_of h.0.data_type h.1) (pairs_of h.0.data_type h.1) (alike h.0.data_type h.1 h.4))
