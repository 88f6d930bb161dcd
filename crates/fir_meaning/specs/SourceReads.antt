-- Which leaves an expression reads for a leaf of its type, by paths (FIRRTL spec, "References", "Sub-accesses", "Expressions").
-- A reference reads its dynamic indices and every leaf that these may pick. A mux and a validif read their condition too.
use Rattle.std.specs.Prelude.{ℕ, List, [], ◌∷◌, ◌++◌, map, Option, Some, None}
use Rattle.fir_ast.specs.declared.place.Place.{Place}
use Rattle.fir_ast.specs.Types.{DataType}
use Rattle.fir_ast.specs.Expressions.{Expression, reference, literal, operation, mux, validif, Parts, no_parts, subfield, subindex, subaccess, Expressions, no_expressions, expression}
use Rattle.fir_meaning.specs.ExpressionPlaces.{place_of}
use Rattle.fir_meaning.specs.LeafPaths.{LeafPath, named}
use Rattle.fir_meaning.specs.ResetItems.{paths_along}
use Rattle.fir_meaning.specs.ResetJoins.{type_of_known}
use Rattle.fir_meaning.specs.TypedScopes.{TypedScope, known}

abbrev pub paths_from : List ℕ → Option DataType → Parts → List LeafPath
paths_from name None ps = []
paths_from name (Some t) ps = paths_along (named name ∷ []) t ps

-- where the dynamic indices stand
abbrev pub index_places : Parts → List Place
index_places no_parts = []
index_places (subfield first p x rest) = index_places rest
index_places (subindex first p i rest) = index_places rest
index_places (subaccess first e rest) = place_of e ∷ index_places rest

module _ (scope : TypedScope) where
  -- the leaves of a reference for a leaf of its type: each that its dynamic indices may pick
  abbrev pub leaves_named : List ℕ → Parts → LeafPath → List LeafPath
  leaves_named name ps q = map (λ path. path ++ q) (paths_from name (type_of_known (known scope name)) ps)

  abbrev mutual
    pub reads : Expression → LeafPath → List LeafPath
    reads (reference p n ps) q = index_reads ps ++ leaves_named n ps q
    reads (literal l) q = []
    reads (operation p op es ks) q = operand_reads es
    reads (mux p c a b) q = reads c [] ++ reads a q ++ reads b q
    reads (validif p c a) q = reads c [] ++ reads a q

    pub index_reads : Parts → List LeafPath
    index_reads no_parts = []
    index_reads (subfield first p x rest) = index_reads rest
    index_reads (subindex first p i rest) = index_reads rest
    index_reads (subaccess first e rest) = reads e [] ++ index_reads rest

    pub operand_reads : Expressions → List LeafPath
    operand_reads no_expressions = []
    operand_reads (expression e es) = reads e [] ++ operand_reads es
