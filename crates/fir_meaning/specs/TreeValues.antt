-- The values of an expression's leaves, by paths (FIRRTL spec, "Expressions", "Primitive Operations", "Multiplexers", "Sub-accesses").
-- A leaf of a mux is that of the arm which the condition picks. An index that is out of range reads zero, a choice of this project.
use Rattle.std.specs.Prelude.{ℕ, List, [], ◌∷◌, ◌++◌, Option, Some, None}
use Rattle.fir_bits.specs.declared.types.NumTy.{NumTy}
use Rattle.fir_bits.specs.declared.values.Num.{Num}
use Rattle.fir_bits.specs.Operators.{outcome}
use Rattle.fir_ast.specs.Types.{DataType}
use Rattle.fir_ast.specs.Expressions.{Expression, reference, literal, operation, mux, validif, Parts, no_parts, subfield, subindex, subaccess, Expressions, no_expressions, expression}
use Rattle.fir_ast.specs.Statements.{SinkReference}
use Rattle.fir_meaning.specs.LeafPaths.{LeafPath}
use Rattle.fir_meaning.specs.TypedScopes.{TypedScope}
use Rattle.fir_meaning.specs.Values.{number_of, literal_value, is_high, choice, value_or_zero}
use Rattle.fir_meaning.specs.FoundTypes.{absent_type}
use Rattle.fir_meaning.specs.TreeAims.{Aim, named_aim, field_aim, element_aim, picked_aim}
use Rattle.fir_meaning.specs.TypeParts.{ground_at}

-- the type of each leaf, by its path
abbrev pub TypesByPath : Type 0
TypesByPath = LeafPath → NumTy

abbrev pub ValuesByPath : Type 0
ValuesByPath = LeafPath → ℕ

abbrev pub value_where : Option LeafPath → ValuesByPath → ℕ
value_where None env = 0
value_where (Some p) env = env p

-- the type of a leaf behind a path; one that is not there has the type that is written
abbrev pub leaf_type_where : Option LeafPath → DataType → TypesByPath → LeafPath → NumTy
leaf_type_where (Some first) t holds q = holds (first ++ q)
leaf_type_where None t holds q = absent_type (ground_at t q)

abbrev pub leaf_where : Option LeafPath → LeafPath → Option LeafPath
leaf_where None q = None
leaf_where (Some p) q = Some (p ++ q)

-- the value of a leaf of what is named
abbrev pub aim_value : TypesByPath → ValuesByPath → Aim → LeafPath → Num
aim_value holds env a q = number_of (leaf_type_where a.first a.data_type holds q) (value_where (leaf_where a.at q) env)

module _ (scope : TypedScope) (holds : TypesByPath) (env : ValuesByPath) where
  abbrev mutual
    pub value : Expression → LeafPath → Num
    value (reference p n ps) q = aim_value holds env (aim_along (named_aim scope n) ps) q
    value (literal l) q = literal_value l
    value (operation p op es ks) q = outcome op (operand_values es) ks
    value (mux p c a b) q = choice (is_high (value c [] ∷ [])) (value a q) (value b q)
    value (validif p c a) q = value_or_zero (is_high (value c [] ∷ [])) (value a q)

    -- what parts lead to
    pub aim_along : Aim → Parts → Aim
    aim_along a no_parts = a
    aim_along a (subfield first p x rest) = aim_along (field_aim x a) rest
    aim_along a (subindex first p i rest) = aim_along (element_aim i a) rest
    aim_along a (subaccess first e rest) = aim_along (picked_aim (value e []).value.number a) rest

    pub operand_values : Expressions → List Num
    operand_values no_expressions = []
    operand_values (expression e es) = value e [] ∷ operand_values es

  abbrev pub aim_of : SinkReference → Aim
  aim_of s = aim_along (named_aim scope s.name) s.parts

  -- of an expression that is a reference
  abbrev pub aim_read : Expression → Option LeafPath
  aim_read (reference p n ps) = (aim_of (record { place = p; name = n; parts = ps })).at
  aim_read _ = None
