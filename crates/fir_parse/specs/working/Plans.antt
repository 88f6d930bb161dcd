-- What several parts of an expression read in a row.
use Rattle.std.specs.Prelude.{ℕ, Bool, Some}
use Rattle.fir_ast.specs.declared.place.Place.{Place}
use Rattle.fir_ast.specs.Expressions.{Expression}
use Rattle.fir_parse.specs.declared.lexeme.Mark.TheVariants.{Less, Greater, OpenRound}
use Rattle.fir_parse.specs.working.Symbols.{a_mark, a_natural}
use Rattle.fir_parse.specs.working.States.{wants, opens}
use Rattle.fir_parse.specs.working.ExpressionRules.{literal_rest}
use Rattle.fir_parse.specs.working.Reads.{Plan}

-- "<" int ">" "(" and the number of a literal, within so many open blocks and brackets
abbrev pub sized_plan : Bool → ℕ → Place → Plan Expression
sized_plan signed d p k =
    wants (a_mark Less) (λ m. wants a_natural (λ n. wants (a_mark Greater) (λ r. wants (a_mark OpenRound) (λ q. opens d q (literal_rest p signed (Some n.number) k)))))
