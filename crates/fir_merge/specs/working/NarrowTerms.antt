-- What bounds of literals and validifs stand for: what is wider than 128 bits counts as zero of no bits.
use Rattle.std.specs.Prelude.{List}
use Rattle.fir_bits.specs.Forms.{no_type}
use Rattle.fir_ast.specs.declared.expressions.Literal.{Literal}
use Rattle.fir_meaning.specs.Values.{literal_value, literal_type}
use Rattle.fir_meaning.specs.working.TermValues.{Holds}
use Rattle.fir_net.specs.declared.node.Node.{Node}
use Rattle.fir_connect.specs.working.Lowered.{zero_of}
use Rattle.fir_connect.specs.working.NetTerms.{NetTerm, choice, term_type, value}
use Rattle.fir_merge.specs.declared.bound.Bound.{Bound}
use Rattle.fir_merge.specs.working.Bounds.{StandsFor}
use Rattle.fir_merge.specs.working.Made.{narrow_or_none}

abbrev pub LiteralStands : List Node → List Node → Literal → Bound → Bound → Type 0
LiteralStands old new l nothing r =
    (holds : Holds) → StandsFor holds old nothing (zero_of no_type) → StandsFor holds new r (narrow_or_none (literal_type l) (value (literal_value l)))

abbrev pub ValidifStands : List Node → List Node → Bound → Bound → Bound → Bound → Type 0
ValidifStands old new c a nothing r =
    (holds : Holds) (u s : NetTerm) → StandsFor holds old nothing (zero_of no_type) → StandsFor holds old c u → StandsFor holds old a s
    → StandsFor holds new r (narrow_or_none (term_type holds s) (choice holds u s (zero_of (term_type holds s))))
