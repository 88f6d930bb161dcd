-- What the code's statements under way are, in plain data.
use Rattle.std.specs.Prelude.{◌≡◌, ℕ, ◌+◌, ◌<◌, ◌≤◌, List, [], ◌∷◌, length, map, Result, Ok, Err}
use Rattle.fir_ast.specs.declared.place.Place.{Place}
use Rattle.fir_ast.specs.declared.expressions.Reference.{Reference}
use Rattle.fir_ast.specs.Statements.{Statement, Block, then}
use Rattle.fir_ast.specs.working.Views.{expr_of, sink_of, stmt_of, block_of}
use Rattle.fir_parse.specs.declared.lexeme.Lexeme.{Lexeme}
use Rattle.fir_parse.specs.declared.lexeme.Lexeme.TheVariants as code
use Rattle.fir_parse.specs.declared.lexeme.Mark.TheVariants.{Connect, PartialConnect, Dot, OpenSquare}
use Rattle.fir_parse.specs.declared.statements.Sequence.{Sequence}
use Rattle.fir_parse.specs.declared.stop.Stop.{Stop}
use Rattle.fir_parse.specs.declared.stop.Stop.TheVariants as stop
use Rattle.fir_parse.specs.declared.whens.Begun.{Begun}
use Rattle.fir_parse.specs.declared.whens.Begun.TheVariants as begins
use Rattle.fir_parse.specs.declared.whens.OpenWhen.{OpenWhen}
use Rattle.fir_parse.specs.declared.whens.Otherwise.{Otherwise}
use Rattle.fir_parse.specs.declared.whens.Otherwise.TheVariants as otherwise
use Rattle.fir_parse.specs.working.Symbols.{OpenWhen as OpenWhenTree, Begun as BegunTree, statement, open_when, Otherwise as OtherwiseTree, else_block, else_when, no_else, statements}
use Rattle.fir_parse.specs.working.States.{State, wants}
use Rattle.fir_parse.specs.working.StatementRules.{bare}

abbrev pub open_when_of : OpenWhen → OpenWhenTree
open_when_of w = record { place = w.place; condition = expr_of w.condition; block = block_of (map stmt_of w.block.items) }

abbrev pub begun_of : Begun → BegunTree
begun_of (begins.Statement s) = statement (stmt_of s)
begun_of (begins.When w) = open_when (open_when_of w)

abbrev pub otherwise_of : Otherwise → OtherwiseTree
otherwise_of (otherwise.Block b) = else_block (block_of (map stmt_of b.items))
otherwise_of (otherwise.When w) = else_when (open_when_of w)
otherwise_of (otherwise.Statement s) = no_else (stmt_of s)

-- a when has room for one block more
abbrev pub Deepens : ℕ → Begun → Type 0
Deepens d (begins.Statement s) = Unit {0}
Deepens d (begins.When w) = d < 256

abbrev pub DeepensElse : ℕ → Otherwise → Type 0
DeepensElse d (otherwise.When w) = d < 256
DeepensElse d _ = Unit {0}

abbrev pub IsBare : Place → List ℕ → Result Reference Stop → Type 0
IsBare p w (Ok r) = sink_of r ≡ bare p w
IsBare p w (Err s) = s ≡ stop.Memory

-- statements before those behind them
abbrev pub statements_before : List Statement → Block → Block
statements_before [] rest = rest
statements_before (s ∷ ss) rest = (then) s (statements_before ss rest)

abbrev pub done_of : Sequence → List Statement
done_of s = map stmt_of s.done.items

abbrev pub opens_of : Sequence → List OpenWhenTree
opens_of s = map open_when_of s.pending.items

-- neither a second word nor a sign behind which a reference goes on or a connect stands
abbrev pub IsNeither : Lexeme → Type 0
IsNeither (code.Word w) = ⊥
IsNeither (code.Mark Connect) = ⊥
IsNeither (code.Mark PartialConnect) = ⊥
IsNeither (code.Mark Dot) = ⊥
IsNeither (code.Mark OpenSquare) = ⊥
IsNeither _ = Unit {0}

-- the statements of a level, behind those that are read
abbrev pub more_statements : ℕ → Sequence → (Block → State) → State
more_statements d s k = wants (statements d (opens_of s)) (λ rest. k (statements_before (done_of s) rest))

-- so many blocks and brackets at most are open where the next else stands
abbrev pub IsWithin : ℕ → Sequence → Type 0
IsWithin d s = d + length s.pending.items ≤ 256
