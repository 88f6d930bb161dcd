-- What a part of the parser does: it reads what is expected, or stops, whatever follows.
use Rattle.std.specs.Prelude.{◌≡◌, ℕ, List, [], ◌∷◌, ◌++◌, length, drop, Result, Ok, Err}
use Rattle.ver_ast.specs.Tokens.{VToken}
use Rattle.ver_ast.specs.Pieces.{PlacedToken}
use Rattle.ver_ast.specs.Spells.{IsAlike}
use Rattle.ver_lex.specs.declared.lexeme.Next.{Next}
use Rattle.ver_lex.specs.working.Lexemes.{Sees}
use Rattle.ver_parse.specs.declared.parser.Parser.{Parser}
use Rattle.ver_parse.specs.declared.stop.Stop.{Stop}
use Rattle.ver_parse.specs.declared.stop.Stop.TheVariants as stop
use Rattle.ver_parse.specs.working.Symbols.{Symbol}
use Rattle.ver_parse.specs.working.Reading.{Outcome, complete, ends, unexpected, too_deep, read_on}

-- the tokens that are left
abbrev pub rest : Parser → List PlacedToken
rest p = drop p.next p.tokens.now.tokens

abbrev pub left : Parser → ℕ
left p = length (rest p)

-- the token is the first that is left
pub record IsFirst (p : Parser) (n : Next) : Type 0 where
  pub token : PlacedToken
  pub more : List PlacedToken
  pub tokens_are : rest p ≡ token ∷ more
  pub seen : Sees n.lexeme token.token
  pub place_is : n.place ≡ token.place

-- none is left
pub record IsEnd (p : Parser) (s : Stop) : Type 0 where
  pub nothing_left : rest p ≡ []
  pub stop_is : s ≡ stop.AtEnd

-- the first token that is left, or the end
abbrev pub IsAtHand : Parser → Result Next Stop → Type 0
IsAtHand p (Ok n) = IsFirst p n
IsAtHand p (Err s) = IsEnd p s

abbrev pub StopsBefore : List PlacedToken → Stop → Type 0
StopsBefore [] s = s ≡ stop.AtEnd
StopsBefore (t ∷ ts) s = s ≡ stop.Syntax t.place

-- why nothing is read where the first token is not expected
pub record IsRefusal (p : Parser) (s : Stop) : Type 0 where
  pub stops : StopsBefore (rest p) s

-- the first tokens are alike to these, and others are left
abbrev pub Takes : List VToken → List PlacedToken → List PlacedToken → Type 0
Takes [] old new = old ≡ new
Takes (g ∷ gs) old new = (t : PlacedToken) × (more : List PlacedToken) × (old ≡ t ∷ more) × IsAlike g t.token × Takes gs more new

-- the tokens that are left, where these are expected
abbrev pub goes : Parser → List Symbol → Outcome
goes p todo = read_on p.depth todo (rest p)

-- these tokens of the grammar are read, and behind them others are expected in the place of what was
pub record Leads (ss : List Symbol) (gs : List VToken) (next : List Symbol) (old new : Parser) : Type 0 where
  pub taken : Takes gs (rest old) (rest new)
  pub goes_on : (todo : List Symbol) → goes old (ss ++ todo) ≡ goes new (next ++ todo)

-- what was expected is read, as these tokens of the grammar
abbrev pub Gives : List Symbol → List VToken → Parser → Parser → Type 0
Gives ss gs old new = Leads ss gs [] old new

-- the tokens stop so, unless memory ran out
abbrev pub IsStop : Stop → Outcome → Type 0
IsStop stop.AtEnd o = o ≡ ends
IsStop (stop.Syntax p) o = o ≡ unexpected p
IsStop (stop.Depth p) o = o ≡ too_deep p
IsStop stop.Memory o = Unit {0}

-- they stop within what is expected
pub record Halts (ss : List Symbol) (old : Parser) (s : Stop) : Type 0 where
  pub stops : (todo : List Symbol) → IsStop s (goes old (ss ++ todo))

-- these tokens are behind others
abbrev pub HasFront : List VToken → List VToken → Type 0
HasFront front gs = gs ≡ front ++ drop (length front) gs
