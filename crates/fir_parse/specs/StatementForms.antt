-- Which tokens spell which statement (FIRRTL spec, "Statements"), within so many open blocks of whens and elses:
--   block = NL [ IN stmt* OUT ]
--   stmt  = "wire" name ":" type NL | "reg" name ":" type "," expr [ with ] NL | "node" name "=" expr NL | "inst" name "of" name NL
--         | "mem" name ":" NL [ IN field+ OUT ] | when | ref "<=" expr NL | ref "<-" expr NL | ref "is" "invalid" NL | "skip" NL
--   with  = "with" ":" "(" rst ")"  |  "with" ":" NL IN rst NL OUT      (the second ends the statement)
--   rst   = "reset" "=>" "(" expr "," expr ")"
--   when  = "when" expr ":" block [ "else" ":" block | "else" when ]
use Rattle.std.specs.Prelude.{◌≡◌, ℕ, ◌+◌, ◌<◌, List, [], ◌∷◌, Option, Some, None, codes}
use Rattle.fir_ast.specs.declared.statements.ReadUnderWrite.{ReadUnderWrite}
use Rattle.fir_ast.specs.declared.statements.ReadUnderWrite.TheVariants.{Old, New, Undefined}
use Rattle.fir_ast.specs.Statements.{PlacedName, Reset, MemoryPart, data_type, depth, read_latency, write_latency, reader, writer, readwriter, read_under_write, Statement, wire, register, node, instance, memory, when, connect, partial_connect, invalid, skip, Block, done, then}
use Rattle.fir_parse.specs.declared.lexeme.Mark.TheVariants.{Connect, PartialConnect, Arrow, Equals, OpenRound, CloseRound, Comma, Colon}
use Rattle.fir_parse.specs.Lexemes.{Terminal, word, dash_word}
use Rattle.fir_parse.specs.Limits.{Limits, nesting, Within}
use Rattle.fir_parse.specs.Pieces.{◌▸◌, At, Either, Given, Nothing, TokenAt, Sign, WordToken, LineEnd, Opens, Closes, NameToken, Int}
use Rattle.fir_parse.specs.TypeForms.{IsType}
use Rattle.fir_parse.specs.ExpressionForms.{IsExpression, IsSink}

abbrev pub IsResetPair : Limits → ℕ → Reset → List Terminal → List Terminal → Type 0
IsResetPair limits d r =
    WordToken (codes "reset") ▸ Sign Arrow ▸ Sign OpenRound ▸ Within limits nesting (d < 256) ▸ IsExpression limits (d + 1) r.condition ▸ Sign Comma
    ▸ IsExpression limits (d + 1) r.init ▸ Sign CloseRound

-- the rest of a register's statement, in either spelling
abbrev pub IsRegisterReset : Limits → ℕ → Option Reset → List Terminal → List Terminal → Type 0
IsRegisterReset limits d None = LineEnd
IsRegisterReset limits d (Some r) =
    TokenAt (word (codes "with")) r.place ▸ Sign Colon
    ▸ Either (Sign OpenRound ▸ Within limits nesting (d < 256) ▸ IsResetPair limits (d + 1) r ▸ Sign CloseRound ▸ LineEnd)
    (LineEnd ▸ Opens ▸ IsResetPair limits d r ▸ LineEnd ▸ Closes)

abbrev pub AreNames : List PlacedName → List Terminal → List Terminal → Type 0
AreNames [] = Nothing
AreNames (n ∷ ns) = NameToken n ▸ AreNames ns

-- one name or more, behind an arrow
abbrev pub IsNames : List PlacedName → List Terminal → List Terminal → Type 0
IsNames [] before behind = ⊥
IsNames (n ∷ ns) before behind = (Sign Arrow ▸ NameToken n ▸ AreNames ns ▸ LineEnd) before behind

abbrev pub under_write_word : ReadUnderWrite → List ℕ
under_write_word Old = codes "old"
under_write_word New = codes "new"
under_write_word Undefined = codes "undefined"

abbrev pub IsMemoryPart : Limits → ℕ → MemoryPart → List Terminal → List Terminal → Type 0
IsMemoryPart limits d (data_type p q t) = TokenAt (dash_word (codes "data-type")) p ▸ Sign Arrow ▸ (At q ▸ IsType limits d t) ▸ LineEnd
IsMemoryPart limits d (depth p n) = TokenAt (word (codes "depth")) p ▸ Sign Arrow ▸ Int limits n ▸ LineEnd
IsMemoryPart limits d (read_latency p n) = TokenAt (dash_word (codes "read-latency")) p ▸ Sign Arrow ▸ Int limits n ▸ LineEnd
IsMemoryPart limits d (write_latency p n) = TokenAt (dash_word (codes "write-latency")) p ▸ Sign Arrow ▸ Int limits n ▸ LineEnd
IsMemoryPart limits d (reader p ns) = TokenAt (word (codes "reader")) p ▸ IsNames ns
IsMemoryPart limits d (writer p ns) = TokenAt (word (codes "writer")) p ▸ IsNames ns
IsMemoryPart limits d (readwriter p ns) = TokenAt (word (codes "readwriter")) p ▸ IsNames ns
IsMemoryPart limits d (read_under_write p u) = TokenAt (dash_word (codes "read-under-write")) p ▸ Sign Arrow ▸ WordToken (under_write_word u) ▸ LineEnd

abbrev pub AreMemoryParts : Limits → ℕ → List MemoryPart → List Terminal → List Terminal → Type 0
AreMemoryParts limits d [] = Nothing
AreMemoryParts limits d (f ∷ fs) = IsMemoryPart limits d f ▸ AreMemoryParts limits d fs

-- no level, or one with a field at least
abbrev pub IsMemoryBody : Limits → ℕ → List MemoryPart → List Terminal → List Terminal → Type 0
IsMemoryBody limits d [] = Nothing
IsMemoryBody limits d (f ∷ fs) = Opens ▸ IsMemoryPart limits d f ▸ AreMemoryParts limits d fs ▸ Closes

abbrev pub IsWhen : Statement → Type 0
IsWhen (when p e b f) = Unit {0}
IsWhen _ = ⊥

abbrev mutual
  pub IsStatement : Limits → ℕ → Statement → List Terminal → List Terminal → Type 0
  IsStatement limits d (wire p n q t) = TokenAt (word (codes "wire")) p ▸ NameToken n ▸ Sign Colon ▸ (At q ▸ IsType limits d t) ▸ LineEnd
  IsStatement limits d (register p n q t c r) =
      TokenAt (word (codes "reg")) p ▸ NameToken n ▸ Sign Colon ▸ (At q ▸ IsType limits d t) ▸ Sign Comma ▸ IsExpression limits d c ▸ IsRegisterReset limits d r
  IsStatement limits d (node p n e) = TokenAt (word (codes "node")) p ▸ NameToken n ▸ Sign Equals ▸ IsExpression limits d e ▸ LineEnd
  IsStatement limits d (instance p n m) = TokenAt (word (codes "inst")) p ▸ NameToken n ▸ WordToken (codes "of") ▸ NameToken m ▸ LineEnd
  IsStatement limits d (memory p n fs) = TokenAt (word (codes "mem")) p ▸ NameToken n ▸ Sign Colon ▸ LineEnd ▸ IsMemoryBody limits d fs
  IsStatement limits d (when p e b f) =
      TokenAt (word (codes "when")) p ▸ IsExpression limits d e ▸ Sign Colon ▸ LineEnd ▸ Within limits nesting (d < 256) ▸ IsBlock limits (d + 1) b
      ▸ IsElse limits d f
  IsStatement limits d (connect p s e) = IsSink limits d s ▸ Sign Connect ▸ IsExpression limits d e ▸ LineEnd ▸ Given (p ≡ s.place)
  IsStatement limits d (partial_connect p s e) = IsSink limits d s ▸ Sign PartialConnect ▸ IsExpression limits d e ▸ LineEnd ▸ Given (p ≡ s.place)
  IsStatement limits d (invalid p s) = IsSink limits d s ▸ WordToken (codes "is") ▸ WordToken (codes "invalid") ▸ LineEnd ▸ Given (p ≡ s.place)
  IsStatement limits d (skip p) = TokenAt (word (codes "skip")) p ▸ LineEnd

  -- the statements of a level
  pub AreStatements : Limits → ℕ → Block → List Terminal → List Terminal → Type 0
  AreStatements limits d done = Nothing
  AreStatements limits d ((then) s rest) = IsStatement limits d s ▸ AreStatements limits d rest

  -- no level where there are no statements, or one
  pub IsBlock : Limits → ℕ → Block → List Terminal → List Terminal → Type 0
  IsBlock limits d done = Either Nothing (Opens ▸ Closes)
  IsBlock limits d ((then) s rest) = Opens ▸ IsStatement limits d s ▸ AreStatements limits d rest ▸ Closes

  -- no else where there are no statements; `else` and a block; or `else` and a when, which is all of the block
  pub IsElse : Limits → ℕ → Block → List Terminal → List Terminal → Type 0
  IsElse limits d done = Either Nothing (WordToken (codes "else") ▸ Sign Colon ▸ LineEnd ▸ Either Nothing (Opens ▸ Closes))
  IsElse limits d ((then) s rest) =
      Either (WordToken (codes "else") ▸ Sign Colon ▸ LineEnd ▸ Opens ▸ IsStatement limits (d + 1) s ▸ AreStatements limits (d + 1) rest ▸ Closes)
      (WordToken (codes "else") ▸ Given (IsWhen s × (rest ≡ done)) ▸ IsStatement limits (d + 1) s)
