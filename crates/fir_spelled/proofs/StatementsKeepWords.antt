-- Behind the statements of a level all words are spelled as words that were before.
use Rattle.std.proofs.Common.{ℕ, ◌+◌, List, [], ◌∷◌, Option, Some, None}
use Rattle.fir_ast.specs.Statements.{PlacedName, Reset, MemoryPart, data_type, depth, read_latency, write_latency, reader, writer, readwriter, read_under_write, Statement, wire, register, node, instance, memory, when, connect, partial_connect, invalid, skip, Block, done, then}
use Rattle.fir_parse.specs.Limits.{everywhere}
use Rattle.fir_parse.specs.StatementForms.{IsResetPair, IsRegisterReset, AreNames, IsNames, IsMemoryPart, AreMemoryParts, IsMemoryBody, IsStatement, AreStatements, IsBlock, IsElse}
use Rattle.fir_spelled.proofs.WordPieces.{KeepsWords, keeps, token, somewhere, nothing, given, at, next, either}
use Rattle.fir_spelled.proofs.TypesKeepWords.{int, type_keeps}
use Rattle.fir_spelled.proofs.ExpressionsKeepWords.{expression_keeps, sink_keeps}

reset_pair : (d : ℕ) (r : Reset) → KeepsWords (IsResetPair everywhere d r)
reset_pair d r =
    next somewhere (next somewhere (next somewhere (next given (next (expression_keeps (d + 1) r.condition) (next somewhere (next (expression_keeps (d + 1) r.init) somewhere))))))

reset_keeps : (d : ℕ) (r : Option Reset) → KeepsWords (IsRegisterReset everywhere d r)
reset_keeps d None = somewhere
reset_keeps d (Some r) =
    next token (next somewhere (either (next somewhere (next given (next (reset_pair (d + 1) r) (next somewhere somewhere)))) (next somewhere (next somewhere (next (reset_pair d r) (next somewhere somewhere))))))

names_keep : (ns : List PlacedName) → KeepsWords (AreNames ns)
names_keep [] = nothing
names_keep (n ∷ ns) = next token (names_keep ns)

some_names_keep : (ns : List PlacedName) → KeepsWords (IsNames ns)
some_names_keep [] = keeps (λ a b x. absurd x)
some_names_keep (n ∷ ns) = next somewhere (next token (next (names_keep ns) somewhere))

pub memory_part : (d : ℕ) (f : MemoryPart) → KeepsWords (IsMemoryPart everywhere d f)
memory_part d (data_type p q t) = next token (next somewhere (next (next at (type_keeps d t)) somewhere))
memory_part d (depth p n) = next token (next somewhere (next int somewhere))
memory_part d (read_latency p n) = next token (next somewhere (next int somewhere))
memory_part d (write_latency p n) = next token (next somewhere (next int somewhere))
memory_part d (reader p ns) = next token (some_names_keep ns)
memory_part d (writer p ns) = next token (some_names_keep ns)
memory_part d (readwriter p ns) = next token (some_names_keep ns)
memory_part d (read_under_write p u) = next token (next somewhere (next somewhere somewhere))

memory_parts : (d : ℕ) (fs : List MemoryPart) → KeepsWords (AreMemoryParts everywhere d fs)
memory_parts d [] = nothing
memory_parts d (f ∷ fs) = next (memory_part d f) (memory_parts d fs)

memory_body : (d : ℕ) (fs : List MemoryPart) → KeepsWords (IsMemoryBody everywhere d fs)
memory_body d [] = nothing
memory_body d (f ∷ fs) = next somewhere (next (memory_part d f) (next (memory_parts d fs) somewhere))

mutual
  pub statement_keeps : (d : ℕ) (s : Statement) → KeepsWords (IsStatement everywhere d s)
  statement_keeps d (wire p n q t) = next token (next token (next somewhere (next (next at (type_keeps d t)) somewhere)))
  statement_keeps d (register p n q t c r) =
      next token (next token (next somewhere (next (next at (type_keeps d t)) (next somewhere (next (expression_keeps d c) (reset_keeps d r))))))
  statement_keeps d (node p n e) = next token (next token (next somewhere (next (expression_keeps d e) somewhere)))
  statement_keeps d (instance p n m) = next token (next token (next somewhere (next token somewhere)))
  statement_keeps d (memory p n fs) = next token (next token (next somewhere (next somewhere (memory_body d fs))))
  statement_keeps d (when p e b f) =
      next token (next (expression_keeps d e) (next somewhere (next somewhere (next given (next (block_keeps (d + 1) b) (else_keeps d f))))))
  statement_keeps d (connect p s e) = next (sink_keeps d s) (next somewhere (next (expression_keeps d e) (next somewhere given)))
  statement_keeps d (partial_connect p s e) = next (sink_keeps d s) (next somewhere (next (expression_keeps d e) (next somewhere given)))
  statement_keeps d (invalid p s) = next (sink_keeps d s) (next somewhere (next somewhere (next somewhere given)))
  statement_keeps d (skip p) = next token somewhere

  pub statements_keep : (d : ℕ) (b : Block) → KeepsWords (AreStatements everywhere d b)
  statements_keep d done = nothing
  statements_keep d ((then) s rest) = next (statement_keeps d s) (statements_keep d rest)

  pub block_keeps : (d : ℕ) (b : Block) → KeepsWords (IsBlock everywhere d b)
  block_keeps d done = either nothing (next somewhere somewhere)
  block_keeps d ((then) s rest) = next somewhere (next (statement_keeps d s) (next (statements_keep d rest) somewhere))

  else_keeps : (d : ℕ) (b : Block) → KeepsWords (IsElse everywhere d b)
  else_keeps d done = either nothing (next somewhere (next somewhere (next somewhere (either nothing (next somewhere somewhere)))))
  else_keeps d ((then) s rest) =
      either (next somewhere (next somewhere (next somewhere (next somewhere (next (statement_keeps (d + 1) s) (next (statements_keep (d + 1) rest) somewhere))))))
      (next somewhere (next given (statement_keeps (d + 1) s)))
