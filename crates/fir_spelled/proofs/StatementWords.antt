-- The names that are declared in statements that tokens spell are words, and the names of fields in their types have the bytes of words.
use Rattle.std.proofs.Common.{ℕ, ◌+◌, List, [], ◌∷◌, sym, subst, inl, inr}
use Rattle.std.specs.Prelude.{codes}
use Rattle.std.specs.List.{AllByRecursion}
use Rattle.fir_ast.specs.declared.place.Place.{Place}
use Rattle.fir_ast.specs.Statements.{PlacedName, MemoryPart, data_type, depth, read_latency, write_latency, reader, writer, readwriter, read_under_write, Statement, wire, register, node, instance, memory, when, connect, partial_connect, invalid, skip, Block, done, then}
use Rattle.fir_parse.specs.Limits.{everywhere}
use Rattle.fir_parse.specs.declared.lexeme.Mark.TheVariants.{Comma}
use Rattle.fir_parse.specs.Lexemes.{Lexeme, Terminal, word}
use Rattle.fir_parse.specs.ExpressionForms.{IsExpression}
use Rattle.fir_parse.specs.Pieces.{◌▸◌, LineEnd, Sign, TokenAt}
use Rattle.fir_parse.specs.StatementForms.{AreMemoryParts, AreNames, AreStatements, IsBlock, IsElse, IsMemoryBody, IsMemoryPart, IsNames, IsRegisterReset, IsStatement}
use Rattle.fir_flatten.specs.working.Words.{BlockHasWords, NamesAreWords, PartHasWords, StatementHasWords}
use Rattle.fir_spelled.proofs.WordPieces.{AreSpelledWell, token, somewhere, given, at, next, name_is_word}
use Rattle.fir_spelled.proofs.TypeWords.{declared_words, type_words}
use Rattle.fir_spelled.proofs.ExpressionsKeepWords.{expression_keeps}
use Rattle.fir_spelled.proofs.StatementsKeepWords.{block_keeps, memory_part, statement_keeps, statements_keep}

names_words : (ns : List PlacedName) (a b : List Terminal) → AreNames ns a b → AreSpelledWell a → NamesAreWords ns
names_words [] a b e h = tt
names_words (n ∷ ns) a b (m, name, rest) h = (name_is_word n a m name h, names_words ns m b rest ((token).behind a m name h))

-- the names behind a word and an arrow
port_names_words : (l : Lexeme) (p : Place) (ns : List PlacedName) (a b : List Terminal) → (TokenAt l p ▸ IsNames ns) a b → AreSpelledWell a → NamesAreWords ns
port_names_words l p [] a b (m, w, x) h = absurd x
port_names_words l p (n ∷ ns) a b (m1, w, (m2, arrow, (m3, name, (m4, names, end)))) h =
    let well : AreSpelledWell m2 = (next token somewhere).behind a m2 (m1, w, arrow) h in
    (name_is_word n m2 m3 name well, names_words ns m3 m4 names ((token).behind m2 m3 name well))

part_words : (d : ℕ) (f : MemoryPart) (a b : List Terminal) → IsMemoryPart everywhere d f a b → AreSpelledWell a → PartHasWords f
part_words d (data_type p q t) a b (m1, w, (m2, arrow, (m3, (m4, there, is), end))) h =
    type_words d t m4 m3 is ((next token (next somewhere at)).behind a m4 (m1, w, (m2, arrow, there)) h)
part_words d (depth p n) a b x h = tt
part_words d (read_latency p n) a b x h = tt
part_words d (write_latency p n) a b x h = tt
part_words d (reader p ns) a b x h = port_names_words (word (codes "reader")) p ns a b x h
part_words d (writer p ns) a b x h = port_names_words (word (codes "writer")) p ns a b x h
part_words d (readwriter p ns) a b x h = port_names_words (word (codes "readwriter")) p ns a b x h
part_words d (read_under_write p u) a b x h = tt

parts_words : (d : ℕ) (fs : List MemoryPart) (a b : List Terminal) → AreMemoryParts everywhere d fs a b → AreSpelledWell a → AllByRecursion PartHasWords fs
parts_words d [] a b e h = tt
parts_words d (f ∷ fs) a b (m, x, y) h = (part_words d f a m x h, parts_words d fs m b y ((memory_part d f).behind a m x h))

memory_words : (d : ℕ) (fs : List MemoryPart) (a b : List Terminal) → IsMemoryBody everywhere d fs a b → AreSpelledWell a → AllByRecursion PartHasWords fs
memory_words d [] a b e h = tt
memory_words d (f ∷ fs) a b (m, opens, (n, x, (k, y, closes))) h =
    let well : AreSpelledWell m = (somewhere).behind a m opens h in
    (part_words d f m n x well, parts_words d fs n k y ((memory_part d f).behind m n x well))

mutual
  statement_words : (d : ℕ) (s : Statement) (a b : List Terminal) → IsStatement everywhere d s a b → AreSpelledWell a → StatementHasWords s
  statement_words d (wire p n q t) a b x h = declared_words (TokenAt (word (codes "wire")) p) LineEnd token n d q t a b x h
  statement_words d (register p n q t c r) a b x h =
      declared_words (TokenAt (word (codes "reg")) p) (Sign Comma ▸ IsExpression everywhere d c ▸ IsRegisterReset everywhere d r) token n d q t a b x h
  statement_words d (node p n e) a b (m, w, (k, name, rest)) h = name_is_word n m k name ((token).behind a m w h)
  statement_words d (instance p n other) a b (m, w, (k, name, rest)) h = name_is_word n m k name ((token).behind a m w h)
  statement_words d (memory p n fs) a b (m1, w, (m2, name, (m3, colon, (m4, end, body)))) h =
      let well : AreSpelledWell m1 = (token).behind a m1 w h in
      (name_is_word n m1 m2 name well, memory_words d fs m4 b body ((next token (next somewhere somewhere)).behind m1 m4 (m2, name, (m3, colon, end)) well))
  statement_words d (when p e b f) a z (m1, w, (m2, x, (m3, colon, (m4, end, (m5, near, (m6, first, second)))))) h =
      let well : AreSpelledWell m5 =
      (next token (next (expression_keeps d e) (next somewhere (next somewhere given)))).behind a m5 (m1, w, (m2, x, (m3, colon, (m4, end, near)))) h in
      (block_words (d + 1) b m5 m6 first well, else_words d f m6 z second ((block_keeps (d + 1) b).behind m5 m6 first well))
  statement_words d (connect p s e) a b x h = tt
  statement_words d (partial_connect p s e) a b x h = tt
  statement_words d (invalid p s) a b x h = tt
  statement_words d (skip p) a b x h = tt

  pub statements_words : (d : ℕ) (x : Block) (a b : List Terminal) → AreStatements everywhere d x a b → AreSpelledWell a → BlockHasWords x
  statements_words d done a b e h = tt
  statements_words d ((then) s rest) a b (m, x, y) h = (statement_words d s a m x h, statements_words d rest m b y ((statement_keeps d s).behind a m x h))

  block_words : (d : ℕ) (x : Block) (a b : List Terminal) → IsBlock everywhere d x a b → AreSpelledWell a → BlockHasWords x
  block_words d done a b x h = tt
  block_words d ((then) s rest) a b (m, opens, (n, x, (k, y, closes))) h =
      let well : AreSpelledWell m = (somewhere).behind a m opens h in
      (statement_words d s m n x well, statements_words d rest n k y ((statement_keeps d s).behind m n x well))

  else_words : (d : ℕ) (x : Block) (a b : List Terminal) → IsElse everywhere d x a b → AreSpelledWell a → BlockHasWords x
  else_words d done a b x h = tt
  else_words d ((then) s rest) a b (inl (m1, w, (m2, colon, (m3, end, (m4, opens, (n, x, (k, y, closes))))))) h =
      let well : AreSpelledWell m4 =
      (next somewhere (next somewhere (next somewhere somewhere))).behind a m4 (m1, w, (m2, colon, (m3, end, opens))) h in
      (statement_words (d + 1) s m4 n x well, statements_words (d + 1) rest n k y ((statement_keeps (d + 1) s).behind m4 n x well))
  else_words d ((then) s rest) a b (inr (m1, w, (m2, ((is_when, none), same), x))) h =
      let well : AreSpelledWell m2 = subst AreSpelledWell same ((somewhere).behind a m1 w h) in
      (statement_words (d + 1) s m2 b x well, subst BlockHasWords (sym none) tt)
