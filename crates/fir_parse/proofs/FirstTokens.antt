-- The first token of a form is no sign with which anything goes on before it.
use Rattle.std.proofs.Common.{◌≡◌, ℕ, List, [], ◌∷◌, true, codes, refl, ◌∙◌}
use Rattle.fir_bits.specs.OperatorWords.{operator_word}
use Rattle.fir_ast.specs.declared.place.Place.{Place}
use Rattle.fir_ast.specs.Types.{DataType, uint, sint, clock, reset, async_reset, bundle, vector}
use Rattle.fir_ast.specs.Expressions.{Expression, reference, literal, operation, mux, validif}
use Rattle.fir_ast.specs.Statements.{Statement, wire, register, node, instance, memory, when, connect, partial_connect, invalid, skip, Block, done, then}
use Rattle.fir_ast.specs.Circuits.{ModuleTree}
use Rattle.fir_parse.specs.declared.lexeme.Mark.TheVariants.{OpenCurly}
use Rattle.fir_parse.specs.Lexemes.{Lexeme, word, mark, level_closes, Terminal}
use Rattle.fir_parse.specs.Limits.{Limits}
use Rattle.fir_parse.specs.Pieces.{◌▸◌, Closes, TokenAt}
use Rattle.fir_parse.specs.TypeForms.{IsType}
use Rattle.fir_parse.specs.ExpressionForms.{literal_word, IsExpression}
use Rattle.fir_parse.specs.StatementForms.{IsStatement, AreStatements}
use Rattle.fir_parse.specs.CircuitForms.{AreSomeModules}
use Rattle.fir_parse.proofs.Peeled.{passes}

abbrev pub Begun : List Terminal → Type 0
Begun a = (t : Terminal) × (ts : List Terminal) × (a ≡ t ∷ ts) × (passes t.lexeme ≡ true)

begun : (l : Lexeme) (p : Place) (a b : List Terminal) → passes l ≡ true → TokenAt l p a b → Begun a
begun l p a b h e = (record { lexeme = l; place = p }, b, e, h)

module _ (limits : Limits) where
  pub type_begun : (d : ℕ) (t : DataType) (a b : List Terminal) → IsType limits d t a b → Begun a
  type_begun d (uint w) a b (m, (p, e), x) = begun (word (codes "UInt")) p a m refl e
  type_begun d (sint w) a b (m, (p, e), x) = begun (word (codes "SInt")) p a m refl e
  type_begun d clock a b (p, e) = begun (word (codes "Clock")) p a b refl e
  type_begun d reset a b (p, e) = begun (word (codes "Reset")) p a b refl e
  type_begun d async_reset a b (p, e) = begun (word (codes "AsyncReset")) p a b refl e
  type_begun d (bundle fs) a b (m, (p, e), x) = begun (mark OpenCurly) p a m refl e
  type_begun d (vector t n) a b (m, x, y) = type_begun d t a m x

  pub expression_begun : (d : ℕ) (e : Expression) (a b : List Terminal) → IsExpression limits d e a b → Begun a
  expression_begun d (reference p w ps) a b (m, e, x) = begun (word w) p a m refl e
  expression_begun d (literal l) a b (m, e, x) = begun (word (literal_word l.signed)) l.place a m refl e
  expression_begun d (operation p op es ns) a b (m, e, x) = begun (word (operator_word op)) p a m refl e
  expression_begun d (mux p t u v) a b (m, e, x) = begun (word (codes "mux")) p a m refl e
  expression_begun d (validif p t u) a b (m, e, x) = begun (word (codes "validif")) p a m refl e

  statement_begun : (d : ℕ) (s : Statement) (a b : List Terminal) → IsStatement limits d s a b → Begun a
  statement_begun d (wire p n q t) a b (m, e, x) = begun (word (codes "wire")) p a m refl e
  statement_begun d (register p n q t c r) a b (m, e, x) = begun (word (codes "reg")) p a m refl e
  statement_begun d (node p n e) a b (m, t, x) = begun (word (codes "node")) p a m refl t
  statement_begun d (instance p n i) a b (m, e, x) = begun (word (codes "inst")) p a m refl e
  statement_begun d (memory p n fs) a b (m, e, x) = begun (word (codes "mem")) p a m refl e
  statement_begun d (when p e c f) a b (m, t, x) = begun (word (codes "when")) p a m refl t
  statement_begun d (connect p s e) a b (m, (n, t, x), y) = begun (word s.name) s.place a n refl t
  statement_begun d (partial_connect p s e) a b (m, (n, t, x), y) = begun (word s.name) s.place a n refl t
  statement_begun d (invalid p s) a b (m, (n, t, x), y) = begun (word s.name) s.place a n refl t
  statement_begun d (skip p) a b (m, e, x) = begun (word (codes "skip")) p a m refl e

  pub level_begun : (d : ℕ) (s : Block) (a b : List Terminal) → (AreStatements limits d s ▸ Closes) a b → Begun a
  level_begun d done a b (m, same, (p, e)) = begun level_closes p a b refl (same ∙ e)
  level_begun d ((then) s rest) a b (m, (n, x, y), c) = statement_begun d s a n x

  pub modules_begun : (ms : List ModuleTree) (a b : List Terminal) → (AreSomeModules limits ms ▸ Closes) a b → Begun a
  modules_begun [] a b (m, x, c) = absurd x
  modules_begun (n ∷ ms) a b (m, (m1, (m2, e, x), y), c) = begun (word (codes "module")) n.place a m2 refl e
