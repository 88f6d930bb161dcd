-- Tokens that spell the statements of a level are read as those.
use Rattle.std.proofs.Common.{◌≡◌, ℕ, ◌+◌, List, [], ◌∷◌, ◌++◌, length, codes, refl, sym, ◌∙◌, inl, inr, subst, arith, length-append}
use Rattle.fir_ast.specs.Statements.{Statement, wire, when, Block, done, then}
use Rattle.fir_parse.specs.declared.lexeme.Mark.TheVariants.{Colon}
use Rattle.fir_parse.specs.Lexemes.{Terminal, word, mark}
use Rattle.fir_parse.specs.Pieces.{Sign, WordToken, Closes}
use Rattle.fir_parse.specs.StatementForms.{IsWhen, IsStatement, AreStatements, IsBlock, IsElse}
use Rattle.fir_parse.specs.working.Symbols.{OpenWhen}
use Rattle.fir_parse.proofs.Completions.{TailEnds}
use Rattle.fir_parse.proofs.FormsReadPieces.{tail_ends_at}
use Rattle.fir_parse.proofs.FormsReadReferences.{whole_expression}
use Rattle.fir_parse.proofs.FormsReadExpressions.{expression_read}
use Rattle.fir_parse.proofs.FormsReadDeclarations.{NoLevel, no_level_at, statement_read}
use Rattle.fir_parse.proofs.FormsReadWhens.{BlockRead, StatementsRead, ElseRead, WhenRead, read_when, whole_when, another, level_ends, statements_along, no_block, level_block, read_else_block, read_else_when}
use Rattle.fir_parse.specs.Limits.{Limits}

module _ (limits : Limits) where
  colon_ends : (a b : List Terminal) → Sign Colon a b → TailEnds a
  colon_ends a b (p, e) = tail_ends_at limits (mark Colon) p a b e refl

  no_level_along : (a b : List Terminal) → a ≡ b → NoLevel limits b → NoLevel limits a
  no_level_along a b e h = rw e h

  -- an else, or what follows it, opens no level
  else_begins : (d : ℕ) (f : Block) (a b : List Terminal) → IsElse limits d f a b → NoLevel limits b → NoLevel limits a
  else_begins d done a b (inl e) h = no_level_along a b e h
  else_begins d done a b (inr (m, (p, e), x)) h = no_level_at limits (word (codes "else")) p a m e refl
  else_begins d ((then) s rest) a b (inl (m, (p, e), x)) h = no_level_at limits (word (codes "else")) p a m e refl
  else_begins d ((then) s rest) a b (inr (m, (p, e), x)) h = no_level_at limits (word (codes "else")) p a m e refl

  -- one when more is open
  one_more : (d n : ℕ) (o w : OpenWhen) (ws : List OpenWhen) → d + 1 ≡ n + length (o ∷ ws) → d + 1 + 1 ≡ n + length (o ∷ (ws ++ w ∷ []))
  one_more d n o w ws e = omega (arith, length-append ws (w ∷ []))

  mutual
    pub statements_read : (d : ℕ) (s : Block) (a m z : List Terminal) → AreStatements limits d s a m → Closes m z → StatementsRead limits d s a z
    statements_read d done a m z x c = statements_along limits d done a m z x (level_ends limits d m z c)
    statements_read d ((then) s rest) a m z (m1, x, y) c = first_read d s rest a m1 z x (statements_read d rest m1 m z y c)

    pub first_read : (d : ℕ) (s : Statement) (rest : Block) (a m z : List Terminal) → IsStatement limits d s a m → StatementsRead limits d rest m z → StatementsRead limits d ((then) s rest) a z
    first_read d (when p e b f) rest a m z (m1, t, (m2, x, (m3, c, (m4, l, (m5, g, (m6, y, v)))))) r =
        whole_when limits d p e b f rest a m1 m2 m3 m4 m5 m6 z t (expression_read limits d e m1 m2 x (colon_ends m2 m3 c)) c l g (block_read (d + 1) b m5 m6 y (else_begins d f m6 m v r.0))
        (λ o. else_read d d o [] f rest m6 m z refl v r)
    first_read d (wire p n s t) rest a m z x r = another limits d (wire p n s t) rest a m z (statement_read limits d (wire p n s t) a m tt x r.0) r
    first_read d s rest a m z x r = another limits d s rest a m z (statement_read limits d s a m tt x r.0) r

    block_read : (d : ℕ) (b : Block) (a z : List Terminal) → IsBlock limits d b a z → NoLevel limits z → BlockRead limits d b a z
    block_read d done a z (inl e) h = no_block limits d a z e h
    block_read d done a z (inr (m, o, c)) h = level_block limits d done a m z o (level_ends limits d m z c)
    block_read d ((then) s rest) a z (m1, o, (m2, x, (m3, y, c))) h = level_block limits d ((then) s rest) a m1 z o (first_read d s rest m1 m2 z x (statements_read d rest m2 m3 z y c))

    else_read : (d n : ℕ) (o : OpenWhen) (ws : List OpenWhen) (f rest : Block) (a m z : List Terminal) → d + 1 ≡ n + length (o ∷ ws) → IsElse limits d f a m → StatementsRead limits n rest m z → ElseRead limits n o ws f rest a z
    else_read d n o ws done rest a m z e (inl x) r = (statements_along limits n rest a m z x r).1 (o ∷ ws)
    else_read d n o ws done rest a m z e (inr (m1, w, (m2, c, (m3, l, inl x)))) r = read_else_block limits n o ws done rest a m1 m2 m3 m z w c l (no_block limits (n + length (o ∷ ws)) m3 m x r.0) r
    else_read d n o ws done rest a m z e (inr (m1, w, (m2, c, (m3, l, inr (m4, v, y))))) r =
        read_else_block limits n o ws done rest a m1 m2 m3 m z w c l (level_block limits (n + length (o ∷ ws)) done m3 m4 m v (level_ends limits (n + length (o ∷ ws)) m4 m y)) r
    else_read d n o ws ((then) s more) rest a m z e (inl (m1, w, (m2, c, (m3, l, (m4, v, (m5, x, (m6, y, u))))))) r =
        let within : ℕ → Type 0 = λ i. BlockRead limits i ((then) s more) m3 m in
        read_else_block limits n o ws ((then) s more) rest a m1 m2 m3 m z w c l
        (subst within e (level_block limits (d + 1) ((then) s more) m3 m4 m v (first_read (d + 1) s more m4 m5 m x (statements_read (d + 1) more m5 m6 m y u)))) r
    else_read d n o ws ((then) s more) rest a m z e (inr (m1, w, (m2, ((h, same), g), x))) r =
        let behind : Block → Type 0 = λ b. ElseRead limits n o ws ((then) s b) rest a z in
        subst behind (sym same) (else_when_read d n o ws s rest a m1 m2 m z e w g h x r)

    else_when_read : (d n : ℕ) (o : OpenWhen) (ws : List OpenWhen) (s : Statement) (rest : Block) (a m1 m2 m z : List Terminal) → d + 1 ≡ n + length (o ∷ ws) → WordToken (codes "else") a m1 → m1 ≡ m2 → IsWhen s → IsStatement limits (d + 1) s m2 m → StatementsRead limits n rest m z → ElseRead limits n o ws ((then) s done) rest a z
    else_when_read d n o ws (when p c b f) rest a m1 m2 m z e w g h (m3, t, (m4, x, (m5, k, (m6, l, (m7, lt, (m8, y, v)))))) r =
        let within : ℕ → Type 0 = λ i. WhenRead limits i p c b m3 m8 in
        read_else_when limits n o ws p c b f rest a m1 m3 m8 z w (g ∙ t)
        (subst within e (read_when limits (d + 1) p c b m3 m4 m5 m6 m7 m8 (whole_expression limits (d + 1) c m3 m4 (expression_read limits (d + 1) c m3 m4 x (colon_ends m4 m5 k))) k l lt (block_read (d + 1 + 1) b m7 m8 y (else_begins (d + 1) f m8 m v r.0))))
        (else_read (d + 1) n o (ws ++ record { place = p; condition = c; block = b } ∷ []) f rest m8 m z (one_more d n o (record { place = p; condition = c; block = b }) ws e) v r)
    else_when_read d n o ws (wire p x s t) rest a m1 m2 m z e w g h y r = absurd h
    else_when_read d n o ws s rest a m1 m2 m z e w g h y r = absurd h
