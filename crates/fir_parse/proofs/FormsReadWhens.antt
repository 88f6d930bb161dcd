-- Whens, elses and the statements of a level, by what stands in them.
use Rattle.std.proofs.Common.{◌≡◌, ℕ, ◌+◌, ◌<◌, Bool, true, false, List, [], ◌∷◌, ◌++◌, length, codes, refl, sym, ap, ◌∙◌, ◌⊎◌, inl, inr, subst}
use Rattle.std.specs.Str.{bytes_eq}
use Rattle.std.proofs.lemmas.Slice.Eq.{bytes_eq-Decides}
use Rattle.fir_ast.specs.declared.place.Place.{Place}
use Rattle.fir_ast.specs.Expressions.{Expression}
use Rattle.fir_ast.specs.Statements.{Statement, when, Block, done, then}
use Rattle.fir_parse.specs.declared.lexeme.Mark.TheVariants.{Colon, Dot, OpenSquare}
use Rattle.fir_parse.specs.declared.words.Declaration.TheVariants as declares
use Rattle.fir_parse.specs.Lexemes.{Lexeme, Terminal, word, mark, level_opens, level_closes}
use Rattle.fir_parse.specs.Pieces.{TokenAt, Sign, WordToken, LineEnd, Opens, Closes}
use Rattle.fir_parse.specs.working.Symbols.{OpenWhen, Begun, statement, open_when, else_block, else_when, a_line_end, an_expression, behind_word, statements, behind_first, behind_is, behind_else, an_indented_block}
use Rattle.fir_parse.specs.working.States.{State, wants, takes, without}
use Rattle.fir_parse.specs.working.StatementRules.{declared, when_block, when_rest, behind_statement, behind_otherwise, closed_before, chain, may_be_else, statements_step, block_step}
use Rattle.fir_parse.specs.working.Reading.{Outcome, step, goes_on, at_token, read_on}
use Rattle.fir_parse.proofs.Completions.{Skips}
use Rattle.fir_parse.proofs.FormsReadPieces.{takes_token, leaves_token, reads_same, read_sign, read_line_end, read_opens}
use Rattle.fir_parse.proofs.FormsReadReferences.{is_mark, BeginsWithMark, WordRead, ExpressionRead}
use Rattle.fir_parse.proofs.FormsReadRefs.{RefRead, read_ref, read_ref_else}
use Rattle.fir_parse.proofs.FormsReadDeclarations.{opens_level, NoLevel, no_level_at, DeclarationRead, StatementRead}
use Rattle.fir_parse.specs.Limits.{Limit, Limits, nesting, Within}

module _ (limits : Limits) where
  -- these tokens are read as a block
  abbrev pub BlockRead : ℕ → Block → List Terminal → List Terminal → Type 0
  BlockRead d b a z = (end : Place) (k : Block → State) → read_on limits end (wants (an_indented_block d) k) a ≡ read_on limits end (k b) z

  -- and these as the statements of a level and its end, whatever whens stand before them, and they open no level
  abbrev pub StatementsRead : ℕ → Block → List Terminal → List Terminal → Type 0
  StatementsRead d b a z =
      NoLevel limits a × ((ws : List OpenWhen) (end : Place) (k : Block → State) → read_on limits end (wants (statements d ws) k) a ≡ read_on limits end (k (closed_before ws done b)) z)

  -- and these as the else of the last of open whens, with the statements behind
  abbrev pub ElseRead : ℕ → OpenWhen → List OpenWhen → Block → Block → List Terminal → List Terminal → Type 0
  ElseRead d o ws f rest a z = (end : Place) (k : Block → State) → read_on limits end (wants (statements d (o ∷ ws)) k) a ≡ read_on limits end (k (closed_before (o ∷ ws) f rest)) z

  -- and these as the condition and the block of a when
  abbrev pub WhenRead : ℕ → Place → Expression → Block → List Terminal → List Terminal → Type 0
  WhenRead d p e b a z =
      (end : Place) (k : OpenWhen → State) → read_on limits end (wants (an_expression d) (λ x. when_rest d p x k)) a ≡ read_on limits end (k (record { place = p; condition = e; block = b })) z

  read_when_block : (d : ℕ) (p : Place) (e : Expression) (b : Block) (m1 m2 m3 z : List Terminal) → LineEnd m1 m2 → Within limits nesting (d < 256) m2 m3 → BlockRead (d + 1) b m3 z → (end : Place) (k : OpenWhen → State) → read_on limits end (when_block d p e k) m1 ≡ read_on limits end (k (record { place = p; condition = e; block = b })) z
  read_when_block d p e b m1 m2 m3 z (q, l) g r end k = read_line_end limits m1 m2 (q, l) end _ ∙ read_opens limits d q _ m2 m3 g end ∙ r end _

  read_when_rest : (d : ℕ) (p : Place) (e : Expression) (b : Block) (m m1 m2 m3 z : List Terminal) → Sign Colon m m1 → LineEnd m1 m2 → Within limits nesting (d < 256) m2 m3 → BlockRead (d + 1) b m3 z → (end : Place) (k : OpenWhen → State) → read_on limits end (when_rest d p e k) m ≡ read_on limits end (k (record { place = p; condition = e; block = b })) z
  read_when_rest d p e b m m1 m2 m3 z c l g r end k = read_sign limits Colon m m1 c end _ ∙ read_when_block d p e b m1 m2 m3 z l g r end k

  pub read_when : (d : ℕ) (p : Place) (e : Expression) (b : Block) (a m m1 m2 m3 z : List Terminal) → ExpressionRead limits d e a m → Sign Colon m m1 → LineEnd m1 m2 → Within limits nesting (d < 256) m2 m3 → BlockRead (d + 1) b m3 z → WhenRead d p e b a z
  read_when d p e b a m m1 m2 m3 z x c l g r end k = x end (λ y. when_rest d p y k) ∙ read_when_rest d p e b m m1 m2 m3 z c l g r end k

  abbrev opened : (Begun → State) → OpenWhen → State
  opened k s = k (open_when s)

  -- a condition that begins with the name `is`
  is_condition : (counts : Limit → Bool) (d : ℕ) (p q : Place) (l : Lexeme) (r : Place) (k : Begun → State) (behind : State → Outcome) (v : Begun → Outcome) → is_mark limits l ≡ true → goes_on (step (behind_is d p (codes "when") q) l r) r k behind v ≡ goes_on (step (behind_word d q (codes "is")) l r) r (λ e. when_rest d p e (opened k)) behind (λ e. at_token counts (when_rest d p e (opened k)) (record { lexeme = l; place = r }) behind)
  is_condition counts d p q (mark Colon) r k behind v h = refl
  is_condition counts d p q (mark Dot) r k behind v h = refl
  is_condition counts d p q (mark OpenSquare) r k behind v h = refl
  is_condition counts d p q (mark _) r k behind v h = refl
  is_condition counts d p q _ r k behind v h = absurd (cc)

  read_is_condition : (d : ℕ) (p q : Place) (a : List Terminal) → BeginsWithMark limits a → (end : Place) (k : Begun → State) → read_on limits end (wants (behind_is d p (codes "when") q) k) a ≡ read_on limits end (wants (behind_word d q (codes "is")) (λ e. when_rest d p e (opened k))) a
  unfolding read_on
  read_is_condition d p q [] h end k = absurd h
  read_is_condition d p q (t ∷ ts) h end k = is_condition (λ l. limits l (t ∷ ts)) d p q t.lexeme t.place k _ _ h

  condition_by : (c : Bool) (d : ℕ) (p q : Place) (w : List ℕ) (a m : List Terminal) → bytes_eq w (codes "is") ≡ c → TokenAt (word w) q a m → BeginsWithMark limits m → (end : Place) (k : Begun → State) → read_on limits end (wants (behind_first d p (codes "when")) k) a ≡ read_on limits end (wants (behind_word d q w) (λ e. when_rest d p e (opened k))) m
  condition_by true d p q w a m c e h end k =
      takes_token limits (behind_first d p (codes "when")) (λ f. wants (behind_is d p (codes "when") q) f) (word w) q a m e (rw c refl) end k ∙ read_is_condition d p q m h end k
      ∙ ap (λ v. read_on limits end (wants (behind_word d q v) (λ e. when_rest d p e (opened k))) m) (sym ((bytes_eq-Decides w (codes "is")).0 c))
  condition_by false d p q w a m c e h end k =
      takes_token limits (behind_first d p (codes "when")) (λ f. declared declares.When d p (record { place = q; name = w }) f) (word w) q a m e (rw c refl) end k

  colon_begins : (a b : List Terminal) → Sign Colon a b → BeginsWithMark limits a
  colon_begins a b (p, e) = rw e refl

  -- behind the word `when`
  pub read_first_when : (d : ℕ) (p : Place) (e : Expression) (b : Block) (a m m1 m2 m3 z : List Terminal) → WordRead limits d e a m → Sign Colon m m1 → LineEnd m1 m2 → Within limits nesting (d < 256) m2 m3 → BlockRead (d + 1) b m3 z → (end : Place) (k : Begun → State) → read_on limits end (wants (behind_first d p (codes "when")) k) a ≡ read_on limits end (k (open_when (record { place = p; condition = e; block = b }))) z
  read_first_when d p e b a m m1 m2 m3 z (q, w, n, x, begins, r) c l g y end k =
      condition_by (bytes_eq w (codes "is")) d p q w a n refl x (begins (colon_begins m m1 c)) end k ∙ r end (λ v. when_rest d p v (opened k)) ∙ read_when_rest d p e b m m1 m2 m3 z c l g y end (opened k)

  when_first : (d : ℕ) (ws : List OpenWhen) (p : Place) → statements_step d ws (word (codes "when")) p ≡ takes (λ f. wants (behind_first d p (codes "when")) (λ s. behind_statement d s (λ rest. f (closed_before ws done rest))))
  when_first d [] p = refl
  when_first d (o ∷ ws) p = refl

  -- a when, its else and the statements behind
  pub whole_when : (d : ℕ) (p : Place) (e : Expression) (b f rest : Block) (a m0 m m1 m2 m3 m4 z : List Terminal) → TokenAt (word (codes "when")) p a m0 → WordRead limits d e m0 m → Sign Colon m m1 → LineEnd m1 m2 → Within limits nesting (d < 256) m2 m3 → BlockRead (d + 1) b m3 m4 → ((o : OpenWhen) → ElseRead d o [] f rest m4 z) → StatementsRead d ((then) (when p e b f) rest) a z
  whole_when d p e b f rest a m0 m m1 m2 m3 m4 z t x c l g y r = (
    no_level_at limits (word (codes "when")) p a m0 t refl,
    λ ws end k.
        takes_token limits (statements d ws) (λ f. wants (behind_first d p (codes "when")) (λ s. behind_statement d s (λ rest. f (closed_before ws done rest)))) (word (codes "when")) p a m0 t (when_first d ws p) end k
        ∙ read_first_when d p e b m0 m m1 m2 m3 m4 x c l g y end (λ s. behind_statement d s (λ rest. k (closed_before ws done rest)))
        ∙ r (record { place = p; condition = e; block = b }) end (λ v. k (closed_before ws done v)),
  )

  -- a statement, no when, and the statements behind
  pub read_behind : (d : ℕ) (p : Place) (w : List ℕ) (s : Statement) (a b : List Terminal) → RefRead limits d p w s a b ⊎ DeclarationRead limits d p w s a b → (end : Place) (k : Begun → State) → read_on limits end (wants (behind_first d p w) k) a ≡ read_on limits end (k (statement s)) b
  read_behind d p w s a b (inl r) end k = read_ref limits d p w s a b r end k
  read_behind d p w s a b (inr (x, y, r)) end k = r end k

  not_else : (d : ℕ) (p : Place) (w : List ℕ) (s : Statement) (rest : Block) (a n m z : List Terminal) → TokenAt (word w) p a n → RefRead limits d p w s n m ⊎ DeclarationRead limits d p w s n m → StatementsRead d rest m z → (ws : List OpenWhen) → may_be_else ws w ≡ false → (end : Place) (k : Block → State) → read_on limits end (wants (statements d ws) k) a ≡ read_on limits end (k (closed_before ws done ((then) s rest))) z
  not_else d p w s rest a n m z t x r ws h end k =
      takes_token limits (statements d ws) (λ f. wants (behind_first d p w) (λ s. behind_statement d s (λ rest. f (closed_before ws done rest)))) (word w) p a n t (rw h refl) end k
      ∙ read_behind d p w s n m x end (λ s. behind_statement d s (λ rest. k (closed_before ws done rest)))
      ∙ r.1 [] end (λ y. k (closed_before ws done ((then) s y)))

  is_else : (d : ℕ) (p : Place) (w : List ℕ) (s : Statement) (rest : Block) (a n m z : List Terminal) → TokenAt (word w) p a n → RefRead limits d p w s n m ⊎ DeclarationRead limits d p w s n m → StatementsRead d rest m z → (o : OpenWhen) (ws : List OpenWhen) → bytes_eq w (codes "else") ≡ true → (end : Place) (k : Block → State) → read_on limits end (wants (statements d (o ∷ ws)) k) a ≡ read_on limits end (k (closed_before (o ∷ ws) done ((then) s rest))) z
  is_else d p w s rest a n m z t (inl x) r o ws h end k =
      let named : RefRead limits d p (codes "else") s n m = (let P : List ℕ → Type 0 = λ v. RefRead limits d p v s n m in subst P ((bytes_eq-Decides w (codes "else")).0 h) x) in
      takes_token limits (statements d (o ∷ ws)) (λ f. wants (behind_else d (length (o ∷ ws)) p) (λ x. behind_otherwise d (o ∷ ws) x f)) (word w) p a n t (rw h refl) end k
      ∙ read_ref_else limits d (length (o ∷ ws)) p s n m named end (λ x. behind_otherwise d (o ∷ ws) x k)
      ∙ r.1 [] end (λ y. k (closed_before (o ∷ ws) done ((then) s y)))
  is_else d p w s rest a n m z t (inr (x, y, q)) r o ws h end k = absurd (cc)

  pub another : (d : ℕ) (s : Statement) (rest : Block) (a m z : List Terminal) → StatementRead limits d s a m → StatementsRead d rest m z → StatementsRead d ((then) s rest) a z
  another d s rest a m z (p, w, n, t, x) r = (no_level_at limits (word w) p a n t refl, by_whens)
    where
      by_word : (o : OpenWhen) (ws : List OpenWhen) (c : Bool) → bytes_eq w (codes "else") ≡ c → (end : Place) (k : Block → State) → read_on limits end (wants (statements d (o ∷ ws)) k) a ≡ read_on limits end (k (closed_before (o ∷ ws) done ((then) s rest))) z
      by_word o ws true h = is_else d p w s rest a n m z t x r o ws h
      by_word o ws false h = not_else d p w s rest a n m z t x r (o ∷ ws) h

      by_whens : (ws : List OpenWhen) (end : Place) (k : Block → State) → read_on limits end (wants (statements d ws) k) a ≡ read_on limits end (k (closed_before ws done ((then) s rest))) z
      by_whens [] = not_else d p w s rest a n m z t x r [] refl
      by_whens (o ∷ ws) = by_word o ws (bytes_eq w (codes "else")) refl

  pub level_ends : (d : ℕ) (a b : List Terminal) → Closes a b → StatementsRead d done a b
  level_ends d a b (p, e) = (no_level_at limits level_closes p a b e refl, λ ws end k. takes_token limits (statements d ws) (λ f. f (closed_before ws done done)) level_closes p a b e refl end k)

  pub statements_along : (d : ℕ) (s : Block) (a b z : List Terminal) → a ≡ b → StatementsRead d s b z → StatementsRead d s a z
  statements_along d s a b z e r = let P : List Terminal → Type 0 = λ x. StatementsRead d s x z in subst P (sym e) r

  -- blocks
  block_stays_at : (d : ℕ) (l : Lexeme) → opens_level limits l ≡ false → block_step d l ≡ without done
  block_stays_at d level_opens h = absurd (cc)
  block_stays_at d _ h = refl

  block_stays : (d : ℕ) (ts : List Terminal) → NoLevel limits ts → Skips (an_indented_block d) done ts
  block_stays d [] h = h
  block_stays d (t ∷ ts) h = block_stays_at d t.lexeme h

  pub no_block : (d : ℕ) (a b : List Terminal) → a ≡ b → NoLevel limits b → BlockRead d done a b
  no_block d a b e h end k = reads_same limits (wants (an_indented_block d) k) a b e end ∙ leaves_token limits (an_indented_block d) done b (block_stays d b h) end k

  pub level_block : (d : ℕ) (s : Block) (a m b : List Terminal) → Opens a m → StatementsRead d s m b → BlockRead d s a b
  level_block d s a m b (p, e) r end k = takes_token limits (an_indented_block d) (λ f. wants (statements d []) f) level_opens p a m e refl end k ∙ r.1 [] end k

  -- `else` and a block
  pub read_else_block : (d : ℕ) (o : OpenWhen) (ws : List OpenWhen) (f rest : Block) (a m1 m2 m3 m z : List Terminal) → WordToken (codes "else") a m1 → Sign Colon m1 m2 → LineEnd m2 m3 → BlockRead (d + length (o ∷ ws)) f m3 m → StatementsRead d rest m z → ElseRead d o ws f rest a z
  read_else_block d o ws f rest a m1 m2 m3 m z (p, w) (q, c) l b r end k =
      takes_token limits (statements d (o ∷ ws)) (λ f. wants (behind_else d (length (o ∷ ws)) p) (λ x. behind_otherwise d (o ∷ ws) x f)) (word (codes "else")) p a m1 w refl end k
      ∙ takes_token limits (behind_else d (length (o ∷ ws)) p) (λ f. wants a_line_end (λ r. wants (an_indented_block (d + length (o ∷ ws))) (λ b. f (else_block b)))) (mark Colon) q m1 m2 c refl end (λ x. behind_otherwise d (o ∷ ws) x k)
      ∙ read_line_end limits m2 m3 l end _ ∙ b end _ ∙ r.1 [] end (λ y. k (closed_before (o ∷ ws) f y))

  -- `else` and a when
  pub chain_more : (ws : List OpenWhen) (w : OpenWhen) (last : Block) → chain (ws ++ w ∷ []) last ≡ chain ws ((then) (when w.place w.condition w.block last) done)
  chain_more [] w last = refl
  chain_more (o ∷ ws) w last = ap (λ x. (then) (when o.place o.condition o.block x) done) (chain_more ws w last)

  pub read_else_when : (d : ℕ) (o : OpenWhen) (ws : List OpenWhen) (p : Place) (e : Expression) (b f rest : Block) (a m1 m2 m3 z : List Terminal) → WordToken (codes "else") a m1 → TokenAt (word (codes "when")) p m1 m2 → WhenRead (d + length (o ∷ ws)) p e b m2 m3 → ElseRead d o (ws ++ record { place = p; condition = e; block = b } ∷ []) f rest m3 z → ElseRead d o ws ((then) (when p e b f) done) rest a z
  read_else_when d o ws p e b f rest a m1 m2 m3 z (q, w) t x r end k =
      takes_token limits (statements d (o ∷ ws)) (λ f. wants (behind_else d (length (o ∷ ws)) q) (λ x. behind_otherwise d (o ∷ ws) x f)) (word (codes "else")) q a m1 w refl end k
      ∙ takes_token limits (behind_else d (length (o ∷ ws)) q) (λ f. wants (an_expression (d + length (o ∷ ws))) (λ e. when_rest (d + length (o ∷ ws)) p e (λ s. f (else_when s)))) (word (codes "when")) p m1 m2 t refl end (λ x. behind_otherwise d (o ∷ ws) x k)
      ∙ x end (λ s. behind_otherwise d (o ∷ ws) (else_when s) k) ∙ r end k
      ∙ ap (λ c. read_on limits end (k ((then) (when o.place o.condition o.block c) rest)) z) (chain_more ws (record { place = p; condition = e; block = b }) f)
