-- Statements that begin with a reference: how they go on behind its name.
use Rattle.std.proofs.Common.{◌≡◌, ℕ, List, Option, Some, codes, refl, sym, ap, ◌∙◌, ◌⊎◌, inl, inr, subst}
use Rattle.fir_base.specs.declared.direction.Direction.{Direction}
use Rattle.fir_ast.specs.declared.place.Place.{Place}
use Rattle.fir_ast.specs.Expressions.{Expression, no_parts}
use Rattle.fir_ast.specs.Statements.{SinkReference, Statement, connect, partial_connect, invalid}
use Rattle.fir_parse.specs.declared.lexeme.Mark.{Mark}
use Rattle.fir_parse.specs.declared.lexeme.Mark.TheVariants.{Connect, PartialConnect, OpenSquare, Colon, Dot}
use Rattle.fir_parse.specs.Lexemes.{Terminal, word, mark}
use Rattle.fir_parse.specs.working.Words.{lead_of}
use Rattle.fir_parse.specs.Pieces.{TokenAt, Sign, WordToken, LineEnd}
use Rattle.fir_parse.specs.ExpressionForms.{IsExpression}
use Rattle.fir_parse.specs.working.Symbols.{Begun, statement, Otherwise, no_else, PortOr, no_port, a_word, behind_sink, behind_first, behind_is, behind_else, behind_direction, behind_port_is}
use Rattle.fir_parse.specs.working.States.{State, Step, wants, takes, mapped}
use Rattle.fir_parse.specs.working.ExpressionRules.{dot_rest, index_rest}
use Rattle.fir_parse.specs.working.StatementRules.{bare, begun, connect_rest, partial_connect_rest, ends_line, ref_step, ref_or, stuck_behind, otherwise_ref, else_step}
use Rattle.fir_parse.specs.working.Reading.{read_on}
use Rattle.fir_parse.proofs.FormsReadPieces.{takes_token, read_word, read_line_end}
use Rattle.fir_parse.proofs.FormsReadReferences.{PartsRead}
use Rattle.fir_parse.proofs.FormsReadMemories.{line_ends}
use Rattle.fir_parse.proofs.FormsReadExpressions.{read_whole_expression}
use Rattle.fir_parse.specs.Limits.{Limits}

module _ (limits : Limits) where
  -- a sign behind the name, with which the statement goes on
  abbrev pub SignRead : ℕ → Place → List ℕ → Statement → List Terminal → List Terminal → Type 0
  SignRead d p w s a b =
      (n : Mark) × (q : Place) × (m : List Terminal) × (g : (Statement → State) → State) × TokenAt (mark n) q a m × (ref_step d p w n q ≡ Some (takes g))
      × ((end : Place) (k : Statement → State) → read_on limits end (g k) m ≡ read_on limits end (k s) b)

  -- `is` and `invalid`
  abbrev pub InvalidRead : Place → List ℕ → Statement → List Terminal → List Terminal → Type 0
  InvalidRead p w s a b =
      (q : Place) × (r : Place) × (m : List Terminal) × (n : List Terminal) × TokenAt (word (codes "is")) q a m × TokenAt (word (codes "invalid")) r m n × LineEnd n b
      × (invalid p (bare p w) ≡ s)

  abbrev pub RefRead : ℕ → Place → List ℕ → Statement → List Terminal → List Terminal → Type 0
  RefRead d p w s a b = SignRead d p w s a b ⊎ InvalidRead p w s a b

  -- behind the first word of a statement
  pub read_ref : (d : ℕ) (p : Place) (w : List ℕ) (s : Statement) (a b : List Terminal) → RefRead d p w s a b → (end : Place) (k : Begun → State) → read_on limits end (wants (behind_first d p w) k) a ≡ read_on limits end (k (statement s)) b
  read_ref d p w s a b (inl (n, q, m, g, e, h, r)) end k =
      takes_token limits (behind_first d p w) (λ f. g (λ x. f (statement x))) (mark n) q a m e (ap (λ o. ref_or o (stuck_behind (lead_of w) p w)) h) end k ∙ r end (λ x. k (statement x))
  read_ref d p w s a b (inr (q, r, m, n, x, y, l, same)) end k =
      takes_token limits (behind_first d p w) (λ f. wants (behind_is d p w q) f) (word (codes "is")) q a m x refl end k
      ∙ takes_token limits (behind_is d p w q) (λ f. ends_line (invalid p (bare p w)) (begun f)) (word (codes "invalid")) r m n y refl end k
      ∙ read_line_end limits n b l end _ ∙ ap (λ z. read_on limits end (k (statement z)) b) same

  -- behind `else`
  else_mark : (d n : ℕ) (p : Place) (m : Mark) (q : Place) (g : (Statement → State) → State) → ref_step d p (codes "else") m q ≡ Some (takes g) → else_step d n p (mark m) q ≡ takes (λ f. g (λ x. f (no_else x)))
  else_mark d n p Colon q g h = absurd (cc)
  else_mark d n p Connect q g h = ap otherwise_ref h
  else_mark d n p _ q g h = ap otherwise_ref h

  pub read_ref_else : (d n : ℕ) (p : Place) (s : Statement) (a b : List Terminal) → RefRead d p (codes "else") s a b → (end : Place) (k : Otherwise → State) → read_on limits end (wants (behind_else d n p) k) a ≡ read_on limits end (k (no_else s)) b
  read_ref_else d n p s a b (inl (t, q, m, g, e, h, r)) end k =
      takes_token limits (behind_else d n p) (λ f. g (λ x. f (no_else x))) (mark t) q a m e (else_mark d n p t q g h) end k ∙ r end (λ x. k (no_else x))
  read_ref_else d n p s a b (inr (q, r, m, t, x, y, l, same)) end k =
      takes_token limits (behind_else d n p) (λ f. wants (a_word (codes "invalid")) (λ r. ends_line (invalid p (bare p (codes "else"))) (λ s. f (no_else s)))) (word (codes "is")) q a m x refl end k
      ∙ read_word limits (codes "invalid") m t (r, y) end _ ∙ read_line_end limits t b l end _ ∙ ap (λ z. read_on limits end (k (no_else z)) b) same

  -- behind the word of a direction
  abbrev no_port_step : Place → List ℕ → Option (Step Statement) → Step PortOr
  no_port_step p w o = mapped no_port (ref_or o (stuck_behind (lead_of w) p w))

  pub read_ref_port : (v : Direction) (p : Place) (w : List ℕ) (s : Statement) (a b : List Terminal) → RefRead 0 p w s a b → (end : Place) (k : PortOr → State) → read_on limits end (wants (behind_direction v p w) k) a ≡ read_on limits end (k (no_port (statement s))) b
  read_ref_port v p w s a b (inl (t, q, m, g, e, h, r)) end k =
      takes_token limits (behind_direction v p w) (λ f. g (λ x. f (no_port (statement x)))) (mark t) q a m e (ap (no_port_step p w) h) end k ∙ r end (λ x. k (no_port (statement x)))
  read_ref_port v p w s a b (inr (q, r, m, t, x, y, l, same)) end k =
      takes_token limits (behind_direction v p w) (λ f. wants (behind_port_is v p w q) f) (word (codes "is")) q a m x refl end k
      ∙ takes_token limits (behind_port_is v p w q) (λ f. ends_line (no_port (statement (invalid p (bare p w)))) f) (word (codes "invalid")) r m t y refl end k
      ∙ read_line_end limits t b l end _ ∙ ap (λ z. read_on limits end (k (no_port (statement z))) b) same

  -- a reference with what follows it, and then its statement
  same_sink : (s : SinkReference) → s.parts ≡ no_parts → s ≡ bare s.place s.name
  same_sink s h = ap (λ x. record { place = s.place; name = s.name; parts = x }) h

  behind_parts : (d : ℕ) (s : SinkReference) (t : Statement) (a m b : List Terminal) → PartsRead limits d 1 s.parts a m → ((end : Place) (k : Statement → State) → read_on limits end (wants (behind_sink d s) k) m ≡ read_on limits end (k t) b) → (s.parts ≡ no_parts → RefRead d s.place s.name t m b) → RefRead d s.place s.name t a b
  behind_parts d s t a m b (inl (none, e)) r plain = let P : List Terminal → Type 0 = λ x. RefRead d s.place s.name t x b in subst P (sym e) (plain none)
  behind_parts d s t a m b (inr (inl (q, n, e, x))) r plain =
      inl (Dot, q, n, λ f. dot_rest d 1 q (λ ps. wants (behind_sink d (record { place = s.place; name = s.name; parts = ps })) f), e, refl, λ end k. x end (λ ps. wants (behind_sink d (record { place = s.place; name = s.name; parts = ps })) k) ∙ r end k)
  behind_parts d s t a m b (inr (inr (q, n, e, x))) r plain =
      inl (OpenSquare, q, n, λ f. index_rest d 1 q (λ ps. wants (behind_sink d (record { place = s.place; name = s.name; parts = ps })) f), e, refl, λ end k. x end (λ ps. wants (behind_sink d (record { place = s.place; name = s.name; parts = ps })) k) ∙ r end k)

  pub read_connect : (d : ℕ) (s : SinkReference) (p : Place) (e : Expression) (a m n o b : List Terminal) → PartsRead limits d 1 s.parts a m → Sign Connect m n → IsExpression limits d e n o → LineEnd o b → p ≡ s.place → RefRead d s.place s.name (connect p s e) a b
  read_connect d s p e a m n o b ps (q, c) x l same =
      behind_parts d s (connect p s e) a m b ps (λ end k. takes_token limits (behind_sink d s) (λ f. connect_rest d s f) (mark Connect) q m n c refl end k ∙ rest end k)
      (λ none. inl (Connect, q, n, λ f. connect_rest d (bare s.place s.name) f, c, refl, λ end k. ap (λ y. read_on limits end (connect_rest d y k) n) (sym (same_sink s none)) ∙ rest end k))
    where
      rest : (end : Place) (k : Statement → State) → read_on limits end (connect_rest d s k) n ≡ read_on limits end (k (connect p s e)) b
      rest end k = read_whole_expression limits d e n o x (line_ends limits o b l) end _ ∙ read_line_end limits o b l end _ ∙ ap (λ y. read_on limits end (k (connect y s e)) b) (sym same)

  pub read_partial_connect : (d : ℕ) (s : SinkReference) (p : Place) (e : Expression) (a m n o b : List Terminal) → PartsRead limits d 1 s.parts a m → Sign PartialConnect m n → IsExpression limits d e n o → LineEnd o b → p ≡ s.place → RefRead d s.place s.name (partial_connect p s e) a b
  read_partial_connect d s p e a m n o b ps (q, c) x l same =
      behind_parts d s (partial_connect p s e) a m b ps (λ end k. takes_token limits (behind_sink d s) (λ f. partial_connect_rest d s f) (mark PartialConnect) q m n c refl end k ∙ rest end k)
      (λ none. inl (PartialConnect, q, n, λ f. partial_connect_rest d (bare s.place s.name) f, c, refl, λ end k. ap (λ y. read_on limits end (partial_connect_rest d y k) n) (sym (same_sink s none)) ∙ rest end k))
    where
      rest : (end : Place) (k : Statement → State) → read_on limits end (partial_connect_rest d s k) n ≡ read_on limits end (k (partial_connect p s e)) b
      rest end k = read_whole_expression limits d e n o x (line_ends limits o b l) end _ ∙ read_line_end limits o b l end _ ∙ ap (λ y. read_on limits end (k (partial_connect y s e)) b) (sym same)

  pub read_invalid : (d : ℕ) (s : SinkReference) (p : Place) (a m n o b : List Terminal) → PartsRead limits d 1 s.parts a m → WordToken (codes "is") m n → WordToken (codes "invalid") n o → LineEnd o b → p ≡ s.place → RefRead d s.place s.name (invalid p s) a b
  read_invalid d s p a m n o b ps (q, x) (r, y) l same =
      behind_parts d s (invalid p s) a m b ps
      (λ end k. takes_token limits (behind_sink d s) (λ f. wants (a_word (codes "invalid")) (λ q. ends_line (invalid s.place s) f)) (word (codes "is")) q m n x refl end k
      ∙ read_word limits (codes "invalid") n o (r, y) end _ ∙ read_line_end limits o b l end _ ∙ ap (λ z. read_on limits end (k (invalid z s)) b) (sym same))
      (λ none. inr (q, r, n, o, x, y, l, ap (λ z. invalid s.place z) (sym (same_sink s none)) ∙ ap (λ z. invalid z s) (sym same)))
