-- Tokens that are read as the statements of a level spell them.
use Rattle.std.proofs.Common.{◌≡◌, ℕ, ◌+◌, true, List, [], ◌∷◌, ◌++◌, length, Option, Some, None, codes, refl, sym, ap, ◌∙◌, inl, inr, subst, arith, add-zero, length-append}
use Rattle.std.proofs.lemmas.Slice.Eq.{bytes_eq-Decides}
use Rattle.fir_ast.specs.declared.place.Place.{Place}
use Rattle.fir_ast.specs.Statements.{Statement, when, invalid, Block, done, then}
use Rattle.fir_ast.specs.Circuits.{CircuitTree}
use Rattle.fir_parse.specs.declared.lexeme.Mark.{Mark}
use Rattle.fir_parse.specs.declared.lexeme.Mark.TheVariants.{Colon}
use Rattle.fir_parse.specs.Lexemes.{Lexeme, Terminal, word, mark, level_opens, level_closes}
use Rattle.fir_parse.specs.Pieces.{Sign, LineEnd, Closes}
use Rattle.fir_parse.specs.StatementForms.{IsStatement, AreStatements, IsBlock, IsElse}
use Rattle.fir_parse.specs.working.Symbols.{OpenWhen, statement, open_when, Otherwise, else_block, else_when, no_else, a_word, a_line_end, an_expression, statements, behind_else, an_indented_block}
use Rattle.fir_parse.specs.working.States.{State, Step, wants}
use Rattle.fir_parse.specs.working.StatementRules.{ends_line, bare, ref_step, when_rest, behind_statement, behind_otherwise, closed_before, may_be_else, statements_step, otherwise_ref, else_step, block_step}
use Rattle.fir_parse.proofs.FormsReadWhens.{chain_more}
use Rattle.fir_parse.proofs.FormsFound.{token_at, IsOpenWhen, IsBegun, IsOtherwise, AreBehind, Derives, Found, Extends, by_word}
use Rattle.fir_parse.proofs.FormsFoundTypes.{token_of}
use Rattle.fir_parse.proofs.FormsFoundRefs.{BehindName, ExtendsRef, extends_mapped, extends_ref, invalid_spelled}
use Rattle.fir_parse.proofs.FormsFoundDeclarations.{found_when_rest}
use Rattle.std.proofs.lemmas.Bool.{cond_both}
use Rattle.fir_parse.specs.Limits.{Limits}

module _ (limits : Limits) where
  when_spelled : (d : ℕ) (o : OpenWhen) (f : Block) (a m z : List Terminal) → IsOpenWhen limits d o a m → IsElse limits d f m z → IsStatement limits d (when o.place o.condition o.block f) a z
  when_spelled d o f a m z (m1, t, (m2, x, (m3, s, (m4, l, (m5, g, b))))) e = (m1, t, (m2, x, (m3, s, (m4, l, (m5, g, (m, b, e))))))

  -- statements, none of which is in an else
  statements_behind : (d : ℕ) (ws : List OpenWhen) (b : Block) (a m z : List Terminal) → AreStatements limits d b a m → Closes m z → AreBehind limits d ws (closed_before ws done b) a z
  statements_behind d [] b a m z y c = (m, y, c)
  statements_behind d (o ∷ ws) b a m z y c = (done, b, refl, (a, inl refl, (m, y, c)))

  -- a first statement and those behind it
  pub found_begun : (d : ℕ) (ws : List OpenWhen) (a : List Terminal) (k : Block → State) (c : CircuitTree) → Found limits (IsBegun limits d) (λ s. behind_statement d s (λ rest. k (closed_before ws done rest))) c a → Found limits (AreBehind limits d ws) k c a
  found_begun d ws a k c (statement s, m, x, (rest, z, (n, y, l), more)) = (closed_before ws done ((then) s rest), z, statements_behind d ws ((then) s rest) a n z (m, x, y) l, more)
  found_begun d ws a k c (open_when o, m, x, (b, z, (f, rest, e, (n, v, (i, y, l))), more)) =
      let P : ℕ → Type 0 = λ j. IsElse limits j f m n in
      let Q : Block → Type 0 = λ u. AreStatements limits d u a i in
      (closed_before ws done b, z, statements_behind d ws b a i z (subst Q (sym e) (n, when_spelled d o f a m n x (subst P (add-zero d) v), y)) l, more)

  -- an else with a block
  else_spelled : (d e : ℕ) (b : Block) (p : Place) (ts m1 m2 m : List Terminal) → d + 1 ≡ e → Sign Colon ts m1 → LineEnd m1 m2 → IsBlock limits e b m2 m → IsElse limits d b (token_at (word (codes "else")) p ∷ ts) m
  else_spelled d e done p ts m1 m2 m h s l x = inr (ts, (p, refl), (m1, s, (m2, l, x)))
  else_spelled d e ((then) t rest) p ts m1 m2 m h s l x = let P : ℕ → Type 0 = λ j. IsBlock limits j ((then) t rest) m2 m in inl (ts, (p, refl), (m1, s, (m2, l, subst P (sym h) x)))

  one_deeper : (d : ℕ) (o : OpenWhen) (ws : List OpenWhen) → d + length ws + 1 ≡ d + length (o ∷ ws)
  one_deeper d o ws = omega arith

  one_longer : (d : ℕ) (w : OpenWhen) (ws : List OpenWhen) → d + length ws + 1 ≡ d + length (ws ++ w ∷ [])
  one_longer d w ws = omega (arith, length-append ws (w ∷ []))

  -- an else, or a statement that begins with that word, and the statements behind
  found_otherwise : (d : ℕ) (o : OpenWhen) (ws : List OpenWhen) (p : Place) (ts : List Terminal) (k : Block → State) (c : CircuitTree) → Derives limits (wants (behind_else d (length (o ∷ ws)) p) (λ x. behind_otherwise d (o ∷ ws) x k)) c ts → Found limits (AreBehind limits d (o ∷ ws)) k c (token_at (word (codes "else")) p ∷ ts)
  found_otherwise d o ws p ts k c (else_block b, m, (m1, s, (m2, l, x)), (rest, z, (n, y, e), more)) =
      (closed_before (o ∷ ws) b rest, z, (b, rest, refl, (m, else_spelled (d + length ws) (d + length (o ∷ ws)) b p ts m1 m2 m (one_deeper d o ws) s l x, (n, y, e))), more)
  found_otherwise d o ws p ts k c (else_when w, m, x, (b, z, (f, rest, e, (n, v, (i, y, l))), more)) =
      let P : ℕ → Type 0 = λ j. IsOpenWhen limits j w ts m in
      let Q : ℕ → Type 0 = λ j. IsElse limits j f m n in (
        b,
        z,
        (
          (then) (when w.place w.condition w.block f) done,
          rest,
          e ∙ ap (λ u. (then) (when o.place o.condition o.block u) rest) (chain_more limits ws w f),
          (n, inr (ts, (p, refl), (ts, ((tt, refl), refl), when_spelled (d + length ws + 1) w f ts m n (subst P (sym (one_deeper d o ws)) x) (subst Q (sym (one_longer d w ws)) v))), (i, y, l)),
        ),
        more,
      )
  found_otherwise d o ws p ts k c (no_else s, m, x, (rest, z, (n, y, l), more)) =
      (closed_before (o ∷ ws) done ((then) s rest), z, (done, (then) s rest, refl, (token_at (word (codes "else")) p ∷ ts, inl refl, (n, (m, x, y), l))), more)

  else_chain : (d : ℕ) (ws : List OpenWhen) (w : List ℕ) (p : Place) (ts : List Terminal) → may_be_else ws w ≡ true → (k : Block → State) (c : CircuitTree) → Derives limits (wants (behind_else d (length ws) p) (λ x. behind_otherwise d ws x k)) c ts → Found limits (AreBehind limits d ws) k c (token_at (word w) p ∷ ts)
  else_chain d [] w p ts h k c more = absurd (cc)
  else_chain d (o ∷ ws) w p ts h k c more =
      let P : List ℕ → Type 0 = λ v. Found limits (AreBehind limits d (o ∷ ws)) k c (token_at (word v) p ∷ ts) in
      subst P (sym ((bytes_eq-Decides w (codes "else")).0 h)) (found_otherwise d o ws p ts k c more)

  found_level_end : (d : ℕ) (ws : List OpenWhen) (p : Place) (ts : List Terminal) (k : Block → State) (c : CircuitTree) → Derives limits (k (closed_before ws done done)) c ts → Found limits (AreBehind limits d ws) k c (token_at level_closes p ∷ ts)
  found_level_end d ws p ts k c more = (closed_before ws done done, ts, statements_behind d ws done (token_at level_closes p ∷ ts) (token_at level_closes p ∷ ts) ts refl (p, refl), more)

  pub extends_statements : (d : ℕ) (ws : List OpenWhen) (l : Lexeme) (p : Place) (ts : List Terminal) → Extends limits (AreBehind limits d ws) (token_at l p) ts (statements_step d ws l p)
  extends_statements d ws level_closes p ts = found_level_end d ws p ts
  extends_statements d ws (word w) p ts = cond_both (may_be_else ws w) _ _ (Extends limits (AreBehind limits d ws) (token_at (word w) p) ts) (else_chain d ws w p ts) (λ h k c x. found_begun d ws (token_at (word w) p ∷ ts) k c x)
  extends_statements d ws _ p ts = tt

  -- behind the word `else`
  found_else_block : (d n : ℕ) (p q : Place) (ts : List Terminal) (k : Otherwise → State) (c : CircuitTree) → Derives limits (wants a_line_end (λ r. wants (an_indented_block (d + n)) (λ b. k (else_block b)))) c ts → Found limits (IsOtherwise limits d n p) k c (token_at (mark Colon) q ∷ ts)
  found_else_block d n p q ts k c (r, m, l, (b, rest, x, more)) = (else_block b, rest, (ts, (q, refl), (m, (r, l), x)), more)

  when_otherwise : (d n : ℕ) (p : Place) (a : List Terminal) (k : Otherwise → State) (c : CircuitTree) → Found limits (IsOpenWhen limits (d + n)) (λ s. k (else_when s)) c a → Found limits (IsOtherwise limits d n p) k c a
  when_otherwise d n p a k c (o, rest, x, more) = (else_when o, rest, x, more)

  found_else_when : (d n : ℕ) (p q : Place) (w : List ℕ) (ts : List Terminal) → w ≡ codes "when" → (k : Otherwise → State) (c : CircuitTree) → Derives limits (wants (an_expression (d + n)) (λ e. when_rest (d + n) q e (λ s. k (else_when s)))) c ts → Found limits (IsOtherwise limits d n p) k c (token_at (word w) q ∷ ts)
  found_else_when d n p q w ts h k c (e, m, x, more) = when_otherwise d n p (token_at (word w) q ∷ ts) k c (found_when_rest limits (d + n) q e (token_at (word w) q ∷ ts) ts m (token_of (codes "when") w q ts h) x (λ s. k (else_when s)) c more)

  found_else_invalid : (d n : ℕ) (p q : Place) (w : List ℕ) (ts : List Terminal) → w ≡ codes "is" → (k : Otherwise → State) (c : CircuitTree) → Derives limits (wants (a_word (codes "invalid")) (λ r. ends_line (invalid p (bare p (codes "else"))) (λ s. k (no_else s)))) c ts → Found limits (IsOtherwise limits d n p) k c (token_at (word w) q ∷ ts)
  found_else_invalid d n p q w ts h k c (r, m, x, (e, rest, l, more)) =
      let s : Statement = invalid p (bare p (codes "else")) in
      let P : List Terminal → Type 0 = λ u. BehindName limits d p (codes "else") s (token_at (word w) q ∷ u) rest in
      let Q : List ℕ → Type 0 = λ v. BehindName limits d p (codes "else") s (token_at (word v) q ∷ token_at (word (codes "invalid")) r ∷ m) rest in
      (no_else s, rest, subst P (sym x) (subst Q (sym h) (invalid_spelled limits d p q r e (codes "else") (codes "invalid") m rest refl l)), more)

  extends_otherwise_ref : (o : Option (Step Statement)) (d n : ℕ) (p : Place) (t : Terminal) (ts : List Terminal) → ExtendsRef limits d p (codes "else") t ts o → Extends limits (IsOtherwise limits d n p) t ts (otherwise_ref o)
  extends_otherwise_ref (Some s) d n p t ts h = extends_mapped limits (BehindName limits d p (codes "else")) (IsOtherwise limits d n p) no_else t ts s (λ x a z y. y) h
  extends_otherwise_ref None d n p t ts h = tt

  extends_else_mark : (d n : ℕ) (p : Place) (m : Mark) (q : Place) (ts : List Terminal) → Extends limits (IsOtherwise limits d n p) (token_at (mark m) q) ts (otherwise_ref (ref_step d p (codes "else") m q))
  extends_else_mark d n p m q ts = extends_otherwise_ref (ref_step d p (codes "else") m q) d n p (token_at (mark m) q) ts (extends_ref limits d p (codes "else") m q ts)

  pub extends_else : (d n : ℕ) (p : Place) (l : Lexeme) (q : Place) (ts : List Terminal) → Extends limits (IsOtherwise limits d n p) (token_at l q) ts (else_step d n p l q)
  extends_else d n p (mark Colon) q ts = found_else_block d n p q ts
  extends_else d n p (mark m) q ts = extends_else_mark d n p m q ts
  extends_else d n p (word w) q ts = let F : Step Otherwise → Type 0 = Extends limits (IsOtherwise limits d n p) (token_at (word w) q) ts in
      by_word F w (codes "when") _ _ (found_else_when d n p q w ts) (by_word F w (codes "is") _ _ (found_else_invalid d n p q w ts) tt)
  extends_else d n p _ q ts = tt

  -- blocks
  found_block : (d : ℕ) (p : Place) (ts : List Terminal) (k : Block → State) (c : CircuitTree) → Derives limits (wants (statements d []) k) c ts → Found limits (IsBlock limits d) k c (token_at level_opens p ∷ ts)
  found_block d p ts k c (done, z, (m, y, (q, l)), more) = (done, z, inr (ts, (p, refl), (q, y ∙ l)), more)
  found_block d p ts k c ((then) s rest, z, (m, (n, x, y), l), more) = ((then) s rest, z, (ts, (p, refl), (n, x, (m, y, l))), more)

  pub extends_block : (d : ℕ) (l : Lexeme) (p : Place) (ts : List Terminal) → Extends limits (IsBlock limits d) (token_at l p) ts (block_step d l)
  extends_block d level_opens p ts = found_block d p ts
  extends_block d _ p ts = inl refl
