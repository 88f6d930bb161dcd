-- Tokens that are read as a statement that begins with a reference spell it.
use Rattle.std.proofs.Common.{◌≡◌, ℕ, List, ◌∷◌, Option, Some, None, codes, refl}
use Rattle.fir_ast.specs.declared.place.Place.{Place}
use Rattle.fir_ast.specs.Statements.{SinkReference, Statement, connect, partial_connect, invalid}
use Rattle.fir_ast.specs.Circuits.{CircuitTree}
use Rattle.fir_parse.specs.declared.lexeme.Mark.{Mark}
use Rattle.fir_parse.specs.declared.lexeme.Mark.TheVariants.{Connect, PartialConnect, OpenSquare, Dot}
use Rattle.fir_parse.specs.Lexemes.{Lexeme, Terminal, word, mark, line_end}
use Rattle.fir_parse.specs.ExpressionForms.{AreParts}
use Rattle.fir_parse.specs.StatementForms.{IsStatement}
use Rattle.fir_parse.specs.working.Symbols.{a_word, behind_sink}
use Rattle.fir_parse.specs.working.States.{State, Step, wants, takes, without, refuses, unsupported, mapped}
use Rattle.fir_parse.specs.working.StatementRules.{ends_line, bare, connect_rest, partial_connect_rest, sink_step, ref_step}
use Rattle.fir_parse.proofs.FormsFound.{token_at, Is, Derives, Found, Extends, by_word}
use Rattle.fir_parse.proofs.FormsFoundTypes.{token_of}
use Rattle.fir_parse.proofs.FormsFoundReferences.{found_dot, found_index}
use Rattle.fir_parse.specs.Limits.{Limits}

module _ (limits : Limits) where
  pub extends_mapped : {A B : Type 0} (P : A → List Terminal → List Terminal → Type 0) (Q : B → List Terminal → List Terminal → Type 0) (f : A → B) (t : Terminal) (ts : List Terminal) (u : Step A) → ((x : A) (a z : List Terminal) → P x a z → Q (f x) a z) → Extends limits P t ts u → Extends limits Q t ts (mapped f u)
  extends_mapped P Q f t ts (takes g) h r = λ k c x. let found = r (λ y. k (f y)) c x in (f found.0, found.1, h found.0 (t ∷ ts) found.1 found.2, found.3)
  extends_mapped P Q f t ts (without x) h r = h x (t ∷ ts) (t ∷ ts) r
  extends_mapped P Q f t ts refuses h r = tt
  extends_mapped P Q f t ts (unsupported p w) h r = tt

  -- behind a sink
  found_connect : (d : ℕ) (s : SinkReference) (p : Place) (ts : List Terminal) (k : Statement → State) (c : CircuitTree) → Derives limits (connect_rest d s k) c ts → Found limits (Is limits (behind_sink d s)) k c (token_at (mark Connect) p ∷ ts)
  found_connect d s p ts k c (e, m, x, (q, rest, l, more)) =
      (connect s.place s e, rest, (λ before y. (token_at (mark Connect) p ∷ ts, y, (ts, (p, refl), (m, x, (rest, (q, l), (refl, refl)))))), more)

  found_partial_connect : (d : ℕ) (s : SinkReference) (p : Place) (ts : List Terminal) (k : Statement → State) (c : CircuitTree) → Derives limits (partial_connect_rest d s k) c ts → Found limits (Is limits (behind_sink d s)) k c (token_at (mark PartialConnect) p ∷ ts)
  found_partial_connect d s p ts k c (e, m, x, (q, rest, l, more)) =
      (partial_connect s.place s e, rest, (λ before y. (token_at (mark PartialConnect) p ∷ ts, y, (ts, (p, refl), (m, x, (rest, (q, l), (refl, refl)))))), more)

  found_invalid : (d : ℕ) (s : SinkReference) (w : List ℕ) (p : Place) (ts : List Terminal) → w ≡ codes "is" → (k : Statement → State) (c : CircuitTree) → Derives limits (wants (a_word (codes "invalid")) (λ q. ends_line (invalid s.place s) k)) c ts → Found limits (Is limits (behind_sink d s)) k c (token_at (word w) p ∷ ts)
  found_invalid d s w p ts e k c (q, m, x, (r, rest, l, more)) =
      (invalid s.place s, rest, (λ before y. (token_at (word w) p ∷ ts, y, (ts, (p, token_of (codes "is") w p ts e), (m, (q, x), (rest, (r, l), (refl, refl)))))), more)

  pub extends_sink : (d : ℕ) (s : SinkReference) (l : Lexeme) (p : Place) (ts : List Terminal) → Extends limits (Is limits (behind_sink d s)) (token_at l p) ts (sink_step d s l p)
  extends_sink d s (mark Connect) p ts = found_connect d s p ts
  extends_sink d s (mark PartialConnect) p ts = found_partial_connect d s p ts
  extends_sink d s (word w) p ts = by_word (Extends limits (Is limits (behind_sink d s)) (token_at (word w) p) ts) w (codes "is") _ _ (found_invalid d s w p ts) tt
  extends_sink d s _ p ts = tt

  -- behind a name
  abbrev pub BehindName : ℕ → Place → List ℕ → Statement → List Terminal → List Terminal → Type 0
  BehindName d p w s a z = IsStatement limits d s (token_at (word w) p ∷ a) z

  abbrev pub ExtendsRef : ℕ → Place → List ℕ → Terminal → List Terminal → Option (Step Statement) → Type 0
  ExtendsRef d p w t ts (Some u) = Extends limits (BehindName d p w) t ts u
  ExtendsRef d p w t ts None = Unit {0}

  bare_found : (d : ℕ) (p : Place) (w : List ℕ) (a : List Terminal) (k : Statement → State) (c : CircuitTree) → Found limits (Is limits (behind_sink d (bare p w))) k c a → Found limits (BehindName d p w) k c a
  bare_found d p w a k c (s, rest, x, more) = (s, rest, x (token_at (word w) p ∷ a) (a, refl, refl), more)

  parts_found : (d : ℕ) (p : Place) (w : List ℕ) (a : List Terminal) (k : Statement → State) (c : CircuitTree) → Found limits (AreParts limits d 1) (λ ps. wants (behind_sink d (record { place = p; name = w; parts = ps })) k) c a → Found limits (BehindName d p w) k c a
  parts_found d p w a k c (ps, m, y, (s, rest, x, more)) = (s, rest, x (token_at (word w) p ∷ a) (a, refl, y), more)

  pub extends_ref : (d : ℕ) (p : Place) (w : List ℕ) (m : Mark) (q : Place) (ts : List Terminal) → ExtendsRef d p w (token_at (mark m) q) ts (ref_step d p w m q)
  extends_ref d p w Connect q ts = λ k c x. bare_found d p w (token_at (mark Connect) q ∷ ts) k c (found_connect d (bare p w) q ts k c x)
  extends_ref d p w PartialConnect q ts = λ k c x. bare_found d p w (token_at (mark PartialConnect) q ∷ ts) k c (found_partial_connect d (bare p w) q ts k c x)
  extends_ref d p w Dot q ts = λ k c x. parts_found d p w (token_at (mark Dot) q ∷ ts) k c (found_dot limits d 1 q ts (λ ps. wants (behind_sink d (record { place = p; name = w; parts = ps })) k) c x)
  extends_ref d p w OpenSquare q ts = λ k c x. parts_found d p w (token_at (mark OpenSquare) q ∷ ts) k c (found_index limits d 1 q ts (λ ps. wants (behind_sink d (record { place = p; name = w; parts = ps })) k) c x)
  extends_ref d p w _ q ts = tt

  -- `is` and `invalid` behind a name
  pub invalid_spelled : (d : ℕ) (p q r e : Place) (w x : List ℕ) (ts rest : List Terminal) → x ≡ codes "invalid" → ts ≡ token_at line_end e ∷ rest → BehindName d p w (invalid p (bare p w)) (token_at (word (codes "is")) q ∷ token_at (word x) r ∷ ts) rest
  invalid_spelled d p q r e w x ts rest h l =
      (token_at (word (codes "is")) q ∷ token_at (word x) r ∷ ts, (token_at (word (codes "is")) q ∷ token_at (word x) r ∷ ts, refl, refl), (token_at (word x) r ∷ ts, (q, refl), (ts, (r, token_of (codes "invalid") x r ts h), (rest, (e, l), (refl, refl)))))
