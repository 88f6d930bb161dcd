-- Tokens that spell what follows a name are read as that.
use Rattle.std.proofs.Common.{◌≡◌, ℕ, Bool, true, false, not, List, [], ◌∷◌, refl, sym, ap, ◌∙◌, ◌⊎◌, inl, inr}
use Rattle.fir_ast.specs.declared.place.Place.{Place}
use Rattle.fir_ast.specs.Expressions.{Expression, reference, Parts, no_parts}
use Rattle.fir_parse.specs.declared.lexeme.Mark.{Mark}
use Rattle.fir_parse.specs.declared.lexeme.Mark.TheVariants.{Dot, OpenSquare}
use Rattle.fir_parse.specs.Lexemes.{Lexeme, Terminal, word, integer, mark}
use Rattle.fir_base.specs.Digits.{decimal_value}
use Rattle.fir_parse.specs.Numbers.{is_in_range}
use Rattle.fir_parse.specs.Pieces.{IntAt, TokenAt}
use Rattle.fir_parse.specs.working.Symbols.{IndexTree, plain_index, computed_index, an_expression, behind_word, parts, an_index}
use Rattle.fir_parse.specs.working.States.{State, wants, limit, number_at}
use Rattle.fir_parse.specs.working.ExpressionRules.{dot_rest, index_rest}
use Rattle.fir_parse.specs.working.Reading.{read_on}
use Rattle.fir_parse.proofs.Completions.{TailEnds}
use Rattle.fir_parse.proofs.CompleteParts.{word_skip, parts_skip}
use Rattle.fir_parse.proofs.Limiting.{limit_kept}
use Rattle.fir_parse.proofs.FormsReadPieces.{takes_token, leaves_token, reads_same, number_kept}
use Rattle.fir_parse.specs.Limits.{Limits}

module _ (limits : Limits) where
  abbrev pub is_mark : Lexeme → Bool
  is_mark (mark m) = true
  is_mark _ = false

  -- these tokens are read as an expression
  abbrev pub ExpressionRead : ℕ → Expression → List Terminal → List Terminal → Type 0
  ExpressionRead d e a b = (end : Place) (k : Expression → State) → read_on limits end (wants (an_expression d) k) a ≡ read_on limits end (k e) b

  -- the first token is a sign
  abbrev pub BeginsWithMark : List Terminal → Type 0
  BeginsWithMark [] = ⊥
  BeginsWithMark (t ∷ ts) = is_mark t.lexeme ≡ true

  pub mark_begins : (n : Mark) (p : Place) (a b : List Terminal) → TokenAt (mark n) p a b → BeginsWithMark a
  mark_begins n p a b e = rw e refl

  -- and so are those behind the first, which is a word; a sign stands there if one stands behind the expression
  abbrev pub WordRead : ℕ → Expression → List Terminal → List Terminal → Type 0
  WordRead d e a b =
      (p : Place) × (w : List ℕ) × (m : List Terminal) × (a ≡ record { lexeme = word w; place = p } ∷ m) × (BeginsWithMark b → BeginsWithMark m)
      × ((end : Place) (k : Expression → State) → read_on limits end (wants (behind_word d p w) k) m ≡ read_on limits end (k e) b)

  pub whole_expression : (d : ℕ) (e : Expression) (a b : List Terminal) → WordRead d e a b → ExpressionRead d e a b
  whole_expression d e a b (p, w, m, x, g, r) end k = takes_token limits (an_expression d) (λ f. wants (behind_word d p w) f) (word w) p a m x refl end k ∙ r end k

  abbrev pub NoParts : Parts → List Terminal → List Terminal → Type 0
  NoParts ps a b = (ps ≡ no_parts) × (a ≡ b)

  abbrev pub DotRead : ℕ → ℕ → Parts → List Terminal → List Terminal → Type 0
  DotRead d h ps a b = (p : Place) × (m : List Terminal) × TokenAt (mark Dot) p a m × ((end : Place) (k : Parts → State) → read_on limits end (dot_rest d h p k) m ≡ read_on limits end (k ps) b)

  abbrev pub IndexRead : ℕ → ℕ → Parts → List Terminal → List Terminal → Type 0
  IndexRead d h ps a b = (p : Place) × (m : List Terminal) × TokenAt (mark OpenSquare) p a m × ((end : Place) (k : Parts → State) → read_on limits end (index_rest d h p k) m ≡ read_on limits end (k ps) b)

  -- these tokens are read as what follows a name: nothing, a dot or a bracket first
  abbrev pub PartsRead : ℕ → ℕ → Parts → List Terminal → List Terminal → Type 0
  PartsRead d h ps a b = NoParts ps a b ⊎ DotRead d h ps a b ⊎ IndexRead d h ps a b

  pub read_parts : (d h : ℕ) (ps : Parts) (a b : List Terminal) → PartsRead d h ps a b → TailEnds b → (end : Place) (k : Parts → State) → read_on limits end (wants (parts d h) k) a ≡ read_on limits end (k ps) b
  read_parts d h ps a b (inl (none, e)) f end k =
      reads_same limits (wants (parts d h) k) a b e end ∙ leaves_token limits (parts d h) no_parts b (parts_skip d h b f) end k ∙ ap (λ x. read_on limits end (k x) b) (sym none)
  read_parts d h ps a b (inr (inl (p, m, e, r))) f end k = takes_token limits (parts d h) (λ g. dot_rest d h p g) (mark Dot) p a m e refl end k ∙ r end k
  read_parts d h ps a b (inr (inr (p, m, e, r))) f end k = takes_token limits (parts d h) (λ g. index_rest d h p g) (mark OpenSquare) p a m e refl end k ∙ r end k

  pub parts_begin : (d h : ℕ) (ps : Parts) (a b : List Terminal) → PartsRead d h ps a b → BeginsWithMark b → BeginsWithMark a
  parts_begin d h ps a b (inl (none, e)) f = rw e f
  parts_begin d h ps a b (inr (inl (p, m, e, r))) f = mark_begins Dot p a m e
  parts_begin d h ps a b (inr (inr (p, m, e, r))) f = mark_begins OpenSquare p a m e

  -- as a reference, behind its name
  pub read_reference : (d : ℕ) (p : Place) (w : List ℕ) (ps : Parts) (a b : List Terminal) → PartsRead d 1 ps a b → TailEnds b → (end : Place) (k : Expression → State) → read_on limits end (wants (behind_word d p w) k) a ≡ read_on limits end (k (reference p w ps)) b
  read_reference d p w ps a b (inl (none, e)) f end k =
      reads_same limits (wants (behind_word d p w) k) a b e end ∙ leaves_token limits (behind_word d p w) (reference p w no_parts) b (word_skip d p w b f) end k ∙ ap (λ x. read_on limits end (k (reference p w x)) b) (sym none)
  read_reference d p w ps a b (inr (inl (q, m, e, r))) f end k = takes_token limits (behind_word d p w) (λ g. dot_rest d 1 q (λ x. g (reference p w x))) (mark Dot) q a m e refl end k ∙ r end (λ x. k (reference p w x))
  read_reference d p w ps a b (inr (inr (q, m, e, r))) f end k = takes_token limits (behind_word d p w) (λ g. index_rest d 1 q (λ x. g (reference p w x))) (mark OpenSquare) q a m e refl end k ∙ r end (λ x. k (reference p w x))

  -- an index
  pub read_plain_index : (d n : ℕ) (p : Place) (a b : List Terminal) → IntAt limits n p a b → (end : Place) (k : IndexTree → State) → read_on limits end (wants (an_index d) k) a ≡ read_on limits end (k (plain_index p n)) b
  read_plain_index d n p a b (m, (s, u, v, e), (lt, same)) end k =
      takes_token limits (an_index d) (λ f. limit (not (is_in_range (decimal_value s))) (number_at p) (f (plain_index p (decimal_value s)))) (integer s) p a m e (rw u refl) end k
      ∙ limit_kept limits _ _ _ end m (λ c. ap (λ i. not (is_in_range i)) v ∙ number_kept limits n (lt c))
      ∙ ap (λ i. read_on limits end (k (plain_index p i)) m) v ∙ ap (read_on limits end (k (plain_index p n))) same

  pub read_computed_index : (d : ℕ) (e : Expression) (a b : List Terminal) → WordRead d e a b → (end : Place) (k : IndexTree → State) → read_on limits end (wants (an_index d) k) a ≡ read_on limits end (k (computed_index e)) b
  read_computed_index d e a b (p, w, m, x, g, r) end k = takes_token limits (an_index d) (λ f. wants (behind_word d p w) (λ y. f (computed_index y))) (word w) p a m x refl end k ∙ r end _
