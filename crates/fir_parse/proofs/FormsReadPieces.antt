-- Reading over the pieces of a text, each where it is expected.
use Rattle.std.proofs.Common.{◌≡◌, ℕ, ◌^◌, ◌<◌, ◌≤◌, false, not, List, [], ◌∷◌, refl, ap, ◌∙◌, subst, inl, inr}
use Rattle.std.proofs.lemmas.Bool.{lt-ltb}
use Rattle.std.proofs.lemmas.Slice.Eq.{bytes_eq-Decides}
use Rattle.fir_ast.specs.declared.place.Place.{Place}
use Rattle.fir_ast.specs.Statements.{PlacedName}
use Rattle.fir_parse.specs.declared.lexeme.Mark.{Mark}
use Rattle.fir_parse.specs.Lexemes.{Terminal, Lexeme, word, integer, mark, line_end, level_opens, level_closes}
use Rattle.fir_parse.specs.Numbers.{is_in_range}
use Rattle.fir_parse.specs.Pieces.{IsNextAt, TokenAt, Sign, WordToken, LineEnd, Opens, Closes, NameToken, FieldName, IntAt}
use Rattle.fir_parse.specs.working.States.{State, wants, takes, without, opens, ends_form}
use Rattle.fir_parse.specs.working.Symbols.{Sym, Tree, Natural, a_mark, a_word, a_name, a_field_name, a_natural, a_line_end, an_opening, a_closing}
use Rattle.fir_parse.specs.working.Reading.{one, step, goes_on, at_token, read_on}
use Rattle.fir_parse.proofs.Completions.{Skips, TailEnds, goes_on_tail}
use Rattle.fir_parse.proofs.CompleteParts.{same_mark_self}
use Rattle.fir_parse.proofs.Others.{digits_field_name, digits_natural}
use Rattle.fir_parse.proofs.Limiting.{limit_kept, opened, ended}
use Rattle.fir_parse.specs.Limits.{Limits, nesting, Within}

module _ (limits : Limits) where
  -- a token that is taken
  -- the next token stands where it is said to stand
  pub token_next : (q : Place) (l : Lexeme) (p : Place) (a b : List Terminal) → IsNextAt q a → TokenAt l p a b → TokenAt l q a b
  token_next q l p a b at e = e ∙ ap (λ (r : Place). record { lexeme = l; place = r } ∷ b) (subst (IsNextAt q) e at)

  pub takes_token : (s : Sym) (g : (Tree s → State) → State) (l : Lexeme) (p : Place) (a b : List Terminal) → a ≡ record { lexeme = l; place = p } ∷ b → step s l p ≡ takes g → (end : Place) (k : Tree s → State) → read_on limits end (wants s k) a ≡ read_on limits end (g k) b
  unfolding read_on
  takes_token s g l p a b e h end k = rw e (ap (λ u. goes_on u p k (λ next. read_on limits end next b) (λ y. at_token (λ x. limits x (record { lexeme = l; place = p } ∷ b)) (k y) (record { lexeme = l; place = p }) (λ next. read_on limits end next b))) h)

  -- a token that belongs to what follows
  pub leaves_token : (s : Sym) (x : Tree s) (a : List Terminal) → Skips s x a → (end : Place) (k : Tree s → State) → read_on limits end (wants s k) a ≡ read_on limits end (k x) a
  unfolding read_on
  leaves_token s x [] h end k = absurd h
  leaves_token s x (t ∷ ts) h end k = ap (λ u. goes_on u t.place k (λ next. read_on limits end next ts) (λ y. at_token (λ x. limits x (t ∷ ts)) (k y) t (λ next. read_on limits end next ts))) h

  pub skips_at : (s : Sym) (x : Tree s) (l : Lexeme) (p : Place) (a b : List Terminal) → a ≡ record { lexeme = l; place = p } ∷ b → step s l p ≡ without x → Skips s x a
  skips_at s x l p a b e h = rw e h

  pub tail_ends_at : (l : Lexeme) (p : Place) (a b : List Terminal) → a ≡ record { lexeme = l; place = p } ∷ b → goes_on_tail l ≡ false → TailEnds a
  tail_ends_at l p a b e h = rw e h

  -- the same tokens
  pub reads_same : (st : State) (a b : List Terminal) → a ≡ b → (end : Place) → read_on limits end st a ≡ read_on limits end st b
  reads_same st a b e end = ap (read_on limits end st) e

  pub read_sign : (m : Mark) (a b : List Terminal) (x : Sign m a b) (end : Place) (k : Place → State) → read_on limits end (wants (a_mark m) k) a ≡ read_on limits end (k x.0) b
  read_sign m a b (p, e) end k = takes_token (a_mark m) (λ f. f p) (mark m) p a b e (ap (λ c. one c p) (same_mark_self m)) end k

  pub read_word : (w : List ℕ) (a b : List Terminal) (x : WordToken w a b) (end : Place) (k : Place → State) → read_on limits end (wants (a_word w) k) a ≡ read_on limits end (k x.0) b
  read_word w a b (p, e) end k = takes_token (a_word w) (λ f. f p) (word w) p a b e (ap (λ c. one c p) ((bytes_eq-Decides w w).1 refl)) end k

  pub read_line_end : (a b : List Terminal) (x : LineEnd a b) (end : Place) (k : Place → State) → read_on limits end (wants a_line_end k) a ≡ read_on limits end (k x.0) b
  read_line_end a b (p, e) end k = takes_token a_line_end _ line_end p a b e refl end k

  pub read_opening : (a b : List Terminal) (x : Opens a b) (end : Place) (k : Place → State) → read_on limits end (wants an_opening k) a ≡ read_on limits end (k x.0) b
  read_opening a b (p, e) end k = takes_token an_opening _ level_opens p a b e refl end k

  pub read_closing : (a b : List Terminal) (x : Closes a b) (end : Place) (k : Place → State) → read_on limits end (wants a_closing k) a ≡ read_on limits end (k x.0) b
  read_closing a b (p, e) end k = takes_token a_closing _ level_closes p a b e refl end k

  pub read_name : (n : PlacedName) (a b : List Terminal) → NameToken n a b → (end : Place) (k : PlacedName → State) → read_on limits end (wants a_name k) a ≡ read_on limits end (k n) b
  read_name n a b e end k = takes_token a_name _ (word n.name) n.place a b e refl end k

  pub read_field_name : (n : PlacedName) (a b : List Terminal) → FieldName n a b → (end : Place) (k : PlacedName → State) → read_on limits end (wants a_field_name k) a ≡ read_on limits end (k n) b
  read_field_name n a b (inl e) end k = takes_token a_field_name _ (word n.name) n.place a b e refl end k
  read_field_name n a b (inr (m, (u, g), e)) end k = takes_token a_field_name _ (integer n.name) n.place a b (g ∙ e) (digits_field_name n.name n.place u) end k

  -- a number within the range of numbers
  pub number_kept : (n : ℕ) → n < 2 ^ 128 → not (is_in_range n) ≡ false
  number_kept n h = ap not (lt-ltb n (2 ^ 128) h)

  pub read_natural : (n : ℕ) (p : Place) (a b : List Terminal) → IntAt limits n p a b → (end : Place) (k : Natural → State) → read_on limits end (wants a_natural k) a ≡ read_on limits end (k (record { place = p; number = n })) b
  read_natural n p a b (m, (s, u, v, e), (lt, same)) end k =
      takes_token a_natural _ (integer s) p a m e (digits_natural s p u) end k
      ∙ limit_kept limits _ _ _ end m (λ c. ap (λ i. not (is_in_range i)) v ∙ number_kept n (lt c))
      ∙ ap (λ i. read_on limits end (k (record { place = p; number = i })) m) v ∙ ap (read_on limits end (k (record { place = p; number = n }))) same

  -- one more bracket or block within the limit
  pub read_opens : (d : ℕ) (p : Place) (st : State) (a b : List Terminal) → Within limits nesting (d < 256) a b → (end : Place) → read_on limits end (opens d p st) a ≡ read_on limits end st b
  read_opens d p st a b (lt, e) end = opened limits d p st end a lt ∙ ap (read_on limits end st) e

  -- the end of a form within the limit
  pub read_ends : (h : ℕ) (p : Place) (st : State) (a b : List Terminal) → Within limits nesting (h ≤ 256) a b → (end : Place) → read_on limits end (ends_form h p st) a ≡ read_on limits end st b
  read_ends h p st a b (le, e) end = ended limits h p st end a le ∙ ap (read_on limits end st) e
