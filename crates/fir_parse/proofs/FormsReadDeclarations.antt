-- Tokens that spell a statement, no when, are read as that.
use Rattle.std.proofs.Common.{◌≡◌, ℕ, Bool, true, false, List, [], ◌∷◌, None, codes, refl, sym, ap, ◌∙◌, ◌⊎◌, inl, inr, subst}
use Rattle.std.specs.Str.{bytes_eq}
use Rattle.std.proofs.lemmas.Slice.Eq.{bytes_eq-Decides}
use Rattle.fir_ast.specs.declared.place.Place.{Place}
use Rattle.fir_ast.specs.Statements.{PlacedName, Statement, wire, register, node, instance, memory, when, connect, partial_connect, invalid, skip}
use Rattle.fir_parse.specs.declared.lexeme.Mark.{Mark}
use Rattle.fir_parse.specs.declared.lexeme.Mark.TheVariants.{Connect, PartialConnect, Equals, Comma, Colon}
use Rattle.fir_parse.specs.declared.words.Declaration.{Declaration}
use Rattle.fir_parse.specs.declared.words.Declaration.TheVariants as declares
use Rattle.fir_parse.specs.declared.words.Lead.TheVariants as lead
use Rattle.fir_parse.specs.Lexemes.{Lexeme, Terminal, word, mark, line_end, level_opens}
use Rattle.fir_parse.specs.working.Words.{lead_of, direction_of}
use Rattle.fir_parse.specs.Pieces.{TokenAt, NameToken, Sign, WordToken}
use Rattle.fir_parse.specs.StatementForms.{IsStatement}
use Rattle.fir_parse.specs.working.Symbols.{Begun, statement, a_mark, behind_first, behind_is, a_memory_body}
use Rattle.fir_parse.specs.working.States.{State, wants, takes, without}
use Rattle.fir_parse.specs.working.StatementRules.{begun, declared, declaration_step, is_step, is_named, wire_rest, register_rest, node_rest, instance_rest, memory_rest}
use Rattle.fir_parse.specs.working.MemoryRules.{memory_body_step}
use Rattle.fir_parse.specs.working.Reading.{read_on}
use Rattle.fir_parse.proofs.Completions.{Skips, TailEnds}
use Rattle.fir_parse.proofs.FormsReadPieces.{takes_token, tail_ends_at, read_sign, read_word, read_name, read_line_end}
use Rattle.fir_parse.proofs.FormsReadTypes.{read_whole_type}
use Rattle.fir_parse.proofs.FormsReadOperators.{comma_ends}
use Rattle.fir_parse.proofs.FormsReadExpressions.{read_whole_expression, parts_read}
use Rattle.fir_parse.proofs.FormsReadMemories.{line_ends, read_memory_body}
use Rattle.fir_parse.proofs.FormsReadResets.{read_reset, reset_ends}
use Rattle.fir_parse.proofs.FormsReadRefs.{RefRead, read_connect, read_partial_connect, read_invalid}
use Rattle.fir_parse.specs.Limits.{Limits}

module _ (limits : Limits) where
  abbrev pub opens_level : Lexeme → Bool
  opens_level level_opens = true
  opens_level _ = false

  -- the first token opens no level
  abbrev pub NoLevel : List Terminal → Type 0
  NoLevel [] = ⊥
  NoLevel (t ∷ ts) = opens_level t.lexeme ≡ false

  pub no_level_at : (l : Lexeme) (p : Place) (a b : List Terminal) → TokenAt l p a b → opens_level l ≡ false → NoLevel a
  no_level_at l p a b e h = rw e h

  memory_stays_at : (d : ℕ) (l : Lexeme) → opens_level l ≡ false → memory_body_step d l ≡ without []
  memory_stays_at d level_opens h = absurd (cc)
  memory_stays_at d _ h = refl

  memory_stays : (d : ℕ) (ts : List Terminal) → NoLevel ts → Skips (a_memory_body d) [] ts
  memory_stays d [] h = h
  memory_stays d (t ∷ ts) h = memory_stays_at d t.lexeme h

  -- a declaration that is read behind its first word; `else` and the words of directions begin none
  abbrev pub DeclarationRead : ℕ → Place → List ℕ → Statement → List Terminal → List Terminal → Type 0
  DeclarationRead d p w s a b =
      (bytes_eq w (codes "else") ≡ false) × (direction_of w ≡ None)
      × ((end : Place) (k : Begun → State) → read_on limits end (wants (behind_first d p w) k) a ≡ read_on limits end (k (statement s)) b)

  -- these tokens are read as a statement, by what stands behind its first word
  abbrev pub StatementRead : ℕ → Statement → List Terminal → List Terminal → Type 0
  StatementRead d s a b = (p : Place) × (w : List ℕ) × (m : List Terminal) × TokenAt (word w) p a m × (RefRead limits d p w s m b ⊎ DeclarationRead d p w s m b)

  -- the name `is`
  pub named_is : (n : PlacedName) → bytes_eq n.name (codes "is") ≡ true → is_named n.place ≡ n
  named_is n h = ap (λ y. record { place = n.place; name = y }) (sym ((bytes_eq-Decides n.name (codes "is")).0 h))

  -- behind the name of a declaration a sign, and what follows it
  named_by : (c : Bool) (w : List ℕ) (l : Declaration) (d : ℕ) (p : Place) (s : Mark) (rest : PlacedName → (Begun → State) → State) (n : PlacedName) (a m b : List Terminal) → bytes_eq n.name (codes "is") ≡ c → lead_of w ≡ lead.Declares l → ((k : Begun → State) → declared l d p n k ≡ wants (a_mark s) (λ r. rest n k)) → ((q r : Place) → is_step d p w q (mark s) r ≡ takes (λ k. rest (is_named q) k)) → NameToken n a m → Sign s m b → (end : Place) (k : Begun → State) → read_on limits end (wants (behind_first d p w) k) a ≡ read_on limits end (rest n k) b
  named_by true w l d p s rest n a m b c h1 h2 h3 e (q, x) end k =
      takes_token limits (behind_first d p w) (λ f. wants (behind_is d p w n.place) f) (word n.name) n.place a m e (rw c refl) end k
      ∙ takes_token limits (behind_is d p w n.place) (λ f. rest (is_named n.place) f) (mark s) q m b x (h3 n.place q) end k
      ∙ ap (λ y. read_on limits end (rest y k) b) (named_is n c)
  named_by false w l d p s rest n a m b c h1 h2 h3 e x end k =
      takes_token limits (behind_first d p w) (λ f. declared l d p n f) (word n.name) n.place a m e (rw c (ap (λ v. declaration_step v d p w n.name n.place) h1)) end k
      ∙ ap (λ st. read_on limits end st m) (h2 k) ∙ read_sign limits s m b x end _

  instance_by : (c : Bool) (d : ℕ) (p : Place) (n : PlacedName) (a m b : List Terminal) → bytes_eq n.name (codes "is") ≡ c → NameToken n a m → WordToken (codes "of") m b → (end : Place) (k : Begun → State) → read_on limits end (wants (behind_first d p (codes "inst")) k) a ≡ read_on limits end (instance_rest p n (begun k)) b
  instance_by true d p n a m b c e (q, x) end k =
      takes_token limits (behind_first d p (codes "inst")) (λ f. wants (behind_is d p (codes "inst") n.place) f) (word n.name) n.place a m e (rw c refl) end k
      ∙ takes_token limits (behind_is d p (codes "inst") n.place) (λ f. instance_rest p (is_named n.place) (begun f)) (word (codes "of")) q m b x refl end k
      ∙ ap (λ y. read_on limits end (instance_rest p y (begun k)) b) (named_is n c)
  instance_by false d p n a m b c e x end k =
      takes_token limits (behind_first d p (codes "inst")) (λ f. declared declares.Inst d p n f) (word n.name) n.place a m e (rw c refl) end k ∙ read_word limits (codes "of") m b x end _

  abbrev pub NoWhen : Statement → Type 0
  NoWhen (when p e b f) = ⊥
  NoWhen _ = Unit {0}

  connect_ends : (a b : List Terminal) → Sign Connect a b → TailEnds a
  connect_ends a b (p, e) = tail_ends_at limits (mark Connect) p a b e refl

  partial_ends : (a b : List Terminal) → Sign PartialConnect a b → TailEnds a
  partial_ends a b (p, e) = tail_ends_at limits (mark PartialConnect) p a b e refl

  word_ends : (a b : List Terminal) → WordToken (codes "is") a b → TailEnds a
  word_ends a b (p, e) = tail_ends_at limits (word (codes "is")) p a b e refl

  along : (d : ℕ) (p : Place) (w : List ℕ) (s : Statement) (a b c : List Terminal) → b ≡ c → RefRead limits d p w s a b → RefRead limits d p w s a c
  along d p w s a b c e r = let P : List Terminal → Type 0 = λ x. RefRead limits d p w s a x in subst P e r

  pub statement_read : (d : ℕ) (s : Statement) (a b : List Terminal) → NoWhen s → IsStatement limits d s a b → NoLevel b → StatementRead d s a b
  statement_read d (wire p n s t) a b nw (m1, e, (m2, x, (m3, c, (m4, y, l)))) f = (
    p,
    codes "wire",
    m1,
    e,
    inr (
      refl,
      refl,
      λ end k.
          named_by (bytes_eq n.name (codes "is")) (codes "wire") declares.Wire d p Colon (λ y k. wire_rest d p y (begun k)) n m1 m2 m3 refl refl (λ k. refl) (λ q r. refl) x c end k
          ∙ read_whole_type limits d s t m3 m4 y (line_ends limits m4 b l) end _ ∙ read_line_end limits m4 b l end _,
    ),
  )
  statement_read d (register p n s t clk r) a b nw (m1, e, (m2, x, (m3, c, (m4, y, (m5, comma, (m6, z, v)))))) f = (
    p,
    codes "reg",
    m1,
    e,
    inr (
      refl,
      refl,
      λ end k.
          named_by (bytes_eq n.name (codes "is")) (codes "reg") declares.Reg d p Colon (λ y k. register_rest d p y (begun k)) n m1 m2 m3 refl refl (λ k. refl) (λ q r. refl) x c end k
          ∙ read_whole_type limits d s t m3 m4 y (comma_ends limits m4 m5 comma) end _ ∙ read_sign limits Comma m4 m5 comma end _ ∙ read_whole_expression limits d clk m5 m6 z (reset_ends limits d r m6 b v) end _ ∙ read_reset limits d r m6 b v end _,
    ),
  )
  statement_read d (node p n t) a b nw (m1, e, (m2, x, (m3, c, (m4, y, l)))) f = (
    p,
    codes "node",
    m1,
    e,
    inr (
      refl,
      refl,
      λ end k.
          named_by (bytes_eq n.name (codes "is")) (codes "node") declares.Node d p Equals (λ y k. node_rest d p y (begun k)) n m1 m2 m3 refl refl (λ k. refl) (λ q r. refl) x c end k
          ∙ read_whole_expression limits d t m3 m4 y (line_ends limits m4 b l) end _ ∙ read_line_end limits m4 b l end _,
    ),
  )
  statement_read d (instance p n o) a b nw (m1, e, (m2, x, (m3, c, (m4, y, l)))) f = (
    p,
    codes "inst",
    m1,
    e,
    inr (
      refl,
      refl,
      λ end k.
          instance_by (bytes_eq n.name (codes "is")) d p n m1 m2 m3 refl x c end k ∙ read_name limits o m3 m4 y end _ ∙ read_line_end limits m4 b l end _,
    ),
  )
  statement_read d (memory p n fs) a b nw (m1, e, (m2, x, (m3, c, (m4, l, y)))) f = (
    p,
    codes "mem",
    m1,
    e,
    inr (
      refl,
      refl,
      λ end k.
          named_by (bytes_eq n.name (codes "is")) (codes "mem") declares.Mem d p Colon (λ y k. memory_rest d p y (begun k)) n m1 m2 m3 refl refl (λ k. refl) (λ q r. refl) x c end k
          ∙ read_line_end limits m3 m4 l end _ ∙ read_memory_body limits d fs m4 b y (memory_stays d b f) end _,
    ),
  )
  statement_read d (when p e x y) a b nw z f = absurd nw
  statement_read d (connect p s e) a b nw (m1, (m0, t, ps), (m2, c, (m3, x, (m4, l, (same, g))))) f = let read = parts_read limits d 1 s.parts m0 m1 ps (connect_ends m1 m2 c) in
      (s.place, s.name, m0, t, inl (along d s.place s.name (connect p s e) m0 m4 b g (read_connect limits d s p e m0 m1 m2 m3 m4 read c x l same)))
  statement_read d (partial_connect p s e) a b nw (m1, (m0, t, ps), (m2, c, (m3, x, (m4, l, (same, g))))) f = let read = parts_read limits d 1 s.parts m0 m1 ps (partial_ends m1 m2 c) in
      (s.place, s.name, m0, t, inl (along d s.place s.name (partial_connect p s e) m0 m4 b g (read_partial_connect limits d s p e m0 m1 m2 m3 m4 read c x l same)))
  statement_read d (invalid p s) a b nw (m1, (m0, t, ps), (m2, c, (m3, x, (m4, l, (same, g))))) f = let read = parts_read limits d 1 s.parts m0 m1 ps (word_ends m1 m2 c) in
      (s.place, s.name, m0, t, inl (along d s.place s.name (invalid p s) m0 m4 b g (read_invalid limits d s p m0 m1 m2 m3 m4 read c x l same)))
  statement_read d (skip p) a b nw (m, e, (q, l)) f = (p, codes "skip", m, e, inr (refl, refl, λ end k. takes_token limits (behind_first d p (codes "skip")) (λ f. f (statement (skip p))) line_end q m b l refl end k))
