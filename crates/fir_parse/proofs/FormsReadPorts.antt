-- Tokens that spell the ports and statements of a module are read as those.
use Rattle.std.proofs.Common.{◌≡◌, ℕ, Bool, true, false, List, [], ◌∷◌, Option, Some, None, codes, refl, sym, ap, ◌∙◌, ◌⊎◌, inl, inr}
use Rattle.std.specs.Str.{bytes_eq}
use Rattle.fir_base.specs.declared.direction.Direction.{Direction}
use Rattle.fir_ast.specs.declared.place.Place.{Place}
use Rattle.fir_ast.specs.Statements.{PlacedName, Statement, wire, when, Block, done, then}
use Rattle.fir_ast.specs.Circuits.{PortTree}
use Rattle.fir_parse.specs.declared.lexeme.Mark.TheVariants.{Colon}
use Rattle.fir_parse.specs.Lexemes.{Lexeme, Terminal, word, mark, level_opens, level_closes}
use Rattle.fir_parse.specs.working.Words.{direction_of}
use Rattle.fir_parse.specs.Pieces.{TokenAt, NameToken, Sign, Closes}
use Rattle.fir_parse.specs.StatementForms.{AreStatements}
use Rattle.fir_parse.specs.CircuitForms.{direction_word, ArePorts, IsBody}
use Rattle.fir_parse.specs.working.Symbols.{BodyTree, PortOr, a_mark, statements, behind_first, behind_direction, behind_port_is, ports_and_statements, a_body}
use Rattle.fir_parse.specs.working.States.{State, wants, without}
use Rattle.fir_parse.specs.working.StatementRules.{is_named, behind_statement}
use Rattle.fir_parse.specs.working.CircuitRules.{with_port, behind_port, statements_only, body_by_word, body_step, port_rest}
use Rattle.fir_parse.specs.working.Reading.{read_on}
use Rattle.fir_parse.proofs.Completions.{Skips}
use Rattle.fir_parse.proofs.SpelledWords.{direction_read}
use Rattle.fir_parse.proofs.FormsReadPieces.{takes_token, leaves_token, reads_same, read_sign, read_line_end}
use Rattle.fir_parse.proofs.FormsReadTypes.{read_whole_type}
use Rattle.fir_parse.proofs.FormsReadMemories.{line_ends}
use Rattle.fir_parse.proofs.FormsReadRefs.{RefRead, read_ref_port}
use Rattle.fir_parse.proofs.FormsReadDeclarations.{opens_level, NoLevel, DeclarationRead, StatementRead, statement_read, named_is}
use Rattle.fir_parse.proofs.FormsReadWhens.{StatementsRead, another}
use Rattle.fir_parse.proofs.FormsReadStatements.{statements_read, first_read}
use Rattle.fir_parse.specs.Limits.{Limits}

module _ (limits : Limits) where
  -- these tokens are read as what a module has in its level, up to its end
  abbrev pub LevelRead : List PortTree → Block → List Terminal → List Terminal → Type 0
  LevelRead ps b a z = (end : Place) (k : BodyTree → State) → read_on limits end (wants ports_and_statements k) a ≡ read_on limits end (k (record { ports = ps; block = b })) z

  abbrev no_ports : (BodyTree → State) → Block → State
  no_ports k b = k (record { ports = []; block = b })

  -- where no port begins
  same_level : (w : List ℕ) (p : Place) (a m : List Terminal) → direction_of w ≡ None → TokenAt (word w) p a m → (end : Place) (k : BodyTree → State) → read_on limits end (wants ports_and_statements k) a ≡ read_on limits end (wants (statements 0 []) (no_ports k)) a
  same_level w p a m h e end k =
      takes_token limits ports_and_statements (λ f. wants (behind_first 0 p w) (λ s. statements_only s f)) (word w) p a m e (ap (λ o. body_by_word o p w) h) end k
      ∙ sym (takes_token limits (statements 0 []) (λ f. wants (behind_first 0 p w) (λ s. behind_statement 0 s (λ rest. f rest))) (word w) p a m e refl end (no_ports k))

  level_by : (o : Option Direction) (p : Place) (w : List ℕ) (s : Statement) (rest : Block) (a n m z : List Terminal) → direction_of w ≡ o → TokenAt (word w) p a n → RefRead limits 0 p w s n m ⊎ DeclarationRead limits 0 p w s n m → StatementsRead limits 0 rest m z → LevelRead [] ((then) s rest) a z
  level_by None p w s rest a n m z h t x r end k = same_level w p a n h t end k ∙ (another limits 0 s rest a m z (p, w, n, t, x) r).1 [] end (no_ports k)
  level_by (Some v) p w s rest a n m z h t (inl x) r end k =
      takes_token limits ports_and_statements (λ f. wants (behind_direction v p w) (λ y. behind_port y f)) (word w) p a n t (ap (λ o. body_by_word o p w) h) end k
      ∙ read_ref_port limits v p w s n m x end (λ y. behind_port y k) ∙ r.1 [] end (λ y. no_ports k ((then) s y))
  level_by (Some v) p w s rest a n m z h t (inr (x, none, q)) r end k = absurd (cc)

  level_first : (s : Statement) (rest : Block) (a m z : List Terminal) → StatementRead limits 0 s a m → StatementsRead limits 0 rest m z → LevelRead [] ((then) s rest) a z
  level_first s rest a m z (p, w, n, t, x) r = level_by (direction_of w) p w s rest a n m z refl t x r

  pub statements_level : (b : Block) (a m z : List Terminal) → AreStatements limits 0 b a m → Closes m z → LevelRead [] b a z
  statements_level done a m z x (p, e) end k = takes_token limits ports_and_statements (λ f. f (record { ports = []; block = done })) level_closes p a z (x ∙ e) refl end k
  statements_level ((then) (when p e b f) rest) a m z (m1, (m0, t, x), y) c end k =
      same_level (codes "when") p a m0 refl t end k ∙ (first_read limits 0 (when p e b f) rest a m1 z (m0, t, x) (statements_read limits 0 rest m1 m z y c)).1 [] end (no_ports k)
  statements_level ((then) (wire p n q t) rest) a m z (m1, x, y) c end k = let r : StatementsRead limits 0 rest m1 z = statements_read limits 0 rest m1 m z y c in level_first (wire p n q t) rest a m1 z (statement_read limits 0 (wire p n q t) a m1 tt x r.0) r end k
  statements_level ((then) s rest) a m z (m1, x, y) c end k = let r : StatementsRead limits 0 rest m1 z = statements_read limits 0 rest m1 m z y c in level_first s rest a m1 z (statement_read limits 0 s a m1 tt x r.0) r end k

  -- a port, behind the word of its direction
  port_by : (c : Bool) (v : Direction) (p : Place) (w : List ℕ) (n : PlacedName) (a m b : List Terminal) → bytes_eq n.name (codes "is") ≡ c → NameToken n a m → Sign Colon m b → (end : Place) (k : PortOr → State) → read_on limits end (wants (behind_direction v p w) k) a ≡ read_on limits end (port_rest v n k) b
  port_by true v p w n a m b c e (q, x) end k =
      takes_token limits (behind_direction v p w) (λ f. wants (behind_port_is v p w n.place) f) (word n.name) n.place a m e (rw c refl) end k
      ∙ takes_token limits (behind_port_is v p w n.place) (λ f. port_rest v (is_named n.place) f) (mark Colon) q m b x refl end k ∙ ap (λ y. read_on limits end (port_rest v y k) b) (named_is limits n c)
  port_by false v p w n a m b c e x end k =
      takes_token limits (behind_direction v p w) (λ f. wants (a_mark Colon) (λ s. port_rest v n f)) (word n.name) n.place a m e (rw c refl) end k ∙ read_sign limits Colon m b x end _

  ports_read : (ps : List PortTree) (b : Block) (a m z : List Terminal) → ArePorts limits ps a m → LevelRead [] b m z → LevelRead ps b a z
  ports_read [] b a m z x r end k = reads_same limits (wants ports_and_statements k) a m x end ∙ r end k
  ports_read (p ∷ ps) b a m z (c, (m1, (q, t), (m2, n, (m3, s, (m4, y, l)))), x) r end k =
      let w : List ℕ = direction_word p.direction in
      takes_token limits ports_and_statements (λ f. wants (behind_direction p.direction q w) (λ y. behind_port y f)) (word w) q a m1 t (ap (λ o. body_by_word o q w) (direction_read p.direction)) end k
      ∙ port_by (bytes_eq p.named.name (codes "is")) p.direction q w p.named m1 m2 m3 refl n s end (λ y. behind_port y k)
      ∙ read_whole_type limits 0 p.type_place p.data_type m3 m4 y (line_ends limits m4 c l) end _ ∙ read_line_end limits m4 c l end _ ∙ ports_read ps b c m z x r end (λ y. k (with_port p y))

  body_stays_at : (l : Lexeme) → opens_level limits l ≡ false → body_step l ≡ without (record { ports = []; block = done })
  body_stays_at level_opens h = absurd (cc)
  body_stays_at _ h = refl

  body_stays : (ts : List Terminal) → NoLevel limits ts → Skips a_body (record { ports = []; block = done }) ts
  body_stays [] h = h
  body_stays (t ∷ ts) h = body_stays_at t.lexeme h

  pub read_body : (ps : List PortTree) (b : Block) (a z : List Terminal) → IsBody limits ps b a z → NoLevel limits z → (end : Place) (k : BodyTree → State) → read_on limits end (wants a_body k) a ≡ read_on limits end (k (record { ports = ps; block = b })) z
  read_body ps b a z (inl ((none, empty), e)) h end k =
      reads_same limits (wants a_body k) a z e end ∙ leaves_token limits a_body (record { ports = []; block = done }) z (body_stays z h) end k
      ∙ ap (λ x. read_on limits end (k (record { ports = x; block = done })) z) (sym none) ∙ ap (λ x. read_on limits end (k (record { ports = ps; block = x })) z) (sym empty)
  read_body ps b a z (inr (m1, (p, e), (m2, x, (m3, y, c)))) h end k =
      takes_token limits a_body (λ f. wants ports_and_statements f) level_opens p a m1 e refl end k ∙ ports_read ps b m1 m2 z x (statements_level b m2 m3 z y c) end k
