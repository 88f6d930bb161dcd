-- Tokens that are read as a declaration, or as a when as far as its block, spell it.
use Rattle.std.proofs.Common.{◌≡◌, ℕ, List, ◌∷◌, Option, Some, None, codes, refl}
use Rattle.std.specs.Str.{bytes_eq}
use Rattle.fir_ast.specs.declared.place.Place.{Place}
use Rattle.fir_ast.specs.Expressions.{Expression, reference, no_parts}
use Rattle.fir_ast.specs.Statements.{PlacedName, Statement, wire, register, node, instance, memory, invalid, skip}
use Rattle.fir_ast.specs.Circuits.{CircuitTree}
use Rattle.fir_parse.specs.declared.lexeme.Mark.TheVariants.{Equals, OpenSquare, Colon, Dot}
use Rattle.fir_parse.specs.declared.words.Declaration.{Declaration}
use Rattle.fir_parse.specs.declared.words.Declaration.TheVariants as declares
use Rattle.fir_parse.specs.declared.words.Lead.{Lead}
use Rattle.fir_parse.specs.declared.words.Lead.TheVariants as lead
use Rattle.fir_parse.specs.Lexemes.{Lexeme, Terminal, word, mark, line_end}
use Rattle.fir_parse.specs.working.Words.{lead_of}
use Rattle.fir_parse.specs.Pieces.{TokenAt, NameToken, Sign, WordToken}
use Rattle.fir_parse.specs.ExpressionForms.{IsExpression, AreParts}
use Rattle.fir_parse.specs.working.Symbols.{OpenWhen, Begun, statement, open_when, behind_first, behind_is}
use Rattle.fir_parse.specs.working.States.{State, Step, wants, refuses, unsupported}
use Rattle.fir_parse.specs.working.StatementRules.{ends_line, bare, begun, ref_step, wire_rest, register_rest, node_rest, instance_rest, memory_rest, when_block, when_rest, declared, declaration_step, stuck_behind, end_behind, ref_or, first_step, is_named, declaration_of_is, invalid_or, is_step}
use Rattle.fir_parse.proofs.FormsFound.{token_at, IsOpenWhen, IsBegun, Is, Derives, Found, Extends, by_word, within}
use Rattle.fir_parse.proofs.FormsFoundWords.{IsLead, lead_word}
use Rattle.fir_parse.proofs.FormsFoundTypes.{token_of}
use Rattle.fir_parse.proofs.FormsFoundReferences.{found_dot, found_index}
use Rattle.fir_parse.proofs.FormsFoundRefs.{BehindName, ExtendsRef, extends_mapped, extends_ref, invalid_spelled}
use Rattle.std.proofs.lemmas.Bool.{cond_both}
use Rattle.fir_parse.specs.Limits.{Limits}

module _ (limits : Limits) where
  -- behind the name and the sign of a declaration
  found_wire : (d : ℕ) (p : Place) (n : PlacedName) (a m1 m2 m3 : List Terminal) → TokenAt (word (codes "wire")) p a m1 → NameToken n m1 m2 → Sign Colon m2 m3 → (k : Begun → State) (c : CircuitTree) → Derives limits (wire_rest d p n (begun k)) c m3 → Found limits (IsBegun limits d) k c a
  found_wire d p n a m1 m2 m3 t x s k c (y, m, z, (q, rest, l, more)) = (statement (wire p n y.place y.data_type), rest, (m1, t, (m2, x, (m3, s, (m, z, (q, l))))), more)

  found_register : (d : ℕ) (p : Place) (n : PlacedName) (a m1 m2 m3 : List Terminal) → TokenAt (word (codes "reg")) p a m1 → NameToken n m1 m2 → Sign Colon m2 m3 → (k : Begun → State) (c : CircuitTree) → Derives limits (register_rest d p n (begun k)) c m3 → Found limits (IsBegun limits d) k c a
  found_register d p n a m1 m2 m3 t x s k c (y, m4, z, (q, m5, u, (e, m6, v, (r, rest, w, more)))) = (statement (register p n y.place y.data_type e r), rest, (m1, t, (m2, x, (m3, s, (m4, z, (m5, (q, u), (m6, v, w)))))), more)

  found_node : (d : ℕ) (p : Place) (n : PlacedName) (a m1 m2 m3 : List Terminal) → TokenAt (word (codes "node")) p a m1 → NameToken n m1 m2 → Sign Equals m2 m3 → (k : Begun → State) (c : CircuitTree) → Derives limits (node_rest d p n (begun k)) c m3 → Found limits (IsBegun limits d) k c a
  found_node d p n a m1 m2 m3 t x s k c (y, m, z, (q, rest, l, more)) = (statement (node p n y), rest, (m1, t, (m2, x, (m3, s, (m, z, (q, l))))), more)

  found_instance : (d : ℕ) (p : Place) (n : PlacedName) (a m1 m2 m3 : List Terminal) → TokenAt (word (codes "inst")) p a m1 → NameToken n m1 m2 → WordToken (codes "of") m2 m3 → (k : Begun → State) (c : CircuitTree) → Derives limits (instance_rest p n (begun k)) c m3 → Found limits (IsBegun limits d) k c a
  found_instance d p n a m1 m2 m3 t x s k c (y, m, z, (q, rest, l, more)) = (statement (instance p n y), rest, (m1, t, (m2, x, (m3, s, (m, z, (q, l))))), more)

  found_memory : (d : ℕ) (p : Place) (n : PlacedName) (a m1 m2 m3 : List Terminal) → TokenAt (word (codes "mem")) p a m1 → NameToken n m1 m2 → Sign Colon m2 m3 → (k : Begun → State) (c : CircuitTree) → Derives limits (memory_rest d p n (begun k)) c m3 → Found limits (IsBegun limits d) k c a
  found_memory d p n a m1 m2 m3 t x s k c (q, m, l, (fs, rest, y, more)) = (statement (memory p n fs), rest, (m1, t, (m2, x, (m3, s, (m, (q, l), y)))), more)

  -- behind the colon of a when
  pub found_when_block : (d : ℕ) (p : Place) (e : Expression) (a m1 m2 m3 : List Terminal) → TokenAt (word (codes "when")) p a m1 → IsExpression limits d e m1 m2 → Sign Colon m2 m3 → (k : OpenWhen → State) (c : CircuitTree) → Derives limits (when_block d p e k) c m3 → Found limits (IsOpenWhen limits d) k c a
  found_when_block d p e a m1 m2 m3 t x s k c (q, m, l, (lt, (b, rest, y, more))) = (record { place = p; condition = e; block = b }, rest, (m1, t, (m2, x, (m3, s, (m, (q, l), (m, (within d lt, refl), y))))), more)

  pub found_when_rest : (d : ℕ) (p : Place) (e : Expression) (a m1 m2 : List Terminal) → TokenAt (word (codes "when")) p a m1 → IsExpression limits d e m1 m2 → (k : OpenWhen → State) (c : CircuitTree) → Derives limits (when_rest d p e k) c m2 → Found limits (IsOpenWhen limits d) k c a
  found_when_rest d p e a m1 m2 t x k c (q, m, s, more) = found_when_block d p e a m1 m2 m t x (q, s) k c more

  begun_when : (d : ℕ) (a : List Terminal) (k : Begun → State) (c : CircuitTree) → Found limits (IsOpenWhen limits d) (λ s. k (open_when s)) c a → Found limits (IsBegun limits d) k c a
  begun_when d a k c (o, rest, x, more) = (open_when o, rest, x, more)

  -- behind the first word and a name
  found_declared : (l : Declaration) (d : ℕ) (p : Place) (w x : List ℕ) (q : Place) (ts : List Terminal) → IsLead w (lead.Declares l) → (k : Begun → State) (c : CircuitTree) → Derives limits (declared l d p (record { place = q; name = x }) k) c ts → Found limits (Is limits (behind_first d p w)) k c (token_at (word x) q ∷ ts)
  found_declared declares.Wire d p w x q ts e k c (r, m, s, more) = found_wire d p (record { place = q; name = x }) _ (token_at (word x) q ∷ ts) ts m (token_of (codes "wire") w p (token_at (word x) q ∷ ts) e) refl (r, s) k c more
  found_declared declares.Reg d p w x q ts e k c (r, m, s, more) = found_register d p (record { place = q; name = x }) _ (token_at (word x) q ∷ ts) ts m (token_of (codes "reg") w p (token_at (word x) q ∷ ts) e) refl (r, s) k c more
  found_declared declares.Node d p w x q ts e k c (r, m, s, more) = found_node d p (record { place = q; name = x }) _ (token_at (word x) q ∷ ts) ts m (token_of (codes "node") w p (token_at (word x) q ∷ ts) e) refl (r, s) k c more
  found_declared declares.Inst d p w x q ts e k c (r, m, s, more) = found_instance d p (record { place = q; name = x }) _ (token_at (word x) q ∷ ts) ts m (token_of (codes "inst") w p (token_at (word x) q ∷ ts) e) refl (r, s) k c more
  found_declared declares.Mem d p w x q ts e k c (r, m, s, more) = found_memory d p (record { place = q; name = x }) _ (token_at (word x) q ∷ ts) ts m (token_of (codes "mem") w p (token_at (word x) q ∷ ts) e) refl (r, s) k c more
  found_declared declares.When d p w x q ts e k c (y, m, z, more) =
      begun_when d (token_at (word w) p ∷ token_at (word x) q ∷ ts) k c (found_when_rest d p y _ (token_at (word x) q ∷ ts) m (token_of (codes "when") w p (token_at (word x) q ∷ ts) e) z (λ s. k (open_when s)) c more)

  extends_declaration : (l : Lead) (d : ℕ) (p : Place) (w x : List ℕ) (q : Place) (ts : List Terminal) → IsLead w l → Extends limits (Is limits (behind_first d p w)) (token_at (word x) q) ts (declaration_step l d p w x q)
  extends_declaration lead.Skip d p w x q ts e = tt
  extends_declaration lead.Missing d p w x q ts e = tt
  extends_declaration lead.MissingPort d p w x q ts e = cond_both (bytes_eq x (codes "mport")) (unsupported p w) refuses (Extends limits (Is limits (behind_first d p w)) (token_at (word x) q) ts) (λ h. tt) (λ h. tt)
  extends_declaration lead.Name d p w x q ts e = tt
  extends_declaration (lead.Declares l) d p w x q ts e = found_declared l d p w x q ts e

  -- behind the first word
  extends_stuck : (l : Lead) (d : ℕ) (p : Place) (w : List ℕ) (t : Terminal) (ts : List Terminal) → Extends limits (Is limits (behind_first d p w)) t ts (stuck_behind l p w)
  extends_stuck lead.Missing d p w t ts = tt
  extends_stuck _ d p w t ts = tt

  found_skip : (d : ℕ) (p : Place) (w : List ℕ) (q : Place) (ts : List Terminal) → w ≡ codes "skip" → (k : Begun → State) (c : CircuitTree) → Derives limits (k (statement (skip p))) c ts → Found limits (Is limits (behind_first d p w)) k c (token_at line_end q ∷ ts)
  found_skip d p w q ts e k c more = (statement (skip p), ts, (token_at line_end q ∷ ts, token_of (codes "skip") w p (token_at line_end q ∷ ts) e, (q, refl)), more)

  extends_end : (l : Lead) (d : ℕ) (p : Place) (w : List ℕ) (q : Place) (ts : List Terminal) → IsLead w l → Extends limits (Is limits (behind_first d p w)) (token_at line_end q) ts (end_behind l p w)
  extends_end lead.Skip d p w q ts e = found_skip d p w q ts e
  extends_end lead.Missing d p w q ts e = tt
  extends_end _ d p w q ts e = tt

  extends_ref_or : (r : Option (Step Statement)) (otherwise : Step Begun) (d : ℕ) (p : Place) (w : List ℕ) (t : Terminal) (ts : List Terminal) → ExtendsRef limits d p w t ts r → Extends limits (Is limits (behind_first d p w)) t ts otherwise → Extends limits (Is limits (behind_first d p w)) t ts (ref_or r otherwise)
  extends_ref_or (Some s) otherwise d p w t ts h g = extends_mapped limits (BehindName limits d p w) (Is limits (behind_first d p w)) statement t ts s (λ x a z y. y) h
  extends_ref_or None otherwise d p w t ts h g = g

  found_is : (d : ℕ) (p : Place) (w x : List ℕ) (q : Place) (ts : List Terminal) → x ≡ codes "is" → (k : Begun → State) (c : CircuitTree) → Derives limits (wants (behind_is d p w q) k) c ts → Found limits (Is limits (behind_first d p w)) k c (token_at (word x) q ∷ ts)
  found_is d p w x q ts e k c (s, rest, y, more) = (s, rest, rw e y, more)

  pub extends_first : (d : ℕ) (p : Place) (w : List ℕ) (l : Lexeme) (q : Place) (ts : List Terminal) → Extends limits (Is limits (behind_first d p w)) (token_at l q) ts (first_step d p w l q)
  extends_first d p w (mark m) q ts = extends_ref_or (ref_step d p w m q) (stuck_behind (lead_of w) p w) d p w (token_at (mark m) q) ts (extends_ref limits d p w m q ts) (extends_stuck (lead_of w) d p w (token_at (mark m) q) ts)
  extends_first d p w (word x) q ts = by_word (Extends limits (Is limits (behind_first d p w)) (token_at (word x) q) ts) x (codes "is") _ _ (found_is d p w x q ts) (extends_declaration (lead_of w) d p w x q ts (lead_word w))
  extends_first d p w line_end q ts = extends_end (lead_of w) d p w q ts (lead_word w)
  extends_first d p w l q ts = extends_stuck (lead_of w) d p w (token_at l q) ts

  -- behind the first word and the word `is`
  abbrev is_tokens : Lexeme → Place → Place → List Terminal → List Terminal
  is_tokens l q r ts = token_at (word (codes "is")) q ∷ token_at l r ∷ ts

  found_instance_of_is : (d : ℕ) (p q : Place) (w x : List ℕ) (r : Place) (ts : List Terminal) → w ≡ codes "inst" → x ≡ codes "of" → (k : Begun → State) (c : CircuitTree) → Derives limits (instance_rest p (is_named q) (begun k)) c ts → Found limits (Is limits (behind_is d p w q)) k c (token_at (word x) r ∷ ts)
  found_instance_of_is d p q w x r ts e h k c more = found_instance d p (is_named q) _ (is_tokens (word x) q r ts) (token_at (word x) r ∷ ts) ts (token_of (codes "inst") w p (is_tokens (word x) q r ts) e) refl (r, token_of (codes "of") x r ts h) k c more

  found_when_of_is : (d : ℕ) (p q : Place) (w : List ℕ) (a : List Terminal) → w ≡ codes "when" → (k : Begun → State) (c : CircuitTree) → Found limits (AreParts limits d 1) (λ ps. when_rest d p (reference q (codes "is") ps) (λ s. k (open_when s))) c a → Found limits (Is limits (behind_is d p w q)) k c a
  found_when_of_is d p q w a e k c (ps, m, x, more) =
      begun_when d (token_at (word w) p ∷ token_at (word (codes "is")) q ∷ a) k c (found_when_rest d p (reference q (codes "is") ps) _ (token_at (word (codes "is")) q ∷ a) m (token_of (codes "when") w p (token_at (word (codes "is")) q ∷ a) e) (a, refl, x) (λ s. k (open_when s)) c more)

  extends_declaration_of_is : (v : Lead) (d : ℕ) (p q : Place) (w : List ℕ) (l : Lexeme) (r : Place) (ts : List Terminal) → IsLead w v → Extends limits (Is limits (behind_is d p w q)) (token_at l r) ts (declaration_of_is v d p q l r)
  extends_declaration_of_is (lead.Declares declares.Wire) d p q w (mark Colon) r ts e = found_wire d p (is_named q) _ (is_tokens (mark Colon) q r ts) (token_at (mark Colon) r ∷ ts) ts (token_of (codes "wire") w p (is_tokens (mark Colon) q r ts) e) refl (r, refl)
  extends_declaration_of_is (lead.Declares declares.Reg) d p q w (mark Colon) r ts e = found_register d p (is_named q) _ (is_tokens (mark Colon) q r ts) (token_at (mark Colon) r ∷ ts) ts (token_of (codes "reg") w p (is_tokens (mark Colon) q r ts) e) refl (r, refl)
  extends_declaration_of_is (lead.Declares declares.Node) d p q w (mark Equals) r ts e = found_node d p (is_named q) _ (is_tokens (mark Equals) q r ts) (token_at (mark Equals) r ∷ ts) ts (token_of (codes "node") w p (is_tokens (mark Equals) q r ts) e) refl (r, refl)
  extends_declaration_of_is (lead.Declares declares.Inst) d p q w (word x) r ts e = by_word (Extends limits (Is limits (behind_is d p w q)) (token_at (word x) r) ts) x (codes "of") _ _ (found_instance_of_is d p q w x r ts e) tt
  extends_declaration_of_is (lead.Declares declares.Mem) d p q w (mark Colon) r ts e = found_memory d p (is_named q) _ (is_tokens (mark Colon) q r ts) (token_at (mark Colon) r ∷ ts) ts (token_of (codes "mem") w p (is_tokens (mark Colon) q r ts) e) refl (r, refl)
  extends_declaration_of_is (lead.Declares declares.When) d p q w (mark Colon) r ts e = λ k c x.
      begun_when d (token_at (word w) p ∷ is_tokens (mark Colon) q r ts) k c (found_when_block d p (reference q (codes "is") no_parts) _ (is_tokens (mark Colon) q r ts) (token_at (mark Colon) r ∷ ts) ts (token_of (codes "when") w p (is_tokens (mark Colon) q r ts) e) (token_at (mark Colon) r ∷ ts, refl, refl) (r, refl) (λ s. k (open_when s)) c x)
  extends_declaration_of_is (lead.Declares declares.When) d p q w (mark Dot) r ts e = λ k c x. found_when_of_is d p q w (token_at (mark Dot) r ∷ ts) e k c (found_dot limits d 1 r ts (λ ps. when_rest d p (reference q (codes "is") ps) (λ s. k (open_when s))) c x)
  extends_declaration_of_is (lead.Declares declares.When) d p q w (mark OpenSquare) r ts e = λ k c x. found_when_of_is d p q w (token_at (mark OpenSquare) r ∷ ts) e k c (found_index limits d 1 r ts (λ ps. when_rest d p (reference q (codes "is") ps) (λ s. k (open_when s))) c x)
  extends_declaration_of_is _ d p q w _ r ts e = tt

  found_is_invalid : (d : ℕ) (p q : Place) (w x : List ℕ) (r : Place) (ts : List Terminal) → x ≡ codes "invalid" → (k : Begun → State) (c : CircuitTree) → Derives limits (ends_line (invalid p (bare p w)) (begun k)) c ts → Found limits (Is limits (behind_is d p w q)) k c (token_at (word x) r ∷ ts)
  found_is_invalid d p q w x r ts h k c (e, rest, l, more) = (statement (invalid p (bare p w)), rest, invalid_spelled limits d p q r e w x ts rest h l, more)

  extends_invalid_or : (l : Lexeme) (d : ℕ) (p q : Place) (w : List ℕ) (r : Place) (ts : List Terminal) (otherwise : Step Begun) → Extends limits (Is limits (behind_is d p w q)) (token_at l r) ts otherwise → Extends limits (Is limits (behind_is d p w q)) (token_at l r) ts (invalid_or l (bare p w) otherwise)
  extends_invalid_or (word x) d p q w r ts otherwise h = by_word (Extends limits (Is limits (behind_is d p w q)) (token_at (word x) r) ts) x (codes "invalid") _ _ (found_is_invalid d p q w x r ts) h
  extends_invalid_or _ d p q w r ts otherwise h = h

  pub extends_is : (d : ℕ) (p : Place) (w : List ℕ) (q : Place) (l : Lexeme) (r : Place) (ts : List Terminal) → Extends limits (Is limits (behind_is d p w q)) (token_at l r) ts (is_step d p w q l r)
  extends_is d p w q l r ts = extends_invalid_or l d p q w r ts (declaration_of_is (lead_of w) d p q l r) (extends_declaration_of_is (lead_of w) d p q w l r ts (lead_word w))
