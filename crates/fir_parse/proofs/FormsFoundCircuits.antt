-- Tokens that are read as ports, modules or a circuit spell them.
use Rattle.std.proofs.Common.{◌≡◌, ℕ, Bool, true, false, not, ◌||◌, ◌⊎◌, List, [], ◌∷◌, Option, Some, None, codes, refl, inl, inr, subst, sym}
use Rattle.fir_base.specs.declared.direction.Direction.{Direction}
use Rattle.fir_ast.specs.declared.place.Place.{Place}
use Rattle.fir_ast.specs.Statements.{PlacedName, invalid, Block, done}
use Rattle.fir_ast.specs.Circuits.{ModuleTree, CircuitTree}
use Rattle.fir_parse.specs.declared.lexeme.Mark.TheVariants.{Colon}
use Rattle.fir_parse.specs.declared.words.ModuleWord.{ModuleWord}
use Rattle.fir_parse.specs.declared.words.ModuleWord.TheVariants as modules
use Rattle.fir_parse.specs.Lexemes.{Lexeme, Terminal, word, mark, annotations, level_opens, level_closes}
use Rattle.fir_parse.specs.working.Words.{direction_of, module_word_of}
use Rattle.fir_parse.specs.Pieces.{Either, Nothing, Annotations, WordToken, NameToken, Sign}
use Rattle.fir_parse.specs.CircuitForms.{direction_word, IsBody, IsVersion}
use Rattle.fir_parse.specs.working.Symbols.{statement, PortOr, port, no_port, BodyTree, a_mark, behind_first, behind_direction, behind_port_is, ports_and_statements, first_module, more_modules}
use Rattle.fir_parse.specs.working.States.{State, Step, wants, mapped}
use Rattle.fir_parse.specs.working.StatementRules.{ends_line, bare, is_named, first_step}
use Rattle.fir_parse.specs.working.CircuitRules.{circuit_rest, version_rest, is_known_version, text_step, annotations_step, module_rest, by_module_word, first_module_step, more_modules_step, body_step, with_port, statements_only, behind_port, body_by_word, ports_step, port_rest, direction_step, port_is_step}
use Rattle.fir_parse.proofs.FormsFound.{token_at, IsBegun, IsPortOr, IsWholeText, AreBehind, Is, Derives, Found, Extends, by_word}
use Rattle.std.specs.Option.{IfSome}
use Rattle.std.specs.Prelude.{nat_eq}
use Rattle.std.proofs.lemmas.Bool.{eqb-true}
use Rattle.fir_parse.proofs.SpelledWords.{direction_found}
use Rattle.fir_parse.proofs.FormsFoundWords.{IsModuleWord, module_word}
use Rattle.fir_parse.proofs.FormsFoundTypes.{token_of}
use Rattle.fir_parse.proofs.FormsFoundReferences.{holds}
use Rattle.fir_parse.proofs.FormsFoundRefs.{extends_mapped, invalid_spelled}
use Rattle.fir_parse.proofs.FormsFoundDeclarations.{extends_first}
use Rattle.fir_parse.proofs.FormsFoundStatements.{found_begun}
use Rattle.fir_parse.specs.Limits.{Limits}

first_or : (a b : Bool) → (a || b) ≡ true → (a ≡ true) ⊎ (b ≡ true)
first_or true b h = inl refl
first_or false b h = inr h

is_known : (n : ℕ) → is_known_version n ≡ true → (n ≡ 1) ⊎ (n ≡ 2)
is_known n h = elim (first_or (nat_eq n 1) (nat_eq n 2) h) [ inl e ↦ inl (eqb-true n 1 e) | inr e ↦ inr (eqb-true n 2 e) ]

known_by : {C : Type 0} (n : ℕ) → (C → not (is_known_version n) ≡ false) → C → (n ≡ 1) ⊎ (n ≡ 2)
known_by n h c = is_known n (holds (is_known_version n) h c)

module _ (limits : Limits) where
  -- ports
  found_port : (r : Direction) (n : PlacedName) (w : List ℕ) (p : Place) (m1 m2 m3 : List Terminal) → NameToken n m1 m2 → Sign Colon m2 m3 → (k : PortOr → State) (c : CircuitTree) → Derives limits (port_rest r n k) c m3 → Found limits (IsPortOr limits r w) k c (token_at (word w) p ∷ m1)
  found_port r n w p m1 m2 m3 x s k c (t, m, y, (q, rest, l, more)) =
      (port (record { direction = r; named = n; type_place = t.place; data_type = t.data_type }), rest, (λ h. (m1, (p, token_of (direction_word r) w p m1 h), (m2, x, (m3, s, (m, y, (q, l)))))), more)

  found_named_port : (r : Direction) (p : Place) (w x : List ℕ) (q : Place) (ts : List Terminal) (k : PortOr → State) (c : CircuitTree) → Derives limits (wants (a_mark Colon) (λ s. port_rest r (record { place = q; name = x }) k)) c ts → Found limits (Is limits (behind_direction r p w)) k c (token_at (word x) q ∷ ts)
  found_named_port r p w x q ts k c (e, m, s, more) = found_port r (record { place = q; name = x }) w p (token_at (word x) q ∷ ts) ts m refl (e, s) k c more

  found_port_is : (r : Direction) (p : Place) (w x : List ℕ) (q : Place) (ts : List Terminal) → x ≡ codes "is" → (k : PortOr → State) (c : CircuitTree) → Derives limits (wants (behind_port_is r p w q) k) c ts → Found limits (Is limits (behind_direction r p w)) k c (token_at (word x) q ∷ ts)
  found_port_is r p w x q ts h k c (y, rest, z, more) = let P : List ℕ → Type 0 = λ v. IsPortOr limits r w y (token_at (word w) p ∷ token_at (word v) q ∷ ts) rest in (y, rest, subst P (sym h) z, more)

  extends_no_port : (r : Direction) (p : Place) (w : List ℕ) (l : Lexeme) (q : Place) (ts : List Terminal) → Extends limits (Is limits (behind_direction r p w)) (token_at l q) ts (mapped no_port (first_step 0 p w l q))
  extends_no_port r p w l q ts = extends_mapped limits (Is limits (behind_first 0 p w)) (Is limits (behind_direction r p w)) no_port (token_at l q) ts (first_step 0 p w l q) (λ x a z y. y) (extends_first limits 0 p w l q ts)

  pub extends_direction : (r : Direction) (p : Place) (w : List ℕ) (l : Lexeme) (q : Place) (ts : List Terminal) → Extends limits (Is limits (behind_direction r p w)) (token_at l q) ts (direction_step r p w l q)
  extends_direction r p w (word x) q ts = by_word (Extends limits (Is limits (behind_direction r p w)) (token_at (word x) q) ts) x (codes "is") _ _ (found_port_is r p w x q ts) (found_named_port r p w x q ts)
  extends_direction r p w l q ts = extends_no_port r p w l q ts

  found_port_invalid : (v : Direction) (p q : Place) (w x : List ℕ) (r : Place) (ts : List Terminal) → x ≡ codes "invalid" → (k : PortOr → State) (c : CircuitTree) → Derives limits (ends_line (no_port (statement (invalid p (bare p w)))) k) c ts → Found limits (Is limits (behind_port_is v p w q)) k c (token_at (word x) r ∷ ts)
  found_port_invalid v p q w x r ts h k c (e, rest, l, more) = (no_port (statement (invalid p (bare p w))), rest, invalid_spelled limits 0 p q r e w x ts rest h l, more)

  pub extends_port_is : (v : Direction) (p : Place) (w : List ℕ) (q : Place) (l : Lexeme) (r : Place) (ts : List Terminal) → Extends limits (Is limits (behind_port_is v p w q)) (token_at l r) ts (port_is_step v p w q l r)
  extends_port_is v p w q (mark Colon) r ts = found_port v (is_named q) w p (token_at (word (codes "is")) q ∷ token_at (mark Colon) r ∷ ts) (token_at (mark Colon) r ∷ ts) ts refl (r, refl)
  extends_port_is v p w q (word x) r ts = by_word (Extends limits (Is limits (behind_port_is v p w q)) (token_at (word x) r) ts) x (codes "invalid") _ _ (found_port_invalid v p q w x r ts) tt
  extends_port_is v p w q _ r ts = tt

  -- what a module has in its level
  abbrev no_ports : (BodyTree → State) → Block → State
  no_ports k b = k (record { ports = []; block = b })

  level_of : (a : List Terminal) (k : BodyTree → State) (c : CircuitTree) → Found limits (AreBehind limits 0 []) (no_ports k) c a → Found limits (Is limits ports_and_statements) k c a
  level_of a k c (b, z, (m, y, l), more) = (record { ports = []; block = b }, z, (a, refl, (m, y, l)), more)

  found_only : (a : List Terminal) (k : BodyTree → State) (c : CircuitTree) → Found limits (IsBegun limits 0) (λ s. statements_only s k) c a → Found limits (Is limits ports_and_statements) k c a
  found_only a k c x = level_of a k c (found_begun limits 0 [] a (no_ports k) c x)

  found_level : (r : Direction) (p : Place) (w : List ℕ) (ts : List Terminal) → w ≡ direction_word r → (k : BodyTree → State) (c : CircuitTree) → Derives limits (wants (behind_direction r p w) (λ x. behind_port x k)) c ts → Found limits (Is limits ports_and_statements) k c (token_at (word w) p ∷ ts)
  found_level r p w ts h k c (port t, m, x, (b, z, (m1, y, (m2, v, l)), more)) = (with_port t b, z, (m1, (m, x h, y), (m2, v, l)), more)
  found_level r p w ts h k c (no_port s, m, x, more) = found_only (token_at (word w) p ∷ ts) k c (s, m, x, more)

  by_direction : (o : Option Direction) (p : Place) (w : List ℕ) (ts : List Terminal) → IfSome o (λ r. w ≡ direction_word r) → Extends limits (Is limits ports_and_statements) (token_at (word w) p) ts (body_by_word o p w)
  by_direction (Some r) p w ts h = found_level r p w ts h
  by_direction None p w ts h = λ k c x. found_only (token_at (word w) p ∷ ts) k c x

  found_end : (p : Place) (ts : List Terminal) (k : BodyTree → State) (c : CircuitTree) → Derives limits (k (record { ports = []; block = done })) c ts → Found limits (Is limits ports_and_statements) k c (token_at level_closes p ∷ ts)
  found_end p ts k c more = (record { ports = []; block = done }, ts, (token_at level_closes p ∷ ts, refl, (token_at level_closes p ∷ ts, refl, (p, refl))), more)

  pub extends_ports : (l : Lexeme) (p : Place) (ts : List Terminal) → Extends limits (Is limits ports_and_statements) (token_at l p) ts (ports_step l p)
  extends_ports level_closes p ts = found_end p ts
  extends_ports (word w) p ts = by_direction (direction_of w) p w ts (direction_found w)
  extends_ports _ p ts = tt

  found_body : (p : Place) (ts : List Terminal) (k : BodyTree → State) (c : CircuitTree) → Derives limits (wants ports_and_statements k) c ts → Found limits (λ x a z. IsBody limits x.ports x.block a z) k c (token_at level_opens p ∷ ts)
  found_body p ts k c (x, z, (m1, y, (m2, v, l)), more) = (x, z, inr (ts, (p, refl), (m1, y, (m2, v, l))), more)

  pub extends_body : (l : Lexeme) (p : Place) (ts : List Terminal) → Extends limits (λ (x : BodyTree) a z. IsBody limits x.ports x.block a z) (token_at l p) ts (body_step l)
  extends_body level_opens p ts = found_body p ts
  extends_body _ p ts = inl ((refl, refl), refl)

  -- modules
  found_first_module : (p : Place) (w : List ℕ) (ts : List Terminal) → w ≡ codes "module" → (k : List ModuleTree → State) (c : CircuitTree) → Derives limits (module_rest p k) c ts → Found limits (Is limits first_module) k c (token_at (word w) p ∷ ts)
  found_first_module p w ts h k c (n, m1, x, (q, m2, s, (r, m3, l, (b, m4, y, (ms, z, (m5, ys, e), more))))) =
      (record { place = p; named = n; ports = b.ports; body = b.block } ∷ ms, z, (m5, (m4, (ts, token_of (codes "module") w p ts h, (m1, x, (m2, (q, s), (m3, (r, l), y)))), ys), e), more)

  found_module : (p : Place) (w : List ℕ) (ts : List Terminal) → w ≡ codes "module" → (k : List ModuleTree → State) (c : CircuitTree) → Derives limits (module_rest p k) c ts → Found limits (Is limits more_modules) k c (token_at (word w) p ∷ ts)
  found_module p w ts h k c (n, m1, x, (q, m2, s, (r, m3, l, (b, m4, y, (ms, z, (m5, ys, e), more))))) =
      (record { place = p; named = n; ports = b.ports; body = b.block } ∷ ms, z, (m5, (m4, (ts, token_of (codes "module") w p ts h, (m1, x, (m2, (q, s), (m3, (r, l), y)))), ys), e), more)

  by_first_word : (v : ModuleWord) (p : Place) (w : List ℕ) (ts : List Terminal) → IsModuleWord w v → Extends limits (Is limits first_module) (token_at (word w) p) ts (by_module_word v p w)
  by_first_word modules.Module p w ts h = found_first_module p w ts h
  by_first_word modules.Missing p w ts h = tt
  by_first_word modules.Name p w ts h = tt

  by_next_word : (v : ModuleWord) (p : Place) (w : List ℕ) (ts : List Terminal) → IsModuleWord w v → Extends limits (Is limits more_modules) (token_at (word w) p) ts (by_module_word v p w)
  by_next_word modules.Module p w ts h = found_module p w ts h
  by_next_word modules.Missing p w ts h = tt
  by_next_word modules.Name p w ts h = tt

  pub extends_first_module : (l : Lexeme) (p : Place) (ts : List Terminal) → Extends limits (Is limits first_module) (token_at l p) ts (first_module_step l p)
  extends_first_module (word w) p ts = by_first_word (module_word_of w) p w ts (module_word w)
  extends_first_module _ p ts = tt

  found_last_module : (p : Place) (ts : List Terminal) (k : List ModuleTree → State) (c : CircuitTree) → Derives limits (k []) c ts → Found limits (Is limits more_modules) k c (token_at level_closes p ∷ ts)
  found_last_module p ts k c more = ([], ts, (token_at level_closes p ∷ ts, refl, (p, refl)), more)

  pub extends_more_modules : (l : Lexeme) (p : Place) (ts : List Terminal) → Extends limits (Is limits more_modules) (token_at l p) ts (more_modules_step l p)
  extends_more_modules level_closes p ts = found_last_module p ts
  extends_more_modules (word w) p ts = by_next_word (module_word_of w) p w ts (module_word w)
  extends_more_modules _ p ts = tt

  pub extends_annotations : (l : Lexeme) (p : Place) (ts : List Terminal) → Extends limits (λ (u : Unit {0}) a z. Either Nothing Annotations a z) (token_at l p) ts (annotations_step l)
  extends_annotations annotations p ts = λ k c more. (tt, ts, inr (p, refl), more)
  extends_annotations _ p ts = inl refl

  -- circuits
  found_circuit : (a m0 m : List Terminal) → Either Nothing (IsVersion limits) a m0 → WordToken (codes "circuit") m0 m → (k : CircuitTree → State) (c : CircuitTree) → Derives limits (circuit_rest k) c m → Found limits (IsWholeText limits) k c a
  found_circuit a m0 m v w k c (n, m1, x, (p1, m2, s, (u, m3, y, (p2, m4, l, (p3, m5, o, (ms, z, (m6, t, e), more)))))) =
      (record { named = n; modules = ms }, z, (m0, v, (m, w, (m1, x, (m2, (p1, s), (m3, y, (m4, (p2, l), (m5, (p3, o), (m6, t, e)))))))), more)

  found_version : (p : Place) (w : List ℕ) (ts : List Terminal) → w ≡ codes "FIRRTL" → (k : CircuitTree → State) (c : CircuitTree) → Derives limits (version_rest k) c ts → Found limits (IsWholeText limits) k c (token_at (word w) p ∷ ts)
  found_version p w ts h k c (p1, m1, x, (n1, m2, i1, (known, (p2, m3, d1, (n2, m4, i2, (p3, m5, d2, (n3, m6, i3, (p4, m7, l, (p5, m8, y, more))))))))) =
      found_circuit (token_at (word w) p ∷ ts) m7 m8
      (inr (n1.number, n2.number, n3.number, (ts, (p, token_of (codes "FIRRTL") w p ts h), (m1, (p1, x), (m2, (n1.place, i1), (m2, (known_by n1.number known, refl), (m3, (p2, d1), (m4, (n2.place, i2), (m5, (p3, d2), (m6, (n3.place, i3), (p4, l)))))))))))
      (p5, y) k c more

  found_no_version : (p : Place) (w : List ℕ) (ts : List Terminal) → w ≡ codes "circuit" → (k : CircuitTree → State) (c : CircuitTree) → Derives limits (circuit_rest k) c ts → Found limits (IsWholeText limits) k c (token_at (word w) p ∷ ts)
  found_no_version p w ts h = found_circuit (token_at (word w) p ∷ ts) (token_at (word w) p ∷ ts) ts (inl refl) (p, token_of (codes "circuit") w p ts h)

  pub extends_text : (l : Lexeme) (p : Place) (ts : List Terminal) → Extends limits (IsWholeText limits) (token_at l p) ts (text_step l)
  extends_text (word w) p ts = let F : Step CircuitTree → Type 0 = Extends limits (IsWholeText limits) (token_at (word w) p) ts in
      by_word F w (codes "FIRRTL") _ _ (found_version p w ts) (by_word F w (codes "circuit") _ _ (found_no_version p w ts) tt)
  extends_text _ p ts = tt
