-- Tokens that are read as a memory's fields, or as the reset of a register, spell them.
use Rattle.std.proofs.Common.{◌≡◌, ℕ, ◌+◌, List, [], ◌∷◌, Option, Some, None, codes, refl, ap, inl, inr, sym, subst, ◌<◌}
use Rattle.fir_ast.specs.declared.place.Place.{Place}
use Rattle.fir_ast.specs.declared.statements.ReadUnderWrite.{ReadUnderWrite}
use Rattle.fir_ast.specs.Statements.{PlacedName, Reset, MemoryPart, data_type, depth, read_latency, write_latency, reader, writer, readwriter, read_under_write}
use Rattle.fir_ast.specs.Circuits.{CircuitTree}
use Rattle.fir_parse.specs.declared.lexeme.Mark.TheVariants.{Arrow, OpenRound, CloseRound, Colon}
use Rattle.fir_parse.specs.declared.words.FieldWord.{FieldWord}
use Rattle.fir_parse.specs.declared.words.FieldWord.TheVariants as memory
use Rattle.fir_parse.specs.Lexemes.{Lexeme, Terminal, word, dash_word, mark, line_end, level_opens, level_closes}
use Rattle.fir_parse.specs.working.Words.{plain_field_word, dash_field_word, under_write_of}
use Rattle.fir_parse.specs.Pieces.{◌▸◌, Sign, WordToken, Int, LineEnd, TokenAt, Either, Opens, Closes}
use Rattle.fir_parse.specs.StatementForms.{IsResetPair, IsRegisterReset, IsNames, under_write_word, IsMemoryPart, IsMemoryBody}
use Rattle.fir_parse.specs.working.Symbols.{a_mark, an_opening, a_closing, a_type, an_under_write, behind_with, a_memory_field, more_memory_fields, more_names}
use Rattle.fir_parse.specs.working.States.{State, wants, Step, takes, without, refuses, unsupported, opens}
use Rattle.fir_parse.specs.working.StatementRules.{ends_line, reset_rest, reset_step, with_step}
use Rattle.fir_parse.specs.working.MemoryRules.{number_field, names_field, by_field_word, memory_field_step, memory_body_step, then_fields, more_memory_fields_step, more_names_step, under_write, under_write_step}
use Rattle.fir_parse.proofs.FormsFound.{token_at, Is, IsBehindWith, Derives, Found, Extends, by_word, within}
use Rattle.fir_parse.proofs.FormsFoundWords.{IsPlainField, plain_field, IsDashField, dash_field}
use Rattle.std.specs.Option.{IfSome}
use Rattle.fir_parse.proofs.SpelledWords.{under_write_found}
use Rattle.fir_parse.proofs.FormsFoundTypes.{token_of}
use Rattle.fir_parse.specs.Limits.{Limits, nesting, Within}

module _ (limits : Limits) where
  dash_token_of : (v w : List ℕ) (p : Place) (ts : List Terminal) → w ≡ v → token_at (dash_word w) p ∷ ts ≡ token_at (dash_word v) p ∷ ts
  dash_token_of v w p ts e = ap (λ x. token_at (dash_word x) p ∷ ts) e

  -- behind the word of a field
  found_number : (d : ℕ) (make : Place → ℕ → MemoryPart) (p : Place) (a ts : List Terminal) → ((n : ℕ) (m : List Terminal) → (Sign Arrow ▸ Int limits n ▸ LineEnd) ts m → IsMemoryPart limits d (make p n) a m) → (k : MemoryPart → State) (c : CircuitTree) → Derives limits (number_field make p k) c ts → Found limits (IsMemoryPart limits d) k c a
  found_number d make p a ts h k c (q, m1, s, (n, m2, i, (r, rest, l, more))) = (make p n.number, rest, h n.number rest (m1, (q, s), (m2, (n.place, i), (r, l))), more)

  found_names : (d : ℕ) (make : Place → List PlacedName → MemoryPart) (p : Place) (a ts : List Terminal) → ((ns : List PlacedName) (m : List Terminal) → IsNames ns ts m → IsMemoryPart limits d (make p ns) a m) → (k : MemoryPart → State) (c : CircuitTree) → Derives limits (names_field make p k) c ts → Found limits (IsMemoryPart limits d) k c a
  found_names d make p a ts h k c (q, m1, s, (n, m2, x, (ns, rest, (m3, y, l), more))) = (make p (n ∷ ns), rest, h (n ∷ ns) rest (m1, (q, s), (m2, x, (m3, y, l))), more)

  found_data_type : (d : ℕ) (p : Place) (a ts : List Terminal) → TokenAt (dash_word (codes "data-type")) p a ts → (k : MemoryPart → State) (c : CircuitTree) → Derives limits (wants (a_mark Arrow) (λ q. wants (a_type d) (λ t. ends_line (data_type p t.place t.data_type) k))) c ts → Found limits (IsMemoryPart limits d) k c a
  found_data_type d p a ts e k c (q, m1, s, (t, m2, x, (r, rest, l, more))) = (data_type p t.place t.data_type, rest, (ts, e, (m1, (q, s), (m2, x, (r, l)))), more)

  found_rule : (d : ℕ) (p : Place) (a ts : List Terminal) → TokenAt (dash_word (codes "read-under-write")) p a ts → (k : MemoryPart → State) (c : CircuitTree) → Derives limits (wants (a_mark Arrow) (λ q. wants an_under_write (λ u. ends_line (read_under_write p u) k))) c ts → Found limits (IsMemoryPart limits d) k c a
  found_rule d p a ts e k c (q, m1, s, (u, m2, x, (r, rest, l, more))) = (read_under_write p u, rest, (ts, e, (m1, (q, s), (m2, x, (r, l)))), more)

  by_plain : (f : FieldWord) (d : ℕ) (w : List ℕ) (p : Place) (ts : List Terminal) → IsPlainField w f → Extends limits (IsMemoryPart limits d) (token_at (word w) p) ts (by_field_word f d p)
  by_plain memory.Depth d w p ts e = found_number d depth p (token_at (word w) p ∷ ts) ts (λ n m x. (ts, token_of (codes "depth") w p ts e, x))
  by_plain memory.Reader d w p ts e = found_names d reader p (token_at (word w) p ∷ ts) ts (λ ns m x. (ts, token_of (codes "reader") w p ts e, x))
  by_plain memory.Writer d w p ts e = found_names d writer p (token_at (word w) p ∷ ts) ts (λ ns m x. (ts, token_of (codes "writer") w p ts e, x))
  by_plain memory.Readwriter d w p ts e = found_names d readwriter p (token_at (word w) p ∷ ts) ts (λ ns m x. (ts, token_of (codes "readwriter") w p ts e, x))
  by_plain memory.Name d w p ts e = tt
  by_plain memory.DataType d w p ts e = absurd e
  by_plain memory.ReadLatency d w p ts e = absurd e
  by_plain memory.WriteLatency d w p ts e = absurd e
  by_plain memory.ReadUnderWrite d w p ts e = absurd e

  by_dash : (f : FieldWord) (d : ℕ) (w : List ℕ) (p : Place) (ts : List Terminal) → IsDashField w f → Extends limits (IsMemoryPart limits d) (token_at (dash_word w) p) ts (by_field_word f d p)
  by_dash memory.DataType d w p ts e = found_data_type d p (token_at (dash_word w) p ∷ ts) ts (dash_token_of (codes "data-type") w p ts e)
  by_dash memory.ReadLatency d w p ts e = found_number d read_latency p (token_at (dash_word w) p ∷ ts) ts (λ n m x. (ts, dash_token_of (codes "read-latency") w p ts e, x))
  by_dash memory.WriteLatency d w p ts e = found_number d write_latency p (token_at (dash_word w) p ∷ ts) ts (λ n m x. (ts, dash_token_of (codes "write-latency") w p ts e, x))
  by_dash memory.ReadUnderWrite d w p ts e = found_rule d p (token_at (dash_word w) p ∷ ts) ts (dash_token_of (codes "read-under-write") w p ts e)
  by_dash memory.Name d w p ts e = tt
  by_dash memory.Depth d w p ts e = absurd e
  by_dash memory.Reader d w p ts e = absurd e
  by_dash memory.Writer d w p ts e = absurd e
  by_dash memory.Readwriter d w p ts e = absurd e

  pub extends_memory_field : (d : ℕ) (l : Lexeme) (p : Place) (ts : List Terminal) → Extends limits (IsMemoryPart limits d) (token_at l p) ts (memory_field_step d l p)
  extends_memory_field d (word w) p ts = by_plain (plain_field_word w) d w p ts (plain_field w)
  extends_memory_field d (dash_word w) p ts = by_dash (dash_field_word w) d w p ts (dash_field w)
  extends_memory_field d _ p ts = tt

  -- fields
  found_level : (d : ℕ) (p : Place) (ts : List Terminal) (k : List MemoryPart → State) (c : CircuitTree) → Derives limits (wants (a_memory_field d) (λ f. wants (more_memory_fields d) (λ fs. k (f ∷ fs)))) c ts → Found limits (IsMemoryBody limits d) k c (token_at level_opens p ∷ ts)
  found_level d p ts k c (f, m1, x, (fs, rest, (m2, y, l), more)) = (f ∷ fs, rest, (ts, (p, refl), (m1, x, (m2, y, l))), more)

  pub extends_memory_body : (d : ℕ) (l : Lexeme) (p : Place) (ts : List Terminal) → Extends limits (IsMemoryBody limits d) (token_at l p) ts (memory_body_step d l)
  extends_memory_body d level_opens p ts = found_level d p ts
  extends_memory_body d _ p ts = refl

  found_field : (d : ℕ) (u : Terminal) (ts : List Terminal) (k : List MemoryPart → State) (c : CircuitTree) → Found limits (IsMemoryPart limits d) (λ f. wants (more_memory_fields d) (λ fs. k (f ∷ fs))) c (u ∷ ts) → Found limits (Is limits (more_memory_fields d)) k c (u ∷ ts)
  found_field d u ts k c (f, m1, x, (fs, rest, (m2, y, l), more)) = (f ∷ fs, rest, (m2, (m1, x, y), l), more)

  extends_then : (d : ℕ) (u : Terminal) (ts : List Terminal) (v : Step MemoryPart) → Extends limits (IsMemoryPart limits d) u ts v → Extends limits (Is limits (more_memory_fields d)) u ts (then_fields d v)
  extends_then d u ts (takes g) h = λ k c x. found_field d u ts k c (h (λ f. wants (more_memory_fields d) (λ fs. k (f ∷ fs))) c x)
  extends_then d u ts (without f) h = tt
  extends_then d u ts refuses h = tt
  extends_then d u ts (unsupported p w) h = tt

  extends_next : (d : ℕ) (l : Lexeme) (p : Place) (ts : List Terminal) → Extends limits (Is limits (more_memory_fields d)) (token_at l p) ts (then_fields d (memory_field_step d l p))
  extends_next d l p ts = extends_then d (token_at l p) ts (memory_field_step d l p) (extends_memory_field d l p ts)

  found_last : (d : ℕ) (p : Place) (ts : List Terminal) (k : List MemoryPart → State) (c : CircuitTree) → Derives limits (k []) c ts → Found limits (Is limits (more_memory_fields d)) k c (token_at level_closes p ∷ ts)
  found_last d p ts k c more = ([], ts, (token_at level_closes p ∷ ts, refl, (p, refl)), more)

  pub extends_more_memory_fields : (d : ℕ) (l : Lexeme) (p : Place) (ts : List Terminal) → Extends limits (Is limits (more_memory_fields d)) (token_at l p) ts (more_memory_fields_step d l p)
  extends_more_memory_fields d level_closes p ts = found_last d p ts
  extends_more_memory_fields d l p ts = extends_next d l p ts

  found_last_name : (p : Place) (ts : List Terminal) (k : List PlacedName → State) (c : CircuitTree) → Derives limits (k []) c ts → Found limits (Is limits more_names) k c (token_at line_end p ∷ ts)
  found_last_name p ts k c more = ([], ts, (token_at line_end p ∷ ts, refl, (p, refl)), more)

  found_name : (w : List ℕ) (p : Place) (ts : List Terminal) (k : List PlacedName → State) (c : CircuitTree) → Derives limits (wants more_names (λ ns. k (record { place = p; name = w } ∷ ns))) c ts → Found limits (Is limits more_names) k c (token_at (word w) p ∷ ts)
  found_name w p ts k c (ns, rest, (m, x, l), more) = (record { place = p; name = w } ∷ ns, rest, (m, (ts, refl, x), l), more)

  pub extends_more_names : (l : Lexeme) (p : Place) (ts : List Terminal) → Extends limits (Is limits more_names) (token_at l p) ts (more_names_step l p)
  extends_more_names line_end p ts = found_last_name p ts
  extends_more_names (word w) p ts = found_name w p ts
  extends_more_names _ p ts = tt

  by_rule : (u : Option ReadUnderWrite) (w : List ℕ) (p : Place) (ts : List Terminal) → IfSome u (λ v. w ≡ under_write_word v) → Extends limits (λ v. WordToken (under_write_word v)) (token_at (word w) p) ts (under_write u)
  by_rule (Some u) w p ts e = λ k c more. (u, ts, (p, token_of (under_write_word u) w p ts e), more)
  by_rule None w p ts e = tt

  pub extends_under_write : (l : Lexeme) (p : Place) (ts : List Terminal) → Extends limits (λ v. WordToken (under_write_word v)) (token_at l p) ts (under_write_step l)
  extends_under_write (word w) p ts = by_rule (under_write_of w) w p ts (under_write_found w)
  extends_under_write _ p ts = tt

  -- resets
  found_pair : (d : ℕ) (w : Place) (ts : List Terminal) (k : Reset → State) (c : CircuitTree) → Derives limits (reset_rest d w k) c ts
      → Found limits (λ r a z. (w ≡ r.place) × IsResetPair limits d r a z) k c ts
  found_pair d at ts k c (p, m1, w, (q, m2, s, (r, m3, o, (lt, (x, m4, y, (t, m5, u, (i, m6, z, (v, rest, e, more)))))))) =
      (record { place = at; condition = x; init = i }, rest, (refl, (m1, (p, w), (m2, (q, s), (m3, (r, o), (m3, (within d lt, refl), (m4, y, (m5, (t, u), (m6, z, (v, e))))))))), more)

  found_round : (d : ℕ) (at p : Place) (ts : List Terminal) (k : Reset → State) (c : CircuitTree) → Derives limits (opens d p (reset_rest (d + 1) at (λ r. wants (a_mark CloseRound) (λ q. ends_line r k)))) c ts → Found limits (IsBehindWith limits d at) k c (token_at (mark OpenRound) p ∷ ts)
  found_round d at p ts k c (lt, more) = closed (found_pair (d + 1) at ts (λ r. wants (a_mark CloseRound) (λ q. ends_line r k)) c more)
    where
      closed : Found limits (λ r a z. (at ≡ r.place) × IsResetPair limits (d + 1) r a z) (λ r. wants (a_mark CloseRound) (λ q. ends_line r k)) c ts → Found limits (IsBehindWith limits d at) k c (token_at (mark OpenRound) p ∷ ts)
      closed (r, m1, (same, x), (q, m2, s, (e, rest, l, more2))) = (r, rest, (_, (same, refl), inl (ts, (p, refl), (ts, (within d lt, refl), (m1, x, (m2, (q, s), (e, l)))))), more2)

  found_lines : (d : ℕ) (at p : Place) (ts : List Terminal) (k : Reset → State) (c : CircuitTree) → Derives limits (wants an_opening (λ q. reset_rest d at (λ r. ends_line r (λ s. wants a_closing (λ t. k s))))) c ts → Found limits (IsBehindWith limits d at) k c (token_at line_end p ∷ ts)
  found_lines d at p ts k c (q, m0, o, more) = closed (found_pair d at m0 (λ r. ends_line r (λ s. wants a_closing (λ t. k s))) c more)
    where
      closed : Found limits (λ r a z. (at ≡ r.place) × IsResetPair limits d r a z) (λ r. ends_line r (λ s. wants a_closing (λ t. k s))) c m0 → Found limits (IsBehindWith limits d at) k c (token_at line_end p ∷ ts)
      closed (r, m1, (same, x), (e, m2, l, (t, rest, s, more2))) = (r, rest, (_, (same, refl), inr (ts, (p, refl), (m0, (q, o), (m1, x, (m2, (e, l), (t, s)))))), more2)

  pub extends_with : (d : ℕ) (at : Place) (l : Lexeme) (p : Place) (ts : List Terminal) → Extends limits (IsBehindWith limits d at) (token_at l p) ts (with_step d at l p)
  extends_with d at (mark OpenRound) p ts = found_round d at p ts
  extends_with d at line_end p ts = found_lines d at p ts
  extends_with d at _ p ts = tt

  found_no_reset : (d : ℕ) (p : Place) (ts : List Terminal) (k : Option Reset → State) (c : CircuitTree) → Derives limits (k None) c ts → Found limits (IsRegisterReset limits d) k c (token_at line_end p ∷ ts)
  found_no_reset d p ts k c more = (None, ts, (p, refl), more)

  found_reset : (d : ℕ) (w : List ℕ) (p : Place) (ts : List Terminal) → w ≡ codes "with" → (k : Option Reset → State) (c : CircuitTree) → Derives limits (wants (a_mark Colon) (λ q. wants (behind_with d p) (λ r. k (Some r)))) c ts → Found limits (IsRegisterReset limits d) k c (token_at (word w) p ∷ ts)
  found_reset d w p ts e k c (q, m1, s, (r, rest, (m2, (same, here), x), more)) =
      let P : Place → Type 0 = λ at. token_at (word w) p ∷ ts ≡ token_at (word (codes "with")) at ∷ ts in
      let Q : List Terminal → Type 0 = λ y.
      Either (Sign OpenRound ▸ Within limits nesting (d < 256) ▸ IsResetPair limits (d + 1) r ▸ Sign CloseRound ▸ LineEnd) (LineEnd ▸ Opens ▸ IsResetPair limits d r ▸ LineEnd ▸ Closes) y rest in
      (Some r, rest, (ts, subst P same (token_of (codes "with") w p ts e), (m1, (q, s), subst Q (sym here) x)), more)

  pub extends_reset : (d : ℕ) (l : Lexeme) (p : Place) (ts : List Terminal) → Extends limits (IsRegisterReset limits d) (token_at l p) ts (reset_step d l p)
  extends_reset d line_end p ts = found_no_reset d p ts
  extends_reset d (word w) p ts = by_word (Extends limits (IsRegisterReset limits d) (token_at (word w) p) ts) w (codes "with") _ _ (found_reset d w p ts) tt
  extends_reset d _ p ts = tt
