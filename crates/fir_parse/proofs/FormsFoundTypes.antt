-- Tokens that are read as a type spell it.
use Rattle.std.proofs.Common.{◌≡◌, ℕ, ◌+◌, true, false, List, ◌∷◌, Option, Some, codes, refl, sym, ap, inl, inr, subst}
use Rattle.fir_ast.specs.declared.place.Place.{Place}
use Rattle.fir_ast.specs.Types.{DataType, uint, sint, clock, reset, async_reset, bundle, vector, Fields, no_fields, field}
use Rattle.fir_ast.specs.Circuits.{CircuitTree}
use Rattle.fir_parse.specs.declared.lexeme.Mark.TheVariants.{Less, Greater, OpenSquare, CloseSquare, OpenCurly, CloseCurly, Comma, Colon}
use Rattle.fir_parse.specs.declared.words.TypeWord.{TypeWord}
use Rattle.fir_parse.specs.declared.words.TypeWord.TheVariants as types
use Rattle.fir_parse.specs.Lexemes.{Lexeme, Terminal, word, mark, integer}
use Rattle.fir_parse.specs.working.Words.{type_word_of}
use Rattle.fir_parse.specs.Numbers.{has_sign}
use Rattle.fir_parse.specs.Heights.{type_height}
use Rattle.fir_parse.specs.TypeForms.{IsWidth, IsType, AreFields, AreMoreFields}
use Rattle.fir_parse.specs.working.Symbols.{FieldTree, FieldsTree, a_mark, a_natural, a_type, a_width, dimensions, fields, more_fields, a_field, behind_flip}
use Rattle.fir_parse.specs.working.States.{State, wants, Step, takes, without, refuses, unsupported, opens, ends_form, mapped}
use Rattle.fir_parse.specs.working.TypeRules.{by_type_word, type_step, width_step, dimensions_step, with_field, then_more, field_rest, field_step, flip_step, fields_step, more_fields_step, type_at}
use Rattle.fir_parse.proofs.FormsFound.{token_at, IsField, Is, Derives, Found, Extends, by_word, within, no_taller}
use Rattle.fir_parse.proofs.FormsFoundWords.{IsTypeWord, type_word}
use Rattle.std.proofs.lemmas.Bool.{cond_both}
use Rattle.fir_parse.specs.Limits.{Limits}

pub token_of : (v w : List ℕ) (p : Place) (ts : List Terminal) → w ≡ v → token_at (word w) p ∷ ts ≡ token_at (word v) p ∷ ts
token_of v w p ts e = ap (λ x. token_at (word x) p ∷ ts) e

module _ (limits : Limits) where
  -- a type behind which dimensions follow
  found_ground : (d : ℕ) (t : DataType) (a ts : List Terminal) → IsType limits d t a ts → (k : DataType → State) (c : CircuitTree) → Derives limits (wants (dimensions d t) k) c ts → Found limits (IsType limits d) k c a
  found_ground d t a ts h k c (x, rest, dims, more) = (x, rest, dims a h, more)

  found_sized : (d : ℕ) (make : Option ℕ → DataType) (a ts : List Terminal) → ((w : Option ℕ) (m : List Terminal) → IsWidth limits w ts m → IsType limits d (make w) a m) → (k : DataType → State) (c : CircuitTree) → Derives limits (wants a_width (λ n. wants (dimensions d (make n)) k)) c ts → Found limits (IsType limits d) k c a
  found_sized d make a ts h k c (n, m, width, (x, rest, dims, more)) = (x, rest, dims a (h n m width), more)

  found_bundle : (d : ℕ) (p : Place) (ts : List Terminal) (k : DataType → State) (c : CircuitTree) → Derives limits (opens d p (wants (fields (d + 1)) (λ fs. ends_form (type_height (bundle fs.fields)) fs.close (wants (dimensions d (bundle fs.fields)) k)))) c ts → Found limits (IsType limits d) k c (token_at (mark OpenCurly) p ∷ ts)
  found_bundle d p ts k c (lt, (fs, r, (m, y, e), (le, (x, rest, dims, more)))) =
      (x, rest, dims (token_at (mark OpenCurly) p ∷ ts) (ts, (p, refl), (ts, (within d lt, refl), (m, y, (r, (fs.close, e), (no_taller (type_height (bundle fs.fields)) le, refl))))), more)

  by_type : (v : TypeWord) (d : ℕ) (p : Place) (w : List ℕ) (ts : List Terminal) → IsTypeWord w v → Extends limits (IsType limits d) (token_at (word w) p) ts (by_type_word v d p w)
  by_type types.UInt d p w ts e = found_sized d uint (token_at (word w) p ∷ ts) ts (λ n m width. (ts, (p, token_of (codes "UInt") w p ts e), width))
  by_type types.SInt d p w ts e = found_sized d sint (token_at (word w) p ∷ ts) ts (λ n m width. (ts, (p, token_of (codes "SInt") w p ts e), width))
  by_type types.Clock d p w ts e = found_ground d clock (token_at (word w) p ∷ ts) ts (p, token_of (codes "Clock") w p ts e)
  by_type types.Reset d p w ts e = found_ground d reset (token_at (word w) p ∷ ts) ts (p, token_of (codes "Reset") w p ts e)
  by_type types.AsyncReset d p w ts e = found_ground d async_reset (token_at (word w) p ∷ ts) ts (p, token_of (codes "AsyncReset") w p ts e)
  by_type types.Missing d p w ts e = tt
  by_type types.Name d p w ts e = tt

  pub extends_type : (d : ℕ) (l : Lexeme) (p : Place) (ts : List Terminal) → Extends limits (IsType limits d) (token_at l p) ts (type_step d l p)
  extends_type d (word w) p ts = by_type (type_word_of w) d p w ts (type_word w)
  extends_type d (mark OpenCurly) p ts = found_bundle d p ts
  extends_type d _ p ts = tt

  -- with the place of its first token
  pub extends_placed_type : (d : ℕ) (l : Lexeme) (p : Place) (ts : List Terminal) (u : Step DataType) → Extends limits (IsType limits d) (token_at l p) ts u
      → Extends limits (Is limits (a_type d)) (token_at l p) ts (mapped (type_at p) u)
  extends_placed_type d l p ts (takes g) h = λ k c x. let found = h (λ t. k (type_at p t)) c x in (type_at p found.0, found.1, (token_at l p ∷ ts, (refl, refl), found.2), found.3)
  extends_placed_type d l p ts (without t) h = (token_at l p ∷ ts, (refl, refl), h)
  extends_placed_type d l p ts refuses h = tt
  extends_placed_type d l p ts (unsupported q w) h = tt

  found_width : (p : Place) (ts : List Terminal) (k : Option ℕ → State) (c : CircuitTree) → Derives limits (wants a_natural (λ n. wants (a_mark Greater) (λ q. k (Some n.number)))) c ts → Found limits (IsWidth limits) k c (token_at (mark Less) p ∷ ts)
  found_width p ts k c (n, m, i, (q, r, s, more)) = (Some n.number, r, (ts, (p, refl), (m, (n.place, i), (q, s))), more)

  pub extends_width : (l : Lexeme) (p : Place) (ts : List Terminal) → Extends limits (IsWidth limits) (token_at l p) ts (width_step l)
  extends_width (mark Less) p ts = found_width p ts
  extends_width _ p ts = refl

  found_dimension : (d : ℕ) (t : DataType) (p : Place) (ts : List Terminal) (k : DataType → State) (c : CircuitTree) → Derives limits (opens d p (wants a_natural (λ n. wants (a_mark CloseSquare) (λ q. ends_form (type_height (vector t n.number)) q (wants (dimensions d (vector t n.number)) k))))) c ts → Found limits (Is limits (dimensions d t)) k c (token_at (mark OpenSquare) p ∷ ts)
  found_dimension d t p ts k c (lt, (n, m, i, (q, r, s, (le, (x, rest, dims, more))))) =
      (x, rest, (λ before y. dims before (token_at (mark OpenSquare) p ∷ ts, y, (ts, (p, refl), (ts, (within d lt, refl), (m, (n.place, i), (r, (q, s), (no_taller (type_height (vector t n.number)) le, refl))))))), more)

  pub extends_dimensions : (d : ℕ) (t : DataType) (l : Lexeme) (p : Place) (ts : List Terminal) → Extends limits (Is limits (dimensions d t)) (token_at l p) ts (dimensions_step d t l p)
  extends_dimensions d t (mark OpenSquare) p ts = found_dimension d t p ts
  extends_dimensions d t _ p ts = λ before y. y

  -- fields
  fields_with : (d : ℕ) (f : FieldTree) (fs : Fields) (a m b : List Terminal) → IsField limits d f a m → AreMoreFields limits d fs m b → AreFields limits d (field f.place f.flip f.name f.type_place f.data_type fs) a b
  fields_with d f fs a m b (m1, x, (m2, y, (m3, z, t))) more = (m1, x, (m2, y, (m3, z, (m, t, more))))

  found_first_field : (d : ℕ) (u : Terminal) (ts : List Terminal) (k : FieldsTree → State) (c : CircuitTree) → Found limits (IsField limits d) (λ f. wants (more_fields d) (λ fs. k (with_field f fs))) c (u ∷ ts) → Found limits (Is limits (fields d)) k c (u ∷ ts)
  found_first_field d u ts k c (f, m, x, (fs, rest, (n, y, e), more)) = (with_field f fs, rest, (n, fields_with d f fs.fields (u ∷ ts) m n x y, e), more)

  extends_then : (d : ℕ) (u : Terminal) (ts : List Terminal) (v : Step FieldTree) → Extends limits (IsField limits d) u ts v → Extends limits (Is limits (fields d)) u ts (then_more d v)
  extends_then d u ts (takes g) h = λ k c x. found_first_field d u ts k c (h (λ f. wants (more_fields d) (λ fs. k (with_field f fs))) c x)
  extends_then d u ts (without f) h = tt
  extends_then d u ts refuses h = tt
  extends_then d u ts (unsupported p w) h = tt

  found_end : (d : ℕ) (p : Place) (ts : List Terminal) (k : FieldsTree → State) (c : CircuitTree) → Derives limits (k (record { fields = no_fields; close = p })) c ts → Found limits (Is limits (fields d)) k c (token_at (mark CloseCurly) p ∷ ts)
  found_end d p ts k c more = (record { fields = no_fields; close = p }, ts, (token_at (mark CloseCurly) p ∷ ts, refl, refl), more)

  found_more_end : (d : ℕ) (p : Place) (ts : List Terminal) (k : FieldsTree → State) (c : CircuitTree) → Derives limits (k (record { fields = no_fields; close = p })) c ts → Found limits (Is limits (more_fields d)) k c (token_at (mark CloseCurly) p ∷ ts)
  found_more_end d p ts k c more = (record { fields = no_fields; close = p }, ts, (token_at (mark CloseCurly) p ∷ ts, refl, refl), more)

  more_with : (d : ℕ) (f : FieldTree) (fs : Fields) (p : Place) (a m b : List Terminal) → IsField limits d f a m → AreMoreFields limits d fs m b → AreMoreFields limits d (field f.place f.flip f.name f.type_place f.data_type fs) (token_at (mark Comma) p ∷ a) b
  more_with d f fs p a m b (m1, x, (m2, y, (m3, z, t))) more = (a, (p, refl), (m1, x, (m2, y, (m3, z, (m, t, more)))))

  found_more : (d : ℕ) (p : Place) (ts : List Terminal) (k : FieldsTree → State) (c : CircuitTree) → Derives limits (wants (a_field d) (λ f. wants (more_fields d) (λ fs. k (with_field f fs)))) c ts → Found limits (Is limits (more_fields d)) k c (token_at (mark Comma) p ∷ ts)
  found_more d p ts k c (f, m, x, (fs, rest, (n, y, e), more)) = (with_field f fs, rest, (n, more_with d f fs.fields p ts m n x y, e), more)

  -- one field
  found_named : (d : ℕ) (p : Place) (w : List ℕ) (ts : List Terminal) (k : FieldTree → State) (c : CircuitTree) → Derives limits (field_rest d p false w k) c ts → Found limits (IsField limits d) k c (token_at (word w) p ∷ ts)
  found_named d p w ts k c (q, m, s, (t, rest, y, more)) = (record { place = p; flip = false; name = w; type_place = t.place; data_type = t.data_type }, rest, (token_at (word w) p ∷ ts, refl, (ts, inl refl, (m, (q, s), y))), more)

  found_numbered : (d : ℕ) (p : Place) (w : List ℕ) (ts : List Terminal) → has_sign w ≡ false → (k : FieldTree → State) (c : CircuitTree) → Derives limits (field_rest d p false w k) c ts → Found limits (IsField limits d) k c (token_at (integer w) p ∷ ts)
  found_numbered d p w ts u k c (q, m, s, (t, rest, y, more)) =
      (record { place = p; flip = false; name = w; type_place = t.place; data_type = t.data_type }, rest, (token_at (integer w) p ∷ ts, refl, (ts, inr (token_at (integer w) p ∷ ts, (u, refl), refl), (m, (q, s), y))), more)

  found_flip : (d : ℕ) (p : Place) (w : List ℕ) (ts : List Terminal) → w ≡ codes "flip" → (k : FieldTree → State) (c : CircuitTree) → Derives limits (wants (behind_flip d p) k) c ts → Found limits (IsField limits d) k c (token_at (word w) p ∷ ts)
  found_flip d p w ts e k c (f, rest, x, more) = let P : List ℕ → Type 0 = λ v. IsField limits d f (token_at (word v) p ∷ ts) rest in (f, rest, subst P (sym e) x, more)

  pub extends_field : (d : ℕ) (l : Lexeme) (p : Place) (ts : List Terminal) → Extends limits (IsField limits d) (token_at l p) ts (field_step d l p)
  extends_field d (word w) p ts = by_word (Extends limits (IsField limits d) (token_at (word w) p) ts) w (codes "flip") _ _ (found_flip d p w ts) (found_named d p w ts)
  extends_field d (integer s) p ts = cond_both (has_sign s) _ _ (Extends limits (IsField limits d) (token_at (integer s) p) ts) (λ h. tt) (found_numbered d p s ts)
  extends_field d _ p ts = tt

  -- behind the word `flip`
  found_named_flip : (d : ℕ) (p q : Place) (ts : List Terminal) (k : FieldTree → State) (c : CircuitTree) → Derives limits (wants (a_type d) (λ t. k (record { place = p; flip = false; name = codes "flip"; type_place = t.place; data_type = t.data_type }))) c ts → Found limits (Is limits (behind_flip d p)) k c (token_at (mark Colon) q ∷ ts)
  found_named_flip d p q ts k c (t, rest, y, more) =
      (record { place = p; flip = false; name = codes "flip"; type_place = t.place; data_type = t.data_type }, rest, (token_at (word (codes "flip")) p ∷ token_at (mark Colon) q ∷ ts, refl, (token_at (mark Colon) q ∷ ts, inl refl, (ts, (q, refl), y))), more)

  found_flipped : (d : ℕ) (p q : Place) (w : List ℕ) (ts : List Terminal) (k : FieldTree → State) (c : CircuitTree) → Derives limits (field_rest d q true w k) c ts → Found limits (Is limits (behind_flip d p)) k c (token_at (word w) q ∷ ts)
  found_flipped d p q w ts k c (r, m, s, (t, rest, y, more)) = (record { place = q; flip = true; name = w; type_place = t.place; data_type = t.data_type }, rest, (token_at (word w) q ∷ ts, (p, refl), (ts, inl refl, (m, (r, s), y))), more)

  found_flipped_number : (d : ℕ) (p q : Place) (w : List ℕ) (ts : List Terminal) → has_sign w ≡ false → (k : FieldTree → State) (c : CircuitTree) → Derives limits (field_rest d q true w k) c ts → Found limits (Is limits (behind_flip d p)) k c (token_at (integer w) q ∷ ts)
  found_flipped_number d p q w ts u k c (r, m, s, (t, rest, y, more)) =
      (record { place = q; flip = true; name = w; type_place = t.place; data_type = t.data_type }, rest, (token_at (integer w) q ∷ ts, (p, refl), (ts, inr (token_at (integer w) q ∷ ts, (u, refl), refl), (m, (r, s), y))), more)

  pub extends_flip : (d : ℕ) (p : Place) (l : Lexeme) (q : Place) (ts : List Terminal) → Extends limits (Is limits (behind_flip d p)) (token_at l q) ts (flip_step d p l q)
  extends_flip d p (mark Colon) q ts = found_named_flip d p q ts
  extends_flip d p (word w) q ts = found_flipped d p q w ts
  extends_flip d p (integer s) q ts = cond_both (has_sign s) _ _ (Extends limits (Is limits (behind_flip d p)) (token_at (integer s) q) ts) (λ h. tt) (found_flipped_number d p q s ts)
  extends_flip d p _ q ts = tt

  extends_first : (d : ℕ) (l : Lexeme) (p : Place) (ts : List Terminal) → Extends limits (Is limits (fields d)) (token_at l p) ts (then_more d (field_step d l p))
  extends_first d l p ts = extends_then d (token_at l p) ts (field_step d l p) (extends_field d l p ts)

  pub extends_fields : (d : ℕ) (l : Lexeme) (p : Place) (ts : List Terminal) → Extends limits (Is limits (fields d)) (token_at l p) ts (fields_step d l p)
  extends_fields d (mark CloseCurly) p ts = found_end d p ts
  extends_fields d l p ts = extends_first d l p ts

  pub extends_more_fields : (d : ℕ) (l : Lexeme) (p : Place) (ts : List Terminal) → Extends limits (Is limits (more_fields d)) (token_at l p) ts (more_fields_step d l p)
  extends_more_fields d (mark CloseCurly) p ts = found_more_end d p ts
  extends_more_fields d (mark Comma) p ts = found_more d p ts
  extends_more_fields d _ p ts = tt
