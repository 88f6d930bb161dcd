-- At every token, what a state derives behind it is derived with it.
use Rattle.std.proofs.Common.{◌≡◌, ℕ, Bool, true, false, not, List, ◌∷◌, refl, ap, inl, inr}
use Rattle.std.specs.Str.{bytes_eq}
use Rattle.std.proofs.lemmas.Slice.Eq.{bytes_eq-Decides}
use Rattle.fir_ast.specs.declared.place.Place.{Place}
use Rattle.fir_ast.specs.Statements.{PlacedName}
use Rattle.fir_ast.specs.Circuits.{CircuitTree}
use Rattle.fir_parse.specs.declared.lexeme.Mark.{Mark}
use Rattle.fir_parse.specs.declared.lexeme.Mark.TheVariants.{Connect, PartialConnect, Arrow, Equals, Less, Greater, OpenRound, CloseRound, OpenSquare, CloseSquare, OpenCurly, CloseCurly, Comma, Colon, Dot}
use Rattle.fir_parse.specs.Lexemes.{Lexeme, word, integer, mark, line_end, level_opens, level_closes, Terminal}
use Rattle.fir_parse.specs.working.Marks.{same_mark}
use Rattle.fir_base.specs.Digits.{decimal_value}
use Rattle.fir_parse.specs.Numbers.{has_sign, is_in_range}
use Rattle.fir_parse.specs.working.Symbols.{Sym, Natural, a_mark, a_word, a_name, a_field_name, a_natural, a_line_end, an_opening, a_closing, a_type, a_width, dimensions, fields, more_fields, a_field, behind_flip, an_expression, behind_word, parts, an_index, a_literal, statements, behind_first, behind_is, behind_else, behind_sink, an_indented_block, a_reset, behind_with, a_memory_body, a_memory_field, more_memory_fields, more_names, an_under_write, a_text, some_annotations, first_module, more_modules, a_body, ports_and_statements, behind_direction, behind_port_is}
use Rattle.fir_parse.specs.working.States.{State, limit, number_at}
use Rattle.fir_parse.specs.working.Reading.{one, step, mark_step, word_step, name_step, field_name_step, natural_step, line_end_step, opening_step, closing_step}
use Rattle.fir_parse.proofs.FormsFound.{token_at, Is, Derives, Found, Extends}
use Rattle.fir_parse.proofs.FormsFoundTypes.{token_of, extends_type, extends_width, extends_dimensions, extends_fields, extends_more_fields, extends_field, extends_flip, extends_placed_type}
use Rattle.fir_parse.proofs.FormsFoundReferences.{in_bounds, extends_parts, extends_literal}
use Rattle.fir_parse.proofs.FormsFoundExpressions.{extends_expression, extends_behind_word, extends_index}
use Rattle.fir_parse.proofs.FormsFoundMemories.{extends_memory_body, extends_memory_field, extends_more_memory_fields, extends_more_names, extends_under_write, extends_reset, extends_with}
use Rattle.fir_parse.proofs.FormsFoundRefs.{extends_sink}
use Rattle.fir_parse.proofs.FormsFoundDeclarations.{extends_first, extends_is}
use Rattle.fir_parse.proofs.FormsFoundStatements.{extends_statements, extends_else, extends_block}
use Rattle.fir_parse.proofs.FormsFoundCircuits.{extends_text, extends_annotations, extends_first_module, extends_more_modules, extends_body, extends_ports, extends_direction, extends_port_is}
use Rattle.fir_parse.specs.working.TypeRules.{type_step}
use Rattle.std.proofs.lemmas.Bool.{cond_both}
use Rattle.fir_parse.specs.Limits.{Limits}

module _ (limits : Limits) where
  same_marks : (m n : Mark) → same_mark m n ≡ true → n ≡ m
  same_marks Connect Connect h = refl
  same_marks PartialConnect PartialConnect h = refl
  same_marks Arrow Arrow h = refl
  same_marks Equals Equals h = refl
  same_marks Less Less h = refl
  same_marks Greater Greater h = refl
  same_marks OpenRound OpenRound h = refl
  same_marks CloseRound CloseRound h = refl
  same_marks OpenSquare OpenSquare h = refl
  same_marks CloseSquare CloseSquare h = refl
  same_marks OpenCurly OpenCurly h = refl
  same_marks CloseCurly CloseCurly h = refl
  same_marks Comma Comma h = refl
  same_marks Colon Colon h = refl
  same_marks Dot Dot h = refl
  same_marks _ _ h = absurd (cc)

  -- one token
  extends_one : {T : Type 0} (P : T → List Terminal → List Terminal → Type 0) (t : Terminal) (ts : List Terminal) (b : Bool) (x : T) → (b ≡ true → P x (t ∷ ts) ts) → Extends limits P t ts (one b x)
  extends_one P t ts true x h = λ k c more. (x, ts, h refl, more)
  extends_one P t ts false x h = tt

  extends_mark : (m : Mark) (l : Lexeme) (p : Place) (ts : List Terminal) → Extends limits (Is limits (a_mark m)) (token_at l p) ts (mark_step m l p)
  extends_mark m (mark n) p ts = extends_one (Is limits (a_mark m)) (token_at (mark n) p) ts (same_mark m n) p (λ h. ap (λ x. token_at (mark x) p ∷ ts) (same_marks m n h))
  extends_mark m _ p ts = tt

  extends_word : (w : List ℕ) (l : Lexeme) (p : Place) (ts : List Terminal) → Extends limits (Is limits (a_word w)) (token_at l p) ts (word_step w l p)
  extends_word w (word x) p ts = extends_one (Is limits (a_word w)) (token_at (word x) p) ts (bytes_eq x w) p (λ h. token_of w x p ts ((bytes_eq-Decides x w).0 h))
  extends_word w _ p ts = tt

  extends_name : (l : Lexeme) (p : Place) (ts : List Terminal) → Extends limits (Is limits a_name) (token_at l p) ts (name_step l p)
  extends_name (word w) p ts = λ k c more. (record { place = p; name = w }, ts, refl, more)
  extends_name _ p ts = tt

  found_digits : (s : List ℕ) (p : Place) (ts : List Terminal) → has_sign s ≡ false → (k : PlacedName → State) (c : CircuitTree) → Derives limits (k (record { place = p; name = s })) c ts → Found limits (Is limits a_field_name) k c (token_at (integer s) p ∷ ts)
  found_digits s p ts h k c more = (record { place = p; name = s }, ts, inr (token_at (integer s) p ∷ ts, (h, refl), refl), more)

  extends_field_name : (l : Lexeme) (p : Place) (ts : List Terminal) → Extends limits (Is limits a_field_name) (token_at l p) ts (field_name_step l p)
  extends_field_name (word w) p ts = λ k c more. (record { place = p; name = w }, ts, inl refl, more)
  extends_field_name (integer s) p ts = cond_both (has_sign s) _ _ (Extends limits (Is limits a_field_name) (token_at (integer s) p) ts) (λ h. tt) (found_digits s p ts)
  extends_field_name _ p ts = tt

  found_natural : (s : List ℕ) (p : Place) (ts : List Terminal) → has_sign s ≡ false → (k : Natural → State) (c : CircuitTree) → Derives limits (limit (not (is_in_range (decimal_value s))) (number_at p) (k (record { place = p; number = decimal_value s }))) c ts → Found limits (Is limits a_natural) k c (token_at (integer s) p ∷ ts)
  found_natural s p ts h k c (r, more) = (record { place = p; number = decimal_value s }, ts, (ts, (s, h, refl, refl), (in_bounds (decimal_value s) r, refl)), more)

  extends_natural : (l : Lexeme) (p : Place) (ts : List Terminal) → Extends limits (Is limits a_natural) (token_at l p) ts (natural_step l p)
  extends_natural (integer s) p ts = cond_both (has_sign s) _ _ (Extends limits (Is limits a_natural) (token_at (integer s) p) ts) (λ h. tt) (found_natural s p ts)
  extends_natural _ p ts = tt

  extends_line_end : (l : Lexeme) (p : Place) (ts : List Terminal) → Extends limits (Is limits a_line_end) (token_at l p) ts (line_end_step l p)
  extends_line_end line_end p ts = λ k c more. (p, ts, refl, more)
  extends_line_end _ p ts = tt

  extends_opening : (l : Lexeme) (p : Place) (ts : List Terminal) → Extends limits (Is limits an_opening) (token_at l p) ts (opening_step l p)
  extends_opening level_opens p ts = λ k c more. (p, ts, refl, more)
  extends_opening _ p ts = tt

  extends_closing : (l : Lexeme) (p : Place) (ts : List Terminal) → Extends limits (Is limits a_closing) (token_at l p) ts (closing_step l p)
  extends_closing level_closes p ts = λ k c more. (p, ts, refl, more)
  extends_closing _ p ts = tt

  pub extends : (s : Sym) (l : Lexeme) (p : Place) (ts : List Terminal) → Extends limits (Is limits s) (token_at l p) ts (step s l p)
  extends (a_mark m) l p ts = extends_mark m l p ts
  extends (a_word w) l p ts = extends_word w l p ts
  extends a_name l p ts = extends_name l p ts
  extends a_field_name l p ts = extends_field_name l p ts
  extends a_natural l p ts = extends_natural l p ts
  extends a_line_end l p ts = extends_line_end l p ts
  extends an_opening l p ts = extends_opening l p ts
  extends a_closing l p ts = extends_closing l p ts
  extends (a_type d) l p ts = extends_placed_type limits d l p ts (type_step d l p) (extends_type limits d l p ts)
  extends a_width l p ts = extends_width limits l p ts
  extends (dimensions d t) l p ts = extends_dimensions limits d t l p ts
  extends (fields d) l p ts = extends_fields limits d l p ts
  extends (more_fields d) l p ts = extends_more_fields limits d l p ts
  extends (a_field d) l p ts = extends_field limits d l p ts
  extends (behind_flip d q) l p ts = extends_flip limits d q l p ts
  extends (an_expression d) l p ts = extends_expression limits d l p ts
  extends (behind_word d q w) l p ts = extends_behind_word limits d q w l p ts
  extends (parts d h) l p ts = extends_parts limits d h l p ts
  extends (an_index d) l p ts = extends_index limits d l p ts
  extends (a_literal q signed width) l p ts = extends_literal limits q signed width l p ts
  extends (statements d ws) l p ts = extends_statements limits d ws l p ts
  extends (behind_first d q w) l p ts = extends_first limits d q w l p ts
  extends (behind_is d q w r) l p ts = extends_is limits d q w r l p ts
  extends (behind_else d n q) l p ts = extends_else limits d n q l p ts
  extends (behind_sink d s) l p ts = extends_sink limits d s l p ts
  extends (an_indented_block d) l p ts = extends_block limits d l p ts
  extends (a_reset d) l p ts = extends_reset limits d l p ts
  extends (behind_with d q) l p ts = extends_with limits d q l p ts
  extends (a_memory_body d) l p ts = extends_memory_body limits d l p ts
  extends (a_memory_field d) l p ts = extends_memory_field limits d l p ts
  extends (more_memory_fields d) l p ts = extends_more_memory_fields limits d l p ts
  extends more_names l p ts = extends_more_names limits l p ts
  extends an_under_write l p ts = extends_under_write limits l p ts
  extends a_text l p ts = extends_text limits l p ts
  extends some_annotations l p ts = extends_annotations limits l p ts
  extends first_module l p ts = extends_first_module limits l p ts
  extends more_modules l p ts = extends_more_modules limits l p ts
  extends a_body l p ts = extends_body limits l p ts
  extends ports_and_statements l p ts = extends_ports limits l p ts
  extends (behind_direction r q w) l p ts = extends_direction limits r q w l p ts
  extends (behind_port_is r q w s) l p ts = extends_port_is limits r q w s l p ts
