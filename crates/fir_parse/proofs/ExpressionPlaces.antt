-- The places of a type and of an expression are among those of their tokens.
use Rattle.std.proofs.Common.{◌≡◌, ℕ, ◌+◌, max, List, [], ◌∷◌, Bool, true, false, Option, Some, None, refl, sym, ap, ◌∙◌, subst, inl, inr, append-nil}
use Rattle.fir_ast.specs.declared.place.Place.{Place}
use Rattle.fir_ast.specs.declared.expressions.Literal.{Literal}
use Rattle.fir_ast.specs.Types.{DataType, uint, sint, clock, reset, async_reset, bundle, vector, Fields, no_fields, field}
use Rattle.fir_ast.specs.Expressions.{Expression, reference, literal, operation, mux, validif, Parts, no_parts, subfield, subindex, subaccess, Expressions, no_expressions, expression}
use Rattle.fir_parse.specs.Lexemes.{Terminal, Lexeme}
use Rattle.fir_parse.specs.Numbers.{Numeral}
use Rattle.fir_parse.specs.Heights.{height}
use Rattle.fir_parse.specs.Limits.{everywhere}
use Rattle.fir_parse.specs.Pieces.{◌▸◌, At, IsNextAt, Somewhere}
use Rattle.fir_parse.specs.TypeForms.{IsWidth, IsFlip, IsType, AreFields, AreMoreFields}
use Rattle.fir_parse.specs.ExpressionForms.{IsNumeral, IsNumber, IsLiteral, AreIntegers, IsExpression, AreParts, AreOperands, AreMoreOperands}
use Rattle.fir_parse.specs.working.TreePlaces.{type_places, fields_places, expression_places, parts_places, expressions_places}
use Rattle.fir_parse.specs.working.TokenPlaces.{has_place, token_places}
use Rattle.fir_parse.proofs.PlacePieces.{Between, Has, token, passed, somewhere, same, nothing, given, joined, next, ended, behind, field_name, int_at, int}

-- the same, with the first token apart
pub record HasFirst (P : List Terminal → List Terminal → Type 0) (qs : List Place) : Type 0 where
  pub holds : (a b : List Terminal) → P a b → (u : Terminal) × (us : List Terminal) × (a ≡ u ∷ us) × (has_place u.lexeme ≡ true) × Between qs us b

first_token : {l : Lexeme} {Q : List Terminal → List Terminal → Type 0} {qs : List Place} → has_place l ≡ true → Has Q qs → HasFirst (Somewhere l ▸ Q) qs
first_token {l} h q = record { holds = λ a b x. (record { lexeme = l; place = x.1.0 }, x.0, x.1.1, h, q.holds x.0 b x.2) }

first_alone : {l : Lexeme} → has_place l ≡ true → HasFirst (Somewhere l) []
first_alone {l} h = record { holds = λ a b x. (record { lexeme = l; place = x.0 }, b, x.1, h, same b b refl) }

then_ended : (qs : List Place) (a m b : List Terminal) → ((u : Terminal) × (us : List Terminal) × (a ≡ u ∷ us) × (has_place u.lexeme ≡ true) × Between qs us m) → Between [] m b → (u : Terminal) × (us : List Terminal) × (a ≡ u ∷ us) × (has_place u.lexeme ≡ true) × Between qs us b
then_ended qs a m b (u, us, e, h, x) y = (u, us, e, h, subst (λ vs. Between vs us b) (append-nil qs) (joined qs [] us m b x y))

first_ended : {P Q : List Terminal → List Terminal → Type 0} {qs : List Place} → HasFirst P qs → Has Q [] → HasFirst (P ▸ Q) qs
first_ended {qs = qs} p q = record { holds = λ a b x. then_ended qs a x.0 b (p.holds a x.0 x.1) (q.holds x.0 b x.2) }

with_first : (q : Place) (qs : List Place) (a b : List Terminal) → IsNextAt q a → ((u : Terminal) × (us : List Terminal) × (a ≡ u ∷ us) × (has_place u.lexeme ≡ true) × Between qs us b) → Between (q ∷ qs) a b
with_first q qs a b at (u, us, e, h, (rs, f, k)) =
    let here : u.place ≡ q = subst (IsNextAt q) e at in
    (u.place ∷ rs, ap token_places e ∙ rw h (ap (λ ps. u.place ∷ ps) f), inl (sym here, k))

-- where it stands
pub placed : {P : List Terminal → List Terminal → Type 0} {qs : List Place} (q : Place) → HasFirst P qs → Has (At q ▸ P) (q ∷ qs)
placed {P} {qs} q p = record { holds = λ a b x. with_first q qs a b x.1.0 (p.holds a b (subst (λ m. P m b) (sym x.1.1) x.2)) }

-- ---- types

width : (w : Option ℕ) → Has (IsWidth everywhere w) []
width None = nothing
width (Some n) = behind somewhere (behind (int n) somewhere)

flip : (f : Bool) → Has (IsFlip f) []
flip false = nothing
flip true = somewhere

mutual
  pub type_first : (d : ℕ) (t : DataType) → HasFirst (IsType everywhere d t) (type_places t)
  type_first d (uint w) = first_token refl (width w)
  type_first d (sint w) = first_token refl (width w)
  type_first d clock = first_alone refl
  type_first d reset = first_alone refl
  type_first d async_reset = first_alone refl
  type_first d (bundle fs) = first_token refl (behind given (ended (fields_have (d + 1) fs) (behind somewhere given)))
  type_first d (vector t n) = first_ended (type_first d t) (behind somewhere (behind given (behind (int n) (behind somewhere given))))

  fields_have : (d : ℕ) (fs : Fields) → Has (AreFields everywhere d fs) (fields_places fs)
  fields_have d no_fields = nothing
  fields_have d (field p f n q t rest) = behind (flip f) (next (field_name (record { place = p; name = n })) (behind somewhere (next (placed q (type_first d t)) (more_fields_have d rest))))

  more_fields_have : (d : ℕ) (fs : Fields) → Has (AreMoreFields everywhere d fs) (fields_places fs)
  more_fields_have d no_fields = nothing
  more_fields_have d (field p f n q t rest) =
      behind somewhere (behind (flip f) (next (field_name (record { place = p; name = n })) (behind somewhere (next (placed q (type_first d t)) (more_fields_have d rest)))))

-- ---- expressions

numeral : (n : Option Numeral) → Has (IsNumeral n) []
numeral n = record { holds = λ a b x. elim x [ inl y ↦ (passed).holds a b y.3 | inr y ↦ (passed).holds a b y.3 ] }

number : (l : Literal) → Has (IsNumber everywhere l) []
number l = record { holds = λ a b x. (ended (numeral x.0) given).holds a b x.2 }

literal_has : (d : ℕ) (l : Literal) → Has (IsLiteral everywhere d l) (l.place ∷ [])
literal_has d l = ended (token refl) (behind (width l.width) (behind somewhere (behind given (behind (number l) somewhere))))

integers : (ns : List ℕ) → Has (AreIntegers everywhere ns) []
integers [] = nothing
integers (n ∷ ns) = behind somewhere (behind (int n) (integers ns))

mutual
  pub expression_has : (d : ℕ) (e : Expression) → Has (IsExpression everywhere d e) (expression_places e)
  expression_has d (reference p w ps) = next (token refl) (parts_have d 1 ps)
  expression_has d (literal l) = literal_has d l
  expression_has d (operation p op es ns) =
      next (token refl) (behind somewhere (behind given (ended (operands_have (d + 1) es) (behind (integers ns) (behind given (behind somewhere given))))))
  expression_has d (mux p c a b) =
      next (token refl)
      (behind somewhere (behind given (next (expression_has (d + 1) c) (behind somewhere (next (expression_has (d + 1) a) (behind somewhere (ended (expression_has (d + 1) b) (behind somewhere given))))))))
  expression_has d (validif p c a) =
      next (token refl) (behind somewhere (behind given (next (expression_has (d + 1) c) (behind somewhere (ended (expression_has (d + 1) a) (behind somewhere given))))))

  pub parts_have : (d h : ℕ) (ps : Parts) → Has (AreParts everywhere d h ps) (parts_places ps)
  parts_have d h no_parts = nothing
  parts_have d h (subfield q p n rest) = next (token refl) (next (field_name (record { place = p; name = n })) (behind given (parts_have d (h + 1) rest)))
  parts_have d h (subindex q p n rest) = next (token refl) (behind given (next (int_at n p) (behind somewhere (behind given (parts_have d (h + 1) rest)))))
  parts_have d h (subaccess q e rest) =
      next (token refl) (behind given (next (expression_has (d + 1) e) (behind somewhere (behind given (parts_have d (max h (height e) + 1) rest)))))

  operands_have : (d : ℕ) (es : Expressions) → Has (AreOperands everywhere d es) (expressions_places es)
  operands_have d no_expressions = nothing
  operands_have d (expression e rest) = next (expression_has d e) (more_operands_have d rest)

  more_operands_have : (d : ℕ) (es : Expressions) → Has (AreMoreOperands everywhere d es) (expressions_places es)
  more_operands_have d no_expressions = nothing
  more_operands_have d (expression e rest) = behind somewhere (next (expression_has d e) (more_operands_have d rest))
