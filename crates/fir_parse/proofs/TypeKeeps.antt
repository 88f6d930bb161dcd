-- The steps of types keep the guards.
use Rattle.std.proofs.Common.{◌≡◌, ℕ, Bool, true, false, refl, List, codes, inl}
use Rattle.std.specs.Str.{bytes_eq}
use Rattle.fir_base.specs.Lists.{In}
use Rattle.fir_ast.specs.declared.place.Place.{Place}
use Rattle.fir_ast.specs.Types.{DataType}
use Rattle.fir_parse.specs.declared.lexeme.Mark.TheVariants.{Less, OpenSquare, OpenCurly, CloseCurly, Comma, Colon}
use Rattle.fir_parse.specs.declared.words.TypeWord.{TypeWord}
use Rattle.fir_parse.specs.declared.words.TypeWord.TheVariants as types
use Rattle.fir_parse.specs.Lexemes.{Lexeme, Terminal, word, mark, integer}
use Rattle.fir_parse.specs.MissingForms.{missing_types, word_at}
use Rattle.fir_parse.specs.working.Words.{type_word_of}
use Rattle.fir_parse.specs.Numbers.{has_sign}
use Rattle.fir_parse.specs.working.Symbols.{FieldTree, FieldsTree, behind_flip}
use Rattle.fir_parse.specs.working.States.{Step, wants, takes, without, refuses, unsupported}
use Rattle.fir_parse.specs.working.TypeRules.{by_type_word, type_step, width_step, dimensions_step, then_more, field_behind_name, field_step, flip_step, fields_step, more_fields_step, with_field}
use Rattle.fir_parse.proofs.Guards.{Guard, unlimited, firm, nested, loosened}
use Rattle.fir_parse.proofs.Keeping.{at, Spot, neither, elsewhere, optional, Keeps, always, keeps_if, nested_follows}
use Rattle.fir_parse.proofs.FormsFoundWords.{IsTypeWord, type_word}

-- where a type begins with that token
abbrev pub type_spot : Terminal → Spot
type_spot t = record { kind = neither; may_be_empty = false; misses = λ p w. (t ≡ word_at w p) × In missing_types w }

keeps_by_type_word : (v : TypeWord) (d : ℕ) (p : Place) (w : List ℕ) → IsTypeWord w v → Keeps (always firm) (type_spot (at (word w) p)) (at (word w) p) (by_type_word v d p w)
keeps_by_type_word types.UInt d p w e = λ k after. (λ n. (after, tt), tt)
keeps_by_type_word types.SInt d p w e = λ k after. (λ n. (after, tt), tt)
keeps_by_type_word types.Clock d p w e = λ k after. (after, tt)
keeps_by_type_word types.Reset d p w e = λ k after. (after, tt)
keeps_by_type_word types.AsyncReset d p w e = λ k after. (after, tt)
keeps_by_type_word types.Missing d p w e = (refl, e)
keeps_by_type_word types.Name d p w e = tt

pub keeps_type : (d : ℕ) (l : Lexeme) (p : Place) → Keeps (always firm) (type_spot (at l p)) (at l p) (type_step d l p)
keeps_type d (word w) p = keeps_by_type_word (type_word_of w) d p w (type_word w)
keeps_type d (mark OpenCurly) p = λ k after. (λ fs. (after, (refl, tt)), inl (refl, tt))
keeps_type d _ p = tt

pub keeps_width : (l : Lexeme) (p : Place) → Keeps (always unlimited) optional (at l p) (width_step l)
keeps_width (mark Less) p = λ k after. (λ n. (λ q. loosened q _ (after _), tt), tt)
keeps_width _ p = (tt, refl)

pub keeps_dimensions : (d : ℕ) (t : DataType) (l : Lexeme) (p : Place) → Keeps (always firm) optional (at l p) (dimensions_step d t l p)
keeps_dimensions d t (mark OpenSquare) p = λ k after. (λ n. (λ q. (after, (refl, tt)), tt), inl (refl, tt))
keeps_dimensions d t _ p = (tt, refl)

-- behind the fields of a bundle
abbrev pub behind_fields : FieldsTree → Guard
behind_fields fs = nested fs.close

keeps_then_more : (d : ℕ) (t : Terminal) (u : Step FieldTree) → Keeps (always firm) elsewhere t u → Keeps behind_fields elsewhere t (then_more d u)
keeps_then_more d t (takes g) keep = λ k after. keep _ (λ f. (λ fs. after (with_field f fs), refl))
keeps_then_more d t (without f) keep = tt
keeps_then_more d t refuses keep = tt
keeps_then_more d t (unsupported p w) keep = keep

keeps_behind_name : (t : Terminal) (d : ℕ) (p : Place) (flip : Bool) (w : List ℕ) → Keeps (always firm) elsewhere t (field_behind_name d p flip w)
keeps_behind_name t d p flip w = λ k after. (λ q. (λ x. after _, tt), tt)

pub keeps_field : (d : ℕ) (l : Lexeme) (p : Place) → Keeps (always firm) elsewhere (at l p) (field_step d l p)
keeps_field d (word w) p =
    keeps_if (always firm) elsewhere (at (word w) p) (bytes_eq w (codes "flip")) (takes (λ k. wants (behind_flip d p) k)) (field_behind_name d p false w) (λ k after. (after, tt))
    (keeps_behind_name (at (word w) p) d p false w)
keeps_field d (integer s) p = keeps_if (always firm) elsewhere (at (integer s) p) (has_sign s) refuses (field_behind_name d p false s) tt (keeps_behind_name (at (integer s) p) d p false s)
keeps_field d _ p = tt

pub keeps_flip : (d : ℕ) (p : Place) (l : Lexeme) (q : Place) → Keeps (always firm) elsewhere (at l q) (flip_step d p l q)
keeps_flip d p (mark Colon) q = λ k after. (λ t. after _, tt)
keeps_flip d p (word w) q = keeps_behind_name (at (word w) q) d q true w
keeps_flip d p (integer s) q = keeps_if (always firm) elsewhere (at (integer s) q) (has_sign s) refuses (field_behind_name d q true s) tt (keeps_behind_name (at (integer s) q) d q true s)
keeps_flip d p _ q = tt

keeps_more : (d : ℕ) (l : Lexeme) (p : Place) → Keeps behind_fields elsewhere (at l p) (then_more d (field_step d l p))
keeps_more d l p = keeps_then_more d (at l p) (field_step d l p) (keeps_field d l p)

pub keeps_fields : (d : ℕ) (l : Lexeme) (p : Place) → Keeps behind_fields elsewhere (at l p) (fields_step d l p)
keeps_fields d (mark CloseCurly) p = λ k after. ((after _).0, nested_follows neither (at (mark CloseCurly) p) _ (after _).1)
keeps_fields d l p = keeps_more d l p

pub keeps_more_fields : (d : ℕ) (l : Lexeme) (p : Place) → Keeps behind_fields elsewhere (at l p) (more_fields_step d l p)
keeps_more_fields d (mark CloseCurly) p = λ k after. ((after _).0, nested_follows neither (at (mark CloseCurly) p) _ (after _).1)
keeps_more_fields d (mark Comma) p = λ k after. (λ f. (λ fs. after (with_field f fs), refl), tt)
keeps_more_fields d _ p = tt
