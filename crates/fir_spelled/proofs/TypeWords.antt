-- The names of fields in a type that tokens spell have the bytes of words; so it is where something of a type is declared, whose name is a word.
use Rattle.std.proofs.Common.{ℕ, ◌+◌, List, Bool}
use Rattle.std.specs.Prelude.{IsTrue}
use Rattle.std.specs.List.{list_all}
use Rattle.fir_base.specs.Bytes.{is_word_byte}
use Rattle.ver_words.specs.Names.{is_word}
use Rattle.fir_ast.specs.declared.place.Place.{Place}
use Rattle.fir_ast.specs.Statements.{PlacedName}
use Rattle.fir_ast.specs.Types.{DataType, uint, sint, clock, reset, async_reset, bundle, vector, Fields, no_fields, field}
use Rattle.fir_parse.specs.Limits.{everywhere}
use Rattle.fir_parse.specs.declared.lexeme.Mark.TheVariants.{Colon}
use Rattle.fir_parse.specs.Lexemes.{Terminal}
use Rattle.fir_parse.specs.Pieces.{◌▸◌, At, FieldName, NameToken, Sign}
use Rattle.fir_parse.specs.TypeForms.{IsFlip, IsType, AreFields, AreMoreFields}
use Rattle.fir_flatten.specs.working.Words.{FieldsHaveWords, TypeHasWords}
use Rattle.fir_spelled.proofs.WordPieces.{AreSpelledWell, KeepsWords, token, somewhere, given, at, next, name_is_word, field_name_bytes}
use Rattle.fir_spelled.proofs.TypesKeepWords.{field_name, flipped, type_keeps}

-- the parts of a field, and what is left behind it
record FieldParts (d : ℕ) (n : PlacedName) (t : DataType) (Rest : List Terminal → List Terminal → Type 0) (b : List Terminal) : Type 0 where
  bytes : IsTrue (list_all is_word_byte n.name)
  before : List Terminal
  well : AreSpelledWell before
  behind : List Terminal
  is_type : IsType everywhere d t before behind
  well_behind : AreSpelledWell behind
  rest : Rest behind b

field_parts : (d : ℕ) (flip : Bool) (n : PlacedName) (q : Place) (t : DataType) (Rest : List Terminal → List Terminal → Type 0) (a b : List Terminal)
    → (IsFlip flip ▸ FieldName n ▸ Sign Colon ▸ (At q ▸ IsType everywhere d t) ▸ Rest) a b → AreSpelledWell a → FieldParts d n t Rest b
field_parts d flip n q t Rest a b (m1, f, (m2, name, (m3, colon, (m4, (m5, there, is), rest)))) h =
    let well1 : AreSpelledWell m1 = (flipped flip).behind a m1 f h in
    let well5 : AreSpelledWell m5 = (next field_name (next somewhere at)).behind m1 m5 (m2, name, (m3, colon, there)) well1 in
    record {
      bytes = field_name_bytes n m1 m2 name well1;
      before = m5;
      well = well5;
      behind = m4;
      is_type = is;
      well_behind = (type_keeps d t).behind m5 m4 is well5;
      rest = rest;
    }

mutual
  pub type_words : (d : ℕ) (t : DataType) (a b : List Terminal) → IsType everywhere d t a b → AreSpelledWell a → TypeHasWords t
  type_words d (uint w) a b x h = tt
  type_words d (sint w) a b x h = tt
  type_words d clock a b x h = tt
  type_words d reset a b x h = tt
  type_words d async_reset a b x h = tt
  type_words d (bundle fs) a b (m, opens, (n, near, (k, fields, rest))) h =
      fields_words (d + 1) fs n k fields ((next somewhere given).behind a n (m, opens, near) h)
  type_words d (vector t n) a b (m, x, rest) h = type_words d t a m x h

  fields_words : (d : ℕ) (fs : Fields) (a b : List Terminal) → AreFields everywhere d fs a b → AreSpelledWell a → FieldsHaveWords fs
  fields_words d no_fields a b e h = tt
  fields_words d (field p flip n q t rest) a b x h =
      let parts = field_parts d flip (record { place = p; name = n }) q t (AreMoreFields everywhere d rest) a b x h in
      (parts.bytes, type_words d t parts.before parts.behind parts.is_type parts.well, more_words d rest parts.behind b parts.rest parts.well_behind)

  more_words : (d : ℕ) (fs : Fields) (a b : List Terminal) → AreMoreFields everywhere d fs a b → AreSpelledWell a → FieldsHaveWords fs
  more_words d no_fields a b e h = tt
  more_words d (field p flip n q t rest) a b (m, comma, x) h =
      let parts = field_parts d flip (record { place = p; name = n }) q t (AreMoreFields everywhere d rest) m b x ((somewhere).behind a m comma h) in
      (parts.bytes, type_words d t parts.before parts.behind parts.is_type parts.well, more_words d rest parts.behind b parts.rest parts.well_behind)

-- a name with a type, behind a first piece
pub declared_words : (First Rest : List Terminal → List Terminal → Type 0) → KeepsWords First → (n : PlacedName) (d : ℕ) (q : Place) (t : DataType) (a b : List Terminal)
    → (First ▸ NameToken n ▸ Sign Colon ▸ (At q ▸ IsType everywhere d t) ▸ Rest) a b → AreSpelledWell a → IsTrue (is_word n.name) × TypeHasWords t
declared_words First Rest first n d q t a b (m1, x, (m2, name, (m3, colon, (m4, (m5, there, is), rest)))) h =
    let well : AreSpelledWell m1 = first.behind a m1 x h in
    (name_is_word n m1 m2 name well, type_words d t m5 m4 is ((next token (next somewhere at)).behind m1 m5 (m2, name, (m3, colon, there)) well))
