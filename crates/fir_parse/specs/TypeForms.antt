-- Which tokens spell which type (FIRRTL spec, "Types"), within so many open blocks and brackets:
--   type = ( ("UInt" | "SInt") [ "<" int ">" ] | "Clock" | "Reset" | "AsyncReset" | "{" [ part { "," part } ] "}" ) { "[" int "]" }
--   part = [ "flip" ] fieldname ":" type
use Rattle.std.specs.Prelude.{ℕ, ◌+◌, ◌<◌, ◌≤◌, List, Bool, true, false, Option, Some, None, codes}
use Rattle.fir_ast.specs.Types.{DataType, uint, sint, clock, reset, async_reset, bundle, vector, Fields, no_fields, field}
use Rattle.fir_parse.specs.declared.lexeme.Mark.TheVariants.{Less, Greater, OpenSquare, CloseSquare, OpenCurly, CloseCurly, Comma, Colon}
use Rattle.fir_parse.specs.Lexemes.{Terminal}
use Rattle.fir_parse.specs.Heights.{type_height}
use Rattle.fir_parse.specs.Limits.{Limits, nesting, Within}
use Rattle.fir_parse.specs.Pieces.{◌▸◌, At, Nothing, Sign, WordToken, FieldName, Int}

abbrev pub IsWidth : Limits → Option ℕ → List Terminal → List Terminal → Type 0
IsWidth limits None = Nothing
IsWidth limits (Some n) = Sign Less ▸ Int limits n ▸ Sign Greater

abbrev pub IsFlip : Bool → List Terminal → List Terminal → Type 0
IsFlip false = Nothing
IsFlip true = WordToken (codes "flip")

abbrev mutual
  pub IsType : Limits → ℕ → DataType → List Terminal → List Terminal → Type 0
  IsType limits d (uint w) = WordToken (codes "UInt") ▸ IsWidth limits w
  IsType limits d (sint w) = WordToken (codes "SInt") ▸ IsWidth limits w
  IsType limits d clock = WordToken (codes "Clock")
  IsType limits d reset = WordToken (codes "Reset")
  IsType limits d async_reset = WordToken (codes "AsyncReset")
  IsType limits d (bundle fs) =
      Sign OpenCurly ▸ Within limits nesting (d < 256) ▸ AreFields limits (d + 1) fs ▸ Sign CloseCurly ▸ Within limits nesting (type_height (bundle fs) ≤ 256)
  IsType limits d (vector t n) =
      IsType limits d t ▸ Sign OpenSquare ▸ Within limits nesting (d < 256) ▸ Int limits n ▸ Sign CloseSquare
      ▸ Within limits nesting (type_height (vector t n) ≤ 256)

  pub AreFields : Limits → ℕ → Fields → List Terminal → List Terminal → Type 0
  AreFields limits d no_fields = Nothing
  AreFields limits d (field p flip n q t rest) =
      IsFlip flip ▸ FieldName (record { place = p; name = n }) ▸ Sign Colon ▸ (At q ▸ IsType limits d t) ▸ AreMoreFields limits d rest

  pub AreMoreFields : Limits → ℕ → Fields → List Terminal → List Terminal → Type 0
  AreMoreFields limits d no_fields = Nothing
  AreMoreFields limits d (field p flip n q t rest) =
      Sign Comma ▸ IsFlip flip ▸ FieldName (record { place = p; name = n }) ▸ Sign Colon ▸ (At q ▸ IsType limits d t) ▸ AreMoreFields limits d rest
