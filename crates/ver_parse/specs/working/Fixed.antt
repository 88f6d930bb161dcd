-- What the parser does with the token at hand.
use Rattle.std.specs.Prelude.{◌≡◌, ◌⊎◌, ℕ, ◌≤◌, List, [], ◌∷◌, Bool, true, false, ◌||◌, ◌&&◌, nat_eq, nat_le, not, Option, Some, None, is_some, Result, Ok, Err}
use Rattle.ver_ast.specs.declared.place.VPlace.{VPlace}
use Rattle.ver_ast.specs.declared.tree.UnaryOp.{UnaryOp}
use Rattle.ver_ast.specs.declared.tree.BinaryOp.{BinaryOp}
use Rattle.ver_ast.specs.Tokens.{VToken, word, digit_zero, number, sign, double, signed_shift, signed_word}
use Rattle.ver_ast.specs.Pieces.{PlacedToken}
use Rattle.ver_ast.specs.Grammar.{unary_sign, binary_token}
use Rattle.ver_parse.specs.declared.parser.Parser.{Parser}
use Rattle.ver_parse.specs.declared.stop.Stop.{Stop}
use Rattle.ver_parse.specs.declared.stop.Stop.TheVariants as stop
use Rattle.ver_parse.specs.declared.fixed.Fixed.{Fixed}
use Rattle.ver_parse.specs.declared.fixed.Fixed.TheVariants as fixed
use Rattle.ver_parse.specs.Depths.{opened_by}
use Rattle.ver_parse.specs.working.Reading.{is_brace}
use Rattle.ver_parse.specs.working.Reads.{rest, IsEnd}
use Rattle.ver_parse.specs.working.Steps.{same_token, unary_of, binary_of}

abbrev pub fixed_token : Fixed → VToken
fixed_token (fixed.Word w) = word w.now
fixed_token fixed.Zero = digit_zero
fixed_token (fixed.Sign b) = sign b
fixed_token (fixed.Double a b) = double a b
fixed_token fixed.SignedShift = signed_shift
fixed_token fixed.SignedWord = signed_word

-- no brace
abbrev pub is_plain : VToken → Bool
is_plain (sign b) = not (nat_eq b 123 || nat_eq b 125)
is_plain _ = true

abbrev pub is_word_token : VToken → Bool
is_word_token (word w) = true
is_word_token _ = false

abbrev pub is_number_token : VToken → Bool
is_number_token digit_zero = true
is_number_token (number n) = true
is_number_token _ = false

abbrev pub TestsTo : (VToken → Bool) → Bool → List PlacedToken → Type 0
TestsTo test b [] = ⊥
TestsTo test b (t ∷ ts) = test t.token ≡ b

-- a test of the first token
pub record HeadIs (test : VToken → Bool) (b : Bool) (p : Parser) : Type 0 where
  pub tests : TestsTo test b (rest p)

-- at the end none is tested
abbrev pub HeadTells : (VToken → Bool) → Parser → Result Bool Stop → Type 0
HeadTells test p (Ok b) = HeadIs test b p
HeadTells test p (Err s) = IsEnd p s

-- this token is taken, and there is room for it
pub record Took (t : VToken) (old new : Parser) : Type 0 where
  pub place : VPlace
  pub tokens_are : rest old ≡ record { token = t; place = place } ∷ rest new
  pub depth_is : new.depth ≡ opened_by old.depth t
  pub room : (is_brace t && nat_le 256 old.depth) ≡ false

-- nothing is taken, since the first token is none of those
pub record Keeps (test : VToken → Bool) (old new : Parser) : Type 0 where
  pub same : new ≡ old
  pub head : HeadIs test false old

-- the token is taken if it is this one
abbrev pub TriesOk : VToken → Parser → Parser → Bool → Type 0
TriesOk t old new true = Took t old new
TriesOk t old new false = Keeps (same_token t) old new

abbrev pub Tries : VToken → Parser → Parser → Result Bool Stop → Type 0
Tries t old new (Ok b) = TriesOk t old new b
Tries t old new (Err s) = IsEnd old s

-- no room for the brace at a place
pub record IsFull (old : Parser) (s : Stop) : Type 0 where
  pub place : VPlace
  pub more : List PlacedToken
  pub stop_is : s ≡ stop.Depth place
  pub tokens_are : rest old ≡ record { token = sign 123; place = place } ∷ more
  pub full : 256 ≤ old.depth

abbrev pub TriesBrace : Parser → Parser → Result Bool Stop → Type 0
TriesBrace old new (Ok b) = TriesOk (sign 123) old new b
TriesBrace old new (Err s) = IsEnd old s ⊎ IsFull old s

abbrev pub is_unary : VToken → Bool
is_unary t = is_some (unary_of t)

abbrev pub is_binary : VToken → Bool
is_binary t = is_some (binary_of t)

abbrev pub TriesUnary : Parser → Parser → Result (Option UnaryOp) Stop → Type 0
TriesUnary old new (Ok (Some op)) = Took (sign (unary_sign op)) old new
TriesUnary old new (Ok None) = Keeps is_unary old new
TriesUnary old new (Err s) = IsEnd old s

abbrev pub TriesBinary : Parser → Parser → Result (Option BinaryOp) Stop → Type 0
TriesBinary old new (Ok (Some op)) = Took (binary_token op) old new
TriesBinary old new (Ok None) = Keeps is_binary old new
TriesBinary old new (Err s) = IsEnd old s
