-- The first fault of a text.
-- V01 is a byte that is in no token, where some text of the grammar begins with all tokens before it. V02 is shown by the first token with which no text
-- of the grammar goes on, or by the end. V07 is shown by a `{` that may stand there, with 256 braces open before it.
use Rattle.std.specs.Prelude.{◌≡◌, ◌⊎◌, ℕ, List, [], ◌∷◌, ◌++◌, Option, Some, None, codes}
use Rattle.ver_ast.specs.declared.place.VPlace.{VPlace}
use Rattle.ver_ast.specs.Tokens.{sign}
use Rattle.ver_ast.specs.Pieces.{PlacedToken, place_after, HasTokens}
use Rattle.ver_fault.specs.Faults.{VFault, V01, V02, V07}
use Rattle.ver_fault.specs.Texts.{byte_text}
use Rattle.ver_lex.specs.declared.bad_byte.BadByte.{BadByte}
use Rattle.ver_lex.specs.Lexed.{StopsAt as BytesStopAt}
use Rattle.ver_parse.specs.Fronts.{IsFront, StopsAt}
use Rattle.ver_parse.specs.Depths.{open_braces, IsShallow}

abbrev pub byte_fault : BadByte → VFault
byte_fault bad = record { code = V01; place = bad.place; evidence = codes "byte " ++ byte_text bad.byte }

abbrev pub syntax_fault : VPlace → VFault
syntax_fault p = record { code = V02; place = p; evidence = codes "syntax" }

abbrev pub depth_fault : VPlace → VFault
depth_fault p = record { code = V07; place = p; evidence = codes "depth 257" }

-- some text begins so, and none goes on with these tokens, or ends here
pub record ShowsUnexpected (p : VPlace) (front back : List PlacedToken) (f : VFault) : Type 0 where
  pub fault_is : f ≡ syntax_fault p
  pub begins : IsFront front
  pub shallow : IsShallow front
  pub stops : StopsAt front back

-- some text goes on with this brace, and 256 are open before it
pub record ShowsDepth (front : List PlacedToken) (t : PlacedToken) (f : VFault) : Type 0 where
  pub fault_is : f ≡ depth_fault t.place
  pub begins : IsFront (front ++ t ∷ [])
  pub shallow : IsShallow front
  pub is_brace : t.token ≡ sign 123
  pub full : open_braces front ≡ 256

-- the fault that a token shows, behind some tokens and before others
abbrev pub ShowsAt : List PlacedToken → PlacedToken → List PlacedToken → VFault → Type 0
ShowsAt front t back f = ShowsUnexpected t.place front (t ∷ back) f ⊎ ShowsDepth front t f

-- one of these tokens shows the fault
pub record IsTokenFault (ts : List PlacedToken) (f : VFault) : Type 0 where
  pub front : List PlacedToken
  pub token : PlacedToken
  pub back : List PlacedToken
  pub tokens_are : ts ≡ front ++ token ∷ back
  pub shows : ShowsAt front token back f

-- the first fault where these are the tokens of the text, or those before its first byte that is in none
abbrev pub TokensFault : VPlace → List PlacedToken → Option BadByte → VFault → Type 0
TokensFault end ts None f = IsTokenFault ts f ⊎ ShowsUnexpected end ts [] f
TokensFault end ts (Some bad) f = IsTokenFault ts f ⊎ ((f ≡ byte_fault bad) × IsFront ts × IsShallow ts)

-- the first fault of a text
abbrev pub TextFault : List ℕ → VFault → Type 0
TextFault bytes f =
    ((ts : List PlacedToken) × HasTokens bytes ts × TokensFault (place_after bytes) ts None f)
    ⊎ ((ts : List PlacedToken) × (bad : BadByte) × BytesStopAt bytes ts bad × TokensFault (place_after bytes) ts (Some bad) f)
