-- The first fault of a text.
-- E04 and E05 are shown by the first token with which no text of the grammar goes on: E05 where it or the word before it begins a form that is not
-- in the language, at that word, and else E04. E03, E06 and E07 are shown by the first token at which a limit is not kept: E03 where it is a number
-- that is out of range or out of form, E06 where a block or a bracket opens with 256 open or a form higher than 256 ends, E07 where it is the
-- version's number and neither 1 nor 2.
use Rattle.std.specs.Prelude.{◌≡◌, ℕ, List, [], ◌∷◌, ◌++◌, Bool, ◌⊎◌, codes, decimal}
use Rattle.fir_ast.specs.declared.place.Place.{Place}
use Rattle.fir_ast.specs.Faults.{Fault, E04, E05, E06, E07}
use Rattle.fir_lex.specs.Tokens.{Placed}
use Rattle.fir_lex.specs.TokensOf.{place_after, AreTokensOf}
use Rattle.fir_lex.specs.TokenFaults.{literal_fault, TokenFault}
use Rattle.fir_base.specs.Digits.{decimal_value}
use Rattle.fir_parse.specs.Lexemes.{Terminal, integer}
use Rattle.fir_parse.specs.Limits.{Limit}
use Rattle.fir_parse.specs.Fronts.{StopsAt, IsFrontWithin, all_limits, no_limit, only_numbers, only_nesting, only_versions}
use Rattle.fir_parse.specs.MissingForms.{IsMissing}
use Rattle.fir_parse.specs.Spells.{terminals}

abbrev pub syntax_fault : Place → Fault
syntax_fault p = record { code = E04; place = p; evidence = codes "syntax" }

abbrev pub unsupported_fault : Place → List ℕ → Fault
unsupported_fault p word = record { code = E05; place = p; evidence = codes "unsupported " ++ word }

abbrev pub depth_fault : Place → Fault
depth_fault p = record { code = E06; place = p; evidence = codes "depth 257" }

abbrev pub version_fault : Place → ℕ → Fault
version_fault p n = record { code = E07; place = p; evidence = codes "version " ++ decimal n }

abbrev pub place_at : Place → List Terminal → Place
place_at end [] = end
place_at end (t ∷ ts) = t.place

-- no form that is not in the language is told there
abbrev pub NoneIsMissing : List Terminal → List Terminal → Type 0
NoneIsMissing front [] = Unit {0}
NoneIsMissing front (t ∷ back) = (p : Place) (w : List ℕ) → IsMissing front t p w → ⊥

-- some text keeps the first limits at the last of these tokens, and none the others
abbrev pub Passes : (Limit → Bool) → (Limit → Bool) → List Terminal → Type 0
Passes kept passed front = IsFrontWithin kept front × (IsFrontWithin passed front → ⊥)

abbrev pub IsInteger : ℕ → Terminal → Type 0
IsInteger n t = (s : List ℕ) × (t.lexeme ≡ integer s) × (decimal_value s ≡ n)

-- within all limits some text begins so, and none goes on with the next token, or ends here; and no form that is not in the language is told there
abbrev pub ShowsUnexpected : Place → List Terminal → List Terminal → Fault → Type 0
ShowsUnexpected end front back f = (f ≡ syntax_fault (place_at end back)) × IsFrontWithin all_limits front × StopsAt front back × NoneIsMissing front back

-- within all limits some text begins so, and none goes on with this token; and a form that is not in the language is told there, by its word
abbrev pub ShowsUnsupported : List Terminal → Terminal → List Terminal → Fault → Type 0
ShowsUnsupported front t back f =
    (p : Place) × (word : List ℕ) × (f ≡ unsupported_fault p word) × IsFrontWithin all_limits front × StopsAt front (t ∷ back) × IsMissing front t p word

-- this token is the first at which a limit is not kept
abbrev pub ShowsLimit : List Terminal → Terminal → Fault → Type 0
ShowsLimit front t f =
    ((f ≡ literal_fault t.place) × Passes no_limit only_numbers (front ++ t ∷ []))
    ⊎ ((f ≡ depth_fault t.place) × Passes no_limit only_nesting (front ++ t ∷ []))
    ⊎ ((n : ℕ) × (f ≡ version_fault t.place n) × IsInteger n t × Passes only_numbers only_versions (front ++ t ∷ []))

-- the fault that the next token shows, or the end of the text
abbrev pub Shows : Place → List Terminal → List Terminal → Fault → Type 0
Shows end front [] f = ShowsUnexpected end front [] f
Shows end front (t ∷ back) f = ShowsUnexpected end front (t ∷ back) f ⊎ ShowsUnsupported front t back f ⊎ ShowsLimit front t f

-- the first fault of these tokens
abbrev pub IsFirstTextFault : Place → List Terminal → Fault → Type 0
IsFirstTextFault end ts f = (front : List Terminal) × (back : List Terminal) × (ts ≡ front ++ back) × Shows end front back f

-- the first fault of a text: that of its tokens, or else that of its grammar
abbrev pub TextFault : List ℕ → Fault → Type 0
TextFault bytes f = TokenFault bytes f ⊎ ((ts : List Placed) × AreTokensOf bytes ts × IsFirstTextFault (place_after bytes) (terminals ts) f)
