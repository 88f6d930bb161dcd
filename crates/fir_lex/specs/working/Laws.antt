-- Laws about the definitions.
use Rattle.std.specs.Prelude.{◌≡◌, ◌↔◌, ℕ, ◌≤◌, List, ◌++◌, length, Ok, Err}
use Rattle.fir_ast.specs.declared.fault.FirFault.{FirFault}
use Rattle.fir_ast.specs.Faults.{Fault}
use Rattle.fir_ast.specs.working.CodeFaults.{fault_of}
use Rattle.fir_lex.specs.Tokens.{Token, Placed}
use Rattle.fir_lex.specs.working.Lexed.{lexed}
use Rattle.fir_lex.specs.Spelled.{IsSpelledToken}
use Rattle.fir_lex.specs.Longest.{IsLongest}
use Rattle.fir_lex.specs.TokensOf.{AreTokensOf}
use Rattle.fir_lex.specs.TokenFaults.{TokenFault}

-- a text is lexed as the tokens that it is spelled with, form by form
abbrev pub LexedFormByForm : Type 0
LexedFormByForm = (bytes : List ℕ) (ts : List Placed) → (lexed bytes ≡ Ok ts) ↔ AreTokensOf bytes ts

-- a text shows the fault of its tokens, form by form
abbrev pub FaultsFormByForm : Type 0
FaultsFormByForm = (bytes : List ℕ) (f : Fault) → ((g : FirFault) × (lexed bytes ≡ Err g) × (f ≡ fault_of g)) ↔ TokenFault bytes f

-- a token that nothing behind it makes longer is the longest: whatever else is spelled where it begins has no more bytes
abbrev pub NoLongerBegins : Type 0
NoLongerBegins =
    (t : Token) (s behind : List ℕ) (other : Token) (r more : List ℕ)
    → IsSpelledToken t s → IsLongest t behind → IsSpelledToken other r → s ++ behind ≡ r ++ more → length r ≤ length s
