-- Which tokens spell which circuit (FIRRTL spec, "Circuits", "Modules"):
--   text   = [ "FIRRTL" "version" int "." int "." int NL ] "circuit" name ":" [annotations] NL IN module+ OUT
--   module = "module" name ":" NL [ IN port* stmt* OUT ]
--   port   = ("input" | "output") name ":" type NL
use Rattle.std.specs.Prelude.{◌≡◌, ℕ, List, [], ◌∷◌, ◌⊎◌, codes}
use Rattle.fir_base.specs.declared.direction.Direction.{Direction}
use Rattle.fir_base.specs.declared.direction.Direction.TheVariants.{Input, Output}
use Rattle.fir_ast.specs.Statements.{Block, done}
use Rattle.fir_ast.specs.Circuits.{PortTree, ModuleTree, CircuitTree}
use Rattle.fir_parse.specs.declared.lexeme.Mark.TheVariants.{Colon, Dot}
use Rattle.fir_parse.specs.Lexemes.{Terminal, word}
use Rattle.fir_parse.specs.Limits.{Limits, versions, Within}
use Rattle.fir_parse.specs.Pieces.{◌▸◌, At, Either, Given, Nothing, TokenAt, Sign, WordToken, LineEnd, Opens, Closes, Annotations, NameToken, Int}
use Rattle.fir_parse.specs.TypeForms.{IsType}
use Rattle.fir_parse.specs.StatementForms.{AreStatements}

abbrev pub direction_word : Direction → List ℕ
direction_word Input = codes "input"
direction_word Output = codes "output"

abbrev pub IsPort : Limits → PortTree → List Terminal → List Terminal → Type 0
IsPort limits p = WordToken (direction_word p.direction) ▸ NameToken p.named ▸ Sign Colon ▸ (At p.type_place ▸ IsType limits 0 p.data_type) ▸ LineEnd

abbrev pub ArePorts : Limits → List PortTree → List Terminal → List Terminal → Type 0
ArePorts limits [] = Nothing
ArePorts limits (p ∷ ps) = IsPort limits p ▸ ArePorts limits ps

-- no level where there is nothing, or one
abbrev pub IsBody : Limits → List PortTree → Block → List Terminal → List Terminal → Type 0
IsBody limits ps b = Either (Given ((ps ≡ []) × (b ≡ done))) (Opens ▸ ArePorts limits ps ▸ AreStatements limits 0 b ▸ Closes)

abbrev pub IsModule : Limits → ModuleTree → List Terminal → List Terminal → Type 0
IsModule limits m = TokenAt (word (codes "module")) m.place ▸ NameToken m.named ▸ Sign Colon ▸ LineEnd ▸ IsBody limits m.ports m.body

abbrev pub AreModules : Limits → List ModuleTree → List Terminal → List Terminal → Type 0
AreModules limits [] = Nothing
AreModules limits (m ∷ ms) = IsModule limits m ▸ AreModules limits ms

-- one module at least
abbrev pub AreSomeModules : Limits → List ModuleTree → List Terminal → List Terminal → Type 0
AreSomeModules limits [] before behind = ⊥
AreSomeModules limits (m ∷ ms) before behind = (IsModule limits m ▸ AreModules limits ms) before behind

abbrev pub IsVersion : Limits → List Terminal → List Terminal → Type 0
IsVersion limits before behind =
    (major : ℕ) × (minor : ℕ) × (patch : ℕ)
    × (WordToken (codes "FIRRTL") ▸ WordToken (codes "version") ▸ Int limits major ▸ Within limits versions ((major ≡ 1) ⊎ (major ≡ 2)) ▸ Sign Dot ▸ Int limits minor
    ▸ Sign Dot ▸ Int limits patch ▸ LineEnd) before behind

-- all tokens are those of the circuit
abbrev pub IsSpelled : Limits → CircuitTree → List Terminal → Type 0
IsSpelled limits c ts =
    (Either Nothing (IsVersion limits) ▸ WordToken (codes "circuit") ▸ NameToken c.named ▸ Sign Colon ▸ Either Nothing Annotations ▸ LineEnd ▸ Opens
    ▸ AreSomeModules limits c.modules ▸ Closes) ts []
