-- Forms of the FIRRTL specification that are not in the language, each by the word with which it begins.
-- A module and a type are told at that word; an expression at the parenthesis behind it; a statement at the token behind it, and `infer`, `read`,
-- `write` and `rdwr` where that is the word `mport`. Elsewhere these words are names.
use Rattle.std.specs.Prelude.{◌≡◌, ℕ, List, [], ◌∷◌, ◌++◌, ◌⊎◌, codes}
use Rattle.fir_base.specs.Lists.{In}
use Rattle.fir_ast.specs.declared.place.Place.{Place}
use Rattle.fir_ast.specs.Types.{DataType}
use Rattle.fir_ast.specs.Expressions.{Expression}
use Rattle.fir_ast.specs.Statements.{Block}
use Rattle.fir_ast.specs.Circuits.{ModuleTree}
use Rattle.fir_parse.specs.declared.lexeme.Mark.TheVariants.{OpenRound}
use Rattle.fir_parse.specs.Lexemes.{Terminal, word, mark}
use Rattle.fir_parse.specs.Limits.{nowhere}
use Rattle.fir_parse.specs.Pieces.{◌▸◌, Closes}
use Rattle.fir_parse.specs.TypeForms.{IsType}
use Rattle.fir_parse.specs.ExpressionForms.{IsExpression}
use Rattle.fir_parse.specs.StatementForms.{AreStatements}
use Rattle.fir_parse.specs.CircuitForms.{AreSomeModules}
use Rattle.fir_parse.specs.Fronts.{IsFront}

abbrev pub missing_types : List (List ℕ)
missing_types = codes "Analog" ∷ codes "Fixed" ∷ codes "Interval" ∷ []

abbrev pub missing_modules : List (List ℕ)
missing_modules = codes "extmodule" ∷ codes "intmodule" ∷ []

abbrev pub missing_operators : List (List ℕ)
missing_operators =
    codes "asClock" ∷ codes "asFixedPoint" ∷ codes "asInterval" ∷ codes "incp" ∷ codes "decp" ∷ codes "setp" ∷ codes "wrap" ∷ codes "clip" ∷ codes "squz" ∷ []

abbrev pub missing_statements : List (List ℕ)
missing_statements =
    codes "attach" ∷ codes "stop" ∷ codes "printf" ∷ codes "assert" ∷ codes "assume" ∷ codes "cover" ∷ codes "cmem" ∷ codes "smem" ∷ []

-- those before `mport`
abbrev pub missing_ports : List (List ℕ)
missing_ports = codes "infer" ∷ codes "read" ∷ codes "write" ∷ codes "rdwr" ∷ []

-- these tokens are such a form, however deep it stands and whatever follows
abbrev pub Are : (ℕ → List Terminal → List Terminal → Type 0) → List Terminal → Type 0
Are Form ts = (d : ℕ) (behind : List Terminal) → Form d (ts ++ behind) behind

-- where any type may stand, any expression, any statements up to the end of their level, any modules up to the end of the circuit
abbrev pub TypeMayStand : List Terminal → Type 0
TypeMayStand before = (t : DataType) (ts : List Terminal) → Are (λ d. IsType nowhere d t) ts → IsFront (before ++ ts)

abbrev pub ExpressionMayStand : List Terminal → Type 0
ExpressionMayStand before = (e : Expression) (ts : List Terminal) → Are (λ d. IsExpression nowhere d e) ts → IsFront (before ++ ts)

abbrev pub StatementsMayStand : List Terminal → Type 0
StatementsMayStand before = (b : Block) (ts : List Terminal) → Are (λ d. AreStatements nowhere d b ▸ Closes) ts → IsFront (before ++ ts)

abbrev pub ModulesMayStand : List Terminal → Type 0
ModulesMayStand before = (ms : List ModuleTree) (ts : List Terminal) → Are (λ d. AreSomeModules nowhere ms ▸ Closes) ts → IsFront (before ++ ts)

abbrev pub word_at : List ℕ → Place → Terminal
word_at w p = record { lexeme = word w; place = p }

-- with the token `t` behind the tokens `front` a form is told that is not in the language, by its word `w` at the place `p`
abbrev pub IsMissing : List Terminal → Terminal → Place → List ℕ → Type 0
IsMissing front t p w = AtItsWord ⊎ BehindItsWord
  where
    AtItsWord : Type 0
    AtItsWord = (t ≡ word_at w p) × ((In missing_types w × TypeMayStand front) ⊎ (In missing_modules w × ModulesMayStand front))

    IsTold : List Terminal → Type 0
    IsTold before =
        (In missing_operators w × (t.lexeme ≡ mark OpenRound) × ExpressionMayStand before)
        ⊎ (In missing_statements w × StatementsMayStand before)
        ⊎ (In missing_ports w × (t.lexeme ≡ word (codes "mport")) × StatementsMayStand before)

    BehindItsWord : Type 0
    BehindItsWord = (before : List Terminal) × (front ≡ before ++ word_at w p ∷ []) × IsTold before
