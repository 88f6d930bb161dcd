-- Laws about the definitions.
use Rattle.std.specs.Prelude.{◌≡◌, ◌↔◌, ℕ, List, [], ◌∷◌, ◌++◌, ◌⊎◌, Ok}
use Rattle.fir_ast.specs.declared.place.Place.{Place}
use Rattle.fir_ast.specs.Faults.{Fault}
use Rattle.fir_ast.specs.Circuits.{CircuitTree}
use Rattle.fir_lex.specs.Tokens.{Placed}
use Rattle.fir_lex.specs.working.Lexed.{lexed}
use Rattle.fir_parse.specs.Lexemes.{Terminal}
use Rattle.fir_parse.specs.Limits.{Limits}
use Rattle.fir_parse.specs.CircuitForms.{IsSpelled}
use Rattle.fir_parse.specs.Spells.{terminals, Spells}
use Rattle.fir_parse.specs.MissingForms.{word_at}
use Rattle.fir_parse.specs.TextFaults.{unsupported_fault, Shows, TextFault}
use Rattle.fir_parse.specs.working.Reading.{whole, read_on}
use Rattle.fir_parse.specs.working.TreePlaces.{Rise, circuit_places}
use Rattle.fir_parse.specs.working.TokenPlaces.{token_places}

-- a text spells one tree at most
abbrev pub SpellsOneTree : Type 0
SpellsOneTree = (bytes : List ℕ) (a b : CircuitTree) → Spells bytes a → Spells bytes b → a ≡ b

abbrev pub HasTree : List ℕ → Type 0
HasTree bytes = (c : CircuitTree) × Spells bytes c

abbrev pub HasFault : List ℕ → Type 0
HasFault bytes = (f : Fault) × TextFault bytes f

-- a text spells a tree, or it has a fault, and not both
abbrev pub HasTreeOrFault : Type 0
HasTreeOrFault = (bytes : List ℕ) → (HasTree bytes ⊎ HasFault bytes) × (HasTree bytes → HasFault bytes → ⊥)

-- a text shows one fault at most
abbrev pub ShowsOneFault : Type 0
ShowsOneFault = (bytes : List ℕ) (f g : Fault) → TextFault bytes f → TextFault bytes g → f ≡ g

abbrev pub EndsIn : List Terminal → Terminal → Type 0
EndsIn ts t = (before : List Terminal) × (ts ≡ before ++ t ∷ [])

-- a form that is not in the language is shown at its word: that is the token with which no text goes on, or the last before it
abbrev pub UnsupportedNamesItsWord : Type 0
UnsupportedNamesItsWord =
    (end : Place) (front back : List Terminal) (t : Terminal) (p : Place) (w : List ℕ) →
    Shows end front (t ∷ back) (unsupported_fault p w) → (t ≡ word_at w p) ⊎ EndsIn front (word_at w p)

-- the tree that the tokens spell, form by form, is the tree that is read from the left, wherever limits count
abbrev pub SpelledFormByForm : Type 0
SpelledFormByForm = (limits : Limits) (end : Place) (ts : List Terminal) (c : CircuitTree) → (read_on limits end whole ts ≡ Ok c) ↔ IsSpelled limits c ts

-- the tokens of a text stand one behind the other
abbrev pub TokensRise : Type 0
TokensRise = (bytes : List ℕ) (ts : List Placed) → lexed bytes ≡ Ok ts → Rise (token_places (terminals ts))

-- each place in the tree of a text stands behind all that stand before it: of a declaration, a statement, a type, an expression and its parts
abbrev pub PlacesRise : Type 0
PlacesRise = (bytes : List ℕ) (c : CircuitTree) → Spells bytes c → Rise (circuit_places c)
