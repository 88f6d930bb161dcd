-- What a part of the parser does: it reads what is expected, or stops at the first fault, whatever follows.
use Rattle.std.specs.Prelude.{◌≡◌, ℕ, ◌≤◌, List, ◌++◌, length, drop, map, Result, Ok, Err}
use Rattle.fir_ast.specs.declared.place.Place.{Place}
use Rattle.fir_ast.specs.declared.fault.FirFault.TheVariants.{Syntax}
use Rattle.fir_parse.specs.declared.parser.Parser.{Parser}
use Rattle.fir_parse.specs.declared.parser.Tall.{Tall}
use Rattle.fir_parse.specs.declared.stop.Stop.{Stop}
use Rattle.fir_parse.specs.declared.stop.Stop.TheVariants as stop
use Rattle.fir_parse.specs.Lexemes.{Terminal, terminal_of}
use Rattle.fir_parse.specs.Limits.{everywhere}
use Rattle.fir_parse.specs.working.States.{State}
use Rattle.fir_parse.specs.working.AtHand.{first_of}
use Rattle.fir_parse.specs.working.Reading.{read_on}

-- the tokens that are left: the one at hand and those behind it
abbrev pub rest : Parser → List Terminal
rest p = first_of p.at_hand.lexeme p.at_hand.place ++ map terminal_of (drop p.next p.tokens.now.tokens)

abbrev pub left : Parser → ℕ
left p = length (rest p)

-- how a text goes on behind what is expected, by the tree that it makes
abbrev pub Plan : Type 0 → Type 0
Plan T = (T → State) → State

-- the text stops there, unless memory ran out
abbrev pub Stops : {T : Type 0} → Plan T → List Terminal → Stop → Type 0
Stops {T = T} plan ts stop.AtEnd = (end : Place) (k : T → State) → read_on everywhere end (plan k) ts ≡ Err (Syntax end)
Stops {T = T} plan ts (stop.Fault f) = (end : Place) (k : T → State) → read_on everywhere end (plan k) ts ≡ Err f
Stops plan ts stop.Memory = Unit {0}

-- the tree is read from the first tokens, and these are left
abbrev pub Gives : {T : Type 0} → Plan T → T → List Terminal → List Terminal → Type 0
Gives {T = T} plan x old new = (end : Place) (k : T → State) → read_on everywhere end (plan k) old ≡ read_on everywhere end (k x) new

-- reading on as planned is reading on so behind what was read; or the text stops
abbrev pub Leads : {A T : Type 0} → Plan T → (A → Plan T) → List Terminal → List Terminal → Result A Stop → Type 0
Leads {T = T} plan next old new (Ok x) = (end : Place) (k : T → State) → read_on everywhere end (plan k) old ≡ read_on everywhere end (next x k) new
Leads plan next old new (Err s) = Stops plan old s

-- what is expected is read from the tokens, or the text stops
abbrev pub Reads : {A T : Type 0} → Plan T → (A → T) → List Terminal → List Terminal → Result A Stop → Type 0
Reads plan view old new (Ok x) = Gives plan (view x) old new
Reads plan view old new (Err s) = Stops plan old s

-- a tree of the code with the height of what it stands for
abbrev pub HasHeight : {A B : Type 0} → (A → B) → (B → ℕ) → Tall A → Type 0
HasHeight view height t = (t.height ≡ height (view t.tree)) × (t.height ≤ 256)
