-- A text lexed step by step.
-- What is found so far, put before what the rest of the text has, is what the whole text has.
use Rattle.std.specs.Prelude.{◌≡◌, ℕ, List, ◌++◌, map, Bool, true, false, Option, Some, None, Result, Ok, Err}
use Rattle.fir_ast.specs.declared.place.Place.{Place}
use Rattle.fir_ast.specs.declared.fault.FirFault.{FirFault}
use Rattle.fir_base.specs.declared.refused.Refused.{Refused}
use Rattle.fir_base.specs.declared.refused.Refused.TheVariants.{Fault, Memory}
use Rattle.fir_lex.specs.declared.draft.Draft.{Draft}
use Rattle.fir_lex.specs.Tokens.{Placed}
use Rattle.fir_lex.specs.working.TokenText.{TokenText}
use Rattle.fir_lex.specs.working.Levels.{Move}
use Rattle.fir_lex.specs.working.Lexed.{Lexed, placed_at}
use Rattle.fir_lex.specs.working.View.{spelled}

abbrev pub tokens_in : Draft → List Placed
tokens_in d = map (spelled d.text.items) d.items.items

abbrev pub in_front : List Placed → Lexed → Lexed
in_front ts (Ok rest) = Ok (ts ++ rest)
in_front ts (Err f) = Err f

-- a step keeps what the text has in all, or answers the text's fault
abbrev pub Leaves : {A : Type 0} → Result A (Refused FirFault) → Lexed → Lexed → Type 0
Leaves (Ok x) old new = old ≡ new
Leaves (Err (Fault f)) old new = old ≡ Err f
Leaves (Err Memory) old new = Unit {0}

-- the tokens of the text, or its fault, unless memory ran out
abbrev pub Gives : Result TokenText (Refused FirFault) → Lexed → Type 0
Gives (Ok t) l = l ≡ Ok t.tokens
Gives (Err (Fault f)) l = l ≡ Err f
Gives (Err Memory) l = Unit {0}

-- tokens with those of a move behind them, and the levels that are open then
abbrev pub moved : List Placed → Place → Option Move → Option (List Placed × List ℕ)
moved ts p None = None
moved ts p (Some m) = Some (ts ++ placed_at p m.tokens, m.levels)

abbrev pub MovesTo : Bool → Option (List Placed × List ℕ) → List Placed → List ℕ → Type 0
MovesTo true moves ts levels = moves ≡ Some (ts, levels)
MovesTo false moves ts levels = moves ≡ None
