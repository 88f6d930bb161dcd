-- Reading from the left: what is expected behind some tokens, and where they stop.
use Rattle.std.specs.Prelude.{ℕ, List, [], ◌∷◌, ◌++◌, Bool, ◌&&◌, nat_le, nat_eq, if◌then◌else◌, Option, Some, None, codes, false}
use Rattle.ver_ast.specs.declared.place.VPlace.{VPlace}
use Rattle.ver_ast.specs.Tokens.{VToken, word, sign}
use Rattle.ver_ast.specs.Pieces.{PlacedToken}
use Rattle.ver_parse.specs.Depths.{opened_by}
use Rattle.ver_parse.specs.working.Symbols.{Symbol, a_token, a_name, ports, items}
use Rattle.ver_parse.specs.working.Steps.{Step, takes, skips, refuses, step}

abbrev pub by_step : Step → List Symbol → Option (List Symbol) → Option (List Symbol)
by_step (takes ss) todo behind = Some (ss ++ todo)
by_step skips todo behind = behind
by_step refuses todo behind = None

-- what is expected behind a token, where it is expected
abbrev pub behind : List Symbol → VToken → Option (List Symbol)
behind [] t = None
behind (s ∷ todo) t = by_step (step s t) todo (behind todo t)

-- all tokens are read; they end where more is expected; one is not expected; one opens a brace too many
pub data Outcome : Type 0 where
  complete : Outcome
  ends : Outcome
  unexpected : VPlace → Outcome
  too_deep : VPlace → Outcome

abbrev pub at_end : List Symbol → Outcome
at_end [] = complete
at_end (s ∷ todo) = ends

abbrev pub is_brace : VToken → Bool
is_brace (sign b) = nat_eq b 123
is_brace _ = false

abbrev pub go_on : Option (List Symbol) → ℕ → PlacedToken → (List Symbol → Outcome) → Outcome
go_on None d t next = unexpected t.place
go_on (Some todo) d t next = if is_brace t.token && nat_le 256 d then too_deep t.place else next todo

-- where these are expected and so many braces are open
unfoldable pub read_on : ℕ → List Symbol → List PlacedToken → Outcome
read_on d todo [] = at_end todo
read_on d todo (t ∷ ts) = go_on (behind todo t.token) d t (λ next. read_on (opened_by d t.token) next ts)

-- a text
abbrev pub whole : List Symbol
whole = a_token (word (codes "module")) ∷ a_name ∷ a_token (sign 40) ∷ ports ∷ a_token (sign 59) ∷ items ∷ []

abbrev pub with_next : Option (List Symbol) → (List Symbol → Option (List Symbol)) → Option (List Symbol)
with_next None k = None
with_next (Some next) k = k next

-- what is expected behind these tokens, where they are expected, however many braces are open
unfoldable pub follows : List Symbol → List PlacedToken → Option (List Symbol)
follows todo [] = Some todo
follows todo (t ∷ ts) = with_next (behind todo t.token) (λ next. follows next ts)
