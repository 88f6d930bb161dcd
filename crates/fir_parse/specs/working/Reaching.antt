-- What a token does in a state of reading, and which tokens lead from one state to another.
use Rattle.std.specs.Prelude.{◌≡◌, ℕ, List, [], ◌∷◌, Option, Some, None, if◌then◌else◌}
use Rattle.fir_ast.specs.declared.place.Place.{Place}
use Rattle.fir_parse.specs.Lexemes.{Terminal}
use Rattle.fir_parse.specs.working.States.{Bound, State, done, limit, wants, Step, takes, without, refuses, unsupported}
use Rattle.fir_parse.specs.working.Reading.{step}

-- what a token does where a text may go on so: the text may go on behind it; it is not expected; or it or the word before it begins a
-- form that is not in the language
pub data Verdict : Type 0 where
  continues : State → Verdict
  unexpected : Verdict
  missing : Place → List ℕ → Verdict

abbrev pub verdict_by : {T : Type 0} → Step T → (T → State) → (T → Verdict) → Verdict
verdict_by (takes g) k with_it = continues (g k)
verdict_by (without x) k with_it = with_it x
verdict_by refuses k with_it = unexpected
verdict_by (unsupported p w) k with_it = missing p w

abbrev pub judge : State → Terminal → Verdict
judge (done c) t = unexpected
judge (limit passed l st) t = judge st t
judge (wants s k) t = verdict_by (step s t.lexeme t.place) k (λ x. judge (k x) t)

-- the limit that is passed at the token before, if one is
abbrev pub passed_limit : State → Option Bound
passed_limit (done c) = None
passed_limit (limit passed l st) = if passed then Some l else passed_limit st
passed_limit (wants s k) = None

-- from one state a text gets to another with these tokens, before the last of which no limit is passed
abbrev pub Reaches : State → List Terminal → State → Type 0
Reaches st [] last = st ≡ last
Reaches st (t ∷ ts) last = (next : State) × (passed_limit st ≡ None) × (judge st t ≡ continues next) × Reaches next ts last

-- what the next token does; at the end nothing is expected
abbrev pub next_verdict : State → List Terminal → Verdict
next_verdict st [] = unexpected
next_verdict st (t ∷ back) = judge st t
