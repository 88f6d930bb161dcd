-- What the limit on a text's version does.
use Rattle.std.proofs.Common.{◌≡◌, ℕ, List, true, false, not, ap, Err}
use Rattle.fir_ast.specs.declared.place.Place.{Place}
use Rattle.fir_ast.specs.declared.fault.FirFault.TheVariants.{Version}
use Rattle.fir_parse.specs.Lexemes.{Terminal}
use Rattle.fir_parse.specs.working.States.{State, limit, version_at}
use Rattle.fir_parse.specs.working.CircuitRules.{is_known_version}
use Rattle.fir_parse.specs.working.Reading.{read_on}
use Rattle.fir_parse.proofs.Plans.{limit_kept, limit_passed}
use Rattle.fir_parse.specs.Limits.{everywhere}

-- a version of the language
pub version_kept : (p : Place) (n : ℕ) (st : State) (end : Place) (ts : List Terminal) → is_known_version n ≡ true → read_on everywhere end (limit (not (is_known_version n)) (version_at p n) st) ts ≡ read_on everywhere end st ts
version_kept p n st end ts h = limit_kept _ _ st end ts (ap not h)

-- another version
pub version_passed : (p : Place) (n : ℕ) (st : State) (end : Place) (ts : List Terminal) → is_known_version n ≡ false → read_on everywhere end (limit (not (is_known_version n)) (version_at p n) st) ts ≡ Err (Version p n)
version_passed p n st end ts h = limit_passed _ _ st end ts (ap not h)

-- for a tactic, what the limit does
pub ruleset versions = (version_kept, version_passed)
