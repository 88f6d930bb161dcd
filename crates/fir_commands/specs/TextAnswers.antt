-- Which status a command that writes one text of one file ends with, where memory is there and no read or write fails.
use Rattle.std.specs.Prelude.{◌≡◌, ◌≢◌, ℕ, List}
use Rattle.fir_cli.specs.Outside.{Outside, NoneFailed, Tells, TellsTooMuch}
use Rattle.fir_commands.specs.TextCommands.{TextMeaning}

pub record TextAnswers (k : TextMeaning) (name : List ℕ) (before : Outside) (answer : ℕ) : Type 0 where
  pub too_long : TellsTooMuch before name → answer ≡ 8
  pub done : (bytes : List ℕ) → Tells before name bytes → k.takes bytes → answer ≡ 0
  pub refused : (bytes : List ℕ) → Tells before name bytes → (k.takes bytes → ⊥) → answer ≡ 1

abbrev pub TextComplete : TextMeaning → List ℕ → Outside → Outside → ℕ → Type 0
TextComplete k name before after answer = answer ≢ 5 → NoneFailed before after → TextAnswers k name before answer
