-- The way of the lexer through a text.
use Rattle.std.specs.Prelude.{◌≡◌, ℕ, zero, ◌+◌, ◌-◌, ◌*◌, List, length, reverse, take, drop, if◌then◌else◌}
use Rattle.fir_lex.specs.declared.lexer.Lexer.{Lexer}
use Rattle.fir_lex.specs.working.Bytes.{place_behind}
use Rattle.fir_lex.specs.working.Lexed.{Lexed, lexed_from}
use Rattle.fir_lex.specs.working.Steps.{tokens_in, in_front}

abbrev pub rest_of : Lexer → List ℕ
rest_of l = drop l.cursor.index l.draft.text.items

-- what the text has in all, by what is found and what is left
abbrev pub left : Lexer → Lexed
left l = in_front (tokens_in l.draft) (lexed_from (reverse l.levels.items) l.begins zero l.cursor.place (rest_of l))

-- so many steps at most are left
abbrev pub turns : Lexer → ℕ
turns l = 2 * (length l.draft.text.items - l.cursor.index) + (if l.begins then 1 else 0)

-- so many bytes are passed
pub record Passes (old : Lexer) (count : ℕ) (new : Lexer) : Type 0 where
  pub index : new.cursor.index ≡ old.cursor.index + count
  pub place : new.cursor.place ≡ place_behind old.cursor.place (take count (rest_of old))
  pub levels : new.levels ≡ old.levels
