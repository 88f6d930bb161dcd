-- What the code's lexemes are.
use Rattle.std.specs.Prelude.{Option, Some, None}
use Rattle.fir_parse.specs.declared.lexeme.Mark.{Mark}
use Rattle.fir_parse.specs.declared.lexeme.Lexeme.{Lexeme as LexemeRef}
use Rattle.fir_parse.specs.declared.lexeme.Lexeme.TheVariants as code
use Rattle.fir_parse.specs.Lexemes.{Lexeme, word, dash_word, integer, text, mark, annotations, line_end, level_opens, level_closes, other}

abbrev pub option_mark : Option Mark → Lexeme
option_mark (Some m) = mark m
option_mark None = other

-- what a lexeme of the code is
abbrev pub seen : LexemeRef → Lexeme
seen (code.Word s) = word s.now
seen (code.DashWord s) = dash_word s.now
seen (code.Integer i) = integer i.spelling.now
seen (code.Text s) = text s.now
seen (code.Mark m) = mark m
seen code.Annotations = annotations
seen code.LineEnd = line_end
seen code.LevelOpens = level_opens
seen code.LevelCloses = level_closes
seen code.Other = other
seen code.End = other
