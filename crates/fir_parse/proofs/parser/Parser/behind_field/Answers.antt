-- A comma or the closing brace behind a field.
use Rattle.std.proofs.Common.{refl, rules}
use Rattle.fir_parse.specs.declared.lexeme.Lexeme.TheVariants.{Mark}
use Rattle.fir_parse.specs.declared.lexeme.Mark.TheVariants.{Comma, CloseCurly}
use Rattle.fir_parse.specs.Lexemes.{mark}
use Rattle.fir_parse.specs.working.Symbols.{more_fields}
use Rattle.fir_parse.proofs.Plans.{found, takes_first, refused}
use Rattle.fir_parse.proofs.TypeReads.{not_behind_field}
use Rattle.fir_parse.proofs.parser.Parser.behind_field.Goals as goal
use Rattle.fir_parse.proofs.parser.Parser.behind_field.Goals.{in_default-via-in-Mark+in_default, in_default-via-in_default}

pub returns-in-Mark-Comma-clause-reads : goal.returns-in-Mark-Comma-clause-reads
returns-in-Mark-Comma-clause-reads c = λ d.
    takes_first (more_fields d) _ (mark Comma) _ _ _ (found _ c.peek-next.result (Mark Comma) c.peek-next.ensures (search rules)) c.pass.ensures.rest refl

pub returns-in-Mark-CloseCurly-clause-reads : goal.returns-in-Mark-CloseCurly-clause-reads
returns-in-Mark-CloseCurly-clause-reads c = λ d.
    takes_first (more_fields d) _ (mark CloseCurly) _ _ _ (found _ c.peek-next.result (Mark CloseCurly) c.peek-next.ensures (search rules)) c.pass-in-Mark-CloseCurly.ensures.rest refl

pub returns-in_default-clause-reads : goal.returns-in_default-clause-reads
returns-in_default-clause-reads c = λ d.
    refused (more_fields d) _ c.peek-next.result.lexeme _ _ c.peek-next.ensures c.refused.ensures
    (not_behind_field d c.peek-next.result.lexeme c.peek-next.result.place
    (elim c.in_default.branch [ in_default-via-in-Mark+in_default w ↦ λ h. search rules | in_default-via-in_default w ↦ λ h. search rules ])
    (elim c.in_default.branch [ in_default-via-in-Mark+in_default w ↦ λ h. search rules | in_default-via-in_default w ↦ λ h. search rules ]))
