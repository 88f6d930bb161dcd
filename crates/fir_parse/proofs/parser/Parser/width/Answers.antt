-- The width behind a type's word.
use Rattle.std.proofs.Common.{refl, ◌∙◌, None, rules}
use Rattle.fir_parse.specs.declared.lexeme.Lexeme.TheVariants.{Mark}
use Rattle.fir_parse.specs.declared.lexeme.Mark.TheVariants.{Less}
use Rattle.fir_parse.specs.Lexemes.{mark}
use Rattle.fir_parse.specs.working.Symbols.{a_width}
use Rattle.fir_parse.proofs.Plans.{found, takes_first, stays_before, exits_behind, stands_there}
use Rattle.fir_parse.proofs.TypeReads.{ends_there, not_width}
use Rattle.fir_parse.proofs.parser.Parser.width.Goals as goal
use Rattle.fir_parse.proofs.parser.Parser.width.Goals.{in_default-via-in-Mark+in_default, in_default-via-in_default}

pub returns-in_err-width-in-Mark-Less-clause-reads : goal.returns-in_err-width-in-Mark-Less-clause-reads
returns-in_err-width-in-Mark-Less-clause-reads c =
    exits_behind _ _ _ _ _ _ c.from_residual.result _ _ c.from_residual.ensures.1
    (takes_first a_width _ (mark Less) _ _ _ (found _ c.peek-next.result (Mark Less) c.peek-next.ensures (search rules)) c.pass.ensures.rest refl)
    c.in_err-width-in-Mark-Less.ensures.reads

pub returns-in_err-mark-in-Mark-Less-clause-reads : goal.returns-in_err-mark-in-Mark-Less-clause-reads
returns-in_err-mark-in-Mark-Less-clause-reads c =
    exits_behind _ _ _ _ _ _ c.from_residual-in_err-mark-in-Mark-Less.result _ _ c.from_residual-in_err-mark-in-Mark-Less.ensures.1
    (λ end k.
    takes_first a_width _ (mark Less) _ _ _ (found _ c.peek-next.result (Mark Less) c.peek-next.ensures (search rules)) c.pass.ensures.rest refl end k
    ∙ c.in_ok-width-in-Mark-Less.ensures.reads end _)
    c.in_err-mark-in-Mark-Less.ensures.reads

pub returns-in_ok-mark-in-Mark-Less-clause-reads : goal.returns-in_ok-mark-in-Mark-Less-clause-reads
returns-in_ok-mark-in-Mark-Less-clause-reads c = λ end k.
    takes_first a_width _ (mark Less) _ _ _ (found _ c.peek-next.result (Mark Less) c.peek-next.ensures (search rules)) c.pass.ensures.rest refl end k
    ∙ c.in_ok-width-in-Mark-Less.ensures.reads end _ ∙ c.in_ok-mark-in-Mark-Less.ensures.reads end _

pub returns-in-End-clause-reads : goal.returns-in-End-clause-reads
returns-in-End-clause-reads c = ends_there a_width _ _ _ _ c.peek-next.ensures c.in-End.is c.refused.ensures

pub returns-in_default-clause-reads : goal.returns-in_default-clause-reads
returns-in_default-clause-reads c =
    stays_before a_width None _ _ _
    (stands_there _ c.peek-next.result.lexeme c.peek-next.result.place c.peek-next.ensures (elim c.in_default.branch [ in_default-via-in-Mark+in_default w ↦ w.in_default.not-End | in_default-via-in_default w ↦ w.in_default.not-End ]))
    (not_width c.peek-next.result.lexeme c.peek-next.result.place (elim c.in_default.branch [ in_default-via-in-Mark+in_default w ↦ λ h. search rules | in_default-via-in_default w ↦ λ h. search rules ]))
