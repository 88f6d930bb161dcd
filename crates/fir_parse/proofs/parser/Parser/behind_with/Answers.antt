use Rattle.std.proofs.Common.{refl, rules}
use Rattle.fir_ast.specs.working.Views.{reset_of}
use Rattle.fir_parse.specs.declared.lexeme.Lexeme.TheVariants.{Mark}
use Rattle.fir_parse.specs.declared.lexeme.Mark.TheVariants.{OpenRound}
use Rattle.fir_parse.specs.Lexemes.{mark}
use Rattle.fir_parse.specs.working.PartPlans.{level_reset_plan, round_reset_plan}
use Rattle.fir_parse.specs.working.States.{wants}
use Rattle.fir_parse.specs.working.Symbols.{behind_with}
use Rattle.fir_parse.proofs.Plans.{found, takes_first, reads_behind}
use Rattle.fir_parse.proofs.ReadAlike.{resets_in_level}
use Rattle.fir_parse.proofs.parser.Parser.behind_with.Goals as goal
use Rattle.fir_parse.proofs.parser.Parser.behind_with.Goals.{in_default-via-in-Mark+in_default, in_default-via-in_default}

pub returns-in-Mark-OpenRound-clause-reads : goal.returns-in-Mark-OpenRound-clause-reads
returns-in-Mark-OpenRound-clause-reads c =
    reads_behind (wants (behind_with c.args.depth c.args.with)) (λ k. round_reset_plan c.args.depth c.args.with c.peek-next.result.place k) reset_of _ _ _ c.reset_in_round.result
    (takes_first (behind_with c.args.depth c.args.with) _ (mark OpenRound) _ _ _ (found _ c.peek-next.result (Mark OpenRound) c.peek-next.ensures (search rules)) c.pass.ensures.rest refl)
    c.reset_in_round.ensures.reads

pub returns-in_default-clause-reads : goal.returns-in_default-clause-reads
returns-in_default-clause-reads c =
    reads_behind (wants (behind_with c.args.depth c.args.with)) (λ k. level_reset_plan c.args.depth c.args.with k) reset_of _ _ _ c.reset_in_level.result
    (resets_in_level c.args.depth c.args.with _ c.peek-next.result.lexeme c.peek-next.result.place c.peek-next.ensures
    (elim c.in_default.branch [ in_default-via-in-Mark+in_default w ↦ λ h. search rules | in_default-via-in_default w ↦ λ h. search rules ]))
    c.reset_in_level.ensures.reads
