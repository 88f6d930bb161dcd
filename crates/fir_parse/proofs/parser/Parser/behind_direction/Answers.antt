use Rattle.std.proofs.Common.{◌≡◌, true, false, codes, refl, sym, ap, ◌∙◌}
use Rattle.std.specs.Str.{bytes_eq}
use Rattle.fir_parse.specs.declared.lexeme.Lexeme.TheVariants.{Word}
use Rattle.fir_parse.specs.Lexemes.{word}
use Rattle.fir_parse.specs.working.ModuleTrees.{port_or_of}
use Rattle.fir_parse.specs.working.PartPlans.{no_port_plan, port_plan}
use Rattle.fir_parse.specs.working.States.{wants}
use Rattle.fir_parse.specs.working.Symbols.{behind_direction, behind_port_is}
use Rattle.fir_parse.proofs.Plans.{found, reads_behind, takes_first}
use Rattle.fir_parse.proofs.ReadAlike.{direction_is_name, direction_is_port}
use Rattle.fir_parse.proofs.parser.Parser.behind_direction.Goals as goal

pub returns-in-Word-clause-reads : goal.returns-in-Word-clause-reads
returns-in-Word-clause-reads c =
    let e : bytes_eq c.in-Word.second.now (codes "is") ≡ true =
    ap (λ s. bytes_eq c.in-Word.second.now s) (sym c.as_slice.ensures) ∙ ap (λ x. bytes_eq x.now c.as_slice.result.now) (sym c.in-Word.second-is) ∙ sym c.eq.ensures ∙ c.if-eq.true in
    reads_behind (wants (behind_direction c.args.direction c.args.place c.args.name.now)) (wants (behind_port_is c.args.direction c.args.place c.args.name.now c.peek-next.result.place)) port_or_of _ _ _ c.behind_port_is.result
    (takes_first (behind_direction c.args.direction c.args.place c.args.name.now) _ (word c.in-Word.second.now) _ _ _ (found _ c.peek-next.result (Word c.in-Word.second) c.peek-next.ensures c.in-Word.is) c.pass.ensures.rest (rw e refl))
    c.behind_port_is.ensures.reads

pub returns-in-Word-2-clause-reads : goal.returns-in-Word-2-clause-reads
returns-in-Word-2-clause-reads c =
    let e : bytes_eq c.in-Word.second.now (codes "is") ≡ false =
    ap (λ s. bytes_eq c.in-Word.second.now s) (sym c.as_slice.ensures) ∙ ap (λ x. bytes_eq x.now c.as_slice.result.now) (sym c.in-Word.second-is) ∙ sym c.eq.ensures ∙ c.if-eq.false in
    reads_behind (wants (behind_direction c.args.direction c.args.place c.args.name.now)) (λ k. port_plan c.args.direction k) port_or_of _ _ _ c.named_port.result
    (direction_is_port c.args.direction c.args.place c.args.name.now _ c.peek-next.result.lexeme c.in-Word.second c.peek-next.result.place c.peek-next.ensures c.in-Word.is e)
    c.named_port.ensures.reads

pub returns-in_default-clause-reads : goal.returns-in_default-clause-reads
returns-in_default-clause-reads c =
    reads_behind (wants (behind_direction c.args.direction c.args.place c.args.name.now)) (λ k. no_port_plan c.args.place c.args.name.now k) port_or_of _ _ _ c.no_port.result
    (direction_is_name c.args.direction c.args.place c.args.name.now _ c.peek-next.result.lexeme c.peek-next.result.place c.peek-next.ensures c.in_default.not-Word)
    c.no_port.ensures.reads
