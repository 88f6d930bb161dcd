use Rattle.std.proofs.Common.{[], ◌∷◌, ◌++◌, drop, codes, refl, sym, subst}
use Rattle.ver_ast.specs.Grammar.{item_tokens, write_tokens}
use Rattle.ver_ast.specs.Tokens.{word}
use Rattle.ver_parse.specs.working.Symbols.{a_name, a_block, writes}
use Rattle.ver_parse.specs.working.Steps.{source, reset_value}
use Rattle.ver_parse.specs.working.Fixed.{TriesOk, Keeps}
use Rattle.ver_parse.specs.working.Reads.{Gives}
use Rattle.ver_parse.proofs.Leading.{chained, kept_to, halts_into, exits, ended, took, turns_twice, kept, kept_end}
use Rattle.ver_parse.proofs.Turns.{plain_block}
use Rattle.ver_parse.proofs.Leading.{head_kept}
use Rattle.ver_ast.specs.declared.tree.Item.TheVariants as item
use Rattle.std.proofs.Common.{flat_map}
use Rattle.ver_parse.proofs.parser.Parser.block.Goals as goal

pub returns-in_err-takes-clause-halts : goal.returns-in_err-takes-clause-halts
returns-in_err-takes-clause-halts c = exits _ c.from_residual.ensures.1 (ended a_block [] c.in_err-takes.ensures.tries)

pub returns-in_err-reset-clause-halts : goal.returns-in_err-reset-clause-halts
returns-in_err-reset-clause-halts c = exits _ c.from_residual-in_err-reset.ensures.1 (halts_into (took a_block (reset_value []) (word (codes "if")) (subst (λ b. TriesOk (word (codes "if")) c.args.self.now c.takes.new.self b) c.if-branch.true c.in_ok-takes.ensures.tries) refl refl) c.in_err-reset.ensures.halts)

pub returns-in_err-writes-clause-halts : goal.returns-in_err-writes-clause-halts
returns-in_err-writes-clause-halts c = exits _ c.from_residual-in_err-writes.ensures.1 (halts_into (kept (subst (λ b. TriesOk (word (codes "if")) c.args.self.now c.takes.new.self b) c.if-branch.false c.in_ok-takes.ensures.tries) (took a_block (writes ∷ []) (word (codes "begin")) (subst (λ b. TriesOk (word (codes "begin")) c.takes.new.self c.takes-else-branch.new.self b) c.if-branch-2.true c.in_ok-takes-2.ensures.tries) refl refl)) c.in_err-writes.ensures.halts)

pub returns-in_err-stored-clause-halts : goal.returns-in_err-stored-clause-halts
returns-in_err-stored-clause-halts c = exits _ c.from_residual-in_err-stored.ensures.1 (halts_into (kept (subst (λ b. TriesOk (word (codes "if")) c.args.self.now c.takes.new.self b) c.if-branch.false c.in_ok-takes.ensures.tries) (kept_to (subst (λ b. TriesOk (word (codes "begin")) c.takes.new.self c.takes-else-branch.new.self b) c.if-branch-2.false c.in_ok-takes-2.ensures.tries) (turns_twice a_block (a_name ∷ source []) (head_kept (subst (λ b. TriesOk (word (codes "if")) c.args.self.now c.takes.new.self b) c.if-branch.false c.in_ok-takes.ensures.tries)) (Keeps.head (subst (λ b. TriesOk (word (codes "begin")) c.takes.new.self c.takes-else-branch.new.self b) c.if-branch-2.false c.in_ok-takes-2.ensures.tries)) plain_block))) c.in_err-stored.ensures.halts)

pub returns-in_err-takes-2-clause-halts : goal.returns-in_err-takes-2-clause-halts
returns-in_err-takes-2-clause-halts c = exits _ c.from_residual-in_err-takes-2.ensures.1 (kept_end (subst (λ b. TriesOk (word (codes "if")) c.args.self.now c.takes.new.self b) c.if-branch.false c.in_ok-takes.ensures.tries) (ended a_block [] c.in_err-takes-2.ensures.tries))

pub returns-in_ok-reset-clause-gives : goal.returns-in_ok-reset-clause-gives
returns-in_ok-reset-clause-gives c = subst (λ b. Gives (a_block ∷ []) (drop 6 (item_tokens (item.Resetting b))) c.args.self.now c.reset_value.new.self) (sym c.resetting.ensures) (chained (took a_block (reset_value []) (word (codes "if")) (subst (λ b. TriesOk (word (codes "if")) c.args.self.now c.takes.new.self b) c.if-branch.true c.in_ok-takes.ensures.tries) refl refl) c.in_ok-reset.ensures.gives)

pub returns-in_ok-writes-clause-gives : goal.returns-in_ok-writes-clause-gives
returns-in_ok-writes-clause-gives c = subst (λ ws. Gives (a_block ∷ []) (word (codes "begin") ∷ flat_map write_tokens ws ++ word (codes "end") ∷ []) c.args.self.now c.writes.new.self) (sym c.from_vec.ensures) (chained (kept (subst (λ b. TriesOk (word (codes "if")) c.args.self.now c.takes.new.self b) c.if-branch.false c.in_ok-takes.ensures.tries) (took a_block (writes ∷ []) (word (codes "begin")) (subst (λ b. TriesOk (word (codes "begin")) c.takes.new.self c.takes-else-branch.new.self b) c.if-branch-2.true c.in_ok-takes-2.ensures.tries) refl refl)) c.in_ok-writes.ensures.gives)

pub returns-in_ok-stored-clause-gives : goal.returns-in_ok-stored-clause-gives
returns-in_ok-stored-clause-gives c = chained (kept (subst (λ b. TriesOk (word (codes "if")) c.args.self.now c.takes.new.self b) c.if-branch.false c.in_ok-takes.ensures.tries) (kept_to (subst (λ b. TriesOk (word (codes "begin")) c.takes.new.self c.takes-else-branch.new.self b) c.if-branch-2.false c.in_ok-takes-2.ensures.tries) (turns_twice a_block (a_name ∷ source []) (head_kept (subst (λ b. TriesOk (word (codes "if")) c.args.self.now c.takes.new.self b) c.if-branch.false c.in_ok-takes.ensures.tries)) (Keeps.head (subst (λ b. TriesOk (word (codes "begin")) c.takes.new.self c.takes-else-branch.new.self b) c.if-branch-2.false c.in_ok-takes-2.ensures.tries)) plain_block))) c.in_ok-stored.ensures.gives
