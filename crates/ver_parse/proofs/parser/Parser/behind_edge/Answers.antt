use Rattle.std.proofs.Common.{[], ◌∷◌, drop, codes, refl, subst}
use Rattle.ver_ast.specs.Grammar.{item_tokens}
use Rattle.ver_ast.specs.Tokens.{word, sign}
use Rattle.ver_parse.specs.working.Blocks.{always_front}
use Rattle.ver_parse.specs.working.Symbols.{a_token, a_name, behind_edge, a_block}
use Rattle.ver_parse.specs.working.Steps.{source, reset_value}
use Rattle.ver_parse.specs.working.Fixed.{TriesOk}
use Rattle.ver_parse.proofs.Leading.{tail, tail_part, tail_front, tail_halts, exits, ended, took, turned}
use Rattle.ver_parse.proofs.Turns.{no_block}
use Rattle.ver_parse.proofs.parser.Parser.behind_edge.Goals as goal

pub returns-in_err-takes-clause-halts : goal.returns-in_err-takes-clause-halts
returns-in_err-takes-clause-halts c = exits _ c.from_residual.ensures.1 (ended behind_edge [] c.in_err-takes.ensures.tries)

pub returns-then-branch-clause-gives : goal.returns-then-branch-clause-gives
returns-then-branch-clause-gives c = tail_part _ _ (always_front c.args.first) (sign 41 ∷ []) item_tokens (took behind_edge (a_block ∷ []) (sign 41) (subst (λ b. TriesOk (sign 41) c.args.self.now c.takes.new.self b) c.if-branch.true c.in_ok-takes.ensures.tries) refl refl) c.block.ensures.front c.block.ensures.gives

pub returns-then-branch-clause-halts : goal.returns-then-branch-clause-halts
returns-then-branch-clause-halts c = tail_halts _ (took behind_edge (a_block ∷ []) (sign 41) (subst (λ b. TriesOk (sign 41) c.args.self.now c.takes.new.self b) c.if-branch.true c.in_ok-takes.ensures.tries) refl refl) c.block.ensures.halts

pub returns-then-branch-clause-front : goal.returns-then-branch-clause-front
returns-then-branch-clause-front c = tail_front _ (always_front c.args.first) (sign 41 ∷ []) item_tokens c.block.ensures.front

pub returns-else-branch-clause-gives : goal.returns-else-branch-clause-gives
returns-else-branch-clause-gives c = tail _ _ (λ i. drop 5 (item_tokens i)) (turned behind_edge (a_token (word (codes "or")) ∷ a_token (word (codes "posedge")) ∷ a_name ∷ a_token (sign 41) ∷ a_token (word (codes "if")) ∷ reset_value (a_token (word (codes "else")) ∷ a_name ∷ source [])) (subst (λ b. TriesOk (sign 41) c.args.self.now c.takes.new.self b) c.if-branch.false c.in_ok-takes.ensures.tries) no_block) c.clocked_reset.ensures.gives

pub returns-else-branch-clause-halts : goal.returns-else-branch-clause-halts
returns-else-branch-clause-halts c = tail_halts _ (turned behind_edge (a_token (word (codes "or")) ∷ a_token (word (codes "posedge")) ∷ a_name ∷ a_token (sign 41) ∷ a_token (word (codes "if")) ∷ reset_value (a_token (word (codes "else")) ∷ a_name ∷ source [])) (subst (λ b. TriesOk (sign 41) c.args.self.now c.takes.new.self b) c.if-branch.false c.in_ok-takes.ensures.tries) no_block) c.clocked_reset.ensures.halts
