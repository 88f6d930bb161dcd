use Rattle.std.proofs.Common.{[], ◌∷◌, drop, refl, subst}
use Rattle.ver_ast.specs.Grammar.{rhs_tokens}
use Rattle.ver_ast.specs.Tokens.{word, sign}
use Rattle.ver_parse.specs.working.Symbols.{behind_side_name, behind_bracket, behind_atom}
use Rattle.ver_parse.specs.working.Fixed.{TriesOk}
use Rattle.ver_parse.proofs.Leading.{tail, tail_part, tail_front, tail_halts, exits, ended, took, turned}
use Rattle.ver_parse.proofs.Turns.{no_side_select}
use Rattle.ver_parse.proofs.parser.Parser.behind_side_name.Goals as goal

pub returns-in_err-takes-clause-halts : goal.returns-in_err-takes-clause-halts
returns-in_err-takes-clause-halts c = exits _ c.from_residual.ensures.1 (ended behind_side_name [] c.in_err-takes.ensures.tries)

pub returns-then-branch-clause-gives : goal.returns-then-branch-clause-gives
returns-then-branch-clause-gives c = tail_part _ _ (word c.args.name ∷ []) (sign 91 ∷ []) rhs_tokens (took behind_side_name (behind_bracket ∷ []) (sign 91) (subst (λ b. TriesOk (sign 91) c.args.self.now c.takes.new.self b) c.if-branch.true c.in_ok-takes.ensures.tries) refl refl) c.behind_bracket.ensures.front c.behind_bracket.ensures.gives

pub returns-then-branch-clause-halts : goal.returns-then-branch-clause-halts
returns-then-branch-clause-halts c = tail_halts _ (took behind_side_name (behind_bracket ∷ []) (sign 91) (subst (λ b. TriesOk (sign 91) c.args.self.now c.takes.new.self b) c.if-branch.true c.in_ok-takes.ensures.tries) refl refl) c.behind_bracket.ensures.halts

pub returns-then-branch-clause-front : goal.returns-then-branch-clause-front
returns-then-branch-clause-front c = tail_front _ (word c.args.name ∷ []) (sign 91 ∷ []) rhs_tokens c.behind_bracket.ensures.front

pub returns-else-branch-clause-gives : goal.returns-else-branch-clause-gives
returns-else-branch-clause-gives c = tail _ _ (λ r. drop 1 (rhs_tokens r)) (turned behind_side_name (behind_atom ∷ []) (subst (λ b. TriesOk (sign 91) c.args.self.now c.takes.new.self b) c.if-branch.false c.in_ok-takes.ensures.tries) no_side_select) c.behind_atom.ensures.gives

pub returns-else-branch-clause-halts : goal.returns-else-branch-clause-halts
returns-else-branch-clause-halts c = tail_halts _ (turned behind_side_name (behind_atom ∷ []) (subst (λ b. TriesOk (sign 91) c.args.self.now c.takes.new.self b) c.if-branch.false c.in_ok-takes.ensures.tries) no_side_select) c.behind_atom.ensures.halts
