use Rattle.std.proofs.Common.{[], ◌∷◌, ◌++◌, refl, sym, subst}
use Rattle.std.specs.Prelude.{Ok}
use Rattle.ver_ast.specs.Grammar.{atom_tokens, rhs_tokens, binary_token}
use Rattle.ver_ast.specs.Tokens.{sign}
use Rattle.ver_parse.specs.working.Symbols.{a_token, an_atom, behind_atom}
use Rattle.ver_parse.specs.working.Fixed.{TriesOk, Keeps}
use Rattle.ver_parse.proofs.Leading.{chained, kept_to, cut, tail_part, tail_front, halts_into, tail_halts, exits, ended, took, turns_twice, kept}
use Rattle.ver_parse.proofs.Turns.{no_binary}
use Rattle.std.proofs.lemmas.List.{append-nil}
use Rattle.ver_parse.proofs.Leading.{head_kept}
use Rattle.ver_parse.proofs.Heads.{reads_binary}
use Rattle.ver_parse.specs.working.Fixed.{TriesBinary}
use Rattle.ver_parse.proofs.parser.Parser.behind_atom.Goals as goal

pub returns-in_err-takes-clause-halts : goal.returns-in_err-takes-clause-halts
returns-in_err-takes-clause-halts c = exits _ c.from_residual.ensures.1 (ended behind_atom [] c.in_err-takes.ensures.tries)

pub returns-then-branch-clause-gives : goal.returns-then-branch-clause-gives
returns-then-branch-clause-gives c = tail_part _ _ (atom_tokens c.args.first) (sign 63 ∷ []) rhs_tokens (took behind_atom (an_atom ∷ a_token (sign 58) ∷ an_atom ∷ []) (sign 63) (subst (λ b. TriesOk (sign 63) c.args.self.now c.takes.new.self b) c.if-branch.true c.in_ok-takes.ensures.tries) refl refl) c.choices.ensures.front c.choices.ensures.gives

pub returns-then-branch-clause-halts : goal.returns-then-branch-clause-halts
returns-then-branch-clause-halts c = tail_halts _ (took behind_atom (an_atom ∷ a_token (sign 58) ∷ an_atom ∷ []) (sign 63) (subst (λ b. TriesOk (sign 63) c.args.self.now c.takes.new.self b) c.if-branch.true c.in_ok-takes.ensures.tries) refl refl) c.choices.ensures.halts

pub returns-then-branch-clause-front : goal.returns-then-branch-clause-front
returns-then-branch-clause-front c = tail_front _ (atom_tokens c.args.first) (sign 63 ∷ []) rhs_tokens c.choices.ensures.front

pub returns-in_err-second-in-Some-clause-halts : goal.returns-in_err-second-in-Some-clause-halts
returns-in_err-second-in-Some-clause-halts c = exits _ c.from_residual-in_err-second-in-Some.ensures.1 (halts_into (kept (subst (λ b. TriesOk (sign 63) c.args.self.now c.takes.new.self b) c.if-branch.false c.in_ok-takes.ensures.tries) (reads_binary c.in-Some.op (subst (λ o. TriesBinary c.takes.new.self c.binary.new.self (Ok o)) c.in-Some.is c.in_ok-op.ensures.tries))) c.in_err-second-in-Some.ensures.halts)

pub returns-in_ok-second-in-Some-clause-gives : goal.returns-in_ok-second-in-Some-clause-gives
returns-in_ok-second-in-Some-clause-gives c = cut (atom_tokens c.args.first) (binary_token c.in-Some.op ∷ atom_tokens c.in_ok-second-in-Some.second) (atom_tokens c.args.first ++ binary_token c.in-Some.op ∷ atom_tokens c.in_ok-second-in-Some.second) refl (chained (kept (subst (λ b. TriesOk (sign 63) c.args.self.now c.takes.new.self b) c.if-branch.false c.in_ok-takes.ensures.tries) (reads_binary c.in-Some.op (subst (λ o. TriesBinary c.takes.new.self c.binary.new.self (Ok o)) c.in-Some.is c.in_ok-op.ensures.tries))) c.in_ok-second-in-Some.ensures.gives)

pub returns-in-None-clause-gives : goal.returns-in-None-clause-gives
returns-in-None-clause-gives c = cut (atom_tokens c.args.first) [] (atom_tokens c.args.first) (sym (append-nil (atom_tokens c.args.first))) (kept (subst (λ b. TriesOk (sign 63) c.args.self.now c.takes.new.self b) c.if-branch.false c.in_ok-takes.ensures.tries) (kept_to (subst (λ o. TriesBinary c.takes.new.self c.binary.new.self (Ok o)) c.in-None.is c.in_ok-op.ensures.tries) (turns_twice behind_atom [] (head_kept (subst (λ b. TriesOk (sign 63) c.args.self.now c.takes.new.self b) c.if-branch.false c.in_ok-takes.ensures.tries)) (Keeps.head (subst (λ o. TriesBinary c.takes.new.self c.binary.new.self (Ok o)) c.in-None.is c.in_ok-op.ensures.tries)) no_binary)))
