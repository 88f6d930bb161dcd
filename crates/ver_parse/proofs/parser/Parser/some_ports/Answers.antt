use Rattle.std.proofs.Common.{[], ◌∷◌, ◌++◌, refl, sym, subst}
use Rattle.ver_ast.specs.Grammar.{ports_tokens}
use Rattle.ver_ast.specs.Tokens.{sign}
use Rattle.ver_parse.specs.working.Symbols.{a_token, a_name, a_range, a_mark, a_direction, more_ports}
use Rattle.ver_parse.specs.working.Fixed.{TriesOk}
use Rattle.ver_parse.specs.working.Reads.{Leads, Gives}
use Rattle.ver_parse.proofs.Leading.{chained, once_more, nearer, halts_into, halts_more, exits, ended, took, turned}
use Rattle.ver_parse.proofs.Turns.{no_more_ports}
use Rattle.std.proofs.Common.{arith}
use Rattle.std.proofs.lemmas.List.{append-nil}
use Rattle.std.specs.List.{AllByRecursion}
use Rattle.ver_words.specs.Names.{IsName}
use Rattle.ver_parse.proofs.Loops.{all_append, ports_more, some_now}
use Rattle.ver_parse.proofs.Leading.{reads_nothing}
use Rattle.ver_parse.proofs.parser.Parser.some_ports.Goals as goal

pub returns-in_err-takes-clause-halts : goal.returns-in_err-takes-clause-halts
returns-in_err-takes-clause-halts c = exits _ c.from_residual-in_err-takes.ensures.1 (halts_into c.loop-ports.invariant.far (ended more_ports [] c.in_err-takes.ensures.tries))

pub returns-in_err-port-2-clause-halts : goal.returns-in_err-port-2-clause-halts
returns-in_err-port-2-clause-halts c = exits _ c.from_residual-in_err-port-2.ensures.1 (halts_into (chained c.loop-ports.invariant.far (took more_ports (a_mark ∷ a_direction ∷ a_range ∷ a_name ∷ more_ports ∷ []) (sign 44) (subst (λ b. TriesOk (sign 44) c.loop-ports.self c.takes.new.self b) c.if-branch.true c.in_ok-takes.ensures.tries) refl refl)) (halts_more (more_ports ∷ []) c.in_err-port-2.ensures.halts))

pub loop-ports-preserved : goal.loop-ports-preserved
loop-ports-preserved c = record {
  far =
      subst (λ xs. Leads (a_mark ∷ a_direction ∷ a_range ∷ a_name ∷ more_ports ∷ []) (ports_tokens xs) (more_ports ∷ []) c.args.self.now c.port-in-loop-ports.new.self) (sym c.in_ok-push-2.ensures.items)
      (subst (λ gs. Leads (a_mark ∷ a_direction ∷ a_range ∷ a_name ∷ more_ports ∷ []) gs (more_ports ∷ []) c.args.self.now c.port-in-loop-ports.new.self) (sym (ports_more c.loop-ports.ports.items c.in_ok-port-2.field-0 c.loop-ports.invariant.some))
      (chained c.loop-ports.invariant.far (once_more more_ports reads_nothing (subst (λ b. TriesOk (sign 44) c.loop-ports.self c.takes.new.self b) c.if-branch.true c.in_ok-takes.ensures.tries) refl refl c.in_ok-port-2.ensures.gives)));
  some = some_now c.loop-ports.ports.items _ _ c.in_ok-push-2.ensures.items;
  named = subst (AllByRecursion (λ p. IsName p.name)) (sym c.in_ok-push-2.ensures.items) (all_append (λ p. IsName p.name) _ _ c.loop-ports.invariant.named (c.in_ok-port-2.ensures.named, tt));
  nearer = omega (arith, c.loop-ports.invariant.nearer, c.in_ok-takes.ensures.nearer, c.in_ok-port-2.ensures.nearer);
}

pub returns-in_err-token-clause-halts : goal.returns-in_err-token-clause-halts
returns-in_err-token-clause-halts c = exits _ c.from_residual-in_err-token.ensures.1 (halts_into (chained c.loop-ports.invariant.far (turned more_ports (a_token (sign 41) ∷ []) (subst (λ b. TriesOk (sign 44) c.loop-ports.self c.takes.new.self b) c.if-branch.false c.in_ok-takes.ensures.tries) no_more_ports)) c.in_err-token.ensures.halts)

pub returns-clause-gives : goal.returns-clause-gives
returns-clause-gives c = subst (λ gs. Gives (a_mark ∷ a_direction ∷ a_range ∷ a_name ∷ more_ports ∷ []) (gs ++ sign 41 ∷ []) c.args.self.now c.token.new.self) (append-nil (ports_tokens c.loop-ports.ports.items)) (chained (chained c.loop-ports.invariant.far (turned more_ports (a_token (sign 41) ∷ []) (subst (λ b. TriesOk (sign 44) c.loop-ports.self c.takes.new.self b) c.if-branch.false c.in_ok-takes.ensures.tries) no_more_ports)) c.in_ok-token.ensures.gives)
