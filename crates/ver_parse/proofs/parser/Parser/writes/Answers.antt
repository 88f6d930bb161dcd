use Rattle.std.proofs.Common.{[], ◌∷◌, ◌++◌, codes, refl, sym, subst}
use Rattle.ver_ast.specs.Grammar.{write_tokens}
use Rattle.ver_ast.specs.Tokens.{word, sign}
use Rattle.ver_parse.specs.working.Symbols.{a_token, a_name, writes, an_atom}
use Rattle.ver_parse.specs.working.Steps.{source}
use Rattle.ver_parse.specs.working.Fixed.{TriesOk}
use Rattle.ver_parse.specs.working.Reads.{Leads, Gives}
use Rattle.ver_parse.proofs.Leading.{chained, once_more, nearer, halts_into, halts_more, exits, ended, took, turned}
use Rattle.ver_parse.proofs.Turns.{no_write}
use Rattle.std.proofs.Common.{arith, flat_map}
use Rattle.std.proofs.lemmas.List.{append-nil}
use Rattle.ver_words.specs.Names.{IsName}
use Rattle.ver_ast.specs.ItemNames.{write_names}
use Rattle.ver_ast.specs.Spells.{AreVerilogNames}
use Rattle.ver_parse.proofs.Loops.{all_append, one_more}
use Rattle.ver_parse.proofs.parser.Parser.writes.Goals as goal

pub returns-in_err-takes-clause-halts : goal.returns-in_err-takes-clause-halts
returns-in_err-takes-clause-halts c = exits _ c.from_residual.ensures.1 (halts_into c.loop-writes.invariant.far (ended writes [] c.in_err-takes.ensures.tries))

pub returns-in_err-write-clause-halts : goal.returns-in_err-write-clause-halts
returns-in_err-write-clause-halts c = exits _ c.from_residual-in_err-write.ensures.1 (halts_into (chained c.loop-writes.invariant.far (took writes (a_token (sign 40) ∷ an_atom ∷ a_token (sign 41) ∷ a_name ∷ a_token (sign 91) ∷ an_atom ∷ a_token (sign 93) ∷ source (writes ∷ [])) (word (codes "if")) (subst (λ b. TriesOk (word (codes "if")) c.loop-writes.self c.takes.new.self b) c.if-branch.true c.in_ok-takes.ensures.tries) refl refl)) (halts_more (writes ∷ []) c.in_err-write.ensures.halts))

pub loop-writes-preserved : goal.loop-writes-preserved
loop-writes-preserved c = record {
  far =
      subst (λ xs. Leads (writes ∷ []) (flat_map write_tokens xs) (writes ∷ []) c.args.self.now c.write.new.self) (sym c.in_ok-push.ensures.items)
      (subst (λ gs. Leads (writes ∷ []) gs (writes ∷ []) c.args.self.now c.write.new.self) (sym (one_more write_tokens c.loop-writes.writes.items c.in_ok-write.field-0))
      (subst (λ gs. Leads (writes ∷ []) (flat_map write_tokens c.loop-writes.writes.items ++ gs) (writes ∷ []) c.args.self.now c.write.new.self) (sym c.in_ok-write.ensures.front)
      (once_more writes c.loop-writes.invariant.far (subst (λ b. TriesOk (word (codes "if")) c.loop-writes.self c.takes.new.self b) c.if-branch.true c.in_ok-takes.ensures.tries) refl refl c.in_ok-write.ensures.gives)));
  named =
      subst (λ xs. AreVerilogNames (flat_map write_names xs)) (sym c.in_ok-push.ensures.items)
      (subst AreVerilogNames (sym (one_more write_names c.loop-writes.writes.items c.in_ok-write.field-0)) (all_append IsName _ _ c.loop-writes.invariant.named c.in_ok-write.ensures.named));
  nearer = omega (arith, c.loop-writes.invariant.nearer, c.in_ok-takes.ensures.nearer, c.in_ok-write.ensures.nearer);
}

pub returns-in_err-token-clause-halts : goal.returns-in_err-token-clause-halts
returns-in_err-token-clause-halts c = exits _ c.from_residual-in_err-token.ensures.1 (halts_into (chained c.loop-writes.invariant.far (turned writes (a_token (word (codes "end")) ∷ []) (subst (λ b. TriesOk (word (codes "if")) c.loop-writes.self c.takes.new.self b) c.if-branch.false c.in_ok-takes.ensures.tries) no_write)) c.in_err-token.ensures.halts)

pub returns-clause-gives : goal.returns-clause-gives
returns-clause-gives c = subst (λ gs. Gives (writes ∷ []) (gs ++ word (codes "end") ∷ []) c.args.self.now c.token.new.self) (append-nil (flat_map write_tokens c.loop-writes.writes.items)) (chained (chained c.loop-writes.invariant.far (turned writes (a_token (word (codes "end")) ∷ []) (subst (λ b. TriesOk (word (codes "if")) c.loop-writes.self c.takes.new.self b) c.if-branch.false c.in_ok-takes.ensures.tries) no_write)) c.in_ok-token.ensures.gives)
