use Rattle.std.proofs.Common.{[], ◌∷◌, ◌++◌, codes, refl, sym, ap, ◌∙◌, subst}
use Rattle.ver_ast.specs.Grammar.{item_tokens}
use Rattle.ver_ast.specs.Tokens.{word}
use Rattle.ver_parse.specs.working.Symbols.{items, an_item}
use Rattle.ver_parse.specs.working.Fixed.{TriesOk}
use Rattle.ver_parse.specs.working.Reads.{Leads}
use Rattle.ver_parse.proofs.Leading.{chained, beside, nearer, halts_into, halts_more, exits, ended, took, turned}
use Rattle.ver_parse.proofs.Turns.{an_item_more}
use Rattle.std.proofs.Common.{arith, flat_map}
use Rattle.std.proofs.lemmas.List.{append-nil}
use Rattle.std.specs.List.{AllByRecursion}
use Rattle.ver_ast.specs.Spells.{HasItemNames, HasNumberInType}
use Rattle.ver_parse.proofs.Loops.{all_append, one_more}
use Rattle.ver_parse.proofs.parser.Parser.items.Goals as goal

pub returns-in_err-takes-clause-halts : goal.returns-in_err-takes-clause-halts
returns-in_err-takes-clause-halts c = exits _ c.from_residual.ensures.1 (halts_into c.loop-items.invariant.far (ended items [] c.in_err-takes.ensures.tries))

pub returns-in_err-item-clause-halts : goal.returns-in_err-item-clause-halts
returns-in_err-item-clause-halts c = exits _ c.from_residual-in_err-item.ensures.1 (halts_into (chained c.loop-items.invariant.far (turned items (an_item ∷ items ∷ []) (subst (λ b. TriesOk (word (codes "endmodule")) c.loop-items.self c.takes.new.self b) c.if-not-branch.true c.in_ok-takes.ensures.tries) an_item_more)) (halts_more (items ∷ []) c.in_err-item.ensures.halts))

pub loop-items-preserved : goal.loop-items-preserved
loop-items-preserved c = record {
  far =
      subst (λ xs. Leads (items ∷ []) (flat_map item_tokens xs) (items ∷ []) c.args.self.now c.item.new.self) (sym c.in_ok-push.ensures.items)
      (subst (λ gs. Leads (items ∷ []) gs (items ∷ []) c.args.self.now c.item.new.self) (ap (λ gs. gs ++ item_tokens c.in_ok-item.field-0) (append-nil (flat_map item_tokens c.loop-items.items.items)) ∙ sym (one_more item_tokens c.loop-items.items.items c.in_ok-item.field-0))
      (chained (chained c.loop-items.invariant.far (turned items (an_item ∷ items ∷ []) (subst (λ b. TriesOk (word (codes "endmodule")) c.loop-items.self c.takes.new.self b) c.if-not-branch.true c.in_ok-takes.ensures.tries) an_item_more)) (beside (items ∷ []) c.in_ok-item.ensures.gives)));
  named = subst (AllByRecursion HasItemNames) (sym c.in_ok-push.ensures.items) (all_append HasItemNames _ _ c.loop-items.invariant.named (c.in_ok-item.ensures.named, tt));
  in_type = subst (AllByRecursion HasNumberInType) (sym c.in_ok-push.ensures.items) (all_append HasNumberInType _ _ c.loop-items.invariant.in_type (c.in_ok-item.ensures.in_type, tt));
  nearer = omega (arith, c.loop-items.invariant.nearer, c.in_ok-takes.ensures.nearer, c.in_ok-item.ensures.nearer);
}

pub returns-clause-gives : goal.returns-clause-gives
returns-clause-gives c = chained c.loop-items.invariant.far (took items [] (word (codes "endmodule")) (subst (λ b. TriesOk (word (codes "endmodule")) c.loop-items.self c.takes.new.self b) c.if-not-branch.false c.in_ok-takes.ensures.tries) refl refl)
