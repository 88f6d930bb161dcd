use Rattle.std.proofs.Common.{◌≡◌, [], ◌∷◌, ◌++◌, length, true, map, refl, sym, ap, ◌∙◌}
use Rattle.std.proofs.lemmas.Bool.{eq-eqb, eqb-true}
use Rattle.fir_ast.specs.working.Views.{block_of, stmt_of}
use Rattle.fir_parse.specs.working.StatementTrees.{done_of, statements_before}
use Rattle.fir_parse.proofs.Sequences.{closes_first, closes_last, closes_none, none_left, when_with}
use Rattle.fir_parse.proofs.statements.Sequence.close.Goals as goal

pub loop-when-init : goal.loop-when-init
loop-when-init c = λ behind. refl

pub returns-then-is_empty-clause-closed : goal.returns-then-is_empty-clause-closed
returns-then-is_empty-clause-closed c =
    let none : length c.pop.new.self.items ≡ 0 = sym c.pop.new.self.ok.0 ∙ eqb-true _ _ (sym c.is_empty.ensures ∙ c.if-is_empty.true) in
    λ behind.
    closes_first c.loop-when.self.pending.items c.pop.new.self.items c.in-Some.when c.loop-when.last c.loop-when.self.done.items c.push.new.self.items behind
    c.in-Some.ensures.items (none_left _ none) c.in_ok-push.ensures.items
    ∙ c.loop-when.invariant behind

pub loop-when-preserved : goal.loop-when-preserved
loop-when-preserved c =
    let some : c.pop.new.self.items ≡ [] → ⊥ = λ e. let none : c.is_empty.result ≡ true = c.is_empty.ensures ∙ eq-eqb _ _ (c.pop.new.self.ok.0 ∙ ap length e) in cc (none, c.if-is_empty.false) in
    λ behind.
    sym (ap (statements_before (done_of c.loop-when.self)) (closes_last c.loop-when.self.pending.items c.pop.new.self.items c.in-Some.when c.loop-when.last c.push-in-Some.new.self.items behind
    c.in-Some.ensures.items some (c.in_ok-push-2.ensures.items ∙ ap (λ l. l ++ when_with c.in-Some.when c.loop-when.last ∷ []) c.new-last.ensures.items)))
    ∙ c.loop-when.invariant behind

pub returns-clause-closed : goal.returns-clause-closed
returns-clause-closed c =
    λ behind. closes_none (done_of c.loop-when.self) c.loop-when.self.pending.items (block_of (map stmt_of c.loop-when.last.items)) behind (sym c.loop-when.self.pending.ok.0 ∙ c.in_default.ensures.cases.0) ∙ c.loop-when.invariant behind
