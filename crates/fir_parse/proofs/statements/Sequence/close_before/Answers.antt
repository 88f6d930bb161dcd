use Rattle.std.proofs.Common.{◌≡◌, [], ◌∷◌, ◌++◌, map, sym, ap, ◌∙◌}
use Rattle.fir_ast.specs.Statements.{done, then}
use Rattle.fir_ast.specs.working.Views.{stmt_of, block_of}
use Rattle.fir_parse.specs.working.StatementRules.{closed_before}
use Rattle.fir_parse.specs.working.StatementTrees.{done_of, open_when_of, opens_of, statements_before}
use Rattle.fir_parse.proofs.Sequences.{done_longer, level_alike, no_opens}
use Rattle.fir_parse.proofs.statements.Sequence.close_before.Goals as goal

pub returns-clause-goes_on : goal.returns-clause-goes_on
returns-clause-goes_on c =
    let alone : c.push.new.self.items ≡ c.args.statement ∷ [] = c.in_ok-push.ensures.items ∙ ap (λ l. l ++ c.args.statement ∷ []) c.new-behind.ensures.items in
    λ d k.
    level_alike d [] (map open_when_of c.close.new.self.pending.items) (λ rest. statements_before (done_of c.args.self.now) (closed_before (opens_of c.args.self.now) done ((then) (stmt_of c.args.statement) rest))) (statements_before (map stmt_of c.append.new.self.items)) k
    (no_opens _ c.in_ok-close.ensures.none)
    (λ rest. sym (done_longer c.close.new.self.done.items c.append.new.self.items c.args.statement rest (c.in_ok-append.ensures.items ∙ ap (λ l. c.close.new.self.done.items ++ l) alone)
    ∙ c.in_ok-close.ensures.closed ((then) (stmt_of c.args.statement) rest)
    ∙ ap (λ l. statements_before (done_of c.args.self.now) (closed_before (opens_of c.args.self.now) (block_of (map stmt_of l)) ((then) (stmt_of c.args.statement) rest))) c.new.ensures.items))
