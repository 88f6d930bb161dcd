use Rattle.std.proofs.Common.{ℕ, ◌++◌, List, ap, ◌∙◌}
use Rattle.fir_lex.specs.working.Lexed.{closed_at}
use Rattle.fir_lex.specs.working.Steps.{tokens_in}
use Rattle.fir_lex.proofs.Lexing.{end_left_at_line, end_left_in_line}
use Rattle.fir_lex.proofs.lexer.Lexer.end.Goals as goal

pub returns-then-self-clause-tokens : goal.returns-then-self-clause-tokens
returns-then-self-clause-tokens c =
    end_left_at_line c.args.self.now (tokens_in c.close.new.draft) c.requires c.if-self.true
    (c.in_ok-close.ensures.tokens ∙ ap (λ (levels : List ℕ). tokens_in c.args.self.now.draft ++ closed_at c.args.self.now.cursor.place levels) c.as_slice.ensures.value)

pub returns-clause-tokens : goal.returns-clause-tokens
returns-clause-tokens c =
    end_left_in_line c.args.self.now (tokens_in c.push_bare.new.self) (tokens_in c.close-2.new.draft) c.requires c.if-self.false c.in_ok-push_bare.ensures.tokens
    (c.in_ok-close-2.ensures.tokens ∙ ap (λ (levels : List ℕ). tokens_in c.push_bare.new.self ++ closed_at c.args.self.now.cursor.place levels) c.as_slice-2.ensures.value)
