use Rattle.std.proofs.Common.{[], ◌∷◌, ◌++◌, map, refl, ap, ◌∙◌, arith}
use Rattle.std.proofs.lemmas.List.{append-nil}
use Rattle.fir_ast.specs.working.Views.{named_of}
use Rattle.fir_parse.specs.declared.lexeme.Lexeme.TheVariants.{LineEnd}
use Rattle.fir_parse.specs.Lexemes.{line_end}
use Rattle.fir_parse.specs.working.Reading.{read_on}
use Rattle.fir_parse.specs.working.Reads.{rest}
use Rattle.fir_parse.specs.working.States.{wants}
use Rattle.fir_parse.specs.working.Symbols.{a_name, more_names}
use Rattle.fir_parse.proofs.LoopReads.{pushed}
use Rattle.fir_parse.proofs.Plans.{exits_behind, found, takes_one}
use Rattle.fir_parse.proofs.ReadAlike.{one_name_more}
use Rattle.fir_parse.proofs.parser.Parser.more_names.Goals as goal
use Rattle.fir_parse.specs.Limits.{everywhere}

pub returns-in-LineEnd-clause-reads : goal.returns-in-LineEnd-clause-reads
returns-in-LineEnd-clause-reads c = λ end k.
    c.loop-self.invariant.alike end k
    ∙ takes_one more_names [] line_end _ _ _ (found _ c.peek-next.result LineEnd c.peek-next.ensures c.in-LineEnd.is) c.pass.ensures.rest refl end (λ ns. k (map named_of c.loop-self.names.items ++ ns))
    ∙ ap (λ ns. read_on everywhere end (k ns) (rest c.pass.new.self)) (append-nil (map named_of c.loop-self.names.items))

pub returns-in_err-name-in_default-clause-reads : goal.returns-in_err-name-in_default-clause-reads
returns-in_err-name-in_default-clause-reads c =
    exits_behind (λ k. wants more_names (λ ns. k (map named_of c.args.before.items ++ ns))) (wants a_name) (λ ns. map named_of ns.items) _ _ _ c.from_residual.result _
    (λ k n. wants more_names (λ ns. k (map named_of c.loop-self.names.items ++ n ∷ ns))) c.from_residual.ensures.1
    (λ end k.
    c.loop-self.invariant.alike end k
    ∙ one_name_more _ c.peek-next.result.lexeme c.peek-next.result.place c.peek-next.ensures c.in_default.not-LineEnd end (λ ns. k (map named_of c.loop-self.names.items ++ ns)))
    c.in_err-name-in_default.ensures.reads

pub loop-self-preserved : goal.loop-self-preserved
loop-self-preserved c = record {
  alike = λ end k.
      c.loop-self.invariant.alike end k
      ∙ one_name_more _ c.peek-next.result.lexeme c.peek-next.result.place c.peek-next.ensures c.in_default.not-LineEnd end (λ ns. k (map named_of c.loop-self.names.items ++ ns))
      ∙ c.in_ok-name-in_default.ensures.reads end _
      ∙ pushed (λ h. wants more_names h) named_of c.loop-self.names.items _ c.in_ok-name-in_default.name c.in_ok-push-in_default.ensures.items end k _;
  nearer = omega (arith, c.in_ok-name-in_default.ensures.nearer);
}
