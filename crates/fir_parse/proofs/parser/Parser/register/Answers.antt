use Rattle.std.proofs.Common.{option_map, sym, ap, ◌∙◌}
use Rattle.fir_ast.specs.declared.statements.Register.{Register}
use Rattle.fir_ast.specs.Statements.{Statement, register}
use Rattle.fir_ast.specs.working.Views.{expr_of, named_of, reset_of}
use Rattle.fir_ast.specs.working.TypeViews.{type_of}
use Rattle.fir_parse.specs.Limits.{everywhere}
use Rattle.fir_parse.specs.working.PartPlans.{timing_plan, TimingTree}
use Rattle.fir_parse.specs.working.Reading.{read_on}
use Rattle.fir_parse.specs.working.Reads.{rest}
use Rattle.fir_parse.specs.working.States.{State}
use Rattle.fir_parse.specs.working.Symbols.{TypeTree}
use Rattle.fir_parse.proofs.Plans.{exits_behind}
use Rattle.fir_parse.proofs.StatementViews.{register_view}
use Rattle.fir_parse.proofs.parser.Parser.register.Goals as goal

pub returns-in_err-timing-clause-reads : goal.returns-in_err-timing-clause-reads
returns-in_err-timing-clause-reads c =
    exits_behind _ (λ k. timing_plan c.args.depth k) _ _ _ _ c.from_residual-in_err-timing.result _
    (λ (k : Statement → State) (x : TimingTree). k (register c.args.place (named_of c.args.ident) c.in_ok-ty.ty.tree.place (type_of c.in_ok-ty.ty.tree.ty) x.clock x.reset))
    c.from_residual-in_err-timing.ensures.1
    (λ end k. c.in_ok-mark.ensures.reads end _
    ∙ c.in_ok-ty.ensures.reads end (λ (t : TypeTree). timing_plan c.args.depth (λ (x : TimingTree). k (register c.args.place (named_of c.args.ident) t.place t.data_type x.clock x.reset))))
    c.in_err-timing.ensures.reads

pub returns-clause-reads : goal.returns-clause-reads
returns-clause-reads c = λ end k.
    c.in_ok-mark.ensures.reads end _
    ∙ c.in_ok-ty.ensures.reads end (λ (t : TypeTree). timing_plan c.args.depth (λ (x : TimingTree). k (register c.args.place (named_of c.args.ident) t.place t.data_type x.clock x.reset)))
    ∙ c.in_ok-timing.ensures.reads end (λ (x : TimingTree). k (register c.args.place (named_of c.args.ident) c.in_ok-ty.ty.tree.place (type_of c.in_ok-ty.ty.tree.ty) x.clock x.reset))
    ∙ ap (λ s. read_on everywhere end (k s) (rest c.timing.new.self))
    (ap (λ (r : Register). register c.args.place (named_of r.ident) r.type_place (type_of r.ty) (expr_of r.clock) (option_map reset_of r.reset)) (sym c.in_ok-new.ensures.ok) ∙ sym (register_view c.args.place c.in_ok-new.field-0))
