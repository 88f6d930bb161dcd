-- One length behind a type.
use Rattle.std.proofs.Common.{ap, sym, ◌∙◌, ◌+◌}
use Rattle.fir_ast.specs.Types.{vector}
use Rattle.fir_ast.specs.working.TypeViews.{type_of}
use Rattle.fir_parse.specs.working.Symbols.{dimensions}
use Rattle.fir_parse.specs.working.States.{wants, opens}
use Rattle.fir_parse.specs.working.Reads.{rest}
use Rattle.fir_parse.proofs.Plans.{opened, opened_too_many, exits_before}
use Rattle.fir_parse.proofs.TypeReads.{begins_dimension, open_dimension, closed_dimension, ended_at, too_tall_at, same_dimensions}
use Rattle.fir_parse.proofs.TypeViews.{vector_view}
use Rattle.fir_parse.proofs.parser.Parser.dimension.Goals as goal

pub returns-in_err-open-clause-reads : goal.returns-in_err-open-clause-reads
returns-in_err-open-clause-reads c =
    exits_before _ _ _ _ _ _ c.from_residual.result _ _ c.from_residual.ensures.1
    (begins_dimension c.args.depth (type_of c.args.element.tree) _ _ c.requires.at_hand.1)
    c.in_err-open.ensures.reads

pub returns-in_err-open_one-clause-reads : goal.returns-in_err-open_one-clause-reads
returns-in_err-open_one-clause-reads c =
    exits_before _ (λ k. opens c.args.depth c.in_ok-open.open (open_dimension c.args.depth (type_of c.args.element.tree) k)) _ _ _ _ c.from_residual-in_err-open_one.result _ (λ k. k) c.from_residual-in_err-open_one.ensures.1
    (λ end k.
    begins_dimension c.args.depth (type_of c.args.element.tree) _ _ c.requires.at_hand.1 end k
    ∙ c.in_ok-open.ensures.reads end _)
    (opened_too_many c.args.depth c.in_ok-open.open (open_dimension c.args.depth (type_of c.args.element.tree)) _ _ c.in_err-open_one.ensures.opens)

pub returns-in_err-length-clause-reads : goal.returns-in_err-length-clause-reads
returns-in_err-length-clause-reads c =
    exits_before _ _ _ _ _ _ c.from_residual-in_err-length.result _ _ c.from_residual-in_err-length.ensures.1
    (λ end k.
    begins_dimension c.args.depth (type_of c.args.element.tree) _ _ c.requires.at_hand.1 end k
    ∙ c.in_ok-open.ensures.reads end _
    ∙ opened c.args.depth c.in_ok-open.open _ end _ c.in_ok-open_one.ensures.opens)
    c.in_err-length.ensures.reads

pub returns-in_err-close-clause-reads : goal.returns-in_err-close-clause-reads
returns-in_err-close-clause-reads c =
    exits_before _ _ _ _ _ _ c.from_residual-in_err-close.result _ _ c.from_residual-in_err-close.ensures.1
    (λ end k.
    begins_dimension c.args.depth (type_of c.args.element.tree) _ _ c.requires.at_hand.1 end k
    ∙ c.in_ok-open.ensures.reads end _
    ∙ opened c.args.depth c.in_ok-open.open _ end _ c.in_ok-open_one.ensures.opens
    ∙ c.in_ok-length.ensures.reads end _)
    c.in_err-close.ensures.reads

pub returns-in_err-end_form-clause-reads : goal.returns-in_err-end_form-clause-reads
returns-in_err-end_form-clause-reads c =
    exits_before _ (closed_dimension c.args.depth (type_of c.args.element.tree) c.in_ok-length.length.number c.in_ok-close.close) _ _ _ _ c.from_residual-in_err-end_form.result _ (λ k. k) c.from_residual-in_err-end_form.ensures.1
    (λ end k.
    begins_dimension c.args.depth (type_of c.args.element.tree) _ _ c.requires.at_hand.1 end k
    ∙ c.in_ok-open.ensures.reads end _
    ∙ opened c.args.depth c.in_ok-open.open _ end _ c.in_ok-open_one.ensures.opens
    ∙ c.in_ok-length.ensures.reads end _
    ∙ c.in_ok-close.ensures.reads end _)
    (too_tall_at (c.args.element.height + 1) _ (ap (λ n. n + 1) c.requires.high.0) c.in_ok-close.close (λ k. wants (dimensions c.args.depth (vector (type_of c.args.element.tree) c.in_ok-length.length.number)) k) _ _ c.in_err-end_form.ensures.ends)

pub returns-clause-reads : goal.returns-clause-reads
returns-clause-reads c = λ end k.
    begins_dimension c.args.depth (type_of c.args.element.tree) _ _ c.requires.at_hand.1 end k
    ∙ c.in_ok-open.ensures.reads end _
    ∙ opened c.args.depth c.in_ok-open.open _ end _ c.in_ok-open_one.ensures.opens
    ∙ c.in_ok-length.ensures.reads end _
    ∙ c.in_ok-close.ensures.reads end _
    ∙ ended_at (c.args.element.height + 1) _ (ap (λ n. n + 1) c.requires.high.0) c.in_ok-close.close _ end _ c.in_ok-end_form.ensures.ends
    ∙ same_dimensions c.args.depth _ _ (ap (λ t. vector (type_of t) c.in_ok-length.length.number) (sym c.in_ok-new.ensures.ok) ∙ sym (vector_view c.in_ok-new.field-0 c.in_ok-length.length.number)) end k (rest c.mark-2.new.self)
