use Rattle.std.proofs.Common.{[], sym}
use Rattle.fir_ast.specs.working.Views.{named_of}
use Rattle.fir_meaning.specs.Mentions.{declares, names_declared}
use Rattle.fir_names.proofs.FirstMentions.{head_silent}
use Rattle.fir_resolve.proofs.PassedMentions.{is_new, passes_silent}
use Rattle.fir_resolve.proofs.statements.declare.Goals as goal

pub returns : goal.returns
returns c = λ modules before component w is.
    let n = named_of c.args.ident.now in
    let first = c.in_ok-fault.ensures modules before w in
    passes_silent _ _ _ _ _ (sym (head_silent c.in_ok-fault.field-0 (declares (names_declared before) n) [] c.in_default.is first))
    (c.in_ok-declare.ensures.walks modules before component w (is_new before n c.in_ok-fault.field-0 c.in_default.is first) is) c.declare.ensures.still_open
