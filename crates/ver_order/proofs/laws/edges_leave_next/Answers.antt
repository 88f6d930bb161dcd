use Rattle.std.proofs.Common.{◌∙◌}
use Rattle.ver_order.proofs.Edges.{one_state, is_next, in_text_order}
use Rattle.ver_order.proofs.laws.edges_leave_next.Goals as goal

pub returns-clause-next : goal.returns-clause-next
returns-clause-next c v valid state tick env rest first second edge =
    let one = one_state v valid state tick env rest first second edge in
    (one, λ next e. one ∙ is_next v state tick env next e)

pub returns-clause-some : goal.returns-clause-some
returns-clause-some c v valid state tick env rest = (_, _, in_text_order v valid state tick env rest)
