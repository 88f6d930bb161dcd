use Rattle.std.proofs.Common.{◌∙◌, sym, ap}
use Rattle.std.specs.BTreeMap.{get}
use Rattle.std.specs.Cmp.Lexicographic.{slice_cmp}
use Rattle.std.specs.Ordering.{nat_cmp}
use Rattle.fir_resolve.proofs.HeldNames.{holds_more}
use Rattle.fir_resolve.proofs.namespace.Namespace.declare.Goals as goal

pub returns-clause-held : goal.returns-clause-held
returns-clause-held c = λ none before held.
    let names = c.args.self.now in
    let missing = c.in_default.ensures.value ∙ ap (get (slice_cmp nat_cmp) names.first) (sym c.in_ok-copy.ensures) in
    rw (← c.in_ok-copy.ensures)
    (holds_more names (record { first = c.insert.new.self }) before c.args.place c.in_ok-copy.field-0 c.in_ok-insert.ensures.updates missing held)
