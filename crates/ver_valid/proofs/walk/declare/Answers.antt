use Rattle.std.proofs.Common.{List, [], ◌∷◌, ◌++◌}
use Rattle.fir_base.specs.Lists.{In}
use Rattle.ver_valid.specs.working.Declarations.{Entry, entry_names, IsNarrow, IsNarrowKind}
use Rattle.ver_valid.specs.working.Scopes.{TellsOf}
use Rattle.ver_valid.proofs.Steps.{steps_declared}
use Rattle.ver_valid.proofs.walk.declare.Goals as goal

pub returns : goal.returns
returns c =
    λ es t more.
    let narrow = c.is_narrow.ensures.0 c.if-not-is_narrow.false in
    steps_declared c.declare.result (In (entry_names es) c.args.name.now → ⊥) (IsNarrow c.args.width)
    ((es : List Entry) → TellsOf c.args.scope.now es → IsNarrowKind c.args.declared → TellsOf c.declare.new.self (es ++ (c.args.name.now, c.args.declared) ∷ []))
    (TellsOf c.declare.new.self (es ++ (c.args.name.now, c.args.declared) ∷ [])) narrow (c.declare.ensures.fresh es t) (λ told. told es t (more narrow))
    c.declare.ensures.told
