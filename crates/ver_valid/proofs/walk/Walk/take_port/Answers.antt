use Rattle.std.proofs.Common.{List, [], ◌∷◌, ◌++◌, refl, sym, subst}
use Rattle.ver_valid.specs.declared.declared.Declared.{Declared}
use Rattle.ver_valid.specs.working.Declarations.{Entry, entries, IsNarrowKind}
use Rattle.ver_valid.specs.working.Scopes.{TellsOf}
use Rattle.ver_valid.specs.working.Walks.{IsFresh, IsNextPort, Reflects, with_ports}
use Rattle.ver_valid.proofs.Steps.{steps_judged, reflects_port, if_ok}
use Rattle.ver_valid.proofs.walk.Walk.take_port.Goals as goal

pub returns : goal.returns
returns c =
    λ v none r.
    let old = c.args.self.now in
    let new = record old { scope = c.declare.new.self } in
    let p = c.args.port.now in
    let narrow = c.is_port_narrow.ensures.0 c.if-not-is_port_narrow.false in
    let kind = c.port_declared.ensures in
    steps_judged c.declare.result (IsFresh v p.name) (IsNextPort v p) (Reflects new (with_ports v (p ∷ [])))
    (λ fresh. record { fresh = fresh; narrow = narrow.0; plain = narrow.1 }) (λ h. h.fresh) (c.declare.ensures.fresh (entries v) r.tells)
    (if_ok c.declare.result ((es : List Entry) → TellsOf c.args.self.now.scope es → IsNarrowKind c.port_declared.result
    → TellsOf c.declare.new.self (es ++ (c.args.port.now.name, c.port_declared.result) ∷ [])) (Reflects new (with_ports v (p ∷ []))) (λ told. reflects_port old new v p none r
    (subst (λ (d : Declared). TellsOf c.declare.new.self (entries v ++ (p.name, d) ∷ [])) kind
    (told (entries v) r.tells (subst IsNarrowKind (sym kind) narrow.0))) refl refl refl) c.declare.ensures.told)
