use Rattle.std.proofs.Common.{◌≡◌, [], ◌∷◌, ap, reverse, subst, sym, ◌∙◌}
use Rattle.std.proofs.lemmas.List.{nil_from_length, reverse-append}
use Rattle.fir_elaborate.specs.working.Walks.{Finds}
use Rattle.fir_elaborate.proofs.WalkSteps.{ended}
use Rattle.fir_elaborate.proofs.walk.elaborate.Goals as goal

pub take-requires : goal.take-requires
take-requires c = rw c.deref.ensures.value c.in_ok-held.ensures.held

pub loop-preserved : goal.loop-preserved
loop-preserved c = λ views d viewed lt design.
    let main = c.args.main in
    let walk = c.loop.walk in
    let rest = c.pop.new.self.items in
    let next = c.in-Some.next in
    let came : reverse walk.pending.items ≡ next ∷ reverse rest = ap reverse c.in-Some.ensures.items ∙ reverse-append rest (next ∷ []) in
    c.in_ok-take-in-Some.ensures views main d viewed
    (subst (λ ps. Finds views main d walk.found ps walk.free walk.free_array) came (c.loop.invariant views d viewed lt design))

pub returns-in-None : goal.returns-in-None
returns-in-None c = λ views d viewed lt design.
    let walk = c.loop.walk in
    let none : walk.pending.items ≡ [] = nil_from_length walk.pending.items (sym walk.pending.ok.0 ∙ c.in-None.ensures.cases.0) in
    ended views c.args.main d walk.found walk.free walk.free_array
    (subst (λ ps. Finds views c.args.main d walk.found (reverse ps) walk.free walk.free_array) none (c.loop.invariant views d viewed lt design))
