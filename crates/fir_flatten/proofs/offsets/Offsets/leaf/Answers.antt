use Rattle.std.proofs.Common.{Bool, sym, ap, ◌∙◌}
use Rattle.std.specs.Prelude.{◌+◌, ◌-◌, if◌then◌else◌}
use Rattle.std.proofs.lemmas.Bool.{le-ltb, lt-ltb}
use Rattle.fir_flatten.specs.working.MovedNets.{saturated}
use Rattle.fir_flatten.proofs.offsets.Offsets.leaf.Goals as goal

pub returns-then-leaf-self : goal.returns-then-leaf-self
unfolding saturated
returns-then-leaf-self c =
    let at = c.args.self.now in
    let x = c.args.leaf in
    c.saturating_add.ensures
    ∙ ap (λ (b : Bool). saturated (if b then at.first + x else at.own + (x - at.ports))) (sym (lt-ltb x at.ports c.if-leaf-self.true))

pub returns-else-leaf-self : goal.returns-else-leaf-self
unfolding saturated
returns-else-leaf-self c =
    let at = c.args.self.now in
    let x = c.args.leaf in
    c.saturating_add-else-leaf-self.ensures
    ∙ ap (λ (b : Bool). saturated (if b then at.first + x else at.own + (x - at.ports))) (sym (le-ltb x at.ports c.if-leaf-self.false))
