use Rattle.std.proofs.Common.{◌≡◌, List, refl, sym, ap, ◌∙◌}
use Rattle.fir_net.specs.declared.node.Node.{Node}
use Rattle.fir_net.specs.working.IsNet.{read_type}
use Rattle.fir_net.specs.working.Values.{type_of_leaf}
use Rattle.fir_fold.specs.working.Walking.{Walking, as_driver, literal_at, read_by}
use Rattle.fir_fold.proofs.ReadingLeaves.{reads_literal, same_types}
use Rattle.fir_fold.proofs.walk.Walk.read_for.Goals as goal

pub returns-in-Some-literal : goal.returns-in-Some-literal
returns-in-Some-literal c =
    let old = c.args.self.now in
    let d = c.in-Some.driver in
    let by : c.read-driver.result ≡ read_by old d = c.read-driver.ensures ∙ ap (λ (w : Walking). read_by w d) c.self.view_is in
    reads_literal c.args.leaves.now c.args.number c.args.leaf.now old c.put.new.self c.put.result d c.in-Some-literal.value c.fitted.result
    (sym c.driver.ensures ∙ c.in-Some.is) (ap (literal_at old.nodes) (sym by) ∙ sym c.literal.ensures ∙ c.in-Some-literal.is)
    c.fitted.ensures.value c.fitted.ensures.vector c.put.ensures

pub returns-in-None-literal : goal.returns-in-None-literal
returns-in-None-literal c =
    let old = c.args.self.now in
    let d = c.in-Some.driver in
    let by : c.read-driver.result ≡ read_by old d = c.read-driver.ensures ∙ ap (λ (w : Walking). read_by w d) c.self.view_is in
    let nodes : c.as_slice.result.now ≡ old.nodes = c.as_slice.ensures.keys ∙ ap (λ (w : Walking). w.nodes) c.self.view_is in
    let same = same_types c.read_type.result (type_of_leaf c.args.leaf.now) c.eq.result c.if-eq.true c.eq.ensures in
    as_driver d (sym c.driver.ensures ∙ c.in-Some.is) by
    (ap (read_type c.args.leaves.now old.nodes) (sym by) ∙ ap (λ (ns : List Node). read_type c.args.leaves.now ns c.read-driver.result) (sym nodes) ∙ sym c.read_type.ensures ∙ same)
    refl
