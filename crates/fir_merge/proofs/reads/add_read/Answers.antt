use Rattle.std.proofs.Common.{◌<◌, ◌≤◌, List, length, rules, sym, subst}
use Rattle.std.proofs.lemmas.Result.{IfOk-weaker}
use Rattle.fir_merge.specs.declared.elements.Element.{Element}
use Rattle.fir_merge.specs.working.Elements.{ElementsBelow}
use Rattle.fir_merge.specs.working.Reads.{FirstMetStands, UnpickedStands}
use Rattle.fir_merge.proofs.GrownEntries.{elements_below_later, indices_below_later}
use Rattle.fir_merge.proofs.GrownTerms.{grows_more}
use Rattle.fir_merge.proofs.StandingElements.{AddsAll}
use Rattle.fir_merge.proofs.StandingReads.{read_picked, read_wide}
use Rattle.fir_merge.proofs.reads.add_read.Goals as goal

pub returns-then-ty-gt128-clause-stands : goal.returns-then-ty-gt128-clause-stands
returns-then-ty-gt128-clause-stands c =
    let some : 1 ≤ length c.args.indices.now = search rules in
    let wide : 128 < c.type_at-ty.result.width = search rules in
    read_wide c.args.net.now c.args.types.now c.args.leaf c.type_at-ty.result c.args.indices.now c.args.nothing.now some c.type_at-ty.ensures wide

pub add_unpicked-requires-clause-indices : goal.add_unpicked-requires-clause-indices
add_unpicked-requires-clause-indices c =
    let old = c.args.net.now in
    let grows = grows_more old c.add_elements.new.net c.add_zero.new.net c.in_ok-elements.ensures.0 c.in_ok-zero.ensures.grown.grows in
    indices_below_later old c.add_zero.new.net c.args.indices.now grows c.requires.indices

pub add_first_met-requires-clause-elements : goal.add_first_met-requires-clause-elements
add_first_met-requires-clause-elements c =
    let found = c.in_ok-elements.elements.items in
    let first = c.add_elements.new.net in
    let last = c.add_unpicked.new.net in
    let grows = grows_more first c.add_zero.new.net last c.in_ok-zero.ensures.grown.grows c.in_ok-other.ensures.grown.grows in
    subst (λ (l : List Element). ElementsBelow (length last) l) (sym c.deref-2.ensures.value)
    (elements_below_later first last found grows c.in_ok-elements.ensures.1)

pub returns-clause-grown : goal.returns-clause-grown
returns-clause-grown c =
    let old = c.args.net.now in
    let second = c.add_zero.new.net in
    let third = c.add_unpicked.new.net in
    let two = grows_more old c.add_elements.new.net second c.in_ok-elements.ensures.0 c.in_ok-zero.ensures.grown.grows in
    let three = grows_more old second third two c.in_ok-other.ensures.grown.grows in
    IfOk-weaker c.add_first_met.result _ _
    (λ r last. record { grows = grows_more old third c.add_first_met.new.net three last.grows; below = last.below }) c.add_first_met.ensures.grown

pub returns-clause-stands : goal.returns-clause-stands
returns-clause-stands c =
    let old = c.args.net.now in
    let first = c.add_elements.new.net in
    let second = c.add_zero.new.net in
    let third = c.add_unpicked.new.net in
    let new = c.add_first_met.new.net in
    let indices = c.args.indices.now in
    let found = c.in_ok-elements.elements.items in
    let zero = c.in_ok-zero.zero in
    let other = c.in_ok-other.other in
    let t = c.type_at-ty.result in
    let some : 1 ≤ length indices = search rules in
    let narrow : t.width ≤ 128 = search rules in
    let given = c.in_ok-elements.ensures in
    let all : AddsAll old first indices found = record { grows = given.0; below = given.1; stand = given.2 } in
    let unpicked = subst (λ (l : List Element). UnpickedStands second third indices l zero other) c.deref.ensures.value c.in_ok-other.ensures.stands in
    IfOk-weaker c.add_first_met.result _ _
    (λ r last.
    let met = subst (λ (l : List Element). FirstMetStands third new t c.args.leaf l other r) c.deref-2.ensures.value last in
    read_picked old first second third new c.args.types.now c.args.leaf t indices found c.args.nothing.now zero other r some c.type_at-ty.ensures narrow all
    c.in_ok-zero.ensures.grown.grows c.in_ok-zero.ensures.stands c.in_ok-other.ensures.grown.grows unpicked met) c.add_first_met.ensures.stands
