use Rattle.std.proofs.Common.{Option, sym, subst}
use Rattle.std.specs.Prelude.{IfOk}
use Rattle.std.proofs.lemmas.Result.{IfOk-weaker}
use Rattle.fir_merge.specs.declared.bound.Bound.{Bound}
use Rattle.fir_merge.specs.working.Conditions.{ConditionStands}
use Rattle.fir_merge.proofs.GrownTerms.{below_later, grows_more}
use Rattle.fir_merge.proofs.StandingConditions.{first_condition, further_condition}
use Rattle.fir_merge.proofs.indices.add_condition.Goals as goal

pub add_test-requires-clause-first : goal.add_test-requires-clause-first
add_test-requires-clause-first c =
    below_later c.args.net.now c.add_number.new.net c.args.index.read c.in_ok-literal.ensures.grown.grows c.requires.index

pub add_test-requires-in-Some-clause-first : goal.add_test-requires-in-Some-clause-first
add_test-requires-in-Some-clause-first c =
    let old = c.args.net.now in
    let later = c.add_test.new.net in
    let grows = grows_more old c.add_number.new.net later c.in_ok-literal.ensures.grown.grows c.in_ok-equal.ensures.grown.grows in
    below_later old later c.in-Some.earlier.read grows (rw c.in-Some.is at c.requires.earlier)

pub returns-in-None-clause-grown : goal.returns-in-None-clause-grown
returns-in-None-clause-grown c =
    let equal = c.in_ok-equal.ensures.grown in
    record { grows = grows_more c.args.net.now c.add_number.new.net c.add_test.new.net c.in_ok-literal.ensures.grown.grows equal.grows; below = equal.below }

pub returns-in-None-clause-stands : goal.returns-in-None-clause-stands
returns-in-None-clause-stands c =
    let old = c.args.net.now in
    let new = c.add_test.new.net in
    let literal = c.in_ok-literal.ensures in
    subst (λ (o : Option Bound). ConditionStands old new o c.args.index c.args.number c.in_ok-equal.equal) (sym c.in-None.is)
    (first_condition old c.add_number.new.net new c.args.index c.in_ok-literal.literal c.in_ok-equal.equal c.args.number literal.grown.grows literal.stands
    c.in_ok-equal.ensures.stands)

pub returns-in-Some-clause-grown : goal.returns-in-Some-clause-grown
returns-in-Some-clause-grown c =
    let old = c.args.net.now in
    let later = c.add_test.new.net in
    let grows = grows_more old c.add_number.new.net later c.in_ok-literal.ensures.grown.grows c.in_ok-equal.ensures.grown.grows in
    IfOk-weaker c.add_test-in-Some.result _ _
    (λ r last. record { grows = grows_more old later c.add_test-in-Some.new.net grows last.grows; below = last.below }) c.add_test-in-Some.ensures.grown

pub returns-in-Some-clause-stands : goal.returns-in-Some-clause-stands
returns-in-Some-clause-stands c =
    let old = c.args.net.now in
    let new = c.add_test-in-Some.new.net in
    let literal = c.in_ok-literal.ensures in
    let equal = c.in_ok-equal.ensures in
    subst (λ (o : Option Bound). IfOk c.add_test-in-Some.result (ConditionStands old new o c.args.index c.args.number)) (sym c.in-Some.is)
    (IfOk-weaker c.add_test-in-Some.result _ _
    (λ r last.
    further_condition old c.add_number.new.net c.add_test.new.net new c.in-Some.earlier c.args.index c.in_ok-literal.literal c.in_ok-equal.equal r c.args.number
    literal.grown.grows equal.grown.grows literal.stands equal.stands last) c.add_test-in-Some.ensures.stands)
