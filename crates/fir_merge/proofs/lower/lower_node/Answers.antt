use Rattle.std.proofs.Common.{ℕ, List, length, map, sym, ap, ◌∙◌, subst}
use Rattle.std.proofs.lemmas.Result.{IfOk-weaker}
use Rattle.fir_leaf.specs.working.Nodes.{entries, entry_at, picks_at, term_in}
use Rattle.fir_meaning.specs.working.Terms.{terms_of}
use Rattle.fir_merge.specs.declared.bound.Bound.{Bound}
use Rattle.fir_merge.specs.declared.index.Index.{Index}
use Rattle.fir_merge.specs.working.Bounds.{EachBelow, OperationStands, types_in}
use Rattle.fir_merge.specs.working.Entries.{IndicesBelow, IndicesStand, value_in}
use Rattle.fir_merge.specs.working.Made.{made, made_each}
use Rattle.fir_merge.proofs.GrownTerms.{grows_none}
use Rattle.fir_merge.proofs.StandingEntries.{value_below, value_is, value_stands, values_below, values_stand}
use Rattle.fir_merge.proofs.lower.lower_node.Goals as goal

pub add_absent-requires-clause-indices : goal.add_absent-requires-clause-indices
add_absent-requires-clause-indices c =
    subst (λ (xs : List Index). IndicesBelow (length c.args.net.now) xs) (sym c.deref.ensures.value)
    (c.in_ok-indices-in-Absent.ensures.below (length c.args.net.now) c.requires.bounds)

pub add_read-requires-clause-indices : goal.add_read-requires-clause-indices
add_read-requires-clause-indices c =
    subst (λ (xs : List Index). IndicesBelow (length c.args.net.now) xs) (sym c.deref-in-Read.ensures.value)
    (c.in_ok-indices-in-Read.ensures.below (length c.args.net.now) c.requires.bounds)

pub add_operation-requires : goal.add_operation-requires
add_operation-requires c =
    let value = value_in c.args.before.now c.args.bounds.now c.args.nothing.now in
    let all = c.deref-in-Operation-2.ensures.value ∙ c.in_ok-operands-in-Operation.ensures in
    subst (λ (bs : List Bound). EachBelow (length c.args.net.now) bs) (sym all)
    (values_below (length c.args.net.now) c.args.before.now c.args.bounds.now c.args.nothing.now _ c.requires.bounds c.requires.nothing)

pub add_choice-requires-clause-condition : goal.add_choice-requires-clause-condition
add_choice-requires-clause-condition c =
    rw c.value_at-c.ensures
    (value_below (length c.args.net.now) c.args.before.now c.args.bounds.now c.args.nothing.now c.in-Mux.c c.requires.bounds c.requires.nothing)

pub add_choice-requires-clause-first : goal.add_choice-requires-clause-first
add_choice-requires-clause-first c =
    rw c.value_at-a.ensures
    (value_below (length c.args.net.now) c.args.before.now c.args.bounds.now c.args.nothing.now c.in-Mux.a c.requires.bounds c.requires.nothing)

pub add_choice-requires-clause-second : goal.add_choice-requires-clause-second
add_choice-requires-clause-second c =
    rw c.value_at-b.ensures
    (value_below (length c.args.net.now) c.args.before.now c.args.bounds.now c.args.nothing.now c.in-Mux.b c.requires.bounds c.requires.nothing)

pub add_validif-requires-clause-condition : goal.add_validif-requires-clause-condition
add_validif-requires-clause-condition c =
    rw c.value_at-c-in-Validif.ensures
    (value_below (length c.args.net.now) c.args.before.now c.args.bounds.now c.args.nothing.now c.in-Validif.c c.requires.bounds c.requires.nothing)

pub add_validif-requires-clause-value : goal.add_validif-requires-clause-value
add_validif-requires-clause-value c =
    rw c.value_at-a-in-Validif.ensures
    (value_below (length c.args.net.now) c.args.before.now c.args.bounds.now c.args.nothing.now c.in-Validif.a c.requires.bounds c.requires.nothing)

pub returns-in-Pick-clause-grown : goal.returns-in-Pick-clause-grown
returns-in-Pick-clause-grown c =
    rw c.value_at.ensures (record {
      grows = grows_none c.args.net.now;
      below = value_below (length c.args.net.now) c.args.before.now c.args.bounds.now c.args.nothing.now c.in-Pick.pick.index c.requires.bounds
          c.requires.nothing;
    })

pub returns-in-Pick-clause-stands : goal.returns-in-Pick-clause-stands
returns-in-Pick-clause-stands c =
    rw (c.in-Pick.is, c.value_at.ensures) (λ nothing h.
    value_stands (types_in c.args.types.now) c.args.net.now c.args.before.now c.args.bounds.now c.args.nothing.now c.in-Pick.pick.index h nothing)

pub returns-in_ok-indices-in-Absent-clause-stands : goal.returns-in_ok-indices-in-Absent-clause-stands
returns-in_ok-indices-in-Absent-clause-stands c =
    let holds = types_in c.args.types.now in
    let old = c.args.net.now in
    let known = entries c.args.before.now in
    let picks = picks_at known c.in-Absent.picks in
    rw c.in-Absent.is
    (IfOk-weaker c.add_absent.result _ _
    (λ r made_so nothing h.
    let there = subst (λ (xs : List Index). IndicesStand holds old xs picks) (sym c.deref.ensures.value) (c.in_ok-indices-in-Absent.ensures.stand holds old h) in
    made_so holds picks nothing there) c.add_absent.ensures.stands)

pub returns-in-Literal-clause-stands : goal.returns-in-Literal-clause-stands
returns-in-Literal-clause-stands c =
    rw c.in-Literal.is
    (IfOk-weaker c.add_literal.result _ _ (λ r made_so nothing h. made_so (types_in c.args.types.now) nothing) c.add_literal.ensures.stands)

pub returns-in_ok-indices-in-Read-clause-stands : goal.returns-in_ok-indices-in-Read-clause-stands
returns-in_ok-indices-in-Read-clause-stands c =
    let holds = types_in c.args.types.now in
    let old = c.args.net.now in
    let known = entries c.args.before.now in
    let picks = picks_at known c.in-Read.picks in
    rw c.in-Read.is
    (IfOk-weaker c.add_read.result _ _
    (λ r made_so nothing h.
    let there = subst (λ (xs : List Index). IndicesStand holds old xs picks) (sym c.deref-in-Read.ensures.value) (c.in_ok-indices-in-Read.ensures.stand holds old h) in
    made_so picks nothing there) c.add_read.ensures.stands)

pub returns-in_ok-operands-in-Operation-clause-stands : goal.returns-in_ok-operands-in-Operation-clause-stands
returns-in_ok-operands-in-Operation-clause-stands c =
    let holds = types_in c.args.types.now in
    let old = c.args.net.now in
    let new = c.add_operation.new.net in
    let before = c.args.before.now in
    let bounds = c.args.bounds.now in
    let op = c.in-Operation.op in
    let places = c.in-Operation.operands.items in
    let found = c.deref-in-Operation-2.ensures.value ∙ c.in_ok-operands-in-Operation.ensures
    ∙ ap (map (value_in before bounds c.args.nothing.now)) c.deref-in-Operation.ensures.value in
    rw c.in-Operation.is
    (IfOk-weaker c.add_operation.result _ _
    (λ r made_so nothing h.
    let integers = subst (λ (ks : List ℕ). OperationStands old new op c.deref-in-Operation-2.result.now ks r) c.deref-in-Operation-3.ensures.value made_so in
    let stands = subst (λ (bs : List Bound). OperationStands old new op bs c.in-Operation.integers.items r) found integers in
    stands holds (made_each holds (terms_of (map (λ i. term_in (entry_at (entries before) i)) places)))
    (values_stand holds old before bounds c.args.nothing.now places h nothing)) c.add_operation.ensures.stands)

pub returns-in-Mux-clause-stands : goal.returns-in-Mux-clause-stands
returns-in-Mux-clause-stands c =
    let holds = types_in c.args.types.now in
    let old = c.args.net.now in
    let before = c.args.before.now in
    let bounds = c.args.bounds.now in
    let zero = c.args.nothing.now in
    let there = λ (i : ℕ). made holds (term_in (entry_at (entries before) i)) in
    rw c.in-Mux.is
    (IfOk-weaker c.add_choice.result _ _
    (λ r made_so nothing h.
    made_so holds (there c.in-Mux.c) (there c.in-Mux.a) (there c.in-Mux.b)
    (value_is holds old before bounds zero c.in-Mux.c c.value_at-c.result h nothing c.value_at-c.ensures)
    (value_is holds old before bounds zero c.in-Mux.a c.value_at-a.result h nothing c.value_at-a.ensures)
    (value_is holds old before bounds zero c.in-Mux.b c.value_at-b.result h nothing c.value_at-b.ensures)) c.add_choice.ensures.stands)

pub returns-in-Validif-clause-stands : goal.returns-in-Validif-clause-stands
returns-in-Validif-clause-stands c =
    let holds = types_in c.args.types.now in
    let old = c.args.net.now in
    let before = c.args.before.now in
    let bounds = c.args.bounds.now in
    let zero = c.args.nothing.now in
    let there = λ (i : ℕ). made holds (term_in (entry_at (entries before) i)) in
    rw c.in-Validif.is
    (IfOk-weaker c.add_validif.result _ _
    (λ r made_so nothing h.
    made_so holds (there c.in-Validif.c) (there c.in-Validif.a) nothing
    (value_is holds old before bounds zero c.in-Validif.c c.value_at-c-in-Validif.result h nothing c.value_at-c-in-Validif.ensures)
    (value_is holds old before bounds zero c.in-Validif.a c.value_at-a-in-Validif.result h nothing c.value_at-a-in-Validif.ensures))
    c.add_validif.ensures.stands)
