use Rattle.std.proofs.Common.{◌≡◌, arith, true, false, sym, ◌∙◌, ap}
use Rattle.std.specs.Prelude.{is_some}
use Rattle.std.specs.BTreeMap.{get}
use Rattle.std.specs.Cmp.Lexicographic.{slice_cmp}
use Rattle.std.specs.Ordering.{nat_cmp}
use Rattle.trace_text.proofs.MappedPlaces.{place_few, place_more, places_more, once_more, twice}
use Rattle.trace_text.proofs.places.places_of.Goals as goal

pub overflow_add-place : goal.overflow_add-place
overflow_add-place c =
    let few = place_few c.args.state.now c.loop-word.word-index c.word-item.result c.loop-word-test.true c.word-item.is in
    omega (arith, few, c.loop-word.invariant.place)

pub returns-then-is_some-clause-twice : goal.returns-then-is_some-clause-twice
returns-then-is_some-clause-twice c = λ _ d.
    let known : is_some (get (slice_cmp nat_cmp) c.loop-word.places c.in_ok-copy.field-0) ≡ true = ap is_some (sym c.in_ok-insert.ensures.old) ∙ sym c.is_some.ensures ∙ c.if-is_some.true in
    twice c.args.state.now c.loop-word.word-index c.word-item.result c.loop-word-test.true c.word-item.is c.loop-word.places c.in_ok-copy.field-0 c.in_ok-copy.ensures known
    c.loop-word.invariant.places d

pub loop-word-preserved : goal.loop-word-preserved
loop-word-preserved c =
    let state = c.args.state.now in
    let i = c.loop-word.word-index in
    let word = c.word-item.result in
    let new : is_some (get (slice_cmp nat_cmp) c.loop-word.places c.in_ok-copy.field-0) ≡ false = ap is_some (sym c.in_ok-insert.ensures.old) ∙ sym c.is_some.ensures ∙ c.if-is_some.false in
    record {
      places = places_more state i word c.loop-word-test.true c.word-item.is c.loop-word.places c.insert.new.self c.in_ok-copy.field-0 c.loop-word.place c.in_ok-copy.ensures
          c.loop-word.invariant.place c.in_ok-insert.ensures.updates new c.loop-word.invariant.places;
      once = once_more state i word c.loop-word-test.true c.word-item.is c.loop-word.places c.in_ok-copy.field-0 c.in_ok-copy.ensures new c.loop-word.invariant.places c.loop-word.invariant.once;
      place = place_more state i word c.loop-word-test.true c.word-item.is c.loop-word.place c.size.result c.loop-word.invariant.place c.size.ensures;
    }
