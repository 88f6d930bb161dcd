use Rattle.std.proofs.Common.{◌≡◌, ℕ, ◌<◌, List, ◌++◌, drop, length, sym, ap, ◌∙◌, subst, arith, rules, append-nil}
use Rattle.std.specs.List.{AllByRecursion}
use Rattle.std.proofs.lemmas.List.{drop_all}
use Rattle.fir_bits.specs.Values.{IsBitVector}
use Rattle.fir_tick.specs.working.Passes.{values_of}
use Rattle.fir_tick.proofs.Fits.{fit_at, fit_long, values_whole}
use Rattle.fir_tick.proofs.Passing.{values_more}
use Rattle.fir_tick.proofs.start.words_at.Goals as goal

pub bounds-words-j : goal.bounds-words-j
bounds-words-j c = let long = fit_long c.args.widths.now c.args.words.now c.requires.fits in omega arith

pub offset_bounds-words-j : goal.offset_bounds-words-j
offset_bounds-words-j c =
    let long = fit_long c.args.widths.now c.args.words.now c.requires.fits in
    let within : c.loop-j.j < length c.args.words.now = omega arith in
    search rules

pub of-requires-clause-below : goal.of-requires-clause-below
of-requires-clause-below c = fit_at c.args.widths.now c.args.words.now c.requires.fits c.loop-j.j c.loop-j-test.true

pub loop-j-preserved : goal.loop-j-preserved
loop-j-preserved c =
    let widths = c.args.widths.now in
    let words = c.args.words.now in
    let long = fit_long widths words c.requires.fits in
    let within : c.loop-j.j < length c.args.words.now = omega arith in
    rw (c.in_ok-push.ensures.items, c.of.ensures) (values_more widths words c.loop-j.state.items _ c.loop-j.j _ c.loop-j-test.true within c.loop-j.invariant)

pub returns-clause-whole : goal.returns-clause-whole
returns-clause-whole c =
    let widths = c.args.widths.now in
    let words = c.args.words.now in
    let state = c.loop-j.state.items in
    let none = ap (λ (ws : List ℕ). state ++ values_of ws (drop c.loop-j.j words)) (drop_all c.loop-j.j widths c.loop-j-test.false) in
    let all : state ≡ values_of widths words = sym (none ∙ append-nil state) ∙ c.loop-j.invariant in
    subst (AllByRecursion IsBitVector) (sym all) (values_whole widths words c.requires.fits c.requires.narrow)
