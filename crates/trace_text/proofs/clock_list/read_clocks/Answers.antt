use Rattle.std.proofs.Common.{refl, sym, ◌∙◌, subst, nat_eq, rules, arith}
use Rattle.trace_text.specs.Spelling.{is_decimal, decimal_of, listed}
use Rattle.trace_text.specs.working.ClockLists.{ClocksAreRead}
use Rattle.trace_text.proofs.PieceBytes.{split_bytes, bytes_ahead}
use Rattle.trace_text.proofs.ClockPieces.{low_behind, low_is, misspelled, falling, rising, none_left}
use Rattle.trace_text.proofs.ListPieces.{next_piece, no_piece}
use Rattle.trace_text.proofs.ReadNumbers.{read_number}
use Rattle.trace_text.proofs.clock_list.read_clocks.Goals as goal

pub loop-digits-init : goal.loop-digits-init
loop-digits-init c = record {
  left = refl;
  before = tt;
  named = omega arith;
  place = omega (arith, split_bytes (λ b. nat_eq b 44) c.args.word.now);
  read = record { within = omega arith; absent = refl; named = λ none. refl };
}

pub returns-in-Misspelled-clause-read : goal.returns-in-Misspelled-clause-read
returns-in-Misspelled-clause-read c =
    let split = c.split-digits-items.ensures in
    let ahead = next_piece _ 44 c.args.word.now c.into_iter-digits-iterator.ensures.into_iter_gives split.rest split.done split.closure (λ x b q k. search rules)
    c.loop-digits.yielded _ c.loop-digits.yielded_by _ _ c.in-Some.digits c.in-Some.is c.next.ensures.steps in
    sym (misspelled (low_behind c.loop-digits.before) _ _ c.in-Some.digits.now _ ahead c.loop-digits.invariant.left c.in-Misspelled.ensures)

pub returns-then-not-is_greater : goal.returns-then-not-is_greater
returns-then-not-is_greater c =
    let split = c.split-digits-items.ensures in
    let ahead = next_piece _ 44 c.args.word.now c.into_iter-digits-iterator.ensures.into_iter_gives split.rest split.done split.closure (λ x b q k. search rules)
    c.loop-digits.yielded _ c.loop-digits.yielded_by _ _ c.in-Some.digits c.in-Some.is c.next.ensures.steps in
    let before = c.loop-digits.before in
    let falls = low_is before c.in-Some.digits.now _ c.is_greater.ensures ∙ c.if-not-is_greater.true in
    record { read = sym (falling (low_behind before) _ _ c.in-Some.digits.now _ ahead c.loop-digits.invariant.left falls); room = c.loop-digits.auto.room }

pub overflow_add-place-in-loop-digits : goal.overflow_add-place-in-loop-digits
overflow_add-place-in-loop-digits c =
    let split = c.split-digits-items.ensures in
    let ahead = next_piece _ 44 c.args.word.now c.into_iter-digits-iterator.ensures.into_iter_gives split.rest split.done split.closure (λ x b q k. search rules)
    c.loop-digits.yielded _ c.loop-digits.yielded_by _ _ c.in-Some.digits c.in-Some.is c.next.ensures.steps in
    omega (arith, c.loop-digits.invariant.place, bytes_ahead _ _ c.in-Some.digits.now ahead)

pub loop-digits-preserved : goal.loop-digits-preserved
loop-digits-preserved c =
    let split = c.split-digits-items.ensures in
    let ahead = next_piece _ 44 c.args.word.now c.into_iter-digits-iterator.ensures.into_iter_gives split.rest split.done split.closure (λ x b q k. search rules)
    c.loop-digits.yielded _ c.loop-digits.yielded_by _ _ c.in-Some.digits c.in-Some.is c.next.ensures.steps in
    let digits = c.in-Some.digits.now in
    let before = c.loop-digits.before in
    let invariant = c.loop-digits.invariant in
    let number = read_number (is_decimal digits) (decimal_of digits) c.read_decimal-number.result c.read_decimal-number.ensures c.in_default.not-Misspelled in
    let rises = low_is before digits _ c.is_greater.ensures ∙ c.if-not-is_greater.false in
    let pieces = listed c.args.word.now in
    record {
      left = rising (low_behind before) _ _ digits _ ahead invariant.left number.0 rises;
      before = record { spelled = number.0; number = number.1 };
      named = c.take.ensures.named;
      place = omega (arith, invariant.place, bytes_ahead _ _ digits ahead);
      read = c.take.ensures.read pieces _ (subst (λ left. ClocksAreRead pieces left c.loop-digits.place c.loop-digits.read c.loop-digits.room) ahead invariant.read);
    }

pub returns-clause-read : goal.returns-clause-read
returns-clause-read c =
    let split = c.split-digits-items.ensures in
    let none = no_piece _ 44 c.args.word.now c.into_iter-digits-iterator.ensures.into_iter_gives split.rest split.done split.closure (λ x b q k. search rules)
    c.loop-digits.yielded _ c.loop-digits.yielded_by _ _ c.in-None.is c.next.ensures.steps in
    let pieces = listed c.args.word.now in
    let invariant = c.loop-digits.invariant in
    let read = subst (λ left. ClocksAreRead pieces left c.loop-digits.place c.loop-digits.read c.loop-digits.room) none invariant.read in (
      sym (none_left (low_behind c.loop-digits.before) _ _ none invariant.left),
      record { within = read.within; absent = read.absent; named = read.named },
    )
