use Rattle.std.proofs.Common.{◌≡◌, ℕ, ◌+◌, ◌<◌, ◌≤◌, ◌++◌, true, false, length, sym, subst, arith}
use Rattle.std.specs.Prelude.{decimal}
use Rattle.fir_net_names.specs.working.NameSets.{has}
use Rattle.fir_net_names.proofs.Untaken.{taken_more, last_is_free}
use Rattle.fir_net_names.proofs.numbered.first_untaken.Goals as goal

pub loop-number-preserved : goal.loop-number-preserved
loop-number-preserved c =
    let here : has c.args.taken.now c.in_ok-name.name ≡ true = sym c.if-not-contains.ensures in
    taken_more c.args.taken.now c.args.front.now c.args.from c.loop-number.number c.in_ok-name.name c.loop-number.invariant c.in_ok-name.ensures here

pub returns : goal.returns
returns c =
    let set = c.args.taken.now in
    let front = c.args.front.now in
    let last = c.args.from + c.len.result in
    let many : last ≡ c.args.from + length set.keys = omega arith in
    let taken : (k : ℕ) → c.args.from ≤ k → k < last → has set (front ++ decimal k) ≡ true = λ k low high. c.loop-number.invariant k low (omega arith) in
    let free : has set (front ++ decimal last) ≡ false = last_is_free set front c.args.from last many (omega arith) taken in
    record {
      low = omega arith;
      high = omega arith;
      few = omega arith;
      is = c.in_ok-with_number.ensures;
      free = subst (λ n. has set n ≡ false) (sym c.in_ok-with_number.ensures) free;
      before = taken;
    }
