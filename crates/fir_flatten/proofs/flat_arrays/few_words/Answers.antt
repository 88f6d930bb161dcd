-- A sum that stops at the greatest number is above the most.
use Rattle.std.proofs.Common.{◌≡◌, ℕ, ◌+◌, ◌<◌, ◌≤◌, min, List, length, get_or, take, Option, Some, None, slice_get, option_map, unwrap_or, refl, ap, ◌∙◌, arith}
use Rattle.std.specs.List.{sum_by}
use Rattle.std.proofs.lemmas.List.Sums.{sum_by_more}
use Rattle.std.proofs.lemmas.Option.{slice_get_past, slice_get_read}
use Rattle.fir_net.specs.declared.array.Array.{Array}
use Rattle.fir_net.specs.working.Arrays.{words_of}
use Rattle.fir_flatten.proofs.flat_arrays.few_words.Goals.{in-Some, in_default}
use Rattle.fir_flatten.proofs.flat_arrays.few_words.Goals as goal

more_words : (f : ℕ → ℕ) (order : List ℕ) (i count new words : ℕ) → i < length order → (count ≤ 4194304 → sum_by f (take i order) ≤ count)
    → f (get_or order i 0) ≡ words → new ≡ min (count + words) 18446744073709551615 → new ≤ 4194304 → sum_by f (take (i + 1) order) ≤ new
more_words f order i count new words lt so_far one is few =
    let below : count ≤ 4194304 = omega (arith, is, few) in
    let before = so_far below in
    let more = sum_by_more f order i 0 lt in
    omega (arith, before, more, one, is, few)

words_there : (arrays : List Array) (k : ℕ) (o : Option Array) → slice_get arrays k ≡ o → words_of arrays k ≡ unwrap_or (option_map (λ (a : Array). a.words) o) 0
words_there arrays k o e = ap (λ (p : Option Array). unwrap_or (option_map (λ (a : Array). a.words) p) 0) e

pub loop-number-preserved : goal.loop-number-preserved
loop-number-preserved c =
    let arrays = c.args.arrays.now in
    let order = c.args.order.now in
    let i = c.loop-number.number-index in
    let k = get_or order i 0 in
    elim c.match-get.branch [
      | in-Some w ↦
          let found = w.in-Some.ensures.lookup in
          let a = w.in-Some.array.now in
          more_words (words_of arrays) order i c.loop-number.count c.match-get.count a.words c.loop-number-test.true c.loop-number.invariant
          (words_there arrays k (Some a) (slice_get_read arrays (length arrays) k a refl found.3.0 found.1)) (w.count-is ∙ w.saturating_add-count.ensures)
      | in_default w ↦
          let found = w.in_default.ensures.lookup in
          λ few.
          let lt = c.loop-number-test.true in
          let before = c.loop-number.invariant (omega (arith, w.count-is, few)) in
          let none : words_of arrays k ≡ 0 = words_there arrays k None (slice_get_past arrays k found.3) in
          let more = sum_by_more (words_of arrays) order i 0 lt in
          omega (arith, before, more, none, w.count-is, few)
    ]
