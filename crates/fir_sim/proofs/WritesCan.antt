-- Each write of a whole net can be done, and leaves the words of their widths.
use Rattle.std.proofs.Common.{◌≡◌, ℕ, ◌+◌, ◌<◌, ◌≤◌, List, length, true, nat_lt, refl, sym, ap, ◌∙◌, subst, arith}
use Rattle.std.specs.Prelude.{slice_get, Option, Some, None}
use Rattle.std.specs.List.{AllByRecursion, AllZip}
use Rattle.std.proofs.lemmas.Bool.Decides.{nat_tests}
use Rattle.fir_base.specs.Ticks.{FitEach}
use Rattle.fir_bits.specs.working.Laws.{HasItsType}
use Rattle.fir_net.specs.declared.net.FlatNet.{FlatNet}
use Rattle.fir_net.specs.working.Arrays.{begin_of, word_width, words_of}
use Rattle.fir_net.specs.working.IsNet.{IsNet}
use Rattle.fir_net.specs.working.Laws.{NodesHaveTheirTypes}
use Rattle.fir_net.specs.working.Settled.{shape}
use Rattle.fir_work.specs.working.Held.{IsHeld}
use Rattle.fir_work.specs.working.Numbers.{number_at}
use Rattle.fir_tick.specs.declared.spans.ArraySpan.{ArraySpan}
use Rattle.fir_tick.specs.declared.write_plans.WritePlan.{WritePlan}
use Rattle.fir_tick.specs.working.ArraySpans.{span_at}
use Rattle.fir_tick.specs.working.ArrayWrites.{CanWrite}
use Rattle.fir_tick.specs.working.Passes.{Gives}
use Rattle.fir_tick.specs.working.WritePlans.{WriteOf, array_writes, IsWritePlan}
use Rattle.fir_tick.proofs.ArrayPlaces.{span_within, word_wide}
use Rattle.fir_tick.proofs.Lists.{pairs_left}
use Rattle.fir_sim.proofs.Words.{fit_gives}
use Rattle.fir_sim.proofs.Written.{KeepsWidth}

module _ (net : FlatNet) (roots : List (Option ℕ)) (ps : List WritePlan) (pairs : AllZip (IsWritePlan net roots) ps (array_writes net)) (named ns : List ℕ) where
  pub writes_can : HasItsType → NodesHaveTheirTypes → IsNet net → IsHeld net ns → (state : List ℕ) → FitEach (shape net).state state → (room : ℕ) → length state ≡ room → AllByRecursion (CanWrite net ns room) ps
  writes_can has types whole held state fits room long = pairs_left (IsWritePlan net roots) (CanWrite net ns room) can ps (array_writes net) pairs
    where
      can : (p : WritePlan) (w : WriteOf) → IsWritePlan net roots p w → CanWrite net ns room p
      can p w i = record {
        within = subst (λ (s : ArraySpan). s.begin + s.words ≤ room) (sym i.span) (let inside = span_within net w.array state fits in omega (arith, inside, long));
        narrow = subst (λ (n : ℕ). n ≤ 128) (sym i.width) i.narrow;
        given = subst (λ (n : ℕ). Gives net ns n p.given) (sym i.width) (fit_gives has types net whole ns held (word_width net.arrays w.array) w.write.given p.given i.can.given i.given);
      }

  pub writes_keep : AllByRecursion (KeepsWidth net ns named (shape net).state) ps
  writes_keep = pairs_left (IsWritePlan net roots) (KeepsWidth net ns named (shape net).state) keep ps (array_writes net) pairs
    where
      keep : (p : WritePlan) (w : WriteOf) → IsWritePlan net roots p w → KeepsWidth net ns named (shape net).state p
      keep p w i = record { keeps = λ within. go (begin_of net w.array) refl i.span within }
        where
          go : (o : Option ℕ) → begin_of net w.array ≡ o → p.span ≡ span_at (words_of net.arrays w.array) o → nat_lt (number_at ns p.address) p.span.words ≡ true
              → slice_get (shape net).state (p.span.begin + number_at ns p.address) ≡ Some p.width
          go None e is within =
              let none : p.span.words ≡ 0 = ap (λ (s : ArraySpan). s.words) is in
              absurd (grind (arith, nat_tests))
          go (Some place) e is within =
              let words : p.span.words ≡ words_of net.arrays w.array = ap (λ (s : ArraySpan). s.words) is in
              let begin : p.span.begin ≡ place = ap (λ (s : ArraySpan). s.begin) is in
              let below : number_at ns p.address < words_of net.arrays w.array = grind (arith, nat_tests) in
              ap (λ (b : ℕ). slice_get (shape net).state (b + number_at ns p.address)) begin ∙ word_wide net w.array place e (number_at ns p.address) below ∙ ap (λ (n : ℕ). Some n) (sym i.width)
