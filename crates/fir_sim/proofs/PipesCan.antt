-- Each pipe of a whole net can take its word, which has its width.
use Rattle.std.proofs.Common.{◌≡◌, ℕ, zero, suc, ◌+◌, ◌<◌, ◌≤◌, List, [], ◌∷◌, length, map, Bool, true, false, nat_eq, nat_lt, Option, Some, None, refl, sym, ap, ◌∙◌, subst, arith, unwrap_or, option_map, length-append}
use Rattle.std.specs.Prelude.{slice_get}
use Rattle.std.specs.List.{AllByRecursion}
use Rattle.std.proofs.lemmas.Bool.{and_parts, eqb-false}
use Rattle.std.proofs.lemmas.Bool.Decides.{nat_tests}
use Rattle.std.proofs.lemmas.List.{length-map}
use Rattle.std.proofs.lemmas.Option.{slice_get_within}
use Rattle.fir_base.specs.Lists.{In}
use Rattle.fir_base.specs.Ticks.{FitEach}
use Rattle.fir_base.proofs.Elements.{all_there, get_left}
use Rattle.fir_net.specs.declared.array.Array.{Array}
use Rattle.fir_net.specs.declared.leaf.Leaf.{Leaf}
use Rattle.fir_net.specs.declared.leaf.Role.TheVariants as role
use Rattle.fir_net.specs.declared.net.FlatNet.{FlatNet}
use Rattle.fir_net.specs.working.Arrays.{array_widths, begin_of, word_width, words_of}
use Rattle.fir_net.specs.working.IsNet.{IsAddressed, IsLeaf, IsNet, IsReadOf}
use Rattle.fir_net.specs.working.Settled.{registers, shape}
use Rattle.fir_net.specs.working.Values.{leaf_width}
use Rattle.fir_net.proofs.LeafEquations.{driven_at}
use Rattle.fir_net.proofs.StateWords.{state_at}
use Rattle.fir_net.proofs.WholeValues.{width_at}
use Rattle.fir_work.specs.working.Numbers.{number_at}
use Rattle.fir_tick.specs.declared.pipe_plans.PipePlan.{PipePlan}
use Rattle.fir_tick.specs.declared.spans.ArraySpan.{ArraySpan}
use Rattle.fir_tick.specs.working.ArrayReads.{is_found}
use Rattle.fir_tick.specs.working.ArraySpans.{span_at}
use Rattle.fir_tick.specs.working.PipePlans.{ArePipePlans, IsPipePlan}
use Rattle.fir_tick.specs.working.PipeReads.{CanPipe}
use Rattle.fir_tick.proofs.ArrayPlaces.{span_within, word_wide}
use Rattle.fir_tick.proofs.Fits.{fit_long}
use Rattle.fir_tick.proofs.PipeLists.{pipes_each}
use Rattle.fir_sim.proofs.PipesTaken.{KeepsWord}
use Rattle.fir_sim.proofs.WordsLeft.{stands_in_order}

mapped_at : (f : ℕ → ℕ) (ks : List ℕ) (i k : ℕ) → slice_get ks i ≡ Some k → slice_get (map f ks) i ≡ Some (f k)
mapped_at f [] i k e = cc
mapped_at f (j ∷ ks) zero k e = let same : j ≡ k = cc in ap (λ (m : ℕ). Some (f m)) same
mapped_at f (j ∷ ks) (suc i) k e = mapped_at f ks i k e

module _ (net : FlatNet) (whole : IsNet net) (roots : List (Option ℕ)) (is_new : Bool) where
  -- what the net says of a pipe
  module _ (place k : ℕ) (p : PipePlan) (is : IsPipePlan net roots is_new place k p) where
    pub addressed : IsAddressed net.leaves net.nodes is.pipe.read.address is.pipe.read.enable
    addressed = (driven_at net whole k is.leaf (role.Pipe is.pipe) is.at is.kind).1

    of : IsReadOf net.arrays is.leaf is.pipe.read
    of = whole.pipes k is.leaf is.pipe is.at is.kind

    narrow : is.leaf.width ≤ 128
    narrow = (all_there (IsLeaf net.leaves net.nodes) net.leaves whole.leaves k is.leaf is.at).narrow

    wide : word_width net.arrays is.pipe.read.array ≡ p.width
    wide = ap (λ (o : Option Array). unwrap_or (option_map (λ (a : Array). a.width) o) 0) of.1 ∙ of.2 ∙ sym is.width

    -- its array has bits where it is a word of the state
    pub has_array : slice_get net.state place ≡ Some k → In net.array_order is.pipe.read.array
    has_array at =
        let word = state_at whole.state place k at in
        let same : Some is.leaf ≡ Some word.leaf = sym is.at ∙ word.at in
        let one : is.leaf ≡ word.leaf = cc in
        let bits : nat_eq is.leaf.width 0 ≡ false = ap (λ (l : Leaf). nat_eq l.width 0) one ∙ word.bits in
        let some = eqb-false is.leaf.width 0 bits in
        let own = of.2 in
        stands_in_order net whole is.pipe.read.array of.0 of.1 (omega (arith, own, some))

  module _ (ps : List PipePlan) (are : ArePipePlans net roots is_new 0 (registers net) ps) where
    each : (P : PipePlan → Type 0) → ((place k : ℕ) (p : PipePlan) → slice_get net.state place ≡ Some k → IsPipePlan net roots is_new place k p → P p) → AllByRecursion P ps
    each P h = pipes_each net roots is_new P net.state h (registers net) 0 ps are (λ j k e. let plain : 0 + j ≡ j = omega arith in ap (slice_get net.state) plain ∙ e)

    pub pipes_can : (state : List ℕ) → FitEach (shape net).state state → (room : ℕ) → length state ≡ room → AllByRecursion (CanPipe room) ps
    pipes_can state fits room long = each (CanPipe room) can
      where
        can : (place k : ℕ) (p : PipePlan) → slice_get net.state place ≡ Some k → IsPipePlan net roots is_new place k p → CanPipe room p
        can place k p at is =
            let there = slice_get_within net.state place k at in
            let all = fit_long (shape net).state state fits in
            let joined = length-append (map (leaf_width net.leaves) (registers net)) (array_widths net) in
            let mapped = length-map (registers net) (leaf_width net.leaves) in
            let stands = is.stands in
            record {
              place = omega (arith, there, all, joined, mapped, long, stands);
              within = subst (λ (s : ArraySpan). s.begin + s.words ≤ room) (sym is.read.span) (let inside = span_within net is.pipe.read.array state fits in omega (arith, inside, long));
              narrow = subst (λ (w : ℕ). w ≤ 128) (sym is.width) (narrow place k p is);
            }

    pub pipes_keep : (named ns : List ℕ) → AllByRecursion (KeepsWord ns named (shape net).state) ps
    pipes_keep named ns = each (KeepsWord ns named (shape net).state) keep
      where
        keep : (place k : ℕ) (p : PipePlan) → slice_get net.state place ≡ Some k → IsPipePlan net roots is_new place k p → KeepsWord ns named (shape net).state p
        keep place k p at is = record { place = own; found = λ test. go (begin_of net array) refl is.read.span test }
          where
            array : ℕ
            array = is.pipe.read.array

            within : place < length (map (leaf_width net.leaves) (registers net))
            within = let there = slice_get_within net.state place k at in let mapped = length-map (registers net) (leaf_width net.leaves) in omega (arith, there, mapped)

            own : slice_get (shape net).state p.place ≡ Some p.width
            own =
                ap (slice_get (shape net).state) is.stands ∙ get_left (map (leaf_width net.leaves) (registers net)) (array_widths net) place within
                ∙ mapped_at (leaf_width net.leaves) (registers net) place k at ∙ ap (λ (w : ℕ). Some w) (width_at net.leaves k is.leaf is.at ∙ sym is.width)

            go : (o : Option ℕ) → begin_of net array ≡ o → p.read.span ≡ span_at (words_of net.arrays array) o → is_found p.read ns ≡ true
                → slice_get (shape net).state (p.read.span.begin + number_at ns p.read.address) ≡ Some p.width
            go None e span test =
                let none : p.read.span.words ≡ 0 = ap (λ (s : ArraySpan). s.words) span in
                let inside = (and_parts (nat_eq (number_at ns p.read.enable) 1) (nat_lt (number_at ns p.read.address) p.read.span.words) test).1 in
                absurd (grind (arith, nat_tests))
            go (Some begin) e span test =
                let words : p.read.span.words ≡ words_of net.arrays array = ap (λ (s : ArraySpan). s.words) span in
                let begins : p.read.span.begin ≡ begin = ap (λ (s : ArraySpan). s.begin) span in
                let inside = (and_parts (nat_eq (number_at ns p.read.enable) 1) (nat_lt (number_at ns p.read.address) p.read.span.words) test).1 in
                let below : number_at ns p.read.address < words_of net.arrays array = grind (arith, nat_tests) in
                ap (λ (b : ℕ). slice_get (shape net).state (b + number_at ns p.read.address)) begins ∙ word_wide net array begin e (number_at ns p.read.address) below ∙ ap (λ (w : ℕ). Some w) (wide place k p is)
