-- The bound of a condition stands for that of an element.
use Rattle.std.proofs.Common.{◌≡◌, ℕ, ◌<◌, ◌≤◌, ◌^◌, List, Option, Some, None, true, false, ap, ◌∙◌, subst, arith}
use Rattle.std.proofs.lemmas.Bool.Decides.{nat_tests}
use Rattle.fir_bits.specs.Literals.{holds_number, least_width}
use Rattle.fir_bits.specs.Values.{BitVector}
use Rattle.fir_bits.specs.working.Laws.{LeastWidthIsLeast}
use Rattle.fir_bits.specs.declared.operators.PrimOp.TheVariants.{And, Eq}
use Rattle.fir_meaning.specs.working.TermValues.{Holds}
use Rattle.fir_net.specs.declared.node.Node.{Node}
use Rattle.fir_connect.specs.working.Lowered.{both, is_number, unsigned_value}
use Rattle.fir_connect.specs.working.NetTerms.{NetTerm, value}
use Rattle.fir_merge.specs.declared.bound.Bound.{Bound}
use Rattle.fir_merge.specs.working.NodeTerms.{Grows}
use Rattle.fir_merge.specs.working.Bounds.{StandsFor, TestStands}
use Rattle.fir_merge.specs.working.Conditions.{ConditionStands, EarlierStands, NumberStands}
use Rattle.fir_merge.proofs.GrownTerms.{grows_more}
use Rattle.fir_merge.proofs.StandingValues.{stands_later}

-- a number of at most 128 bits fits into its least width
pub number_fits : LeastWidthIsLeast → (m : ℕ) → m < 2 ^ 128 → (least_width false false m ≤ 128) × (m < 2 ^ least_width false false m)
number_fits law m below =
    let is = law false false m in
    let whole : holds_number false 128 false m ≡ true = grind (arith, nat_tests) in
    let narrow : least_width false false m ≤ 128 = is.least 128 (omega arith) whole in
    let held : holds_number false (least_width false false m) false m ≡ true = is.holds narrow in
    (narrow, grind (arith, nat_tests))

-- without an earlier condition
pub first_condition : (old middle new : List Node) (index literal r : Bound) (n : ℕ) → Grows old middle → NumberStands middle n literal
    → TestStands middle new Eq index literal r → ConditionStands old new None index n r
first_condition old middle new index literal r n g number test = λ holds e i earlier stands. by holds e i earlier stands
  where
    by : (holds : Holds) (e : Option NetTerm) (i : NetTerm) → EarlierStands holds old None e → StandsFor holds old index i → StandsFor holds new r (both e (is_number i n))
    by holds None i earlier stands = test holds i (unsigned_value n) (stands_later holds old middle index i g stands) (number holds)
    by holds (Some t) i earlier stands = absurd earlier

-- with one
pub further_condition : (old middle later new : List Node) (earlier index literal equal r : Bound) (n : ℕ) → Grows old middle → Grows middle later
    → NumberStands middle n literal → TestStands middle later Eq index literal equal → TestStands later new And earlier equal r
    → ConditionStands old new (Some earlier) index n r
further_condition old middle later new earlier index literal equal r n g h number test whole = λ holds e i before stands. by holds e i before stands
  where
    by : (holds : Holds) (e : Option NetTerm) (i : NetTerm) → EarlierStands holds old (Some earlier) e → StandsFor holds old index i
        → StandsFor holds new r (both e (is_number i n))
    by holds None i before stands = absurd before
    by holds (Some t) i before stands =
        whole holds t (is_number i n) (stands_later holds old later earlier t (grows_more old middle later g h) before)
        (test holds i (unsigned_value n) (stands_later holds old middle index i g stands) (number holds))

abbrev of_width : ℕ → ℕ → BitVector
of_width n w = record { width = w; number = n }

-- a number at its least width
pub number_stands : (new : List Node) (r : Bound) (n w : ℕ) (v : BitVector) → v ≡ of_width n w → w ≡ least_width false false n
    → ((holds : Holds) → StandsFor holds new r (value (record { signed = false; value = v }))) → NumberStands new n r
number_stands new r n w v is width h = λ holds.
    subst (λ (b : BitVector). StandsFor holds new r (value (record { signed = false; value = b }))) (is ∙ ap (of_width n) width) (h holds)
