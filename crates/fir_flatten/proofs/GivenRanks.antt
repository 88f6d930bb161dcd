-- Which of two leaves comes first, by their numbers in a module and in the circuit.
use Rattle.std.proofs.Common.{◌≡◌, ℕ, ◌+◌, ◌<◌, ◌≤◌, Bool, true, false, nat_eq, nat_lt, ◌&&◌, ◌||◌, not, refl, arith}
use Rattle.std.proofs.lemmas.Bool.{eqb-true, lt-ltb, ltb-false, ltb-true}
use Rattle.fir_ast.specs.declared.place.Place.{Place}
use Rattle.fir_meaning.specs.Lack.{is_before}
use Rattle.fir_meaning.specs.SourceRanks.{comes_before}
use Rattle.fir_meaning.specs.working.Numberings.{Numbering, number}
use Rattle.fir_leaf.proofs.MovedTerms.{number_own, number_port}
use Rattle.fir_flatten.specs.working.ClockTold.{rank}

-- numbers rise with the leaves of a module whose ports stand before its other leaves
pub number_less : (n : Numbering) → n.first + n.ports ≤ n.own → (x z : ℕ) → number n x < number n z → x < z
number_less n apart x z lt = by (nat_lt x n.ports) (nat_lt z n.ports) refl refl
  where
    by : (a b : Bool) → nat_lt x n.ports ≡ a → nat_lt z n.ports ≡ b → x < z
    by true true e f = omega (arith, number_port n x (ltb-true x n.ports e), number_port n z (ltb-true z n.ports f), lt)
    by true false e f = let low = ltb-true x n.ports e in let high = ltb-false z n.ports f in omega (arith, low, high)
    by false true e f =
        let high = ltb-false x n.ports e in
        let low = ltb-true z n.ports f in
        omega (arith, number_own n x high, number_port n z low, lt, apart, low)
    by false false e f =
        let high = ltb-false x n.ports e in
        let low = ltb-false z n.ports f in
        omega (arith, number_own n x high, number_own n z low, lt, high, low)

none_before : (a b c d e f : Bool) → (d ≡ true → f ≡ true → e ≡ true) → (a || not b && (c || d && e)) ≡ false → (a || not b && (c || d && f)) ≡ false
none_before true b c d e f h is = is
none_before false true c d e f h is = refl
none_before false false true d e f h is = is
none_before false false false false e f h is = refl
none_before false false false true e false h is = refl
none_before false false false true e true h is = absurd (let both = h refl refl in cc)

pub later : (p q : Place) (i j x z v w : ℕ) → (i ≡ j → v < w → x < z) → comes_before (rank p i x) (rank q j z) ≡ false
    → comes_before (rank p i v) (rank q j w) ≡ false
later p q i j x z v w h is =
    none_before (is_before p q) (is_before q p) (nat_lt i j) (nat_eq i j) (nat_lt x z) (nat_lt v w)
    (λ same less. lt-ltb x z (h (eqb-true i j same) (ltb-true v w less))) is
