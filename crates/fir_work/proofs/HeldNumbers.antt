-- The numbers of leaves and nodes by their places: no two have one place, and a number of its width that is put at a place leaves all others.
use Rattle.std.proofs.Common.{◌≡◌, ℕ, zero, suc, ◌+◌, ◌^◌, ◌<◌, List, [], ◌∷◌, length, set, replicate, refl, sym, ap, ◌∙◌, subst, arith, unwrap_or, length-set}
use Rattle.std.specs.Prelude.{Option}
use Rattle.std.proofs.Math.Pow.{pow_pos}
use Rattle.std.proofs.lemmas.List.{length-replicate}
use Rattle.std.proofs.lemmas.Option.{slice_get_within}
use Rattle.fir_base.proofs.Writes.{write_same, write_other}
use Rattle.fir_bits.specs.declared.types.NumTy.{NumTy}
use Rattle.fir_net.specs.declared.reads.Read.{Read}
use Rattle.fir_net.specs.declared.reads.Read.TheVariants as read
use Rattle.fir_net.specs.declared.net.FlatNet.{FlatNet}
use Rattle.fir_net.specs.working.Dependence.{IsOf}
use Rattle.fir_net.specs.working.Laws.{LeavesFit}
use Rattle.fir_net.proofs.WholeValues.{type_at}
use Rattle.fir_work.specs.working.Numbers.{number_at, place, type_read}
use Rattle.fir_work.specs.working.Held.{IsHeld}

-- a number at a place, where one was put
put_at : (P : ℕ → Type 0) (ns : List ℕ) (k x j : ℕ) → (k ≡ j → P x) → P (number_at ns j) → P (number_at (set ns k x) j)
put_at P [] k x j h g = g
put_at P (n ∷ ns) zero x zero h g = h refl
put_at P (n ∷ ns) zero x (suc j) h g = g
put_at P (n ∷ ns) (suc k) x zero h g = g
put_at P (n ∷ ns) (suc k) x (suc j) h g = put_at P ns k x j (λ e. h (ap suc e)) g

pub put_same : (ns : List ℕ) (k x : ℕ) → k < length ns → number_at (set ns k x) k ≡ x
put_same ns k x lt = ap (λ (o : Option ℕ). unwrap_or o 0) (write_same ns k x lt)

pub put_other : (ns : List ℕ) (k x j : ℕ) → (k ≡ j → ⊥) → number_at (set ns k x) j ≡ number_at ns j
put_other ns k x j apart = ap (λ (o : Option ℕ). unwrap_or o 0) (write_other ns k x j (λ e. apart (sym e)))

zero_at : (n k : ℕ) → number_at (replicate n 0) k ≡ 0
zero_at zero k = refl
zero_at (suc n) zero = refl
zero_at (suc n) (suc k) = zero_at n k

module _ (net : FlatNet) where
  pub one_place : (v w : Read) → IsOf net v → IsOf net w → place net v ≡ place net w → w ≡ v
  one_place (read.Leaf k) (read.Leaf j) a b e = ap (λ (i : ℕ). read.Leaf i) (sym e)
  one_place (read.Leaf k) (read.Node j) a b e = absurd (omega (arith, a, e))
  one_place (read.Node k) (read.Leaf j) a b e = absurd (omega (arith, b, e))
  one_place (read.Node k) (read.Node j) a b e = let same : j ≡ k = omega (arith, e) in ap (λ (i : ℕ). read.Node i) same

  module _ (ns : List ℕ) (held : IsHeld net ns) where
    pub place_within : (v : Read) → IsOf net v → place net v < length ns
    place_within (read.Leaf k) a = let room = held.room in omega (arith, a, room)
    place_within (read.Node k) a = let room = held.room in omega (arith, a, room)

    pub leaves_fit : LeavesFit net.leaves (number_at ns)
    leaves_fit = record { each = λ k l at plain. subst (λ (t : NumTy). number_at ns k < 2 ^ t.width) (type_at net.leaves k l at) (held.fits (read.Leaf k) (slice_get_within net.leaves k l at)) }

    -- a number that was put at a leaf or a node is there, and all others stay
    module _ (v : Read) (of : IsOf net v) (x : ℕ) where
      pub number_here : number_at (set ns (place net v) x) (place net v) ≡ x
      number_here = put_same ns (place net v) x (place_within v of)

      pub number_there : (w : Read) → IsOf net w → (w ≡ v → ⊥) → number_at (set ns (place net v) x) (place net w) ≡ number_at ns (place net w)
      number_there w is apart = put_other ns (place net v) x (place net w) (λ e. apart (one_place v w of is e))

      pub still_held : x < 2 ^ (type_read net v).width → IsHeld net (set ns (place net v) x)
      still_held fit = record {
        room = length-set ns (place net v) x ∙ held.room;
        fits = λ w is.
            put_at (λ (n : ℕ). n < 2 ^ (type_read net w).width) ns (place net v) x (place net w)
            (λ e. subst (λ (u : Read). x < 2 ^ (type_read net u).width) (sym (one_place v w of is e)) fit)
            (held.fits w is);
      }

-- zeros
pub zeros_held : (net : FlatNet) → IsHeld net (replicate (length net.leaves + length net.nodes) 0)
zeros_held net = record {
  room = length-replicate (length net.leaves + length net.nodes) 0;
  fits = λ v of. subst (λ (n : ℕ). n < 2 ^ (type_read net v).width) (sym (zero_at (length net.leaves + length net.nodes) (place net v))) (pow_pos (type_read net v).width);
}
