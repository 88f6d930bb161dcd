-- Numbers in their places: each then stands at its place, and all else is as before.
use Rattle.std.proofs.Common.{◌≡◌, ℕ, ◌^◌, ◌<◌, List, [], ◌∷◌, length, map, set, take, refl, sym, ap, ◌∙◌, subst, arith, option_map, unwrap_or, length-set}
use Rattle.std.specs.Prelude.{slice_get, Option, Some, None}
use Rattle.std.specs.List.{AllByRecursion}
use Rattle.fir_base.specs.Ticks.{FitEach}
use Rattle.fir_base.specs.Lists.{In, Distinct}
use Rattle.fir_base.proofs.Each.{all_from}
use Rattle.fir_bits.specs.Values.{BitVector, IsBitVector}
use Rattle.fir_bits.specs.Forms.{no_type}
use Rattle.fir_net.specs.declared.reads.Read.TheVariants as read
use Rattle.fir_net.specs.declared.leaf.Leaf.{Leaf}
use Rattle.fir_net.specs.declared.net.FlatNet.{FlatNet}
use Rattle.fir_net.specs.working.Values.{leaf_width, type_of_leaf}
use Rattle.fir_work.specs.working.Numbers.{number_at}
use Rattle.fir_tick.specs.declared.plan.InputPlan.{InputPlan}
use Rattle.fir_tick.specs.declared.plan.RegisterPlan.{RegisterPlan}
use Rattle.fir_work.specs.working.Held.{IsHeld}
use Rattle.fir_tick.specs.working.Views.{numbers, widths}
use Rattle.fir_tick.specs.working.Passes.{values_of, placed, with_inputs, with_state, input_leaf, register_leaf}
use Rattle.fir_work.proofs.HeldNumbers.{put_same, put_other, still_held}

-- a number that is none of these
abbrev pub Apart : ℕ → List ℕ → Type 0
Apart k = AllByRecursion (λ n. n ≡ k → ⊥)

-- one that is not among them
apart_from : (k : ℕ) (ks : List ℕ) → (In ks k → ⊥) → Apart k ks
apart_from k ks new = all_from (λ n. n ≡ k → ⊥) ks (λ n m e. new (subst (In ks) e m))

pub placed_other : (ks vs ns : List ℕ) (k : ℕ) → Apart k ks → number_at (placed ks vs ns) k ≡ number_at ns k
placed_other [] vs ns k h = refl
placed_other (n ∷ ks) [] ns k h = refl
placed_other (n ∷ ks) (v ∷ vs) ns k h = placed_other ks vs (set ns n v) k h.1 ∙ put_other ns n v k h.0

-- where no place is taken twice
pub placed_here : (ks vs ns : List ℕ) → Distinct ks → AllByRecursion (λ k. k < length ns) ks → length ks ≡ length vs → map (number_at (placed ks vs ns)) ks ≡ vs
placed_here [] [] ns once within long = refl
placed_here [] (v ∷ vs) ns once within long = cc
placed_here (k ∷ ks) [] ns once within long = cc
placed_here (k ∷ ks) (v ∷ vs) ns once within long =
    let same : length ns ≡ length (set ns k v) = sym (length-set ns k v) in
    let here = placed_other ks vs (set ns k v) k (apart_from k ks once.0) ∙ put_same ns k v within.0 in
    let rest = placed_here ks vs (set ns k v) once.1 (subst (λ (n : ℕ). AllByRecursion (λ j. j < n) ks) same within.1) (let e : length ks ≡ length vs = omega arith in e) in
    rw (here, rest) refl

-- only so many as there are places
pub placed_front : (ks vs ns : List ℕ) → placed ks vs ns ≡ placed ks (take (length ks) vs) ns
placed_front [] vs ns = refl
placed_front (k ∷ ks) [] ns = refl
placed_front (k ∷ ks) (v ∷ vs) ns = placed_front ks vs (set ns k v)

-- what stands apart is as before
pub placed_elsewhere : (ks vs ns others : List ℕ) → AllByRecursion (λ k. Apart k ks) others → map (number_at (placed ks vs ns)) others ≡ map (number_at ns) others
placed_elsewhere ks vs ns [] h = refl
placed_elsewhere ks vs ns (k ∷ others) h =
    let here = placed_other ks vs ns k h.0 in
    let rest = placed_elsewhere ks vs ns others h.1 in
    rw (here, rest) refl

type_wide : (o : Option Leaf) → (unwrap_or (option_map type_of_leaf o) no_type).width ≡ unwrap_or (option_map (λ (l : Leaf). l.width) o) 0
type_wide None = refl
type_wide (Some l) = refl

-- numbers of the leaves' widths at leaves leave all of their widths
pub placed_held : (net : FlatNet) (ks vs ns : List ℕ) → AllByRecursion (λ k. k < length net.leaves) ks → FitEach (map (leaf_width net.leaves) ks) vs → IsHeld net ns → IsHeld net (placed ks vs ns)
placed_held net [] vs ns within fit held = held
placed_held net (k ∷ ks) [] ns within fit held = held
placed_held net (k ∷ ks) (v ∷ vs) ns within fit held =
    placed_held net ks vs (set ns k v) within.1 fit.1 (still_held net ns held (read.Leaf k) within.0 v (subst (λ (w : ℕ). v < 2 ^ w) (sym (type_wide (slice_get net.leaves k))) fit.0))

-- the passes place numbers
pub inputs_placed : (ps : List InputPlan) (vs ns : List ℕ) → with_inputs ps vs ns ≡ placed (map input_leaf ps) vs ns
inputs_placed [] vs ns = refl
inputs_placed (p ∷ ps) [] ns = refl
inputs_placed (p ∷ ps) (v ∷ vs) ns = inputs_placed ps vs (set ns p.leaf v)

pub state_placed : (ps : List RegisterPlan) (vs : List BitVector) (ns : List ℕ) → with_state ps vs ns ≡ placed (map register_leaf ps) (numbers vs) ns
state_placed [] vs ns = refl
state_placed (p ∷ ps) [] ns = refl
state_placed (p ∷ ps) (v ∷ vs) ns = state_placed ps vs (set ns p.leaf v.number)

-- numbers that fit widths, as values
pub values_numbers : (ws ns : List ℕ) → FitEach ws ns → numbers (values_of ws ns) ≡ ns
values_numbers [] [] h = refl
values_numbers [] (n ∷ ns) h = absurd h
values_numbers (w ∷ ws) [] h = absurd h
values_numbers (w ∷ ws) (n ∷ ns) h = ap (λ r. n ∷ r) (values_numbers ws ns h.1)

pub values_widths : (ws ns : List ℕ) → FitEach ws ns → widths (values_of ws ns) ≡ ws
values_widths [] [] h = refl
values_widths [] (n ∷ ns) h = absurd h
values_widths (w ∷ ws) [] h = absurd h
values_widths (w ∷ ws) (n ∷ ns) h = ap (λ r. w ∷ r) (values_widths ws ns h.1)

-- values of a list's widths fit it
pub whole_fit : (vs : List BitVector) → AllByRecursion IsBitVector vs → FitEach (widths vs) (numbers vs)
whole_fit [] h = tt
whole_fit (v ∷ vs) h = (h.0.below, whole_fit vs h.1)
