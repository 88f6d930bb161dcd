-- A test of settled values, and of whole runs: for a circuit that is written out it computes.
use Rattle.std.proofs.Common.{◌≡◌, ℕ, zero, suc, ◌+◌, ◌^◌, ◌<◌, ◌≤◌, List, [], ◌∷◌, length, map, Bool, true, false, ◌&&◌, Option, Some, None, nat_eq, nat_lt, nat_le, is_none, refl, ap, arith, ⊎_elim}
use Rattle.std.proofs.lemmas.Bool.{cases_lt}
use Rattle.fir_base.specs.Ticks.{AreClocks, FitEach, Tick, TickResult}
use Rattle.fir_meaning.specs.working.TermValues.{Env}
use Rattle.fir_meaning.specs.LeafTypes.{LeafType, a_clock, number}
use Rattle.fir_meaning.specs.working.LeafModules.{leaf_at}
use Rattle.fir_meaning.specs.working.LeafCircuits.{LeafCircuit, role_of}
use Rattle.fir_meaning.specs.working.LeafStates.{shape}
use Rattle.fir_meaning.specs.working.LeafSettled.{Settled, Shows, clock_shown, number_shown}
use Rattle.fir_meaning.specs.working.LeafNext.{next}
use Rattle.fir_meaning.specs.working.LeafAllows.{Run}

-- the values of leaves that are listed
abbrev pub number_in : List ℕ → ℕ → ℕ
number_in [] x = 0
number_in (v ∷ vs) zero = v
number_in (v ∷ vs) (suc x) = number_in vs x

abbrev pub clock_in : List (Option ℕ) → ℕ → Option ℕ
clock_in [] x = None
clock_in (v ∷ vs) zero = v
clock_in (v ∷ vs) (suc x) = clock_in vs x

abbrev pub env_of : List ℕ → List (Option ℕ) → Env
env_of numbers clocks = record { numbers = number_in numbers; clocks = clock_in clocks }

abbrev pub is_number : Option ℕ → ℕ → Bool
is_number None w = false
is_number (Some v) w = nat_eq v w

abbrev same_clock : Option ℕ → Option ℕ → Bool
same_clock None None = true
same_clock (Some v) (Some w) = nat_eq v w
same_clock _ _ = false

abbrev pub is_clock : Option (Option ℕ) → Option ℕ → Bool
is_clock None w = false
is_clock (Some v) w = same_clock v w

abbrev pub fit_each : List ℕ → List ℕ → Bool
fit_each [] [] = true
fit_each (w ∷ ws) (v ∷ vs) = nat_lt v (2 ^ w) && fit_each ws vs
fit_each _ _ = false

abbrev pub are_clocks : ℕ → ℕ → List ℕ → Bool
are_clocks low count [] = true
are_clocks low count (k ∷ ks) = nat_le low k && (nat_lt k count && are_clocks (k + 1) count ks)

abbrev number_shows : LeafCircuit → List ℕ → List ℕ → Env → ℕ → Bool
number_shows c state inputs env x = is_number (number_shown c state inputs env x (role_of c x)) (env.numbers x)

abbrev clock_shows : LeafCircuit → Env → ℕ → Bool
clock_shows c env x = is_clock (clock_shown c env x (role_of c x)) (env.clocks x)

abbrev shows : LeafCircuit → List ℕ → List ℕ → Env → ℕ → LeafType → Bool
shows c state inputs env x (number t) = number_shows c state inputs env x && (nat_lt (env.numbers x) (2 ^ t.width) && is_none (env.clocks x))
shows c state inputs env x a_clock = clock_shows c env x && nat_eq (env.numbers x) 0

abbrev shows_each : LeafCircuit → List ℕ → List ℕ → Env → ℕ → ℕ → Bool
shows_each c state inputs env k zero = true
shows_each c state inputs env k (suc n) = shows c state inputs env k (leaf_at c.leaves k).holds && shows_each c state inputs env (k + 1) n

abbrev has_values : LeafCircuit → List ℕ → List (Option ℕ) → Bool
has_values c numbers clocks = nat_eq (length numbers) (length c.leaves) && nat_eq (length clocks) (length c.leaves)

abbrev pub is_settled : LeafCircuit → List ℕ → Tick → List ℕ → List (Option ℕ) → Bool
is_settled c state tick numbers clocks =
    fit_each (shape c).inputs tick.inputs && (are_clocks 0 (shape c).clocks tick.clocks && (fit_each (shape c).state state
    && (shows_each c state tick.inputs (env_of numbers clocks) 0 (length c.leaves) && has_values c numbers clocks)))

pub left : (a b : Bool) → (a && b) ≡ true → a ≡ true
left true b e = refl
left false b e = absurd cc

pub right : (a b : Bool) → (a && b) ≡ true → b ≡ true
right true b e = e
right false b e = absurd cc

pub number_is : (o : Option ℕ) (w : ℕ) → is_number o w ≡ true → o ≡ Some w
number_is None w e = absurd cc
number_is (Some v) w e = let same : v ≡ w = grind arith in ap Some same

pub clock_is : (o : Option (Option ℕ)) (w : Option ℕ) → is_clock o w ≡ true → o ≡ Some w
clock_is None w e = absurd cc
clock_is (Some None) None e = refl
clock_is (Some None) (Some w) e = absurd cc
clock_is (Some (Some v)) None e = absurd cc
clock_is (Some (Some v)) (Some w) e = let same : v ≡ w = grind arith in ap (λ u. Some (Some u)) same

pub none_is : (o : Option ℕ) → is_none o ≡ true → o ≡ None
none_is None e = refl
none_is (Some v) e = absurd cc

pub fits : (ws vs : List ℕ) → fit_each ws vs ≡ true → FitEach ws vs
fits [] [] e = tt
fits [] (v ∷ vs) e = absurd cc
fits (w ∷ ws) [] e = absurd cc
fits (w ∷ ws) (v ∷ vs) e =
    let here = left (nat_lt v (2 ^ w)) (fit_each ws vs) e in
    ((grind arith), fits ws vs (right (nat_lt v (2 ^ w)) (fit_each ws vs) e))

pub clocks_are : (low count : ℕ) (ks : List ℕ) → are_clocks low count ks ≡ true → AreClocks low count ks
clocks_are low count [] e = tt
clocks_are low count (k ∷ ks) e =
    let here = left (nat_le low k) _ e in
    let rest = right (nat_le low k) _ e in
    let there = left (nat_lt k count) _ rest in
    ((grind arith), (grind arith), clocks_are (k + 1) count ks (right (nat_lt k count) _ rest))

past : (vs : List ℕ) (x : ℕ) → length vs ≤ x → number_in vs x ≡ 0
past [] x l = refl
past (v ∷ vs) zero l = absurd (omega (arith, l))
past (v ∷ vs) (suc x) l = past vs x (omega (arith, l))

past_clocks : (vs : List (Option ℕ)) (x : ℕ) → length vs ≤ x → clock_in vs x ≡ None
past_clocks [] x l = refl
past_clocks (v ∷ vs) zero l = absurd (omega (arith, l))
past_clocks (v ∷ vs) (suc x) l = past_clocks vs x (omega (arith, l))

module _ (c : LeafCircuit) (state inputs : List ℕ) (env : Env) where
  one_shows : (x : ℕ) (t : LeafType) → shows c state inputs env x t ≡ true → Shows c state inputs env x t
  one_shows x (number t) e =
      let rest = right (number_shows c state inputs env x) _ e in
      let below = left (nat_lt (env.numbers x) (2 ^ t.width)) _ rest in (
        number_is _ _ (left (number_shows c state inputs env x) _ e),
        (grind arith),
        none_is _ (right (nat_lt (env.numbers x) (2 ^ t.width)) _ rest),
      )
  one_shows x a_clock e =
      let zero_is = right (clock_shows c env x) _ e in
      (clock_is _ _ (left (clock_shows c env x) _ e), (grind arith))

  all_show : (k n x : ℕ) → shows_each c state inputs env k n ≡ true → k ≤ x → x < k + n → Shows c state inputs env x (leaf_at c.leaves x).holds
  all_show k zero x e l m = absurd (omega (arith, l, m))
  all_show k (suc n) x e l m =
      let this = shows c state inputs env k (leaf_at c.leaves k).holds in
      ⊎_elim
      (λ (h : k < x). all_show (k + 1) n x (right this _ e) (omega (arith, h)) (omega (arith, m)))
      (λ (h : x ≤ k). let same : k ≡ x = omega (arith, l, h) in rw (← same) (one_shows k (leaf_at c.leaves k).holds (left this _ e)))
      (cases_lt k x)

pub settled_by : (c : LeafCircuit) (state : List ℕ) (tick : Tick) (numbers : List ℕ) (clocks : List (Option ℕ))
    → is_settled c state tick numbers clocks ≡ true → Settled c state tick (env_of numbers clocks)
settled_by c state tick numbers clocks e =
    let inputs_fit = left (fit_each (shape c).inputs tick.inputs) _ e in
    let behind_inputs = right (fit_each (shape c).inputs tick.inputs) _ e in
    let clocks_rise = left (are_clocks 0 (shape c).clocks tick.clocks) _ behind_inputs in
    let behind_clocks = right (are_clocks 0 (shape c).clocks tick.clocks) _ behind_inputs in
    let state_fits = left (fit_each (shape c).state state) _ behind_clocks in
    let behind_state = right (fit_each (shape c).state state) _ behind_clocks in
    let leaves_show = left (shows_each c state tick.inputs (env_of numbers clocks) 0 (length c.leaves)) _ behind_state in
    let lengths = right (shows_each c state tick.inputs (env_of numbers clocks) 0 (length c.leaves)) _ behind_state in
    let of_numbers = left (nat_eq (length numbers) (length c.leaves)) _ lengths in
    let of_clocks = right (nat_eq (length numbers) (length c.leaves)) _ lengths in
    let long : length numbers ≡ length c.leaves = grind (arith, of_numbers) in
    let long_clocks : length clocks ≡ length c.leaves = grind (arith, of_clocks) in
    record {
      shaped = record { inputs_fit = fits _ _ inputs_fit; clocks_rise = clocks_are _ _ _ clocks_rise; state_fits = fits _ _ state_fits };
      each = λ x l. all_show c state tick.inputs (env_of numbers clocks) 0 (length c.leaves) x leaves_show (omega arith) (omega (arith, l));
      no_more_numbers = λ x l. past numbers x (omega (arith, l, long));
      no_more_clocks = λ x l. past_clocks clocks x (omega (arith, l, long_clocks));
    }

-- a run through ticks, where the numbers of all leaves are given at each tick, and their clocks once
module _ (c : LeafCircuit) (clocks : List (Option ℕ)) where
  abbrev result_of : List ℕ → Tick → List ℕ → TickResult
  result_of state t numbers = record {
    outputs = map (number_in numbers) c.outputs;
    clocks = map (clock_in clocks) c.clock_outputs;
    state = next c state t (env_of numbers clocks);
  }

  abbrev pub shown_by : List ℕ → List Tick → List (List ℕ) → List TickResult
  shown_by state (t ∷ ts) (numbers ∷ rest) = result_of state t numbers ∷ shown_by (next c state t (env_of numbers clocks)) ts rest
  shown_by state _ _ = []

  abbrev pub are_settled : List ℕ → List Tick → List (List ℕ) → Bool
  are_settled state [] [] = true
  are_settled state (t ∷ ts) (numbers ∷ rest) = is_settled c state t numbers clocks && are_settled (next c state t (env_of numbers clocks)) ts rest
  are_settled state _ _ = false

  pub run_by : (state : List ℕ) (ts : List Tick) (rest : List (List ℕ)) → are_settled state ts rest ≡ true → Run c state ts (shown_by state ts rest)
  run_by state [] [] e = tt
  run_by state [] (numbers ∷ rest) e = absurd cc
  run_by state (t ∷ ts) [] e = absurd cc
  run_by state (t ∷ ts) (numbers ∷ rest) e =
      let settled = settled_by c state t numbers clocks (left (is_settled c state t numbers clocks) _ e) in
      let later = run_by (next c state t (env_of numbers clocks)) ts rest (right (is_settled c state t numbers clocks) _ e) in
      ((env_of numbers clocks, settled, refl, refl, refl), later)
