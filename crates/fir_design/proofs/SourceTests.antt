-- A test of settled values by paths, and of whole runs: for a circuit that is written out it computes.
use Rattle.std.proofs.Common.{◌≡◌, ℕ, ◌^◌, List, [], ◌∷◌, map, Bool, true, false, ◌&&◌, ◌||◌, Option, Some, None, nat_eq, nat_lt, is_none, refl, subst, arith, inl, inr}
use Rattle.std.specs.Prelude.{if◌then◌else◌}
use Rattle.fir_base.specs.Lists.{In}
use Rattle.fir_base.specs.Ticks.{IsRun, Tick, TickResult}
use Rattle.fir_ast.specs.Circuits.{CircuitTree}
use Rattle.fir_meaning.specs.Elaborated.{IsSourceOf}
use Rattle.fir_meaning.specs.LeafPaths.{LeafPath}
use Rattle.fir_meaning.specs.LeafTypes.{LeafType, a_clock, number}
use Rattle.fir_meaning.specs.SourceAllows.{LeafShows, Settled, next}
use Rattle.fir_meaning.specs.SourceCircuits.{PlacedLeaf, all_leaves, clock_outputs, leaf_path, outputs, paths_of, source_shape}
use Rattle.fir_meaning.specs.SourceDesigns.{SourceDesign}
use Rattle.fir_meaning.specs.SourceMeaning.{circuit_meaning}
use Rattle.fir_meaning.specs.SourceValues.{PathEnv, clock_shown, number_shown}
use Rattle.fir_meaning.specs.SamePaths.{same_path}
use Rattle.fir_leaf.proofs.FlatStores.{same_path_is}
use Rattle.fir_leaf.proofs.SettledTests.{are_clocks, clock_is, clocks_are, fit_each, fits, is_clock, is_number, left, none_is, number_is, right}
use Rattle.fir_design.proofs.WrittenSources.{is_written, source_of, written_source}

-- the values of paths that are listed, and the clocks
abbrev pub number_on : List (LeafPath × ℕ) → LeafPath → ℕ
number_on [] x = 0
number_on (p ∷ ps) x = if same_path p.0 x then p.1 else number_on ps x

abbrev pub clock_on : List (LeafPath × ℕ) → LeafPath → Option ℕ
clock_on [] x = None
clock_on (p ∷ ps) x = if same_path p.0 x then Some p.1 else clock_on ps x

abbrev pub env_on : List (LeafPath × ℕ) → List (LeafPath × ℕ) → PathEnv
env_on numbers clocks = record { numbers = number_on numbers; clocks = clock_on clocks }

-- whether a path is among others, and each that is listed
abbrev is_on : List LeafPath → LeafPath → Bool
is_on [] x = false
is_on (y ∷ ys) x = same_path y x || is_on ys x

abbrev are_on : List LeafPath → List (LeafPath × ℕ) → Bool
are_on ys [] = true
are_on ys (p ∷ ps) = is_on ys p.0 && are_on ys ps

module _ (t : SourceDesign) where
  abbrev number_shows : List ℕ → List ℕ → PathEnv → PlacedLeaf → Bool
  number_shows state given env p = is_number (number_shown t env state given p.at (leaf_path p) p.leaf.role) (env.numbers (leaf_path p))

  abbrev clock_shows : PathEnv → PlacedLeaf → Bool
  clock_shows env p = is_clock (clock_shown t env p.at (leaf_path p) p.leaf.role) (env.clocks (leaf_path p))

  abbrev shows : List ℕ → List ℕ → PathEnv → PlacedLeaf → LeafType → Bool
  shows state given env p (number h) =
      number_shows state given env p && (nat_lt (env.numbers (leaf_path p)) (2 ^ h.width) && is_none (env.clocks (leaf_path p)))
  shows state given env p a_clock = clock_shows env p && nat_eq (env.numbers (leaf_path p)) 0

  abbrev shows_each : List ℕ → List ℕ → PathEnv → List PlacedLeaf → Bool
  shows_each state given env [] = true
  shows_each state given env (p ∷ ps) = shows state given env p p.leaf.holds && shows_each state given env ps

  abbrev pub is_settled : List ℕ → Tick → List (LeafPath × ℕ) → List (LeafPath × ℕ) → Bool
  is_settled state tick numbers clocks =
      fit_each (source_shape t).inputs tick.inputs && (are_clocks 0 (source_shape t).clocks tick.clocks && (fit_each (source_shape t).state state
      && (shows_each state tick.inputs (env_on numbers clocks) (all_leaves t)
      && (are_on (paths_of (all_leaves t)) numbers && are_on (paths_of (all_leaves t)) clocks))))

in_step : (y : LeafPath) (ys : List LeafPath) (x : LeafPath) (b : Bool) → same_path y x ≡ b → (b || is_on ys x) ≡ true
    → (is_on ys x ≡ true → In ys x) → In (y ∷ ys) x
in_step y ys x true here e later = inl (same_path_is y x here)
in_step y ys x false here e later = inr (later e)

is_in : (ys : List LeafPath) (x : LeafPath) → is_on ys x ≡ true → In ys x
is_in [] x e = absurd cc
is_in (y ∷ ys) x e = in_step y ys x (same_path y x) refl e (λ later. is_in ys x later)

-- what is listed at no path is zero, or no clock
abbrev IsNothing : List (LeafPath × ℕ) → LeafPath → Type 0
IsNothing ps x = (number_on ps x ≡ 0) × (clock_on ps x ≡ None)

nothing_step : (p : LeafPath × ℕ) (ps : List (LeafPath × ℕ)) (x : LeafPath) (b : Bool) → same_path p.0 x ≡ b → (same_path p.0 x ≡ true → ⊥)
    → IsNothing ps x → ((if b then p.1 else number_on ps x) ≡ 0) × ((if b then Some p.1 else clock_on ps x) ≡ None)
nothing_step p ps x true here other later = absurd (other here)
nothing_step p ps x false here other later = later

not_listed : (ys : List LeafPath) (ps : List (LeafPath × ℕ)) (x : LeafPath) → are_on ys ps ≡ true → (In ys x → ⊥) → IsNothing ps x
not_listed ys [] x e absent = (refl, refl)
not_listed ys (p ∷ ps) x e absent =
    nothing_step p ps x (same_path p.0 x) refl
    (λ here. absent (subst (In ys) (same_path_is p.0 x here) (is_in ys p.0 (left (is_on ys p.0) (are_on ys ps) e))))
    (not_listed ys ps x (right (is_on ys p.0) (are_on ys ps) e) absent)

module _ (t : SourceDesign) (state given : List ℕ) (env : PathEnv) where
  one_shows : (p : PlacedLeaf) (h : LeafType) → shows t state given env p h ≡ true → LeafShows t state given env p h
  one_shows p (number h) e =
      let rest = right (number_shows t state given env p) _ e in
      let below = left (nat_lt (env.numbers (leaf_path p)) (2 ^ h.width)) _ rest in (
        number_is _ _ (left (number_shows t state given env p) _ e),
        (grind arith),
        none_is _ (right (nat_lt (env.numbers (leaf_path p)) (2 ^ h.width)) _ rest),
      )
  one_shows p a_clock e =
      let zero_is = right (clock_shows t env p) _ e in
      (clock_is _ _ (left (clock_shows t env p) _ e), (grind arith))

  all_show : (ps : List PlacedLeaf) → shows_each t state given env ps ≡ true → (p : PlacedLeaf) → In ps p → LeafShows t state given env p p.leaf.holds
  all_show [] e p m = absurd m
  all_show (q ∷ ps) e p (inl is) =
      subst (λ (r : PlacedLeaf). LeafShows t state given env r r.leaf.holds) is
      (one_shows q q.leaf.holds (left (shows t state given env q q.leaf.holds) _ e))
  all_show (q ∷ ps) e p (inr m) = all_show ps (right (shows t state given env q q.leaf.holds) _ e) p m

pub settled_by : (t : SourceDesign) (state : List ℕ) (tick : Tick) (numbers clocks : List (LeafPath × ℕ))
    → is_settled t state tick numbers clocks ≡ true → Settled t state tick (env_on numbers clocks)
settled_by t state tick numbers clocks e =
    let inputs_fit = left (fit_each (source_shape t).inputs tick.inputs) _ e in
    let behind_inputs = right (fit_each (source_shape t).inputs tick.inputs) _ e in
    let clocks_rise = left (are_clocks 0 (source_shape t).clocks tick.clocks) _ behind_inputs in
    let behind_clocks = right (are_clocks 0 (source_shape t).clocks tick.clocks) _ behind_inputs in
    let state_fits = left (fit_each (source_shape t).state state) _ behind_clocks in
    let behind_state = right (fit_each (source_shape t).state state) _ behind_clocks in
    let leaves_show = left (shows_each t state tick.inputs (env_on numbers clocks) (all_leaves t)) _ behind_state in
    let listed = right (shows_each t state tick.inputs (env_on numbers clocks) (all_leaves t)) _ behind_state in
    let of_numbers = left (are_on (paths_of (all_leaves t)) numbers) (are_on (paths_of (all_leaves t)) clocks) listed in
    let of_clocks = right (are_on (paths_of (all_leaves t)) numbers) (are_on (paths_of (all_leaves t)) clocks) listed in
    record {
      shaped = record { inputs_fit = fits _ _ inputs_fit; clocks_rise = clocks_are _ _ _ clocks_rise; state_fits = fits _ _ state_fits };
      each = all_show t state tick.inputs (env_on numbers clocks) (all_leaves t) leaves_show;
      no_more_numbers = λ x absent. (not_listed (paths_of (all_leaves t)) numbers x of_numbers absent).0;
      no_more_clocks = λ x absent. (not_listed (paths_of (all_leaves t)) clocks x of_clocks absent).1;
    }

-- a run of a circuit
abbrev pub Runs : CircuitTree → List ℕ → List Tick → List TickResult → Type 0
Runs c = IsRun (circuit_meaning c).allows

-- through ticks, where the numbers of all leaves are given at each tick, and their clocks once
module _ (t : SourceDesign) (clocks : List (LeafPath × ℕ)) where
  abbrev result_of : List ℕ → Tick → List (LeafPath × ℕ) → TickResult
  result_of state tick numbers = record {
    outputs = map (number_on numbers) (outputs t);
    clocks = map (clock_on clocks) (clock_outputs t);
    state = next t state tick.clocks (env_on numbers clocks);
  }

  abbrev pub shown_by : List ℕ → List Tick → List (List (LeafPath × ℕ)) → List TickResult
  shown_by state (k ∷ ks) (numbers ∷ rest) = result_of state k numbers ∷ shown_by (next t state k.clocks (env_on numbers clocks)) ks rest
  shown_by state _ _ = []

  abbrev pub are_settled : List ℕ → List Tick → List (List (LeafPath × ℕ)) → Bool
  are_settled state [] [] = true
  are_settled state (k ∷ ks) (numbers ∷ rest) =
      is_settled t state k numbers clocks && are_settled (next t state k.clocks (env_on numbers clocks)) ks rest
  are_settled state _ _ = false

run_from : (c : CircuitTree) → IsSourceOf c (source_of c) → (clocks : List (LeafPath × ℕ)) (state : List ℕ) (ks : List Tick)
    (rest : List (List (LeafPath × ℕ))) → are_settled (source_of c) clocks state ks rest ≡ true
    → Runs c state ks (shown_by (source_of c) clocks state ks rest)
unfolding circuit_meaning
run_from c is clocks state [] [] e = tt
run_from c is clocks state [] (numbers ∷ rest) e = absurd cc
run_from c is clocks state (k ∷ ks) [] e = absurd cc
run_from c is clocks state (k ∷ ks) (numbers ∷ rest) e =
    let t = source_of c in
    let after = next t state k.clocks (env_on numbers clocks) in
    let settled = settled_by t state k numbers clocks (left (is_settled t state k numbers clocks) _ e) in
    let later = run_from c is clocks after ks rest (right (is_settled t state k numbers clocks) _ e) in
    ((t, is, (env_on numbers clocks, settled, refl, refl, refl)), later)

pub run_by : (c : CircuitTree) → is_written c ≡ true → (clocks : List (LeafPath × ℕ)) (state : List ℕ) (ks : List Tick)
    (rest : List (List (LeafPath × ℕ))) → are_settled (source_of c) clocks state ks rest ≡ true
    → Runs c state ks (shown_by (source_of c) clocks state ks rest)
run_by c written clocks state ks rest e = run_from c (written_source c written) clocks state ks rest e
