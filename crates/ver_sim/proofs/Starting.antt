-- A simulator starts.
use Rattle.std.proofs.Common.{◌≡◌, ℕ, zero, suc, ◌+◌, ◌<◌, List, [], ◌∷◌, ◌++◌, length, get_or, refl, ap, ◌∙◌, arith, length-append}
use Rattle.std.specs.Prelude.{slice_get, replicate}
use Rattle.std.proofs.lemmas.List.{length-map, length-replicate}
use Rattle.std.proofs.lemmas.Nat.{pow_pos}
use Rattle.std.proofs.lemmas.Option.{slice_get_within}
use Rattle.fir_base.specs.Lists.{In}
use Rattle.fir_base.specs.Ticks.{FitEach}
use Rattle.fir_base.proofs.Members.{in_map}
use Rattle.ver_ast.specs.declared.tree.Verilog.{Verilog}
use Rattle.ver_ast.specs.Nets.{SizedNet, nets, clocks, names_of, variables, shape}
use Rattle.ver_ast.specs.Stores.{store_of}
use Rattle.ver_ast.specs.Valid.{Valid}
use Rattle.ver_order.specs.working.Laws.{FitNets}
use Rattle.ver_sim.specs.declared.plan.Plan.{Plan}
use Rattle.ver_sim.specs.working.Valued.{place_among, valued, env_of}
use Rattle.ver_sim.specs.ClocksShown.{ClocksShown}
use Rattle.ver_sim.specs.working.Running.{IsPlan, IsRunning}
use Rattle.ver_sim.specs.working.ShownWords.{words_put}
use Rattle.ver_sim.specs.working.Start.{clock_numbers, first_values}
use Rattle.ver_sim.specs.Start.{HasStart}
use Rattle.ver_sim.proofs.KnownNames.{valued_once}
use Rattle.ver_sim.proofs.PlacedNames.{place_is, place_left}
use Rattle.ver_sim.proofs.Keeping.{shown_values, unshown}

numbers_long : (k : ℕ) (cs : List (List ℕ)) → length (clock_numbers k cs) ≡ length cs
numbers_long k [] = refl
numbers_long k (c ∷ cs) = ap suc (numbers_long (k + 1) cs)

number_at : (k : ℕ) (cs : List (List ℕ)) (i : ℕ) → i < length cs → get_or (clock_numbers k cs) i 0 ≡ k + i
number_at k [] i lt = absurd (omega arith)
number_at k (c ∷ cs) zero lt = omega arith
number_at k (c ∷ cs) (suc i) lt = number_at (k + 1) cs i (omega arith) ∙ (omega arith)

zero_at : (c : ℕ) (xs : List ℕ) (i : ℕ) → i < c → get_or (replicate c 0 ++ xs) i 0 ≡ 0
zero_at zero xs i lt = absurd (omega arith)
zero_at (suc c) xs zero lt = refl
zero_at (suc c) xs (suc i) lt = zero_at c xs i (omega arith)

behind_zeros : (c : ℕ) (xs : List ℕ) (i : ℕ) → get_or (replicate c 0 ++ xs) (c + i) 0 ≡ get_or xs i 0
behind_zeros zero xs i = let e : 0 + i ≡ i = omega arith in ap (λ (j : ℕ). get_or xs j 0) e
behind_zeros (suc c) xs i = let e : suc c + i ≡ suc (c + i) = omega arith in ap (λ (j : ℕ). get_or (0 ∷ (replicate c 0 ++ xs)) j 0) e ∙ behind_zeros c xs i

get_right : (xs ys : List (List ℕ)) (i : ℕ) → slice_get (xs ++ ys) (length xs + i) ≡ slice_get ys i
get_right [] ys i = let e : 0 + i ≡ i = omega arith in ap (slice_get ys) e
get_right (x ∷ xs) ys i = let e : suc (length xs) + i ≡ suc (length xs + i) = omega arith in ap (slice_get (x ∷ (xs ++ ys))) e ∙ get_right xs ys i

module _ (v : Verilog) (valid : Valid v) where
  names_long : length (names_of (nets v)) ≡ length (nets v)
  names_long = length-map (nets v) (λ (s : SizedNet). s.0)

  first_long : length (first_values v) ≡ length (valued v)
  first_long =
      omega (
        arith,
        length-append (replicate (length (nets v)) 0) (clock_numbers 0 (clocks v)),
        length-replicate {A = ℕ} (length (nets v)) 0,
        numbers_long 0 (clocks v),
        length-append (names_of (nets v)) (clocks v),
        names_long,
      )

  first_zero : (n : List ℕ) → In (names_of (nets v)) n → env_of v (first_values v) n ≡ 0
  first_zero n m = zero_at (length (nets v)) (clock_numbers 0 (clocks v)) (place_among (valued v) n) (omega (arith, place_left (names_of (nets v)) (clocks v) n m, names_long))

  first_fit : FitNets v (env_of v (first_values v))
  first_fit n w m = let z = first_zero n (in_map (λ (s : SizedNet). s.0) (nets v) (n, w) m) in omega (arith, z, pow_pos w)

  first_clocks : ClocksShown v (env_of v (first_values v))
  first_clocks k n e =
      let at : place_among (valued v) n ≡ length (names_of (nets v)) + k =
      place_is (valued v) (valued_once v valid) (length (names_of (nets v)) + k) n (get_right (names_of (nets v)) (clocks v) k ∙ e) in
      let there : place_among (valued v) n ≡ length (nets v) + k = omega (arith, at, names_long) in
      ap (λ (i : ℕ). get_or (first_values v) i 0) there ∙ behind_zeros (length (nets v)) (clock_numbers 0 (clocks v)) k
      ∙ number_at 0 (clocks v) k (slice_get_within (clocks v) k n e) ∙ (omega arith)

  module _ (p : Plan) (plan : IsPlan v p) (state : List ℕ) (fits : FitEach (shape v).state state) (values : List ℕ) (is : values ≡ words_put p.shown.items state (first_values v)) where
    pub starts : IsRunning v p values state
    starts = record {
      valid = valid;
      plan = plan;
      state_fits = fits;
      held = shown_values v valid p.shown.items plan.shown_are (first_values v) state values first_long first_fit first_clocks fits is;
    }

    pub has_start : HasStart v (store_of (variables v) state) (env_of v values)
    has_start = record {
      zeros = λ n m none. unshown v valid p.shown.items plan.shown_are (first_values v) state values first_long first_fit first_clocks fits is n none ∙ first_zero n m;
      words_shown = starts.held.words_shown;
      clocks_shown = starts.held.clocks_shown;
    }
