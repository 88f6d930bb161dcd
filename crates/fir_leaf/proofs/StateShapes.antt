-- The state after a tick has the circuit's shape.
use Rattle.std.proofs.Common.{◌≡◌, ℕ, zero, suc, ◌+◌, ◌^◌, ◌<◌, ◌≤◌, List, [], ◌∷◌, ◌++◌, length, map, flat_map, replicate, Bool, true, false, ◌&&◌, not, Option, Some, None, nat_lt, nat_eq, refl, sym, ap, ◌∙◌, subst, arith, inl, inr, if◌then◌else◌}
use Rattle.std.specs.Prelude.{slice_index, unwrap_or}
use Rattle.std.proofs.lemmas.Nat.{pow_pos}
use Rattle.std.proofs.lemmas.Option.{same_Some}
use Rattle.fir_base.specs.Lists.{In}
use Rattle.fir_base.specs.Ticks.{Tick, FitEach}
use Rattle.fir_ast.specs.declared.statements.ReadUnderWrite.{ReadUnderWrite}
use Rattle.fir_ast.specs.declared.statements.ReadUnderWrite.TheVariants.{Old, New, Undefined}
use Rattle.fir_meaning.proofs.FittedValues.{at_width_below}
use Rattle.fir_meaning.specs.working.Terms.{Term}
use Rattle.fir_meaning.specs.working.TermValues.{Env, clock_of, eval, is_true}
use Rattle.fir_meaning.specs.working.LeafModules.{LeafReset, Reading, Role, Writing, computed, leaf_at, pipe, reading, register, sink, source}
use Rattle.fir_meaning.specs.LeafTypes.{LeafType, a_clock, number, number_type}
use Rattle.fir_meaning.specs.working.LeafCircuits.{LeafCircuit, depth_of, role_of, type_of_leaf}
use Rattle.fir_meaning.specs.working.LeafStates.{array_of, array_width, look, shape, widths_in, widths_of}
use Rattle.fir_meaning.specs.MemoryWords.{addresses, word_behind}
use Rattle.fir_meaning.specs.working.Memories.{are_met, array_next, arrays_next, begins_at, begins_from, piped, read_word, word_after, word_before, word_written, writes_at}
use Rattle.fir_meaning.specs.ClockEdges.{has_edge}
use Rattle.fir_meaning.specs.working.LeafSettled.{Settled, Shows, number_given, number_stored}
use Rattle.fir_meaning.specs.working.LeafNext.{register_next, stored_or_shown, word_next, words_next}
use Rattle.fir_leaf.specs.working.RunLaws.{FormedKeepsShape, IsFormed, IsNumber, TermsFit}
use Rattle.fir_leaf.proofs.LiveGifts.{from_live}

fit_joined : (ws us vs ts : List ℕ) → FitEach ws vs → FitEach us ts → FitEach (ws ++ us) (vs ++ ts)
fit_joined [] us [] ts f g = g
fit_joined [] us (v ∷ vs) ts f g = absurd f
fit_joined (w ∷ ws) us [] ts f g = absurd f
fit_joined (w ∷ ws) us (v ∷ vs) ts f g = (f.0, fit_joined ws us vs ts f.1 g)

fit_map : (w v : ℕ → ℕ) (xs : List ℕ) → ((x : ℕ) → In xs x → v x < 2 ^ w x) → FitEach (map w xs) (map v xs)
fit_map w v [] h = tt
fit_map w v (x ∷ xs) h = (h x (inl refl), fit_map w v xs (λ y m. h y (inr m)))

fit_flat_map : (w v : ℕ → List ℕ) (xs : List ℕ) → ((x : ℕ) → FitEach (w x) (v x)) → FitEach (flat_map w xs) (flat_map v xs)
fit_flat_map w v [] h = tt
fit_flat_map w v (x ∷ xs) h = fit_joined (w x) (flat_map w xs) (v x) (flat_map v xs) (h x) (fit_flat_map w v xs h)

-- a list fits at every place; past its end there are no bits
fit_at : (ws vs : List ℕ) → FitEach ws vs → (k : ℕ) → slice_index vs k < 2 ^ slice_index ws k
fit_at [] [] f k = pow_pos 0
fit_at [] (v ∷ vs) f k = absurd f
fit_at (w ∷ ws) [] f k = absurd f
fit_at (w ∷ ws) (v ∷ vs) f zero = f.0
fit_at (w ∷ ws) (v ∷ vs) f (suc k) = fit_at ws vs f.1 k

look_fits : (w : ℕ → ℕ) (xs vs us : List ℕ) (x : ℕ) → FitEach (map w xs ++ us) vs → look xs vs x < 2 ^ w x
look_fits w [] vs us x f = pow_pos (w x)
look_fits w (y ∷ xs) [] us x f = absurd f
look_fits w (y ∷ xs) (v ∷ vs) us x f = go (nat_eq y x) refl (look_fits w xs vs us x f.1)
  where
    go : (b : Bool) → nat_eq y x ≡ b → look xs vs x < 2 ^ w x → (if b then v else look xs vs x) < 2 ^ w x
    go true e h = let same : y ≡ x = grind arith in subst (λ u. v < 2 ^ w u) same f.0
    go false e h = h

widths_long : (c : LeafCircuit) (xs : List ℕ) → length (widths_of c xs) ≡ length xs
widths_long c [] = refl
widths_long c (x ∷ xs) = ap suc (widths_long c xs)

index_behind : (xs ys : List ℕ) (k : ℕ) → slice_index (xs ++ ys) (length xs + k) ≡ slice_index ys k
index_behind [] ys k = ap (slice_index ys) (omega arith)
index_behind (x ∷ xs) ys k = let e : suc (length xs) + k ≡ suc (length xs + k) = omega arith in rw e (index_behind xs ys k)

index_replicate : (n w : ℕ) (ys : List ℕ) (k : ℕ) → k < n → slice_index (replicate n w ++ ys) k ≡ w
index_replicate zero w ys k l = absurd (omega (arith, l))
index_replicate (suc n) w ys zero l = refl
index_replicate (suc n) w ys (suc k) l = index_replicate n w ys k (omega (arith, l))

index_past : (n w : ℕ) (ys : List ℕ) (k : ℕ) → slice_index (replicate n w ++ ys) (n + k) ≡ slice_index ys k
index_past zero w ys k = ap (slice_index ys) (omega arith)
index_past (suc n) w ys k = let e : suc n + k ≡ suc (n + k) = omega arith in rw e (index_past n w ys k)

-- a word of an array has its width, where the array begins at a place behind a base
record Placed (c : LeafCircuit) (ms : List ℕ) (k i base place : ℕ) : Type 0 where
  offset : ℕ
  is : place ≡ base + offset
  wide : slice_index (flat_map (widths_in c) ms) (offset + i) ≡ array_width c k

placed : (c : LeafCircuit) (k i : ℕ) → i < (array_of c k).words → (ms : List ℕ) (base place : ℕ) → begins_from c base ms k ≡ Some place
    → Placed c ms k i base place
placed c k i l [] base place e = absurd cc
placed c k i l (m ∷ ms) base place e = go (nat_eq m k) refl e (placed c k i l ms (base + (array_of c m).words) place)
  where
    go : (b : Bool) → nat_eq m k ≡ b → (if b then Some base else begins_from c (base + (array_of c m).words) ms k) ≡ Some place
        → (begins_from c (base + (array_of c m).words) ms k ≡ Some place → Placed c ms k i (base + (array_of c m).words) place)
        → Placed c (m ∷ ms) k i base place
    go true q s rest =
        let same : m ≡ k = grind arith in
        let here : base ≡ place = same_Some base place s in
        let start : 0 + i ≡ i = omega arith in
        record {
          offset = 0;
          is = omega (arith, here);
          wide = rw (same, start) (index_replicate (array_of c k).words (array_width c k) (flat_map (widths_in c) ms) i l);
        }
    go false q s rest =
        let r = rest s in
        let n = (array_of c m).words in
        let e : (n + r.offset) + i ≡ n + (r.offset + i) = omega arith in
        record {
          offset = n + r.offset;
          is = omega (arith, r.is);
          wide = rw e (index_past n (array_width c m) (flat_map (widths_in c) ms) (r.offset + i) ∙ r.wide);
        }

-- a word behind some writes
written_fits : (env : Env) (named : List ℕ) (w : ℕ) (ws : List Writing) (address word : ℕ) → ((u : Writing) → In ws u → env.numbers u.given < 2 ^ w)
    → word < 2 ^ w → word_after named env ws address word < 2 ^ w
written_fits env named w [] address word h l = l
written_fits env named w (u ∷ ws) address word h l = written_fits env named w ws address _ (λ v m. h v (inr m)) (go (writes_at named env u address))
  where
    go : (b : Bool) → (if b then env.numbers u.given else word) < 2 ^ w
    go true = h u (inl refl)
    go false = l

fit_addresses : (n from w : ℕ) (v : ℕ → ℕ) → ((i : ℕ) → from ≤ i → i < from + n → v i < 2 ^ w) → FitEach (replicate n w) (map v (addresses from n))
unfolding addresses
fit_addresses zero from w v h = tt
fit_addresses (suc n) from w v h =
    (h from (omega arith) (omega arith), fit_addresses n (from + 1) w v (λ i l m. h i (omega (arith, l)) (omega (arith, m))))

either : (b : Bool) (p q w : ℕ) → p < w → q < w → (if b then p else q) < w
either true p q w l m = l
either false p q w l m = m

module _ (c : LeafCircuit) (formed : IsFormed c) (state : List ℕ) (tick : Tick) (env : Env) (settled : Settled c state tick env) (terms : TermsFit c env) where
  number_fits : (x : ℕ) → x < length c.leaves → IsNumber (leaf_at c.leaves x).holds → env.numbers x < 2 ^ (type_of_leaf c x).width
  number_fits x l k = go (leaf_at c.leaves x).holds refl k (settled.each x l)
    where
      go : (t : LeafType) → (leaf_at c.leaves x).holds ≡ t → IsNumber t → Shows c state tick.inputs env x t → env.numbers x < 2 ^ (type_of_leaf c x).width
      go (number t) e k s = subst (λ u. env.numbers x < 2 ^ (number_type u).width) (sym e) s.1
      go a_clock e k s = absurd k

  stored_fits : (x v : ℕ) → number_stored c env x ≡ Some v → v < 2 ^ (type_of_leaf c x).width
  stored_fits x v e =
      let r = from_live (type_of_leaf c) (depth_of c) env.numbers (number_given c env) x c.body v e in
      rw (← r.gives) (at_width_below (eval (type_of_leaf c) env.numbers r.live.given) (type_of_leaf c x).width (terms.given x r.live r.among))

  taken_fits : (x : ℕ) → env.numbers x < 2 ^ (type_of_leaf c x).width → stored_or_shown c env x < 2 ^ (type_of_leaf c x).width
  taken_fits x l = go (number_stored c env x) refl
    where
      go : (o : Option ℕ) → number_stored c env x ≡ o → unwrap_or o (env.numbers x) < 2 ^ (type_of_leaf c x).width
      go None e = l
      go (Some v) e = stored_fits x v e

  word_fits : (x : ℕ) → look c.words state x < 2 ^ (type_of_leaf c x).width
  word_fits x = look_fits (λ y. (type_of_leaf c y).width) c.words state (flat_map (widths_in c) c.array_order) x settled.shaped.state_fits

  before_fits : (k i : ℕ) → i < (array_of c k).words → word_before c state k i < 2 ^ array_width c k
  before_fits k i l = go (begins_at c k) refl
    where
      go : (o : Option ℕ) → begins_at c k ≡ o → word_behind state o i < 2 ^ array_width c k
      go None e = pow_pos (array_width c k)
      go (Some place) e =
          let r = placed c k i l c.array_order (length c.words) place e in
          let at : length (widths_of c c.words) + (r.offset + i) ≡ place + i = omega (arith, widths_long c c.words, r.is) in
          let wide : slice_index (shape c).state (place + i) ≡ array_width c k =
          ap (slice_index (shape c).state) (sym at) ∙ index_behind (widths_of c c.words) (flat_map (widths_in c) c.array_order) (r.offset + i) ∙ r.wide in
          subst (λ u. slice_index state (place + i) < 2 ^ u) wide (fit_at (shape c).state state settled.shaped.state_fits (place + i))

  given_fits : (k : ℕ) (w : Writing) → In (array_of c k).writings w → env.numbers w.given < 2 ^ array_width c k
  given_fits k w m = let f = formed.writings k w m in subst (λ u. env.numbers w.given < 2 ^ u) f.2 (number_fits w.given f.0 f.1)

  after_fits : (k i : ℕ) → i < (array_of c k).words → word_written c state tick.clocks env k i < 2 ^ array_width c k
  after_fits k i l =
      written_fits env tick.clocks (array_width c k) (array_of c k).writings i (word_before c state k i) (given_fits k) (before_fits k i l)

  read_fits : (r : Reading) (word : ℕ → ℕ) (w : ℕ) → ((i : ℕ) → i < (array_of c r.array).words → word i < 2 ^ w) → read_word c env r word < 2 ^ w
  read_fits r word w h = go (are_met env.numbers r.needs) (nat_lt (env.numbers r.address) (array_of c r.array).words) refl
    where
      go : (a b : Bool) → nat_lt (env.numbers r.address) (array_of c r.array).words ≡ b → (if a && b then word (env.numbers r.address) else 0) < 2 ^ w
      go true true e = h (env.numbers r.address) (grind arith)
      go true false e = pow_pos w
      go false b e = pow_pos w

  piped_fits : (r : Reading) (under : ReadUnderWrite) → piped c state tick.clocks env r under < 2 ^ array_width c r.array
  piped_fits r New = read_fits r _ (array_width c r.array) (after_fits r.array)
  piped_fits r Old = read_fits r _ (array_width c r.array) (before_fits r.array)
  piped_fits r Undefined = read_fits r _ (array_width c r.array) (before_fits r.array)

  register_fits : (x : ℕ) (clock : Term) (reset : Option LeafReset) (edge : Bool) → role_of c x ≡ register clock reset
      → env.numbers x < 2 ^ (type_of_leaf c x).width → register_next c env x reset edge (look c.words state x) < 2 ^ (type_of_leaf c x).width
  register_fits x clock None edge e l = either edge _ _ _ (taken_fits x l) (word_fits x)
  register_fits x clock (Some r) edge e l =
      let high = is_true (type_of_leaf c) env.numbers r.condition in
      let init = at_width_below (eval (type_of_leaf c) env.numbers r.init) (type_of_leaf c x).width (terms.inits x clock r e) in
      either (r.is_async && high) _ _ _ init (either edge _ _ _ (either (not r.is_async && high) _ _ _ init (taken_fits x l)) (word_fits x))

  role_fits : (x : ℕ) (r : Role) → role_of c x ≡ r → env.numbers x < 2 ^ (type_of_leaf c x).width
      → word_next c state tick.clocks env x r < 2 ^ (type_of_leaf c x).width
  role_fits x (register clock reset) e l = register_fits x clock reset (has_edge tick.clocks (clock_of (type_of_leaf c) env clock)) e l
  role_fits x (pipe r k under) e l =
      let taken = subst (λ w. piped c state tick.clocks env r under < 2 ^ w) (formed.pipes x r k under e) (piped_fits r under) in
      either (has_edge tick.clocks (env.clocks k)) _ _ _ taken (word_fits x)
  role_fits x source e l = word_fits x
  role_fits x sink e l = word_fits x
  role_fits x (computed t) e l = word_fits x
  role_fits x (reading r) e l = word_fits x

  words_fit : FitEach (widths_of c c.words) (words_next c state tick.clocks env)
  words_fit =
      fit_map (λ x. (type_of_leaf c x).width) (λ x. word_next c state tick.clocks env x (role_of c x)) c.words
      (λ x m. let f = formed.words x m in role_fits x (role_of c x) refl (number_fits x f.0 f.1))

  arrays_fit : FitEach (flat_map (widths_in c) c.array_order) (arrays_next c state tick.clocks env)
  arrays_fit =
      fit_flat_map (widths_in c) (array_next c state tick.clocks env) c.array_order
      (λ k. fit_addresses (array_of c k).words 0 (array_width c k) (word_written c state tick.clocks env k) (λ i l m. after_fits k i (omega (arith, m))))

pub formed_keeps_shape : FormedKeepsShape
formed_keeps_shape c formed terms state tick env settled =
    let fit = terms state tick env settled in
    fit_joined (widths_of c c.words) (flat_map (widths_in c) c.array_order) _ _
    (words_fit c formed state tick env settled fit) (arrays_fit c formed state tick env settled fit)
