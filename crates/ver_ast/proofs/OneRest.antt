-- A valid tree has exactly one choice of values at rest.
-- Existence puts in one target after the other, uniqueness goes along the same order.
use Rattle.std.proofs.Common.{◌≡◌, ℕ, ◌+◌, ◌^◌, ◌<◌, List, [], ◌∷◌, ◌++◌, refl, sym, ap, ◌∙◌, inl, inr, ⊎_elim, subst, cond, arith}
use Rattle.std.specs.Prelude.{slice_get, Some, false, true}
use Rattle.std.proofs.lemmas.Bool.{cond-true, cond-false}
use Rattle.std.proofs.lemmas.List.{map-append}
use Rattle.fir_base.specs.Lists.{In, Distinct}
use Rattle.fir_base.specs.Words.{is_among}
use Rattle.fir_base.specs.Ticks.{Env, Tick, HasShape}
use Rattle.fir_base.proofs.Elements.{get_in, number_of}
use Rattle.fir_base.proofs.Members.{in_map, in_map_from, in_either, each_in, map_same, same_at}
use Rattle.fir_base.proofs.Twins.{distinct_left, apart}
use Rattle.ver_ast.specs.declared.tree.Verilog.{Verilog}
use Rattle.ver_ast.specs.Nets.{SizedNet, width_among, input_nets, clocks, regs, plain_regs, nets, names_of, shape, variables}
use Rattle.ver_ast.specs.Valid.{Valid, ReadsBefore}
use Rattle.ver_ast.specs.Stores.{Store, store_of, stored}
use Rattle.ver_ast.specs.Processes.{Process, processes, target, process_targets, process_reads, given}
use Rattle.ver_ast.specs.Settled.{SourcesShown, Rest}
use Rattle.ver_ast.specs.working.Laws.{HasOneRest}
use Rattle.ver_ast.proofs.Chosen.{chosen, among, is_named, true_or_false}
use Rattle.ver_ast.proofs.Widths.{FitNames}
use Rattle.ver_ast.proofs.Parts.{named_either, named_left, named_right}
use Rattle.ver_ast.proofs.Processes.{same_given, sources, drawn_is_net, width_is, read_once, sources_once, given_fits, reg_fits, drawn_or_driven, undriven, target_is_net}
use Rattle.ver_ast.proofs.Starting.{put, put_here, put_other, start, start_values, start_fits, start_other, numbered, numbered_at}

-- the known names have values of their widths
record Fits (v : Verilog) (known : List (List ℕ)) (env : Env) : Type 0 where
  each : (n : List ℕ) → In known n → env n < 2 ^ width_among (nets v) n

-- each process gives a value of its target's width, where what it reads has such values
abbrev GiveFit : Verilog → Store → List Process → Type 0
GiveFit v store order = (p : Process) → In order p → (env : Env) → FitNames (nets v) env (process_reads p) → given v store env p < 2 ^ width_among (nets v) (target p)

-- what an order needs behind the names that are known
record Follows (v : Verilog) (store : Store) (known : List (List ℕ)) (order : List Process) : Type 0 where
  once : Distinct (process_targets order)
  after : ReadsBefore known order
  fresh : (n : List ℕ) → In known n → In (process_targets order) n → ⊥
  give_fit : GiveFit v store order

-- an env in which each process of the order shows its value
record Filled (v : Verilog) (store : Store) (order : List Process) (env : Env) : Type 0 where
  last : Env
  keeps : (n : List ℕ) → (In (process_targets order) n → ⊥) → last n ≡ env n
  shows : (p : Process) → In order p → last (target p) ≡ given v store last p
  driven_fits : (n : List ℕ) → In (process_targets order) n → last n < 2 ^ width_among (nets v) n

module _ (v : Verilog) (store : Store) where
  -- the first process takes the value of its right side
  abbrev with_head : Process → Env → Env
  with_head p env = put env (target p) (given v store env p)

  head_follows : (p : Process) (known : List (List ℕ)) (order : List Process) → Follows v store known (p ∷ order) → Follows v store (target p ∷ known) order
  head_follows p known order fo = record {
    once = fo.once.1;
    after = fo.after.1;
    fresh = λ n m t. ⊎_elim (λ (e : target p ≡ n). fo.once.0 (subst (In (process_targets order)) (sym e) t)) (λ (o : In known n). fo.fresh n o (inr t)) m;
    give_fit = λ q m. fo.give_fit q (inr m);
  }

  head_fits : (p : Process) (known : List (List ℕ)) (order : List Process) (fo : Follows v store known (p ∷ order)) (env : Env) → Fits v known env
      → Fits v (target p ∷ known) (with_head p env)
  head_fits p known order fo env fits = record { each = λ n m. ⊎_elim (λ (e : target p ≡ n). here n e) (λ (o : In known n). there n o) m }
    where
      below : given v store env p < 2 ^ width_among (nets v) (target p)
      below = fo.give_fit p (inl refl) env (record { each = λ k m. fits.each k (each_in (process_reads p) known fo.after.0 k m) })

      here : (n : List ℕ) → target p ≡ n → with_head p env n < 2 ^ width_among (nets v) n
      here n e =
          subst (λ (k : List ℕ). with_head p env k < 2 ^ width_among (nets v) k) e (rw (put_here env (target p) (given v store env p)) below)

      there : (n : List ℕ) → In known n → with_head p env n < 2 ^ width_among (nets v) n
      there n m =
          let value : with_head p env n ≡ env n = put_other env (target p) (given v store env p) n (λ e. fo.fresh n m (inl (sym e))) in
          rw value (fits.each n m)

  extend : (p : Process) (known : List (List ℕ)) (order : List Process) (env : Env) (fo : Follows v store known (p ∷ order)) → Fits v known env
      → Filled v store order (with_head p env) → Filled v store (p ∷ order) env
  extend p known order env fo fits r = record { last = r.last; keeps = keeps; shows = shows; driven_fits = driven_fits }
    where
      keeps : (n : List ℕ) → (In (process_targets (p ∷ order)) n → ⊥) → r.last n ≡ env n
      keeps n h = r.keeps n (λ m. h (inr m)) ∙ put_other env (target p) (given v store env p) n (λ e. h (inl (sym e)))

      target_value : r.last (target p) ≡ given v store env p
      target_value = r.keeps (target p) fo.once.0 ∙ put_here env (target p) (given v store env p)

      here : r.last (target p) ≡ given v store r.last p
      here =
          target_value
          ∙ same_given v store env r.last p (record { each = λ n m. sym (keeps n (fo.fresh n (each_in (process_reads p) known fo.after.0 n m))) })

      shows : (q : Process) → In (p ∷ order) q → r.last (target q) ≡ given v store r.last q
      shows q (inl e) = subst (λ (c : Process). r.last (target c) ≡ given v store r.last c) e here
      shows q (inr m) = r.shows q m

      grown : Fits v (target p ∷ known) (with_head p env)
      grown = head_fits p known order fo env fits

      target_fits : r.last (target p) < 2 ^ width_among (nets v) (target p)
      target_fits = rw (r.keeps (target p) fo.once.0) (grown.each (target p) (inl refl))

      driven_fits : (n : List ℕ) → In (process_targets (p ∷ order)) n → r.last n < 2 ^ width_among (nets v) n
      driven_fits n (inl e) = subst (λ (k : List ℕ). r.last k < 2 ^ width_among (nets v) k) e target_fits
      driven_fits n (inr m) = r.driven_fits n m

  fill : (order : List Process) (known : List (List ℕ)) (env : Env) → Follows v store known order → Fits v known env → Filled v store order env
  fill [] known env fo fits = record { last = env; keeps = λ n h. refl; shows = λ p m. absurd m; driven_fits = λ n m. absurd m }
  fill (p ∷ order) known env fo fits =
      extend p known order env fo fits
      (fill order (target p ∷ known) (with_head p env) (head_follows p known order fo) (head_fits p known order fo env fits))

  -- along the order, what is read has one value, and so the target
  pub agree_along : (e f : Env) → (known : List (List ℕ)) (order : List Process) → ReadsBefore known order
      → ((p : Process) → In order p → (e (target p) ≡ given v store e p) × (f (target p) ≡ given v store f p)) → ((n : List ℕ) → In known n → e n ≡ f n)
      → (n : List ℕ) → In (process_targets order) n → e n ≡ f n
  agree_along e f known [] after each h n m = absurd m
  agree_along e f known (p ∷ order) after each h n m =
      let t = each p (inl refl) in
      let same : given v store e p ≡ given v store f p =
      same_given v store e f p (record { each = λ k o. h k (each_in (process_reads p) known after.0 k o) }) in
      let here : e (target p) ≡ f (target p) = t.0 ∙ same ∙ sym t.1 in
      let more : (k : List ℕ) → In (target p ∷ known) k → e k ≡ f k =
      λ k o. ⊎_elim (λ (i : target p ≡ k). ap e (sym i) ∙ here ∙ ap f i) (λ (i : In known k). h k i) o in
      ⊎_elim
      (λ (i : target p ≡ n). ap e (sym i) ∙ here ∙ ap f i)
      (λ (i : In (process_targets order) n). agree_along e f (target p ∷ known) order after.1 (λ q o. each q (inr o)) more n i)
      m

module _ (v : Verilog) (valid : Valid v) where
  abbrev pub order : List Process
  order = valid.ordered.0

  -- the order drives what the processes drive
  pub in_order : (n : List ℕ) → In (process_targets (processes v)) n → In (process_targets order) n
  in_order n m =
      let t = in_map_from target (processes v) n m in
      subst (In (process_targets order)) t.2 (in_map target order t.0 (valid.ordered.1.each t.0 t.1))

  pub fresh_targets : (n : List ℕ) → In (names_of (sources v)) n → In (process_targets order) n → ⊥
  fresh_targets n m t =
      let p = in_map_from target order n t in
      undriven v valid n m (subst (In (process_targets (processes v))) p.2 (in_map target (processes v) p.0 (valid.ordered.1.only p.0 p.1)))

module _ (v : Verilog) (valid : Valid v) (state : List ℕ) (tick : Tick) (e f : Env) (p : SourcesShown v state tick e) (q : SourcesShown v state tick f) where
  pub same_sources : (n : List ℕ) → In (names_of (sources v)) n → e n ≡ f n
  same_sources n m =
      ⊎_elim
      (λ (o : In (names_of (input_nets v)) n). same_at e f (names_of (input_nets v)) (p.input_values ∙ sym q.input_values) n o)
      (λ (o : In (names_of (plain_regs v)) n).
      let r = in_map_from (λ (s : SizedNet). s.0) (plain_regs v) n o in
      ap e (sym r.2) ∙ p.state_values r.0 r.1 ∙ sym (q.state_values r.0 r.1) ∙ ap f r.2)
      (named_either (input_nets v) (plain_regs v) n m)

  pub same_clocks : (n : List ℕ) → In (clocks v) n → e n ≡ f n
  same_clocks n m = let t = number_of (clocks v) n m in p.clock_values t.0 n t.1 ∙ sym (q.clock_values t.0 n t.1)

  -- two choices in which each process shows its value agree
  pub same_nets : ((r : Process) → In (processes v) r → (e (target r) ≡ given v (store_of (variables v) state) e r) × (f (target r) ≡ given v (store_of (variables v) state) f r))
      → (n : List ℕ) (w : ℕ) → In (nets v) (n, w) → e n ≡ f n
  same_nets shows n w i =
      ⊎_elim
      (λ (m : In (sources v) (n, w)). same_sources n (in_map (λ (s : SizedNet). s.0) (sources v) (n, w) m))
      (λ (m : In (process_targets (processes v)) n).
      agree_along v (store_of (variables v) state) e f (names_of (sources v)) (order v valid) valid.ordered.1.after
      (λ r o. shows r (valid.ordered.1.only r o)) same_sources n (in_order v valid n m))
      (drawn_or_driven v valid (n, w) i)

module _ (v : Verilog) (valid : Valid v) (state : List ℕ) (tick : Tick) (shaped : HasShape (shape v) state tick) where
  abbrev words : Store
  words = store_of (variables v) state

  follows : Follows v words (names_of (sources v)) (order v valid)
  follows = record {
    once = valid.ordered.1.once;
    after = valid.ordered.1.after;
    fresh = fresh_targets v valid;
    give_fit = λ p m. given_fits v valid state shaped.state_fits p (valid.ordered.1.only p m);
  }

  -- the registers show their words, and all else has its number among the clocks
  abbrev base : Env
  base n = cond (is_among (names_of (plain_regs v)) n) (stored words n) (numbered 0 (clocks v) n)

  abbrev begin : Env
  begin = start base (input_nets v) tick.inputs

  inputs_once : Distinct (names_of (input_nets v))
  inputs_once = distinct_left (names_of (input_nets v)) (names_of (plain_regs v)) split
    where
      split : Distinct (names_of (input_nets v) ++ names_of (plain_regs v))
      split = subst Distinct (map-append (λ (s : SizedNet). s.0) (input_nets v) (plain_regs v)) (sources_once v valid)

  no_input : (n : List ℕ) → In (names_of (plain_regs v)) n → In (names_of (input_nets v)) n → ⊥
  no_input n m o =
      apart (names_of (input_nets v)) (names_of (plain_regs v))
      (subst Distinct (map-append (λ (s : SizedNet). s.0) (input_nets v) (plain_regs v)) (sources_once v valid)) n o m

  reg_value : (r : SizedNet) → In (plain_regs v) r → begin r.0 ≡ stored words r.0
  reg_value r m =
      let named = in_map (λ (s : SizedNet). s.0) (plain_regs v) r m in
      start_other base (input_nets v) tick.inputs r.0 (no_input r.0 named)
      ∙ cond-true (is_among (names_of (plain_regs v)) r.0) (stored words r.0) (numbered 0 (clocks v) r.0) (is_named (names_of (plain_regs v)) r.0 named)

  source_fits : (n : List ℕ) (w : ℕ) → In (sources v) (n, w) → begin n < 2 ^ w
  source_fits n w m =
      ⊎_elim
      (λ (o : In (input_nets v) (n, w)). start_fits base (input_nets v) tick.inputs inputs_once shaped.inputs_fit n w o)
      (λ (o : In (plain_regs v) (n, w)). rw (reg_value (n, w) o) (reg_fits v valid state shaped.state_fits n w (chosen _ (regs v) (n, w) o).0))
      (in_either (input_nets v) (plain_regs v) (n, w) m)

  begin_fits : Fits v (names_of (sources v)) begin
  begin_fits = record { each = each }
    where
      each : (n : List ℕ) → In (names_of (sources v)) n → begin n < 2 ^ width_among (nets v) n
      each n m =
          let s = in_map_from (λ (s : SizedNet). s.0) (sources v) n m in
          let there : In (sources v) (n, s.0.1) = subst (λ (k : List ℕ). In (sources v) (k, s.0.1)) s.2 s.1 in
          rw (width_is v valid n s.0.1 (drawn_is_net v (n, s.0.1) there)) (source_fits n s.0.1 there)

  filled : Filled v words (order v valid) begin
  filled = fill v words (order v valid) (names_of (sources v)) begin follows begin_fits

  abbrev last : Env
  last = filled.last

  source_kept : (n : List ℕ) → In (names_of (sources v)) n → last n ≡ begin n
  source_kept n m = filled.keeps n (fresh_targets v valid n m)

  all_fit : (n : List ℕ) (w : ℕ) → In (nets v) (n, w) → last n < 2 ^ w
  all_fit n w i =
      ⊎_elim
      (λ (m : In (sources v) (n, w)). rw (source_kept n (in_map (λ (s : SizedNet). s.0) (sources v) (n, w) m)) (source_fits n w m))
      (λ (m : In (process_targets (processes v)) n).
      subst (λ (k : ℕ). last n < 2 ^ k) (width_is v valid n w i) (filled.driven_fits n (in_order v valid n m)))
      (drawn_or_driven v valid (n, w) i)

  -- a clock is no net
  no_net : (n : List ℕ) → In (clocks v) n → In (names_of (nets v)) n → ⊥
  no_net = apart (clocks v) (names_of (nets v)) (read_once v valid)

  no_source : (n : List ℕ) → In (clocks v) n → In (names_of (sources v)) n → ⊥
  no_source n m o =
      let s = in_map_from (λ (s : SizedNet). s.0) (sources v) n o in
      no_net n m (subst (In (names_of (nets v))) s.2 (in_map (λ (s : SizedNet). s.0) (nets v) s.0 (drawn_is_net v s.0 s.1)))

  no_target : (n : List ℕ) → In (clocks v) n → In (process_targets (order v valid)) n → ⊥
  no_target n m t =
      let p = in_map_from target (order v valid) n t in
      no_net n m (subst (In (names_of (nets v))) p.2 (target_is_net v valid p.0 (valid.ordered.1.only p.0 p.1)))

  not_shown : (n : List ℕ) → In (clocks v) n → base n ≡ numbered 0 (clocks v) n
  not_shown n m =
      ⊎_elim
      (λ (t : is_among (names_of (plain_regs v)) n ≡ true). absurd (no_source n m (named_right (input_nets v) (plain_regs v) n (among (names_of (plain_regs v)) n t))))
      (λ (f : is_among (names_of (plain_regs v)) n ≡ false). cond-false (is_among (names_of (plain_regs v)) n) (stored words n) (numbered 0 (clocks v) n) f)
      (true_or_false (is_among (names_of (plain_regs v)) n))

  clock_values : (k : ℕ) (n : List ℕ) → slice_get (clocks v) k ≡ Some n → last n ≡ k
  clock_values k n e =
      let m : In (clocks v) n = get_in (clocks v) k n e in
      let kept_value : last n ≡ begin n = filled.keeps n (no_target n m) in
      let number : begin n ≡ base n = start_other base (input_nets v) tick.inputs n (λ o. no_source n m (named_left (input_nets v) (plain_regs v) n o)) in
      let clock : base n ≡ numbered 0 (clocks v) n = not_shown n m in
      let is : numbered 0 (clocks v) n ≡ 0 + k = numbered_at 0 (clocks v) (distinct_left (clocks v) (names_of (nets v)) (read_once v valid)) k n e in
      omega arith

  at_rest : Rest v state tick last
  at_rest = record {
    begins = record {
      shaped = shaped;
      input_values =
          map_same last begin (names_of (input_nets v)) (λ n m. source_kept n (named_left (input_nets v) (plain_regs v) n m))
          ∙ start_values base (input_nets v) tick.inputs inputs_once shaped.inputs_fit;
      clock_values = clock_values;
      state_values = λ r m. source_kept r.0 (named_right (input_nets v) (plain_regs v) r.0 (in_map (λ (s : SizedNet). s.0) (plain_regs v) r m)) ∙ reg_value r m;
    };
    fits = all_fit;
    shows = λ p m. filled.shows p (valid.ordered.1.each p m);
  }

  pub has_one_rest : HasOneRest v state tick
  has_one_rest = record {
    env = last;
    rest = at_rest;
    same = λ e f p q. same_nets v valid state tick e f p.begins q.begins (λ r m. (p.shows r m, q.shows r m));
    same_clocks = λ e f p q. same_clocks v valid state tick e f p.begins q.begins;
  }
