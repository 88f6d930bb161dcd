-- As many rounds as there are processes end at rest.
use Rattle.std.proofs.Common.{◌≡◌, ℕ, ◌^◌, ◌<◌, ◌≤◌, List, [], ◌∷◌, ◌++◌, length, sym, ◌∙◌, inl, inr, ◌⊎◌, ⊎_elim, subst, arith}
use Rattle.fir_base.specs.Lists.{In}
use Rattle.fir_base.specs.Ticks.{Env, Tick}
use Rattle.fir_base.proofs.Elements.{get_in}
use Rattle.fir_base.proofs.Members.{in_map, in_left, in_right, in_either, each_in, map_same}
use Rattle.fir_base.proofs.Twins.{apart}
use Rattle.ver_ast.specs.declared.tree.Verilog.{Verilog}
use Rattle.ver_ast.specs.Nets.{SizedNet, input_nets, clocks, plain_regs, nets, variables, names_of}
use Rattle.ver_ast.specs.Valid.{Valid, ReadsBefore}
use Rattle.ver_ast.specs.Stores.{Store, store_of}
use Rattle.ver_ast.specs.Processes.{Process, processes, target, process_targets, process_reads, given}
use Rattle.ver_ast.specs.Settled.{SourcesShown, Rest}
use Rattle.ver_ast.specs.working.Laws.{HasOneRest}
use Rattle.ver_ast.proofs.Parts.{named_left, named_right}
use Rattle.ver_ast.proofs.Processes.{same_given, sources, undriven, target_is_net, read_once}
use Rattle.ver_ast.proofs.OneRest.{has_one_rest, in_order, same_sources, same_clocks, same_nets}
use Rattle.ver_order.specs.Steps.{steps}
use Rattle.ver_order.specs.working.Rounds.{HasRounds}
use Rattle.ver_order.specs.Rounds.{process_count}
use Rattle.ver_order.proofs.Elements.{same_by, no_longer}
use Rattle.ver_order.proofs.RestValues.{HasRestValues, HoldsReads, steps_keep, rounds_give}

-- what a process of an order reads is known, or a target
pub reads_known : (known : List (List ℕ)) (order : List Process) → ReadsBefore known order → (p : Process) → In order p → (n : List ℕ) → In (process_reads p) n
    → In known n ⊎ In (process_targets order) n
reads_known known [] after p m n o = absurd m
reads_known known (q ∷ order) after p (inl e) n o = inl (each_in (process_reads q) known after.0 n (subst (λ (z : Process). In (process_reads z) n) (sym e) o))
reads_known known (q ∷ order) after p (inr m) n o =
    ⊎_elim
    (λ (t : In (target q ∷ known) n). ⊎_elim (λ (s : target q ≡ n). inr (inl s)) (λ (i : In known n). inl i) t)
    (λ (t : In (process_targets order) n). inr (inr t))
    (reads_known (target q ∷ known) order after.1 p m n o)

module _ (v : Verilog) (valid : Valid v) (state : List ℕ) (tick : Tick) (f : Env) (begins : SourcesShown v state tick f) where
  abbrev words : Store
  words = store_of (variables v) state

  abbrev order : List Process
  order = valid.ordered.0

  one : HasOneRest v state tick
  one = has_one_rest v valid state tick begins.shaped

  abbrev e : Env
  e = one.env

  abbrev known : List (List ℕ)
  known = clocks v ++ names_of (sources v)

  -- where every process shows its value, all is at rest
  pub rest_of : ((p : Process) → In (processes v) p → f (target p) ≡ given v words f p) → Rest v state tick f
  rest_of shows = record { begins = begins; fits = fits; shows = shows }
    where
      fits : (n : List ℕ) (w : ℕ) → In (nets v) (n, w) → f n < 2 ^ w
      fits n w i =
          let same : e n ≡ f n = same_nets v valid state tick e f one.rest.begins begins (λ p m. (one.rest.shows p m, shows p m)) n w i in
          subst (λ (x : ℕ). x < 2 ^ w) same (one.rest.fits n w i)

  -- no process sets a clock or a source, so these hold all that such processes read
  closed : HoldsReads v words e one.rest.shows known
  closed = record {
    each = λ p m t n o. absurd (⊎_elim
        (λ (c : In (clocks v) (target p)). apart (clocks v) (names_of (nets v)) (read_once v valid) (target p) c (target_is_net v valid p m))
        (λ (s : In (names_of (sources v)) (target p)). undriven v valid (target p) s (in_map target (processes v) p m))
        (in_either (clocks v) (names_of (sources v)) (target p) t));
  }

  right : HasRestValues v words e one.rest.shows known f
  right = record {
    each = λ n m. ⊎_elim
        (λ (c : In (clocks v) n). same_clocks v valid state tick f e begins one.rest.begins n c)
        (λ (s : In (names_of (sources v)) n). same_sources v valid state tick f e begins one.rest.begins n s)
        (in_either (clocks v) (names_of (sources v)) n m);
  }

  -- an order is no longer than the list of all processes
  few : length order ≤ process_count v
  few = no_longer target order (processes v) valid.ordered.1.once valid.ordered.1.only

  -- values that keep the clocks, and the nets that no process drives, show the sources too
  sources_shown : (g : Env) → HasRestValues v words e one.rest.shows known g → SourcesShown v state tick g
  sources_shown g r = record {
    shaped = begins.shaped;
    input_values = map_same g e (names_of (input_nets v)) (λ n m. source n (named_left (input_nets v) (plain_regs v) n m)) ∙ one.rest.begins.input_values;
    clock_values = λ k n i. r.each n (in_left (clocks v) (names_of (sources v)) n (get_in (clocks v) k n i)) ∙ one.rest.begins.clock_values k n i;
    state_values = λ q m.
        source q.0 (named_right (input_nets v) (plain_regs v) q.0 (in_map (λ (s : SizedNet). s.0) (plain_regs v) q m)) ∙ one.rest.begins.state_values q m;
  }
    where
      source : (n : List ℕ) → In (names_of (sources v)) n → g n ≡ e n
      source n m = r.each n (in_right (clocks v) (names_of (sources v)) n m)

  -- steps leave the sources as they are
  pub sources_stay : (list : List ℕ) → SourcesShown v state tick (steps v words list f)
  sources_stay list = sources_shown (steps v words list f) (steps_keep v words e one.rest.shows known closed list f right)

  module _ (count : ℕ) (le : process_count v ≤ count) (list : List ℕ) (h : HasRounds (process_count v) count list) where
    abbrev g : Env
    g = steps v words list f

    same : (n : List ℕ) → In known n ⊎ In (process_targets order) n → g n ≡ e n
    same =
        rounds_give v words e one.rest.shows order valid.ordered.1.only
        (λ p q m n t. same_by target order valid.ordered.1.once q p (valid.ordered.1.each q n) m (sym t)) (names_of (sources v)) known valid.ordered.1.after
        (λ n m. in_right (clocks v) (names_of (sources v)) n m) closed count (omega (arith, few, le)) list h f right

    shows : (p : Process) → In (processes v) p → g (target p) ≡ given v words g p
    shows p m =
        same (target p) (inr (in_order v valid (target p) (in_map target (processes v) p m))) ∙ one.rest.shows p m
        ∙ same_given v words e g p (record { each = λ n o. sym (read n (reads_known (names_of (sources v)) order valid.ordered.1.after p (valid.ordered.1.each p m) n o)) })
      where
        read : (n : List ℕ) → In (names_of (sources v)) n ⊎ In (process_targets order) n → g n ≡ e n
        read n (inl s) = same n (inl (in_right (clocks v) (names_of (sources v)) n s))
        read n (inr t) = same n (inr t)

-- as many rounds as there are processes end at rest
pub settles : (v : Verilog) (valid : Valid v) (state : List ℕ) (tick : Tick) (env : Env) → SourcesShown v state tick env → (count : ℕ) → process_count v ≤ count
    → (list : List ℕ) → HasRounds (process_count v) count list → Rest v state tick (steps v (store_of (variables v) state) list env)
settles v valid state tick env b count le list h =
    rest_of v valid state tick (steps v (store_of (variables v) state) list env) (sources_stay v valid state tick env b list)
    (shows v valid state tick env b count le list h)
