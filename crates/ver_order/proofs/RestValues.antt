-- Names that have their values at rest.
-- A step keeps the values of names that hold what their processes read, and each round gives one more name its value.
use Rattle.std.proofs.Common.{◌≡◌, ℕ, zero, suc, ◌≤◌, List, [], ◌∷◌, length, cond, true, false, Bool, refl, sym, ap, ◌∙◌, inl, inr, ◌⊎◌, ⊎_elim, subst, arith}
use Rattle.std.specs.Prelude.{slice_get, Some, None, Option}
use Rattle.std.specs.Str.{bytes_eq}
use Rattle.std.proofs.lemmas.Option.{slice_get_within}
use Rattle.fir_base.specs.Lists.{In}
use Rattle.fir_base.specs.Ticks.{Env}
use Rattle.fir_base.proofs.Elements.{get_in, number_of}
use Rattle.fir_base.proofs.Members.{each_in}
use Rattle.fir_base.proofs.SameNames.{name_is, name_apart}
use Rattle.ver_ast.specs.declared.tree.Verilog.{Verilog}
use Rattle.ver_ast.specs.Valid.{ReadsBefore}
use Rattle.ver_ast.specs.Stores.{Store}
use Rattle.ver_ast.specs.Processes.{Process, processes, target, process_targets, process_reads, given}
use Rattle.ver_ast.proofs.Processes.{same_given}
use Rattle.ver_order.specs.Steps.{process_step, step, step_of, steps}
use Rattle.ver_order.specs.working.Rounds.{HasRounds}
use Rattle.ver_order.specs.Rounds.{process_count}
use Rattle.ver_order.proofs.StepsAtRest.{steps_append}

module _ (v : Verilog) (store : Store) (e : Env) (shows : (p : Process) → In (processes v) p → e (target p) ≡ given v store e p) where
  -- e is at rest, and the names have its values
  pub record HasRestValues (known : List (List ℕ)) (env : Env) : Type 0 where
    pub each : (n : List ℕ) → In known n → env n ≡ e n

  -- the names hold all that the processes of these names read
  pub record HoldsReads (known : List (List ℕ)) : Type 0 where
    pub each : (p : Process) → In (processes v) p → In known (target p) → (n : List ℕ) → In (process_reads p) n → In known n

  -- what a process gives is its value at rest where all that it reads has such values
  given_at_rest : (known : List (List ℕ)) (env : Env) → HasRestValues known env → (p : Process) → In (processes v) p → ((n : List ℕ) → In (process_reads p) n → In known n)
      → given v store env p ≡ e (target p)
  given_at_rest known env r p m h = same_given v store env e p (record { each = λ n o. r.each n (h n o) }) ∙ sym (shows p m)

  step_to_rest : (known more : List (List ℕ)) (env : Env) → HasRestValues known env → (p : Process) → In (processes v) p
      → ((n : List ℕ) → In more n → n ≡ target p → (k : List ℕ) → In (process_reads p) k → In known k)
      → ((n : List ℕ) → In more n → (n ≡ target p → ⊥) → In known n) → HasRestValues more (process_step v store env p)
  step_to_rest known more env r p m here other = record { each = λ n o. by n o (bytes_eq n (target p)) refl }
    where
      by : (n : List ℕ) → In more n → (b : Bool) → bytes_eq n (target p) ≡ b → cond b (given v store env p) (env n) ≡ e n
      by n o true q = let same = name_is n (target p) q in given_at_rest known env r p m (here n o same) ∙ ap e (sym same)
      by n o false q = r.each n (other n o (name_apart n (target p) q))

  step_keeps : (known : List (List ℕ)) → HoldsReads known → (k : ℕ) (env : Env) → HasRestValues known env → HasRestValues known (step v store env k)
  step_keeps known c k env r = by (slice_get (processes v) k) (λ p q. get_in (processes v) k p q)
    where
      by : (q : Option Process) → ((p : Process) → q ≡ Some p → In (processes v) p) → HasRestValues known (step_of v store env q)
      by None h = r
      by (Some p) h =
          step_to_rest known known env r p (h p refl) (λ n o same. c.each p (h p refl) (subst (In known) same o)) (λ n o no. o)

  pub steps_keep : (known : List (List ℕ)) → HoldsReads known → (ks : List ℕ) (env : Env) → HasRestValues known env → HasRestValues known (steps v store ks env)
  unfolding steps
  steps_keep known c [] env r = r
  steps_keep known c (k ∷ ks) env r = steps_keep known c ks (step v store env k) (step_keeps known c k env r)

  -- a step of a process that reads known names gives its target the value at rest
  module _ (known : List (List ℕ)) (c : HoldsReads known) (p : Process) (m : In (processes v) p) (h : (n : List ℕ) → In (process_reads p) n → In known n)
      (c' : HoldsReads (target p ∷ known)) where
    step_gives : (k : ℕ) (env : Env) → slice_get (processes v) k ≡ Some p → HasRestValues known env → HasRestValues (target p ∷ known) (step v store env k)
    step_gives k env q r =
        subst (λ (o : Option Process). HasRestValues (target p ∷ known) (step_of v store env o)) (sym q)
        (step_to_rest known (target p ∷ known) env r p m (λ n o same. h)
        (λ n o no. ⊎_elim (λ (s : target p ≡ n). absurd (no (sym s))) (λ (i : In known n). i) o))

    steps_give : (k : ℕ) → slice_get (processes v) k ≡ Some p → (ks : List ℕ) (env : Env) → In ks k → HasRestValues known env → HasRestValues (target p ∷ known) (steps v store ks env)
    unfolding steps
    steps_give k q [] env i r = absurd i
    steps_give k q (j ∷ ks) env (inl s) r =
        steps_keep (target p ∷ known) c' ks (step v store env j) (step_gives j env (ap (slice_get (processes v)) s ∙ q) r)
    steps_give k q (j ∷ ks) env (inr i) r = steps_give k q ks (step v store env j) i (step_keeps known c j env r)

  -- as targets differ, the names still hold all that is read with one more target whose process reads known names
  grown : (known : List (List ℕ)) → HoldsReads known → (p : Process) → ((n : List ℕ) → In (process_reads p) n → In known n)
      → ((q : Process) → In (processes v) q → target p ≡ target q → q ≡ p) → HoldsReads (target p ∷ known)
  grown known c p h one = record {
    each = λ q m t n o. inr (⊎_elim
        (λ (s : target p ≡ target q). h n (subst (λ (z : Process). In (process_reads z) n) (one q m s) o))
        (λ (i : In known (target q)). c.each q m i n o) t);
  }

  -- a round for each process of the order gives all targets their values at rest
  pub rounds_give : (order : List Process) → ((p : Process) → In order p → In (processes v) p)
      → ((p q : Process) → In order p → In (processes v) q → target p ≡ target q → q ≡ p) → (readable known : List (List ℕ)) → ReadsBefore readable order
      → ((k : List ℕ) → In readable k → In known k) → HoldsReads known → (count : ℕ) → length order ≤ count → (list : List ℕ) → HasRounds (process_count v) count list
      → (env : Env) → HasRestValues known env → (k : List ℕ) → In known k ⊎ In (process_targets order) k → steps v store list env k ≡ e k
  rounds_give [] only one readable known after sub c count le list h env r k (inl m) = (steps_keep known c list env r).each k m
  rounds_give [] only one readable known after sub c count le list h env r k (inr m) = absurd m
  rounds_give (p ∷ order) only one readable known after sub c zero le list h env r k m = absurd (omega (arith, le))
  rounds_give (p ∷ order) only one readable known after sub c (suc count) le list h env r k m =
      let t = number_of (processes v) p (only p (inl refl)) in
      let have : (j : List ℕ) → In (process_reads p) j → In known j = λ j o. sub j (each_in (process_reads p) readable after.0 j o) in
      let bigger : HoldsReads (target p ∷ known) = grown known c p have (λ q o s. one p q (inl refl) o s) in
      let found : In h.0 t.0 = h.3 t.0 (omega (arith, slice_get_within (processes v) t.0 p t.1)) in
      let first : HasRestValues (target p ∷ known) (steps v store h.0 env) = steps_give known c p (only p (inl refl)) have bigger t.0 t.1 h.0 env found r in
      let split : steps v store list env ≡ steps v store h.1 (steps v store h.0 env) = ap (λ (l : List ℕ). steps v store l env) h.2 ∙ steps_append v store h.0 h.1 env in
      ap (λ (f : Env). f k) split
      ∙ rounds_give order (λ q o. only q (inr o)) (λ q s o. one q s (inr o)) (target p ∷ readable) (target p ∷ known) after.1
      (λ j o. ⊎_elim (λ (s : target p ≡ j). inl s) (λ (i : In readable j). inr (sub j i)) o) bigger count (omega (arith, le)) h.1 h.4 (steps v store h.0 env) first k
      (⊎_elim (λ (i : In known k). inl (inr i)) (λ (i : In (process_targets (p ∷ order)) k).
      ⊎_elim (λ (s : target p ≡ k). inl (inl s)) (λ (o : In (process_targets order) k). inr o) i) m)
