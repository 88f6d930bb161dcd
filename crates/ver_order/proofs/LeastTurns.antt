-- The least number of turns of a round that settles.
use Rattle.std.proofs.Common.{◌≡◌, ℕ, zero, suc, ◌+◌, ◌<◌, ◌≤◌, ◌-◌, List, [], ◌∷◌, ◌++◌, refl, sym, ap, ◌∙◌, inl, inr, ◌⊎◌, ⊎_elim, subst, arith}
use Rattle.std.specs.Prelude.{max, Option, Some, None}
use Rattle.std.proofs.lemmas.Bool.{cases_eq, cases_lt}
use Rattle.fir_base.specs.Lists.{In}
use Rattle.fir_base.specs.Ticks.{Env, Tick}
use Rattle.ver_ast.specs.declared.tree.Verilog.{Verilog}
use Rattle.ver_ast.specs.Nets.{variables}
use Rattle.ver_ast.specs.Valid.{Valid}
use Rattle.ver_ast.specs.Stores.{Store, store_of}
use Rattle.ver_ast.specs.Processes.{processes, target, wanted}
use Rattle.ver_ast.specs.Settled.{SourcesShown, VSettled}
use Rattle.ver_order.specs.Steps.{steps}
use Rattle.ver_order.specs.working.Rounds.{IsRound, HasRounds}
use Rattle.ver_order.specs.Rounds.{process_count, repeated_steps, SettlesFirstAfter}
use Rattle.ver_order.specs.working.Laws.{ShowValues}
use Rattle.ver_order.proofs.StepsAtRest.{steps_append}
use Rattle.ver_order.proofs.Rounds.{sources_stay, settles}
use Rattle.ver_order.proofs.Shown.{settled_where_one_is, shown_settled}

has_or_not : (o : Option ℕ) (x : ℕ) → (o ≡ Some x) ⊎ (o ≡ Some x → ⊥)
has_or_not None x = inr (λ e. absurd (cc))
has_or_not (Some y) x = by (cases_eq y x)
  where
    by : (y ≡ x) ⊎ (y ≡ x → ⊥) → (Some y ≡ Some x) ⊎ (Some y ≡ Some x → ⊥)
    by (inl e) = inl (ap Some e)
    by (inr n) = inr (λ e. n (cc))

-- all of a list, or not all
all_or_not : {A : Type 0} → (P : A → Type 0) → ((x : A) → P x ⊎ (P x → ⊥)) → (xs : List A) → ((x : A) → In xs x → P x) ⊎ (((x : A) → In xs x → P x) → ⊥)
all_or_not P d [] = inl (λ x m. absurd m)
all_or_not {A} P d (y ∷ ys) = by (d y) (all_or_not P d ys)
  where
    by : P y ⊎ (P y → ⊥) → ((x : A) → In ys x → P x) ⊎ (((x : A) → In ys x → P x) → ⊥) → ((x : A) → In (y ∷ ys) x → P x) ⊎ (((x : A) → In (y ∷ ys) x → P x) → ⊥)
    by (inl h) (inl k) = inl (λ x m. ⊎_elim (λ (e : y ≡ x). subst P e h) (λ (n : In ys x). k x n) m)
    by (inl h) (inr n) = inr (λ k. n (λ x m. k x (inr m)))
    by (inr n) k = inr (λ g. n (g y (inl refl)))

-- as there are so many processes, it can be seen whether all is settled
settled_or_not : (v : Verilog) → Valid v → (state : List ℕ) (tick : Tick) (env : Env) → SourcesShown v state tick env
    → VSettled v state tick env ⊎ (VSettled v state tick env → ⊥)
settled_or_not v valid state tick env b =
    let both = shown_settled v valid state tick env b in
    ⊎_elim
    (λ (h : ShowValues v state env). inl (both.0 h))
    (λ (n : ShowValues v state env → ⊥). inr (λ s. n (both.1 s)))
    (all_or_not (λ p. wanted v (store_of (variables v) state) env p ≡ Some (env (target p))) (λ p. has_or_not (wanted v (store_of (variables v) state) env p) (env (target p))) (processes v))

-- the least number from 1 on of which it holds
record Least (P : ℕ → Type 0) (most : ℕ) : Type 0 where
  at : ℕ
  some : 1 ≤ at
  here : P at
  low : at ≤ most
  none : (j : ℕ) → 1 ≤ j → j < at → P j → ⊥

search_up : (P : ℕ → Type 0) → ((k : ℕ) → P k ⊎ (P k → ⊥)) → (most : ℕ) → P most → (left from : ℕ) → 1 ≤ from → left + from ≡ most
    → ((j : ℕ) → 1 ≤ j → j < from → P j → ⊥) → Least P most
search_up P d most p zero from one e none =
    let same : from ≡ most = omega arith in
    record { at = from; some = one; here = subst P (sym same) p; low = omega arith; none = none }
search_up P d most p (suc left) from one e none = by (d from) (search_up P d most p left (suc from) (omega arith) (omega arith))
  where
    by : P from ⊎ (P from → ⊥) → (((j : ℕ) → 1 ≤ j → j < suc from → P j → ⊥) → Least P most) → Least P most
    by (inl h) k = record { at = from; some = one; here = h; low = omega arith; none = none }
    by (inr n) k = k (λ j l g q. ⊎_elim
        (λ (lt : j < from). none j l lt q)
        (λ (le : from ≤ j). let same : j ≡ from = omega arith in n (subst P same q))
        (cases_lt j from))

-- so many turns of a round as one list
in_a_row : List ℕ → ℕ → List ℕ
in_a_row round zero = []
in_a_row round (suc count) = round ++ in_a_row round count

repeated_in_a_row : (v : Verilog) (store : Store) (round : List ℕ) (count : ℕ) (env : Env) → repeated_steps v store round count env ≡ steps v store (in_a_row round count) env
unfolding repeated_steps steps in_a_row
repeated_in_a_row v store round zero env = refl
repeated_in_a_row v store round (suc count) env = repeated_in_a_row v store round count (steps v store round env) ∙ sym (steps_append v store round (in_a_row round count) env)

-- turns leave the sources as they are
pub sources_stay_repeated : (v : Verilog) → Valid v → (state : List ℕ) (tick : Tick) (env : Env) → SourcesShown v state tick env → (round : List ℕ) (count : ℕ)
    → SourcesShown v state tick (repeated_steps v (store_of (variables v) state) round count env)
sources_stay_repeated v valid state tick env b round count =
    subst (SourcesShown v state tick) (sym (repeated_in_a_row v (store_of (variables v) state) round count env)) (sources_stay v valid state tick env b (in_a_row round count))

rounds_in_a_row : (n : ℕ) (round : List ℕ) → IsRound n round → (count : ℕ) → HasRounds n count (in_a_row round count)
unfolding in_a_row
rounds_in_a_row n round r zero = tt
rounds_in_a_row n round r (suc count) = (round, in_a_row round count, refl, r, rounds_in_a_row n round r count)

pub few_rounds : (v : Verilog) (valid : Valid v) (state : List ℕ) (tick : Tick) (settled : Env) → VSettled v state tick settled → (env : Env)
    → SourcesShown v state tick env → (round : List ℕ) → IsRound (process_count v) round
    → (count : ℕ) × SettlesFirstAfter v state tick round env count × (count ≤ max 1 (process_count v))
few_rounds v valid state tick settled s env b round r =
    let found = search_up IsSettled decide most enough (most - 1) 1 (omega arith) (omega arith) (λ j l g q. absurd (omega (arith, l, g))) in
    (found.at, record { some = found.some; settled = found.here; least = found.none }, found.low)
  where
    store : Store
    store = store_of (variables v) state

    most : ℕ
    most = max 1 (process_count v)

    IsSettled : ℕ → Type 0
    IsSettled k = VSettled v state tick (repeated_steps v store round k env)

    decide : (k : ℕ) → IsSettled k ⊎ (IsSettled k → ⊥)
    decide k =
        subst (λ (g : Env). VSettled v state tick g ⊎ (VSettled v state tick g → ⊥)) (sym (repeated_in_a_row v store round k env))
        (settled_or_not v valid state tick (steps v store (in_a_row round k) env) (sources_stay v valid state tick env b (in_a_row round k)))

    enough : IsSettled most
    enough =
        subst (VSettled v state tick) (sym (repeated_in_a_row v store round most env))
        (settled_where_one_is v valid state tick settled (steps v store (in_a_row round most) env) s
        (settles v valid state tick env b most (omega arith) (in_a_row round most) (rounds_in_a_row (process_count v) round r most)))
