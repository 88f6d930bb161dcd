-- The walk of a tick along an order, by its steps: what it has settled, what it settles next, and that in the end all is settled.
use Rattle.std.proofs.Common.{◌≡◌, ℕ, suc, ◌+◌, ◌-◌, ◌<◌, ◌≤◌, List, [], ◌∷◌, ◌++◌, drop, get_or, length, set, refl, sym, ap, ◌∙◌, subst, ⊎_elim, arith}
use Rattle.std.specs.Prelude.{slice_get, Option, Some, None}
use Rattle.std.specs.List.{AllByRecursion}
use Rattle.std.specs.Option.{option_to_list}
use Rattle.std.proofs.lemmas.Bool.{cases_lt}
use Rattle.std.proofs.lemmas.List.{drop_more, drop_all}
use Rattle.fir_base.specs.Ticks.{FitEach}
use Rattle.fir_bits.specs.working.Laws.{HasItsType}
use Rattle.fir_bits.specs.declared.values.Num.{Num}
use Rattle.fir_net.specs.declared.reads.Read.{Read}
use Rattle.fir_net.specs.declared.reads.Read.TheVariants as read
use Rattle.fir_net.specs.declared.net.FlatNet.{FlatNet}
use Rattle.fir_net.specs.working.Dependence.{IsOf, Reads, reads_of}
use Rattle.fir_net.specs.working.IsNet.{IsNet}
use Rattle.fir_net.specs.working.IsOrder.{IsOrder}
use Rattle.fir_net.specs.working.Laws.{NodesHaveTheirTypes}
use Rattle.fir_net.specs.working.Settled.{shape}
use Rattle.fir_net.specs.working.Values.{number_of}
use Rattle.fir_work.specs.working.Numbers.{Fits, number_at, place, type_read, value_in}
use Rattle.fir_tick.specs.declared.steps.Step.{Step}
use Rattle.fir_work.specs.working.Held.{IsHeld}
use Rattle.fir_tick.specs.working.Settling.{held_leaf_at, worth, IsSettled}
use Rattle.fir_tick.specs.working.Steps.{given, AreSteps, CanGive, IsStepOf, IsStepped, IsWorkOf, Stays}
use Rattle.fir_tick.proofs.Walks.{Met, none_met, one_more}
use Rattle.fir_work.proofs.HeldNumbers.{number_here, number_there, place_within, still_held}
use Rattle.fir_tick.proofs.WorthWidths.{worth_below}
use Rattle.fir_tick.proofs.HeldValues.{value_worth, worth_hangs}
use Rattle.fir_tick.proofs.Lists.{all_from}

-- what stands before a place is what it is worth, and all else is as it was put
pub record Settles (net : FlatNet) (order : List Read) (state start ns : List ℕ) (n : ℕ) : Type 0 where
  pub held : IsHeld net ns
  pub rest : (j : ℕ) (v : Read) → n ≤ j → slice_get order j ≡ Some v → number_at ns (place net v) ≡ number_at start (place net v)
  pub met : Met order (value_worth net state start) n (value_in net ns)

-- these steps go on from a place of the order
pub record Goes (net : FlatNet) (order : List Read) (state start ns : List ℕ) (steps : List Step) : Type 0 where
  pub place : ℕ
  pub settles : Settles net order state start ns place
  pub ahead : List Read
  pub from : (i : ℕ) → slice_get ahead i ≡ slice_get order (place + i)
  pub are : AreSteps net ahead steps

-- the next step
pub record Next (net : FlatNet) (order : List Read) (state start ns : List ℕ) (s : Step) (steps : List Step) : Type 0 where
  pub place : ℕ
  pub settles : Settles net order state start ns place
  pub read : Read
  pub at : slice_get order place ≡ Some read
  pub is : IsStepOf net read s
  pub ahead : List Read
  pub from : (i : ℕ) → slice_get ahead i ≡ slice_get order (place + 1 + i)
  pub are : AreSteps net ahead steps

module _ (has : HasItsType) (types : NodesHaveTheirTypes) (net : FlatNet) (whole : IsNet net) (order : List Read) (is : IsOrder net order) (state : List ℕ) (fits : FitEach (shape net).state state) (start : List ℕ) where
  pub goes_first : IsHeld net start → (steps : List Step) → AreSteps net order steps → Goes net order state start start steps
  goes_first held steps are = record {
    place = 0;
    settles = record { held = held; rest = λ j v l at. refl; met = none_met order (value_worth net state start) (value_in net start) };
    ahead = order;
    from = λ i. let e : i ≡ 0 + i = omega arith in ap (slice_get order) e;
    are = are;
  }

  module _ (ns : List ℕ) where
    abbrev value : Read → Num
    value = value_in net ns

    -- one that hangs on nothing
    skipped : (n : ℕ) (v : Read) → Settles net order state start ns n → slice_get order n ≡ Some v → Stays net v → Settles net order state start ns (n + 1)
    skipped n v s at stays = record {
      held = s.held;
      rest = λ j w l here. s.rest j w (omega (arith, l)) here;
      met =
          one_more order (value_worth net state start) is.once (worth_hangs net order is state start) n v value value s.met at
          (ap (number_of (type_read net v)) (s.rest n v (omega arith) at ∙ sym (stays.stays state start value)))
          (λ j w here apart. refl);
    }

    -- what a leaf or a node hangs on has its width
    reads_fit : (n : ℕ) (v : Read) → IsHeld net ns → slice_get order n ≡ Some v → AllByRecursion (Fits net ns) (reads_of net v)
    reads_fit n v held at =
        all_from (Fits net ns) (reads_of net v)
        (λ j r e. let hangs : Reads net v r = record { place = j; is = e } in let before = is.after n v r at hangs in held.fits r (is.only before.0 r before.2))

    module _ (n : ℕ) (v : Read) (s : Settles net order state start ns n) (at : slice_get order n ≡ Some v) where
      abbrev x : ℕ
      x = worth net state ns value v

      abbrev after : List ℕ
      after = set ns (place net v) x

      of : IsOf net v
      of = is.only n v at

      -- what was put there at the start still stands
      as_put : (w : Read) → number_at ns (place net w) ≡ number_at start (place net w) → worth net state ns value w ≡ worth net state start value w
      as_put (read.Leaf k) e = ap (λ (now : ℕ). held_leaf_at net state value now (slice_get net.leaves k)) e
      as_put (read.Node k) e = refl

      settled_more : Settles net order state start after (n + 1)
      settled_more = record {
        held = still_held net ns s.held v of x (worth_below has types net whole state fits ns s.held v of);
        rest = λ j w l here.
            number_there net ns s.held v of x w (is.only j w here) (λ same. omega (arith, l, is.once j n v (here ∙ ap (λ (u : Read). Some u) same) at))
            ∙ s.rest j w (omega (arith, l)) here;
        met =
            one_more order (value_worth net state start) is.once (worth_hangs net order is state start) n v value (value_in net after) s.met at
            (ap (number_of (type_read net v)) (number_here net ns s.held v of x ∙ as_put v (s.rest n v (omega arith) at)))
            (λ j w here apart. ap (number_of (type_read net w)) (number_there net ns s.held v of x w (is.only j w here) apart));
      }

    -- a step finds what it works with, and goes on
    module _ (s : Step) (steps : List Step) (next : Next net order state start ns s steps) where
      fit : AllByRecursion (Fits net ns) (reads_of net next.read)
      fit = reads_fit next.place next.read next.settles.held next.at

      pub step_within : s.place < length ns
      step_within = subst (λ (k : ℕ). k < length ns) (sym next.is.is) (place_within net ns next.settles.held next.read (is.only next.place next.read next.at))

      pub step_runs : CanGive net (length state) s.work ns
      step_runs = next.is.runs state ns fits fit

      pub step_taken : Goes net order state start (set ns s.place (given net state s.work ns)) steps
      step_taken = record {
        place = next.place + 1;
        settles =
            subst (λ (k : ℕ). Settles net order state start (set ns k (given net state s.work ns)) (next.place + 1)) (sym next.is.is)
            (subst (λ (m : ℕ). Settles net order state start (set ns (place net next.read) m) (next.place + 1)) (sym (next.is.gives state ns fit)) (settled_more next.place next.read next.settles next.at));
        ahead = next.ahead;
        from = next.from;
        are = next.are;
      }

    -- past all that hangs on nothing
    one_on : (n : ℕ) (v : Read) (ahead : List Read) → ((i : ℕ) → slice_get (v ∷ ahead) i ≡ slice_get order (n + i)) → (i : ℕ) → slice_get ahead i ≡ slice_get order (n + 1 + i)
    one_on n v ahead from i = let e : n + suc i ≡ n + 1 + i = omega arith in from (suc i) ∙ ap (slice_get order) e

    stands : (n : ℕ) (v : Read) (ahead : List Read) → ((i : ℕ) → slice_get (v ∷ ahead) i ≡ slice_get order (n + i)) → slice_get order n ≡ Some v
    stands n v ahead from = let e : n ≡ n + 0 = omega arith in ap (slice_get order) e ∙ sym (from 0)

    next_of : (s : Step) (steps : List Step) (ahead : List Read) (n : ℕ) → Settles net order state start ns n → ((i : ℕ) → slice_get ahead i ≡ slice_get order (n + i)) → AreSteps net ahead (s ∷ steps) → Next net order state start ns s steps
    next_of s steps [] n settles from are = cc
    next_of s steps (v ∷ ahead) n settles from are =
        by are.0 are.1 are.2 are.3 are.4
        (λ stays rest. next_of s steps ahead (n + 1) (skipped n v settles (stands n v ahead from) stays) (one_on n v ahead from) rest)
      where
        by : (work : Option Step) (others : List Step) → IsWorkOf net v work → s ∷ steps ≡ option_to_list work ++ others → AreSteps net ahead others
            → (Stays net v → AreSteps net ahead (s ∷ steps) → Next net order state start ns s steps) → Next net order state start ns s steps
        by None others is_work e rest past = past is_work (subst (AreSteps net ahead) (sym e) rest)
        by (Some t) others is_work e rest past =
            let same : t ≡ s = cc in
            let others_are : others ≡ steps = cc in
            record {
              place = n;
              settles = settles;
              read = v;
              at = stands n v ahead from;
              is = subst (IsStepOf net v) same is_work;
              ahead = ahead;
              from = one_on n v ahead from;
              are = subst (AreSteps net ahead) others_are rest;
            }

    pub goes_on : (s : Step) (steps : List Step) → Goes net order state start ns (s ∷ steps) → Next net order state start ns s steps
    goes_on s steps g = next_of s steps g.ahead g.place g.settles g.from g.are

    -- with no step left, all is settled
    all_met : (n : ℕ) → Settles net order state start ns n → ((i : ℕ) → None ≡ slice_get order (n + i)) → IsSettled net state start ns
    all_met n settles from = record {
      held = settles.held;
      meets = λ v of. let stand = is.all v of in ap (λ (x : Num). x.value.number) (settles.met.each stand.0 v (low v stand.0 stand.1) stand.1);
    }
      where
        low : (v : Read) (p : ℕ) → slice_get order p ≡ Some v → p < n
        low v p at =
            ⊎_elim
            (λ (less : p < n). less)
            (λ (le : n ≤ p). let e : n + (p - n) ≡ p = omega (arith, le) in let past = from (p - n) ∙ ap (slice_get order) e ∙ at in absurd (cc))
            (cases_lt p n)

    end_of : (ahead : List Read) (n : ℕ) → Settles net order state start ns n → ((i : ℕ) → slice_get ahead i ≡ slice_get order (n + i)) → AreSteps net ahead [] → IsSettled net state start ns
    end_of [] n settles from are = all_met n settles from
    end_of (v ∷ ahead) n settles from are =
        by are.0 are.1 are.2 are.3 are.4
        (λ stays rest. end_of ahead (n + 1) (skipped n v settles (stands n v ahead from) stays) (one_on n v ahead from) rest)
      where
        by : (work : Option Step) (others : List Step) → IsWorkOf net v work → [] ≡ option_to_list work ++ others → AreSteps net ahead others → (Stays net v → AreSteps net ahead [] → IsSettled net state start ns) → IsSettled net state start ns
        by None others is_work e rest past = past is_work (subst (AreSteps net ahead) (sym e) rest)
        by (Some t) others is_work e rest past = absurd (cc)

    pub goes_to_the_end : Goes net order state start ns [] → IsSettled net state start ns
    goes_to_the_end g = end_of g.ahead g.place g.settles g.from g.are

-- the walk along some order of the net
pub record Walk (net : FlatNet) (state start ns : List ℕ) (steps : List Step) : Type 0 where
  pub order : List Read
  pub ordered : IsOrder net order
  pub goes : Goes net order state start ns steps

module _ (has : HasItsType) (types : NodesHaveTheirTypes) (net : FlatNet) (whole : IsNet net) (state : List ℕ) (fits : FitEach (shape net).state state) (start : List ℕ) where
  pub walk_first : IsHeld net start → (steps : List Step) → IsStepped net steps → Walk net state start start steps
  walk_first held steps stepped = record { order = stepped.order; ordered = stepped.ordered; goes = goes_first has types net whole stepped.order stepped.ordered state fits start held steps stepped.are }

  module _ (ns : List ℕ) (steps : List Step) (j : ℕ) where
    module _ (d : Step) (lt : j < length steps) (w : Walk net state start ns (drop j steps)) where
      abbrev s : Step
      s = get_or steps j d

      next : Next net w.order state start ns s (drop (j + 1) steps)
      next = goes_on has types net whole w.order w.ordered state fits start ns s (drop (j + 1) steps) (subst (Goes net w.order state start ns) (drop_more steps j d lt) w.goes)

      pub walk_within : s.place < length ns
      walk_within = step_within has types net whole w.order w.ordered state fits start ns s (drop (j + 1) steps) next

      pub walk_runs : (room : ℕ) → length state ≡ room → CanGive net room s.work ns
      walk_runs room long = subst (λ (n : ℕ). CanGive net n s.work ns) long (step_runs has types net whole w.order w.ordered state fits start ns s (drop (j + 1) steps) next)

      pub walk_on : Walk net state start (set ns s.place (given net state s.work ns)) (drop (j + 1) steps)
      walk_on = record { order = w.order; ordered = w.ordered; goes = step_taken has types net whole w.order w.ordered state fits start ns s (drop (j + 1) steps) next }

    pub walk_last : length steps ≤ j → Walk net state start ns (drop j steps) → IsSettled net state start ns
    walk_last le w = goes_to_the_end has types net whole w.order w.ordered state fits start ns (subst (Goes net w.order state start ns) (drop_all j steps le) w.goes)
