-- The outputs that are shown and the words after the edges are those that settled values give.
use Rattle.std.proofs.Common.{◌≡◌, ℕ, ◌^◌, ◌<◌, List, length, map, refl, sym, ap, ◌∙◌, subst, Bool, if◌then◌else◌}
use Rattle.std.specs.Prelude.{nat_eq, Option, Some, None}
use Rattle.std.specs.List.{AllByRecursion, AllZip}
use Rattle.std.proofs.lemmas.Option.{slice_get_within}
use Rattle.fir_base.specs.Ticks.{Tick}
use Rattle.fir_bits.specs.working.Laws.{HasItsType}
use Rattle.fir_bits.specs.declared.types.NumTy.{NumTy}
use Rattle.fir_bits.specs.declared.values.Num.{Num}
use Rattle.fir_net.specs.declared.reads.Read.{Read}
use Rattle.fir_net.specs.declared.reads.Read.TheVariants as read
use Rattle.fir_net.specs.declared.leaf.ResetKind.{ResetKind}
use Rattle.fir_net.specs.declared.leaf.ResetKind.TheVariants.{Synchronous, Asynchronous}
use Rattle.fir_net.specs.declared.leaf.Reset.{Reset}
use Rattle.fir_net.specs.declared.leaf.Role.{Role}
use Rattle.fir_net.specs.declared.leaf.Role.TheVariants as role
use Rattle.fir_net.specs.declared.net.FlatNet.{FlatNet}
use Rattle.fir_net.specs.working.IsNet.{CanRead, CanBeDriven, CanBeReset, IsNet, IsRole}
use Rattle.fir_net.specs.working.Laws.{NodesHaveTheirTypes, NodesHaveTheirValues}
use Rattle.fir_net.specs.working.Settled.{value_at, is_high, outputs, registers}
use Rattle.fir_net.specs.working.Values.{at_width}
use Rattle.fir_net.specs.working.Next.{taken, taken_under, taken_with, ticks, next_by}
use Rattle.fir_net.proofs.LeafEquations.{driven_at}
use Rattle.fir_net.proofs.WholeValues.{type_at}
use Rattle.fir_work.specs.declared.task.Task.{Task}
use Rattle.fir_work.specs.working.Numbers.{number_at, place, value_in}
use Rattle.fir_work.specs.working.Tasks.{IsFitTask, worked}
use Rattle.fir_tick.specs.declared.plan.RegisterPlan.{RegisterPlan}
use Rattle.fir_tick.specs.declared.plan.ResetPlan.{ResetPlan}
use Rattle.fir_work.specs.working.Held.{IsHeld}
use Rattle.fir_tick.specs.working.Plans.{output_plan, plans_by, IsNextPlan, IsRegisterPlan, IsResetPlan, TakesBy}
use Rattle.fir_tick.specs.working.Roots.{root_at}
use Rattle.fir_tick.specs.working.Passes.{output_value, next_number, init_number, taken_number, register_value, CanBeTaken, CanReset, CanTake, Gives}
use Rattle.fir_tick.specs.working.Settling.{IsSettled}
use Rattle.fir_tick.proofs.Lists.{pairs_left, pairs_same}
use Rattle.fir_sim.proofs.PlanPairs.{IsOutput, outputs_paired}
use Rattle.fir_work.proofs.HeldNumbers.{place_within}
use Rattle.fir_work.proofs.WholeReads.{read_of}
use Rattle.fir_work.proofs.HeldTypes.{read_below}
use Rattle.fir_sim.proofs.SettledValues.{same_fitted, same_high}
use Rattle.fir_sim.proofs.Stages.{no_pipes, stage, stage_by, stage_of}

-- the outputs that are shown
pub outputs_shown : (net : FlatNet) → IsNet net → (ns : List ℕ) → map (λ p. (output_value ns p).number) (plans_by output_plan 0 net.leaves) ≡ map (number_at ns) (outputs net)
outputs_shown net whole ns = pairs_same (IsOutput net) (λ p. (output_value ns p).number) (number_at ns) (λ p k i. ap (number_at ns) i.place) _ (outputs net) (outputs_paired net whole)

-- each register can take an edge, and each pipe among them
module _ (has : HasItsType) (types : NodesHaveTheirTypes) (net : FlatNet) (whole : IsNet net) (ns : List ℕ) (held : IsHeld net ns) where
  pub fit_gives : (w : ℕ) (r : Read) (t : Task) → CanRead net.leaves net.nodes r → IsFitTask net r w t → Gives net ns w t
  fit_gives w r t can is = let fit = held.fits r (read_of net r can) in record { runs = is.runs ns fit; below = subst (λ (n : ℕ). n < 2 ^ w) (sym (is.gives ns fit)) (read_below has types net whole ns held w r can) }

  next_can : (w : ℕ) (signed : Bool) (o : Option Read) (t : Option Task) → IsNextPlan net w o t → CanBeDriven net.leaves net.nodes signed o → CanBeTaken net ns w t
  next_can w signed None None is can = tt
  next_can w signed None (Some t) is can = absurd is
  next_can w signed (Some r) None is can = absurd is
  next_can w signed (Some r) (Some t) is can = fit_gives w r t can.can is

  reset_can : (w : ℕ) (signed : Bool) (o : Option Reset) (p : Option ResetPlan) → IsResetPlan net w o p → CanBeReset net.leaves net.nodes signed o → CanReset net ns w p
  reset_can w signed None None is can = tt
  reset_can w signed None (Some p) is can = absurd is
  reset_can w signed (Some r) None is can = absurd is
  reset_can w signed (Some r) (Some p) is can =
      (subst (λ (k : ℕ). k < length ns) (sym is.condition) (place_within net ns held r.condition (read_of net r.condition can.condition)), fit_gives w r.init p.init can.init.can is.init)

  takes_can : (roots : List (Option ℕ)) (p : RegisterPlan) (signed : Bool) (width : ℕ) (r : Role) → TakesBy net roots p r → IsRole net.leaves net.nodes signed width r
      → CanReset net ns p.width p.reset × CanBeTaken net ns p.width p.next
  takes_can roots p signed width (role.Register d) takes driven = (reset_can p.width signed d.reset p.reset takes.reset driven.1, next_can p.width signed d.next p.next takes.next driven.2)
  takes_can roots p signed width (role.Pipe q) takes driven = (subst (CanReset net ns p.width) (sym takes.reset) tt, subst (CanBeTaken net ns p.width) (sym takes.next) tt)
  takes_can roots p signed width role.Input takes driven = absurd takes
  takes_can roots p signed width role.Clock takes driven = absurd takes
  takes_can roots p signed width (role.Output r) takes driven = absurd takes
  takes_can roots p signed width (role.Wire r) takes driven = absurd takes
  takes_can roots p signed width (role.Reading r) takes driven = absurd takes
  takes_can roots p signed width (role.ClockOutput c) takes driven = absurd takes
  takes_can roots p signed width (role.ClockWire c) takes driven = absurd takes

  register_can : (roots : List (Option ℕ)) (p : RegisterPlan) (k : ℕ) → IsRegisterPlan net roots p k → CanTake net ns p
  register_can roots p k i =
      let can = takes_can roots p i.leaf.signed i.leaf.width i.leaf.role i.takes (driven_at net whole k i.leaf i.leaf.role i.at refl) in
      let of = slice_get_within net.leaves k i.leaf i.at in
      let below = subst (λ (t : NumTy). number_at ns k < 2 ^ t.width) (type_at net.leaves k i.leaf i.at) (held.fits (read.Leaf k) of) in
      record {
        leaf = subst (λ (j : ℕ). j < length ns) (sym i.place) (place_within net ns held (read.Leaf k) of);
        narrow = i.narrow;
        below = subst (λ (w : ℕ). number_at ns p.leaf < 2 ^ w) i.width (subst (λ (j : ℕ). number_at ns j < 2 ^ i.leaf.width) (sym i.place) below);
        reset = can.0;
        next = can.1;
      }

  pub registers_can : (roots : List (Option ℕ)) (ps : List RegisterPlan) → AllZip (IsRegisterPlan net roots) ps (registers net) → AllByRecursion (CanTake net ns) ps
  registers_can roots ps pairs = pairs_left (IsRegisterPlan net roots) (CanTake net ns) (register_can roots) ps (registers net) pairs

-- the words of registers after the edges, where pipes hold theirs
module _ (has : HasItsType) (types : NodesHaveTheirTypes) (law : NodesHaveTheirValues) (net : FlatNet) (whole : IsNet net) (state start ns : List ℕ) (s : IsSettled net state start ns) where
  abbrev value : Read → Num
  value = value_in net ns

  abbrev env : ℕ → ℕ
  env = number_at ns

  pub fit_is : (w : ℕ) (r : Read) (t : Task) → CanRead net.leaves net.nodes r → IsFitTask net r w t → worked net t ns ≡ at_width (value_at net env r) w
  fit_is w r t can is = is.gives ns (s.held.fits r (read_of net r can)) ∙ same_fitted has types law net whole state start ns s w r can

  next_is : (w : ℕ) (signed : Bool) (now : ℕ) (o : Option Read) (t : Option Task) → IsNextPlan net w o t → CanBeDriven net.leaves net.nodes signed o → next_number net ns now t ≡ taken net env w now o
  next_is w signed now None None is can = refl
  next_is w signed now None (Some t) is can = absurd is
  next_is w signed now (Some r) None is can = absurd is
  next_is w signed now (Some r) (Some t) is can = fit_is w r t can.can is

  -- under a reset of that kind, whose condition and init have these numbers
  under_is : (w now n m x : ℕ) (kind : ResetKind) (c i : Read) (init : Task) → CanRead net.leaves net.nodes c → x ≡ number_at ns (place net c) → worked net init ns ≡ at_width (value_at net env i) w → n ≡ m
      → (if nat_eq x 1 then init_number net ns now kind init else n) ≡ taken_under net env w now kind c i m
  under_is w now n m x Synchronous c i init can is_x is_init e =
      ap (λ (y : ℕ). if nat_eq y 1 then worked net init ns else n) is_x
      ∙ ap (λ (b : Bool). if b then worked net init ns else n) (same_high has types law net whole state start ns s c can)
      ∙ ap (λ (y : ℕ). if is_high net env c then y else n) is_init
      ∙ ap (λ (y : ℕ). if is_high net env c then at_width (value_at net env i) w else y) e
  under_is w now n m x Asynchronous c i init can is_x is_init e =
      ap (λ (y : ℕ). if nat_eq y 1 then now else n) is_x
      ∙ ap (λ (b : Bool). if b then now else n) (same_high has types law net whole state start ns s c can)
      ∙ ap (λ (y : ℕ). if is_high net env c then now else y) e

  taken_is : (w : ℕ) (signed : Bool) (now : ℕ) (o : Option Reset) (p : Option ResetPlan) (next : Option Task) (m : ℕ) → IsResetPlan net w o p → CanBeReset net.leaves net.nodes signed o → next_number net ns now next ≡ m
      → taken_number net ns now p next ≡ taken_with net env w now o m
  taken_is w signed now None None next m is can e = e
  taken_is w signed now None (Some p) next m is can e = absurd is
  taken_is w signed now (Some r) None next m is can e = absurd is
  taken_is w signed now (Some r) (Some p) next m is can e =
      ap (λ (kind : ResetKind). if nat_eq (number_at ns p.condition) 1 then init_number net ns now kind p.init else next_number net ns now next) is.kind
      ∙ under_is w now (next_number net ns now next) m (number_at ns p.condition) r.kind r.condition r.init p.init can.condition (ap (number_at ns) is.condition) (fit_is w r.init p.init can.init.can is.init) e

  module _ (roots : List (Option ℕ)) (named : List ℕ) (p : RegisterPlan) (k : ℕ) (i : IsRegisterPlan net roots p k) where
    word_by : (r : Role) → i.leaf.role ≡ r → TakesBy net roots p r → (register_value net ns named p).number ≡ stage_by net env (root_at roots) named state no_pipes i.leaf.width (env k) r
    word_by (role.Register d) kind takes =
        let driven : IsRole net.leaves net.nodes i.leaf.signed i.leaf.width (role.Register d) = driven_at net whole k i.leaf (role.Register d) i.at kind in
        let next = next_is p.width i.leaf.signed (number_at ns p.leaf) d.next p.next takes.next driven.2 in
        let word = taken_is p.width i.leaf.signed (number_at ns p.leaf) d.reset p.reset p.next (taken net env p.width (number_at ns p.leaf) d.next) takes.reset driven.1 next in
        ap (λ (n : ℕ). if ticks named p.clock then n else number_at ns p.leaf) word
        ∙ ap (λ (c : Option ℕ). if ticks named c then taken_with net env p.width (number_at ns p.leaf) d.reset (taken net env p.width (number_at ns p.leaf) d.next) else number_at ns p.leaf) takes.clock
        ∙ ap (λ (j : ℕ). next_by net env (root_at roots) named state p.width (number_at ns j) (role.Register d)) i.place
        ∙ ap (λ (w : ℕ). next_by net env (root_at roots) named state w (number_at ns k) (role.Register d)) (sym i.width)
    word_by (role.Pipe q) kind takes =
        ap (λ (c : Option ℕ). if ticks named c then taken_number net ns (number_at ns p.leaf) p.reset p.next else number_at ns p.leaf) takes.clock ∙ ap (number_at ns) i.place
    word_by role.Input kind takes = absurd takes
    word_by role.Clock kind takes = absurd takes
    word_by (role.Output r) kind takes = absurd takes
    word_by (role.Wire r) kind takes = absurd takes
    word_by (role.Reading r) kind takes = absurd takes
    word_by (role.ClockOutput c) kind takes = absurd takes
    word_by (role.ClockWire c) kind takes = absurd takes

    word_same : (register_value net ns named p).number ≡ stage net env (root_at roots) named state no_pipes k
    word_same = word_by i.leaf.role refl i.takes ∙ sym (ap (stage_of net env (root_at roots) named state no_pipes (env k)) i.at)

  pub words_taken : (roots : List (Option ℕ)) (tick : Tick) (ps : List RegisterPlan) → AllZip (IsRegisterPlan net roots) ps (registers net) → map (λ p. (register_value net ns tick.clocks p).number) ps ≡ map (stage net env (root_at roots) tick.clocks state no_pipes) (registers net)
  words_taken roots tick ps pairs = pairs_same (IsRegisterPlan net roots) (λ p. (register_value net ns tick.clocks p).number) (stage net env (root_at roots) tick.clocks state no_pipes) (word_same roots tick.clocks) ps (registers net) pairs
