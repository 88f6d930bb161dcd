-- The steps of leaves and nodes, from their tasks and from what they read of arrays; and the steps of an order with one more.
use Rattle.std.proofs.Common.{◌≡◌, ℕ, ◌+◌, ◌≤◌, List, [], ◌∷◌, ◌++◌, length, Bool, true, false, nat_eq, nat_lt, ◌&&◌, if◌then◌else◌, slice_index, refl, sym, ap, ◌∙◌, subst, arith, append_assoc, append-nil}
use Rattle.std.specs.Prelude.{slice_get, Option, Some, None}
use Rattle.std.specs.List.{AllByRecursion}
use Rattle.std.specs.Option.{option_to_list}
use Rattle.std.proofs.lemmas.Bool.Decides.{nat_tests}
use Rattle.fir_base.specs.Ticks.{FitEach}
use Rattle.fir_bits.specs.declared.values.Num.{Num}
use Rattle.fir_net.specs.declared.array.ArrayRead.{ArrayRead}
use Rattle.fir_net.specs.declared.reads.Read.{Read}
use Rattle.fir_net.specs.declared.reads.Read.TheVariants as read
use Rattle.fir_net.specs.declared.leaf.ResetKind.{ResetKind}
use Rattle.fir_net.specs.declared.leaf.ResetKind.TheVariants.{Synchronous, Asynchronous}
use Rattle.fir_net.specs.declared.leaf.Reset.{Reset}
use Rattle.fir_net.specs.declared.leaf.Role.{Role}
use Rattle.fir_net.specs.declared.leaf.Role.TheVariants as role
use Rattle.fir_net.specs.declared.leaf.Leaf.{Leaf}
use Rattle.fir_net.specs.declared.node.Node.{Node}
use Rattle.fir_net.specs.declared.net.FlatNet.{FlatNet}
use Rattle.fir_net.specs.working.Arrays.{begin_of, word_in, words_of}
use Rattle.fir_net.specs.working.Dependence.{kind_reads, leaf_reads, node_reads, reset_reads, role_reads, reads_of}
use Rattle.fir_net.specs.working.Settled.{shape}
use Rattle.fir_net.specs.working.Values.{at_width}
use Rattle.fir_work.specs.declared.task.Task.{Task}
use Rattle.fir_work.specs.working.Numbers.{Fits, number_at, place, value_in}
use Rattle.fir_work.specs.working.NodeValues.{held_node_at}
use Rattle.fir_work.specs.working.Tasks.{CanRun, IsNodeTask, worked}
use Rattle.fir_tick.specs.declared.array_reads.WordRead.{WordRead}
use Rattle.fir_tick.specs.declared.spans.ArraySpan.{ArraySpan}
use Rattle.fir_tick.specs.declared.steps.Step.{Step}
use Rattle.fir_tick.specs.declared.steps.StepWork.{StepWork}
use Rattle.fir_tick.specs.declared.steps.StepWork.TheVariants as work
use Rattle.fir_tick.specs.working.ArrayReads.{word_found, IsWordRead}
use Rattle.fir_tick.specs.working.ArraySpans.{span_at}
use Rattle.fir_tick.specs.working.Settling.{held_under, held_register, held_word, held_role, held_leaf_at}
use Rattle.fir_tick.specs.working.Steps.{given, AreSteps, CanGive, IsFitWork, IsKindWork, IsLeafWork, IsRegisterWork, IsStepOf, IsTaskWork, IsWorkOf, Stays}
use Rattle.fir_tick.proofs.ArrayPlaces.{span_within}

-- a task gives a number where what it reads has its width
record TaskWorks (net : FlatNet) (t : Task) (reads : List Read) (number : List ℕ → ℕ) : Type 0 where
  each : (ns : List ℕ) → AllByRecursion (Fits net ns) reads → CanRun net t ns × (worked net t ns ≡ number ns)

-- so for what a step does, beside a state of the net's shape
record Works (net : FlatNet) (w : StepWork) (reads : List Read) (number : List ℕ → List ℕ → ℕ) : Type 0 where
  runs : (state ns : List ℕ) → FitEach (shape net).state state → AllByRecursion (Fits net ns) reads → CanGive net (length state) w ns
  gives : (state ns : List ℕ) → AllByRecursion (Fits net ns) reads → given net state w ns ≡ number state ns

of_task : (net : FlatNet) (t : Task) (reads : List Read) (number : List ℕ → ℕ) → TaskWorks net t reads number → Works net (work.Task t) reads (λ state ns. number ns)
of_task net t reads number w = record { runs = λ state ns fits fit. (w.each ns fit).0; gives = λ state ns fit. (w.each ns fit).1 }

none_below : (n : ℕ) → nat_lt n 0 ≡ false
none_below n = grind (arith, nat_tests)

-- a word that is read is the net's, and an array that does not stand in the state gives 0
word_is : (state : List ℕ) (enabled : Bool) (address n : ℕ) (o : Option ℕ)
    → (if enabled && nat_lt address (span_at n o).words then slice_index state ((span_at n o).begin + address) else 0) ≡ (if enabled && nat_lt address n then word_in state o address else 0)
word_is state false address n None = refl
word_is state true address n None = rw (none_below address) (by (nat_lt address n))
  where
    by : (b : Bool) → ◌≡◌ {A = ℕ} 0 (if b then 0 else 0)
    by true = refl
    by false = refl
word_is state enabled address n (Some begin) = refl

pub word_held : (net : FlatNet) (a : ArrayRead) (r : WordRead) → IsWordRead net a r → (state ns : List ℕ) → word_found r state ns ≡ held_word net state (value_in net ns) a
word_held net a r is state ns = rw (is.address, is.enable, is.span) (word_is state (nat_eq (number_at ns (place net a.enable)) 1) (number_at ns (place net a.address)) (words_of net.arrays a.array) (begin_of net a.array))

word_works : (net : FlatNet) (a : ArrayRead) (r : WordRead) → IsWordRead net a r → Works net (work.Word r) (a.address ∷ a.enable ∷ []) (λ state ns. held_word net state (value_in net ns) a)
word_works net a r is = record {
  runs = λ state ns fits fit. subst (λ (s : ArraySpan). s.begin + s.words ≤ length state) (sym is.span) (span_within net a.array state fits);
  gives = λ state ns fit. word_held net a r is state ns;
}

module _ (net : FlatNet) (k w : ℕ) where
  -- a leaf with a task
  kind_works : (kind : ResetKind) (c i : Read) (t : Task) → IsKindWork net k w kind c i (Some t) → TaskWorks net t (kind_reads kind c i) (λ ns. held_under (value_in net ns) w kind c i (number_at ns k))
  kind_works Synchronous c i t is = absurd (cc)
  kind_works Asynchronous c i t is = record { each = λ ns fit. (is.runs ns fit.1.0, is.gives ns fit.1.0) }

  register_works : (o : Option Reset) (t : Task) → IsRegisterWork net k w o (Some t) → TaskWorks net t (reset_reads o) (λ ns. held_register (value_in net ns) w o (number_at ns k))
  register_works None t is = absurd (cc)
  register_works (Some r) t is = kind_works r.kind r.condition r.init t is

  abbrev number : Role → List ℕ → List ℕ → ℕ
  number r state ns = held_role net state (value_in net ns) w (number_at ns k) r

  -- what a leaf does by a task
  task_works : (is : Option Task → Type 0) (reads : List Read) (number : List ℕ → ℕ) → ((t : Task) → is (Some t) → TaskWorks net t reads number) → (s : StepWork) → IsTaskWork is (Some s) → Works net s reads (λ state ns. number ns)
  task_works is reads number by (work.Task t) i = of_task net t reads number (by t i)
  task_works is reads number by (work.Word r) i = absurd i

  fit_works : (d : Read) (t : Task) → IsFitWork net d w (Some t) → TaskWorks net t (d ∷ []) (λ ns. at_width (value_in net ns d) w)
  fit_works d t is = record { each = λ ns fit. (is.runs ns fit.0, is.gives ns fit.0) }

  reading_works : (a : ArrayRead) (s : StepWork) → IsLeafWork net k w (role.Reading a) (Some s) → Works net s (a.address ∷ a.enable ∷ []) (number (role.Reading a))
  reading_works a (work.Task t) is = absurd is
  reading_works a (work.Word r) is = word_works net a r is

  role_works : (r : Role) (s : StepWork) → IsLeafWork net k w r (Some s) → Works net s (role_reads r) (number r)
  role_works role.Input s is = absurd (cc)
  role_works role.Clock s is = absurd (cc)
  role_works (role.Output d) s is = task_works (IsFitWork net d w) (d ∷ []) (λ ns. at_width (value_in net ns d) w) (fit_works d) s is
  role_works (role.Wire d) s is = task_works (IsFitWork net d w) (d ∷ []) (λ ns. at_width (value_in net ns d) w) (fit_works d) s is
  role_works (role.Register d) s is = task_works (IsRegisterWork net k w d.reset) (reset_reads d.reset) (λ ns. held_register (value_in net ns) w d.reset (number_at ns k)) (register_works d.reset) s is
  role_works (role.Reading a) s is = reading_works a s is
  role_works (role.Pipe p) s is = absurd (cc)
  role_works (role.ClockOutput c) s is = absurd (cc)
  role_works (role.ClockWire c) s is = absurd (cc)

  -- a leaf without one
  kind_stays : (kind : ResetKind) (c i : Read) → IsKindWork net k w kind c i None → (value : Read → Num) (now : ℕ) → held_under value w kind c i now ≡ now
  kind_stays Synchronous c i is value now = refl
  kind_stays Asynchronous c i is value now = absurd is

  register_stays : (o : Option Reset) → IsRegisterWork net k w o None → (value : Read → Num) (now : ℕ) → held_register value w o now ≡ now
  register_stays None is value now = refl
  register_stays (Some r) is value now = kind_stays r.kind r.condition r.init is value now

  role_stays : (r : Role) → IsLeafWork net k w r None → (state : List ℕ) (value : Read → Num) (now : ℕ) → held_role net state value w now r ≡ now
  role_stays role.Input is state value now = refl
  role_stays role.Clock is state value now = refl
  role_stays (role.Output d) is state value now = absurd is
  role_stays (role.Wire d) is state value now = absurd is
  role_stays (role.Register d) is state value now = register_stays d.reset is value now
  role_stays (role.Reading a) is state value now = absurd is
  role_stays (role.Pipe p) is state value now = refl
  role_stays (role.ClockOutput c) is state value now = refl
  role_stays (role.ClockWire c) is state value now = refl

module _ (net : FlatNet) (k : ℕ) where
  module _ (l : Leaf) (at : slice_get net.leaves k ≡ Some l) where
    pub leaf_steps : (s : Step) (w : StepWork) → IsLeafWork net k l.width l.role (Some w) → s.place ≡ place net (read.Leaf k) → s.work ≡ w → IsStepOf net (read.Leaf k) s
    leaf_steps s w is here same = record {
      is = here;
      runs = λ state ns fits fit. subst (λ (x : StepWork). CanGive net (length state) x ns) (sym same) (works.runs state ns fits (reads ns fit));
      gives = λ state ns fit. ap (λ (x : StepWork). given net state x ns) same ∙ works.gives state ns (reads ns fit) ∙ sym (ap (held_leaf_at net state (value_in net ns) (number_at ns k)) at);
    }
      where
        works : Works net w (role_reads l.role) (number net k l.width l.role)
        works = role_works net k l.width l.role w is

        reads : (ns : List ℕ) → AllByRecursion (Fits net ns) (reads_of net (read.Leaf k)) → AllByRecursion (Fits net ns) (role_reads l.role)
        reads ns fit = subst (λ (o : Option Leaf). AllByRecursion (Fits net ns) (leaf_reads o)) at fit

    pub leaf_stays : IsLeafWork net k l.width l.role None → Stays net (read.Leaf k)
    leaf_stays is = record { stays = λ state ns value. ap (held_leaf_at net state value (number_at ns k)) at ∙ role_stays net k l.width l.role is state value (number_at ns k) }

  pub node_steps : (n : Node) → slice_get net.nodes k ≡ Some n → (t : Task) (s : Step) → IsNodeTask net n t → s.place ≡ place net (read.Node k) → s.work ≡ work.Task t → IsStepOf net (read.Node k) s
  node_steps n at t s is here same = record {
    is = here;
    runs = λ state ns fits fit. rw same (is.runs ns (reads ns fit));
    gives = λ state ns fit. rw same (is.gives ns (reads ns fit) ∙ sym (ap (λ (o : Option Node). (held_node_at (value_in net ns) o).value.number) at));
  }
    where
      reads : (ns : List ℕ) → AllByRecursion (Fits net ns) (reads_of net (read.Node k)) → AllByRecursion (Fits net ns) (node_reads (Some n))
      reads ns fit = subst (λ (o : Option Node). AllByRecursion (Fits net ns) (node_reads o)) at fit

-- one more of an order
pub steps_more : (net : FlatNet) (order : List Read) (steps : List Step) (v : Read) (work : Option Step) → AreSteps net order steps → IsWorkOf net v work → AreSteps net (order ++ v ∷ []) (steps ++ option_to_list work)
steps_more net [] steps v work are is_work = (work, [], is_work, ap (λ (ss : List Step). ss ++ option_to_list work) are ∙ sym (append-nil (option_to_list work)), refl)
steps_more net (u ∷ order) steps v work are is_work =
    (are.0, are.1 ++ option_to_list work, are.2, ap (λ (ss : List Step). ss ++ option_to_list work) are.3 ∙ append_assoc (option_to_list are.0) are.1 (option_to_list work), steps_more net order are.1 v work are.4 is_work)
