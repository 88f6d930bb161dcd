-- Held numbers that are settled are settled values of the net.
use Rattle.std.proofs.Common.{◌≡◌, ℕ, List, [], ◌∷◌, length, map, take, refl, sym, ap, ◌∙◌, Bool, nat_lt, ◌&&◌, if◌then◌else◌, slice_index, option_map, unwrap_or}
use Rattle.std.specs.Prelude.{slice_get, Option, Some, None}
use Rattle.std.specs.List.{AllByRecursion}
use Rattle.std.proofs.lemmas.List.{get_or-take}
use Rattle.std.proofs.lemmas.Option.{slice_get_within}
use Rattle.fir_base.specs.Ticks.{Tick, FitEach}
use Rattle.fir_bits.specs.working.Laws.{HasItsType}
use Rattle.fir_bits.specs.working.Operators.{type_of}
use Rattle.fir_bits.specs.declared.types.NumTy.{NumTy}
use Rattle.fir_bits.specs.declared.values.Num.{Num}
use Rattle.fir_net.specs.declared.array.ArrayRead.{ArrayRead}
use Rattle.fir_net.specs.declared.reads.Read.{Read}
use Rattle.fir_net.specs.declared.reads.Read.TheVariants as read
use Rattle.fir_net.specs.declared.leaf.ResetKind.{ResetKind}
use Rattle.fir_net.specs.declared.leaf.ResetKind.TheVariants.{Synchronous, Asynchronous}
use Rattle.fir_net.specs.declared.leaf.Reset.{Reset}
use Rattle.fir_net.specs.declared.leaf.Role.{Role}
use Rattle.fir_net.specs.declared.leaf.Role.TheVariants as role
use Rattle.fir_net.specs.declared.leaf.Leaf.{Leaf}
use Rattle.fir_net.specs.declared.node.Node.{Node}
use Rattle.fir_net.specs.declared.net.FlatNet.{FlatNet}
use Rattle.fir_net.specs.working.Arrays.{begin_of, word_in, words_of}
use Rattle.fir_net.specs.working.Values.{at_width, number_of}
use Rattle.fir_net.specs.working.IsNet.{node_type, CanRead, CanBeReset, IsAddressed, IsNet}
use Rattle.fir_bits.specs.Forms.{no_type}
use Rattle.fir_net.specs.working.Laws.{NodesHaveTheirTypes, NodesHaveTheirValues}
use Rattle.fir_net.specs.working.Settled.{value_at, driver, shown_by, shown, is_high, word_read, inputs, registers, shape, Settled}
use Rattle.fir_net.proofs.Places.{value_at_place}
use Rattle.fir_net.proofs.LeafEquations.{driven_at}
use Rattle.fir_work.specs.working.Numbers.{number_at, type_read, value_in}
use Rattle.fir_work.specs.working.NodeValues.{held_node, held_node_at}
use Rattle.fir_tick.specs.working.Views.{IsTickOf}
use Rattle.fir_tick.specs.working.Roots.{root_at, AreRoots}
use Rattle.fir_tick.specs.working.Settling.{is_one, held_under, held_register, held_word, held_role, held_leaf_at, IsSettled}
use Rattle.fir_tick.specs.declared.plan.InputPlan.{InputPlan}
use Rattle.fir_tick.proofs.Lists.{pairs_right}
use Rattle.fir_sim.proofs.PlanPairs.{IsInput, inputs_paired}
use Rattle.fir_work.proofs.HeldNumbers.{leaves_fit}
use Rattle.fir_sim.proofs.HeldReads.{what_is_read}
use Rattle.fir_work.proofs.HeldTypes.{node_is}

map_same : {A B : Type 0} → (f g : A → B) (xs : List A) → AllByRecursion (λ x. f x ≡ g x) xs → map f xs ≡ map g xs
map_same f g [] h = refl
map_same f g (x ∷ xs) h = let first = h.0 in let rest = map_same f g xs h.1 in rw (first, rest) refl

-- a value of a type is that type's value of its number
of_its_type : (t : NumTy) (v : Num) → type_of v ≡ t → number_of t v.value.number ≡ v
of_its_type t v e = sym (ap (λ (u : NumTy). number_of u v.value.number) e)

module _ (has : HasItsType) (types : NodesHaveTheirTypes) (law : NodesHaveTheirValues) (net : FlatNet) (whole : IsNet net) (state start ns : List ℕ) (s : IsSettled net state start ns) where
  abbrev pub value : Read → Num
  value = value_in net ns

  abbrev pub env : ℕ → ℕ
  env = number_at ns

  node_meets : (k : ℕ) (n : Node) → slice_get net.nodes k ≡ Some n → value (read.Node k) ≡ held_node value n
  node_meets k n at =
      let own : type_read net (read.Node k) ≡ node_type n = ap (λ (o : Option Node). unwrap_or (option_map node_type o) no_type) at in
      ap (number_of (type_read net (read.Node k))) (s.meets (read.Node k) (slice_get_within net.nodes k n at) ∙ ap (λ (o : Option Node). (held_node_at value o).value.number) at)
      ∙ of_its_type (type_read net (read.Node k)) (held_node value n) ((node_is has types net whole ns s.held k n at).is ∙ sym own)

  -- what is held is what is read
  pub same_read : (r : Read) → CanRead net.leaves net.nodes r → value r ≡ value_at net env r
  same_read r can = what_is_read law net whole ns node_meets r can

  pub same_fitted : (w : ℕ) (r : Read) → CanRead net.leaves net.nodes r → at_width (value r) w ≡ at_width (value_at net env r) w
  same_fitted w r can = ap (λ (v : Num). at_width v w) (same_read r can)

  pub same_high : (r : Read) → CanRead net.leaves net.nodes r → is_one (value r) ≡ is_high net env r
  same_high r can = ap is_one (same_read r can)

  under_shown : (w : ℕ) (kind : ResetKind) (c i : Read) (now : ℕ) → CanRead net.leaves net.nodes c → CanRead net.leaves net.nodes i → held_under value w kind c i now ≡ shown_by net env w kind c i now
  under_shown w Synchronous c i now can_c can_i = refl
  under_shown w Asynchronous c i now can_c can_i =
      ap (λ (b : Bool). if b then at_width (value i) w else now) (same_high c can_c)
      ∙ ap (λ (n : ℕ). if is_high net env c then n else now) (same_fitted w i can_i)

  register_shown : (w : ℕ) (signed : Bool) (o : Option Reset) (now : ℕ) → CanBeReset net.leaves net.nodes signed o → held_register value w o now ≡ shown net env w o now
  register_shown w signed None now can = refl
  register_shown w signed (Some r) now can = under_shown w r.kind r.condition r.init now can.condition can.init.can

  -- what is read of an array
  word_is : (words : List ℕ) (a b : Num) (n : ℕ) (e f : Bool) (o : Option ℕ) → a ≡ b → e ≡ f
      → (if e && nat_lt a.value.number n then word_in words o a.value.number else 0) ≡ (if f && nat_lt b.value.number n then word_in words o b.value.number else 0)
  word_is words a b n e f o p q = rw (p, q) refl

  pub same_word : (words : List ℕ) (r : ArrayRead) → IsAddressed net.leaves net.nodes r.address r.enable → held_word net words value r ≡ word_read net words env r
  same_word words r is =
      word_is words (value r.address) (value_at net env r.address) (words_of net.arrays r.array) (is_one (value r.enable)) (is_high net env r.enable) (begin_of net r.array) (same_read r.address is.address) (same_high r.enable is.enable)

  -- each leaf has what its role gives it
  leaf_is : (k : ℕ) (l : Leaf) (r : Role) → slice_get net.leaves k ≡ Some l → l.role ≡ r → env k ≡ held_role net state value l.width (number_at start k) r
  leaf_is k l r at is = s.meets (read.Leaf k) (slice_get_within net.leaves k l at) ∙ ap (held_leaf_at net state value (number_at start k)) at ∙ ap (held_role net state value l.width (number_at start k)) is

  input_kept : (p : InputPlan) (k : ℕ) → IsInput net p k → env k ≡ number_at start k
  input_kept p k i = leaf_is k i.leaf role.Input i.at i.kind

  role_driven : (k : ℕ) (l : Leaf) (x : Role) (r : Read) → slice_get net.leaves k ≡ Some l → l.role ≡ x → driver x ≡ Some r → env k ≡ at_width (value_at net env r) l.width
  role_driven k l role.Input r at is e = cc
  role_driven k l role.Clock r at is e = cc
  role_driven k l (role.Output q) r at is e = let same : q ≡ r = cc in leaf_is k l (role.Output q) at is ∙ same_fitted l.width q (driven_at net whole k l (role.Output q) at is).can ∙ ap (λ (p : Read). at_width (value_at net env p) l.width) same
  role_driven k l (role.Wire q) r at is e = let same : q ≡ r = cc in leaf_is k l (role.Wire q) at is ∙ same_fitted l.width q (driven_at net whole k l (role.Wire q) at is).can ∙ ap (λ (p : Read). at_width (value_at net env p) l.width) same
  role_driven k l (role.Register d) r at is e = cc
  role_driven k l (role.Reading a) r at is e = cc
  role_driven k l (role.Pipe p) r at is e = cc
  role_driven k l (role.ClockOutput c) r at is e = cc
  role_driven k l (role.ClockWire c) r at is e = cc

  -- a register or a pipe begins at its word
  word_kept : map (number_at start) (registers net) ≡ take (length (registers net)) state → (n k : ℕ) → slice_get (registers net) n ≡ Some k → number_at start k ≡ slice_index state n
  word_kept kept n k e =
      value_at_place (number_at start) (registers net) (take (length (registers net)) state) kept n k e ∙ get_or-take (length (registers net)) state n 0 (slice_get_within (registers net) n k e)

  pub settles : (roots : List (Option ℕ)) → AreRoots net roots → (tick : Tick) → IsTickOf net tick → FitEach (shape net).state state → map (number_at start) (inputs net) ≡ tick.inputs → map (number_at start) (registers net) ≡ take (length (registers net)) state
      → Settled net state tick env (root_at roots)
  settles roots are tick is state_fits given kept = record {
    shaped = record { inputs_fit = is.inputs; clocks_rise = is.clocks; state_fits = state_fits };
    fits = (leaves_fit net ns s.held).each;
    input_values = map_same env (number_at start) (inputs net) (pairs_right (IsInput net) (λ k. env k ≡ number_at start k) input_kept _ (inputs net) (inputs_paired net whole)) ∙ given;
    registers_show = λ n k l d e at is_d.
        leaf_is k l (role.Register d) at is_d ∙ register_shown l.width l.signed d.reset (number_at start k) (driven_at net whole k l (role.Register d) at is_d).1
        ∙ ap (shown net env l.width d.reset) (word_kept kept n k e);
    pipes_show = λ n k l p e at is_p. leaf_is k l (role.Pipe p) at is_p ∙ word_kept kept n k e;
    arrays_read = λ k l r at is_r. leaf_is k l (role.Reading r) at is_r ∙ same_word state r (driven_at net whole k l (role.Reading r) at is_r);
    driven = λ k l r at e. role_driven k l l.role r at refl e;
    clock_inputs = are.inputs;
    clocks_driven = are.driven;
  }
