-- The state that follows is the same in a circuit and in its flat net.
use Rattle.std.proofs.Common.{◌≡◌, ℕ, List, ◌++◌, map, Bool, true, false, if◌then◌else◌, inl, inr, Option, Some, slice_get, refl, sym, ap, ◌∙◌, subst}
use Rattle.std.proofs.lemmas.Option.{same_Some}
use Rattle.fir_base.specs.Ticks.{Tick}
use Rattle.fir_ast.specs.declared.statements.ReadUnderWrite.{ReadUnderWrite}
use Rattle.fir_bits.specs.working.Laws.{HasItsType}
use Rattle.fir_meaning.specs.LeafTypes.{LeafType, a_clock, number, number_type}
use Rattle.fir_meaning.specs.working.LeafModules.{Reading, leaf_at}
use Rattle.fir_meaning.specs.working.LeafModules as leafed
use Rattle.fir_meaning.specs.working.TermValues.{Env, clock_of}
use Rattle.fir_meaning.specs.working.LeafCircuits.{LeafCircuit, depth_of, role_of, type_of_leaf}
use Rattle.fir_meaning.specs.working.LeafNext.{word_next, words_next}
use Rattle.fir_meaning.specs.working.LeafNext as leaf_next
use Rattle.fir_meaning.specs.working.LeafSettled.{Settled, Shows, ShowsNumber, number_shown, register_shown}
use Rattle.fir_meaning.specs.working.LeafStates.{look}
use Rattle.fir_meaning.specs.working.Memories as memory
use Rattle.fir_meaning.specs.ClockEdges.{has_edge}
use Rattle.fir_memory_types.specs.working.TypedMemories.{IsMemoryRoleTyped, IsReadingTyped}
use Rattle.fir_net.specs.declared.array.Pipe.{Pipe}
use Rattle.fir_net.specs.declared.leaf.Leaf.{Leaf}
use Rattle.fir_net.specs.declared.leaf.Role.{Role}
use Rattle.fir_net.specs.declared.leaf.Role.TheVariants as role
use Rattle.fir_net.specs.declared.net.FlatNet.{FlatNet}
use Rattle.fir_net.specs.declared.reads.Read.{Read}
use Rattle.fir_net.specs.working.IsNet.{IsRole, is_state}
use Rattle.fir_net.specs.working.Next.{next, next_by, next_of, next_word, piped, taken}
use Rattle.fir_net.specs.working.Next as net_next
use Rattle.fir_net.specs.working.Settled.{is_clock, registers}
use Rattle.fir_net.proofs.LeafEquations.{driven_at}
use Rattle.fir_net.proofs.Places.{map_at}
use Rattle.fir_net.proofs.StateWords.{state_at, state_plain}
use Rattle.fir_connect.specs.working.Drivers.{driver_of}
use Rattle.fir_connect.specs.working.NetRoles.{net_role, net_types}
use Rattle.fir_connect.specs.working.NetValues.{term_clock}
use Rattle.fir_connect.specs.working.RoleLaws.{Gives}
use Rattle.fir_connect.specs.working.CircuitModules.{as_module}
use Rattle.fir_flat.specs.working.FlatCircuits.{HasType, IsClockedBy, IsDrivenBy, IsPipeOf, IsRoleOf}
use Rattle.fir_flat.specs.working.FlatLaws.{IsFaithful}
use Rattle.fir_flat.proofs.FlatLeaves.{leaf_inside, number_at}
use Rattle.fir_flat.proofs.KeptValues.{AreBeside}
use Rattle.fir_flat.proofs.ShownValues.{gives}
use Rattle.fir_flat.proofs.TakenValues.{follows, word_follows}
use Rattle.fir_flat.proofs.WrittenWords.{arrays_same, edge_is, piped_is, ticks_where}

module _ (law : HasItsType) (c : LeafCircuit) (net : FlatNet) (faithful : IsFaithful c net) (env : Env) (e : ℕ → ℕ) (f : ℕ → Option ℕ)
    (beside : AreBeside c net env e f) (state : List ℕ) (tick : Tick) (s : Settled c state tick env) where
  module _ (x : ℕ) (l : Leaf) (at : slice_get net.leaves x ≡ Some l) (plain : is_clock l.role ≡ false) where
    shows_number : ShowsNumber c state tick.inputs env x
    shows_number =
        let t = number_at c net faithful.flat x l at plain in
        (subst (Shows c state tick.inputs env x) t.1 (s.each x (leaf_inside c net faithful.flat x l at))).0

    module _ (y : Role) (can : IsRole net.leaves net.nodes l.signed l.width y) (is_word : is_state y ≡ true) where
      -- what is no register and no pipe is no word of the state
      no_word : (z : Role) → y ≡ z → is_state z ≡ false → ⊥
      no_word z is none = let apart : true ≡ false = sym is_word ∙ ap is_state is ∙ none in cc

      not_driven : (r : Read) → IsDrivenBy y r → ⊥
      not_driven r (inl is) = no_word (role.Output r) is refl
      not_driven r (inr is) = no_word (role.Wire r) is refl

      not_clocked : (o : Option ℕ) → IsClockedBy y o → ⊥
      not_clocked o (inl is) = no_word (role.ClockOutput o) is refl
      not_clocked o (inr is) = no_word (role.ClockWire o) is refl

      pipe_follows : (h : LeafType) (m : Reading) (clock : ℕ) (under : ReadUnderWrite) → role_of c x ≡ leafed.pipe m clock under
          → IsReadingTyped c.leaves c.arrays h m → (p : Pipe) → y ≡ role.Pipe p → IsPipeOf net.nodes p m clock under
          → word_next c state tick.clocks env x (leafed.pipe m clock under) ≡ next_by net e f tick.clocks state l.width (e x) y
      pipe_follows h m clock under named typed p is_pipe is =
          let role_can = subst (IsRole net.leaves net.nodes l.signed l.width) is_pipe can in
          let edge = has_edge tick.clocks (env.clocks clock) in
          let shown : Some (look c.words state x) ≡ Some (env.numbers x) = ap (number_shown c state tick.inputs env x) (sym named) ∙ shows_number in
          let now : e x ≡ look c.words state x = beside.numbers.values x l at plain ∙ sym (same_Some _ _ shown) in
          sym (ap (next_by net e f tick.clocks state l.width (e x)) is_pipe
          ∙ ap (λ (b : Bool). if b then piped net e f tick.clocks state p else e x)
          (ticks_where c net faithful env e f beside tick.clocks p.clock clock role_can.0 is.clock)
          ∙ ap (λ (n : ℕ). if edge then n else e x)
          (piped_is c net faithful env e f beside tick.clocks state p m clock under h is role_can.1 typed)
          ∙ ap (λ (n : ℕ). if edge then memory.piped c state tick.clocks env m under else n) now)

      follows_by_role : (h : LeafType) → (leaf_at c.leaves x).holds ≡ h → (r : leafed.Role)
          → Gives (as_module c) env.numbers env.clocks x h r (net_role (net_types (as_module c)) (depth_of c x) c.body x r)
          → IsRoleOf net.nodes (net_types (as_module c)) x y h (net_role (net_types (as_module c)) (depth_of c x) c.body x r) → HasType l h
          → IsMemoryRoleTyped c.leaves c.arrays h r → role_of c x ≡ r
          → word_next c state tick.clocks env x r ≡ next_by net e f tick.clocks state l.width (e x) y
      follows_by_role a_clock held leafed.source worths is has typed named = absurd (no_word role.Clock is refl)
      follows_by_role a_clock held leafed.sink worths is has typed named = absurd (not_clocked is.0 is.1)
      follows_by_role a_clock held (leafed.computed t) worths is has typed named = absurd (not_clocked is.0 (inr is.1))
      follows_by_role a_clock held (leafed.register clock reset) worths is has typed named = absurd is
      follows_by_role a_clock held (leafed.reading r) worths is has typed named = absurd is
      follows_by_role a_clock held (leafed.pipe r clock under) worths is has typed named = absurd is
      follows_by_role (number t) held leafed.source worths is has typed named = absurd (no_word role.Input is refl)
      follows_by_role (number t) held leafed.sink worths is has typed named = absurd (not_driven is.0 is.1)
      follows_by_role (number t) held (leafed.computed u) worths is has typed named = absurd (not_driven is.0 (inr is.1))
      follows_by_role (number t) held (leafed.register clock reset) worths is has typed named =
          let wide : l.width ≡ (type_of_leaf c x).width = has.1 ∙ ap (λ (h : LeafType). (number_type h).width) (sym held) in
          let role_can = subst (IsRole net.leaves net.nodes l.signed l.width) is.3 can in
          let word = look c.words state x in
          let d = driver_of (net_types (as_module c)) (depth_of c x) true c.body x in
          let shown : Some (register_shown c env x reset word) ≡ Some (env.numbers x) =
          ap (number_shown c state tick.inputs env x) (sym named) ∙ shows_number in
          let now : e x ≡ register_shown c env x reset word = beside.numbers.values x l at plain ∙ sym (same_Some _ _ shown) in
          let clock_is : clock_of (type_of_leaf c) env clock ≡ f is.0 =
          worths.0 ∙ ap (term_clock (type_of_leaf c) env.numbers env.clocks) is.4 ∙ sym (beside.clocks is.0 role_can.0.0 role_can.0.1 role_can.0.2) in
          let given = taken net e l.width (e x) is.2 in
          word_follows law c net faithful env e beside.numbers x l at plain wide d worths.2 (has_edge tick.clocks (clock_of (type_of_leaf c) env clock)) word
          is.2 role_can.2 reset _ is.1 worths.1 is.5 is.6 role_can.1 now
          ∙ ap (λ (o : Option ℕ). follows net e l.width (e x) is.1 given (has_edge tick.clocks o)) clock_is
          ∙ ap (follows net e l.width (e x) is.1 given) (sym (edge_is tick.clocks (f is.0)))
          ∙ ap (next_by net e f tick.clocks state l.width (e x)) (sym is.3)
      follows_by_role (number t) held (leafed.reading r) worths is has typed named = absurd (no_word (role.Reading is.0) is.1 refl)
      follows_by_role (number t) held (leafed.pipe m clock under) worths is has typed named =
          pipe_follows (number t) m clock under named typed.0 is.0 is.1 is.2

  -- word by word
  word_same : (n x : ℕ) → slice_get (registers net) n ≡ Some x → word_next c state tick.clocks env x (role_of c x) ≡ next_word net e f tick.clocks state x
  word_same n x is_in =
      let found = state_at faithful.whole.state n x is_in in
      let l = found.leaf in
      follows_by_role x l found.at (state_plain l.role found.is) l.role (driven_at net faithful.whole x l l.role found.at refl) found.is
      (leaf_at c.leaves x).holds refl (role_of c x) (gives c net faithful env e beside.numbers x l found.at) (faithful.flat.roles x l found.at)
      (faithful.flat.types x l found.at) (faithful.memories.roles x (leaf_inside c net faithful.flat x l found.at)) refl
      ∙ ap (next_of net e f tick.clocks state (e x)) (sym found.at)

  words_same : words_next c state tick.clocks env ≡ net_next.words_next net e f tick.clocks state
  words_same =
      ap (map (λ (x : ℕ). word_next c state tick.clocks env x (role_of c x))) (sym faithful.flat.words)
      ∙ map_at (λ (x : ℕ). word_next c state tick.clocks env x (role_of c x)) (next_word net e f tick.clocks state) (registers net) word_same

  pub next_same : leaf_next.next c state tick env ≡ next net state e f tick
  next_same =
      ap (λ (ws : List ℕ). ws ++ memory.arrays_next c state tick.clocks env) words_same
      ∙ ap (λ (ws : List ℕ). net_next.words_next net e f tick.clocks state ++ ws) (sym (arrays_same c net faithful env e f beside tick.clocks state))
