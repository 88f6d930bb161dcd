-- What follows the word of a register is the same in a circuit and in its flat net, where its clock has an edge or has none.
use Rattle.std.proofs.Common.{◌≡◌, ℕ, Bool, true, false, if◌then◌else◌, Option, Some, None, slice_get, refl, sym, ap, ◌∙◌}
use Rattle.fir_bits.specs.working.Laws.{HasItsType}
use Rattle.fir_meaning.specs.working.LeafModules.{LeafReset}
use Rattle.fir_meaning.specs.working.TermValues.{Env}
use Rattle.fir_meaning.specs.working.LeafCircuits.{LeafCircuit, type_of_leaf}
use Rattle.fir_meaning.specs.working.LeafNext.{register_next, stored_or_shown}
use Rattle.fir_meaning.specs.working.LeafSettled.{register_shown}
use Rattle.fir_net.specs.declared.leaf.Leaf.{Leaf}
use Rattle.fir_net.specs.declared.leaf.Reset.{Reset}
use Rattle.fir_net.specs.declared.net.FlatNet.{FlatNet}
use Rattle.fir_net.specs.declared.reads.Read.{Read}
use Rattle.fir_net.specs.working.IsNet.{CanBeDriven, CanBeReset}
use Rattle.fir_net.specs.working.Next.{taken, taken_with}
use Rattle.fir_net.specs.working.Settled.{is_clock, is_high, value_at}
use Rattle.fir_net.specs.working.Values.{at_width}
use Rattle.fir_connect.specs.working.NetRoles.{NetReset, net_types}
use Rattle.fir_connect.specs.working.NetTerms.{NetTerm, choice, joined_type, term_type}
use Rattle.fir_connect.specs.working.RoleLaws.{ResetGives, net_fitted}
use Rattle.fir_connect.proofs.FittedTwice.{fitted_own}
use Rattle.fir_connect.specs.working.CircuitModules.{as_module}
use Rattle.fir_flat.specs.working.FlatCircuits.{IsNextOf, IsResetOf, next_of, reset_kept}
use Rattle.fir_flat.specs.working.FlatLaws.{IsFaithful}
use Rattle.fir_flat.proofs.BesideValues.{IsBeside, agrees, high_worth, leaves_fit}
use Rattle.fir_flat.proofs.ChosenValues.{picked_at_width}
use Rattle.fir_flat.proofs.ShownValues.{given_worth}

-- while its reset is 1, a register that is reset at once keeps its init
asynchronous_next : (high edge : Bool) (init stored word : ℕ)
    → (if high then init else if edge then stored else word)
    ≡ (if edge then (if high then (if high then init else word) else stored) else if high then init else word)
asynchronous_next true true init stored word = refl
asynchronous_next true false init stored word = refl
asynchronous_next false true init stored word = refl
asynchronous_next false false init stored word = refl

-- what the net's register of a width takes where its clock has an edge, and else what it shows now
abbrev pub follows : FlatNet → (ℕ → ℕ) → ℕ → ℕ → Option Reset → ℕ → Bool → ℕ
follows net e width now own given edge = if edge then taken_with net e width now own given else now

-- of a register that a term drives
module _ (law : HasItsType) (c : LeafCircuit) (net : FlatNet) (faithful : IsFaithful c net) (env : Env) (e : ℕ → ℕ) (beside : IsBeside c net env e)
    (x : ℕ) (l : Leaf) (at : slice_get net.leaves x ≡ Some l) (plain : is_clock l.role ≡ false) (wide : l.width ≡ (type_of_leaf c x).width)
    (d : NetTerm) (stored : stored_or_shown c env x ≡ net_fitted (as_module c) env.numbers env.clocks d x) (edge : Bool) (word : ℕ) where
  abbrev after : Option Reset → ℕ → ℕ
  after own given = follows net e l.width (e x) own given edge

  -- by what it takes
  module _ (given : ℕ) (stored_given : stored_or_shown c env x ≡ given) where
    plain_follows : e x ≡ register_shown c env x None word → register_next c env x None edge word ≡ after None given
    plain_follows now = rw (now, stored_given) refl

    reset_follows : (r : LeafReset) (m : NetReset) (own : Reset) → m.is_async ≡ true
        → ResetGives (as_module c) env.numbers env.clocks x (Some r) (Some m) → IsResetOf net.nodes (Some own) (Some m)
        → CanBeReset net.leaves net.nodes l.signed (Some own) → e x ≡ register_shown c env x (Some r) word
        → register_next c env x (Some r) edge word ≡ after (Some own) given
    reset_follows r m own stays worths is can now =
        rw (
          now,
          worths.0,
          stays,
          worths.1,
          worths.2,
          ← high_worth c net faithful env e beside own.condition m.condition can.condition is.1,
          given_worth c net faithful env e beside x l at wide own.init m.init can.init.can is.2,
          stored_given,
          is.0,
        )
        (asynchronous_next (is_high net e own.condition) edge (at_width (value_at net e own.init) l.width) given word)

  -- by what is read for its next value, if anything is: a register that reads nothing keeps what it shows
  stored_given : (following : Option Read) → CanBeDriven net.leaves net.nodes l.signed following → IsNextOf net.nodes x following d
      → stored_or_shown c env x ≡ taken net e l.width (e x) following
  stored_given (Some r) can is = stored ∙ given_worth c net faithful env e beside x l at wide r d can.can is
  stored_given None can is =
      stored ∙ ap (λ t. net_fitted (as_module c) env.numbers env.clocks t x) is
      ∙ fitted_own (net_types (as_module c) x).signed (net_types (as_module c) x).width (env.numbers x) ∙ sym (beside.values x l at plain)

  choice_follows : (r : LeafReset) (m : NetReset) → m.is_async ≡ false → ResetGives (as_module c) env.numbers env.clocks x (Some r) (Some m)
      → (following : Option Read) → CanBeDriven net.leaves net.nodes l.signed following
      → IsNextOf net.nodes x following (choice (net_types (as_module c)) m.condition m.init d) → e x ≡ register_shown c env x (Some r) word
      → register_next c env x (Some r) edge word ≡ after None (taken net e l.width (e x) following)
  choice_follows r m merged worths None can is now = cc
  choice_follows r m merged worths (Some f) can is now =
      let holds = net_types (as_module c) in
      let picked =
      picked_at_width law net faithful.whole e (leaves_fit c net faithful env e beside) (type_of_leaf c) env.numbers (agrees c net faithful env e beside)
      f m.condition m.init d (joined_type (term_type holds m.init) (term_type holds d)) can.can is l.width in
      rw (now, worths.0, merged, worths.1, worths.2, stored, picked, wide) refl

  module _ (following : Option Read) (can_follow : CanBeDriven net.leaves net.nodes l.signed following) where
    abbrev given : ℕ
    given = taken net e l.width (e x) following

    pub word_follows : (reset : Option LeafReset) (m : Option NetReset) (own : Option Reset)
        → ResetGives (as_module c) env.numbers env.clocks x reset m → IsResetOf net.nodes own (reset_kept m)
        → IsNextOf net.nodes x following (next_of (net_types (as_module c)) m d) → CanBeReset net.leaves net.nodes l.signed own
        → e x ≡ register_shown c env x reset word → register_next c env x reset edge word ≡ after own given
    word_follows None None None worths is next_is can now = plain_follows given (stored_given following can_follow next_is) now
    word_follows (Some r) (Some m) own worths is next_is can now = by own m.is_async refl is next_is can
      where
        by : (own : Option Reset) (b : Bool) → m.is_async ≡ b → IsResetOf net.nodes own (if b then Some m else None)
            → IsNextOf net.nodes x following (if b then d else choice (net_types (as_module c)) m.condition m.init d)
            → CanBeReset net.leaves net.nodes l.signed own → register_next c env x (Some r) edge word ≡ after own given
        by (Some o) true stays kept next_is can = reset_follows given (stored_given following can_follow next_is) r m o stays worths kept can now
        by None false merged kept next_is can = choice_follows r m merged worths following can_follow next_is now
        by None true stays kept next_is can = absurd kept
        by (Some o) false merged kept next_is can = absurd kept
    word_follows None (Some m) own worths is next_is can now = absurd worths
    word_follows (Some r) None own worths is next_is can now = absurd worths
    word_follows None None (Some own) worths is next_is can now = absurd is
