-- What values at rest in the tree of a net are: each assign is an equation of its target; a register without a reset shows its word of the state, and one with
-- a reset its constant while the reset is 1. A right side that reads an array has its word in the state.
use Rattle.std.proofs.Common.{◌≡◌, ℕ, ◌<◌, List, length, take, arith, [], ◌==◌, if◌then◌else◌, map, sym, ap, ◌∙◌, subst}
use Rattle.std.specs.Prelude.{slice_get, slice_index, Option, Some, None, unwrap_or}
use Rattle.std.proofs.lemmas.Simd.{map-map}
use Rattle.fir_base.specs.Lists.{In}
use Rattle.fir_base.specs.Ticks.{Env, Tick}
use Rattle.fir_base.proofs.Each.{all_at}
use Rattle.fir_base.proofs.Members.{in_left, in_map}
use Rattle.fir_inits.specs.working.InitValues.{init_at}
use Rattle.fir_net.specs.declared.reads.Read.{Read}
use Rattle.fir_net.specs.declared.leaf.Reset.{Reset}
use Rattle.fir_net.specs.declared.net.FlatNet.{FlatNet}
use Rattle.fir_net.specs.working.Settled.{registers}
use Rattle.fir_net.proofs.Places.{value_at_place}
use Rattle.fir_net_names.specs.declared.name_table.NameTable.{NameTable}
use Rattle.fir_net_names.specs.working.LeafNamed.{name_at}
use Rattle.ver_ast.specs.declared.tree.Verilog.{Verilog}
use Rattle.ver_ast.specs.declared.tree.Assign.{Assign}
use Rattle.ver_ast.specs.Nets.{SizedNet, width_among, variables, regs, nets, assigns, resets}
use Rattle.ver_ast.specs.Stores.{Store, store_of, stored}
use Rattle.ver_ast.specs.Processes.{assigning, showing, wanted}
use Rattle.ver_ast.specs.Settled.{Rest}
use Rattle.ver_ast.specs.Next.{all_puts, put_all}
use Rattle.ver_ast.proofs.Widths.{declared_width}
use Rattle.ver_build.specs.declared.places.Places.{Places}
use Rattle.ver_build.specs.working.Blocks.{reset_net}
use Rattle.ver_ast.specs.SideValues.{rhs_value}
use Rattle.ver_build.proofs.ArrayWords.{regs_many, regs_once}
use Rattle.ver_build.proofs.StateArrays.{state_variables}
use Rattle.std.proofs.lemmas.List.{get_or-take}
use Rattle.std.proofs.lemmas.Option.{slice_get_within}
use Rattle.ver_build.proofs.Premises.{Premises}
use Rattle.ver_build.proofs.Parts.{assigns_of, in_parts}
use Rattle.ver_build.proofs.Nets.{sizes, nets_sized}
use Rattle.ver_build.proofs.Words.{IsWord, register_block}
use Rattle.ver_build.proofs.StateWords.{words_stored}
use Rattle.ver_build.proofs.Sizes.{sizes_once}
use Rattle.ver_build.proofs.ClockAssigns.{assigns_are}
use Rattle.ver_build.proofs.Fitting.{FitsTarget, assigns_sound}
use Rattle.ver_build.proofs.PlainRegisters.{plain_in}
use Rattle.ver_build.proofs.ShownWords.{word_resetting}
use Rattle.ver_build.proofs.AllProcesses.{shown}
use Rattle.ver_build.proofs.LeafValues.{registers_same}
use Rattle.ver_build.proofs.WordsWritten.{kept, word_kept}

module _ (net : FlatNet) (t : NameTable) (p : Places) (order : List Read) (is : Premises net t p order) (state : List ℕ) (tick : Tick) (f : Env)
    (rest : Rest (in_parts net t p order) state tick f) where
  abbrev v : Verilog
  v = in_parts net t p order

  pub fits_target : (a : Assign) → In (assigns (in_parts net t p order)) a → FitsTarget (sizes net t p order) (state_variables net t) a
  fits_target a m =
      all_at (FitsTarget (sizes net t p order) (state_variables net t)) (assigns_of net t p order) (assigns_sound net t p order is) a
      (subst (λ (xs : List Assign). In xs a) (assigns_are net t p order is) m)

  -- the words that are kept, and those after the tick
  abbrev pub words : Store
  words = store_of (variables (in_parts net t p order)) state

  abbrev pub words_after : Store
  words_after = put_all (all_puts (in_parts net t p order) tick f) words

  pub side_is : (a : Assign) (w : ℕ) → In (sizes net t p order) (a.target, w)
      → wanted (in_parts net t p order) (store_of (variables (in_parts net t p order)) state) f (assigning a)
      ≡ rhs_value (sizes net t p order) (store_of (variables (in_parts net t p order)) state) f w a.rhs
  side_is a w n =
      ap (λ (ns : List SizedNet). rhs_value ns (store_of (variables v) state) f (width_among ns a.target) a.rhs) (nets_sized net t p order is)
      ∙ ap (λ (u : ℕ). rhs_value (sizes net t p order) (store_of (variables v) state) f u a.rhs)
      (declared_width (sizes net t p order) (sizes_once net t p order is) a.target w n)

  pub assign_equation : (a : Assign) (w : ℕ) → In (assigns (in_parts net t p order)) a → In (sizes net t p order) (a.target, w)
      → f a.target ≡ unwrap_or (rhs_value (sizes net t p order) (store_of (variables (in_parts net t p order)) state) f w a.rhs) 0
  assign_equation a w m n =
      rest.shows (assigning a) (in_left (map assigning (assigns v)) (map showing (resets v)) (assigning a) (in_map assigning (assigns v) a m))
      ∙ ap (λ (o : Option ℕ). unwrap_or o 0) (side_is a w n)

  -- the word of a name, where the words of the state are in its order
  pub word_state : (n k : ℕ) (name : List ℕ) → slice_get (registers net) n ≡ Some k → name_at t.leaves k ≡ Some name → stored words name ≡ slice_index state n
  word_state n k name at named =
      let word = λ (j : ℕ). stored words (unwrap_or (name_at t.leaves j) []) in
      let front = take (length (regs (in_parts net t p order))) state in
      let all : map word (registers net) ≡ take (length (regs (in_parts net t p order))) state =
      sym (registers_same net t p order is word (stored words) (λ j l m there kind has. sym (ap (λ o. stored words (unwrap_or o [])) has)))
      ∙ map-map (stored words) (λ (r : SizedNet). r.0) (regs (in_parts net t p order))
      ∙ words_stored v state (regs_once net t p order is) rest.begins.shaped.state_fits in
      let less : n < length (regs (in_parts net t p order)) = omega (arith, regs_many net t p order is, slice_get_within (registers net) n k at) in
      sym (ap (λ o. stored words (unwrap_or o [])) named) ∙ value_at_place word (registers net) front all n k at
      ∙ get_or-take (length (regs (in_parts net t p order))) state n 0 less

  -- a register without a reset shows its word, and one with a reset its constant while the reset is 1
  pub plain_shows : (k : ℕ) (w : IsWord net t k) → w.own.reset ≡ None → f w.name ≡ stored words w.name
  plain_shows k w none = rest.begins.state_values (w.name, w.leaf.width) (plain_in net t p order is k w none)

  pub reset_shows : (k : ℕ) → In net.state k → (w : IsWord net t k) → (r : Reset) → w.own.reset ≡ Some r
      → f w.name ≡ (if f (reset_net p k r) == 1 then init_at p.inits k else stored words w.name)
  reset_shows k m w r has =
      rest.shows (showing (word_resetting net t p k w r)) (shown net t p order is k (record { among = m; word = w; reset = r; has = has }))

  pub word_after : (k : ℕ) → In net.state k → (w : IsWord net t k)
      → stored words_after w.name ≡ kept (nets (in_parts net t p order)) f tick.clocks (register_block net t p k w) (stored words w.name)
  word_after k m w = word_kept net t p order is state (regs_once net t p order is) rest.begins.shaped.state_fits tick f k m w
