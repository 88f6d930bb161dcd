-- What a register shows, and the laws of registers.
use Rattle.std.proofs.Common.{◌≡◌, ℕ, List, Bool, true, if◌then◌else◌, Option, Some, None, unwrap_or, refl, sym, ap, subst, ◌∙◌}
use Rattle.fir_base.specs.Lists.{In}
use Rattle.fir_base.specs.Ticks.{Tick}
use Rattle.fir_ast.specs.Expressions.{Expression}
use Rattle.fir_bits.specs.declared.types.NumTy.{NumTy}
use Rattle.fir_meaning.specs.LeafTypes.{LeafType, number, number_type}
use Rattle.fir_meaning.specs.LeafPaths.{LeafPath}
use Rattle.fir_meaning.specs.SourceAllows.{LeafShows, Settled, next}
use Rattle.fir_meaning.specs.SourceCircuits.{PlacedLeaf, all_leaves, leaf_path}
use Rattle.fir_meaning.specs.SourceDesigns.{SourceDesign}
use Rattle.fir_meaning.specs.SourceRoles.{SourceReset}
use Rattle.fir_meaning.specs.SourceValues.{PathEnv, init_of, number_shown, register_shown, value_at, word_of}
use Rattle.fir_meaning.specs.Values.{fit}
use Rattle.fir_meaning.specs.TypedScopes.{TypedScope}
use Rattle.fir_source_laws.specs.working.RegisterLaws.{HoldsWhereNothingIsStored, IsRegister, IsReset, IsResetAtEdge, KeepsItsInit, KeepsWithoutEdge, ShowsInitAtOnce, ShowsItsWord, TakesWhatIsStored, init_fitted}
use Rattle.fir_source_laws.proofs.WordsBehind.{holds_found}
use Rattle.fir_source_laws.proofs.HeldWords.{async_is, async_is_not, holds_word, keeps, not_both, reset_at_edge, reset_at_once, takes}

-- a leaf that holds a number has the number that it shows
pub has_number : (t : SourceDesign) (state : List ℕ) (tick : Tick) (env : PathEnv) (p : PlacedLeaf) (width : NumTy) → Settled t state tick env
    → In (all_leaves t) p → p.leaf.holds ≡ number width
    → number_shown t env state tick.inputs p.at (leaf_path p) p.leaf.role ≡ Some (env.numbers (leaf_path p))
has_number t state tick env p width s among holds =
    let h : LeafShows t state tick.inputs env p (number width) = subst (LeafShows t state tick.inputs env p) holds (s.each p among) in h.0

module _ (t : SourceDesign) (p : PlacedLeaf) (scope : TypedScope) (clock : Expression) (q : LeafPath) where
  module _ (state : List ℕ) (tick : Tick) (env : PathEnv) where
    shown : (reset : Option SourceReset) → IsRegister t p scope clock reset q → Settled t state tick env
        → env.numbers (leaf_path p) ≡ register_shown t env p.at (leaf_path p) reset q (word_of t env state (leaf_path p))
    shown reset h s =
        let e : Some (register_shown t env p.at (leaf_path p) reset q (word_of t env state (leaf_path p))) ≡ Some (env.numbers (leaf_path p)) =
        sym (ap (number_shown t env state tick.inputs p.at (leaf_path p)) h.role) ∙ has_number t state tick env p h.width s h.among h.holds in
        cc

    word_shown : (reset : Option SourceReset) → (IsReset t env p.at reset true → ⊥)
        → register_shown t env p.at (leaf_path p) reset q (word_of t env state (leaf_path p)) ≡ word_of t env state (leaf_path p)
    word_shown None free = refl
    word_shown (Some r) free =
        ap (λ (b : Bool). if b then init_of t env p.at (leaf_path p) r q else word_of t env state (leaf_path p)) (async_is_not t env p.at r free)

    pub shows_word : (reset : Option SourceReset) → IsRegister t p scope clock reset q → Settled t state tick env → (IsReset t env p.at reset true → ⊥)
        → env.numbers (leaf_path p) ≡ word_of t env state (leaf_path p)
    shows_word reset h s free = shown reset h s ∙ word_shown reset free

    pub shows_init : (r : SourceReset) → IsRegister t p scope clock (Some r) q → Settled t state tick env → IsReset t env p.at (Some r) true
        → env.numbers (leaf_path p) ≡ init_of t env p.at (leaf_path p) r q
    shows_init r h s is =
        shown (Some r) h s
        ∙ ap (λ (b : Bool). if b then init_of t env p.at (leaf_path p) r q else word_of t env state (leaf_path p)) (async_is t env p.at r is)

  pub keep_without_edge : KeepsWithoutEdge t p scope clock q
  keep_without_edge reset state edges env h none free = keeps t p scope clock q state edges env reset h none free

  pub take_what_is_stored : TakesWhatIsStored t p scope clock q
  take_what_is_stored reset state edges env v h clocked free stored =
      takes t p scope clock q state edges env reset h clocked free ∙ ap (λ (o : Option ℕ). unwrap_or o (env.numbers (leaf_path p))) stored

  pub hold_where_nothing_is_stored : HoldsWhereNothingIsStored t p scope clock q
  hold_where_nothing_is_stored reset state tick env h s free none =
      holds_word t p scope clock q state tick.clocks env reset h free
      (ap (λ (o : Option ℕ). unwrap_or o (env.numbers (leaf_path p))) none ∙ shows_word state tick env reset h s (free true))

  -- the type that is found at its path is its own
  init_is : (env : PathEnv) (r : SourceReset) (h : IsRegister t p scope clock (Some r) q)
      → init_of t env p.at (leaf_path p) r q ≡ init_fitted t env p.at r q h.width
  init_is env r h =
      ap (λ (holds : LeafType). fit (value_at t env p.at r.scope r.init q) (number_type holds))
      (holds_found (all_leaves t) p h.among h.once ∙ h.holds)

  pub are_reset_at_edge : IsResetAtEdge t p scope clock q
  are_reset_at_edge r state edges env h is = (
    λ clocked. reset_at_edge t p scope clock q state edges env r h is clocked ∙ init_is env r h,
    λ none. keeps t p scope clock q state edges env (Some r) h none (not_both t env p.at r is),
  )

  pub show_their_word : ShowsItsWord t p scope clock q
  show_their_word reset state tick env h s free = shows_word state tick env reset h s free

  pub show_init_at_once : ShowsInitAtOnce t p scope clock q
  show_init_at_once r state tick env h s is =
      (shows_init state tick env r h s is ∙ init_is env r h, reset_at_once t p scope clock q state tick.clocks env r h is ∙ init_is env r h)

  pub keep_their_init : KeepsItsInit t p scope clock q
  keep_their_init r state first second env later h s is s_later free =
      let kept : word_of t later (next t state first.clocks env) (leaf_path p) ≡ init_fitted t env p.at r q h.width =
      reset_at_once t p scope clock q state first.clocks env r h is ∙ init_is env r h in (
        shows_init state first env r h s is ∙ init_is env r h,
        shows_word (next t state first.clocks env) second later (Some r) h s_later free ∙ kept,
        λ none. keeps t p scope clock q (next t state first.clocks env) second.clocks later (Some r) h none free ∙ kept,
      )
