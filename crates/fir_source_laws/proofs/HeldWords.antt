-- What a register takes behind a tick.
use Rattle.std.proofs.Common.{◌≡◌, ℕ, List, [], Bool, true, false, not, ◌&&◌, if◌then◌else◌, Option, Some, None, refl, sym, ap, ◌∙◌}
use Rattle.std.proofs.lemmas.Bool.{and_from}
use Rattle.fir_ast.specs.Expressions.{Expression}
use Rattle.fir_meaning.specs.LeafPaths.{LeafPath}
use Rattle.fir_meaning.specs.ClockEdges.{has_edge}
use Rattle.fir_meaning.specs.SourceAllows.{register_next, stored_or_shown, taken_at_edge, word_next}
use Rattle.fir_meaning.specs.SourceCircuits.{PlacedLeaf, leaf_path}
use Rattle.fir_meaning.specs.SourceDesigns.{SourceDesign}
use Rattle.fir_meaning.specs.SourceRoles.{SourceReset}
use Rattle.fir_meaning.specs.SourceValues.{PathEnv, clock_at, init_of, is_true_at, word_of}
use Rattle.fir_meaning.specs.TypedScopes.{TypedScope}
use Rattle.fir_source_laws.specs.working.RegisterLaws.{IsClocked, IsRegister, IsReset}
use Rattle.fir_source_laws.specs.working.StateWords.{word_behind_tick}
use Rattle.fir_source_laws.proofs.Edges.{one_is, one_is_not, with_edge, without_edge}
use Rattle.fir_source_laws.proofs.WordsBehind.{next_word}

module _ (t : SourceDesign) (env : PathEnv) (at : LeafPath) (r : SourceReset) where
  pub async_is : IsReset t env at (Some r) true → (r.is_async && is_true_at t env at r.scope r.condition) ≡ true
  async_is h = and_from r.is_async (is_true_at t env at r.scope r.condition) h.0 (one_is t env at r.scope r.condition h.1)

  pub sync_is : IsReset t env at (Some r) false → (not r.is_async && is_true_at t env at r.scope r.condition) ≡ true
  sync_is h = and_from (not r.is_async) (is_true_at t env at r.scope r.condition) (ap not h.0) (one_is t env at r.scope r.condition h.1)

  pub async_is_not : (IsReset t env at (Some r) true → ⊥) → (r.is_async && is_true_at t env at r.scope r.condition) ≡ false
  async_is_not free = go r.is_async refl
    where
      go : (b : Bool) → r.is_async ≡ b → (b && is_true_at t env at r.scope r.condition) ≡ false
      go true e = one_is_not t env at r.scope r.condition (λ h. free (e, h))
      go false e = refl

  pub sync_is_not : (IsReset t env at (Some r) false → ⊥) → (not r.is_async && is_true_at t env at r.scope r.condition) ≡ false
  sync_is_not free = go r.is_async refl
    where
      go : (b : Bool) → r.is_async ≡ b → (not b && is_true_at t env at r.scope r.condition) ≡ false
      go true e = refl
      go false e = one_is_not t env at r.scope r.condition (λ h. free (e, h))

  pub not_both : IsReset t env at (Some r) false → IsReset t env at (Some r) true → ⊥
  not_both h other = let e : false ≡ true = sym h.0 ∙ other.0 in absurd (cc)

module _ (t : SourceDesign) (p : PlacedLeaf) (scope : TypedScope) (clock : Expression) (q : LeafPath) (state edges : List ℕ) (env : PathEnv) where
  -- the word behind the tick, by whether the clock has an edge
  register_word : (reset : Option SourceReset) → IsRegister t p scope clock reset q
      → word_behind_tick t state edges env (leaf_path p)
      ≡ register_next t state edges env p.at (leaf_path p) reset q (has_edge edges (clock_at t env p.at scope clock [])) (word_of t env state (leaf_path p))
  register_word reset h =
      next_word t state edges env p h.among_words h.once_in_words ∙ ap (word_next t state edges env p.at (leaf_path p)) h.role

  abbrev behind : Option SourceReset → Bool → ℕ
  behind reset edge = register_next t state edges env p.at (leaf_path p) reset q edge (word_of t env state (leaf_path p))

  pub word_at_edge : (reset : Option SourceReset) → IsRegister t p scope clock reset q → IsClocked t p scope clock q edges env
      → word_behind_tick t state edges env (leaf_path p) ≡ behind reset true
  word_at_edge reset h clocked = register_word reset h ∙ ap (behind reset) (with_edge edges (clock_at t env p.at scope clock []) clocked)

  pub word_at_none : (reset : Option SourceReset) → IsRegister t p scope clock reset q → (IsClocked t p scope clock q edges env → ⊥)
      → word_behind_tick t state edges env (leaf_path p) ≡ behind reset false
  word_at_none reset h none = register_word reset h ∙ ap (behind reset) (without_edge edges (clock_at t env p.at scope clock []) none)

  kept : (reset : Option SourceReset) → (IsReset t env p.at reset true → ⊥) → behind reset false ≡ word_of t env state (leaf_path p)
  kept None free = refl
  kept (Some r) free =
      ap (λ (b : Bool). if b then init_of t env p.at (leaf_path p) r q else word_of t env state (leaf_path p)) (async_is_not t env p.at r free)

  pub keeps : (reset : Option SourceReset) → IsRegister t p scope clock reset q → (IsClocked t p scope clock q edges env → ⊥)
      → (IsReset t env p.at reset true → ⊥) → word_behind_tick t state edges env (leaf_path p) ≡ word_of t env state (leaf_path p)
  keeps reset h none free = word_at_none reset h none ∙ kept reset free

  taken : (reset : Option SourceReset) → ((is_async : Bool) → IsReset t env p.at reset is_async → ⊥)
      → behind reset true ≡ stored_or_shown t state edges env (leaf_path p)
  taken None free = refl
  taken (Some r) free =
      ap (λ (b : Bool). if b then init_of t env p.at (leaf_path p) r q else taken_at_edge t state edges env p.at (leaf_path p) (Some r) q)
      (async_is_not t env p.at r (free true))
      ∙ ap (λ (b : Bool). if b then init_of t env p.at (leaf_path p) r q else stored_or_shown t state edges env (leaf_path p))
      (sync_is_not t env p.at r (free false))

  pub takes : (reset : Option SourceReset) → IsRegister t p scope clock reset q → IsClocked t p scope clock q edges env
      → ((is_async : Bool) → IsReset t env p.at reset is_async → ⊥)
      → word_behind_tick t state edges env (leaf_path p) ≡ stored_or_shown t state edges env (leaf_path p)
  takes reset h clocked free = word_at_edge reset h clocked ∙ taken reset free

  -- with nothing stored it takes what it shows at an edge, and keeps its word at none
  pub holds_word : (reset : Option SourceReset) → IsRegister t p scope clock reset q → ((is_async : Bool) → IsReset t env p.at reset is_async → ⊥)
      → stored_or_shown t state edges env (leaf_path p) ≡ word_of t env state (leaf_path p)
      → word_behind_tick t state edges env (leaf_path p) ≡ word_of t env state (leaf_path p)
  holds_word reset h free same = register_word reset h ∙ go (has_edge edges (clock_at t env p.at scope clock []))
    where
      go : (edge : Bool) → behind reset edge ≡ word_of t env state (leaf_path p)
      go true = taken reset free ∙ same
      go false = kept reset (free true)

  pub reset_at_edge : (r : SourceReset) → IsRegister t p scope clock (Some r) q → IsReset t env p.at (Some r) false
      → IsClocked t p scope clock q edges env → word_behind_tick t state edges env (leaf_path p) ≡ init_of t env p.at (leaf_path p) r q
  reset_at_edge r h is clocked =
      word_at_edge (Some r) h clocked
      ∙ ap (λ (b : Bool). if b then init_of t env p.at (leaf_path p) r q else taken_at_edge t state edges env p.at (leaf_path p) (Some r) q)
      (async_is_not t env p.at r (not_both t env p.at r is))
      ∙ ap (λ (b : Bool). if b then init_of t env p.at (leaf_path p) r q else stored_or_shown t state edges env (leaf_path p)) (sync_is t env p.at r is)

  pub reset_at_once : (r : SourceReset) → IsRegister t p scope clock (Some r) q → IsReset t env p.at (Some r) true
      → word_behind_tick t state edges env (leaf_path p) ≡ init_of t env p.at (leaf_path p) r q
  reset_at_once r h is =
      register_word (Some r) h
      ∙ ap (λ (b : Bool).
      if b
      then init_of t env p.at (leaf_path p) r q
      else if has_edge edges (clock_at t env p.at scope clock [])
      then taken_at_edge t state edges env p.at (leaf_path p) (Some r) q
      else word_of t env state (leaf_path p)) (async_is t env p.at r is)
