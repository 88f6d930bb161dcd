-- Whether a clock has an edge, and whether a reset is 1, as tests and in words.
use Rattle.std.proofs.Common.{◌≡◌, ℕ, List, [], ◌∷◌, Bool, true, false, ◌||◌, nat_eq, Option, Some, None, refl, sym, ap, ◌∙◌, inl, inr}
use Rattle.std.proofs.lemmas.Bool.{eq-eqb, eqb-true, false_from_ne_true, ne_eqb}
use Rattle.fir_base.specs.Lists.{In}
use Rattle.fir_base.specs.Ticks.{rises}
use Rattle.fir_ast.specs.Expressions.{Expression}
use Rattle.fir_meaning.specs.LeafPaths.{LeafPath}
use Rattle.fir_meaning.specs.ClockEdges.{has_edge}
use Rattle.fir_meaning.specs.SourceDesigns.{SourceDesign}
use Rattle.fir_meaning.specs.SourceValues.{PathEnv, is_true_at, value_at}
use Rattle.fir_meaning.specs.TypedScopes.{TypedScope}
use Rattle.fir_source_laws.specs.working.StateWords.{HasEdge, IsOne}

rises_in : (edges : List ℕ) (k : ℕ) → In edges k → rises edges k ≡ true
rises_in [] k among = absurd among
rises_in (y ∷ ys) k (inl e) = let here : nat_eq k y ≡ true = eq-eqb k y (sym e) in rw here refl
rises_in (y ∷ ys) k (inr m) = go (nat_eq k y) (rises_in ys k m)
  where
    go : (here : Bool) → rises ys k ≡ true → (here || rises ys k) ≡ true
    go true e = refl
    go false e = e

in_rises : (edges : List ℕ) (k : ℕ) → rises edges k ≡ true → In edges k
in_rises [] k e = absurd (cc)
in_rises (y ∷ ys) k e = go (nat_eq k y) refl e (in_rises ys k)
  where
    go : (here : Bool) → nat_eq k y ≡ here → (here || rises ys k) ≡ true → (rises ys k ≡ true → In ys k) → In (y ∷ ys) k
    go true is e further = inl (sym (eqb-true k y is))
    go false is e further = inr (further e)

pub with_edge : (edges : List ℕ) (clock : Option ℕ) → HasEdge edges clock → has_edge edges clock ≡ true
with_edge edges clock h = ap (has_edge edges) h.is ∙ rises_in edges h.clock_number h.rises

pub without_edge : (edges : List ℕ) (clock : Option ℕ) → (HasEdge edges clock → ⊥) → has_edge edges clock ≡ false
without_edge edges None none = refl
without_edge edges (Some k) none =
    false_from_ne_true (rises edges k) (λ e. none (record { clock_number = k; is = refl; rises = in_rises edges k e }))

pub edge_from : (edges : List ℕ) (clock : Option ℕ) → has_edge edges clock ≡ true → HasEdge edges clock
edge_from edges None e = absurd (cc)
edge_from edges (Some k) e = record { clock_number = k; is = refl; rises = in_rises edges k e }

module _ (t : SourceDesign) (env : PathEnv) (at : LeafPath) where
  pub one_is : (scope : TypedScope) (e : Expression) → IsOne t env at scope e → is_true_at t env at scope e ≡ true
  one_is scope e h = eq-eqb (value_at t env at scope e []).value.number 1 h

  pub one_is_not : (scope : TypedScope) (e : Expression) → (IsOne t env at scope e → ⊥) → is_true_at t env at scope e ≡ false
  one_is_not scope e free = ne_eqb (value_at t env at scope e []).value.number 1 free
