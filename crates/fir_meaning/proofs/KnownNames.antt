-- What is known under a name: declarations one by one, and what stays known behind others.
use Rattle.std.proofs.Common.{◌≡◌, ℕ, List, [], ◌∷◌, ◌++◌, Bool, true, false, Some, None, refl, inl, inr, ◌⊎◌, ⊎_elim, subst}
use Rattle.std.specs.Str.{bytes_eq}
use Rattle.fir_base.specs.Lists.{In}
use Rattle.fir_ast.specs.Circuits.{ModuleTree}
use Rattle.fir_meaning.specs.Components.{Declaration, Declarations}
use Rattle.fir_meaning.specs.TypedScopes.{Known, TypedScope, known}
use Rattle.fir_meaning.specs.ComponentTypes.{known_as, typed_behind}
use Rattle.fir_base.proofs.Tests.{chosen}
use Rattle.fir_base.proofs.SameNames.{name_same}

-- one more declaration
pub typed_more : (modules : List ModuleTree) (scope : TypedScope) (ds : Declarations) (d : Declaration)
    → typed_behind modules scope (ds ++ d ∷ []) ≡ typed_behind modules scope ds ++ known_as modules (typed_behind modules scope ds) d ∷ []
typed_more modules scope [] d = refl
typed_more modules scope (x ∷ ds) d = typed_more modules (scope ++ known_as modules scope x ∷ []) ds d

-- what is known stays known
pub known_front : (scope more : TypedScope) (n : List ℕ) (k : Known) → known scope n ≡ Some k → known (scope ++ more) n ≡ Some k
known_front [] more n k h = cc
known_front (x ∷ scope) more n k h =
    ⊎_elim
    (λ (c : (bytes_eq x.name n ≡ true) × (Some x ≡ Some k)). rw c.0 c.1)
    (λ (c : (bytes_eq x.name n ≡ false) × (known scope n ≡ Some k)). rw c.0 (known_front scope more n k c.1))
    (chosen (bytes_eq x.name n) (Some x) (known scope n) (Some k) h)

-- what is known with one more was known before it, or is that one
pub known_before : (scope : TypedScope) (x : Known) (n : List ℕ) (k : Known) → known (scope ++ x ∷ []) n ≡ Some k → (known scope n ≡ Some k) ⊎ (x ≡ k)
known_before [] x n k h =
    ⊎_elim
    (λ (c : (bytes_eq x.name n ≡ true) × (Some x ≡ Some k)). inr cc)
    (λ (c : (bytes_eq x.name n ≡ false) × (None ≡ Some k)). let e : None ≡ Some k = c.1 in cc)
    (chosen (bytes_eq x.name n) (Some x) None (Some k) h)
known_before (y ∷ scope) x n k h =
    ⊎_elim
    (λ (c : (bytes_eq y.name n ≡ true) × (Some y ≡ Some k)). inl (rw c.0 c.1))
    (λ (c : (bytes_eq y.name n ≡ false) × (known (scope ++ x ∷ []) n ≡ Some k)). rw c.0 (known_before scope x n k c.1))
    (chosen (bytes_eq y.name n) (Some y) (known (scope ++ x ∷ []) n) (Some k) h)

-- what is known stays known behind declarations, and each of them is known
known_behind : (modules : List ModuleTree) (scope : TypedScope) (ds : Declarations) (n : List ℕ) (k : Known) → known scope n ≡ Some k
    → known (typed_behind modules scope ds) n ≡ Some k
known_behind modules scope [] n k h = h
known_behind modules scope (d ∷ ds) n k h =
    known_behind modules (scope ++ known_as modules scope d ∷ []) ds n k (known_front scope (known_as modules scope d ∷ []) n k h)

known_last : (scope : TypedScope) (x : Known) → (k : Known) × (known (scope ++ x ∷ []) x.name ≡ Some k)
known_last [] x = (x, rw (name_same x.name) refl)
known_last (y ∷ scope) x = by (bytes_eq y.name x.name) refl (known_last scope x)
  where
    by : (b : Bool) → bytes_eq y.name x.name ≡ b → (k : Known) × (known (scope ++ x ∷ []) x.name ≡ Some k)
        → (k : Known) × (known (y ∷ scope ++ x ∷ []) x.name ≡ Some k)
    by true e rest = (y, rw e refl)
    by false e rest = (rest.0, rw e rest.1)

pub known_each : (modules : List ModuleTree) (scope : TypedScope) (ds : Declarations) (d : Declaration) → In ds d
    → (k : Known) × (known (typed_behind modules scope ds) d.named.name ≡ Some k)
known_each modules scope [] d m = absurd m
known_each modules scope (x ∷ ds) d (inl e) =
    let next = scope ++ known_as modules scope x ∷ [] in
    let last = known_last scope (known_as modules scope x) in
    (last.0, subst (λ (y : Declaration). known (typed_behind modules next ds) y.named.name ≡ Some last.0) e (known_behind modules next ds x.named.name last.0 last.1))
known_each modules scope (x ∷ ds) d (inr m) = known_each modules (scope ++ known_as modules scope x ∷ []) ds d m
