-- The first module of a name, by its number; and the modules of a circuit by their numbers.
use Rattle.std.proofs.Common.{◌≡◌, ℕ, zero, suc, ◌+◌, List, [], ◌∷◌, Bool, true, false, if◌then◌else◌, Some, refl, inl, inr, ap, sym, ◌∙◌, subst, arith}
use Rattle.std.specs.Prelude.{slice_get}
use Rattle.std.specs.Str.{bytes_eq}
use Rattle.std.proofs.lemmas.Option.{same_Some, none-some}
use Rattle.fir_base.specs.Lists.{In}
use Rattle.fir_ast.specs.Circuits.{ModuleTree}
use Rattle.fir_meaning.specs.ComponentTypes.{find_module}
use Rattle.fir_meaning.specs.ResetJoins.{ResetModule, reset_modules, numbered_module}

-- a module that is found by its name stands at its number
pub record IsNumbered (modules : List ModuleTree) (name : List ℕ) (from : ℕ) (child : ℕ × ModuleTree) : Type 0 where
  pub found : find_module modules name ≡ Some child.1
  pub behind : ℕ
  pub there : slice_get modules behind ≡ Some child.1
  pub number : from + behind ≡ child.0

pub is_numbered : (from : ℕ) (ms : List ModuleTree) (name : List ℕ) (child : ℕ × ModuleTree) → numbered_module from ms name ≡ Some child → IsNumbered ms name from child
is_numbered from [] name child e = absurd (none-some child e)
is_numbered from (m ∷ ms) name child e = by (bytes_eq m.named.name name) refl e (is_numbered (suc from) ms name child)
  where
    by : (b : Bool) → bytes_eq m.named.name name ≡ b → (if b then Some (from, m) else numbered_module (suc from) ms name) ≡ Some child
        → (numbered_module (suc from) ms name ≡ Some child → IsNumbered ms name (suc from) child) → IsNumbered (m ∷ ms) name from child
    by true t e rest =
        let same : (from, m) ≡ child = same_Some (from, m) child e in
        let here : m ≡ child.1 = ap (λ (x : ℕ × ModuleTree). x.1) same in
        let first : from ≡ child.0 = ap (λ (x : ℕ × ModuleTree). x.0) same in
        record { found = rw (t, here) refl; behind = 0; there = ap Some here; number = omega (arith, first) }
    by false t e rest =
        let r = rest e in record { found = rw t r.found; behind = suc r.behind; there = r.there; number = omega (arith, r.number) }

-- and it is found by its number too
pub numbered_found : (from : ℕ) (ms : List ModuleTree) (name : List ℕ) (m : ModuleTree) → find_module ms name ≡ Some m
    → (number : ℕ) × (numbered_module from ms name ≡ Some (number, m))
numbered_found from [] name m e = absurd (none-some m e)
numbered_found from (x ∷ ms) name m e = by (bytes_eq x.named.name name) refl e (numbered_found (suc from) ms name m)
  where
    by : (b : Bool) → bytes_eq x.named.name name ≡ b → (if b then Some x else find_module ms name) ≡ Some m
        → (find_module ms name ≡ Some m → (number : ℕ) × (numbered_module (suc from) ms name ≡ Some (number, m)))
        → (number : ℕ) × (numbered_module from (x ∷ ms) name ≡ Some (number, m))
    by true t e rest = let same : x ≡ m = same_Some x m e in (from, rw (t, same) refl)
    by false t e rest = let r = rest e in (r.0, rw t r.1)

-- a module of a circuit, with its number, is among those that are joined
pub in_reset_modules : (from : ℕ) (modules ms : List ModuleTree) (k : ℕ) (m : ModuleTree) → slice_get ms k ≡ Some m
    → In (reset_modules from modules ms) (record { modules = modules; number = from + k; inside = m })
in_reset_modules from modules [] k m e = absurd (none-some m e)
in_reset_modules from modules (x ∷ ms) zero m e =
    let same : x ≡ m = same_Some x m e in
    let number : from ≡ from + 0 = omega arith in
    inl (ap (λ y. record { modules = modules; number = from; inside = y }) same ∙ ap (λ n. record { modules = modules; number = n; inside = m }) number)
in_reset_modules from modules (x ∷ ms) (suc k) m e =
    let number : suc from + k ≡ from + suc k = omega arith in
    inr (subst (λ n. In (reset_modules (suc from) modules ms) (record { modules = modules; number = n; inside = m })) number (in_reset_modules (suc from) modules ms k m e))

pub record IsAmong (from : ℕ) (all ms : List ModuleTree) (m : ResetModule) : Type 0 where
  pub modules : m.modules ≡ all
  pub behind : ℕ
  pub there : slice_get ms behind ≡ Some m.inside
  pub number : from + behind ≡ m.number

pub is_among : (from : ℕ) (modules ms : List ModuleTree) (m : ResetModule) → In (reset_modules from modules ms) m → IsAmong from modules ms m
is_among from modules [] m i = absurd i
is_among from modules (x ∷ ms) m (inl e) =
    let first : from ≡ m.number = ap (λ (y : ResetModule). y.number) e in
    record { modules = ap (λ (y : ResetModule). y.modules) (sym e); behind = 0; there = ap (λ (y : ResetModule). Some y.inside) e; number = omega (arith, first) }
is_among from modules (x ∷ ms) m (inr i) =
    let r = is_among (suc from) modules ms m i in
    record { modules = r.modules; behind = suc r.behind; there = r.there; number = omega (arith, r.number) }
