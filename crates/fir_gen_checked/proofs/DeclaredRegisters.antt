-- What is declared behind so many registers of the circuit, and what is found there under each name.
use Rattle.std.proofs.Common.{◌≡◌, ℕ, zero, suc, ◌^◌, ◌<◌, ◌≤◌, List, [], ◌∷◌, ◌++◌, Bool, true, false, if◌then◌else◌, Some, None, refl, ◌∙◌, inl, inr, ◌⊎◌, ⊎_elim, subst, arith}
use Rattle.std.specs.Str.{bytes_eq}
use Rattle.std.proofs.lemmas.Bool.{cases_lt}
use Rattle.fir_base.proofs.SameNames.{name_same}
use Rattle.fir_ast.specs.declared.place.Place.{Place}
use Rattle.fir_meaning.specs.Components.{Declaration, Declarations, find}
use Rattle.fir_meaning.specs.Components as component
use Rattle.fir_meaning.specs.Visibility.{Before, at_head, behind_ports}
use Rattle.fir_gen.specs.GenText.{register_name}
use Rattle.fir_gen.specs.working.GenTree.{named_at, ports, word_type}
use Rattle.fir_gen.proofs.RegisterNames.{register_other, reset_is_no_register}

-- what is found stays found behind others
pub found_front : (ds more : Declarations) (name : List ℕ) (d : Declaration) → find ds name ≡ Some d → find (ds ++ more) name ≡ Some d
found_front [] more name d h = cc
found_front (x ∷ ds) more name d h = by (bytes_eq x.named.name name) h (found_front ds more name d)
  where
    by : (is_so : Bool) → (if is_so then Some x else find ds name) ≡ Some d → (find ds name ≡ Some d → find (ds ++ more) name ≡ Some d)
        → (if is_so then Some x else find (ds ++ more) name) ≡ Some d
    by true e further = e
    by false e further = further e

-- what is not found may stand behind
pub found_further : (ds more : Declarations) (name : List ℕ) → find ds name ≡ None → find (ds ++ more) name ≡ find more name
found_further [] more name h = refl
found_further (x ∷ ds) more name h = by (bytes_eq x.named.name name) h (found_further ds more name)
  where
    by : (is_so : Bool) → (if is_so then Some x else find ds name) ≡ None → (find ds name ≡ None → find (ds ++ more) name ≡ find more name)
        → (if is_so then Some x else find (ds ++ more) name) ≡ find more name
    by true e further = absurd (cc)
    by false e further = further e

earlier_or_last : (j k : ℕ) → k ≤ suc j → (k ≤ j) ⊎ (suc j ≡ k)
earlier_or_last j k h = ⊎_elim (λ (less : k < suc j). inl (omega arith)) (λ (last : suc j ≤ k). inr (omega arith)) (cases_lt k (suc j))

module _ (at : ℕ → ℕ → Place) where
  abbrev pub register_declared : ℕ → Declaration
  register_declared k = record { named = named_at (at k 12) (register_name k); component = component.register word_type; depth = 0 }

  abbrev pub behind_head : Before
  behind_head = behind_ports at_head (ports at)

  -- the ports, and the registers up to the one of that number
  abbrev pub declared_behind : ℕ → Declarations
  declared_behind zero = behind_head.declared ++ register_declared 0 ∷ []
  declared_behind (suc j) = declared_behind j ++ register_declared (suc j) ∷ []

  -- behind the register of that number
  abbrev pub before_at : ℕ → Before
  before_at j = record { visible = declared_behind j; declared = declared_behind j; depth = 0 }

  pub port_found : (j : ℕ) (name : List ℕ) (d : Declaration) → find behind_head.declared name ≡ Some d → find (declared_behind j) name ≡ Some d
  port_found zero name d h = found_front behind_head.declared (register_declared 0 ∷ []) name d h
  port_found (suc j) name d h = found_front (declared_behind j) (register_declared (suc j) ∷ []) name d (port_found j name d h)

  pub no_port : (k : ℕ) → k < 2 ^ 64 → find behind_head.declared (register_name k) ≡ None
  no_port k small = rw (reset_is_no_register k small) refl

  one_found : (k : ℕ) → find (register_declared k ∷ []) (register_name k) ≡ Some (register_declared k)
  one_found k = rw (name_same (register_name k)) refl

  other_passed : (j k : ℕ) → j < k → k < 2 ^ 64 → find (register_declared j ∷ []) (register_name k) ≡ None
  other_passed j k less small = rw (register_other j k (omega arith) small (λ e. omega arith)) refl

  pub not_yet_found : (j k : ℕ) → j < k → k < 2 ^ 64 → find (declared_behind j) (register_name k) ≡ None
  not_yet_found zero k less small =
      found_further behind_head.declared (register_declared 0 ∷ []) (register_name k) (no_port k small) ∙ other_passed 0 k less small
  not_yet_found (suc j) k less small =
      found_further (declared_behind j) (register_declared (suc j) ∷ []) (register_name k) (not_yet_found j k (omega arith) small)
      ∙ other_passed (suc j) k less small

  last_found : (j : ℕ) → j < 2 ^ 64 → find (declared_behind j) (register_name j) ≡ Some (register_declared j)
  last_found zero small =
      found_further behind_head.declared (register_declared 0 ∷ []) (register_name 0) (no_port 0 small) ∙ one_found 0
  last_found (suc j) small =
      found_further (declared_behind j) (register_declared (suc j) ∷ []) (register_name (suc j)) (not_yet_found j (suc j) (omega arith) small)
      ∙ one_found (suc j)

  pub register_found : (j k : ℕ) → k ≤ j → k < 2 ^ 64 → find (declared_behind j) (register_name k) ≡ Some (register_declared k)
  register_found zero k le small =
      let e : 0 ≡ k = omega arith in subst (λ i. find (declared_behind 0) (register_name i) ≡ Some (register_declared i)) e (last_found 0 (omega arith))
  register_found (suc j) k le small =
      ⊎_elim
      (λ (less : k ≤ j).
      found_front (declared_behind j) (register_declared (suc j) ∷ []) (register_name k) (register_declared k) (register_found j k less small))
      (λ (e : suc j ≡ k).
      subst (λ i. i < 2 ^ 64 → find (declared_behind (suc j)) (register_name i) ≡ Some (register_declared i)) e (last_found (suc j)) small)
      (earlier_or_last j k le)
