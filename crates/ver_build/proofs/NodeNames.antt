-- The inner names that a node gets, one after the other.
use Rattle.std.proofs.Common.{◌≡◌, ℕ, ◌+◌, ◌^◌, ◌≤◌, List, [], ◌∷◌, ◌++◌, Bool, true, false, nat_eq, refl, arith, length-append}
use Rattle.std.proofs.lemmas.Bool.{eqb-true, cond_both}
use Rattle.fir_base.proofs.Each.{all_joined}
use Rattle.ver_words.specs.Names.{IsName}
use Rattle.fir_net_names.specs.declared.name_table.NameTable.{NameTable}
use Rattle.fir_net_names.specs.Names.{IsInner, inner_name}
use Rattle.fir_net_names.specs.working.TableNames.{table_names}
use Rattle.ver_build.specs.declared.held.Held.{Held}
use Rattle.ver_build.specs.working.Held.{whole_net}
use Rattle.ver_build.specs.working.Walks.{AreHelpers, IsOwnPlace}
use Rattle.ver_build.proofs.Walk.{joined_to}

pub one_more_name : (t : NameTable) (k from next number : ℕ) (names : List (List ℕ)) (name : List ℕ) → AreHelpers t k from names next
    → IsInner (table_names t) next number → name ≡ inner_name number
    → IsName name → number + 1 ≤ next + 2 ^ 63 → AreHelpers t (k + 1) from (names ++ name ∷ []) (number + 1)
one_more_name t k from next number names name before first named spelled near = record {
  counted = let c = before.counted in omega (arith, length-append names (name ∷ []));
  named = joined_to (table_names t) names (name ∷ []) from next (number + 1) before.named (number, first, named, refl);
  near = let n = before.near in omega arith;
  spelled = all_joined IsName names (name ∷ []) before.spelled (spelled, tt);
}

not_equal : (v u : ℕ) → (v ≡ u → ⊥) → nat_eq v u ≡ false
not_equal v u other = cond_both {A = Bool} (nat_eq v u) true false (λ _. nat_eq v u ≡ false) (λ t. absurd (other (eqb-true _ _ t))) (λ t. t)

-- the place of a value with bits, whose own name follows on the others
pub own_named : (t : NameTable) (count : ℕ) (signed : Bool) (w from next number : ℕ) (names : List (List ℕ)) (name : List ℕ) (held : Held)
    → count ≤ 4 → (w ≡ 0 → ⊥)
    → AreHelpers t count from names next → IsInner (table_names t) next number → name ≡ inner_name number → IsName name → number + 1 ≤ next + 2 ^ 63
    → held ≡ whole_net name signed w
    → IsOwnPlace t count signed w from (record { held = held; helpers = names }) (number + 1)
own_named t count signed w from next number names name held few some helpers first named spelled near is =
    let b : nat_eq w 0 ≡ false = not_equal w 0 some in
    rw is
    (record {
      held = rw b (name, refl);
      counted = rw b helpers.counted;
      named = joined_to (table_names t) names (name ∷ []) from next (number + 1) helpers.named (number, first, named, refl);
      near = let n = helpers.near in omega arith;
      spelled = all_joined IsName names (name ∷ []) helpers.spelled (spelled, tt);
    })
