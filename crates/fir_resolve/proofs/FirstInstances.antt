-- How far a table has no instance of a module, and the first one.
use Rattle.std.proofs.Common.{◌≡◌, ℕ, ◌+◌, ◌<◌, ◌≤◌, Some, subst, ⊎_elim, arith}
use Rattle.std.proofs.lemmas.Bool.{cases_lt}
use Rattle.fir_ast.specs.declared.place.Place.{Place}
use Rattle.fir_names.specs.declared.declaration.Declaration.{Declaration as Entry}
use Rattle.fir_names.specs.declared.declaration.Component.TheVariants.{Instance}
use Rattle.fir_names.specs.declared.names.Names.{Names}
use Rattle.fir_names.specs.working.Ordered.{HasInstance, IsFirstInstance}
use Rattle.fir_names.specs.working.Tabulated.{entry_at, entry_count}
use Rattle.fir_names.proofs.GrownTables.{entry_within}

-- what stands there is no instance of the module
pub record Other (names : Names) (other k : ℕ) : Type 0 where
  pub than : (e : Entry) → entry_at names k ≡ Some e → e.component ≡ Instance other → ⊥

pub record NoneBefore (names : Names) (other n : ℕ) : Type 0 where
  pub each : (k : ℕ) → k < n → Other names other k

pub none_more : (names : Names) (other n : ℕ) → NoneBefore names other n → Other names other n → NoneBefore names other (n + 1)
none_more names other n h last = record {
  each = λ k low.
      ⊎_elim (λ (l : k < n). h.each k l) (λ (l : n ≤ k). let same : n ≡ k = omega (arith, low, l) in subst (Other names other) same last) (cases_lt k n);
}

pub none_left : (names : Names) (other n : ℕ) → HasInstance names other → NoneBefore names other n → entry_count names ≤ n → ⊥
none_left names other n has h end =
    let within = entry_within names has.at has.entry has.is in
    (h.each has.at (omega (arith, within, end))).than has.entry has.is has.instance_of

pub first_here : (names : Names) (other n : ℕ) (e : Entry) (place : Place) → NoneBefore names other n → entry_at names n ≡ Some e
    → e.component ≡ Instance other → place ≡ e.place → IsFirstInstance names other place
first_here names other n e place h is instance_of at = record {
  has = record { at = n; entry = e; is = is; instance_of = instance_of };
  is = at;
  first = λ k o low. (h.each k low).than o;
}
