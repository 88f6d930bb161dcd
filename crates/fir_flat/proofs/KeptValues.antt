-- Values of a net's leaves as those of its circuit: a clock has the number 0 and a number no clock, and what is no leaf has neither.
use Rattle.std.proofs.Common.{◌≡◌, ℕ, ◌^◌, ◌<◌, ◌≤◌, length, true, false, Option, Some, None, if◌then◌else◌, nat_lt, slice_get, refl, sym, ap, ◌∙◌, ⊎_elim, subst}
use Rattle.std.proofs.lemmas.Bool.{cases_lt, le-ltb, lt-ltb}
use Rattle.std.proofs.lemmas.Nat.{pow_pos}
use Rattle.fir_bits.specs.declared.types.NumTy.{NumTy}
use Rattle.fir_meaning.specs.LeafTypes.{LeafType, a_clock, number}
use Rattle.fir_meaning.specs.working.LeafModules.{leaf_at}
use Rattle.fir_meaning.specs.working.TermValues.{Env}
use Rattle.fir_meaning.specs.working.LeafCircuits.{LeafCircuit, type_of_leaf}
use Rattle.fir_net.specs.declared.leaf.Leaf.{Leaf}
use Rattle.fir_net.specs.declared.net.FlatNet.{FlatNet}
use Rattle.fir_net.specs.working.Laws.{LeavesFit}
use Rattle.fir_net.specs.working.Settled.{is_clock}
use Rattle.fir_flat.specs.working.FlatCircuits.{IsFlatOf}
use Rattle.fir_flat.proofs.BesideValues.{IsBeside}
use Rattle.fir_flat.proofs.FlatLeaves.{clock_at, holds_clock, kind_at, leaf_inside, leaf_there, number_at, type_at}

abbrev number_kept : LeafType → ℕ → ℕ
number_kept (number t) n = n
number_kept a_clock n = 0

abbrev clock_kept : LeafType → Option ℕ → Option ℕ
clock_kept (number t) o = None
clock_kept a_clock o = o

-- beside values and clocks of a net
abbrev pub kept : LeafCircuit → (ℕ → ℕ) → (ℕ → Option ℕ) → Env
kept c e f = record {
  numbers = λ x. if nat_lt x (length c.leaves) then number_kept (leaf_at c.leaves x).holds (e x) else 0;
  clocks = λ x. if nat_lt x (length c.leaves) then clock_kept (leaf_at c.leaves x).holds (f x) else None;
}

-- the values are the same where there is no clock, and the clocks are the same where there is one
pub record AreBeside (c : LeafCircuit) (net : FlatNet) (env : Env) (e : ℕ → ℕ) (f : ℕ → Option ℕ) : Type 0 where
  pub numbers : IsBeside c net env e
  pub clocks : (x : ℕ) (l : Leaf) → slice_get net.leaves x ≡ Some l → is_clock l.role ≡ true → f x ≡ env.clocks x

module _ (c : LeafCircuit) (e : ℕ → ℕ) (f : ℕ → Option ℕ) where
  pub number_inside : (x : ℕ) → x < length c.leaves → (kept c e f).numbers x ≡ number_kept (leaf_at c.leaves x).holds (e x)
  number_inside x inside = rw (lt-ltb x (length c.leaves) inside) refl

  pub clock_inside : (x : ℕ) → x < length c.leaves → (kept c e f).clocks x ≡ clock_kept (leaf_at c.leaves x).holds (f x)
  clock_inside x inside = rw (lt-ltb x (length c.leaves) inside) refl

  pub number_behind : (x : ℕ) → length c.leaves ≤ x → (kept c e f).numbers x ≡ 0
  number_behind x behind = rw (le-ltb x (length c.leaves) behind) refl

  pub clock_behind : (x : ℕ) → length c.leaves ≤ x → (kept c e f).clocks x ≡ None
  clock_behind x behind = rw (le-ltb x (length c.leaves) behind) refl

  pub number_same : (x : ℕ) → x < length c.leaves → (t : NumTy) → (leaf_at c.leaves x).holds ≡ number t → (kept c e f).numbers x ≡ e x
  number_same x inside t is = number_inside x inside ∙ ap (λ (h : LeafType). number_kept h (e x)) is

  pub clock_same : (x : ℕ) → x < length c.leaves → (leaf_at c.leaves x).holds ≡ a_clock → (kept c e f).clocks x ≡ f x
  clock_same x inside is = clock_inside x inside ∙ ap (λ (h : LeafType). clock_kept h (f x)) is

  pub clock_has_no_number : (x : ℕ) → x < length c.leaves → (leaf_at c.leaves x).holds ≡ a_clock → (kept c e f).numbers x ≡ 0
  clock_has_no_number x inside is = number_inside x inside ∙ ap (λ (h : LeafType). number_kept h (e x)) is

  pub number_has_no_clock : (x : ℕ) → x < length c.leaves → (t : NumTy) → (leaf_at c.leaves x).holds ≡ number t → (kept c e f).clocks x ≡ None
  number_has_no_clock x inside t is = clock_inside x inside ∙ ap (λ (h : LeafType). clock_kept h (f x)) is

  module _ (net : FlatNet) (flat : IsFlatOf c net) (fit : LeavesFit net.leaves e) where
    zero_fits : (x : ℕ) → (kept c e f).numbers x ≡ 0 → (kept c e f).numbers x < 2 ^ (type_of_leaf c x).width
    zero_fits x is = rw is (pow_pos (type_of_leaf c x).width)

    kept_fits : (x : ℕ) → x < length c.leaves → (h : LeafType) → (leaf_at c.leaves x).holds ≡ h → (kept c e f).numbers x < 2 ^ (type_of_leaf c x).width
    kept_fits x inside a_clock is = zero_fits x (clock_has_no_number x inside is)
    kept_fits x inside (number t) is =
        let found = leaf_there c net flat x inside in
        let plain : is_clock found.0.role ≡ false = kind_at c net flat x found.0 found.1 ∙ ap holds_clock is in
        let width : found.0.width ≡ (type_of_leaf c x).width = ap (λ (u : NumTy). u.width) (type_at c net flat x found.0 found.1 plain) in
        rw (number_same x inside t is) (subst (λ (w : ℕ). e x < 2 ^ w) width (fit.each x found.0 found.1 plain))

    pub kept_beside : AreBeside c net (kept c e f) e f
    kept_beside = record {
      numbers = record {
        within = λ x.
            ⊎_elim
            (λ (inside : x < length c.leaves). kept_fits x inside (leaf_at c.leaves x).holds refl)
            (λ (behind : length c.leaves ≤ x). zero_fits x (number_behind x behind))
            (cases_lt x (length c.leaves));
        values = λ x l at plain. let t = number_at c net flat x l at plain in sym (number_same x (leaf_inside c net flat x l at) t.0 t.1);
      };
      clocks = λ x l at ticking. sym (clock_same x (leaf_inside c net flat x l at) (clock_at c net flat x l at ticking));
    }
