-- What a scope tells of a tree: by the kind of a name, whether it is a clock, a net, a register, an array, and what an assign to it drives.
use Rattle.std.proofs.Common.{◌≡◌, ℕ, ◌+◌, List, flat_map, true, refl, sym, ap, ◌∙◌, inl, inr, ◌⊎◌, ⊎_elim, subst}
use Rattle.std.specs.Prelude.{Option, Some, None, Ok}
use Rattle.std.proofs.lemmas.Option.{none-some}
use Rattle.fir_base.specs.Lists.{In}
use Rattle.fir_base.proofs.Members.{in_left, in_right, in_flat_map, in_flat_map_from}
use Rattle.ver_ast.specs.declared.tree.Verilog.{Verilog}
use Rattle.ver_ast.specs.Nets.{SizedNet, Variable, clocks, output_clocks, nets, regs, wires, output_nets}
use Rattle.ver_valid.specs.declared.declared.Declared.{Declared}
use Rattle.ver_valid.specs.declared.declared.Declared.TheVariants.{ClockInput, ClockOutput, Input, Output, Wire, Register, Array}
use Rattle.ver_valid.specs.declared.scope.Scope.{Scope}
use Rattle.ver_valid.specs.declared.scope.Target.TheVariants.{Clock, Net}
use Rattle.ver_valid.specs.working.Declarations.{entries, kind_among}
use Rattle.ver_valid.specs.working.Kinds.{net_width, register_width, driven_width, output_width, wire_width, word_width, is_clock_input, is_clock_output, sized, array_of, array_entry}
use Rattle.ver_valid.specs.working.Scopes.{found, Tells, HasArray, driven_nets, GivesTarget}
use Rattle.ver_valid.proofs.Entries.{nets_are, regs_are, wires_are, outputs_are, clocks_are, output_clocks_are, arrays_are}
use Rattle.ver_valid.proofs.DrivenKinds.{driven_kind}
use Rattle.ver_valid.proofs.EntryKinds.{Sized, kind_sized, one_size, not_sized, not_known, Chosen, kind_chosen, chosen_by, not_chosen, kind_in, kind_of_entry}

module _ (scope : Scope) (n : List ℕ) (v : Verilog) (t : Tells scope v) where
  among : (o : Option Declared) → found scope n ≡ o → kind_among (entries v) n ≡ o
  among o k = sym (t.by_name n) ∙ k

  -- the names with a width
  module _ (width : Declared → Option ℕ) (ns : List SizedNet) (are : ns ≡ flat_map (sized width) (entries v)) where
    to : (w : ℕ) → In ns (n, w) → Sized width (entries v) t.once n w
    to w m = subst (λ (xs : List SizedNet). In xs (n, w)) are m

    back : (w : ℕ) → Sized width (entries v) t.once n w → In ns (n, w)
    back w m = subst (λ (xs : List SizedNet). In xs (n, w)) (sym are) m

    has_size : (d : Declared) (w : ℕ) → found scope n ≡ Some d → width d ≡ Some w → In ns (n, w) × ((u : ℕ) → In ns (n, u) → u ≡ w)
    has_size d w k e = (
      back w (kind_sized width (entries v) t.once n d w (among (Some d) k) e),
      λ u m. one_size width (entries v) t.once n d w u (among (Some d) k) e (to u m),
    )

    no_size : (d : Declared) → found scope n ≡ Some d → width d ≡ None → ((w : ℕ) × In ns (n, w)) → ⊥
    no_size d k e m = not_sized width (entries v) t.once n d (among (Some d) k) e m.0 (to m.0 m.1)

    no_name : found scope n ≡ None → ((w : ℕ) × In ns (n, w)) → ⊥
    no_name k m = not_known width (entries v) t.once n (among None k) m.0 (to m.0 m.1)

  pub net_size : (d : Declared) (w : ℕ) → found scope n ≡ Some d → net_width d ≡ Some w → In (nets v) (n, w) × ((u : ℕ) → In (nets v) (n, u) → u ≡ w)
  net_size d w k e = has_size net_width (nets v) (nets_are v) d w k e

  pub no_net : (d : Declared) → found scope n ≡ Some d → net_width d ≡ None → ((w : ℕ) × In (nets v) (n, w)) → ⊥
  no_net d k e m = no_size net_width (nets v) (nets_are v) d k e m

  pub not_a_net : found scope n ≡ None → ((w : ℕ) × In (nets v) (n, w)) → ⊥
  not_a_net k m = no_name net_width (nets v) (nets_are v) k m

  pub register_size : (d : Declared) (w : ℕ) → found scope n ≡ Some d → register_width d ≡ Some w → In (regs v) (n, w) × ((u : ℕ) → In (regs v) (n, u) → u ≡ w)
  register_size d w k e = has_size register_width (regs v) (regs_are v) d w k e

  pub no_register : (d : Declared) → found scope n ≡ Some d → register_width d ≡ None → ((w : ℕ) × In (regs v) (n, w)) → ⊥
  no_register d k e m = no_size register_width (regs v) (regs_are v) d k e m

  pub not_a_register : found scope n ≡ None → ((w : ℕ) × In (regs v) (n, w)) → ⊥
  not_a_register k m = no_name register_width (regs v) (regs_are v) k m

  -- arrays
  has_array : (m : List ℕ) (d : Declared) (w : ℕ) → word_width d ≡ Some w → (k : Variable) × In (array_of m d) k × (k.name ≡ m) × (k.width ≡ w)
  has_array m (Array x last) w e = (record { name = m; width = x; depth = last + 1 }, inl refl, refl, cc)
  has_array m ClockInput w e = absurd (none-some w e)
  has_array m ClockOutput w e = absurd (none-some w e)
  has_array m (Input x) w e = absurd (none-some w e)
  has_array m (Output x) w e = absurd (none-some w e)
  has_array m (Wire x) w e = absurd (none-some w e)
  has_array m (Register x) w e = absurd (none-some w e)

  array_is : (m : List ℕ) (d : Declared) (k : Variable) → In (array_of m d) k → (k.name ≡ m) × (word_width d ≡ Some k.width)
  array_is m (Array x last) k (inl e) = (ap (λ (y : Variable). y.name) (sym e), ap (λ (y : Variable). Some y.width) e)
  array_is m (Array x last) k (inr i) = absurd i
  array_is m ClockInput k i = absurd i
  array_is m ClockOutput k i = absurd i
  array_is m (Input x) k i = absurd i
  array_is m (Output x) k i = absurd i
  array_is m (Wire x) k i = absurd i
  array_is m (Register x) k i = absurd i

  array_kind : (w : ℕ) → HasArray v n w → (d : Declared) × (kind_among (entries v) n ≡ Some d) × (word_width d ≡ Some w)
  array_kind w h =
      let r = in_flat_map_from array_entry (entries v) h.0 (subst (λ (xs : List Variable). In xs h.0) (arrays_are v) h.1) in
      let s = array_is r.0.0 r.0.1 h.0 r.2 in
      let name : r.0.0 ≡ n = sym s.0 ∙ h.2 in
      let entry : In (entries v) (n, r.0.1) = subst (λ (x : List ℕ). In (entries v) (x, r.0.1)) name r.1 in
      (r.0.1, kind_of_entry (entries v) t.once n r.0.1 entry, s.1 ∙ ap (λ (x : ℕ). Some x) h.3)

  pub array_size : (d : Declared) (w : ℕ) → found scope n ≡ Some d → word_width d ≡ Some w → HasArray v n w × ((u : ℕ) → HasArray v n u → u ≡ w)
  array_size d w k e =
      let r = has_array n d w e in
      let entry = kind_in (entries v) n d (among (Some d) k) in (
        (r.0, subst (λ (xs : List Variable). In xs r.0) (sym (arrays_are v)) (in_flat_map array_entry (entries v) (n, d) r.0 entry r.1), r.2, r.3),
        λ u h. let q = array_kind u h in let same : q.0 ≡ d = let here = among (Some d) k in cc in let other = ap word_width same in cc,
      )

  pub no_array : (d : Declared) → found scope n ≡ Some d → word_width d ≡ None → ((w : ℕ) × HasArray v n w) → ⊥
  no_array d k e h =
      let q = array_kind h.0 h.1 in
      let same : q.0 ≡ d = let here = among (Some d) k in cc in
      none-some h.0 (sym e ∙ ap word_width (sym same) ∙ q.2)

  pub not_an_array : found scope n ≡ None → ((w : ℕ) × HasArray v n w) → ⊥
  not_an_array k h = let q = array_kind h.0 h.1 in none-some q.0 (sym (among None k) ∙ q.1)

  -- clocks
  pub a_clock : found scope n ≡ Some ClockInput → In (clocks v) n
  a_clock k =
      subst (λ (xs : List (List ℕ)). In xs n) (sym (clocks_are v))
      (kind_chosen is_clock_input (entries v) t.once n ClockInput (among (Some ClockInput) k) refl)

  is_clock_test : (d : Declared) → is_clock_input d ≡ true → d ≡ ClockInput
  is_clock_test ClockInput e = refl
  is_clock_test _ e = cc

  pub no_clock : (d : Declared) → found scope n ≡ Some d → (d ≡ ClockInput → ⊥) → In (clocks v) n → ⊥
  no_clock d k other m =
      other (is_clock_test d (chosen_by is_clock_input (entries v) t.once n d (among (Some d) k) (subst (λ (xs : List (List ℕ)). In xs n) (clocks_are v) m)))

  pub not_a_clock : found scope n ≡ None → In (clocks v) n → ⊥
  not_a_clock k m = not_chosen is_clock_input (entries v) t.once n (among None k) (subst (λ (xs : List (List ℕ)). In xs n) (clocks_are v) m)

  -- clock outputs, and wires and outputs
  to_clock : In (output_clocks v) n → Chosen is_clock_output (entries v) t.once n
  to_clock m = subst (λ (xs : List (List ℕ)). In xs n) (output_clocks_are v) m

  is_output_test : (d : Declared) → is_clock_output d ≡ true → d ≡ ClockOutput
  is_output_test ClockOutput e = refl
  is_output_test _ e = cc

  driven_either : (d : Declared) (w : ℕ) → driven_width d ≡ Some w → (wire_width d ≡ Some w) ⊎ (output_width d ≡ Some w)
  driven_either (Wire x) w e = inl e
  driven_either (Output x) w e = inr e
  driven_either _ w e = cc

  kind_driven : (d : Declared) (w : ℕ) → found scope n ≡ Some d → driven_width d ≡ Some w → In (driven_nets v) (n, w)
  kind_driven d w k e =
      ⊎_elim
      (λ (x : wire_width d ≡ Some w). in_left (wires v) (output_nets v) (n, w) (has_size wire_width (wires v) (wires_are v) d w k x).0)
      (λ (x : output_width d ≡ Some w). in_right (wires v) (output_nets v) (n, w) (has_size output_width (output_nets v) (outputs_are v) d w k x).0)
      (driven_either d w e)

  driven_by : (d : Declared) (w : ℕ) → found scope n ≡ Some d → In (driven_nets v) (n, w) → driven_width d ≡ Some w
  driven_by d w k m =
      let q = driven_kind v t.once n w m in
      let same : q.0 ≡ d = let here = among (Some d) k in cc in
      ap driven_width (sym same) ∙ q.2

  pub clock_target : found scope n ≡ Some ClockOutput → GivesTarget (Ok Clock) v n
  clock_target k = (
    subst (λ (xs : List (List ℕ)). In xs n) (sym (output_clocks_are v))
        (kind_chosen is_clock_output (entries v) t.once n ClockOutput (among (Some ClockOutput) k) refl),
    λ w m. none-some w (driven_by ClockOutput w k m),
  )

  no_output : (d : Declared) → found scope n ≡ Some d → (d ≡ ClockOutput → ⊥) → In (output_clocks v) n → ⊥
  no_output d k other m = other (is_output_test d (chosen_by is_clock_output (entries v) t.once n d (among (Some d) k) (to_clock m)))

  pub net_target : (d : Declared) (w : ℕ) → found scope n ≡ Some d → (d ≡ ClockOutput → ⊥) → driven_width d ≡ Some w → GivesTarget (Ok (Net w)) v n
  net_target d w k other e = (
    kind_driven d w k e,
    λ u m. let here = driven_by d u k m in cc,
    no_output d k other,
  )

  pub no_target : (d : Declared) → found scope n ≡ Some d → (d ≡ ClockOutput → ⊥) → driven_width d ≡ None → (In (output_clocks v) n ⊎ ((w : ℕ) × In (driven_nets v) (n, w))) → ⊥
  no_target d k other e (inl m) = no_output d k other m
  no_target d k other e (inr m) = none-some m.0 (sym e ∙ driven_by d m.0 k m.1)

  pub not_a_target : found scope n ≡ None → (In (output_clocks v) n ⊎ ((w : ℕ) × In (driven_nets v) (n, w))) → ⊥
  not_a_target k (inl m) = not_chosen is_clock_output (entries v) t.once n (among None k) (to_clock m)
  not_a_target k (inr m) = let q = driven_kind v t.once n m.0 m.1 in none-some q.0 (sym (among None k) ∙ q.1)
