-- The values of a tree's inputs, clocks, outputs and registers are those of the net's.
-- Leaves of no bits are in no list.
use Rattle.std.proofs.Common.{◌≡◌, ℕ, List, [], ◌∷◌, map, Bool, true, false, nat_eq, refl, sym, ap, ◌∙◌, arith, Option, Some, None}
use Rattle.std.specs.Prelude.{slice_get}
use Rattle.std.proofs.lemmas.Bool.{cond_both, eqb-true}
use Rattle.fir_base.specs.Ticks.{Env}
use Rattle.fir_net.specs.declared.reads.Read.{Read}
use Rattle.fir_net.specs.declared.leaf.Role.{Role}
use Rattle.fir_net.specs.declared.leaf.Role.TheVariants as role
use Rattle.fir_net.specs.declared.leaf.Leaf.{Leaf}
use Rattle.fir_net.specs.declared.net.FlatNet.{FlatNet}
use Rattle.fir_net_names.specs.declared.name_table.NameTable.{NameTable}
use Rattle.fir_net.specs.working.IsNet.{is_port, IsRole}
use Rattle.fir_net_names.specs.working.LeafNamed.{name_at}
use Rattle.fir_net.specs.working.Settled.{is_clock, input_number, clock_number, output_number, numbers_by, inputs, clocks, outputs, registers}
use Rattle.ver_ast.specs.Nets.{SizedNet, names_of, input_nets as v_inputs, output_nets as v_outputs, clocks as v_clocks, regs}
use Rattle.ver_build.specs.declared.places.Places.{Places}
use Rattle.ver_build.proofs.Premises.{Premises, LeafNamed, RoleNamed, BitsNamed, role_named, bits_named}
use Rattle.ver_build.proofs.TableLeaves.{leaf_named}
use Rattle.ver_build.proofs.OrderedLeaves.{ordered_names, ordered_leaves, names_port, port_given}
use Rattle.ver_build.proofs.WordLists.{word_names_listed}
use Rattle.ver_build.proofs.Parts.{in_parts}
use Rattle.fir_net.specs.working.Counted.{is_register}
use Rattle.ver_build.proofs.LeafKinds.{is_wire, is_input, is_clock_input, is_output, name_if, picked, picked_names}
use Rattle.ver_build.proofs.Nets.{inputs_sized, outputs_sized, clocks_are, registers_sized}
use Rattle.ver_build.proofs.Shapes.{number_if, input_is, output_is, input_plain, output_plain, input_port, output_port, clock_port}
use Rattle.ver_build.proofs.ReadsStand.{leaf_at}
use Rattle.ver_build.proofs.LeafLists.{same_lists}

-- each leaf that has a name has its value there, and each clock input its number
pub record AgreesLeaves (net : FlatNet) (t : NameTable) (e : ℕ → ℕ) (clock : ℕ → Option ℕ) (f : Env) : Type 0 where
  pub value : (k : ℕ) (l : Leaf) (n : List ℕ) → slice_get net.leaves k ≡ Some l → is_clock l.role ≡ false → name_at t.leaves k ≡ Some n → f n ≡ e k
  pub number : (k : ℕ) (l : Leaf) (n : List ℕ) → slice_get net.leaves k ≡ Some l → l.role ≡ role.Clock → name_at t.leaves k ≡ Some n
      → Some (f n) ≡ clock k

plain_input : (r : Role) → is_input r ≡ true → is_clock r ≡ false
plain_input role.Input e = refl
plain_input _ e = absurd (cc)

plain_output : (r : Role) → is_output r ≡ true → is_clock r ≡ false
plain_output (role.Output r) e = refl
plain_output _ e = absurd (cc)

one_value : (e : ℕ → ℕ) (f : Env) (b : Bool) (w k : ℕ) (n : Option (List ℕ)) → (b ≡ true → BitsNamed w n)
    → (b ≡ true → (name : List ℕ) → n ≡ Some name → f name ≡ e k) → map f (name_if b n) ≡ map e (number_if b w k)
one_value e f false w k n bits same = refl
one_value e f true w k None bits same = let none : w ≡ 0 = bits refl in rw none refl
one_value e f true w k (Some name) bits same =
    cond_both (nat_eq w 0) [] (k ∷ []) (λ ys. f name ∷ [] ≡ map e ys)
    (λ h. let none : w ≡ 0 = eqb-true _ _ h in let some = bits refl in absurd (omega arith)) (λ h. ap (λ (x : ℕ). x ∷ []) (same refl name refl))

module _ (net : FlatNet) (t : NameTable) (p : Places) (order : List Read) (is : Premises net t p order) where
  named_at : (k : ℕ) (l : Leaf) → slice_get net.leaves k ≡ Some l → LeafNamed l (name_at t.leaves k)
  named_at = leaf_named net is.whole t is.table

  module _ (e : ℕ → ℕ) (f : Env) where
    -- each leaf of the kind that has a name has its value there
    abbrev Same : (Role → Bool) → Type 0
    Same q = (k : ℕ) (l : Leaf) (name : List ℕ) → slice_get net.leaves k ≡ Some l → q l.role ≡ true → name_at t.leaves k ≡ Some name → f name ≡ e k

    values_same : (q : Role → Bool) (number : Role → ℕ → ℕ → List ℕ) → ((r : Role) (w k : ℕ) → number r w k ≡ number_if (q r) w k)
        → ((r : Role) → q r ≡ true → is_wire r ≡ false) → ((r : Role) → is_port r ≡ false → q r ≡ false) → Same q
        → map f (picked q (ordered_names net t) (ordered_leaves net)) ≡ map e (numbers_by number 0 net.leaves)
    values_same q number by plain port same =
        ap (map f) (sym (port_given net t is.whole is.table (λ l n. name_if (q l.role) n) (names_port q port)))
        ∙ same_lists e f (λ l n. name_if (q l.role) n) number t.leaves net.leaves one
      where
        one : (k : ℕ) (l : Leaf) → slice_get net.leaves k ≡ Some l → map f (name_if (q l.role) (name_at t.leaves k)) ≡ map e (number l.role l.width k)
        one k l at =
            one_value e f (q l.role) l.width k (name_at t.leaves k)
            (λ b. bits_named l.role l.width (name_at t.leaves k) (plain l.role b) (role_named l (name_at t.leaves k) (named_at k l at)))
            (λ b name named. same k l name at b named)
            ∙ ap (map e) (sym (by l.role l.width k))

    pub registers_same : Same is_register → map f (names_of (regs (in_parts net t p order))) ≡ map e (registers net)
    registers_same same =
        ap (λ (s : List SizedNet). map f (names_of s)) (registers_sized net t p order) ∙ ap (map f) (picked_names is_register (ordered_names net t) (ordered_leaves net))
        ∙ word_names_listed net t is.whole is.table is.pipes f e same

  module _ (e : ℕ → ℕ) (clock : ℕ → Option ℕ) (f : Env) (agrees : AgreesLeaves net t e clock f) where
    pub inputs_same : map f (names_of (v_inputs (in_parts net t p order))) ≡ map e (inputs net)
    inputs_same =
        ap (λ (s : List SizedNet). map f (names_of s)) (inputs_sized net t p order) ∙ ap (map f) (picked_names is_input (ordered_names net t) (ordered_leaves net))
        ∙ values_same e f is_input input_number input_is input_plain input_port (λ k l n at q. agrees.value k l n at (plain_input l.role q))

    pub outputs_same : map f (names_of (v_outputs (in_parts net t p order))) ≡ map e (outputs net)
    outputs_same =
        ap (λ (s : List SizedNet). map f (names_of s)) (outputs_sized net t p order) ∙ ap (map f) (picked_names is_output (ordered_names net t) (ordered_leaves net))
        ∙ values_same e f is_output output_number output_is output_plain output_port (λ k l n at q. agrees.value k l n at (plain_output l.role q))

    one_clock : (s : Bool) (r : Role) (w k : ℕ) (n : Option (List ℕ)) → RoleNamed r w n → IsRole net.leaves net.nodes s w r
        → (r ≡ role.Clock → (name : List ℕ) → n ≡ Some name → Some (f name) ≡ clock k)
        → map (λ m. Some (f m)) (name_if (is_clock_input r) n) ≡ map clock (clock_number r w k)
    one_clock s role.Clock w k None h d same = let none = bits_named role.Clock w None refl h in absurd (omega arith)
    one_clock s role.Clock w k (Some name) h d same = ap (λ (x : Option ℕ). x ∷ []) (same refl name refl)
    one_clock s _ w k n h d same = refl

    pub clocks_same : map (λ n. Some (f n)) (v_clocks (in_parts net t p order)) ≡ map clock (clocks net)
    clocks_same =
        ap (map (λ n. Some (f n))) (clocks_are net t p order
        ∙ sym (port_given net t is.whole is.table (λ l n. name_if (is_clock_input l.role) n) (names_port is_clock_input clock_port)))
        ∙ same_lists clock (λ n. Some (f n)) (λ l n. name_if (is_clock_input l.role) n) clock_number t.leaves net.leaves
        (λ k l at. one_clock l.signed l.role l.width k (name_at t.leaves k) (role_named l (name_at t.leaves k) (named_at k l at))
        (leaf_at net t p order is k l at).driven (λ c name named. agrees.number k l name at c named))
