-- The tree of a net has one choice of values at every state and tick, and allows what the net allows.
-- Its values at rest are settled, and so are those of the net's leaves that they hold. As the net has one choice too, that choice shows the same outputs, and the
-- same state follows from it.
use Rattle.std.proofs.Common.{◌≡◌, ℕ, ◌≤◌, List, refl, true, false, length, sym, ap, ap₂, ◌∙◌, ◌++◌, subst, arith, Option, Some}
use Rattle.std.specs.Prelude.{◌↔◌, slice_get}
use Rattle.std.proofs.lemmas.Option.{same_Some, slice_get_within}
use Rattle.fir_base.specs.Lists.{In}
use Rattle.fir_base.specs.Ticks.{Env, Tick, Shape, HasShape}
use Rattle.fir_bits.specs.declared.values.Num.{Num}
use Rattle.fir_net.specs.declared.reads.Read.{Read}
use Rattle.fir_net.specs.declared.leaf.Reset.{Reset}
use Rattle.fir_net.specs.declared.leaf.Leaf.{Leaf}
use Rattle.fir_net.specs.declared.net.FlatNet.{FlatNet}
use Rattle.fir_net_names.specs.declared.name_table.NameTable.{NameTable}
use Rattle.fir_net.specs.working.IsNet.{CanRead}
use Rattle.fir_net.specs.working.Values.{at_width}
use Rattle.fir_net.specs.working.Settled.{value_at, is_clock, Settled, shape as net_shape}
use Rattle.fir_net.specs.working.Next.{next}
use Rattle.fir_net.specs.working.One.{HasOne}
use Rattle.fir_net.specs.working.Allows.{Allows as NetAllows}
use Rattle.fir_net.proofs.AlongOrder.{SameBefore}
use Rattle.fir_net.proofs.ValuesAlong.{IsPlain, values_agree}
use Rattle.ver_ast.specs.Valid.{Valid}
use Rattle.ver_ast.specs.Nets.{shape as v_shape}
use Rattle.ver_ast.specs.AtomValues.{atom_value}
use Rattle.ver_ast.specs.Settled.{Rest}
use Rattle.ver_ast.specs.Allows.{VAllows, VOne}
use Rattle.ver_build.specs.declared.places.Places.{Places}
use Rattle.ver_build.specs.working.Operands.{atom_at}
use Rattle.ver_build.specs.working.Places.{held_of}
use Rattle.ver_build.specs.working.Blocks.{reset_net}
use Rattle.ver_build.proofs.ArrayWords.{regs_once}
use Rattle.ver_build.proofs.WordsWritten.{next_from}
use Rattle.ver_build.proofs.NextArrays.{arrays_same, arrays_within}
use Rattle.ver_ast.specs.Next.{v_next}
use Rattle.ver_build.proofs.Premises.{Premises}
use Rattle.ver_build.proofs.Parts.{in_parts}
use Rattle.ver_build.proofs.Nets.{sizes}
use Rattle.ver_build.proofs.Words.{IsWord}
use Rattle.ver_build.proofs.ReadsStand.{read_of, word_reset}
use Rattle.ver_build.proofs.LeafValues.{AgreesLeaves, outputs_same}
use Rattle.ver_build.proofs.NextStates.{Agrees, states_same}
use Rattle.ver_build.proofs.ClocksShown.{outputs_shown}
use Rattle.ver_build.proofs.NodeValues.{leaf_values}
use Rattle.ver_build.proofs.NetSettled.{leaf_clocks, agrees, source_value, agree, reset_value, net_settled, tree_settled}

module _ (net : FlatNet) (t : NameTable) (p : Places) (order : List Read) (is : Premises net t p order) (valid : Valid (in_parts net t p order))
    (shapes : v_shape (in_parts net t p order) ≡ net_shape net) where
  pub parts_one : VOne (in_parts net t p order)
  parts_one state tick shaped =
      let one = is.laws.one_rest (in_parts net t p order) valid state tick shaped in
      record {
        env = one.env;
        settled = tree_settled net t p order is state tick one.env one.rest;
        same = λ e f a b. one.same e f a.rest b.rest;
        same_clocks = λ e f a b. one.same_clocks e f a.rest b.rest;
      }

  module _ (state : List ℕ) (tick : Tick) where
    -- the state after the tick, from a choice of the net that agrees with values at rest in the tree
    next_given : (f : Env) → (rest : Rest (in_parts net t p order) state tick f) → (e : ℕ → ℕ) (clock : ℕ → Option ℕ) → Agrees net t p order e clock f
        → ((r : Read) → CanRead net.leaves net.nodes r → value_at net e r ≡ value_at net (leaf_values p f) r)
        → v_next (in_parts net t p order) state tick f ≡ Some (next net state e clock tick)
    next_given f rest e clock agree values =
        next_from net t p order is state (regs_once net t p order is) rest.begins.shaped.state_fits tick f
        (arrays_within net t p order is state tick f rest e clock values agree.clocks)
        ∙ ap Some
        (ap₂ (λ (xs ys : List ℕ). xs ++ ys) (states_same net t p order is state tick f rest e clock agree)
        (arrays_same net t p order is state tick f rest e clock values agree.clocks))

    to_net : (shown : List ℕ) (clocks : List (Option ℕ)) (after : List ℕ) → VAllows (in_parts net t p order) state tick shown clocks after
        → NetAllows net state tick shown clocks after
    to_net shown clocks after a =
        let f = a.0 in
        let rest = a.1.rest in (
          leaf_values p f,
          leaf_clocks t p f,
          net_settled net t p order is state tick f rest shapes,
          sym (outputs_same net t p order is (leaf_values p f) (leaf_clocks t p f) f (agrees net t p order is state tick f rest)) ∙ a.2,
          sym (outputs_shown net t p order is state tick f rest (leaf_clocks t p f) (λ k l at ticking. refl)) ∙ a.3,
          same_Some _ _ (sym (next_given f rest (leaf_values p f) (leaf_clocks t p f) (agree net t p order is state tick f rest) (λ r can. refl)) ∙ a.4),
        )

    -- a choice of the net, beside the tree's
    module _ (e : ℕ → ℕ) (clock : ℕ → Option ℕ) (settled : Settled net state tick e clock) (f : Env)
        (rest : Rest (in_parts net t p order) state tick f) where
      one : HasOne net state tick
      one = is.laws.one_choice net order is.whole is.ordered state tick settled.shaped

      held : Settled net state tick (leaf_values p f) (leaf_clocks t p f)
      held = net_settled net t p order is state tick f rest shapes

      same_value : (k : ℕ) (l : Leaf) → slice_get net.leaves k ≡ Some l → is_clock l.role ≡ false → leaf_values p f k ≡ e k
      same_value k l at plain = one.same (leaf_values p f) e (leaf_clocks t p f) clock held settled k l at plain

      same_clock : (k : ℕ) (l : Leaf) → slice_get net.leaves k ≡ Some l → is_clock l.role ≡ true → clock k ≡ leaf_clocks t p f k
      same_clock k l at ticking = one.same_clocks e (leaf_values p f) clock (leaf_clocks t p f) settled held k l at ticking

      agrees_too : AgreesLeaves net t e clock f
      agrees_too =
          let a = agrees net t p order is state tick f rest in
          record {
            value = λ k l n at plain named. a.value k l n at plain named ∙ same_value k l at plain;
            number = λ k l n at same named. a.number k l n at same named ∙ sym (same_clock k l at (ap is_clock same));
          }

      -- what can be read has the same value
      same_read : (r : Read) → CanRead net.leaves net.nodes r → value_at net (leaf_values p f) r ≡ value_at net e r
      same_read r can =
          let place = is.ordered.all r (read_of net r can) in
          let same : SameBefore order (IsPlain net) (length order) (leaf_values p f) e =
          record { each = λ i k less at plain. same_value k plain.leaf plain.at plain.plain } in
          values_agree net is.whole order is.ordered (leaf_values p f) e (length order) same (length order) place.0 r
          (slice_get_within order place.0 r place.1) (omega arith) place.1 can

      source_too : (r : Read) → CanRead net.leaves net.nodes r → (w : ℕ) → 1 ≤ w → w ≤ 128
          → atom_value (sizes net t p order) f (atom_at w (held_of p r)) ≡ at_width (value_at net e r) w
      source_too r can w some narrow = source_value net t p order is state tick f rest r can w some narrow ∙ ap (λ v. at_width v w) (same_read r can)

      reset_too : (k : ℕ) → In net.state k → (w : IsWord net t k) → (r : Reset) → w.own.reset ≡ Some r
          → f (reset_net p k r) ≡ (value_at net e r.condition).value.number
      reset_too k m w r has =
          reset_value net t p order is state tick f rest k m w r has
          ∙ ap (λ (v : Num). v.value.number) (same_read r.condition (word_reset net t p order is k w r has).condition)

      agree_too : Agrees net t p order e clock f
      agree_too = record { leaves = agrees_too; clocks = same_clock; sources = source_too; resets = reset_too }

      next_too : v_next (in_parts net t p order) state tick f ≡ Some (next net state e clock tick)
      next_too = next_given f rest e clock agree_too (λ r can. sym (same_read r can))

    to_tree : (shown : List ℕ) (clocks : List (Option ℕ)) (after : List ℕ) → NetAllows net state tick shown clocks after
        → VAllows (in_parts net t p order) state tick shown clocks after
    to_tree shown clocks after a =
        let shaped = subst (λ (s : Shape). HasShape s state tick) (sym shapes) a.2.shaped in
        let at_rest = is.laws.one_rest (in_parts net t p order) valid state tick shaped in
        let f = at_rest.env in (
          f,
          tree_settled net t p order is state tick f at_rest.rest,
          outputs_same net t p order is a.0 a.1 f (agrees_too a.0 a.1 a.2 f at_rest.rest) ∙ a.3,
          outputs_shown net t p order is state tick f at_rest.rest a.1 (same_clock a.0 a.1 a.2 f at_rest.rest) ∙ a.4,
          next_too a.0 a.1 a.2 f at_rest.rest ∙ ap Some a.5,
        )

  pub parts_allow : (state : List ℕ) (tick : Tick) (shown : List ℕ) (clocks : List (Option ℕ)) (after : List ℕ)
      → VAllows (in_parts net t p order) state tick shown clocks after ↔ NetAllows net state tick shown clocks after
  parts_allow state tick shown clocks after = (to_net state tick shown clocks after, to_tree state tick shown clocks after)
