-- The registers of the tree without an asynchronous block are the words without a reset.
use Rattle.std.proofs.Common.{◌≡◌, ℕ, List, Bool, true, false, not, map, ap, ◌∙◌, ⊎_elim, subst, None}
use Rattle.std.specs.Option.{is_some}
use Rattle.fir_base.specs.Lists.{In}
use Rattle.fir_base.specs.Words.{is_among}
use Rattle.fir_net.specs.declared.reads.Read.{Read}
use Rattle.fir_net.specs.declared.leaf.Role.{Role}
use Rattle.fir_net.specs.declared.leaf.Role.TheVariants as role
use Rattle.fir_net.specs.declared.net.FlatNet.{FlatNet}
use Rattle.fir_net_names.specs.declared.name_table.NameTable.{NameTable}
use Rattle.ver_ast.specs.declared.tree.Resetting.{Resetting}
use Rattle.ver_ast.specs.Nets.{SizedNet, plain_regs, regs, reset_targets}
use Rattle.ver_ast.proofs.Chosen.{choose, in_or_not}
use Rattle.ver_build.specs.declared.places.Places.{Places}
use Rattle.ver_build.proofs.Premises.{Premises}
use Rattle.ver_build.proofs.OrderedLeaves.{ordered_names, ordered_leaves, ordered_once, ordered_picked}
use Rattle.ver_build.proofs.Parts.{in_parts}
use Rattle.ver_build.proofs.LeafKinds.{is_reset, picked}
use Rattle.ver_build.proofs.Picked.{picked_apart}
use Rattle.ver_build.proofs.InnerNames.{not_true}
use Rattle.ver_build.proofs.Nets.{resets_are}
use Rattle.ver_build.proofs.Driven.{reset_targets_are}
use Rattle.ver_build.proofs.Words.{IsWord}
use Rattle.ver_build.proofs.Blocks.{registered}

-- a register without a reset
abbrev pub is_plain : Role → Bool
is_plain (role.Register r) = not (is_some r.reset)
is_plain _ = false

plain_no_reset : (r : Role) → is_plain r ≡ true → is_reset r ≡ true → ⊥
plain_no_reset (role.Register r) e h = not_true (is_some r.reset) e h
plain_no_reset _ e h = absurd (cc)

module _ (net : FlatNet) (t : NameTable) (p : Places) (order : List Read) (is : Premises net t p order) where
  pub reset_targets_of : reset_targets (in_parts net t p order) ≡ picked is_reset (ordered_names net t) (ordered_leaves net)
  reset_targets_of = ap (map (λ (b : Resetting). b.target)) (resets_are net t p order) ∙ reset_targets_are net t p order is.whole is.table is.pipes

  pub plain_in : (k : ℕ) (w : IsWord net t k) → w.own.reset ≡ None → In (plain_regs (in_parts net t p order)) (w.name, w.leaf.width)
  plain_in k w none =
      choose (λ (r : SizedNet). not (is_among (reset_targets (in_parts net t p order)) r.0)) (regs (in_parts net t p order)) (w.name, w.leaf.width)
      (registered net t p order is k w)
      (⊎_elim
      (λ (m : In (reset_targets (in_parts net t p order)) w.name). absurd (other m))
      (λ (e : is_among (reset_targets (in_parts net t p order)) w.name ≡ false). ap not e)
      (in_or_not (reset_targets (in_parts net t p order)) w.name))
    where
      plain : is_plain w.leaf.role ≡ true
      plain = ap is_plain w.register ∙ ap (λ o. not (is_some o)) none

      other : In (reset_targets (in_parts net t p order)) w.name → ⊥
      other m =
          picked_apart is_plain is_reset plain_no_reset (ordered_names net t) (ordered_leaves net) (ordered_once net t is.whole is.table) w.name
          (ordered_picked net t is.whole is.table is_plain k w.leaf w.name w.at plain w.named)
          (subst (λ (ns : List (List ℕ)). In ns w.name) reset_targets_of m)
