-- What drives the leaves of a module, by the walk over its statements.
use Rattle.std.proofs.Common.{◌≡◌, ℕ, ◌≤◌, Bool, List, [], length, sym, ◌∙◌, subst}
use Rattle.fir_bits.specs.Forms.{no_type}
use Rattle.fir_meaning.specs.working.LeafBlocks.{LeafBlock}
use Rattle.fir_meaning.specs.working.TermValues.{Holds}
use Rattle.fir_leaf.specs.working.Nodes.{entries}
use Rattle.fir_connect.specs.working.Drivers.{start}
use Rattle.fir_connect.specs.working.Lowered.{zero_of}
use Rattle.fir_connect.specs.working.LoweredLaws.{types_of}
use Rattle.fir_driven.specs.working.Covering.{flag_at}
use Rattle.fir_net.specs.declared.node.Node.{Node}
use Rattle.fir_merge.specs.declared.bound.Bound.{Bound}
use Rattle.fir_merge.specs.working.Bounds.{ZeroStands, types_in}
use Rattle.fir_merge.specs.working.NodeTerms.{Grows}
use Rattle.fir_merge.proofs.GrownTerms.{grows_more}
use Rattle.fir_merge.proofs.StandingValues.{stands_later}
use Rattle.fir_drivers.specs.declared.setting.Setting.{Setting}
use Rattle.fir_drivers.specs.working.Drivers.{AreDrivers, StartsStand}
use Rattle.fir_drivers.specs.working.Slots.{SlotStands}
use Rattle.fir_drivers.specs.working.TargetLists.{StacksBlock}
use Rattle.fir_drivers.specs.working.Walks.{IsSet, WalksBlock}
use Rattle.fir_drivers.proofs.LaterSettings.{entries_later}

pub are_drivers : (s : Setting) (registers : List Bool) (b : LeafBlock) (net one two new : List Node) (slots last : List Bound) (lists after : List (List ℕ))
    → Grows net one → Grows one two → ZeroStands one no_type s.nothing.now → StartsStand s.types.now registers two slots
    → StacksBlock s.depths.now b 0 [] lists → length last ≡ length slots → WalksBlock s b 0 two new slots last lists after
    → AreDrivers s.types.now s.depths.now registers s.nodes.now s.bounds.now b net new last
are_drivers s registers b net one two new slots last lists after to_one to_two nothing starts stacks long walks = (
  long ∙ starts.0,
  λ held x types narrow depths stand typed lt.
      let set : IsSet held s two = record {
        types = types;
        narrow = narrow;
        entries = entries_later (types_of held) net two s.bounds.now (entries s.nodes.now) (grows_more net one two to_one to_two) stand;
        nothing = stands_later (types_of held) one two s.nothing.now (zero_of no_type) to_two (nothing (types_of held));
      } in
      let walk = walks held [] set typed (starts.0 ∙ sym depths) stacks in
      let all_narrow : (y : ℕ) → (types_in s.types.now y).width ≤ 128 = λ y. subst (λ (f : Holds). (f y).width ≤ 128) (sym types) (narrow y) in
      let begun = starts.1 x all_narrow lt in
      walk.1.each x _ (subst (λ (f : Holds). SlotStands f two slots x (start f (flag_at registers x) x)) types begun),
)
