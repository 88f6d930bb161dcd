-- What is stored at a leaf is given by a statement that is live for it.
use Rattle.std.proofs.Common.{◌≡◌, ℕ, [], Option, Some, None, option_map, refl, sym, ◌∙◌}
use Rattle.std.proofs.lemmas.Option.{same_Some}
use Rattle.fir_base.specs.Lists.{In}
use Rattle.fir_meaning.specs.working.Terms.{Term}
use Rattle.fir_meaning.specs.working.TermValues.{Holds}
use Rattle.fir_meaning.specs.working.LeafBlocks.{LeafBlock, exec_all, nothing_stored}
use Rattle.fir_meaning.specs.working.Choices.{Choice, Live, last_all, lives_all}
use Rattle.fir_leaf.specs.working.ValueChoices.{choice_of_all}
use Rattle.fir_leaf.proofs.LiveStores.{stored_is_live}
use Rattle.fir_leaf.proofs.LiveStatements.{live_all}

pub record FromLive {V : Type 0} (given : ℕ → Term → V) (depth x : ℕ) (b : LeafBlock) (v : V) : Type 0 where
  pub live : Live
  pub among : In (lives_all depth x b 0) live
  pub gives : given x live.given ≡ v

from_last : {V : Type 0} (given : ℕ → Term → V) (depth x : ℕ) (b : LeafBlock) (v : V) (f : Choice) (o : Option Live)
    → last_all depth x b 0 f ≡ o → option_map (λ l. given x l.given) o ≡ Some v → FromLive given depth x b v
from_last given depth x b v f None e q = absurd cc
from_last given depth x b v f (Some l) e q = record { live = l; among = live_all depth x b 0 f l e; gives = same_Some (given x l.given) v q }

pub from_live : {V : Type 0} → (holds : Holds) (depth numbers : ℕ → ℕ) (given : ℕ → Term → V) (x : ℕ) (b : LeafBlock) (v : V)
    → exec_all holds depth numbers given b [] nothing_stored x ≡ Some v → FromLive given (depth x) x b v
from_live {V = V} holds depth numbers given x b v e =
    let choice = choice_of_all holds numbers x b in
    from_last given (depth x) x b v choice (last_all (depth x) x b 0 choice) refl (sym (stored_is_live V holds depth numbers given x b) ∙ e)
